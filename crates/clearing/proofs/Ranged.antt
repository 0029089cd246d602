-- With any sales a choice is worth at most what it is with filled ones.
use Rattle.std.proofs.Common.{ℕ, List, ◌≤ℤ◌, arith}
use Rattle.std.proofs.lemmas.Int.{ints}
use Rattle.clearing.specs.Lawful.{View, Lawful, surplus, filled_sales}
use Rattle.clearing.specs.Ranged.{Ranged}
use Rattle.clearing.proofs.Filling.{best-filled, parts_of_one}

pub filled-most : (v : View) → Ranged v → (choice : ℕ) (sales : List ℕ) → Lawful v choice sales → surplus v choice sales ≤ℤ surplus v choice (filled_sales v choice)
filled-most v ranged choice sales lawful =
    let best = best-filled v choice ranged.order ranged.bands in
    let parts = parts_of_one v.bands sales lawful.within_quantities in
    let more = best.most 1 (omega arith) sales parts (λ m. omega (arith, lawful.within_supply m)) in
    omega (arith, ints, more)
