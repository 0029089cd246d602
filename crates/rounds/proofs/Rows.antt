-- An award's row has, under the number of each open band, what the band is sold.
use Rattle.std.proofs.Common.{◌≡◌, ℕ, suc, ◌-◌, ◌<◌, List, [], ◌∷◌, map, length, get_or, refl, ap₂, arith}
use Rattle.clearing.specs.Lawful.{View, filled_sales}
use Rattle.clearing.specs.Ranges.{band_fits}
use Rattle.clearing.specs.Sales.{filled}
use Rattle.clearing.proofs.Fits.{each_getD, open_ranges}
use Rattle.clearing.proofs.Held.{no_band}
use Rattle.clearing.specs.Ranged.{Ranged}
use Rattle.clearing.proofs.Served.{sale_at}
use Rattle.rounds.specs.Model.{supplies, sold_row}

-- a map of elements that both take to the same
map_same : {X Y : Type 0} (f g : X → Y) (xs : List X) (d : X) → ((i : ℕ) → i < length xs → f (get_or xs i d) ≡ g (get_or xs i d)) → map f xs ≡ map g xs
map_same f g [] d same = refl
map_same f g (x ∷ xs) d same = ap₂ (λ y ys. y ∷ ys) (same 0 (omega arith)) (map_same f g xs d (λ i inside. same (suc i) (omega arith)))

-- so the row has the sales that fill the bands
pub sales_of_row : (v : View) (choice : ℕ) → Ranged v → map (λ b. get_or (sold_row v choice) (b.number - 1) 0) v.bands ≡ filled_sales v choice
sales_of_row v choice ranged =
    let amounts = supplies v choice in
    map_same (λ b. get_or (sold_row v choice) (b.number - 1) 0) (filled amounts) v.bands no_band
    (λ i inside.
    let r = open_ranges (get_or v.bands i no_band) (each_getD band_fits v.bands i no_band inside ranged.bands) in
    sale_at amounts v.bands i no_band ranged.order.numbers inside r.number_least r.number)
