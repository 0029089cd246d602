-- What choices supply to each market.
use Rattle.std.specs.List.{list_all}
use Rattle.std.proofs.Common.{◌≡◌, ℕ, true, leb, List}

-- no more than 40 packages can
abbrev pub Few : List ℕ → Type 0
Few supplies = list_all (λ n. leb n 400000000) supplies ≡ true
