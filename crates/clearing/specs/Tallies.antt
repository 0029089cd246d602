-- What the taken packages come to, set out as the code holds it.
use Rattle.clearing.specs.Ranges.{at_most, MOST_SUPPLY}
use Rattle.std.specs.List.{range_with_len}
use Rattle.std.specs.Prelude.{◌≡◌, ℕ, ◌+◌, true, List, [], ◌∷◌, pos, ◌+ℤ◌, ◌≤ℤ◌, slice_set, map, neg_ℤ, ◌-◌, ◌*◌}
use Rattle.clearing.specs.declared.dockets.PricedPackage.{PricedPackage}
use Rattle.clearing.specs.declared.tallies.Tally.{Tally}
use Rattle.clearing.specs.Choices.{supply, dated, nameplates, exports, cost, has_number}

-- f n, f (n + 1) and so on, as many as asked for
abbrev pub row : {X : Type 0} → (ℕ → X) → ℕ → ℕ → List X
row f n count = map f (range_with_len n count)

abbrev pub tally_of : List PricedPackage → Tally
tally_of ps = record {
  takes = row (λ n. has_number n ps) 0 41;
  supply = row (λ m. supply m ps) 1 5;
  before = row (λ m. dated 1 m ps) 1 5;
  after = row (λ m. dated 2 m ps) 1 5;
  nameplate = row (λ z. nameplates z ps) 1 16;
  export = row (λ z. exports z ps) 1 16;
  cost = cost ps;
}

-- two rows added place by place
abbrev pub plus : List ℕ → List ℕ → List ℕ
plus [] ys = []
plus (x ∷ xs) [] = []
plus (x ∷ xs) (y ∷ ys) = (x + y) ∷ plus xs ys

-- a tally with one package more
abbrev pub added : Tally → PricedPackage → Tally
added t p = record {
  takes = slice_set t.takes p.number true;
  supply = plus t.supply (tally_of (p ∷ [])).supply;
  before = plus t.before (tally_of (p ∷ [])).before;
  after = plus t.after (tally_of (p ∷ [])).after;
  nameplate = plus t.nameplate (tally_of (p ∷ [])).nameplate;
  export = plus t.export (tally_of (p ∷ [])).export;
  cost = t.cost +ℤ p.price;
}

-- one package more can be added with no overflow: at most 39 are in already
pub record Room (t : Tally) : Type 0 where
  pub supply : at_most (MOST_SUPPLY - 10000000) t.supply ≡ true
  pub before : at_most (MOST_SUPPLY - 10000000) t.before ≡ true
  pub after : at_most (MOST_SUPPLY - 10000000) t.after ≡ true
  pub nameplate : at_most (MOST_SUPPLY - 10000000) t.nameplate ≡ true
  pub export : at_most (MOST_SUPPLY - 10000000) t.export ≡ true
  pub low : neg_ℤ (pos (39 * 20000000000)) ≤ℤ t.cost
  pub high : t.cost ≤ℤ pos (39 * 20000000000)
