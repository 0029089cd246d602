-- The order in which bands are served, and that a supply which fills them in this order fills each front of it.
use Rattle.std.proofs.Common.{◌≡◌, ℕ, ◌+◌, ◌-◌, ◌<◌, ◌≤◌, min, Bool, true, false, ◌&&◌, eqb, ltb, leb, List, [], ◌∷◌, map, ⊎_elim, arith, cond}
use Rattle.std.specs.List.{AllByRecursion as Every}
use Rattle.std.proofs.ByRecursion.{All-weaker}
use Rattle.std.proofs.lemmas.Bool.{and_parts, ltb-true, cases_Bool}
use Rattle.std.proofs.lemmas.Bool.Decides.{nat_tests}
use Rattle.clearing.specs.declared.dockets.OpenBand.{OpenBand}
use Rattle.clearing.specs.Bands.{offered, comes_ahead, rises_from}
use Rattle.clearing.specs.Choices.{total}
use Rattle.clearing.proofs.FillingSums.{all_of, total-same, total-pairs, total-less, wanted}

-- a band is served before another
abbrev pub comes : OpenBand → OpenBand → Bool
comes a b = comes_ahead (offered a) (offered b)

-- A test tells a front of one market's bands: with each band it holds of those that are served before it.
pub record Front (front : OpenBand → Bool) : Type 0 where
  pub closed : (a b : OpenBand) → comes a b ≡ true → front b ≡ true → front a ≡ true
  pub one_market : (a b : OpenBand) → front a ≡ true → front b ≡ true → a.terms.market ≡ b.terms.market

-- a band is of a market and has at least a price
abbrev pub at_least : ℕ → ℕ → OpenBand → Bool
at_least m p b = eqb b.terms.market m && leb p b.terms.price

-- such bands are a front, since a band of a higher price is served first
pub at_least-front : (m p : ℕ) → Front (at_least m p)
at_least-front m p = record {
  closed = λ a b ab fb. grind (arith, nat_tests);
  one_market = λ a b fa fb. grind (arith, nat_tests);
}

-- so are the bands that are served before a band
ahead-front : (c : OpenBand) → Front (λ b. comes b c)
ahead-front c = record {
  closed = λ a b ab bc. grind (arith, nat_tests);
  one_market = λ a b ac bc. grind (arith, nat_tests);
}

-- no band is served before itself
not_itself : (a : OpenBand) → comes a a ≡ false
not_itself a = grind (arith, nat_tests)

-- of two bands not each is served before the other
served_once : (a b : OpenBand) → comes b a ≡ true → comes a b ≡ false
served_once a b ahead = grind (arith, nat_tests)

-- of two bands of a market one is served before the other, since their numbers differ
served_first : (a b : OpenBand) → a.number < b.number → a.terms.market ≡ b.terms.market → comes b a ≡ false → comes a b ≡ true
served_first a b h same behind = grind (arith, nat_tests)

-- rising numbers are all greater than the one before them
rises-above : (low least : ℕ) (bs : List OpenBand) → least ≤ low → rises_from low (map (λ b. b.number) bs) ≡ true → Every (λ b. least < b.number) bs
rises-above low least [] h e = tt
rises-above low least (b ∷ bs) h e =
    let parts = and_parts (ltb low b.number) _ e in
    let more = ltb-true low b.number parts.0 in
    (omega arith, rises-above b.number least bs (omega arith) parts.1)

-- what a band is sold of a supply: what the bands before it leave, up to its quantity
abbrev pub share : ℕ → List OpenBand → OpenBand → ℕ
share s bs b = min (s - wanted (λ a. comes a b) bs) b.terms.quantity

-- what the bands of a front are sold, where all the bands may be more than those that are summed
abbrev shares : (OpenBand → Bool) → ℕ → List OpenBand → List OpenBand → ℕ
shares front s all bs = total (λ b. cond (front b) (share s all b) 0) bs

-- what another band of quantity q changes for a band: nothing where this one stands ahead of it; else, in a front of both, it is sold as of a supply smaller by q
moved : (front behind ahead : Bool) (s q a n : ℕ) → (ahead ≡ true → (front ≡ true) × (behind ≡ false)) → (front ≡ true → ahead ≡ false → behind ≡ true)
    → cond front (min (s - (cond behind q 0 + a)) n) 0 + cond ahead (min (s - q - a) n) 0 ≡ cond ahead (min (s - a) n) 0 + cond front (min (s - q - a) n) 0
moved front behind ahead s q a n first last = grind arith

-- it changes nothing for a band that does not stand behind it
unmoved : (front behind : Bool) (s q a n : ℕ) → (front ≡ true → behind ≡ false) → cond front (min (s - (cond behind q 0 + a)) n) 0 ≡ cond front (min (s - a) n) 0
unmoved front behind s q a n first = grind arith

module _ (front : OpenBand → Bool) (ok : Front front) (x : OpenBand) (bs : List OpenBand) where
  -- a front with x in it: what stands ahead of x is sold as without x, the rest as of a supply smaller by what x takes
  shares_moved : (s : ℕ) → front x ≡ true → Every (λ b. x.number < b.number) bs
      → shares front s (x ∷ bs) bs + shares (λ b. comes b x) (s - x.terms.quantity) bs bs ≡ shares (λ b. comes b x) s bs bs + shares front (s - x.terms.quantity) bs bs
  shares_moved s fx later =
      total-pairs _ _ _ _ bs (All-weaker _ _ (λ b h. moved (front b) (comes x b) (comes b x) s _ _ _ (λ bx. (ok.closed b x bx fx, served_once x b bx)) (λ fb. served_first x b h (ok.one_market x b fx fb))) bs later)

  -- a front without x is sold as if x were not there
  shares_unmoved : (s : ℕ) → front x ≡ false → shares front s (x ∷ bs) bs ≡ shares front s bs bs
  shares_unmoved s fx =
      let ahead : (b : OpenBand) → front b ≡ true → comes x b ≡ false = λ b fb. let closed = ok.closed x b in grind arith in
      total-same _ _ bs (all_of _ (λ b. unmoved (front b) (comes x b) s _ _ _ (ahead b)) bs)

  -- no more is wanted ahead of a band of a front than in the front
  ahead-wanted : front x ≡ true → wanted (λ b. comes b x) bs ≤ wanted front bs
  ahead-wanted fx = total-less _ _ bs (λ b. let closed = ok.closed b x in grind arith)

-- a front is sold as much as it wants, or the whole supply: by what stands ahead of the list's first band and what stands behind it
pub front-filled : (front : OpenBand → Bool) → Front front → (s low : ℕ) (bs : List OpenBand) → rises_from low (map (λ b. b.number) bs) ≡ true
    → shares front s bs bs ≡ min s (wanted front bs)
front-filled front ok s low [] rise = omega arith
front-filled front ok s low (x ∷ bs) rise =
    let later = (and_parts (ltb low x.number) _ rise).1 in
    let above = rises-above x.number x.number bs (omega arith) later in
    let left = s - x.terms.quantity in
    let rest = λ (f : OpenBand → Bool) (k : Front f) (n : ℕ). front-filled f k n x.number bs later in
    let first = rest (λ b. comes b x) (ahead-front x) in
    ⊎_elim
    (λ (fx : front x ≡ true). rw (fx, not_itself x) (omega (arith, shares_moved front ok x bs s fx above, ahead-wanted front ok x bs fx, first s, first left, rest front ok left)))
    (λ (fx : front x ≡ false). rw fx (omega (arith, shares_unmoved front ok x bs s fx, rest front ok s)))
    (cases_Bool (front x))
