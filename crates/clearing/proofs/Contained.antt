-- What is among the open records of a register: what its numbers are open with, and nothing else.
use Rattle.std.proofs.Common.{◌≡◌, ℕ, zero, suc, ◌+◌, ◌-◌, ◌⊎◌, ◌↔◌, List, [], ◌∷◌, map, get_or, Contains, refl, ap, subst, inl, inr, ⊎_elim, arith}
use Rattle.offers.specs.declared.records.Band.{Band}
use Rattle.offers.specs.declared.registers.Entry.{Entry}
use Rattle.offers.specs.declared.registers.Entry.TheVariants.{Vacant, Open, Withdrawn}
use Rattle.clearing.specs.Bands.{Numbered, offered}
use Rattle.clearing.specs.Closing.{OpenWith, open_from, open_records, open_bands}
use Rattle.clearing.proofs.Openings.{offered_bands}

module _ {X : Type 0} (x y : X) (xs : List X) where
  -- what is in a list with one more in front is that one, or in the rest
  pub first_or_later : Contains (y ∷ xs) x → (y ≡ x) ⊎ Contains xs x
  first_or_later (zero, within, is) = inl is
  first_or_later (suc k, within, is) = inr (k, omega arith, is)

  pub first_in : y ≡ x → Contains (y ∷ xs) x
  first_in is = (zero, omega arith, is)

  pub later_in : Contains xs x → Contains (y ∷ xs) x
  later_in (k, within, is) = (suc k, omega arith, is)

module _ {X Y : Type 0} (f : X → Y) where
  -- what a function makes of an element is among what it makes of a list
  pub mapped : (x : X) (xs : List X) → Contains xs x → Contains (map f xs) (f x)
  mapped x [] there = absurd (omega (arith, there.1))
  mapped x (y ∷ xs) there =
      ⊎_elim (λ is. first_in (f x) (f y) (map f xs) (ap f is)) (λ later. later_in (f x) (f y) (map f xs) (mapped x xs later)) (first_or_later x y xs there)

  -- and nothing else is
  pub made_from : (z : Y) (xs : List X) → Contains (map f xs) z → (x : X) × Contains xs x × (f x ≡ z)
  made_from z [] there = absurd (omega (arith, there.1))
  made_from z (y ∷ xs) there =
      ⊎_elim
      (λ is. (y, first_in y y xs refl, is))
      (λ later. let made = made_from z xs later in (made.0, later_in made.0 y xs made.1, made.2))
      (first_or_later z (f y) (map f xs) there)

module _ {R : Type 0} where
  -- an offer stands open among entries whose first one has number n
  abbrev StandsFrom : ℕ → List (Entry R) → Numbered R → Type 0
  StandsFrom n es o = (i : ℕ) × (n + i ≡ o.number) × (get_or es i Vacant ≡ Open o.terms)

  -- or with one entry more in front
  stands_later : (n : ℕ) (e : Entry R) (es : List (Entry R)) (o : Numbered R) → StandsFrom (n + 1) es o → StandsFrom n (e ∷ es) o
  stands_later n e es o (i, at, is) = (suc i, omega arith, is)

  -- each open record stands so
  stands : (n : ℕ) (es : List (Entry R)) (o : Numbered R) → Contains (open_from n es) o → StandsFrom n es o
  stands n [] o there = absurd (omega (arith, there.1))
  stands n (Vacant ∷ es) o there = stands_later n Vacant es o (stands (n + 1) es o there)
  stands n (Open r ∷ es) o there =
      ⊎_elim
      (λ is. (0, let same = ap (λ p. p.number) is in omega arith, ap (λ p. Open p.terms) is))
      (λ later. stands_later n (Open r) es o (stands (n + 1) es o later))
      (first_or_later o (record { number = n; terms = r }) (open_from (n + 1) es) there)
  stands n (Withdrawn r ∷ es) o there = stands_later n (Withdrawn r) es o (stands (n + 1) es o there)

  -- and what stands so is an open record
  standing_in : (n : ℕ) (es : List (Entry R)) (o : Numbered R) (i : ℕ) → n + i ≡ o.number → get_or es i Vacant ≡ Open o.terms → Contains (open_from n es) o
  standing_in n [] o i at is = absurd (cc)
  standing_in n (Vacant ∷ es) o zero at is = absurd (cc)
  standing_in n (Vacant ∷ es) o (suc i) at is = standing_in (n + 1) es o i (omega arith) is
  standing_in n (Open r ∷ es) o zero at is =
      let number : n ≡ o.number = omega arith in
      let of : r ≡ o.terms = cc in
      first_in o (record { number = n; terms = r }) (open_from (n + 1) es) (λ j. record { number = number j; terms = of j })
  standing_in n (Open r ∷ es) o (suc i) at is =
      later_in o (record { number = n; terms = r }) (open_from (n + 1) es) (standing_in (n + 1) es o i (omega arith) is)
  standing_in n (Withdrawn r ∷ es) o zero at is = absurd (cc)
  standing_in n (Withdrawn r ∷ es) o (suc i) at is = standing_in (n + 1) es o i (omega arith) is

  -- an offer is among the open records of a register exactly if its number is open with its record
  pub among_open : (es : List (Entry R)) (o : Numbered R) → Contains (open_from 1 es) o ↔ OpenWith es o.number o.terms
  among_open es o = (
    λ there.
        let (i, at, is) = stands 1 es o there in
        (omega arith, subst (λ (k : ℕ). get_or es k Vacant ≡ Open o.terms) (omega arith) is),
    λ open_there. standing_in 1 es o (o.number - 1) (omega arith) open_there.1,
  )

  -- a record is exactly if some number is open with it
  pub record_among_open : (es : List (Entry R)) (r : R) → Contains (open_records es) r ↔ ((n : ℕ) × OpenWith es n r)
  record_among_open es r = (
    λ there.
        let made = made_from (λ o. o.terms) r (open_from 1 es) there in
        (made.0.number, subst (OpenWith es made.0.number) made.2 ((among_open es made.0).0 made.1)),
    λ some.
        let o : Numbered R = record { number = some.0; terms = r } in
        mapped (λ o. o.terms) o (open_from 1 es) ((among_open es o).1 some.1),
  )

-- a band is among the open bands, as they were offered, exactly if its number is open with its record
pub band_among_open : (es : List (Entry Band)) (b : Numbered Band) → Contains (map offered (open_bands es)) b ↔ OpenWith es b.number b.terms
band_among_open es b = rw (offered_bands es) (among_open es b)
