-- The open records of a register: one entry after another, with rising numbers, and the bands ahead of each.
use Rattle.std.proofs.Common.{◌≡◌, ℕ, ◌+◌, ◌<◌, true, ◌&&◌, ◌||◌, eqb, ltb, List, [], ◌∷◌, ◌++◌, map, length, get_or, take, sym, refl, ap, ◌∙◌, add-zero, add_comm, arith, cond}
use Rattle.std.proofs.lemmas.List.{take_more, length-take-le, append-nil, map-id}
use Rattle.std.proofs.lemmas.Bool.{and_from, lt-ltb}
use Rattle.std.proofs.lemmas.Bool.Decides.{nat_tests}
use Rattle.offers.specs.declared.records.Band.{Band}
use Rattle.offers.specs.declared.registers.Entry.{Entry}
use Rattle.offers.specs.declared.registers.Entry.TheVariants.{Vacant, Open, Withdrawn}
use Rattle.clearing.specs.declared.dockets.OpenBand.{OpenBand}
use Rattle.clearing.specs.Bands.{Numbered, offered, comes_ahead, ahead_of, rises_from, rising, aheads, true_aheads}
use Rattle.clearing.specs.Closing.{open_from, open_bands}
use Rattle.clearing.proofs.Totals.{total-append}

-- a function over a list that another function made
pub map-map : {X Y Z : Type 0} (f : Y → Z) (g : X → Y) (xs : List X) → map f (map g xs) ≡ map (λ x. f (g x)) xs
map-map f g [] = refl
map-map f g (x ∷ xs) = ap (λ zs. f (g x) ∷ zs) (map-map f g xs)

-- the open records of two registers, one after the other
open_append : {R : Type 0} (n : ℕ) (es fs : List (Entry R)) → open_from n (es ++ fs) ≡ open_from n es ++ open_from (n + length es) fs
open_append n [] fs = ap (λ m. open_from m fs) (sym (add-zero n))
open_append n (Vacant ∷ es) fs =
    let past : n + 1 + length es ≡ n + length (Vacant ∷ es) = omega arith in
    open_append (n + 1) es fs ∙ ap (λ m. open_from (n + 1) es ++ open_from m fs) past
open_append n (Open r ∷ es) fs =
    let past : n + 1 + length es ≡ n + length (Open r ∷ es) = omega arith in
    ap (λ rs. record { number = n; terms = r } ∷ rs)
    (open_append (n + 1) es fs ∙ ap (λ m. open_from (n + 1) es ++ open_from m fs) past)
open_append n (Withdrawn r ∷ es) fs =
    let past : n + 1 + length es ≡ n + length (Withdrawn r ∷ es) = omega arith in
    open_append (n + 1) es fs ∙ ap (λ m. open_from (n + 1) es ++ open_from m fs) past

-- an entry that is not open has no open record
not_open : {R : Type 0} (n : ℕ) (e : Entry R) → ((r : R) → e ≡ Open r → ⊥) → open_from n (e ∷ []) ≡ []
not_open n Vacant shut = refl
not_open n (Open r) shut = absurd (shut r refl)
not_open n (Withdrawn r) shut = refl

-- the open records among the first so many entries
abbrev pub opened : {R : Type 0} → List (Entry R) → ℕ → List (Numbered R)
opened es i = open_from 1 (take i es)

module _ {R : Type 0} (es : List (Entry R)) (i : ℕ) (inside : i < length es) where
  -- one entry more
  opened_more : opened es (i + 1) ≡ opened es i ++ open_from (1 + i) (get_or es i Vacant ∷ [])
  opened_more =
      ap (open_from 1) (take_more es i Vacant inside)
      ∙ open_append 1 (take i es) (get_or es i Vacant ∷ [])
      ∙ ap (λ n. opened es i ++ open_from (1 + n) (get_or es i Vacant ∷ [])) (length-take-le i es (omega arith))

  -- which is open
  pub one_opened : (r : R) → get_or es i Vacant ≡ Open r → opened es (i + 1) ≡ opened es i ++ record { number = i + 1; terms = r } ∷ []
  one_opened r is =
      opened_more
      ∙ ap (λ e. opened es i ++ open_from (1 + i) (e ∷ [])) is
      ∙ ap (λ n. opened es i ++ record { number = n; terms = r } ∷ []) (add_comm 1 i)

  -- which is not open
  pub none_opened : ((r : R) → get_or es i Vacant ≡ Open r → ⊥) → opened es (i + 1) ≡ opened es i
  none_opened shut =
      opened_more
      ∙ ap (λ rs. opened es i ++ rs) (not_open (1 + i) (get_or es i Vacant) shut)
      ∙ append-nil (opened es i)

-- the numbers of open records rise, whatever is made of them
pub numbers_rise : {R X : Type 0} (number : X → ℕ) (f : Numbered R → X) → ((r : Numbered R) → number (f r) ≡ r.number)
    → (low n : ℕ) (es : List (Entry R)) → low < n → rises_from low (map number (map f (open_from n es))) ≡ true
numbers_rise number f same low n [] h = refl
numbers_rise number f same low n (Vacant ∷ es) h = numbers_rise number f same low (n + 1) es (omega arith)
numbers_rise number f same low n (Open r ∷ es) h =
    rw (same (record { number = n; terms = r }))
    (and_from _ _ (lt-ltb low n h) (numbers_rise number f same n (n + 1) es (omega arith)))
numbers_rise number f same low n (Withdrawn r ∷ es) h = numbers_rise number f same low (n + 1) es (omega arith)

-- an open band with what stands ahead of it among the open bands of a register
abbrev pub with_ahead : List (Entry Band) → Numbered Band → OpenBand
with_ahead es b = record { number = b.number; ahead = ahead_of (open_from 1 es) b; terms = b.terms }

-- the numbers of a register's open bands rise
pub bands_rise : (es : List (Entry Band)) → rising (open_bands es) ≡ true
bands_rise es = numbers_rise (λ b. b.number) (with_ahead es) (λ r. refl) 0 1 es (omega arith)

-- as they were offered they are its open records
pub offered_bands : (es : List (Entry Band)) → map offered (open_bands es) ≡ open_from 1 es
offered_bands es = map-map offered (with_ahead es) (open_from 1 es) ∙ map-id (open_from 1 es)

-- and each band holds what stands ahead of it
pub bands-ahead : (es : List (Entry Band)) → aheads (open_bands es) ≡ true_aheads (open_bands es)
bands-ahead es =
    let rs = open_from 1 es in
    map-map (λ b. b.ahead) (with_ahead es) rs
    ∙ sym (map-map (λ b. ahead_of (map offered (open_bands es)) (offered b)) (with_ahead es) rs ∙ ap (λ bs. map (ahead_of bs) rs) (offered_bands es))

-- what stands ahead of a band among the first so many entries
abbrev pub ahead_so_far : List (Entry Band) → ℕ → Numbered Band → ℕ
ahead_so_far es i b = ahead_of (opened es i) b

module _ (es : List (Entry Band)) (i : ℕ) (b : Numbered Band) (inside : i < length es) where
  -- an open band adds its quantity if it is served before the band
  pub ahead_open : (a : Band) → get_or es i Vacant ≡ Open a
      → ahead_so_far es (i + 1) b ≡ ahead_so_far es i b + cond (comes_ahead (record { number = i + 1; terms = a }) b) a.quantity 0
  ahead_open a is =
      let this : Numbered Band = record { number = i + 1; terms = a } in
      ap (λ bs. ahead_of bs b) (one_opened es i inside a is)
      ∙ omega (arith, total-append (λ a. cond (comes_ahead a b) a.terms.quantity 0) (opened es i) (this ∷ []))

  -- an entry that is not open adds nothing
  pub ahead_shut : ((a : Band) → get_or es i Vacant ≡ Open a → ⊥) → ahead_so_far es (i + 1) b ≡ ahead_so_far es i b
  ahead_shut shut = ap (λ bs. ahead_of bs b) (none_opened es i inside shut)

-- of two places the earlier has the smaller number
smaller-number : (i j : ℕ) → ltb (i + 1) (j + 1) ≡ ltb i j
smaller-number i j = grind (arith, nat_tests)

-- which of two bands comes ahead, by their places
pub ahead_by_place : (a b : Band) (i j : ℕ)
    → comes_ahead (record { number = i + 1; terms = a }) (record { number = j + 1; terms = b })
    ≡ (eqb a.market b.market && (ltb b.price a.price || (eqb a.price b.price && ltb i j)))
ahead_by_place a b i j =
    ap (λ t. eqb a.market b.market && (ltb b.price a.price || (eqb a.price b.price && t))) (smaller-number i j)
