-- What each band is sold by its offer number, one band after another.
use Rattle.std.proofs.Common.{◌≡◌, ℕ, zero, suc, ◌+◌, ◌-◌, ◌<◌, ◌≤◌, true, cond, eqb, ltb, List, [], ◌∷◌, ◌++◌, map, length, get_or, take, drop, set, refl, sym, ap, ◌∙◌, arith}
use Rattle.std.specs.List.{AllByRecursion as Every}
use Rattle.std.proofs.lemmas.List.{take-append-drop, drop_more, take_more}
use Rattle.std.proofs.lemmas.Bool.{and_parts, ltb-true, cond-true, cond-false, eq-eqb, ne_eqb}
use Rattle.clearing.specs.declared.dockets.OpenBand.{OpenBand}
use Rattle.clearing.specs.Bands.{rises_from, rising}
use Rattle.clearing.specs.Sales.{filled, sale_of}
use Rattle.clearing.specs.Tallies.{row}
use Rattle.clearing.proofs.Rows.{getD_row, row-set}

-- where numbers rise, each band before another has a smaller number
rises-before : (low : ℕ) (bs : List OpenBand) (b : OpenBand) (cs : List OpenBand) → rises_from low (map (λ b. b.number) (bs ++ b ∷ cs)) ≡ true
    → (low < b.number) × Every (λ a. a.number < b.number) bs
rises-before low [] b cs e =
    (ltb-true low b.number (and_parts (ltb low b.number) (rises_from b.number (map (λ b. b.number) cs)) e).0, tt)
rises-before low (a ∷ bs) b cs e =
    let parts = and_parts (ltb low a.number) (rises_from a.number (map (λ b. b.number) (bs ++ b ∷ cs))) e in
    let first = ltb-true low a.number parts.0 in
    let rest = rises-before a.number bs b cs parts.1 in
    (omega (arith, rest.0), (rest.0, rest.1))

-- so of a list at a place
rises-at : (bs : List OpenBand) (i : ℕ) (d : OpenBand) → i < length bs → rising bs ≡ true → Every (λ a. a.number < (get_or bs i d).number) (take i bs)
rises-at bs i d inside e =
    let parts : bs ≡ take i bs ++ get_or bs i d ∷ drop (i + 1) bs = sym (take-append-drop i bs) ∙ ap (λ cs. take i bs ++ cs) (drop_more bs i d inside) in
    (rises-before 0 (take i bs) (get_or bs i d) (drop (i + 1) bs) (ap rising (sym parts) ∙ e)).1

module _ (supply : List ℕ) (b : OpenBand) where
  -- the last band is sold by its number, if those before it have smaller ones
  last_sale : (bs : List OpenBand) → Every (λ a. a.number < b.number) bs → sale_of (bs ++ b ∷ []) supply b.number ≡ filled supply b
  last_sale [] small = cond-true (eqb b.number b.number) _ _ (eq-eqb b.number b.number (omega arith))
  last_sale (a ∷ bs) small =
      cond-false (eqb a.number b.number) _ _ (ne_eqb a.number b.number (λ e. omega (arith, small.0))) ∙ last_sale bs small.1

  -- any other number is sold what it was
  other_sale : (bs : List OpenBand) (n : ℕ) → (n ≡ b.number → ⊥) → sale_of (bs ++ b ∷ []) supply n ≡ sale_of bs supply n
  other_sale [] n ne = cond-false (eqb b.number n) _ _ (ne_eqb b.number n (λ e. ne (sym e)))
  other_sale (a ∷ bs) n ne = ap (cond (eqb a.number n) (filled supply a)) (other_sale bs n ne)

-- the row with one band more
pub served_more : (supply : List ℕ) (bs : List OpenBand) (i : ℕ) (d : OpenBand) → i < length bs → rising bs ≡ true → 1 ≤ (get_or bs i d).number
    → set (row (sale_of (take i bs) supply) 1 64) ((get_or bs i d).number - 1) (filled supply (get_or bs i d)) ≡ row (sale_of (take (i + 1) bs) supply) 1 64
served_more supply bs i d inside e least =
    let b = get_or bs i d in
    let number : 1 + (b.number - 1) ≡ b.number = omega arith in
    let last = ap (λ cs. sale_of cs supply) (take_more bs i d inside) in
    sym (row-set (sale_of (take i bs) supply) (sale_of (take (i + 1) bs) supply) (filled supply b) 1 64 (b.number - 1)
    (ap (λ f. f (1 + (b.number - 1))) last ∙ ap (sale_of (take i bs ++ b ∷ []) supply) number ∙ last_sale supply b (take i bs) (rises-at bs i d inside e))
    (λ n ne. ap (λ f. f n) last ∙ other_sale supply b (take i bs) n (λ is. ne (is ∙ sym number))))

-- rising numbers are all greater than the one before them
later_greater : (low : ℕ) (bs : List OpenBand) (i : ℕ) (d : OpenBand) → rises_from low (map (λ b. b.number) bs) ≡ true → i < length bs → low < (get_or bs i d).number
later_greater low [] i d rise inside = absurd (omega arith)
later_greater low (b ∷ bs) zero d rise inside = ltb-true low b.number (and_parts _ _ rise).0
later_greater low (b ∷ bs) (suc i) d rise inside =
    let parts = and_parts (ltb low b.number) (rises_from b.number (map (λ b. b.number) bs)) rise in
    omega (arith, ltb-true low b.number parts.0, later_greater b.number bs i d parts.1 (omega arith))

-- so what stands for a band's number among the sales is what that band is sold
sale_own : (supply : List ℕ) (low : ℕ) (bs : List OpenBand) (i : ℕ) (d : OpenBand) → rises_from low (map (λ b. b.number) bs) ≡ true → i < length bs
    → sale_of bs supply (get_or bs i d).number ≡ filled supply (get_or bs i d)
sale_own supply low [] i d rise inside = absurd (omega arith)
sale_own supply low (b ∷ bs) zero d rise inside = cond-true (eqb b.number b.number) _ _ (eq-eqb b.number b.number refl)
sale_own supply low (b ∷ bs) (suc i) d rise inside =
    let parts = and_parts (ltb low b.number) (rises_from b.number (map (λ b. b.number) bs)) rise in
    let later = later_greater b.number bs i d parts.1 (omega arith) in
    cond-false (eqb b.number (get_or bs i d).number) _ _ (ne_eqb b.number (get_or bs i d).number (λ e. omega (arith, later)))
    ∙ sale_own supply b.number bs i d parts.1 (omega arith)

-- a row of sales by offer number has it at the place of the number
pub sale_at : (supply : List ℕ) (bs : List OpenBand) (i : ℕ) (d : OpenBand) → rising bs ≡ true → i < length bs → 1 ≤ (get_or bs i d).number → (get_or bs i d).number ≤ 64
    → get_or (row (sale_of bs supply) 1 64) ((get_or bs i d).number - 1) 0 ≡ filled supply (get_or bs i d)
sale_at supply bs i d rise inside low high =
    getD_row (sale_of bs supply) 1 64 ((get_or bs i d).number - 1) 0 (omega arith)
    ∙ ap (sale_of bs supply) (omega arith)
    ∙ sale_own supply 0 bs i d rise inside
