-- What buyers are sold: each band counts for one buyer, so the values together are the income.
use Rattle.std.specs.List.{list_all, sum, AllByRecursion as Every}
use Rattle.std.proofs.Common.{◌≡◌, ℕ, zero, suc, ◌+◌, ◌-◌, ◌*◌, ◌<◌, ◌≤◌, eq-or-lt_of_le, ⊎_elim, true, cond, eqb, leb, List, [], ◌∷◌, ◌++◌, map, length, get_or, set, take, refl, sym, ap, ap₂, subst, ◌∙◌, arith}
use Rattle.std.proofs.lemmas.Bool.{and_parts, cond-true, cond-false, eq-eqb, ne_eqb}
use Rattle.std.proofs.lemmas.List.{length-take, take_all, take_more}
use Rattle.std.proofs.lemmas.List.Sums.{sum_by-cons}
use Rattle.clearing.specs.declared.dockets.OpenBand.{OpenBand}
use Rattle.clearing.specs.Bands.{rising}
use Rattle.clearing.specs.Choices.{total, taken, supply}
use Rattle.clearing.specs.Lawful.{View, income, filled_sales}
use Rattle.clearing.specs.Ranged.{Ranged}
use Rattle.clearing.specs.Ranges.{band_fits}
use Rattle.clearing.specs.Sales.{filled, sale_of}
use Rattle.clearing.specs.Tallies.{row}
use Rattle.clearing.proofs.Filling.{filled_small}
use Rattle.clearing.proofs.Fits.{each_take, each-most, OpenRanges, open_ranges}
use Rattle.clearing.proofs.Held.{no_band, band_ranged}
use Rattle.clearing.proofs.Incomes.{income-few, income-next}
use Rattle.clearing.proofs.Sellings.{paid-most}
use Rattle.clearing.proofs.Served.{sale_at}
use Rattle.clearing.proofs.Rows.{length-row, plus_one, plus_where, row_same, where_most}
use Rattle.clearing.proofs.Totals.{totals_append, totals_most}
use Rattle.fees.specs.Charges.{bought}

-- the sum of a row, its first number apart
sum_row : (f : ℕ → ℕ) (n count : ℕ) → sum (row f n (suc count)) ≡ f n + sum (row f (n + 1) count)
sum_row f n count = sum_by-cons (λ x. x) (f n) (row f (n + 1) count)

-- a row of nothing sums to nothing
sum_none : (f : ℕ → ℕ) (n count : ℕ) → ((m : ℕ) → n ≤ m → f m ≡ 0) → sum (row f n count) ≡ 0
sum_none f n zero none = refl
sum_none f n (suc count) none =
    sum_row f n count ∙ omega (arith, none n (omega arith), sum_none f (n + 1) count (λ m h. none m (omega arith)))

-- two rows added sum to both sums
sum_both : (f g : ℕ → ℕ) (n count : ℕ) → sum (row (λ m. f m + g m) n count) ≡ sum (row f n count) + sum (row g n count)
sum_both f g n zero = refl
sum_both f g n (suc count) =
    sum_row (λ m. f m + g m) n count
    ∙ omega (arith, sum_row f n count, sum_row g n count, sum_both f g (n + 1) count)

-- an amount that stands under one number of a row is the sum of the row
sum_one : (j amount n count : ℕ) → n ≤ j → j < n + count → sum (row (λ m. cond (eqb j m) amount 0) n count) ≡ amount
sum_one j amount n zero low high = absurd (omega arith)
sum_one j amount n (suc count) low high =
    let here = λ (m : ℕ). cond (eqb j m) amount 0 in
    sum_row here n count
    ∙ ⊎_elim
    (λ (is : n ≡ j).
    let first : here n ≡ amount = cond-true (eqb j n) amount 0 (eq-eqb j n (sym is)) in
    let rest = sum_none here (n + 1) count (λ m h. cond-false (eqb j m) amount 0 (ne_eqb j m (λ e. omega (arith, is, e, h)))) in
    omega (arith, first, rest))
    (λ (before : n < j).
    let first : here n ≡ 0 = cond-false (eqb j n) amount 0 (ne_eqb j n (λ e. omega (arith, e, before))) in
    omega (arith, first, sum_one j amount (n + 1) count (omega arith) (omega arith)))
    (eq-or-lt_of_le low)

-- each band counts for one buyer, so the buyers together are sold what the bands bring
pub sum_bought : (bs : List OpenBand) (ss : List ℕ) → list_all band_fits bs ≡ true → sum (row (bought bs ss) 1 16) ≡ income bs ss
sum_bought [] ss ok = sum_none (bought [] ss) 1 16 (λ m h. refl)
sum_bought (b ∷ bs) [] ok = sum_none (bought (b ∷ bs) []) 1 16 (λ m h. refl)
sum_bought (b ∷ bs) (s ∷ ss) ok =
    let parts = and_parts (band_fits b) (list_all band_fits bs) ok in
    let r = open_ranges b parts.0 in
    let here = λ (m : ℕ). cond (eqb b.terms.buyer m) (s * b.terms.price) 0 in
    sum_both here (bought bs ss) 1 16
    ∙ omega (arith, sum_one b.terms.buyer (s * b.terms.price) 1 16 r.of_record.buyer_least (omega (arith, r.of_record.buyer)), sum_bought bs ss parts.1, income-next b bs s ss r)

-- a buyer that none of the bands is of is sold nothing
pub bought_none : (bs : List OpenBand) (ss : List ℕ) (buyer : ℕ) → Every (λ b. b.terms.buyer ≡ buyer → ⊥) bs → bought bs ss buyer ≡ 0
bought_none [] ss buyer none = refl
bought_none (b ∷ bs) [] buyer none = refl
bought_none (b ∷ bs) (s ∷ ss) buyer none =
    omega (arith, cond-false (eqb b.terms.buyer buyer) (s * b.terms.price) 0 (ne_eqb b.terms.buyer buyer none.0), bought_none bs ss buyer none.1)

-- the bands of a docket bring no more than the most that they could
pub income_most : (v : View) (choice : ℕ) → Ranged v → income v.bands (filled_sales v choice) ≤ 64000000000000000
income_most v choice ok =
    let supplied = row (λ m. supply m (taken v.packages choice)) 1 5 in
    omega (arith, income-few v.bands (filled_sales v choice) ok.bands (filled_small supplied v.bands), ok.few_bands)

module _ (supply : List ℕ) where
  -- what a band brings to a buyer
  abbrev pub brought : ℕ → OpenBand → ℕ
  brought buyer b = cond (eqb b.terms.buyer buyer) (filled supply b * b.terms.price) 0

  -- what a buyer is sold of bands one after another
  abbrev pub bought_so_far : List OpenBand → List ℕ
  bought_so_far bs = row (λ buyer. total (brought buyer) bs) 1 16

  -- which is what it is sold by filled sales
  bought_filled : (bs : List OpenBand) (buyer : ℕ) → total (brought buyer) bs ≡ bought bs (map (filled supply) bs) buyer
  bought_filled [] buyer = refl
  bought_filled (b ∷ bs) buyer = ap (λ n. brought buyer b + n) (bought_filled bs buyer)

  pub bought_all : (bs : List OpenBand) → bought_so_far bs ≡ row (bought bs (map (filled supply) bs)) 1 16
  bought_all bs = row_same _ _ 1 16 (λ m h. bought_filled bs m)

  -- a band more is added at its buyer's place
  pub bought_last : (bs : List OpenBand) (b : OpenBand) → OpenRanges b
      → set (bought_so_far bs) (b.terms.buyer - 1) (get_or (bought_so_far bs) (b.terms.buyer - 1) 0 + filled supply b * b.terms.price) ≡ bought_so_far (bs ++ b ∷ [])
  bought_last bs b r =
      let before = bought_so_far bs in
      let here = λ (m : ℕ). brought m b in
      let long = length-row (λ buyer. total (brought buyer) bs) 1 16 in
      plus_one before b.terms.buyer (filled supply b * b.terms.price) 1 16 (b.terms.buyer - 1) long (omega (arith, r.of_record.buyer)) (omega (arith, r.of_record.buyer_least))
      ∙ sym (plus_where true before here 1 16 long)
      ∙ sym (totals_append brought bs (b ∷ []) 1 16)

  -- and no buyer is sold more than the bands could bring
  pub bought_most : (bs : List OpenBand) → list_all band_fits bs ≡ true → length bs ≤ 64 → list_all (λ n. leb n 64000000000000000) (bought_so_far bs) ≡ true
  bought_most bs ok short =
      totals_most band_fits brought 64 1000000000000000 64000000000000000 bs 1 16
      (λ m b e. let r = open_ranges b e in where_most _ (filled supply b * b.terms.price) 1000000000000000 (paid-most supply b r)) ok short (omega arith)

-- What a turn over the bands has room for, and what it leaves: the band at place i is sold what stands in the row under its number.
pub record Turn (supply : List ℕ) (bs : List OpenBand) (i : ℕ) (before sales : List ℕ) : Type 0 where
  pub number_least : 1 ≤ (get_or bs i no_band).number
  pub number : (get_or bs i no_band).number ≤ 64
  pub buyer_least : 1 ≤ (get_or bs i no_band).terms.buyer
  pub buyer : (get_or bs i no_band).terms.buyer ≤ 16
  pub paid : get_or sales ((get_or bs i no_band).number - 1) 0 * (get_or bs i no_band).terms.price ≤ 1000000000000000
  pub sum : get_or before ((get_or bs i no_band).terms.buyer - 1) 0
      + get_or sales ((get_or bs i no_band).number - 1) 0 * (get_or bs i no_band).terms.price ≤ 65000000000000000
  pub next : set before ((get_or bs i no_band).terms.buyer - 1)
      (get_or before ((get_or bs i no_band).terms.buyer - 1) 0 + get_or sales ((get_or bs i no_band).number - 1) 0 * (get_or bs i no_band).terms.price)
      ≡ bought_so_far supply (take (i + 1) bs)

-- of a docket's bands, after what those before the place bring
pub turn : {d e : View} → Ranged d → d ≡ e → (supply : List ℕ) {bs : List OpenBand} {i : ℕ} {before sales : List ℕ} → bs ≡ d.bands → i < length bs
    → before ≡ bought_so_far supply (take i bs) → sales ≡ row (sale_of e.bands supply) 1 64 → Turn supply bs i before sales
turn {d} ok same supply {bs} {i} {before} {sales} held inside so_far is =
    let b = get_or bs i no_band in
    let ranges = band_ranged ok i bs held inside in
    let own : get_or sales (b.number - 1) 0 ≡ filled supply b =
    ap (λ (r : List ℕ). get_or r (b.number - 1) 0) is
    ∙ ap (λ (cs : List OpenBand). get_or (row (sale_of cs supply) 1 64) (b.number - 1) 0) (sym (held ∙ ap (λ (v : View). v.bands) same))
    ∙ sale_at supply bs i no_band (ap rising held ∙ ok.order.numbers) inside ranges.number_least ranges.number in
    let few : length (take i bs) ≤ 64 = simp length-take (omega (arith, ap length held, ok.few_bands)) in
    let bound = subst (λ (r : List ℕ). list_all (λ n. leb n 64000000000000000) r ≡ true) (sym so_far) (bought_most supply (take i bs) (each_take band_fits i bs (rw held ok.bands)) few) in
    let brings = ap (λ (n : ℕ). n * b.terms.price) own in
    let dear = paid-most supply b ranges in
    record {
      number_least = ranges.number_least;
      number = ranges.number;
      buyer_least = ranges.of_record.buyer_least;
      buyer = ranges.of_record.buyer;
      paid = omega (arith, brings, dear);
      sum = omega (arith, brings, dear, each-most 64000000000000000 before (b.terms.buyer - 1) bound);
      next =
          ap₂ (λ (r : List ℕ) (n : ℕ). set r (b.terms.buyer - 1) (get_or r (b.terms.buyer - 1) 0 + n * b.terms.price)) so_far own
          ∙ bought_last supply (take i bs) b ranges
          ∙ ap (bought_so_far supply) (sym (take_more bs i no_band inside));
    }

-- Past the last band the values are those of the docket's bands, and within what they could bring.
pub record Ended (supply : List ℕ) (bands : List OpenBand) (found : List ℕ) : Type 0 where
  pub value : found ≡ row (bought bands (map (filled supply) bands)) 1 16
  pub bound : list_all (λ n. leb n 64000000000000000) found ≡ true

pub ended : {d e : View} → Ranged d → d ≡ e → (supply : List ℕ) {bs : List OpenBand} {i : ℕ} {found : List ℕ} → bs ≡ d.bands → length bs ≤ i
    → found ≡ bought_so_far supply (take i bs) → Ended supply e.bands found
ended {d} {e} ok same supply {bs} {i} {found} held past so_far =
    let is : found ≡ bought_so_far supply d.bands = so_far ∙ ap (bought_so_far supply) (take_all i bs past ∙ held) in
    subst (λ (v : View). Ended supply v.bands found) same
    (record {
      value = is ∙ bought_all supply d.bands;
      bound = subst (λ (r : List ℕ). list_all (λ n. leb n 64000000000000000) r ≡ true) (sym is) (bought_most supply d.bands ok.bands (omega (arith, ok.few_bands)));
    })
