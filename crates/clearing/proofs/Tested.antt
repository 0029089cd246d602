-- A rule tested on one element of a list after another, and what the answer decides.
use Rattle.std.proofs.Common.{◌≡◌, ℕ, zero, suc, ◌&&◌, [], ◌∷◌, ◌-◌, ◌*◌, leb, ◌≤◌, Bool, true, false, cond, eqb, List, get_or, Decides, refl, arith}
use Rattle.std.specs.List.{AllByRecursion as Every, list_all}
use Rattle.std.proofs.ByRecursion.{Decides-by_and}
use Rattle.std.proofs.lemmas.Bool.{false≢true, leb-true, le-leb}
use Rattle.std.proofs.lemmas.Bool.Decides.{Decides-at, Decides-and, Decides-like, nat_tests}
use Rattle.clearing.specs.Judging.{implies}
use Rattle.clearing.specs.Kept.{Share, DatesKept}
use Rattle.clearing.specs.Lawful.{percentage}
use Rattle.clearing.specs.Tallies.{row}
use Rattle.clearing.specs.declared.tallies.Tally.{Tally}
use Rattle.offers.specs.declared.records.Limit.{Limit}

-- what holds is decided by true
pub decided_true : {P : Type 0} → P → Decides true P
decided_true holds = ((λ _. holds), (λ _. refl))

-- what fails is decided by false
pub decided_false : {P : Type 0} → (P → ⊥) → Decides false P
decided_false fails = ((λ e. absurd (false≢true e)), (λ holds. absurd (fails holds)))

-- a test decides that it is passed
pub itself : (b : Bool) → Decides b (b ≡ true)
itself b = ((λ e. e), (λ e. e))

-- a test of what follows decides what follows
pub implies_decides : {P Q : Type 0} (a b : Bool) → Decides a P → Decides b Q → Decides (implies a b) (P → Q)
implies_decides true b one other = ((λ e _. other.0 e), (λ f. other.1 (f (one.0 refl))))
implies_decides false b one other = ((λ _ p. other.0 (absurd_from (one.1 p))), (λ _. refl))
  where
    absurd_from : false ≡ true → b ≡ true
    absurd_from e = let z : ◌≡◌ {A = ℕ} 0 1 = cc in absurd (omega arith)

-- where each element is tested, the answer for all decides a rule of each
pub tested-all : {X : Type 0} (test : X → Bool) (P : X → Type 0) → ((x : X) → Decides (test x) (P x)) → (xs : List X) (r : Bool)
    → r ≡ list_all test xs → Decides r (Every P xs)
tested-all test P decides xs r is =
    Decides-at r (list_all test xs) is (Decides-by_and test P (list_all test) decides refl (λ _ _. refl) xs)

-- a load within its limit, by the limit's sort
pub load_decides : (sort nameplate export amount : ℕ)
    → Decides (leb (cond (eqb sort 1) nameplate (cond (eqb sort 2) export 0)) amount) ((sort ≡ 1 → nameplate ≤ amount) × (sort ≡ 2 → export ≤ amount))
load_decides sort nameplate export amount = grind (arith, nat_tests)

-- what holds of each of three markets holds of any from 1 to 3
pub of_three : (P : ℕ → Type 0) → P 1 → P 2 → P 3 → (m : ℕ) → 1 ≤ m → m ≤ 3 → P m
of_three P one two three zero low high = absurd (omega arith)
of_three P one two three (suc zero) low high = one
of_three P one two three (suc (suc zero)) low high = two
of_three P one two three (suc (suc (suc zero))) low high = three
of_three P one two three (suc (suc (suc (suc m)))) low high = absurd (omega arith)

-- an order of numbers
pub decides_leb : (a b : ℕ) → Decides (leb a b) (a ≤ b)
decides_leb a b = (leb-true a b, le-leb a b)

-- a market's dated supply tested against its percentage of what is sold
abbrev pub shares : List ℕ → List ℕ → ℕ → ℕ → Bool
shares dated sold percent m = leb (100 * get_or dated (m - 1) 0) (percent * get_or sold (m - 1) 0)

-- a power market's, before and after
abbrev pub power_shares : Tally → List ℕ → List ℕ → ℕ → Bool
power_shares t sold ps m = shares t.before sold (get_or ps 0 0) m && shares t.after sold (get_or ps 1 0) m

-- with the percentages that bind, the tests decide whether dated packages keep theirs
pub dates_decide : (limits : List Limit) (t : Tally) (sold ps : List ℕ) → ps ≡ row (percentage limits) 1 4
    → Decides (list_all (power_shares t sold ps) (1 ∷ 2 ∷ 3 ∷ [])
    && shares t.before sold (get_or ps 2 0) 5 && shares t.after sold (get_or ps 3 0) 5) (DatesKept limits t sold)
dates_decide limits t sold ps is =
    let within = λ (dated : List ℕ) (percent m : ℕ). decides_leb (100 * get_or dated (m - 1) 0) (percent * get_or sold (m - 1) 0) in
    let percent = percentage limits in
    let power = λ (m : ℕ). Decides-and _ _ (within t.before (percent 1) m) (within t.after (percent 2) m) in
    rw is (Decides-like _
    (λ kept. record {
      power_before = of_three (λ m. Share (percent 1) t.before sold m) kept.0.0.0.0 kept.0.0.1.0.0 kept.0.0.1.1.0.0;
      power_after = of_three (λ m. Share (percent 2) t.after sold m) kept.0.0.0.1 kept.0.0.1.0.1 kept.0.0.1.1.0.1;
      certificates_before = kept.0.1;
      certificates_after = kept.1;
    })
    (λ kept.
    let both : (m : ℕ) → 1 ≤ m → m ≤ 3 → Share (percent 1) t.before sold m × Share (percent 2) t.after sold m = λ m low high. (kept.power_before m low high, kept.power_after m low high) in
    (((both 1 (omega arith) (omega arith), (both 2 (omega arith) (omega arith), (both 3 (omega arith) (omega arith), tt))), kept.certificates_before), kept.certificates_after))
    (Decides-and _ _ (Decides-and _ _ (tested-all {X = ℕ} _ _ power (1 ∷ 2 ∷ 3 ∷ []) _ refl) (within t.before (percent 3) 5)) (within t.after (percent 4) 5)))
