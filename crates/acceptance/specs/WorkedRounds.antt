-- The worked rounds of docs/RULES.md.
use Rattle.std.specs.Prelude.{◌≡◌, ℕ, ◌-◌, List, [], ◌∷◌, ◌++◌, replicate, Ok, Err, Result, ℤ, pos, neg_ℤ}
use Rattle.offers.specs.declared.kinds.Kind.TheVariants as kind
use Rattle.offers.specs.declared.memory.Offer.TheVariants as offer
use Rattle.offers.specs.declared.records.Package.{Package}
use Rattle.offers.specs.declared.refusals.Code.TheVariants.{Clash}
use Rattle.offers.specs.declared.registers.Entry.TheVariants.{Vacant, Open, Withdrawn}
use Rattle.pricing.specs.declared.rules.Fault.{Fault}
use Rattle.pricing.specs.Prices.{filed_price, stack_price}
use Rattle.bounds.specs.Blocks.{Answers}
use Rattle.bounds.specs.Rules.{always, all_in}
use Rattle.rounds.specs.Model.{Call, File, Withdraw, CatchUp, Close, Search, ReadAward, Done, Found, Awarded, Charged, NotTaken, answers}
use Rattle.acceptance.specs.Answered.{done, empty_row, row_of, open_with, charged_in, Leaves, Clears}
use Rattle.acceptance.specs.WorkedOffers.{band, file_pair, file_exclusion, file_limit, in_dollars, four_filed, four_unqualified, first_qualified, third_before, ten_for, sheet_with_second_for, two_packages_sheet}

-- the two-package round from its sheet, searched under a rule for so many steps, and its award read
abbrev pub two_packages_searched : Answers → ℕ → List Call
two_packages_searched rule steps =
    CatchUp two_packages_sheet ∷ Close filed_price ∷ Search rule steps ∷ ReadAward empty_row ∷ []

-- The search of the two-package round takes so many steps under a rule; before the last, so many choices are settled.
pub record Takes (rule : Answers) (steps settled : ℕ) : Type 0 where
  -- a step fewer leaves the round closed, with no award to read
  pub not_before : answers (two_packages_searched rule (steps - 1))
      ≡ done ∷ done ∷ Found (Ok (settled, pos 30)) ∷ NotTaken ∷ []
  -- with so many all four choices are settled, and choice 1 is awarded, which sells 10 to band 1
  pub by_then : answers (two_packages_searched rule steps)
      ≡ done
      ∷ done
      ∷ Found (Ok (4, pos 30))
      ∷ Awarded (Ok (record { choice = 1; surplus = pos 30 })) (row_of (10 ∷ []))
      ∷ []

-- a package's price in the round's own stack, with a preference of 10,100, an expectation of 10,000, and -3 in zone 1
abbrev pub own_price : Package → Result ℤ Fault
own_price = stack_price 10100 10000 (neg_ℤ (pos 3) ∷ replicate 15 (pos 0))

-- package 2 of the two-package round filed and withdrawn, and then a sheet
abbrev pub withdrawn_then : List ℕ → List Call
withdrawn_then sheet = File 2 (offer.Package (ten_for 20)) ∷ Withdraw kind.Package 2 ∷ CatchUp sheet ∷ []

-- What each worked round comes to. Rounds 3 to 9 are the four-package round with a difference.
pub record WorkedRounds : Type 0 where
  -- round 1, two packages: the second alone is worth as much as the first, and comes later
  pub two_packages : Clears (CatchUp two_packages_sheet ∷ []) (record {
    choices = 4;
    packages = 1 ∷ [];
    choice = 1;
    surplus = pos 30;
    sales = 10 ∷ [];
  })
  -- its search takes four steps under the ceiling
  pub two_packages_under_ceiling : Takes always 4 3
  -- and two under all-in
  pub two_packages_under_all_in : Takes all_in 2 2
  -- round 2, no offers
  pub no_offers : Clears [] (record { choices = 1; packages = []; choice = 0; surplus = pos 0; sales = [] })
  -- round 3, nothing is different
  pub four_packages : Clears four_filed (record {
    choices = 16;
    packages = 1 ∷ 3 ∷ 4 ∷ [];
    choice = 13;
    surplus = pos 123500000;
    sales = 50 ∷ 30 ∷ 150000 ∷ 90000 ∷ 150000 ∷ 90000 ∷ [];
  })
  -- round 4, package 3 is withdrawn
  pub package_3_withdrawn : Clears (four_filed ++ Withdraw kind.Package 3 ∷ []) (record {
    choices = 8;
    packages = 1 ∷ 2 ∷ 4 ∷ [];
    choice = 7;
    surplus = pos 87500000;
    sales = 50 ∷ 30 ∷ 150000 ∷ 0 ∷ 150000 ∷ 0 ∷ [];
  })
  -- round 5, packages 1 and 3 are in one group
  pub packages_1_and_3_exclusive : Clears (four_filed ++ file_exclusion 1 1 1 ∷ file_exclusion 2 1 3 ∷ []) (record {
    choices = 16;
    packages = 2 ∷ 3 ∷ 4 ∷ [];
    choice = 14;
    surplus = pos 103000000;
    sales = 50 ∷ 20 ∷ 120000 ∷ 0 ∷ 120000 ∷ 0 ∷ [];
  })
  -- round 6, package 3 needs 2
  pub package_3_needs_2 : Clears (four_filed ++ file_pair 1 3 2 ∷ []) (record {
    choices = 16;
    packages = 1 ∷ 2 ∷ 3 ∷ 4 ∷ [];
    choice = 15;
    surplus = pos 118500000;
    sales = 50 ∷ 40 ∷ 150000 ∷ 90000 ∷ 150000 ∷ 90000 ∷ [];
  })
  -- round 7, all are unqualified with nameplates equal to their powers, and zone 1 has room for 50 MW of them
  pub nameplates_within_50 : Clears (four_unqualified ++ file_limit 1 1 1 50 ∷ []) (record {
    choices = 16;
    packages = 1 ∷ 3 ∷ [];
    choice = 5;
    surplus = pos 111500000;
    sales = 50 ∷ 0 ∷ 150000 ∷ 60000 ∷ 150000 ∷ 60000 ∷ [];
  })
  -- round 8, room for 49 MW
  pub nameplates_within_49 : Clears (four_unqualified ++ file_limit 1 1 1 49 ∷ []) (record {
    choices = 16;
    packages = 2 ∷ 3 ∷ [];
    choice = 6;
    surplus = pos 80500000;
    sales = 40 ∷ 0 ∷ 90000 ∷ 0 ∷ 90000 ∷ 0 ∷ [];
  })
  -- round 8 with package 1 qualified: its nameplate does not count
  pub qualified_not_counted : Clears (first_qualified ++ file_limit 1 1 1 49 ∷ []) (record {
    choices = 16;
    packages = 1 ∷ 2 ∷ 3 ∷ [];
    choice = 7;
    surplus = pos 116500000;
    sales = 50 ∷ 20 ∷ 150000 ∷ 60000 ∷ 150000 ∷ 60000 ∷ [];
  })
  -- round 9, package 3 is dated before, and at most 25 per cent of the power sold may be
  pub power_before_25_per_cent : Clears (third_before ++ file_limit 1 3 1 25 ∷ []) (record {
    choices = 16;
    packages = 1 ∷ 3 ∷ 4 ∷ [];
    choice = 13;
    surplus = pos 123500000;
    sales = 50 ∷ 30 ∷ 150000 ∷ 90000 ∷ 150000 ∷ 90000 ∷ [];
  })
  -- round 9, second part: at most 24 per cent
  pub power_before_24_per_cent : Clears (third_before ++ file_limit 1 3 1 24 ∷ []) (record {
    choices = 16;
    packages = 1 ∷ 2 ∷ 3 ∷ 4 ∷ [];
    choice = 15;
    surplus = pos 118500000;
    sales = 50 ∷ 40 ∷ 150000 ∷ 90000 ∷ 150000 ∷ 90000 ∷ [];
  })
  -- round 10, a price in the round's own stack: -30.3 rounded up
  pub own_price_below_zero : own_price (in_dollars (ten_for 0)) ≡ Ok (neg_ℤ (pos 30))
  -- and 70.7
  pub own_price_above_zero : own_price (in_dollars (ten_for 100)) ≡ Ok (pos 71)
  -- round 11, a withdrawal outlives an older sheet
  pub older_sheet : Leaves (withdrawn_then two_packages_sheet) (done ∷ done ∷ done ∷ [])
      (open_with
      (Open (ten_for 20) ∷ Withdrawn (ten_for 20) ∷ replicate 38 Vacant)
      (Open (band 4 10 5) ∷ replicate 63 Vacant))
  -- round 12, a clash: the sheet has package 2 for another price
  pub another_price_clashes : Leaves (withdrawn_then (sheet_with_second_for 21))
      (done ∷ done ∷ Done (Err (record { code = Clash; tag = 1; number = 2; field = 0; byte = 36; depth = 0 })) ∷ [])
      (open_with (Vacant ∷ Withdrawn (ten_for 20) ∷ replicate 38 Vacant) (replicate 64 Vacant))
  -- round 13, the fees of the four-package round, whose bands are all of buyer 1: its value is 348,500,000 pesos
  pub one_buyer : charged_in four_filed (record { first = 100; second = 50; third = 10 })
      ≡ Charged (Ok 75350000) (75350000 ∷ replicate 15 0)
