-- `register_length`: every entry that is not vacant has one field.
use Rattle.std.proofs.Common.{◌≡◌, ◌+◌, ◌*◌, ◌≤◌, cond, not, count_by, rules, arith}
use Rattle.std.proofs.lemmas.Nat.{mul-le}
use Rattle.std.proofs.lemmas.List.Sums.{length-filter, count_by-le-length}
use Rattle.std.proofs.lemmas.Iterator.{YieldsList-from_slice, YieldsList-from_map}
use Rattle.std.proofs.lemmas.Iterator.Consumers.{sum_by_from_yields_List}
use borrow.Author.Tests.{tests}
use Rattle.offers.specs.Registers.{is_vacant}
use Rattle.sheets.proofs.Puts.{length_register}
use Rattle.sheets.proofs.writing.register_length.Given.{Over}
use Rattle.sheets.proofs.writing.register_length.Goals as goal

module _ (g : Over) (c : goal.After-content_bytes g) where
  -- the sum counts the entries that are not vacant
  counted : c.sum-held.result ≡ count_by (λ e. not (is_vacant e)) c.args.entries.now
  counted =
      sum_by_from_yields_List (λ e. cond (not (is_vacant e)) 1 0) c.args.entries.now c.map.result c.sum-held.result c.sum-held.ensures.ran
      (YieldsList-from_map _ (λ e. cond (not (is_vacant e)) 1 0) (YieldsList-from_slice c.args.entries.now cc) c.map.ensures.closure (λ x r q k. search (rules, tests)))

  -- and there are no more of them than numbers
  few : c.sum-held.result * (3 + c.content_bytes.result) ≤ 64 * 65538
  few =
      mul-le c.sum-held.result (3 + c.content_bytes.result) 64 65538
      (omega (arith, counted, count_by-le-length (λ e. not (is_vacant e)) c.args.entries.now)) (omega (arith, c.content_bytes.ensures))

pub overflow_mul-result : goal.overflow_mul-result
overflow_mul-result g c = omega (arith, few g c)

pub returns-clause-value : goal.returns-clause-value
returns-clause-value g c =
    rw (counted g c, c.content_bytes.ensures, ← length-filter (λ e. not (is_vacant e)) c.args.entries.now)
    (omega (arith, length_register g.R.Record.layout g.met.R.Record.laws 1 c.args.entries.now))

pub returns-clause-bound : goal.returns-clause-bound
returns-clause-bound g c = few g c
