use Rattle.std.proofs.Common.{◌≡◌, ◌++◌, eqb, Ok}
use Rattle.journals.specs.Chains.{rules_in, chain_at}
use Rattle.journals.specs.Readers.{unread}
use Rattle.journals.specs.Words.{parts_in}
use Rattle.journals.specs.Wrongs.{◌>>=◌}
use Rattle.journals.proofs.Parting.{size_left}
use Rattle.journals.proofs.chains.chain.Given as goal

-- the rules so far, and those of what is left
abbrev pub invariant-loop-rest : goal.invariant-loop-rest
invariant-loop-rest l =
    chain_at (unread l.fn.words) ≡ (rules_in (parts_in (λ b. eqb b 43) l.rest) >>= λ others. Ok (record { first = l.first; others = l.others.items ++ others }, unread l.words))

abbrev pub decreases-loop-rest : goal.decreases-loop-rest
decreases-loop-rest l = size_left l.rest
