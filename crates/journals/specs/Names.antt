-- The words that stand for calls, kinds of record, price rules and bounding rules.
use Rattle.std.specs.Prelude.{ℕ, List, [], ◌∷◌, codes, Some, None, Option, if◌then◌else◌}
use Rattle.std.specs.Str.{bytes_eq}
use Rattle.offers.specs.declared.kinds.Kind.{Kind}
use Rattle.offers.specs.declared.kinds.Kind.TheVariants as kind
use Rattle.journals.specs.declared.names.Verb.{Verb}
use Rattle.journals.specs.declared.names.Verb.TheVariants as verb
use Rattle.journals.specs.declared.names.Top.{Top}
use Rattle.journals.specs.declared.names.Top.TheVariants as top
use Rattle.bounds.specs.declared.names.Named.{Named}
use Rattle.bounds.specs.declared.names.Named.TheVariants as rule

-- a word, and what it stands for
pub record Name (C : Type 0) : Type 0 where
  pub word : List ℕ
  pub case : C

-- what a word stands for, by a table of names
abbrev pub case_named : {C : Type 0} → List (Name C) → List ℕ → Option C
case_named [] word = None
case_named (name ∷ names) word = if bytes_eq word name.word then Some name.case else case_named names word

-- the calls
abbrev pub verbs : List (Name Verb)
verbs =
    record { word = codes "file"; case = verb.File }
    ∷ record { word = codes "withdraw"; case = verb.Withdraw }
    ∷ record { word = codes "catch-up"; case = verb.CatchUp }
    ∷ record { word = codes "close"; case = verb.Close }
    ∷ record { word = codes "search"; case = verb.Search }
    ∷ record { word = codes "reopen"; case = verb.Reopen }
    ∷ record { word = codes "award"; case = verb.Award }
    ∷ record { word = codes "fees"; case = verb.Fees }
    ∷ record { word = codes "sheet"; case = verb.Sheet }
    ∷ []

abbrev pub kinds : List (Name Kind)
kinds =
    record { word = codes "package"; case = kind.Package }
    ∷ record { word = codes "band"; case = kind.Band }
    ∷ record { word = codes "pair"; case = kind.Pair }
    ∷ record { word = codes "exclusion"; case = kind.Exclusion }
    ∷ record { word = codes "limit"; case = kind.Limit }
    ∷ []

-- the stacks of price rules, by the rule on top
abbrev pub stacks : List (Name Top)
stacks =
    record { word = codes "filed"; case = top.Filed }
    ∷ record { word = codes "place"; case = top.Place }
    ∷ record { word = codes "currency"; case = top.Currency }
    ∷ []

-- the bounding rules that stand by themselves
abbrev pub bounding_rules : List (Name Named)
bounding_rules =
    record { word = codes "ceiling"; case = rule.Ceiling }
    ∷ record { word = codes "all-in"; case = rule.AllIn }
    ∷ record { word = codes "one-by-one"; case = rule.OneByOne }
    ∷ record { word = codes "limits"; case = rule.Limits }
    ∷ record { word = codes "shares"; case = rule.Shares }
    ∷ record { word = codes "tangent"; case = rule.Tangent }
    ∷ []
