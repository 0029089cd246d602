-- Which case a byte stands for: a kind by its tag, a limit's sort, a package's date.
use Rattle.std.specs.Prelude.{ℕ, Some, None, Ok, Err, Option, Result, ◌==◌, if◌then◌else◌}
use Rattle.offers.specs.declared.kinds.Unknown.{Unknown}
use Rattle.offers.specs.declared.records.Sort.{Sort}
use Rattle.offers.specs.declared.records.Sort.TheVariants.{Interconnection, Export, Percentage}
use Rattle.offers.specs.declared.records.Date.{Date}
use Rattle.offers.specs.declared.records.Date.TheVariants.{Standard, Before, After}
use Rattle.offers.specs.declared.kinds.Kind.{Kind}
use Rattle.offers.specs.declared.kinds.Kind.TheVariants as kind
use Rattle.offers.specs.Memory.{layout_of}

-- the kind that a tag marks
abbrev pub kind_of_tag : ℕ → Option Kind
kind_of_tag t =
    if t == (layout_of kind.Package).tag then Some kind.Package
    else if t == (layout_of kind.Band).tag then Some kind.Band
    else if t == (layout_of kind.Pair).tag then Some kind.Pair
    else if t == (layout_of kind.Exclusion).tag then Some kind.Exclusion
    else if t == (layout_of kind.Limit).tag then Some kind.Limit else None

-- the byte of a limit's sort
abbrev pub sort_byte : Sort → ℕ
sort_byte Interconnection = 1
sort_byte Export = 2
sort_byte Percentage = 3

-- the byte of a package's date
abbrev pub date_byte : Date → ℕ
date_byte Standard = 0
date_byte Before = 1
date_byte After = 2

-- what is made of a byte that stands for a case or for none
abbrev pub known : {C : Type 0} → ℕ → Option C → Result C Unknown
known byte (Some c) = Ok c
known byte None = Err (record { 0 = byte })

-- the case, or the byte that stands for none
abbrev pub decoded : {C : Type 0} → (ℕ → Option C) → ℕ → Result C Unknown
decoded case byte = known byte (case byte)
