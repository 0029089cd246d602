-- What each code's number is, and which values a refusal with it carries.
use Rattle.std.specs.Prelude.{◌≡◌, ℕ, Bool, true, false}
use Rattle.offers.specs.declared.refusals.Code.{Code}
use Rattle.offers.specs.declared.refusals.Code.TheVariants.{NumberOutside, FieldOutside, AlreadyOpen, AlreadyWithdrawn, NotFiled, CutShort, Strange, NotRising, Clash, PriceFault, NoRoom, StepsOutside, RateOutside}
use Rattle.offers.specs.declared.refusals.Refusal.{Refusal}

abbrev pub code_number : Code → ℕ
code_number NumberOutside = 1
code_number FieldOutside = 2
code_number AlreadyOpen = 3
code_number AlreadyWithdrawn = 4
code_number NotFiled = 5
code_number CutShort = 6
code_number Strange = 7
code_number NotRising = 8
code_number Clash = 9
code_number PriceFault = 10
code_number NoRoom = 11
code_number StepsOutside = 12
code_number RateOutside = 13

-- a refusal that carries its code alone
abbrev pub code_only : Code → Refusal
code_only code = record { code = code; tag = 0; number = 0; field = 0; byte = 0; depth = 0 }

-- which of its values a refusal may carry; the others are 0
pub record Carried : Type 0 where
  pub tag : Bool
  pub number : Bool
  pub field : Bool
  pub byte : Bool
  pub depth : Bool

abbrev pub carried : Code → Carried
carried NumberOutside = record { tag = true; number = true; field = false; byte = true; depth = false }
carried FieldOutside = record { tag = true; number = true; field = true; byte = true; depth = false }
carried AlreadyOpen = record { tag = true; number = true; field = false; byte = false; depth = false }
carried AlreadyWithdrawn = record { tag = true; number = true; field = false; byte = false; depth = false }
carried NotFiled = record { tag = true; number = true; field = false; byte = false; depth = false }
carried CutShort = record { tag = true; number = false; field = false; byte = true; depth = false }
carried Strange = record { tag = true; number = false; field = false; byte = true; depth = false }
carried NotRising = record { tag = true; number = true; field = false; byte = true; depth = false }
carried Clash = record { tag = true; number = true; field = false; byte = true; depth = false }
carried PriceFault = record { tag = true; number = true; field = false; byte = false; depth = true }
carried NoRoom = record { tag = false; number = false; field = false; byte = false; depth = false }
carried StepsOutside = record { tag = false; number = false; field = false; byte = false; depth = false }
carried RateOutside = record { tag = false; number = false; field = false; byte = false; depth = false }

-- a value that is not carried is 0
abbrev ZeroUnless : Bool → ℕ → Type 0
ZeroUnless true n = Unit {0}
ZeroUnless false n = n ≡ 0

-- a refusal carries no more than its code does
pub record Carries (r : Refusal) : Type 0 where
  pub tag : ZeroUnless (carried r.code).tag r.tag
  pub number : ZeroUnless (carried r.code).number r.number
  pub field : ZeroUnless (carried r.code).field r.field
  pub byte : ZeroUnless (carried r.code).byte r.byte
  pub depth : ZeroUnless (carried r.code).depth r.depth
