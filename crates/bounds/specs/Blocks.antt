-- Blocks of choices, and what a bounding rule may say of one. Nothing here searches.
use Rattle.clearing.specs.declared.dockets.PricedPackage.{PricedPackage}
use Rattle.clearing.specs.Choices.{taken}
use Rattle.std.specs.Prelude.{◌≡◌, ℕ, ◌+◌, ◌%◌, ◌^◌, ◌<◌, ◌≤◌, List, length, ℤ, ◌≤ℤ◌, Some, None, Option, ◌-◌, take}
use Rattle.clearing.specs.Closing.{ByClosing}
use Rattle.clearing.specs.Lawful.{View, Lawful, surplus, choices}

-- A block as plain numbers: its first choice, and how many of its lowest digits are free.
pub record Span : Type 0 where
  pub first : ℕ
  pub free : ℕ

-- a block of a docket: its first choice is one of the docket's, and has a 0 for each free digit
pub record InDocket (v : View) (b : Span) : Type 0 where
  pub few : b.free ≤ length v.packages
  pub zeros : b.first % 2 ^ b.free ≡ 0
  pub below : b.first < choices v

-- the choices of a block: whatever the free digits are
pub record InBlock (b : Span) (choice : ℕ) : Type 0 where
  pub from : b.first ≤ choice
  pub below : choice < b.first + 2 ^ b.free

-- the choice of a block that takes every free package
abbrev pub last_of : Span → ℕ
last_of b = b.first + (2 ^ b.free - 1)

-- the packages that every choice of a block takes
abbrev pub fixed : View → Span → List PricedPackage
fixed v b = taken v.packages b.first

-- those that some choice of it takes
abbrev pub possible : View → Span → List PricedPackage
possible v b = taken v.packages (last_of b)

-- those that stand for the free digits
abbrev pub free_ones : View → Span → List PricedPackage
free_ones v b = take b.free v.packages

-- what an answer says of a block: a cap in pesos is at least the surplus of every lawful choice in it, with any sales; none, that no
-- choice in it is lawful
abbrev pub Claims : View → Span → Option ℤ → Type 0
Claims v b (Some cap) = (choice : ℕ) (sales : List ℕ) → InBlock b choice → Lawful v choice sales → surplus v choice sales ≤ℤ cap
Claims v b None = (choice : ℕ) (sales : List ℕ) → InBlock b choice → Lawful v choice sales → ⊥

-- a rule's meaning: one answer for each docket and block
abbrev pub Answers : Type 0
Answers = View → Span → Option ℤ

-- a meaning is sound if its answers are true of every docket that a closing makes and every block of it
abbrev pub SoundRule : Answers → Type 0
SoundRule answers = (v : View) (b : Span) → ByClosing v → InDocket v b → Claims v b (answers v b)
