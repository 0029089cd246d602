-- Lines of which each is of one element.
use Rattle.std.proofs.Common.{ℕ, List, take}
use Rattle.std.specs.declared.fmt.Formatter.{Formatter}
use Rattle.std.specs.Fmt.{IsPlainFormatter, HasWritten}
use Rattle.reports.specs.Text.{lines_of}

-- where f is plain, g is f after the lines of the first i elements
abbrev pub Lined : {W X : Type 0} → (W → List ℕ → W → Type 0) → (X → List ℕ) → List X → Formatter W → ℕ → Formatter W → Type 0
Lined took line xs f i g = IsPlainFormatter f → HasWritten took f (lines_of line (take i xs)) g
