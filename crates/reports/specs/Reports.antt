-- What is reported of an award.
use Rattle.std.specs.Prelude.{◌≡◌, ℕ, ◌-◌, List, [], ◌∷◌, map, length, vec_items, slice_index_or}
use Rattle.clearing.specs.declared.dockets.OpenBand.{OpenBand}
use Rattle.clearing.specs.Choices.{taken}
use Rattle.clearing.specs.Lawful.{View, choices, filled_sales}
use Rattle.search.specs.Search.{Standing}
use Rattle.rounds.specs.Model.{State, IsOpen, IsClosed, IsAwarded, sold_row}
use Rattle.reports.specs.declared.report.Sold.{Sold}
use Rattle.reports.specs.declared.report.Report.{Report}

-- each band's number with its sale, one beside the other
abbrev pub sold_bands : List OpenBand → List ℕ → List Sold
sold_bands [] sales = []
sold_bands (b ∷ bs) [] = []
sold_bands (b ∷ bs) (s ∷ ss) = record { band = b.number; quantity = s } ∷ sold_bands bs ss

-- what a band is sold, with its number: number n stands at place n - 1 of a row of sales
abbrev pub sold_line : List ℕ → OpenBand → Sold
sold_line row b = record { band = b.number; quantity = slice_index_or row (b.number - 1) 0 }

-- What is reported of a docket and its award: all by rising number.
pub record Reports (v : View) (award : Standing) (report : Report) : Type 0 where
  pub open_packages : report.open ≡ length v.packages
  pub all_choices : report.choices ≡ choices v
  pub packages : vec_items report.packages ≡ map (λ p. p.number) (taken v.packages award.leader)
  -- each open band with what the award's row has at its number
  pub bands : vec_items report.bands ≡ map (sold_line (sold_row v award.leader)) v.bands
  -- which are the sales that fill the bands
  pub sales : vec_items report.bands ≡ sold_bands v.bands (filled_sales v award.leader)
  pub worth : report.surplus ≡ award.surplus

-- only an awarded round has a report
abbrev pub ReportsIn : State → Report → Type 0
ReportsIn IsOpen report = ⊥
ReportsIn (IsClosed v at) report = ⊥
ReportsIn (IsAwarded v at) report = Reports v at report
