-- The bands of a report, each with its sale, are those of the docket beside the sales that fill them.
use Rattle.std.proofs.Common.{◌≡◌, ℕ, ◌-◌, List, [], ◌∷◌, map, get_or, refl, ap, ◌∙◌}
use Rattle.clearing.specs.declared.dockets.OpenBand.{OpenBand}
use Rattle.clearing.specs.Lawful.{View, filled_sales}
use Rattle.clearing.specs.Ranged.{Ranged}
use Rattle.rounds.specs.Model.{sold_row}
use Rattle.rounds.proofs.Rows.{sales_of_row}
use Rattle.reports.specs.declared.report.Sold.{Sold}
use Rattle.reports.specs.Reports.{sold_bands, sold_line}

-- what a map makes of bands, each beside its number
beside : (f : OpenBand → ℕ) (bs : List OpenBand) → map (λ b. record { band = b.number; quantity = f b }) bs ≡ sold_bands bs (map f bs)
beside f [] = refl
beside f (b ∷ bs) = ap (λ (rest : List Sold). record { band = b.number; quantity = f b } ∷ rest) (beside f bs)

-- what an award's row has for each open band is its filled sale
pub sold_filled : (v : View) (choice : ℕ) → Ranged v → map (sold_line (sold_row v choice)) v.bands ≡ sold_bands v.bands (filled_sales v choice)
sold_filled v choice ranged =
    beside (λ b. get_or (sold_row v choice) (b.number - 1) 0) v.bands ∙ ap (sold_bands v.bands) (sales_of_row v choice ranged)
