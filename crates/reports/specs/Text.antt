-- What the program prints, byte by byte.
use Rattle.std.specs.Prelude.{ℕ, List, [], ◌∷◌, ◌++◌, map, length, ℤ, vec_items, codes, decimal}
use Rattle.std.specs.List.{flat_map}
use Rattle.std.specs.Fmt.{signed_decimal}
use Rattle.offers.specs.Refusals.{code_number}
use Rattle.clearing.specs.Choices.{taken}
use Rattle.clearing.specs.Lawful.{View, choices, filled_sales, surplus}
use Rattle.reports.specs.declared.report.RefusedSheet.{RefusedSheet}
use Rattle.reports.specs.declared.report.Report.{Report}
use Rattle.reports.specs.declared.report.Sold.{Sold}
use Rattle.reports.specs.Reports.{sold_bands}

abbrev pub line_end : List ℕ
line_end = 10 ∷ []

-- a line for each element
abbrev pub lines_of : {X : Type 0} → (X → List ℕ) → List X → List ℕ
lines_of line xs = flat_map line xs

abbrev pub package_line : ℕ → List ℕ
package_line number = codes "package " ++ (decimal number ++ line_end)

abbrev pub band_line : Sold → List ℕ
band_line s = codes "band " ++ (decimal s.band ++ (codes " sold " ++ (decimal s.quantity ++ line_end)))

-- open packages and choices, taken packages, open bands with what they are sold, and the surplus
abbrev pub text_of : ℕ → ℕ → List ℕ → List Sold → ℤ → List ℕ
text_of open_packages all_choices packages bands worth =
    (codes "open " ++ (decimal open_packages ++ (codes " choices " ++ (decimal all_choices ++ line_end))))
    ++ (lines_of package_line packages
    ++ (lines_of band_line bands
    ++ (codes "surplus " ++ (signed_decimal worth ++ line_end))))

abbrev pub report_text : Report → List ℕ
report_text r = text_of r.open r.choices (vec_items r.packages) (vec_items r.bands) r.surplus

-- the text of a choice of a docket, with the sales that fill the bands: all by rising number
abbrev pub award_text : View → ℕ → List ℕ
award_text v choice =
    text_of (length v.packages) (choices v) (map (λ p. p.number) (taken v.packages choice))
    (sold_bands v.bands (filled_sales v choice)) (surplus v choice (filled_sales v choice))

-- a refused sheet: the code, and the byte where the field at fault starts
abbrev pub refused_text : RefusedSheet → List ℕ
refused_text r = codes "refused " ++ (decimal (code_number r.0.code) ++ (codes " at " ++ (decimal r.0.byte ++ line_end)))
