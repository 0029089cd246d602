-- The laws of the five kinds of record.
use Rattle.std.specs.Prelude.{◌≡◌, ℕ, ◌<◌, Bool, true, false, cond, nat_le, ◌&&◌, ◌==◌, Decides, refl}
use Rattle.std.proofs.Common.{arith, rules}
use Rattle.std.proofs.lemmas.Bool.{and_parts, leb-true}
use Rattle.std.proofs.lemmas.Bool.Decides.{Decides-and, Decides-eqb}
use Rattle.offers.specs.declared.records.Package.{Package}
use Rattle.offers.specs.Fields.{within}
use Rattle.offers.specs.Layouts.{LayoutLaws}
use Rattle.offers.specs.Tables.{package_layout, band_layout, pair_layout, exclusion_layout, limit_layout}
use Rattle.offers.specs.Laws.Layouts.{layout_laws}

-- a value in range has room where the greatest has
fits : (least most room n : ℕ) → most < room → within least most n ≡ true → n < room
fits least most room n h e = omega (arith, leb-true n most (and_parts (nat_le least n) (nat_le n most) e).1)

-- so has one whose range is one of two
fits_either : (b : Bool) (least most low high room n : ℕ) → most < room → high < room
    → cond b (within least most n) (within low high n) ≡ true → n < room
fits_either true least most low high room n h k e = fits least most room n h e
fits_either false least most low high room n h k e = fits low high room n k e

-- the ranges of a package have room in four, eight and one bytes
pub package_laws : LayoutLaws package_layout
package_laws = layout_laws package_layout (λ p. refl) (λ p. search (rules, fits))

-- those of a band in one byte and in four
pub band_laws : LayoutLaws band_layout
band_laws = layout_laws band_layout (λ b. refl) (λ b. search (rules, fits))

-- a pair's second field is in its range, and differs from the first
pub pair_laws : LayoutLaws pair_layout
pair_laws = layout_laws pair_layout (λ p. refl) (λ p. search (rules, fits, and_parts))

-- an exclusion's ranges have room in one byte
pub exclusion_laws : LayoutLaws exclusion_layout
exclusion_laws = layout_laws exclusion_layout (λ e. refl) (λ e. search (rules, fits))

-- a limit's sort says which range its zone and its amount have
pub limit_laws : LayoutLaws limit_layout
limit_laws = layout_laws limit_layout (λ l. refl) (λ l. search (rules, fits, fits_either))

-- equal fields make equal packages
pub package_known : (p q : Package) → Decides (p.power == q.power && (p.energy == q.energy && (p.certificates == q.certificates && (p.nameplate == q.nameplate && (p.price == q.price && (p.power_zone == q.power_zone && (p.interconnection_zone == q.interconnection_zone && (p.export_zone == q.export_zone && (p.price_zone == q.price_zone && (p.date == q.date && (p.unqualified == q.unqualified && (p.dollar == q.dollar)))))))))))) (p ≡ q)
package_known p q =
    let each =
    Decides-and (p.power == q.power) _ (Decides-eqb p.power q.power) (
    Decides-and (p.energy == q.energy) _ (Decides-eqb p.energy q.energy) (
    Decides-and (p.certificates == q.certificates) _ (Decides-eqb p.certificates q.certificates) (
    Decides-and (p.nameplate == q.nameplate) _ (Decides-eqb p.nameplate q.nameplate) (
    Decides-and (p.price == q.price) _ (Decides-eqb p.price q.price) (
    Decides-and (p.power_zone == q.power_zone) _ (Decides-eqb p.power_zone q.power_zone) (
    Decides-and (p.interconnection_zone == q.interconnection_zone) _ (Decides-eqb p.interconnection_zone q.interconnection_zone) (
    Decides-and (p.export_zone == q.export_zone) _ (Decides-eqb p.export_zone q.export_zone) (
    Decides-and (p.price_zone == q.price_zone) _ (Decides-eqb p.price_zone q.price_zone) (
    Decides-and (p.date == q.date) _ (Decides-eqb p.date q.date) (
    Decides-and (p.unqualified == q.unqualified) _ (Decides-eqb p.unqualified q.unqualified) (
    Decides-eqb p.dollar q.dollar))))))))))) in (
      λ e.
          let same = each.0 e in
          λ i. record {
            power = same.0 i;
            energy = same.1.0 i;
            certificates = same.1.1.0 i;
            nameplate = same.1.1.1.0 i;
            price = same.1.1.1.1.0 i;
            power_zone = same.1.1.1.1.1.0 i;
            interconnection_zone = same.1.1.1.1.1.1.0 i;
            export_zone = same.1.1.1.1.1.1.1.0 i;
            price_zone = same.1.1.1.1.1.1.1.1.0 i;
            date = same.1.1.1.1.1.1.1.1.1.0 i;
            unqualified = same.1.1.1.1.1.1.1.1.1.1.0 i;
            dollar = same.1.1.1.1.1.1.1.1.1.1.1 i;
          },
      λ e. each.1 (rw e (search rules)),
    )
