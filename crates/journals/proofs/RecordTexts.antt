-- What is written of a record is read as that record.
use Rattle.std.proofs.Common.{◌≡◌, ℕ, ◌^◌, ◌<◌, ◌≤◌, Bool, true, leb, List, [], ◌∷◌, map, Ok, refl, arith}
use Rattle.std.specs.List.{list_all}
use Rattle.std.proofs.lemmas.Bool.{and_parts, leb-true}
use Rattle.std.proofs.Math.Nat.{pow-le-pow_right}
use Rattle.offers.specs.Fields.{Field}
use Rattle.offers.specs.Layouts.{Layout}
use Rattle.offers.specs.Tables.{package_layout, band_layout, pair_layout, exclusion_layout, limit_layout}
use Rattle.offers.specs.declared.memory.Offer.{Offer}
use Rattle.offers.specs.declared.memory.Offer.TheVariants as offer
use Rattle.journals.specs.Records.{numbers_at, record_at, offer_at}
use Rattle.journals.specs.Texts.{field_words, record_words, offer_words, kind_of, FieldsFit, OfferFits}
use Rattle.journals.proofs.Decimals.{number_at-decimal, decimal-above, is_word-decimal, above_blank}
use Rattle.journals.proofs.Plain.{Words}

-- every field has eight bytes or fewer
abbrev narrow : {R : Type 0} → List (Field R) → Bool
narrow fields = list_all (λ f. leb f.width 8) fields

-- what fits so few bytes
fits_eight : (width n : ℕ) → width ≤ 8 → n < 256 ^ width → n < 2 ^ 64
fits_eight width n few fits =
    let most : 256 ^ width ≤ 256 ^ 8 = pow-le-pow_right (omega arith) few in
    omega arith

numbers_at-fields : {R : Type 0} (fields : List (Field R)) (r : R) → narrow fields ≡ true → FieldsFit fields r → numbers_at (map (λ f. f.width) fields) (field_words fields r) ≡ Ok (map (λ f. f.value r) fields, [])
numbers_at-fields [] r few fits = refl
numbers_at-fields (f ∷ fields) r few fits =
    let parts = and_parts (leb f.width 8) (narrow fields) few in
    rw (number_at-decimal f.width (f.value r) (fits_eight f.width (f.value r) (leb-true _ _ parts.0) fits.0) fits.0 (field_words fields r), numbers_at-fields fields r parts.1 fits.1)

record_at-words : {R : Type 0} (k : Layout R) (r : R) → narrow k.fields ≡ true → FieldsFit k.fields r → record_at k (record_words k r) ≡ Ok (k.record_of (map (λ f. f.value r) k.fields), [])
record_at-words k r few fits = rw (numbers_at-fields k.fields r few fits)

-- a record of any kind
pub offer_at-words : (o : Offer) → OfferFits o → offer_at (kind_of o) (offer_words o) ≡ Ok (o, [])
offer_at-words (offer.Package r) fits = rw (record_at-words package_layout r refl fits)
offer_at-words (offer.Band r) fits = rw (record_at-words band_layout r refl fits)
offer_at-words (offer.Pair r) fits = rw (record_at-words pair_layout r refl fits)
offer_at-words (offer.Exclusion r) fits = rw (record_at-words exclusion_layout r refl fits)
offer_at-words (offer.Limit r) fits = rw (record_at-words limit_layout r refl fits)

-- its words
fields-words : {R : Type 0} (fields : List (Field R)) (r : R) → narrow fields ≡ true → FieldsFit fields r → Words above_blank (field_words fields r)
fields-words [] r few fits = tt
fields-words (f ∷ fields) r few fits =
    let parts = and_parts (leb f.width 8) (narrow fields) few in
    let below = fits_eight f.width (f.value r) (leb-true _ _ parts.0) fits.0 in
    ((is_word-decimal (f.value r) below, decimal-above (f.value r) below), fields-words fields r parts.1 fits.1)

pub offer-words : (o : Offer) → OfferFits o → Words above_blank (offer_words o)
offer-words (offer.Package r) fits = fields-words package_layout.fields r refl fits
offer-words (offer.Band r) fits = fields-words band_layout.fields r refl fits
offer-words (offer.Pair r) fits = fields-words pair_layout.fields r refl fits
offer-words (offer.Exclusion r) fits = fields-words exclusion_layout.fields r refl fits
offer-words (offer.Limit r) fits = fields-words limit_layout.fields r refl fits
