-- A field that was written is read back: it splits off again, and it is joined where it accords with what stands there.
use Rattle.std.proofs.Common.{◌≡◌, ℕ, ◌+◌, ◌-◌, ◌*◌, ◌<◌, ◌≤◌, min, true, eqb, leb, List, ◌∷◌, ◌++◌, length, get_or, drop, set, Ok, sym, refl, ap, ◌∙◌, arith}
use Rattle.std.proofs.lemmas.List.{length-append, take_at, drop_at, get_or_at, set_at}
use Rattle.std.proofs.lemmas.Bool.{and_from, le-leb}
use Rattle.std.proofs.lemmas.Bool.Decides.{nat_tests}
use Rattle.offers.specs.declared.registers.Entry.{Entry}
use Rattle.offers.specs.declared.registers.Entry.TheVariants.{Vacant}
use Rattle.offers.specs.declared.kinds.Kind.{Kind}
use Rattle.offers.specs.declared.kinds.Kind.TheVariants as kind
use Rattle.offers.specs.Fields.{within, high_first}
use Rattle.offers.specs.Layouts.{Layout, LayoutLaws, bytes_of, fault_of}
use Rattle.offers.specs.Registers.{entry}
use Rattle.offers.specs.Memory.{RecordOf, layout_of}
use Rattle.sheets.specs.declared.fields.Cursor.{Cursor}
use Rattle.sheets.specs.Fields.{SheetField, split_field, content_size, rises, agrees, joined_entry, record_in}
use Rattle.sheets.specs.Writing.{field_bytes}
use Rattle.sheets.proofs.Checks.{Passed}
use Rattle.sheets.proofs.KindLaws.{lawful-kind, marks}
use Rattle.sheets.proofs.Splits.{split_in_order}
use Rattle.sheets.proofs.Steps.{content_joined}

-- the content of a field that was written
abbrev pub content_of : {R : Type 0} → Layout R → ℕ → ℕ → R → List ℕ
content_of k n status r = n ∷ status ∷ bytes_of k r

-- the field with its header taken off
abbrev pub field_of : (k : Kind) → ℕ → ℕ → RecordOf k → List ℕ → SheetField
field_of k n status r rest = record { kind = k; content = content_of (layout_of k) n status r; rest = rest }

-- the two bytes of a content's length give it back
length_back : (k : Kind) → content_size (layout_of k) ≡ get_or (high_first 2 (content_size (layout_of k))) 0 0 * 256 + get_or (high_first 2 (content_size (layout_of k))) 1 0
length_back kind.Package = refl
length_back kind.Band = refl
length_back kind.Pair = refl
length_back kind.Exclusion = refl
length_back kind.Limit = refl

-- so the field splits off what follows it
pub split-back : (k : Kind) (n status : ℕ) (r : RecordOf k) (rest : List ℕ) (byte : ℕ) → split_field (field_bytes (layout_of k) n status r ++ rest) byte ≡ Ok (field_of k n status r rest)
split-back k n status r rest byte =
    let content = content_of (layout_of k) n status r in
    let size = content_size (layout_of k) in
    let long : length content ≡ size = omega (arith, (lawful-kind k).sized r) in
    let enough : size ≤ length (content ++ rest) = omega (arith, length-append content rest) in
    split_in_order (field_bytes (layout_of k) n status r ++ rest) byte k size (omega arith) (marks k) (length_back k) refl enough
    ∙ ap (λ (c : List ℕ). Ok (record { kind = k; content = c; rest = drop size (content ++ rest) })) (take_at content rest size long)
    ∙ ap (λ (c : List ℕ). Ok (record { kind = k; content = content; rest = c })) (drop_at content rest size long)

-- a reader that has come no further than before a number of a tag
pub record Ready (cursor : Cursor) (tag n : ℕ) : Type 0 where
  pub lower : cursor.last_tag ≤ tag
  pub before : cursor.last_tag ≡ tag → cursor.last_number < n

-- takes that number as rising
ready-rises : (cursor : Cursor) (tag n : ℕ) → Ready cursor tag n → rises cursor tag n ≡ true
ready-rises cursor tag n h = let before = h.before in let lower = h.lower in grind (arith, nat_tests)

module _ {R : Type 0} (k : Layout R) (law : LayoutLaws k) (n status : ℕ) (r : R) (fine : fault_of k r ≡ 0) where
  -- the record in a content is the one that was written
  record_back : record_in k (content_of k n status r) ≡ r
  record_back = law.reads_back r fine

  module _ (front ms : List (Entry R)) (m : Entry R) (place : n ≡ length front + 1) where
    -- the number's entry
    entry-back : entry (front ++ m ∷ ms) n ≡ m
    entry-back = get_or_at front m ms Vacant (n - 1) (omega arith)

    -- a content that accords with it passes
    pub passed-back : (cursor : Cursor) → n ≤ k.count → Ready cursor k.tag n → within 1 2 status ≡ true → agrees k m r ≡ true → Passed k (front ++ m ∷ ms) cursor (content_of k n status r)
    passed-back cursor most ready known same =
        let long = length-append front (m ∷ ms) in
        let high : n ≤ min k.count (length (front ++ m ∷ ms)) = omega arith in
        record {
          has_entry = and_from (leb 1 n) (leb n (min k.count (length (front ++ m ∷ ms)))) (le-leb 1 n (omega arith)) (le-leb n (min k.count (length (front ++ m ∷ ms))) high);
          rising = ready-rises cursor k.tag n ready;
          status = known;
          fine = ap (fault_of k) record_back ∙ fine;
          accord = ap (λ (e : Entry R). agrees k e (record_in k (content_of k n status r))) entry-back ∙ ap (agrees k m) record_back ∙ same;
        }

    -- and is joined with it
    pub joined_back : content_joined k (front ++ m ∷ ms) (content_of k n status r) ≡ front ++ joined_entry m (eqb status 2) r ∷ ms
    joined_back =
        ap (λ (e : Entry R). set (front ++ m ∷ ms) (n - 1) (joined_entry e (eqb status 2) (record_in k (content_of k n status r)))) entry-back
        ∙ ap (λ (x : R). set (front ++ m ∷ ms) (n - 1) (joined_entry m (eqb status 2) x)) record_back
        ∙ set_at front m ms (joined_entry m (eqb status 2) r) (n - 1) (omega arith)

    -- only one that accords with it passes
    pub accord-back : (cursor : Cursor) → Passed k (front ++ m ∷ ms) cursor (content_of k n status r) → agrees k m r ≡ true
    accord-back cursor ok =
        sym (ap (agrees k m) record_back)
        ∙ sym (ap (λ (e : Entry R). agrees k e (record_in k (content_of k n status r))) entry-back)
        ∙ ok.accord
