-- A sheet is never longer than the buffer that a line lends which says no length, and what is shown of it is the sheet.
use Rattle.offers.specs.Refusals.{code_only}
use Rattle.std.proofs.Common.{◌≡◌, ℕ, ◌+◌, ◌*◌, ◌≤◌, leb, List, [], ◌∷◌, ◌++◌, length, drop, replicate, Ok, Err, refl, sym, ap, ◌∙◌, append-nil, arith}
use Rattle.std.proofs.lemmas.Bool.{cond-true, le-leb}
use Rattle.std.proofs.lemmas.List.{length-append, length-replicate, take_at, drop_all}
use Rattle.offers.specs.declared.kinds.Kind.TheVariants as kind
use Rattle.offers.specs.declared.registers.Entry.{Entry}
use Rattle.offers.specs.declared.registers.Entry.TheVariants.{Vacant, Open, Withdrawn}
use Rattle.offers.specs.declared.refusals.Code.TheVariants.{NoRoom}
use Rattle.offers.specs.Layouts.{Layout, LayoutLaws}
use Rattle.offers.specs.Tables.{package_layout, band_layout, pair_layout, exclusion_layout, limit_layout}
use Rattle.offers.specs.Laws.Kinds.{package_laws, band_laws, pair_laws, exclusion_laws, limit_laws}
use Rattle.offers.specs.Memory.{Entries, Sound}
use Rattle.sheets.specs.Fields.{content_size}
use Rattle.sheets.specs.Writing.{entry_bytes, register_bytes, kind_bytes, sheet_of, WrittenSheet}
use Rattle.rounds.specs.Model as model
use Rattle.rounds.specs.Model.{PlainStage, written}
use Rattle.journals.specs.declared.lines.Shown.{Shown}
use Rattle.journals.specs.declared.lines.Shown.TheVariants.{Whole, Filled}
use Rattle.journals.specs.Answers.{answer_text, sheet_text, shown_bytes}
use Rattle.journals.specs.Calls.{fullest}
use Rattle.journals.specs.Laws.{SheetsShown}

-- an entry has at most one field
length_entry : {R : Type 0} (k : Layout R) → LayoutLaws k → (n : ℕ) (e : Entry R) → length (entry_bytes k n e) ≤ content_size k + 3
length_entry k law n Vacant = omega arith
length_entry k law n (Open r) = omega (arith, law.sized r)
length_entry k law n (Withdrawn r) = omega (arith, law.sized r)

length_register : {R : Type 0} (k : Layout R) → LayoutLaws k → (n : ℕ) (es : List (Entry R)) → length (register_bytes k n es) ≤ length es * (content_size k + 3)
length_register k law n [] = omega arith
length_register k law n (e ∷ es) =
    let one = length_entry k law n e in
    let more = length_register k law (n + 1) es in
    simp length-append (grind arith)

-- an offer under every number of every kind makes the fullest sheet
sheet-length : (all : Entries) → Sound all → length (sheet_of all) ≤ fullest
sheet-length all sound =
    let packages : length (kind_bytes all kind.Package) ≤ length all.packages * 36 = length_register package_layout package_laws 1 all.packages in
    let bands : length (kind_bytes all kind.Band) ≤ length all.bands * 15 = length_register band_layout band_laws 1 all.bands in
    let pairs : length (kind_bytes all kind.Pair) ≤ length all.pairs * 7 = length_register pair_layout pair_laws 1 all.pairs in
    let exclusions : length (kind_bytes all kind.Exclusion) ≤ length all.exclusions * 7 = length_register exclusion_layout exclusion_laws 1 all.exclusions in
    let limits : length (kind_bytes all kind.Limit) ≤ length all.limits * 11 = length_register limit_layout limit_laws 1 all.limits in
    let n1 : length all.packages ≡ 40 = sound.numbered kind.Package in
    let n2 : length all.bands ≡ 64 = sound.numbered kind.Band in
    let n3 : length all.pairs ≡ 64 = sound.numbered kind.Pair in
    let n4 : length all.exclusions ≡ 64 = sound.numbered kind.Exclusion in
    let n5 : length all.limits ≡ 32 = sound.numbered kind.Limit in
    simp length-append (omega arith)

-- what is shown of a written sheet
abbrev shown_text : Shown → PlainStage → WrittenSheet → List ℕ
shown_text shown stage w = answer_text shown stage (model.Written w.answer w.buffer)

-- a buffer that is long enough begins with the sheet
fills : (shown : Shown) (stage : PlainStage) (all : Entries) (buffer : List ℕ) → length (sheet_of all) ≤ length buffer → let s = sheet_of all in answer_text shown stage (written all buffer) ≡ sheet_text (length s) (shown_bytes shown (length s) (s ++ drop (length s) buffer))
fills shown stage all buffer room =
    let s = sheet_of all in
    ap (shown_text shown stage) (cond-true (leb (length s) (length buffer)) (record { answer = Ok (length s); buffer = s ++ drop (length s) buffer }) (record { answer = Err (code_only NoRoom); buffer = buffer }) (le-leb _ _ room))

pub sheets_shown : SheetsShown
sheets_shown all stage sound =
    let s = sheet_of all in
    let n = length s in
    let most = sheet-length all sound in
    fills Filled stage all (replicate fullest 0) (omega (arith, length-replicate {A = ℕ} fullest 0))
    ∙ (ap (sheet_text n) (take_at s (drop n (replicate fullest 0)) n refl)
    ∙ sym (fills Whole stage all (replicate n 0) (omega (arith, length-replicate {A = ℕ} n 0))
    ∙ ap (sheet_text n) (ap (λ rest. s ++ rest) (drop_all n (replicate n 0) (omega (arith, length-replicate {A = ℕ} n 0))) ∙ append-nil s)))
