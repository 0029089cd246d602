-- The sheet of a round's entries is faithful: to a vacant round, to this round, and to every other.
use Rattle.std.proofs.Common.{◌≡◌, ℕ, zero, suc, List, length, get_or, replicate, Ok, sym, refl, ap, ◌∙◌, subst}
use Rattle.std.proofs.lemmas.List.{length-replicate}
use Rattle.offers.specs.declared.registers.Entry.{Entry}
use Rattle.offers.specs.declared.registers.Entry.TheVariants.{Vacant}
use Rattle.offers.specs.declared.kinds.Kind.{Kind}
use Rattle.offers.specs.declared.kinds.Kind.TheVariants as kind
use Rattle.offers.specs.Registers.{Onward, InRange}
use Rattle.offers.specs.Memory.{Entries, Sound, RecordOf, layout_of, entries_of, with_entries, all_vacant}
use Rattle.sheets.specs.Laws.{Faithful}
use Rattle.sheets.specs.Reading.{catch_up}
use Rattle.sheets.specs.Writing.{sheet_of}
use Rattle.sheets.proofs.Further.{FurtherIn, Further, further_same}
use Rattle.sheets.proofs.Joins.{merged-long, merged_further, merged-ranged, merged_swap, further_accord, further_becomes}
use Rattle.sheets.proofs.KindLaws.{lawful-kind}
use Rattle.sheets.proofs.SheetsBack.{Numbered, Accords, merged_entries, entries-merged, sheet_read}
use Rattle.sheets.proofs.Steps.{same_ok}

-- entries that are the same kind by kind are the same
same_entries : (a b : Entries) → ((k : Kind) → entries_of a k ≡ entries_of b k) → a ≡ b
same_entries a b same =
    let packages = same kind.Package in
    let bands = same kind.Band in
    let pairs = same kind.Pair in
    let exclusions = same kind.Exclusion in
    let limits = same kind.Limit in
    let written_out : with_entries a kind.Package a.packages ≡ with_entries b kind.Package b.packages = cc in
    written_out

-- a round becomes what has come further than it by catching up with its sheet
further_read : (all later : Entries) → Numbered all → Sound later → Further all later → catch_up all (sheet_of later) ≡ Ok later
further_read all later long sound further =
    (sheet_read all later long sound).joins (λ k. further_accord (layout_of k) (entries_of all k) (entries_of later k) (further k))
    ∙ ap Ok (same_entries (merged_entries all later) later (λ k. entries-merged all later k ∙ further_becomes (entries_of all k) (entries_of later k) (further k)))

-- the entries that a vacant round has of a kind
vacant-entries : (k : Kind) → entries_of all_vacant k ≡ replicate (layout_of k).count Vacant
vacant-entries kind.Package = refl
vacant-entries kind.Band = refl
vacant-entries kind.Pair = refl
vacant-entries kind.Exclusion = refl
vacant-entries kind.Limit = refl

-- every entry comes after a vacant one
vacant-onward : {R : Type 0} (n i : ℕ) (e : Entry R) → Onward (get_or (replicate n Vacant) i Vacant) e
vacant-onward zero i e = tt
vacant-onward (suc n) zero e = tt
vacant-onward (suc n) (suc i) e = vacant-onward n i e

-- so every round has come further than a vacant one
vacant_further : (all : Entries) → Numbered all → Further all_vacant all
vacant_further all long k =
    subst (λ (es : List (Entry (RecordOf k))). FurtherIn es (entries_of all k)) (sym (vacant-entries k))
    (record {
      onward = λ i. vacant-onward (layout_of k).count i (get_or (entries_of all k) i Vacant);
      as_long = long k ∙ sym (length-replicate (layout_of k).count Vacant);
    })

-- and a vacant round has an entry for each number
vacant-numbered : Numbered all_vacant
vacant-numbered k = ap length (vacant-entries k) ∙ length-replicate (layout_of k).count Vacant

-- so it reads back what was written
reads_back : (all : Entries) → Sound all → catch_up all_vacant (sheet_of all) ≡ Ok all
reads_back all sound = further_read all_vacant all vacant-numbered sound (vacant_further all sound.numbered)

module _ (all other : Entries) (sound : Sound all) (good : Sound other) where
  -- two rounds that accord become the same, whichever catches up with the other
  either_way : Accords all other → merged_entries all other ≡ merged_entries other all
  either_way accords =
      same_entries (merged_entries all other) (merged_entries other all) (λ k.
      entries-merged all other k
      ∙ merged_swap (layout_of k) (lawful-kind k) (entries_of all k) (entries_of other k) (sound.numbered k ∙ sym (good.numbered k)) (sound.in_range k) (good.in_range k) (accords k)
      ∙ sym (entries-merged other all k))

  -- what a round becomes is sound
  merged-sound : Sound (merged_entries all other)
  merged-sound = record {
    in_range = λ k. subst (InRange (layout_of k)) (sym (entries-merged all other k)) (merged-ranged (layout_of k) (entries_of all k) (entries_of other k) (sound.in_range k) (good.in_range k));
    numbered = λ k. ap length (entries-merged all other k) ∙ merged-long (entries_of all k) (entries_of other k) ∙ sound.numbered k;
  }

  -- and has come further than the round was
  merged_beyond : Further all (merged_entries all other)
  merged_beyond k = subst (FurtherIn (entries_of all k)) (sym (entries-merged all other k)) (merged_further (entries_of all k) (entries_of other k))

-- what a round has that accepted another's sheet
accepted_read : (all other mine : Entries) → Sound all → Sound other → catch_up all (sheet_of other) ≡ Ok mine → Accords all other × (mine ≡ merged_entries all other)
accepted_read all other mine sound good e =
    let read = sheet_read all other sound.numbered good in
    let accords = read.only mine e in
    (accords, same_ok mine (merged_entries all other) (sym e ∙ read.joins accords))

-- the sheet of sound entries
pub faithful : (all : Entries) → Sound all → Faithful all
faithful all sound = record {
  reads_back = reads_back all sound;
  apart = λ other good e. same_ok other all (sym (reads_back other good) ∙ ap (catch_up all_vacant) e ∙ reads_back all sound);
  own = further_read all all sound.numbered sound (λ k. further_same (entries_of all k));
  agree = λ other mine theirs good e f.
      let here = accepted_read all other mine sound good e in
      let there = accepted_read other all theirs good sound f in
      here.1 ∙ either_way all other sound good here.0 ∙ sym there.1;
  in_turn = λ other mine good e.
      let here = accepted_read all other mine sound good e in
      let is = here.1 ∙ either_way all other sound good here.0 in
      subst (λ (x : Entries). catch_up other (sheet_of x) ≡ Ok x) (sym is)
      (further_read other (merged_entries other all) good.numbered (merged-sound other all good sound) (merged_beyond other all good sound));
}
