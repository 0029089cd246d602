-- Catching up with a sheet that was written: the entries of the two rounds are joined kind by kind, or some clash.
use Rattle.std.proofs.Common.{◌≡◌, ℕ, ◌<◌, ◌≤◌, List, [], ◌∷◌, ◌++◌, length, Ok, Result, sym, refl, ap, ◌∙◌, inl, inr, arith}
use Rattle.std.proofs.lemmas.List.{append-nil}
use Rattle.offers.specs.declared.refusals.Refusal.{Refusal}
use Rattle.offers.specs.declared.kinds.Kind.{Kind}
use Rattle.offers.specs.declared.kinds.Kind.TheVariants as kind
use Rattle.offers.specs.Memory.{Entries, Sound, layout_of, entries_of, with_entries}
use Rattle.offers.proofs.MemoryLaws.{lifted-each}
use Rattle.sheets.specs.declared.fields.Cursor.{Cursor}
use Rattle.sheets.specs.Reading.{start_cursor, catch_up}
use Rattle.sheets.specs.Writing.{kind_bytes, sheet_of}
use Rattle.sheets.proofs.Joins.{merged_all, Accord, merged-long}
use Rattle.sheets.proofs.RegistersBack.{read_on, Met, kind_met}

-- the fields of some kinds
abbrev kinds_bytes : List Kind → Entries → List ℕ
kinds_bytes [] all = []
kinds_bytes (k ∷ ks) all = kind_bytes all k ++ kinds_bytes ks all

-- the entries with those of one kind joined with another round's
abbrev kind_merged : Kind → Entries → Entries → Entries
kind_merged k all other = with_entries all k (merged_all (entries_of all k) (entries_of other k))

-- and with those of some kinds
abbrev kinds_merged : List Kind → Entries → Entries → Entries
kinds_merged [] all other = all
kinds_merged (k ∷ ks) all other = kinds_merged ks (kind_merged k all other) other

-- the entries of some kinds accord, kind after kind
abbrev KindsAccord : List Kind → Entries → Entries → Type 0
KindsAccord [] all other = Unit {0}
KindsAccord (k ∷ ks) all other = Accord (layout_of k) (entries_of all k) (entries_of other k) × KindsAccord ks (kind_merged k all other) other

-- kinds by rising tag, each above the one before
abbrev Rising : ℕ → List Kind → Type 0
Rising tag [] = Unit {0}
Rising tag (k ∷ ks) = (tag < (layout_of k).tag) × Rising (layout_of k).tag ks

-- each number of each kind has an entry
abbrev pub Numbered : Entries → Type 0
Numbered all = (k : Kind) → length (entries_of all k) ≡ (layout_of k).count

-- also after those of a kind are joined
merged-numbered : (k : Kind) (all other : Entries) → Numbered all → Numbered (kind_merged k all other)
merged-numbered k all other long j =
    lifted-each (λ _ before after. length after ≡ length before) (λ _ _. refl) all k (merged_all (entries_of all k) (entries_of other k)) (merged-long (entries_of all k) (entries_of other k)) j
    ∙ long j

-- a catch-up is accepted, and leaves these entries, where there is accord and only there
pub record Read (caught : Result Entries Refusal) (accord : Type 0) (left : Entries) : Type 0 where
  pub joins : accord → caught ≡ Ok left
  pub only : (after : Entries) → caught ≡ Ok after → accord

-- so it is of fields and the rest of a sheet, if it is so of the rest
met_read : {A B : Type 0} (caught : Result Entries Refusal) (tag : ℕ) (left : Entries) (rest : List ℕ) (cursor : Entries) → Met caught A tag left rest → ((next : Cursor) → next.last_tag ≤ tag → Read (read_on left next rest) B cursor) → Read caught (A × B) cursor
met_read caught tag left rest cursor (inl j) after =
    let more = after j.next j.lower in
    record {
      joins = λ a. j.goes_on ∙ more.joins a.1;
      only = λ mine e. (j.accords, more.only mine (sym j.goes_on ∙ e));
    }
met_read caught tag left rest cursor (inr c) after = record {
  joins = λ a. absurd (c.apart a.0);
  only = λ mine e. absurd (c.never mine e);
}

-- the fields of some kinds, kind after kind
kinds_read : (ks : List Kind) (tag : ℕ) → Rising tag ks → (all other : Entries) → Numbered all → Sound other → (cursor : Cursor) → cursor.last_tag ≤ tag
    → Read (read_on all cursor (kinds_bytes ks other)) (KindsAccord ks all other) (kinds_merged ks all other)
kinds_read [] tag rising all other long sound cursor lower = record { joins = λ _. refl; only = λ _ _. tt }
kinds_read (k ∷ ks) tag rising all other long sound cursor lower =
    met_read _ (layout_of k).tag (kind_merged k all other) (kinds_bytes ks other) (kinds_merged ks (kind_merged k all other) other)
    (kind_met k all (entries_of other k) (long k) (sound.numbered k) (sound.in_range k) cursor (omega (arith, rising.0)) (kinds_bytes ks other))
    (kinds_read ks (layout_of k).tag rising.1 (kind_merged k all other) other (merged-numbered k all other long) sound)

-- the kinds by rising tag
abbrev five : List Kind
five = kind.Package ∷ kind.Band ∷ kind.Pair ∷ kind.Exclusion ∷ kind.Limit ∷ []

-- their fields are the sheet
sheet_is : (all : Entries) → sheet_of all ≡ kinds_bytes five all
sheet_is all = simp append-nil

-- the entries of two rounds, joined
abbrev pub merged_entries : Entries → Entries → Entries
merged_entries all other = kinds_merged five all other

-- kind by kind these are what the entries of each kind become
pub entries-merged : (all other : Entries) (k : Kind) → entries_of (merged_entries all other) k ≡ merged_all (entries_of all k) (entries_of other k)
entries-merged all other kind.Package = refl
entries-merged all other kind.Band = refl
entries-merged all other kind.Pair = refl
entries-merged all other kind.Exclusion = refl
entries-merged all other kind.Limit = refl

-- the entries of two rounds accord, whatever the kind
abbrev pub Accords : Entries → Entries → Type 0
Accords all other = (k : Kind) → Accord (layout_of k) (entries_of all k) (entries_of other k)

-- those that accord kind after kind accord each for itself
to_each : (all other : Entries) → KindsAccord five all other → Accords all other
to_each all other a kind.Package = a.0
to_each all other a kind.Band = a.1.0
to_each all other a kind.Pair = a.1.1.0
to_each all other a kind.Exclusion = a.1.1.1.0
to_each all other a kind.Limit = a.1.1.1.1.0

-- and the other way round
from_each : (all other : Entries) → Accords all other → KindsAccord five all other
from_each all other a = (a kind.Package, (a kind.Band, (a kind.Pair, (a kind.Exclusion, (a kind.Limit, tt)))))

-- so every sheet that was written is read
pub sheet_read : (all other : Entries) → Numbered all → Sound other → Read (catch_up all (sheet_of other)) (Accords all other) (merged_entries all other)
sheet_read all other long sound =
    let whole = ap (catch_up all) (sheet_is other) in
    let rising : Rising 0 five = (omega arith, (omega arith, (omega arith, (omega arith, (omega arith, tt))))) in
    let read = kinds_read five 0 rising all other long sound start_cursor (omega arith) in
    record {
      joins = λ a. whole ∙ read.joins (from_each all other a);
      only = λ mine e. to_each all other (read.only mine (sym whole ∙ e));
    }
