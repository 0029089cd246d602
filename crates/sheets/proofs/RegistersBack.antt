-- The fields of a register that was written are read back: each is joined with its number's entry, or one clashes.
use Rattle.std.proofs.Common.{◌≡◌, ℕ, suc, ◌+◌, ◌<◌, ◌≤◌, Bool, true, false, eqb, ◌⊎◌, List, [], ◌∷◌, ◌++◌, length, Ok, Result, sym, refl, ap, ◌∙◌, subst, inl, inr, ⊎_elim, arith}
use Rattle.std.proofs.lemmas.List.{append_assoc, length-append}
use Rattle.std.proofs.lemmas.Bool.{both_ways, cases_Bool}
use Rattle.offers.specs.declared.refusals.Refusal.{Refusal}
use Rattle.offers.specs.declared.registers.Entry.{Entry}
use Rattle.offers.specs.declared.registers.Entry.TheVariants.{Vacant, Open, Withdrawn}
use Rattle.offers.specs.declared.kinds.Kind.{Kind}
use Rattle.offers.specs.Fields.{within, high_first}
use Rattle.offers.specs.Layouts.{fault_of}
use Rattle.offers.specs.Registers.{InRange}
use Rattle.offers.specs.Memory.{Entries, RecordOf, layout_of, entries_of, with_entries}
use Rattle.offers.proofs.MemoryLaws.{with_own}
use Rattle.sheets.specs.declared.fields.Cursor.{Cursor}
use Rattle.sheets.specs.Fields.{content_size, agrees, joined_entry}
use Rattle.sheets.specs.Reading.{after_field, catch_from}
use Rattle.sheets.specs.Writing.{field_bytes, register_bytes}
use Rattle.sheets.proofs.Checks.{Passed, passed-answer, passed-left}
use Rattle.sheets.proofs.FieldsBack.{content_of, field_of, split-back, Ready, passed-back, joined_back, accord-back}
use Rattle.sheets.proofs.Joins.{merged_all, Accord}
use Rattle.sheets.proofs.KindLaws.{lawful-kind, entries_with, with_twice}
use Rattle.sheets.proofs.Steps.{content_joined, FieldPassed, same_ok, stepped}
use Rattle.sheets.proofs.Turns.{catch_next}

-- a sheet read on from a cursor, with turns enough
abbrev pub read_on : Entries → Cursor → List ℕ → Result Entries Refusal
read_on all cursor bs = catch_from (length bs) all cursor bs

-- the fields accord with what stands there, and a catch-up goes on after them
pub record Joining (caught : Result Entries Refusal) (accord : Type 0) (tag : ℕ) (left : Entries) (rest : List ℕ) : Type 0 where
  pub accords : accord
  pub next : Cursor
  pub lower : next.last_tag ≤ tag
  pub goes_on : caught ≡ read_on left next rest

-- they do not accord, and the catch-up is not accepted
pub record Clashing (caught : Result Entries Refusal) (accord : Type 0) : Type 0 where
  pub apart : accord → ⊥
  pub never : (after : Entries) → caught ≡ Ok after → ⊥

-- one or the other
abbrev pub Met : Result Entries Refusal → Type 0 → ℕ → Entries → List ℕ → Type 0
Met caught accord tag left rest = Joining caught accord tag left rest ⊎ Clashing caught accord

-- what comes of fewer fields is what comes of more that go on like them
pub met_like : {A B : Type 0} (caught fewer : Result Entries Refusal) (tag : ℕ) (left same : Entries) (rest : List ℕ) → caught ≡ fewer → same ≡ left → (A → B) → (B → A) → Met fewer A tag same rest → Met caught B tag left rest
met_like caught fewer tag left same rest e f to from (inl j) = inl (record {
  accords = to j.accords;
  next = j.next;
  lower = j.lower;
  goes_on = e ∙ j.goes_on ∙ ap (λ (x : Entries). read_on x j.next rest) f;
})
met_like caught fewer tag left same rest e f to from (inr c) = inr (record {
  apart = λ b. c.apart (from b);
  never = λ after g. c.never after (sym e ∙ g);
})

-- where a reader stands in the register of a kind: before number n, with the entries es of another round to come
record Place (k : Kind) (es front ms : List (Entry (RecordOf k))) (all : Entries) (n : ℕ) (cursor : Cursor) : Type 0 where
  is : entries_of all k ≡ front ++ ms
  long : length es ≡ length ms
  whole : length front + length ms ≡ (layout_of k).count
  ranged : InRange (layout_of k) es
  at : n ≡ length front + 1
  ready : Ready cursor (layout_of k).tag n

module _ (k : Kind) (e : Entry (RecordOf k)) (es front : List (Entry (RecordOf k))) (m : Entry (RecordOf k)) (ms : List (Entry (RecordOf k))) (all : Entries) (n : ℕ) (cursor : Cursor) (here : Place k (e ∷ es) front (m ∷ ms) all n cursor) where
  -- one number on, after an entry is put in for this one
  place_on : (new : Entry (RecordOf k)) (next : Cursor) → Ready next (layout_of k).tag (n + 1) → Place k es (front ++ new ∷ []) ms (with_entries all k (front ++ new ∷ ms)) (n + 1) next
  place_on new next ready =
      let longer = length-append front (new ∷ []) in
      let at = here.at in
      let long = here.long in
      let whole = here.whole in
      record {
        is = entries_with all k (front ++ new ∷ ms) ∙ sym (append_assoc front (new ∷ []) ms);
        long = omega arith;
        whole = omega arith;
        ranged = λ i. here.ranged (suc i);
        at = omega arith;
        ready = ready;
      }

  -- what is put in there and after stands in the register as it was
  left_on : (new : Entry (RecordOf k)) → with_entries (with_entries all k (front ++ new ∷ ms)) k ((front ++ new ∷ []) ++ merged_all ms es) ≡ with_entries all k (front ++ new ∷ merged_all ms es)
  left_on new =
      with_twice all k (front ++ new ∷ ms) ((front ++ new ∷ []) ++ merged_all ms es)
      ∙ ap (with_entries all k) (append_assoc front (new ∷ []) (merged_all ms es))

  -- a vacant number has no field
  vacant_met : (rest : List ℕ)
      → Met (read_on (with_entries all k (front ++ m ∷ ms)) cursor (register_bytes (layout_of k) (n + 1) es ++ rest)) (Accord (layout_of k) ms es) (layout_of k).tag (with_entries (with_entries all k (front ++ m ∷ ms)) k ((front ++ m ∷ []) ++ merged_all ms es)) rest
      → Met (read_on all cursor (register_bytes (layout_of k) (n + 1) es ++ rest)) ((◌≡◌ {A = Bool} true true) × Accord (layout_of k) ms es) (layout_of k).tag (with_entries all k (front ++ m ∷ merged_all ms es)) rest
  vacant_met rest =
      met_like _ _ (layout_of k).tag _ _ rest
      (ap (λ (x : Entries). read_on x cursor (register_bytes (layout_of k) (n + 1) es ++ rest)) (sym (with_own all k) ∙ ap (with_entries all k) here.is))
      (left_on m) (λ a. (refl, a)) (λ a. a.1)

  -- the field of any other one
  module _ (status : ℕ) (known : within 1 2 status ≡ true) (r : RecordOf k) (fine : fault_of (layout_of k) r ≡ 0) where
    -- where it accords with the number's entry, the two are joined
    field-joins : (bs : List ℕ) → agrees (layout_of k) m r ≡ true
        → read_on all cursor (field_bytes (layout_of k) n status r ++ bs)
        ≡ read_on (with_entries all k (front ++ joined_entry m (eqb status 2) r ∷ ms)) (after_field cursor (field_of k n status r []) n) bs
    field-joins bs same =
        let content = content_of (layout_of k) n status r in
        let most : n ≤ (layout_of k).count = omega (arith, here.at, here.whole) in
        let passed = passed-back (layout_of k) (lawful-kind k) n status r fine front ms m here.at cursor most here.ready known same in
        let ok = subst (λ (xs : List (Entry (RecordOf k))). Passed (layout_of k) xs cursor content) (sym here.is) passed in
        let new =
        passed-left (layout_of k) (entries_of all k) cursor content ok
        ∙ ap (λ (xs : List (Entry (RecordOf k))). content_joined (layout_of k) xs content) here.is
        ∙ joined_back (layout_of k) (lawful-kind k) n status r fine front ms m here.at in
        catch_next all cursor (field_bytes (layout_of k) n status r ++ bs) (field_of k n status r bs) n (split-back k n status r bs cursor.next_byte) (passed-answer (layout_of k) (entries_of all k) cursor content ok)
        ∙ ap (λ (xs : List (Entry (RecordOf k))). read_on (with_entries all k xs) (after_field cursor (field_of k n status r []) n) bs) new

    -- only then is it accepted
    field-accords : (bs : List ℕ) (after : Entries) → read_on all cursor (field_bytes (layout_of k) n status r ++ bs) ≡ Ok after → agrees (layout_of k) m r ≡ true
    field-accords bs after f =
        let more = high_first 2 (content_size (layout_of k)) ++ (content_of (layout_of k) n status r ++ bs) in
        let s = stepped (length more) all cursor (layout_of k).tag more after f in
        let p = same_ok s.piece (field_of k n status r bs) (sym s.splits ∙ split-back k n status r bs cursor.next_byte) in
        let ok = subst (FieldPassed all cursor) p s.passed in
        accord-back (layout_of k) (lawful-kind k) n status r fine front ms m here.at cursor
        (subst (λ (xs : List (Entry (RecordOf k))). Passed (layout_of k) xs cursor (content_of (layout_of k) n status r)) here.is ok)

    -- the reader stands before the next number then
    after-field : Ready (after_field cursor (field_of k n status r []) n) (layout_of k).tag (n + 1)
    after-field = record { lower = omega arith; before = λ _. omega arith }

    -- so, with the fields of the numbers after it, it is joined or it clashes
    field_met : (rest : List ℕ)
        → Met (read_on (with_entries all k (front ++ joined_entry m (eqb status 2) r ∷ ms)) (after_field cursor (field_of k n status r []) n) (register_bytes (layout_of k) (n + 1) es ++ rest)) (Accord (layout_of k) ms es) (layout_of k).tag (with_entries (with_entries all k (front ++ joined_entry m (eqb status 2) r ∷ ms)) k ((front ++ joined_entry m (eqb status 2) r ∷ []) ++ merged_all ms es)) rest
        → Met (read_on all cursor ((field_bytes (layout_of k) n status r ++ register_bytes (layout_of k) (n + 1) es) ++ rest)) ((agrees (layout_of k) m r ≡ true) × Accord (layout_of k) ms es) (layout_of k).tag (with_entries all k (front ++ joined_entry m (eqb status 2) r ∷ merged_all ms es)) rest
    field_met rest met =
        let bs = register_bytes (layout_of k) (n + 1) es ++ rest in
        let regroup = ap (read_on all cursor) (append_assoc (field_bytes (layout_of k) n status r) (register_bytes (layout_of k) (n + 1) es) rest) in
        ⊎_elim
        (λ same. met_like _ _ (layout_of k).tag _ _ rest (regroup ∙ field-joins bs same) (left_on (joined_entry m (eqb status 2) r)) (λ a. (same, a)) (λ a. a.1) met)
        (λ differs. inr (record {
          apart = λ a. both_ways (agrees (layout_of k) m r) differs a.0;
          never = λ after f. both_ways (agrees (layout_of k) m r) differs (field-accords bs after (sym regroup ∙ f));
        }))
        (cases_Bool (agrees (layout_of k) m r))

-- each entry of another round is joined with this round's, or one clashes
register_met : (k : Kind) (es front ms : List (Entry (RecordOf k))) (all : Entries) (n : ℕ) (cursor : Cursor) → Place k es front ms all n cursor → (rest : List ℕ)
    → Met (read_on all cursor (register_bytes (layout_of k) n es ++ rest)) (Accord (layout_of k) ms es) (layout_of k).tag (with_entries all k (front ++ merged_all ms es)) rest
register_met k [] front [] all n cursor here rest = inl (record {
  accords = tt;
  next = cursor;
  lower = here.ready.lower;
  goes_on = ap (λ (x : Entries). read_on x cursor rest) (sym (with_own all k) ∙ ap (with_entries all k) here.is);
})
register_met k [] front (m ∷ ms) all n cursor here rest = absurd (omega (arith, here.long))
register_met k (e ∷ es) front [] all n cursor here rest = absurd (omega (arith, here.long))
register_met k (Vacant ∷ es) front (m ∷ ms) all n cursor here rest =
    let later : Ready cursor (layout_of k).tag (n + 1) = record { lower = here.ready.lower; before = λ f. omega (arith, here.ready.before f) } in
    vacant_met k Vacant es front m ms all n cursor here rest
    (register_met k es (front ++ m ∷ []) ms _ (n + 1) cursor (place_on k Vacant es front m ms all n cursor here m cursor later) rest)
register_met k (Open r ∷ es) front (m ∷ ms) all n cursor here rest =
    let next = place_on k (Open r) es front m ms all n cursor here (joined_entry m false r) _ (after-field k (Open r) es front m ms all n cursor here 1 refl r (here.ranged 0)) in
    field_met k (Open r) es front m ms all n cursor here 1 refl r (here.ranged 0) rest
    (register_met k es (front ++ joined_entry m false r ∷ []) ms _ (n + 1) _ next rest)
register_met k (Withdrawn r ∷ es) front (m ∷ ms) all n cursor here rest =
    let next = place_on k (Withdrawn r) es front m ms all n cursor here (joined_entry m true r) _ (after-field k (Withdrawn r) es front m ms all n cursor here 2 refl r (here.ranged 0)) in
    field_met k (Withdrawn r) es front m ms all n cursor here 2 refl r (here.ranged 0) rest
    (register_met k es (front ++ joined_entry m true r ∷ []) ms _ (n + 1) _ next rest)

-- so it is with the whole register of a kind, for a reader that has come to lower tags only
pub kind_met : (k : Kind) (all : Entries) (es : List (Entry (RecordOf k))) → length (entries_of all k) ≡ (layout_of k).count → length es ≡ (layout_of k).count → InRange (layout_of k) es
    → (cursor : Cursor) → cursor.last_tag < (layout_of k).tag → (rest : List ℕ)
    → Met (read_on all cursor (register_bytes (layout_of k) 1 es ++ rest)) (Accord (layout_of k) (entries_of all k) es) (layout_of k).tag (with_entries all k (merged_all (entries_of all k) es)) rest
kind_met k all es mine theirs ok cursor lower =
    register_met k es [] (entries_of all k) all 1 cursor
    (record { is = refl; long = omega arith; whole = omega arith; ranged = ok; at = refl; ready = record { lower = omega arith; before = λ f. absurd (omega arith) } })
