-- A catch-up field by field: a sheet's length is turns enough, and each turn takes one field off.
use Rattle.std.proofs.Common.{◌≡◌, ℕ, zero, suc, ◌+◌, ◌≤◌, List, [], ◌∷◌, length, Ok, Err, Result, sym, refl, ◌∙◌, arith}
use Rattle.offers.specs.declared.refusals.Refusal.{Refusal}
use Rattle.offers.specs.Memory.{Entries}
use Rattle.sheets.specs.declared.fields.Cursor.{Cursor}
use Rattle.sheets.specs.Fields.{SheetField, split_field}
use Rattle.sheets.specs.Reading.{enter_field, after_field, and_then, catch_from}
use Rattle.sheets.proofs.Splits.{split_off}

-- the bytes of a piece and its header are those that it was split off
pub split-shorter : (bs : List ℕ) (byte : ℕ) (p : SheetField) → split_field bs byte ≡ Ok p → length p.rest + length p.content + 3 ≡ length bs
split-shorter bs byte p e = (split_off bs byte p e).shorter

-- what goes on in the same way comes to the same
and_then-same : {X Y : Type 0} (r : Result X Refusal) (f g : X → Result Y Refusal) → ((x : X) → r ≡ Ok x → f x ≡ g x) → and_then r f ≡ and_then r g
and_then-same (Ok x) f g same = same x refl
and_then-same (Err e) f g same = refl

-- nothing is left to read
caught : (t : ℕ) (all : Entries) (cursor : Cursor) → catch_from t all cursor [] ≡ Ok all
caught zero all cursor = refl
caught (suc t) all cursor = refl

-- every count of turns that is at least the length of the bytes gives the same
pub catch_more : (t u : ℕ) (all : Entries) (cursor : Cursor) (bs : List ℕ) → length bs ≤ t → length bs ≤ u → catch_from t all cursor bs ≡ catch_from u all cursor bs
catch_more t u all cursor [] h k = caught t all cursor ∙ sym (caught u all cursor)
catch_more zero u all cursor (b ∷ bs) h k = absurd (omega arith)
catch_more (suc t) zero all cursor (b ∷ bs) h k = absurd (omega arith)
catch_more (suc t) (suc u) all cursor (b ∷ bs) h k =
    and_then-same (split_field (b ∷ bs) cursor.next_byte) _ _ (λ p e.
    let fewer = split-shorter (b ∷ bs) cursor.next_byte p e in
    and_then-same (enter_field all cursor p).answer _ _ (λ number _.
    catch_more t u (enter_field all cursor p).after (after_field cursor p number) p.rest (omega arith) (omega arith)))

-- a field in order is taken, and what is left goes on from there
pub catch_next : (all : Entries) (cursor : Cursor) (bs : List ℕ) (p : SheetField) (number : ℕ) → split_field bs cursor.next_byte ≡ Ok p → (enter_field all cursor p).answer ≡ Ok number
    → catch_from (length bs) all cursor bs ≡ catch_from (length p.rest) (enter_field all cursor p).after (after_field cursor p number) p.rest
catch_next all cursor [] p number e f = absurd (omega (arith, split-shorter [] cursor.next_byte p e))
catch_next all cursor (b ∷ bs) p number e f =
    let fewer = split-shorter (b ∷ bs) cursor.next_byte p e in
    rw (e, f) (catch_more (length bs) (length p.rest) (enter_field all cursor p).after (after_field cursor p number) p.rest (omega arith) (omega arith))
