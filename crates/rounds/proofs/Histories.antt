-- Runs with one call more: what they leave, what was accepted in them, and which closing was the last.
use Rattle.std.proofs.Common.{◌≡◌, Bool, true, false, ◌&&◌, ◌||◌, List, [], ◌∷◌, ◌++◌, Ok, sym, refl, ap, ◌∙◌, append_assoc}
use Rattle.clearing.specs.Closing.{closing}
use Rattle.pricing.specs.Prices.{Meaning}
use Rattle.clearing.specs.Lawful.{View, nothing_open}
use Rattle.clearing.proofs.OpenDockets.{closing_open}
use Rattle.rounds.specs.Model.{Call, Close, IsOpen, PlainRound, accepted, step, open_and_vacant, after_from, after, some_accepted}
use Rattle.rounds.specs.Promises.{closes, LastClosing}

-- a run and then another
pub after_append : (m : PlainRound) (xs ys : List Call) → after_from m (xs ++ ys) ≡ after_from (after_from m xs) ys
after_append m [] ys = refl
after_append m (x ∷ xs) ys = after_append (step m x).after xs ys

-- what one call more leaves
pub after_more : (calls : List Call) (call : Call) → after (calls ++ call ∷ []) ≡ (step (after calls) call).after
after_more calls call = after_append open_and_vacant calls (call ∷ [])

or_assoc : (x y z : Bool) → ((x || y) || z) ≡ (x || (y || z))
or_assoc true y z = refl
or_assoc false y z = refl

or_false : (x : Bool) → (x || false) ≡ x
or_false true = refl
or_false false = refl

-- a call is accepted in a run with one call more if it was so before or is that one
pub some_more : (test : Call → Bool) (m : PlainRound) (calls : List Call) (call : Call)
    → some_accepted test m (calls ++ call ∷ []) ≡ (some_accepted test m calls || (test call && accepted (step (after_from m calls) call).answer))
some_more test m [] call = or_false (test call && accepted (step m call).answer)
some_more test m (x ∷ xs) call =
    ap (λ b. (test x && accepted (step m x).answer) || b) (some_more test (step m x).after xs call)
    ∙ sym (or_assoc (test x && accepted (step m x).answer) _ _)

-- what a closing and the calls after it leave
pub since_closing : (before later : List Call) (price : Meaning) → after_from (after (before ++ Close price ∷ [])) later ≡ after (before ++ Close price ∷ later)
since_closing before later price =
    sym (after_append open_and_vacant (before ++ Close price ∷ []) later) ∙ ap after (append_assoc before (Close price ∷ []) later)

pub neither : (x y : Bool) → x ≡ false → y ≡ false → (x || y) ≡ false
neither x y e f = rw e f

-- the last closing stays so with one call more that is no accepted closing
abbrev pub closing_more : (calls : List Call) (v : View) (was : LastClosing calls v) (call : Call) → (closes call && accepted (step (after calls) call).answer) ≡ false → LastClosing (calls ++ call ∷ []) v
closing_more calls v was call none = record {
  before = was.before;
  price = was.price;
  later = was.later ++ call ∷ [];
  so = ap (λ (xs : List Call). xs ++ call ∷ []) was.so ∙ append_assoc was.before (Close was.price ∷ was.later) (call ∷ []);
  was_open = was.was_open;
  made = was.made;
  open_then = was.open_then;
  last =
      let here = since_closing was.before was.later was.price ∙ ap after (sym was.so) in
      some_more closes (after (was.before ++ Close was.price ∷ [])) was.later call
      ∙ neither _ _ was.last (ap (λ (m : PlainRound). closes call && accepted (step m call).answer) here ∙ none);
}

-- a closing that is accepted is the last
abbrev pub closing_now : (calls : List Call) (v : View) (price : Meaning) → (after calls).state ≡ IsOpen
    → closing nothing_open (after calls).entries price ≡ record { answer = Ok tt; after = v } → LastClosing (calls ++ Close price ∷ []) v
closing_now calls v price is-open made = record {
  before = calls;
  price = price;
  later = [];
  so = refl;
  was_open = is-open;
  made = made;
  open_then = closing_open (after calls).entries price v nothing_open made;
  last = refl;
}
