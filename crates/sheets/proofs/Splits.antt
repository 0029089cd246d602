-- What a field's header leaves: a content of its kind's length, and a rest that is shorter.
use Rattle.std.proofs.Common.{◌≡◌, ℕ, ◌+◌, ◌*◌, ◌≤◌, cond, eqb, leb, ◌⊎◌, List, [], ◌∷◌, length, get_or, take, drop, Some, None, Ok, Err, Option, Result, refl, subst, inl, inr, ⊎_elim, arith, length-drop, length-take}
use Rattle.std.proofs.lemmas.Bool.{cond_both, leb-true, eqb-true, le-leb, eq-eqb}
use Rattle.offers.specs.declared.refusals.Refusal.{Refusal}
use Rattle.offers.specs.declared.kinds.Kind.{Kind}
use Rattle.offers.specs.Memory.{layout_of}
use Rattle.sheets.specs.Fields.{SheetField, split_field, content_size}
use Rattle.offers.specs.Marks.{kind_of_tag}

-- what holds of a piece and the bytes that it was split off
pub record SplitOff (bs : List ℕ) (p : SheetField) : Type 0 where
  -- the content has its kind's length
  pub whole : length p.content ≡ content_size (layout_of p.kind)
  -- three bytes of header, the content and the rest are all that there was
  pub shorter : length p.rest + length p.content + 3 ≡ length bs

-- the same of what splitting answers; a refusal owes nothing
abbrev Splits : List ℕ → Result SheetField Refusal → Type 0
Splits bs (Ok p) = SplitOff bs p
Splits bs (Err e) = Unit {0}

-- a length is the kind's, and so many bytes follow, or the field is refused
cut_splits : (k : Kind) (tag high low : ℕ) (body : List ℕ) (size : ℕ) (strange short : Refusal)
    → Splits (tag ∷ high ∷ low ∷ body) (cond (eqb size (content_size (layout_of k))) (cond (leb size (length body)) (Ok (record { kind = k; content = take size body; rest = drop size body })) (Err short)) (Err strange))
cut_splits k tag high low body size strange short =
    cond_both (eqb size (content_size (layout_of k))) _ _ (Splits (tag ∷ high ∷ low ∷ body))
    (λ same. cond_both (leb size (length body)) _ _ (Splits (tag ∷ high ∷ low ∷ body))
    (λ there.
    let e = eqb-true size (content_size (layout_of k)) same in
    let enough = leb-true size (length body) there in
    record {
      whole = simp length-take (omega arith);
      shorter = simp (length-take, length-drop) (omega arith);
    })
    (λ _. tt))
    (λ _. tt)

-- a tag marks a kind or none
marked : (o : Option Kind) → (o ≡ None) ⊎ ((k : Kind) × (o ≡ Some k))
marked None = inl refl
marked (Some k) = inr (k, refl)

-- every way through splitting
splits : (bs : List ℕ) (byte : ℕ) → Splits bs (split_field bs byte)
splits [] byte = tt
splits (tag ∷ []) byte = tt
splits (tag ∷ high ∷ []) byte = tt
splits (tag ∷ high ∷ low ∷ body) byte = ⊎_elim unknown known (marked (kind_of_tag tag))
  where
    unknown : kind_of_tag tag ≡ None → Splits (tag ∷ high ∷ low ∷ body) (split_field (tag ∷ high ∷ low ∷ body) byte)
    unknown e = rw e tt

    known : (k : Kind) × (kind_of_tag tag ≡ Some k) → Splits (tag ∷ high ∷ low ∷ body) (split_field (tag ∷ high ∷ low ∷ body) byte)
    known (k, e) = rw e (cut_splits k tag high low body (high * 256 + low) _ _)

-- a piece that was split off
pub split_off : (bs : List ℕ) (byte : ℕ) (p : SheetField) → split_field bs byte ≡ Ok p → SplitOff bs p
split_off bs byte p e = subst (Splits bs) e (splits bs byte)

-- a header in order, and enough bytes after it
pub split_in_order : (bs : List ℕ) (byte : ℕ) (k : Kind) (size : ℕ) → 3 ≤ length bs → kind_of_tag (get_or bs 0 0) ≡ Some k
    → size ≡ get_or bs 1 0 * 256 + get_or bs 2 0 → size ≡ content_size (layout_of k) → size ≤ length (drop 3 bs)
    → split_field bs byte ≡ Ok (record { kind = k; content = take size (drop 3 bs); rest = drop size (drop 3 bs) })
split_in_order [] byte k size h tag is whole enough = absurd (omega arith)
split_in_order (t ∷ []) byte k size h tag is whole enough = absurd (omega arith)
split_in_order (t ∷ high ∷ []) byte k size h tag is whole enough = absurd (omega arith)
split_in_order (t ∷ high ∷ low ∷ body) byte k size h tag is whole enough =
    rw (tag, ← is, eq-eqb size (content_size (layout_of k)) whole, le-leb size (length body) enough)
