-- Kinds by their tags: the five tags differ, and the entries of one kind stand apart from those of the others.
use Rattle.std.proofs.Common.{◌≡◌, List, Some, Option, sym, refl, ap, ◌∙◌}
use Rattle.offers.specs.declared.registers.Entry.{Entry}
use Rattle.offers.specs.declared.kinds.Kind.{Kind}
use Rattle.offers.specs.declared.kinds.Kind.TheVariants as kind
use Rattle.offers.specs.Layouts.{LayoutLaws}
use Rattle.offers.specs.Memory.{Entries, RecordOf, layout_of, entries_of, with_entries}
use Rattle.offers.specs.Laws.Kinds.{package_laws, band_laws, pair_laws, exclusion_laws, limit_laws}
use Rattle.offers.proofs.MemoryLaws.{lifted-each}
use Rattle.offers.specs.Marks.{kind_of_tag}

-- every kind keeps the laws of a layout
pub lawful-kind : (k : Kind) → LayoutLaws (layout_of k)
lawful-kind kind.Package = package_laws
lawful-kind kind.Band = band_laws
lawful-kind kind.Pair = pair_laws
lawful-kind kind.Exclusion = exclusion_laws
lawful-kind kind.Limit = limit_laws

-- a kind's tag marks that kind
pub marks : (k : Kind) → kind_of_tag (layout_of k).tag ≡ Some k
marks kind.Package = refl
marks kind.Band = refl
marks kind.Pair = refl
marks kind.Exclusion = refl
marks kind.Limit = refl

-- so two kinds with one tag are the same
pub same_kind : (j k : Kind) → (layout_of j).tag ≡ (layout_of k).tag → j ≡ k
same_kind j k e =
    let o : ◌≡◌ {A = Option Kind} (Some j) (Some k) = sym (marks j) ∙ ap kind_of_tag e ∙ marks k in
    cc

-- the entries put in for a kind are those that it has then
pub entries_with : (all : Entries) (k : Kind) (es : List (Entry (RecordOf k))) → entries_of (with_entries all k es) k ≡ es
entries_with all kind.Package es = refl
entries_with all kind.Band es = refl
entries_with all kind.Pair es = refl
entries_with all kind.Exclusion es = refl
entries_with all kind.Limit es = refl

-- entries put in twice are those put in last
pub with_twice : (all : Entries) (k : Kind) (es fs : List (Entry (RecordOf k))) → with_entries (with_entries all k es) k fs ≡ with_entries all k fs
with_twice all kind.Package es fs = refl
with_twice all kind.Band es fs = refl
with_twice all kind.Pair es fs = refl
with_twice all kind.Exclusion es fs = refl
with_twice all kind.Limit es fs = refl

-- a kind with another tag keeps its entries
pub entries_beside : (all : Entries) (j : Kind) (es : List (Entry (RecordOf j))) (k : Kind) → ((layout_of j).tag ≡ (layout_of k).tag → ⊥) → entries_of (with_entries all j es) k ≡ entries_of all k
entries_beside all j es =
    lifted-each (λ k before after. ((layout_of j).tag ≡ (layout_of k).tag → ⊥) → after ≡ before) (λ _ _ _. refl) all j es (λ differs. absurd (differs refl))
