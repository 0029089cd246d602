-- `add`: each sum takes up what the package counts in it, and has room for it.
use Rattle.std.proofs.Common.{◌≡◌, ◌-◌, get_or, sym, ap, ◌∙◌, arith, rules}
use Rattle.clearing.specs.declared.tallies.Tally.{Tally}
use Rattle.clearing.proofs.Addings.{Sized, begun, with_before, with_after, on_date, dated_yes, dated_no, dated-is, zoned, added-zoned, added-plain}
use Rattle.std.proofs.lemmas.Bool.{eqb-true, eqb-false}
use Rattle.clearing.proofs.Fits.{each-most, priced_ranges}
use Rattle.clearing.proofs.tallies.Tally.add.Goals as goal
use Rattle.clearing.proofs.tallies.Tally.add.Goals.{then-is_dated, else-is_dated, then-is_dated-2, else-is_dated-2}

pub bounds-self-terms : goal.bounds-self-terms
bounds-self-terms c = let r = priced_ranges c.args.more.now c.requires.fits in omega arith

pub overflow_add-self-then-terms-eq1 : goal.overflow_add-self-then-terms-eq1
overflow_add-self-then-terms-eq1 c =
    let second : c.if-is_dated-2.self.nameplate ≡ c.if-is_dated.self.nameplate =
    elim c.if-is_dated-2.branch [
      | then-is_dated-2 w ↦ ap (λ (t : Tally). t.nameplate) w.self-is
      | else-is_dated-2 w ↦ ap (λ (t : Tally). t.nameplate) w.self-is
    ] in
    let first : c.if-is_dated.self.nameplate ≡ c.args.self.now.nameplate =
    elim c.if-is_dated.branch [
      | then-is_dated w ↦ ap (λ (t : Tally). t.nameplate) w.self-is
      | else-is_dated w ↦ ap (λ (t : Tally). t.nameplate) w.self-is
    ] in
    let r = priced_ranges c.args.more.now c.requires.fits in
    let i = c.args.more.now.terms.interconnection_zone - 1 in
    omega (arith, ap (λ xs. get_or xs i 0) (second ∙ first), each-most 390000000 c.args.self.now.nameplate i c.requires.room.nameplate)

pub overflow_sub-self-then-terms-eq1 : goal.overflow_sub-self-then-terms-eq1
overflow_sub-self-then-terms-eq1 c = let r = priced_ranges c.args.more.now c.requires.fits in omega arith

pub bounds-self-terms-then-terms-eq1-2 : goal.bounds-self-terms-then-terms-eq1-2
bounds-self-terms-then-terms-eq1-2 c = let r = priced_ranges c.args.more.now c.requires.fits in omega arith

pub overflow_add-self-then-terms-eq1-2 : goal.overflow_add-self-then-terms-eq1-2
overflow_add-self-then-terms-eq1-2 c =
    let second : c.if-is_dated-2.self.export ≡ c.if-is_dated.self.export =
    elim c.if-is_dated-2.branch [
      | then-is_dated-2 w ↦ ap (λ (t : Tally). t.export) w.self-is
      | else-is_dated-2 w ↦ ap (λ (t : Tally). t.export) w.self-is
    ] in
    let first : c.if-is_dated.self.export ≡ c.args.self.now.export =
    elim c.if-is_dated.branch [
      | then-is_dated w ↦ ap (λ (t : Tally). t.export) w.self-is
      | else-is_dated w ↦ ap (λ (t : Tally). t.export) w.self-is
    ] in
    let r = priced_ranges c.args.more.now c.requires.fits in
    let i = c.args.more.now.terms.export_zone - 1 in
    omega (arith, ap (λ xs. get_or xs i 0) (second ∙ first), each-most 390000000 c.args.self.now.export i c.requires.room.export)

pub overflow_cast-self-then-terms-eq1-4 : goal.overflow_cast-self-then-terms-eq1-4
overflow_cast-self-then-terms-eq1-4 c = let r = priced_ranges c.args.more.now c.requires.fits in search (rules, arith)

pub offset_bounds-self-terms-then-terms-eq1 : goal.offset_bounds-self-terms-then-terms-eq1
offset_bounds-self-terms-then-terms-eq1 c = let r = priced_ranges c.args.more.now c.requires.fits in omega arith

pub bounds-self-terms-then-terms-eq1-3 : goal.bounds-self-terms-then-terms-eq1-3
bounds-self-terms-then-terms-eq1-3 c = let r = priced_ranges c.args.more.now c.requires.fits in omega arith

pub returns-then-terms-eq1 : goal.returns-then-terms-eq1
returns-then-terms-eq1 c =
    let t = c.args.self.now in
    let p = c.args.more.now in
    let ranges = priced_ranges p c.requires.fits in
    let u = c.if-is_dated.self in
    let base = begun t p c.add_supply.new.supply in
    let first : u ≡ with_before (on_date t p 1 t.before) base =
    elim c.if-is_dated.branch [
      | then-is_dated w ↦ w.self-is ∙ ap (λ xs. with_before xs base) (dated_yes t p 1 t.before _ (eqb-true p.terms.date 1 (sym w.if-is_dated.ensures)) w.add_supply-then-is_dated.ensures)
      | else-is_dated w ↦ w.self-is ∙ ap (λ xs. with_before xs base) (dated_no t p 1 t.before (eqb-false p.terms.date 1 (sym w.if-is_dated.ensures)))
    ] in
    let second : c.if-is_dated-2.self ≡ with_after (on_date t p 2 u.after) u =
    elim c.if-is_dated-2.branch [
      | then-is_dated-2 w ↦ w.self-is ∙ ap (λ xs. with_after xs u) (dated_yes t p 2 u.after _ (eqb-true p.terms.date 2 (sym w.if-is_dated-2.ensures)) w.add_supply-then-is_dated-2.ensures)
      | else-is_dated-2 w ↦ w.self-is ∙ ap (λ xs. with_after xs u) (dated_no t p 2 u.after (eqb-false p.terms.date 2 (sym w.if-is_dated-2.ensures)))
    ] in
    let long : Sized t = record { supply = omega arith; before = omega arith; after = omega arith; nameplate = omega arith; export = omega arith } in
    let dated = dated-is t p c.requires.room ranges c.add_supply.new.supply u c.if-is_dated-2.self c.add_supply.ensures first second in
    ap (zoned t p) dated ∙ added-zoned t p long ranges c.if-terms-eq1.true

pub returns-else-terms-eq1 : goal.returns-else-terms-eq1
returns-else-terms-eq1 c =
    let t = c.args.self.now in
    let p = c.args.more.now in
    let ranges = priced_ranges p c.requires.fits in
    let u = c.if-is_dated.self in
    let base = begun t p c.add_supply.new.supply in
    let first : u ≡ with_before (on_date t p 1 t.before) base =
    elim c.if-is_dated.branch [
      | then-is_dated w ↦ w.self-is ∙ ap (λ xs. with_before xs base) (dated_yes t p 1 t.before _ (eqb-true p.terms.date 1 (sym w.if-is_dated.ensures)) w.add_supply-then-is_dated.ensures)
      | else-is_dated w ↦ w.self-is ∙ ap (λ xs. with_before xs base) (dated_no t p 1 t.before (eqb-false p.terms.date 1 (sym w.if-is_dated.ensures)))
    ] in
    let second : c.if-is_dated-2.self ≡ with_after (on_date t p 2 u.after) u =
    elim c.if-is_dated-2.branch [
      | then-is_dated-2 w ↦ w.self-is ∙ ap (λ xs. with_after xs u) (dated_yes t p 2 u.after _ (eqb-true p.terms.date 2 (sym w.if-is_dated-2.ensures)) w.add_supply-then-is_dated-2.ensures)
      | else-is_dated-2 w ↦ w.self-is ∙ ap (λ xs. with_after xs u) (dated_no t p 2 u.after (eqb-false p.terms.date 2 (sym w.if-is_dated-2.ensures)))
    ] in
    let long : Sized t = record { supply = omega arith; before = omega arith; after = omega arith; nameplate = omega arith; export = omega arith } in
    let dated = dated-is t p c.requires.room ranges c.add_supply.new.supply u c.if-is_dated-2.self c.add_supply.ensures first second in
    dated ∙ added-plain t p long ranges c.if-terms-eq1.false
