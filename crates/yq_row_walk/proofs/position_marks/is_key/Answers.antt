use Rattle.std.proofs.Common.{rules, ◌≡◌, ℕ, eqb, not, List, Option, Some, true, false, sym, ap, ◌∙◌}
use Rattle.std.{proofs.lemmas.Bool.{eq-eqb, eqb-true, false≢true, ne_eqb, not-false}, proofs.lemmas.Option.same_Some, specs.List.slice_get}
use Rattle.yq_core.specs.Paths.{is_item, key_is}
use Rattle.yq_outline.{specs.Outline.key_of, specs.RowWalk.line_rank, proofs.WalkPositions.located}
use Rattle.yq_outline.proofs.WalkMarks.{beside_agrees, item_agrees, key_agrees, quoted_agrees}
use Rattle.yq_row_table.specs.View.{Slices, slices}
use Rattle.yq_row_walk.proofs.LevelMarks.{item_at, level_of_line}
use Rattle.yq_row_walk.proofs.position_marks.is_key.Goals as goal

-- an item has no key
no_key : (key : List ℕ) (o : Option (List ℕ)) → true ≡ is_item o → false ≡ key_is key o
no_key key o item = search (rules, false≢true)

-- what is no item has one
ranked : (n : ℕ) (o : Option (List ℕ)) → not (eqb n 2) ≡ is_item o → false ≡ is_item o → n ≡ 2
ranked n o e none = eqb-true n 2 (not-false (eqb n 2) (e ∙ sym none))

pub returns-then-level-ne2 : goal.returns-then-level-ne2
returns-then-level-ne2 c = λ h l is.
    no_key c.args.key.now (key_of l.mark)
    (sym (ap not (ne_eqb _ 2 c.if-level-ne2.true)) ∙ item_at c.args.level l (level_of_line c.args.rows.now c.args.document h c.args.position c.requires.position l is c.args.level c.requires.level))

pub is_written-requires-clause-line : goal.is_written-requires-clause-line
is_written-requires-clause-line c = beside_agrees c.args.rows.now c.args.document c.requires.document c.args.position c.requires.position c.key.result.now c.key.ensures

pub is_written-requires-clause-quoted : goal.is_written-requires-clause-quoted
is_written-requires-clause-quoted c = quoted_agrees c.args.rows.now c.args.document c.requires.document c.args.position c.requires.position c.key.result.now c.key.ensures

pub returns : goal.returns
returns c = λ h l is.
    let s = c.args.rows.now in
    let d = c.args.document in
    let q = c.args.position in
    let at = c.requires.position in
    let k = located s d h q at in
    let n : ℕ = line_rank q.line (slices k.row) in
    let agrees : (x : Slices) → slice_get s.rows q.row ≡ Some x → n ≡ line_rank q.line x = λ x e. ap (line_rank q.line) (same_Some _ _ (sym k.pieces ∙ e)) in
    let none : false ≡ is_item (key_of l.mark) = sym (ap not (eq-eqb _ 2 c.if-level-ne2.false)) ∙ item_at c.args.level l (level_of_line s d h q at l is c.args.level c.requires.level) in
    c.is_written.ensures ∙ key_agrees s d h q at l is n agrees c.key.result.now c.args.key.now c.key.ensures (ranked n (key_of l.mark) (item_agrees s d h q at l is n agrees) none)
