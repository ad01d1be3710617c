use Rattle.std.proofs.Common.{◌≡◌, ℕ, ◌+◌, ◌-◌, ◌≤◌, ◌<◌, ◌&&◌, Bool, List, drop, Some, true, false, not, sym, ap, ◌∙◌, arith, rules}
use Rattle.std.{specs.List.slice_get, specs.Prelude.is_none}
use Rattle.yq_core.specs.Text.{is_empty}
use Rattle.yq_outline.{specs.LinesReading.{have_one_anchor_each, is_free}, specs.Lines.{content_anchor, lines_of_rows}}
use Rattle.yq_outline.{specs.RowWalk.HasRows, specs.declared.line_position.Stretch.Stretch, proofs.WalkPositions.{Located, located}}
use Rattle.yq_row_table.specs.View.{RowsView, Slices, slices}
use Rattle.yq_compose.{proofs.AnchorRows.anchor_some, proofs.ReadyLaws.row_first_line, proofs.RowContents.{named_step, unnamed_step}}
use Rattle.yq_compose.proofs.anchors.second_anchor.Goals.{else-has_anchor-via-then-has_anchor+else-not-is_free}
use Rattle.yq_compose.proofs.anchors.second_anchor.Goals.{else-has_anchor-via-else-has_anchor}
use Rattle.yq_compose.proofs.anchors.second_anchor.Goals as goal

module _ (s : RowsView) (d : Stretch) (h : HasRows s d) (row : ℕ) (from : d.first ≤ row) (upto : row < d.end) (named : Bool)
    (says : (x : Slices) → slice_get s.rows row ≡ Some x → named ≡ not (is_empty x.anchor)) (so_far : have_one_anchor_each (lines_of_rows h.rows) ≡ have_one_anchor_each (lines_of_rows (drop (row - d.first) h.rows))) where
  abbrev k : Located s d h (record { row = row; line = 0 })
  k = located s d h (record { row = row; line = 0 }) (row_first_line s d row from upto)

  next : (row - d.first) + 1 ≡ (row + 1) - d.first
  next = omega (arith, from)

  -- whether the row has none
  none : not named ≡ is_none (content_anchor k.row.content)
  none = ap not (says (slices k.row) k.pieces) ∙ (not_twice _ ∙ anchor_some k.row.content)
    where
      not_twice : (b : Bool) → not (not b) ≡ b
      not_twice b = search rules

  -- past a row without one
  unnamed : named ≡ false → have_one_anchor_each (lines_of_rows h.rows) ≡ have_one_anchor_each (lines_of_rows (drop ((row + 1) - d.first) h.rows))
  unnamed is = so_far ∙ (unnamed_step h.rows (row - d.first) k.row k.there (sym none ∙ ap not is) ∙ ap (λ (i : ℕ). have_one_anchor_each (lines_of_rows (drop i h.rows))) next)

  -- past one with one
  past : (free : Bool) → named ≡ true → ((a : List ℕ) → free ≡ is_free (Some a) (lines_of_rows (drop ((row + 1) - d.first) h.rows))) →
      have_one_anchor_each (lines_of_rows h.rows) ≡ (free && have_one_anchor_each (lines_of_rows (drop ((row + 1) - d.first) h.rows)))
  past free is agrees =
      so_far
      ∙ (named_step h.rows (row - d.first) k.row free k.there (sym none ∙ ap not is) (λ a. agrees a ∙ ap (λ (i : ℕ). is_free (Some a) (lines_of_rows (drop i h.rows))) (sym next))
      ∙ ap (λ (i : ℕ). free && have_one_anchor_each (lines_of_rows (drop i h.rows))) next)

pub returns-then-not-is_free : goal.returns-then-not-is_free
returns-then-not-is_free c = λ h.
    sym (past c.args.x.rows.now c.args.x.document h c.rows.row c.rows.auto.row c.rows-test.true c.has_anchor.result c.has_anchor.ensures (c.rows.invariant h) false c.if-has_anchor.true (c.if-not-is_free.ensures h))

pub rows-preserved : goal.rows-preserved
rows-preserved c = λ h.
    elim c.else-has_anchor.branch [
      | else-has_anchor-via-then-has_anchor+else-not-is_free w ↦
          past c.args.x.rows.now c.args.x.document h c.rows.row c.rows.auto.row c.rows-test.true c.has_anchor.result c.has_anchor.ensures
          (c.rows.invariant h) true w.if-has_anchor.true (w.if-not-is_free.ensures h)
      | else-has_anchor-via-else-has_anchor w ↦ unnamed c.args.x.rows.now c.args.x.document h c.rows.row c.rows.auto.row c.rows-test.true c.has_anchor.result c.has_anchor.ensures (c.rows.invariant h) w.if-has_anchor.false
    ]
