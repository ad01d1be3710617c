-- What is at an item or entry, and at a root, case by case.
use Rattle.std.proofs.Common.{◌≡◌, ℕ, eqb, eq-eqb, eqb-true, Bool, true, false, cond, List, [], ◌∷◌, ◌++◌, length, refl, sym, ap, ◌∙◌}
use Rattle.std.proofs.lemmas.Bool.{cond_both, eqb-false, false≢true}
use Rattle.yq_core.specs.Text.{is_empty}
use Rattle.yq_row_table.{specs.Rows.{Block, Content, Inline, Nothing, Row, print_row, rows_text}, specs.Seams.is_block}
use Rattle.yq_row_table.specs.View.{content_cut, slices}
use Rattle.yq_documents.specs.Pieces.{TextPiece}
use Rattle.yq_places.specs.PlacedRows.{PlacedPart}
use Rattle.yq_places.specs.Placements.{Placement, RowsOfEntry, after_entry, alone, before_entry, below, beside, block, compact_in}
use Rattle.yq_places.specs.Placements.{entry_placement, held, is_alone, lone, no_rows, past_mark, root, root_lines, root_placement, under}
use Rattle.yq_batch.specs.RowEnds.{HasNoHead}

-- where no node is on the line of a key or dash: what is below that
mark_below : (e : RowsOfEntry) (x : Content) → is_block x ≡ false → is_empty (slices e.row).head ≡ true → past_mark e x ≡ below e e.under
mark_below e (Nothing tail) plain none = refl
mark_below e (Inline space node tail) plain none = ap (λ (b : Bool). cond b (below e e.under) (beside (held e))) none
mark_below e (Block space anchor x) plain none = absurd (false≢true (sym plain))

pub entry_bare : (e : RowsOfEntry) → HasNoHead e → entry_placement e ≡ below e e.under
entry_bare e h = ap (λ (b : Bool). cond b (past_mark e e.row.content) (compact_in e)) (eq-eqb e.line (length e.row.dashes) h.last) ∙ mark_below e e.row.content h.plain h.none

-- a key or dash without a node on its line, by the rows under it, and others
module _ (e : RowsOfEntry) (P : Placement → Type 0) (none : HasNoHead e → e.under ≡ [] → P (beside (held e)))
    (one : HasNoHead e → (r : Row) (rs : List Row) → e.under ≡ r ∷ rs → is_alone r ≡ true → P (alone (lone (before_entry e ++ print_row e.row []) r (rows_text rs (after_entry e)))))
    (more : HasNoHead e → (r : Row) (rs : List Row) → e.under ≡ r ∷ rs → is_alone r ≡ false → P (under (held e) r.column)) where
  by_below : HasNoHead e → (us : List Row) → e.under ≡ us → P (below e us)
  by_below h [] is = none h is
  by_below h (r ∷ rs) is =
      cond_both (is_alone r) (alone (lone (before_entry e ++ print_row e.row []) r (rows_text rs (after_entry e)))) (under (held e) r.column) P (one h r rs is) (more h r rs is)

  pub entry_by : (is_empty (slices e.row).head ≡ false → P (beside (held e))) → ((indent : ℕ) → P (block (held e) indent)) →
      ((e.line ≡ length e.row.dashes → ⊥) → P (compact_in e)) → P (entry_placement e)
  entry_by own lines dash =
      cond_both (eqb e.line (length e.row.dashes)) (past_mark e e.row.content) (compact_in e) P (λ last. by_content (eqb-true e.line (length e.row.dashes) last) e.row.content refl)
      (λ other. dash (eqb-false e.line (length e.row.dashes) other))
    where
      by_content : e.line ≡ length e.row.dashes → (x : Content) → e.row.content ≡ x → P (past_mark e x)
      by_content last (Nothing tail) is = by_below (record { last = last; plain = ap is_block is; none = ap (λ (y : Content). is_empty (content_cut y).3) is }) e.under refl
      by_content last (Inline space node tail) is =
          cond_both (is_empty (slices e.row).head) (below e e.under) (beside (held e)) P (λ empty. by_below (record { last = last; plain = ap is_block is; none = empty }) e.under refl) own
      by_content last (Block space anchor b) is = lines b.indent.columns

-- a root, by the rows of its document
pub root_by : (q : PlacedPart) (P : Placement → Type 0) (rs : List Row) → ((w : TextPiece) → P (no_rows w)) →
    ((r : Row) (us : List Row) → rs ≡ r ∷ us → is_alone r ≡ true → P (alone (lone q.before r (rows_text us (q.part.end ++ q.after))))) →
    ((r : Row) (us : List Row) → rs ≡ r ∷ us → is_alone r ≡ false → P (root r.column (root_lines q r us))) → P (root_placement q rs)
root_by q P [] none one more = none (record { before = q.before ++ q.part.end; text = []; after = q.after })
root_by q P (r ∷ us) none one more =
    cond_both (is_alone r) (alone (lone q.before r (rows_text us (q.part.end ++ q.after)))) (root r.column (root_lines q r us)) P (one r us refl) (more r us refl)
