-- Which rows a run of removals has changed, and how deep what comes there now begins.
use Rattle.std.proofs.Common.{◌≡◌, ℕ, ◌+◌, ◌-◌, Bool, true, false, cond, eqb, List, ◌++◌, length, drop, sym, ap, ◌∙◌, subst, append_assoc}
use Rattle.std.{proofs.Common.{arith, length-append, refl}, proofs.Math.Seq.drop-append_seam, proofs.lemmas.Bool.eqb-true}
use Rattle.yq_outline.specs.Lines.{lines_of_rows}
use Rattle.yq_row_table.specs.Rows.{Row}
use Rattle.yq_edit_rules.specs.LineRows.{Begins}
use Rattle.yq_batch.{specs.RowRemovals.{BeginAsLow, stop_after}, specs.declared.changed_rows.ChangedRows.ChangedRows}

-- rows from those on that come after so many others
module _ (rows front own back : List Row) (k : ℕ) (rows_are : rows ≡ front ++ (own ++ back)) where
  pub from_own : drop (k + length front - k) rows ≡ own ++ back
  from_own =
      let at : k + length front - k ≡ length front = omega arith in
      (λ i. drop (at i) (rows_are i)) ∙ drop-append_seam front (own ++ back)

  pub from_back : drop (k + length front + length own - k) rows ≡ back
  from_back =
      let at : k + length front + length own - k ≡ length (front ++ own) = omega (arith, length-append front own) in
      (λ i. drop (at i) ((rows_are ∙ sym (append_assoc front own back)) i)) ∙ drop-append_seam (front ++ own) back

  -- what comes after rows now is no deeper than the row at which the changed ones then end
  pub stop_lower : (z : ChangedRows) (now : List Row) → BeginAsLow back now → (back ≡ drop (z.first - k) rows → BeginAsLow (drop (z.stop - k) rows) now) → BeginAsLow (drop (stop_after z (k + length front + length own) - k) rows) now
  stop_lower z now lower stop = go (eqb (k + length front + length own) z.first) refl
    where
      go : (b : Bool) → eqb (k + length front + length own) z.first ≡ b → BeginAsLow (drop (cond b z.stop (k + length front + length own) - k) rows) now
      go true e = stop (sym from_back ∙ ap (λ (m : ℕ). drop (m - k) rows) (eqb-true (k + length front + length own) z.first e))
      go false e = λ l low. lower l (subst (λ (rs : List Row). Begins l (lines_of_rows rs)) from_back low)
