-- The rows of an item or entry among those of its document, and its key or dash.
use Rattle.std.proofs.Common.{inl, inr, ◌≡◌, ℕ, true, List, [], ◌∷◌, ◌++◌, length, sym, ap, ◌∙◌, subst, arith, length-append}
use Rattle.yq_core.{specs.Paths.Step, proofs.BlockPieceLaws.{IsLf, append_lf}}
use Rattle.yq_outline.{specs.Group.level_or, specs.Outline.IsEven, specs.Lines.{lines_of_rows, row_lines}}
use Rattle.yq_row_table.{specs.Exchange.asked_after, specs.Grammar.{AreRows, IsRow, Limit, is_entry, limit_after, unlimited}}
use Rattle.yq_row_table.{specs.Rows.{Cut, Row, cut_text, print_row, rows_text}, proofs.PlaceLaws.row_then}
use Rattle.yq_row_table.proofs.seams.SeamLaws.{rows_text-append}
use Rattle.yq_documents.specs.Reading.{part_outline}
use Rattle.yq_places.{specs.Placements.{RowsOfEntry, after_entry}, proofs.CommentPieceLaws.Ended}
use Rattle.yq_edit_rules.{specs.DocumentRows.after_document, specs.PlacementLaws.HasItsRows, specs.Unders.HasUnder}
use Rattle.yq_edit_rules.{proofs.EndedRowLaws.rows_ended, proofs.FirstReplaceLaws.rows_after, proofs.LineLaws.row_count}
use Rattle.yq_edit_rules.{proofs.PartLaws.{document_known, part_rows}, proofs.UnderLaws.is_mark}

-- a row and those under it end in an LF, or nothing is after them
under_ended : (limit : Limit) (r : Row) (under back : List Row) (gap rest : List ℕ) → AreRows limit (r ∷ (under ++ back)) gap rest → Ended (rows_text (r ∷ under) []) (rows_text back (gap ++ rest))
under_ended limit r [] back gap rest h = rows_ended limit [] r back gap rest h
under_ended limit r (q ∷ qs) back gap rest h = go (under_ended (limit_after r) q qs back gap rest h.1)
  where
    go : Ended (rows_text (q ∷ qs) []) (rows_text back (gap ++ rest)) → Ended (rows_text (r ∷ (q ∷ qs)) []) (rows_text back (gap ++ rest))
    go (inl lf) = inl (subst IsLf (sym (row_then r [] (rows_text (q ∷ qs) []))) (append_lf (print_row r []) (rows_text (q ∷ qs) []) lf))
    go (inr none) = inr none

module _ (n : ℕ) (s : Step) (ss : List Step) (c : Cut) (e : RowsOfEntry) (t : HasItsRows n s ss c e) where
  -- the text after them
  pub after_there : after_entry e ≡ rows_text e.back (t.part.end ++ after_document n c)
  after_there = λ i. rows_text e.back (t.end_is i ++ t.following_is i)

  pub under_there : rows_text (e.under ++ e.back) (t.part.end ++ after_document n c) ≡ rows_text e.under (after_entry e)
  under_there = rows_text-append e.under e.back (t.part.end ++ after_document n c) ∙ ap (rows_text e.under) (sym after_there)

  -- they are there
  pub rows_there : AreRows (asked_after unlimited e.front) (e.row ∷ (e.under ++ e.back)) t.part.end (after_document n c)
  rows_there =
      let z : List ℕ = after_document n c in
      rows_after unlimited e.front (e.row ∷ (e.under ++ e.back)) t.part.end z
      (subst (λ rs. AreRows unlimited rs t.part.end z) t.rows_are (part_rows (cut_text c) c n t.part t.old (document_known (cut_text c) c n t.part t.old).cut))

  pub row_there : IsRow (asked_after unlimited e.front) e.row (rows_text e.under (after_entry e))
  row_there = subst (IsRow (asked_after unlimited e.front) e.row) under_there rows_there.0

  pub rows_ended_there : Ended (rows_text (e.row ∷ e.under) []) (after_entry e)
  rows_ended_there =
      subst (Ended (rows_text (e.row ∷ e.under) [])) (sym after_there) (under_ended (asked_after unlimited e.front) e.row e.under e.back t.part.end (after_document n c) rows_there)

  -- at its key or dash
  module _ (last : e.line ≡ length e.row.dashes) where
    abbrev pub under_it : HasUnder t.part s ss e.front e.row e.under e.back
    under_it = record {
      found = t.found;
      is = t.is;
      rows_are = t.rows_are;
      number = omega (arith, t.number, last);
      count = omega (arith, t.count, last, row_count e.row, length-append (row_lines e.row) (lines_of_rows e.under));
    }

    pub even_there : IsEven (level_or 0 (part_outline t.part)) (part_outline t.part)
    even_there = (document_known (cut_text c) c n t.part t.old).even

    pub entry_there : is_entry e.row.mark ≡ true
    entry_there = is_mark t.part s ss e.front e.row e.under e.back under_it even_there
