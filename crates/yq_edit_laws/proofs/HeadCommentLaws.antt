-- A head comment set: the text reads as the documents after that.
use Rattle.std.proofs.Common.{rules, ◌≡◌, ℕ, zero, suc, ◌≤◌, true, false, eqb, List, [], ◌∷◌, ◌++◌, length, replicate, Some, refl, sym, ap}
use Rattle.std.{proofs.Common.{◌∙◌, subst, append_assoc, append-nil, arith, length-append}, proofs.Math.Seq.take-append_seam}
use Rattle.std.{proofs.lemmas.Bool.{false≢true, eqb-true, and_parts, cases_Bool}, proofs.lemmas.Option.same_Some}
use Rattle.std.{proofs.lemmas.Str.IsUtf8-take, specs.Str.{IsCharBoundary, IsUtf8}}
use Rattle.yq_core.{specs.BlockWritten.break_text, specs.Paths.{Step, changed_at, relabel_child, within}, specs.Tree.Node}
use Rattle.yq_core.{specs.Text.{front, is_feed, past_white, joined, text_lines}, specs.declared.block_types.Break.Break}
use Rattle.yq_core.proofs.Bools.{guard_then}
use Rattle.yq_text.{specs.Limit.text_limit, specs.Script.{Segment, old_text, new_text}}
use Rattle.yq_outline.specs.Comments.{head_comment as comment_in}
use Rattle.yq_row_table.{specs.Exchange.asked_after, specs.Grammar.{IsRow, unlimited}}
use Rattle.yq_row_table.specs.Rows.{Row, following_gap, after_indent, print_row, rows_text, Part, Cut, cut_text}
use Rattle.yq_row_table.{specs.Splices.with_row_gap, proofs.Fronts.Starts, proofs.PlaceLaws.row_then, proofs.NodePieces.before_ascii}
use Rattle.yq_row_table.{proofs.RowAgain.row_starts, proofs.NodeExchange.starts_no_feed, proofs.splices.SpliceTexts.{own_gap, own_end}}
use Rattle.yq_places.{specs.FirstBreak.first_break, specs.RowPaths.IsReadable}
use Rattle.yq_places.specs.Placements.{RowsOfEntry, before_entry, after_entry, rows_of_entry}
use Rattle.yq_places.{proofs.CommentEndLaws.{gap_split, run_ascii}, proofs.HeldRowLaws.no_root_rows}
use Rattle.yq_places.proofs.SeamLaws.{IsSeam, seam_boundary, seam_then, gap_seam, row_seam}
use Rattle.yq_documents.{specs.Documents.lead_of, specs.Pieces.{before_run, last_run}, specs.Reading.{read_at, root_of}}
use Rattle.yq_documents.{specs.LinesInRows.row_line_of, specs.TreeEdits.with_head_comment}
use Rattle.yq_edit_rules.{specs.Appends.inserted, specs.Changed.{IsChanged, put_document}, specs.Heads.{rerun, with_run}}
use Rattle.yq_edit_rules.{specs.PlacementLaws.HasItsRows, specs.TextPieces.IsPiece, specs.EditLaws.{CarriedOut, HeadCommentIsPut, IsEdit}}
use Rattle.yq_edit_rules.{proofs.LineFrontLaws.clean_cut, proofs.PartLaws.document_known, proofs.PathLaws.path_head_commented}
use Rattle.yq_edit_rules.{proofs.TextPieceLaws.text_is_piece, specs.CommentEdits.{above_rows, head_lines, head_comment_segments}}
use Rattle.yq_edit_rules.{proofs.CommentPieceLaws.{AreParts, head_parts, lines_piece}, proofs.PlacementMarks.{row_there, under_there}}
use Rattle.yq_edit_rules.{proofs.PlacementRows.rows_located, proofs.CommentReadLaws.{lines_agree, lines_gap, lines_are_in}}
use Rattle.yq_edit_rules.proofs.CommentRowLaws.{IsEntryRow, cut_spelled, entry_found, row_line_is_block, some_steps}
use Rattle.yq_edit_rules.specs.RowChanges.{ChangesRow, HeadCommentsChangeRows}
use Rattle.yq_semantics.{specs.Changes.can_be_comment, specs.Meaning.head_comment_lines, specs.Operations.{Operation, head_comment}}
use Rattle.yq_edit_laws.proofs.OneRows.{MakesRow, PutsRow, at_last, first_row, row_carried, row_changes, shape_keeps, text_now}
use Rattle.yq_core.specs.Text as text
use Rattle.yq_semantics.specs.declared.program.CommentPlace.TheVariants as comments

-- ---- the text up to the comment of a row's gap

front_utf8 : (a b : List ℕ) → IsUtf8 (a ++ b) → IsCharBoundary (a ++ b) (length a) → IsUtf8 a
front_utf8 a b utf8 at = subst IsUtf8 (take-append_seam a b) (IsUtf8-take (a ++ b) (length a) utf8 at)

comment_no_feed : (l rest : List ℕ) → front (λ b. eqb b 35) (past_white l) ≡ true → front is_feed (l ++ rest) ≡ false
unfolding text.upto
comment_no_feed l rest h = search (rules, false≢true, cases_Bool, eqb-true)

run_no_feed : (ls : List (List ℕ)) (rest : List ℕ) → front is_feed rest ≡ false → front is_feed (joined (last_run ls) ++ rest) ≡ false
run_no_feed [] rest h = h
run_no_feed (l ∷ ls) rest h = search (rules, append_assoc, comment_no_feed, and_parts, run_no_feed ls rest h)

row_no_feed : (n : ℕ) (t : List ℕ) → Starts t → front is_feed (replicate n 32 ++ t) ≡ false
row_no_feed zero t s = starts_no_feed t s
row_no_feed (suc n) t s = refl

regroup : (a b d r : List ℕ) → (a ++ b) ++ (d ++ r) ≡ a ++ ((b ++ d) ++ r)
regroup a b d r = simp append_assoc refl

module _ (n : ℕ) (s : Step) (ss : List Step) (text : List ℕ) (br : Break) (c : Cut) (e : RowsOfEntry) (read : read_at (cut_text c) ≡ Some c) (is : rows_of_entry n (s ∷ ss) c ≡ Some e) where
  abbrev r : Row
  r = e.row

  abbrev u : List ℕ
  u = rows_text e.under (after_entry e)

  abbrev us : List Segment
  us = head_comment_segments (break_text br) text (above_rows e)

  abbrev kept : List ℕ
  kept = joined (before_run (text_lines e.row.gap))

  abbrev old_run : List ℕ
  old_run = joined (last_run (text_lines e.row.gap))

  abbrev z : List ℕ
  z = following_gap e.row (rows_text e.under (after_entry e))

  there : HasItsRows n s ss c e
  there = rows_located n s ss c e read is

  found : IsEntryRow n (s ∷ ss) c e
  found = entry_found n (s ∷ ss) c e is

  own : IsRow (asked_after unlimited e.front) e.row (rows_text e.under (after_entry e))
  own = row_there n s ss c e there

  -- the text of the cut, at the end of the gap, and at its comment
  gap_text : cut_text c ≡ (before_entry e ++ e.row.gap) ++ z
  gap_text = cut_spelled n (s ∷ ss) c e is ∙ sym (append_assoc (before_entry e) e.row.gap z)

  run_text : before_entry e ++ e.row.gap ≡ (before_entry e ++ kept) ++ old_run
  run_text = ap (λ g. before_entry e ++ g) (gap_split e.row.gap) ∙ sym (append_assoc (before_entry e) kept old_run)

  old_is : old_text us ≡ cut_text c
  old_is = ap (λ l. (before_entry e ++ kept) ++ (old_run ++ l)) (append-nil z) ∙ (sym (append_assoc (before_entry e ++ kept) old_run z) ∙ (ap (λ l. l ++ z) (sym run_text) ∙ sym gap_text))

  -- both are pieces
  pieces_there : IsPiece (before_entry e ++ kept) × IsPiece z
  pieces_there =
      let parts = (document_known (cut_text c) c n there.part there.old).cut.parts in
      let seam : IsSeam (before_entry e ++ e.row.gap) z = seam_then (before_entry e) e.row.gap z
      (subst (λ (q : List ℕ × List ℕ). IsSeam q.0 (print_row e.row q.1)) (λ j. (found.at.before_is j, found.at.following_is j)) (row_seam c found.index true e.row parts found.at.there)) (gap_seam e.row.gap z own.gap) in
      let all : IsPiece ((before_entry e ++ e.row.gap) ++ z) = subst IsPiece gap_text (text_is_piece c read) in
      let feed : front is_feed z ≡ false = row_no_feed e.row.column (after_indent e.row u) (row_starts (asked_after unlimited e.front) e.row u own) in
      let first = clean_cut (before_entry e ++ e.row.gap) z all (front_utf8 (before_entry e ++ e.row.gap) z all.utf8 (seam_boundary (before_entry e ++ e.row.gap) z all.utf8 seam)) (λ f. absurd (false≢true (sym feed ∙ f))) in
      let inner : IsPiece ((before_entry e ++ kept) ++ old_run) = subst IsPiece run_text first.0 in
      let none : front is_feed old_run ≡ false = ap (front is_feed) (sym (append-nil old_run)) ∙ run_no_feed (text_lines e.row.gap) [] refl in
      let utf8 : IsUtf8 (before_entry e ++ kept) = front_utf8 (before_entry e ++ kept) old_run inner.utf8 (before_ascii (before_entry e ++ kept) old_run (run_ascii (text_lines e.row.gap))) in
      ((clean_cut (before_entry e ++ kept) old_run inner utf8 (λ f. absurd (false≢true (sym none ∙ f)))).0, first.1)

  -- ---- the new text

  module _ (first : e.line ≡ 0) (utf8 : IsUtf8 text) (fit : can_be_comment comments.Head text ≡ true) where
    abbrev op : Operation
    op = head_comment n (s ∷ ss) text

    abbrev run : List ℕ
    run = head_lines e.row.column (break_text br) (head_comment_lines text)

    abbrev new : Row
    new = with_row_gap (with_run e.row run) e.row

    parts : AreParts (head_comment_lines text)
    parts = head_parts text utf8 fit

    following_gap_is : z ≡ following_gap e.row [] ++ u
    following_gap_is = row_then (with_row_gap [] e.row) [] u

    puts : PutsRow op c (first_row n s ss c e there) new us
    puts = record {
      old = old_is;
      text = ap (λ l. (before_entry e ++ kept) ++ (run ++ l)) (append-nil z)
          ∙ (regroup (before_entry e) kept run z
          ∙ sym (text_now op c (first_row n s ss c e there) new ∙ ap (λ l. before_entry e ++ print_row new l) (under_there n s ss c e there)));
      puts = refl;
      front = omega (arith, length-append (before_entry e ++ kept) [], length-append (before_entry e) kept);
      after = omega (arith, ap length (under_there n s ss c e there), length-append z [], ap length following_gap_is, length-append (following_gap e.row []) u);
      pieces = (pieces_there.0, (lines_piece e.row.column br (head_comment_lines text) parts, (pieces_there.1, tt)));
    }

    steps_are : (init : List Step) × (l : Step) × (s ∷ ss ≡ init ++ l ∷ [])
    steps_are = some_steps (s ∷ ss) there.part.rows _ (found.line_is there.part there.old.there)

    abbrev change : Node → Node
    change = changed_at steps_are.0 (within (relabel_child steps_are.1 (with_head_comment (comment_in run))))

    abbrev back : List Row
    back = e.under ++ e.back

    q_is : rerun e.front e.row back run there.part ≡ inserted e.front (new ∷ []) back there.part
    q_is = λ i. record { rows = e.front ++ (new ∷ sym (own_gap back there.part.end) i); end = sym (own_end back there.part.end) i }

    makes : MakesRow op c (first_row n s ss c e there) new change
    makes = record {
      lead = lead_of (inserted e.front (new ∷ []) back there.part);
      changed = subst (λ (q : Part). IsReadable (cut_text (put_document n q c)) → IsChanged c (put_document n q c) n (lead_of q) change) q_is
          (path_head_commented (cut_text c) c n there.part steps_are.0 steps_are.1 (record { before = length e.front; row = e.row; line = e.line }) e.front back run there.old
          (ap (λ (l : List Step). row_line_of l there.part.rows) (sym steps_are.2) ∙ found.line_is there.part there.old.there) first (record {
            rows_are = there.rows_are;
            run_is = record { gap = lines_gap e.row.column br (head_comment_lines text) _ parts; is_located = lines_are_in e.row.column (break_text br) (head_comment_lines text) };
          })
          refl);
      root = ap (λ o. changed_at steps_are.0 (within (relabel_child steps_are.1 (with_head_comment o))) (root_of there.part)) (lines_agree e.row.column br (head_comment_lines text) parts)
          ∙ at_last (λ l. relabel_child l (with_head_comment (head_comment_lines text))) (s ∷ ss) steps_are.0 steps_are.1 (root_of there.part) steps_are.2;
      keeps = shape_keeps op c (first_row n s ss c e there) new refl (row_line_is_block (s ∷ ss) there.part.rows _ (found.line_is there.part there.old.there));
    }

    pub carried : length (new_text us) ≤ text_limit → CarriedOut (head_comment n (s ∷ ss) text) c us
    carried = row_carried op c (first_row n s ss c e there) new us puts change makes

    pub changes_row : length (new_text us) ≤ text_limit → ChangesRow n c e us
    changes_row size = row_changes op c (first_row n s ss c e there) new us puts change makes size e refl refl

pub head_comment_is_put : HeadCommentIsPut
head_comment_is_put n [] text c e ss read is so = absurd (no_root_rows n c e is)
head_comment_is_put n (s ∷ st) text c e ss read is so =
    let g = guard_then (eqb e.line 0) so in
    let br : Break = first_break (cut_text c) in
    subst (IsEdit (head_comment n (s ∷ st) text) c) (same_Some _ _ g.1)
    (record { old = old_is n s st text br c e read is; carried = λ utf8 fits size. carried n s st text br c e read is (eqb-true e.line 0 g.0) utf8 fits.2.1 size })

pub head_comments_change_rows : HeadCommentsChangeRows
head_comments_change_rows n [] text br c e read is first operand fits size = absurd (no_root_rows n c e is)
head_comments_change_rows n (s ∷ ss) text br c e read is first operand fits size = changes_row n s ss text br c e read is first operand fits.2.1 size
