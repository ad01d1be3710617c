-- Head comments that operations put above rows, wherever their items and entries are still.
use Rattle.std.proofs.Common.{◌≡◌, ℕ, ◌+◌, ◌≤◌, false, cond, eqb, eqb-true, List, [], ◌∷◌, ◌++◌, length, Option, Some, None, option_map}
use Rattle.std.proofs.Common.{refl, sym, ap, ◌∙◌, subst, arith, append_assoc, string_bytes, length-append}
use Rattle.std.{proofs.lemmas.Str.{IsCharBoundary-at_seam, IsUtf8-append}, specs.Str.{IsCharBoundary, IsUtf8}}
use Rattle.std.{proofs.lemmas.Option.{none-some, same_Some}, specs.List.slice_get}
use Rattle.yq_text.specs.Limit.{text_limit}
use Rattle.yq_core.{specs.Answers.◌>>=◌, specs.BlockWritten.break_text, specs.Paths.Step, proofs.Bools.{bind_some, guard_then}}
use Rattle.yq_core.{specs.Text.is_empty, specs.declared.block_types.Break.Break}
use Rattle.yq_row_table.specs.Rows.{Cut, cut_text}
use Rattle.yq_documents.{specs.declared.path.Path.Path, specs.Documents.document_parts, specs.Located.steps_of}
use Rattle.yq_documents.{specs.LinesInRows.{document_row, row_line_at}, specs.Reading.{cut_of, read_at}, specs.Pieces.TextPiece}
use Rattle.yq_places.{specs.CommentPlaces.{above_row, lines_above}, specs.FirstBreak.first_break, specs.PlacedRows.PlacedRow}
use Rattle.yq_places.{specs.RowLineReading.position_in, proofs.PrintedTexts.map_some, specs.Placements.{RowsOfEntry, rows_of_entry}}
use Rattle.yq_outline.specs.declared.line_position.Position.{Position}
use Rattle.yq_edit_rules.{specs.RowStays.StaysInRows, specs.CommentEdits.{above_rows, head_comment_segments, head_lines}}
use Rattle.yq_edit_rules.{specs.Operands.HasOperand, proofs.CommentRowLaws.{entry_found, entry_is_row, entry_row, rows_same}}
use Rattle.yq_semantics.{specs.Meaning.head_comment_lines, specs.Operations.head_comment}
use Rattle.yq_edit_laws.{proofs.HeadCommentLaws.head_comments_change_rows, proofs.RowEditLaws.row_edits}
use Rattle.yq_edit_laws.{proofs.CutLaws.{cut_read, text_read}, proofs.EditsHold.edit_is}
use Rattle.yq_batch.{specs.RowRuns.{PutsInRow, PutsSo, PutsText, bytes_in, of_entry, rows_still}, specs.declared.row_put.RowPut.RowPut}
use Rattle.yq_batch.proofs.ExchangedRows.{exchanges_row}
use Rattle.yq_documents.specs.LinesInRows as lines

-- an empty head comment has no lines, and others end alike by the same break
lines_same : (column : ℕ) (text : List ℕ) (a b : Break) → (is_empty text ≡ false → a ≡ b) →
    head_lines column (break_text a) (head_comment_lines text) ≡ head_lines column (break_text b) (head_comment_lines text)
lines_same column [] a b same = refl
lines_same column (x ∷ xs) a b same = ap (λ (k : Break). head_lines column (break_text k) (head_comment_lines (x ∷ xs))) (same refl)

module _ (n : ℕ) (steps : List Step) (text : List ℕ) (c : Cut) (e : RowsOfEntry) (first : e.line ≡ 0) where
  -- the lines that are written with a break
  abbrev lines_with : List ℕ → List ℕ
  lines_with br = head_lines e.row.column br (head_comment_lines text)

  pub head_comment_comes : (d : Cut) → read_at (cut_text d) ≡ Some d → (is_empty text ≡ false → first_break (cut_text d) ≡ first_break (cut_text c)) → (still : StaysInRows e n steps d) →
      PutsText (head_comment n steps text) d (rows_still e still) (above_rows e).1.text (lines_with (break_text (first_break (cut_text c)))) (above_rows e).1.after
  head_comment_comes d read_d same still =
      let now : RowsOfEntry = rows_still e still in
      let br : List ℕ = break_text (first_break (cut_text d)) in
      let edited = row_edits.head_comment n steps text d now still.found first in
      subst (λ (l : List ℕ). PutsText (head_comment n steps text) d now (above_rows e).1.text l (above_rows e).1.after) (lines_same e.row.column text (first_break (cut_text d)) (first_break (cut_text c)) same)
      (record {
        segments = head_comment_segments br text (above_rows now);
        front = (above_rows now).1.before;
        edited = edited;
        whole = (edit_is (head_comment n steps text) d (head_comment_segments br text (above_rows now)) read_d edited).old;
        puts = row_edits.piece_puts (above_rows now).1 _;
        changes = λ operand fit size.
            exchanges_row n d now (head_comment_segments br text (above_rows now)) (head_comments_change_rows n steps text (first_break (cut_text d)) d now read_d still.found first operand fit size);
      })

  pub above_text_is : read_at (cut_text c) ≡ Some c → rows_of_entry n steps c ≡ Some e → cut_text c ≡ (above_rows e).1.before ++ ((above_rows e).1.text ++ (above_rows e).1.after)
  above_text_is read at =
      let br : List ℕ = break_text (first_break (cut_text c)) in
      sym (edit_is (head_comment n steps text) c (head_comment_segments br text (above_rows e)) read (row_edits.head_comment n steps text c e at first)).old
      ∙ (row_edits.piece_puts (above_rows e).1 []).old_is

-- ---- what the code tells

-- the lines above a row, where a line is its first one
abbrev first_above : PlacedRow → Option (ℕ × TextPiece)
first_above w = cond (eqb w.line 0) (Some (above_row w)) None

-- The item or entry above whose row lines are, by a path: its line is the first one of its row (own).
record IsAbove (t : List ℕ) (p : Path) (w : ℕ × TextPiece) : Type 0 where
  entry : RowsOfEntry
  found : rows_of_entry p.doc (steps_of p) (cut_of t) ≡ Some entry
  first : entry.line ≡ 0
  same : above_rows entry ≡ w
  text : cut_text (cut_of t) ≡ w.1.before ++ (w.1.text ++ w.1.after)

is_above : (t : List ℕ) (p : Path) (w : ℕ × TextPiece) → read_at t ≡ Some (cut_of t) → Some w ≡ lines_above p.doc (steps_of p) (cut_of t) → IsAbove t p w
is_above t p w read is = go (rows_of_entry p.doc (steps_of p) (cut_of t)) refl
  where
    go : (o : Option RowsOfEntry) → rows_of_entry p.doc (steps_of p) (cut_of t) ≡ o → IsAbove t p w
    go None at = absurd (none-some _ (sym (ap (λ (x : Option PlacedRow). x >>= first_above) (rows_same p.doc (steps_of p) (cut_of t) ∙ ap (option_map entry_row) at)) ∙ sym is))
    go (Some e) at =
        let g = guard_then (eqb e.line 0) (sym (ap (λ (x : Option PlacedRow). x >>= first_above) (entry_is_row p.doc (steps_of p) (cut_of t) e at)) ∙ sym is) in
        let first = eqb-true e.line 0 g.0 in
        let same = same_Some _ _ g.1 in
        let again : read_at (cut_text (cut_of t)) ≡ Some (cut_of t) = ap read_at (text_read t (cut_of t) read) ∙ read in
        let text = above_text_is p.doc (steps_of p) [] (cut_of t) e first again at in
        record {
          entry = e;
          found = at;
          first = first;
          same = same;
          text = subst (λ (x : ℕ × TextPiece). cut_text (cut_of t) ≡ x.1.before ++ (x.1.text ++ x.1.after)) same text;
        }

-- the row of its line, among those of the text
pub row_number : (c : Cut) (p : Path) (e : RowsOfEntry) (x : Position) → rows_of_entry p.doc (steps_of p) c ≡ Some e → Some x ≡ option_map (position_in (document_row p.doc c)) (row_line_at p c) →
    x.row ≡ document_row p.doc c + length e.front
row_number c p e x at is =
    let s = map_some (row_line_at p c) (sym is) in
    let d = bind_some (slice_get (document_parts c) p.doc) s.1 in
    let same = same_Some _ _ (sym d.2 ∙ (entry_found p.doc (steps_of p) c e at).line_is d.0 d.1) in
    ap (λ (q : Position). q.row) (sym s.2) ∙ ap (λ (y : lines.RowLine). document_row p.doc c + y.before) same

-- lines above a row end within a text's limit
pub above_fits : (t : List ℕ) (p : Path) (w : ℕ × TextPiece) → read_at t ≡ Some (cut_of t) → Some w ≡ lines_above p.doc (steps_of p) (cut_of t) → length w.1.before + length w.1.text ≤ text_limit
above_fits t p w read is =
    let c : Cut = cut_of t in
    let again : read_at (cut_text c) ≡ Some c = ap read_at (text_read t c read) ∙ read in
    let text = ap length (is_above t p w read is).text in
    omega (arith, (cut_read (cut_text c) c again).size, text, length-append w.1.before (w.1.text ++ w.1.after), length-append w.1.text w.1.after)

-- a head comment that is put in their place
pub head_comment_puts_there : (t : List ℕ) (p : Path) (text : List ℕ) (x : Position) (w : ℕ × TextPiece) (put : RowPut) → read_at t ≡ Some (cut_of t) →
    Some x ≡ option_map (position_in (document_row p.doc (cut_of t))) (row_line_at p (cut_of t)) → Some w ≡ lines_above p.doc (steps_of p) (cut_of t) →
    HasOperand (head_comment p.doc (steps_of p) text) → IsUtf8 w.1.text → IsUtf8 w.1.after → put.doc ≡ p.doc → put.first ≡ x.row → put.row ≡ x.row → put.start ≡ length w.1.before → put.end ≡ length w.1.before + length w.1.text →
    bytes_in string_bytes put.written ≡ Some (head_lines w.0 (break_text (first_break (cut_text (cut_of t)))) (head_comment_lines text)) →
    PutsInRow (head_comment p.doc (steps_of p) text) (cut_of t) put
head_comment_puts_there t p text x w put read line is operand run after doc first row start finish written =
    let c : Cut = cut_of t in
    let h : IsAbove t p w = is_above t p w read is in
    let apart : cut_text c ≡ (w.1.before ++ w.1.text) ++ w.1.after = h.text ∙ sym (append_assoc w.1.before w.1.text w.1.after) in
    record {
      place = of_entry (steps_of p) h.entry;
      found = h.found;
      document = doc;
      first = first ∙ (row_number c p h.entry x h.found line);
      row = row ∙ row_number c p h.entry x h.found line;
      valid = operand;
      before = w.1.before;
      old = w.1.text;
      after = w.1.after;
      text = h.text;
      start = start;
      finish = finish;
      starts = subst (IsCharBoundary (cut_text c)) (sym start) (IsCharBoundary-at_seam (cut_text c) w.1.before _ h.text (IsUtf8-append w.1.text w.1.after run after));
      ends = subst (IsCharBoundary (cut_text c)) (sym finish) (subst (IsCharBoundary (cut_text c)) (length-append w.1.before w.1.text) (IsCharBoundary-at_seam (cut_text c) (w.1.before ++ w.1.text) w.1.after apart after));
      there = λ d there breaks still. comes d there breaks h still;
    }
  where
    comes : (d : Cut) → read_at (cut_text d) ≡ Some d → (is_empty text ≡ false → first_break (cut_text d) ≡ first_break (cut_text (cut_of t))) → (h : IsAbove t p w) → (still : StaysInRows h.entry p.doc (steps_of p) d) →
        PutsSo (head_comment p.doc (steps_of p) text) d (rows_still h.entry still) w.1.text w.1.after (bytes_in string_bytes put.written)
    comes d there breaks h still =
        let br : List ℕ = break_text (first_break (cut_text (cut_of t))) in
        subst (PutsSo (head_comment p.doc (steps_of p) text) d (rows_still h.entry still) w.1.text w.1.after) (sym written)
        (subst (λ (y : ℕ × TextPiece). PutsText (head_comment p.doc (steps_of p) text) d (rows_still h.entry still) y.1.text (head_lines y.0 br (head_comment_lines text)) y.1.after) h.same
        (head_comment_comes p.doc (steps_of p) text (cut_of t) h.entry h.first d there breaks still))
