-- What comes after a row that is alone on its line.
use Rattle.std.proofs.Common.{◌≡◌, ℕ, ℤ, suc, ◌+◌, ◌*◌, ◌<◌, List, [], ◌∷◌, ◌++◌, length, take, Some, true, false, refl, sym, ap, ◌∙◌}
use Rattle.std.{proofs.Common.{subst, arith, append_assoc, length-append, rules}, proofs.lemmas.Bool.{false≢true, lt-ltb}}
use Rattle.yq_core.{specs.Paths.Step, specs.Piece.deeper, specs.Plain.ends_plain, specs.Nodes.scalar}
use Rattle.yq_outline.{specs.Group.{group, level_or, is_fine}, specs.Outline.{Line, level, rank, Outline, end, row, flatten, IsEven}}
use Rattle.yq_outline.{specs.Places.{lines_before, lines_after, FoundLine}, specs.Comments.head_comment, proofs.Decides.flatten-group}
use Rattle.yq_outline.specs.Lines.{line_mark, mark_line, row_lines, lines_of_rows}
use Rattle.yq_row_table.{specs.Exchange.{allows_first, asked_after}, specs.Grammar.{Limit, unlimited, AreRows, IsTail, is_entry, ends_part}}
use Rattle.yq_row_table.{specs.Rows.{Inline, Row, mark_column, parent_of, parent_indent, rows_text, Part, Cut}, proofs.ExchangeLaws.relimit}
use Rattle.yq_row_table.{proofs.seams.SeamLaws.rows_drop, proofs.seams.TailLaws.fits_by}
use Rattle.yq_documents.specs.Reading.{part_outline}
use Rattle.yq_places.proofs.RowPathLaws.{StartsAt, found_starts}
use Rattle.yq_edit_rules.{specs.DocumentRows.{IsDocumentPart, after_document}, specs.InlineRows.{LeadsBelow, IsRootRow, LeadsToLone}}
use Rattle.yq_edit_rules.{specs.LineRows.Begins, specs.Moved.dash_lines, proofs.ColumnLaws.next_low}
use Rattle.yq_edit_rules.{proofs.LineLaws.{above_mark, dashes_count, row_count}, proofs.NodeLineLaws.under_even}
use Rattle.yq_edit_rules.{proofs.PartLaws.{document_known, part_rows, take_front, drop_front}, proofs.PlacedLaws.{same_parts, whole_line}}
use Rattle.yq_edit_rules.proofs.CommentPutLaws.{last_lines}
use Rattle.yq_row_table.specs.Rows as rows

-- the rows from one on
pub own_rows : (t : List ℕ) (c : Cut) (k : ℕ) (p : Part) (front : List Row) (r : Row) (back : List Row) → IsDocumentPart t c k p → p.rows ≡ front ++ (r ∷ back) →
    AreRows (asked_after unlimited front) (r ∷ back) p.end (after_document k c)
own_rows t c k p front r back old e =
    subst (λ x. AreRows (asked_after unlimited x) (r ∷ back) p.end (after_document k c)) (take_front p front (r ∷ back) e)
    (subst (λ rs. AreRows (asked_after unlimited (take (length front) p.rows)) rs p.end (after_document k c)) (drop_front p front (r ∷ back) e)
    (rows_drop (length front) p.rows unlimited p.end (after_document k c) (part_rows t c k p old (document_known t c k p old).cut)))

-- what is asked after a mark
pub deeper_entry : (m : rows.RowMark) (column : ℕ) → is_entry m ≡ true → deeper (parent_of m column) ≡ suc column
deeper_entry m column h1 = search (rules, false≢true)

deeper_bare : (column : ℕ) → deeper (parent_of rows.Bare column) ≡ column
deeper_bare column = search rules

-- the next row comes before what is asked
pub next_by : (n d : ℕ) (back : List Row) → Begins n (lines_of_rows back) → n < 3 * d + 1 → allows_first (record { column = Some d }) back ≡ true
next_by n d [] h less = refl
next_by n d (b ∷ bs) h less = let low = next_low n (b ∷ bs) b bs refl h in lt-ltb b.column d (omega (arith, low, less))

-- the lines of the row and those after it
module _ (p : Part) (front : List Row) (r : Row) (back : List Row) (rows_are : p.rows ≡ front ++ (r ∷ back)) (even : IsEven (level_or 0 (part_outline p)) (part_outline p)) (fine : is_fine (group (lines_of_rows p.rows)) ≡ true) where
  abbrev x : Line
  x = mark_line (above_mark (head_comment r.gap) r.dashes) (mark_column r) r.mark r.content

  abbrev a : List Line
  a = lines_of_rows front ++ dash_lines (head_comment r.gap) r.column r.dashes

  all : lines_of_rows p.rows ≡ a ++ (x ∷ lines_of_rows back)
  all = ap lines_of_rows rows_are ∙ last_lines front r back r.content

  size : length a ≡ length (lines_of_rows front) + length r.dashes
  size = length-append (lines_of_rows front) (dash_lines (head_comment r.gap) r.column r.dashes) ∙ ap (λ (n : ℕ). length (lines_of_rows front) + n) (dashes_count (head_comment r.gap) r.column r.dashes)

  level_is : level x ≡ 3 * mark_column r + rank (line_mark r.mark)
  unfolding level
  level_is = refl

  -- alone on the line under it
  lower_back : (s : Step) (ss : List Step) (h : LeadsBelow p s ss front r) → (lines_of_rows back ≡ flatten h.found.after ++ lines_after h.found.place) × (level h.found.line < level x)
  lower_back s ss h =
      let f : FoundLine = h.found in
      let rest : List Line = flatten f.after ++ lines_after f.place in
      let whole : lines_of_rows p.rows ≡ (lines_before f.place ++ (f.line ∷ [])) ++ (flatten f.under ++ rest) =
      sym (flatten-group (lines_of_rows p.rows)) ∙ (whole_line (part_outline p) s ss [] f h.is ∙ sym (append_assoc (lines_before f.place) (f.line ∷ []) (flatten f.under ++ rest))) in
      let before : length a ≡ length (lines_before f.place ++ (f.line ∷ [])) = omega (arith, size, h.number, length-append (lines_before f.place) (f.line ∷ [])) in
      let parts = same_parts a (x ∷ []) (lines_of_rows back) (lines_before f.place ++ (f.line ∷ [])) (flatten f.under) rest (sym all ∙ whole) before (sym h.count) in
      let old = (under_even (level_or 0 (part_outline p)) (part_outline p) s ss f even h.is).1.3 in
      (parts.2, deep f.under old.0 (sym parts.1) old.2 old.1)
    where
      deep : (u : Outline) (m : ℕ) → flatten u ≡ x ∷ [] → IsEven m u → level h.found.line < m → level h.found.line < level x
      deep end m e v less = absurd (cc)
      deep (row y u b) m e v less = let one : y ≡ x = cc in omega (arith, less, v.0, ap level one)

  lower_next : (s : Step) (ss : List Step) (h : LeadsBelow p s ss front r) → allows_first (record { column = Some (deeper (parent_indent r)) }) back ≡ true
  lower_next s ss h =
      let begins : (ls : List Line) → StartsAt (level h.found.line) ls → Begins (level h.found.line) ls = λ ls s. search rules in
      let b = lower_back s ss h in
      let starts : Begins (level h.found.line) (lines_of_rows back) = subst (Begins (level h.found.line)) (sym b.0) (begins _ (found_starts (lines_of_rows p.rows) s ss [] h.found h.is fine)) in
      let own : deeper (parent_indent r) ≡ mark_column r = ap (λ m. deeper (parent_of m (mark_column r))) h.mark ∙ deeper_bare (mark_column r) in
      subst (λ d. allows_first (record { column = Some d }) back ≡ true) (sym own)
      (next_by (level h.found.line) (mark_column r) back starts (omega (arith, b.1, level_is, ap (λ m. rank (line_mark m)) h.mark)))

  -- the root
  root_back : IsRootRow p r → back ≡ []
  root_back h = none back (omega (arith, h.count, ap length all, length-append a (x ∷ lines_of_rows back)))
    where
      none : (bs : List Row) → length (lines_of_rows bs) ≡ 0 → bs ≡ []
      none [] e = refl
      none (b ∷ bs) e = absurd (omega (arith, e, row_count b, length-append (row_lines b) (lines_of_rows bs)))

  -- the next row is where no further line of what is after the mark does
  pub next_is_there : (steps : List Step) → LeadsToLone p steps front r → allows_first (record { column = Some (deeper (parent_indent r)) }) back ≡ true
  next_is_there [] h = ap (allows_first (record { column = Some (deeper (parent_indent r)) })) (root_back h)
  next_is_there (s ∷ ss) h = lower_next s ss h

-- before what comes after a row's content a plain scalar ends
pub tail_ends_plain : (n : ℤ) (tail : List ℕ) (limit : Limit) (back : List Row) (gap rest : List ℕ) → IsTail tail (rows_text back (gap ++ rest)) →
    AreRows limit back gap rest → allows_first (record { column = Some (deeper n) }) back ≡ true → ends_part rest ≡ true →
    ends_plain false (Some (deeper n)) (tail ++ rows_text back (gap ++ rest)) ≡ true
tail_ends_plain n tail limit back gap rest t h next e =
    (fits_by n (Inline [] (scalar []) []) tail back gap rest refl t (relimit limit (record { column = Some (deeper n) }) back gap rest next h) e).1 refl
