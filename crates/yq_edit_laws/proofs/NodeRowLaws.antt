-- The rows of an item or entry in the text of a cut, and their lines.
use Rattle.std.proofs.Common.{◌≡◌, ℕ, suc, ◌+◌, ◌≤◌, true, List, [], ◌∷◌, ◌++◌, length, Some, sym, ap, ◌∙◌, subst, arith, length-append}
use Rattle.std.{proofs.Common.{rules, None, append_assoc, ◌<◌}, specs.Str.is_utf8, proofs.lemmas.Bool.false≢true}
use mathlib.Core.List.{head-eq_of_cons-eq}
use Rattle.yq_core.{specs.Paths.Step, proofs.Bools.guard_then}
use Rattle.yq_outline.{specs.Comments.head_comment, specs.Group.{group, is_fine, level_or}}
use Rattle.yq_outline.{specs.Outline.{Line, level, flatten, IsEven, Outline}, specs.Places.{lines_before, lines_after, FoundLine, find}}
use Rattle.yq_outline.{proofs.Decides.flatten-group, specs.Lines.{line_mark, lines_of_rows, dash_line, lines_from, mark_line}}
use Rattle.yq_row_table.{specs.Exchange.{allows_first, asked_after}, specs.Grammar.{Limit, unlimited, limit_after, AreRows, is_entry}}
use Rattle.yq_row_table.specs.Rows.{Row, mark_column, rows_text, Part, part_text, Cut, cut_text, Content, Nothing, after_columns}
use Rattle.yq_documents.{specs.Documents.document_parts, specs.Reading.{part_outline, read_at}, proofs.PartRows.each}
use Rattle.yq_documents.proofs.ReadLaws.{text_takes}
use Rattle.yq_places.{proofs.RowPathLaws.{StartsAt, document_fine, found_starts}, specs.Placements.{RowsOfEntry, after_entry}}
use Rattle.yq_edit_rules.{specs.Changed.put_document, specs.DocumentRows.{IsDocumentPart, after_document}, specs.LineRows.Begins}
use Rattle.yq_edit_rules.{proofs.AppendLaws.around, proofs.InlineReplaceLaws.{next_by, own_rows}}
use Rattle.yq_edit_rules.{proofs.LineLaws.{dashes_count, above_mark}, proofs.PartLaws.document_known}
use Rattle.yq_edit_rules.proofs.PlacedLaws.{found_is_entry, rows_in_parts, same_parts, whole_line}
use Rattle.yq_edit_rules.{proofs.UnderLaws.{line_with, dashes_of, gone_lines}, proofs.FirstReplaceLaws.rows_after}
use Rattle.yq_edit_rules.{specs.BlockPlaces.{IsUpto, at_mark, at_dash}, specs.PlacementLaws.HasItsRows}
use Rattle.yq_edit_rules.{proofs.PlacementMarks.{after_there, entry_there}, proofs.AppendEntryLaws.none_uncommented, specs.Moved.dash_lines}
use Rattle.yq_edit_rules.specs.Siblings.{HasEntries, IsEntry}
use Rattle.yq_outline.specs.Outline as outline
use Rattle.yq_row_table.specs.Rows as rows

-- ---- the lines of a row up to a key or dash, and those after it

following_lines : (above : List (List ℕ)) (column : ℕ) (ns : List ℕ) (n : ℕ) (ms : List ℕ) (m : rows.RowMark) (x : Content) →
    lines_from above column (ns ++ (n ∷ ms)) m x ≡ dash_lines above column ns ++ (mark_line (above_mark above ns) (after_columns column ns) rows.Dash (Nothing []) ∷ lines_from [] (suc (after_columns column ns + n)) ms m x)
following_lines above column [] n ms m x = λ i. record { column = column; mark = outline.Dash; anchor = None; head = None; head_comment = above; line_comment = sym none_uncommented i } ∷ lines_from [] (suc (column + n)) ms m x
following_lines above column (k ∷ []) n ms m x = ap (λ (ls : List Line). dash_line above column ∷ ls) (following_lines [] (suc (column + k)) [] n ms m x)
following_lines above column (k ∷ (j ∷ ns)) n ms m x = ap (λ (ls : List Line). dash_line above column ∷ ls) (following_lines [] (suc (column + k)) (j ∷ ns) n ms m x)

pub lines_upto : {s r : Row} → IsUpto s r → (under : List Row) → (more : List Line) × (lines_of_rows (r ∷ under) ≡ dashes_of s ++ (line_with s s.content ∷ more))
lines_upto (at_mark {r} entry) under = (lines_of_rows under, gone_lines r under)
lines_upto (at_dash {r} {ns} n ms is) under =
    let line : Line = mark_line (above_mark (head_comment r.gap) ns) (after_columns r.column ns) rows.Dash (Nothing []) in
    let more : List Line = lines_from [] (suc (after_columns r.column ns + n)) ms r.mark r.content in (
      more ++ lines_of_rows under,
      ap (λ ks. lines_from (head_comment r.gap) r.column ks r.mark r.content ++ lines_of_rows under) is
          ∙ (ap (λ ls. ls ++ lines_of_rows under) (following_lines (head_comment r.gap) r.column ns n ms r.mark r.content) ∙ append_assoc (dash_lines (head_comment r.gap) r.column ns) (line ∷ more) (lines_of_rows under)),
    )

-- the lines after a dash begin with an item or entry
entry_after : (above : List (List ℕ)) (column : ℕ) (ns : List ℕ) (m : rows.RowMark) (x : Content) (more : List Line) (u : Outline) → is_entry m ≡ true → lines_from above column ns m x ++ more ≡ flatten u → HasEntries u
entry_after above column [] m x more outline.end entry e = absurd (cc)
entry_after above column (n ∷ ns) m x more outline.end entry e = absurd (cc)
entry_after above column [] rows.Bare x more (outline.row l u after) entry e = absurd (false≢true entry)
entry_after above column _ _ x more (outline.row l u after) entry e = subst (λ (k : Line). IsEntry k.mark) (head-eq_of_cons-eq e) tt

pub entries_under : {s r : Row} (u : IsUpto s r) (under : List Row) (o : Outline) → is_entry r.mark ≡ true → length s.dashes < length r.dashes → (lines_upto u under).0 ≡ flatten o → HasEntries o
unfolding lines_upto
entries_under (at_mark {r} entry) under o h less e = absurd (omega (arith, less))
entries_under (at_dash {r} {ns} n ms is) under o h less e = entry_after [] (suc (after_columns r.column ns + n)) ms r.mark r.content (lines_of_rows under) o h e

-- ---- the rows of an item or entry in the text of a cut, and their lines

-- The rows of an item or entry in the text of a cut: the row of its key or dash, and those under it, between others in front and others after; and that row up to its key or dash.
pub record NodeRows (doc : ℕ) (s : Step) (ss : List Step) (c : Cut) : Type 0 where
  pub p : Part
  pub old : IsDocumentPart (cut_text c) c doc p
  pub found : FoundLine
  pub is : find s ss (part_outline p) ≡ Some (found, [])
  pub front : List Row
  pub row : Row
  pub under : List Row
  pub back : List Row
  pub rows_are : p.rows ≡ front ++ (row ∷ (under ++ back))
  pub mark : Row
  pub upto : IsUpto mark row
  pub number : length (lines_of_rows front) + length mark.dashes ≡ length (lines_before found.place)
  pub count : length (lines_of_rows (row ∷ under)) ≡ length mark.dashes + suc (length (flatten found.under))
  pub start : List ℕ
  pub put : (q : Part) → cut_text (put_document doc q c) ≡ start ++ part_text q (after_document doc c)

module _ (doc : ℕ) (s : Step) (ss : List Step) (c : Cut) (h : NodeRows doc s ss c) where
  abbrev pub rest : List ℕ
  rest = rows_text h.back (h.p.end ++ after_document doc c)

  abbrev pub limit : Limit
  limit = asked_after unlimited h.front

  pub known_lines : lines_of_rows (h.row ∷ h.under) ≡ dashes_of h.mark ++ (line_with h.mark h.mark.content ∷ (lines_upto h.upto h.under).0)
  known_lines = (lines_upto h.upto h.under).1

  pub before_are : length (lines_of_rows h.front) + length (dashes_of h.mark) ≡ length (lines_before h.found.place)
  before_are = ap (λ (n : ℕ). length (lines_of_rows h.front) + n) (dashes_count (head_comment h.mark.gap) h.mark.column h.mark.dashes) ∙ h.number

  pub size_is : suc (length (lines_upto h.upto h.under).0) ≡ suc (length (flatten h.found.under))
  size_is = search (rules, known_lines, length-append, dashes_of, line_with, lines_upto, dashes_count)

  pub old_lines : lines_of_rows h.p.rows ≡ (lines_of_rows h.front ++ dashes_of h.mark) ++ ((line_with h.mark h.mark.content ∷ (lines_upto h.upto h.under).0) ++ lines_of_rows h.back)
  old_lines =
      ap lines_of_rows h.rows_are
      ∙ (rows_in_parts h.front (h.row ∷ h.under) h.back
      ∙ (ap (λ (ls : List Line). lines_of_rows h.front ++ (ls ++ lines_of_rows h.back)) known_lines
      ∙ sym (around (lines_of_rows h.front) (dashes_of h.mark) (line_with h.mark h.mark.content ∷ (lines_upto h.upto h.under).0)
      (lines_of_rows h.back))))

  pub parts : (lines_of_rows h.front ++ dashes_of h.mark ≡ lines_before h.found.place) × (line_with h.mark h.mark.content ∷ (lines_upto h.upto h.under).0 ≡ h.found.line ∷ flatten h.found.under) ×
      (lines_of_rows h.back ≡ flatten h.found.after ++ lines_after h.found.place)
  parts =
      same_parts (lines_of_rows h.front ++ dashes_of h.mark) (line_with h.mark h.mark.content ∷ (lines_upto h.upto h.under).0) (lines_of_rows h.back) (lines_before h.found.place) (h.found.line ∷ flatten h.found.under)
      (flatten h.found.after ++ lines_after h.found.place) (sym old_lines ∙ (sym (flatten-group (lines_of_rows h.p.rows)) ∙ whole_line (part_outline h.p) s ss [] h.found h.is))
      (length-append (lines_of_rows h.front) (dashes_of h.mark) ∙ before_are) size_is

  pub line_is : line_with h.mark h.mark.content ≡ h.found.line
  line_is = head-eq_of_cons-eq parts.1

  pub even : IsEven (level_or 0 (part_outline h.p)) (part_outline h.p)
  even = (document_known (cut_text c) c doc h.p h.old).even

  fine : is_fine (group (lines_of_rows h.p.rows)) ≡ true
  unfolding read_at
  fine = document_fine h.p (each (document_parts c) (text_takes (cut_text c) c (guard_then (is_utf8 (cut_text c)) h.old.read).1).1 doc h.p h.old.there)

  pub entry : is_entry h.mark.mark ≡ true
  entry = search (rules, line_is, found_is_entry, even)

  -- the next row begins no deeper
  pub next_begins : Begins (level h.found.line) (lines_of_rows h.back)
  next_begins =
      let begins : (ls : List Line) → StartsAt (level h.found.line) ls → Begins (level h.found.line) ls = λ ls s. search rules in
      subst (Begins (level h.found.line)) (sym parts.2) (begins _ (found_starts (lines_of_rows h.p.rows) s ss [] h.found h.is fine))

  -- the next row is where no further line of what is after the mark does
  pub near : allows_first (record { column = Some (suc (mark_column h.mark)) }) h.back ≡ true
  unfolding level
  near = next_by (level h.found.line) (suc (mark_column h.mark)) h.back next_begins (omega (arith, ap level line_is, rank_high (line_mark h.mark.mark)))
    where
      rank_high : (m : outline.LineMark) → outline.rank m ≤ 3
      rank_high outline.Bare = omega arith
      rank_high _ = omega arith

  pub rows_there : AreRows (asked_after unlimited h.front) (h.row ∷ (h.under ++ h.back)) h.p.end (after_document doc c)
  rows_there = own_rows (cut_text c) c doc h.p h.front h.row (h.under ++ h.back) h.old h.rows_are

  pub back_there : AreRows (asked_after (limit_after h.row) h.under) h.back h.p.end (after_document doc c)
  back_there = rows_after (limit_after h.row) h.under h.back h.p.end (after_document doc c) rows_there.1

-- ---- of an item or entry that is found

module _ (n : ℕ) (s : Step) (ss : List Step) (c : Cut) (e : RowsOfEntry) (there : HasItsRows n s ss c e) where
  -- up to the key or dash of the line
  abbrev pub node_upto : (mark : Row) → IsUpto mark e.row → length mark.dashes ≡ e.line → NodeRows n s ss c
  node_upto mark upto line = record {
    p = there.part;
    old = there.old;
    found = there.found;
    is = there.is;
    front = e.front;
    row = e.row;
    under = e.under;
    back = e.back;
    rows_are = there.rows_are;
    mark = mark;
    upto = upto;
    number = ap (λ (k : ℕ). length (lines_of_rows e.front) + k) line ∙ there.number;
    count = there.count ∙ ap (λ (k : ℕ). k + suc (length (flatten there.found.under))) (sym line);
    start = e.start;
    put = there.put;
  }

  -- the last line of the row
  abbrev pub mark_node : (last : e.line ≡ length e.row.dashes) → NodeRows n s ss c
  mark_node last = node_upto e.row (at_mark (entry_there n s ss c e there last)) (sym last)

  -- the text after these rows
  pub following_is : (last : e.line ≡ length e.row.dashes) → after_entry e ≡ rest n s ss c (mark_node last)
  following_is last = after_there n s ss c e there
