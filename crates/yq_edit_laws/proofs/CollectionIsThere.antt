-- A block collection that is at a place, by its rows, and where it ends.
use Rattle.std.proofs.lemmas.Grind.{common_steps}
use Rattle.std.proofs.Common.{rules, ◌≡◌, ℕ, suc, ◌+◌, ◌<◌, ◌≤◌, Bool, true, false, ◌&&◌, List, [], ◌∷◌, ◌++◌, length, take, Option, Some}
use Rattle.std.proofs.Common.{None, refl, sym, ap, ◌∙◌, subst, arith, append_assoc, append-nil, length-append}
use Rattle.std.{proofs.lemmas.Bool.{cases_lt, false≢true}, proofs.lemmas.Option.same_Some, specs.List.slice_get}
use Rattle.std.specs.Prelude.{option_and_then}
use mathlib.Core.List.{tail-eq_of_cons-eq}
use Rattle.yq_core.{specs.Paths.Step, specs.Text.is_empty, specs.Tree.Node}
use Rattle.yq_outline.{specs.Comments.head_comment, specs.Outline.{Line, Outline, flatten}}
use Rattle.yq_outline.{specs.Places.{FoundLine, here, lines_after, lines_before}, specs.Positions.has_no_mark, proofs.Decides.flatten-group}
use Rattle.yq_outline.specs.Lines.{lines_from, lines_of_rows, line_mark, row_lines}
use Rattle.yq_outline.{proofs.WalkLevels.{RowsAgree, IsLineOf, RowAgrees, line_in}, proofs.WalkRows.rows_agree, proofs.KnownLaws.get_front}
use Rattle.yq_row_table.specs.Grammar.{AreDashes, AreRows, IsRow, Limit, is_entry, unlimited}
use Rattle.yq_row_table.{specs.Rows.{Row, Part, Cut, after_columns, cut_text, part_text, print_row, rows_text}, specs.View.slices}
use Rattle.yq_documents.{specs.Documents.document_parts, specs.Reading.part_outline}
use Rattle.yq_places.{specs.CollectionEnds.{CollectionEnd, is_broken}, specs.Placements.{RowsOfEntry, before_entry, after_entry, is_alone}}
use Rattle.yq_places.{proofs.FlowViewLaws.before_under, proofs.RowPathLaws.found_lines, proofs.UnderExchange.lines_append}
use Rattle.yq_edit_rules.{specs.Changed.put_document, specs.CollectionPlaces.{BeginsAt, IsCollectionEnd}, specs.DocumentRows.after_document}
use Rattle.yq_edit_rules.specs.Siblings.{HasEntries, IsEntry, NodeLines, lines_at, lines_below, under_line}
use Rattle.yq_edit_rules.{specs.PlacementLaws.HasItsRows, proofs.EndedRowLaws.row_there, proofs.LineLaws.row_count}
use Rattle.yq_edit_rules.{proofs.PartLaws.{document_known, part_rows}, proofs.CommentRowLaws.rows_front, proofs.SamePlaceLaws.put_own}
use Rattle.yq_edit_laws.proofs.CollectionRows.{get_after, past_front, row_agrees_in, columns_are, no_bare}
use Rattle.yq_row_table.specs.Rows as rows

-- rows in two parts in two ways, of which the first ones have as many lines
rows_by_lines : (a b c d : List Row) → a ++ b ≡ c ++ d → length (lines_of_rows a) ≡ length (lines_of_rows c) → (a ≡ c) × (b ≡ d)
rows_by_lines [] b [] d e size = (refl, e)
rows_by_lines [] b (y ∷ c) d e size = absurd (omega (arith, size, row_count y, length-append (row_lines y) (lines_of_rows c)))
rows_by_lines (x ∷ a) b [] d e size = absurd (omega (arith, size, row_count x, length-append (row_lines x) (lines_of_rows a)))
rows_by_lines (x ∷ a) b (y ∷ c) d e size = search (rules, length-append, rows_by_lines a b c d (tail-eq_of_cons-eq e))

-- ---- under a line

module _ (n : ℕ) (s : Step) (ss : List Step) (c : Cut) (e : RowsOfEntry) (there : HasItsRows n s ss c e) where
  abbrev p : Part
  p = there.part

  abbrev f : FoundLine
  f = there.found

  abbrev after : List Line
  after = flatten f.after ++ lines_after f.place

  pub are : AreRows unlimited p.rows p.end (after_document n c)
  are = part_rows (cut_text c) c n p there.old (document_known (cut_text c) c n p there.old).cut

  row_agrees : RowAgrees e.row
  row_agrees = row_agrees_in e.front (e.under ++ e.back) e.row (subst RowsAgree there.rows_are (rows_agree unlimited p.rows p.end (after_document n c) are))

  -- the lines from that one on
  lines_there : (i : ℕ) → slice_get (row_lines e.row ++ (lines_of_rows e.under ++ lines_of_rows e.back)) (e.line + i) ≡ slice_get (f.line ∷ (flatten f.under ++ after)) i
  lines_there i =
      let rest : List Line = row_lines e.row ++ (lines_of_rows e.under ++ lines_of_rows e.back) in
      let rows : lines_of_rows p.rows ≡ lines_of_rows e.front ++ rest = search (rules, lines_append) in
      let found : lines_of_rows p.rows ≡ lines_before f.place ++ (f.line ∷ (flatten f.under ++ after)) = found_lines (lines_of_rows p.rows) s ss [] f there.is in
      let same : length (lines_of_rows e.front) + (e.line + i) ≡ length (lines_before f.place) + i = omega (arith, there.number) in
      sym (get_after (lines_of_rows e.front) rest (e.line + i))
      ∙ ((λ j. slice_get ((sym rows ∙ found) j) (same j)) ∙ get_after (lines_before f.place) (f.line ∷ (flatten f.under ++ after)) i)

  own_line : e.line ≤ length e.row.dashes → IsLineOf e.row.column e.row.dashes e.row.mark e.row.content e.line f.line
  own_line within =
      let l = line_in (head_comment e.row.gap) e.row.column e.row.dashes e.row.mark e.row.content e.line within in
      let at : slice_get (row_lines e.row ++ (lines_of_rows e.under ++ lines_of_rows e.back)) e.line ≡ Some l.0 =
      get_front (row_lines e.row) (lines_of_rows e.under ++ lines_of_rows e.back) e.line l.0 l.1 in
      let plain : e.line ≡ e.line + 0 = omega arith in
      let same : l.0 ≡ f.line =
      same_Some _ _ (sym at ∙ (ap (slice_get (row_lines e.row ++ (lines_of_rows e.under ++ lines_of_rows e.back))) plain ∙ lines_there 0)) in
      subst (IsLineOf e.row.column e.row.dashes e.row.mark e.row.content e.line) same l.2

  -- where the key or dash has nothing after it
  pub headless_mark : e.line ≡ length e.row.dashes → is_empty (slices e.row).head ≡ true → f.line.head ≡ None
  headless_mark last h1 = grind (arith, common_steps, own_line, row_agrees, false≢true)

  pub headless_dash : e.line < length e.row.dashes → f.line.head ≡ None
  headless_dash less = ((own_line (omega (arith, less))).dash less).1

  -- the first line under it
  begins : (x : Line) (column : ℕ) → slice_get (row_lines e.row ++ (lines_of_rows e.under ++ lines_of_rows e.back)) (e.line + 1) ≡ Some x →
      IsEntry x.mark → x.column ≡ column → 0 < length (flatten f.under) → HasEntries f.under × BeginsAt column f.under
  begins x column at entry col some = search (rules, arith, lines_there, same_Some)

  -- a collection on the lines under the key or dash
  pub begins_under : (r : Row) (rs : List Row) → e.line ≡ length e.row.dashes → e.under ≡ r ∷ rs → is_alone r ≡ false → HasEntries f.under × BeginsAt r.column f.under
  begins_under r rs last under alone =
      let l = line_in (head_comment r.gap) r.column r.dashes r.mark r.content 0 (omega arith) in
      let count : length (row_lines e.row) ≡ e.line + 1 = omega (arith, row_count e.row, last) in
      let at : slice_get (row_lines e.row ++ (lines_of_rows e.under ++ lines_of_rows e.back)) (e.line + 1) ≡ Some l.0 =
      (λ i. slice_get (row_lines e.row ++ (lines_of_rows (under i) ++ lines_of_rows e.back)) (sym count i))
      ∙ (let plain : length (row_lines e.row) ≡ length (row_lines e.row) + 0 = omega arith in ap (slice_get (row_lines e.row ++ (lines_of_rows (r ∷ rs) ++ lines_of_rows e.back))) plain
      ∙ (get_after (row_lines e.row) (lines_of_rows (r ∷ rs) ++ lines_of_rows e.back) 0 ∙ get_front (lines_of_rows (r ∷ rs)) (lines_of_rows e.back) 0 l.0 (get_front (row_lines r) (lines_of_rows rs) 0 l.0 l.1))) in
      let some : 0 < length (flatten f.under) = search (rules, arith, row_count, length-append) in
      begins l.0 r.column at (first_entry r.dashes r.mark l.0 alone l.2) (omega (arith, l.2.column_is)) some
    where
      first_entry : (ns : List ℕ) (m : rows.RowMark) (l : Line) → (is_empty ns && has_no_mark (line_mark m)) ≡ false → IsLineOf r.column ns m r.content 0 l → IsEntry l.mark
      first_entry [] m l e is = subst IsEntry (sym (is.mark refl).0) (no_bare (line_mark m) e)
      first_entry (k ∷ ns) m l e is = subst IsEntry (sym (is.dash (omega arith)).0) tt

  -- a collection after the dash
  pub begins_after : e.line < length e.row.dashes → HasEntries f.under × BeginsAt (after_columns e.row.column (take (suc e.line) e.row.dashes)) f.under
  begins_after less =
      let l = line_in (head_comment e.row.gap) e.row.column e.row.dashes e.row.mark e.row.content (suc e.line) (omega (arith, less)) in
      let next : e.line + 1 ≡ suc e.line = omega arith in
      let at : slice_get (row_lines e.row ++ (lines_of_rows e.under ++ lines_of_rows e.back)) (e.line + 1) ≡ Some l.0 = search (rules, get_front) in
      let some : 0 < length (flatten f.under) = omega (arith, there.count, less, row_count e.row, length-append (row_lines e.row) (lines_of_rows e.under)) in
      begins l.0 (after_columns e.row.column (take (suc e.line) e.row.dashes)) at (entry l.0 l.2) (l.2.column_is ∙ sym (columns_are e.row.column (take (suc e.line) e.row.dashes))) some
    where
      marked : (ns : List ℕ) (m : rows.RowMark) → 0 < length ns → AreDashes ns m → is_entry m ≡ true
      marked [] m some h = absurd (omega (arith, some))
      marked (k ∷ ns) m some h = h.1

      entry_mark : (m : rows.RowMark) → is_entry m ≡ true → IsEntry (line_mark m)
      entry_mark rows.Bare h = absurd (false≢true h)
      entry_mark _ h = tt

      row_is : (l : Limit) × IsRow l e.row (rows_text (e.under ++ e.back) (p.end ++ after_document n c))
      row_is = row_there unlimited e.front e.row (e.under ++ e.back) p.end (after_document n c) (subst (λ rs. AreRows unlimited rs p.end (after_document n c)) there.rows_are are)

      entry : (l : Line) → IsLineOf e.row.column e.row.dashes e.row.mark e.row.content (suc e.line) l → IsEntry l.mark
      entry l is = grind (arith, common_steps, cases_lt, entry_mark, marked, row_is, is.dash, is.mark)

  -- its end
  abbrev pub end_at : ℕ → Bool → CollectionEnd
  end_at column broken = record { column = column; before = before_entry e ++ print_row e.row (rows_text e.under []); broken = broken; after = after_entry e }

  pub ends_there : (column : ℕ) (broken : Bool) → f.line.head ≡ None → HasEntries f.under × BeginsAt column f.under →
      broken ≡ is_broken (past_front e.front e.row e.under).last.content → IsCollectionEnd c n p (s ∷ ss) (end_at column broken)
  ends_there column broken none begin last =
      let h = past_front e.front e.row e.under in
      let above : length (lines_before (under_line f).place) ≡ length (lines_before f.place) + 1 = ap length (before_under f.place f.line f.after) ∙ length-append (lines_before f.place) (f.line ∷ []) in
      record {
        h = under_line f;
        collection = search rules;
        first = begin.1;
        front = e.front ++ (e.row ∷ e.under);
        back = e.back;
        rows_are = there.rows_are ∙ sym (append_assoc e.front (e.row ∷ e.under) e.back);
        others = h.others;
        last = h.last;
        front_is = h.is;
        broken = last;
        count = omega (arith, ap length (lines_append e.front (e.row ∷ e.under)), length-append (lines_of_rows e.front) (lines_of_rows (e.row ∷ e.under)), there.number, there.count, above);
        start = e.start;
        before_is = append_assoc e.start (rows_text e.front []) (print_row e.row (rows_text e.under [])) ∙ ap (λ t. e.start ++ t) (sym (rows_front e.front (e.row ∷ e.under) []));
        following_is = λ i. rows_text e.back (there.end_is i ++ there.following_is i);
        old_text = sym (ap cut_text (put_own n c p there.old.there)) ∙ there.put p;
        new_text = there.put;
      }

  -- whichever end of it is told, these rows are in front
  pub front_there : (x : CollectionEnd) (a : IsCollectionEnd c n p (s ∷ ss) x) → f.line.head ≡ None → (a.front ≡ e.front ++ (e.row ∷ e.under)) × (a.back ≡ e.back)
  front_there x a none =
      let found : lines_at (s ∷ ss) (part_outline p) ≡ Some (under_line f) =
      ap (option_and_then (λ (y : FoundLine × List Step). lines_below y.0.line.head y.1 y.0)) there.is ∙ ap (λ (o : Option Node). lines_below o [] f) none in
      let same : under_line f ≡ a.h = same_Some _ _ (sym found ∙ a.collection.place_is) in
      let above : length (lines_before (under_line f).place) ≡ length (lines_before f.place) + 1 = ap length (before_under f.place f.line f.after) ∙ length-append (lines_before f.place) (f.line ∷ []) in
      rows_by_lines a.front a.back (e.front ++ (e.row ∷ e.under)) e.back (sym a.rows_are ∙ (there.rows_are ∙ sym (append_assoc e.front (e.row ∷ e.under) e.back)))
      (omega (
        arith,
        a.count,
        ap (λ (h : NodeLines). length (lines_before h.place)) same,
        ap (λ (h : NodeLines). length (flatten h.lines)) same,
        above,
        ap length (lines_append e.front (e.row ∷ e.under)),
        length-append (lines_of_rows e.front) (lines_of_rows (e.row ∷ e.under)),
        there.number,
        there.count,
      ))

-- ---- at the root

pub root_ends : (n : ℕ) (c : Cut) (p : Part) (start : List ℕ) (r : Row) (rs : List Row) (broken : Bool) → slice_get (document_parts c) n ≡ Some p → p.rows ≡ r ∷ rs → is_alone r ≡ false →
    ((q : Part) → cut_text (put_document n q c) ≡ start ++ part_text q (after_document n c)) → broken ≡ is_broken (past_front [] r rs).last.content →
    IsCollectionEnd c n p [] (record { column = r.column; before = start ++ rows_text p.rows []; broken = broken; after = p.end ++ after_document n c })
root_ends n c part start r rs broken at are_rows alone put last =
    let h = past_front [] r rs in
    let begin = begins (part_outline part) (flatten-group (lines_of_rows part.rows) ∙ ap lines_of_rows are_rows) in
    record {
      h = record { place = here; above = 0; anchor = None; lines = part_outline part };
      collection = record { place_is = refl; block = begin.0 };
      first = begin.1;
      front = part.rows;
      back = [];
      rows_are = sym (append-nil part.rows);
      others = h.others;
      last = h.last;
      front_is = are_rows ∙ h.is;
      broken = last;
      count = omega (arith, ap length (flatten-group (lines_of_rows part.rows)));
      start = start;
      before_is = refl;
      following_is = refl;
      old_text = sym (ap cut_text (put_own n c part at)) ∙ put part;
      new_text = put;
    }
  where
    first : (above : List (List ℕ)) (column : ℕ) (ns : List ℕ) (m : rows.RowMark) (x : rows.Content) (more : List Line) →
        (is_empty ns && has_no_mark (line_mark m)) ≡ false → (o : Outline) → flatten o ≡ lines_from above column ns m x ++ more → HasEntries o
        × BeginsAt column o
    first above column ns m x more e o is = search (rules, no_bare)

    begins : (o : Outline) → flatten o ≡ lines_of_rows (r ∷ rs) → HasEntries o × BeginsAt r.column o
    begins o is = first (head_comment r.gap) r.column r.dashes r.mark r.content (lines_of_rows rs) alone o is

-- whichever end of it is told, all rows are in front
pub root_rows_there : (n : ℕ) (c : Cut) (p : Part) (x : CollectionEnd) (a : IsCollectionEnd c n p [] x) → (a.front ≡ p.rows) × (a.back ≡ [])
root_rows_there n c p x a =
    let same : a.h ≡ record { place = here; above = 0; anchor = None; lines = part_outline p } = sym (same_Some _ _ a.collection.place_is) in
    rows_by_lines a.front a.back p.rows [] (sym a.rows_are ∙ sym (append-nil p.rows))
    (omega (
      arith,
      a.count,
      ap (λ (h : NodeLines). length (lines_before h.place)) same,
      ap (λ (h : NodeLines). length (flatten h.lines)) same,
      ap length (flatten-group (lines_of_rows p.rows)),
    ))
