-- The text around the first item or entry of a compact collection.
use Rattle.std.proofs.Common.{◌≡◌, ℕ, suc, ◌+◌, ◌-◌, ◌<◌, List, [], ◌∷◌, ◌++◌, length, take, drop, map, Option, Some, option_and_then}
use Rattle.std.proofs.Common.{replicate, true, refl, sym, ap, ◌∙◌, subst, arith, append_assoc, length-append, rules}
use Rattle.std.{proofs.Math.Seq.{take-append_seam, drop-append_seam}, proofs.lemmas.List.{take-append-drop, length-take-le}}
use Rattle.std.{proofs.lemmas.Option.{none-some, same_Some}, specs.List.slice_get}
use Rattle.yq_core.{specs.Answers.◌>>=◌, specs.Paths.Step, proofs.Bools.bind_some}
use Rattle.yq_outline.{specs.Comments.head_comment, specs.Ends.{found_line, line_at_steps, lines_end}, specs.Group.{group, is_fine}}
use Rattle.yq_outline.{specs.Outline.flatten, specs.Places.{lines_before, FoundLine, find}, specs.Lines.{dash_line, lines_of_rows}}
use Rattle.yq_outline.proofs.RowLaws.{lines_count as lines_count_from}
use Rattle.yq_row_table.{specs.Grammar.{unlimited, AreRows, limit_after}, specs.Exchange.asked_after}
use Rattle.yq_row_table.{specs.Rows.{Content, Nothing, Row, after_columns, rows_text, Part}, proofs.seams.FrontSeams.rows_some}
use Rattle.yq_documents.{specs.declared.path.Part.TheVariants.Entry, specs.Pieces.TextPiece, specs.LinesInRows.{RowLine, row_line}}
use Rattle.yq_places.specs.PathPieces.{BlockEntry, found_entry, piece_in, piece_in_entry}
use Rattle.yq_places.specs.PrintedLines.{PrintedLine, print_lines, printed_from, printed_lines, printed_row, line_in, run_piece}
use Rattle.yq_places.{proofs.FoundEntries.lines_count, proofs.PrintedLaws.lines_are, proofs.PrintedTexts.{lines_then, rows_are}}
use Rattle.yq_places.{proofs.PrintedRowLines.{row_begin, printed_line, row_count}, proofs.UnderCounts.end_is}
use Rattle.yq_edit_rules.{specs.LineRows.lines_before_entry, specs.Siblings.NodeLines}
use Rattle.yq_edit_rules.{proofs.FirstBreakLaws.{IsOneBreak, lines_break, rows_break}, proofs.FirstEntryLaws.FirstRows}
use Rattle.yq_edit_rules.{proofs.FirstReplaceLaws.rows_after, proofs.PartLaws.take_front}
use Rattle.yq_row_table.specs.Rows as rows

-- ---- lines of rows

printed_parts : (front back : List Row) → printed_lines (front ++ back) ≡ printed_lines front ++ printed_lines back
printed_parts [] back = refl
printed_parts (r ∷ front) back = ap (λ ls. printed_row r ++ ls) (printed_parts front back) ∙ sym (append_assoc (printed_row r) (printed_lines front) (printed_lines back))

printed_count : (rs : List Row) → length (printed_lines rs) ≡ length (lines_of_rows rs)
printed_count rs = omega (arith, lines_count (printed_lines rs), ap length (lines_are rs))

-- the line of a dash
abbrev dash_printed : List ℕ → List ℕ → ℕ → ℕ → PrintedLine
dash_printed gap spaces column n = record { line = dash_line (head_comment gap) column; gap = gap; spaces = spaces; mark = 45 ∷ replicate n 32; content = Nothing [] }

-- The lines of dashes, before those after them.
record DashesPrinted (gap spaces : List ℕ) (column : ℕ) (ns es : List ℕ) (m : rows.RowMark) (c : Content) : Type 0 where
  pub lines : List PrintedLine
  pub count : length lines ≡ length ns
  pub is : printed_from gap spaces column (ns ++ es) m c ≡ lines ++ printed_from [] [] (after_columns column ns) es m c

dashes_printed : (gap spaces : List ℕ) (column : ℕ) (ns es : List ℕ) (m : rows.RowMark) (c : Content) → 0 < length ns → DashesPrinted gap spaces column ns es m c
dashes_printed gap spaces column [] es m c h = absurd (omega (arith, h))
dashes_printed gap spaces column (n ∷ []) es m c h = record { lines = dash_printed gap spaces column n ∷ []; count = refl; is = refl }
dashes_printed gap spaces column (n ∷ (k ∷ ns)) es m c h =
    let d = dashes_printed [] [] (suc (column + n)) (k ∷ ns) es m c (omega arith) in
    record { lines = dash_printed gap spaces column n ∷ d.lines; count = ap suc d.count; is = ap (λ (ls : List PrintedLine). dash_printed gap spaces column n ∷ ls) d.is }

-- ---- lines in three parts

drop_part : (a b c : List PrintedLine) (l : PrintedLine) → drop (suc (length a)) (a ++ (l ∷ (b ++ c))) ≡ b ++ c
drop_part [] b c l = refl
drop_part (x ∷ a) b c l = drop_part a b c l

get_part : (a c : List PrintedLine) (l : PrintedLine) → slice_get (a ++ (l ∷ c)) (length a) ≡ Some l
get_part [] c l = refl
get_part (x ∷ a) c l = get_part a c l

parts_at : (a b c ls : List PrintedLine) (n m : ℕ) (l : PrintedLine) → ls ≡ a ++ (b ++ c) → n ≡ length a → suc m ≡ length b → slice_get ls n ≡ Some l →
    (l ∷ take m (drop (suc n) ls) ≡ b) × (drop m (drop (suc n) ls) ≡ c)
parts_at a [] c ls n m l is before size there = absurd (omega (arith, size))
parts_at a (x ∷ b) c ls n m l is before size there = search (rules, arith, drop_part, same_Some, get_part, take-append_seam, drop-append_seam)

-- ---- the piece of an item or entry

-- The piece of the first item or entry of a compact collection, by the rows around it.
pub record FirstText (start z : List ℕ) (q : RowLine) (front : List Row) (back : List Row) (x : TextPiece) : Type 0 where
  pub before : x.before ≡ start ++ rows_text front (row_begin q)
  pub break : List ℕ
  pub one : IsOneBreak break
  pub after : x.after ≡ break ++ rows_text back z

module _ (p : Part) (start rest : List ℕ) (h : NodeLines) (f : FoundLine) (q : RowLine) (fr : FirstRows p h f q) (later : 0 < q.line) (n : ℕ) (number : n ≡ lines_before_entry h f)
    (row_line_is : row_line n p.rows ≡ Some q) (size : lines_end n (lines_of_rows p.rows) - n ≡ length (f.line ∷ flatten f.under)) (fine : is_fine (group (lines_of_rows p.rows)) ≡ true)
    (are : AreRows unlimited p.rows p.end rest) where
  abbrev ls : List PrintedLine
  ls = printed_lines p.rows

  abbrev z : List ℕ
  z = p.end ++ rest

  abbrev r : Row
  r = q.row

  abbrev ns : List ℕ
  ns = take q.line r.dashes

  abbrev es : List ℕ
  es = drop q.line r.dashes

  abbrev column : ℕ
  column = after_columns r.column ns

  abbrev back : List Row
  back = fr.next ∷ fr.back

  abbrev own : List PrintedLine
  own = printed_from [] [] column es r.mark r.content ++ printed_lines fr.gone

  dashes : DashesPrinted r.gap (replicate r.column 32) r.column ns es r.mark r.content
  dashes = dashes_printed r.gap (replicate r.column 32) r.column ns es r.mark r.content (omega (arith, length-take-le q.line r.dashes fr.within, later))

  abbrev above : List PrintedLine
  above = printed_lines fr.front ++ dashes.lines

  above_count : n ≡ length above
  above_count = omega (arith, number, fr.before, length-append (printed_lines fr.front) dashes.lines, printed_count fr.front, dashes.count)

  own_count : length own ≡ length (f.line ∷ flatten f.under)
  own_count = search (rules, length-append, row_count, lines_count_from, printed_count)

  front_is : take q.before p.rows ≡ fr.front
  front_is = ap (λ (k : ℕ). take k p.rows) (sym fr.number) ∙ take_front p fr.front (r ∷ (fr.gone ++ back)) fr.rows_are

  one_break : IsOneBreak (lines_break own)
  one_break =
      let after : AreRows (asked_after unlimited fr.front) (r ∷ (fr.gone ++ back)) p.end rest =
      rows_after unlimited fr.front (r ∷ (fr.gone ++ back)) p.end rest (subst (λ (rs : List Row). AreRows unlimited rs p.end rest) fr.rows_are are) in
      let next : AreRows (asked_after (limit_after r) fr.gone) back p.end rest = rows_after (limit_after r) fr.gone back p.end rest after.1 in
      rows_break (asked_after unlimited fr.front) r fr.gone back p.end rest [] [] column es after (rows_some (asked_after (limit_after r) fr.gone) back p.end rest refl next)

  -- line k with the m lines after it
  abbrev entry_at : ℕ → ℕ → PrintedLine → BlockEntry
  entry_at k m l = record { before = start ++ print_lines (take k ls) []; line = l; under = take m (drop (suc k) ls); after = print_lines (drop m (drop (suc k) ls)) z }

  -- a line that was found
  text_found : (y : Step) (ys : List Step) (g : FoundLine) (l : PrintedLine) → find y ys (group (lines_of_rows p.rows)) ≡ Some (g, []) → length (lines_before g.place) ≡ n → slice_get ls n ≡ Some l →
      FirstText start z q fr.front back (run_piece (start ++ print_lines (take n ls) []) l (take (length (flatten g.under)) (drop (suc n) ls))
      (print_lines (drop (length (flatten g.under)) (drop (suc n) ls)) z))
  text_found y ys g l found at there =
      let m : ℕ = length (flatten g.under) in
      let ends = (end_is (lines_of_rows p.rows) y ys [] g found fine).1 in
      let ends_at : lines_end n (lines_of_rows p.rows) ≡ suc n + m = subst (λ (k : ℕ). lines_end k (lines_of_rows p.rows) ≡ suc k + m) at ends in
      let count : suc m ≡ length own = omega (arith, size, ends_at, own_count) in
      let parts = parts_at above own (printed_lines back) ls n m l (search (rules, printed_parts, take-append-drop, append_assoc)) above_count count there in
      let d = printed_line p.rows n q row_line_is in
      let same : d.line ≡ l = same_Some _ _ (sym d.there ∙ there) in
      record {
        before = search (rules, append_assoc, lines_then, row_begin, front_is);
        break = lines_break own;
        one = one_break;
        after = (λ i. lines_break (parts.0 i) ++ print_lines (parts.1 i) z) ∙ ap (λ (t : List ℕ). lines_break own ++ t) (rows_are back z);
      }

  pub first_text : (y : Step) (ys : List Step) (x : TextPiece) → line_at_steps (y ∷ ys) (lines_of_rows p.rows) ≡ Some n →
      piece_in Entry (y ∷ ys) (record { before = start; lines = printed_lines p.rows; after = p.end ++ rest }) ≡ Some x →
      FirstText start (p.end ++ rest) q fr.front (fr.next ∷ fr.back) x
  first_text y ys x line piece =
      let a = bind_some (find y ys (group (map line_in ls))) piece in
      let found : find y ys (group (lines_of_rows p.rows)) ≡ Some a.0 = ap (λ us. find y ys (group us)) (sym (lines_are p.rows)) ∙ a.1 in
      go a.0.0 a.0.1 found (sym (ap (option_and_then (λ x. found_line x.0 x.1)) found) ∙ line) a.2
    where
      last : (g : FoundLine) → find y ys (group (lines_of_rows p.rows)) ≡ Some (g, []) → length (lines_before g.place) ≡ n → (k : ℕ) → length (lines_before g.place) ≡ k →
          (slice_get ls k >>= λ l. piece_in_entry Entry [] (entry_at k (length (flatten g.under)) l)) ≡ Some x →
          FirstText start z q fr.front back x
      last g found at k is e =
          let l = bind_some (slice_get ls k) e in
          let same : k ≡ n = sym is ∙ at in
          subst (FirstText start z q fr.front back)
          (ap (λ (j : ℕ). run_piece (start ++ print_lines (take j ls) []) l.0 (take (length (flatten g.under)) (drop (suc j) ls))
          (print_lines (drop (length (flatten g.under)) (drop (suc j) ls)) z)) (sym same) ∙ same_Some _ _ l.2)
          (text_found y ys g l.0 found at (ap (slice_get ls) (sym same) ∙ l.1))

      go : (g : FoundLine) (more : List Step) → find y ys (group (lines_of_rows p.rows)) ≡ Some (g, more) → found_line g more ≡ Some n →
          (found_entry (record { before = start; lines = ls; after = z }) g >>= piece_in_entry Entry more) ≡ Some x → FirstText start z q fr.front back x
      go g [] found at e =
          let b = bind_some (found_entry (record { before = start; lines = ls; after = z }) g) e in
          let l = bind_some (slice_get ls (length (lines_before g.place))) b.1 in
          last g found (same_Some _ _ at) (length (lines_before g.place)) refl
          (ap (λ (o : Option PrintedLine). o >>= λ l. piece_in_entry Entry [] (entry_at (length (lines_before g.place)) (length (flatten g.under)) l)) l.1
          ∙ (ap (piece_in_entry Entry []) (same_Some _ _ l.2) ∙ b.2))
      go g (t ∷ ts) found at e = absurd (none-some _ at)
