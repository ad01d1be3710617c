-- The row of the line to which steps lead, in its document and in the text.
use Rattle.std.proofs.Common.{◌≡◌, ◌⊎◌, ⊎_elim, ℕ, suc, ◌+◌, true, false, List, [], ◌∷◌, ◌++◌, length, take, drop, replicate, Option, Some}
use Rattle.std.proofs.Common.{None, option_and_then, option_map, refl, sym, ap, ◌∙◌, subst, append_assoc, rules}
use Rattle.std.{proofs.lemmas.List.take-append-drop, proofs.lemmas.Bool.{false≢true, or_cases, cases_Bool}}
use Rattle.std.{proofs.lemmas.Option.{none-some, same_Some}, specs.List.slice_get}
use Rattle.yq_core.{proofs.LineLaws.is_empty_is, specs.Answers.◌>>=◌, specs.Paths.Step}
use Rattle.yq_core.{specs.Text.{is_empty, ends_line, no_white, past_white}, proofs.Bools.bind_some, proofs.Upto.cut_takes}
use Rattle.yq_outline.{specs.Ends.{found_line, line_at_steps}, specs.Places.{FoundLine, bare_or}, specs.Outline.{LineMark, Bare, Line}}
use Rattle.yq_outline.specs.Lines.{lines_from, lines_of_rows}
use Rattle.yq_row_table.{specs.Exchange.row_front, specs.Grammar.{IsTail, IsRow, Limit}}
use Rattle.yq_row_table.specs.Rows.{Row, after_indent, dashes_text, mark_text, print_row, rows_text, Cut, Part, cut_text}
use Rattle.yq_row_table.{specs.View.slices, proofs.Fronts.Starts, proofs.LineEnds.following_line_end, proofs.PlaceLaws.row_then}
use Rattle.yq_row_table.{proofs.RowAgain.row_starts, proofs.seams.SeamLaws.rows_text-append, proofs.splices.ContentPlaces.count_front}
use Rattle.yq_places.specs.CommentPlaces.{end_in_line, text_to_line_end}
use Rattle.yq_places.specs.PlacedRows.{PlacedPart, PlacedRow, placed_document, placed_row, row_of_path}
use Rattle.yq_places.specs.Placements.{RowsOfEntry, before_entry, after_entry, entry_rows_at, rows_of_entry, under_count}
use Rattle.yq_places.{proofs.CommentEndLaws.row_text_parts, proofs.CommentPieceLaws.row_place, proofs.PlacedRowLaws.{IsAt, part_at}}
use Rattle.yq_places.{proofs.PrintedTexts.map_some, proofs.RowLineSpans.steps_row}
use Rattle.yq_documents.{specs.Documents.document_parts, specs.Ready.begins_no_node, specs.LinesInRows.{RowLine, row_line_of, document_row}}
use Rattle.yq_edit_rules.{proofs.RemovalPieceLaws.front_none, proofs.PlacedPartLaws.document_is_there_at}
use Rattle.yq_core.specs.Text as text
use Rattle.yq_row_table.specs.Rows as rows

pub rows_front : (front rs : List Row) (rest : List ℕ) → rows_text (front ++ rs) rest ≡ rows_text front [] ++ rows_text rs rest
rows_front [] rs rest = refl
rows_front (r ∷ front) rs rest = ap (print_row r) (rows_front front rs rest) ∙ row_then r (rows_text front []) (rows_text rs rest)

-- the rows after a row are those under it, and the further ones
after_rows : (d : PlacedPart) (k : ℕ) (rs : List Row) → rows_text rs (d.part.end ++ d.after) ≡ rows_text (take k rs) (rows_text (drop k rs) (d.part.end ++ d.after))
after_rows d k rs = ap (λ (xs : List Row). rows_text xs (d.part.end ++ d.after)) (sym (take-append-drop k rs)) ∙ rows_text-append (take k rs) (drop k rs) (d.part.end ++ d.after)

-- What is known of the rows of an item or entry to which steps lead: their first row is that of the line, in its document and in the text.
pub record IsEntryRow (n : ℕ) (steps : List Step) (c : Cut) (e : RowsOfEntry) : Type 0 where
  pub line_is : (p : Part) → slice_get (document_parts c) n ≡ Some p → row_line_of steps p.rows ≡ Some (record { before = length e.front; row = e.row; line = e.line })
  pub index : ℕ
  pub at : IsAt c index (before_entry e) e.row (rows_text e.under (after_entry e))

pub entry_found : (n : ℕ) (steps : List Step) (c : Cut) (e : RowsOfEntry) → rows_of_entry n steps c ≡ Some e → IsEntryRow n steps c e
entry_found n steps c e is =
    let d = bind_some (placed_document n c) is in
    let x = map_some (row_line_of steps d.0.part.rows) d.2 in
    subst (IsEntryRow n steps c) x.2 (there d.0 d.1 x.0 x.1)
  where
    there : (d : PlacedPart) → placed_document n c ≡ Some d → (x : RowLine) → row_line_of steps d.part.rows ≡ Some x → IsEntryRow n steps c (entry_rows_at d x)
    there d at x line =
        let row = steps_row (line_at_steps steps (lines_of_rows d.part.rows)) d.part.rows x line in
        let own = part_at n c d at x.before x.row row in
        let rs : List Row = drop (suc x.before) d.part.rows in
        let k : ℕ = under_count x rs in
        let same = (document_is_there_at c n d at).there in
        record {
          line_is = λ p is. ap (λ (q : Part). row_line_of steps q.rows) (same_Some _ _ (sym is ∙ same)) ∙ (line ∙ ap (λ m. Some (record { before = m; row = x.row; line = x.line })) (sym (count_front d.part.rows x.before x.row row)));
          index = document_row n c + x.before;
          at = record { there = own.there; before_is = own.before_is; following_is = own.following_is ∙ after_rows d k rs };
        }

-- the row of an item or entry
abbrev pub entry_row : RowsOfEntry → PlacedRow
entry_row e = record { before = before_entry e; row = e.row; line = e.line; after = rows_text e.under (after_entry e) }

-- a row of a path is that of its item or entry
pub rows_same : (n : ℕ) (steps : List Step) (c : Cut) → row_of_path n steps c ≡ option_map entry_row (rows_of_entry n steps c)
rows_same n steps c = go (placed_document n c)
  where
    printed_line : (d : PlacedPart) (o : Option RowLine) → option_map (placed_row d) o ≡ option_map entry_row (option_map (entry_rows_at d) o)
    printed_line d o = search (rules, after_rows)

    go : (o : Option PlacedPart) → (o >>= λ d. option_map (placed_row d) (row_line_of steps d.part.rows)) ≡ option_map entry_row (o >>= λ d. option_map (entry_rows_at d) (row_line_of steps d.part.rows))
    go o = search (rules, printed_line)

pub entry_is_row : (n : ℕ) (steps : List Step) (c : Cut) (e : RowsOfEntry) → rows_of_entry n steps c ≡ Some e → row_of_path n steps c ≡ Some (entry_row e)
entry_is_row n steps c e is = rows_same n steps c ∙ ap (option_map entry_row) is

-- the text of the cut, by that row
pub cut_spelled : (n : ℕ) (steps : List Step) (c : Cut) (e : RowsOfEntry) → rows_of_entry n steps c ≡ Some e → cut_text c ≡ before_entry e ++ print_row e.row (rows_text e.under (after_entry e))
cut_spelled n steps c e is = let f = entry_found n steps c e is in row_place c f.index e.row f.at.there ∙ (λ j. f.at.before_is j ++ print_row e.row (f.at.following_is j))

-- the text up to the end of the line, and after
pub line_whole : (w : PlacedRow) → w.before ++ print_row w.row w.after ≡ (w.before ++ text_to_line_end w.row) ++ ((slices w.row).tail ++ ((slices w.row).raw ++ w.after))
line_whole w = ap (λ l. w.before ++ l) (row_text_parts w.row w.after) ∙ sym (append_assoc w.before (text_to_line_end w.row) ((slices w.row).tail ++ ((slices w.row).raw ++ w.after)))

-- a rest is the end of its line and what is after
pub end_parts : (before rest : List ℕ) → rest ≡ (end_in_line before rest).white ++ ((end_in_line before rest).comment ++ (end_in_line before rest).after)
end_parts before rest = cut_takes no_white rest ∙ ap (λ x. (text.cut no_white rest).0 ++ x) (cut_takes ends_line (past_white rest))

-- ---- something is written on the line of a row

pub line_some : (limit : Limit) (r : Row) (rest : List ℕ) → IsRow limit r rest → IsTail (slices r).tail ((slices r).raw ++ rest) → is_empty (text_to_line_end r) ≡ false
line_some limit r rest h tail = go (cases_Bool (is_empty (text_to_line_end r)))
  where
    starts : text_to_line_end r ≡ [] → Starts ((slices r).tail ++ ((slices r).raw ++ rest))
    starts e =
        let first : row_front r ≡ [] = front_none (row_front r) _ e in
        let gap : r.gap ≡ [] = front_none r.gap (replicate r.column 32 ++ dashes_text r.dashes (mark_text r.mark [])) first in
        let rest_none : replicate r.column 32 ++ dashes_text r.dashes (mark_text r.mark []) ≡ [] = sym (ap (λ g. g ++ (replicate r.column 32 ++ dashes_text r.dashes (mark_text r.mark []))) gap) ∙ first in
        let spaces : replicate r.column 32 ≡ [] = front_none (replicate r.column 32) (dashes_text r.dashes (mark_text r.mark [])) rest_none in
        let whole : after_indent r rest ≡ (slices r).tail ++ ((slices r).raw ++ rest) =
        sym (λ i. gap i ++ (spaces i ++ after_indent r rest)) ∙ (row_text_parts r rest ∙ ap (λ l. l ++ ((slices r).tail ++ ((slices r).raw ++ rest))) e) in
        subst Starts whole (row_starts limit r rest h)

    go : (is_empty (text_to_line_end r) ≡ true) ⊎ (is_empty (text_to_line_end r) ≡ false) → is_empty (text_to_line_end r) ≡ false
    go h1 = search (rules, following_line_end, false≢true, ⊎_elim, or_cases, is_empty_is, starts)

-- ---- a path to a line

-- steps that lead to a line end in one
split_last : (s : Step) (ss : List Step) → (init : List Step) × (l : Step) × (s ∷ ss ≡ init ++ l ∷ [])
split_last s [] = ([], s, refl)
split_last s (t ∷ ts) = let x = split_last t ts in (s ∷ x.0, x.1, ap (λ l. s ∷ l) x.2)

pub some_steps : (steps : List Step) (rs : List Row) (x : RowLine) → row_line_of steps rs ≡ Some x → (init : List Step) × (l : Step) × (steps ≡ init ++ l ∷ [])
some_steps [] rs x e = absurd (none-some _ e)
some_steps (s ∷ ss) rs x e = split_last s ss

bare_none : (m : LineMark) → m ≡ Bare → (f : FoundLine) (s : Step) (ss : List Step) (y : Option (FoundLine × List Step)) → option_and_then (λ x. found_line x.0 x.1) (bare_or m (Some (f, s ∷ ss)) y) ≡ None
bare_none m is f s ss y = ap (λ k. option_and_then (λ x. found_line x.0 x.1) (bare_or k (Some (f, s ∷ ss)) y)) is

pub row_line_is_block : (steps : List Step) (rs : List Row) (x : RowLine) → row_line_of steps rs ≡ Some x → begins_no_node (lines_of_rows rs) ≡ true
row_line_is_block steps rs x e = let n = bind_some (line_at_steps steps (lines_of_rows rs)) e in (search (rules, none-some, bare_none, n.1))

-- rows have lines
row_some : (above : List (List ℕ)) (column : ℕ) (ns : List ℕ) (m : rows.RowMark) (c : rows.Content) (more : List Line) → lines_from above column ns m c ++ more ≡ [] → ⊥
row_some above column [] m c more e = cc
row_some above column (n ∷ ns) m c more e = cc

pub lines_some : (front : List Row) (r : Row) (back : List Row) → lines_of_rows (front ++ (r ∷ back)) ≡ [] → ⊥
lines_some [] r back e = row_some _ r.column r.dashes r.mark r.content (lines_of_rows back) e
lines_some (x ∷ front) r back e = row_some _ x.column x.dashes x.mark x.content (lines_of_rows (front ++ (r ∷ back))) e
