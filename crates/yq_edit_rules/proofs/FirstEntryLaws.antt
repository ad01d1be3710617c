-- The rows of the first item or entry of a compact collection, by its lines.
use Rattle.std.proofs.Common.{◌≡◌, ℕ, suc, ◌+◌, ◌<◌, ◌≤◌, true, List, [], ◌∷◌, ◌++◌, length, take, drop, Some, refl, sym, ap, ◌∙◌, subst}
use Rattle.std.{proofs.Common.{arith, append_assoc, length-append, rules}, proofs.lemmas.List.{take-append-drop, length-take-le}}
use mathlib.Core.List.{head-eq_of_cons-eq, tail-eq_of_cons-eq}
use Rattle.yq_core.specs.Paths.{Step}
use Rattle.yq_outline.{specs.Comments.head_comment, specs.Group.level_or, specs.Outline.{Line, level, Outline, row, flatten, IsEven}}
use Rattle.yq_outline.{specs.Places.{Context, here, plug, lines_before, lines_after, FoundLine, find_row}, proofs.PlaceLaws.at}
use Rattle.yq_outline.{proofs.Values.rank_small, specs.Lines.{dash_line, lines_from, row_lines, lines_of_rows}, proofs.RowLaws.no_comments}
use Rattle.yq_row_table.{specs.Grammar.{AreDashes, is_entry}, specs.Rows.{Content, Row, after_columns, Part}}
use Rattle.yq_documents.{specs.Reading.part_outline, specs.LinesInRows.{RowLine, row_line}}
use Rattle.yq_places.proofs.UnderExchange.{lines_append}
use Rattle.yq_edit_rules.specs.LineRows.{Begins, AreApartLines, InRows, IsRowLine, lines_before_entry, following_lines}
use Rattle.yq_edit_rules.{specs.Moved.dash_lines, specs.Siblings.{IsEntry, HasEntries, IsEntryAt, NodeLines}}
use Rattle.yq_edit_rules.{proofs.ApartLaws.{Stood, row_stood, entries_apart, first_level, row_begins}, proofs.ColumnLaws.apart_later}
use Rattle.yq_edit_rules.{proofs.LineLaws.{dashes_count, row_line_splits}, proofs.NodeLineLaws.lines_even, proofs.OwnRowLaws.lines_are}
use Rattle.yq_edit_rules.{proofs.PlacedLaws.same_parts, proofs.AppendLaws.first_column}
use Rattle.yq_row_table.specs.Rows as rows

-- ---- the lines of dashes

-- the lines of dashes, and those after them
pub dashes_first : (above : List (List ℕ)) (column : ℕ) (ns es : List ℕ) (m : rows.RowMark) (c : Content) → 0 < length ns →
    lines_from above column (ns ++ es) m c ≡ dash_lines above column ns ++ lines_from [] (after_columns column ns) es m c
dashes_first above column [] es m c h = absurd (omega (arith, h))
dashes_first above column (n ∷ []) es m c h = refl
dashes_first above column (n ∷ (k ∷ ns)) es m c h = ap (λ ls. dash_line above column ∷ ls) (dashes_first [] (suc (column + n)) (k ∷ ns) es m c (omega arith))

apart_last : (a : List Line) (l : Line) (z : List Line) → AreApartLines (a ++ (l ∷ [])) z → Begins (level l) z
apart_last (x ∷ (y ∷ a)) l z h = apart_last (y ∷ a) l z h
apart_last _ l z h = h

-- what comes after a dash is deeper
apart_dashes : (a : List Line) (above : List (List ℕ)) (column : ℕ) (ns es : List ℕ) (m : rows.RowMark) (c : Content) (rest : List Line) → 0 < length ns →
    AreApartLines (a ++ dash_lines above column ns) (lines_from [] (after_columns column ns) es m c ++ rest) → ⊥
unfolding level
apart_dashes a above column [] es m c rest some h = absurd (omega (arith, some))
apart_dashes a above column (n ∷ []) es m c rest some h =
    let begins = apart_last a (dash_line above column) (lines_from [] (suc (column + n)) es m c ++ rest) h in
    let low = first_level [] (suc (column + n)) es m c rest (level (dash_line above column)) begins in
    omega (arith, low)
apart_dashes a above column (n ∷ (k ∷ ns)) es m c rest some h =
    apart_dashes (a ++ (dash_line above column ∷ [])) [] (suc (column + n)) (k ∷ ns) es m c rest (omega arith)
    (subst (λ (x : List Line). AreApartLines x (lines_from [] (after_columns column (n ∷ (k ∷ ns))) es m c ++ rest))
    (sym (append_assoc a (dash_line above column ∷ []) (dash_lines [] (suc (column + n)) (k ∷ ns)))) h)

first_entry : (above : List (List ℕ)) (column : ℕ) (ns : List ℕ) (m : rows.RowMark) (c : Content) (rest : List Line) (l : Line) (ls : List Line) → lines_from above column ns m c ++ rest ≡ l ∷ ls →
    AreDashes ns m → IsEntry l.mark →
    is_entry m ≡ true
first_entry above column [] m c rest l ls e d h = search (rules, subst (λ (x : Line). IsEntry x.mark) (sym (head-eq_of_cons-eq e)) h)
first_entry above column (n ∷ ns) m c rest l ls e d h = d.1

same_column : (l k : Line) → level l ≡ level k → l.column ≡ k.column
unfolding level
same_column l k e = omega (arith, e, rank_small l.mark, rank_small k.mark)

-- ---- the first of several

plug_first : (p : Context) (o : Outline) → lines_before p ≡ [] → plug p o ≡ o
plug_first here o e = refl
plug_first _ o e = absurd (cc)

-- The line after an item or entry, where that is the next one's.
record NextLine (f : FoundLine) : Type 0 where
  pub line : Line
  pub under : Outline
  pub after : Outline
  pub is : f.after ≡ row line under after
  pub level_is : level line ≡ level f.line
  pub entry : IsEntry line.mark

next_line : (m : ℕ) (f : FoundLine) → IsEven m (row f.line f.under f.after) → HasEntries f.after → NextLine f
next_line m f even some = search rules

-- The rows of the first item or entry of a compact collection: after the dashes ns of a row the rest of it and more rows, and then the row of the next one, in the same column.
pub record FirstRows (p : Part) (h : NodeLines) (f : FoundLine) (q : RowLine) : Type 0 where
  pub front : List Row
  pub gone : List Row
  pub next : Row
  pub back : List Row
  pub rows_are : p.rows ≡ front ++ (q.row ∷ (gone ++ (next ∷ back)))
  pub number : length front ≡ q.before
  pub within : q.line ≤ length q.row.dashes
  pub before : length (lines_of_rows front) + length (take q.line q.row.dashes) ≡ length (lines_before h.place) + length (lines_before f.place)
  pub size : length (lines_from [] (after_columns q.row.column (take q.line q.row.dashes)) (drop q.line q.row.dashes) q.row.mark q.row.content ++ lines_of_rows gone) ≡ length (f.line ∷ flatten f.under)
  pub column : next.column ≡ after_columns q.row.column (take q.line q.row.dashes)
  pub entry : AreDashes next.dashes next.mark → is_entry next.mark ≡ true

module _ (p : Part) (m : ℕ) (ss : List Step) (s : Step) (h : NodeLines) (f : FoundLine) (q : RowLine) (even : IsEven m (part_outline p)) (entry : IsEntryAt ss s (part_outline p) h f)
    (is : row_line (lines_before_entry h f) p.rows ≡ Some q) (later : 0 < q.line) (left : HasEntries (plug f.place f.after)) where
  abbrev r : Row
  r = q.row

  abbrev ns : List ℕ
  ns = take q.line r.dashes

  abbrev es : List ℕ
  es = drop q.line r.dashes

  abbrev column : ℕ
  column = after_columns r.column ns

  abbrev e : List Line
  e = f.line ∷ flatten f.under

  w : IsRowLine (lines_before_entry h f) p.rows q
  w = row_line_splits (lines_before_entry h f) p.rows q is

  ns_size : length ns ≡ q.line
  ns_size = length-take-le q.line r.dashes w.less

  row_is : row_lines r ≡ dash_lines (head_comment r.gap) r.column ns ++ lines_from [] column es r.mark r.content
  row_is =
      ap (λ ds. lines_from (head_comment r.gap) r.column ds r.mark r.content) (sym (take-append-drop q.line r.dashes))
      ∙ dashes_first (head_comment r.gap) r.column ns es r.mark r.content (omega (arith, ns_size, later))

  abbrev a : List Line
  a = lines_of_rows w.front ++ dash_lines (head_comment r.gap) r.column ns

  abbrev b : List Line
  b = lines_before h.place ++ lines_before f.place

  a_size : length a ≡ length (lines_of_rows w.front) + length ns
  a_size = omega (arith, length-append (lines_of_rows w.front) (dash_lines (head_comment r.gap) r.column ns), dashes_count (head_comment r.gap) r.column ns)

  before_is : length (lines_of_rows w.front) + length ns ≡ length (lines_before h.place) + length (lines_before f.place)
  before_is = omega (arith, w.lines, ns_size)

  -- the lines of the row, cut after the dashes
  parts : (a ≡ b) × (lines_from [] column es r.mark r.content ++ lines_of_rows w.back ≡ e ++ following_lines h f)
  parts =
      let x = same_parts a [] (lines_from [] column es r.mark r.content ++ lines_of_rows w.back) b [] (e ++ following_lines h f)
      (append_assoc (lines_of_rows w.front) (dash_lines (head_comment r.gap) r.column ns) (lines_from [] column es r.mark r.content ++ lines_of_rows w.back)
      ∙ (ap (λ (x : List Line). lines_of_rows w.front ++ x)
      (sym (append_assoc (dash_lines (head_comment r.gap) r.column ns) (lines_from [] column es r.mark r.content) (lines_of_rows w.back)) ∙ ap (λ (x : List Line). x ++ lines_of_rows w.back) (sym row_is))
      ∙ (sym (lines_append w.front (r ∷ w.back)) ∙ (ap lines_of_rows (sym w.rows_are) ∙ lines_are p m ss s h f even entry))))
      (omega (arith, a_size, before_is, length-append (lines_before h.place) (lines_before f.place))) refl in
      (x.0, x.2)

  first_place : lines_before f.place ≡ []
  first_place = go (lines_before f.place) refl
    where
      go : (x : List Line) → lines_before f.place ≡ x → lines_before f.place ≡ []
      go [] e = e
      go (y ∷ x) some =
          let none : lines_before f.place ≡ [] → ⊥ = λ e. (let n : y ∷ x ≡ [] = sym some ∙ e in cc) in
          let apart : AreApartLines b (e ++ following_lines h f) = (entries_apart m (part_outline p) ss s h f even entry).begin none in
          absurd (apart_dashes (lines_of_rows w.front) (head_comment r.gap) r.column ns es r.mark r.content (lines_of_rows w.back) (omega (arith, ns_size, later))
          (subst (λ (x : List Line). AreApartLines x (lines_from [] column es r.mark r.content ++ lines_of_rows w.back)) (sym parts.0) (subst (AreApartLines b) (sym parts.1) apart)))

  next_is : NextLine f
  next_is =
      let deep = lines_even m (part_outline p) ss h even entry.place_is entry.block in
      let stood = at (Stood (level_or 0 h.lines)) (find_row s h.lines) f entry.found (row_stood s (level_or 0 h.lines) h.lines deep.1) in
      next_line (level_or 0 h.lines) f stood.even (subst HasEntries (plug_first f.place f.after first_place) left)

  -- the row as it would come after its dashes
  abbrev rest : Row
  rest = record r { gap = []; column = column; dashes = es }

  rest_lines : row_lines rest ≡ lines_from [] column es r.mark r.content
  rest_lines = ap (λ above. lines_from above column es r.mark r.content) no_comments

  cut : InRows (rest ∷ w.back) e (following_lines h f)
  cut =
      row_begins (rest ∷ w.back) e (following_lines h f) (ap (λ (x : List Line). x ++ lines_of_rows w.back) rest_lines ∙ parts.1)
      (apart_later b e (following_lines h f) (λ none. cc) (entries_apart m (part_outline p) ss s h f even entry).end)

  line_column : f.line.column ≡ column
  line_column = first_column [] column es r.mark r.content (lines_of_rows w.back) f.line (flatten f.under ++ following_lines h f) parts.1

  pub first_rows : FirstRows p h f q
  first_rows = go cut.front cut.back cut.rows_are cut.front_lines cut.back_lines
    where
      following_is : following_lines h f ≡ next_is.line ∷ (((flatten next_is.under ++ flatten next_is.after) ++ lines_after f.place) ++ lines_after h.place)
      following_is = ap (λ (o : Outline). (flatten o ++ lines_after f.place) ++ lines_after h.place) next_is.is

      found : (gone : List Row) (next : Row) (back : List Row) → w.back ≡ gone ++ (next ∷ back) → row_lines rest ++ lines_of_rows gone ≡ e → lines_of_rows (next ∷ back) ≡ following_lines h f → FirstRows p h f q
      found gone next back is own after =
          let first : row_lines next ++ lines_of_rows back ≡ next_is.line ∷ (((flatten next_is.under ++ flatten next_is.after) ++ lines_after f.place) ++ lines_after h.place) = after ∙ following_is in
          record {
            front = w.front;
            gone = gone;
            next = next;
            back = back;
            rows_are = w.rows_are ∙ ap (λ (x : List Row). w.front ++ (r ∷ x)) is;
            number = w.before;
            within = w.less;
            before = before_is;
            size = ap length (ap (λ (x : List Line). x ++ lines_of_rows gone) (sym rest_lines) ∙ own);
            column = search (rules, first_column, same_column, line_column);
            entry = λ d. first_entry (head_comment next.gap) next.column next.dashes next.mark next.content (lines_of_rows back) next_is.line _ first d next_is.entry;
          }

      go : (front back : List Row) → rest ∷ w.back ≡ front ++ back → lines_of_rows front ≡ e → lines_of_rows back ≡ following_lines h f → FirstRows p h f q
      go [] back is own after = absurd (cc)
      go (v ∷ gone) [] is own after = let none : [] ≡ next_is.line ∷ _ = after ∙ following_is in absurd (cc)
      go (v ∷ gone) (next ∷ back) is own after = found gone next back (tail-eq_of_cons-eq is) (ap (λ (x : Row). row_lines x ++ lines_of_rows gone) (head-eq_of_cons-eq is) ∙ own) after
