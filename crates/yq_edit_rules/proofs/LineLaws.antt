-- The rows in which lines begin and end.
use Rattle.std.proofs.Common.{◌≡◌, ℕ, suc, ◌+◌, ◌-◌, ltb, List, [], ◌∷◌, ◌++◌, length, Option, Some, None, option_map, Bool, true, false}
use Rattle.std.{proofs.Common.{cond, refl, ap, arith, length-append}, proofs.lemmas.Bool.{ltb-true, ltb-false}}
use Rattle.yq_outline.{specs.Comments.head_comment, specs.Lines.{mark_line, dash_line, lines_from, row_lines, lines_of_rows}}
use Rattle.yq_outline.{specs.Outline.Line, proofs.PlaceLaws.at, proofs.Values.If}
use Rattle.yq_row_table.specs.Rows.{Content, Row, after_columns}
use Rattle.yq_documents.specs.LinesInRows.{RowLine, row_line, one_row_later}
use Rattle.yq_edit_rules.{specs.Moved.dash_lines, specs.LineRows.{IsRowLine, RowLineSplits}}
use Rattle.yq_row_table.specs.Rows as rows

-- the comments above the line of a mark after dashes
abbrev pub above_mark : List (List ℕ) → List ℕ → List (List ℕ)
above_mark above [] = above
above_mark above (n ∷ ns) = []

pub mark_after : (above : List (List ℕ)) (column : ℕ) (ns : List ℕ) (m : rows.RowMark) (c : Content) →
    lines_from above column ns m c ≡ dash_lines above column ns ++ (mark_line (above_mark above ns) (after_columns column ns) m c ∷ [])
mark_after above column (n ∷ (k ∷ ns)) m c = ap (λ (ls : List Line). dash_line above column ∷ ls) (mark_after [] (suc (column + n)) (k ∷ ns) m c)
mark_after above column _ m c = refl

pub dashes_count : (above : List (List ℕ)) (column : ℕ) (ns : List ℕ) → length (dash_lines above column ns) ≡ length ns
dashes_count above column [] = refl
dashes_count above column (n ∷ ns) = ap suc (dashes_count [] (suc (column + n)) ns)

pub row_count : (r : Row) → length (row_lines r) ≡ suc (length r.dashes)
row_count r = go (head_comment r.gap) r.column r.dashes
  where
    go : (above : List (List ℕ)) (column : ℕ) (ns : List ℕ) → length (lines_from above column ns r.mark r.content) ≡ suc (length ns)
    go above column [] = refl
    go above column (n ∷ ns) = ap suc (go [] (suc (column + n)) ns)

-- row lines
equal_room : (rs : List Row) (n : ℕ) → If (row_line n rs) (IsRowLine n rs)
equal_room [] n = tt
equal_room (r ∷ rs) n = go (ltb (length r.dashes) n) refl (row_line (n - suc (length r.dashes)) rs) (equal_room rs (n - suc (length r.dashes)))
  where
    go : (b : Bool) → ltb (length r.dashes) n ≡ b → (o : Option RowLine) → If o (IsRowLine (n - suc (length r.dashes)) rs) →
        If (cond b (option_map one_row_later o) (Some (record { before = 0; row = r; line = n }))) (IsRowLine n (r ∷ rs))
    go true e None h = tt
    go true e (Some x) h = record {
      front = r ∷ h.front;
      back = h.back;
      rows_are = ap (λ (l : List Row). r ∷ l) h.rows_are;
      before = ap suc h.before;
      lines = let same = h.lines in omega (arith, same, ltb-true (length r.dashes) n e, row_count r, length-append (row_lines r) (lines_of_rows h.front));
      less = h.less;
    }
    go false e o h = record { front = []; back = rs; rows_are = refl; before = refl; lines = omega arith; less = omega (arith, ltb-false (length r.dashes) n e) }

pub row_line_splits : RowLineSplits
row_line_splits n rs x e = at (IsRowLine n rs) (row_line n rs) x e (equal_room rs n)
