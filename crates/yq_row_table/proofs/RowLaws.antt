-- A row, read and spelled.
use Rattle.std.proofs.Common.{◌≡◌, ℕ, ℤ, ◌<◌, ◌≤◌, true, false, not, ◌&&◌, eqb, List, [], ◌∷◌, ◌++◌, length, Option, Some, arith, replicate}
use Rattle.std.{proofs.Common.{length-append, rules}, proofs.lemmas.Bool.{not-true, and_parts}, proofs.lemmas.Option.cond_some}
use Rattle.yq_core.{specs.Piece.deeper, specs.Text.{cut, no_space, is_marker}, proofs.Bools.{guard_then, bind_some}, proofs.Upto.cut_takes}
use Rattle.yq_core.{specs.Inline.depth_limit, specs.Nodes.{bare, node_text}, proofs.NodeAgain.item_longer}
use Rattle.yq_row_table.{specs.Gap.IsGap, specs.Grammar.{IsRow, IsContent, IsMark, AreDashes, may_be_alone, Limit, allows}}
use Rattle.yq_row_table.specs.Reading.{read_marks, read_content, fits, marked_row_at, row_at}
use Rattle.yq_row_table.specs.Rows.{RowMark, Anchor, Content, Inline, dashes_text, anchor_text, content_text, Row, after_indent}
use Rattle.yq_row_table.{specs.Rows.{following_gap, after_columns, parent_of, parent_indent}, proofs.ContentLaws.content_takes}
use Rattle.yq_row_table.proofs.MarkLaws.{spaces_are, IsMarked, marks_take}

-- A row after its gap and its indentation.
pub record Marked (gap : List ℕ) (column : ℕ) (t : List ℕ) (r : Row) (rest : List ℕ) : Type 0 where
  pub gap_is : r.gap ≡ gap
  pub column_is : r.column ≡ column
  pub text : t ≡ after_indent r rest
  pub dashes : AreDashes r.dashes r.mark
  pub mark : IsMark r.mark r.content rest
  pub content : IsContent (parent_indent r) r.content rest

mark_holds : (mark : RowMark) (c : Content) (t rest : List ℕ) → t ≡ content_text c rest → IsMarked mark t → fits mark c ≡ true → IsMark mark c rest
mark_holds mark c t rest h1 h2 h3 = search rules

marked_takes : (gap : List ℕ) (column : ℕ) (t : List ℕ) (x : Row × List ℕ) → marked_row_at gap column (read_marks t) ≡ Some x → Marked gap column t x.0 x.1
unfolding marked_row_at
marked_takes gap column t x h =
    let m = read_marks t in
    let n = parent_of m.1 (after_columns column m.0) in
    let content = bind_some (read_content n m.2) h in
    let g = cond_some (fits m.1 content.0.0) _ _ content.2 in
    let marks = marks_take t in
    let c = content_takes n m.2 content.0 content.1 in
    search (rules, mark_holds)

-- A row that was read after its gap, before a rest.
pub record RowCut (limit : Limit) (gap t : List ℕ) (r : Row) (rest : List ℕ) : Type 0 where
  pub gap_is : r.gap ≡ gap
  pub text : t ≡ following_gap r rest
  pub dashes : AreDashes r.dashes r.mark
  pub mark : IsMark r.mark r.content rest
  pub content : IsContent (parent_indent r) r.content rest
  pub row : IsGap gap t → IsRow limit r rest

row_parts : (limit : Limit) (gap : List ℕ) (column : ℕ) (t : List ℕ) (r : Row) (rest : List ℕ) → allows limit column ≡ true →
    (eqb column 0 && is_marker t) ≡ false → Marked gap column t r rest → IsGap r.gap (following_gap r rest) → IsRow limit r rest
row_parts limit gap column t r rest a u m g = search rules

pub row_takes : (limit : Limit) (gap t : List ℕ) (x : Row × List ℕ) → row_at limit gap t ≡ Some x → RowCut limit gap t x.0 x.1
unfolding row_at
row_takes limit gap t x h =
    let indent = cut no_space t in
    let column = length indent.0 in
    let g = guard_then (allows limit column && not (eqb column 0 && is_marker indent.1)) h in
    let tests = and_parts (allows limit column) (not (eqb column 0 && is_marker indent.1)) g.0 in
    let m = marked_takes gap column indent.1 x g.1 in
    search (rules, cut_takes, spaces_are, row_parts, not-true)

-- what follows a row is shorter
pub suffix_le : (a b : List ℕ) → length b ≤ length (a ++ b)
suffix_le a b = omega (arith, length-append a b)

anchor_le : (anchor : Option Anchor) (t : List ℕ) → length t ≤ length (anchor_text anchor t)
anchor_le anchor t = search (rules, suffix_le)

inline_longer : (n : ℤ) (space : List ℕ) (node : _) (tail rest : List ℕ) → IsContent n (Inline space node tail) rest → length rest < length (content_text (Inline space node tail) rest)
inline_longer n space node tail rest h =
    let node_longer : length (tail ++ rest) < length (node_text node (tail ++ rest)) = item_longer false (Some (deeper n)) depth_limit bare node (tail ++ rest) h.1.something h.1.valid in
    omega (arith, suffix_le tail rest, suffix_le space (node_text node (tail ++ rest)))

content_le : (n : ℤ) (c : Content) (rest : List ℕ) → IsContent n c rest → length rest ≤ length (content_text c rest)
content_le n c rest h1 = search (rules, suffix_le, inline_longer, anchor_le)

alone_longer : (n : ℤ) (c : Content) (rest : List ℕ) → may_be_alone c ≡ true → IsContent n c rest → length rest < length (content_text c rest)
alone_longer n c rest h1 h2 = search (rules, inline_longer)

dashes_le : (ns t : List ℕ) → length t ≤ length (dashes_text ns t)
dashes_le [] t = omega arith
dashes_le (n ∷ ns) t = let less = dashes_le ns t in omega (arith, suffix_le (replicate n 32) (dashes_text ns t))

pub row_longer : (r : Row) (rest : List ℕ) → IsMark r.mark r.content rest → IsContent (parent_indent r) r.content rest → length rest < length (following_gap r rest)
row_longer r rest m h = search (rules, alone_longer, content_le, length-append, dashes_le, suffix_le)

pub row_shorter : (limit : Limit) (gap t : List ℕ) (x : Row × List ℕ) → row_at limit gap t ≡ Some x → length x.1 < length t
row_shorter limit gap t x h = let l = row_takes limit gap t x h in rw l.text (row_longer x.0 x.1 l.mark l.content)
