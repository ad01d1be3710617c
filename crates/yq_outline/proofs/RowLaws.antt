-- What a row spells, by what is written: its colon, its key and its lines.
use Rattle.yq_core.{proofs.BorrowedTexts.{any_take, any_drop}, specs.Plain.holds_break, specs.Quoted.IsQuotedText}
use Rattle.yq_core.{specs.Text.{is_empty, text_lines, is_feed}, specs.Scalars.{IsScalarAt, is_quoted}, proofs.NodesPieceLaws.front_not}
use Rattle.yq_core.{specs.ContentReading.quoted_content, specs.Nodes.begins_with, proofs.OneLine.borrowed_quoted}
use Rattle.std.proofs.Common.{◌≡◌, ℕ, suc, ◌+◌, true, false, List, [], ◌∷◌, ◌++◌, length, Option, Some, refl, ap, rules, zero, ◌<◌, ◌≤◌}
use Rattle.std.proofs.Common.{None, arith, ◌-◌, eqb, cond, drop, take, ◌∙◌, replicate, not}
use Rattle.std.{proofs.lemmas.Bool.{false≢true, cases_lt, cond-false}, proofs.lemmas.Option.same_Some, specs.List.{slice_get, list_any}}
use Rattle.std.proofs.lemmas.List.Sums.{sum_by-cons}
use Rattle.yq_outline.{specs.Comments.head_comment, specs.Outline.Line, specs.Lines.{lines_from, content_anchor, tail_of}}
use Rattle.yq_outline.specs.Extents.{dash_count, lines_before_mark}
use Rattle.yq_row_table.{specs.Grammar.{IsMark, AreDashes}, specs.Rows.{Content, RowMark, Bare, Dash, Key, dashes_text}}
use Rattle.yq_row_table.{specs.View.{key_of_mark, Slices, last_dash, colon_of}, proofs.KeyLines.key_line}
use Rattle.yq_row_table.specs.Rows as rows
use Rattle.yq_outline.specs.Comments as comments

-- a colon is written, and a scalar
pub colon_some : (white : List ℕ) → is_empty (white ++ 58 ∷ []) ≡ false
colon_some [] = refl
colon_some (b ∷ bs) = refl

pub scalar_quoted : (spaces : Option ℕ) (p rest : List ℕ) → IsScalarAt false spaces p rest → is_quoted p ≡ true → IsQuotedText p
scalar_quoted spaces p rest h1 h2 = search (rules, false≢true, front_not)

pub mark_quoted : (m : rows.RowMark) (c : Content) (rest : List ℕ) → IsMark m c rest → is_quoted (key_of_mark m) ≡ true → IsQuotedText (key_of_mark m)
mark_quoted m c rest h1 h2 = search (rules, false≢true, scalar_quoted)

-- a key has one line
pub mark_line : (m : rows.RowMark) (c : Content) (rest : List ℕ) → IsMark m c rest → holds_break (key_of_mark m) ≡ false
mark_line m c rest h1 = search (rules, key_line)

-- how many lines a row's dashes are
pub lines_count : (above : List (List ℕ)) (column : ℕ) (ns : List ℕ) (m : rows.RowMark) (c : Content) → length (lines_from above column ns m c) ≡ suc (length ns)
lines_count above column [] m c = refl
lines_count above column (n ∷ ns) m c = ap suc (lines_count [] (suc (column + n)) ns m c)

-- no comment is in no text
pub no_comments : head_comment [] ≡ []
unfolding text_lines
no_comments = refl

-- ---- the anchor and the comments of each line of a row

-- What is beside the mark of line k of a row: an anchor and a comment on the last one, and on the first one the comment above.
pub record IsBeside (above : List (List ℕ)) (ns : List ℕ) (c : Content) (k : ℕ) (l : Line) : Type 0 where
  pub dash : k < length ns → (l.anchor ≡ None) × (l.line_comment ≡ None)
  pub mark : k ≡ length ns → (l.anchor ≡ content_anchor c) × (l.line_comment ≡ comments.line_comment (tail_of c))
  pub first : k ≡ 0 → l.head_comment ≡ above
  pub other : 0 < k → l.head_comment ≡ []

pub beside_in : (above : List (List ℕ)) (column : ℕ) (ns : List ℕ) (m : rows.RowMark) (c : Content) (k : ℕ) (l : Line) → k ≤ length ns → slice_get (lines_from above column ns m c) k ≡ Some l → IsBeside above ns c k l
beside_in above column [] m c zero l h e = search (rules, same_Some)
beside_in above column [] m c (suc k) l h e = absurd (omega (arith, h))
beside_in above column (n ∷ ns) m c zero l h e = search (rules, same_Some)
beside_in above column (n ∷ ns) m c (suc k) l h e = search (rules, cases_lt, beside_in [] (suc (column + n)) ns m c k l (omega (arith, h)) e)

-- ---- a quoted key or scalar on one line without escapes means what is between its quotes

pub quoted_lent : (piece inner : List ℕ) → IsQuotedText piece → holds_break piece ≡ false → inner ≡ take (length piece - 2) (drop 1 piece) →
    list_any (λ b. eqb b (cond (begins_with 34 piece) 92 39)) inner ≡ false → inner ≡ quoted_content piece
quoted_lent [] inner q broken is none = borrowed_quoted [] inner [] q refl is (ap holds_break is) (ap (list_any (λ b. eqb b 39)) is)
quoted_lent (b ∷ bs) inner q broken is none =
    borrowed_quoted (b ∷ bs) inner (b ∷ bs) q refl is (ap holds_break is ∙ any_take is_feed (length (b ∷ bs) - 2) bs (any_drop is_feed 1 (b ∷ bs) broken)) none

-- ---- how many lines a row has, by the pieces of rows

none_in_spaces : (n : ℕ) (t : List ℕ) → dash_count (replicate n 32 ++ t) ≡ dash_count t
none_in_spaces zero t = refl
none_in_spaces (suc n) t = search (rules, sum_by-cons, none_in_spaces n t)

dashes_count : (ns t : List ℕ) → dash_count (dashes_text ns t) ≡ length ns + dash_count t
dashes_count [] t = omega arith
dashes_count (n ∷ ns) t = search (rules, sum_by-cons, none_in_spaces, dashes_count ns t)

-- the lines before the last one of a row
pub before_mark : (ns : List ℕ) (m : RowMark) (c : Content) (rest : List ℕ) → AreDashes ns m → IsMark m c rest →
    cond (is_empty (colon_of m)) (dash_count (dashes_text ns (last_dash m)) - 1) (dash_count (dashes_text ns (last_dash m))) ≡ length ns
before_mark [] Bare c rest d m = refl
before_mark (n ∷ ns) Bare c rest d m = absurd (cc)
before_mark ns Dash c rest d m = search (rules, dashes_count)
before_mark ns (Key key colon) c rest d m = search (rules, colon_some, dashes_count, cond-false)

-- the same, by whether a row has dashes and a colon
pub none_before : (x : Slices) → false ≡ not (is_empty x.dashes) → 0 ≡ lines_before_mark x
none_before x = search rules

pub before_colon : (x : Slices) → true ≡ not (is_empty x.colon) → dash_count x.dashes ≡ lines_before_mark x
before_colon x = search rules

pub before_last : (x : Slices) → false ≡ not (is_empty x.colon) → dash_count x.dashes - 1 ≡ lines_before_mark x
before_last x = search rules
