-- The rows of a document among those of a text, and that their pieces tell their lines.
use Rattle.yq_core.{proofs.NodesPieceLaws.scalar_some, specs.Piece.deeper, specs.Paths.is_item, specs.Text.is_empty}
use Rattle.yq_core.{specs.Inline.depth_limit, specs.Nodes.{FlowNode, node_text, IsFlowNode}, specs.Trees.node_head}
use Rattle.yq_core.proofs.NodeAgain.{is_anchored, takes_unanchored}
use Rattle.std.proofs.Common.{◌≡◌, ℕ, ℤ, zero, suc, ◌+◌, ◌-◌, ◌<◌, ◌≤◌, false, List, [], ◌∷◌, length, map, take, drop, Some, refl, sym, ◌∙◌}
use Rattle.std.{proofs.Common.{arith, append-nil, rules}, proofs.lemmas.Bool.{false≢true, lt-ltb, le-ltb, cond-true, cond-false}}
use Rattle.std.{proofs.lemmas.List.{drop-drop, drop-map, drop-take, length-map, length-take-le, length-drop}, specs.List.slice_get}
use Rattle.std.specs.Prelude.{is_none}
use Rattle.yq_outline.{specs.Outline.key_of, proofs.EndsLaws.drop_at, specs.Lines.{head_of, line_mark}}
use Rattle.yq_outline.{specs.RowWalk.{line_level, deeper_rows, HasRows}, specs.declared.line_position.Stretch.Stretch}
use Rattle.yq_outline.{proofs.RowLaws.{before_mark, colon_some, mark_line, mark_quoted}, proofs.WalkLevels.RowsAgree}
use Rattle.yq_row_table.{specs.Grammar.{IsContent, IsMark, Limit, limit_after, AreRows}, specs.Rows.{Content, Row}}
use Rattle.yq_row_table.specs.View.{Slices, slices, RowsView, colon_of, content_cut}
use Rattle.yq_row_table.specs.Rows as rows

-- row by row, up to one that doesn't begin deeper
pub under_more : (ss : List Slices) (n at end : ℕ) (x : Slices) → slice_get ss at ≡ Some x → at < end → n < line_level 0 x →
    at + deeper_rows n (take (end - at) (drop at ss)) ≡ (at + 1) + deeper_rows n (take (end - (at + 1)) (drop (at + 1) ss))
under_more ss n at end x is h less = search (rules, drop_at, cond-true, lt-ltb)

pub under_stop : (ss : List Slices) (n at end : ℕ) (x : Slices) → slice_get ss at ≡ Some x → at < end → line_level 0 x ≤ n → at ≡ at + deeper_rows n (take (end - at) (drop at ss))
under_stop ss n at end x is h stop = search (rules, drop_at, cond-false, le-ltb)

-- the rows of a document from one on
pub following_rows : (s : RowsView) (d : Stretch) (h : HasRows s d) (k : ℕ) → d.first ≤ k → k ≤ d.end → take (d.end - k) (drop k s.rows) ≡ map slices (drop (k - d.first) h.rows)
following_rows s d h k from upto =
    let n : ℕ = k - d.first in
    let m : ℕ = d.end - k in
    let sum : d.end - d.first ≡ n + m = omega (arith, from, upto) in
    let at : d.first + n ≡ k = omega (arith, from) in
    cc (drop-drop n d.first s.rows, drop-take n m (drop d.first s.rows), h.pieces, drop-map slices n h.rows)

-- how many rows a document has
pub rows_length : (s : RowsView) (d : Stretch) (h : HasRows s d) → length h.rows ≡ d.end - d.first
rows_length s d h = search (rules, length-map, length-take-le, length-drop)

-- one row
get_from : (xs : List Row) (i : ℕ) (x : Slices) (rest : List Slices) → x ∷ rest ≡ map slices (drop i xs) → (r : Row) × (slice_get xs i ≡ Some r) × (slices r ≡ x)
get_from [] zero x rest e = absurd (cc)
get_from [] (suc i) x rest e = absurd (cc)
get_from (r ∷ xs) zero x rest e = (r, refl, cc)
get_from (r ∷ xs) (suc i) x rest e = get_from xs i x rest e

pub row_of : (s : RowsView) (d : Stretch) (h : HasRows s d) (i : ℕ) (x : Slices) → d.first ≤ i → i < d.end → slice_get s.rows i ≡ Some x → (r : Row) × (slice_get h.rows (i - d.first) ≡ Some r) × (slices r ≡ x)
row_of s d h i x from upto is =
    let rest : List Slices = take (d.end - (i + 1)) (drop (i + 1) s.rows) in
    let more : d.end - i ≡ suc (d.end - (i + 1)) = omega (arith, upto) in
    let pieces : take (d.end - i) (drop i s.rows) ≡ x ∷ rest = (λ j. take (more j) (drop_at s.rows i x is j)) in
    get_from h.rows (i - d.first) x rest (sym pieces ∙ following_rows s d h i from (omega (arith, upto)))

-- the pieces of rows tell their lines
node_summary : (n : ℤ) (node : FlowNode) (rest : List ℕ) → is_anchored node ≡ false → IsFlowNode false (Some (deeper n)) depth_limit node rest → is_empty (node_text node []) ≡ is_none (node_head node)
unfolding node_text IsFlowNode
node_summary n node rest h1 h2 = search (rules, append-nil, scalar_some, false≢true)

pub head_agrees : (n : ℤ) (c : Content) (rest : List ℕ) → IsContent n c rest → is_empty (content_cut c).3 ≡ is_none (head_of c)
unfolding IsFlowNode
head_agrees n c rest h1 = search (rules, node_summary, takes_unanchored)

colon_agrees : (m : rows.RowMark) (c : Content) (rest : List ℕ) → IsMark m c rest → is_empty (colon_of m) ≡ is_item (key_of (line_mark m))
colon_agrees m c rest h1 = search (rules, colon_some)

pub rows_agree : (limit : Limit) (rs : List Row) (end rest : List ℕ) → AreRows limit rs end rest → RowsAgree rs
rows_agree limit [] end rest h = tt
rows_agree limit (r ∷ rs) end rest h =
    search (rules, before_mark, colon_agrees, head_agrees, mark_quoted, mark_line, rows_agree (limit_after r) rs end rest h.1)
