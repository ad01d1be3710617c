-- An inline node after a dash or a key, exchanged for another one.
use Rattle.std.proofs.lemmas.Bool.{and_parts, and_from, false≢true, or_parts}
use Rattle.std.proofs.Common.{◌≡◌, ℕ, ℤ, true, false, List, [], ◌∷◌, ◌++◌, Some, refl, sym, ap, ◌∙◌, append_assoc, rules}
use Rattle.std.{specs.List.slice_get, specs.Str.IsUtf8}
use Rattle.yq_row_table.proofs.CharacterLaws.{all_join, pairs_back, pairs_join, pairs_front}
use Rattle.yq_row_table.specs.Exchange.{with_content, exchange, before_content, after_row, following_rows, allows_first, FitsRow}
use Rattle.yq_row_table.{specs.Gap.IsWhite, specs.Grammar.{IsTail, IsMark, is_entry, limit_after, IsCut}}
use Rattle.yq_row_table.{specs.Rows.{RowMark, Content, Inline, content_text, Row, parent_indent, Cut, cut_text}, specs.View.rows_of}
use Rattle.yq_row_table.{proofs.Fronts.{Starts, node_starts}, proofs.NodeFronts.node_begins}
use Rattle.yq_row_table.proofs.PlaceLaws.{place, new_place, RowIn, row_in}
use Rattle.yq_core.{specs.Characters.is_text, specs.Piece.deeper, specs.Text.{front, is_feed, separates}}
use Rattle.yq_core.{specs.Inline.{depth_limit, IsInline}, specs.Nodes.{FlowNode, node_text}, proofs.NodesWrittenLaws.node_then}
use Rattle.yq_core.specs.declared.style.Place.TheVariants as places

-- white space comes before the node
pub inline_starts : (n : ℤ) (node : FlowNode) (rest : List ℕ) → IsInline places.Block n 0 node rest → Starts (node_text node rest)
inline_starts n node rest h = node_starts (node_text node rest) (node_begins (Some (deeper n)) depth_limit node rest h.valid h.something)

pub mark_apart : (mark : RowMark) (c : Content) (rest : List ℕ) → is_entry mark ≡ true → IsMark mark c rest → separates (content_text c rest) ≡ true
mark_apart mark c rest h1 h2 = search (rules, false≢true)

pub space_apart : (space old new : List ℕ) → IsWhite space → separates (space ++ old) ≡ true → separates old ≡ false → separates (space ++ new) ≡ true
space_apart [] old new blank h none = absurd (false≢true (sym none ∙ h))
space_apart (b ∷ space) old new blank h none = rw blank.0 refl

-- What is in a row: white space, a node and a tail, after a dash or a key.
pub record HoldsNode (r : Row) (space : List ℕ) (node : FlowNode) (end rest : List ℕ) : Type 0 where
  pub blank : IsWhite space
  pub inline : IsInline places.Block (parent_indent r) 0 node (end ++ rest)
  pub tail : IsTail end rest
  pub apart : separates (space ++ node_text node (end ++ rest)) ≡ true

pub holds_node : (r : Row) (space : List ℕ) (node : FlowNode) (end rest : List ℕ) (after : List Row) → RowIn r rest after → r.content ≡ Inline space node end → is_entry r.mark ≡ true → HoldsNode r space node end rest
holds_node r space node end rest after h is entry = search (rules, mark_apart)

pub node_fits : (t : List ℕ) (c : Cut) (i : ℕ) (r : Row) (space : List ℕ) (node new : FlowNode) (tail : List ℕ) → IsCut t c → slice_get (rows_of c) i ≡ Some r → r.content ≡ Inline space node tail → is_entry r.mark ≡ true →
    IsInline places.Block (parent_indent r) 0 new (tail ++ after_row i c) →
    allows_first (limit_after (with_content (Inline space new tail) r)) (following_rows i c) ≡ true →
    FitsRow (Inline space new tail) r (after_row i c) (following_rows i c)
node_fits t c i r space node new tail h is content entry inline next =
    let rest = after_row i c in
    let row = row_in c i true r h.parts is in
    search (rules, holds_node, space_apart, inline_starts)

-- where the node is
regroup : (before space : List ℕ) (node : FlowNode) (rest : List ℕ) → before ++ (space ++ node_text node rest) ≡ (before ++ space) ++ (node_text node [] ++ rest)
regroup before space node rest = ap (λ l. before ++ (space ++ l)) (node_then node rest) ∙ sym (append_assoc before space (node_text node [] ++ rest))

pub node_place : (c : Cut) (i : ℕ) (r : Row) (space : List ℕ) (node : FlowNode) (tail : List ℕ) → slice_get (rows_of c) i ≡ Some r →
    r.content ≡ Inline space node tail → cut_text c ≡ (before_content i c ++ space) ++ (node_text node [] ++ (tail ++ after_row i c))
node_place c i r space node tail is content =
    place c i r is ∙ (ap (λ (x : Content). before_content i c ++ content_text x (after_row i c)) content ∙ regroup (before_content i c) space node (tail ++ after_row i c))

pub new_node_place : (c : Cut) (i : ℕ) (r : Row) (space : List ℕ) (new : FlowNode) (tail : List ℕ) → slice_get (rows_of c) i ≡ Some r →
    cut_text (exchange i (Inline space new tail) c) ≡ (before_content i c ++ space) ++ (node_text new [] ++ (tail ++ after_row i c))
new_node_place c i r space new tail is = search (rules, new_place, regroup)

-- the characters of the new text
pub starts_no_feed : (t : List ℕ) → Starts t → front is_feed t ≡ false
starts_no_feed t h = search (rules, or_parts)

pub node_text_law : (t : List ℕ) (c : Cut) (i : ℕ) (r : Row) (space : List ℕ) (node new : FlowNode) (tail : List ℕ) → IsCut t c → slice_get (rows_of c) i ≡ Some r → r.content ≡ Inline space node tail → is_entry r.mark ≡ true →
    IsUtf8 (before_content i c ++ space) → IsUtf8 (node_text node []) → IsUtf8 (node_text new []) → is_text (node_text new []) ≡ true → is_text (cut_text (exchange i (Inline space new tail) c)) ≡ true
node_text_law t c i r space node new tail h is content entry u v w fresh =
    let rest = tail ++ after_row i c in
    let before = before_content i c ++ space in
    let old = holds_node r space node tail (after_row i c) (following_rows i c) (row_in c i true r h.parts is) content entry in
    let whole : is_text (before ++ (node_text node [] ++ rest)) ≡ true = rw (← node_place c i r space node tail is content, ← h.text) h.characters in
    let no_feed : front is_feed (node_text node [] ++ rest) ≡ false = rw (← node_then node rest) (starts_no_feed (node_text node rest) (inline_starts (parent_indent r) node rest old.inline)) in
    rw (new_node_place c i r space new tail is) (search (rules, and_parts, all_join, and_from, pairs_back, pairs_join, pairs_front))
