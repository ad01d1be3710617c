-- The head of a row is that of its content.
use Rattle.std.proofs.Common.{rules, ◌≡◌, ℕ, ℤ, ◌-◌, Bool, true, false, cond, eqb, List, [], ◌∷◌, ◌++◌, length, drop, Option, Some, None}
use Rattle.std.proofs.Common.{refl, sym, ap, ◌∙◌, ⊎_elim, append-nil, length-append, subst}
use Rattle.std.{proofs.lemmas.Bool.{false≢true, cond_both, and_parts, cases_Bool}, proofs.lemmas.List.drop_at}
use Rattle.std.{proofs.lemmas.Str.IsCharBoundary-at_seam, specs.Str.{IsUtf8, IsCharBoundary}}
use Rattle.yq_core.{specs.declared.block_header.BlockStyle.BlockStyle, specs.Block.{style_indicator, BlockText, block_text, IsBlock}}
use Rattle.yq_core.{specs.Answers.◌>>=◌, specs.Piece.deeper, specs.Scalar.plain_of, specs.Text.is_empty, proofs.BlockLaws.block_again}
use Rattle.yq_core.specs.Inline.{depth_limit, IsInlineAt}
use Rattle.yq_core.specs.Nodes.{FlowNode, scalar, coll, anchored, node_text, is_empty_node, IsFlowNode}
use Rattle.yq_core.specs.Places.{placed, Parts, holder, locate, locate_items}
use Rattle.yq_core.specs.Scalars.{IsScalarAt, is_quoted, scalar_content, scalar_of}
use Rattle.yq_core.{specs.Trees.{scalar_node, placed_tree, tree_of, node_head}, proofs.NodeAgain.{is_anchored, takes_unanchored}}
use Rattle.yq_core.{proofs.InlineLaws.inline_again, proofs.NodesPieceLaws.{front_not, scalar_begins, scalar_some}}
use Rattle.yq_core.{proofs.TreeLaws.node_tree, proofs.NodesWrittenLaws.node_then, proofs.OneLine.one_line, specs.FitKeys.has_fit_keys}
use Rattle.yq_row_table.{specs.Grammar.IsContent, specs.Rows.{Content, Block}, specs.View.{anchor_cut, content_cut}}
use Rattle.yq_documents.{specs.KeyReading.EndsIn, specs.Reading.content_is_fit}
use Rattle.yq_documents.specs.RowReading.{placed_head, is_short_plain, is_block_head, string_head, block_head_at, fit_head, node_head_at}
use Rattle.yq_documents.{specs.RowReading.read_head, proofs.FlowKeyLaws.keys_there}
use Rattle.yq_outline.specs.Lines.{head_of}
use Rattle.yq_core.specs.declared.style.Place.TheVariants as places
use Rattle.yq_core.specs.Tree as trees

-- an inline node that is read is its head
holder_head : (s c e k : ℕ) (parts : Parts) → placed_head (placed None s c e (holder k parts)) ≡ Some (placed_tree (placed None s c e (holder k parts)))
holder_head s c e k parts = search rules

placed_head_is : (total : ℕ) (node : FlowNode) (rest : List ℕ) → is_anchored node ≡ false → placed_head (locate total node rest) ≡ node_head node
unfolding locate tree_of
placed_head_is total (coll k g is) rest a = (let t = node_text (coll k g is) rest in holder_head (total - length t) (total - length t) (total - length rest) k (locate_items total k is rest)) ∙ ap Some (node_tree total (coll k g is) rest)
placed_head_is total (anchored n g node) rest a = absurd (false≢true (sym a))
placed_head_is total _ rest a = refl

-- where a text ends
pub ends_drop : (whole t : List ℕ) → EndsIn whole t → drop (length whole - length t) whole ≡ t
ends_drop whole t h = search (rules, length-append, drop_at)

-- a head, where keys are fit
abbrev pub fitting : Bool → Option trees.Node → Option (Option trees.Node)
fitting fit head = cond fit (Some head) None

pub node_again : (whole : List ℕ) (n : ℤ) (node : FlowNode) (rest : List ℕ) → is_anchored node ≡ false → is_empty_node node ≡ false → EndsIn whole (node_text node rest) → IsFlowNode false (Some (deeper n)) depth_limit node rest →
    node_head_at whole n (node_text node rest) ≡ fitting (has_fit_keys node) (node_head node)
node_again whole n node rest a some ends h =
    let at : ℕ = length whole - length (node_text node rest) in
    let p = locate (length whole) node rest in
    let is : IsInlineAt places.Block n 0 at whole p = search (rules, ends_drop) in
    ap (λ o. o >>= fit_head whole) (inline_again places.Block n 0 at whole p is)
    ∙ (λ i. fitting (keys_there whole node rest ends i) (placed_head_is (length whole) node rest a i))

-- which head a text is
pub by_node : (whole : List ℕ) (n : ℤ) (head t : List ℕ) → is_empty head ≡ false → is_block_head head ≡ false → is_quoted head ≡ false → is_short_plain head ≡ false → read_head whole n head t ≡ node_head_at whole n t
unfolding read_head
by_node whole n head t some block quoted short = rw (some, block, short, quoted) refl

by_plain : (whole : List ℕ) (n : ℤ) (head t : List ℕ) → is_empty head ≡ false → is_block_head head ≡ false → is_quoted head ≡ false → is_short_plain head ≡ true → read_head whole n head t ≡ Some (Some (scalar_node (plain_of head)))
unfolding read_head
by_plain whole n head t some block quoted short = rw (some, block, short, quoted) refl

by_quotes : (whole : List ℕ) (n : ℤ) (head t : List ℕ) → is_empty head ≡ false → is_block_head head ≡ false → is_quoted head ≡ true → read_head whole n head t ≡ Some (string_head (scalar_content head))
unfolding read_head
by_quotes whole n head t some block quoted = rw (some, block, quoted) refl

by_block : (whole : List ℕ) (n : ℤ) (head t : List ℕ) → is_empty head ≡ false → is_block_head head ≡ true → read_head whole n head t ≡ block_head_at n t
unfolding read_head
by_block whole n head t some block = rw (some, block) refl

by_nothing : (whole : List ℕ) (n : ℤ) (t : List ℕ) → read_head whole n [] t ≡ Some None
unfolding read_head
by_nothing whole n t = refl

-- a scalar's head
short_is : (p : List ℕ) → is_quoted p ≡ false → is_short_plain p ≡ true → scalar_of p ≡ plain_of p
unfolding scalar_of
short_is p quoted h = search (rules, ⊎_elim, false≢true, and_parts, cases_Bool, one_line)

string_is : (p : List ℕ) → is_quoted p ≡ true → string_head (scalar_content p) ≡ Some (scalar_node (scalar_of p))
unfolding scalar_of scalar_content
string_is p q = rw q refl

pub scalar_some_is : (n : ℤ) (p rest : List ℕ) → IsScalarAt false (Some (deeper n)) p rest → (is_empty p ≡ false) × (is_block_head p ≡ false)
scalar_some_is n p rest h = search (rules, scalar_some, scalar_begins, front_not)

scalar_is : (whole : List ℕ) (n : ℤ) (p rest : List ℕ) → EndsIn whole (node_text (scalar p) rest) →
    IsFlowNode false (Some (deeper n)) depth_limit (scalar p) rest → read_head whole n p (node_text (scalar p) rest) ≡ Some (node_head (scalar p))
unfolding IsFlowNode tree_of
scalar_is whole n p rest ends h =
    let s = scalar_some_is n p rest h in
    search (rules, ⊎_elim, by_quotes, string_is, by_plain, short_is, by_node, node_again, cases_Bool)

-- the head of a node without an anchor
abbrev pub Opens : ℕ → Type 0
Opens b = (t : List ℕ) → (is_block_head (b ∷ t) ≡ false) × ((is_quoted (b ∷ t) ≡ false) × (is_short_plain (b ∷ t) ≡ false))

pub opens : (k : ℕ) → Opens (cond (eqb k 125) 123 91)
opens k = cond_both (eqb k 125) 123 91 Opens (λ _ t. (refl, (refl, refl))) (λ _ t. (refl, (refl, refl)))

unnamed_is : (whole : List ℕ) (n : ℤ) (node : FlowNode) (rest : List ℕ) → is_anchored node ≡ false → EndsIn whole (node_text node rest) → IsFlowNode false (Some (deeper n)) depth_limit node rest →
    read_head whole n (node_text node []) (node_text node rest) ≡ fitting (has_fit_keys node) (node_head node)
unfolding node_text
unnamed_is whole n node rest a ends h = search (rules, by_nothing, by_node, node_again, append-nil, scalar_is, opens, false≢true)

written_is : (whole : List ℕ) (n : ℤ) (node : FlowNode) (rest : List ℕ) → is_anchored node ≡ false → EndsIn whole (node_text node [] ++ rest) → IsFlowNode false (Some (deeper n)) depth_limit node rest →
    read_head whole n (node_text node []) (node_text node [] ++ rest) ≡ fitting (has_fit_keys node) (node_head node)
written_is whole n node rest a ends h =
    ap (read_head whole n (node_text node [])) (sym (node_then node rest)) ∙ unnamed_is whole n node rest a (subst (EndsIn whole) (sym (node_then node rest)) ends) h

node_is : (whole : List ℕ) (n : ℤ) (node : FlowNode) (rest : List ℕ) → EndsIn whole ((anchor_cut node).2 ++ rest) → IsFlowNode false (Some (deeper n)) depth_limit node rest →
    read_head whole n (anchor_cut node).2 ((anchor_cut node).2 ++ rest) ≡ fitting (has_fit_keys node) (node_head node)
unfolding IsFlowNode
node_is whole n node rest ends h = search (rules, by_nothing, written_is, takes_unanchored)

-- a block scalar's
pub block_marks : (style : BlockStyle) (t : List ℕ) → is_block_head (style_indicator style ∷ t) ≡ true
block_marks style t = search rules

block_is : (whole : List ℕ) (n : ℤ) (space : List ℕ) (b : BlockText) (rest : List ℕ) → IsBlock (deeper n) b rest → read_head whole n (style_indicator b.style ∷ b.indicators) (block_text b rest) ≡ Some (head_of (Block space None b))
block_is whole n space b rest h = search (rules, by_block, block_marks, block_again)

-- the text of a row's content from its head on
abbrev pub head_text : Content → List ℕ → List ℕ
head_text c rest = (content_cut c).3 ++ ((content_cut c).4 ++ ((content_cut c).5 ++ rest))

-- the head of a row's content, where its keys are fit
pub head_is : (whole : List ℕ) (n : ℤ) (c : Content) (rest : List ℕ) → EndsIn whole (head_text c rest) → IsContent n c rest → read_head whole n (content_cut c).3 (head_text c rest) ≡ fitting (content_is_fit c) (head_of c)
head_is whole n c rest ends h = search (rules, by_nothing, node_is, block_is)

-- where a text ends in a whole one
pub ends_seam : (whole t : List ℕ) → EndsIn whole t → IsUtf8 t → IsCharBoundary whole (length whole - length t)
ends_seam whole t h u = search (rules, length-append, IsCharBoundary-at_seam)
