-- What comes after a mark, read and spelled.
use Rattle.std.proofs.Common.{◌≡◌, ℕ, ℤ, true, false, cond, List, ◌∷◌, ◌++◌, drop, Option, Some, refl, sym, ap, ◌∙◌, subst, ⊎_elim}
use Rattle.std.{proofs.Common.{eqb-true, rules}, proofs.lemmas.Bool.{false≢true, or_cases}, proofs.lemmas.Option.same_Some}
use Rattle.yq_core.{specs.Answers.◌>>=◌, specs.Block.{IsBlock, BlockText, block_text}, specs.BlockReading.block_at, specs.Piece.deeper}
use Rattle.yq_core.{specs.Text.{cut, unless, front, is_empty, no_white}, proofs.BlockLaws.{block_takes, block_again}}
use Rattle.yq_core.{proofs.Bools.{bind_some, chosen}, proofs.Upto.cut_takes, specs.Inline.{depth_limit, IsInline}}
use Rattle.yq_core.{specs.Nodes.{FlowNode, node_text, begins_with, in_name, begins_node, IsName}, specs.Reading.{name_at, all_node}}
use Rattle.yq_core.{proofs.NodeLaws.{all_takes, all_again}, proofs.NodesPieceLaws.{front_is, name_takes, name_again}}
use Rattle.yq_row_table.{specs.Gap.IsWhite, specs.Grammar.{IsTail, IsAnchor, IsContent}}
use Rattle.yq_row_table.specs.Reading.{begins_block, anchor_at, block_content_at, inline_content_at, read_content, read_tail}
use Rattle.yq_row_table.specs.Rows.{Anchor, Content, Nothing, Inline, Block, anchor_text, content_text}
use Rattle.yq_row_table.{proofs.Fronts.{tail_front, node_starts}, proofs.LineEnds.{white_cut, white_again}}
use Rattle.yq_row_table.proofs.NodeFronts.{is_block_mark, node_begins, bare_node, no_block_here, name_cut, node_no_block, block_front}
use Rattle.yq_row_table.proofs.PieceLaws.{tail_takes, tail_again}
use Rattle.yq_core.specs.declared.style.Place.TheVariants as places

-- an anchor before a block scalar
apart_some : (gap rest : List ℕ) → unless in_name (gap ++ rest) ≡ true → front is_block_mark rest ≡ true → is_empty gap ≡ false
apart_some gap rest h1 h2 = search (rules, false≢true, ⊎_elim, eqb-true, or_cases)

abbrev AnchorCut : List ℕ → Option Anchor × List ℕ → Type 0
AnchorCut t x = (t ≡ anchor_text x.0 x.1) × IsAnchor x.0 x.1

anchor_takes : (t : List ℕ) (x : Option Anchor × List ℕ) → anchor_at t ≡ Some x → front is_block_mark x.1 ≡ true → AnchorCut t x
unfolding anchor_at
anchor_takes t x h mark = ⊎_elim {0, 0, 0}
    (λ e.
    let name = bind_some (name_at (drop 1 t)) e.1 in
    let n = name_takes (drop 1 t) name.0 name.1 in
    let c = cut no_white name.0.1 in
    let gap : name.0.1 ≡ c.0 ++ c.1 = cut_takes no_white name.0.1 in
    let is : (Some (record { name = name.0.0; gap = c.0 }), c.1) ≡ x = same_Some _ _ name.2 in
    let here : front is_block_mark c.1 ≡ true = subst (λ (y : Option Anchor × List ℕ). front is_block_mark y.1 ≡ true) (sym is) mark in
    let named : IsName name.0.0 (c.0 ++ c.1) = subst (λ (s : List ℕ). IsName name.0.0 s) gap n.1 in
    subst (AnchorCut t) is
    (front_is 38 t e.0 ∙ ap (λ l. 38 ∷ l) (n.0 ∙ ap (λ l. name.0.0 ++ l) gap), (named, white_cut name.0.1, apart_some c.0 c.1 named.ends here)))
    (λ e. subst (AnchorCut t) (same_Some _ _ e.1) (refl, tt))
    (chosen (begins_with 38 t) h)

-- each kind of content is taken
abbrev pub ContentCut : ℤ → List ℕ → Content × List ℕ → Type 0
ContentCut n t x = (t ≡ content_text x.0 x.1) × IsContent n x.0 x.1

block_takes_here : (n : ℤ) (space t : List ℕ) (x : Content × List ℕ) → IsWhite space → block_content_at n space t ≡ Some x → ContentCut n (space ++ t) x
unfolding block_content_at
block_takes_here n space t x blank h =
    let anchor = bind_some (anchor_at t) h in
    let block = bind_some (block_at (deeper n) anchor.0.1) anchor.2 in
    let b = block_takes (deeper n) anchor.0.1 block.0 block.1 in
    let mark : front is_block_mark anchor.0.1 ≡ true = rw b.0 (block_front block.0.0 block.0.1).mark in
    let a = anchor_takes t anchor.0 anchor.1 mark in
    search (rules, same_Some)

inline_takes_here : (n : ℤ) (space t : List ℕ) (x : Content × List ℕ) → IsWhite space → begins_node false t ≡ true → inline_content_at n space t ≡ Some x → ContentCut n (space ++ t) x
unfolding inline_content_at
inline_takes_here n space t x blank begins h =
    let node = bind_some (all_node false (Some (deeper n)) depth_limit t) h in
    let tail = bind_some (read_tail node.0.1) node.2 in
    let a = all_takes false (Some (deeper n)) depth_limit t node.0 node.1 in
    search (rules, tail_takes, bare_node, same_Some)

pub content_takes : (n : ℤ) (t : List ℕ) (x : Content × List ℕ) → read_content n t ≡ Some x → ContentCut n t x
unfolding read_content
content_takes n t x h =
    let c = cut no_white t in
    let join : c.0 ++ c.1 ≡ t = sym (cut_takes no_white t) in
    subst (λ (s : List ℕ). ContentCut n s x) join (⊎_elim {0, 0, 0}
    (λ e. block_takes_here n c.0 c.1 x (white_cut t) e.1)
    (λ e. ⊎_elim {0, 0, 0}
    (λ f. inline_takes_here n c.0 c.1 x (white_cut t) f.0 f.1)
    (λ f.
    let tail = bind_some (read_tail t) f.1 in
    let b = tail_takes t tail.0 tail.1 in
    subst (ContentCut n (c.0 ++ c.1)) (same_Some _ _ tail.2) (join ∙ b.0, b.1))
    (chosen (begins_node false c.1) e.1))
    (chosen (begins_block c.1) h))

-- and read again
abbrev content_from : ℤ → List ℕ → List ℕ × List ℕ → Option (Content × List ℕ)
content_from n t c = cond (begins_block c.1) (block_content_at n c.0 c.1) (cond (begins_node false c.1) (inline_content_at n c.0 c.1) (read_tail t >>= λ x. Some (Nothing x.0, x.1)))

nothing_again : (n : ℤ) (tail rest : List ℕ) → IsTail tail rest → read_content n (tail ++ rest) ≡ Some (Nothing tail, rest)
unfolding read_content
nothing_again n tail rest h =
    let f = tail_front tail rest h in
    search (rules, no_block_here, tail_again)

inline_again_here : (n : ℤ) (space : List ℕ) (node : FlowNode) (tail rest : List ℕ) → IsWhite space → IsInline places.Block n 0 node (tail ++ rest) →
    IsTail tail rest → read_content n (content_text (Inline space node tail) rest) ≡ Some (Inline space node tail, rest)
unfolding read_content inline_content_at
inline_again_here n space node tail rest blank h t =
    let u = node_text node (tail ++ rest) in
    let begins : begins_node false u ≡ true = node_begins (Some (deeper n)) depth_limit node (tail ++ rest) h.valid h.something in
    let f = tail_front tail rest t in
    search (rules, node_no_block, white_again, node_starts, all_again, tail_again)

block_again_here : (n : ℤ) (space : List ℕ) (anchor : Option Anchor) (block : BlockText) (rest : List ℕ) → IsWhite space →
    IsAnchor anchor (block_text block rest) → IsBlock (deeper n) block rest →
    read_content n (content_text (Block space anchor block) rest) ≡ Some (Block space anchor block, rest)
unfolding read_content block_content_at anchor_at
block_again_here n space anchor block rest h1 h2 h3 = search (rules, block_front, white_again, block_again, name_cut, name_again)

pub content_again : (n : ℤ) (c : Content) (rest : List ℕ) → IsContent n c rest → read_content n (content_text c rest) ≡ Some (c, rest)
content_again n c rest h1 = search (rules, nothing_again, inline_again_here, block_again_here)
