-- Copies of items and entries, one after the other.
use Rattle.std.proofs.Common.{rules, ◌≡◌, ℕ, ◌<◌, ◌≤◌, List, [], ◌∷◌, ◌++◌, None, sym, ap, ◌∙◌, arith, append-nil}
use Rattle.yq_core.{specs.Keys.{depth, deepest}, specs.Tree.{Label, Node, Children, child, children_of, none}, specs.Values.entries}
use Rattle.yq_outline.specs.Counts.{count}
use Rattle.yq_nodes.specs.Nodes.{kind_of}
use Rattle.yq_semantics.{specs.Copies.{and_others, keyed, copy, item_copies, entry_copies}, specs.Judgement.{Judgement, and_then, gives}}
use Rattle.yq_eval.{specs.PlaceView.put_after, proofs.EachLaws.put_first}
use Rattle.yq_core.specs.Tree as tree
use Rattle.yq_nodes.specs.declared.nodes.node.NodeKind.TheVariants as kinds

-- one more after what is there
put_one : {V A : Type 0} (g : V → A) (before : List A) (v : V) (j : Judgement V) (others : Judgement (List A)) → j ≡ gives v →
    put_after before (and_then (λ w. and_others others (g w)) j) ≡ put_after (before ++ g v ∷ []) others
put_one g before v j others h = put_first g before j others ∙ ap (and_then (λ w. put_after (before ++ g w ∷ []) others)) h

-- one more item's copy
pub items_more : (before : List Node) (cs rest : Children) (label : Label) (n v : Node) (all : Judgement (List Node)) → cs ≡ child label n rest → copy n ≡ gives v → put_after before (item_copies cs) ≡ all →
    put_after (before ++ v ∷ []) (item_copies rest) ≡ all
items_more before cs rest label n v all is h so_far =
    sym (put_one (λ w. w) before v (copy n) (item_copies rest) h) ∙ (ap (λ ds. put_after before (item_copies ds)) (sym is) ∙ so_far)

-- one more entry's copy
pub entries_more : (before : List (List ℕ × Node)) (cs rest : Children) (label : Label) (n v : Node) (all : Judgement (List (List ℕ × Node))) → cs ≡ child label n rest → copy n ≡ gives v → put_after before (entry_copies cs) ≡ all →
    put_after (before ++ keyed label.key v ∷ []) (entry_copies rest) ≡ all
entries_more before cs rest label n v all is h so_far =
    sym (put_one (keyed label.key) before v (copy n) (entry_copies rest) h) ∙ (ap (λ ds. put_after before (entry_copies ds)) (sym is) ∙ so_far)

-- a mapping's copy has copies of its entries
pub map_copied : (n : Node) (es : List (List ℕ × Node)) → kinds.Map ≡ kind_of n → entry_copies (children_of n) ≡ gives es → copy n ≡ gives (tree.map None (entries es))
map_copied n es is h = search rules

-- collections are nested less deep in an item or entry than in its node
pub depth_below : (n m : Node) (label : Label) (cs rest : Children) → cs ≡ child label m rest → count cs ≤ count (children_of n) → deepest cs ≤ deepest (children_of n) → depth m < depth n
depth_below n m label cs rest is some deep = search rules

-- after the last item or entry
pub items_done : (before : List Node) (cs : Children) (all : Judgement (List Node)) → cs ≡ none → put_after before (item_copies cs) ≡ all → all ≡ gives before
items_done before cs all is so_far = sym so_far ∙ (ap (λ ds. put_after before (item_copies ds)) is ∙ ap gives (append-nil before))

pub entries_done : (before : List (List ℕ × Node)) (cs : Children) (all : Judgement (List (List ℕ × Node))) → cs ≡ none → put_after before
    (entry_copies cs) ≡ all → all ≡ gives before
entries_done before cs all is so_far = sym so_far ∙ (ap (λ ds. put_after before (entry_copies ds)) is ∙ ap gives (append-nil before))

-- fewer are left after the first one
pub fewer : (cs rest : Children) (label : Label) (n : Node) → cs ≡ child label n rest → count rest < count cs
fewer cs rest label n is = omega (arith, ap count is)

-- what is left is within what all are
pub count_within : (cs rest : Children) (label : Label) (n : Node) (all : ℕ) → cs ≡ child label n rest → count cs ≤ all → count rest ≤ all
count_within cs rest label n all is within = omega (arith, ap count is)

pub deep_within : (cs rest : Children) (label : Label) (n : Node) (all : ℕ) → cs ≡ child label n rest → deepest cs ≤ all → deepest rest ≤ all
deep_within cs rest label n all is within = omega (arith, ap deepest is)
