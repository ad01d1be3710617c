-- How many steps are allowed makes no difference.
use Rattle.std.proofs.Common.{◌≡◌, ℕ, suc, ◌≤◌, ◌<◌, Bool, true, false, cond, not, ◌&&◌, ◌||◌, eqb, List, [], ◌∷◌, ◌++◌, length, drop}
use Rattle.std.{proofs.Common.{Option, Some, None, refl, sym, ap, ◌∙◌, arith, length-append, rules}, proofs.lemmas.Option.same_Some}
use Rattle.yq_core.{specs.Text.is_empty, specs.Answers.◌>>=◌, proofs.Bools.guard_then}
use Rattle.yq_core.specs.Nodes.{begins_with, Key, Sep, FlowNode, coll, anchored, Items, none, item, node_text, begins_content, is_keyed}
use Rattle.yq_core.specs.Nodes.{is_empty_node, takes_anchor, IsFlowNode}
use Rattle.yq_core.specs.Reading.{read_gap, name_at, lead_at, sep_at, Kids, read_collection, read_core, read_node, one_level_less, items_at}
use Rattle.yq_core.{specs.Reading.{all_items, kids_of, all_node}, proofs.Binds.bind_same, proofs.GapLaws.gap_takes}
use Rattle.yq_core.proofs.NodesPieceLaws.{name_takes, lead_takes, sep_takes}
use Rattle.yq_core.proofs.NodeTakes.{node_takes, items_takes, kids_take, key_in, key_in_takes}
use Rattle.yq_core.proofs.NodeAgain.{sep_longer, key_longer, item_longer, kids_by, node_again}

pub after : (t a b : List ℕ) → t ≡ a ++ b → length b ≤ length t
after t a b h = rw h (omega (arith, length-append a b))

abbrev pub Same : Kids → Kids → ℕ → Type 0
Same kids others n = (k : ℕ) (r : List ℕ) → length r < n → kids k r ≡ others k r

coll_same : (kids others : Kids) (k n : ℕ) (t : List ℕ) → length t < n → Same kids others n → read_collection kids k t ≡ read_collection others k t
unfolding read_collection
coll_same kids others k n t short h =
    bind_same (λ gap. kids k gap.1 >>= λ items. Some (coll k gap.0 items.0, items.1)) (λ gap. others k gap.1 >>= λ items. Some (coll k gap.0 items.0, items.1)) (read_gap t)
    (λ gap e. ap (λ o. o >>= λ items. Some (coll k gap.0 items.0, items.1)) (h k gap.1 (omega (arith, after t gap.0 gap.1 (gap_takes t gap e).0))))

content_same : (flow : Bool) (spaces : Option ℕ) (kids others : Kids) (t : List ℕ) → Same kids others (length t) → read_core flow spaces kids t ≡ read_core flow spaces others t
unfolding read_core
content_same flow spaces kids others t h1 = search (rules, coll_same)

abbrev after_gap : Bool → Option ℕ → Kids → List ℕ → List ℕ × List ℕ → Option (FlowNode × List ℕ)
after_gap flow spaces kids name gap = read_core flow spaces kids gap.1 >>= λ node. cond ((is_empty_node node.0 || not (is_empty gap.0)) && takes_anchor node.0) (Some (anchored name gap.0 node.0, node.1)) None

pub node_same : (flow : Bool) (spaces : Option ℕ) (kids others : Kids) (t : List ℕ) → Same kids others (length t) → read_node flow spaces kids t ≡ read_node flow spaces others t
unfolding read_node
node_same flow spaces kids others [] h = content_same flow spaces kids others [] h
node_same flow spaces kids others (b ∷ t) h =
    let s : List ℕ = b ∷ t in
    let one = bind_same (λ name. lead_at flow (begins_content flow) name.1 >>= after_gap flow spaces kids name.0) (λ name. lead_at flow (begins_content flow) name.1 >>= after_gap flow spaces others name.0) (name_at t)
    (λ name e. bind_same (after_gap flow spaces kids name.0) (after_gap flow spaces others name.0) (lead_at flow (begins_content flow) name.1)
    (λ gap f.
    let a = after t name.0 name.1 (name_takes t name e).0 in
    let c = after name.1 gap.0 gap.1 (lead_takes flow (begins_content flow) name.1 gap f).0 in
    ap (λ o. o >>= λ node. cond ((is_empty_node node.0 || not (is_empty gap.0)) && takes_anchor node.0) (Some (anchored name.0 gap.0 node.0, node.1)) None)
    (content_same flow spaces kids others gap.1 (λ k r short. h k r (omega arith))))) in
    ap (λ o. cond (eqb b 38) o (read_core flow spaces kids s)) one
    ∙ ap (λ o. cond (eqb b 38) (name_at t >>= λ name. lead_at flow (begins_content flow) name.1 >>= after_gap flow spaces others name.0) o)
    (content_same flow spaces kids others s h)

-- one item and those after it
abbrev pub after_sep : ℕ → ℕ → ℕ → Key → FlowNode → Sep × List ℕ → Option (Items × List ℕ)
after_sep n d k key node sep = items_at n d k sep.1 >>= λ rest. Some (item key node sep.0 rest.0, rest.1)

abbrev pub text_after_node : ℕ → ℕ → ℕ → Key → FlowNode × List ℕ → Option (Items × List ℕ)
text_after_node n d k key node = cond (is_keyed key || not (is_empty_node node.0)) (sep_at k node.1) None >>= after_sep n d k key node.0

abbrev pub after_key : ℕ → ℕ → ℕ → Key × List ℕ → Option (Items × List ℕ)
after_key n d k key = read_node true (Some 0) (kids_by n d) key.1 >>= text_after_node n d k key.0

-- what is left after an item is shorter
pub left : (n d k : ℕ) (t : List ℕ) (key : Key × List ℕ) (node : FlowNode × List ℕ) (sep : Sep × List ℕ) →
    key_in k t ≡ Some key → read_node true (Some 0) (kids_by n d) key.1 ≡ Some node → cond (is_keyed key.0 || not (is_empty_node node.0)) (sep_at k node.1) None ≡ Some sep → length sep.1 < length t
left n d k t key node sep a b c =
    let some = guard_then (is_keyed key.0 || not (is_empty_node node.0)) c in
    let x = key_in_takes k t key a in
    let y = node_takes true (Some 0) (kids_by n d) d key.1 node (kids_take n d (items_takes n)) b in
    let z = sep_takes k node.1 sep some.1 in
    let less = item_longer true (Some 0) d key.0 node.0 node.1 some.0 y.1 in
    search (rules, sep_longer)

deeper_same : {A : Type 0} (d : ℕ) (f g : ℕ → Option A) → ((e : ℕ) → f e ≡ g e) → one_level_less d f ≡ one_level_less d g
deeper_same d f g h = search rules

pub items_fuel : (n m d k : ℕ) (t : List ℕ) → length t < n → length t < m → items_at n d k t ≡ items_at m d k t
unfolding items_at
items_fuel (suc n) (suc m) d k t a b =
    ap (λ o. cond (begins_with k t) (Some (none, drop 1 t)) o)
    (bind_same (after_key n d k) (after_key m d k) (key_in k t) (λ key e.
    let short = after t [] key.1 in
    let shorter : length key.1 ≤ length t = rw (key_in_takes k t key e).0 (key_longer key.0 key.1) in
    ap (λ o. o >>= text_after_node n d k key.0) (node_same true (Some 0) (kids_by n d) (kids_by m d) key.1 (λ j r less. deeper_same d _ _ (λ e. items_fuel n m e j r (omega arith) (omega arith))))
    ∙ bind_same (text_after_node n d k key.0) (text_after_node m d k key.0) (read_node true (Some 0) (kids_by m d) key.1) (λ node f.
    bind_same (after_sep n d k key.0 node.0) (after_sep m d k key.0 node.0) (cond (is_keyed key.0 || not (is_empty_node node.0)) (sep_at k node.1) None) (λ sep g.
    let less = left m d k t key node sep e f g in
    ap (λ o. o >>= λ rest. Some (item key.0 node.0 sep.0 rest.0, rest.1)) (items_fuel n m d k sep.1 (omega arith) (omega arith))))))
items_fuel _ _ d k t a b = absurd (omega arith)

-- reading with as many steps as the text is long
pub kids_enough : (flow : Bool) (spaces : Option ℕ) (n d : ℕ) (t : List ℕ) → length t ≤ n → read_node flow spaces (kids_by n d) t ≡ all_node flow spaces d t
kids_enough flow spaces n d t h = node_same flow spaces (kids_by n d) (kids_of d) t (λ j r less. deeper_same d _ _ (λ e. items_fuel n (suc (length r)) e j r (omega arith) (omega arith)))

abbrev pub then_items : ℕ → ℕ → Key → FlowNode → Sep × List ℕ → Option (Items × List ℕ)
then_items d k key node sep = all_items d k sep.1 >>= λ rest. Some (item key node sep.0 rest.0, rest.1)

abbrev pub then_sep : ℕ → ℕ → Key → FlowNode × List ℕ → Option (Items × List ℕ)
then_sep d k key node = cond (is_keyed key || not (is_empty_node node.0)) (sep_at k node.1) None >>= then_items d k key node.0

abbrev pub then_node : ℕ → ℕ → Key × List ℕ → Option (Items × List ℕ)
then_node d k key = all_node true (Some 0) d key.1 >>= then_sep d k key.0

-- one step
pub items_step : (d k : ℕ) (t : List ℕ) → begins_with k t ≡ false → all_items d k t ≡ (key_in k t >>= then_node d k)
unfolding items_at
items_step d k t h = rw h
    (bind_same (after_key (length t) d k) (then_node d k) (key_in k t) (λ key e.
    let shorter : length key.1 ≤ length t = rw (key_in_takes k t key e).0 (key_longer key.0 key.1) in
    let n : ℕ = length t in
    let same : read_node true (Some 0) (kids_by n d) key.1 ≡ all_node true (Some 0) d key.1 = kids_enough true (Some 0) n d key.1 shorter in
    bind_same (text_after_node n d k key.0) (then_sep d k key.0) (read_node true (Some 0) (kids_by n d) key.1) (λ node f.
    bind_same (after_sep n d k key.0 node.0) (then_items d k key.0 node.0) (cond (is_keyed key.0 || not (is_empty_node node.0)) (sep_at k node.1) None) (λ sep g.
    let less = left n d k t key node sep e f g in
    ap (λ o. o >>= λ rest. Some (item key.0 node.0 sep.0 rest.0, rest.1)) (items_fuel n (suc (length sep.1)) d k sep.1 less (omega arith))))
    ∙ ap (λ o. o >>= then_sep d k key.0) same))

pub items_done : (d k : ℕ) (t : List ℕ) → begins_with k t ≡ true → all_items d k t ≡ Some (none, drop 1 t)
unfolding items_at
items_done d k t h = rw h refl

-- the two laws
pub all_takes : (flow : Bool) (spaces : Option ℕ) (d : ℕ) (t : List ℕ) (x : FlowNode × List ℕ) → all_node flow spaces d t ≡ Some x → (t ≡ node_text x.0 x.1) × IsFlowNode flow spaces d x.0 x.1
all_takes flow spaces d t x h = node_takes flow spaces (kids_by (length t) d) d t x (kids_take (length t) d (items_takes (length t))) (kids_enough flow spaces (length t) d t (omega arith) ∙ h)

pub all_again : (flow : Bool) (spaces : Option ℕ) (d : ℕ) (node : FlowNode) (rest : List ℕ) → IsFlowNode flow spaces d node rest → all_node flow spaces d (node_text node rest) ≡ Some (node, rest)
all_again flow spaces d node rest h = let t = node_text node rest in sym (kids_enough flow spaces (length t) d t (omega arith)) ∙ node_again flow spaces node (length t) d rest h (omega arith)

pub one_node : (flow : Bool) (spaces : Option ℕ) (d : ℕ) (t : List ℕ) (a b : FlowNode) (r s : List ℕ) → t ≡ node_text a r → IsFlowNode flow spaces d a r → t ≡ node_text b s → IsFlowNode flow spaces d b s → (a ≡ b) × (r ≡ s)
one_node flow spaces d t a b r s p x q y = search (rules, all_again, same_Some)
