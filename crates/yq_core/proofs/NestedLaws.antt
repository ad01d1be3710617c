-- The parts of an inline node lie inside it, one after the other.
use Rattle.std.proofs.Common.{ℕ, suc, ◌-◌, ◌≤◌, true, false, eqb, cond, List, ◌++◌, length, refl, sym, ap, subst, arith, length-append, ℤ}
use Rattle.std.{proofs.Common.{Result, Ok, Err, IfOk, rules}, proofs.lemmas.List.length-drop}
use Rattle.yq_core.{specs.Answers.{ReadError, Gives}, specs.declared.style.Place.Place, specs.Entries.{EntryPieces, end_of}}
use Rattle.yq_core.specs.Inline.{IsInlineAt, inline_at}
use Rattle.yq_core.specs.Nodes.{Key, FlowNode, empty, alias, scalar, coll, anchored, Items, none, item, key_text, sep_text, node_text}
use Rattle.yq_core.specs.Nodes.{flow_items_text}
use Rattle.yq_core.specs.Places.{Placed, placed, sequence, mapping, Parts, holder, anchored_node, key_placed, locate, locate_items}
use Rattle.yq_core.{specs.Spans.{IsBefore, IsNested, LiesInside, LieInside}, proofs.EditPlaces.{entry_placed, start_placed, end_placed}}
use Rattle.yq_core.{proofs.InlineLaws.inline_takes, proofs.NodeAgain.{sep_longer, key_longer, node_longer}}

holder_inside : (k from to : ℕ) (parts : Parts) → LieInside (suc from) to parts → LiesInside from to (holder k parts)
holder_inside k from to parts h = elim (eqb k 125) as (λ c. LiesInside from to (cond c (mapping parts) (sequence parts))) [ true ↦ h | false ↦ h ]

anchor_nested : (n : List ℕ) (start : ℕ) (p : Placed) → IsNested p → IsNested (anchored_node n start p)
anchor_nested n start (placed a s c e f) h = h

key_before : (total : ℕ) (key : Key) (n : FlowNode) (r : List ℕ) → length (key_text key (node_text n r)) ≤ total → IsBefore (key_placed total (key_text key (node_text n r)) key) (locate total n r)
key_before total key n r h1 = search (rules, start_placed, length-append)

mutual
  unfolding locate locate_items node_text flow_items_text

  node_nested : (total : ℕ) (node : FlowNode) (rest : List ℕ) → length (node_text node rest) ≤ total → IsNested (locate total node rest)
  node_nested total empty rest h = tt
  node_nested total (alias n) rest h = tt
  node_nested total (scalar p) rest h = (refl, refl)
  node_nested total (coll k g is) rest h =
      let cut = length-append g (flow_items_text k is rest) in
      holder_inside k _ _ (locate_items total k is rest) (items_inside total k is rest (suc (total - suc (length (g ++ flow_items_text k is rest)))) (omega (arith, h, cut)) (omega (arith, h, cut)))
  node_nested total (anchored n g node) rest h =
      anchor_nested n _ (locate total node rest) (node_nested total node rest (omega (arith, h, length-append n (g ++ node_text node rest), length-append g (node_text node rest))))

  items_inside : (total k : ℕ) (is : Items) (rest : List ℕ) (from : ℕ) → length (flow_items_text k is rest) ≤ total → from ≤ total - length (flow_items_text k is rest) → LieInside from (total - length rest) (locate_items total k is rest)
  items_inside total k none rest from h f = omega (arith, h, f)
  items_inside total k (item key n s is) rest from h f =
      let tail : List ℕ = flow_items_text k is rest in
      let after : List ℕ = sep_text s tail in
      let keyed_ = key_longer key (node_text n after) in
      let noded = node_longer n after in
      let sepped = sep_longer s tail in
      let z : EntryPieces = record { key = key; node = n; rest = after } in (
        subst (λ at. from ≤ at) (sym (entry_placed total z)) f,
        key_before total key n after h,
        node_nested total n after (omega (arith, h, keyed_)),
        items_inside total k is rest (end_of (locate total n after)) (omega (arith, h, keyed_, noded, sepped)) (subst (λ at. at ≤ total - length tail) (sym (end_placed total n after)) (omega (arith, h, keyed_, noded, sepped))),
      )

-- the node at an offset of a text
inline_nested : (place : Place) (n : ℤ) (depth at : ℕ) (t : List ℕ) (p : Placed) → IsInlineAt place n depth at t p → IsNested p
inline_nested place n depth at t p h = subst IsNested (sym h.places) (node_nested (length t) h.node h.rest (omega (arith, ap length h.is_located, length-drop at t)))

pub nested_by : {X : Type 0} (v : X → Placed) (place : Place) (n : ℤ) (depth at : ℕ) (t : List ℕ) (r : Result X ReadError) → Gives v r (inline_at place n depth at t) → IfOk r (λ x. IsNested (v x))
nested_by v place n depth at t (Ok x) h = inline_nested place n depth at t (v x) (inline_takes place n depth at t (v x) h)
nested_by v place n depth at t (Err e) h = tt
