-- What putting a value at an item or entry of a flow collection comes to, where that is read alone.
use Rattle.std.proofs.Common.{rules, ◌≡◌, ℕ, true, List, [], ◌++◌, length, take, drop, Option, Some, None, sym, ap, ◌∙◌, length-append}
use Rattle.std.{specs.Prelude.String, specs.declared.alloc.Global.Global}
use Rattle.yq_core.{specs.Answers.◌>>=◌, specs.Paths.Step, specs.declared.style.Place.TheVariants.Flow as InFlow, specs.Entries.EntryPieces}
use Rattle.yq_core.{specs.Nodes.{FlowNode, node_text, without_anchor}, specs.Trees.placed_tree, specs.View.inline_view}
use Rattle.yq_core.{proofs.Bools.bind_some, proofs.NodesWrittenLaws.node_then, proofs.TreeLaws.node_tree}
use Rattle.yq_flow_edits.{specs.FlowEdits.{FlowEdit, replacing}, specs.FlowPlaces.{edit_view, place_edit, replace_place}}
use Rattle.yq_flow_edits.{specs.declared.flow_place.EditPlace.EditPlace, proofs.PlacedEdits.replace_placed}
use Rattle.yq_row_table.specs.Rows.{Cut, cut_text}
use Rattle.yq_documents.specs.Reading.{cut_of, read_at}
use Rattle.yq_places.{specs.FlowNodes.flow_collection, specs.NodesAt.node_in}
use Rattle.yq_places.specs.Placements.{FlowPart, flow_part, flow_placement, last_step}
use Rattle.yq_inline.specs.declared.along.NodeAlong.{NodeAlong}
use Rattle.yq_lookup.specs.PartNodes.{IsPartNode, PartAgrees, part_at}
use Rattle.yq_edit_rules.{specs.Replacing.keeps_scalar, specs.WrittenValues.value_text}
use Rattle.yq_edit_laws.{specs.PartPuts.{IsPlaceOf, IsValuePut, IsWrittenIn, place_after, put_edit}, proofs.CutLaws.text_read}
use Rattle.yq_edit_laws.{proofs.FlowAnswers.bounds_lie, proofs.FlowHeads.{edit_more, place_moved}, proofs.FlowPartNodes.part_node}
use Rattle.yq_edit_laws.{proofs.FlowPutLaws.{bounds, e, m, there}, proofs.FlowPlacements.EntryAt, proofs.FlowWholeLaws.content_split}
use Rattle.yq_edit_laws.proofs.PutAnswers.{old_at, value_is, written_found}
use Rattle.yq_core.specs.Tree as tree

-- The code finds the item or entry to which a step leads in the flow collection at a path.
pub record PartFound (c : Cut) (n : ℕ) (init : List Step) (s : Step) (x : NodeAlong × ℕ) : Type 0 where
  pub read : read_at (cut_text c) ≡ Some c
  pub item : EntryPieces
  pub there : part_at n init s c ≡ Some item
  pub is_located : IsPartNode (cut_text c) item x

-- by what it tells
pub part_found : (t : List ℕ) (n : ℕ) (init : List Step) (s : Step) (o : Option (NodeAlong × ℕ)) (x : NodeAlong × ℕ) → read_at t ≡ Some (cut_of t) → PartAgrees t (part_at n init s (cut_of t)) o → o ≡ Some x → PartFound (cut_of t) n init s x
part_found t n init s o x read agrees is = search (rules, there, text_read)

part_placement : (c : Cut) (n : ℕ) (path init : List Step) (s : Step) → Some (init, s) ≡ last_step path → flow_placement n c (last_step path) ≡ (flow_collection n init c >>= flow_part s)
part_placement c n path init s last = ap (flow_placement n c) (sym last)

-- none is there
pub content_missing : (t : List ℕ) (c : Cut) (n : ℕ) (path init : List Step) (s : Step) → Some (init, s) ≡ last_step path → PartAgrees t (part_at n init s c) None → flow_placement n c (last_step path) ≡ None
content_missing t c n path init s last h = search (rules, part_placement)

-- a content with what comes after it, in its node
core_is_there : (node : FlowNode) (rest : List ℕ) → (p : List ℕ) × (node_text node rest ≡ p ++ (node_text (without_anchor node) [] ++ rest))
core_is_there node rest = let x = content_split node rest in (x.0, x.1 ∙ ap (λ (l : List ℕ). x.0 ++ l) (node_then (without_anchor node) rest))

-- It is found at the last step.
module _ (c : Cut) (n : ℕ) (path init : List Step) (s : Step) (x : NodeAlong × ℕ) (last : Some (init, s) ≡ last_step path) (f : PartFound c n init s x) where
  abbrev h : IsPartNode (cut_text c) f.item x
  h = f.is_located

  abbrev row : List ℕ
  row = x.0.text.now

  abbrev a : EntryAt c n path
  a = let w = bind_some (flow_collection n init c) f.there in record { init = init; step = s; last = sym last; coll = w.0; found = w.1; item = f.item; at = w.2 }

  abbrev z : FlowPart
  z = record { step = s; collection = a.coll; part = f.item }

  placement_there : flow_placement n c (last_step path) ≡ Some z
  placement_there = search (rules, last, a.found, a.at)

  node_there : node_in n path c ≡ Some (placed_tree (inline_view x.0.node))
  node_there = part_node c n path a f.read ∙ ap Some (sym (ap placed_tree h.view ∙ node_tree (length row) f.item.node h.rest))

  -- The place of its content is that of the edit that puts a value there.
  module _ (v : tree.Node) (r : EditPlace) (place : edit_view r ≡ replace_place (inline_view x.0.node)) where
    abbrev edit : FlowEdit
    edit = e c n path v f.read a

    abbrev new : FlowNode
    new = m c n path v f.read a

    abbrev alone : FlowEdit
    alone = replacing s (record f.item { rest = h.rest }) new a.coll

    own_text : (p : List ℕ) × (row ≡ p ++ (alone.old ++ alone.after))
    own_text = let w = core_is_there f.item.node h.rest in (w.0, h.node_is ∙ w.1)

    own_place : edit_view r ≡ place_edit (length row) alone
    own_place = place ∙ (ap replace_place h.view ∙ replace_placed true (Some 0) h.depth (length row) s (record f.item { rest = h.rest }) new a.coll h.valid)

    moved : place_after x.1 r ≡ place_edit (length (cut_text c)) edit
    moved = search (rules, own_text, length-append, edit_more, own_place, place_moved)

    place_found : IsPlaceOf (cut_text c) v z (place_after x.1 r)
    place_found =
        let t = there c n path v f.read a in
        record { lies = bounds_lie c edit (place_after x.1 r) f.read (bounds c n path v f.read a) moved; place_is = moved; before = t.before; text = t.text }

    text_found : value_text InFlow (drop r.start (take r.end row)) v ≡ (put_edit v z).written
    text_found =
        (λ i. value_text InFlow (drop (own_place i).start (take (own_place i).end row)) v)
        ∙ (ap (λ (l : List ℕ). value_text InFlow l v) (old_at row own_text.0 alone own_text.1) ∙ value_is edit.old v)

  -- so what the code puts there is what is put at the part
  pub puts_found : (v : tree.Node) (r : EditPlace) (o : Option (String Global)) → edit_view r ≡ replace_place (inline_view x.0.node) → IsWrittenIn row (inline_view x.0.node) v o → IsValuePut n path v c (place_after x.1 r) o
  puts_found v r o place h =
      let text = (λ i. value_text InFlow (drop (sym place i).start (take (sym place i).end row)) v) ∙ text_found v r place in
      (z, placement_there, place_found v r place, written_found (node_in n path c) v z _ _ (ap (λ (m : Option tree.Node). keeps_scalar m v) node_there) text o h)
