-- The item or entry to which a step leads in the collection to which steps lead in the head of a row, read alone.
use Rattle.std.proofs.Common.{◌≡◌, ℕ, ◌+◌, ◌-◌, true, false, List, [], ◌∷◌, ◌++◌, length, map, take, Option, Some, None, option_map, refl}
use Rattle.std.{proofs.Common.{sym, ap, ◌∙◌, subst, arith, append_assoc, length-append}, proofs.lemmas.Option.same_Some}
use Rattle.std.specs.Prelude.{option_and_then}
use Rattle.yq_core.{specs.Answers.◌>>=◌, specs.Collections.{CollPieces, coll_along, coll_in}, specs.Paths.Step, specs.Piece.deeper}
use Rattle.yq_core.{specs.Entries.{EntryPieces, entry_pieces_at, path_inside, tree_step}, specs.Inline.depth_limit}
use Rattle.yq_core.{specs.Nodes.{FlowNode, IsFlowNode, anchored}, specs.Places.{Placed, locate}, proofs.PathLaws.path_holds}
use Rattle.yq_row_table.specs.Rows.{parent_indent}
use denote.Bor.{Bor}
use Rattle.yq_documents.specs.Reading.{cut_of}
use Rattle.yq_inline.specs.Along.{along_view, as_item, front_read, located_along, located_from, node_from}
use Rattle.yq_inline.{specs.declared.along.NodeAlong.NodeAlong, specs.declared.before_offset.LeadingNode.LeadingNode}
use Rattle.yq_places.{specs.FlowNodes.{content_flow, flow_collection}, proofs.FlowNodeLaws.{content_more, entry_more, item_more, with_more}}
use Rattle.yq_lookup.specs.PartNodes.{IsPartNode, PartAgrees, part_at, coll_part}
use Rattle.yq_lookup.specs.RowFronts.{IsFlowFront, IsFoundNode, IsRowFront, LeadsToFront, flow_found}
use Rattle.yq_lookup.{specs.declared.node_at.FoundNode.FoundNode, specs.declared.node_at.FoundNode.TheVariants.{InFlow, Outside}}
use Rattle.yq_lookup.proofs.RowItems.{before_is}
use Rattle.yq_core.specs.declared.path.Step as declared

-- the node that the code finds is in no flow collection
pub outside_there : (t : List ℕ) (n : ℕ) (steps : List Step) (x : FoundNode) → ((a : LeadingNode) (k : ℕ) (left : Bor (List declared.Step)) → x ≡ InFlow a k left → ⊥) → IsFoundNode t n steps x →
    LeadsToFront t n steps None
outside_there t n steps (InFlow a k left) never is = absurd (never a k left refl)
outside_there t n steps (Outside o) never is = is.flow

-- where it is, if it is in one
pub leads_there : (t : List ℕ) (n : ℕ) (steps : List Step) (x : FoundNode) (o : Option (LeadingNode × ℕ × Bor (List declared.Step))) → flow_found x ≡ o → IsFoundNode t n steps x → LeadsToFront t n steps o
leads_there t n steps x o e is = subst (LeadsToFront t n steps) e is.flow

-- the items or entries of a node are those of its collection
pub node_entry : (s : Step) (node : FlowNode) (rest : List ℕ) → (coll_in node rest >>= coll_part s) ≡ path_inside s node rest
node_entry s (anchored n gap node) rest = node_entry s node rest
node_entry s _ rest = refl

-- the item or entry at a step more
pub parts_along : (p : List Step) (s : Step) (x : EntryPieces) → (coll_along p x.node x.rest >>= coll_part s) ≡ entry_pieces_at (p ++ (s ∷ [])) x
parts_along [] s x = node_entry s x.node x.rest ∙ one (path_inside s x.node x.rest) where
  one : (o : Option EntryPieces) → o ≡ option_and_then (entry_pieces_at []) o
  one None = refl
  one (Some y) = refl
parts_along (u ∷ p) s x = go (path_inside u x.node x.rest) (parts_along p s) where
  go : (o : Option EntryPieces) → ((y : EntryPieces) → (coll_along p y.node y.rest >>= coll_part s) ≡ entry_pieces_at (p ++ (s ∷ [])) y) →
      (option_and_then (λ (y : EntryPieces). coll_along p y.node y.rest) o >>= coll_part s) ≡ option_and_then (entry_pieces_at (p ++ (s ∷ []))) o
  go None again = refl
  go (Some y) again = again y

-- a part of a collection before a longer rest
part_more : (s : Step) (more : List ℕ) (o : Option CollPieces) → (option_map (with_more more) o >>= coll_part s) ≡ option_map (entry_more more) (o >>= coll_part s)
part_more s more None = refl
part_more s more (Some w) = item_more w.close s w.items w.rest more

-- Steps lead to the flow collection at a path in a node in front.
module _ (t : List ℕ) (n : ℕ) (steps : List Step) (x : LeadingNode × ℕ × Bor (List declared.Step)) (w : IsFlowFront t n steps x) (s : Step) where
  abbrev after : List ℕ
  after = w.after

  abbrev h : IsRowFront t w.after w.row (x.0, x.1)
  h = w.front

  abbrev top : EntryPieces
  top = as_item (h.head.node, h.head.rest)

  abbrev ss : List Step
  ss = map tree_step x.2.now

  abbrev all : List Step
  all = ss ++ (s ∷ [])

  part_is : part_at n steps s (cut_of t) ≡ option_map (entry_more after) (entry_pieces_at all top)
  part_is =
      ap (λ (o : Option CollPieces). o >>= coll_part s) (w.found ∙ content_more ss w.row.content after)
      ∙ (part_more s after (content_flow ss w.row.content []) ∙ ap (option_map (entry_more after)) (ap (λ (o : Option CollPieces). o >>= coll_part s) (h.head.flow ss) ∙ parts_along ss s top))

  pub no_part_agrees : None ≡ located_along all (front_read x.0) → PartAgrees t (part_at n steps s (cut_of t)) None
  no_part_agrees e = subst (λ (o : Option EntryPieces). PartAgrees t o None) (sym part_is) (go (entry_pieces_at all top) (e ∙ ap (located_along all) h.read))
    where
      go : (o : Option EntryPieces) → None ≡ option_map located_from o → PartAgrees t (option_map (entry_more after) o) None
      go None e = tt
      go (Some y) e = cc

  valid : (y : EntryPieces) → entry_pieces_at all top ≡ Some y → (d : ℕ) × IsFlowNode true (Some 0) d y.node y.rest
  valid y there = go ss there
    where
      go : (ps : List Step) → entry_pieces_at (ps ++ (s ∷ [])) top ≡ Some y → (d : ℕ) × IsFlowNode true (Some 0) d y.node y.rest
      go [] e = let z = path_holds false (Some (deeper (parent_indent w.row))) depth_limit s [] top y h.head.valid e in (z.0, z.2)
      go (u ∷ ps) e = let z = path_holds false (Some (deeper (parent_indent w.row))) depth_limit u (ps ++ (s ∷ [])) top y h.head.valid e in (z.0, z.2)

  -- the node that the code has read
  module _ (m : NodeAlong) (start : ℕ) (at : start ≡ x.1 + (length x.0.text.now - length m.text.now)) where
    is_located : (y : EntryPieces) → entry_pieces_at all top ≡ Some y → along_view m ≡ located_from y → IsPartNode t (entry_more after y) (m, start)
    is_located y there is =
        let b = before_is t n steps x w all y there in
        let v = valid y there in
        let own : m.text.now ≡ node_from y = ap (λ (z : List ℕ × Placed). z.0) is in
        record {
          front = take x.1 t ++ b.0;
          after = after;
          rest = y.rest;
          depth = v.0;
          text = h.is_located ∙ (ap (λ (l : List ℕ). take x.1 t ++ (l ++ after)) b.1 ∙ (simp append_assoc refl ∙ ap (λ (l : List ℕ). (take x.1 t ++ b.0) ++ (l ++ after)) (sym own)));
          before = omega (arith, at, h.begins, ap length b.1, length-append b.0 (node_from y), length-append (take x.1 t) b.0, ap (λ (z : List ℕ × Placed). length z.0) is);
          rest_is = refl;
          valid = v.1;
          node_is = own;
          view = ap (λ (z : List ℕ × Placed). z.1) is ∙ ap (λ (l : List ℕ). locate (length l) y.node y.rest) (sym own);
        }

    pub part_agrees : Some (along_view m) ≡ located_along all (front_read x.0) → PartAgrees t (part_at n steps s (cut_of t)) (Some (m, start))
    part_agrees e = subst (λ (o : Option EntryPieces). PartAgrees t o (Some (m, start))) (sym part_is) (go (entry_pieces_at all top) refl (e ∙ ap (located_along all) h.read))
      where
        go : (o : Option EntryPieces) → entry_pieces_at all top ≡ o → Some (along_view m) ≡ option_map located_from o → PartAgrees t (option_map (entry_more after) o) (Some (m, start))
        go None there e = cc
        go (Some y) there e = is_located y there (same_Some _ _ e)

-- no collection is at the path
pub part_missing : (t : List ℕ) (n : ℕ) (steps : List Step) (s : Step) → flow_collection n steps (cut_of t) ≡ None → PartAgrees t (part_at n steps s (cut_of t)) None
part_missing t n steps s none = subst (λ (o : Option CollPieces). PartAgrees t (o >>= coll_part s) None) (sym none) tt
