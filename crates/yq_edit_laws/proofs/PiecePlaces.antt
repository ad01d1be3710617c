-- Where edits of a flow collection are in a text, by their places in a piece of that.
use Rattle.std.proofs.Common.{rules, ◌≡◌, ℕ, ◌≤◌, true, not, List, [], ◌∷◌, ◌++◌, length, map, Option, Some, refl, sym, ap, ◌∙◌, subst}
use Rattle.std.proofs.Common.{option_map}
use denote.Bor.{Bor}
use Rattle.yq_core.{specs.Collections.{CollAt, CollPieces, IsCollAt, coll_along, coll_in}, specs.Entries.tree_step, specs.Paths.Step}
use Rattle.yq_core.{specs.declared.style.Place.TheVariants.Block, specs.Nodes.{FlowNode, empty, is_empty_node, node_text}}
use Rattle.yq_flow_edits.{specs.FlowEdits.FlowEdit, specs.FlowPlaces.{PlacedEdit, place_edit}}
use Rattle.yq_inline.{specs.Along.front_read, specs.Neighbours.coll_read, specs.declared.before_offset.LeadingNode.LeadingNode}
use Rattle.yq_row_table.specs.Rows.{Cut, cut_text, parent_indent}
use Rattle.yq_documents.specs.Reading.{cut_of, read_at}
use Rattle.yq_places.{specs.FlowNodes.flow_collection, proofs.FlowNodeLaws.{content_more, with_more}}
use Rattle.yq_lookup.specs.RowFronts.{IsFlowFront}
use Rattle.yq_edit_rules.specs.FlowParts.{flow_segments}
use Rattle.yq_edit_laws.{specs.EditPlaces.{LiesIn, edit_segments, moved_on}, proofs.CutLaws.text_read}
use Rattle.yq_edit_laws.{proofs.FlowAnswers.{EditFound, HasBounds, bounds_lie, segments_at}, proofs.FlowHeads.{edit_more, place_moved}}
use Rattle.yq_core.specs.declared.path.Step as declared

-- a collection is something
some_coll : (node : FlowNode) (rest : List ℕ) (w : CollPieces) → coll_in node rest ≡ Some w → not (is_empty_node node) ≡ true
some_coll node rest w e = search rules

-- a node in which steps lead to a collection is something
some_node : (ss : List Step) (node : FlowNode) (rest : List ℕ) (w : CollPieces) → coll_along ss node rest ≡ Some w → not (is_empty_node node) ≡ true
some_node [] node rest w e = some_coll node rest w e
some_node (s ∷ ss) empty rest w e = cc
some_node (s ∷ ss) _ rest w e = refl

-- The flow collection at a path is in a piece of the text, before which so many bytes are: the piece begins with a node that could be alone, and
-- steps lead to the collection in it.
pub record PieceFound (c : Cut) (n : ℕ) (steps : List Step) (piece : List ℕ) (start : ℕ) (after : List ℕ) (at : CollAt) : Type 0 where
  pub read : read_at (cut_text c) ≡ Some c
  pub front : List ℕ
  pub text : cut_text c ≡ front ++ (piece ++ after)
  pub start_is : start ≡ length front
  pub found : flow_collection n steps c ≡ Some (with_more after at.coll)
  pub is_located : IsCollAt at
  pub node_is : piece ≡ node_text at.node at.rest

module _ (c : Cut) (n : ℕ) (steps : List Step) (piece : List ℕ) (start : ℕ) (after : List ℕ) (at : CollAt) (h : PieceFound c n steps piece start after at) where
  -- an edit has its place in the text where it has one in the piece
  place_of : (e f : FlowEdit) → e ≡ edit_more after f → length (f.old ++ f.after) ≤ length (node_text at.node at.rest) → place_edit (length (cut_text c)) e ≡ moved_on start (place_edit (length piece) f)
  place_of e f same within = search (rules, place_moved)

  pub place_found : (e f : FlowEdit) (before whole : List ℕ) (p : PlacedEdit) → e ≡ edit_more after f → length (f.old ++ f.after) ≤ length (node_text at.node at.rest) →
      HasBounds (cut_text c) e → cut_text c ≡ before ++ (e.old ++ e.after) → p ≡ place_edit (length piece) f → whole ≡ cut_text c → EditFound (Some (flow_segments (cut_text c) e)) whole (moved_on start p) e.written
  place_found e f before whole p same within bounds text is all =
      let moved : moved_on start p ≡ place_edit (length (cut_text c)) e = ap (moved_on start) is ∙ sym (place_of e f same within) in
      record {
        lies = subst (λ (l : List ℕ). LiesIn l (moved_on start p)) (sym all) (bounds_lie c e (moved_on start p) h.read bounds moved);
        is = ap Some (sym (segments_at (cut_text c) before e text) ∙ (λ i. edit_segments (sym all i) (sym moved i) e.written));
      }

-- a node in front, how many bytes come before it, and steps in it
abbrev pub Front : Type 0
Front = LeadingNode × ℕ × Bor (List declared.Step)

-- the collection to which these lead
abbrev pub front_coll : Front → Option CollPieces
front_coll x = coll_read (map tree_step x.2.now) (front_read x.0)

-- Steps lead to the flow collection at a path in a node in front.
module _ (t : List ℕ) (n : ℕ) (steps : List Step) (x : Front) (w : IsFlowFront t n steps x) where
  abbrev ss : List Step
  ss = map tree_step x.2.now

  -- the collection in the row
  in_row : front_coll x ≡ coll_along ss w.front.head.node w.front.head.rest
  in_row = ap (coll_read ss) w.front.read

  pub all_is : flow_collection n steps (cut_of t) ≡ option_map (with_more w.after) (front_coll x)
  all_is = w.found ∙ (content_more ss w.row.content w.after ∙ ap (option_map (with_more w.after)) (w.front.head.flow ss ∙ sym in_row))

  abbrev pub at_front : CollPieces → CollAt
  at_front z = record { place = Block; indent = parent_indent w.row; around = 0; node = w.front.head.node; rest = w.front.head.rest; steps = ss; coll = z }

  pub piece_found : read_at t ≡ Some (cut_of t) → (z : CollPieces) → front_coll x ≡ Some z → PieceFound (cut_of t) n steps x.0.text.now x.1 w.after (at_front z)
  piece_found read z there = search (rules, in_row, text_read, all_is, with_more, some_node)
