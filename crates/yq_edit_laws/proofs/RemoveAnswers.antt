-- What removing from a flow collection comes to, by what the code finds.
use Rattle.std.proofs.Common.{rules, ◌≡◌, ℕ, List, [], length, Option, Some, None, option_map, sym, ap, ◌∙◌, refl, subst}
use Rattle.std.{specs.Prelude.IfSome, proofs.lemmas.Option.{none-some, same_Some}}
use Rattle.yq_core.{specs.Answers.◌>>=◌, specs.Paths.{Step, further}, specs.Collections.{CollAt, CollPieces}}
use Rattle.yq_core.{specs.Nodes.{FlowNode, Items, Key, Sep, item, none}, proofs.Bools.bind_some}
use Rattle.yq_flow_edits.{specs.FlowEdits.FlowEdit, specs.FlowPlaces.{PlacedEdit, place_edit}}
use Rattle.yq_flow_edits.specs.Removals.{gap_of, last_out, removing, removing_from}
use Rattle.yq_inline.specs.Neighbours.{PartTexts, PartsAround, around_part, around_view, coll_around, first_ends}
use Rattle.yq_inline.{specs.declared.neighbours.Neighbours.Neighbours, specs.declared.before_offset.LeadingNode.LeadingNode}
use Rattle.yq_text.specs.Script.{Segment}
use Rattle.yq_row_table.specs.Rows.{Cut, cut_text}
use Rattle.yq_documents.{specs.Located.steps_of, specs.Reading.{cut_of, read_at}, specs.declared.path.Path.Path}
use Rattle.yq_places.{specs.FlowNodes.flow_collection, specs.Placements.last_step, proofs.FlowNodeLaws.with_more}
use Rattle.yq_lookup.{specs.RowFronts.{IsFlowFront, IsFoundNode, flow_found}, specs.declared.node_at.FoundNode.FoundNode}
use Rattle.yq_lookup.{specs.declared.node_at.FoundNode.TheVariants.InFlow, proofs.RowParts.{leads_there, outside_there}}
use denote.Bor.{Bor}
use Rattle.yq_edit_rules.{specs.Edits.part_removed, specs.FlowParts.{flow_removed, flow_segments}}
use Rattle.yq_edit_laws.{specs.EditPlaces.{IsFoundAbove, edit_segments, moved_on, remove_around}, proofs.FlowAnswers.EditFound}
use Rattle.yq_edit_laws.{proofs.FlowHeads.{removed_within, edit_more, removing_more}, proofs.NeighbourPlaces.around_gone}
use Rattle.yq_edit_laws.proofs.PiecePlaces.{Front, PieceFound, all_is, at_front, front_coll, piece_found, place_found}
use Rattle.yq_edit_laws.proofs.FlowRemoveLaws.{bounds, bytes, texts}
use Rattle.yq_core.specs.declared.path.Step as declared

-- nothing goes where no item or entry is
last_kept : (k : ℕ) (s : Step) (o : Option PartTexts) (g : List ℕ) (key : Key) (n : FlowNode) (sep : Sep) (is : Items) (rest : List ℕ) → around_part k s o is rest ≡ None → last_out k rest s g key n sep is ≡ None
last_kept k s o g key n sep is rest e = search rules

none_gone : (k : ℕ) (s : Step) (o : Option PartTexts) (g : List ℕ) (is : Items) (rest : List ℕ) → around_part k s o is rest ≡ None → removing_from k rest s g is ≡ None
none_gone k s o g none rest absent = refl
none_gone k s o g (item key n sep is) rest absent =
    search (rules, last_kept, none_gone k (further s) (Some (first_ends k key n sep is rest)) (gap_of sep) is rest)

-- The collection in which a path ends.
module _ (t : List ℕ) (n : ℕ) (path init : List Step) (s : Step) (last : Some (init, s) ≡ last_step path) where
  abbrev c : Cut
  c = cut_of t

  abbrev gone : Option (List Segment)
  gone = part_removed n c (last_step path)

  gone_is : gone ≡ (flow_collection n init c >>= flow_removed (cut_text c) s)
  gone_is = ap (part_removed n c) (sym last)

  pub no_collection : flow_collection n init c ≡ None → gone ≡ None
  no_collection absent = gone_is ∙ ap (λ (o : Option CollPieces). o >>= flow_removed (cut_text c) s) absent

  module _ (x : Front) (w : IsFlowFront t n init x) where
    abbrev row : List ℕ
    row = x.0.text.now

    -- what goes is what goes in the piece
    out_is : (z : CollPieces) → removing s (with_more w.after z) ≡ option_map (edit_more w.after) (removing s z)
    out_is z = removing_more z.close s z.gap z.items z.rest w.after

    part_is : (z : CollPieces) → front_coll x ≡ Some z → gone ≡ option_map (flow_segments (cut_text c)) (removing s (with_more w.after z))
    part_is z there = gone_is ∙ ap (λ (o : Option CollPieces). o >>= flow_removed (cut_text c) s) (all_is t n init x w ∙ ap (option_map (with_more w.after)) there)

    pub no_part : None ≡ (front_coll x >>= coll_around s) → gone ≡ None
    no_part e = go (front_coll x) refl e
      where
        go : (o : Option CollPieces) → front_coll x ≡ o → None ≡ (o >>= coll_around s) → gone ≡ None
        go None there e = no_collection (all_is t n init x w ∙ ap (option_map (with_more w.after)) there)
        go (Some z) there e = search (rules, part_is z there, out_is z, none_gone z.close s None z.gap z.items z.rest)

    module _ (read : read_at t ≡ Some c) (y : Neighbours) (is : Some (around_view y) ≡ (front_coll x >>= coll_around s)) where
      abbrev z : (z : CollPieces) × (front_coll x ≡ Some z) × (coll_around s z ≡ Some (around_view y))
      z = bind_some (front_coll x) (sym is)

      abbrev coll : CollPieces
      coll = with_more w.after z.0

      abbrev at : CollAt
      at = at_front t n init x w z.0

      abbrev f : PieceFound c n init row x.1 w.after at
      f = piece_found t n init x w read z.0 z.1

      place_is : remove_around row (around_view y) ≡ option_map (place_edit (length row)) (removing s z.0)
      place_is = ap (λ (o : Option PartsAround). o >>= remove_around row) (sym z.2) ∙ around_gone at f.is_located row f.node_is s

      pub removal_found : (whole : List ℕ) (p : PlacedEdit) → whole ≡ cut_text c → Some p ≡ remove_around row (around_view y) → EditFound gone whole (moved_on x.1 p) []
      removal_found whole p all is = go (removing s z.0) refl
        where
          go : (o : Option FlowEdit) → removing s z.0 ≡ o → EditFound gone whole (moved_on x.1 p) []
          go None apart = absurd (none-some _ (sym (is ∙ (place_is ∙ ap (option_map (place_edit (length row))) apart))))
          go (Some e) one =
              let out : removing s coll ≡ Some (edit_more w.after e) = out_is z.0 ∙ ap (option_map (edit_more w.after)) one in
              let b = texts c n path init s coll (edit_more w.after e) f.read (sym last) f.found out in
              let u =
              place_found c n init row x.1 w.after at f (edit_more w.after e) e b.before whole p refl (removed_within at f.is_located s e one)
              (bounds c n path init s coll (edit_more w.after e) f.read (sym last) f.found out) b.old (same_Some _ _ (is ∙ (place_is ∙ ap (option_map (place_edit (length row))) one))) all in
              record {
                lies = u.lies;
                is =
                    part_is z.0 z.1
                    ∙ (ap (option_map (flow_segments (cut_text c))) out
                    ∙ (u.is ∙ ap (λ (l : List ℕ). Some (edit_segments whole (moved_on x.1 p) l)) (bytes c n path init s coll (edit_more w.after e) f.read (sym last) f.found out).none_written));
              }

      pub removal_missing : None ≡ remove_around row (around_view y) → gone ≡ None
      removal_missing is = search (rules, part_is z.0 z.1, out_is z.0, edit_more, none-some, place_is)

-- ---- what the code finds above the last step

-- it is at the steps before that
found_there : (t : List ℕ) (path : Path) (init : List Step) (s : Step) (a : FoundNode) → Some (init, s) ≡ last_step (steps_of path) → IsFoundAbove t path a → IsFoundNode t path.doc init a
found_there t path init s a last is = subst (λ (o : Option (List Step × Step)). IfSome o (λ x. IsFoundNode t path.doc x.0 a)) (sym last) is

-- in a flow collection
pub before_offset : (t : List ℕ) (path : Path) (init : List Step) (s : Step) (a : FoundNode) (x : Front) → Some (init, s) ≡ last_step (steps_of path) → IsFoundAbove t path a → flow_found a ≡ Some x →
    IsFlowFront t path.doc init x
before_offset t path init s a x last is e = leads_there t path.doc init a (Some x) e (found_there t path init s a last is)

-- in none
pub outside_flow : (t : List ℕ) (path : Path) (init : List Step) (s : Step) (a : FoundNode) → Some (init, s) ≡ last_step (steps_of path) → IsFoundAbove t path a →
    ((f : LeadingNode) (k : ℕ) (left : Bor (List declared.Step)) → a ≡ InFlow f k left → ⊥) → part_removed path.doc (cut_of t) (last_step (steps_of path)) ≡ None
outside_flow t path init s a last is never = no_collection t path.doc (steps_of path) init s last (outside_there t path.doc init a never (found_there t path init s a last is))
