-- An item or entry taken out of a flow collection.
use Rattle.std.proofs.Common.{arith, ◌≡◌, true, ℕ, ◌-◌, ◌≤◌, List, ◌++◌, length, Some, option_map, sym, ap, ◌∙◌, subst}
use Rattle.std.{proofs.lemmas.Option.same_Some, specs.Str.IsCharBoundary}
use Rattle.yq_core.{specs.Characters.pairs_returns, specs.Paths.{Step, changed_at, remove_child, within}}
use Rattle.yq_core.{specs.Collections.{CollAt, CollPieces, IsCollAt}, specs.Nodes.node_text, specs.Places.locate}
use Rattle.yq_text.{specs.Limit.text_limit, specs.Script.new_text}
use Rattle.yq_flow_edits.{specs.FlowEdits.{FlowEdit, IsFlowEdited}, specs.FlowPlaces.place_edit, specs.Removals.removing}
use Rattle.yq_flow_edits.{proofs.EditLaws.around_is, proofs.EditSpans.remove_spans, proofs.RemoveLaws.{removed, removed_whole}}
use Rattle.yq_flow_edits.{proofs.RemovePlaces.remove_placed, proofs.RemoveTexts.{RemovedText, option_some, removed_text}}
use Rattle.yq_flow_edits.proofs.ReturnLaws.{pairs_after}
use Rattle.yq_row_table.specs.Rows.{Cut, cut_text}
use Rattle.yq_documents.{specs.Documents.{Document, document_parts}, specs.Reading.{documents, read_at, root_of}}
use Rattle.yq_edit_rules.{proofs.TextPieceLaws.nothing, specs.Changed.put_document}
use Rattle.yq_edit_rules.{specs.FlowRows.{text_after_node, with_node, FlowAt, NodeIsThere}, specs.SoundRoots.IsSoundRoot}
use Rattle.yq_edit_rules.{specs.TextPieces.IsPiece, proofs.FlowKeptLaws.{flow_keys, left_keys}, proofs.PartLaws.document_known}
use Rattle.yq_edit_rules.{specs.EditLaws.{CarriedOut, FlowPartIsRemoved, IsEdit}, specs.FlowParts.flow_segments, proofs.DoneLaws.nth_map}
use Rattle.yq_semantics.{specs.Fits.Fits, specs.Operations.remove, specs.Rooms.room_of}
use Rattle.yq_places.{specs.FlowNodes.flow_collection, specs.FlowViews.LeadsToHead, specs.Placements.last_step}
use Rattle.yq_edit_laws.{proofs.FlowPieceLaws.{edit_pieces, lead_piece}, proofs.FlowSoundLaws.{remove_root, remove_sound}}
use Rattle.yq_edit_laws.proofs.FlowEditLaws.{FlowCarried, FlowTexts, before_is, edited_at, flow_carried, flow_texts, made_cut, made_reads}
use Rattle.yq_edit_laws.{proofs.FlowEditLaws.segments_old, proofs.EarlierCollections.earlier, proofs.LaterCuts.slot}
use Rattle.yq_edit_rules.proofs.FlowStayLaws as stay
use Rattle.yq_documents.specs.Reading as reading
use Rattle.yq_edit_laws.proofs.FlowPlacements as placement

module _ (c : Cut) (doc : ℕ) (path init : List Step) (s : Step) (w : CollPieces) (e : FlowEdit) (read : read_at (cut_text c) ≡ Some c)
    (last : last_step path ≡ Some (init, s)) (found : flow_collection doc init c ≡ Some w) (gone : removing s w ≡ Some e) where
  abbrev at : FlowAt c doc init w
  at = placement.at c doc init w read found

  abbrev x : CollAt
  x = placement.x c doc init w read found

  abbrev row_text : NodeIsThere c doc at.part at.row
  row_text = placement.row_text c doc init w read found

  is_located : IsCollAt x
  is_located = placement.is_located c doc init w read found

  pairs : pairs_returns (row_text.before ++ node_text x.node x.rest) ≡ true
  pairs = placement.pairs c doc init w read found

  edited : IsFlowEdited x e (changed_at at.rest (within (remove_child s)))
  edited = removed x s e is_located gone (pairs_after row_text.before (node_text x.node x.rest) pairs)

  pub texts : FlowTexts c (put_document doc (with_node at.part at.row (edited_at c doc init w at e)) c) e (node_text at.row.node (text_after_node c doc at.part at.row))
  texts = flow_texts c doc init w at e (remove_child s) edited

  pub bounds : IsCharBoundary (cut_text c) (length (cut_text c) - length (e.old ++ e.after)) × IsCharBoundary (cut_text c) (length (cut_text c) - length e.after)
  bounds =
      let cs = placement.placed c doc init w read found in
      remove_spans (cut_text c) s (locate (length (cut_text c)) cs.node cs.rest) (place_edit (length (cut_text c)) e) cs.spans
      (remove_placed cs.valid.flow cs.valid.spaces cs.valid.depth (cut_text c) cs.before cs.node cs.rest w s cs.valid.is cs.is cs.text ∙ ap (option_map (place_edit (length (cut_text c)))) gone)

  pub bytes : RemovedText w.close w.rest w.gap w.items e
  bytes = removed_text w.close w.rest s w.gap w.items e gone

  module _ (fits : Fits (room_of (cut_text c)) (remove doc path) (documents c)) where
    removed_done : FlowCarried (remove doc path) c init w at e (remove_child s)
    removed_done =
        let old = placement.old c doc init w read found in
        let known = document_known (cut_text c) c doc at.part old in
        let root : fits.0.root ≡ root_of at.part = ap (λ (d : Document). d.root) (same_Some _ _ (sym fits.1 ∙ nth_map doc at.part reading.part_document (document_parts c) at.there)) in
        let n = subst (λ r. (n : Rattle.yq_core.specs.Tree.Node) × (Rattle.yq_core.specs.Paths.node_at path r ≡ Some n)
        × (Rattle.yq_semantics.specs.Changes.is_used_in (Rattle.yq_core.specs.Anchors.names_of r) (Some n) ≡ Rattle.std.proofs.Common.false))
        root fits.2.1 in
        let sound : IsSoundRoot (root_of at.part) = record { unique = known.document.unique; nested = known.document.nested; bound = known.document.bound } in
        let whole = removed_whole x s e is_located gone row_text.before texts.before pairs (sym row_text.old ∙ texts.old) in
        let parts = edit_pieces (cut_text c) texts.before e (placement.piece c doc init w read found) texts.old bounds.0 bounds.1 whole in
        record {
          edited = edited;
          keys = flow_keys (cut_text c) c doc at.part init at.line at.rest at.row w e.gap e.items old at.at (left_keys s w e gone);
          sound = remove_sound path init s (root_of at.part) n.0 sound last n.1 n.2;
          root = remove_root path init s (root_of at.part) last;
          pieces = (
            subst IsPiece (sym (before_is (cut_text c) texts.before (e.old ++ e.after) texts.old)) parts.0,
            (lead_piece e.lead bytes.lead, (subst IsPiece (sym bytes.none_written) nothing, (parts.1, tt))),
          );
          stays = omega (arith, (around_is x is_located).longer, bytes.longer);
        }

    removed_carried : length (new_text (flow_segments (cut_text c) e)) ≤ text_limit → CarriedOut (remove doc path) c (flow_segments (cut_text c) e)
    removed_carried size = flow_carried (remove doc path) c init w at e (remove_child s) read removed_done size

    -- the cut as which that reads
    pub removed_reads : length (new_text (flow_segments (cut_text c) e)) ≤ text_limit → read_at (new_text (flow_segments (cut_text c) e)) ≡ Some (made_cut (remove doc path) c init w at e)
    removed_reads size = made_reads (remove doc path) c init w at e (remove_child s) read removed_done size

  -- After it the steps to the head lead there still, and the earlier collections are there, before the text that is after them then.
  module _ (stem left : List Step) (there : init ≡ stem ++ left) (h : LeadsToHead c doc stem) where
    abbrev pub next : Cut
    next = made_cut (remove doc path) c init w at e

    pub head_after : LeadsToHead next doc stem
    head_after = stay.head_after c doc init w at e.gap e.items stem left there h

    pub collection_before : (ss : List Step) (z : CollPieces) (mid : List ℕ) → flow_collection doc (stem ++ ss) c ≡ Some z → z.rest ≡ mid
        ++ (e.old ++ e.after) → flow_collection doc (stem ++ ss) next ≡ Some (record z { rest = mid ++ ((e.lead ++ e.written) ++ e.after) })
    collection_before ss z mid found is =
        stay.collection_after c doc init w at e.gap e.items stem left there h ss
        ∙ earlier s w e gone at.rest ss (slot c doc init w at e.gap e.items stem left there h) z mid at.at.along (sym (stay.collection_before c doc init w at e.gap e.items stem left there h ss) ∙ found) is

-- Remove: an item or entry with the comma and the white space that go with it.
pub flow_part_removed : FlowPartIsRemoved
flow_part_removed n steps init s c w ss read last found is =
    let x = option_some (flow_segments (cut_text c)) (removing s w) ss is in
    let t = texts c n steps init s w x.0 read last found x.1 in
    subst (IsEdit (remove n steps) c) x.2 (record { old = segments_old (cut_text c) t.before x.0 t.old; carried = λ h fits size. removed_carried c n steps init s w x.0 read last found x.1 fits size })
