-- One item or entry more in a flow collection.
use Rattle.std.proofs.Common.{rules, ◌≡◌, ℕ, suc, ◌-◌, ◌<◌, ◌≤◌, Bool, true, false, eqb, cond, List, [], ◌∷◌, ◌++◌, length, Option, Some}
use Rattle.std.{proofs.Common.{None, refl, sym, ap, ◌∙◌, subst, arith}, proofs.lemmas.Bool.{cond_both, false≢true}}
use Rattle.std.{proofs.lemmas.Option.{none-some, same_Some}, specs.Str.IsCharBoundary}
use Rattle.yq_text.{specs.Limit.text_limit, specs.Script.new_text}
use Rattle.yq_core.{specs.Keys.{depth, keys_of}, specs.Paths.{Step, append_child, node_at}, specs.Tree.{children_of, key_label}}
use Rattle.yq_core.{specs.Collections.{CollAt, CollPieces, IsCollAt, room_in}, specs.Entries.EntryPieces}
use Rattle.yq_core.{specs.Nodes.{Key, FlowNode, Items, none, item, node_text, without_anchor}, specs.NodesWritten.{flow_key, flow_of}}
use Rattle.yq_flow_edits.{specs.FlowEdits.{FlowEdit, add_item, appending, after_appended, is_none}, specs.Valued.{IsLabel, IsValueTree}}
use Rattle.yq_flow_edits.{proofs.EditLaws.around_is, proofs.EditSpans.ends_bound, proofs.ValueEdits.{appended_ends, value_appended}}
use Rattle.yq_flow_edits.proofs.ItemPlaces.{last_rest}
use Rattle.yq_row_table.specs.Rows.{Cut, cut_text}
use Rattle.yq_documents.specs.Documents.{Document, EachHasFitKeys, HasFitKey, HasFitKeys, document_parts}
use Rattle.yq_documents.specs.Reading.{documents, read_at, root_of}
use Rattle.yq_places.{specs.FlowNodes.flow_collection, specs.FlowViews.LeadsToHead}
use Rattle.yq_edit_rules.{proofs.CommentPieceLaws.byte_then, proofs.TextPieceLaws.nothing, specs.FlowRows.FlowAt}
use Rattle.yq_edit_rules.{specs.SoundRoots.{IsNewKey, IsNewValue, IsSoundRoot}, specs.TextPieces.IsPiece, proofs.FlowKeptLaws.flow_keys}
use Rattle.yq_edit_rules.{proofs.PartLaws.document_known, proofs.SoundRootLaws.append_keeps}
use Rattle.yq_edit_rules.{specs.EditLaws.{CarriedOut, FlowMoreIsPut, IsEdit}, specs.FlowParts.{flow_segments, takes_key}}
use Rattle.yq_edit_rules.{specs.Operands.KeyIsUtf8, proofs.DoneLaws.nth_map, proofs.EditsFitLaws.{new_key, new_value, tree_unique}}
use Rattle.yq_edit_rules.{proofs.FlowWritten.{flow_fits, key_fits}, proofs.ValueNodes.{flow_piece, key_piece}}
use Rattle.yq_semantics.{specs.Fits.{Fits, Takes}, specs.Operations.append, specs.Rooms.room_of}
use Rattle.yq_edit_laws.proofs.FlowPieceLaws.{edit_pieces}
use Rattle.yq_edit_laws.proofs.FlowEditLaws.{FlowCarried, before_is, flow_carried, made_cut, made_reads, segments_old}
use Rattle.yq_edit_laws.{specs.PartPuts.{EndsAfter, EndsAsIn, IsPartOf}, proofs.FlowWholeLaws.{IsPlacedBefore, appended_is_there}}
use Rattle.yq_edit_laws.{proofs.LaterCuts.{end_after, part_after, slot}, proofs.LaterEnds.{end_after_more, part_after_more}}
use Rattle.yq_edit_rules.proofs.FlowStayLaws as stay
use Rattle.yq_core.specs.Tree as tree
use Rattle.yq_documents.specs.Reading as reading
use Rattle.yq_edit_laws.proofs.FlowPlacements as placement

-- ---- the edit

add_fit : (key : Key) (m : FlowNode) (gap : List ℕ) (is : Items) → HasFitKey key → HasFitKeys m → EachHasFitKeys is → EachHasFitKeys (add_item key m gap is)
add_fit key m gap none h k f = (h, k, tt)
add_fit key m gap (item j n sep none) h k f = (f.0, f.1, (h, k, tt))
add_fit key m gap (item j n sep (item j2 n2 sep2 is)) h k f = (f.0, f.1, add_fit key m gap (item j2 n2 sep2 is) h k f.2)

-- ---- the key

label_is : (close : ℕ) (key : Option (List ℕ)) → KeyIsUtf8 key → takes_key close key ≡ true → IsLabel (eqb close 125) (key_label key)
label_is close key u h = search (rules, false≢true)

key_new : (key : Option (List ℕ)) (n : tree.Node) → Takes key n → IsNewKey key (keys_of (children_of n))
key_new None n t = tt
key_new (Some k) n t = subst (λ (m : tree.Node). IsNewKey (Some k) (keys_of (children_of m))) (sym t.2) (new_key k t.1 t.3)

-- ---- in a collection

module _ (c : Cut) (doc : ℕ) (steps : List Step) (key : Option (List ℕ)) (v : tree.Node) (w : CollPieces) (read : read_at (cut_text c) ≡ Some c) (found : flow_collection doc steps c ≡ Some w) where
  abbrev pub at : FlowAt c doc steps w
  at = placement.at c doc steps w read found

  abbrev pub x : CollAt
  x = placement.x c doc steps w read found

  abbrev pub e : FlowEdit
  e = appending (flow_key key) (flow_of v) w

  pub is_located : IsCollAt x
  is_located = placement.is_located c doc steps w read found

  old_is : cut_text c ≡ (placement.row_text c doc steps w read found).before ++ node_text x.node x.rest
  old_is = (placement.row_text c doc steps w read found).old

  pub there : IsPlacedBefore (cut_text c) (e.old ++ e.after)
  there = subst (λ (t : List ℕ). IsPlacedBefore t (after_appended w)) (sym old_is) (appended_is_there x (placement.row_text c doc steps w read found).before is_located)

  pub bounds : IsCharBoundary (cut_text c) (length (cut_text c) - length (e.old ++ e.after)) × IsCharBoundary (cut_text c) (length (cut_text c) - length e.after)
  bounds = let i = around_is x is_located in let b = ends_bound w.close (cut_text c) there.before (after_appended w) i.closes (appended_ends x i) there.text in (b, b)

  -- one that fits
  module _ (u : KeyIsUtf8 key) (h : IsValueTree v) (takes : takes_key w.close key ≡ true) (fits : Fits (room_of (cut_text c)) (append doc steps key v) (documents c)) where
    pub append_done : FlowCarried (append doc steps key v) c steps w at e (append_child (key_label key) v)
    append_done =
        let known = document_known (cut_text c) c doc at.part (placement.old c doc steps w read found) in
        let old : IsSoundRoot (root_of at.part) = record { unique = known.document.unique; nested = known.document.nested; bound = known.document.bound } in
        let root : fits.0.root ≡ root_of at.part = ap (λ (d : Document). d.root) (same_Some _ _ (sym fits.1 ∙ nth_map doc at.part reading.part_document (document_parts c) at.there)) in
        let node : node_at steps (root_of at.part) ≡ Some fits.2.2.0 = ap (node_at steps) (sym root) ∙ fits.2.2.1 in
        let new : IsNewValue v (suc (length steps)) = new_value (suc (length steps)) v h (tree_unique v fits.2.1.0) fits.2.1.2 in
        let room : depth v ≤ room_in x = omega (arith, placement.fewer c doc steps w read found, new.nested) in
        let p = placement.piece c doc steps w read found in
        let parts = edit_pieces (cut_text c) there.before e p there.text bounds.0 bounds.1 there.whole in
        record {
          edited = value_appended x (key_label key) v is_located (label_is w.close key u takes) h room;
          keys = flow_keys (cut_text c) c doc at.part steps at.line at.rest at.row w e.gap e.items (placement.old c doc steps w read found) at.at
              (add_fit (flow_key key) (flow_of v) w.gap w.items (key_fits key fits.2.0) (flow_fits v fits.2.1.1));
          sound = append_keeps steps (root_of at.part) fits.2.2.0 v (key_label key) old node new (key_new key fits.2.2.0 fits.2.2.2);
          root = refl;
          pieces = (
            subst IsPiece (sym (before_is (cut_text c) there.before (e.old ++ e.after) there.text)) parts.0,
            (
              cond_both (is_none w.items) [] (44 ∷ (32 ∷ [])) IsPiece (λ _. nothing) (λ _. byte_then 44 (32 ∷ []) refl (byte_then 32 [] refl nothing)),
              (key_piece (eqb w.close 125) (key_label key) (node_text (flow_of v) []) (label_is w.close key u takes) (flow_piece v h), (parts.1, tt)),
            ),
          );
          stays = omega (arith, (around_is x is_located).longer, last_rest w.close w.gap w.items w.rest);
        }

    append_carried : length (new_text (flow_segments (cut_text c) e)) ≤ text_limit → CarriedOut (append doc steps key v) c (flow_segments (cut_text c) e)
    append_carried size = flow_carried (append doc steps key v) c steps w at e (append_child (key_label key) v) read append_done size

    -- the cut as which that reads
    pub appended_reads : length (new_text (flow_segments (cut_text c) e)) ≤ text_limit → read_at (new_text (flow_segments (cut_text c) e)) ≡ Some (made_cut (append doc steps key v) c steps w at e)
    appended_reads size = made_reads (append doc steps key v) c steps w at e (append_child (key_label key) v) read append_done size

  -- After it the steps to the head lead there still, and the later parts of its collections and the ends of these are as they were.
  module _ (stem left : List Step) (init : steps ≡ stem ++ left) (h : LeadsToHead c doc stem) where
    abbrev pub next : Cut
    next = made_cut (append doc steps key v) c steps w at e

    abbrev own : EntryPieces
    own = slot c doc steps w at e.gap e.items stem left init h

    pub head_after : LeadsToHead next doc stem
    head_after = stay.head_after c doc steps w at e.gap e.items stem left init h

    pub following_part : (ss : List Step) (r : Step) (z : EntryPieces) → IsPartOf c doc (stem ++ ss) r z → length z.rest < length (after_appended w) →
        length (node_text (without_anchor z.node) z.rest) ≤ length (after_appended w) → IsPartOf next doc (stem ++ ss) r z
    following_part ss r z part less begins =
        part_after c doc steps w at e.gap e.items stem left init h ss r z part (λ before. part_after_more (flow_key key) (flow_of v) e.gap w at.rest (ss ++ (r ∷ [])) own z at.at.along before less begins)

    pub following_end : (ss : List Step) (z : CollPieces) → flow_collection doc (stem ++ ss) c ≡ Some z → EndsAfter (length (after_appended w)) z → EndsAsIn z next doc (stem ++ ss)
    following_end ss z found after =
        end_after c doc steps w at e.gap e.items stem left init h ss z found (λ before. end_after_more (flow_key key) (flow_of v) e.gap w at.rest ss own z at.at.along before after)

-- Append: one more item or entry, where the collection takes it.
pub flow_more_put : FlowMoreIsPut
flow_more_put n steps key v c w ss read found is = go (takes_key w.close key) refl is
  where
    at_end : takes_key w.close key ≡ true → IsEdit (append n steps key v) c (flow_segments (cut_text c) (e c n steps key v w read found))
    at_end takes = let t = there c n steps key v w read found in record {
      old = segments_old (cut_text c) t.before (e c n steps key v w read found) t.text;
      carried = λ h fits size. append_carried c n steps key v w read found h.0 h.1 takes fits size;
    }

    go : (b : Bool) → takes_key w.close key ≡ b → cond b (Some (flow_segments (cut_text c) (appending (flow_key key) (flow_of v) w))) None ≡ Some ss → IsEdit (append n steps key v) c ss
    go true takes e = subst (IsEdit (append n steps key v) c) (same_Some _ _ e) (at_end takes)
    go false takes e = absurd (none-some _ e)
