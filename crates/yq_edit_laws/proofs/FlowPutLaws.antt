-- The content of an item or entry of a flow collection is replaced by a value.
use Rattle.std.proofs.Common.{refl, rules, ◌≡◌, ℕ, ◌-◌, ◌<◌, ◌≤◌, Bool, true, false, List, [], ◌∷◌, ◌++◌, length, Option, Some, sym, ap}
use Rattle.std.{proofs.Common.{◌∙◌, subst, arith, ◌+◌, append-nil, length-append}, proofs.lemmas.Bool.cond_both}
use Rattle.std.{proofs.lemmas.Option.none-some, specs.Str.IsCharBoundary}
use Rattle.yq_core.{specs.Keys.depth, specs.Paths.{Step, changed_at, change_child, further, within}, specs.Scalar.ScalarText}
use Rattle.yq_core.{specs.declared.style.Place.TheVariants.Flow, specs.Collections.{CollAt, CollPieces, IsCollAt, item_in, room_in}}
use Rattle.yq_core.{specs.Entries.EntryPieces, specs.Nodes.{Key, Items, none, item, is_empty_node, node_text, without_anchor}}
use Rattle.yq_core.{specs.Places.locate, specs.Scalars.scalar_style, specs.Trees.scalar_node, proofs.PathLaws.items_hold}
use Rattle.yq_text.{specs.Limit.text_limit, specs.Script.new_text}
use Rattle.yq_flow_edits.specs.FlowEdits.{FlowEdit, IsFlowEdited, after_appended, put_item, put_value, replacing, space_for, spaced_key}
use Rattle.yq_flow_edits.{specs.Valued.IsValueTree, proofs.EditLaws.around_is, proofs.EditSpans.{EditIsSpan, replace_spans}}
use Rattle.yq_flow_edits.{proofs.PlacedEdits.replace_placed, proofs.ValueEdits.{change_last, scalar_replaced, value_replaced}}
use Rattle.yq_flow_edits.{proofs.ValueFits.scalar_block, proofs.ItemPlaces.item_rest}
use Rattle.yq_row_table.specs.Rows.{Cut, cut_text}
use Rattle.yq_documents.{specs.Documents.{EachHasFitKeys, HasFitKey, HasFitKeys, lead_of}, specs.TreeEdits.replaced_node}
use Rattle.yq_documents.specs.Reading.{documents, read_at, root_of}
use Rattle.yq_places.{specs.FlowNodes.flow_collection, specs.FlowViews.LeadsToHead, proofs.FlowPieces.{named_is, none_anchored}}
use Rattle.yq_places.specs.Placements.{FlowPart, last_step}
use Rattle.yq_edit_rules.{proofs.CommentPieceLaws.byte_then, proofs.TextPieceLaws.nothing, specs.FlowRows.FlowAt, specs.Rooms.is_block_root}
use Rattle.yq_edit_rules.{specs.SoundRoots.IsSoundRoot, specs.TextPieces.IsPiece, proofs.FlowKeptLaws.flow_keys}
use Rattle.yq_edit_rules.{proofs.PartLaws.document_known, proofs.SoundRootLaws.replace_keeps}
use Rattle.yq_edit_rules.specs.EditLaws.{CarriedOut, FlowValuesArePut, IsEdit}
use Rattle.yq_edit_rules.{specs.FlowParts.{content_written, flow_put, flow_segments, flow_value}, specs.Style.style_in}
use Rattle.yq_edit_rules.{proofs.EditsFitLaws.{FitsReplace, fits_replace}, proofs.FlowWritten.flow_fits, proofs.KeptLaws.led_same}
use Rattle.yq_edit_rules.{proofs.ValueTexts.style_line, proofs.StyleLaws.{style_inline, style_writes}}
use Rattle.yq_edit_rules.proofs.ValueNodes.{flow_piece, scalar_is}
use Rattle.yq_semantics.{specs.Changes.has_long_key, specs.Fits.Fits, specs.Operations.replace, specs.Rooms.room_of}
use Rattle.yq_edit_laws.{specs.PartPuts.{EndsAsIn, IsPartOf}, proofs.FlowPieceLaws.edit_pieces, proofs.FlowSoundLaws.last_is}
use Rattle.yq_edit_laws.proofs.FlowPlacements.{EntryAt, entry_found, entry_placed}
use Rattle.yq_edit_laws.proofs.FlowEditLaws.{FlowCarried, before_is, flow_carried, made_cut, made_reads, segments_old}
use Rattle.yq_edit_laws.{proofs.FlowWholeLaws.{IsPlacedBefore, replaced_is_there}, proofs.LaterParts.later_part}
use Rattle.yq_edit_laws.{proofs.LaterCuts.{end_after, part_after, slot}, proofs.LaterEnds.later_end}
use Rattle.yq_core.specs.Tree as tree
use Rattle.yq_core.specs.Nodes as inline
use Rattle.yq_edit_rules.proofs.FlowStayLaws as stay
use Rattle.yq_edit_laws.proofs.FlowPlacements as placement

-- ---- what is written of a value

abbrev style_there : List ℕ → ScalarText → Rattle.yq_core.specs.declared.style.Style.Style
style_there old s = style_in Flow s (scalar_style old)

value_edited : (x : CollAt) (s : Step) (y : EntryPieces) (old : List ℕ) (v : tree.Node) → IsCollAt x → item_in s x ≡ Some y → IsValueTree v → depth v ≤ room_in x →
    IsFlowEdited x (replacing s y (flow_value old v) x.coll) (changed_at (x.steps ++ (s ∷ [])) (put_value v))
value_edited x s y old (tree.alias name) h at v deep = absurd v
value_edited x s y old (tree.scalar a kind t) h at v deep =
    let z : ScalarText = record { kind = kind; text = t } in
    let e = replacing s y (flow_value old (tree.scalar a kind t)) x.coll in
    let with_anchor_name : scalar_node z ≡ tree.scalar a kind t = ap (λ (b : Option (List ℕ)). tree.scalar b kind t) (sym v.0) in
    subst (λ (n : tree.Node). IsFlowEdited x e (changed_at (x.steps ++ (s ∷ [])) (put_value n))) with_anchor_name
    (scalar_replaced x s y z (style_there old z) h at v.1 (style_inline Flow z (scalar_style old) (style_line old)) (style_writes Flow z (scalar_style old)))
value_edited x s y old (tree.list a cs) h at v deep = value_replaced x s y (tree.list a cs) h at v deep
value_edited x s y old (tree.map a cs) h at v deep = value_replaced x s y (tree.map a cs) h at v deep

written_piece : (old : List ℕ) (v : tree.Node) → IsValueTree v → IsPiece (node_text (flow_value old v) [])
unfolding node_text
written_piece old (tree.alias name) v = absurd v
written_piece old (tree.scalar a kind t) v =
    let z : ScalarText = record { kind = kind; text = t } in
    let fits = style_inline Flow z (scalar_style old) (style_line old) in
    subst IsPiece (sym (append-nil _)) (scalar_is a kind t (style_there old z) v fits (scalar_block z (style_there old z) fits (style_writes Flow z (scalar_style old)))).1
written_piece old (tree.list a cs) v = flow_piece (tree.list a cs) v
written_piece old (tree.map a cs) v = flow_piece (tree.map a cs) v

-- ---- keys

value_keys : (old : List ℕ) (v : tree.Node) → has_long_key v ≡ false → HasFitKeys (flow_value old v)
value_keys old v h = search (rules, flow_fits)

spaced_fit : (key : Key) → HasFitKey key → HasFitKey (spaced_key key)
spaced_fit key h = search rules

put_fit : (s : Step) (m : inline.FlowNode) (is : Items) → HasFitKeys m → EachHasFitKeys is → EachHasFitKeys (put_item s m is)
put_fit s m none h k = tt
put_fit s m (item key n sep is) h k = search (rules, spaced_fit, cond_both, put_fit (further s) m is h k.2)

-- ---- the tree

put_is : (v old : tree.Node) → put_value v old ≡ replaced_node v old
put_is v old = search (rules, none_anchored, named_is)

-- the change at the last step of a path
step_change : (path init : List Step) (s : Step) (f : tree.Node → tree.Node) → last_step path ≡ Some (init, s) → changed_at init (within (change_child s f)) ≡ changed_at path f
step_change path init s f last = change_last init s f ∙ ap (λ (p : List Step). changed_at p f) (sym (last_is path init s last))

below_root : (block : Bool) (path init : List Step) (s : Step) → last_step path ≡ Some (init, s) → path ≡ [] → block ≡ false
below_root block path init s last none_left = absurd (none-some _ (ap last_step (sym none_left) ∙ last))

space_there : (n : inline.FlowNode) → IsPiece (space_for n)
space_there n = cond_both (is_empty_node n) (32 ∷ []) [] IsPiece (λ _. byte_then 32 [] refl nothing) (λ _. nothing)

-- ---- at an item or entry

module _ (c : Cut) (doc : ℕ) (path : List Step) (v : tree.Node) (read : read_at (cut_text c) ≡ Some c) (a : EntryAt c doc path) where
  abbrev pub at : FlowAt c doc a.init a.coll
  at = placement.at c doc a.init a.coll read a.found

  abbrev pub x : CollAt
  x = placement.x c doc a.init a.coll read a.found

  abbrev pub m : inline.FlowNode
  m = flow_value (content_written a.item.node) v

  abbrev pub e : FlowEdit
  e = replacing a.step a.item m a.coll

  pub is_located : IsCollAt x
  is_located = placement.is_located c doc a.init a.coll read a.found

  pub there : IsPlacedBefore (cut_text c) (e.old ++ e.after)
  there = subst (λ (t : List ℕ). IsPlacedBefore t (e.old ++ e.after)) (sym (placement.row_text c doc a.init a.coll read a.found).old)
      (replaced_is_there x (placement.row_text c doc a.init a.coll read a.found).before is_located a.step a.item a.at)

  pub bounds : IsCharBoundary (cut_text c) (length (cut_text c) - length (e.old ++ e.after)) × IsCharBoundary (cut_text c) (length (cut_text c) - length e.after)
  bounds =
      let p = placement.placed c doc a.init a.coll read a.found in
      let spans = entry_placed (cut_text c) a.step p.node p.rest a.coll a.item p.is a.at p.spans in
      let i = around_is x is_located in
      let is = items_hold i.inner_depth a.coll.close a.step a.coll.items a.coll.rest a.item i.items a.at in
      subst (EditIsSpan (cut_text c)) (replace_placed true (Some 0) i.inner_depth (length (cut_text c)) a.step a.item m a.coll is) (replace_spans (cut_text c) (locate (length (cut_text c)) a.item.node a.item.rest) spans)

  -- a value of which the operation fits
  module _ (h : IsValueTree v) (fits : Fits (room_of (cut_text c)) (replace doc path v) (documents c)) where
    fitting : FitsReplace doc path v c at.part
    fitting = fits_replace doc path v c at.part at.there h fits

    room : depth v ≤ room_in x
    room =
        let size : length path ≡ length a.init + 1 = ap length (last_is path a.init a.step a.last) ∙ length-append a.init (a.step ∷ []) in
        omega (arith, placement.fewer c doc a.init a.coll read a.found, fitting.may.value_is.nested, size)

    pub edited : IsFlowEdited x e (changed_at at.rest (within (change_child a.step (replaced_node v))))
    edited =
        let same : changed_at (at.rest ++ (a.step ∷ [])) (put_value v) ≡ changed_at at.rest (within (change_child a.step (replaced_node v))) =
        ap (changed_at (at.rest ++ (a.step ∷ []))) (λ i n. put_is v n i) ∙ sym (change_last at.rest a.step (replaced_node v)) in
        subst (IsFlowEdited x e) same (value_edited x a.step a.item (content_written a.item.node) v is_located a.at h room)

    sound : IsSoundRoot (changed_at a.init (within (change_child a.step (replaced_node v))) (root_of at.part))
    sound =
        let known = document_known (cut_text c) c doc at.part (placement.old c doc a.init a.coll read a.found) in
        let old : IsSoundRoot (root_of at.part) = record { unique = known.document.unique; nested = known.document.nested; bound = known.document.bound } in
        subst (λ (f : tree.Node → tree.Node). IsSoundRoot (f (root_of at.part))) (sym (step_change path a.init a.step (replaced_node v) a.last))
        (replace_keeps path (root_of at.part) fitting.node v old fitting.there fitting.may)

    done : FlowCarried (replace doc path v) c a.init a.coll at e (change_child a.step (replaced_node v))
    done =
        let p = placement.piece c doc a.init a.coll read a.found in
        let parts = edit_pieces (cut_text c) there.before e p there.text bounds.0 bounds.1 there.whole in
        record {
          edited = edited;
          keys = flow_keys (cut_text c) c doc at.part a.init at.line at.rest at.row a.coll e.gap e.items
              (placement.old c doc a.init a.coll read a.found) at.at
              (put_fit a.step m a.coll.items (value_keys (content_written a.item.node) v fitting.long));
          sound = sound;
          root =
              ap (λ (f : tree.Node → tree.Node). f (root_of at.part)) (step_change path a.init a.step (replaced_node v) a.last)
              ∙ ap (λ n. changed_at path (replaced_node n) (root_of at.part)) (sym (led_same (is_block_root at.part) (lead_of at.part) path v (below_root (is_block_root at.part) path a.init a.step a.last)));
          pieces = (subst IsPiece (sym (before_is (cut_text c) there.before (e.old ++ e.after) there.text)) parts.0, (space_there (without_anchor a.item.node), (written_piece (content_written a.item.node) v h, (parts.1, tt))));
          stays = omega (arith, (around_is x is_located).longer, item_rest a.coll.close a.step a.coll.items a.coll.rest a.item a.at);
        }

    pub replaced_carried : length (new_text (flow_segments (cut_text c) e)) ≤ text_limit → CarriedOut (replace doc path v) c (flow_segments (cut_text c) e)
    replaced_carried size = flow_carried (replace doc path v) c a.init a.coll at e (change_child a.step (replaced_node v)) read done size

    -- the cut as which that reads
    pub replaced_reads : length (new_text (flow_segments (cut_text c) e)) ≤ text_limit → read_at (new_text (flow_segments (cut_text c) e)) ≡ Some (made_cut (replace doc path v) c a.init a.coll at e)
    replaced_reads size = made_reads (replace doc path v) c a.init a.coll at e (change_child a.step (replaced_node v)) read done size

  -- After it the steps to the head lead there still, and the later parts of its collections are as they were.
  module _ (stem left : List Step) (init : a.init ≡ stem ++ left) (h : LeadsToHead c doc stem) where
    abbrev items : Items
    items = put_item a.step m a.coll.items

    abbrev pub next : Cut
    next = made_cut (replace doc path v) c a.init a.coll at e

    pub head_after : LeadsToHead next doc stem
    head_after = stay.head_after c doc a.init a.coll at a.coll.gap items stem left init h

    abbrev own : EntryPieces
    own = slot c doc a.init a.coll at a.coll.gap items stem left init h

    pub following_part : (ss : List Step) (r : Step) (z : EntryPieces) → IsPartOf c doc (stem ++ ss) r z → length z.rest < length a.item.rest →
        length (node_text (without_anchor z.node) z.rest) ≤ length a.item.rest → IsPartOf next doc (stem ++ ss) r z
    following_part ss r z part less begins =
        part_after c doc a.init a.coll at a.coll.gap items stem left init h ss r z part (λ before. later_part at.rest (ss ++ (r ∷ [])) a.step m own a.coll a.item z at.at.along a.at before less begins)

    -- and so are the ends of later collections
    pub following_end : (ss : List Step) (z : CollPieces) → flow_collection doc (stem ++ ss) c ≡ Some z → length (after_appended z) ≤ length a.item.rest → EndsAsIn z next doc (stem ++ ss)
    following_end ss z found after =
        end_after c doc a.init a.coll at a.coll.gap items stem left init h ss z found (λ before. later_end a.step m a.coll a.item a.at at.rest ss own z at.at.along before after)

-- Replace: a value put in the place of a content of a flow collection.
pub flow_values_put : FlowValuesArePut
flow_values_put n steps v c y read there_is new =
    let a = entry_found c n steps y there_is in
    let w = there c n steps v read a.0 in
    subst (λ (z : FlowPart). IsEdit (replace n steps v) c (flow_put (cut_text c) v z)) a.1
    (record {
      old = segments_old (cut_text c) w.before (e c n steps v read a.0) w.text;
      carried =
          λ h fits size. replaced_carried c n steps v read a.0 h fits size;
    })
