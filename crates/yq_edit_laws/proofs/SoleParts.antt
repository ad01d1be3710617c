-- A sole item or entry of a flow collection that is an item or entry itself: that it is removed is that an empty collection replaces its own.
use Rattle.std.proofs.lemmas.Grind.{common_steps}
use Rattle.std.proofs.Common.{rules, ◌≡◌, ℕ, ◌+◌, false, List, [], ◌∷◌, ◌++◌, length, Option, Some, None, option_map, refl, sym, ap, ◌∙◌}
use Rattle.std.{proofs.Common.{subst, arith}, proofs.lemmas.Bool.ltb-false, proofs.lemmas.Option.{none-some, same_Some}}
use Rattle.std.specs.Prelude.{nat_lt, option_and_then}
use Rattle.yq_core.{specs.Answers.◌>>=◌, specs.Collections.{CollPieces, coll_along, coll_in}, specs.Entries.{EntryPieces, item_at}}
use Rattle.yq_core.{specs.Nodes.{FlowNode, Items, none, item, coll, anchored}, specs.Paths.Step, specs.Tree.{Children, Node, children_of}}
use Rattle.yq_core.specs.Trees.{items_tree, tree_of, with_name}
use Rattle.yq_flow_edits.specs.Removals.{removing, removing_from}
use Rattle.yq_outline.{specs.Counts.count, specs.Outline.Outline, specs.Places.{FoundLine, lines_before}}
use Rattle.yq_row_table.{specs.Exchange.after_row, specs.Rows.{Content, Inline, Cut, cut_text}}
use Rattle.yq_documents.{specs.Documents.Document, specs.LinesInRows.{RowLine, document_row}, proofs.ReadLaws.parts_read}
use Rattle.yq_documents.specs.Reading.{documents, part_outline, read_at}
use Rattle.yq_places.specs.FlowNodes.{content_flow, find_head, flow_collection, head_line, line_collection, part_collection}
use Rattle.yq_places.{specs.RemovalPlaces.{has_others_at, has_several}, specs.Placements.last_step}
use Rattle.yq_semantics.{specs.Fits.Fits, specs.Operations.{remove, replace}, specs.Rooms.room_of}
use Rattle.yq_edit_rules.{proofs.RemovalChangeLaws.take_init, specs.FlowParts.{flow_removed, flow_segments}}
use Rattle.yq_edit_rules.{specs.Edits.{empty_collection, op_edits, part_removed, replace_segments, sole_removed}, proofs.PathLaws.found_at}
use Rattle.yq_edit_laws.{proofs.FlowPartNodes.{LineAt, line_at, part_node}, proofs.FlowSoundLaws.last_is}
use Rattle.yq_edit_laws.{proofs.FlowPlacements.{EntryAt, coll_entry}, proofs.SoleLaws.sole_fits, proofs.StepsOn.head_on}
use Rattle.yq_edit_laws.{specs.Carried.carried, specs.Theorems.IsFitting}
use Rattle.yq_core.specs.Tree as tree

-- ---- the collection that an item or entry is

along_on : (ss : List Step) (s : Step) (node : FlowNode) (rest : List ℕ) (w : CollPieces) (y : EntryPieces) → coll_along ss node rest ≡ Some w →
    item_at w.close s w.items w.rest ≡ Some y → coll_along (ss ++ (s ∷ [])) node rest ≡ coll_in y.node y.rest
along_on [] s node rest w y found at = ap (option_and_then (λ (z : EntryPieces). coll_in z.node z.rest)) (coll_entry s node rest w found ∙ at)
along_on (t ∷ ss) s node rest w y found at = search (rules, none-some, along_on ss s)

content_on : (x : Content) (ss : List Step) (s : Step) (after : List ℕ) (w : CollPieces) (y : EntryPieces) → content_flow ss x after ≡ Some w →
    item_at w.close s w.items w.rest ≡ Some y → content_flow (ss ++ (s ∷ [])) x after ≡ coll_in y.node y.rest
content_on (Inline space node tail) ss s after w y e at = along_on ss s node (tail ++ after) w y e at
content_on _ ss s after w y e at = absurd (none-some _ e)

head_again : (f : FoundLine) (ss : List Step) (s : Step) → head_line f (ss ++ (s ∷ [])) ≡ Some (f, ss ++ (s ∷ []))
head_again f [] s = refl
head_again f (t ∷ ss) s = refl

find_on : (steps : List Step) (s : Step) (o : Outline) (y : FoundLine × List Step) → find_head steps o ≡ Some y → find_head (steps ++ (s ∷ [])) o ≡ Some (y.0, y.1 ++ (s ∷ []))
find_on steps s o y e = go steps (head_on steps s o y e)
  where
    go : (ss : List Step) → found_at (ss ++ (s ∷ [])) o ≡ Some (y.0, y.1 ++ (s ∷ [])) → find_head (ss ++ (s ∷ [])) o ≡ Some (y.0, y.1 ++ (s ∷ []))
    go [] h = ap (λ (r : Option (FoundLine × List Step)). r >>= λ x. head_line x.0 x.1) h ∙ head_again y.0 y.1 s
    go (t ∷ ts) h = ap (λ (r : Option (FoundLine × List Step)). r >>= λ x. head_line x.0 x.1) h ∙ head_again y.0 y.1 s

collection_on : (c : Cut) (n : ℕ) (path : List Step) (a : EntryAt c n path) → flow_collection n path c ≡ coll_in a.item.node a.item.rest
collection_on c n path a =
    let h : LineAt c n a.init a.coll = line_at c n a.init a.coll a.found in
    let k : ℕ = document_row n c in
    let steps : List Step = a.init ++ (a.step ∷ []) in
    ap (λ (ss : List Step). flow_collection n ss c) (last_is path a.init a.step a.last)
    ∙ (ap (λ o. o >>= part_collection k c steps) h.there
    ∙ (ap (λ (o : Option (FoundLine × List Step)). o >>= λ x. line_collection k c h.part.rows (length (lines_before x.0.place)) x.1) (find_on a.init a.step (part_outline h.part) h.line h.found)
    ∙ (ap (λ (o : Option RowLine). o >>= λ r. content_flow (h.line.1 ++ (a.step ∷ [])) r.row.content (after_row (k + r.before) c)) h.printed_line
    ∙ content_on h.row_line_is.row.content h.line.1 a.step (after_row (k + h.row_line_is.before) c) a.coll a.item h.flow a.at)))

-- ---- a sole one isn't taken out of the others

sole_items : (k : ℕ) (rest : List ℕ) (s : Step) (g : List ℕ) (is : Items) → nat_lt 1 (count (items_tree is)) ≡ false → removing_from k rest s g is ≡ None
unfolding items_tree
sole_items k rest s g none few = refl
sole_items k rest s g (item key n sep none) few = grind (arith, common_steps)
sole_items k rest s g (item key n sep (item key2 n2 sep2 is)) few = absurd (omega (arith, ltb-false 1 (count (items_tree (item key n sep (item key2 n2 sep2 is)))) few))

pub named_children : (a : List ℕ) (n : Node) → children_of (with_name a n) ≡ children_of n
named_children a (tree.alias name) = refl
named_children a _ = refl

sole_node : (node : FlowNode) (rest : List ℕ) (w : CollPieces) (s : Step) → nat_lt 1 (count (children_of (tree_of node))) ≡ false → coll_in node rest ≡ Some w → removing s w ≡ None
unfolding tree_of
sole_node (coll k gap is) rest w s few e = grind (arith, common_steps, same_Some, sole_items)
sole_node (anchored n gap node) rest w s few e = sole_node node rest w s (ap (λ (cs : Children). nat_lt 1 (count cs)) (sym (named_children n (tree_of node))) ∙ few) e
sole_node _ rest w s few e = absurd (none-some _ e)

-- ---- the operation

-- a collection has no more than one item or entry, and is of the kind of an empty one
abbrev pub IsEmptiedBy : (v old : Node) → Type 0
IsEmptiedBy v old = (empty_collection old ≡ Some v) × (has_several (Some old) ≡ false)

pub last_of : (path : List Step) (s : Step) → last_step (path ++ (s ∷ [])) ≡ Some (path, s)
last_of (t ∷ (u ∷ ss)) s = ap (option_map (λ (y : List Step × Step). (t ∷ y.0, y.1))) (last_of (u ∷ ss) s)
last_of _ s = refl

module _ (d : Cut) (n : ℕ) (path : List Step) (s : Step) (v : Node) (read : read_at (cut_text d) ≡ Some d) (a : EntryAt d n path) (h : IsEmptiedBy v (tree_of a.item.node)) where
  abbrev gone : List Step
  gone = path ++ (s ∷ [])

  others : has_others_at n gone d ≡ false
  others = (λ i. has_several (slice_document >>= λ (x : Document). Rattle.yq_core.specs.Paths.node_at (take_init path s i) x.root)) ∙ (ap has_several (part_node d n path a read) ∙ h.1)
    where
      slice_document : Option Document
      slice_document = Rattle.std.specs.List.slice_get (documents d) n

  no_part : part_removed n d (last_step gone) ≡ None
  no_part = ap (part_removed n d) (last_of path s) ∙ (ap (λ (o : Option CollPieces). o >>= flow_removed (cut_text d) s) (collection_on d n path a) ∙ go (coll_in a.item.node a.item.rest) refl)
    where
      go : (o : Option CollPieces) → coll_in a.item.node a.item.rest ≡ o → (o >>= flow_removed (cut_text d) s) ≡ None
      go None e = refl
      go (Some w) e = ap (option_map (flow_segments (cut_text d))) (sole_node a.item.node a.item.rest w s h.1 e)

  sole : sole_removed n d (last_step gone) ≡ replace_segments n path v d
  sole = search (rules, last_of, part_node, read, h.0)

  same_edits : op_edits (remove n gone) d ≡ op_edits (replace n path v) d
  same_edits = simp (no_part, others, sole) refl

  -- what a removal of it comes to
  pub sole_comes : carried (remove n gone) (cut_text d) ≡ carried (replace n path v) (cut_text d)
  sole_comes = search (rules, read, same_edits)

  pub sole_fitting : IsFitting (remove n gone) (cut_text d) → IsFitting (replace n path v) (cut_text d)
  sole_fitting f =
      let is = parts_read (cut_text d) f.before f.read in
      let same : documents d ≡ f.before = ap documents (same_Some _ _ (sym read ∙ is.0)) ∙ is.1 in
      record {
        before = f.before;
        read = f.read;
        fits =
            subst (Fits (room_of (cut_text d)) (replace n path v)) same
            (sole_fits n path s v (tree_of a.item.node) d read others (part_node d n path a read) h.0 (subst (Fits (room_of (cut_text d)) (remove n gone)) (sym same) f.fits));
      }
