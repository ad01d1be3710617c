-- Where a node is, something is.
use Rattle.std.proofs.Common.{rules, ◌≡◌, ◌⊎◌, inl, inr, ltb, ℕ, true, false, List, [], ◌∷◌, ◌++◌, length, Option, Some, option_map}
use Rattle.std.{proofs.Common.{option_and_then, refl, sym, ap, ◌∙◌}, proofs.lemmas.Option.{none-some, same_Some}, specs.List.slice_get}
use Rattle.yq_core.{specs.Answers.◌>>=◌, specs.Paths.{Step, child_at, node_at}, specs.Tree.{Node, children_of}, proofs.Bools.bind_some}
use Rattle.yq_core.{specs.Collections.CollPieces, specs.Entries.{EntryPieces, item_at}, specs.Trees.items_tree}
use Rattle.yq_outline.{specs.Counts.count, specs.Ends.{found_line, line_at_steps}, specs.Outline.{Line, anchored, children, flatten, value}}
use Rattle.yq_outline.{specs.Places.{FoundLine, find, find_row, lines_after, lines_before}, proofs.ChildLaws.anchored_children}
use Rattle.yq_outline.{proofs.Finding.row_child, specs.Lines.lines_of_rows}
use Rattle.yq_row_table.specs.Rows.{Part, Cut, cut_text}
use Rattle.yq_documents.{specs.Documents.{Document, document_parts}, specs.Reading.{documents, part_outline, read_at, root_of}}
use Rattle.yq_documents.specs.LinesInRows.{row_line, row_line_of}
use Rattle.yq_places.{proofs.PlacedPartLaws.placed_is, specs.FlowNodes.find_head, specs.NodesAt.node_in, specs.PlacedRows.PlacedPart}
use Rattle.yq_places.specs.RemovalPlaces.{has_others_at, has_several}
use Rattle.yq_places.specs.Placements.{FlowPart, RowsOfEntry, entry_rows_at, flow_part, flow_placement, last_step, rows_of_entry}
use Rattle.yq_places.{specs.Placements.root_placement, proofs.FoundEntries.middle, proofs.RowPathLaws.found_lines}
use Rattle.yq_places.{proofs.DashLineLaws.row_line_found, proofs.PrintedTexts.map_some}
use Rattle.yq_edit_rules.{specs.Siblings.{IsCollectionAt, IsEntryAt, NodeLines}, specs.PlacementLaws.{EntriesOccur, RootsOccur}}
use Rattle.yq_edit_rules.{proofs.EditedLaws.lines_are_there, proofs.RemovalChangeLaws.{children-value, take_init}, proofs.PathLaws.found_at}
use Rattle.yq_edit_laws.{proofs.FlowHeldNodes.{collection_cases, FlowContent, entry_tree, held, item_child}, proofs.DocumentParts.PartOf}
use Rattle.yq_edit_laws.{proofs.EntryLines.entry_line, proofs.FlowHeldLines.flow_there, proofs.FlowSoundLaws.{above_is, last_is}}
use Rattle.yq_core.specs.Tree as tree
use Rattle.yq_edit_laws.proofs.DocumentParts as parts

-- ---- roots

pub roots_are_there : RootsOccur
roots_are_there n c p there = let d = placed_is n c p there in
    (root_placement d.0 d.0.part.rows, ap (option_map (λ (d : PlacedPart). root_placement d d.part.rows)) d.1)

-- ---- the rows of an item or entry

abbrev pub HasPlacedRows : ℕ → Step → List Step → Cut → Type 0
HasPlacedRows n s ss c = (e : RowsOfEntry) × (rows_of_entry n (s ∷ ss) c ≡ Some e)

-- those of a line to which steps lead, where none goes on in its head
pub rows_there : (n : ℕ) (s : Step) (ss : List Step) (c : Cut) (p : Part) → slice_get (document_parts c) n ≡ Some p → (f : FoundLine) → find s ss (part_outline p) ≡ Some (f, []) → HasPlacedRows n s ss c
rows_there n s ss c p there f found =
    let k : ℕ = length (lines_before f.place) in
    let number : line_at_steps (s ∷ ss) (lines_of_rows p.rows) ≡ Some k = ap (λ (o : Option (FoundLine × List Step)). option_and_then (λ x. found_line x.0 x.1) o) found in
    let rest : List Line = flatten f.under ++ (flatten f.after ++ lines_after f.place) in
    let line : slice_get (lines_of_rows p.rows) k ≡ Some f.line = ap (λ (ls : List Line). slice_get ls k) (found_lines (lines_of_rows p.rows) s ss [] f found) ∙ middle (lines_before f.place) rest f.line in
    let x = row_line_found p.rows k f.line line in
    let d = placed_is n c p there in
    let printed_line : row_line_of (s ∷ ss) d.0.part.rows ≡ Some x.0 = ap (λ (q : Part). row_line_of (s ∷ ss) q.rows) d.2 ∙ (ap (λ (o : Option ℕ). o >>= λ k. row_line k p.rows) number ∙ x.1) in (
      entry_rows_at d.0 x.0,
      ap (λ (o : Option PlacedPart). o >>= λ q. option_map (entry_rows_at q) (row_line_of (s ∷ ss) q.part.rows)) d.1 ∙ ap (option_map (entry_rows_at d.0)) printed_line,
    )

-- ---- a part of a flow collection

abbrev HasPart : ℕ → List Step → Cut → Type 0
HasPart n path c = (x : FlowPart) × (flow_placement n c (last_step path) ≡ Some x) × (has_others_at n path c ≡ ltb 1 (count (items_tree x.collection.items)))

-- a node with an item or entry is a collection
holds_child : (s : Step) (old n : Node) → child_at s (children_of old) ≡ Some n → (x : FlowContent) × (held old ≡ Some x) × (children_of old ≡ x.1)
holds_child s (tree.list anchor cs) n e = ((false, cs), refl, refl)
holds_child s (tree.map anchor cs) n e = ((true, cs), refl, refl)
holds_child s _ n e = absurd (none-some _ e)

-- A node in a document, the collection that holds it, and the last step to it.
record NodeIn (c : Cut) (n : ℕ) (path : List Step) (v : Node) : Type 0 where
  read : read_at (cut_text c) ≡ Some c
  part : Part
  there : slice_get (document_parts c) n ≡ Some part
  init : List Step
  step : Step
  last : last_step path ≡ Some (init, step)
  old : Node
  above : node_at init (root_of part) ≡ Some old
  node : node_in n init c ≡ Some old
  child : child_at step (children_of old) ≡ Some v

part_there : (c : Cut) (n : ℕ) (path : List Step) (v : Node) (h : NodeIn c n path v) (y : FoundLine × List Step) → find_head h.init (part_outline h.part) ≡ Some y → HasPart n path c
part_there c n path v h y found =
    let x = holds_child h.step h.old v h.child in
    let w = flow_there c n h.init x.0 (record { read = h.read; part = h.part; there = h.there; line = y.0; rest = y.1; found = found; at = (h.old, h.above, x.1) }) in
    let items : option_map entry_tree (item_at w.0.close h.step w.0.items w.0.rest) ≡ Some v = search (rules, item_child) in
    let item = map_some (item_at w.0.close h.step w.0.items w.0.rest) items in
    let g : EntryPieces → FlowPart = λ z. record { step = h.step; collection = w.0; part = z } in
    let others : has_others_at n path c ≡ ltb 1 (count (children_of h.old)) =
    ap (λ p. has_others_at n p c) (last_is path h.init h.step h.last)
    ∙ ((λ i. has_several (slice_get (documents c) n >>= λ (d : Document). node_at (take_init h.init h.step i) d.root)) ∙ ap has_several h.node) in (
      g item.0,
      ap (flow_placement n c) h.last ∙ (ap (λ (o : Option CollPieces). o >>= flow_part h.step) w.1 ∙ ap (option_map g) item.1),
      others ∙ ap (λ cs. ltb 1 (count cs)) (x.2 ∙ sym (ap (λ (z : FlowContent). z.1) w.2)),
    )

-- ---- an item or entry of a block collection

entry_there : (c : Cut) (n : ℕ) (path : List Step) (v : Node) (h : NodeIn c n path v) (b : NodeLines) → IsCollectionAt h.init (part_outline h.part) b → (f : FoundLine) × IsEntryAt h.init h.step (part_outline h.part) b f
entry_there c n path v h b at =
    let own : anchored b.anchor (value b.lines) ≡ h.old = same_Some _ _ (sym (lines_are_there h.init (part_outline h.part) b at.place_is) ∙ h.above) in
    let cs : children b.lines ≡ children_of h.old = sym (children-value b.lines at.block) ∙ (sym (anchored_children b.anchor (value b.lines)) ∙ ap children_of own) in
    let f = map_some (find_row h.step b.lines) (sym (row_child h.step b.lines) ∙ (ap (child_at h.step) cs ∙ h.child)) in
    (f.0, record { place_is = at.place_is; block = at.block; found = f.1 })

-- ---- any node below the root

-- a path that isn't the root's has a last step
pub last_there : (t : Step) (ts : List Step) → (x : List Step × Step) × (last_step (t ∷ ts) ≡ Some x)
last_there t [] = (([], t), refl)
last_there t (y ∷ ys) = let x = last_there y ys in ((t ∷ x.0.0, x.0.1), ap (option_map (λ (z : List Step × Step). (t ∷ z.0, z.1))) x.1)

pub entries_are_there : EntriesOccur
entries_are_there n s ss c v read at = let d = bind_some (slice_get (documents c) n) at in by d.0 d.1 d.2 (parts.part_of c n d.0 d.1)
  where
    node : (d : Document) → slice_get (documents c) n ≡ Some d → node_at (s ∷ ss) d.root ≡ Some v → PartOf c n d → NodeIn c n (s ∷ ss) v
    node d here is p =
        let l = last_there s ss in
        let there : node_at (l.0.0 ++ (l.0.1 ∷ [])) (root_of p.part) ≡ Some v = ap (λ (x : List Step). node_at x (root_of p.part)) (sym (last_is (s ∷ ss) l.0.0 l.0.1 l.1)) ∙ (ap (node_at (s ∷ ss)) (sym p.root) ∙ is) in
        let a = above_is l.0.0 l.0.1 (root_of p.part) v there in
        search rules

    cases : (h : NodeIn c n (s ∷ ss) v) → ((y : FoundLine × List Step) × (find_head h.init (part_outline h.part) ≡ Some y)) ⊎ ((b : NodeLines) × IsCollectionAt h.init (part_outline h.part) b) → HasPlacedRows n s ss c ⊎ HasPart n (s ∷ ss) c
    cases h (inl y) = inr (part_there c n (s ∷ ss) v h y.0 y.1)
    cases h (inr b) =
        let f = entry_there c n (s ∷ ss) v h b.0 b.1 in
        let g = entry_line h.init h.step (part_outline h.part) b.0 f.0 f.1 in
        inl (rows_there n s ss c h.part h.there g.0 (ap (λ (x : List Step). found_at x (part_outline h.part)) (last_is (s ∷ ss) h.init h.step h.last) ∙ g.1))

    by : (d : Document) → slice_get (documents c) n ≡ Some d → node_at (s ∷ ss) d.root ≡ Some v → PartOf c n d → HasPlacedRows n s ss c ⊎ HasPart n (s ∷ ss) c
    by d here is p = let h = node d here is p in let x = holds_child h.step h.old v h.child in cases h (collection_cases h.init (part_outline h.part) x.0 (h.old, h.above, x.1))
