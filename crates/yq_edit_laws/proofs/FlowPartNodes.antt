-- What is at a path that leads to an item or entry of a flow collection: its node, and nothing outside flow collections.
use Rattle.std.proofs.lemmas.Grind.{common_steps}
use Rattle.std.proofs.Common.{arith, rules, ◌≡◌, ℕ, ◌+◌, List, [], ◌∷◌, ◌++◌, length, Option, Some, None, option_map, sym, ap, ◌∙◌, subst}
use Rattle.std.{proofs.lemmas.Option.{none-some, same_Some, slice_get-map}, specs.List.slice_get, specs.Prelude.option_and_then}
use Rattle.yq_core.{specs.Answers.◌>>=◌, specs.Paths.{Step, child_at, node_at}, specs.Tree.children_of, proofs.Bools.bind_some}
use Rattle.yq_core.{specs.Collections.{CollPieces, coll_along}, specs.Entries.{EntryPieces, path_inside, item_at}, specs.Nodes.FlowNode}
use Rattle.yq_core.specs.Trees.{tree_of}
use Rattle.yq_outline.{specs.Group.level_or, specs.Outline.{Outline, IsEven, level, row, anchored, head_or, value}}
use Rattle.yq_outline.{specs.Places.{FoundLine, content_under, lines_before}, proofs.Finding.{FoundNode, node-anchored, path_node}}
use Rattle.yq_outline.{proofs.Plug.allows_from, specs.Lines.{content_anchor, head_of}}
use Rattle.yq_row_table.{specs.Exchange.after_row, specs.Rows.{Content, Inline, Part, Cut, cut_text}}
use Rattle.yq_documents.{specs.Documents.document_parts, specs.Reading.{part_outline, read_at}}
use Rattle.yq_documents.specs.LinesInRows.{RowLine, document_row, row_line, row_line_of}
use Rattle.yq_places.{specs.FlowNodes.{content_flow, find_head}, specs.NodesAt.node_in, specs.PlacedRows.{PlacedPart, placed_document}}
use Rattle.yq_places.{specs.Placements.{entry_rows_at, entry_placement, last_step, placement_at}, proofs.FlowPieces.head_tree}
use Rattle.yq_places.proofs.PlacedRowLaws.{document_placed, part_of}
use Rattle.yq_edit_rules.{proofs.FlowLineLaws.{head_takes, head_whole}, proofs.PartLaws.document_known, proofs.PathLaws.found_at}
use Rattle.yq_edit_laws.{proofs.FlowHeldLines.{head_row, head_there}, proofs.FlowHeldNodes.{entry_tree, inside_child, kids_held}}
use Rattle.yq_edit_laws.{proofs.FlowSoundLaws.last_is, proofs.FlowPlacements.{EntryAt, coll_entry}, proofs.StepsOn.head_on}
use Rattle.yq_core.specs.Tree as tree

-- ---- in an inline node

one_node : (o : Option tree.Node) → option_and_then (node_at []) o ≡ o
one_node o = search rules

-- a step into a node leads to the item or entry there
child_is : (s : Step) (node : FlowNode) (rest : List ℕ) → child_at s (children_of (tree_of node)) ≡ option_map entry_tree (path_inside s node rest)
child_is s node rest = ap (child_at s) (kids_held (tree_of node)) ∙ sym (inside_child s node rest)

-- one step more than those to a collection leads to its item or entry
coll_node : (ss : List Step) (s : Step) (node : FlowNode) (rest : List ℕ) (w : CollPieces) → coll_along ss node rest ≡ Some w → node_at (ss ++ (s ∷ [])) (tree_of node) ≡ option_map entry_tree (item_at w.close s w.items w.rest)
coll_node [] s node rest w e = one_node (child_at s (children_of (tree_of node))) ∙ (child_is s node rest ∙ ap (option_map entry_tree) (coll_entry s node rest w e))
coll_node (t ∷ ss) s node rest w e = ap (option_and_then (node_at (ss ++ (s ∷ [])))) (child_is t node rest) ∙ go (path_inside t node rest) e (λ y at. coll_node ss s y.node y.rest w at)
  where
    go : (o : Option EntryPieces) → option_and_then (λ (y : EntryPieces). coll_along ss y.node y.rest) o ≡ Some w →
        ((y : EntryPieces) → coll_along ss y.node y.rest ≡ Some w → node_at (ss ++ (s ∷ [])) (entry_tree y) ≡ option_map entry_tree (item_at w.close s w.items w.rest)) →
        option_and_then (node_at (ss ++ (s ∷ []))) (option_map entry_tree o) ≡ option_map entry_tree (item_at w.close s w.items w.rest)
    go None e again = absurd (none-some _ e)
    go (Some y) e again = again y e

-- an anchor changes nothing of what is in a node
drop_anchor : (a : Option (List ℕ)) (ss : List Step) (s : Step) (n : tree.Node) → node_at (ss ++ (s ∷ [])) (anchored a n) ≡ node_at (ss ++ (s ∷ [])) n
drop_anchor a [] s n = node-anchored a s [] n
drop_anchor a (t ∷ ss) s n = node-anchored a t (ss ++ (s ∷ [])) n

-- the same in the content of a row
content_node : (x : Content) (h : tree.Node) (ss : List Step) (s : Step) (after : List ℕ) (w : CollPieces) → head_of x ≡ Some h → content_flow ss x after ≡ Some w →
    node_at (ss ++ (s ∷ [])) (anchored (content_anchor x) h) ≡ option_map entry_tree (item_at w.close s w.items w.rest)
content_node (Inline space node tail) h ss s after w head e =
    let n = head_tree node h head in
    drop_anchor (content_anchor (Inline space node tail)) ss s h
    ∙ (sym (drop_anchor n.0 ss s h) ∙ (ap (node_at (ss ++ (s ∷ []))) (sym n.1) ∙ coll_node ss s node (tail ++ after) w e))
content_node _ h ss s after w head e = absurd (none-some _ e)

-- ---- in a document

-- The line in whose head a flow collection at a path is.
pub record LineAt (c : Cut) (n : ℕ) (steps : List Step) (w : CollPieces) : Type 0 where
  pub part : Part
  pub there : slice_get (document_parts c) n ≡ Some part
  pub line : FoundLine × List Step
  pub found : find_head steps (part_outline part) ≡ Some line
  pub row_line_is : RowLine
  pub printed_line : row_line (length (lines_before line.0.place)) part.rows ≡ Some row_line_is
  pub flow : content_flow line.1 row_line_is.row.content (after_row (document_row n c + row_line_is.before) c) ≡ Some w

pub line_at : (c : Cut) (n : ℕ) (steps : List Step) (w : CollPieces) → Rattle.yq_places.specs.FlowNodes.flow_collection n steps c ≡ Some w → LineAt c n steps w
line_at c n steps w e =
    let d = bind_some (slice_get (document_parts c) n) e in
    let x = bind_some (find_head steps (part_outline d.0)) d.2 in
    let s = bind_some (row_line (length (lines_before x.0.0.place)) d.0.rows) x.2 in
    record { part = d.0; there = d.1; line = x.0; found = x.1; row_line_is = s.0; printed_line = s.1; flow = s.2 }

-- what is in the row of that line, and the head there, which with what is under the line makes its node
pub line_head : (c : Cut) (n : ℕ) (steps : List Step) (w : CollPieces) (h : LineAt c n steps w) → read_at (cut_text c) ≡ Some c →
    (x : Content) × (m : tree.Node) × (head_of x ≡ Some m) × (content_flow h.line.1 x (after_row (document_row n c + h.row_line_is.before) c) ≡ Some w) ×
    (anchored (content_anchor x) m ≡ content_under h.line.0.line h.line.0.under)
line_head c n steps w h read =
    let o : Outline = part_outline h.part in
    let f : FoundLine = h.line.0 in
    let known = document_known (cut_text c) c n h.part (record { read = read; there = h.there }) in
    let m : ℕ = level_or 0 o in
    let r = head_row m h.part steps f h.line.1 known.even h.found in
    let even : IsEven (level f.line) (row f.line f.under f.after) =
    (allows_from m f.place f.line f.under f.after (subst (IsEven m) (sym (head_whole m o steps f h.line.1 known.even h.found)) known.even)).1 in
    let head = head_there f (head_takes m o steps f h.line.1 known.even h.found) even.2 in
    let same : r.row_line_is ≡ h.row_line_is = same_Some _ _ (sym r.there ∙ h.printed_line) in (
      r.row_line_is.row.content,
      head.0,
      r.head ∙ head.1,
      ap (λ (z : RowLine). content_flow h.line.1 z.row.content (after_row (document_row n c + h.row_line_is.before) c)) same ∙ h.flow,
      (λ i. anchored (r.anchor i) (head_or (sym head.1 i) (value f.under))),
    )

-- the node at a path is the one that its line means
node_found : (steps : List Step) (s : Step) (o : Outline) → node_at (steps ++ (s ∷ [])) (value o) ≡ FoundNode (found_at (steps ++ (s ∷ [])) o)
node_found [] s o = path_node s [] o
node_found (t ∷ ts) s o = path_node t (ts ++ (s ∷ [])) o

line_node : (c : Cut) (n : ℕ) (steps : List Step) (s : Step) (w : CollPieces) (h : LineAt c n steps w) → read_at (cut_text c) ≡ Some c →
    node_at (steps ++ (s ∷ [])) (value (part_outline h.part)) ≡ option_map entry_tree (item_at w.close s w.items w.rest)
line_node c n steps s w h read =
    let x = line_head c n steps w h read in
    node_found steps s (part_outline h.part)
    ∙ (ap FoundNode (head_on steps s (part_outline h.part) h.line h.found)
    ∙ (ap (node_at (h.line.1 ++ (s ∷ []))) (sym x.4) ∙ content_node x.0 x.1 h.line.1 s _ w x.2 x.3))

-- ---- nothing outside flow collections

none_seat : (path : List Step) (s : Step) (p : Part) (y : FoundLine × List Step) → found_at path (part_outline p) ≡ Some (y.0, y.1 ++ (s ∷ [])) → row_line_of path p.rows ≡ None
none_seat path s p y e = grind (arith, common_steps)

none_placed : (n : ℕ) (path : List Step) (c : Cut) (x : List Step × Step) → last_step path ≡ Some x → ((d : PlacedPart) → placed_document n c ≡ Some d → row_line_of path d.part.rows ≡ None) → placement_at n path c ≡ None
none_placed n [] c x last h = absurd (none-some _ last)
none_placed n (t ∷ ts) c x last h = go (placed_document n c) h
  where
    go : (o : Option PlacedPart) → ((d : PlacedPart) → o ≡ Some d → row_line_of (t ∷ ts) d.part.rows ≡ None) → option_map entry_placement (o >>= λ d. option_map (entry_rows_at d) (row_line_of (t ∷ ts) d.part.rows)) ≡ None
    go o h = search rules

-- ---- at a path

module _ (c : Cut) (n : ℕ) (path : List Step) (a : EntryAt c n path) where
  line : LineAt c n a.init a.coll
  line = line_at c n a.init a.coll a.found

  path_is : path ≡ a.init ++ (a.step ∷ [])
  path_is = last_is path a.init a.step a.last

  -- the node there
  pub part_node : read_at (cut_text c) ≡ Some c → node_in n path c ≡ Some (tree_of a.item.node)
  part_node read = search (rules, slice_get-map, line.there, path_is, line_node, a.coll, read, entry_tree, a.at)

  -- nothing is there outside flow collections
  pub none_there : placement_at n path c ≡ None
  none_there = none_placed n path c (a.init, a.step) a.last (λ d is.
      let same : d.part ≡ line.part = same_Some _ _ (ap part_of (sym is) ∙ (sym (document_placed n c) ∙ line.there)) in
      none_seat path a.step d.part line.line
      (ap (λ (ss : List Step). found_at ss (part_outline d.part)) path_is
      ∙ (ap (λ (q : Part). found_at (a.init ++ (a.step ∷ [])) (part_outline q)) same
      ∙ head_on a.init a.step (part_outline line.part) line.line line.found)))
