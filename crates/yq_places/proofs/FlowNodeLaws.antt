-- The flow collection at a path is the one that the code finds in the head of a line.
use Rattle.std.proofs.Common.{rules, ◌≡◌, ℕ, ℤ, ◌+◌, true, false, not, List, [], ◌∷◌, ◌++◌, length, map, take, Option, Some, None}
use Rattle.std.{proofs.Common.{option_and_then, option_map, refl, sym, ap, ◌∙◌, subst, append-nil}, specs.List.slice_get}
use Rattle.yq_core.{specs.Answers.◌>>=◌, specs.Paths.{Step, further}, specs.Piece.deeper, specs.declared.style.Place.TheVariants.Block}
use Rattle.yq_core.specs.Collections.{CollAt, CollPieces, IsCollAt, coll_along, coll_in}
use Rattle.yq_core.specs.Entries.{EntryPieces, path_inside, item_at, tree_step}
use Rattle.yq_core.specs.Nodes.{Items, none, item, Key, FlowNode, empty, coll, anchored, node_text, is_empty_node, IsFlowNode}
use Rattle.yq_core.{specs.Nodes.without_anchor, specs.Inline.depth_limit}
use Rattle.yq_core.{specs.Places.{Placed, placed, nothing, text, anchored_node, locate}, specs.View.inline_view}
use Rattle.yq_core.proofs.NodesWrittenLaws.{items_append, node_then, sep_append}
use Rattle.yq_row_table.{specs.Exchange.after_row, specs.Grammar.{IsContent, IsCut}}
use Rattle.yq_row_table.specs.Rows.{Content, Nothing, Inline, Row, Part, Cut, parent_indent}
use Rattle.yq_row_table.{specs.View.{RowsView, anchor_cut, content_cut, rows_view, slices}, proofs.PlaceLaws.row_in}
use Rattle.yq_outline.{specs.Outline.Line, specs.Places.{lines_before, FoundLine}, specs.Lines.{tail_of, lines_of_rows}}
use Rattle.yq_outline.{specs.RowWalk.{IsLine, line_number}, specs.declared.line_position.Position.Position}
use Rattle.yq_outline.specs.declared.line_position.Stretch.{Stretch}
use Rattle.yq_documents.{specs.Documents.document_parts, specs.FlowReading.{alias_or_collection, content_core, row_flow}}
use Rattle.yq_documents.{specs.Reading.part_outline, specs.RowReading.from_head, specs.LinesInRows.{RowLine, document_row}}
use Rattle.yq_places.specs.FlowNodes.{content_flow, find_head, flow_collection, line_collection, part_collection}
use Rattle.yq_places.specs.FlowViews.{FlowAgrees, IsHeadFor, placed_collection, collection_along}
use Rattle.yq_places.{specs.NodeReading.{NodePlace, with_steps, node_place, place_line, head_line_of}, specs.RowWalk.InCut}
use Rattle.yq_places.{specs.declared.places.flow_node.FlowHead.FlowHead, proofs.FlowViewLaws.{collection_placed, head_found, numbered}}
use Rattle.yq_places.{proofs.HeadSteps.{HasStemAt, stem_at}, proofs.WalkDocuments.found_in_cut, proofs.RowHeads.row_alone}
use Rattle.yq_places.proofs.WalkNodes.{row_is, row_in_cut, row_line_is, before_is}
use Rattle.yq_row_table.specs.Rows as rows
use Rattle.yq_places.specs.FlowViews as views
use Rattle.yq_places.proofs.WalkDocuments as documents

-- ---- the head of a row

nothing_along : (total : ℕ) (rest : List ℕ) (ss : List Step) → collection_along ss (locate total empty rest) ≡ None
unfolding locate
nothing_along total rest [] = refl
nothing_along total rest (s ∷ ss) = refl

anchor_along : (ss : List Step) (n : List ℕ) (start : ℕ) (p : Placed) → collection_along ss (anchored_node n start p) ≡ collection_along ss p
anchor_along [] n start (placed a s c e f) = refl
anchor_along (t ∷ ss) n start (placed a s c e f) = refl

core_along : (total : ℕ) (node : FlowNode) (rest : List ℕ) (ss : List Step) → collection_along ss (locate total (without_anchor node) rest) ≡ collection_along ss (locate total node rest)
unfolding locate
core_along total (anchored n g node) rest ss = sym (anchor_along ss n _ (locate total node rest))
core_along total _ rest ss = refl

kept_along : (ss : List Step) (p : Placed) → (alias_or_collection p >>= collection_along ss) ≡ collection_along ss p
kept_along [] (placed a s c e nothing) = refl
kept_along (t ∷ ss) (placed a s c e nothing) = refl
kept_along _ _ = refl

row_along : (total : ℕ) (r : Row) (rest : List ℕ) (ss : List Step) → (row_flow total r rest >>= collection_along ss) ≡ option_map (placed_collection total) (content_flow ss r.content rest)
row_along total r rest ss = kept_along ss (locate total (content_core r.content) (tail_of r.content ++ rest)) ∙ go r.content
  where
    go : (x : Content) → collection_along ss (locate total (content_core x) (tail_of x ++ rest)) ≡ option_map (placed_collection total) (content_flow ss x rest)
    go x = search (rules, nothing_along, core_along, collection_placed)

-- ---- more text after

as_entry : Key → FlowNode → List ℕ → Option EntryPieces
as_entry key n rest = Some (record { key = key; node = n; rest = rest })

abbrev pub entry_more : List ℕ → EntryPieces → EntryPieces
entry_more more y = record { key = y.key; node = y.node; rest = y.rest ++ more }

pub item_more : (k : ℕ) (s : Step) (is : Items) (rest more : List ℕ) → item_at k s is (rest ++ more) ≡ option_map (entry_more more) (item_at k s is rest)
unfolding as_entry
item_more k s none rest more = refl
item_more k s (item key n sep is) rest more = search (rules, as_entry, items_append, sep_append, item_more k (further s) is rest more)

inside_more : (s : Step) (node : FlowNode) (rest more : List ℕ) → path_inside s node (rest ++ more) ≡ option_map (entry_more more) (path_inside s node rest)
inside_more s (coll k gap is) rest more = item_more k s is rest more
inside_more s (anchored n gap node) rest more = inside_more s node rest more
inside_more s _ rest more = refl

abbrev pub with_more : List ℕ → CollPieces → CollPieces
with_more more w = record { close = w.close; gap = w.gap; items = w.items; rest = w.rest ++ more }

coll_in_more : (node : FlowNode) (rest more : List ℕ) → coll_in node (rest ++ more) ≡ option_map (with_more more) (coll_in node rest)
coll_in_more (anchored n gap node) rest more = coll_in_more node rest more
coll_in_more _ rest more = refl

coll_more : (ss : List Step) (node : FlowNode) (rest more : List ℕ) → coll_along ss node (rest ++ more) ≡ option_map (with_more more) (coll_along ss node rest)
coll_more [] node rest more = coll_in_more node rest more
coll_more (s ∷ ss) node rest more = ap (option_and_then (λ (y : EntryPieces). coll_along ss y.node y.rest)) (inside_more s node rest more) ∙ go (path_inside s node rest) (λ y. coll_more ss y.node y.rest more)
  where
    go : (o : Option EntryPieces) → ((y : EntryPieces) → coll_along ss y.node (y.rest ++ more) ≡ option_map (with_more more) (coll_along ss y.node y.rest)) →
        option_and_then (λ (y : EntryPieces). coll_along ss y.node y.rest) (option_map (entry_more more) o) ≡ option_map (with_more more) (option_and_then (λ (y : EntryPieces). coll_along ss y.node y.rest) o)
    go o again = search rules

pub content_more : (ss : List Step) (x : Content) (rest : List ℕ) → content_flow ss x rest ≡ option_map (with_more rest) (content_flow ss x [])
content_more ss x rest = search (rules, coll_more, append-nil)

-- ---- the collection

-- the flow collection to which steps lead among rows, before which k rows of a cut are
abbrev pub rows_collection : ℕ → Cut → List Row → List Step → Option CollPieces
rows_collection k c rs steps = head_line_of steps (lines_of_rows rs) >>= λ x. line_collection k c rs x.0 x.1

pub no_collection : (k : ℕ) (c : Cut) (rs : List Row) (steps : List Step) → None ≡ head_line_of steps (lines_of_rows rs) → None ≡ rows_collection k c rs steps
no_collection k c rs steps e = ap (λ (o : Option (ℕ × List Step)). o >>= λ x. line_collection k c rs x.0 x.1) e

-- the collection in the head of a line, by its row
beside_agrees : (s : RowsView) (d : Stretch) (c : Cut) (k : InCut s d c) (q : Position) (at : IsLine s d q) (steps left : List Step) →
    head_line_of steps (lines_of_rows k.document.are_there.rows) ≡ Some (line_number d k.document.are_there.rows q, left) →
    rows_collection d.first c k.document.are_there.rows steps ≡ content_flow left (row_is s d c k q at).content (after_row q.row c)
beside_agrees s d c k q at steps left e =
    ap (λ (o : Option (ℕ × List Step)). o >>= λ x. line_collection d.first c k.document.are_there.rows x.0 x.1) e
    ∙ (ap (λ (o : Option RowLine). o >>= λ x. content_flow left x.row.content (after_row (d.first + x.before) c)) (row_line_is s d c k q at)
    ∙ ap (λ (i : ℕ). content_flow left (row_is s d c k q at).content (after_row i c)) (before_is s d c k q at))

-- the line in whose head it is
pub head_line_at : (ls : List Line) (steps left : List Step) (p : NodePlace) (o : Option ℕ) → Some (p, left) ≡ node_place steps ls → o ≡ place_line ls p → with_steps left o ≡ head_line_of steps ls
head_line_at ls steps left p o e found =
    ap (with_steps left) found ∙ ap (λ (x : Option (NodePlace × List Step)). x >>= λ y. with_steps y.1 (place_line ls y.0)) e

pub no_head_at : (ls : List Line) (steps : List Step) → None ≡ node_place steps ls → None ≡ head_line_of steps ls
no_head_at ls steps e = ap (λ (x : Option (NodePlace × List Step)). x >>= λ y. with_steps y.1 (place_line ls y.0)) e

part_collection_is : (k : ℕ) (c : Cut) (p : Part) (steps : List Step) → rows_collection k c p.rows steps ≡ part_collection k c steps p
part_collection_is k c p steps = ap (λ (o : Option (ℕ × List Step)). o >>= λ x. line_collection k c p.rows x.0 x.1) (sym (head_found (lines_of_rows p.rows) steps)) ∙ go (find_head steps (part_outline p))
  where
    go : (o : Option (FoundLine × List Step)) → (option_map numbered o >>= λ x. line_collection k c p.rows x.0 x.1) ≡ (o >>= λ x. line_collection k c p.rows (length (lines_before x.0.place)) x.1)
    go o = search rules

-- the collection in a document of a text
pub collection_is : (c : Cut) (n : ℕ) (steps : List Step) → (slice_get (document_parts c) n >>= λ p. rows_collection (document_row n c) c p.rows steps) ≡ flow_collection n steps c
collection_is c n steps = go (slice_get (document_parts c) n)
  where
    go : (o : Option Part) → (o >>= λ p. rows_collection (document_row n c) c p.rows steps) ≡ (o >>= part_collection (document_row n c) c steps)
    go o = search (rules, part_collection_is)

pub no_flow_agrees : (t : List ℕ) (all : Option CollPieces) → None ≡ all → FlowAgrees t all None
no_flow_agrees t all e = subst (λ (o : Option CollPieces). FlowAgrees t o None) e tt

-- ---- a collection in a row alone

pub core_coll : (ss : List Step) (node : FlowNode) (rest : List ℕ) → coll_along ss node rest ≡ coll_along ss (without_anchor node) rest
core_coll [] empty rest = refl
core_coll (s ∷ ss) empty rest = refl
core_coll _ _ rest = refl

pub core_valid : (spaces : Option ℕ) (node : FlowNode) (rest : List ℕ) → IsFlowNode false spaces depth_limit node rest → IsFlowNode false spaces depth_limit (without_anchor node) rest
unfolding IsFlowNode
core_valid spaces node rest h = search rules

some_bare : (ss : List Step) (node : FlowNode) (rest : List ℕ) (w : CollPieces) → coll_along ss node rest ≡ Some w → not (is_empty_node node) ≡ true
some_bare [] empty rest w e = absurd (cc)
some_bare (s ∷ ss) empty rest w e = absurd (cc)
some_bare ss _ rest w e = refl

pub core_text : (node : FlowNode) → (anchor_cut node).2 ≡ node_text (without_anchor node) []
unfolding node_text
core_text node = search rules

-- Steps lead to a collection in a text that is an inline node and what follows it.
record HasColl (t : List ℕ) (ss : List Step) (w : CollPieces) : Type 0 where
  pub at : CollAt
  pub is_located : IsCollAt at
  pub node_is : t ≡ node_text at.node at.rest
  pub coll_is : at.coll ≡ w

content_coll : (n : ℤ) (x : Content) (ss : List Step) (w : CollPieces) → IsContent n x [] → content_flow ss x [] ≡ Some w → HasColl ((content_cut x).3 ++ ((content_cut x).4 ++ ((content_cut x).5 ++ []))) ss w
content_coll n (Nothing tail) ss w h e = absurd (cc)
content_coll n (Inline space node tail) ss w h e =
    let found : coll_along ss (without_anchor node) (tail ++ []) ≡ Some w = sym (core_coll ss node (tail ++ [])) ∙ e in
    record {
      at = record { place = Block; indent = n; around = 0; node = without_anchor node; rest = tail ++ []; steps = ss; coll = w };
      is_located = record { inline = record { valid = core_valid (Some (deeper n)) node (tail ++ []) h.1.valid; something = some_bare ss (without_anchor node) (tail ++ []) w found }; found = found };
      node_is = ap (λ (l : List ℕ). l ++ (tail ++ [])) (core_text node) ∙ sym (node_then (without_anchor node) (tail ++ []));
      coll_is = refl;
    }
content_coll n (rows.Block space anchor block) ss w h e = absurd (cc)

-- ---- the head that the code has read

module _ (t : List ℕ) (s : RowsView) (c : Cut) (n : ℕ) (d : Stretch) (cut : IsCut t c) (is : s ≡ rows_view c) (f : documents.Found s c n d) (q : Position) (at : IsLine s d q) (steps left : List Step)
    (leads : head_line_of steps (lines_of_rows (found_in_cut t s c n d cut is f).0.document.are_there.rows) ≡ Some (line_number d (found_in_cut t s c n d cut is f).0.document.are_there.rows q, left)) where
  abbrev k : InCut s d c
  k = (found_in_cut t s c n d cut is f).0

  abbrev row : Row
  row = row_is s d c k q at

  abbrev alone : Option CollPieces
  alone = content_flow left row.content []

  pub collection_at : flow_collection n steps c ≡ content_flow left row.content (after_row q.row c)
  collection_at =
      sym (collection_is c n steps)
      ∙ (ap (λ (o : Option Part). o >>= λ p. rows_collection (document_row n c) c p.rows steps) f.there
      ∙ ((λ i. rows_collection (sym f.first i) c (sym (found_in_cut t s c n d cut is f).1 i) steps) ∙ beside_agrees s d c k q at steps left leads))

  all_is : flow_collection n steps c ≡ option_map (with_more (after_row q.row c)) alone
  all_is = collection_at ∙ content_more left row.content (after_row q.row c)

  pub other_head : (total : ℕ) → None ≡ row_flow total row [] → FlowAgrees t (flow_collection n steps c) None
  other_head total e = no_flow_agrees t (flow_collection n steps c) (go alone (ap (λ (o : Option Placed). o >>= collection_along left) e ∙ row_along total row [] left) ∙ sym all_is)
    where
      go : (o : Option CollPieces) → None ≡ option_map (placed_collection total) o → None ≡ option_map (with_more (after_row q.row c)) o
      go o e = search rules

  pub head_agrees_at : (x : FlowHead) → left ≡ map tree_step x.left.now → t ≡ take x.before t ++ (x.text.now ++ after_row q.row c) → x.before ≡ length (take x.before t) → x.text.now ≡ from_head (slices row) [] →
      Some (inline_view x.node.value) ≡ row_flow (length x.text.now) row [] → FlowAgrees t (flow_collection n steps c) (Some x)
  head_agrees_at x own is_located begins ends e =
      subst (λ (o : Option CollPieces). FlowAgrees t o (Some x)) (sym all_is)
      (go alone refl (ap (λ (ss : List Step). collection_along ss (inline_view x.node.value)) (sym own) ∙ (ap (λ (o : Option Placed). o >>= collection_along left) e ∙ row_along (length x.text.now) row [] left)))
    where
      go : (o : Option CollPieces) → alone ≡ o → views.collection_view x ≡ option_map (placed_collection (length x.text.now)) o → FlowAgrees t (option_map (with_more (after_row q.row c)) o) (Some x)
      go None there e = e
      go (Some w) there e =
          let valid = row_in c q.row true row cut.parts (row_in_cut s d c k q at) in
          let h = content_coll (parent_indent row) row.content left w (row_alone valid.limit row (after_row q.row c) valid.row).content there in
          search rules

-- ---- all collections of the head

module _ (t : List ℕ) (s : RowsView) (c : Cut) (n : ℕ) (d : Stretch) (cut : IsCut t c) (is : s ≡ rows_view c) (f : documents.Found s c n d) (q : Position) (at : IsLine s d q) (steps left : List Step)
    (leads : head_line_of steps (lines_of_rows (found_in_cut t s c n d cut is f).0.document.are_there.rows) ≡ Some (line_number d (found_in_cut t s c n d cut is f).0.document.are_there.rows q, left)) where
  abbrev there : InCut s d c
  there = (found_in_cut t s c n d cut is f).0

  stem : HasStemAt steps (lines_of_rows there.document.are_there.rows) (line_number d there.document.are_there.rows q, left)
  stem = stem_at steps (lines_of_rows there.document.are_there.rows) (line_number d there.document.are_there.rows q, left) leads

  pub head_for : (x : FlowHead) → left ≡ map tree_step x.left.now → t ≡ take x.before t ++ (x.text.now ++ after_row q.row c) → x.before ≡ length (take x.before t) → x.text.now ≡ from_head (slices (row_is s d c there q at)) [] →
      Some (inline_view x.node.value) ≡ row_flow (length x.text.now) (row_is s d c there q at) [] → IsHeadFor t c n steps x
  head_for x own is_located begins ends e = (
    stem.stem,
    stem.steps_are ∙ ap (λ (ss : List Step). stem.stem ++ ss) own,
    record {
      leads = record {
        part = f.part;
        there = f.there;
        number = line_number d there.document.are_there.rows q;
        leads = λ ss. ap (λ (rs : List Row). head_line_of (stem.stem ++ ss) (lines_of_rows rs)) (sym (found_in_cut t s c n d cut is f).1) ∙ stem.leads ss;
      };
      reports = λ y node text before. search (rules, head_agrees_at, is, stem.stem, stem.leads, is_located, begins, ends, e, row_is);
    },
  )

pub agrees_for : (t : List ℕ) (c : Cut) (n : ℕ) (steps : List Step) (x : FlowHead) → IsHeadFor t c n steps x → FlowAgrees t (flow_collection n steps c) (Some x)
agrees_for t c n steps x h = subst (λ (ss : List Step). FlowAgrees t (flow_collection n ss c) (Some x)) (sym h.1) (h.2.reports x refl refl refl)
