-- The node in the head of a row of a text, as the code reads it.
use Rattle.std.proofs.Common.{◌≡◌, ℕ, ℤ, ◌≤◌, Bool, true, false, cond, ◌||◌, eqb, List, [], ◌∷◌, ◌++◌, length, take, Option, Some, None}
use Rattle.std.{proofs.Common.{option_and_then, option_map, refl, sym, ap, ◌∙◌}, proofs.lemmas.Bool.false≢true, specs.List.slice_get}
use Rattle.std.specs.Str.{IsUtf8}
use Rattle.yq_text.specs.Limit.{text_limit}
use Rattle.yq_core.{specs.Collections.{coll_along, coll_in}, specs.Paths.Step, specs.Piece.deeper, specs.Entries.{EntryPieces, path_inside}}
use Rattle.yq_core.{specs.Inline.depth_limit, specs.Reading.all_node, specs.Block.style_indicator}
use Rattle.yq_core.specs.Nodes.{FlowNode, IsFlowNode, alias, anchored, begins_with, coll, empty, node_text, scalar, without_anchor}
use Rattle.yq_core.{proofs.NodeLaws.all_again, proofs.NodesWrittenLaws.node_then, proofs.NodeAgain.{is_anchored, takes_unanchored}}
use Rattle.yq_core.{specs.declared.block_header.BlockStyle.BlockStyle, specs.Trees.{node_head, tree_of}}
use Rattle.yq_row_table.{specs.Exchange.after_row, specs.Grammar.IsContent}
use Rattle.yq_row_table.specs.Rows.{Content, Nothing, Inline, Block, Row, parent_indent}
use Rattle.yq_row_table.{specs.View.{RowsView, Slices, content_cut, rows_of}, proofs.PlaceLaws.row_in}
use Rattle.yq_inline.specs.declared.before_offset.LeadingNode.{LeadingNode}
use Rattle.yq_outline.specs.Extents.{head_place}
use Rattle.yq_documents.specs.Reading.{cut_of}
use Rattle.yq_places.{specs.FlowNodes.content_flow, specs.RowWalk.HasCut}
use Rattle.yq_places.proofs.FlowNodeLaws.{content_more, core_coll, core_text, core_valid, with_more}
use Rattle.yq_places.proofs.RowHeads.{pieces_from, row_alone, row_start, row_text, slices_are}
use Rattle.yq_lookup.specs.RowFronts.{HeadNode, IsRowFront}
use Rattle.yq_core.specs.declared.block_header.BlockStyle.TheVariants as styles

-- whether a flow collection begins so
abbrev pub opens : List ℕ → Bool
opens head = begins_with 91 head || begins_with 123 head

-- the text of a content from its head on
abbrev pub head_text : Content → List ℕ
head_text x = (content_cut x).3 ++ ((content_cut x).4 ++ ((content_cut x).5 ++ []))

block_opens : (s : BlockStyle) (l : List ℕ) → opens (style_indicator s ∷ l) ≡ false
block_opens styles.Literal l = refl
block_opens styles.Folded l = refl

bare_head : (node : FlowNode) → is_anchored node ≡ false → opens (node_text node []) ≡ true → node_head node ≡ Some (tree_of node)
unfolding node_text
bare_head empty plain e = absurd (false≢true e)
bare_head (alias n) plain e = refl
bare_head (scalar p) plain e = refl
bare_head (coll k g is) plain e = refl
bare_head (anchored n g node) plain e = absurd (false≢true (sym plain))

tree_is : (spaces : Option ℕ) (node : FlowNode) (rest : List ℕ) → IsFlowNode false spaces depth_limit node rest → opens (node_text (without_anchor node) []) ≡ true → node_head node ≡ Some (tree_of (without_anchor node))
unfolding IsFlowNode
tree_is spaces empty rest h e = bare_head empty refl e
tree_is spaces (alias n) rest h e = refl
tree_is spaces (scalar p) rest h e = refl
tree_is spaces (coll k g is) rest h e = refl
tree_is spaces (anchored n g node) rest h e = bare_head node (takes_unanchored node h.3) e

head_node : (n : ℤ) (x : Content) → IsContent n x [] → opens (content_cut x).3 ≡ true → (h : HeadNode n x) × (head_text x ≡ node_text h.node h.rest)
head_node n (Nothing tail) h e = absurd (false≢true e)
head_node n (Inline space node tail) h e = (
  record {
    node = without_anchor node;
    rest = tail ++ [];
    valid = core_valid (Some (deeper n)) node (tail ++ []) h.1.valid;
    tree = tree_is (Some (deeper n)) node (tail ++ []) h.1.valid (ap opens (sym (core_text node)) ∙ e);
    flow = λ ss. core_coll ss node (tail ++ []);
  },
  ap (λ (l : List ℕ). l ++ (tail ++ [])) (core_text node) ∙ sym (node_then (without_anchor node) (tail ++ [])),
)
head_node n (Block space anchor block) h e = absurd (false≢true (sym (block_opens block.style block.indicators) ∙ e))

-- a head that begins with no bracket is no collection
record NoCollection (node : FlowNode) (rest : List ℕ) : Type 0 where
  pub coll : coll_in node rest ≡ None
  pub inside : (s : Step) → path_inside s node rest ≡ None

opens_coll : (b : Bool) (l : List ℕ) → opens (cond b 123 91 ∷ l) ≡ true
opens_coll true l = refl
opens_coll false l = refl

core_none : (node : FlowNode) (rest : List ℕ) → is_anchored node ≡ false → opens (node_text node []) ≡ false → NoCollection node rest
unfolding node_text
core_none empty rest plain e = record { coll = refl; inside = λ s. refl }
core_none (alias n) rest plain e = record { coll = refl; inside = λ s. refl }
core_none (scalar p) rest plain e = record { coll = refl; inside = λ s. refl }
core_none (coll k g is) rest plain e = absurd (false≢true (sym e ∙ opens_coll (eqb k 125) []))
core_none (anchored n g node) rest plain e = absurd (false≢true (sym plain))

node_none : (spaces : Option ℕ) (node : FlowNode) (rest : List ℕ) → IsFlowNode false spaces depth_limit node rest → opens (node_text (without_anchor node) []) ≡ false → NoCollection node rest
unfolding IsFlowNode
node_none spaces empty rest h e = core_none empty rest refl e
node_none spaces (alias n) rest h e = core_none (alias n) rest refl e
node_none spaces (scalar p) rest h e = core_none (scalar p) rest refl e
node_none spaces (coll k g is) rest h e = core_none (coll k g is) rest refl e
node_none spaces (anchored n g node) rest h e = let x = core_none node rest (takes_unanchored node h.3) e in record { coll = x.coll; inside = x.inside }

along_none : (ss : List Step) (node : FlowNode) (rest : List ℕ) → NoCollection node rest → None ≡ coll_along ss node rest
along_none [] node rest x = sym x.coll
along_none (s ∷ ss) node rest x = ap (option_and_then (λ (y : EntryPieces). coll_along ss y.node y.rest)) (sym (x.inside s))

content_none : (n : ℤ) (x : Content) (ss : List Step) → IsContent n x [] → opens (content_cut x).3 ≡ false → None ≡ content_flow ss x []
content_none n (Nothing tail) ss h e = refl
content_none n (Inline space node tail) ss h e = along_none ss node (tail ++ []) (node_none (Some (deeper n)) node (tail ++ []) h.1.valid (ap opens (sym (core_text node)) ∙ e))
content_none n (Block space anchor block) ss h e = refl

-- The pieces of a row of the text, the row from its head on, and where its head begins.
pub record IsReadRow (t : List ℕ) (i : ℕ) (r : Row) (x : Slices) (text : List ℕ) (start : ℕ) : Type 0 where
  pub content : IsContent (parent_indent r) r.content []
  pub head : (content_cut r.content).3 ≡ x.head
  pub parent : x.parent ≡ parent_indent r
  pub own : text ≡ head_text r.content
  pub size : length t ≤ text_limit
  pub is_located : t ≡ take start t ++ (text ++ after_row i (cut_of t))
  pub begins : start ≡ length (take start t)

pub read_row : (t : List ℕ) (s : RowsView) (i : ℕ) (r : Row) (x : Slices) (text : List ℕ) (start : ℕ) → IsUtf8 t → HasCut t s → slice_get (rows_of (cut_of t)) i ≡ Some r → slice_get s.rows i ≡ Some x →
    text ≡ x.head ++ (x.tail ++ x.raw) → start ≡ (head_place i (cut_of t) r).0 → IsReadRow t i r x text start
read_row t s i r x text start utf8 h is there from at =
    let pieces = slices_are (cut_of t) s i x r h.rows there is in
    let own = pieces_from text x r pieces from in
    let row = row_in (cut_of t) i true r h.cut.parts is in
    record {
      content = (row_alone row.limit r (after_row i (cut_of t)) row.row).content;
      head = ap (λ (y : Slices). y.head) (sym pieces);
      parent = ap (λ (y : Slices). y.parent) pieces;
      own = own;
      size = h.cut.size;
      is_located = row_text t (cut_of t) i r start utf8 h.cut is at text own;
      begins = row_start t (cut_of t) i r start utf8 h.cut is at;
    }

-- nothing, where no bracket is in front
pub front_none : (t : List ℕ) (i : ℕ) (r : Row) (x : Slices) (text : List ℕ) (start : ℕ) → IsReadRow t i r x text start → opens x.head ≡ false → (ss : List Step) → content_flow ss r.content (after_row i (cut_of t)) ≡ None
front_none t i r x text start h closed ss =
    content_more ss r.content (after_row i (cut_of t)) ∙ ap (option_map (with_more (after_row i (cut_of t)))) (sym (content_none (parent_indent r) r.content ss h.content (ap opens h.head ∙ closed)))

-- else the node
module _ (t : List ℕ) (i : ℕ) (r : Row) (x : Slices) (text : List ℕ) (start : ℕ) (h : IsReadRow t i r x text start) (opened : opens x.head ≡ true) where
  node : (n : HeadNode (parent_indent r) r.content) × (head_text r.content ≡ node_text n.node n.rest)
  node = head_node (parent_indent r) r.content h.content (ap opens h.head ∙ opened)

  reads : (spaces : Option ℕ) → spaces ≡ Some (deeper x.parent) → all_node false spaces depth_limit text ≡ Some (node.0.node, node.0.rest)
  reads spaces is =
      (λ j. all_node false ((is ∙ ap (λ n. Some (deeper n)) h.parent) j) depth_limit ((h.own ∙ node.1) j))
      ∙ all_again false (Some (deeper (parent_indent r))) depth_limit node.0.node node.0.rest node.0.valid

  pub node_there : (spaces : Option ℕ) → spaces ≡ Some (deeper x.parent) → all_node false spaces depth_limit text ≡ None → ⊥
  node_there spaces is absent = let e = sym (reads spaces is) ∙ absent in cc

  pub front_some : (a : LeadingNode) → a.flow ≡ false → a.spaces ≡ Some (deeper x.parent) → a.depth ≡ depth_limit → a.text.now ≡ text → IsRowFront t (after_row i (cut_of t)) r (a, start)
  front_some a flow spaces depth is = record {
    head = node.0;
    read = (λ j. all_node (flow j) a.spaces (depth j) (is j)) ∙ reads a.spaces spaces;
    text = is ∙ (h.own ∙ node.1);
    is_located = h.is_located ∙ ap (λ (l : List ℕ). take start t ++ (l ++ after_row i (cut_of t))) (sym is);
    begins = h.begins;
    size = h.size;
  }
