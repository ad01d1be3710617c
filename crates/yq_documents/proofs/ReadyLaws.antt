-- Documents that are read are ready for the meaning of updates.
use Rattle.std.proofs.Common.{◌≡◌, ℕ, ℤ, zero, suc, ◌+◌, eqb, Bool, true, false, cond, List, [], ◌∷◌, ◌++◌, map, Option, Some, None, refl}
use Rattle.std.{proofs.Common.{sym, ◌∙◌, subst, rules}, specs.List.{list_all, slice_get}, proofs.lemmas.Bool.{and_parts, false≢true}}
use Rattle.std.proofs.lemmas.Option.{none-some}
use Rattle.yq_core.{specs.Shapes.{IsShaped, AreShaped, AreItems, AreKeyed}, specs.Tree.{Node, Children, children_of}}
use Rattle.yq_core.{specs.Nodes.{Items, IsFlowNode}, specs.Trees.{tree_of, items_tree, with_name, node_head}}
use Rattle.yq_outline.{specs.Outline.Line, specs.ShapedLines.{HeadIsShaped, HeadsAreShaped, ShapedByLines, ShapedIsTree}}
use Rattle.yq_outline.{specs.Sound.is_entry_line, specs.Lines.{head_of, lines_from, lines_of_rows}}
use Rattle.yq_row_table.specs.Grammar.{Limit, limit_after, IsContent, AreRows, AreParts, IsCut, begins_document}
use Rattle.yq_row_table.specs.Rows.{Content, Row, Part, Cut, last, marked}
use Rattle.yq_documents.specs.Documents.{Document, IsDocument, ReadsDocuments, with_part, parts_from, document_parts, lead_of}
use Rattle.yq_documents.{specs.Reading.{part_document, is_document, all_documents, cut_of}, specs.TreeEdits.lead_by}
use Rattle.yq_documents.specs.Ready.{begins_no_node, part_is_block, IsReady, TextIsReady}
use Rattle.yq_documents.{proofs.DocumentLaws.{document_is, documents_again}, proofs.ReadLaws.cut_is}
use Rattle.yq_core.specs.Tree as tree
use Rattle.yq_core.specs.Nodes as inline
use Rattle.yq_outline.specs.Grammar as lines
use Rattle.yq_row_table.specs.Rows as rows

-- ---- what is written in rows

named_shaped : (a : List ℕ) (n : Node) → IsShaped n → IsShaped (with_name a n)
named_shaped a n h1 = search rules

-- items in `]` and entries in `}`
collection_shaped : (b : Bool) (cs : Children) → (b ≡ true → AreKeyed cs) → (b ≡ false → AreItems cs) → AreShaped cs → IsShaped (cond b (tree.map None cs) (tree.list None cs))
collection_shaped b cs h1 h2 h3 = search rules

all_keyed : (d k : ℕ) (is : Items) (rest : List ℕ) → inline.AreFlowItems d k is rest → eqb k 125 ≡ true → AreKeyed (items_tree is)
unfolding IsFlowNode items_tree
all_keyed d k inline.none rest h e = tt
all_keyed d k (inline.item inline.bare n s is) rest h e = absurd (false≢true (sym h.0 ∙ e))
all_keyed d k (inline.item (inline.keyed t b g) n s is) rest h e = ((_, refl), all_keyed d k is rest h.4 e)

all_items : (d k : ℕ) (is : Items) (rest : List ℕ) → inline.AreFlowItems d k is rest → eqb k 125 ≡ false → AreItems (items_tree is)
unfolding IsFlowNode items_tree
all_items d k inline.none rest h e = tt
all_items d k (inline.item inline.bare n s is) rest h e = (refl, all_items d k is rest h.4 e)
all_items d k (inline.item (inline.keyed t b g) n s is) rest h e = absurd (false≢true (sym e ∙ h.0.0))

mutual
  unfolding IsFlowNode tree_of items_tree

  node_shaped : (flow : Bool) (spaces : Option ℕ) (d : ℕ) (n : inline.FlowNode) (rest : List ℕ) → IsFlowNode flow spaces d n rest → IsShaped (tree_of n)
  node_shaped flow spaces d inline.empty rest h = tt
  node_shaped flow spaces d (inline.alias name) rest h = tt
  node_shaped flow spaces d (inline.scalar p) rest h = tt
  node_shaped flow spaces zero (inline.coll k gap is) rest h = absurd h.2
  node_shaped flow spaces (suc d) (inline.coll k gap is) rest h =
      collection_shaped (eqb k 125) (items_tree is) (all_keyed d k is rest h.2) (all_items d k is rest h.2) (items_shaped d k is rest h.2)
  node_shaped flow spaces d (inline.anchored name gap n) rest h = named_shaped name (tree_of n) (node_shaped flow spaces d n rest h.4)

  items_shaped : (d k : ℕ) (is : Items) (rest : List ℕ) → inline.AreFlowItems d k is rest → AreShaped (items_tree is)
  items_shaped d k inline.none rest h = tt
  items_shaped d k (inline.item key n s is) rest h = (node_shaped true (Some 0) d n _ h.2, items_shaped d k is rest h.4)

inline_shaped : (flow : Bool) (spaces : Option ℕ) (d : ℕ) (n : inline.FlowNode) (rest : List ℕ) → IsFlowNode flow spaces d n rest → HeadIsShaped (node_head n)
unfolding IsFlowNode
inline_shaped flow spaces d inline.empty rest h = tt
inline_shaped flow spaces d (inline.alias name) rest h = node_shaped flow spaces d (inline.alias name) rest h
inline_shaped flow spaces d (inline.scalar p) rest h = node_shaped flow spaces d (inline.scalar p) rest h
inline_shaped flow spaces d (inline.coll k gap is) rest h = node_shaped flow spaces d (inline.coll k gap is) rest h
inline_shaped flow spaces d (inline.anchored name gap n) rest h = inline_shaped flow spaces d n rest h.4

head_shaped : (n : ℤ) (c : Content) (rest : List ℕ) → IsContent n c rest → HeadIsShaped (head_of c)
head_shaped n c rest h1 = search (rules, inline_shaped)

from_shaped : (above : List (List ℕ)) (column : ℕ) (dashes : List ℕ) (mark : rows.RowMark) (c : Content) → HeadIsShaped (head_of c) → HeadsAreShaped (lines_from above column dashes mark c)
from_shaped above column [] mark c h = (h, tt)
from_shaped above column (n ∷ ns) mark c h = (tt, from_shaped [] (suc (column + n)) ns mark c h)

both_shaped : (xs ys : List Line) → HeadsAreShaped xs → HeadsAreShaped ys → HeadsAreShaped (xs ++ ys)
both_shaped [] ys h k = k
both_shaped (l ∷ xs) ys h k = (h.0, both_shaped xs ys h.1 k)

rows_shaped : (limit : Limit) (rs : List Row) (end rest : List ℕ) → AreRows limit rs end rest → HeadsAreShaped (lines_of_rows rs)
rows_shaped limit [] end rest h = tt
rows_shaped limit (r ∷ rs) end rest h = search (rules, both_shaped, from_shaped, head_shaped, rows_shaped (limit_after r) rs end rest h.1)

-- ---- parts of a cut

abbrev PartsAreShaped : List Part → Type 0
PartsAreShaped [] = Unit {0}
PartsAreShaped (p ∷ ps) = HeadsAreShaped (lines_of_rows p.rows) × PartsAreShaped ps

with_shaped : (is : Bool) (p : Part) (ps : List Part) → HeadsAreShaped (lines_of_rows p.rows) → PartsAreShaped ps → PartsAreShaped (with_part is p ps)
with_shaped is p ps h1 h2 = search rules

parts_shaped : (started is : Bool) (c : Cut) → AreParts started c → PartsAreShaped (parts_from is c)
parts_shaped started is (last p) h = with_shaped is p [] (rows_shaped _ p.rows p.end _ h.rows) tt
parts_shaped started is (marked p marker c) h = with_shaped is p _ (rows_shaped _ p.rows p.end _ h.0.rows) (parts_shaped (begins_document marker) (begins_document marker) c h.2)

-- ---- the lead

first_lead : {n : ℕ} {l : Line} {ls : List Line} {cs : Children} (lead : List (List ℕ)) → lines.AreEntryLines n (l ∷ ls) cs → lead_by true cs lead ≡ l.head_comment
first_lead lead (lines.entry lev mark u es is) = refl

node_lead : {n : ℕ} {l : Line} {ls : List Line} {v : Node} (lead : List (List ℕ)) → lines.IsNodeOutline n (l ∷ ls) v → is_entry_line l.mark ≡ true → lead_by true (children_of v) lead ≡ l.head_comment
node_lead lead h1 h2 = search (rules, false≢true, first_lead)

-- the first line has the lead as its head comment
abbrev LeadAbove : List (List ℕ) → List Line → Type 0
LeadAbove lead [] = Unit {0}
LeadAbove lead (l ∷ ls) = l.head_comment ≡ lead

row_above : (above : List (List ℕ)) (column : ℕ) (dashes : List ℕ) (mark : rows.RowMark) (c : Content) (ls : List Line) → LeadAbove above (lines_from above column dashes mark c ++ ls)
row_above above column [] mark c ls = refl
row_above above column (n ∷ ns) mark c ls = refl

rows_above : (p : Part) → LeadAbove (lead_of p) (lines_of_rows p.rows)
rows_above p = search (rules, row_above)

-- ---- documents

part_ready : ShapedByLines → ShapedIsTree → (p : Part) (d : Document) → IsDocument p d → HeadsAreShaped (lines_of_rows p.rows) → IsReady (begins_no_node (lines_of_rows p.rows)) d
part_ready shaped law p d h heads = search (rules, node_lead, rows_above)

parts_ready : ShapedByLines → ShapedIsTree → (ps : List Part) → PartsAreShaped ps → list_all is_document ps ≡ true → (i : ℕ) (d : Document) → slice_get (map part_document ps) i ≡ Some d →
    IsReady (part_is_block (slice_get ps i)) d
parts_ready shaped law [] heads all i d at = absurd (none-some _ at)
parts_ready shaped law (p ∷ ps) heads all zero d at = search (rules, part_ready, document_is, and_parts)
parts_ready shaped law (p ∷ ps) heads all (suc i) d at = parts_ready shaped law ps heads.1 (and_parts (is_document p) (list_all is_document ps) all).1 i d at

-- A cut whose parts mean documents.
pub cut_ready : ShapedByLines → ShapedIsTree → (t : List ℕ) → IsCut t (cut_of t) → all_documents (cut_of t) ≡ true → TextIsReady t
cut_ready shaped law t h all i d at = parts_ready shaped law (document_parts (cut_of t)) (parts_shaped true _ (cut_of t) h.parts) all i d at

-- Bytes that read as documents.
pub read_ready : ShapedByLines → ShapedIsTree → (bytes : List ℕ) (docs : List Document) → ReadsDocuments bytes docs → TextIsReady bytes
read_ready shaped law bytes docs h =
    let is = sym (cut_is bytes h.parts h.cut) in
    cut_ready shaped law bytes (subst (IsCut bytes) is h.cut) (subst (λ c. all_documents c ≡ true) is (documents_again (document_parts h.parts) docs h.documents).0)
