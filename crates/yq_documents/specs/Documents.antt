-- Documents, and what a text reads as (YAML 1.2.2, 9.1 and 9.2).
use Rattle.std.specs.Prelude.{◌≡◌, ◌≢◌, ℕ, ◌≤◌, List, [], ◌∷◌, Bool, true, false, ◌||◌, ◌&&◌, not, codes, length, ⊤}
use Rattle.std.specs.Str.{is_utf8, chars}
use Rattle.yq_core.{specs.Plain.holds_break, specs.Tree.Node, specs.Keys.{HasUniqueKeys, depth}, specs.Nodes.{Items, none, item}}
use Rattle.yq_core.{specs.Inline.depth_limit, specs.Anchors.{names_of, AreBound}, specs.FitKeys.key_limit}
use Rattle.yq_outline.{specs.Comments.head_comment, specs.LineAnchors.HaveOneAnchorEach, specs.Grammar.IsNodeOutline}
use Rattle.yq_outline.{specs.Lines.lines_of_rows, specs.Outline.{Line, null_node}}
use Rattle.yq_row_table.specs.Grammar.{IsCut, is_plain_content, no_rows, begins_document}
use Rattle.yq_row_table.{specs.Rows.{Content, Nothing, Inline, Block, Row, Part, Cut, last, marked}, specs.Splices.first_gap}
use Rattle.yq_core.specs.Nodes as inline
use Rattle.yq_row_table.specs.Rows as rows

-- A document: the comment before it and its root node (9.1; own).
pub record Document : Type 0 where
  pub lead : List (List ℕ)
  pub root : Node

-- a part, if it is a document, before others (own)
abbrev pub with_part : Bool → Part → List Part → List Part
with_part true p ps = p ∷ ps
with_part false p ps = ps

-- the parts that are documents: a part after `---` is one, and one after `...` is none (9.1)
abbrev pub parts_from : Bool → Cut → List Part
parts_from is (last p) = with_part is p []
parts_from is (marked p marker c) = with_part is p (parts_from (begins_document marker) c)

-- some marker is `---` (9.1.2)
abbrev pub has_begin : Cut → Bool
has_begin (last p) = false
has_begin (marked p marker c) = begins_document marker || has_begin c

-- rows come before the first marker (9.1.3)
abbrev pub begins_bare : Cut → Bool
begins_bare (last p) = not (no_rows p.rows)
begins_bare (marked p marker c) = not (no_rows p.rows)

-- The documents of a text: what comes before the first marker is one if it has rows, or if no `---` is in the text (9.1.3, 9.2; own).
abbrev pub document_parts : Cut → List Part
document_parts c = parts_from (begins_bare c || not (has_begin c)) c

-- lines are those of a root node; a document without lines has a null as its root (7.2, 8.2.3, 9.1.4)
abbrev pub IsRoot : List Line → Node → Type 0
IsRoot [] node = node ≡ null_node
IsRoot (l ∷ ls) node = (n : ℕ) × IsNodeOutline n (l ∷ ls) node

-- the comment before a document: the run of comment lines that ends its first gap (own)
abbrev pub lead_of : Part → List (List ℕ)
lead_of p = head_comment (first_gap p.rows p.end)

-- a key as it is written is no plain `<<`, and not too long (own)
abbrev pub IsFit : List ℕ → Type 0
IsFit key = (key ≢ codes "<<") × (length (chars key) ≤ key_limit)

-- the key of an entry is fit; an item has none (own)
abbrev pub HasFitKey : inline.Key → Type 0
HasFitKey inline.bare = ⊤
HasFitKey (inline.keyed text before gap) = IsFit text

abbrev mutual
  -- each key of an inline node is fit (own)
  pub HasFitKeys : inline.FlowNode → Type 0
  HasFitKeys inline.empty = ⊤
  HasFitKeys (inline.alias name) = ⊤
  HasFitKeys (inline.scalar p) = ⊤
  HasFitKeys (inline.coll close gap items) = EachHasFitKeys items
  HasFitKeys (inline.anchored name gap node) = HasFitKeys node

  -- the same of each item or entry (own)
  pub EachHasFitKeys : Items → Type 0
  EachHasFitKeys none = ⊤
  EachHasFitKeys (item key node sep items) = HasFitKey key × HasFitKeys node × EachHasFitKeys items

-- each key in a row's content is fit (own)
abbrev pub ContentHasFitKeys : Content → Type 0
ContentHasFitKeys (Nothing tail) = ⊤
ContentHasFitKeys (Inline space node tail) = HasFitKeys node
ContentHasFitKeys (Block space anchor block) = ⊤

-- the key of a row is no plain `<<` (own)
abbrev pub MarkIsFit : rows.RowMark → Type 0
MarkIsFit rows.Bare = ⊤
MarkIsFit rows.Dash = ⊤
MarkIsFit (rows.Key key colon) = key ≢ codes "<<"

-- each key in rows is fit (own)
abbrev pub HaveFitKeys : List Row → Type 0
HaveFitKeys [] = ⊤
HaveFitKeys (r ∷ rs) = MarkIsFit r.mark × ContentHasFitKeys r.content × HaveFitKeys rs

-- a plain scalar of several lines (7.3.3)
abbrev pub has_lines : Content → Bool
has_lines (Nothing tail) = false
has_lines (Inline space node tail) = is_plain_content node && holds_break (inline.node_text node [])
has_lines (Block space anchor block) = false

-- a row is a plain scalar of several lines alone (own)
abbrev pub is_long_plain : rows.RowMark → Content → Bool
is_long_plain rows.Bare c = has_lines c
is_long_plain rows.Dash c = false
is_long_plain (rows.Key key colon) c = false

-- the root is no plain scalar of several lines (own)
abbrev pub HasShortRoot : List Row → Type 0
HasShortRoot [] = ⊤
HasShortRoot (r ∷ rs) = is_long_plain r.mark r.content ≡ false

-- The rows of a part and the gap after them are those of a document (8.2, 3.2.1.3, 3.2.2.2; own).
pub record IsDocument (p : Part) (d : Document) : Type 0 where
  pub lead : d.lead ≡ lead_of p
  pub root : IsRoot (lines_of_rows p.rows) d.root
  pub keys : HaveFitKeys p.rows
  pub unique : HasUniqueKeys d.root
  pub nested : depth d.root ≤ depth_limit
  pub anchors : HaveOneAnchorEach (lines_of_rows p.rows)
  pub bound : AreBound [] (names_of d.root)
  pub short : HasShortRoot p.rows

-- Parts are those of documents, in order (9.2).
abbrev pub AreDocuments : List Part → List Document → Type 0
AreDocuments [] [] = ⊤
AreDocuments [] (d ∷ ds) = ⊥
AreDocuments (p ∷ ps) [] = ⊥
AreDocuments (p ∷ ps) (d ∷ ds) = IsDocument p d × AreDocuments ps ds

-- Bytes read as documents: they are UTF-8, and are cut into parts that mean documents (5.2, 9.2).
pub record ReadsDocuments (bytes : List ℕ) (docs : List Document) : Type 0 where
  pub utf8 : is_utf8 bytes ≡ true
  pub parts : Cut
  pub cut : IsCut bytes parts
  pub documents : AreDocuments (document_parts parts) docs
