-- What texts with other lines in one document read as (own).
use Rattle.std.{specs.Prelude.{◌≡◌, ℕ, ◌<◌, List, [], ◌∷◌, ◌++◌, slice_get, Option, Some, None, true}, specs.Str.is_utf8}
use Rattle.yq_core.specs.Paths.{Step, append_child, changed_at, node_at, relabel_child, remove_child, within}
use Rattle.yq_core.specs.Tree.{Label, Node, Children, none, child, children_of}
use Rattle.yq_row_table.{specs.Grammar.IsCut, specs.Rows.{Part, Cut, cut_text}}
use Rattle.yq_outline.{specs.LineAnchors.{IsFree, HaveOneAnchorEach}, specs.Group.level_or, specs.Laws.with_lines}
use Rattle.yq_outline.specs.Lines.{lines_of_rows}
use Rattle.yq_outline.specs.Outline.{Line, level, Outline, end, row, flatten, IsOpen, IsWhole, IsEven, anchored, label, value}
use Rattle.yq_outline.specs.Places.{lines_before, plug, FoundLine, find, content_under}
use Rattle.yq_documents.specs.Documents.{HaveFitKeys, HasShortRoot, document_parts, lead_of}
use Rattle.yq_documents.{specs.Reading.{part_outline, read_at, root_of}, specs.TreeEdits.headed}
use Rattle.yq_edit_rules.{specs.Changed.{KeepsRows, put_document, IsChangedBy}, specs.Conditions.last_anchor, specs.SoundRoots.IsSoundRoot}
use Rattle.yq_edit_rules.specs.Siblings.{HasEntries, NodeLines, lines_at, put_lines, IsCollectionAt, IsEntryAt, LinesFit, EntryFits}
use Rattle.yq_edit_rules.specs.Siblings.{IsRelabelled}

-- A text reads as a cut, and another one has that cut with part q for part p of document k; its rows have fit keys and a short root.
pub record IsPut (t : List ℕ) (c : Cut) (k : ℕ) (p q : Part) : Type 0 where
  pub read : read_at t ≡ Some c
  pub there : slice_get (document_parts c) k ≡ Some p
  pub rows : KeepsRows p q
  pub utf8 : is_utf8 (cut_text (put_document k q c)) ≡ true
  pub cut : IsCut (cut_text (put_document k q c)) (put_document k q c)
  pub keys : HaveFitKeys q.rows
  pub short : HasShortRoot q.rows

-- The root of a document that is replaced by another one is as is asked.
abbrev pub OldIsSound : Type 0
OldIsSound = (t : List ℕ) (c : Cut) (k : ℕ) (p q : Part) → IsPut t c k p q → IsSoundRoot (root_of p)

-- The lines of a document that is replaced by another one are even.
abbrev pub OldIsEven : Type 0
OldIsEven = (t : List ℕ) (c : Cut) (k : ℕ) (p q : Part) → IsPut t c k p q → IsEven (level_or 0 (part_outline p)) (part_outline p)

-- with another part for document k its root is changed by a function, if what that gives is sound
abbrev pub ChangesIfSound : Cut → ℕ → (p q : Part) → List (List ℕ) → (Node → Node) → Type 0
ChangesIfSound c k p q lead f = IsSoundRoot (f (root_of p)) → IsChangedBy c k q lead f

-- The lines of a node at a path mean that node.
abbrev pub LinesAreThere : Type 0
LinesAreThere =
    (steps : List Step) (o : Outline) (h : NodeLines) → lines_at steps o ≡ Some h → node_at steps (value o) ≡ Some (anchored h.anchor (value h.lines))

-- A line, with an outline under it, may be in the place of one that was found, where the node to which steps lead in its head is changed by a function.
pub record LineFits (rest : List Step) (f : FoundLine) (g : Node → Node) (m : ℕ) (l : Line) (u : Outline) : Type 0 where
  pub label_is : label l ≡ label f.line
  pub level_is : level l ≡ level f.line
  pub headless : IsOpen l.head u
  pub deep : level l < m
  pub even : IsEven m u
  pub node_is : content_under l u ≡ changed_at rest g (content_under f.line f.under)

-- After an anchor, if there is one, lines have one anchor for a node (6.9.2).
pub record AnchorsFit (a : Option (List ℕ)) (ls : List Line) : Type 0 where
  pub each : HaveOneAnchorEach ls
  pub free : IsFree a ls

-- A line at a path and those under it are exchanged: a node is replaced, or something in the flow collection that the line's head is.
abbrev pub LineExchanged : Type 0
LineExchanged =
    (t : List ℕ) (c : Cut) (k : ℕ) (p q : Part) (s : Step) (ss rest : List Step) (f : FoundLine) (g : Node → Node) (m : ℕ) (l : Line) (u : Outline) →
    IsPut t c k p q →
    find s ss (part_outline p) ≡ Some (f, rest) → LineFits rest f g m l u → IsWhole l.mark l.head f.after →
    AnchorsFit (last_anchor (lines_before f.place)) (l ∷ flatten u) →
    lines_of_rows q.rows ≡ with_lines f (l ∷ flatten u) → ChangesIfSound c k p q (lead_of p) (changed_at (s ∷ ss) g)

-- All lines of the node at a path are exchanged: at the root, or under a line that stays.
abbrev pub LinesExchanged : Type 0
LinesExchanged =
    (t : List ℕ) (c : Cut) (k : ℕ) (p q : Part) (steps : List Step) (h : NodeLines) (g : Node → Node) (m : ℕ) (u : Outline) → IsPut t c k p q →
    lines_at steps (part_outline p) ≡ Some h → LinesFit h g m u → AnchorsFit h.anchor (flatten u) →
    lines_of_rows q.rows ≡ put_lines h (flatten u) → ChangesIfSound c k p q (lead_of q) (changed_at steps g)

-- The lines of one item or entry more are put after those of the collection at a path.
abbrev pub LinesAppended : Type 0
LinesAppended =
    (t : List ℕ) (c : Cut) (k : ℕ) (p q : Part) (steps : List Step) (h : NodeLines) (m : ℕ) (l : Line) (v : Outline) → IsPut t c k p q →
    IsCollectionAt steps (part_outline p) h → EntryFits h m l v → HaveOneAnchorEach (l ∷ flatten v) →
    lines_of_rows q.rows ≡ put_lines h (flatten h.lines ++ (l ∷ flatten v)) →
    ChangesIfSound c k p q (lead_of p) (changed_at steps (within (append_child (label l) (content_under l v))))

-- The lines of one of several items or entries of the collection at a path are taken out.
abbrev pub LinesRemoved : Type 0
LinesRemoved =
    (t : List ℕ) (c : Cut) (k : ℕ) (p q : Part) (steps : List Step) (h : NodeLines) (s : Step) (f : FoundLine) → IsPut t c k p q →
    IsEntryAt steps s (part_outline p) h f → HasEntries (plug f.place f.after) → lines_of_rows q.rows ≡ put_lines h (with_lines f []) →
    ChangesIfSound c k p q (lead_of q) (changed_at steps (within (remove_child s)))

-- The line of an item or entry of the collection at a path gets other comments.
abbrev pub LineRelabelled : Type 0
LineRelabelled =
    (t : List ℕ) (c : Cut) (k : ℕ) (p q : Part) (steps : List Step) (h : NodeLines) (s : Step) (f : FoundLine) (g : Label → Label) (l : Line) →
    IsPut t c k p q →
    IsEntryAt steps s (part_outline p) h f → IsRelabelled g f.line l → lines_of_rows q.rows ≡ put_lines h (with_lines f (l ∷ flatten f.under)) →
    ChangesIfSound c k p q (lead_of q) (changed_at steps (within (relabel_child s g)))

-- an outline whose first line has this head comment
abbrev pub with_lead : List (List ℕ) → Outline → Outline
with_lead above end = end
with_lead above (row l u a) = row (record l { head_comment = above }) u a

-- A block collection with a lead above it has that as the head comment of its first item or entry.
abbrev pub LeadIsAbove : Type 0
LeadIsAbove =
    (above : List (List ℕ)) (n : ℕ) (o : Outline) → HasEntries o → IsEven n o →
    IsEven n (with_lead above o) × (value (with_lead above o) ≡ within (headed above) (value o))

-- the head comment of the first of items or entries, if there are any
abbrev pub first_above : Children → Option (List (List ℕ))
first_above none = None
first_above (child l n cs) = Some l.head_comment

-- The first item or entry of a block root has the document's lead as its head comment.
abbrev pub RootHasLead : Type 0
RootHasLead = (p : Part) → HasEntries (part_outline p) → first_above (children_of (root_of p)) ≡ Some (lead_of p)
