-- The operations on block nodes, by the lines that they exchange, add or drop (own).
use Rattle.std.specs.Prelude.{◌≡◌, ℕ, suc, ◌+◌, ◌<◌, List, [], ◌∷◌, ◌++◌, length, Some, None}
use Rattle.yq_core.{specs.Keys.keys_of, specs.Paths.{Step, append_child, changed_at, relabel_child, remove_child, within}}
use Rattle.yq_core.{specs.Tree.{Label, Node}, specs.Anchors.names_of}
use Rattle.yq_outline.{specs.Comments.{head_comment, line_comment}, specs.LineAnchors.HaveOneAnchorEach, specs.Laws.with_lines}
use Rattle.yq_outline.{specs.Lines.{lines_from, lines_of_rows}, specs.Outline.{Line, Outline, flatten, IsEven, label, children, value}}
use Rattle.yq_outline.specs.Places.{lines_before, plug, FoundLine, find, content_under}
use Rattle.yq_row_table.specs.Rows.{Row, after_columns, Part, Cut}
use Rattle.yq_documents.{specs.Documents.lead_of, specs.Reading.{part_outline, root_of}, specs.TreeEdits.replaced_node}
use Rattle.yq_edit_rules.{specs.Conditions.AreSpared, specs.Edited.{IsPut, LineFits}, specs.Moved.{moved_up, emptied_row}}
use Rattle.yq_edit_rules.specs.SoundRoots.{IsNewKey, IsNewValue, MayReplace}
use Rattle.yq_edit_rules.specs.Siblings.{HasEntries, NodeLines, put_lines, IsCollectionAt, IsEntryAt, EntryFits, IsRelabelled}
use Rattle.yq_edit_rules.specs.Changed.{IsChangedBy}

-- An outline may be that of a root, which it means.
pub record RootFits (m : ℕ) (u : Outline) (root : Node) : Type 0 where
  pub deep : 0 < m
  pub even : IsEven m u
  pub value_is : value u ≡ root
  pub anchors : HaveOneAnchorEach (flatten u)

-- A node below the root is replaced: its line and those under it are replaced by others that mean the value after the old anchor.
abbrev pub NodeReplaced : Type 0
NodeReplaced =
    (t : List ℕ) (c : Cut) (k : ℕ) (p q : Part) (s : Step) (ss : List Step) (f : FoundLine) (v : Node) (m : ℕ) (l : Line) (u : Outline) → IsPut t c k p q →
    find s ss (part_outline p) ≡ Some (f, []) → LineFits [] f (replaced_node v) m l u → HaveOneAnchorEach (l ∷ flatten u) →
    lines_of_rows q.rows ≡ with_lines f (l ∷ flatten u) →
    MayReplace v (content_under f.line f.under) (root_of p) (length (s ∷ ss)) → IsChangedBy c k q (lead_of p) (changed_at (s ∷ ss) (replaced_node v))

-- The root is replaced on a line of its own, and keeps its anchor.
abbrev pub RootReplaced : Type 0
RootReplaced =
    (t : List ℕ) (c : Cut) (k : ℕ) (p q : Part) (v : Node) (m : ℕ) (u : Outline) → IsPut t c k p q → RootFits m u (replaced_node v (root_of p)) →
    lines_of_rows q.rows ≡ flatten u →
    MayReplace v (root_of p) (root_of p) 0 → IsChangedBy c k q (lead_of q) (replaced_node v)

-- One item or entry more is appended to a block collection.
abbrev pub EntryAppended : Type 0
EntryAppended =
    (t : List ℕ) (c : Cut) (k : ℕ) (p q : Part) (steps : List Step) (h : NodeLines) (m : ℕ) (l : Line) (u : Outline) → IsPut t c k p q →
    IsCollectionAt steps (part_outline p) h → EntryFits h m l u → HaveOneAnchorEach (l ∷ flatten u) →
    lines_of_rows q.rows ≡ put_lines h (flatten h.lines ++ (l ∷ flatten u)) →
    IsNewValue (content_under l u) (suc (length steps)) → IsNewKey (label l).key (keys_of (children h.lines)) →
    IsChangedBy c k q (lead_of p) (changed_at steps (within (append_child (label l) (content_under l u))))

-- One of several items or entries of a block collection is removed.
abbrev pub EntryRemoved : Type 0
EntryRemoved =
    (t : List ℕ) (c : Cut) (k : ℕ) (p q : Part) (steps : List Step) (h : NodeLines) (s : Step) (f : FoundLine) → IsPut t c k p q →
    IsEntryAt steps s (part_outline p) h f → HasEntries (plug f.place f.after) → lines_of_rows q.rows ≡ put_lines h (with_lines f []) →
    AreSpared (names_of (content_under f.line f.under)) [] (names_of (root_of p)) →
    IsChangedBy c k q (lead_of q) (changed_at steps (within (remove_child s)))

-- An item or entry of a block collection gets another line comment or head comment.
abbrev pub EntryRelabelled : Type 0
EntryRelabelled =
    (t : List ℕ) (c : Cut) (k : ℕ) (p q : Part) (steps : List Step) (h : NodeLines) (s : Step) (f : FoundLine) (g : Label → Label) (l : Line) →
    IsPut t c k p q →
    IsEntryAt steps s (part_outline p) h f → IsRelabelled g f.line l → ((x : Label) → (g x).key ≡ x.key) →
    lines_of_rows q.rows ≡ put_lines h (with_lines f (l ∷ flatten f.under)) →
    IsChangedBy c k q (lead_of q) (changed_at steps (within (relabel_child s g)))

-- The rows of the first item or entry of a compact collection: after the first dashes of row r the rest of it and the rows after it, down to row b, which
-- begins in the same column and has no comment above it.
pub record MovesUp (r b : Row) (n : ℕ) (ns es : List ℕ) : Type 0 where
  pub dashes : r.dashes ≡ n ∷ (ns ++ es)
  pub column : b.column ≡ after_columns r.column (n ∷ ns)
  pub bare : head_comment b.gap ≡ []

-- So many lines come before an item or entry, and so many are its own.
pub record AreCounted (h : NodeLines) (f : FoundLine) (before size : ℕ) : Type 0 where
  pub before_are : before ≡ length (lines_before h.place) + length (lines_before f.place)
  pub size_is : size ≡ length (f.line ∷ flatten f.under)

-- The first item or entry of a compact collection is removed: the next one's row comes after the dash.
abbrev pub FirstRemoved : Type 0
FirstRemoved =
    (t : List ℕ) (c : Cut) (k : ℕ) (p q : Part) (steps : List Step) (h : NodeLines) (s : Step) (f : FoundLine) (before gone after : List Row) (r b : Row)
    (n : ℕ) (ns es : List ℕ) → IsPut t c k p q →
    IsEntryAt steps s (part_outline p) h f → HasEntries (plug f.place f.after) → p.rows ≡ before ++ (r ∷ (gone ++ (b ∷ after))) →
    q.rows ≡ before ++ (moved_up r (n ∷ ns) b ∷ after) →
    MovesUp r b n ns es →
    AreCounted h f (length (lines_of_rows before) + length (n ∷ ns)) (length (lines_from [] b.column es r.mark r.content ++ lines_of_rows gone)) →
    AreSpared (names_of (content_under f.line f.under)) [] (names_of (root_of p)) →
    IsChangedBy c k q (lead_of q) (changed_at steps (within (remove_child s)))

-- After the first dashes of row r nothing stays but a tail without a comment.
pub record StaysEmpty (r : Row) (n : ℕ) (ns es tail : List ℕ) : Type 0 where
  pub dashes : r.dashes ≡ (ns ++ (n ∷ [])) ++ es
  pub bare : line_comment tail ≡ None

-- The first item or entry of a compact collection is removed: the next one's row keeps its place below the dash.
abbrev pub FirstDropped : Type 0
FirstDropped =
    (t : List ℕ) (c : Cut) (k : ℕ) (p q : Part) (steps : List Step) (h : NodeLines) (s : Step) (f : FoundLine) (before gone after : List Row) (r : Row)
    (n : ℕ) (ns es tail : List ℕ) → IsPut t c k p q →
    IsEntryAt steps s (part_outline p) h f → HasEntries (plug f.place f.after) → p.rows ≡ before ++ (r ∷ (gone ++ after)) →
    q.rows ≡ before ++ (emptied_row r ns tail ∷ after) → StaysEmpty r n ns es tail →
    AreCounted h f (length (lines_of_rows before) + length (ns ++ (n ∷ [])))
    (length (lines_from [] (after_columns r.column (ns ++ (n ∷ []))) es r.mark r.content ++ lines_of_rows gone)) →
    AreSpared (names_of (content_under f.line f.under)) [] (names_of (root_of p)) →
    IsChangedBy c k q (lead_of q) (changed_at steps (within (remove_child s)))
