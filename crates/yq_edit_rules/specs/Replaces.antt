-- A node replaced by rows, and what is first in a compact collection taken out (own).
use Rattle.std.specs.Prelude.{◌≡◌, ℕ, ◌+◌, List, [], ◌∷◌, ◌++◌, length, Some, true, false}
use Rattle.yq_core.{specs.Paths.{Step, changed_at, remove_child, within}, specs.Tree.Node, specs.Anchors.names_of, specs.Alike.Alike}
use Rattle.yq_outline.{specs.LineAnchors.HaveOneAnchorEach, specs.Outline.{Line, Outline, flatten}}
use Rattle.yq_outline.{specs.Places.{lines_before, plug, FoundLine, find, content_under}, specs.Lines.{lines_from, lines_of_rows}}
use Rattle.yq_row_table.{specs.Exchange.{allows_first, asked_after}, specs.Grammar.{unlimited, AreRows, IsCut, no_rows}}
use Rattle.yq_row_table.{specs.Rows.{Row, after_columns, rows_text, Part, Cut, cut_text}, specs.SpliceFits.is_after}
use Rattle.yq_row_table.specs.Splices.{after_first, first_gap, marker_before}
use Rattle.yq_documents.{specs.Documents.{HaveFitKeys, HasShortRoot, lead_of}, specs.Reading.{part_outline, root_of}}
use Rattle.yq_documents.{specs.TreeEdits.replaced_node, specs.PartNumbers.part_number}
use Rattle.yq_places.specs.RowPaths.{IsReadable}
use Rattle.yq_edit_rules.{specs.Appends.inserted, specs.BlockChanges.{AreCounted, MovesUp, RootFits, StaysEmpty}}
use Rattle.yq_edit_rules.{specs.Changed.{put_document, ChangesIfReadable}, specs.Conditions.AreSpared}
use Rattle.yq_edit_rules.{specs.DocumentRows.{IsDocumentPart, after_document, put_rows}, specs.Edited.LineFits}
use Rattle.yq_edit_rules.{specs.Moved.{moved_up, emptied_row}, specs.Siblings.{HasEntries, IsEntryAt, NodeLines}}
use Rattle.yq_edit_rules.specs.SoundRoots.{MayReplace}

-- Rows may be in the place of some of a part, with a gap after them, before a rest: they are rows there, the next row may follow, and their text begins
-- like the old one.
pub record RowsReplace (front gone new back : List Row) (gap : List ℕ) (p : Part) (rest : List ℕ) : Type 0 where
  pub rows_are : p.rows ≡ front ++ (gone ++ back)
  pub some : no_rows gone ≡ false
  pub new_are : AreRows (asked_after unlimited front) new gap (after_first back p.end rest)
  pub next : allows_first (asked_after (asked_after unlimited front) new) back ≡ true
  pub alike : Alike (Some false) (rows_text (gone ++ back) (p.end ++ rest)) (rows_text new (gap ++ after_first back p.end rest))

-- A cut in which rows of a document are replaced by others whose text begins like theirs is a cut, where the new text may be.
abbrev pub DocumentReplaced : Type 0
DocumentReplaced =
    (t : List ℕ) (c : Cut) (k : ℕ) (p : Part) (front gone back new : List Row) (gap : List ℕ) → IsDocumentPart t c k p →
    RowsReplace front gone new back gap p (after_document k c) →
    IsReadable (cut_text (put_document k (put_rows front new back gap p) c)) →
    IsCut (cut_text (put_document k (put_rows front new back gap p) c)) (put_document k (put_rows front new back gap p) c)

-- After the lines x of dashes, which stay, the lines y of a node are replaced by a line and those under it.
pub record TakesLines (f : FoundLine) (front gone new : List Row) (x y : List Line) (l : Line) (u : Outline) : Type 0 where
  pub before_are : length (lines_of_rows front) + length x ≡ length (lines_before f.place)
  pub old_lines : lines_of_rows gone ≡ x ++ y
  pub size_is : length y ≡ length (f.line ∷ flatten f.under)
  pub new_lines : lines_of_rows new ≡ x ++ (l ∷ flatten u)
  pub keys : HaveFitKeys new
  pub anchors : HaveOneAnchorEach (l ∷ flatten u)

-- The node of an item or entry at a path is replaced: what is written inline or in rows, by either of these.
abbrev pub NodeRowsReplaced : Type 0
NodeRowsReplaced =
    (t : List ℕ) (c : Cut) (k : ℕ) (p : Part) (s : Step) (ss : List Step) (f : FoundLine) (v : Node) (front gone new back : List Row) (x y : List Line) (m : ℕ)
    (l : Line) (u : Outline) →
    IsDocumentPart t c k p → find s ss (part_outline p) ≡ Some (f, []) → RowsReplace front gone new back (first_gap back p.end) p (after_document k c) →
    TakesLines f front gone new x y l u → LineFits [] f (replaced_node v) m l u → MayReplace v (content_under f.line f.under) (root_of p) (length (s ∷ ss)) →
    ChangesIfReadable c k (inserted front new back p) (lead_of p) (changed_at (s ∷ ss) (replaced_node v))

-- a part with these rows, and this gap after them
abbrev pub rooted : List Row → List ℕ → Part → Part
rooted new gap p = put_rows [] new [] gap p

-- Rows may be those of document k, with a gap after them: they are rows there, and, where it had none, their text may come after the marker before it.
pub record TakesRoot (c : Cut) (k : ℕ) (p : Part) (new : List Row) (gap : List ℕ) : Type 0 where
  pub some : no_rows new ≡ false
  pub new_are : AreRows unlimited new gap (after_document k c)
  pub start : no_rows p.rows ≡ true → is_after (marker_before [] (part_number k c) c) (rows_text new (gap ++ after_document k c)) ≡ true
  pub keys : HaveFitKeys new
  pub short : HasShortRoot new

-- A cut in which a document has other rows, also where it had none, is a cut, where the new text may be.
abbrev pub DocumentRooted : Type 0
DocumentRooted =
    (t : List ℕ) (c : Cut) (k : ℕ) (p : Part) (new : List Row) (gap : List ℕ) → IsDocumentPart t c k p → TakesRoot c k p new gap →
    IsReadable (cut_text (put_document k (rooted new gap p) c)) → IsCut (cut_text (put_document k (rooted new gap p) c)) (put_document k (rooted new gap p) c)

-- The root is replaced by rows, and keeps its anchor.
abbrev pub RootRowsReplaced : Type 0
RootRowsReplaced =
    (t : List ℕ) (c : Cut) (k : ℕ) (p : Part) (v : Node) (new : List Row) (gap : List ℕ) (m : ℕ) (u : Outline) → IsDocumentPart t c k p →
    TakesRoot c k p new gap →
    RootFits m u (replaced_node v (root_of p)) → lines_of_rows new ≡ flatten u → MayReplace v (root_of p) (root_of p) 0 →
    ChangesIfReadable c k (rooted new gap p) (lead_of (rooted new gap p)) (replaced_node v)

-- The first item or entry of a compact collection is removed: the next one's row b comes after the dash.
abbrev pub FirstRowMoved : Type 0
FirstRowMoved =
    (t : List ℕ) (c : Cut) (k : ℕ) (p : Part) (steps : List Step) (s : Step) (h : NodeLines) (f : FoundLine) (front gone back : List Row) (r b : Row) (n : ℕ)
    (ns es : List ℕ) → IsDocumentPart t c k p →
    IsEntryAt steps s (part_outline p) h f → HasEntries (plug f.place f.after) →
    RowsReplace front (r ∷ (gone ++ (b ∷ []))) (moved_up r (n ∷ ns) b ∷ []) back (first_gap back p.end) p (after_document k c) → MovesUp r b n ns es →
    AreCounted h f (length (lines_of_rows front) + length (n ∷ ns)) (length (lines_from [] b.column es r.mark r.content ++ lines_of_rows gone)) →
    AreSpared (names_of (content_under f.line f.under)) [] (names_of (root_of p)) →
    ChangesIfReadable c k (inserted front (moved_up r (n ∷ ns) b ∷ []) back p) (lead_of (inserted front (moved_up r (n ∷ ns) b ∷ []) back p))
    (changed_at steps (within (remove_child s)))

-- The same where nothing but a tail stays after the dash, and the next one's row keeps its place below it.
abbrev pub FirstRowDropped : Type 0
FirstRowDropped =
    (t : List ℕ) (c : Cut) (k : ℕ) (p : Part) (steps : List Step) (s : Step) (h : NodeLines) (f : FoundLine) (front gone back : List Row) (r : Row) (n : ℕ)
    (ns es tail : List ℕ) → IsDocumentPart t c k p →
    IsEntryAt steps s (part_outline p) h f → HasEntries (plug f.place f.after) →
    RowsReplace front (r ∷ gone) (emptied_row r ns tail ∷ []) back (first_gap back p.end) p (after_document k c) →
    StaysEmpty r n ns es tail →
    AreCounted h f (length (lines_of_rows front) + length (ns ++ (n ∷ [])))
    (length (lines_from [] (after_columns r.column (ns ++ (n ∷ []))) es r.mark r.content ++ lines_of_rows gone)) →
    AreSpared (names_of (content_under f.line f.under)) [] (names_of (root_of p)) →
    ChangesIfReadable c k (inserted front (emptied_row r ns tail ∷ []) back p) (lead_of (inserted front (emptied_row r ns tail ∷ []) back p))
    (changed_at steps (within (remove_child s)))
