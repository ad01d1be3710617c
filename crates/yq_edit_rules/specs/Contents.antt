-- What is written after the mark of one row is replaced by a value (own).
use Rattle.std.specs.Prelude.{◌≡◌, ℕ, suc, ◌+◌, List, [], ◌∷◌, ◌++◌, length, Some, None, false}
use Rattle.yq_core.{specs.Paths.{Step, changed_at}, specs.Tree.Node}
use Rattle.yq_outline.{specs.Comments.line_comment, specs.Outline.flatten, specs.Places.{lines_before, FoundLine, find, content_under}}
use Rattle.yq_outline.specs.Lines.{content_anchor, head_of, tail_of, lines_of_rows}
use Rattle.yq_row_table.{specs.Exchange.{asked_after, with_content}, specs.Grammar.unlimited}
use Rattle.yq_row_table.{specs.Rows.{Bare, Content, Row, rows_text, Part, Cut, cut_text}, specs.SpliceFits.RemovalMeans}
use Rattle.yq_documents.{specs.Documents.{ContentHasFitKeys, is_long_plain, lead_of}, specs.Reading.{part_outline, root_of}}
use Rattle.yq_documents.specs.TreeEdits.{replaced_node}
use Rattle.yq_places.specs.RowPaths.{IsReadable}
use Rattle.yq_edit_rules.{specs.Appends.inserted, specs.Changed.{put_document, IsChangedBy}}
use Rattle.yq_edit_rules.{specs.DocumentRows.{IsDocumentPart, after_document}, specs.SoundRoots.MayReplace}

-- a part in which one row has another content
abbrev pub recontent : (front : List Row) → Row → (back : List Row) → Content → Part → Part
recontent front r back new p = inserted front (with_content new r ∷ []) back p

-- A content takes the place of a row's in document k: the row with it means the row there, it means a value after the old anchor, and has the old
-- comment.
pub record TakesContent (t : List ℕ) (c : Cut) (k : ℕ) (p : Part) (front : List Row) (r : Row) (back : List Row) (v : Node) (new : Content) : Type 0 where
  pub old : IsDocumentPart t c k p
  pub rows_are : p.rows ≡ front ++ (r ∷ back)
  pub row : RemovalMeans (asked_after unlimited front) r (with_content new r) back (rows_text back (p.end ++ after_document k c))
  pub head_is : head_of new ≡ Some v
  pub anchor_is : content_anchor new ≡ content_anchor r.content
  pub comment_is : line_comment (tail_of new) ≡ line_comment (tail_of r.content)
  pub keys : ContentHasFitKeys new
  pub short : is_long_plain r.mark new ≡ false
  pub text : IsReadable (cut_text (put_document k (recontent front r back new p) c))

-- A node that is alone on the line under its key or dash is replaced.
abbrev pub LowerContentReplaced : Type 0
LowerContentReplaced =
    (t : List ℕ) (c : Cut) (k : ℕ) (p : Part) (front back : List Row) (r : Row) (v : Node) (new : Content) (s : Step) (ss : List Step) (f : FoundLine) →
    TakesContent t c k p front r back v new →
    find s ss (part_outline p) ≡ Some (f, []) → f.line.head ≡ None → length (flatten f.under) ≡ 1 → r.mark ≡ Bare →
    length (lines_of_rows front) + length r.dashes ≡ suc (length (lines_before f.place)) →
    MayReplace v (content_under f.line f.under) (root_of p) (length (s ∷ ss)) →
    IsChangedBy c k (recontent front r back new p) (lead_of p) (changed_at (s ∷ ss) (replaced_node v))

-- A root that is alone on its line is replaced.
abbrev pub RootContentReplaced : Type 0
RootContentReplaced =
    (t : List ℕ) (c : Cut) (k : ℕ) (p : Part) (front back : List Row) (r : Row) (v : Node) (new : Content) → TakesContent t c k p front r back v new →
    length (lines_of_rows p.rows) ≡ 1 → r.mark ≡ Bare →
    MayReplace v (root_of p) (root_of p) 0 → IsChangedBy c k (recontent front r back new p) (lead_of p) (changed_at [] (replaced_node v))
