-- One row in the place of another one, and line comments that no tail alone has: those of block scalars are in the header (8.1.1; own).
use Rattle.std.specs.Prelude.{◌≡◌, ℕ, List, [], ◌∷◌, ◌++◌, Option, true, false}
use Rattle.yq_core.{specs.Block.BlockText, specs.Paths.{Step, changed_at, relabel_child, within}}
use Rattle.yq_outline.{specs.Comments.line_comment, specs.Places.FoundLine, specs.Lines.{content_anchor, head_of, tail_of}}
use Rattle.yq_row_table.{specs.Exchange.{allows_first, asked_after, with_content}, specs.Grammar.{unlimited, limit_after}}
use Rattle.yq_row_table.{specs.Rows.{Content, Block, Row, rows_text, Part, Cut}, specs.Seams.TakesPlace, specs.Splices.first_gap}
use Rattle.yq_documents.{specs.Documents.{ContentHasFitKeys, is_long_plain, lead_of}, specs.Reading.part_outline}
use Rattle.yq_documents.specs.TreeEdits.{with_line_comment}
use Rattle.yq_edit_rules.{specs.Appends.inserted, specs.DocumentRows.{IsDocumentPart, after_document}, specs.Replaces.RowsReplace}
use Rattle.yq_edit_rules.{specs.Siblings.{IsEntryAt, NodeLines}, specs.LineComments.IsMarkLine, specs.Changed.ChangesIfReadable}
use Rattle.yq_row_table.specs.Rows as rows

-- A row takes the place of one of a part before a rest, and the next row may follow it.
pub record TakesRow (p : Part) (front : List Row) (r new : Row) (back : List Row) (rest : List ℕ) : Type 0 where
  pub rows_are : p.rows ≡ front ++ (r ∷ back)
  pub takes : TakesPlace (asked_after unlimited front) r (rows_text back (p.end ++ rest)) new (rows_text back (p.end ++ rest))
  pub next : allows_first (limit_after new) back ≡ true

-- A row that takes the place of another one replaces it among the rows of a document.
abbrev pub RowReplaces : Type 0
RowReplaces =
    (t : List ℕ) (c : Cut) (k : ℕ) (p : Part) (front back : List Row) (r new : Row) → IsDocumentPart t c k p →
    TakesRow p front r new back (after_document k c) →
    RowsReplace front (r ∷ []) (new ∷ []) back (first_gap back p.end) p (after_document k c)

-- A content spells what another one does, and may have another tail.
pub record SpellsAlike (mark : rows.RowMark) (old new : Content) : Type 0 where
  pub head_is : head_of new ≡ head_of old
  pub anchor_is : content_anchor new ≡ content_anchor old
  pub keys : ContentHasFitKeys new
  pub short : is_long_plain mark new ≡ false

-- The line comment of an item or entry is set, where its line is the last of its row: the row gets a content that spells the same.
abbrev pub ContentCommented : Type 0
ContentCommented =
    (t : List ℕ) (c : Cut) (k : ℕ) (p : Part) (steps : List Step) (s : Step) (h : NodeLines) (f : FoundLine) (front back : List Row) (r : Row)
    (new : Content) → IsDocumentPart t c k p →
    IsEntryAt steps s (part_outline p) h f → TakesRow p front r (with_content new r) back (after_document k c) → SpellsAlike r.mark r.content new →
    IsMarkLine front r h f → ChangesIfReadable c k (inserted front (with_content new r ∷ []) back p) (lead_of p)
    (changed_at steps (within (relabel_child s (with_line_comment (line_comment (tail_of new))))))

-- a block scalar whose header has another tail
abbrev pub with_header_tail : List ℕ → List ℕ → Option rows.Anchor → BlockText → Content
with_header_tail tail space anchor block = Block space anchor (record block { tail = tail })

-- The line comment of a block scalar is set: its header gets another tail.
abbrev pub BlockCommented : Type 0
BlockCommented =
    (t : List ℕ) (c : Cut) (k : ℕ) (p : Part) (steps : List Step) (s : Step) (h : NodeLines) (f : FoundLine) (front back : List Row) (r : Row) (space : List ℕ)
    (anchor : Option rows.Anchor) (block : BlockText)
    (tail : List ℕ) → IsDocumentPart t c k p → IsEntryAt steps s (part_outline p) h f → r.content ≡ Block space anchor block →
    TakesRow p front r (with_content (with_header_tail tail space anchor block) r) back (after_document k c) →
    IsMarkLine front r h f →
    ChangesIfReadable c k (inserted front (with_content (with_header_tail tail space anchor block) r ∷ []) back p) (lead_of p)
    (changed_at steps (within (relabel_child s (with_line_comment (line_comment tail)))))
