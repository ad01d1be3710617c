-- The line comment of an item or entry at a path: a tail after what its line has, which for a block scalar is its header (6.6, 8.1.1; own).
use Rattle.std.specs.Prelude.{◌≡◌, ℕ, List, [], ◌∷◌, ◌++◌, length, Some, true}
use Rattle.yq_core.{specs.Block.is_tail, specs.Paths.{Step, changed_at, relabel_child, within}}
use Rattle.yq_outline.specs.Comments.{line_comment}
use Rattle.yq_row_table.{specs.Exchange.with_content, specs.Grammar.IsTail}
use Rattle.yq_row_table.specs.Rows.{Content, Nothing, Inline, Block, Row, rows_text, Part, Cut}
use Rattle.yq_documents.{specs.Documents.lead_of, specs.LinesInRows.{RowLine, row_line_of}, specs.TreeEdits.with_line_comment}
use Rattle.yq_edit_rules.{specs.Appends.inserted, specs.DocumentRows.{IsDocumentPart, after_document}, specs.Changed.ChangesIfReadable}

-- a content with another end of its line: a block scalar has that in its header
abbrev pub with_line_tail : List ℕ → Content → Content
with_line_tail tail (Nothing old) = Nothing tail
with_line_tail tail (Inline space node old) = Inline space node tail
with_line_tail tail (Block space anchor block) = Block space anchor (record block { tail = tail })

-- a text may end the line of a content, before what comes after that
abbrev pub IsLineTail : List ℕ → Content → List ℕ → Type 0
IsLineTail tail (Nothing old) rest = IsTail tail rest
IsLineTail tail (Inline space node old) rest = IsTail tail rest
IsLineTail tail (Block space anchor block) rest = is_tail tail ≡ true

-- a row with another end of its line
abbrev pub tailed : List ℕ → Row → Row
tailed tail r = with_content (with_line_tail tail r.content) r

-- A row of a part, after others and before others, may have this end of its line before a rest.
pub record TakesLineTail (p : Part) (front : List Row) (r : Row) (back : List Row) (tail rest : List ℕ) : Type 0 where
  pub rows_are : p.rows ≡ front ++ (r ∷ back)
  pub fits : IsLineTail tail r.content (rows_text back (p.end ++ rest))

-- The line comment at a path is set, where the path's line is the last of its row.
abbrev pub PathTailPut : Type 0
PathTailPut =
    (t : List ℕ) (c : Cut) (k : ℕ) (p : Part) (steps : List Step) (s : Step) (x : RowLine) (front back : List Row) (tail : List ℕ) → IsDocumentPart t c k p →
    row_line_of (steps ++ (s ∷ [])) p.rows ≡ Some x → x.line ≡ length x.row.dashes → TakesLineTail p front x.row back tail (after_document k c) →
    length front ≡ x.before →
    ChangesIfReadable c k (inserted front (tailed tail x.row ∷ []) back p) (lead_of p)
    (changed_at steps (within (relabel_child s (with_line_comment (line_comment tail)))))
