-- What is written of values of the code at a place, and what is found there (YAML 1.2.2, 8.2; own).
use Rattle.std.specs.Prelude.{ℕ, Bool, List, [], ◌∷◌, Some}
use Rattle.yq_core.{specs.BlockWritten.break_text, specs.Paths.Step, specs.Scalar.ScalarText, specs.Values.value_node}
use Rattle.yq_core.specs.declared.value.Value.{Value}
use Rattle.yq_documents.{specs.Located.steps_of, specs.Reading.cut_of, specs.declared.path.Path.Path}
use Rattle.yq_outline.specs.Bodies.{borrowed}
use Rattle.yq_places.{specs.FirstBreak.first_break, specs.NodesAt.{node_in, scalar_in}}
use Rattle.yq_row_table.specs.Rows.{Cut, cut_text}
use Rattle.yq_semantics.specs.Meaning.{head_comment_lines}
use Rattle.yq_text.{specs.Halves.whole, specs.declared.halves.Halves.Halves}
use Rattle.yq_edit_rules.{specs.declared.entry.Child.Child, specs.declared.layout.Layout.Layout, specs.BlockText.block_value}
use Rattle.yq_edit_rules.{specs.CommentEdits.head_lines, specs.ClosedTexts.{is_closed_text, closed_lines_put}}
use Rattle.yq_edit_rules.{specs.EntryEdits.{entry_lines, more_lines}, specs.Layouts.layout_of, specs.ReplaceEdits.has_text}
use Rattle.yq_edit_rules.specs.Replacing.{are_same, keeps_scalar}

-- what a definition says of a path in the cut of a text
abbrev pub at_path : {A : Type 0} → (ℕ → List Step → Cut → A) → Path → List ℕ → A
at_path f path t = f path.doc (steps_of path) (cut_of t)

-- how block style looks in the document of that number of a text
abbrev pub layout_in : ℕ → List ℕ → Layout
layout_in doc t = layout_of doc (cut_of t)

-- the lines of an item or entry at a column, up to the last break
abbrev pub child_lines : Layout → ℕ → Child → List ℕ
child_lines l column c = entry_lines l column (borrowed c.key) (value_node c.value.now)

-- those of one more item or entry after a last line, which ends in this break or in none
abbrev pub more_text : Layout → Child → ℕ → List ℕ → List ℕ
more_text l c column last = more_lines l (borrowed c.key) (value_node c.value.now) column last

-- the same after a line with a break, in the document of that number of a text
abbrev pub text_after_line : ℕ → List ℕ → Child → ℕ → List ℕ
text_after_line doc t c column = more_text (layout_in doc t) c column (10 ∷ [])

-- the lines of a head comment with a text in a column, which end with the first break of the text that they are put in (6.6)
abbrev pub head_comment_written : (column : ℕ) (t text : List ℕ) → List ℕ
head_comment_written column t text = head_lines column (break_text (first_break (cut_text (cut_of t)))) (head_comment_lines text)

-- a value on lines of its own after a text
abbrev pub lines_put_after : Halves → Layout → Value → List ℕ
lines_put_after before l v = closed_lines_put (is_closed_text (whole before)) (break_text l.br) (block_value l 0 (value_node v))

-- whether the node at a path of a text is a scalar that holds more than line breaks
abbrev pub has_text_at : Path → List ℕ → Bool
has_text_at path t = has_text (at_path node_in path t)

-- whether a value is the same scalar
abbrev pub is_same_value : ScalarText → Value → Bool
is_same_value s v = are_same (Some s) (scalar_in (value_node v))

-- whether the node at a path of a text is the scalar that a value is
abbrev pub keeps_value : Path → List ℕ → Value → Bool
keeps_value path t v = keeps_scalar (at_path node_in path t) (value_node v)
