-- The rows at the end of a block collection, by its place in a text (own).
use Rattle.std.specs.Prelude.{◌≡◌, ℕ, ◌+◌, List, ◌∷◌, ◌++◌, [], length}
use Rattle.yq_core.specs.Paths.{Step}
use Rattle.yq_row_table.specs.Rows.{Row, rows_text, Part, part_text, Cut, cut_text}
use Rattle.yq_outline.{specs.Outline.{Outline, end, row, flatten}, specs.Places.lines_before, specs.Lines.lines_of_rows}
use Rattle.yq_places.specs.CollectionEnds.{CollectionEnd, is_broken}
use Rattle.yq_documents.specs.Reading.{part_outline}
use Rattle.yq_edit_rules.{specs.Changed.put_document, specs.DocumentRows.after_document, specs.Siblings.{NodeLines, IsCollectionAt}}

-- the first of lines begins at a column
abbrev pub BeginsAt : ℕ → Outline → Type 0
BeginsAt column end = ⊥
BeginsAt column (row l under after) = l.column ≡ column

-- A place is the end of the block collection at a path of document k, which has part p: rows up to the collection's last line are in front of it, and others
-- after.
pub record IsCollectionEnd (c : Cut) (k : ℕ) (p : Part) (steps : List Step) (x : CollectionEnd) : Type 0 where
  pub h : NodeLines
  pub collection : IsCollectionAt steps (part_outline p) h
  pub first : BeginsAt x.column h.lines
  pub front : List Row
  pub back : List Row
  pub rows_are : p.rows ≡ front ++ back
  pub others : List Row
  pub last : Row
  pub front_is : front ≡ others ++ (last ∷ [])
  pub broken : x.broken ≡ is_broken last.content
  pub count : length (lines_of_rows front) ≡ length (lines_before h.place) + length (flatten h.lines)
  pub start : List ℕ
  pub before_is : x.before ≡ start ++ rows_text front []
  pub following_is : x.after ≡ rows_text back (p.end ++ after_document k c)
  pub old_text : cut_text c ≡ start ++ part_text p (after_document k c)
  pub new_text : (q : Part) → cut_text (put_document k q c) ≡ start ++ part_text q (after_document k c)
