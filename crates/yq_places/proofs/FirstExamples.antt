-- The smallest rows of which the first item or entry of a compact collection is taken out.
use Rattle.std.proofs.Common.{◌≡◌, ℕ, List, [], ◌∷◌, ◌++◌, Some, None, refl, codes}
use Rattle.yq_core.{specs.Paths.{Nth, To}, specs.Text.{upto, line_len, text_lines}}
use Rattle.yq_outline.specs.Outline.{level}
use Rattle.yq_row_table.specs.Rows.{Key, Inline, Row, Cut, last}
use Rattle.yq_places.{specs.FirstPlaces.{first_removal, less_spaces}, specs.PrintedLines.less_break}
use Rattle.yq_core.specs.ContentReading as reading
use Rattle.yq_core.specs.Nodes as inline
use Rattle.yq_core.specs.Scalars as scalars

abbrev break : List ℕ
break = 10 ∷ []

-- the row of an entry
abbrev entry : List ℕ → ℕ → List ℕ → List ℕ → List ℕ → Row
entry gap column dashes key value = record { gap = gap; column = column; dashes = dashes; mark = Key key (codes ":"); content = Inline (codes " ") (inline.scalar value) break }

-- `-  a: 1⏎   b: 2⏎`
abbrev near : Cut
near = last (record { rows = entry [] 0 (2 ∷ []) (codes "a") (codes "1") ∷ entry [] 3 [] (codes "b") (codes "2") ∷ []; end = [] })

-- up to the next entry
moved : first_removal 0 (Nth 0 ∷ To (codes "a") ∷ []) near
    ≡ Some (record { before = codes "-  "; text = codes "a: 1" ++ (break ++ codes "   "); after = codes "b: 2" ++ break })
unfolding level inline.node_text less_break upto line_len text_lines scalars.scalar_content reading.content_on
moved = refl

-- `-  a: 1⏎⏎   b: 2⏎`
abbrev apart : Cut
apart = last (record { rows = entry [] 0 (2 ∷ []) (codes "a") (codes "1") ∷ entry break 3 [] (codes "b") (codes "2") ∷ []; end = [] })

-- from after the dash to the end of the entry's line
dropped : first_removal 0 (Nth 0 ∷ To (codes "a") ∷ []) apart
    ≡ Some (record { before = codes "-"; text = codes "  a: 1"; after = break ++ (break ++ (codes "   b: 2" ++ break)) })
unfolding level inline.node_text less_break less_spaces upto line_len text_lines scalars.scalar_content reading.content_on
dropped = refl

-- the second entry begins its row
second : first_removal 0 (Nth 0 ∷ To (codes "b") ∷ []) near ≡ None
unfolding level text_lines upto scalars.scalar_content reading.content_on
second = refl
