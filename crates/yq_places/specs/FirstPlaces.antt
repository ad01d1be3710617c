-- Where the first item or entry of a compact collection is in a text, and what is taken out of the text with it (YAML 1.2.2, 8.2.1; own).
use Rattle.std.specs.Prelude.{ℕ, ◌==◌, ◌&&◌, Bool, true, List, [], ◌∷◌, ◌++◌, length, drop, slice_get, Option, None, option_map}
use Rattle.std.specs.Prelude.{if◌then◌else◌}
use Rattle.yq_core.{specs.Answers.◌>>=◌, specs.Paths.Step, specs.Text.{cut, cut_line, no_space}}
use Rattle.yq_row_table.{specs.Rows.Cut, specs.Reading.begins_gap}
use Rattle.yq_documents.{specs.declared.path.Part.TheVariants.Entry, specs.Documents.document_parts, specs.Pieces.TextPiece}
use Rattle.yq_documents.specs.LinesInRows.{RowLine, row_line_of}
use Rattle.yq_places.specs.PathPieces.{printed_document, piece_in}

-- whether each byte is a space (5.5)
abbrev pub are_spaces : List ℕ → Bool
are_spaces [] = true
are_spaces (b ∷ bs) = b == 32 && are_spaces bs

-- a text less the spaces that end it (5.5)
unfoldable pub less_spaces : List ℕ → List ℕ
less_spaces [] = []
less_spaces (b ∷ bs) = if are_spaces (b ∷ bs) then [] else b ∷ less_spaces bs

-- the spaces that end a text (5.5)
abbrev pub end_spaces : List ℕ → List ℕ
end_spaces t = drop (length (less_spaces t)) t

-- the line of the item or entry to which steps lead in document n (8.2)
abbrev pub line_row_line : ℕ → List Step → Cut → Option RowLine
line_row_line n steps c = slice_get (document_parts c) n >>= λ p. row_line_of steps p.rows

-- the item or entry to which steps lead in document n, where its line isn't the first one of its row: after a dash is the first one of
-- a compact collection (8.2.1)
abbrev pub first_entry : ℕ → List Step → Cut → Option TextPiece
first_entry n steps c = line_row_line n steps c >>= λ s. if s.line == 0 then None else (printed_document n c >>= piece_in Entry steps)

-- a piece between two texts (own)
abbrev pub piece_between : (before text after : List ℕ) → TextPiece
piece_between before text after = record { before = before; text = text; after = after }

-- a piece with the spaces before it (own)
abbrev pub with_spaces : TextPiece → TextPiece
with_spaces p = piece_between (less_spaces p.before) (end_spaces p.before ++ p.text) p.after

-- what is taken out with such an item or entry: where a gap is after its last line, what comes after the dash up to the end of that line,
-- before its break; else all up to the next one (8.2.1; own)
abbrev pub first_out : TextPiece → TextPiece
first_out p =
    let line = cut_line p.after in
    let next = cut no_space line.1 in
    if begins_gap line.1 then with_spaces p else piece_between p.before (p.text ++ (line.0 ++ next.0)) next.1

-- what is taken out with the item or entry to which steps lead in document n, if it is the first one of a compact collection (8.2.1; own)
abbrev pub first_removal : ℕ → List Step → Cut → Option TextPiece
first_removal n steps c = option_map first_out (first_entry n steps c)
