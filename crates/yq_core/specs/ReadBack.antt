-- What is written, put between two texts (own).
use Rattle.std.specs.Prelude.{◌≡◌, ℕ, ℤ, ◌+◌, List, ◌++◌, length}
use Rattle.yq_core.{specs.declared.block_types.Break.Break, specs.declared.piece.Piece.Piece, specs.declared.style.Place.Place}
use Rattle.yq_core.{specs.declared.style.Style.Style, specs.declared.style.Style.TheVariants.Plain}
use Rattle.yq_core.{specs.Block.{IsBlockPiece, block_text, block_piece}, specs.BlockWritten.{break_text, written_block}}
use Rattle.yq_core.{specs.ScalarPiece.piece_content, specs.Piece.{IsPlainPiece, inline_piece}, specs.QuotedPiece.IsQuotedPiece}
use Rattle.yq_core.{specs.Scalar.{ScalarText, plain_of, string_of}, specs.Written.written_scalar}

-- a string that is written in a style on one line, between two texts (own)
abbrev pub string_between : Style → List ℕ → List ℕ → List ℕ → List ℕ
string_between style s before rest = before ++ (written_scalar style s ++ rest)

-- the piece where it is (own)
abbrev pub put_piece : Style → List ℕ → List ℕ → Piece
put_piece style s before = inline_piece style (length before) (length before + length (written_scalar style s))

-- a string that is written as a literal block scalar, indented by m columns, with these breaks and this rest of its header's line, between two
-- texts (own)
abbrev pub put_block : List ℕ → ℕ → Break → List ℕ → List ℕ → List ℕ → List ℕ
put_block s m br tail before rest = before ++ block_text (written_block s m (break_text br) tail) rest

-- the piece where it is (own)
abbrev pub put_block_piece : List ℕ → ℕ → Break → List ℕ → List ℕ → Piece
put_block_piece s m br tail before = block_piece (length before) (written_block s m (break_text br) tail)

-- what is written plain, put between two texts, is one piece there, whose content is the scalar's text and has its kind (own)
abbrev pub PlainIsReadBack : Place → ℤ → ScalarText → List ℕ → List ℕ → Type 0
PlainIsReadBack place n s before rest =
    let text = string_between Plain s.text before rest in
    let piece = put_piece Plain s.text before in
    IsPlainPiece place n (length before) text piece × (piece_content text piece ≡ s.text) × (plain_of s.text ≡ s)

-- what is written in quotes, put between two texts, is one piece there, whose content is the string (own)
abbrev pub QuotedIsReadBack : Style → ScalarText → List ℕ → List ℕ → Type 0
QuotedIsReadBack style s before rest =
    let text = string_between style s.text before rest in
    let piece = put_piece style s.text before in
    IsQuotedPiece (length before) text piece × (piece_content text piece ≡ s.text) × (string_of s.text ≡ s)

-- what is written as a literal block scalar, put between two texts, is one piece there, whose content is the string (own)
abbrev pub BlockIsReadBack : ℤ → ScalarText → ℕ → Break → List ℕ → List ℕ → List ℕ → Type 0
BlockIsReadBack n s m br tail before rest =
    let text = put_block s.text m br tail before rest in
    let piece = put_block_piece s.text m br tail before in
    IsBlockPiece n (length before) text piece × (piece_content text piece ≡ s.text) × (string_of s.text ≡ s)
