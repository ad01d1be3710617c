-- Pieces that were given for a text, and what they mean.
use Rattle.std.specs.Prelude.{ℕ, ◌-◌, ◌⊎◌, List, take, drop, ℤ, IsCharBoundary}
use Rattle.yq_core.{specs.declared.piece.Piece.Piece, specs.declared.style.Style.Style, specs.declared.style.Place.Place}
use Rattle.yq_core.{specs.Block.IsBlockScalar, specs.ContentReading.{plain_content, quoted_content}, specs.Piece.IsPlainPiece}
use Rattle.yq_core.specs.QuotedPiece.{IsQuotedPiece}
use Rattle.yq_core.specs.declared.style.Style.TheVariants as styles
use Rattle.yq_core.specs.BlockReading as blocks

-- the piece is that of a plain scalar in some place of the text, below some indentation (own)
abbrev pub IsPlainScalar : List ℕ → Piece → Type 0
IsPlainScalar text p = (place : Place) × ((n : ℤ) × ((at : ℕ) × IsPlainPiece place n at text p))

-- the piece is that of a quoted scalar of the text (own)
abbrev pub IsQuotedScalar : List ℕ → Piece → Type 0
IsQuotedScalar text p = (at : ℕ) × IsQuotedPiece at text p

-- the piece was given for this text: it begins at a character of it, and is that of a plain, a quoted or a block scalar (own)
pub record IsReadPiece (text : List ℕ) (p : Piece) : Type 0 where
  pub begins : IsCharBoundary text p.start
  pub piece : IsPlainScalar text p ⊎ (IsQuotedScalar text p ⊎ IsBlockScalar text p)

-- the piece of a plain or a quoted scalar begins at a character of the text (own)
pub record IsInlineScalar (text : List ℕ) (p : Piece) : Type 0 where
  pub begins : IsCharBoundary text p.start
  pub piece : IsPlainScalar text p ⊎ IsQuotedScalar text p

-- what is between the start and the end of a piece (own)
abbrev pub piece_text : List ℕ → Piece → List ℕ
piece_text text p = take (p.end - p.start) (drop p.start text)

-- what a piece of the text means, by its style (YAML 1.2.2, sections 7.3 and 8.1)
abbrev pub piece_string : Style → List ℕ → Piece → List ℕ
piece_string styles.Plain text p = plain_content (piece_text text p)
piece_string styles.Single text p = quoted_content (piece_text text p)
piece_string styles.Double text p = quoted_content (piece_text text p)
piece_string styles.Literal text p = blocks.block_piece_content text p
piece_string styles.Folded text p = blocks.block_piece_content text p

-- what a piece of the text means (YAML 1.2.2, sections 7.3 and 8.1)
abbrev pub piece_content : List ℕ → Piece → List ℕ
piece_content text p = piece_string p.style text p
