-- Where a quoted scalar is in a text.
use Rattle.std.specs.Prelude.{◌≡◌, ℕ, ◌+◌, ◌==◌, Option, Some, List, ◌++◌, length, drop, slice_index, if◌then◌else◌}
use Rattle.yq_core.{specs.declared.piece.Piece.Piece, specs.declared.style.Style.Style, specs.Answers.◌>>=◌, specs.Piece.inline_piece}
use Rattle.yq_core.{specs.Quoted.{QuotedLines, IsQuoted}, specs.QuotedReading.quoted_at}
use Rattle.yq_core.specs.declared.style.Style.TheVariants as styles

-- the style of a scalar in these quotes, 39 or 34 (YAML 1.2.2, sections 7.3.1 and 7.3.2)
abbrev pub quoted_style : ℕ → Style
quoted_style quote = if quote == 39 then styles.Single else styles.Double

-- the piece is that of a quoted scalar, of these lines, that begins at this offset of the text (YAML 1.2.2, sections 7.3.1 and 7.3.2)
pub record IsQuotedPiece (at : ℕ) (text : List ℕ) (p : Piece) : Type 0 where
  pub quote : ℕ
  pub ls : QuotedLines
  pub scalar : List ℕ
  pub rest : List ℕ
  pub is_located : drop at text ≡ scalar ++ rest
  pub quoted : IsQuoted quote ls scalar rest
  pub piece : p ≡ inline_piece (quoted_style quote) at (at + length scalar)

-- the piece of the quoted scalar in front of a text that begins at this offset (own)
abbrev pub quoted_piece : ℕ → List ℕ × List ℕ → Piece
quoted_piece at x = inline_piece (quoted_style (slice_index x.0 0)) at (at + length x.0)

-- the piece of the quoted scalar that begins at this offset, if one does (own)
unfoldable pub quoted_from : ℕ → List ℕ → Option Piece
quoted_from at text = quoted_at (drop at text) >>= λ x. Some (quoted_piece at x)
