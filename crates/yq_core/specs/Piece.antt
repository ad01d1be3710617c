-- Where a scalar is in a text.
use Rattle.std.specs.Prelude.{◌≡◌, ℕ, suc, ◌+◌, false, Option, Some, None, List, ◌++◌, length, drop, ℤ, pos, negsuc}
use Rattle.yq_core.{specs.declared.piece.Piece.Piece, specs.declared.style.Style.Style, specs.declared.style.Place.Place}
use Rattle.yq_core.{specs.Answers.◌>>=◌, specs.Plain.{IsPlain, plain_at}, specs.Writable.in_flow}
use Rattle.yq_core.specs.declared.style.Style.TheVariants as styles
use Rattle.yq_core.specs.declared.style.Place.TheVariants as places

-- the piece of a plain or quoted scalar, by where it begins and ends (own)
abbrev pub inline_piece : Style → ℕ → ℕ → Piece
inline_piece style start end = record { style = style; start = start; head_end = end; raw_start = end; end = end; indent = 0; keep = false }

-- one column more than an indentation from -1 on (YAML 1.2.2, section 6.1)
abbrev pub deeper : ℤ → ℕ
deeper (pos n) = suc n
deeper (negsuc n) = 0

-- With how many spaces a further line of a plain scalar begins at least: in block more than its parent has, in flow any number. A key has one
-- line (YAML 1.2.2, section 7.3.3; own).
abbrev pub further_spaces : Place → ℤ → Option ℕ
further_spaces places.Block n = Some (deeper n)
further_spaces places.Flow n = Some 0
further_spaces places.BlockKey n = None
further_spaces places.FlowKey n = None

-- the piece is that of a plain scalar that begins at this offset of the text (YAML 1.2.2, section 7.3.3)
pub record IsPlainPiece (place : Place) (n : ℤ) (at : ℕ) (text : List ℕ) (p : Piece) : Type 0 where
  pub scalar : List ℕ
  pub rest : List ℕ
  pub is_located : drop at text ≡ scalar ++ rest
  pub plain : IsPlain (in_flow place) (further_spaces place n) scalar rest
  pub piece : p ≡ inline_piece styles.Plain at (at + length scalar)

-- the piece of the plain scalar that begins at this offset, if one does (own)
unfoldable pub plain_from : Place → ℤ → ℕ → List ℕ → Option Piece
plain_from place n at text =
    plain_at (in_flow place) (further_spaces place n) (drop at text) >>= λ x. Some (inline_piece styles.Plain at (at + length x.0))
