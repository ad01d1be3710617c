-- Pieces of a text, which can be joined to texts that may be read (own).
use Rattle.std.{specs.Prelude.{◌≡◌, ◌<◌, ℕ, List, [], ◌∷◌, ◌++◌, Some, true, false}, specs.Str.IsUtf8}
use Rattle.yq_core.{specs.Characters.is_text, specs.Text.is_feed}
use Rattle.yq_row_table.specs.Rows.{Cut, cut_text}
use Rattle.yq_documents.specs.Reading.{read_at}

-- A piece of a text: whole characters, which a text may hold, with an LF after each CR (YAML 1.2.2, sections 5.1 and 5.4; own).
pub record IsPiece (t : List ℕ) : Type 0 where
  pub utf8 : IsUtf8 t
  pub characters : is_text t ≡ true

-- A text that reads as a cut is a piece.
abbrev pub TextIsPiece : Type 0
TextIsPiece = (c : Cut) → read_at (cut_text c) ≡ Some c → IsPiece (cut_text c)

-- Two pieces that are joined are one piece.
abbrev pub PiecesJoined : Type 0
PiecesJoined = (a b : List ℕ) → IsPiece a → IsPiece b → IsPiece (a ++ b)

-- A piece that is cut after an LF is two pieces.
abbrev pub LineCut : Type 0
LineCut = (a b : List ℕ) → IsPiece ((a ++ 10 ∷ []) ++ b) → IsPiece (a ++ 10 ∷ []) × IsPiece b

-- the first byte is ASCII and no LF, or there is none
abbrev pub BeginsPiece : List ℕ → Type 0
BeginsPiece [] = Unit {0}
BeginsPiece (b ∷ t) = (b < 128) × (is_feed b ≡ false)

-- A piece that is cut before such a byte is two pieces.
abbrev pub ByteCut : Type 0
ByteCut = (a b : List ℕ) → IsPiece (a ++ b) → BeginsPiece b → IsPiece a × IsPiece b
