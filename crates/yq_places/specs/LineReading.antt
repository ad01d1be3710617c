-- Reading (own; you may skip it): lines and gaps in a text, as the code cuts them.
use Rattle.std.{specs.Prelude.{◌≡◌, ◌⊎◌, ℕ, ◌+◌, ◌-◌, List, [], ◌∷◌, ◌++◌, length, drop, take}, specs.Str.{IsCharBoundary, IsUtf8}}
use Rattle.yq_text.{specs.Halves.whole, specs.declared.halves.Halves.Halves}
use Rattle.yq_documents.specs.Pieces.{TextPiece}
use Rattle.yq_places.{specs.FirstPlaces.{first_out, piece_between}, specs.Placements.{LinesIn, lines_between}}

-- LF, CR LF or nothing (5.4).
abbrev pub IsLastBreak : List ℕ → Type 0
IsLastBreak t = (t ≡ []) ⊎ ((t ≡ 10 ∷ []) ⊎ (t ≡ 13 ∷ (10 ∷ [])))

-- Lines are in a text from a place on up to another one, in bytes.
pub record CutsLines (t : List ℕ) (from stop : ℕ) : Type 0 where
  pub before : List ℕ
  pub own : List ℕ
  pub after : List ℕ
  pub text : t ≡ before ++ (own ++ after)
  pub from_is : from ≡ length before
  pub stop_is : stop ≡ length (before ++ own)
  pub starts : IsCharBoundary t from
  pub stops : IsCharBoundary t stop

-- these lines
abbrev pub line_list : {t : List ℕ} {from stop : ℕ} → CutsLines t from stop → LinesIn
line_list h = lines_between h.before h.own h.after

-- A gap is in a text from a place on, in bytes, up to a whole character.
pub record GapIsThere (t : List ℕ) (start : ℕ) (gap : List ℕ) : Type 0 where
  pub before : List ℕ
  pub rest : List ℕ
  pub text : t ≡ before ++ (gap ++ rest)
  pub start_is : start ≡ length before
  pub end : IsCharBoundary t (start + length gap)

-- the piece of a text from a place on up to another one, in bytes
abbrev pub piece_at : (start end : ℕ) → List ℕ → TextPiece
piece_at start end t = piece_between (take start t) (take (end - start) (drop start t)) (drop (end - start) (drop start t))

-- Whole characters are in a text between two others.
pub record LiesBetween (t before after : List ℕ) : Type 0 where
  pub own : List ℕ
  pub text : t ≡ before ++ (own ++ after)
  pub utf8 : IsUtf8 own

-- This is what is between two texts in another one, each of which is in two halves.
abbrev pub CutsBetween : (t before after : Halves) → TextPiece → Type 0
CutsBetween t before after p = (h : LiesBetween (whole t) (whole before) (whole after)) → p ≡ piece_between (whole before) h.own (whole after)

-- what is taken out with the first item or entry of a compact collection, by where that begins and ends
abbrev pub first_out_at : (start end : ℕ) → List ℕ → TextPiece
first_out_at start end t = first_out (piece_at start end t)
