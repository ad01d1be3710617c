-- What a gap buffer of text holds: two halves, with room between them (own).
use Rattle.std.{specs.Prelude.{ℕ, List, ◌++◌, ◌≤◌, length, take, drop}, specs.Str.IsUtf8}

-- A text in front of a split and after it, and for how many bytes there is room between the two (own).
pub record TextGapView : Type 0 where
  pub front : List ℕ
  pub back : List ℕ
  pub room : ℕ

-- the text that is kept so (own)
abbrev pub buffer_text : TextGapView → List ℕ
buffer_text s = s.front ++ s.back

-- of these bytes so many are in front of the room, those after it begin so far on, and both are text (own)
pub record IsKept (bytes : List ℕ) (front back : ℕ) : Type 0 where
  pub order : front ≤ back
  pub within : back ≤ length bytes
  pub front_text : IsUtf8 (take front bytes)
  pub back_text : IsUtf8 (drop back bytes)
