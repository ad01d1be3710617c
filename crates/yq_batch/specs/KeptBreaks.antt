-- Where a text keeps its first break, whatever is put on lines at places (YAML 1.2.2, 5.4; own).
use Rattle.std.{specs.Prelude.{◌≡◌, ◌⊎◌, ℕ, true, false, List, [], ◌∷◌, drop, take}, specs.List.list_any}
use Rattle.yq_core.{specs.Plain.holds_break, specs.Text.is_return}
use Rattle.yq_places.specs.FirstBreak.{first_break}
use Rattle.yq_batch.specs.declared.slots.SlotPlace.{SlotPlace}

-- no byte of a break is in a text (5.4)
abbrev pub IsUnbroken : List ℕ → Type 0
IsUnbroken t = (holds_break t ≡ false) × (list_any is_return t ≡ false)

-- a break is in a text that is between offsets of another one, and its first break is like the other's (own)
abbrev pub BreaksAlike : (t : List ℕ) → (start end : ℕ) → Type 0
BreaksAlike t start end = (holds_break (drop start (take end t)) ≡ true) × (first_break (drop start (take end t)) ≡ first_break t)

-- the same of what is between an offset and the first one of places (own)
abbrev pub BreaksAlikeUpto : (t : List ℕ) → ℕ → List SlotPlace → Type 0
BreaksAlikeUpto t at [] = ⊥
BreaksAlikeUpto t at (p ∷ ps) = BreaksAlike t at p.start

-- a break is in front of the first one of places, or that is on the first line, and the text's first break is like the first one after it, which comes before
-- the next place (own)
abbrev pub KeepsFirstBreak : (t : List ℕ) → List SlotPlace → Type 0
KeepsFirstBreak t [] = ⊥
KeepsFirstBreak t (p ∷ ps) = (holds_break (take p.start t) ≡ true) ⊎ (IsUnbroken (take p.start t) × BreaksAlikeUpto t p.end ps)
