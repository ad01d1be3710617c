-- Splices as they are done, or as they are taken back.
use Rattle.std.specs.Prelude.{◌≡◌, ◌⊎◌, ◌+◌, ◌-◌, ◌^◌, ◌<◌, ◌≤◌, ◌++◌, ℕ, List, Bool, true, false, Some, drop, length, slice_get, take}
use Rattle.yq_text.specs.Splice.{Splice, all_done, flipped}
use Rattle.yq_journal.{specs.PieceTable.splice_of_parts, specs.declared.applies.Turned.Turned}

-- splices in the one direction or the other (own)
abbrev pub flipped_if : Bool → List Splice → List Splice
flipped_if false ss = ss
flipped_if true ss = flipped ss

-- splices in a direction are some of them, and then the others (own)
abbrev pub ArePartedInto : Bool → (all first others : List Splice) → Type 0
ArePartedInto back all first others = flipped_if back all ≡ flipped_if back first ++ flipped_if back others

-- the splices in their direction (own)
abbrev pub turned_splices : Turned → List Splice
turned_splices t = flipped_if t.back t.splices.now

-- the splice of that number, in their direction, has these parts (own)
abbrev pub IsNth : Turned → ℕ → ℕ → List ℕ → List ℕ → Type 0
IsNth t k at old new = slice_get (turned_splices t) k ≡ Some (splice_of_parts at old new)

-- over a splice that puts so many bytes in the place of others, a byte that isn't one of these is after it where it was, moved by what the lengths differ (own)
abbrev pub IsMovedFrom : (i start old_len new_len j : ℕ) → Type 0
IsMovedFrom i start old_len new_len j = ((i < start) × (j ≡ i)) ⊎ ((start + new_len ≤ i) × (j ≡ i - new_len + old_len))

-- so many splices that come first in their direction make this of a text (own)
abbrev pub FirstMake : Turned → ℕ → (text after : List ℕ) → Type 0
FirstMake t count text after = all_done (take count (turned_splices t)) text ≡ Some after

-- this holds of what they make of a text, if they can be done (own)
abbrev pub IfFirstMake : Turned → ℕ → List ℕ → (List ℕ → Type 0) → Type 0
IfFirstMake t count text P = (after : List ℕ) → FirstMake t count text after → P after

-- bytes at an offset lie in a text, whose length is one of 64 bits (own)
abbrev pub FitAt : ℕ → (bytes text : List ℕ) → Type 0
FitAt at bytes text = (at + length bytes ≤ length text) × (length text < 2 ^ 64)

-- these bytes are at an offset of a text (own)
abbrev pub HoldsAt : ℕ → (bytes text : List ℕ) → Type 0
HoldsAt at bytes text = take (length bytes) (drop at text) ≡ bytes
