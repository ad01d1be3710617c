-- Splices of a text: what it is to do one, to do several in order, and to take them back in reverse.
use Rattle.std.specs.Prelude.{◌≡◌, ℕ, ◌+◌, ◌-◌, ◌^◌, ◌&&◌, Bool, List, [], ◌∷◌, ◌++◌, length, take, drop, nat_le, nat_lt, nat_eq}
use Rattle.std.{specs.Prelude.{if◌then◌else◌, Option, Some, None, option_and_then}, specs.List.starts_with}

-- a splice: at a byte offset, the old bytes are replaced by the new ones (own)
pub record Splice : Type 0 where
  pub at : ℕ
  pub old : List ℕ
  pub new : List ℕ

-- the splice that takes it back (own)
abbrev pub swapped : Splice → Splice
swapped s = record { at = s.at; old = s.new; new = s.old }

-- its old bytes are between a front of as many bytes as its offset says and a rest, and its new bytes between the same two (own)
pub record Exchanges (s : Splice) (b c : List ℕ) : Type 0 where
  pub front : List ℕ
  pub rest : List ℕ
  pub offset : length front ≡ s.at
  pub before : b ≡ front ++ (s.old ++ rest)
  pub after : c ≡ front ++ (s.new ++ rest)

-- whether its old bytes are at its offset (own)
abbrev pub is_found : Splice → List ℕ → Bool
is_found s b = nat_le s.at (length b) && starts_with nat_eq (drop s.at b) s.old

-- a splice done, where its old bytes are (own)
unfoldable pub change_done : Splice → List ℕ → Option (List ℕ)
change_done s b = if is_found s b then Some (take s.at b ++ s.new ++ drop (length s.old) (drop s.at b)) else None

-- splices done in order, each in the bytes as they then are (own)
abbrev pub all_done : List Splice → List ℕ → Option (List ℕ)
all_done [] b = Some b
all_done (s ∷ ss) b = option_and_then (all_done ss) (change_done s b)

-- the splices that take them back: each swapped, the last one first (own)
abbrev pub flipped : List Splice → List Splice
flipped [] = []
flipped (s ∷ ss) = flipped ss ++ swapped s ∷ []

-- the length that a splice leaves of a length within which it lies, where 64 bits hold it (own)
unfoldable pub length_done : Splice → ℕ → Option ℕ
length_done s n = if nat_le (s.at + length s.old) n && nat_lt (n - length s.old + length s.new) (2 ^ 64) then Some (n - length s.old + length s.new) else None

-- the length that splices leave, each lying within the length reached so far (own)
abbrev pub lengths_done : List Splice → ℕ → Option ℕ
lengths_done [] n = Some n
lengths_done (s ∷ ss) n = option_and_then (lengths_done ss) (length_done s n)
