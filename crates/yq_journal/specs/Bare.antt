-- Texts that are in a JSON string as they are (own).
use Rattle.std.specs.Prelude.{◌≡◌, ◌<◌, ◌≤◌, ℕ, ◌==◌, ◌||◌, Bool, false, List, get_or, length, nat_le, nat_lt}

-- a byte that JSON escapes, or one from a limit on (RFC 8259, section 7)
abbrev pub is_special : ℕ → ℕ → Bool
is_special limit b = nat_lt b 32 || b == 34 || b == 92 || nat_le limit b

-- none of the bytes of a text from i up to j is special
abbrev pub IsBareBetween : ℕ → List ℕ → ℕ → ℕ → Type 0
IsBareBetween limit t i j = (k : ℕ) → i ≤ k → k < j → is_special limit (get_or t k 0) ≡ false

-- no byte of a text is special
abbrev pub IsBare : ℕ → List ℕ → Type 0
IsBare limit t = IsBareBetween limit t 0 (length t)
