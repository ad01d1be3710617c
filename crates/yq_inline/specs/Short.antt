-- Scalars and keys as they are written most often (own; you may skip it).
use Rattle.std.specs.Prelude.{◌≡◌, ℕ, Bool, true, ◌||◌, ◌&&◌, ◌==◌, nat_le, List, ◌∷◌, drop, Option, Some}
use Rattle.yq_core.{specs.Borrowed.borrows_text, specs.Nodes.begins_with, specs.PlacedReading.split_key, specs.Quoted.IsQuotedText}
use Rattle.yq_core.{specs.Reading.read_scalar, specs.Scalars.{begins_scalar, is_quoted}, specs.Text.front}

-- a byte is in front with which no gap and no comment begins: `"`, or one after `#` (own)
abbrev pub is_token : List ℕ → Bool
is_token t = front (λ b. b == 34 || nat_le 36 b) t

-- a plain scalar that a run of bytes spells ends here in a flow collection (own)
abbrev pub stops_plain : List ℕ → Bool
stops_plain t = (begins_with 44 t || (begins_with 93 t || begins_with 125 t)) || (begins_with 58 t && begins_with 32 (drop 1 t))

-- A scalar is in front, whatever lines it may have, and before that rest; the text lends it (own).
pub record IsShortScalar (t piece rest : List ℕ) : Type 0 where
  pub begins : begins_scalar true t ≡ true
  pub read : (spaces : Option ℕ) → read_scalar true spaces t ≡ Some (piece, rest)
  pub quoted : is_quoted piece ≡ true → IsQuotedText piece
  pub borrows : borrows_text piece ≡ true

-- Such a scalar is in front, and after it `:`, one space and that value (own).
pub record IsSpacedKey (t piece value : List ℕ) : Type 0 where
  pub rest : List ℕ
  pub scalar : IsShortScalar t piece rest
  pub spaced : rest ≡ 58 ∷ 32 ∷ value

-- A key is in front, and after its `:` that rest; the text lends it (own).
pub record IsShortKey (t piece rest : List ℕ) : Type 0 where
  pub read : split_key t ≡ Some (piece, rest)
  pub quoted : is_quoted piece ≡ true → IsQuotedText piece
  pub borrows : borrows_text piece ≡ true
