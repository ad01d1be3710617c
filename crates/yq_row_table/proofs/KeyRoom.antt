-- A text has no more characters than bytes.
use Rattle.std.{proofs.Common.{◌≡◌, ℕ, ◌+◌, ◌≤◌, List, length, true, ap, arith}, proofs.lemmas.Bool.le-leb}
use Rattle.std.{proofs.lemmas.Str.{length-le-encodes, encodes-chars}, specs.Prelude.nat_le, specs.Str.{IsUtf8, chars}}

chars_le : (t : List ℕ) → IsUtf8 t → length (chars t) ≤ length t
chars_le t u = let e = ap length (encodes-chars t u) in omega (arith, length-le-encodes (chars t), e)

-- so many bytes are no more characters
pub room_by_bytes : (k c : List ℕ) (n : ℕ) → IsUtf8 k → IsUtf8 c → length k + length c ≤ n → nat_le (length (chars k) + length (chars c)) n ≡ true
room_by_bytes k c n u v h = le-leb _ _ (omega (arith, chars_le k u, chars_le c v))
