-- A key of no more bytes than it may have characters is short.
use Rattle.std.{proofs.Common.{◌≡◌, ℕ, ◌≤◌, List, length, true, ap, arith}, proofs.lemmas.Bool.le-leb}
use Rattle.std.{proofs.lemmas.Str.{length-le-encodes, encodes-chars}, specs.Prelude.nat_le, specs.Str.{IsUtf8, chars}}

pub short_by_bytes : (k : List ℕ) (n : ℕ) → IsUtf8 k → length k ≤ n → nat_le (length (chars k)) n ≡ true
short_by_bytes k n u h = let e = ap length (encodes-chars k u) in le-leb _ _ (omega (arith, length-le-encodes (chars k), e, h))
