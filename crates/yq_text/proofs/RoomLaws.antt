-- Where the split of a text may end up, in bytes, and what room there is.
use Rattle.std.proofs.Common.{rules, ◌≡◌, ℕ, ◌+◌, ◌-◌, ◌≤◌, List, ◌++◌, Fits, Vec, w64, drop, length, take, length-append, length-drop}
use Rattle.std.{proofs.Common.{length-take, vec_len}, specs.Global.Global, specs.Str.IsCharBoundary}
use Rattle.yq_text.{specs.TextGapBuffer.IsKept, proofs.SplitLaws.reaches}

-- how long a text is that is kept so
pub kept_length : (xs : List ℕ) (f b n : ℕ) → IsKept xs f b → n ≡ length xs → f + (n - b) ≡ length (take f xs ++ drop b xs)
kept_length xs f b n k e = search (rules, length-append, length-take, length-drop)

-- bytes that are written at the split, and those after it that are replaced
pub record IsRoom (v : Vec ℕ Global) (f b n gone : ℕ) : Type 0 where
  pub within : f + n ≤ length v.items
  pub fits : Fits w64 (b + gone)
  pub left : ((b + gone) - (f + n)) + n ≡ (b - f) + gone

pub is_room : (v : Vec ℕ Global) (ys : List ℕ) (f b gone : ℕ) → IsKept v.items f b → IsCharBoundary (drop b v.items) gone → length ys ≤ b - f + gone
    → IsRoom v f b (length ys) gone
is_room v ys f b gone k i l = search (rules, reaches)

-- the split moved to the end
pub record IsOn (v : Vec ℕ Global) (at f b : ℕ) : Type 0 where
  pub fits : Fits w64 (b + (at - f))
  pub within : b + (at - f) ≤ vec_len v
  pub place : f + ((b + (at - f)) - b) ≤ vec_len v
  pub room : (b + (at - f)) - at ≡ b - f
