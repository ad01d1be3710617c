-- Ends of lines, blank lines, comment lines and gaps.
use Rattle.std.specs.Prelude.{◌≡◌, ◌⊎◌, ℕ, true, false, ◌&&◌, List, [], ◌∷◌, ◌++◌}
use Rattle.yq_core.specs.Text.{is_white, is_empty, is_break, is_line, ends_line, NoneIn, joined}

-- white space alone (YAML 1.2.2, section 6.2)
abbrev pub IsWhite : List ℕ → Type 0
IsWhite [] = Unit {0}
IsWhite (b ∷ bs) = (is_white b ≡ true) × IsWhite bs

-- one break, or nothing at the end of the text (YAML 1.2.2, section 5.4)
abbrev pub IsBreak : List ℕ → List ℕ → Type 0
IsBreak p rest = ((is_break p && is_line p) ≡ true) ⊎ ((p ≡ []) × (rest ≡ []))

-- nothing, or a `#` and what comes after it on its line (YAML 1.2.2, section 6.6)
abbrev pub IsComment : List ℕ → List ℕ → Type 0
IsComment [] break = Unit {0}
IsComment (b ∷ bs) break = (b ≡ 35) × NoneIn ends_line bs break

-- the end of a line: white space, an optional comment and a break (YAML 1.2.2, section 6.6)
pub record IsLineEnd (white comment p rest : List ℕ) : Type 0 where
  pub break : List ℕ
  pub spelled : p ≡ white ++ (comment ++ break)
  pub blank : IsWhite white
  pub as_comment : IsComment comment break
  pub ends : IsBreak break rest

-- a blank line or a comment line (YAML 1.2.2, section 6.6)
pub record IsGapLine (p rest : List ℕ) : Type 0 where
  pub white : List ℕ
  pub comment : List ℕ
  pub line : IsLineEnd white comment p rest
  pub some : is_empty p ≡ false

-- each of these is a blank line or a comment line, before the next one (own)
abbrev pub AreGapLines : List (List ℕ) → List ℕ → Type 0
AreGapLines [] rest = Unit {0}
AreGapLines (l ∷ ls) rest = IsGapLine l (joined ls ++ rest) × AreGapLines ls rest

-- a gap: blank lines and comment lines in any order (own)
pub record IsGap (p rest : List ℕ) : Type 0 where
  pub lines : List (List ℕ)
  pub spelled : p ≡ joined lines
  pub each : AreGapLines lines rest
