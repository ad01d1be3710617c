-- What may be between two tokens of a flow collection: white space, breaks and comments (YAML 1.2.2, sections 6.6 and 6.7).
use Rattle.std.specs.Prelude.{◌≡◌, ℕ, Bool, true, false, ◌||◌, ◌&&◌, not, ◌==◌, List, [], ◌∷◌, ◌++◌, if◌then◌else◌}
use Rattle.yq_core.{specs.Text.{is_feed, is_space, is_marker}, specs.declared.gap.GapPlace.GapPlace}
use Rattle.yq_core.specs.declared.gap.GapPlace.TheVariants.{Token, White, Break, Comment}

-- Whether a gap goes on with this byte, by what comes before it: white space or a break, a `#` after these, and each byte of a comment
-- (YAML 1.2.2, section 6.6).
abbrev pub goes : GapPlace → ℕ → List ℕ → Bool
goes Token b bs = is_space (b ∷ bs)
goes White b bs = is_space (b ∷ bs) || b == 35
goes Break b bs = is_space (b ∷ bs) || b == 35
goes Comment b bs = true

-- inside a comment (own)
abbrev pub in_comment : GapPlace → Bool
in_comment Token = false
in_comment White = false
in_comment Break = false
in_comment Comment = true

-- at the beginning of a line (own)
abbrev pub at_line_start : GapPlace → Bool
at_line_start Token = false
at_line_start White = false
at_line_start Break = true
at_line_start Comment = false

-- what comes before the byte after this one: a comment goes on up to the LF of its line (YAML 1.2.2, section 6.6)
abbrev pub next_gap_place : GapPlace → ℕ → GapPlace
next_gap_place before b = if is_feed b then Break else (if b == 35 || in_comment before then Comment else White)

-- what comes after these bytes (own)
abbrev pub gap_place_after : GapPlace → List ℕ → GapPlace
gap_place_after before [] = before
gap_place_after before (b ∷ p) = gap_place_after (next_gap_place before b) p

-- a gap goes on with each of these bytes (own)
abbrev pub AllGo : GapPlace → List ℕ → List ℕ → Type 0
AllGo before [] rest = Unit {0}
AllGo before (b ∷ p) rest = (goes before b (p ++ rest) ≡ true) × AllGo (next_gap_place before b) p rest

-- a gap doesn't go on here (own)
abbrev pub stops : GapPlace → List ℕ → Bool
stops before [] = true
stops before (b ∷ bs) = not (goes before b bs)

-- A gap after a token, as long as it may be; what follows it is no document marker in column 0 (YAML 1.2.2, sections 6.7 and 9.1.2).
pub record IsInlineGap (p rest : List ℕ) : Type 0 where
  pub inside : AllGo Token p rest
  pub ends : stops (gap_place_after Token p) rest ≡ true
  pub unmarked : (at_line_start (gap_place_after Token p) && is_marker rest) ≡ false
