-- Lines put after a text (YAML 1.2.2, 5.4; own).
use Rattle.std.specs.Prelude.{ℕ, List, [], ◌∷◌, ◌++◌, Bool, true, false}
use Rattle.yq_core.specs.Text.{is_feed}

-- whether a text is empty or ends in a break (5.4)
unfoldable pub is_closed_text : List ℕ → Bool
is_closed_text [] = true
is_closed_text (b ∷ []) = is_feed b
is_closed_text (b ∷ (d ∷ t)) = is_closed_text (d ∷ t)

-- lines put after a line: with a break after them, or, where that line has none, with the break in front of them, so that the text again ends without one
-- (own)
abbrev pub closed_lines_put : (closed : Bool) → List ℕ → List ℕ → List ℕ
closed_lines_put true br lines = lines ++ br
closed_lines_put false br lines = br ++ lines
