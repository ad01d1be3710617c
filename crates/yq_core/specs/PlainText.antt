-- What may be written plain, on one line (own).
use Rattle.std.{specs.Prelude.{ℕ, Bool, true, false, ◌||◌, ◌&&◌, not, ◌==◌, List, [], ◌∷◌}, specs.List.list_all, specs.Str.chars}
use Rattle.yq_core.{specs.Characters.is_text_char, specs.Text.{is_empty, is_feed, is_return, front}}
use Rattle.yq_core.specs.Plain.{is_flow_indicator, is_indicator}

-- a character that is written as it is: one of a text, but no tab, CR, LF, U+0085, U+2028 or U+2029 (own)
abbrev pub is_plain_char : ℕ → Bool
is_plain_char c = is_text_char c && not (c == 9 || is_feed c || is_return c || c == 133 || c == 8232 || c == 8233)

-- It begins with neither a space nor an indicator, but for a `-` before a character other than a space (own).
abbrev pub begins_plainly : List ℕ → Bool
begins_plainly [] = false
begins_plainly (b ∷ bs) = not (b == 32) && (not (is_indicator b) || (b == 45 && front (λ c. not (c == 32)) bs))

-- In front is `: `, ` #`, a `:` or a space at the end, or in flow an indicator of flow (own).
abbrev pub needs_quotes : Bool → List ℕ → Bool
needs_quotes flow [] = false
needs_quotes flow (b ∷ bs) =
    (flow && is_flow_indicator b)
    || (b == 58 && (is_empty bs || front (λ c. c == 32) bs))
    || (b == 32 && (is_empty bs || front (λ c. c == 35) bs))

-- no rest of the text passes the test (own)
abbrev pub no_rest : (List ℕ → Bool) → List ℕ → Bool
no_rest test [] = true
no_rest test (b ∷ bs) = not (test (b ∷ bs)) && no_rest test bs

-- the plain key `<<`, with which the merge key of YAML 1.1 merges mappings (own)
abbrev pub is_merge : List ℕ → Bool
is_merge (a ∷ b ∷ []) = a == 60 && b == 60
is_merge _ = false

-- `---` or `...` is in front, whatever follows it (own)
abbrev pub begins_marker : List ℕ → Bool
begins_marker (a ∷ b ∷ c ∷ t) = (a == 45 && b == 45 && c == 45) || (a == 46 && b == 46 && c == 46)
begins_marker _ = false

-- a text that may be plain on one line, in flow or not, and be read as it is (own)
abbrev pub is_plain_text : Bool → List ℕ → Bool
is_plain_text flow t = list_all is_plain_char (chars t) && begins_plainly t && no_rest (needs_quotes flow) t && not (is_merge t) && not (begins_marker t)
