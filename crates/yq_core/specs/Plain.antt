-- Plain scalars (YAML 1.2.2, section 7.3.3).
use Rattle.std.specs.Prelude.{◌≡◌, ℕ, Bool, true, false, ◌||◌, ◌&&◌, not, ◌==◌, nat_le, Option, Some, None, List, [], ◌∷◌, ◌++◌}
use Rattle.std.{specs.Prelude.if◌then◌else◌, specs.List.{prefix_len, list_any}, specs.Option.option_or}
use Rattle.yq_core.specs.Text.{is_empty, is_feed, is_space, front, separates, is_marker, cut, NoneIn}

-- an indicator of flow collections: `,`, `[`, `]`, `{` or `}` (YAML 1.2.2, section 5.3)
abbrev pub is_flow_indicator : ℕ → Bool
is_flow_indicator b = b == 44 || b == 91 || b == 93 || b == 123 || b == 125

-- an indicator: one of those of flow, or `-`, `?`, `:`, `#`, `&`, `*`, `!`, `|`, `>`, `'`, `"`, `%`, `@` or a backquote (YAML 1.2.2,
-- section 5.3)
abbrev pub is_indicator : ℕ → Bool
is_indicator b =
    b == 45 || b == 63 || b == 58 || is_flow_indicator b || b == 35 || b == 38 || b == 42 || b == 33
    || b == 124 || b == 62 || b == 39 || b == 34 || b == 37 || b == 64 || b == 96

-- a safe character is in front: no white space, no break, and in flow no indicator of flow (YAML 1.2.2, section 7.3.3)
abbrev pub is_safe : Bool → List ℕ → Bool
is_safe flow t = not (separates t) && not (flow && front is_flow_indicator t)

-- a plain scalar may begin here: not with white space, a break or an indicator, but for a `-`, `?` or `:` before a safe character (YAML 1.2.2,
-- section 7.3.3)
abbrev pub begins_plain : Bool → List ℕ → Bool
begins_plain flow [] = false
begins_plain flow (b ∷ bs) = not (is_space (b ∷ bs)) && (not (is_indicator b) || ((b == 45 || b == 63 || b == 58) && is_safe flow bs))

-- what no plain scalar holds: a `:` without a safe character after it, and in flow an indicator of flow (YAML 1.2.2, section 7.3.3)
abbrev pub ends_text : Bool → List ℕ → Bool
ends_text flow [] = false
ends_text flow (b ∷ bs) = (b == 58 && not (is_safe flow bs)) || (flow && is_flow_indicator b)

-- no white space and no break is in front (own)
abbrev pub no_gap : List ℕ → Bool
no_gap t = not (is_space t)

-- what comes after the last LF of a text, if it has one (own)
abbrev pub last_line : List ℕ → Option (List ℕ)
last_line [] = None
last_line (b ∷ bs) = option_or (last_line bs) (if is_feed b then Some bs else None)

-- A further line of a plain scalar begins with so many spaces at least, and with no marker (YAML 1.2.2, sections 6.1 and 9.1.2). Where no
-- number is given, no further line may follow.
abbrev pub begins_deep : Option ℕ → List ℕ → Bool
begins_deep None line = false
begins_deep (Some n) line = nat_le n (prefix_len (λ b. b == 32) line) && not (is_marker line)

-- Text after white space and breaks is on the line of the scalar before them, or on a further line that it may have (own).
abbrev pub plain_may_follow : Option ℕ → Option (List ℕ) → List ℕ → Bool
plain_may_follow spaces None text = true
plain_may_follow spaces (Some indentation) text = begins_deep spaces (indentation ++ text)

-- After white space and breaks a plain scalar goes on with text that is no comment and doesn't end it (YAML 1.2.2, section 7.3.3).
abbrev pub follows : Bool → Option ℕ → List ℕ → List ℕ → Bool
follows flow spaces gap text =
    not (is_empty text) && not (front (λ b. b == 35) text) && not (ends_text flow text) && plain_may_follow spaces (last_line gap) text

-- A plain scalar has to end here: at the end, where its text ends, or at white space or a break after which it doesn't go on (YAML 1.2.2,
-- section 7.3.3).
abbrev pub ends_plain : Bool → Option ℕ → List ℕ → Bool
ends_plain flow spaces t = if is_space t then not (follows flow spaces (cut no_gap t).0 (cut no_gap t).1) else (is_empty t || ends_text flow t)

-- A plain scalar before a rest: it begins as one, and goes on up to where it has to end (YAML 1.2.2, section 7.3.3).
pub record IsPlain (flow : Bool) (spaces : Option ℕ) (p rest : List ℕ) : Type 0 where
  pub begins : begins_plain flow (p ++ rest) ≡ true
  pub inside : NoneIn (ends_plain flow spaces) p rest
  pub ends : ends_plain flow spaces rest ≡ true

-- the plain scalar in front and what follows it, if one begins there (own)
unfoldable pub plain_at : Bool → Option ℕ → List ℕ → Option (List ℕ × List ℕ)
plain_at flow spaces t = if begins_plain flow t then Some (cut (ends_plain flow spaces) t) else None

-- a break is in the text (own)
abbrev pub holds_break : List ℕ → Bool
holds_break t = list_any is_feed t
