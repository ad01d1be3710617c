-- How a line begins, and blank lines.
use Rattle.std.{specs.Prelude.{ℕ, Bool, ◌==◌, List, drop}, specs.List.prefix_len}
use Rattle.yq_core.specs.Text.{front, past_white, ends_line}

-- with how many spaces a line begins: its indentation, in columns (YAML 1.2.2, section 6.1)
abbrev pub spaces : List ℕ → ℕ
spaces l = prefix_len (λ b. b == 32) l

-- what comes after them (own)
abbrev pub without_spaces : List ℕ → List ℕ
without_spaces l = drop (spaces l) l

-- a tab is in front (YAML 1.2.2, section 5.5)
abbrev pub is_tab : List ℕ → Bool
is_tab t = front (λ b. b == 9) t

-- a `#` is in front, with which a comment begins (YAML 1.2.2, section 6.6)
abbrev pub is_hash : List ℕ → Bool
is_hash t = front (λ b. b == 35) t

-- a line of white space alone (own)
abbrev pub is_blank : List ℕ → Bool
is_blank l = ends_line (past_white l)
