-- Lines, counted as they are given.
use Rattle.std.specs.Prelude.{ℕ, zero, suc, ◌+◌, ◌-◌, ◌^◌, min, Bool, true, List, length, drop}
use Rattle.yq_core.specs.Text.{is_feed, front, cut_line, text_lines}

-- the last value of a count, at which it stays (own)
abbrev pub last_count : ℕ
last_count = 2 ^ 64 - 1

-- a count that rose by one line (own)
abbrev pub next_count : ℕ → ℕ
next_count count = min (count + 1) last_count

-- a count that rose by so many lines (own)
abbrev pub count_after : ℕ → ℕ → ℕ
count_after zero count = count
count_after (suc n) count = count_after n (next_count count)

-- a line begins at this offset: at the beginning of a text, or after the LF of a break (YAML 1.2.2, section 5.4; own)
abbrev pub begins_line : List ℕ → ℕ → Bool
begins_line t zero = true
begins_line t (suc n) = front is_feed (drop n t)

-- the line that begins at an offset, with its break (own)
abbrev pub line_at : List ℕ → ℕ → List ℕ
line_at t at = (cut_line (drop at t)).0

-- how many lines a text has (own)
abbrev pub line_count : List ℕ → ℕ
line_count t = length (text_lines t)
