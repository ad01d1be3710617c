-- How long the raw lines are that are written.
use Rattle.std.proofs.Common.{◌≡◌, ℕ, ◌+◌, ◌-◌, ◌≤◌, ◌^◌, List, [], ◌∷◌, ◌++◌, length, min, length-append, rules}
use Rattle.yq_core.{specs.BlockContent.text_of_line, specs.BlockWritten.{indented_text, raw_written}, specs.Text.{text_lines, joined}}

-- a number, or the largest one where it is larger
abbrev capped : ℕ → ℕ
capped n = min n (2 ^ 64 - 1)

pub len_step : (m : ℕ) (br t l a p all : List ℕ) (n w k : ℕ) → text_lines t ≡ l ∷ text_lines a → p ≡ text_of_line l → w ≡ capped (length (indented_text m p ++ br)) → k ≡ capped (n + w) →
    capped (n + length (joined (raw_written m br (text_lines t)))) ≡ capped (length all) → capped (k + length (joined (raw_written m br (text_lines a)))) ≡ capped (length all)
unfolding raw_written
len_step m br t l a p all n w k e is width sum so_far = search (rules, length-append)

pub len_end : (m : ℕ) (br t all : List ℕ) (n : ℕ) → t ≡ [] → capped (n + length (joined (raw_written m br (text_lines t)))) ≡ capped (length all) → n ≤ 2 ^ 64 - 1 → n ≡ capped (length all)
unfolding raw_written text_lines
len_end m br t all n h so_far fits = search rules
