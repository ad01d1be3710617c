-- The comments that belong to a row.
use Rattle.std.specs.Prelude.{ℕ, Bool, true, ◌&&◌, ◌==◌, List, [], ◌∷◌, drop, Option, Some, None, if◌then◌else◌}
use Rattle.yq_core.specs.Text.{cut, front, ends_line, past_white, text_lines, with_first}

-- a comment's text without the one space that may begin it (own)
abbrev pub less_space : List ℕ → List ℕ
less_space [] = []
less_space (b ∷ bs) = if b == 32 then bs else b ∷ bs

-- the text of a comment after white space: what follows the `#` up to the break, less one leading space (YAML 1.2.2, section 6.6; own)
abbrev pub comment_text : List ℕ → Option (List ℕ)
comment_text t = let c = past_white t in if front (λ b. b == 35) c then Some (less_space (cut ends_line (drop 1 c)).0) else None

-- the line comment of a tail: the comment in it, if there is one (own)
abbrev pub line_comment : List ℕ → Option (List ℕ)
line_comment tail = comment_text tail

-- each line is a comment line (own)
abbrev pub are_comments : List (List ℕ) → Bool
are_comments [] = true
are_comments (l ∷ ls) = front (λ b. b == 35) (past_white l) && are_comments ls

-- the texts of the comment lines that end a list of lines (own)
abbrev pub last_comments : List (List ℕ) → List (List ℕ)
last_comments [] = []
last_comments (l ∷ ls) = if are_comments (l ∷ ls) then with_first (comment_text l) (last_comments ls) else last_comments ls

-- the head comment of a gap: the texts of the run of comment lines, of any indentation, that ends it (own)
abbrev pub head_comment : List ℕ → List (List ℕ)
head_comment gap = last_comments (text_lines gap)
