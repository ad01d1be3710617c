-- The word of a command line that names its command (own).
use Rattle.std.{specs.Prelude.{ℕ, Bool, List, [], ◌∷◌, codes, if◌then◌else◌}, specs.List.list_any, specs.Str.bytes_eq}

-- the words that name a command
abbrev pub command_words : List (List ℕ)
command_words = codes "eval" ∷ codes "undo" ∷ codes "redo" ∷ codes "history" ∷ codes "squash" ∷ []

-- a word that names a command
abbrev pub is_command_word : List ℕ → Bool
is_command_word word = list_any (λ name. bytes_eq word name) command_words

-- `eval` is understood before a first word that names no command, and `e` is `eval`
abbrev pub with_command : List (List ℕ) → List (List ℕ)
with_command [] = codes "eval" ∷ []
with_command (word ∷ words) =
    if is_command_word word then word ∷ words
    else if bytes_eq word (codes "e") then codes "eval" ∷ words
    else codes "eval" ∷ word ∷ words
