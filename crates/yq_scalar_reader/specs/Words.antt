-- Words of a plain scalar that one space separates (own).
use Rattle.std.specs.Prelude.{◌≡◌, ℕ, ◌+◌, Bool, false, ◌||◌, ◌&&◌, not, ◌==◌, drop, List, [], ◌∷◌, Option}
use Rattle.yq_core.{specs.Plain.{ends_plain, ends_text}, specs.Runs.is_word_byte, specs.Text.{front, is_empty, is_space, upto}}

-- one space is in front, and after it such a byte (own)
abbrev pub begins_word : List ℕ → Bool
begins_word [] = false
begins_word (b ∷ bs) = b == 32 && front is_word_byte bs

-- outside flow a plain scalar goes on over the byte in front, whatever the next lines are: one space before a word, or what is neither white space,
-- a break nor its end (own)
abbrev pub goes_on : List ℕ → Bool
goes_on t = begins_word t || (not (is_empty t) && (not (is_space t) && not (ends_text false t)))

-- outside flow a plain scalar goes on over so many bytes, however deep a further line has to begin (own)
abbrev pub GoesOnOver : ℕ → List ℕ → Type 0
GoesOnOver n t = (spaces : Option ℕ) → upto (ends_plain false spaces) t ≡ n + upto (ends_plain false spaces) (drop n t)
