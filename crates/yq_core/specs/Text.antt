-- White space, breaks, lines, and where a piece of a text ends.
use Rattle.std.specs.Prelude.{◌≡◌, ℕ, suc, Bool, true, false, ◌||◌, ◌&&◌, not, ◌==◌, List, [], ◌∷◌, ◌++◌, take, drop, Option, Some, None}
use Rattle.std.specs.Prelude.{if◌then◌else◌}

-- white space is a space or a tab (YAML 1.2.2, section 5.5)
abbrev pub is_white : ℕ → Bool
is_white b = b == 32 || b == 9

-- the byte of LF (YAML 1.2.2, section 5.4)
abbrev pub feed : ℕ
feed = 10

-- LF, with which each break ends (YAML 1.2.2, section 5.4)
abbrev pub is_feed : ℕ → Bool
is_feed b = b == 10

-- CR, which comes before LF alone (YAML 1.2.2, section 5.4)
abbrev pub is_return : ℕ → Bool
is_return b = b == 13

-- the text is empty (own)
abbrev pub is_empty : List ℕ → Bool
is_empty [] = true
is_empty (b ∷ bs) = false

-- a byte that passes the test is in front (own)
abbrev pub front : (ℕ → Bool) → List ℕ → Bool
front p [] = false
front p (b ∷ bs) = p b

-- the end is in front, or a byte that fails the test (own)
abbrev pub unless : (ℕ → Bool) → List ℕ → Bool
unless p [] = true
unless p (b ∷ bs) = not (p b)

-- a break is in front: LF or CR LF (YAML 1.2.2, section 5.4, without CR alone)
abbrev pub is_break : List ℕ → Bool
is_break [] = false
is_break (b ∷ bs) = is_feed b || (is_return b && front is_feed bs)

-- an LF or the end is in front (own)
abbrev pub at_feed : List ℕ → Bool
at_feed [] = true
at_feed (b ∷ bs) = is_feed b

-- white space or a break is in front (own)
abbrev pub is_space : List ℕ → Bool
is_space t = front is_white t || is_break t

-- a break or the end is in front (own)
abbrev pub ends_line : List ℕ → Bool
ends_line [] = true
ends_line (b ∷ bs) = is_break (b ∷ bs)

-- white space, a break or the end is in front (own)
abbrev pub separates : List ℕ → Bool
separates [] = true
separates (b ∷ bs) = is_space (b ∷ bs)

-- no space is in front (own)
abbrev pub no_space : List ℕ → Bool
no_space t = unless (λ b. b == 32) t

-- no white space is in front (own)
abbrev pub no_white : List ℕ → Bool
no_white t = unless is_white t

-- `---` or `...` is in front, before white space, a break or the end (YAML 1.2.2, sections 9.1.2 and 9.1.3)
abbrev pub is_marker : List ℕ → Bool
is_marker (a ∷ b ∷ c ∷ t) = ((a == 45 && b == 45 && c == 45) || (a == 46 && b == 46 && c == 46)) && separates t
is_marker _ = false

-- how far it is to the first rest that passes the test, or to the end (own)
unfoldable pub upto : (List ℕ → Bool) → List ℕ → ℕ
upto ends [] = 0
upto ends (b ∷ bs) = if ends (b ∷ bs) then 0 else suc (upto ends bs)

-- the text cut there (own)
abbrev pub cut : (List ℕ → Bool) → List ℕ → List ℕ × List ℕ
cut ends t = (take (upto ends t) t, drop (upto ends t) t)

-- no rest that begins inside p passes the test (own)
abbrev pub NoneIn : (List ℕ → Bool) → List ℕ → List ℕ → Type 0
NoneIn ends [] rest = Unit {0}
NoneIn ends (b ∷ p) rest = (ends (b ∷ (p ++ rest)) ≡ false) × NoneIn ends p rest

-- what follows the white space in front (own)
abbrev pub past_white : List ℕ → List ℕ
past_white t = drop (upto no_white t) t

-- how long the line in front is with its break (own)
unfoldable pub line_len : List ℕ → ℕ
line_len [] = 0
line_len (b ∷ bs) = if is_feed b then 1 else suc (line_len bs)

-- the line in front with its break, and what follows it (own)
abbrev pub cut_line : List ℕ → List ℕ × List ℕ
cut_line t = (take (line_len t) t, drop (line_len t) t)

-- a text, if there is one, before others (own)
abbrev pub with_first : Option (List ℕ) → List (List ℕ) → List (List ℕ)
with_first None texts = texts
with_first (Some text) texts = text ∷ texts

-- the lines with a byte put before the first one (own)
abbrev pub put_byte : ℕ → List (List ℕ) → List (List ℕ)
put_byte b [] = (b ∷ []) ∷ []
put_byte b (l ∷ ls) = (b ∷ l) ∷ ls

-- the lines of a text, each with its break; the last one may have none (own)
unfoldable pub text_lines : List ℕ → List (List ℕ)
text_lines [] = []
text_lines (b ∷ bs) = if is_feed b then (b ∷ []) ∷ text_lines bs else put_byte b (text_lines bs)

-- pieces in order, as one text (own)
abbrev pub joined : List (List ℕ) → List ℕ
joined [] = []
joined (p ∷ ps) = p ++ joined ps

-- a line with its break: an LF is at its end and nowhere else (own)
unfoldable pub is_line : List ℕ → Bool
is_line [] = false
is_line (b ∷ bs) = if is_feed b then is_empty bs else is_line bs
