-- Reading (own; you may skip it: the clauses `found` and `only` show that it agrees with the grammar).
use Rattle.std.specs.Prelude.{ℕ, suc, zero, ◌+◌, ◌*◌, Bool, false, ◌||◌, ◌&&◌, not, ◌==◌, Option, Some, None, List, [], ◌∷◌, take, drop}
use Rattle.std.{specs.Prelude.if◌then◌else◌, specs.Char.digit_value}
use Rattle.yq_core.{specs.Answers.{◌>>=◌, more}, specs.Text.{is_feed, is_break, is_marker, front}, specs.SchemaReading.is_digit}
use Rattle.yq_core.specs.Quoted.{letters, beside, is_unicode}

-- the value of a hexadecimal digit (own)
abbrev pub hex_digit : ℕ → Option ℕ
hex_digit b = if is_digit 16 b then Some (digit_value b) else None

-- the number that n digits in front write after v (own)
unfoldable pub hex : ℕ → ℕ → List ℕ → Option ℕ
hex zero v t = Some v
hex (suc n) v [] = None
hex (suc n) v (b ∷ bs) = hex_digit b >>= λ d. hex n (v * 16 + d) bs

-- the character of that number, and how many bytes its letter and digits are (own)
abbrev pub coded : ℕ → Option ℕ → Option (ℕ × ℕ)
coded n None = None
coded n (Some v) = if is_unicode v then Some (v, suc n) else None

-- the character of a letter, and one byte (own)
abbrev pub lettered : Option ℕ → Option (ℕ × ℕ)
lettered None = None
lettered (Some c) = Some (c, 1)

-- the character that an escape means, and how many bytes it has, after its backslash (own)
unfoldable pub leading_escape : List ℕ → Option (ℕ × ℕ)
leading_escape [] = None
leading_escape (b ∷ bs) =
    if b == 120 then coded 2 (hex 2 0 bs)
    else (if b == 117 then coded 4 (hex 4 0 bs)
    else (if b == 85 then coded 8 (hex 8 0 bs)
    else lettered (beside b letters)))

-- whether the quote closes the scalar: a single one isn't followed by another (own)
abbrev pub closes : ℕ → List ℕ → Bool
closes quote [] = false
closes quote (b ∷ bs) = b == quote && not (quote == 39 && front (λ c. c == 39) bs)

-- the length of an escape (own)
abbrev pub length_of : Option (ℕ × ℕ) → Option ℕ
length_of None = None
length_of (Some e) = Some e.1

-- how many bytes after b belong to it; a line begins with no marker (own)
abbrev pub escape_len : ℕ → ℕ → List ℕ → Option ℕ
escape_len quote b bs =
    if is_feed b && is_marker bs then None
    else (if quote == 34 && b == 92 then (if is_break bs then Some 0 else length_of (leading_escape bs))
    else (if b == quote then Some 1 else Some 0))

-- how far it is to the quote that closes, k bytes being passed over (own)
unfoldable pub quoted_len : ℕ → ℕ → List ℕ → Option ℕ
quoted_len quote k [] = None
quoted_len quote (suc k) (b ∷ bs) = more 1 (quoted_len quote k bs)
quoted_len quote zero (b ∷ bs) = if closes quote (b ∷ bs) then Some 0 else (escape_len quote b bs >>= λ k. more 1 (quoted_len quote k bs))

-- whether a quote is in front (own)
abbrev pub is_quote : ℕ → Bool
is_quote b = b == 34 || b == 39

-- how long the quoted scalar in front is, with its quotes (own)
abbrev pub scalar_len : List ℕ → Option ℕ
scalar_len [] = None
scalar_len (b ∷ bs) = if is_quote b then more 2 (quoted_len b 0 bs) else None

-- the text cut after so many bytes (own)
abbrev pub cut_at : List ℕ → Option ℕ → Option (List ℕ × List ℕ)
cut_at t None = None
cut_at t (Some n) = Some (take n t, drop n t)

-- the quoted scalar in front, and what follows it (own)
abbrev pub quoted_at : List ℕ → Option (List ℕ × List ℕ)
quoted_at t = cut_at t (scalar_len t)
