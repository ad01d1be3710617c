-- Reading (own; you may skip it: the clauses `found` and `only` show that it agrees with the grammar).
use Rattle.std.specs.Prelude.{ℕ, Bool, true, false, ◌||◌, ◌&&◌, not, ◌==◌, nat_lt, Option, Some, None, List, [], ◌∷◌, drop, if◌then◌else◌}
use Rattle.std.{specs.Prelude.{bytes_eq, codes, ℤ, pos}, specs.List.{list_any, prefix_len}, specs.Char.digit_value}
use Rattle.std.specs.Str.Parse.{digits_value}
use Rattle.yq_core.{specs.declared.kind.Kind.Kind, specs.Answers.◌>>=◌, specs.Text.{is_empty, front}}
use Rattle.yq_core.specs.Numbers.{Sign, unsigned, plus, minus, signed, is_i64}
use Rattle.yq_core.specs.Schema.{null_words, bool_words, infinity_words, nan_words}
use Rattle.yq_core.specs.declared.kind.Kind.TheVariants as kinds

-- whether the text is one of the words (own)
abbrev pub is_one_of : List (List ℕ) → List ℕ → Bool
is_one_of words t = list_any (bytes_eq t) words

-- whether the text is a word for true (10.3.2)
abbrev pub is_true_word : List ℕ → Bool
is_true_word t = bytes_eq t (codes "true") || bytes_eq t (codes "True") || bytes_eq t (codes "TRUE")

-- whether the byte is a digit of the base (own)
abbrev pub is_digit : ℕ → ℕ → Bool
is_digit base b = nat_lt (digit_value b) base

-- the text after the digits that it begins with (own)
abbrev pub past_digits : ℕ → List ℕ → List ℕ
past_digits base t = drop (prefix_len (is_digit base) t) t

-- whether the text is digits, and not empty (own)
abbrev pub are_digits : ℕ → List ℕ → Bool
are_digits base t = not (is_empty t) && is_empty (past_digits base t)

-- the text after its sign (own)
abbrev pub past_sign : List ℕ → List ℕ
past_sign [] = []
past_sign (b ∷ bs) = if b == 43 || b == 45 then bs else b ∷ bs

-- whether the text begins with 0 and the letter of a base (own)
abbrev pub has_base : ℕ → List ℕ → Bool
has_base letter (a ∷ b ∷ t) = a == 48 && b == letter
has_base letter _ = false

-- the number of an octal or hexadecimal int, by the digits after its letter (own)
abbrev pub based_number : ℕ → List ℕ → Option ℤ
based_number base digits = if are_digits base digits then Some (pos (digits_value base digits)) else None

-- the sign of the text (own)
abbrev pub sign_of : List ℕ → Sign
sign_of [] = unsigned
sign_of (b ∷ bs) = if b == 43 then plus else (if b == 45 then minus else unsigned)

-- the number of a decimal int (own)
abbrev pub decimal_number : List ℕ → Option ℤ
decimal_number t =
    if are_digits 10 (past_sign t) then Some (signed (sign_of t) (digits_value 10 (past_sign t))) else None

-- the number of an int, if the text is one (own)
unfoldable pub int_number : List ℕ → Option ℤ
int_number t =
    if has_base 111 t then based_number 8 (drop 2 t)
    else (if has_base 120 t then based_number 16 (drop 2 t) else decimal_number t)

-- the number, if it is a signed number of 64 bits (own)
abbrev pub as_i64 : ℤ → Option ℤ
as_i64 n = if is_i64 n then Some n else None

-- the same of an octal or hexadecimal int (own)
abbrev pub based_value : ℕ → List ℕ → Option ℤ
based_value base digits = based_number base digits >>= as_i64

-- the same of a decimal int (own)
abbrev pub decimal_value : List ℕ → Option ℤ
decimal_value t = decimal_number t >>= as_i64

-- the number of an int, if the text is one and the number is a signed number of 64 bits (own)
abbrev pub int_value : List ℕ → Option ℤ
int_value t = int_number t >>= as_i64

-- whether the text is an int (own)
unfoldable pub is_int : List ℕ → Bool
is_int t =
    if has_base 111 t then are_digits 8 (drop 2 t)
    else (if has_base 120 t then are_digits 16 (drop 2 t) else are_digits 10 (past_sign t))

-- whether the text is an exponent, or nothing (own)
abbrev pub is_exponent : List ℕ → Bool
is_exponent [] = true
is_exponent (b ∷ bs) = (b == 101 || b == 69) && are_digits 10 (past_sign bs)

-- whether the text begins with a decimal digit (own)
abbrev pub front_digit : List ℕ → Bool
front_digit t = front (is_digit 10) t

-- whether the text ends a number that has digits before a point, or none (own)
abbrev pub ends_number : Bool → List ℕ → Bool
ends_number some [] = some
ends_number some (b ∷ bs) =
    if b == 46 then ((some || front_digit bs) && is_exponent (past_digits 10 bs)) else (some && is_exponent (b ∷ bs))

-- whether the text after its sign is a number (own)
abbrev pub is_number : List ℕ → Bool
is_number t = ends_number (front_digit t) (past_digits 10 t)

-- whether the text is a float (own)
unfoldable pub is_float : List ℕ → Bool
is_float t = is_number (past_sign t) || is_one_of infinity_words (past_sign t) || is_one_of nan_words t

-- the kind of a plain scalar (own)
unfoldable pub resolve : List ℕ → Kind
resolve t =
    if is_one_of null_words t then kinds.Null
    else (if is_one_of bool_words t then kinds.Bool
    else (if is_int t then kinds.Int
    else (if is_float t then kinds.Float else kinds.Text)))
