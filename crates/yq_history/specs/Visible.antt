-- What is printed of a text so that no terminal acts on it (own).
use Rattle.std.specs.Prelude.{ℕ, ◌/◌, ◌%◌, ◌==◌, ◌&&◌, ◌||◌, Bool, nat_le, if◌then◌else◌, List, [], ◌∷◌, ◌++◌, encode_utf8}
use Rattle.std.{specs.List.flat_map, specs.Char.digit_char, specs.Str.chars}

-- DEL and the controls from U+0080 to U+009F, the separators of lines and paragraphs, and what sets the direction of a text (UAX 9, section 2)
abbrev pub is_hidden : ℕ → Bool
is_hidden c =
    (nat_le 0x7f c && nat_le c 0x9f) || c == 0x061c || (nat_le 0x200e c && nat_le c 0x200f)
    || (nat_le 0x2028 c && nat_le c 0x202e) || (nat_le 0x2066 c && nat_le c 0x2069)

-- a character below 2^16 as it is escaped in a JSON string (RFC 8259, section 7)
abbrev pub escaped_char : ℕ → List ℕ
escaped_char c =
    92 ∷ 117 ∷ digit_char (c / 4096 % 16) ∷ digit_char (c / 256 % 16) ∷ digit_char (c / 16 % 16) ∷ digit_char (c % 16) ∷ []

-- a character as it is printed in a JSON string
abbrev pub visible_char : ℕ → List ℕ
visible_char c = if is_hidden c then escaped_char c else encode_utf8 c

-- a text between quotes
abbrev pub in_quotes : List ℕ → List ℕ
in_quotes t = 34 ∷ (t ++ 34 ∷ [])

-- a JSON string as it is printed
abbrev pub visible : List ℕ → List ℕ
visible string = flat_map visible_char (chars string)
