-- How scalars are written in quotes (own, with the escapes of YAML 1.2.2, section 5.7).
use Rattle.std.specs.Prelude.{ℕ, ◌+◌, ◌/◌, ◌%◌, ◌==◌, nat_lt, Option, Some, None, List, [], ◌∷◌, ◌++◌, if◌then◌else◌, encode_utf8}
use Rattle.std.{specs.List.flat_map, specs.Str.chars}
use Rattle.yq_core.{specs.declared.style.Style.Style, specs.Characters.is_text_char}
use Rattle.yq_core.specs.declared.style.Style.TheVariants as styles

-- each character that is written as a letter after a backslash, after its letter (own)
abbrev pub written_letters : List (ℕ × ℕ)
written_letters =
    (34, 34) ∷ (92, 92) ∷ (48, 0) ∷ (97, 7) ∷ (98, 8) ∷ (116, 9) ∷ (110, 10) ∷ (118, 11) ∷ (102, 12) ∷ (114, 13)
    ∷ (101, 27) ∷ (78, 133) ∷ (76, 8232) ∷ (80, 8233) ∷ []

-- the letter next to the character in a table (own)
abbrev pub letter_of : ℕ → List (ℕ × ℕ) → Option ℕ
letter_of c [] = None
letter_of c (entry ∷ entries) = if c == entry.1 then Some entry.0 else letter_of c entries

-- a hexadecimal digit, in upper case (own)
abbrev pub upper : ℕ → ℕ
upper d = if nat_lt d 10 then 48 + d else 55 + d

-- the digits after `\x`, or after `\u`, of a character (5.7)
abbrev pub two_digits : ℕ → List ℕ
two_digits c = upper (c / 16 % 16) ∷ upper (c % 16) ∷ []

-- the same with four digits (5.7)
abbrev pub four_digits : ℕ → List ℕ
four_digits c = upper (c / 4096 % 16) ∷ upper (c / 256 % 16) ∷ two_digits c

-- a character by its number: `\x` and two digits, or `\u` and four (5.7)
abbrev pub code_escape : ℕ → List ℕ
code_escape c = if nat_lt c 256 then 92 ∷ 120 ∷ two_digits c else 92 ∷ 117 ∷ four_digits c

-- a character after its letter, or as it is where a text may hold it, or by its number (own)
abbrev pub double_by : Option ℕ → ℕ → List ℕ
double_by (Some letter) c = 92 ∷ letter ∷ []
double_by None c = if is_text_char c then encode_utf8 c else code_escape c

-- a character in double quotes (own)
abbrev pub in_double : ℕ → List ℕ
in_double c = double_by (letter_of c written_letters) c

-- a character in single quotes (7.3.2)
abbrev pub in_single : ℕ → List ℕ
in_single c = if c == 39 then 39 ∷ 39 ∷ [] else encode_utf8 c

-- a string in single quotes (own)
abbrev pub single : List ℕ → List ℕ
single t = 39 ∷ (flat_map in_single (chars t) ++ 39 ∷ [])

-- a string in double quotes (own)
abbrev pub double : List ℕ → List ℕ
double t = 34 ∷ (flat_map in_double (chars t) ++ 34 ∷ [])

-- a style that writes a scalar on one line (own)
abbrev pub IsOneLine : Style → Type 0
IsOneLine styles.Plain = Unit {0}
IsOneLine styles.Single = Unit {0}
IsOneLine styles.Double = Unit {0}
IsOneLine styles.Literal = ⊥
IsOneLine styles.Folded = ⊥

-- a scalar in plain, single or double style; no other style is asked of it (own)
abbrev pub written_scalar : Style → List ℕ → List ℕ
written_scalar styles.Plain t = t
written_scalar styles.Single t = single t
written_scalar styles.Double t = double t
written_scalar styles.Literal t = t
written_scalar styles.Folded t = t
