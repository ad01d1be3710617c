-- Quoted scalars: how they are written, and what they mean (YAML 1.2.2, sections 5.7, 6.5, 7.3.1 and 7.3.2).
use Rattle.std.specs.Prelude.{◌≡◌, ℕ, suc, zero, Bool, true, false, ◌==◌, ◌⊎◌, Option, Some, None, List, [], ◌∷◌, ◌++◌, length, replicate}
use Rattle.std.{specs.Prelude.{if◌then◌else◌, nat_lt, nat_le, ◌||◌, ◌&&◌, encode_utf8}, specs.Str.Parse.{AllDigits, digits_value}}
use Rattle.yq_core.specs.Text.{feed, is_white, is_break, is_marker, front}

-- each letter that may follow a backslash, and the character that the two mean (5.7)
abbrev pub letters : List (ℕ × ℕ)
letters =
    (34, 34) ∷ (92, 92) ∷ (48, 0) ∷ (97, 7) ∷ (98, 8) ∷ (116, 9) ∷ (110, 10) ∷ (118, 11) ∷ (102, 12) ∷ (114, 13)
    ∷ (101, 27) ∷ (78, 133) ∷ (76, 8232) ∷ (80, 8233) ∷ (95, 160) ∷ (47, 47) ∷ (32, 32) ∷ (9, 9) ∷ []

-- the character next to the letter in a table (own)
abbrev pub beside : ℕ → List (ℕ × ℕ) → Option ℕ
beside letter [] = None
beside letter (entry ∷ entries) = if letter == entry.0 then Some entry.1 else beside letter entries

-- each letter that digits follow, and how many they are: `x`, `u` and `U` (5.7)
abbrev pub digit_counts : List (ℕ × ℕ)
digit_counts = (120, 2) ∷ (117, 4) ∷ (85, 8) ∷ []

-- a character of Unicode, and no surrogate (5.1)
abbrev pub is_unicode : ℕ → Bool
is_unicode c = nat_lt c 55296 || (nat_le 57344 c && nat_lt c 1114112)

-- what a quoted scalar is made of between its breaks: bytes that mean themselves, two single quotes, a backslash with a
-- letter, and a backslash with a letter and hexadecimal digits (5.7, 7.3.1, 7.3.2)
pub data Char : Type 0 where
  itself : ℕ → Char
  doubled : Char
  escape : ℕ → Char
  code : ℕ → List ℕ → Char

-- how it is written (5.7, 7.3.2)
abbrev pub spell_char : Char → List ℕ
spell_char (itself b) = b ∷ []
spell_char doubled = 39 ∷ 39 ∷ []
spell_char (escape letter) = 92 ∷ letter ∷ []
spell_char (code letter digits) = 92 ∷ letter ∷ digits

-- these characters as they are written (own)
abbrev pub spell_chars : List Char → List ℕ
spell_chars [] = []
spell_chars (c ∷ cs) = spell_char c ++ spell_chars cs

-- the bytes of a character, if there is one (own)
abbrev pub bytes_of : Option ℕ → List ℕ
bytes_of None = []
bytes_of (Some c) = encode_utf8 c

-- what it means (5.7, 7.3.2)
abbrev pub char_text : Char → List ℕ
char_text (itself b) = b ∷ []
char_text doubled = 39 ∷ []
char_text (escape letter) = bytes_of (beside letter letters)
char_text (code letter digits) = encode_utf8 (digits_value 16 digits)

-- what these mean (own)
abbrev pub chars_text : List Char → List ℕ
chars_text [] = []
chars_text (c ∷ cs) = char_text c ++ chars_text cs

-- It may be there, in these quotes (34 or 39), before that rest: a byte that means itself is no quote of these, begins no
-- break, and is no backslash in double quotes (5.7, 7.3.1, 7.3.2).
abbrev pub IsChar : ℕ → Char → List ℕ → Type 0
IsChar quote (itself b) rest = (b == quote ≡ false) × (is_break (b ∷ rest) ≡ false) × ((quote == 34 && b == 92) ≡ false)
IsChar quote doubled rest = quote ≡ 39
IsChar quote (escape letter) rest = (quote ≡ 34) × ((c : ℕ) × (beside letter letters ≡ Some c))
IsChar quote (code letter digits) rest =
    (quote ≡ 34) × (beside letter digit_counts ≡ Some (length digits)) × AllDigits 16 digits × (is_unicode (digits_value 16 digits) ≡ true)

-- each of these may be there (own)
abbrev pub AreChars : ℕ → List Char → List ℕ → Type 0
AreChars quote [] rest = Unit {0}
AreChars quote (c ∷ cs) rest = IsChar quote c (spell_chars cs ++ rest) × AreChars quote cs rest

-- a break: LF or CR LF; a backslash before it joins the lines (5.4, 7.3.1)
pub data Break : Type 0 where
  line_feed : Break
  return_feed : Break

-- how it is written (5.4)
abbrev pub spell_break : Break → List ℕ
spell_break line_feed = feed ∷ []
spell_break return_feed = 13 ∷ feed ∷ []

-- the lines of a scalar: the last one, or one with its break and the lines after it; `true` says that a backslash comes before the
-- break (6.5, 7.3.1)
pub data QuotedLines : Type 0 where
  last : List Char → QuotedLines
  line : List Char → Bool → Break → QuotedLines → QuotedLines

-- how a break is written with its backslash, if there is one (7.3.1)
abbrev pub spell_end : Bool → Break → List ℕ
spell_end true b = 92 ∷ spell_break b
spell_end false b = spell_break b

-- how lines are written (own)
abbrev pub spell_lines : QuotedLines → List ℕ
spell_lines (last cs) = spell_chars cs
spell_lines (line cs escaped b ls) = spell_chars cs ++ (spell_end escaped b ++ spell_lines ls)

-- Lines may be in these quotes before that rest: their characters may, a break is escaped in double quotes alone, and no line but
-- the first begins with a document marker (7.3.1, 7.3.2, 9.1.2).
abbrev pub AreLines : ℕ → QuotedLines → List ℕ → Type 0
AreLines quote (last cs) rest = AreChars quote cs rest
AreLines quote (line cs escaped b ls) rest =
    AreChars quote cs (spell_end escaped b ++ (spell_lines ls ++ rest)) × (escaped ≡ true → quote ≡ 34)
    × (is_marker (spell_lines ls ++ rest) ≡ false) × AreLines quote ls rest

-- white space that means itself (5.5)
abbrev pub is_plain_blank : Char → Bool
is_plain_blank (itself b) = is_white b
is_plain_blank doubled = false
is_plain_blank (escape letter) = false
is_plain_blank (code letter digits) = false

-- whether they are all white space (own)
abbrev pub are_blank : List Char → Bool
are_blank [] = true
are_blank (c ∷ cs) = is_plain_blank c && are_blank cs

-- these without the white space that they begin with (6.5)
abbrev pub past_blanks : List Char → List Char
past_blanks [] = []
past_blanks (c ∷ cs) = if is_plain_blank c then past_blanks cs else c ∷ cs

-- these without the white space that they end with (6.5)
abbrev pub before_blanks : List Char → List Char
before_blanks [] = []
before_blanks (c ∷ cs) = if are_blank (c ∷ cs) then [] else c ∷ before_blanks cs

-- what comes before a line: a break, or one after a backslash, and so many blank lines (6.5, 7.3.1)
pub data Gap : Type 0 where
  folded : ℕ → Gap
  joined : ℕ → Gap

-- the same with one blank line more (own)
abbrev pub one_blank_line_more : Gap → Gap
one_blank_line_more (folded k) = folded (suc k)
one_blank_line_more (joined k) = joined (suc k)

-- A break alone is a space; blank lines are an LF each; a break after a backslash is nothing (6.5, 7.3.1).
abbrev pub gap_text : Gap → List ℕ
gap_text (folded zero) = 32 ∷ []
gap_text (folded (suc k)) = replicate (suc k) feed
gap_text (joined k) = replicate k feed

-- What lines after a gap mean: white space round breaks is left out, but for that before a backslash; a line of white space alone
-- that isn't the last one is blank (6.5, 7.3.1).
abbrev pub lines_text : Gap → QuotedLines → List ℕ
lines_text gap (last cs) = gap_text gap ++ chars_text (past_blanks cs)
lines_text gap (line cs true b ls) = gap_text gap ++ (chars_text (past_blanks cs) ++ lines_text (joined 0) ls)
lines_text gap (line cs false b ls) =
    if are_blank cs then lines_text (one_blank_line_more gap) ls
    else gap_text gap ++ (chars_text (before_blanks (past_blanks cs)) ++ lines_text (folded 0) ls)

-- What the lines of a scalar mean: the first one is blank nowhere, and what it begins with is kept (6.5, 7.3.1).
abbrev pub quoted_lines_content : QuotedLines → List ℕ
quoted_lines_content (last cs) = chars_text cs
quoted_lines_content (line cs true b ls) = chars_text cs ++ lines_text (joined 0) ls
quoted_lines_content (line cs false b ls) = chars_text (before_blanks cs) ++ lines_text (folded 0) ls

-- a scalar in these quotes (34 or 39), and the lines that it is made of: the quote that closes it is followed by no other in single quotes
-- (7.3.1, 7.3.2)
pub record IsQuoted (quote : ℕ) (ls : QuotedLines) (piece rest : List ℕ) : Type 0 where
  pub quotes : (quote ≡ 34) ⊎ (quote ≡ 39)
  pub spelled : piece ≡ quote ∷ (spell_lines ls ++ quote ∷ [])
  pub lines : AreLines quote ls (quote ∷ rest)
  pub closed : (quote == 39 && front (λ b. b == 39) rest) ≡ false

-- the text is a quoted scalar, in some quotes and before some rest (own)
abbrev pub IsQuotedText : List ℕ → Type 0
IsQuotedText piece = (quote : ℕ) × ((ls : QuotedLines) × ((rest : List ℕ) × IsQuoted quote ls piece rest))
