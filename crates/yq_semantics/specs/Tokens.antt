-- Tokens: the marks, words, names, numbers and strings of an expression.
use Rattle.std.specs.Prelude.{◌≡◌, ℕ, ◌⊎◌, if◌then◌else◌, Bool, true, false, ◌||◌, ◌&&◌, ◌==◌, List, [], ◌∷◌, ◌++◌, Option, Some, None}
use Rattle.std.{specs.Prelude.{is_some, codes}, specs.Char.{is_ascii_digit, is_ascii_alphabetic, is_ascii_alphanumeric}}
use Rattle.std.{specs.List.list_all, specs.Str.bytes_eq}
use Rattle.yq_core.{specs.Text.{front, unless}, specs.SchemaReading.is_one_of}

-- a token: a string by its content, a number as written, a step `.name` or `."string"` by its key, a mark or
-- a word of this language, a token that only other expressions have, or a place where no token begins (own)
pub data Token : Type 0 where
  string : List ℕ → Token
  number : List ℕ → Token
  step : List ℕ → Token
  symbol : List ℕ → Token
  foreign : Token
  unread : Token

-- a symbol is this one (own)
abbrev pub is_symbol : List ℕ → Token → Bool
is_symbol s (symbol w) = bytes_eq w s
is_symbol s (string c) = false
is_symbol s (number w) = false
is_symbol s (step k) = false
is_symbol s foreign = false
is_symbol s unread = false

-- white space: a space, a tab or LF (own)
abbrev pub is_token_blank : ℕ → Bool
is_token_blank b = b == 32 || b == 9 || b == 10

-- the first character of a name: a letter or `_` (own)
abbrev pub begins_name : ℕ → Bool
begins_name b = is_ascii_alphabetic b || b == 95

-- a further character of a name: a letter, a digit, `_` or `-` (own)
abbrev pub is_name_byte : ℕ → Bool
is_name_byte b = is_ascii_alphanumeric b || b == 95 || b == 45

-- the words that come before a parenthesis (own)
abbrev pub call_words : List (List ℕ)
call_words = codes "select" ∷ codes "del" ∷ codes "has" ∷ []

-- the words for the number of a document, and for comments (own)
abbrev pub place_words : List (List ℕ)
place_words = codes "di" ∷ codes "document_index" ∷ codes "line_comment" ∷ codes "head_comment" ∷ []

-- the words for scalars (own)
abbrev pub scalar_words : List (List ℕ)
scalar_words = codes "true" ∷ codes "false" ∷ codes "null" ∷ []

-- whether a name is a word of this language (own)
abbrev pub is_keyword : List ℕ → Bool
is_keyword name = is_one_of call_words name || is_one_of place_words name || is_one_of scalar_words name

-- the marks of one character: . [ ] ( ) { } , : | = + (own)
abbrev pub is_mark_character : ℕ → Bool
is_mark_character b = b == 46 || b == 91 || b == 93 || b == 40 || b == 41 || b == 123 || b == 125 || b == 44 || b == 58 || b == 124 || b == 61 || b == 43

-- what comes before `=` in a mark of two characters: |= += == != (own)
abbrev pub is_mark_before : ℕ → Bool
is_mark_before b = b == 124 || b == 43 || b == 61 || b == 33

-- the characters that only other expressions have: * / % < > $ ; ? @ & ~ ^ ! - (own)
abbrev pub is_foreign : ℕ → Bool
is_foreign b =
    b == 42 || b == 47 || b == 37 || b == 60 || b == 62 || b == 36 || b == 59 || b == 63 || b == 64 || b == 38 || b == 126 || b == 94 || b == 33 || b == 45

-- the character that comes after a backslash for a character: \" \\ \n \t \r (own)
abbrev pub escaped_character : ℕ → Option ℕ
escaped_character b =
    if b == 34 then Some 34 else (if b == 92 then Some 92 else (if b == 110 then Some 10
    else (if b == 116 then Some 9 else (if b == 114 then Some 13 else None))))

-- a character of a string as it is written: one byte for itself, or a backslash and a byte (own)
pub data Character : Type 0 where
  itself : ℕ → Character
  escaped : ℕ → Character

-- how a character is written (own)
abbrev pub spelled_character : Character → List ℕ
spelled_character (itself b) = b ∷ []
spelled_character (escaped e) = 92 ∷ e ∷ []

-- how characters are written, in order (own)
abbrev pub spelling : List Character → List ℕ
spelling [] = []
spelling (c ∷ cs) = spelled_character c ++ spelling cs

-- every byte but a quote and a backslash means itself; the escapes are \" \\ \n \t \r, and \( (own)
abbrev pub IsCharacter : Character → Type 0
IsCharacter (itself b) = (b == 34 || b == 92) ≡ false
IsCharacter (escaped e) = (e == 40 || is_some (escaped_character e)) ≡ true

-- all of them are such characters (own)
abbrev pub AreCharacters : List Character → Type 0
AreCharacters [] = Unit {0}
AreCharacters (c ∷ cs) = IsCharacter c × AreCharacters cs

-- whether one of them is \( (own)
abbrev pub interpolates : List Character → Bool
interpolates [] = false
interpolates (itself b ∷ cs) = interpolates cs
interpolates (escaped e ∷ cs) = e == 40 || interpolates cs

-- a character, if there is one, before what follows it (own)
abbrev pub character_before : Option ℕ → List ℕ → List ℕ
character_before None cs = []
character_before (Some c) cs = c ∷ cs

-- what characters say: a byte itself, and an escape its character (own)
abbrev pub said : List Character → List ℕ
said [] = []
said (itself b ∷ cs) = b ∷ said cs
said (escaped e ∷ cs) = character_before (escaped_character e) (said cs)

-- a string: characters between quotes. One with \( is foreign; another one is the token made of what it says (own)
abbrev pub IsString : (List ℕ → Token) → Token → List ℕ → Type 0
IsString make t piece =
    (cs : List Character) × AreCharacters cs × (piece ≡ 34 ∷ (spelling cs ++ 34 ∷ [])) × (t ≡ (if interpolates cs then foreign else make (said cs)))

-- a name, after which it doesn't go on (own)
abbrev pub IsBareName : List ℕ → List ℕ → Type 0
IsBareName name rest = (front begins_name name ≡ true) × (list_all is_name_byte name ≡ true) × (unless is_name_byte rest ≡ true)

-- digits, one or more, after which they don't go on (own)
abbrev pub AreDigits : List ℕ → List ℕ → Type 0
AreDigits digits rest = (front is_ascii_digit digits ≡ true) × (list_all is_ascii_digit digits ≡ true) × (unless is_ascii_digit rest ≡ true)

-- whether a point and a digit are in front (own)
abbrev pub begins_fraction : List ℕ → Bool
begins_fraction [] = false
begins_fraction (b ∷ bs) = b == 46 && front is_ascii_digit bs

-- a number without its sign: digits, or digits, a point and digits (own)
abbrev pub IsUnsigned : List ℕ → List ℕ → Type 0
IsUnsigned piece rest =
    (AreDigits piece rest × (begins_fraction rest ≡ false))
    ⊎ ((digits fraction : List ℕ) × (piece ≡ digits ++ 46 ∷ fraction) × AreDigits digits (46 ∷ (fraction ++ rest)) × AreDigits fraction rest)

-- a number: a minus sign or none, and then such a number (own)
abbrev pub IsNumberToken : List ℕ → List ℕ → Type 0
IsNumberToken piece rest = IsUnsigned piece rest ⊎ ((number : List ℕ) × (piece ≡ 45 ∷ number) × IsUnsigned number rest)

-- whether a step or `..` begins after a dot before this (own)
abbrev pub dot_goes_on : List ℕ → Bool
dot_goes_on [] = false
dot_goes_on (b ∷ bs) = b == 46 || b == 34 || begins_name b

-- whether `=` is in front (own)
abbrev pub begins_equals : List ℕ → Bool
begins_equals rest = front (λ b. b == 61) rest

-- a mark, which is no longer one: `=` doesn't follow one that it may end, nor a step or a dot a dot (own)
abbrev pub IsMarkToken : List ℕ → List ℕ → Type 0
IsMarkToken piece rest =
    ((b : ℕ) × (piece ≡ b ∷ 61 ∷ []) × (is_mark_before b ≡ true))
    ⊎ ((b : ℕ) × (piece ≡ b ∷ []) × (is_mark_character b ≡ true) × ((is_mark_before b && begins_equals rest) ≡ false) × ((b == 46 && dot_goes_on rest) ≡ false))

-- `..`, or a character that only other expressions have: no `!` before `=`, no `-` before a digit (own)
abbrev pub IsForeign : List ℕ → List ℕ → Type 0
IsForeign piece rest =
    (piece ≡ 46 ∷ 46 ∷ [])
    ⊎ ((b : ℕ) × (piece ≡ b ∷ []) × (is_foreign b ≡ true) × ((b == 33 && begins_equals rest) ≡ false) × ((b == 45 && front is_ascii_digit rest) ≡ false))

-- a piece of a text is a token, before the rest: a string; a step; a number; a word, which is foreign if it is none
-- of this language; a mark; or what only other expressions have (own)
abbrev pub IsToken : Token → List ℕ → List ℕ → Type 0
IsToken t piece rest =
    IsString string t piece
    ⊎ ((quoted : List ℕ) × (piece ≡ 46 ∷ quoted) × IsString step t quoted)
    ⊎ ((name : List ℕ) × (piece ≡ 46 ∷ name) × IsBareName name rest × (t ≡ step name))
    ⊎ (IsNumberToken piece rest × (t ≡ number piece))
    ⊎ (IsBareName piece rest × (t ≡ (if is_keyword piece then symbol piece else foreign)))
    ⊎ (IsMarkToken piece rest × (t ≡ symbol piece))
    ⊎ (IsForeign piece rest × (t ≡ foreign))

-- the tokens of a text: white space and a token, as often as there are tokens, and then white space (own)
abbrev pub AreTokens : List Token → List ℕ → Type 0
AreTokens [] text = list_all is_token_blank text ≡ true
AreTokens (t ∷ ts) text =
    (white piece rest : List ℕ) × (text ≡ white ++ (piece ++ rest)) × (list_all is_token_blank white ≡ true) × IsToken t piece rest × AreTokens ts rest
