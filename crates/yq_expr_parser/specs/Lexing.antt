-- Reading (own; you may skip it: the clauses `found` and `only` show that it agrees with the grammar).
use Rattle.std.specs.Prelude.{◌≡◌, ℕ, zero, suc, ◌+◌, if◌then◌else◌, Bool, true, false, ◌||◌, ◌&&◌, ◌==◌, List, [], ◌∷◌, length, take, drop}
use Rattle.std.{specs.Prelude.{Option, Some, None, is_some, option_map, not}, specs.Char.is_ascii_digit, specs.List.prefix_len}
use Rattle.yq_core.specs.Text.{front}
use Rattle.yq_semantics.specs.Tokens.{Token, is_symbol, string, number, step, symbol, foreign, unread, is_token_blank, begins_name}
use Rattle.yq_semantics.specs.Tokens.{is_name_byte, is_keyword, is_mark_character, is_mark_before, is_foreign, escaped_character}
use Rattle.yq_semantics.specs.Tokens.{character_before}
use Rattle.yq_expr_parser.specs.declared.token.TokenForm.{TokenForm}
use Rattle.yq_expr_parser.specs.declared.token.TokenForm.TheVariants as form

-- what a part of a string adds to what follows it: whether it is foreign, and its length (own)
abbrev pub beyond : Bool → ℕ → Option (Bool × ℕ) → Option (Bool × ℕ)
beyond other n None = None
beyond other n (Some x) = Some (other || x.0, n + x.1)

unfoldable mutual
  -- after the opening quote: whether there is a `\(`, and how far it is to after the closing quote (own)
  pub closing : List ℕ → Option (Bool × ℕ)
  closing [] = None
  closing (b ∷ bs) =
      if b == 34 then Some (false, 1) else (if b == 92 then escaping bs else beyond false 1 (closing bs))

  -- the same from after a backslash (own)
  pub escaping : List ℕ → Option (Bool × ℕ)
  escaping [] = None
  escaping (b ∷ bs) =
      if b == 40 then beyond true 2 (closing bs) else (if is_some (escaped_character b) then beyond false 2 (closing bs) else None)

-- a string of that form, or a foreign token, that so many bytes come before (own)
abbrev pub quoted : TokenForm → ℕ → Option (Bool × ℕ) → Option (TokenForm × ℕ)
quoted f n None = None
quoted f n (Some x) = Some (if x.0 then form.Foreign else f, n + x.1)

-- how long a fraction is, if one is in front (own)
abbrev pub fraction_len : List ℕ → ℕ
fraction_len [] = 0
fraction_len (b ∷ bs) = if b == 46 && front is_ascii_digit bs then 1 + prefix_len is_ascii_digit bs else 0

-- how long a number without its sign is (own)
abbrev pub number_len : List ℕ → ℕ
number_len t = let n = prefix_len is_ascii_digit t in n + fraction_len (drop n t)

-- the token that begins with a dot, from after the dot (own)
abbrev pub dotted : List ℕ → Option (TokenForm × ℕ)
dotted [] = Some (form.Symbol, 1)
dotted (b ∷ bs) =
    if b == 46 then Some (form.Foreign, 2) else (if b == 34 then quoted form.Quoted 2 (closing bs)
    else (if begins_name b then Some (form.Name, 1 + prefix_len is_name_byte (b ∷ bs)) else Some (form.Symbol, 1)))

-- the word or the foreign name in front (own)
abbrev pub read_word : List ℕ → Option (TokenForm × ℕ)
read_word t = let n = prefix_len is_name_byte t in Some (if is_keyword (take n t) then form.Symbol else form.Foreign, n)

-- the mark or the foreign character in front (own)
abbrev pub marked : ℕ → List ℕ → Option (TokenForm × ℕ)
marked b bs =
    if is_mark_before b && front (λ c. c == 61) bs then Some (form.Symbol, 2)
    else (if is_mark_character b then Some (form.Symbol, 1) else (if is_foreign b then Some (form.Foreign, 1) else None))

-- the word, the foreign name, the mark or the foreign character in front (own)
abbrev pub worded : List ℕ → Option (TokenForm × ℕ)
worded [] = None
worded (b ∷ bs) = if begins_name b then read_word (b ∷ bs) else marked b bs

-- the form and the length of the token in front (own)
unfoldable pub token_measure : List ℕ → Option (TokenForm × ℕ)
token_measure [] = None
token_measure (b ∷ bs) =
    if b == 34 then quoted form.Text 1 (closing bs)
    else (if b == 46 then dotted bs
    else (if b == 45 && front is_ascii_digit bs then Some (form.Number, 1 + number_len bs)
    else (if is_ascii_digit b then Some (form.Number, number_len (b ∷ bs))
    else worded (b ∷ bs))))

unfoldable mutual
  -- the content of a string, from after its opening quote (own)
  pub string_content : List ℕ → List ℕ
  string_content [] = []
  string_content (b ∷ bs) = if b == 34 then [] else (if b == 92 then content_escaped bs else b ∷ string_content bs)

  -- the same from after a backslash (own)
  pub content_escaped : List ℕ → List ℕ
  content_escaped [] = []
  content_escaped (b ∷ bs) = character_before (escaped_character b) (string_content bs)

-- whether a byte of a string means itself (own)
abbrev pub is_plain_byte : ℕ → Bool
is_plain_byte b = not (b == 34) && not (b == 92)

-- the character that an escape in front means, as a text, and what follows it (own)
abbrev pub escape_front : List ℕ → Option (List ℕ × List ℕ)
escape_front (b ∷ c ∷ bs) = if b == 92 then option_map (λ e. (e ∷ [], bs)) (escaped_character c) else None
escape_front (b ∷ []) = None
escape_front [] = None

-- what follows that character, if it is in front (own)
abbrev pub after_character : ℕ → List ℕ → List ℕ
after_character c [] = []
after_character c (b ∷ bs) = if b == c then bs else b ∷ bs

-- the token that a piece of that form is (own)
abbrev pub token_of : TokenForm → List ℕ → Token
token_of form.Text p = string (string_content (after_character 34 p))
token_of form.Number p = number p
token_of form.Name p = step (after_character 46 p)
token_of form.Quoted p = step (string_content (after_character 34 (after_character 46 p)))
token_of form.Symbol p = symbol p
token_of form.Foreign p = foreign
token_of form.Unread p = unread

-- what follows the white space in front (own)
abbrev pub past_blank : List ℕ → List ℕ
past_blank t = drop (prefix_len is_token_blank t) t

-- the text cut after the token of that form and length; where there is none, nothing follows (own)
abbrev pub cut_token : List ℕ → Option (TokenForm × ℕ) → Token × List ℕ
cut_token t None = (unread, [])
cut_token t (Some x) = (token_of x.0 (take x.1 t), drop x.1 t)

-- the token in front, where there is no white space, and what follows (own)
abbrev pub front_token : List ℕ → Option (Token × List ℕ)
front_token [] = None
front_token (b ∷ bs) = Some (cut_token (b ∷ bs) (token_measure (b ∷ bs)))

-- the token in front and what follows, if the text doesn't end before (own)
abbrev pub next_token : List ℕ → Option (Token × List ℕ)
next_token t = front_token (past_blank t)

-- a token before those of what follows it (own)
abbrev pub ahead : (List ℕ → List Token) → Option (Token × List ℕ) → List Token
ahead rest None = []
ahead rest (Some x) = x.0 ∷ rest x.1

-- the tokens of a text, at most so many (own)
unfoldable pub tokens_in : ℕ → List ℕ → List Token
tokens_in zero t = []
tokens_in (suc n) t = ahead (tokens_in n) (next_token t)

-- the tokens of a text (own)
unfoldable pub tokens : List ℕ → List Token
tokens t = tokens_in (1 + length t) t

-- what follows the token in front, if that is the symbol (own)
abbrev pub after : List ℕ → List Token → Option (List Token)
after s [] = None
after s (t ∷ ts) = if is_symbol s t then Some ts else None

-- the number that a token is (own)
abbrev pub as_number : Token → Option (List ℕ)
as_number (symbol w) = None
as_number (string c) = None
as_number (number w) = Some w
as_number (step k) = None
as_number foreign = None
as_number unread = None

-- the content of the string that a token is (own)
abbrev pub as_string : Token → Option (List ℕ)
as_string (symbol w) = None
as_string (string c) = Some c
as_string (number w) = None
as_string (step k) = None
as_string foreign = None
as_string unread = None

-- the key of the step that a token is (own)
abbrev pub as_step : Token → Option (List ℕ)
as_step (symbol w) = None
as_step (string c) = None
as_step (number w) = None
as_step (step k) = Some k
as_step foreign = None
as_step unread = None

-- what the token in front is taken as, and the tokens that follow (own)
abbrev pub taken : {A : Type 0} → (Token → Option A) → List Token → Option (A × List Token)
taken view [] = None
taken view (t ∷ ts) = option_map (λ a. (a, ts)) (view t)

-- no token is left (own)
abbrev pub no_tokens : List Token → Bool
no_tokens [] = true
no_tokens (t ∷ ts) = false

-- every token is read (own)
abbrev pub AreRead : List Token → Type 0
AreRead [] = Unit {0}
AreRead (t ∷ ts) = (t ≡ unread → ⊥) × AreRead ts
