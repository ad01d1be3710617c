-- A line feed after a printed JSON text changes nothing of what is read.
use Rattle.std.proofs.Common.{◌≡◌, ℕ, Bool, true, false, cond, ◌&&◌, List, [], ◌∷◌, ◌++◌, refl, sym, ap, ap₂, ◌∙◌, append_assoc, append-nil}
use Rattle.std.proofs.Common.{rules}
use Rattle.json.specs.Token.{Token, begin_object, end_object, begin_array, end_array, key, string, number, boolean, null, bad}
use Rattle.json.{specs.Word.{ends_word, word}, specs.Lex.{Lexeme, token, comma, colon, lex, between, fresh, punctuate, tokens}}
use Rattle.json.specs.Print.{token_text, begins, ends, print_from, print, IsPrintable, ArePrintable}
use Rattle.json.{proofs.Printed.Numbers.{lex-number, in_word-ended}, proofs.Printed.Strings.{content-escape, lex-escape}}

-- what the lexer gives of a token
abbrev token_lexemes : Token → List Lexeme
token_lexemes begin_object = token begin_object ∷ []
token_lexemes end_object = token end_object ∷ []
token_lexemes begin_array = token begin_array ∷ []
token_lexemes end_array = token end_array ∷ []
token_lexemes (key s) = token (string s) ∷ colon ∷ []
token_lexemes (string s) = token (string s) ∷ []
token_lexemes (number s) = token (number s) ∷ []
token_lexemes (boolean b) = token (boolean b) ∷ []
token_lexemes null = token null ∷ []
token_lexemes bad = []

abbrev lexemes : Bool → List Token → List Lexeme
lexemes c [] = []
lexemes c (t ∷ ts) = cond (c && begins t) (comma ∷ []) [] ++ (token_lexemes t ++ lexemes (ends t) ts)

-- after a value is a comma, a closing bracket, or what follows the text
ends_with : (ts : List Token) (r : List ℕ) → ends_word r ≡ true → ends_word (print_from true ts ++ r) ≡ true
unfolding print_from
ends_with [] r h = h
ends_with (begin_object ∷ ts) r h = refl
ends_with (_ ∷ ts) r h = refl

lex-token_text : (t : Token) (r : List ℕ) → IsPrintable t → (ends t ≡ true → ends_word r ≡ true) → lex between (token_text t ++ r) ≡ token_lexemes t ++ lex between r
unfolding lex word
lex-token_text t r h1 h2 = search (rules, append_assoc, content-escape, lex-escape, lex-number, ap₂, in_word-ended)

lex-separator : (b : Bool) (r : List ℕ) → lex between (cond b (44 ∷ []) [] ++ r) ≡ cond b (comma ∷ []) [] ++ lex between r
unfolding lex
lex-separator b r = search rules

lex-print_from : (c : Bool) (ts : List Token) (r : List ℕ) → ArePrintable ts → ends_word r ≡ true → lex between r ≡ [] → lex between (print_from c ts ++ r) ≡ lexemes c ts
unfolding print_from ArePrintable
lex-print_from c [] r h ended none = none
lex-print_from c (t ∷ ts) r h ended none = search (rules, append_assoc, lex-separator, lex-token_text, ends_with, lex-print_from (ends t) ts r h.1 ended none)

line_feed_lexes : lex between (10 ∷ []) ≡ []
unfolding lex
line_feed_lexes = refl

nothing_lexes : lex between [] ≡ []
unfolding lex
nothing_lexes = refl

pub tokens-line_feed : (ts : List Token) → ArePrintable ts → tokens (print ts ++ 10 ∷ []) ≡ tokens (print ts)
tokens-line_feed ts h =
    ap (punctuate fresh) (lex-print_from false ts (10 ∷ []) h refl line_feed_lexes ∙ sym (lex-print_from false ts [] h refl nothing_lexes) ∙ ap (lex between) (append-nil (print ts)))
