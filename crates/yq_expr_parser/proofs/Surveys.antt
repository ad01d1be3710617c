-- A turn of the survey.
use Rattle.std.proofs.Common.{rules, ◌≡◌, ℕ, ◌+◌, ◌<◌, ◌≤◌, Bool, true, false, ◌||◌, nat_lt, List, ◌∷◌, Option, Some, None, refl, sym, ap}
use Rattle.std.proofs.Common.{◌∙◌}
use Rattle.yq_semantics.specs.Tokens.{Token}
use Rattle.yq_expr_parser.{specs.Lexing.{next_token, tokens}, specs.Outcome.{count_if, is_opening, is_closing}}
use Rattle.yq_expr_parser.{specs.Parse.{is_unread, is_foreign_token, surveyed}, proofs.Lexing.tokens_some}

survey_on : (o : Bool) (a b : ℕ) (t : Token) (ts : List Token) → false ≡ is_unread t
    → surveyed o a b (t ∷ ts) ≡ surveyed (o || is_foreign_token t || nat_lt (count_if (is_closing t) b + 64) (count_if (is_opening t) a)) (count_if (is_opening t) a) (count_if (is_closing t) b) ts
unfolding surveyed
survey_on o a b t ts read = rw (← read) refl

-- a token that is read
pub survey_turn : (o : Bool) (a b : ℕ) (t : List ℕ) (x : Token × List ℕ) (v op cl : Bool) (a' b' : ℕ) (w : Option Bool) → Some x ≡ next_token t → false ≡ is_unread x.0
    → op ≡ is_opening x.0 → cl ≡ is_closing x.0 → a' ≡ count_if op a → b' ≡ count_if cl b → (o || is_foreign_token x.0) ≡ v
    → surveyed o a b (tokens t) ≡ w → surveyed (v || nat_lt (b' + 64) a') a' b' (tokens x.1) ≡ w
survey_turn o a b t x v op cl a' b' w at read opens closes more fewer flag h = search (rules, tokens_some, survey_on)

survey_none : (o : Bool) (a b : ℕ) (t : Token) (ts : List Token) → true ≡ is_unread t → surveyed o a b (t ∷ ts) ≡ None
unfolding surveyed
survey_none o a b t ts unread = rw (← unread) refl

-- a token that is not read
pub survey_stops : (o : Bool) (a b : ℕ) (t : List ℕ) (x : Token × List ℕ) (w : Option Bool) → Some x ≡ next_token t → true ≡ is_unread x.0
    → surveyed o a b (tokens t) ≡ w → w ≡ None
survey_stops o a b t x w at unread h = sym h ∙ (ap (surveyed o a b) (tokens_some t x at) ∙ survey_none o a b x.0 (tokens x.1) unread)

-- a count stays below the length of what was read
pub counted_within : (c : Bool) (r n k l m : ℕ) → r ≡ count_if c n → n + l ≤ m → k < l → r + k ≤ m
counted_within c r n k l m is le less = search rules
