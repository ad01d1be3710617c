-- That the outcome of a text is what it comes to by the grammar, and nothing else.
use Rattle.std.proofs.Common.{◌≡◌, ◌⊎◌, ◌↔◌, ℕ, Bool, true, false, List, Option, Some, None, refl, sym, ◌∙◌, inl, inr, rules}
use Rattle.yq_expr_parser.{specs.Lexing.{tokens, AreRead}, specs.Outcome.{ComesTo, HasForeign, IsTooDeep}}
use Rattle.yq_expr_parser.specs.Parse.{surveyed, program_at, outcome}
use Rattle.yq_expr_parser.proofs.Outcomes.{all_read, derives_again, none_in, outcome_again, outcome_comes, surveys, unread_in}
use Rattle.yq_expr_parser.{proofs.TextTokens.{tokens_take, tokens_again}, proofs.UpdateTakes.program_takes}
use Rattle.yq_semantics.{specs.Parsing.{Outcome, parsed, ill_formed, not_in_profile, with_pattern}, specs.Tokens.{Token, AreTokens}}
use Rattle.yq_semantics.{specs.Program.Program, specs.Grammar.{IsProgram, literal_depth}}

-- the tokens of a text are those that are read of it
pub one_list : (text : List ℕ) (ts us : List Token) → AreTokens ts text → AreTokens us text → ts ≡ us
one_list text ts us a b = sym (tokens_again ts text a).0 ∙ (tokens_again us text b).0

-- ---- what a survey tells, where a text has no tokens, or has a token or a place of other expressions

no_tokens : (text : List ℕ) → ((ts : List Token) → AreTokens ts text → ⊥) → (o : Option Bool) → surveyed false 0 0 (tokens text) ≡ o → surveyed false 0 0 (tokens text) ≡ None
no_tokens text h1 o s = search (rules, tokens_take, all_read)

others : (ts : List Token) → AreRead ts → HasForeign ts ⊎ IsTooDeep ts → (o : Option Bool) → surveyed false 0 0 ts ≡ o → surveyed false 0 0 ts ≡ Some true
others ts h1 h2 o h3 = search (rules, unread_in, none_in)

no_program : (ts : List Token) → ((p : Program) → IsProgram p ts → ⊥) → (o : Option Program) → program_at literal_depth ts ≡ o → program_at literal_depth ts ≡ None
no_program ts none None s = s
no_program ts none (Some p) s = absurd (none p (program_takes ts p s))

-- ---- what a text comes to is its outcome

again : (text : List ℕ) (o : Outcome) → ComesTo text o → outcome text ≡ o
unfolding outcome
again text (parsed p) h = outcome_again text p h.0 h.1
again text ill_formed (inl none) = let s : surveyed false 0 0 (tokens text) ≡ None = no_tokens text none (surveyed false 0 0 (tokens text)) refl in rw s refl
again text ill_formed (inr (ts, are, own, shallow, none)) = search (rules, no_tokens, tokens_again, surveys, no_program, others, derives_again)
again text not_in_profile (ts, are, why) =
    let read = tokens_again ts text are in
    let s = others ts read.1 why (surveyed false 0 0 ts) refl in
    rw (read.0, s) refl
again text with_pattern (p, d, pattern) = let found = derives_again text p d in rw (found.0, found.1) (rw pattern refl)

pub comes_to : (text : List ℕ) (o : Outcome) → (outcome text ≡ o) ↔ ComesTo text o
comes_to text o = (outcome_comes text o, again text o)

pub only_outcome : (text : List ℕ) (o q : Outcome) → ComesTo text o → ComesTo text q → o ≡ q
only_outcome text o q a b = sym (again text o a) ∙ again text q b

pub some_outcome : (text : List ℕ) → (o : Outcome) × ComesTo text o
some_outcome text = (outcome text, outcome_comes text (outcome text) refl)
