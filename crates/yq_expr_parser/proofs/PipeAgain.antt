-- Conditions, stages and pipes of the grammar are read again.
use Rattle.std.{proofs.Common.{◌≡◌, Bool, true, List, [], ◌∷◌, Some, None, refl, sym, subst, inl, inr, rules}, specs.Prelude.codes}
use Rattle.yq_semantics.specs.Program.{is_simple, PathStep, each, Operand, value_at, document_index, compares, has, Stage}
use Rattle.yq_semantics.specs.Tokens.{Token, symbol}
use Rattle.yq_semantics.specs.Grammar.{Production, HasSymbol, IsSimple, IsOperand, comparison, IsCondition, InParentheses, IsStage, IsPipe}
use Rattle.yq_semantics.specs.Grammar.{IsLeft}
use Rattle.yq_expr_parser.specs.Lexing.{after}
use Rattle.yq_expr_parser.specs.Parse.{Parse, parenthesized_at, operand_at, comparison_at, condition_at, stage_at, pipe_at, left_at}
use Rattle.yq_expr_parser.{specs.Parse.begins_left, proofs.LoopSteps.stage_lessens}
use Rattle.yq_expr_parser.proofs.FormsAgain.{after_again, Again, parted_again, Anything, Ends}
use Rattle.yq_expr_parser.{proofs.PathAgain.{no_mark, path_begins, path_again}, proofs.LiteralAgain.scalar_again}

simple_again : (steps : List PathStep) → IsSimple steps → is_simple steps ≡ true
simple_again [] h = refl
simple_again (each ∷ steps) h = absurd h
simple_again (_ ∷ steps) h = simple_again steps h

operand_again : Again operand_at IsOperand Ends
unfolding operand_at
operand_again (value_at steps) ts rest h f =
    let begins = path_begins steps ts rest h.1 in
    rw (no_mark (codes "di") ts refl begins, no_mark (codes "document_index") ts refl begins, path_again steps ts rest h.1 f, simple_again steps h.0) refl
operand_again document_index ts rest (inl h) f = rw h refl
operand_again document_index ts rest (inr h) f = rw h refl

operand_begins : (o : Operand) (ts rest : List Token) → IsOperand o ts rest → after (codes "has") ts ≡ None
operand_begins o ts rest h1 = search (rules, path_begins)

comparison_again : (equal : Bool) (ts rest : List Token) → HasSymbol (comparison equal) ts rest → (comparison_at ts ≡ Some (equal, rest)) × Ends ts
comparison_again equal ts rest h = search rules

condition_again : Again condition_at IsCondition Anything
unfolding condition_at
condition_again (compares o equal k t) ts rest h f =
    let sign = comparison_again equal h.0 h.1 h.3 in
    let left = operand_again o ts h.0 h.2 sign.1 in
    let right = scalar_again (record { kind = k; text = t }) h.1 rest h.4 f in
    rw (operand_begins o ts h.0 h.2, left, sign.0, right) refl
condition_again (has k) ts rest h f = rw h refl

parenthesized_again : {A : Type 0} (at : Parse A) (Is : Production A) (Follows : List Token → Type 0) → Again at Is Follows → ((r : List Token) → Follows (symbol (codes ")") ∷ r))
    → Again (parenthesized_at at) (InParentheses Is) Anything
parenthesized_again at Is Follows again mark x ts rest h f = search (rules, after_again)

stage_again : Again stage_at IsStage Ends
unfolding stage_at
stage_again steps ts rest h f = search (rules, no_mark, path_begins, path_again, parenthesized_again, condition_again)

pub pipe_again : (stages : List Stage) (ts rest : List Token) → IsPipe stages ts rest → Ends rest → after (codes "|") rest ≡ None → pipe_at ts ≡ Some (stages, rest)
unfolding pipe_at
pipe_again = parted_again (codes "|") stage_at IsStage Ends stage_lessens stage_again (λ r. (refl, refl, refl))

-- no path and no stage goes on
abbrev pub EndsPipe : List Token → Type 0
EndsPipe ts = Ends ts × (after (codes "|") ts ≡ None)

pub parenthesized_pipe : Again (parenthesized_at pipe_at) (InParentheses IsPipe) Anything
parenthesized_pipe = parenthesized_again pipe_at IsPipe EndsPipe (λ x ts rest h f. pipe_again x ts rest h f.0 f.1) (λ r. ((refl, refl, refl), refl))

pub left_again : Again left_at IsLeft Ends
unfolding left_at
left_again stages ts rest (inl h) f = rw (no_mark (codes "(") ts refl (path_begins h.0 ts rest h.2), path_again h.0 ts rest h.2 f, h.1) refl
left_again stages ts rest (inr h) f =
    let follows : EndsPipe h.1 = subst EndsPipe (sym h.4) ((refl, refl, refl), refl) in
    let read = pipe_again stages h.0 h.1 h.3 follows.0 follows.1 in
    let end = after_again (codes ")") h.1 rest h.4 in
    rw h.2 (rw (read, end) refl)

-- a left side begins with a path or a parenthesis
pub left_begins : (stages : List Stage) (ts rest : List Token) → IsLeft stages ts rest → (begins_left ts ≡ true) × (after (codes "del") ts ≡ None)
left_begins stages ts rest h1 = search (rules, path_begins)
