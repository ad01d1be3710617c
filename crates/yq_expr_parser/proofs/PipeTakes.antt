-- The conditions, stages and pipes that are read are those of the grammar, and each has a token at least.
use Rattle.std.proofs.Common.{◌≡◌, Bool, true, List, [], ◌∷◌, length, Some, refl, ap, inl, inr, arith, rules}
use Rattle.std.{proofs.lemmas.Option.cond_some, specs.Prelude.codes}
use Rattle.yq_core.proofs.Bools.{bind_some}
use Rattle.yq_semantics.{specs.Program.{is_simple, PathStep, each, value_at, document_index, has}, specs.Tokens.{Token, string, symbol}}
use Rattle.yq_semantics.specs.Grammar.{Production, HasSymbol, IsSimple, IsOperand, comparison, IsCondition, InParentheses, IsStage, IsPipe}
use Rattle.yq_semantics.specs.Grammar.{IsLeft}
use Rattle.yq_expr_parser.specs.Lexing.{after, taken, as_string}
use Rattle.yq_expr_parser.specs.Parse.{Parse, parenthesized_at, path_at, parse_scalar, operand_at, comparison_at, condition_at, stage_at}
use Rattle.yq_expr_parser.specs.Parse.{pipe_at, left_at}
use Rattle.yq_expr_parser.proofs.Readers.{either_cases, after_takes, string_takes, Takes, Shortens, same_form, parted_takes, closed_takes}
use Rattle.yq_expr_parser.proofs.Readers.{preceded_shortens, parted_shortens, between_shortens}
use Rattle.yq_expr_parser.{proofs.PathTakes.{path_takes, path_shortens}, proofs.LiteralTakes.{scalar_takes, scalar_shortens}}

simple_is : (steps : List PathStep) → is_simple steps ≡ true → IsSimple steps
simple_is [] h = tt
simple_is (each ∷ steps) h = cc
simple_is (_ ∷ steps) h = simple_is steps h

pub operand_takes : Takes operand_at IsOperand
unfolding operand_at
operand_takes ts x h = search (rules, either_cases, same_form, after_takes, bind_some, cond_some, simple_is, path_takes)

comparison_takes : (ts : List Token) (x : Bool × List Token) → comparison_at ts ≡ Some x → HasSymbol (comparison x.0) ts x.1
comparison_takes ts x h = search (rules, either_cases, same_form, after_takes, bind_some)

pub parenthesized_takes : {A : Type 0} (at : Parse A) (Is : Production A) → Takes at Is → Takes (parenthesized_at at) (InParentheses Is)
parenthesized_takes at Is takes ts x h = search (rules, bind_some, closed_takes, after_takes)

pub condition_takes : Takes condition_at IsCondition
unfolding condition_at
condition_takes ts x h = elim (either_cases (after (codes "has") ts) h) [
  | inl word ↦
      let y = bind_some (parenthesized_at (taken as_string) word.0) word.2 in
      let p = parenthesized_takes (taken as_string) (λ c ts rest. ts ≡ string c ∷ rest) string_takes word.0 y.0 y.1 in
      let a : ts ≡ symbol (codes "has") ∷ word.0 = after_takes (codes "has") ts word.0 word.1 in
      same_form IsCondition ts {x = (has y.0.0, y.0.1)} y.2 (let b = p.2 in let c = p.3 in let d = p.4 in cc)
  | inr on ↦
      let o = bind_some (operand_at ts) on.1 in
      let c = bind_some (comparison_at o.0.1) o.2 in
      let s = bind_some (parse_scalar c.0.1) c.2 in
      same_form IsCondition ts s.2 (o.0.1, c.0.1, operand_takes ts o.0 o.1, comparison_takes o.0.1 c.0 c.1, scalar_takes c.0.1 s.0 s.1)
]

pub stage_takes : Takes stage_at IsStage
unfolding stage_at
stage_takes ts x h = search (rules, either_cases, bind_some, same_form, after_takes, parenthesized_takes, condition_takes, path_takes)

operand_shortens : Shortens IsOperand
operand_shortens (value_at steps) ts rest h = path_shortens steps ts rest h.1
operand_shortens document_index ts rest (inl h) = omega (arith, ap length h)
operand_shortens document_index ts rest (inr h) = omega (arith, ap length h)

condition_shortens : Shortens IsCondition
condition_shortens t ts rest h = search (rules, scalar_shortens, operand_shortens)

pub stage_shortens : Shortens IsStage
stage_shortens steps ts rest h = search (rules, path_shortens, preceded_shortens, between_shortens, condition_shortens)

pub pipe_takes : Takes pipe_at IsPipe
unfolding pipe_at
pipe_takes = parted_takes (codes "|") stage_at IsStage stage_takes

pub pipe_shortens : Shortens IsPipe
pipe_shortens = parted_shortens (codes "|") IsStage stage_shortens

pub left_takes : Takes left_at IsLeft
unfolding left_at
left_takes ts x h = elim (either_cases (after (codes "(") ts) h) [
  | inl opened ↦
      let y = closed_takes (codes ")") pipe_at IsPipe pipe_takes opened.0 x opened.2 in
      inr (opened.0, y.0, after_takes (codes "(") ts opened.0 opened.1, y.1, y.2)
  | inr on ↦
      let y = bind_some (path_at ts) on.1 in
      same_form IsLeft ts y.2 (inl (y.0.0, refl, path_takes ts y.0 y.1))
]

pub left_shortens : Shortens IsLeft
left_shortens stages ts rest (inl h) = path_shortens h.0 ts rest h.2
left_shortens stages ts rest (inr h) = between_shortens (codes "(") (codes ")") IsPipe pipe_shortens stages ts rest h
