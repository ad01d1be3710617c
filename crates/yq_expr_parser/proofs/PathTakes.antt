-- The steps and paths that are read are those of the grammar, and each has a token at least.
use Rattle.std.{proofs.Common.{◌≡◌, false, List, Some, is_some, inl, inr, rules}, proofs.lemmas.Option.same_Some, specs.Prelude.codes}
use Rattle.yq_core.proofs.Bools.{bind_some, chosen}
use Rattle.yq_semantics.{specs.Program.PathStep, specs.Tokens.Token}
use Rattle.yq_semantics.specs.Grammar.{Production, HasSymbol, IsBracket, IsFirst, IsNext, Are, IsPath}
use Rattle.yq_expr_parser.{specs.Lexing.after, specs.Parse.{many, bracketed_at, bracket_at, step_at, written_path, path_at}}
use Rattle.yq_expr_parser.proofs.Readers.{either_cases, after_takes, string_takes, number_takes, named_takes, Takes, TakesMaybe, Shortens}
use Rattle.yq_expr_parser.proofs.Readers.{same_form, many_takes, many_shortens}

-- a bracket from after its opening mark
abbrev Inner : Production PathStep
Inner s ts rest = (all : List Token) → HasSymbol (codes "[") all ts → IsBracket s all rest

bracketed_takes : Takes bracketed_at Inner
unfolding bracketed_at
bracketed_takes ts x h = search (rules, either_cases, same_form, after_takes, bind_some, number_takes, string_takes)

bracket_takes : TakesMaybe bracket_at IsBracket
bracket_takes ts x h = search (rules, either_cases, bind_some, same_form, same_Some, bracketed_takes, after_takes)

pub step_takes : TakesMaybe step_at IsNext
unfolding step_at
step_takes ts x h = search (rules, either_cases, same_form, same_Some, named_takes, after_takes, bracket_takes)

pub next_shortens : Shortens IsNext
next_shortens s ts rest h = search rules

path_takes_of : (ts : List Token) (y x : List PathStep × List Token) → is_some (after (codes "[") ts) ≡ false → Are IsNext y.0 ts y.1 → written_path y ≡ Some x → IsPath x.0 ts x.1
path_takes_of ts y x = search (rules, bind_some, same_form, after_takes)

pub path_takes : Takes path_at IsPath
unfolding path_at
path_takes ts x h = elim (chosen (is_some (after (codes "[") ts)) h) [
  | inl opened ↦ cc
  | inr closed ↦
      let y = bind_some (many step_at ts) closed.1 in
      path_takes_of ts y.0 x closed.0 (many_takes step_at IsNext step_takes ts y.0 y.1) y.2
]

first_shortens : Shortens IsFirst
first_shortens s ts rest h = search rules

pub path_shortens : Shortens IsPath
path_shortens h0 ts rest h = search (rules, first_shortens, many_shortens, next_shortens)
