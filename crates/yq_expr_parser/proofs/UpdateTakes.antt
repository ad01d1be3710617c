-- The updates and programs that are read are those of the grammar, and each has a token at least.
use Rattle.std.{proofs.Common.{◌≡◌, List, [], ◌∷◌, length, Some, ap, inl, inr, arith, rules}, proofs.lemmas.Option.same_Some}
use Rattle.std.specs.Prelude.{codes}
use Rattle.yq_core.{specs.Answers.◌>>=◌, proofs.Bools.{bind_some, chosen}}
use Rattle.yq_semantics.{specs.declared.program.Operator.Operator, specs.declared.program.CommentPlace.CommentPlace}
use Rattle.yq_semantics.specs.Program.{Stage, literal, found, Update, assign, delete, comment, Program}
use Rattle.yq_semantics.specs.Tokens.{Token, string, symbol}
use Rattle.yq_semantics.specs.Grammar.{Production, HasSymbol, InParentheses, IsPipe, IsLeft, literal_depth, IsTerm, IsRight, operator_mark}
use Rattle.yq_semantics.specs.Grammar.{place_word, IsUpdate, IsProgram}
use Rattle.yq_expr_parser.specs.Lexing.{after, taken, as_string}
use Rattle.yq_expr_parser.specs.Parse.{Parse, term_at, right_at, operator_at, place_at, action_at, parse_update, all_read, updates_at}
use Rattle.yq_expr_parser.specs.Parse.{program_at}
use Rattle.yq_expr_parser.proofs.Readers.{either_cases, after_takes, string_takes, Takes, Shortens, same_form, parted_takes}
use Rattle.yq_expr_parser.proofs.Readers.{preceded_shortens, parted_shortens, between_shortens}
use Rattle.yq_expr_parser.proofs.LiteralTakes.{literal_takes, literal_shortens}
use Rattle.yq_expr_parser.proofs.PipeTakes.{parenthesized_takes, pipe_takes, pipe_shortens, left_takes, left_shortens}

pub term_takes : Takes (term_at literal_depth) IsTerm
unfolding term_at
term_takes ts x h = search (rules, chosen, bind_some, same_form, left_takes, literal_takes)

pub term_shortens : Shortens IsTerm
term_shortens (literal n) ts rest h = literal_shortens literal_depth n ts rest h
term_shortens (found stages) ts rest h = left_shortens stages ts rest h

pub right_takes : Takes (right_at literal_depth) IsRight
unfolding right_at
right_takes = parted_takes (codes "+") (term_at literal_depth) IsTerm term_takes

pub right_shortens : Shortens IsRight
right_shortens = parted_shortens (codes "+") IsTerm term_shortens

operator_takes : (ts : List Token) (x : Operator × List Token) → operator_at ts ≡ Some x → HasSymbol (operator_mark x.0) ts x.1
operator_takes ts x h = search (rules, either_cases, same_form, after_takes, bind_some)

place_takes : (ts : List Token) (x : CommentPlace × List Token) → place_at ts ≡ Some x → HasSymbol (place_word x.0) ts x.1
place_takes ts x h = search (rules, either_cases, same_form, after_takes, bind_some)

action_takes : (left : List Stage) (all ts : List Token) (x : Update × List Token) → IsLeft left all ts → action_at literal_depth left ts ≡ Some x → IsUpdate x.0 all x.1
unfolding action_at
action_takes left all ts x is h = elim (either_cases (operator_at ts) h) [
  | inl op ↦
      let y = bind_some (right_at literal_depth op.0.1) op.2 in
      same_form IsUpdate all y.2 (ts, op.0.1, is, operator_takes ts op.0 op.1, right_takes op.0.1 y.0 y.1)
  | inr on ↦
      let p = bind_some (place_at ts) on.1 in
      let r = bind_some (after (codes "=") p.0.1) p.2 in
      let s = bind_some (taken as_string r.0) r.2 in
      let a : ts ≡ symbol (place_word p.0.0) ∷ p.0.1 = place_takes ts p.0 p.1 in
      let b : p.0.1 ≡ symbol (codes "=") ∷ r.0 = after_takes (codes "=") p.0.1 r.0 r.1 in
      let c : r.0 ≡ string s.0.0 ∷ s.0.1 = string_takes r.0 s.0 s.1 in
      same_form IsUpdate all s.2 (ts, is, cc)
]

pub update_takes : Takes (parse_update literal_depth) IsUpdate
unfolding parse_update
update_takes ts x h = search (rules, either_cases, bind_some, same_form, after_takes, parenthesized_takes, pipe_takes, action_takes, left_takes)

pub update_shortens : Shortens IsUpdate
update_shortens (assign left op right) ts rest h =
    let front = left_shortens left ts h.0 h.2 in
    let mid = ap length h.3 in
    let last = right_shortens right h.1 rest h.4 in
    omega arith
update_shortens (delete stages) ts rest h = preceded_shortens (codes "del") (InParentheses IsPipe) (between_shortens (codes "(") (codes ")") IsPipe pipe_shortens) stages ts rest h
update_shortens (comment left p text) ts rest h =
    let front = left_shortens left ts h.0 h.1 in
    omega (arith, ap length h.2)

whole_is : {A : Type 0} (x : A × List Token) (y : A) → all_read x ≡ Some y → (x.0 ≡ y) × (x.1 ≡ [])
whole_is x y h = search (rules, same_Some)

pub whole_takes : {A : Type 0} (at : Parse A) (Is : Production A) → Takes at Is → (ts : List Token) (x : A) → (at ts >>= all_read) ≡ Some x → Is x ts []
whole_takes {A} at Is takes ts x h = search (rules, bind_some, whole_is)

pub program_takes : (ts : List Token) (p : Program) → program_at literal_depth ts ≡ Some p → IsProgram p ts
unfolding program_at updates_at
program_takes ts p h = search (rules, either_cases, same_Some, whole_takes, pipe_takes, bind_some, parted_takes, update_takes)
