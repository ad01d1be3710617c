-- Updates of the grammar are read again.
use Rattle.std.{proofs.Common.{◌≡◌, List, [], ◌∷◌, Some, None, refl, rules}, specs.Prelude.codes}
use Rattle.yq_semantics.{specs.declared.program.Operator.Operator, specs.declared.program.CommentPlace.CommentPlace}
use Rattle.yq_semantics.{specs.Program.{literal, found, Update, assign, delete, comment}, specs.Tokens.{Token, string, symbol}}
use Rattle.yq_semantics.specs.Grammar.{HasSymbol, AreParted, literal_depth, IsTerm, IsRight, operator_mark, place_word, IsUpdate}
use Rattle.yq_expr_parser.{specs.Lexing.after, specs.Parse.{parted_at, term_at, right_at, operator_at, place_at, action_at, parse_update}}
use Rattle.yq_expr_parser.{proofs.LoopSteps.{term_lessens, update_lessens}, proofs.FormsAgain.{Again, parted_again, Ends}}
use Rattle.yq_expr_parser.proofs.LiteralAgain.{literal_begins, literal_again}
use Rattle.yq_expr_parser.proofs.PipeAgain.{EndsPipe, parenthesized_pipe, left_again, left_begins}

term_again : Again (term_at literal_depth) IsTerm Ends
unfolding term_at
term_again (literal n) ts rest h f =
    let other = (literal_begins literal_depth n ts rest h).left in
    rw (other, literal_again literal_depth n ts rest h tt) refl
term_again (found stages) ts rest h f =
    let left = (left_begins stages ts rest h).0 in
    rw (left, left_again stages ts rest h f) refl

-- no path and no term goes on
abbrev EndsSum : List Token → Type 0
EndsSum ts = Ends ts × (after (codes "+") ts ≡ None)

right_again : Again (right_at literal_depth) IsRight EndsSum
unfolding right_at
right_again terms ts rest h f = parted_again (codes "+") (term_at literal_depth) IsTerm Ends term_lessens term_again (λ r. (refl, refl, refl)) terms ts rest h f.0 f.1

pub operator_again : (op : Operator) (ts rest : List Token) → HasSymbol (operator_mark op) ts rest → (operator_at ts ≡ Some (op, rest)) × EndsPipe ts
operator_again op ts rest h1 = search rules

pub place_again : (p : CommentPlace) (ts rest : List Token) → HasSymbol (place_word p) ts rest → (operator_at ts ≡ None) × (place_at ts ≡ Some (p, rest)) × EndsPipe ts
place_again p ts rest h = search rules

update_again : Again (parse_update literal_depth) IsUpdate EndsSum
unfolding parse_update action_at
update_again (assign left op right) ts rest h f =
    let sign = operator_again op h.0 h.1 h.3 in
    let front = (left_begins left ts h.0 h.2).1 in
    rw (front, left_again left ts h.0 h.2 sign.1.0, sign.0, right_again right h.1 rest h.4 f) refl
update_again (delete stages) ts rest h f =
    let read = parenthesized_pipe stages h.0 rest h.2 tt in
    rw h.1 (rw read refl)
update_again (comment left p text) ts rest h f =
    let word = place_again p h.0 (symbol (codes "=") ∷ string text ∷ rest) h.2 in
    let front = (left_begins left ts h.0 h.1).1 in
    rw (front, left_again left ts h.0 h.1 word.2.0, word.0, word.1) refl

pub updates_again : (us : List Update) (ts : List Token) → AreParted (codes "|") IsUpdate us ts [] → parted_at (codes "|") (parse_update literal_depth) ts ≡ Some (us, [])
updates_again us ts h = parted_again (codes "|") (parse_update literal_depth) IsUpdate EndsSum update_lessens update_again (λ r. ((refl, refl, refl), refl)) us ts [] h ((refl, refl, refl), refl) refl
