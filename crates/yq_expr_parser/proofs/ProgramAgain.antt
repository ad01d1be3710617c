-- Programs of the grammar are read again: no tokens are both a pipe and updates.
use Rattle.std.{proofs.Common.{◌≡◌, ◌⊎◌, ℕ, false, List, [], ◌∷◌, Option, Some, None, refl, inl, inr, rules}, specs.Prelude.codes}
use Rattle.std.{specs.Str.bytes_eq, proofs.lemmas.Bool.false≢true, proofs.lemmas.Slice.Eq.bytes_eq-Decides}
use Rattle.yq_semantics.{specs.declared.program.Operator.Operator, specs.declared.program.CommentPlace.CommentPlace}
use Rattle.yq_semantics.specs.Program.{Stage, Update, assign, delete, comment, Program, read, updates}
use Rattle.yq_semantics.specs.Tokens.{Token, string, symbol}
use Rattle.yq_semantics.specs.Grammar.{HasSymbol, Are, Preceded, AreParted, IsStage, IsPipe, IsLeft, literal_depth, operator_mark}
use Rattle.yq_semantics.specs.Grammar.{place_word, IsUpdate, IsProgram}
use Rattle.yq_expr_parser.{specs.Parse.{pipe_at, whole_form, updates_at, program_at}, proofs.Readers.second, proofs.UpdateTakes.whole_takes}
use Rattle.yq_expr_parser.{proofs.PipeTakes.pipe_takes, proofs.FormsAgain.Ends, proofs.PathAgain.{BeginsPath, path_begins, path_again}}
use Rattle.yq_expr_parser.{proofs.PipeAgain.pipe_again, proofs.UpdateAgain.updates_again}

-- what follows the first stage of a pipe that is all
pipe_goes_on : (stages : List Stage) (ts : List Token) → Are (Preceded (codes "|") IsStage) stages ts [] → (ts ≡ []) ⊎ ((r : List Token) × HasSymbol (codes "|") ts r)
pipe_goes_on [] ts h = inl h
pipe_goes_on (s ∷ stages) ts h = inr (h.1.0, h.1.1)

-- what an update does with what it finds
abbrev Acts : List Token → Type 0
Acts ts = ((op : Operator) × (r : List Token) × HasSymbol (operator_mark op) ts r) ⊎ ((p : CommentPlace) × (r : List Token) × HasSymbol (place_word p) ts r)

acts_ends : (ts : List Token) → Acts ts → Ends ts
acts_ends ts h = search rules

-- two marks that differ
two_marks : (ts : List Token) (w v : List ℕ) (r q : List Token) → HasSymbol w ts r → HasSymbol v ts q → bytes_eq w v ≡ false → ⊥
two_marks ts w v r q h k differ = search (rules, false≢true, bytes_eq-Decides)

-- it doesn't end there, nor is there a `|`
acts_alone : (ts : List Token) → Acts ts → ((ts ≡ []) ⊎ ((r : List Token) × HasSymbol (codes "|") ts r)) → ⊥
acts_alone ts h on = search rules

begins_other : (ts : List Token) (w : List ℕ) (r : List Token) → BeginsPath ts → HasSymbol w ts r → bytes_eq w (codes ".") ≡ false → ⊥
begins_other ts w r b e other = search rules

-- no tokens are both a pipe and updates
no_stage : (s : Stage) (ts end sign : List Token) (left : List Stage) → IsStage s ts end → ((end ≡ []) ⊎ ((r : List Token) × HasSymbol (codes "|") end r)) → IsLeft left ts sign → Acts sign → ⊥
no_stage s ts end sign left h1 h2 h3 h4 = search (rules, path_again, acts_ends, second, acts_alone, begins_other, path_begins, two_marks)

no_delete : (s : Stage) (ts end r : List Token) → IsStage s ts end → HasSymbol (codes "del") ts r → ⊥
no_delete s ts end r h d = search rules

not_both : (stages : List Stage) (us : List Update) (ts : List Token) → IsPipe stages ts [] → AreParted (codes "|") IsUpdate us ts [] → ⊥
not_both [] us ts h k = h
not_both (s ∷ stages) [] ts h k = k
not_both (s ∷ stages) (assign left op right ∷ us) ts h k = no_stage s ts h.0 k.1.0 left h.1 (pipe_goes_on stages h.0 h.2) k.1.2 (inl (op, k.1.1, k.1.3))
not_both (s ∷ stages) (delete removed ∷ us) ts h k = no_delete s ts h.0 k.1.0 h.1 k.1.1
not_both (s ∷ stages) (comment left p text ∷ us) ts h k = no_stage s ts h.0 k.1.0 left h.1 (pipe_goes_on stages h.0 h.2) k.1.1 (inr (p, symbol (codes "=") ∷ string text ∷ k.0, k.1.2))

no_pipe : (us : List Update) (ts : List Token) → AreParted (codes "|") IsUpdate us ts [] → (o : Option (List Stage)) → whole_form pipe_at ts ≡ o → o ≡ None
no_pipe us ts h None e = refl
no_pipe us ts h (Some stages) e = absurd (not_both stages us ts (whole_takes pipe_at IsPipe pipe_takes ts stages e) h)

pub program_again : (p : Program) (ts : List Token) → IsProgram p ts → program_at literal_depth ts ≡ Some p
unfolding program_at updates_at
program_again (read stages) ts h = rw (pipe_again stages ts [] h (refl, refl, refl) refl) refl
program_again (updates us) ts h =
    let none : whole_form pipe_at ts ≡ None = no_pipe us ts h (whole_form pipe_at ts) refl in
    rw none (rw (updates_again us ts h) refl)
