-- The run of comment lines that ends lines.
use Rattle.std.proofs.Common.{rules, ◌≡◌, ℕ, true, false, cond, eqb, List, [], ◌∷◌, ◌++◌, refl, append_assoc}
use Rattle.std.proofs.lemmas.Bool.{cond-true, cond-false}
use Rattle.yq_core.specs.Text.{front, joined, past_white}
use Rattle.yq_outline.specs.Comments.{are_comments, last_comments}
use Rattle.yq_documents.{specs.Pieces.{before_run, last_run}, specs.Texts.texts, proofs.CommentLaws.all_texts}

-- some lines, if all lines after them are comments, else the run that ends those
abbrev pub run_or : List (List ℕ) → List (List ℕ) → List (List ℕ)
run_or run rest = cond (are_comments rest) run (last_run rest)

all_run : (ls : List (List ℕ)) → are_comments ls ≡ true → last_run ls ≡ ls
all_run [] h = refl
all_run (l ∷ ls) h = cond-true _ _ _ h

pub run_here : (ls : List (List ℕ)) → last_run ls ≡ run_or ls ls
run_here ls = search (rules, all_run)

pub run_on : (run ls : List (List ℕ)) (l : List ℕ) → front (λ b. eqb b 35) (past_white l) ≡ true → run_or run (l ∷ ls) ≡ run_or run ls
run_on run ls l h = search (rules, cond-true, cond-false)

pub run_anew : (run ls : List (List ℕ)) (l : List ℕ) → front (λ b. eqb b 35) (past_white l) ≡ false → run_or run (l ∷ ls) ≡ run_or ls ls
run_anew run ls l h = search (rules, cond-false, run_here)

-- the texts of the run
pub run_texts : (ls : List (List ℕ)) → texts (last_run ls) ≡ last_comments ls
run_texts [] = refl
run_texts (l ∷ ls) = search (rules, cond-true, all_texts, cond-false, run_texts ls)

-- the run and the lines before it
pub run_split : (ls : List (List ℕ)) → joined (before_run ls) ++ joined (last_run ls) ≡ joined ls
run_split [] = refl
run_split (l ∷ ls) = search (rules, append_assoc, run_split ls)
