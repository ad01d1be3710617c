-- Heads that begin with a letter, a digit or no ASCII and are on one line.
use Rattle.std.proofs.Common.{⊎_elim, rules, ◌≡◌, ℕ, ◌≤◌, true, false, List, [], ◌∷◌, ◌++◌, length, refl, ap, ◌∙◌}
use Rattle.std.{proofs.lemmas.Bool.cases_Bool, specs.List.prefix_len}
use Rattle.yq_core.{specs.Plain.holds_break, specs.Runs.{is_word_byte, run_goes_on}, specs.Text.front}
use Rattle.yq_core.{specs.declared.runs.Run.TheVariants.Quoted, proofs.Bools.at_byte}
use Rattle.yq_row_table.proofs.WordFronts.{word_unquoted}
use Rattle.yq_compose.specs.Checking.{begins_tree, borrows_head}

-- no break is where the run goes on
one_line : (h rest : List ℕ) (n : ℕ) → n ≡ prefix_len (run_goes_on (Quoted 10)) (h ++ rest) → length h ≤ n → holds_break h ≡ false
one_line [] rest n run long = refl
one_line (b ∷ h) rest n run long = search (rules, ⊎_elim, cases_Bool, at_byte, one_line h rest (prefix_len (run_goes_on (Quoted 10)) (h ++ rest)) refl)

pub no_tree : (h : List ℕ) → front is_word_byte h ≡ true → begins_tree h ≡ false
no_tree h word = search (rules, at_byte)

pub word_borrowed : (h rest t : List ℕ) (n : ℕ) → front is_word_byte h ≡ true → t ≡ h ++ rest → n ≡ prefix_len (run_goes_on (Quoted 10)) t → length h ≤ n → borrows_head h ≡ true
word_borrowed h rest t n word is run long =
    let line : holds_break h ≡ false = one_line h rest n (run ∙ ap (prefix_len (run_goes_on (Quoted 10))) is) long in
    rw (no_tree h word, line, word_unquoted h word) refl
