-- The texts of comment lines.
use Rattle.std.proofs.Common.{rules, ◌≡◌, ℕ, true, false, eqb, List, [], ◌∷◌, drop, None, refl, sym, ap}
use Rattle.std.proofs.lemmas.Bool.{cond-true, cond-false, and_parts}
use Rattle.yq_core.{specs.Text.{front, text_lines, past_white, with_first}, specs.Nodes.begins_with}
use Rattle.yq_outline.specs.Comments.{less_space, comment_text, are_comments, last_comments}
use Rattle.yq_documents.specs.Texts.{text_then, texts}

pub space_there : (t r : List ℕ) → begins_with 32 t ≡ true → r ≡ drop 1 t → r ≡ less_space t
space_there t r h e = search (rules, cond-true)

pub no_space : (t : List ℕ) → begins_with 32 t ≡ false → t ≡ less_space t
no_space t h = search (rules, cond-false)

-- the texts of lines that are all comments
with_then : (l : List ℕ) (ts : List (List ℕ)) → front (λ b. eqb b 35) (past_white l) ≡ true → text_then (comment_text l) ts ≡ with_first (comment_text l) ts
with_then l ts h = search (rules, cond-true)

pub all_texts : (ls : List (List ℕ)) → are_comments ls ≡ true → texts ls ≡ last_comments ls
all_texts [] h = refl
all_texts (l ∷ ls) h = search (rules, and_parts, with_then, cond-true, all_texts ls)

-- a line that is no comment
pub no_text : (l : List ℕ) (ls : List (List ℕ)) → None ≡ comment_text l → texts (l ∷ ls) ≡ []
no_text l ls h = ap (λ o. text_then o (texts ls)) (sym h)

-- at the end of a text
pub none_left : (t : List ℕ) → t ≡ [] → texts (text_lines t) ≡ []
unfolding text_lines
none_left t e = ap (λ x. texts (text_lines x)) e
