-- Steps of the loops that say what raw lines say.
use Rattle.std.proofs.Common.{◌≡◌, ℕ, ◌+◌, Bool, true, false, not, ◌&&◌, eqb, List, [], ◌∷◌, ◌++◌, length, refl, sym, ap, ◌∙◌, append_assoc}
use Rattle.std.{proofs.Common.{append-nil, eqb-true, rules}, proofs.lemmas.Bool.false_from_ne_true}
use Rattle.yq_core.{proofs.LineLaws.line_step, specs.Block.no_lines}
use Rattle.yq_core.specs.BlockContent.{part_of, optional_break, literal, joint, chomped_end, is_spaced_line, folded}
use Rattle.yq_core.{specs.Text.{is_white, front, text_lines}, specs.declared.block_types.LineBefore.LineBefore}
use Rattle.yq_core.{specs.declared.block_header.Chomping.Chomping, specs.declared.block_lines.TextIndent.TextIndent}

pub lines_none : (a : List ℕ) → no_lines (text_lines a) ≡ eqb (length a) 0
unfolding text_lines
lines_none [] = refl
lines_none (b ∷ a) = search (rules, line_step, false_from_ne_true, eqb-true)

pub literal_step : (strip : Bool) (f : TextIndent) (t l a p out mid all : List ℕ) (o : Bool) → text_lines t ≡ l ∷ text_lines a → p ≡ part_of f l → o ≡ not (strip && eqb (length a) 0) → mid ≡ out ++ (p ++ optional_break o) →
    out ++ literal strip f (text_lines t) ≡ all → mid ++ literal strip f (text_lines a) ≡ all
unfolding literal
literal_step strip f t l a p out mid all o e is on m so_far = search (rules, lines_none, append_assoc)

pub literal_end : (strip : Bool) (f : TextIndent) (t out all : List ℕ) → t ≡ [] → out ++ literal strip f (text_lines t) ≡ all → out ≡ all
unfolding literal text_lines
literal_end strip f t out all h so_far = sym (append-nil out) ∙ (ap (λ x. out ++ literal strip f (text_lines x)) (sym h) ∙ so_far)

pub fold_blank : (c : Chomping) (f : TextIndent) (b : LineBefore) (k : ℕ) (t l a p out all : List ℕ) (z : Bool) → text_lines t ≡ l ∷ text_lines a → p ≡ part_of f l → z ≡ eqb (length p) 0 → z ≡ true →
    out ++ folded c f b k (text_lines t) ≡ all → out ++ folded c f b (k + 1) (text_lines a) ≡ all
unfolding folded
fold_blank c f b k t l a p out all z e is test yes_ so_far = search rules

pub fold_text : (c : Chomping) (f : TextIndent) (b kind : LineBefore) (k : ℕ) (t l a p out gone mid all : List ℕ) (z w : Bool) → text_lines t ≡ l ∷ text_lines a → p ≡ part_of f l → z ≡ eqb (length p) 0 → z ≡ false →
    w ≡ front is_white p → gone ≡ out ++ joint b w k → mid ≡ gone ++ p → kind ≡ is_spaced_line p →
    out ++ folded c f b k (text_lines t) ≡ all → mid ++ folded c f kind 0 (text_lines a) ≡ all
unfolding folded
fold_text c f b kind k t l a p out gone mid all z w e is test no_ white g m q so_far = search (rules, append_assoc)

pub fold_end : (c : Chomping) (f : TextIndent) (b : LineBefore) (k : ℕ) (t out end all : List ℕ) → t ≡ [] → end ≡ out ++ chomped_end c b k → out ++ folded c f b k (text_lines t) ≡ all → end ≡ all
unfolding folded text_lines
fold_end c f b k t out end all h e so_far = e ∙ (ap (λ x. out ++ folded c f b k (text_lines x)) (sym h) ∙ so_far)
