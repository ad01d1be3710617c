-- Texts of one line: no line feed is in them, but perhaps as the last byte.
use Rattle.std.proofs.Common.{◌≡◌, ℕ, Bool, true, false, cond, List, [], ◌∷◌, ◌++◌, refl, sym, ap, ◌∙◌, rules}
use Rattle.std.proofs.lemmas.Bool.{false≢true, and_parts}
use mathlib.Core.List.{head-eq_of_cons-eq, tail-eq_of_cons-eq}
use Rattle.yq_core.{specs.Text.{is_empty, is_feed, is_line}, proofs.BlockPieceLaws.IsLf, proofs.LineLaws.is_empty_is}
use Rattle.yq_row_table.specs.Gap.{IsBreak}

-- whether no line feed is in a text, but perhaps as its last byte
abbrev pub is_one_line : List ℕ → Bool
is_one_line [] = true
is_one_line (b ∷ t) = cond (is_feed b) (is_empty t) (is_one_line t)

pub left_none : (a b : List ℕ) → a ++ b ≡ [] → b ≡ []
left_none [] b e = e
left_none (x ∷ a) b e = absurd (let none : x ∷ (a ++ b) ≡ [] = e in cc)

-- what comes after a line feed in such a text
pub past_feed : (u w : List ℕ) → is_one_line (u ++ w) ≡ true → IsLf u → w ≡ []
past_feed [] w h lf = absurd (none lf.0 lf.1)
  where
    none : (f : List ℕ) → [] ≡ f ++ 10 ∷ [] → ⊥
    none [] e = cc
    none (x ∷ f) e = cc
past_feed (b ∷ u) w h lf = go (past_feed u w) (is_feed b) refl
  where
    more : is_feed b ≡ false → (f : List ℕ) → b ∷ u ≡ f ++ 10 ∷ [] → IsLf u
    more e [] is = absurd (false≢true (sym e ∙ ap is_feed (head-eq_of_cons-eq is)))
    more e (x ∷ f) is = (f, tail-eq_of_cons-eq is)

    go : (is_one_line (u ++ w) ≡ true → IsLf u → w ≡ []) → (x : Bool) → is_feed b ≡ x → w ≡ []
    go h1 x h2 = search (rules, left_none, is_empty_is, more)

-- ---- ends of lines

line_is_one : (t : List ℕ) → is_line t ≡ true → is_one_line t ≡ true
unfolding is_line
line_is_one [] h = refl
line_is_one (b ∷ t) h = search (rules, is_one_line, line_is_one t)

pub break_line : (b rest : List ℕ) → IsBreak b rest → is_one_line b ≡ true
break_line b rest h1 = search (rules, line_is_one, and_parts)
