-- The break that ends a text.
use Rattle.std.proofs.Common.{◌≡◌, ◌⊎◌, inl, ℕ, List, [], ◌∷◌, true, ◌&&◌, refl, eqb-true, rules}
use Rattle.std.proofs.lemmas.Bool.{false≢true, and_parts}
use Rattle.yq_core.{proofs.LineLaws.is_empty_is, specs.Text.{is_break, is_line}}
use Rattle.yq_places.specs.PrintedLines.{less_break, last_break}

-- a break: LF or CR LF
abbrev pub IsLfOrCrLf : List ℕ → Type 0
IsLfOrCrLf t = (t ≡ 10 ∷ []) ⊎ (t ≡ 13 ∷ (10 ∷ []))

pub break_is : (p : List ℕ) → (is_break p && is_line p) ≡ true → IsLfOrCrLf p
unfolding is_line
break_is p h1 = search (rules, false≢true, and_parts, eqb-true, is_empty_is)

pub last_is : (t : List ℕ) → (last_break t ≡ []) ⊎ IsLfOrCrLf (last_break t)
unfolding less_break
last_is [] = inl refl
last_is (b ∷ bs) = search (rules, false≢true, eqb-true, and_parts, last_is bs)
