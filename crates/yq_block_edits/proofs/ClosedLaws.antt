-- Whether a text ends in a break.
use Rattle.std.proofs.Common.{◌≡◌, ℕ, ◌-◌, ◌≤◌, List, [], ◌∷◌, ◌++◌, nat_eq, false, length, slice_index_or, refl, sym, ap, ◌∙◌, arith}
use Rattle.std.proofs.lemmas.Bool.{false≢true}
use Rattle.yq_core.specs.Text.{is_feed}
use Rattle.yq_edit_rules.specs.ClosedTexts.{is_closed_text}

last_agrees : (x d : ℕ) (t : List ℕ) → is_feed (slice_index_or (x ∷ t) (length t) d) ≡ is_closed_text (x ∷ t)
unfolding is_closed_text
last_agrees x d [] = refl
last_agrees x d (y ∷ t) = last_agrees y d t

-- its last byte tells
pub closed_last : (t : List ℕ) → 1 ≤ length t → is_feed (slice_index_or t (length t - 1) 0) ≡ is_closed_text t
closed_last [] some = absurd (omega (arith, some))
closed_last (y ∷ t) some =
    let less : length (y ∷ t) - 1 ≡ length t = omega arith in
    ap (λ n. is_feed (slice_index_or (y ∷ t) n 0)) less ∙ last_agrees y 0 t

-- and so does its second half, unless that is empty
pub half_agrees : (a b : List ℕ) → nat_eq (length b) 0 ≡ false → is_closed_text b ≡ is_closed_text (a ++ b)
unfolding is_closed_text
half_agrees a [] some = absurd (false≢true (sym some))
half_agrees [] (x ∷ b) some = refl
half_agrees (y ∷ []) (x ∷ b) some = refl
half_agrees (y ∷ (z ∷ a)) (x ∷ b) some = half_agrees (z ∷ a) (x ∷ b) some
