-- The `:` of a key after white space.
use Rattle.std.proofs.Common.{◌≡◌, ℕ, suc, ◌+◌, ◌-◌, ◌==◌, true, List, [], ◌∷◌, ◌++◌, length, take, drop, eqb-true, Some, refl, sym, subst}
use Rattle.std.{proofs.Common.{ap, ◌∙◌, arith, append_assoc, length-append, length-drop}, proofs.lemmas.Bool.{false≢true, and_parts}}
use Rattle.std.specs.Str.{IsUtf8, IsCharBoundary}
use Rattle.yq_core.{specs.Text.{cut, no_white, separates, upto}, proofs.Upto.cut_takes}
use Rattle.yq_row_table.{specs.Reading.{is_colon, read_colon}, proofs.NodePieces.following_ascii}

colon_is : (t : List ℕ) → is_colon t ≡ true → t ≡ 58 ∷ drop 1 t
colon_is [] h = absurd (false≢true h)
colon_is (b ∷ bs) h = ap (λ (k : ℕ). k ∷ bs) (eqb-true b 58 (and_parts (b == 58) (separates bs) h).0)

white_and : (t white rest : List ℕ) → (white, rest) ≡ cut no_white t → t ≡ white ++ rest
white_and t white rest e = cut_takes no_white t ∙ ap (λ (y : List ℕ × List ℕ). y.0 ++ y.1) (sym e)

pub colon_boundary : (t white rest : List ℕ) → (white, rest) ≡ cut no_white t → is_colon rest ≡ true → IsUtf8 t → IsCharBoundary t (length white + 1)
colon_boundary t white rest e colon u =
    let front : List ℕ = white ++ 58 ∷ [] in
    let is : t ≡ front ++ drop 1 rest = white_and t white rest e ∙ (ap (λ (l : List ℕ). white ++ l) (colon_is rest colon) ∙ sym (append_assoc white (58 ∷ []) (drop 1 rest))) in
    let long : length front ≡ length white + 1 = length-append white (58 ∷ []) in
    let here = following_ascii front (drop 1 rest) (subst IsUtf8 is u) (record { front = white; last = 58; is = refl; ascii = omega arith }) in
    subst (λ (l : List ℕ). IsCharBoundary l (length white + 1)) (sym is) (subst (λ (n : ℕ). IsCharBoundary (front ++ drop 1 rest) n) long here)

pub colon_found : (t white rest front after : List ℕ) → (white, rest) ≡ cut no_white t → is_colon rest ≡ true → front ≡ take (length white + 1) t → after ≡ drop (length white + 1) t → Some (front, after) ≡ read_colon t
unfolding read_colon
colon_found t white rest front after e colon f b =
    let n : ℕ = upto no_white t in
    let rest_is : rest ≡ drop n t = ap (λ (y : List ℕ × List ℕ). y.1) e in
    let some : length rest ≡ suc (length (drop 1 rest)) = ap length (colon_is rest colon) in
    let both : length t ≡ length white + length rest = ap length (white_and t white rest e) ∙ length-append white rest in
    let following_is : length rest ≡ length t - n = ap length rest_is ∙ length-drop n t in
    let long : length white + 1 ≡ suc n = omega (arith, some, both, following_is) in
    let yes : is_colon (drop n t) ≡ true = subst (λ (l : List ℕ). is_colon l ≡ true) rest_is colon in
    rw yes (ap (λ (l : List ℕ). Some (l, after)) (f ∙ ap (λ (k : ℕ). take k t) long) ∙ ap (λ (l : List ℕ). Some (take (suc n) t, l)) (b ∙ ap (λ (k : ℕ). drop k t) long))
