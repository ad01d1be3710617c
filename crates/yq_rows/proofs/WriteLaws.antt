-- Text that comes in the place of bytes that aren't kept, and the text of a region by its pieces.
use Rattle.std.proofs.Common.{◌≡◌, ℕ, ◌+◌, ◌-◌, ◌<◌, ◌≤◌, ◌^◌, Fits, w64, List, [], ◌++◌, length, take, drop, sym, ap, ◌∙◌, subst, arith}
use Rattle.std.{proofs.Common.{append_assoc, length-append, length-drop}, proofs.lemmas.List.{drop-drop, get_or-drop}}
use Rattle.std.{specs.Prelude.slice_index, specs.Str.IsCharBoundary}
use Rattle.yq_rows.{specs.Reading.region_text, specs.declared.kept.Kept.Kept, specs.declared.touched.Touched.Touched}

-- a place after the first bytes of a text, in what follows them
boundary_after : (t : List ℕ) (a n : ℕ) → a ≤ n → IsCharBoundary t n → IsCharBoundary (drop a t) (n - a)
boundary_after t a n less h =
    let all : a + (n - a) ≡ n = omega (arith, less) in
    let byte : slice_index (drop a t) (n - a) ≡ slice_index t n = get_or-drop a t (n - a) 0 ∙ ap (slice_index t) all in (
      omega (arith, h.0, length-drop a t),
      λ inside low. subst (λ (m : ℕ). 192 ≤ m) (sym byte) (h.1 (omega (arith, inside, less, length-drop a t)) (subst (λ (m : ℕ). 128 ≤ m) byte low)),
    )

module _ (t : List ℕ) (front back gone : ℕ) (within : front + back ≤ length t) (gone_is : gone ≡ (length t - back) - front) where
  -- what is then there
  pub written : (new f b f2 b2 : List ℕ) → f ≡ take front t → b ≡ drop front t → f2 ≡ f ++ new → b2 ≡ drop gone b →
      f2 ++ b2 ≡ take front t ++ (new ++ drop (length t - back) t)
  written new f b f2 b2 f_is b_is f2_is b2_is =
      let all : front + gone ≡ length t - back = omega (arith, within, gone_is) in
      let one : f2 ≡ take front t ++ new = f2_is ∙ ap (λ (l : List ℕ). l ++ new) f_is in
      let two : b2 ≡ drop (length t - back) t = b2_is ∙ (ap (drop gone) b_is ∙ (drop-drop gone front t ∙ ap (λ (n : ℕ). drop n t) all)) in
      (λ i. one i ++ two i) ∙ append_assoc (take front t) new (drop (length t - back) t)

-- the pieces of a region
module _ (t new front back : List ℕ) (x : Touched) (kept : Kept) (n : ℕ) (front_is : front ≡ drop x.front.bytes (take kept.front t))
    (n_is : n ≡ length t - kept.back) (back_is : back ≡ drop n (take x.old.bytes t)) where
  pieces : front ++ (new ++ back) ≡ region_text t x kept new
  pieces =
      let last : back ≡ drop (length t - kept.back) (take x.old.bytes t) = back_is ∙ ap (λ (m : ℕ). drop m (take x.old.bytes t)) n_is in
      λ i. front_is i ++ (new ++ last i)

  long : length front + (length new + length back) ≡ length (region_text t x kept new)
  long = sym (length-append front (new ++ back) ∙ ap (λ (m : ℕ). length front + m) (length-append new back)) ∙ ap length pieces

  pub two_fit : length (region_text t x kept new) < 2 ^ 32 → (a : ℕ) → a ≡ length front → Fits w64 (a + length new)
  two_fit small a a_is = omega (arith, long, small, a_is)

  pub three_fit : length (region_text t x kept new) < 2 ^ 32 → (a b : ℕ) → a ≡ length front → b ≡ length back → Fits w64 ((a + length new) + b)
  three_fit small a b a_is b_is = omega (arith, long, small, a_is, b_is)

  pub pushed : (a b c d r0 r1 r2 r3 r4 r5 : List ℕ) → front ≡ a ++ b → back ≡ c ++ d → r0 ≡ [] → r1 ≡ r0 ++ a → r2 ≡ r1 ++ b → r3 ≡ r2 ++ new → r4 ≡ r3 ++ c →
      r5 ≡ r4 ++ d → r5 ≡ region_text t x kept new
  pushed a b c d r0 r1 r2 r3 r4 r5 f_is b_is e0 e1 e2 e3 e4 e5 =
      let one : r1 ≡ a = e1 ∙ ap (λ (l : List ℕ). l ++ a) e0 in
      let two : r2 ≡ front = e2 ∙ (ap (λ (l : List ℕ). l ++ b) one ∙ sym f_is) in
      let three : r3 ≡ front ++ new = e3 ∙ ap (λ (l : List ℕ). l ++ new) two in
      let four : r4 ≡ (front ++ new) ++ c = e4 ∙ ap (λ (l : List ℕ). l ++ c) three in
      let five : r5 ≡ ((front ++ new) ++ c) ++ d = e5 ∙ ap (λ (l : List ℕ). l ++ d) four in
      five ∙ (append_assoc (front ++ new) c d ∙ (append_assoc front new (c ++ d) ∙ (ap (λ (l : List ℕ). front ++ (new ++ l)) (sym b_is) ∙ pieces)))
