-- The text of what comes in the place of what a change touches, and where a text may be cut for it.
use Rattle.std.proofs.Common.{◌≡◌, ℕ, ◌+◌, ◌-◌, ◌≤◌, List, ◌++◌, length, take, drop, drop_at, sym, ap, ◌∙◌, subst, arith, append_assoc}
use Rattle.std.proofs.Common.{length-append, length-take, take-append-drop, take-take, rules}
use Rattle.std.proofs.lemmas.List.{append_cancel_left, append_cancel_right, drop-append-le, get_or-take, take_at}
use Rattle.std.{proofs.lemmas.Str.{IsCharBoundary-at_seam, IsCharBoundary-from_take, IsUtf8-take}, specs.Str.{IsCharBoundary, IsUtf8}}

-- Three pieces of a text, and how many of its bytes are kept before and after.
pub record Pieces (t f m z : List ℕ) (front back : ℕ) : Type 0 where
  pub text : t ≡ f ++ (m ++ z)
  pub first : length f ≤ front
  pub last : length z ≤ back
  pub within : front + back ≤ length t

module _ (t f m z : List ℕ) (front back : ℕ) (h : Pieces t f m z front back) where
  grouped : t ≡ (f ++ m) ++ z
  grouped = h.text ∙ sym (append_assoc f m z)

  long : length t ≡ (length f + length m) + length z
  long = ap length grouped ∙ (length-append (f ++ m) z ∙ ap (λ (n : ℕ). n + length z) (length-append f m))

  kept_front : (b : ℕ) → b ≡ length f → take front t ≡ f ++ drop b (take front t)
  kept_front b is =
      let one : take b (take front t) ≡ f = take-take b front t (omega (arith, is, h.first)) ∙ (ap (take b) h.text ∙ take_at f (m ++ z) b (sym is)) in
      sym (take-append-drop b (take front t)) ∙ ap (λ l. l ++ drop b (take front t)) one

  kept_back : (e : ℕ) → e ≡ length f + length m → drop (length t - back) t ≡ drop (length t - back) (take e t) ++ z
  kept_back e is =
      let low : length t - back ≤ length (take e t) = omega (arith, long, h.last, length-take e t, is) in
      let rest : drop e t ≡ z = ap (drop e) grouped ∙ drop_at (f ++ m) z e (length-append f m ∙ sym is) in
      ap (drop (length t - back)) (sym (take-append-drop e t)) ∙ (drop-append-le (length t - back) (take e t) (drop e t) low ∙ ap (λ l. drop (length t - back) (take e t) ++ l) rest)

  -- what comes is what the new text has between the two others
  pub region_is : (new w : List ℕ) (b e : ℕ) → b ≡ length f → e ≡ length f + length m → take front t ++ (new ++ drop (length t - back) t) ≡ f ++ (w ++ z) → drop b (take front t) ++ (new ++ drop (length t - back) (take e t)) ≡ w
  region_is new w b e begin end all =
      let lead = drop b (take front t) in
      let trail = drop (length t - back) (take e t) in
      let own : take front t ++ (new ++ drop (length t - back) t) ≡ f ++ ((lead ++ (new ++ trail)) ++ z) =
      (λ i. kept_front b begin i ++ (new ++ kept_back e end i))
      ∙ (append_assoc f lead (new ++ (trail ++ z)) ∙ ap (λ l. f ++ l) (ap (λ l. lead ++ l) (sym (append_assoc new trail z)) ∙ sym (append_assoc lead (new ++ trail) z))) in
      append_cancel_right (lead ++ (new ++ trail)) w z (append_cancel_left f ((lead ++ (new ++ trail)) ++ z) (w ++ z) (sym own ∙ all))

  -- where the text may be cut

  pub begin_edge : (b : ℕ) → b ≡ length f → IsUtf8 t → IsUtf8 f → IsCharBoundary t front → IsCharBoundary (take front t) b
  begin_edge b is utf8 own edge =
      let one : take b (take front t) ≡ f = take-take b front t (omega (arith, is, h.first)) ∙ (ap (take b) h.text ∙ take_at f (m ++ z) b (sym is)) in
      IsCharBoundary-from_take (take front t) b (IsUtf8-take t front utf8 edge) (omega (arith, is, h.first, h.within, length-take front t)) (subst IsUtf8 (sym one) own)

  pub end_edge : (e : ℕ) → e ≡ length f + length m → IsUtf8 z → IsCharBoundary t e
  end_edge e is utf8 = subst (IsCharBoundary t) (length-append f m ∙ sym is) (IsCharBoundary-at_seam t (f ++ m) z grouped utf8)

  pub back_edge : (e : ℕ) → e ≡ length f + length m → IsCharBoundary t (length t - back) → IsCharBoundary (take e t) (length t - back)
  back_edge e is edge = search (rules, long, get_or-take, length-take)

  -- how what comes ends, where the touched bytes end with those that are kept
  pub region_ends : (new y x : List ℕ) (b e : ℕ) → e ≡ length f + length m → f ++ m ≡ y ++ x → length t - back ≤ length y → drop b (take front t)
      ++ (new ++ drop (length t - back) (take e t)) ≡ (drop b (take front t) ++ (new ++ drop (length t - back) y)) ++ x
  region_ends new y x b e is ends low = search (rules, grouped, take_at, length-append, drop-append-le, append_assoc)
