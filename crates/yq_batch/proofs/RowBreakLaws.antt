-- The first break of a text, in each text that begins with it.
use Rattle.std.proofs.Common.{◌≡◌, ℕ, suc, Bool, true, false, cond, List, [], ◌∷◌, ◌++◌, drop, take, length, refl, sym, ap, ◌∙◌}
use Rattle.std.{proofs.Common.{append_assoc, arith, length-drop, rules, ◌<◌}, proofs.lemmas.List.take-append-drop}
use Rattle.yq_core.specs.Text.{ends_line, front, is_break, is_feed, is_return, upto}
use Rattle.yq_core.specs.declared.block_types.Break.TheVariants.{Lf, CrLf}
use Rattle.yq_places.specs.FirstBreak.{first_break}

-- what is in front of a text is in front of what begins with it
break_then : (x y : List ℕ) (b : ℕ) (r : List ℕ) → drop (upto ends_line x) x ≡ b ∷ r → drop (upto ends_line (x ++ y)) (x ++ y) ≡ b ∷ (r ++ y)
unfolding upto
break_then [] y b r e = absurd (let bad : [] ≡ b ∷ r = e in cc)
break_then (a ∷ []) y b r e = go (is_feed a) refl e
  where
    go : (f : Bool) → is_feed a ≡ f → drop (cond (is_break (a ∷ [])) 0 1) (a ∷ []) ≡ b ∷ r → drop (upto ends_line (a ∷ y)) (a ∷ y) ≡ b ∷ (r ++ y)
    go f is k = search rules
break_then (a ∷ (c ∷ cs)) y b r e = go (is_break (a ∷ (c ∷ cs))) refl e (break_then (c ∷ cs) y b r)
  where
    go : (f : Bool) → is_break (a ∷ (c ∷ cs)) ≡ f → drop (cond f 0 (suc (upto ends_line (c ∷ cs)))) (a ∷ (c ∷ cs)) ≡ b ∷ r →
        (drop (upto ends_line (c ∷ cs)) (c ∷ cs) ≡ b ∷ r → drop (upto ends_line (c ∷ (cs ++ y))) (c ∷ (cs ++ y)) ≡ b ∷ (r ++ y)) →
        drop (upto ends_line (a ∷ (c ∷ (cs ++ y)))) (a ∷ (c ∷ (cs ++ y))) ≡ b ∷ (r ++ y)
    go true is k next = ap (λ (f : Bool). drop (cond f 0 (suc (upto ends_line (c ∷ (cs ++ y))))) (a ∷ (c ∷ (cs ++ y)))) is ∙ ap (λ (l : List ℕ). l ++ y) k
    go false is k next = ap (λ (f : Bool). drop (cond f 0 (suc (upto ends_line (c ∷ (cs ++ y))))) (a ∷ (c ∷ (cs ++ y)))) is ∙ next k

-- a text whose first line ends among its first bytes
module _ (t near rest : List ℕ) (n k : ℕ) (cut : near ≡ take n t) (at : k ≡ upto ends_line near) (within : k < length near) (rest_is : rest ≡ drop k near) where
  left_is : drop (upto ends_line near) near ≡ rest
  left_is = ap (λ (i : ℕ). drop i near) (sym at) ∙ sym rest_is

  begins_near : (more : List ℕ) → t ++ more ≡ near ++ (drop n t ++ more)
  begins_near more = ap (λ (l : List ℕ). l ++ more) (sym (take-append-drop n t)) ∙ (append_assoc (take n t) (drop n t) more ∙ ap (λ (l : List ℕ). l ++ (drop n t ++ more)) (sym cut))

  first_break_near : (more : List ℕ) → first_break (t ++ more) ≡ cond (front is_return rest) CrLf Lf
  first_break_near more = ap first_break (begins_near more) ∙ go rest refl left_is
    where
      go : (l : List ℕ) → rest ≡ l → drop (upto ends_line near) near ≡ rest → first_break (near ++ (drop n t ++ more)) ≡ cond (front is_return rest) CrLf Lf
      go [] is left = absurd (omega (arith, within, ap length (sym rest_is ∙ is), length-drop k near))
      go (b ∷ r) is left =
          ap (λ (l : List ℕ). cond (front is_return l) CrLf Lf) (break_then near (drop n t ++ more) b r (left ∙ is)) ∙ ap (λ (l : List ℕ). cond (front is_return l) CrLf Lf) (sym is)

  pub return_near : front is_return rest ≡ true → (more : List ℕ) → first_break (t ++ more) ≡ CrLf
  return_near is more = first_break_near more ∙ ap (λ (b : Bool). cond b CrLf Lf) is

  pub feed_near : front is_return rest ≡ false → (more : List ℕ) → first_break (t ++ more) ≡ Lf
  feed_near is more = first_break_near more ∙ ap (λ (b : Bool). cond b CrLf Lf) is
