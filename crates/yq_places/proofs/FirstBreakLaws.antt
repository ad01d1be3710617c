-- The first break of a text, by the break of its first line.
use Rattle.std.proofs.Common.{◌≡◌, ℕ, suc, Bool, true, false, cond, ◌&&◌, ◌||◌, List, [], ◌∷◌, length, take, drop, refl, sym, ap, ◌∙◌}
use Rattle.std.{proofs.Common.rules, proofs.lemmas.Bool.{and_parts, eq-eqb, eqb-true, ne_eqb}, proofs.Math.Dec.eqb}
use Rattle.yq_core.specs.Text.{cut, cut_line, ends_line, front, is_feed, is_return, line_len, upto}
use Rattle.yq_core.specs.declared.block_types.Break.TheVariants.{Lf, CrLf}
use Rattle.yq_places.{specs.FirstBreak.first_break, specs.PrintedLines.{is_last_break, last_break, less_break}}

-- a line that ends after a CR and an LF
both_bytes : (b : ℕ) (bs : List ℕ) → is_return b ≡ true → front is_feed bs ≡ true → eqb (length (last_break (take (suc (line_len bs)) (b ∷ bs)))) 2 ≡ true
unfolding line_len less_break
both_bytes b bs h1 h2 = search rules

-- a byte before a line whose break it is no part of
no_end : (b : ℕ) (l : List ℕ) → is_feed b ≡ false → (is_return b && front is_feed l) ≡ false → is_last_break (b ∷ l) ≡ false
no_end b l h1 h2 = search rules

front_line : (bs : List ℕ) → front is_feed (take (line_len bs) bs) ≡ front is_feed bs
unfolding line_len
front_line bs = search rules

line_break : (t : List ℕ) → front is_return (cut ends_line t).1 ≡ eqb (length (last_break (cut_line t).0)) 2
unfolding upto line_len less_break
line_break [] = refl
line_break (b ∷ bs) = go (is_feed b) (is_return b && front is_feed bs) refl refl (line_break bs)
  where
    go : (f r : Bool) → is_feed b ≡ f → (is_return b && front is_feed bs) ≡ r → front is_return (cut ends_line bs).1 ≡ eqb (length (last_break (cut_line bs).0)) 2 →
        front is_return (drop (cond (f || r) 0 (suc (upto ends_line bs))) (b ∷ bs)) ≡ eqb (length (last_break (take (cond f 1 (suc (line_len bs))) (b ∷ bs)))) 2
    go f r h1 h2 h3 = search (rules, eqb-true, and_parts, both_bytes, no_end, front_line)

module _ (t line rest end : List ℕ) (size : ℕ) (is : (line, rest) ≡ cut_line t) (end_is : end ≡ last_break line) (size_is : size ≡ length end) where
  agrees : first_break t ≡ cond (eqb size 2) CrLf Lf
  agrees = search (rules, line_break)

  pub return_agrees : size ≡ 2 → CrLf ≡ first_break t
  return_agrees e = sym (agrees ∙ ap (λ c. cond c CrLf Lf) (eq-eqb size 2 e))

  pub feed_agrees : (size ≡ 2 → ⊥) → Lf ≡ first_break t
  feed_agrees e = sym (agrees ∙ ap (λ c. cond c CrLf Lf) (ne_eqb size 2 e))
