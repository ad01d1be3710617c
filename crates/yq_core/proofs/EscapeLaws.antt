-- Escapes: how long they are, and that they are ASCII.
use Rattle.std.proofs.lemmas.Grind.{common_steps}
use Rattle.std.proofs.Common.{◌≡◌, ℕ, zero, suc, ◌+◌, ◌*◌, ◌<◌, ◌≤◌, true, false, eqb, ltb, eqb-true, List, [], ◌∷◌, length, drop, get_or}
use Rattle.std.proofs.Common.{Option, Some, None, ◌⊎◌, sym, ap, ◌∙◌, inl, inr, arith, rules}
use Rattle.std.{proofs.lemmas.Bool.{ltb-true, cases_lt, le-ltb, and_parts}, proofs.lemmas.Option.{cond_some, same_Some}}
use Rattle.std.{specs.Char.digit_value, specs.List.list_all}
use Rattle.yq_core.{specs.Answers.{◌>>=◌, more}, specs.Quoted.{letters, beside, digit_counts}, specs.SchemaReading.is_digit}
use Rattle.yq_core.specs.QuotedReading.{hex, hex_digit, leading_escape, escape_len, closes, coded, lettered, length_of, quoted_len}
use Rattle.yq_core.{proofs.Bools.{chosen, bind_some, more_more, more_none}, proofs.Across.{rest_of, rest_is}}

no_second : (r : Option ℕ) (f : ℕ → Option ℕ) → (r >>= (λ d. None)) ≡ ((r >>= (λ d. None)) >>= f)
no_second r f = search rules

-- the first two digits, and the others
pub hex_split : (m v : ℕ) (t : List ℕ) → hex (suc (suc m)) v t ≡ (hex 2 v t >>= (λ w. hex m w (drop 2 t)))
unfolding hex
hex_split m v t = search rules

pub hex_none : (m v : ℕ) (t : List ℕ) → hex 2 v t ≡ None → hex (suc (suc m)) v t ≡ None
hex_none m v t h = hex_split m v t ∙ ap (λ o. o >>= (λ w. hex m w (drop 2 t))) h

pub hex_some : (m v w : ℕ) (t : List ℕ) → hex 2 v t ≡ Some w → hex (suc (suc m)) v t ≡ hex m w (drop 2 t)
hex_some m v w t h = hex_split m v t ∙ ap (λ o. o >>= (λ w. hex m w (drop 2 t))) h

pub digit_below : (b d : ℕ) → hex_digit b ≡ Some d → d < 16
digit_below b d h = let g = cond_some (is_digit 16 b) _ _ h in omega (arith, ltb-true (digit_value b) 16 g.0, g.1)

-- the digits are in the text
pub hex_within : (n v w : ℕ) (t : List ℕ) → hex n v t ≡ Some w → n ≤ length t
unfolding hex
hex_within zero v w t h = omega arith
hex_within (suc n) v w [] h = absurd (let e = h in cc)
hex_within (suc n) v w (b ∷ t) h = let x = bind_some (hex_digit b) h in let again = hex_within n (v * 16 + x.0) w t x.2 in omega arith

scalar_len : (n c k : ℕ) (o : Option ℕ) → coded n o ≡ Some (c, k) → (v : ℕ) × (o ≡ Some v) × (suc n ≡ k)
scalar_len n c k o h = search rules

letter_len : (c k : ℕ) (o : Option ℕ) → lettered o ≡ Some (c, k) → 1 ≡ k
letter_len c k o h = search rules

-- what is read as an escape: a letter that digits follow, and these, or a letter alone
pub escape_cases : (b c k : ℕ) (bs : List ℕ) → leading_escape (b ∷ bs) ≡ Some (c, k) → ((n : ℕ) × (beside b digit_counts ≡ Some n) × (coded n (hex n 0 bs) ≡ Some (c, k))) ⊎ (lettered (beside b letters) ≡ Some (c, k))
unfolding leading_escape
escape_cases b c k bs h = search rules

pub none_escaped : (c k : ℕ) → leading_escape [] ≡ Some (c, k) → ⊥
unfolding leading_escape
none_escaped c k h = cc

pub escape_within : (t : List ℕ) (c k : ℕ) → leading_escape t ≡ Some (c, k) → k ≤ length t
escape_within [] c k h = absurd (none_escaped c k h)
escape_within (b ∷ bs) c k h = search (rules, escape_cases, scalar_len, hex_within, letter_len)

pub length_of_some : (o : Option (ℕ × ℕ)) (k : ℕ) → length_of o ≡ Some k → (c : ℕ) × (o ≡ Some (c, k))
length_of_some None k h = absurd (let e = h in cc)
length_of_some (Some e) k h = (e.0, let same : e.1 ≡ k = cc in ap (λ (x : ℕ). Some (e.0, x)) same)

-- what belongs to a byte comes after it, unless the byte is a quote that closes
pub after_within : (q b k : ℕ) (bs : List ℕ) → closes q (b ∷ bs) ≡ false → escape_len q b bs ≡ Some k → k ≤ length bs
after_within q b k bs opened h = grind (arith, common_steps, chosen, same_Some, length_of_some, escape_within, rules)

-- how far it is after bytes that are passed over
pub length_skip : (q k : ℕ) (t : List ℕ) → k ≤ length t → quoted_len q k t ≡ more k (quoted_len q 0 (drop k t))
unfolding quoted_len
length_skip q zero t h = sym (more_none (quoted_len q 0 t))
length_skip q (suc k) [] h = absurd (omega arith)
length_skip q (suc k) (b ∷ bs) h = ap (more 1) (length_skip q k bs (omega arith)) ∙ (sym (more_more 1 k (quoted_len q 0 (drop k bs))) ∙ ap (λ n. more n (quoted_len q 0 (drop k bs))) (omega arith))

pub length_item : (q b k : ℕ) (bs : List ℕ) → closes q (b ∷ bs) ≡ false → escape_len q b bs ≡ Some k → quoted_len q 0 (b ∷ bs) ≡ more (k + 1) (quoted_len q 0 (drop k bs))
unfolding quoted_len
length_item q b k bs opened h = rw (opened, h) (ap (more 1) (length_skip q k bs (after_within q b k bs opened h)) ∙ (sym (more_more 1 k (quoted_len q 0 (drop k bs))) ∙ ap (λ n. more n (quoted_len q 0 (drop k bs))) (omega arith)))

pub item_within : (q k : ℕ) (r : List ℕ) → 1 ≤ length r → closes q r ≡ false → escape_len q (get_or r 0 0) (rest_of r) ≡ Some k → k ≤ length (rest_of r)
item_within q k [] le opened h = absurd (omega arith)
item_within q k (b ∷ bs) le opened h = rw (rest_is) (after_within q b k bs opened (ap (escape_len q b) (sym (rest_is b bs)) ∙ h))

pub go_item : (q k n : ℕ) (r : List ℕ) (z : Option ℕ) → 1 ≤ length r → closes q r ≡ false → escape_len q (get_or r 0 0) (rest_of r) ≡ Some k →
    more n (quoted_len q 0 r) ≡ z → more (n + (k + 1)) (quoted_len q 0 (drop k (rest_of r))) ≡ z
go_item q k n [] z le opened h e = absurd (omega arith)
go_item q k n (b ∷ bs) z le opened h e =
    rw (rest_is) (more_more n (k + 1) (quoted_len q 0 (drop k bs)) ∙ (ap (more n) (sym (length_item q b k bs opened (ap (escape_len q b) (sym (rest_is b bs)) ∙ h))) ∙ e))

digit_ascii : (b d : ℕ) → hex_digit b ≡ Some d → b < 128
digit_ascii b d h = search (rules, cases_lt, le-ltb, cond_some, ltb-true)

hex_ascii : (n v w : ℕ) (t : List ℕ) → hex n v t ≡ Some w → (j : ℕ) → j < n → get_or t j 0 < 128
unfolding hex
hex_ascii zero v w t h j lt = absurd (omega arith)
hex_ascii (suc n) v w [] h j lt = absurd (let e = h in cc)
hex_ascii (suc n) v w (b ∷ t) h zero lt = let x = bind_some (hex_digit b) h in digit_ascii b x.0 x.1
hex_ascii (suc n) v w (b ∷ t) h (suc j) lt = let x = bind_some (hex_digit b) h in hex_ascii n (v * 16 + x.0) w t x.2 j (omega arith)

letter_ascii : (b c : ℕ) (es : List (ℕ × ℕ)) → list_all (λ e. ltb e.0 128) es ≡ true → beside b es ≡ Some c → b < 128
letter_ascii b c [] low h = absurd (let e = h in cc)
letter_ascii b c (e ∷ es) low h =
    let p = and_parts (ltb e.0 128) (list_all (λ e. ltb e.0 128) es) low in
    elim (chosen (eqb b e.0) h) [
      | inl x ↦ omega (arith, eqb-true b e.0 x.0, ltb-true e.0 128 p.0)
      | inr x ↦ letter_ascii b c es p.1 x.1
    ]

letter_some : (c k : ℕ) (o : Option ℕ) → lettered o ≡ Some (c, k) → (v : ℕ) × (o ≡ Some v)
letter_some c k o h = search rules

pub escape_ascii : (t : List ℕ) (c k : ℕ) → leading_escape t ≡ Some (c, k) → (j : ℕ) → j < k → get_or t j 0 < 128
escape_ascii [] c k h j lt = absurd (none_escaped c k h)
escape_ascii (b ∷ bs) c k h zero lt = search (rules, escape_cases, letter_ascii, letter_some)
escape_ascii (b ∷ bs) c k h (suc j) lt = search (rules, escape_cases, scalar_len, hex_ascii, letter_len)
