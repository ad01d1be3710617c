-- A text over all of which a run of bytes in quotes goes means itself.
use Rattle.std.proofs.Common.{rules, ◌≡◌, ℕ, zero, suc, ◌<◌, ◌≤◌, take, drop, Bool, true, false, ◌&&◌, ◌||◌, eqb, eqb-true, List, [], ◌∷◌}
use Rattle.std.proofs.Common.{◌++◌, length, refl, sym, ap, ◌∙◌, ⊎_elim, append_assoc, append-nil, arith}
use Rattle.std.{proofs.lemmas.Bool.{cases_Bool, false≢true, or_parts}, specs.List.prefix_len, specs.Prelude.slice_index}
use Rattle.std.specs.Str.{IsCharBoundary}
use Rattle.yq_core.specs.ContentReading.{within, breaks, content_on, quoted_item, item_len, item_before, space_text}
use Rattle.yq_core.{specs.Runs.{is_stop, run_goes_on}, specs.declared.runs.Run.TheVariants.Quoted}
use Rattle.yq_core.{specs.Text.{is_white, is_feed, is_return, front, unless}, specs.Nodes.begins_with, proofs.Boundaries.boundary_ends}
use Rattle.yq_core.proofs.Upto.{upto_unless}
use Rattle.yq_scalar_reader.specs.Folded.{is_blank_before}

abbrev GoesOver : ℕ → List ℕ → Type 0
GoesOver q t = prefix_len (run_goes_on (Quoted q)) t ≡ length t

-- over its first byte, and over those after it
parts : (q b : ℕ) (bs : List ℕ) → GoesOver q (b ∷ bs) → (is_stop (Quoted q) b ≡ false) × GoesOver q bs
parts q b bs h = search rules

-- a byte over which it goes is no quote, no backslash and no LF
other : (q b : ℕ) → is_stop (Quoted q) b ≡ false → (eqb b q ≡ false) × (eqb b 92 ≡ false) × (is_feed b ≡ false)
other q b h = search (rules, or_parts)

no_feed : (q : ℕ) (bs : List ℕ) → GoesOver q bs → front is_feed bs ≡ false
no_feed q bs h = search (rules, other, parts)

both : (a c : Bool) → c ≡ false → (a && c) ≡ false
both a c h = search rules

-- no break is in front
unbroken : (q b : ℕ) (bs : List ℕ) → GoesOver q bs → (is_return b && front is_feed bs) ≡ false
unbroken q b bs h = both (is_return b) (front is_feed bs) (no_feed q bs h)

-- no two single quotes are in front
unpaired : (q b : ℕ) → eqb b q ≡ false → (eqb q 39 && eqb b 39) ≡ false
unpaired q b h = search rules

item_itself : (q b : ℕ) (bs : List ℕ) → eqb b 92 ≡ false → quoted_item q b bs ≡ b ∷ []
item_itself q b bs h = rw (both (eqb q 34) (eqb b 92) h) refl

item_alone : (q b : ℕ) (bs : List ℕ) → eqb b q ≡ false → eqb b 92 ≡ false → item_len q b bs ≡ 0
item_alone q b bs k h = rw (both (eqb q 34) (eqb b 92) h) (rw (unpaired q b k) refl)

item_within : (q b : ℕ) (bs : List ℕ) → eqb b 92 ≡ false → item_before q b bs ≡ within
item_within q b bs h = rw (both (eqb q 34) (eqb b 92) h) refl

goes_on : (q : ℕ) (white t : List ℕ) → GoesOver q t → content_on q 0 within white t ≡ white ++ t
unfolding content_on
goes_on q white [] h = sym (append-nil white)
goes_on q white (b ∷ bs) h =
    let g = parts q b bs h in
    let o = other q b g.0 in
    ⊎_elim {0, 0, 0}
    (λ (e : is_white b ≡ true). rw e (goes_on q (white ++ b ∷ []) bs g.1 ∙ append_assoc white (b ∷ []) bs))
    (λ (e : is_white b ≡ false). rw (e, o.2, unbroken q b bs g.1, item_itself q b bs o.1, item_alone q b bs o.0 o.1, item_within q b bs o.1) (ap (λ l. white ++ (b ∷ l)) (goes_on q [] bs g.1)))
    (cases_Bool (is_white b))

pub means_itself : (q : ℕ) (t : List ℕ) → prefix_len (run_goes_on (Quoted q)) t ≡ length t → content_on q 0 within [] t ≡ t
means_itself q t h = goes_on q [] t h

-- over bytes of such a run, the first of which is no stop
first_of : (q b m : ℕ) (bs : List ℕ) → suc m ≤ prefix_len (run_goes_on (Quoted q)) (b ∷ bs) →
    (is_stop (Quoted q) b ≡ false) × (m ≤ prefix_len (run_goes_on (Quoted q)) bs)
first_of q b m bs h = search rules

no_feed_in : (q m : ℕ) (bs : List ℕ) → suc m ≤ prefix_len (run_goes_on (Quoted q)) bs → front is_feed bs ≡ false
no_feed_in q m bs h = search (rules, other, first_of)

-- up to a byte that is neither white space nor a CR, its bytes mean themselves
up_to : (q m : ℕ) (white t : List ℕ) → suc m ≤ prefix_len (run_goes_on (Quoted q)) t → (is_white (slice_index t m) || is_return (slice_index t m)) ≡ false →
    content_on q 0 within white t ≡ white ++ (take (suc m) t ++ content_on q 0 within [] (drop (suc m) t))
unfolding content_on
up_to q m white [] h e = absurd (omega (arith, h))
up_to q zero white (b ∷ bs) h e =
    let o = other q b (first_of q b 0 bs h).0 in
    let n = or_parts (is_white b) (is_return b) e in
    rw (n.0, o.2, n.1, item_itself q b bs o.1, item_alone q b bs o.0 o.1, item_within q b bs o.1) refl
up_to q (suc m) white (b ∷ bs) h e =
    let g = first_of q b (suc m) bs h in
    search (rules, other, ⊎_elim, append_assoc, both, no_feed_in, item_itself, item_alone, item_within, cases_Bool, up_to q m, up_to q m [] bs g.1 e)

words : (q n : ℕ) (t : List ℕ) → (n ≡ 0 → ⊥) → n ≤ prefix_len (run_goes_on (Quoted q)) t → is_blank_before n t ≡ false →
    content_on q 0 within [] t ≡ take n t ++ content_on q 0 within [] (drop n t)
words q zero t some h e = absurd (some refl)
words q (suc m) t some h e = up_to q m [] t h e

pub leading_words : (q n len : ℕ) (t run rest : List ℕ) → (n ≡ 0 → ⊥) → n ≤ len → len ≡ prefix_len (run_goes_on (Quoted q)) t →
    is_blank_before n t ≡ false → run ≡ take n t → rest ≡ drop n t → content_on q 0 within [] t ≡ run ++ content_on q 0 within [] rest
leading_words q n len t run rest some h k e f g = rw (f, g) (words q n t some (omega (arith, h, k)) e)

-- up to a backslash, its bytes mean themselves, white space too
slash_next : (m : ℕ) (bs : List ℕ) → m ≤ prefix_len (run_goes_on (Quoted 34)) bs → front (λ b. eqb b 92) (drop m bs) ≡ true → front is_feed bs ≡ false
slash_next zero [] h e = refl
slash_next zero (b ∷ bs) h e = rw (eqb-true b 92 e) refl
slash_next (suc m) bs h e = no_feed_in 34 m bs h

slash_here : (white t : List ℕ) → front (λ b. eqb b 92) t ≡ true → content_on 34 0 within white t ≡ white ++ content_on 34 0 within [] t
unfolding content_on
slash_here white [] e = absurd (false≢true e)
slash_here white (b ∷ bs) e = rw (eqb-true b 92 e) refl

to_slash : (m : ℕ) (white t : List ℕ) → m ≤ prefix_len (run_goes_on (Quoted 34)) t → front (λ b. eqb b 92) (drop m t) ≡ true →
    content_on 34 0 within white t ≡ white ++ (take m t ++ content_on 34 0 within [] (drop m t))
unfolding content_on
to_slash zero white t h e = slash_here white t e
to_slash (suc m) white [] h e = absurd (false≢true e)
to_slash (suc m) white (b ∷ bs) h e =
    let g = first_of 34 b m bs h in
    let o = other 34 b g.0 in
    let whole = both (is_return b) (front is_feed bs) (slash_next m bs g.1 e) in
    ⊎_elim {0, 0, 0}
    (λ (w : is_white b ≡ true). rw w (to_slash m (white ++ b ∷ []) bs g.1 e ∙ append_assoc white (b ∷ []) (take m bs ++ content_on 34 0 within [] (drop m bs))))
    (λ (w : is_white b ≡ false).
    rw (w, o.2, whole, item_itself 34 b bs o.1, item_alone 34 b bs o.0 o.1, item_within 34 b bs o.1) (ap (λ l. white ++ (b ∷ l)) (to_slash m [] bs g.1 e)))
    (cases_Bool (is_white b))

pub front_slash : (t : List ℕ) → begins_with 92 t ≡ true → front (λ b. eqb b 92) t ≡ true
front_slash [] h = h
front_slash (b ∷ bs) h = h

pub escape_after : (n : ℕ) (t p slash item : List ℕ) → n ≡ prefix_len (run_goes_on (Quoted 34)) t → begins_with 92 slash ≡ true → p ≡ take n t → slash ≡ drop n t →
    content_on 34 0 within [] slash ≡ item → content_on 34 0 within [] t ≡ p ++ item
escape_after n t p slash item run begins one back value =
    let here : front (λ b. eqb b 92) (drop n t) ≡ true = front_slash (drop n t) (ap (begins_with 92) (sym back) ∙ begins) in
    rw one (to_slash n [] t (omega (arith, run)) here ∙ ap (λ l. take n t ++ l) (ap (content_on 34 0 within []) (sym back) ∙ value))

stop_ascii : (b : ℕ) (bs : List ℕ) → unless (run_goes_on (Quoted 34)) (b ∷ bs) ≡ true → b < 128
stop_ascii b bs h = grind arith

pub boundary_quoted_run : (t : List ℕ) (n : ℕ) → n ≡ prefix_len (run_goes_on (Quoted 34)) t → IsCharBoundary t n
boundary_quoted_run t n e = rw e (rw (← upto_unless) (boundary_ends (unless (run_goes_on (Quoted 34))) t stop_ascii refl))

-- no white space means nothing
pub nothing_added : (joined : Bool) (out space : List ℕ) → joined ≡ false → eqb (length space) 0 ≡ true → out ≡ out ++ space_text joined space
unfolding breaks
nothing_added joined out [] j e = rw j (sym (append-nil out))
nothing_added joined out (b ∷ bs) j e = absurd (omega (arith, eqb-true (length (b ∷ bs)) 0 e))
