-- Gaps of no byte, of one space, and of a break and spaces.
use Rattle.std.proofs.Common.{◌≡◌, ◌⊎◌, ℕ, zero, suc, ◌+◌, ◌<◌, ◌≤◌, true, false, ◌||◌, eqb, List, [], ◌∷◌, drop, get_or, length, take}
use Rattle.std.proofs.Common.{Some, refl, sym, ap, ◌∙◌, arith, eqb-true, leb, inl, inr, subst, ⊎_elim}
use Rattle.std.{proofs.lemmas.Bool.{cases_Bool, cases_lt, false≢true}, proofs.lemmas.List.Sums.prefix_len_passes}
use Rattle.std.{proofs.lemmas.Str.IsCharBoundary-after_ascii, specs.List.prefix_len, specs.Str.{IsCharBoundary, IsUtf8}}
use Rattle.yq_core.{specs.Nodes.begins_with, specs.Reading.{flow_gap_len, gap_end, read_gap}, specs.Text.{is_space, no_space, unless, upto}}
use Rattle.yq_core.{specs.declared.gap.GapPlace.GapPlace, proofs.NodesPieceLaws.front_is, proofs.Upto.{upto_le_length, upto_unless}}
use Rattle.yq_core.{proofs.Bools.at_byte, specs.declared.gap.GapPlace.TheVariants.{White, Break}}
use Rattle.yq_inline.specs.Short.{is_token}

pub no_gap : (t : List ℕ) → is_space t ≡ false → read_gap t ≡ Some ([], t)
unfolding read_gap flow_gap_len gap_end
no_gap [] h = refl
no_gap (b ∷ bs) h = rw h refl

pub after_a_space : (r : List ℕ) → is_space r ≡ false → begins_with 35 r ≡ false → read_gap (32 ∷ r) ≡ Some (32 ∷ [], r)
unfolding read_gap flow_gap_len gap_end
after_a_space [] h k = refl
after_a_space (b ∷ bs) h k = rw (h, k) refl

-- white space after a break, up to what is no gap
abbrev Spaced : GapPlace → List ℕ → Type 0
Spaced place u = is_space (drop (upto no_space u) u) ≡ false → begins_with 35 (drop (upto no_space u) u) ≡ false → (flow_gap_len place u ≡ upto no_space u) × (gap_end place u ≡ White)

no_more : (b : ℕ) (bs : List ℕ) → eqb b 32 ≡ false → upto no_space (b ∷ bs) ≡ 0
unfolding upto
no_more b bs e = rw e refl

one_more : (bs : List ℕ) → upto no_space (32 ∷ bs) ≡ suc (upto no_space bs)
unfolding upto
one_more bs = refl

white_ends : (b : ℕ) (bs : List ℕ) → eqb b 32 ≡ false → Spaced White (b ∷ bs)
unfolding flow_gap_len gap_end
white_ends b bs e = λ h k.
    let z = no_more b bs e in
    let h2 : is_space (b ∷ bs) ≡ false = sym (ap (λ n. is_space (drop n (b ∷ bs))) z) ∙ h in
    let k2 : begins_with 35 (b ∷ bs) ≡ false = sym (ap (λ n. begins_with 35 (drop n (b ∷ bs))) z) ∙ k in
    (rw (h2, k2) refl ∙ sym z, rw (h2, k2) refl)

-- one space more after white space or a break
more_spaces : (place : GapPlace) (bs : List ℕ) → ((place ≡ White) ⊎ (place ≡ Break)) → Spaced White bs → Spaced place (32 ∷ bs)
unfolding flow_gap_len gap_end upto
more_spaces place bs (inl is) rest = rw is (λ h k. let x = rest h k in (ap suc x.0, x.1))
more_spaces place bs (inr is) rest = rw is (λ h k. let x = rest h k in (ap suc x.0, x.1))

first_white : (b : ℕ) (bs : List ℕ) → Spaced White bs → Spaced White (b ∷ bs)
first_white b bs rest = ⊎_elim
    (λ e. subst (λ x. Spaced White (x ∷ bs)) (sym (eqb-true b 32 e)) (more_spaces White bs (inl refl) rest))
    (λ e. white_ends b bs e)
    (cases_Bool (eqb b 32))

in_white : (u : List ℕ) → Spaced White u
unfolding flow_gap_len gap_end upto
in_white [] = λ h k. (refl, refl)
in_white (b ∷ bs) = first_white b bs (in_white bs)

no_bytes : 0 < upto no_space [] → ⊥
unfolding upto
no_bytes h = omega (arith, h)

in_break : (u : List ℕ) → 0 < upto no_space u → Spaced Break u
in_break [] some = absurd (no_bytes some)
in_break (b ∷ bs) some = ⊎_elim
    (λ e. subst (λ x. Spaced Break (x ∷ bs)) (sym (eqb-true b 32 e)) (more_spaces Break bs (inr refl) (in_white bs)))
    (λ e. absurd (omega (arith, some, no_more b bs e)))
    (cases_Bool (eqb b 32))

after_feed : (u : List ℕ) → 0 < upto no_space u → is_space (drop (upto no_space u) u) ≡ false → begins_with 35 (drop (upto no_space u) u) ≡ false →
    read_gap (10 ∷ u) ≡ Some (take (suc (upto no_space u)) (10 ∷ u), drop (suc (upto no_space u)) (10 ∷ u))
unfolding read_gap flow_gap_len gap_end
after_feed u some h k = let x = in_break u some h k in rw (x.0, x.1) refl

-- a break and spaces
pub break_and_spaces : (t u g r : List ℕ) (n : ℕ) → begins_with 10 t ≡ true → u ≡ drop 1 t → n ≡ prefix_len (λ b. eqb b 32) u → (n ≡ 0 → ⊥) →
    g ≡ take (n + 1) t → r ≡ drop (n + 1) t → is_space r ≡ false → begins_with 35 r ≡ false → read_gap t ≡ Some (g, r)
break_and_spaces t u g r n feed line count some gap_is rest_is space mark =
    let text : t ≡ 10 ∷ u = front_is 10 t feed ∙ ap (λ (l : List ℕ). 10 ∷ l) (sym line) in
    let spaces : n ≡ upto no_space u = count ∙ sym (upto_unless (λ b. eqb b 32) u) in
    let next : n + 1 ≡ suc (upto no_space u) = omega (arith, spaces) in
    let gap : g ≡ take (suc (upto no_space u)) (10 ∷ u) = gap_is ∙ (λ i. take (next i) (text i)) in
    let rest : r ≡ drop (suc (upto no_space u)) (10 ∷ u) = rest_is ∙ (λ i. drop (next i) (text i)) in
    let more : 0 < upto no_space u = ⊎_elim (λ e. e) (λ e. absurd (some (omega (arith, e, spaces)))) (cases_lt 0 (upto no_space u)) in
    ap read_gap text ∙ (after_feed u more (ap is_space (sym rest) ∙ space) (ap (begins_with 35) (sym rest) ∙ mark) ∙ (λ i. Some (sym gap i, sym rest i)))

-- it ends after a space
pub after_spaces : (t u : List ℕ) (n : ℕ) → begins_with 10 t ≡ true → u ≡ drop 1 t → n ≡ prefix_len (λ b. eqb b 32) u → (n ≡ 0 → ⊥) → IsUtf8 t → IsCharBoundary t (n + 1)
after_spaces t u zero feed line count some utf8 = absurd (some refl)
after_spaces t u (suc m) feed line count some utf8 =
    let text : t ≡ 10 ∷ u = front_is 10 t feed ∙ ap (λ (l : List ℕ). 10 ∷ l) (sym line) in
    let is : get_or u m 0 ≡ 32 = eqb-true (get_or u m 0) 32 (prefix_len_passes (λ b. eqb b 32) u m 0 (omega (arith, count))) in
    let within : suc m ≤ length u = omega (arith, count, spaces_within u) in
    subst (λ (x : List ℕ). IsCharBoundary x (suc m + 1)) (sym text) (IsCharBoundary-after_ascii (10 ∷ u) (suc m) (subst IsUtf8 text utf8) (omega (arith, within)) (omega (arith, is)))
  where
    spaces_within : (v : List ℕ) → prefix_len (λ b. eqb b 32) v ≤ length v
    spaces_within v = rw (← upto_unless) (upto_le_length (unless (λ b. eqb b 32)) v)

-- a byte with which no gap and no comment begins, alone and after one space
pub token_apart : (t : List ℕ) → is_token t ≡ true → (is_space t ≡ false) × (begins_with 35 t ≡ false)
token_apart [] h = absurd (false≢true h)
token_apart (b ∷ bs) h =
    let other = at_byte (λ x. eqb x 34 || leb 36 x) b in
    (rw (other 32 h refl, other 9 h refl, other 10 h refl, other 13 h refl) refl, other 35 h refl)

pub token_gap : (t : List ℕ) → is_token t ≡ true → read_gap t ≡ Some ([], t)
token_gap t h = no_gap t (token_apart t h).0

pub token_after_space : (t r : List ℕ) → begins_with 32 t ≡ true → r ≡ drop 1 t → is_token r ≡ true → read_gap t ≡ Some (32 ∷ [], r)
token_after_space t r space is h =
    let apart = token_apart r h in
    ap read_gap (front_is 32 t space ∙ ap (λ (l : List ℕ). 32 ∷ l) (sym is)) ∙ after_a_space r apart.0 apart.1
