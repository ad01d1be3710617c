-- Over white space and breaks, to where a plain scalar goes on.
use Rattle.std.proofs.lemmas.Grind.{common_steps}
use Rattle.std.proofs.Common.{◌≡◌, ℕ, suc, ◌+◌, ◌-◌, ◌<◌, ◌≤◌, Bool, true, false, cond, not, eqb, List, [], ◌∷◌, ◌++◌, length, take, drop}
use Rattle.std.proofs.Common.{get_or, Option, Some, None, refl, sym, inl, inr, ◌&&◌, ap, ◌∙◌, subst, arith, length-drop, rules}
use Rattle.std.proofs.lemmas.Bool.{false≢true, false_from_ne_true, and_parts, cases_Bool}
use Rattle.std.{proofs.lemmas.List.{take_rest, take-append-drop}, proofs.lemmas.Option.cond_some, specs.List.prefix_len}
use Rattle.std.specs.Option.{is_none, option_or}
use Rattle.yq_core.{specs.Answers.more, specs.Text.{upto, cut, is_empty, is_feed, is_white, is_break, is_space, front}}
use Rattle.yq_core.{specs.Plain.{begins_deep, ends_plain, ends_text, last_line, plain_may_follow, no_gap}, specs.PlainReading.across}
use Rattle.yq_core.proofs.Bools.{more_more, more_none, more_some, at_byte}

-- what comes after the first byte, as a slice's pattern gives it
abbrev pub rest_of : List ℕ → List ℕ
rest_of r = take (length r - 1) (drop 1 r)

pub rest_is : (b : ℕ) (bs : List ℕ) → rest_of (b ∷ bs) ≡ bs
rest_is b bs = take_rest (b ∷ bs) 1

-- steps of a loop over rests
pub upto_next : (ends : List ℕ → Bool) (t : List ℕ) → 1 ≤ length t → ends t ≡ false → upto ends t ≡ 1 + upto ends (rest_of t)
unfolding upto
upto_next ends [] le h = absurd (omega arith)
upto_next ends (b ∷ bs) le h = rw (h, rest_is) (omega arith)

pub upto_none : (ends : List ℕ → Bool) (t : List ℕ) → length t < 1 → upto ends t ≡ 0
unfolding upto
upto_none ends [] lt = refl
upto_none ends (b ∷ bs) lt = absurd (omega arith)

pub rest_length : (n : ℕ) (r : List ℕ) (all : ℕ) → 1 ≤ length r → n + length r ≡ all → n + 1 + length (rest_of r) ≡ all
rest_length n r all h e = rw (take_rest r 1) (omega (arith, length-drop 1 r))

pub across_white : (flow : Bool) (spaces : Option ℕ) (deep : Bool) (b : ℕ) (bs : List ℕ) → is_white b ≡ true → across flow spaces deep (b ∷ bs) ≡ more 1 (across flow spaces deep bs)
unfolding across
across_white flow spaces deep b bs h = rw h refl

pub across_line : (flow : Bool) (spaces : Option ℕ) (deep : Bool) (b : ℕ) (bs : List ℕ) → is_white b ≡ false → is_feed b ≡ true → across flow spaces deep (b ∷ bs) ≡ more 1 (across flow spaces (begins_deep spaces bs) bs)
unfolding across
across_line flow spaces deep b bs h e = rw h (rw e refl)

pub across_return : (flow : Bool) (spaces : Option ℕ) (deep : Bool) (b : ℕ) (bs : List ℕ) → is_white b ≡ false → is_feed b ≡ false → is_break (b ∷ bs) ≡ true → across flow spaces deep (b ∷ bs) ≡ more 1 (across flow spaces deep bs)
unfolding across
across_return flow spaces deep b bs h e f = search rules

-- the loop's steps
go : (n : ℕ) (x y z : Option ℕ) → x ≡ more 1 y → more n x ≡ z → more (n + 1) y ≡ z
go n x y z h e = more_more n 1 y ∙ (ap (more n) (sym h) ∙ e)

abbrev AreWhite : (ℕ → Bool) → Type 0
AreWhite test = (b : ℕ) → test b ≡ true → is_white b ≡ true

pub whites_white : AreWhite is_white
whites_white b h = h

pub spaces_white : AreWhite (λ b. eqb b 32)
spaces_white b h = rw h refl

over_run : (test : ℕ → Bool) (flow : Bool) (spaces : Option ℕ) (deep : Bool) (r : List ℕ) → AreWhite test → across flow spaces deep r ≡ more (prefix_len test r) (across flow spaces deep (drop (prefix_len test r) r))
over_run test flow spaces deep [] white = sym (more_none (across flow spaces deep []))
over_run test flow spaces deep (b ∷ bs) white = elim (cases_Bool (test b)) [
  | inl w ↦
      let again = over_run test flow spaces deep bs white in
      let k = prefix_len test bs in
      let same : suc k ≡ prefix_len test (b ∷ bs) = rw w (omega arith) in
      subst (λ (n : ℕ). across flow spaces deep (b ∷ bs) ≡ more n (across flow spaces deep (drop n (b ∷ bs)))) same
      (across_white flow spaces deep b bs (white b w) ∙ (ap (more 1) again ∙ sym (search rules)))
  | inr w ↦
      let same : 0 ≡ prefix_len test (b ∷ bs) = rw w refl in
      subst (λ (n : ℕ). across flow spaces deep (b ∷ bs) ≡ more n (across flow spaces deep (drop n (b ∷ bs)))) same (sym (more_none (across flow spaces deep (b ∷ bs))))
]

pub whites_some : (r : List ℕ) → 1 ≤ length r → is_white (get_or r 0 0) ≡ true → 0 < prefix_len is_white r
whites_some [] le w = absurd (omega arith)
whites_some (b ∷ bs) le w = rw w (omega arith)

-- over a run of white space
pub go_run : (test : ℕ → Bool) (flow : Bool) (spaces : Option ℕ) (deep : Bool) (n k : ℕ) (r : List ℕ) (z : Option ℕ) → AreWhite test → k ≡ prefix_len test r →
    more n (across flow spaces deep r) ≡ z → more (n + k) (across flow spaces deep (drop k r)) ≡ z
go_run test flow spaces deep n k r z white is e = search (rules, more_more, over_run)

pub go_line : (flow : Bool) (spaces : Option ℕ) (deep next : Bool) (n : ℕ) (r : List ℕ) (z : Option ℕ) → 1 ≤ length r → is_white (get_or r 0 0) ≡ false → get_or r 0 0 ≡ 10 → next ≡ begins_deep spaces (rest_of r) →
    more n (across flow spaces deep r) ≡ z → more (n + 1) (across flow spaces next (rest_of r)) ≡ z
go_line flow spaces deep next n r z le w l d e = grind (arith, common_steps, rest_is, go, across_line)

pub go_return : (flow : Bool) (spaces : Option ℕ) (deep : Bool) (n : ℕ) (r : List ℕ) (z : Option ℕ) → 1 ≤ length r → is_white (get_or r 0 0) ≡ false → eqb (get_or r 0 0) 10 ≡ false → is_break r ≡ true →
    more n (across flow spaces deep r) ≡ z → more (n + 1) (across flow spaces deep (rest_of r)) ≡ z
go_return flow spaces deep n [] z le w l k e = absurd (omega arith)
go_return flow spaces deep n (b ∷ bs) z le w l k e = rw (rest_is) (go n _ _ z (across_return flow spaces deep b bs w l k) e)

-- a step over one byte of white space or a break
pub across_space : (flow : Bool) (spaces : Option ℕ) (deep : Bool) (b : ℕ) (bs : List ℕ) → is_space (b ∷ bs) ≡ true → (next : Bool) × (across flow spaces deep (b ∷ bs) ≡ more 1 (across flow spaces next bs))
across_space flow spaces deep b bs h =
    elim (cases_Bool (is_white b)) [
      | inl w ↦ (deep, across_white flow spaces deep b bs w)
      | inr w ↦ elim (cases_Bool (is_feed b)) [
        | inl l ↦ (begins_deep spaces bs, across_line flow spaces deep b bs w l)
        | inr l ↦ (deep, across_return flow spaces deep b bs w l (let g : is_space (b ∷ bs) ≡ true = h in rw w at g))
      ]
    ]

-- where no space is in front
pub across_here : (flow : Bool) (spaces : Option ℕ) (deep : Bool) (b : ℕ) (bs : List ℕ) → is_space (b ∷ bs) ≡ false →
    across flow spaces deep (b ∷ bs) ≡ cond (not (eqb b 35) && not (ends_text flow (b ∷ bs)) && deep) (Some 0) None
unfolding across
across_here flow spaces deep b bs h = search (rules, false_from_ne_true, false≢true)

-- whether text after a gap may be on its line; deep tells it of the line on which the gap begins
abbrev is_located : Bool → Option ℕ → Option (List ℕ) → List ℕ → Bool
is_located deep spaces None text = deep
is_located deep spaces (Some indentation) text = begins_deep spaces (indentation ++ text)

abbrev goes : Bool → Option ℕ → Bool → List ℕ → List ℕ → Bool
goes flow spaces deep gap text = not (is_empty text) && not (front (λ b. eqb b 35) text) && not (ends_text flow text) && is_located deep spaces (last_line gap) text

abbrev gap_of : List ℕ → List ℕ
gap_of t = (cut no_gap t).0

abbrev past_gap : List ℕ → List ℕ
past_gap t = (cut no_gap t).1

over : (flow : Bool) (spaces : Option ℕ) (deep next : Bool) (b : ℕ) (bs : List ℕ) → is_space (b ∷ bs) ≡ true → across flow spaces deep (b ∷ bs) ≡ more 1 (across flow spaces next bs) →
    across flow spaces next bs ≡ cond (goes flow spaces next (gap_of bs) (past_gap bs)) (Some (upto no_gap bs)) None →
    is_located deep spaces (last_line (b ∷ gap_of bs)) (past_gap bs) ≡ is_located next spaces (last_line (gap_of bs)) (past_gap bs) →
    across flow spaces deep (b ∷ bs) ≡ cond (goes flow spaces deep (gap_of (b ∷ bs)) (past_gap (b ∷ bs))) (Some (upto no_gap (b ∷ bs))) None
unfolding upto
over flow spaces deep next b bs s e again same = search rules

or_none : (o : Option (List ℕ)) → option_or o None ≡ o
or_none o = search rules

same_line : (deep : Bool) (spaces : Option ℕ) (b : ℕ) (gap text : List ℕ) → is_feed b ≡ false → is_located deep spaces (last_line (b ∷ gap)) text ≡ is_located deep spaces (last_line gap) text
same_line deep spaces b gap text n = rw n (ap (λ o. is_located deep spaces o text) (or_none (last_line gap)))

next_line : (deep : Bool) (spaces : Option ℕ) (o : Option (List ℕ)) (gap text bs : List ℕ) → gap ++ text ≡ bs → is_located deep spaces (option_or o (Some gap)) text ≡ is_located (begins_deep spaces bs) spaces o text
next_line deep spaces o gap text bs e = search rules

-- what across tells: whether text after the gap follows, and how long the gap is
across_goes : (flow : Bool) (spaces : Option ℕ) (deep : Bool) (t : List ℕ) → across flow spaces deep t ≡ cond (goes flow spaces deep (gap_of t) (past_gap t)) (Some (upto no_gap t)) None
unfolding across upto
across_goes flow spaces deep [] = refl
across_goes flow spaces deep (b ∷ bs) =
    elim (cases_Bool (is_space (b ∷ bs))) [
      | inl s ↦ elim (cases_Bool (is_white b)) [
        | inl w ↦ over flow spaces deep deep b bs s (across_white flow spaces deep b bs w) (across_goes flow spaces deep bs) (same_line deep spaces b (gap_of bs) (past_gap bs) (at_byte is_white b 10 w refl))
        | inr w ↦ elim (cases_Bool (is_feed b)) [
          | inl l ↦ over flow spaces deep (begins_deep spaces bs) b bs s (across_line flow spaces deep b bs w l) (across_goes flow spaces (begins_deep spaces bs) bs)
              (rw l (next_line deep spaces (last_line (gap_of bs)) (gap_of bs) (past_gap bs) bs (take-append-drop (upto no_gap bs) bs)))
          | inr l ↦ over flow spaces deep deep b bs s (across_return flow spaces deep b bs w l (let g : is_space (b ∷ bs) ≡ true = s in rw w at g)) (across_goes flow spaces deep bs) (same_line deep spaces b (gap_of bs) (past_gap bs) l)
        ]
      ]
      | inr s ↦ across_here flow spaces deep b bs s ∙ rw s refl
    ]

may_be_here : (spaces : Option ℕ) (o : Option (List ℕ)) (text : List ℕ) → plain_may_follow spaces o text ≡ is_located true spaces o text
may_be_here spaces o text = search rules

not_some : (x : Bool) (k : ℕ) → not x ≡ is_none (cond x (Some k) None)
not_some x k = search rules

-- at white space or a break
pub ends_space : (flow : Bool) (spaces : Option ℕ) (t : List ℕ) → is_space t ≡ true → ends_plain flow spaces t ≡ is_none (across flow spaces true t)
ends_space flow spaces t s = search (rules, may_be_here, not_some, across_goes)

deeper : (flow : Bool) (spaces : Option ℕ) (t : List ℕ) (k : ℕ) → across flow spaces false t ≡ Some k → across flow spaces true t ≡ Some k
unfolding across
deeper flow spaces [] k h = h
deeper flow spaces (b ∷ bs) k h =
    elim (cases_Bool (is_white b)) [
      | inl w ↦ (let g = more_some 1 k _ (sym (across_white flow spaces false b bs w) ∙ h) in across_white flow spaces true b bs w ∙ (ap (more 1) (deeper flow spaces bs g.0 g.1) ∙ ap Some g.2))
      | inr w ↦ elim (cases_Bool (is_feed b)) [
        | inl l ↦ across_line flow spaces true b bs w l ∙ (sym (across_line flow spaces false b bs w l) ∙ h)
        | inr l ↦ elim (cases_Bool (is_break (b ∷ bs))) [
          | inl r ↦ (let g = more_some 1 k _ (sym (across_return flow spaces false b bs w l r) ∙ h) in across_return flow spaces true b bs w l r ∙ (ap (more 1) (deeper flow spaces bs g.0 g.1) ∙ ap Some g.2))
          | inr r ↦ (let n : is_space (b ∷ bs) ≡ false = rw w r in let g = cond_some _ _ _ (sym (across_here flow spaces false b bs n) ∙ h) in absurd (false≢true (and_parts _ false g.0).1))
        ]
      ]
    ]

across_end : (flow : Bool) (spaces : Option ℕ) (deep : Bool) → across flow spaces deep [] ≡ None
unfolding across
across_end flow spaces deep = refl

upto_space : (flow : Bool) (spaces : Option ℕ) (b : ℕ) (bs : List ℕ) (k : ℕ) → is_space (b ∷ bs) ≡ true → across flow spaces true (b ∷ bs) ≡ Some k → upto (ends_plain flow spaces) (b ∷ bs) ≡ suc (upto (ends_plain flow spaces) bs)
unfolding upto
upto_space flow spaces b bs k s h =
    let e : ends_plain flow spaces (b ∷ bs) ≡ false = ends_space flow spaces (b ∷ bs) s ∙ ap is_none h in
    rw e refl

-- the scalar has no end on the way
pub across_upto : (flow : Bool) (spaces : Option ℕ) (t : List ℕ) (k : ℕ) → across flow spaces true t ≡ Some k → upto (ends_plain flow spaces) t ≡ k + upto (ends_plain flow spaces) (drop k t)
across_upto flow spaces [] k h = absurd (let e = sym (across_end flow spaces true) ∙ h in cc)
across_upto flow spaces (b ∷ bs) k h =
    elim (cases_Bool (is_space (b ∷ bs))) [
      | inl s ↦ (let next = across_space flow spaces true b bs s in
          let g = more_some 1 k _ (sym next.1 ∙ h) in
          let again = across_upto flow spaces bs g.0 (search (rules, deeper)) in
          let here : upto (ends_plain flow spaces) (b ∷ bs) ≡ suc (upto (ends_plain flow spaces) bs) = upto_space flow spaces b bs k s h in
          let same : suc g.0 ≡ k = omega (arith, g.2) in
          subst (λ (n : ℕ). upto (ends_plain flow spaces) (b ∷ bs) ≡ n + upto (ends_plain flow spaces) (drop n (b ∷ bs))) same (omega (arith, here, again)))
      | inr s ↦ (let g = cond_some _ _ _ (sym (across_here flow spaces true b bs s) ∙ h) in
          subst (λ (n : ℕ). upto (ends_plain flow spaces) (b ∷ bs) ≡ n + upto (ends_plain flow spaces) (drop n (b ∷ bs))) g.1 (omega arith))
    ]

pub across_bounds : (flow : Bool) (spaces : Option ℕ) (deep : Bool) (t : List ℕ) (k : ℕ) → across flow spaces deep t ≡ Some k → k ≤ length t
across_bounds flow spaces deep [] k h = absurd (let e = sym (across_end flow spaces deep) ∙ h in cc)
across_bounds flow spaces deep (b ∷ bs) k h =
    elim (cases_Bool (is_space (b ∷ bs))) [
      | inl s ↦ (let next = across_space flow spaces deep b bs s in
          let g = more_some 1 k _ (sym next.1 ∙ h) in
          let again = across_bounds flow spaces next.0 bs g.0 g.1 in omega (arith, g.2, again))
      | inr s ↦ (let g = cond_some _ _ _ (sym (across_here flow spaces deep b bs s) ∙ h) in omega (arith, g.1))
    ]

pub across_some : (flow : Bool) (spaces : Option ℕ) (t : List ℕ) (k : ℕ) → is_space t ≡ true → across flow spaces true t ≡ Some k → 0 < k
across_some flow spaces [] k s h = absurd (false≢true s)
across_some flow spaces (b ∷ bs) k s h =
    let next = across_space flow spaces true b bs s in
    let g = more_some 1 k _ (sym next.1 ∙ h) in omega (arith, g.2)

-- the end is here, or one byte on
pub plain_stop : (flow : Bool) (spaces : Option ℕ) (t : List ℕ) → is_space t ≡ true → across flow spaces true t ≡ None → upto (ends_plain flow spaces) t ≡ 0
unfolding upto
plain_stop flow spaces [] s h = refl
plain_stop flow spaces (b ∷ bs) s h = let e : ends_plain flow spaces (b ∷ bs) ≡ true = ends_space flow spaces (b ∷ bs) s ∙ ap is_none h in rw e refl

pub plain_colon : (flow : Bool) (spaces : Option ℕ) (t : List ℕ) → is_space t ≡ false → ends_text flow t ≡ true → upto (ends_plain flow spaces) t ≡ 0
unfolding upto
plain_colon flow spaces t s h = search rules

pub plain_next : (flow : Bool) (spaces : Option ℕ) (t : List ℕ) → 1 ≤ length t → is_space t ≡ false → ends_text flow t ≡ false → upto (ends_plain flow spaces) t ≡ 1 + upto (ends_plain flow spaces) (rest_of t)
unfolding upto
plain_next flow spaces [] le s h = absurd (omega arith)
plain_next flow spaces (b ∷ bs) le s h = let e : ends_plain flow spaces (b ∷ bs) ≡ false = rw (s, h) refl in rw (e, rest_is) (omega arith)
