-- What is written plain is a plain scalar.
use Rattle.std.proofs.Common.{◌≡◌, ℕ, Bool, true, false, not, eqb, List, [], ◌∷◌, ◌++◌, Option, refl, sym, inl, inr, ⊎_elim, ◌&&◌, ◌||◌, ap}
use Rattle.std.{proofs.Common.{◌∙◌, eqb-true, rules}, proofs.lemmas.Bool.{false≢true, or_cases, not-true, and_parts, cases_Bool, or_parts}}
use Rattle.std.{specs.List.list_all, specs.Str.{chars, IsUtf8}, specs.Option.is_none}
use Rattle.yq_core.{specs.Answers.more, specs.Text.{NoneIn, is_empty, is_space, front}}
use Rattle.yq_core.{specs.Plain.{ends_plain, ends_text, is_flow_indicator, is_safe, IsPlain}, specs.PlainReading.across}
use Rattle.yq_core.specs.PlainText.{is_plain_char, begins_plainly, needs_quotes, no_rest, is_plain_text}
use Rattle.yq_core.{proofs.Bools.{at_byte, not_byte, none_of}, proofs.Across.{across_white, across_here, ends_space}}
use Rattle.yq_core.proofs.Bytes.{Each, each_byte}

-- no control that white space and breaks are made of
abbrev pub is_no_control : ℕ → Bool
is_no_control b = not (eqb b 9 || eqb b 10 || eqb b 13)

pub no_controls : (t : List ℕ) → IsUtf8 t → list_all is_plain_char (chars t) ≡ true → Each is_no_control t
no_controls t u h = search (rules, each_byte, at_byte, not_byte)

-- what the test says of the byte in front
pub record Front (flow : Bool) (b : ℕ) (bs : List ℕ) : Type 0 where
  pub flow_free : (flow && is_flow_indicator b) ≡ false
  pub colon : (eqb b 58 && (is_empty bs || front (λ c. eqb c 32) bs)) ≡ false
  pub space : (eqb b 32 && (is_empty bs || front (λ c. eqb c 35) bs)) ≡ false
  pub rest : no_rest (needs_quotes flow) bs ≡ true

pub front_of : (flow : Bool) (b : ℕ) (bs : List ℕ) → no_rest (needs_quotes flow) (b ∷ bs) ≡ true → Front flow b bs
front_of flow b bs h = search (rules, and_parts, or_parts, not-true)

pub no_control_space : (b : ℕ) (bs : List ℕ) → is_no_control b ≡ true → eqb b 32 ≡ false → is_space (b ∷ bs) ≡ false
no_control_space b bs q n = let p = none_of (eqb b 9) (eqb b 10) (eqb b 13) q in rw (n, p.0, p.1, p.2) refl

following_colon : (flow : Bool) (bs rest : List ℕ) → Each is_no_control bs → no_rest (needs_quotes flow) bs ≡ true → (is_empty bs || front (λ c. eqb c 32) bs) ≡ false → is_safe flow (bs ++ rest) ≡ true
following_colon flow bs rest q h e = search rules

pub text_inside : (flow : Bool) (b : ℕ) (bs rest : List ℕ) → Each is_no_control (b ∷ bs) → no_rest (needs_quotes flow) (b ∷ bs) ≡ true → ends_text flow (b ∷ (bs ++ rest)) ≡ false
text_inside flow b bs rest q h = search (rules, front_of, cases_Bool, following_colon)

is_none_more : (o : Option ℕ) → is_none (more 1 o) ≡ is_none o
is_none_more o = search rules

pub across_inside : (flow : Bool) (spaces : Option ℕ) (bs rest : List ℕ) → Each is_no_control bs → no_rest (needs_quotes flow) bs ≡ true →
    is_empty bs ≡ false → front (λ c. eqb c 35) bs ≡ false → is_none (across flow spaces true (bs ++ rest)) ≡ false
across_inside flow spaces [] rest q h some hash = absurd (false≢true (sym some))
across_inside flow spaces (c ∷ bs) rest q h some hash =
    let f = front_of flow c bs h in
    elim (cases_Bool (eqb c 32)) [
      | inl e ↦ (let g : (is_empty bs || front (λ c. eqb c 35) bs) ≡ false = rw e at f.space in
          let p = or_parts (is_empty bs) (front (λ c. eqb c 35) bs) g in
          ap is_none (across_white flow spaces true c (bs ++ rest) (rw e refl)) ∙ (is_none_more (across flow spaces true (bs ++ rest)) ∙ across_inside flow spaces bs rest q.1 f.rest p.0 p.1))
      | inr e ↦ ap is_none (across_here flow spaces true c (bs ++ rest) (no_control_space c (bs ++ rest) q.0 e)) ∙ rw (hash, text_inside flow c bs rest q h) refl
    ]

pub none_inside : (flow : Bool) (spaces : Option ℕ) (t rest : List ℕ) → Each is_no_control t → no_rest (needs_quotes flow) t ≡ true → NoneIn (ends_plain flow spaces) t rest
none_inside flow spaces [] rest q h = tt
none_inside flow spaces (b ∷ bs) rest q h =
    let f = front_of flow b bs h in
    let here : ends_plain flow spaces (b ∷ (bs ++ rest)) ≡ false = elim (cases_Bool (eqb b 32)) [
      | inl e ↦ (let g : (is_empty bs || front (λ c. eqb c 35) bs) ≡ false = rw e at f.space in
          let p = or_parts (is_empty bs) (front (λ c. eqb c 35) bs) g in
          let s : is_space (b ∷ (bs ++ rest)) ≡ true = rw e refl in
          let a : is_none (across flow spaces true (b ∷ (bs ++ rest))) ≡ false =
          ap is_none (across_white flow spaces true b (bs ++ rest) (rw e refl))
          ∙ (is_none_more (across flow spaces true (bs ++ rest)) ∙ across_inside flow spaces bs rest q.1 f.rest p.0 p.1) in
          ends_space flow spaces (b ∷ (bs ++ rest)) s ∙ a)
      | inr e ↦ rw (no_control_space b (bs ++ rest) q.0 e, text_inside flow b bs rest q h) refl
    ] in
    (here, none_inside flow spaces bs rest q.1 f.rest)

after_dash : (flow : Bool) (bs rest : List ℕ) → Each is_no_control bs → no_rest (needs_quotes flow) bs ≡ true → front (λ c. not (eqb c 32)) bs ≡ true → is_safe flow (bs ++ rest) ≡ true
after_dash flow bs rest q h e = search (rules, false≢true, no_control_space, front_of, not-true)

pub plain_text_parts : (flow : Bool) (t : List ℕ) → is_plain_text flow t ≡ true → (list_all is_plain_char (chars t) ≡ true) × (begins_plainly t ≡ true) × (no_rest (needs_quotes flow) t ≡ true)
plain_text_parts flow t h = search (rules, and_parts)

-- whatever comes after it, if a plain scalar has to end there
pub plain_written : (flow : Bool) (spaces : Option ℕ) (t rest : List ℕ) → IsUtf8 t → is_plain_text flow t ≡ true → ends_plain flow spaces rest ≡ true → IsPlain flow spaces t rest
plain_written flow spaces t rest u h e =
    let p = plain_text_parts flow t h in
    let q = no_controls t u p.0 in
    search (rules, false≢true, and_parts, no_control_space, not-true, ⊎_elim, after_dash, front_of, eqb-true, or_cases, none_inside, q, p)
