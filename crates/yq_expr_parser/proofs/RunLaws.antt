-- Runs of bytes, and strings, as they are measured and spelled.
use Rattle.std.proofs.Common.{rules, ◌≡◌, ℕ, suc, ◌+◌, Bool, true, false, cond, ◌||◌, ◌==◌, List, [], ◌∷◌, ◌++◌, length, take, drop, Option}
use Rattle.std.proofs.Common.{Some, is_some, refl, sym, ap, subst, inl, inr, arith, eqb-true}
use Rattle.std.{proofs.lemmas.Bool.{not-true, and_parts, cases_Bool, or_parts}, proofs.lemmas.Option.same_Some}
use Rattle.std.specs.List.{prefix_len, list_all}
use Rattle.yq_core.{specs.Text.{front, unless}, proofs.Bools.{chosen, guard_then}}
use Rattle.yq_expr_parser.specs.declared.token.TokenForm.{TokenForm}
use Rattle.yq_expr_parser.specs.Lexing.{beyond, closing, escaping, quoted, string_content, token_of}
use Rattle.yq_semantics.specs.Tokens.{Token, foreign, escaped_character, Character, itself, escaped, spelling, AreCharacters, interpolates}
use Rattle.yq_semantics.specs.Tokens.{character_before, said, IsString}
use Rattle.yq_expr_parser.specs.declared.token.TokenForm.TheVariants as form

-- ---- runs of bytes that pass a test

pub run_passes : (p : ℕ → Bool) (t : List ℕ) → list_all p (take (prefix_len p t) t) ≡ true
run_passes p [] = refl
run_passes p (b ∷ bs) = elim (cases_Bool (p b)) [
  | inl here ↦ let n : 1 + prefix_len p bs ≡ suc (prefix_len p bs) = omega arith in rw (here, n) (rw here (run_passes p bs))
  | inr stop ↦ rw stop refl
]

pub run_stops : (p : ℕ → Bool) (t : List ℕ) → unless p (drop (prefix_len p t) t) ≡ true
run_stops p [] = refl
run_stops p (b ∷ bs) = elim (cases_Bool (p b)) [
  | inl here ↦ let n : 1 + prefix_len p bs ≡ suc (prefix_len p bs) = omega arith in rw (here, n) (run_stops p bs)
  | inr stop ↦ rw stop (rw stop refl)
]

pub run_len : (p : ℕ → Bool) (w rest : List ℕ) → list_all p w ≡ true → unless p rest ≡ true → prefix_len p (w ++ rest) ≡ length w
run_len p [] [] h u = refl
run_len p [] (b ∷ bs) h u = let stop : p b ≡ false = not-true (p b) u in rw stop refl
run_len p (b ∷ w) rest h u =
    let parts = and_parts (p b) (list_all p w) h in
    let more = run_len p w rest parts.1 u in
    rw parts.0 (omega arith)

pub run_front : (p q : ℕ → Bool) (b : ℕ) (bs : List ℕ) → q b ≡ true → p b ≡ true → front q (take (prefix_len p (b ∷ bs)) (b ∷ bs)) ≡ true
run_front p q b bs h k = let n : 1 + prefix_len p bs ≡ suc (prefix_len p bs) = omega arith in rw (k, n) h

-- ---- strings

-- what a closing quote ends: characters as they are written, and whether one is \(
abbrev pub Closed : List ℕ → Bool × ℕ → Type 0
Closed t x = (cs : List Character) × AreCharacters cs × (take x.1 t ≡ spelling cs ++ 34 ∷ []) × (x.0 ≡ interpolates cs)

pub beyond_is : (o : Bool) (m : ℕ) (r : Option (Bool × ℕ)) (x : Bool × ℕ) → beyond o m r ≡ Some x → (y : Bool × ℕ) × (r ≡ Some y) × (◌≡◌ {A = Bool × ℕ} (o || y.0, m + y.1) x)
beyond_is o m r x h = search rules

pub closed_more : (b : ℕ) (bs : List ℕ) (y : Bool × ℕ) → (b == 34 || b == 92) ≡ false → Closed bs y → Closed (b ∷ bs) (false || y.0, 1 + y.1)
closed_more b bs y plain c =
    let n : 1 + y.1 ≡ suc y.1 = omega arith in
    (itself b ∷ c.0, (plain, c.1), rw n (ap (λ (s : List ℕ). b ∷ s) c.2), c.3)

pub closed_escape : (o : Bool) (b : ℕ) (bs : List ℕ) (y : Bool × ℕ) → (b == 40) ≡ o → (o || is_some (escaped_character b)) ≡ true → Closed bs y → Closed (92 ∷ (b ∷ bs)) (o || y.0, 2 + y.1)
closed_escape o b bs y is known c =
    let n : 2 + y.1 ≡ suc (suc y.1) = omega arith in
    (escaped b ∷ c.0, (rw is known, c.1), rw n (ap (λ (s : List ℕ). 92 ∷ (b ∷ s)) c.2), rw (is, c.3) refl)

mutual
  unfolding closing escaping

  pub closing_takes : (t : List ℕ) (x : Bool × ℕ) → closing t ≡ Some x → Closed t x
  closing_takes [] x h = cc
  closing_takes (b ∷ bs) x h = elim (chosen (b == 34) h) [
    | inl here ↦
        let e : ◌≡◌ {A = Bool × ℕ} (false, 1) x = same_Some _ _ here.1 in
        let b_is : b ≡ 34 = eqb-true b 34 here.0 in
        subst (Closed (b ∷ bs)) e ([], tt, ap (λ (c : ℕ). c ∷ []) b_is, refl)
    | inr on ↦ elim (chosen (b == 92) on.1) [
      | inl back ↦
          let b_is : b ≡ 92 = eqb-true b 92 back.0 in
          subst (λ (c : ℕ). Closed (c ∷ bs) x) (sym b_is) (escaping_takes bs x back.1)
      | inr plain ↦
          let y = beyond_is false 1 (closing bs) x plain.1 in
          let neither : (b == 34 || b == 92) ≡ false = rw (on.0, plain.0) refl in
          subst (Closed (b ∷ bs)) y.2 (closed_more b bs y.0 neither (closing_takes bs y.0 y.1))
    ]
  ]

  pub escaping_takes : (t : List ℕ) (x : Bool × ℕ) → escaping t ≡ Some x → Closed (92 ∷ t) x
  escaping_takes [] x h = cc
  escaping_takes (b ∷ bs) x h = elim (chosen (b == 40) h) [
    | inl here ↦
        let y = beyond_is true 2 (closing bs) x here.1 in
        subst (Closed (92 ∷ (b ∷ bs))) y.2 (closed_escape true b bs y.0 here.0 refl (closing_takes bs y.0 y.1))
    | inr on ↦
        let g = guard_then (is_some (escaped_character b)) on.1 in
        let y = beyond_is false 2 (closing bs) x g.1 in
        subst (Closed (92 ∷ (b ∷ bs))) y.2 (closed_escape false b bs y.0 on.0 g.0 (closing_takes bs y.0 y.1))
  ]

pub closing_again : (cs : List Character) (rest : List ℕ) → AreCharacters cs → closing (spelling cs ++ 34 ∷ rest) ≡ Some (interpolates cs, suc (length (spelling cs)))
unfolding closing escaping
closing_again [] rest h = refl
closing_again (itself b ∷ cs) rest h =
    let no = or_parts (b == 34) (b == 92) h.0 in
    let more = closing_again cs rest h.1 in
    let n : 1 + suc (length (spelling cs)) ≡ suc (suc (length (spelling cs))) = omega arith in
    rw (no.0, no.1, more, n) refl
closing_again (escaped e ∷ cs) rest h =
    let more = closing_again cs rest h.1 in
    let n : 2 + suc (length (spelling cs)) ≡ suc (suc (suc (length (spelling cs)))) = omega arith in
    elim (cases_Bool (e == 40)) [
      | inl is ↦ rw (is, more, n) refl
      | inr other ↦ let known : is_some (escaped_character e) ≡ true = rw other at h.0 in rw (other, known, more, n) refl
    ]

pub content_again : (cs : List Character) (rest : List ℕ) → AreCharacters cs → string_content (spelling cs ++ 34 ∷ rest) ≡ said cs
unfolding string_content
content_again [] rest h = refl
content_again (itself b ∷ cs) rest h =
    let no = or_parts (b == 34) (b == 92) h.0 in
    rw (no.0, no.1) (ap (λ (s : List ℕ). b ∷ s) (content_again cs rest h.1))
content_again (escaped e ∷ cs) rest h = ap (character_before (escaped_character e)) (content_again cs rest h.1)

pub string_closed : (make : List ℕ → Token) (o : Bool) (p : List ℕ) (t : Token) (cs : List Character) → AreCharacters cs → p ≡ spelling cs ++ 34 ∷ [] → o ≡ interpolates cs
    → t ≡ cond o foreign (make (string_content p)) → IsString make t (34 ∷ p)
string_closed make o p t cs are spelled_is flag is = search (rules, content_again)

-- a string in front
pub string_in : (make : List ℕ → Token) (x : Bool × ℕ) (bs : List ℕ) (t : Token) → closing bs ≡ Some x → t ≡ cond x.0 foreign (make (string_content (take x.1 bs))) → IsString make t (34 ∷ take x.1 bs)
string_in make x bs t h is =
    let c = closing_takes bs x h in
    string_closed make x.0 (take x.1 bs) t c.0 c.1 c.2 c.3 is

pub form_if : (b : Bool) (f : TokenForm) (p : List ℕ) → token_of (cond b form.Foreign f) p ≡ cond b foreign (token_of f p)
form_if b f p = search rules

pub quoted_is : (f : TokenForm) (m : ℕ) (r : Option (Bool × ℕ)) (y : TokenForm × ℕ) → quoted f m r ≡ Some y → (x : Bool × ℕ) × (r ≡ Some x) × (◌≡◌ {A = TokenForm × ℕ} (cond x.0 form.Foreign f, m + x.1) y)
quoted_is f m r y h = search rules
