-- What is in front of the bytes after a pattern: turns of the search for a closing quote, and forms of tokens.
use Rattle.std.proofs.Common.{rules, ◌≡◌, ℕ, ◌+◌, ◌-◌, ◌≤◌, Bool, true, false, ◌||◌, ◌&&◌, ◌==◌, List, [], ◌∷◌, length, take, drop, get_or}
use Rattle.std.{proofs.Common.{Option, Some, is_some, refl, sym, ap, ◌∙◌, arith, length-drop, eqb-true}, proofs.lemmas.List.take_all}
use Rattle.std.{proofs.lemmas.Bool.{and_parts, false_from_ne_true}, specs.Char.is_ascii_digit, specs.List.prefix_len}
use Rattle.yq_core.specs.Text.{front}
use Rattle.yq_semantics.specs.Tokens.{escaped_character, begins_name}
use Rattle.yq_expr_parser.specs.declared.token.TokenForm.{TokenForm}
use Rattle.yq_expr_parser.specs.Lexing.{beyond, closing, quoted, fraction_len, number_len, dotted, marked, worded, token_measure}
use Rattle.yq_expr_parser.specs.declared.token.TokenForm.TheVariants as form

-- what a pattern's rest is
abbrev pub after : ℕ → List ℕ → List ℕ
after k t = take (length t - k) (drop k t)

after_all : (k : ℕ) (t : List ℕ) → after k t ≡ drop k t
after_all k t = take_all (length t - k) (drop k t) (omega (arith, length-drop k t))

pub after_length : (k n : ℕ) (t text : List ℕ) → k ≤ length t → n + length t ≡ length text → n + k + length (after k t) ≡ length text
after_length k n t text le h = omega (arith, ap length (after_all k t), length-drop k t)

beyond_on : (o p : Bool) (n m : ℕ) (r : Option (Bool × ℕ)) → beyond o n (beyond p m r) ≡ beyond (o || p) (n + m) r
beyond_on o p n m r = search rules

or_true : (o : Bool) → (o || true) ≡ true
or_true o = search rules

or_false : (o : Bool) → (o || false) ≡ o
or_false o = search rules

foreign_here : (t : List ℕ) → 2 ≤ length t → get_or t 0 0 ≡ 92 → get_or t 1 0 ≡ 40 → closing t ≡ beyond true 2 (closing (drop 2 t))
unfolding closing
foreign_here t le back open_ = search rules

escape_here : (t : List ℕ) → 2 ≤ length t → get_or t 0 0 ≡ 92 → true ≡ is_some (escaped_character (get_or t 1 0)) → closing t ≡ beyond false 2 (closing (drop 2 t))
unfolding closing
escape_here t le back known = search rules

-- a `\(` is in front
pub foreign_further : (o : Bool) (n : ℕ) (t text : List ℕ) → 2 ≤ length t → get_or t 0 0 ≡ 92 → get_or t 1 0 ≡ 40 → beyond o n (closing t) ≡ closing text
    → beyond true (n + 2) (closing (after 2 t)) ≡ closing text
foreign_further o n t text le back open_ h =
    ap (λ (s : List ℕ). beyond true (n + 2) (closing s)) (after_all 2 t)
    ∙ (ap (λ (p : Bool). beyond p (n + 2) (closing (drop 2 t))) (sym (or_true o))
    ∙ (sym (beyond_on o true n 2 (closing (drop 2 t))) ∙ (ap (beyond o n) (sym (foreign_here t le back open_)) ∙ h)))

-- an escape is in front
pub escape_further : (o : Bool) (n : ℕ) (t text : List ℕ) → 2 ≤ length t → get_or t 0 0 ≡ 92 → true ≡ is_some (escaped_character (get_or t 1 0)) → beyond o n (closing t) ≡ closing text
    → beyond o (n + 2) (closing (after 2 t)) ≡ closing text
escape_further o n t text le back known h =
    ap (λ (s : List ℕ). beyond o (n + 2) (closing s)) (after_all 2 t)
    ∙ (ap (λ (p : Bool). beyond p (n + 2) (closing (drop 2 t))) (sym (or_false o))
    ∙ (sym (beyond_on o false n 2 (closing (drop 2 t))) ∙ (ap (beyond o n) (sym (escape_here t le back known)) ∙ h)))

plain_here : (t : List ℕ) → 1 ≤ length t → (get_or t 0 0 ≡ 34 → ⊥) → (get_or t 0 0 ≡ 92 → ⊥) → closing t ≡ beyond false 1 (closing (drop 1 t))
unfolding closing
plain_here [] le quote back = absurd (omega (arith, le))
plain_here (b ∷ bs) le quote back = rw (other b 34 quote, other b 92 back) refl
  where
    other : (x y : ℕ) → (x ≡ y → ⊥) → (x == y) ≡ false
    other x y differ = false_from_ne_true (x == y) (λ same. differ (eqb-true x y same))

-- another byte is in front
pub plain_further : (o : Bool) (n : ℕ) (t text : List ℕ) → 1 ≤ length t → (get_or t 0 0 ≡ 34 → ⊥) → (get_or t 0 0 ≡ 92 → ⊥) → beyond o n (closing t) ≡ closing text
    → beyond o (n + 1) (closing (after 1 t)) ≡ closing text
plain_further o n t text le quote back h =
    ap (λ (s : List ℕ). beyond o (n + 1) (closing s)) (after_all 1 t)
    ∙ (ap (λ (p : Bool). beyond p (n + 1) (closing (drop 1 t))) (sym (or_false o))
    ∙ (sym (beyond_on o false n 1 (closing (drop 1 t))) ∙ (ap (beyond o n) (sym (plain_here t le quote back)) ∙ h)))

-- no name is in front
pub worded_mark : (t : List ℕ) (r : Option (TokenForm × ℕ)) → 1 ≤ length t → false ≡ begins_name (get_or t 0 0) → r ≡ marked (get_or t 0 0) (after 1 t) → r ≡ worded t
worded_mark [] r le none is = absurd (omega (arith, le))
worded_mark (b ∷ bs) r le none is = is ∙ (ap (marked b) (after_all 1 (b ∷ bs)) ∙ rw (← none) refl)

-- a quote is in front
pub measured_quote : (t : List ℕ) (k : Option (Bool × ℕ)) (r : Option (TokenForm × ℕ)) → 1 ≤ length t → get_or t 0 0 ≡ 34 → k ≡ closing (after 1 t) → r ≡ quoted form.Text 1 k → r ≡ token_measure t
unfolding token_measure
measured_quote [] k r le quote closes is = absurd (omega (arith, le))
measured_quote (b ∷ bs) k r le quote closes is = is ∙ (ap (quoted form.Text 1) (closes ∙ ap closing (after_all 1 (b ∷ bs))) ∙ rw quote refl)

-- a dot is in front
pub measured_dot : (t : List ℕ) (r : Option (TokenForm × ℕ)) → 1 ≤ length t → get_or t 0 0 ≡ 46 → r ≡ dotted (after 1 t) → r ≡ token_measure t
unfolding token_measure
measured_dot [] r le dot is = absurd (omega (arith, le))
measured_dot (b ∷ bs) r le dot is = is ∙ (ap dotted (after_all 1 (b ∷ bs)) ∙ rw dot refl)

-- a minus sign and a digit are in front
pub measured_minus : (t : List ℕ) (n : ℕ) → 1 ≤ length t → true ≡ (get_or t 0 0 == 45 && front is_ascii_digit (after 1 t)) → n ≡ number_len (after 1 t) → Some (form.Number, 1 + n) ≡ token_measure t
unfolding token_measure
measured_minus [] n le minus is = absurd (omega (arith, le))
measured_minus (b ∷ bs) n le minus is =
    let tail : after 1 (b ∷ bs) ≡ bs = after_all 1 (b ∷ bs) in
    let parts = and_parts (b == 45) (front is_ascii_digit bs) (sym (minus ∙ ap (λ (s : List ℕ). b == 45 && front is_ascii_digit s) tail)) in
    let b_is : b ≡ 45 = eqb-true b 45 parts.0 in
    ap (λ (k : ℕ). Some (form.Number, 1 + k)) (is ∙ ap number_len tail) ∙ rw (b_is, parts.1) refl

-- a point and a digit are in front
pub fraction_here : (t : List ℕ) (n : ℕ) → 1 ≤ length t → get_or t 0 0 ≡ 46 → true ≡ front is_ascii_digit (after 1 t) → n ≡ prefix_len is_ascii_digit (after 1 t) → 1 + n ≡ fraction_len t
fraction_here [] n le point digit is = absurd (omega (arith, le))
fraction_here (b ∷ bs) n le point digit is =
    let tail : after 1 (b ∷ bs) ≡ bs = after_all 1 (b ∷ bs) in
    let some : front is_ascii_digit bs ≡ true = sym (digit ∙ ap (front is_ascii_digit) tail) in
    ap (λ (k : ℕ). 1 + k) (is ∙ ap (prefix_len is_ascii_digit) tail) ∙ rw (point, some) refl
