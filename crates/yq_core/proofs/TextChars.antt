-- What bytes tell of characters, and what a search for the next CR tells.
use Rattle.std.proofs.Common.{◌≡◌, ◌&&◌, ◌||◌, ℕ, zero, suc, ◌+◌, ◌*◌, ◌%◌, ◌<◌, ◌≤◌, ◌/◌, Bool, true, false, eqb, leb, List, [], ◌∷◌, ◌++◌}
use Rattle.std.proofs.Common.{one-add, not, length, drop, get_or, Some, None, refl, sym, ap, ap₂, ◌∙◌, inl, inr, arith, rules}
use Rattle.std.proofs.lemmas.Bool.{lt-ltb, le-ltb, not-true, cases_lt, cases_Bool, and_parts, false_from_ne_true}
use Rattle.std.{proofs.Math.Bool.or-true, proofs.lemmas.Str.{scalars-chars, encodes-chars}, specs.List.{list_all, list_any, prefix_len}}
use Rattle.std.specs.Str.{chars, IsUtf8}
use lib.Utf8.{scalar, scalars, encode, encodes}
use Rattle.memchr.specs.Find.{IsFirstByte, is_byte}
use Rattle.yq_core.{specs.Runs.{is_ascii_byte, run_goes_on}, specs.declared.runs.Run.TheVariants.Text, proofs.Across.{rest_of, rest_is}}
use Rattle.yq_core.specs.Text.{is_feed, front, unless}
use Rattle.yq_core.specs.Characters.{are_in_text, begins_text_char, is_text_byte, is_text_char, pairs_returns}

-- a byte after the first one of a character
text_further : (b : ℕ) → 128 ≤ b → b < 192 → is_text_byte b ≡ true
text_further b l m = grind arith

further : (b : ℕ) (t : List ℕ) → 128 ≤ b → b < 192 → are_in_text (b ∷ t) ≡ are_in_text t
unfolding are_in_text
further b t l m = rw (text_further b l m) refl

-- what the first byte of a character tells, with those after it
whole : (y : Bool) → (y || false || false) ≡ ((y || false || false || false || false) && true)
whole y = search rules

lead_true : (l : ℕ) (t : List ℕ) (b : Bool) → is_text_byte l ≡ true → b ≡ true → (is_text_byte l || begins_text_char (l ∷ t)) ≡ b
lead_true l t b h e = rw (h, e) refl

same_bool : (a b : Bool) → (a ≡ true → b ≡ true) → (b ≡ true → a ≡ true) → a ≡ b
same_bool a b f g = search rules

swap : (m l : Bool) → (not m && not (not l)) ≡ ((l || false) && not m)
swap m l = search rules

last_is : (c x y : ℕ) → c + 8320 ≡ 61440 + 64 * x + y → x < 192 → 128 ≤ y → y < 192 → (eqb x 191 && leb 190 y) ≡ not (leb c 65533)
last_is c x y e a b d = search rules

char_four : (c : ℕ) → scalar c ≡ true → 65536 ≤ c → is_text_char c ≡ true
char_four c s a = grind arith

one_byte : (c : ℕ) → c < 128 → encode c ≡ c ∷ []
unfolding encode
one_byte c a = rw (lt-ltb c 128 a) refl

two_bytes : (c : ℕ) → 128 ≤ c → c < 2048 → encode c ≡ (192 + c / 64) ∷ (128 + c % 64) ∷ []
unfolding encode
two_bytes c a b = rw (le-ltb c 128 a, lt-ltb c 2048 b) refl

three_bytes : (c : ℕ) → 2048 ≤ c → c < 65536 → encode c ≡ (224 + c / 4096) ∷ (128 + c / 64 % 64) ∷ (128 + c % 64) ∷ []
unfolding encode
three_bytes c a b = rw (le-ltb c 128 (omega arith), le-ltb c 2048 a, lt-ltb c 65536 b) refl

four_bytes : (c : ℕ) → 65536 ≤ c → encode c ≡ (240 + c / 262144) ∷ (128 + c / 4096 % 64) ∷ (128 + c / 64 % 64) ∷ (128 + c % 64) ∷ []
unfolding encode
four_bytes c a = rw (le-ltb c 128 (omega arith), le-ltb c 2048 (omega arith), le-ltb c 65536 a) refl

lead_two : (c : ℕ) (t : List ℕ) → 128 ≤ c → c < 2048 → (is_text_byte (192 + c / 64) || begins_text_char ((192 + c / 64) ∷ (128 + c % 64) ∷ t)) ≡ is_text_char c
lead_two c t a b = search rules

lead_three : (c : ℕ) (t : List ℕ) → scalar c ≡ true → 2048 ≤ c → c < 65536 →
    (is_text_byte (224 + c / 4096) || begins_text_char ((224 + c / 4096) ∷ (128 + c / 64 % 64) ∷ (128 + c % 64) ∷ t)) ≡ is_text_char c
lead_three c t s a b = search rules

lead_four : (c : ℕ) (t : List ℕ) → scalar c ≡ true → 65536 ≤ c → (is_text_byte (240 + c / 262144) || begins_text_char ((240 + c / 262144) ∷ t)) ≡ is_text_char c
lead_four c t s a = lead_true (240 + c / 262144) t (is_text_char c) (grind arith) (char_four c s a)

next_in : (b : ℕ) (t : List ℕ) → are_in_text ((128 + b % 64) ∷ t) ≡ are_in_text t
next_in b t = further (128 + b % 64) t (omega arith) (omega arith)

-- a first byte, and those after it
lead_in : (b : ℕ) (t rest : List ℕ) (fits : Bool) → (is_text_byte b || begins_text_char (b ∷ t)) ≡ fits →
    are_in_text t ≡ are_in_text rest → are_in_text (b ∷ t) ≡ (fits && are_in_text rest)
unfolding are_in_text
lead_in b t rest fits e f = ap₂ (λ (x y : Bool). x && y) e f

char_in : (c : ℕ) (t : List ℕ) → scalar c ≡ true → are_in_text (encode c ++ t) ≡ (is_text_char c && are_in_text t)
char_in c t s = elim (cases_lt c 128) [
  | inl a ↦ ap (λ (e : List ℕ). are_in_text (e ++ t)) (one_byte c a) ∙ lead_in c t t _ (search rules) refl
  | inr a ↦ elim (cases_lt c 2048) [
    | inl b ↦ ap (λ (e : List ℕ). are_in_text (e ++ t)) (two_bytes c a b) ∙ lead_in _ _ t _ (lead_two c t a b) (next_in c t)
    | inr b ↦ elim (cases_lt c 65536) [
      | inl d ↦ ap (λ (e : List ℕ). are_in_text (e ++ t)) (three_bytes c b d) ∙ lead_in _ _ t _ (lead_three c t s b d) (next_in (c / 64) _ ∙ next_in c t)
      | inr d ↦ ap (λ (e : List ℕ). are_in_text (e ++ t)) (four_bytes c d)
          ∙ lead_in _ _ t _ (lead_four c ((128 + c / 4096 % 64) ∷ (128 + c / 64 % 64) ∷ (128 + c % 64) ∷ t) s d) (next_in (c / 4096) _ ∙ (next_in (c / 64) _ ∙ next_in c t))
    ]
  ]
]

chars_in : (cs : List ℕ) → scalars cs ≡ true → are_in_text (encodes cs) ≡ list_all is_text_char cs
unfolding are_in_text
chars_in [] s = refl
chars_in (c ∷ cs) s =
    let p = and_parts (scalar c) (scalars cs) s in
    char_in c (encodes cs) p.0 ∙ ap (λ (x : Bool). is_text_char c && x) (chars_in cs p.1)

-- bytes tell whether all characters are those of a text
pub text_bytes : (t : List ℕ) → IsUtf8 t → are_in_text t ≡ list_all is_text_char (chars t)
text_bytes t u = ap are_in_text (sym (encodes-chars t u)) ∙ chars_in (chars t) (scalars-chars t u)

-- a run of bytes that are in characters of a text alone, and where it stops
pub run_in : (t : List ℕ) → are_in_text (drop (prefix_len (run_goes_on Text) t) t) ≡ are_in_text t
unfolding are_in_text
run_in [] = refl
run_in (b ∷ bs) = elim (cases_Bool (is_text_byte b)) [
  | inl h ↦ rw (h, one-add) (run_in bs)
  | inr h ↦ (let n : prefix_len (run_goes_on Text) (b ∷ bs) ≡ 0 = rw h refl in ap (λ (k : ℕ). are_in_text (drop k (b ∷ bs))) n)
]

pub run_stops : (t : List ℕ) → unless is_text_byte (drop (prefix_len (run_goes_on Text) t) t) ≡ true
run_stops [] = refl
run_stops (b ∷ bs) = elim (cases_Bool (is_text_byte b)) [
  | inl h ↦ rw (h, one-add) (run_stops bs)
  | inr h ↦ (let n : prefix_len (run_goes_on Text) (b ∷ bs) ≡ 0 = rw h refl in ap (λ (k : ℕ). unless is_text_byte (drop k (b ∷ bs))) n ∙ ap not h)
]

-- a byte at which a run stops
pub stop_fails : (t : List ℕ) → 1 ≤ length t → unless is_text_byte t ≡ true → begins_text_char t ≡ false → are_in_text t ≡ false
unfolding are_in_text
stop_fails t l u h = search (rules, not-true)

pub stop_fits : (t : List ℕ) → 1 ≤ length t → begins_text_char t ≡ true → are_in_text (rest_of t) ≡ are_in_text t
unfolding are_in_text
stop_fits [] l h = absurd (omega (arith, l))
stop_fits (b ∷ bs) l h = rw (rest_is, h, or-true) refl

pub none_left : (t : List ℕ) → length t < 1 → are_in_text t ≡ true
unfolding are_in_text
none_left [] l = refl
none_left (b ∷ bs) l = absurd (omega arith)

-- bytes of ASCII in front: all of them or fewer
text_ascii : (b : ℕ) → is_ascii_byte b ≡ true → is_text_byte b ≡ true
text_ascii b h = grind arith

pub ascii_in : (n : ℕ) (t : List ℕ) → n ≤ prefix_len is_ascii_byte t → are_in_text (drop n t) ≡ are_in_text t
unfolding are_in_text
ascii_in zero t h = refl
ascii_in (suc n) [] h = refl
ascii_in (suc n) (b ∷ bs) h = elim (cases_Bool (is_ascii_byte b)) [
  | inl i ↦ (let long : prefix_len is_ascii_byte (b ∷ bs) ≡ 1 + prefix_len is_ascii_byte bs = rw i refl in rw (text_ascii b i) (ascii_in n bs (omega (arith, h, long))))
  | inr i ↦ (let none : prefix_len is_ascii_byte (b ∷ bs) ≡ 0 = rw i refl in absurd (omega (arith, h, none)))
]

return_no_ascii : (b : ℕ) → is_ascii_byte b ≡ true → eqb b 13 ≡ false
return_no_ascii b h = grind arith

pub ascii_returns : (n : ℕ) (t : List ℕ) → n ≤ prefix_len is_ascii_byte t → pairs_returns (drop n t) ≡ pairs_returns t
unfolding pairs_returns
ascii_returns zero t h = refl
ascii_returns (suc n) [] h = refl
ascii_returns (suc n) (b ∷ bs) h = elim (cases_Bool (is_ascii_byte b)) [
  | inl i ↦ (let long : prefix_len is_ascii_byte (b ∷ bs) ≡ 1 + prefix_len is_ascii_byte bs = rw i refl in rw (return_no_ascii b i) (ascii_returns n bs (omega (arith, h, long))))
  | inr i ↦ (let none : prefix_len is_ascii_byte (b ∷ bs) ≡ 0 = rw i refl in absurd (omega (arith, h, none)))
]

no_return : (t : List ℕ) → ((k : ℕ) → k < length t → eqb (get_or t k 0) 13 ≡ false) → pairs_returns t ≡ true
unfolding pairs_returns
no_return [] h = refl
no_return (b ∷ bs) h = rw (h 0 (omega arith)) (no_return bs (λ k l. h (suc k) (omega arith)))

at_return : (t : List ℕ) (i : ℕ) → i < length t → ((k : ℕ) → k < i → eqb (get_or t k 0) 13 ≡ false) → eqb (get_or t i 0) 13 ≡ true → pairs_returns t ≡ (front is_feed (drop (suc i) t) && pairs_returns (drop (suc i) t))
unfolding pairs_returns
at_return [] i l h e = absurd (omega arith)
at_return (b ∷ bs) zero l h e = rw e refl
at_return (b ∷ bs) (suc i) l h e = rw (h 0 (omega arith)) (at_return bs i (omega arith) (λ k m. h (suc k) (omega arith)) e)

pub pairs_none : (t : List ℕ) → IsFirstByte (is_byte 13) t None → pairs_returns t ≡ true
pairs_none t h = no_return t (λ k l. false_from_ne_true _ (h k (omega arith) l))

pairs_some : (t u : List ℕ) (i : ℕ) → IsFirstByte (is_byte 13) t (Some i) → u ≡ drop (i + 1) t → pairs_returns t ≡ (front is_feed u && pairs_returns u)
pairs_some t u i h e = search (rules, at_return, false_from_ne_true)

-- a CR without an LF after it
pub pairs_alone : (t u : List ℕ) (i : ℕ) → IsFirstByte (is_byte 13) t (Some i) → u ≡ drop (i + 1) t → front is_feed u ≡ false → pairs_returns t ≡ false
pairs_alone t u i h e n = pairs_some t u i h e ∙ ap (λ (b : Bool). b && pairs_returns u) n

-- a CR with one
pub pairs_on : (t u : List ℕ) (i : ℕ) → IsFirstByte (is_byte 13) t (Some i) → u ≡ drop (i + 1) t → front is_feed u ≡ true → pairs_returns u ≡ pairs_returns t
pairs_on t u i h e n = sym (pairs_some t u i h e ∙ ap (λ (b : Bool). b && pairs_returns u) n)

-- a search for a byte tells whether it is there
any_at : (a i : ℕ) (t : List ℕ) → i < length t → eqb (get_or t i 0) a ≡ true → list_any (λ x. eqb x a) t ≡ true
any_at a i [] l e = absurd (omega (arith, l))
any_at a zero (b ∷ bs) l e = rw e refl
any_at a (suc i) (b ∷ bs) l e = rw (any_at a i bs (omega (arith, l)) e, or-true) refl

none_at : (a : ℕ) (t : List ℕ) → ((k : ℕ) → k < length t → eqb (get_or t k 0) a ≡ false) → list_any (λ x. eqb x a) t ≡ false
none_at a [] h = refl
none_at a (b ∷ bs) h = rw (h 0 (omega arith)) (none_at a bs (λ k l. h (suc k) (omega arith)))

pub any_some : (a : ℕ) (t : List ℕ) (i : ℕ) → IsFirstByte (is_byte a) t (Some i) → list_any (λ x. eqb x a) t ≡ true
any_some a t i h = search (rules, any_at)

pub any_none : (a : ℕ) (t : List ℕ) → IsFirstByte (is_byte a) t None → list_any (λ x. eqb x a) t ≡ false
any_none a t h = none_at a t (λ k l. false_from_ne_true _ (h k (omega arith) l))
