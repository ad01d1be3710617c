-- Bytes and characters.
use Rattle.std.proofs.Common.{◌≡◌, ℕ, suc, ◌<◌, ◌≤◌, Bool, true, List, [], ◌∷◌, ◌++◌, length, get_or, sym, ⊎_elim, subst, arith, append-nil}
use Rattle.std.{proofs.Math.Utf8.{encodes, encode}, proofs.lemmas.Bool.{cases_lt, and_parts}, proofs.lemmas.Str.{inside_one, encodes-chars}}
use Rattle.std.{specs.List.list_all, specs.Str.{chars, IsUtf8}}

-- each byte passes
abbrev pub Each : (ℕ → Bool) → List ℕ → Type 0
Each p [] = Unit {0}
Each p (b ∷ bs) = (p b ≡ true) × Each p bs

pub Each-append : (p : ℕ → Bool) (a b : List ℕ) → Each p a → Each p b → Each p (a ++ b)
Each-append p [] b g h = h
Each-append p (x ∷ a) b g h = (g.0, Each-append p a b g.1 h)

each_from : (p : ℕ → Bool) (t : List ℕ) → ((k : ℕ) → k < length t → p (get_or t k 0) ≡ true) → Each p t
each_from p [] h = tt
each_from p (b ∷ t) h = (h 0 (omega arith), each_from p t (λ k le. h (suc k) (omega arith)))

-- a test of bytes that those of no ASCII character fail
pub each_encode : (p : ℕ → Bool) (c : ℕ) → (c < 128 → p c ≡ true) → ((b : ℕ) → 128 ≤ b → p b ≡ true) → Each p (encode c)
each_encode p c low high = each_from p (encode c) (λ k le.
    let b = get_or (encode c) k 0 in
    ⊎_elim
    (λ lt. let same : c ≡ b = inside_one c [] (encode c) k (sym (append-nil (encode c))) le lt in
    subst (λ (x : ℕ). p x ≡ true) same (low (omega (arith, same))))
    (λ ge. high b ge)
    (cases_lt b 128))

pub each_encodes : (p q : ℕ → Bool) (cs : List ℕ) → list_all q cs ≡ true → ((c : ℕ) → c < 128 → q c ≡ true → p c ≡ true) → ((b : ℕ) → 128 ≤ b → p b ≡ true) → Each p (encodes cs)
each_encodes p q [] h low high = tt
each_encodes p q (c ∷ cs) h low high =
    let parts = and_parts (q c) (list_all q cs) h in
    Each-append p (encode c) (encodes cs) (each_encode p c (λ lt. low c lt parts.0) high) (each_encodes p q cs parts.1 low high)

-- what is said of all characters of a text, said of its bytes
pub each_byte : (p q : ℕ → Bool) (t : List ℕ) → IsUtf8 t → list_all q (chars t) ≡ true → ((c : ℕ) → c < 128 → q c ≡ true → p c ≡ true) → ((b : ℕ) → 128 ≤ b → p b ≡ true) → Each p t
each_byte p q t u h low high = subst (Each p) (encodes-chars t u) (each_encodes p q (chars t) h low high)
