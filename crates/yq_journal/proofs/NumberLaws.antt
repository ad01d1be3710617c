-- The digits with which a text begins are a number in decimal, where no zero comes first.
use Rattle.std.proofs.Common.{rules, ◌≡◌, ◌<◌, ◌≤◌, ◌^◌, ◌+◌, ◌-◌, ◌*◌, ◌%◌, ℕ, List, [], ◌∷◌, ◌++◌, decimal, length, take, drop, get_or}
use Rattle.std.{proofs.Common.{sym, ap, ◌∙◌, arith, length-drop}, proofs.lemmas.Fmt.{decimal_digit, decimal_step}}
use Rattle.std.proofs.lemmas.List.{take_all, take_more, take-append-drop}

-- a text is its first bytes and the others
pub number_ends : (t : List ℕ) (i : ℕ) → i ≤ length t → t ≡ take i t ++ take (length t - i) (drop i t)
number_ends t i within = sym (take-append-drop i t) ∙ ap (λ l. take i t ++ l) (sym (take_all (length t - i) (drop i t) (let n = length-drop i t in omega (arith, n))))

-- a first digit
pub number_begins : (t : List ℕ) (d : ℕ) → 0 < length t → get_or t 0 0 ≡ 48 + d → d < 10 → take 1 t ≡ decimal d
number_begins t d some is small = take_more t 0 0 some ∙ ap (λ x. x ∷ []) is ∙ sym (decimal_digit d small)

-- a zero alone
pub number_zero : (t : List ℕ) → 0 < length t → get_or t 0 0 ≡ 48 → t ≡ decimal 0 ++ take (length t - 1) (drop 1 t)
number_zero t some is = number_ends t 1 some ∙ ap (λ l. l ++ take (length t - 1) (drop 1 t)) (number_begins t 0 some is (omega arith))

-- one more digit
pub number_more : (t : List ℕ) (i n d : ℕ) → i < length t → get_or t i 0 ≡ 48 + d → d < 10 → 0 < n → n * 10 + d < 2 ^ 64 → take i t ≡ decimal n → take (i + 1) t ≡ decimal (n * 10 + d)
number_more t i n d within is small some fits so_far =
    let last : (n * 10 + d) % 10 ≡ d = omega arith in
    search (rules, take_more, decimal_step)
