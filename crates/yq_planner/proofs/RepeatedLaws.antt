-- Ints and texts that are added several times: by their numbers, and as one text.
use Rattle.std.proofs.Common.{◌≡◌, ℕ, zero, suc, ◌-◌, ◌<◌, ◌^◌, Bool, true, false, List, ◌++◌, Option, Some, None, ℤ, pos, negsuc, ◌+ℤ◌}
use Rattle.std.proofs.Common.{neg_ℤ, if◌then◌else◌, FitsSigned, rules, refl, sym, ap, ◌∙◌, subst, arith, append-nil, append_assoc}
use Rattle.std.{specs.Fmt.{decimal, signed_decimal}, proofs.lemmas.Fmt.decimal_is_IsNumeral, proofs.lemmas.Bool.{lt-ltb, ltb-true}}
use Rattle.std.{proofs.lemmas.Int.to_z-of_z, proofs.lemmas.Option.same_Some}
use mir.Syntax.{w64}
use mir.Val.{to_z, of_z}
use Rattle.yq_core.{specs.Answers.◌>>=◌, specs.Numbers.{is_i64, unsigned, minus}, specs.SchemaReading.{as_i64, int_number, int_value}}
use Rattle.yq_core.{specs.Tree.{Node, scalar}, specs.declared.kind.Kind.TheVariants.{Int, Text}}
use Rattle.yq_planner.{specs.Repeated.{int_of, number_times, sum_times, text_times}, proofs.SubstituteLaws.deeper}
use Rattle.yq_scalar_reader.proofs.IntegerLaws.{value_again}
use Rattle.yq_semantics.{specs.Judgement.{and_then, gives, refuses}, specs.RightValues.{int_sum, sum}}
use Rattle.yq_semantics.specs.declared.refusal.Refusal.TheVariants.{IntegerRange}
use Rattle.yq_core.specs.Numbers as numbers

-- ---- ints

-- a number of 64 bits is read as it is written
int_read : (z : ℤ) → is_i64 z ≡ true → int_value (signed_decimal z) ≡ Some z
int_read (pos n) h =
    let small = deeper n (2 ^ 63) h in
    let written = decimal_is_IsNumeral n (omega (arith, small)) in
    value_again (decimal n) (pos n) (numbers.decimal unsigned (decimal n), refl, written.0, ap pos (sym written.1)) h
int_read (negsuc n) h =
    let small = deeper n (2 ^ 63) h in
    let written = decimal_is_IsNumeral (suc n) (omega (arith, small)) in
    value_again (signed_decimal (negsuc n)) (negsuc n) (numbers.decimal minus (decimal (suc n)), refl, written.0, ap (λ k. neg_ℤ (pos k)) (sym written.1)) h

-- the sum of two ints of known numbers
both_ints : (t u : List ℕ) (m n : ℤ) → int_value t ≡ Some m → int_value u ≡ Some n → sum (scalar None Int t) (scalar None Int u) ≡ int_sum (Some m) (Some n)
both_ints t u m n a b = ap (λ o. int_sum o (int_value u)) a ∙ ap (int_sum (Some m)) b

-- the first sum, and those after it
after_first : (k : ℕ) (u : List ℕ) (n s : ℤ) (c : Bool) →
    (c ≡ true → sum_times k (scalar None Int u) (scalar None Int (signed_decimal s)) ≡ int_of (number_times k n s)) →
    and_then (sum_times k (scalar None Int u)) (if c then gives (scalar None Int (signed_decimal s)) else refuses IntegerRange) ≡
    int_of (if c then number_times k n s else None)
after_first k u n s true h = h refl
after_first k u n s false h = refl

written_times : (k : ℕ) (u : List ℕ) (m n : ℤ) → is_i64 m ≡ true → int_value u ≡ Some n →
    sum_times k (scalar None Int u) (scalar None Int (signed_decimal m)) ≡ int_of (number_times k n m)
written_times zero u m n fits b = refl
written_times (suc k) u m n fits b =
    ap (and_then (sum_times k (scalar None Int u))) (both_ints (signed_decimal m) u m n (int_read m fits) b)
    ∙ after_first k u n (m +ℤ n) (is_i64 (m +ℤ n)) (λ e. written_times k u (m +ℤ n) n e b)

-- an int after another one was added several times
ints_times : (k : ℕ) (t u : List ℕ) (m n : ℤ) → 0 < k → int_value t ≡ Some m → int_value u ≡ Some n →
    sum_times k (scalar None Int u) (scalar None Int t) ≡ int_of (number_times k n m)
ints_times zero t u m n some a b = absurd (omega (arith, some))
ints_times (suc k) t u m n some a b =
    ap (and_then (sum_times k (scalar None Int u))) (both_ints t u m n a b)
    ∙ after_first k u n (m +ℤ n) (is_i64 (m +ℤ n)) (λ e. written_times k u (m +ℤ n) n e b)

-- what is said of numbers of 64 bits
number_fits : (z : ℤ) → is_i64 z ≡ true → FitsSigned w64 z
number_fits z h = search (rules, ltb-true)

pub fits_number : (z : ℤ) → FitsSigned w64 z → is_i64 z ≡ true
fits_number z h = search (rules, lt-ltb)

-- the number of a text has 64 bits
value_fits : (o : Option ℤ) (z : ℤ) → (o >>= as_i64) ≡ Some z → is_i64 z ≡ true
value_fits None z h = absurd (cc)
value_fits (Some y) z h = go (is_i64 y) refl h
  where
    go : (b : Bool) → is_i64 y ≡ b → (if b then Some y else None) ≡ Some z → is_i64 z ≡ true
    go true e k = subst (λ x. is_i64 x ≡ true) (same_Some y z k) e
    go false e k = absurd (cc)

-- and the number of a sum
times_fit : (k : ℕ) (n m z : ℤ) → is_i64 m ≡ true → number_times k n m ≡ Some z → is_i64 z ≡ true
times_fit zero n m z fits h = subst (λ x. is_i64 x ≡ true) (same_Some m z h) fits
times_fit (suc k) n m z fits h = go (λ e l. times_fit k n (m +ℤ n) z e l) (is_i64 (m +ℤ n)) refl h
  where
    go : (is_i64 (m +ℤ n) ≡ true → number_times k n (m +ℤ n) ≡ Some z → is_i64 z ≡ true) → (b : Bool) → is_i64 (m +ℤ n) ≡ b →
        (if b then number_times k n (m +ℤ n) else None) ≡ Some z → is_i64 z ≡ true
    go below true e l = below e l
    go below false e l = absurd (cc)

-- as the code has them
pub ints_added : (k : ℕ) (t u : List ℕ) (m n z : ℤ) (v : Node) → 0 < k → int_value t ≡ Some m → int_value u ≡ Some n →
    number_times k (to_z w64 (of_z w64 n)) (to_z w64 (of_z w64 m)) ≡ Some z → v ≡ scalar None Int (signed_decimal (to_z w64 (of_z w64 z))) →
    sum_times k (scalar None Int u) (scalar None Int t) ≡ gives v
ints_added k t u m n z v some a b h is =
    let fits = value_fits (int_number t) m a in
    let first = to_z-of_z w64 m (number_fits m fits) in
    let added = to_z-of_z w64 n (number_fits n (value_fits (int_number u) n b)) in
    let sum : number_times k n m ≡ Some z = ap (λ x. number_times k x m) (sym added) ∙ (ap (number_times k (to_z w64 (of_z w64 n))) (sym first) ∙ h) in
    let total = to_z-of_z w64 z (number_fits z (times_fit k n m z fits sum)) in
    ints_times k t u m n some a b
    ∙ (ap int_of sum ∙ (ap (λ x. gives (scalar None Int (signed_decimal x))) (sym total) ∙ ap gives (sym is)))

-- a number after one more sum
pub number_more : (k : ℕ) (n m s : ℤ) (all : Option ℤ) → 0 < k → is_i64 (m +ℤ n) ≡ true → s ≡ m +ℤ n → number_times k n m ≡ all → number_times (k - 1) n s ≡ all
number_more k n m s all some fits is h = one k (k - 1) (omega (arith, some)) h
  where
    one : (k left : ℕ) → k ≡ suc left → number_times k n m ≡ all → number_times left n s ≡ all
    one k left e so_far =
        ap (number_times left n) is
        ∙ (sym (ap (λ (c : Bool). if c then number_times left n (m +ℤ n) else None) fits) ∙ subst (λ (j : ℕ). number_times j n m ≡ all) e so_far)

-- ---- texts

-- a text after another one was added several times
pub texts_times : (k : ℕ) (t u : List ℕ) → sum_times k (scalar None Text u) (scalar None Text t) ≡ gives (scalar None Text (t ++ text_times k u))
texts_times zero t u = ap (λ x. gives (scalar None Text x)) (sym (append-nil t))
texts_times (suc k) t u = texts_times k (t ++ u) u ∙ ap (λ x. gives (scalar None Text x)) (append_assoc t u (text_times k u))
