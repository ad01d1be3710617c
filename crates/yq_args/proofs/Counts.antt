-- Texts of decimal digits.
use Rattle.std.proofs.Common.{rules, ◌≡◌, ◌≢◌, ◌&&◌, ◌<◌, ◌^◌, ℕ, Bool, true, List, length, nat_lt, None, Result, arith, get_or}
use Rattle.std.{proofs.lemmas.Bool.and_from, specs.Result.result_ok, specs.Str.all_ascii_digits}
use Rattle.std.specs.Str.Parse.{ParsesUnsigned, digits_value}
use Rattle.std.proofs.lemmas.Str.Parse.{IsNumeralModel, numerals_by_value, tells_all_ascii_digits, parse_plain, not_in_digits}
use Rattle.std.proofs.lemmas.Bool.Decides.{nat_tests}
use Rattle.yq_args.specs.Asked.{count_in}

lt_true : (a b : ℕ) → a < b → nat_lt a b ≡ true
lt_true a b h = grind (arith, nat_tests)

true_lt : (a b : ℕ) → nat_lt a b ≡ true → a < b
true_lt a b h = grind (arith, nat_tests)

own : IsNumeralModel (λ ds. all_ascii_digits ds ≡ true) (digits_value 10)
own = numerals_by_value _ tells_all_ascii_digits

-- whether a text writes a number of 64 bits
abbrev is_count : List ℕ → Bool
is_count text = all_ascii_digits text && (nat_lt 0 (length text) && nat_lt (digits_value 10 text) (2 ^ 64))

-- the test tells
is_count-true : (text : List ℕ) → all_ascii_digits text ≡ true → 0 < length text → digits_value 10 text < 2 ^ 64 → is_count text ≡ true
is_count-true text d l v = and_from _ _ d (and_from _ _ (lt_true 0 (length text) l) (lt_true (digits_value 10 text) (2 ^ 64) v))

true_is_count : (text : List ℕ) → is_count text ≡ true → (all_ascii_digits text ≡ true) × (0 < length text) × (digits_value 10 text < 2 ^ 64)
true_is_count text e = search rules

-- a text is read as the number that it writes, where no plus is first
pub count_parsed : {E : Type 0} (text : List ℕ) (r : Result ℕ E) → ParsesUnsigned 64 10 text r → get_or text 0 0 ≢ 43 → result_ok r ≡ count_in text
count_parsed text r parses plain = search (rules, parse_plain, own, is_count-true, true_is_count)

-- a text that begins with a plus writes none
pub no_count : (text : List ℕ) → get_or text 0 0 ≡ 43 → None ≡ count_in text
no_count text plus = search (rules, true_is_count, not_in_digits, own)
