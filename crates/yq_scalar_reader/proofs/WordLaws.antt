-- A plain scalar goes on over one space before a letter or digit.
use Rattle.std.proofs.Common.{rules, ◌≡◌, ℕ, Bool, true, false, eqb, List, ◌∷◌, Option, Some, refl, arith}
use Rattle.std.{proofs.lemmas.Bool.{false≢true, and_parts}, proofs.Math.Bool.and-false}
use Rattle.yq_core.{specs.Plain.is_flow_indicator, specs.PlainReading.across, specs.Text.{is_white, is_feed, is_return}}
use Rattle.yq_core.specs.Runs.{is_word_byte}
use Rattle.yq_scalar_reader.specs.Words.{begins_word}

no_white : (c : ℕ) → is_word_byte c ≡ true → is_white c ≡ false
no_white c h = grind arith

no_feed : (c : ℕ) → is_word_byte c ≡ true → is_feed c ≡ false
no_feed c h = grind arith

no_return : (c : ℕ) → is_word_byte c ≡ true → is_return c ≡ false
no_return c h = grind arith

no_comment : (c : ℕ) → is_word_byte c ≡ true → eqb c 35 ≡ false
no_comment c h = grind arith

no_colon : (c : ℕ) → is_word_byte c ≡ true → eqb c 58 ≡ false
no_colon c h = grind arith

no_comma : (c : ℕ) → is_word_byte c ≡ true → eqb c 44 ≡ false
no_comma c h = grind arith

no_bracket : (c : ℕ) → is_word_byte c ≡ true → (eqb c 91 ≡ false) × (eqb c 93 ≡ false)
no_bracket c h = (grind arith, grind arith)

no_brace : (c : ℕ) → is_word_byte c ≡ true → (eqb c 123 ≡ false) × (eqb c 125 ≡ false)
no_brace c h = (grind arith, grind arith)

no_indicator : (c : ℕ) → is_word_byte c ≡ true → is_flow_indicator c ≡ false
no_indicator c h = rw (no_comma c h, (no_bracket c h).0, (no_bracket c h).1, (no_brace c h).0, (no_brace c h).1) refl

goes_on : (flow : Bool) (spaces : Option ℕ) (c : ℕ) (bs : List ℕ) → is_word_byte c ≡ true → across flow spaces true (c ∷ bs) ≡ Some 0
unfolding across
goes_on flow spaces c bs h = rw (no_white c h, no_feed c h, no_return c h, no_comment c h, no_colon c h, no_indicator c h, and-false) refl

after_space : (flow : Bool) (spaces : Option ℕ) (c : ℕ) (bs : List ℕ) → is_word_byte c ≡ true → across flow spaces true (32 ∷ c ∷ bs) ≡ Some 1
unfolding across
after_space flow spaces c bs h = rw (goes_on flow spaces c bs h) refl

pub across_word : (flow : Bool) (spaces : Option ℕ) (t : List ℕ) → begins_word t ≡ true → across flow spaces true t ≡ Some 1
across_word flow spaces t h = search (rules, false≢true, and_parts, after_space)
