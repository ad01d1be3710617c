-- The table of the core schema: the kind that is read is the one that the table gives.
use Rattle.std.proofs.Common.{rules, ◌≡◌, ℕ, Bool, true, false, cond, List, Option, Some, is_some, refl, sym, ap, ◌∙◌}
use Rattle.std.{proofs.lemmas.Bool.{false≢true, false_from_ne_true}, specs.List.list_any}
use Rattle.yq_core.{specs.declared.kind.Kind.Kind, specs.Schema.{null_words, bool_words, IsInt, Resolves}}
use Rattle.yq_core.specs.SchemaReading.{is_one_of, int_number, is_int, is_float, resolve}
use Rattle.yq_core.{proofs.WordLaws.{word_takes, word_again, word_fails}, proofs.NumberLaws.{int_takes, int_again, int_has_number}}
use Rattle.yq_core.proofs.FloatLaws.{float_takes, float_again}
use Rattle.yq_core.specs.declared.kind.Kind.TheVariants as kinds

some_of : {A : Type 0} (x : Option A) → is_some x ≡ true → (a : A) × (x ≡ Some a)
some_of x h = search rules

pub is_int_takes : (t : List ℕ) → is_int t ≡ true → IsInt t
is_int_takes t h = let x = some_of (int_number t) (sym (int_has_number t) ∙ h) in (x.0, int_takes t x.0 x.1)

pub is_int_again : (t : List ℕ) → IsInt t → is_int t ≡ true
is_int_again t h = int_has_number t ∙ ap is_some (int_again t h.0 h.1)

-- a text for which a test fails is not what the test tells
fails : {P : Type 0} (b : Bool) → (P → b ≡ true) → b ≡ false → P → ⊥
fails b again e h = false≢true (sym e ∙ again h)

-- what the first of the four rows gives that a text fits, or else the last one
first_row : (P : Kind → Type 0) (a b c d : Bool) → (a ≡ true → P kinds.Null) → (b ≡ true → P kinds.Bool) → (c ≡ true → P kinds.Int) → (c ≡ false → d ≡ true → P kinds.Float) →
    (a ≡ false → b ≡ false → c ≡ false → d ≡ false → P kinds.Text) → P (cond a kinds.Null (cond b kinds.Bool (cond c kinds.Int (cond d kinds.Float kinds.Text))))
first_row P a b c d nulls bools ints floats texts = search rules

pub resolve_takes : (t : List ℕ) → Resolves t (resolve t)
unfolding resolve
resolve_takes t = first_row (Resolves t) (is_one_of null_words t) (is_one_of bool_words t) (is_int t) (is_float t)
    (word_takes null_words t) (word_takes bool_words t) (is_int_takes t) (λ c d. (float_takes t d, fails (is_int t) (is_int_again t) c))
    (λ a b c d. (fails _ (word_again null_words t) a, fails _ (word_again bool_words t) b, fails _ (is_int_again t) c, fails _ (float_again t) d))

-- a text for which a test holds that fails at each word is none of them
no_word : (test : List ℕ → Bool) (words : List (List ℕ)) (t : List ℕ) → list_any test words ≡ false → test t ≡ true → is_one_of words t ≡ false
no_word test words t none h = false_from_ne_true _ (λ e. false≢true (sym (word_fails test words t none (word_takes words t e)) ∙ h))

null_is_no_int : (t : List ℕ) → is_int t ≡ true → is_one_of null_words t ≡ false
unfolding is_int
null_is_no_int t h = no_word is_int null_words t refl h

bool_is_no_int : (t : List ℕ) → is_int t ≡ true → is_one_of bool_words t ≡ false
unfolding is_int
bool_is_no_int t h = no_word is_int bool_words t refl h

null_is_no_float : (t : List ℕ) → is_float t ≡ true → is_one_of null_words t ≡ false
unfolding is_float
null_is_no_float t h = no_word is_float null_words t refl h

bool_is_no_float : (t : List ℕ) → is_float t ≡ true → is_one_of bool_words t ≡ false
unfolding is_float
bool_is_no_float t h = no_word is_float bool_words t refl h

not_so : {P : Type 0} (b : Bool) → (b ≡ true → P) → (P → ⊥) → b ≡ false
not_so b takes no_such = false_from_ne_true b (λ e. no_such (takes e))

pub resolve_again : (t : List ℕ) (k : Kind) → Resolves t k → resolve t ≡ k
unfolding resolve
resolve_again t k h =
    search (rules, word_again, word_fails, is_int_again, null_is_no_int, bool_is_no_int, float_again, null_is_no_float, bool_is_no_float, not_so, is_int_takes, word_takes, float_takes)
