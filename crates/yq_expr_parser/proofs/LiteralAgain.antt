-- Scalars and literals of the grammar are read again.
use Rattle.std.{proofs.Common.{◌≡◌, ℕ, zero, suc, true, false, List, [], ◌∷◌, map, Some, None, refl, inl, inr, rules}, specs.Prelude.codes}
use Rattle.std.{proofs.lemmas.Bool.{false≢true, cases_Bool}, proofs.lemmas.Slice.Eq.bytes_eq-Decides}
use Rattle.yq_core.{specs.Scalar.ScalarText, specs.Tree.Node, specs.SchemaReading.is_one_of}
use Rattle.yq_semantics.specs.Tokens.{Token, symbol, scalar_words}
use Rattle.yq_semantics.specs.Grammar.{Production, HasSymbol, IsPlainLiteral, AreListed, IsField, IsLiteral}
use Rattle.yq_expr_parser.specs.Lexing.{after, taken, as_step}
use Rattle.yq_expr_parser.specs.Parse.{Parse, after_mark, word_at, parse_scalar, listed_at, field_at, literal_at, begins_left}
use Rattle.yq_expr_parser.{proofs.Keys.distinct_again, proofs.Readers.Lessens, proofs.LoopSteps.{item_lessens, field_lessens}}
use Rattle.yq_expr_parser.proofs.FormsAgain.{after_again, Again, parted_again, Anything}

word_again : (w : List ℕ) (r : List Token) → is_one_of scalar_words w ≡ true → word_at (symbol w ∷ r) ≡ Some (w, r)
word_again w r h = search (rules, cases_Bool, bytes_eq-Decides, false≢true)

pub scalar_again : Again parse_scalar IsPlainLiteral Anything
unfolding parse_scalar
scalar_again s ts rest h f = search rules

-- a word for a scalar is none of these marks
word_is_none : (w : List ℕ) (r : List Token) (s : List ℕ) → is_one_of scalar_words w ≡ true → is_one_of scalar_words s ≡ false → after s (symbol w ∷ r) ≡ None
word_is_none w r s h not_word = search (rules, cases_Bool, bytes_eq-Decides, false≢true)

-- no mark or word but those of scalars begins a scalar
scalar_begins : (s : ScalarText) (ts rest : List Token) → IsPlainLiteral s ts rest → (mark : List ℕ) → is_one_of scalar_words mark ≡ false → after mark ts ≡ None
scalar_begins s ts rest h1 mark h2 = search (rules, word_is_none)

scalar_unnamed : (s : ScalarText) (ts rest : List Token) → IsPlainLiteral s ts rest → taken as_step ts ≡ None
scalar_unnamed s ts rest h1 = search rules

-- a literal begins with none of these
pub record BeginsLiteral (ts : List Token) : Type 0 where
  pub item : after (codes "]") ts ≡ None
  pub entry : after (codes "}") ts ≡ None
  pub left : begins_left ts ≡ false

listed_begins : {A : Type 0} (opening closing : List ℕ) (Is : Production A) (xs : List A) (ts rest : List Token) → AreListed opening closing Is xs ts rest → (inner : List Token) × HasSymbol opening ts inner
listed_begins opening closing Is xs ts rest h = search rules

pub literal_begins : (depth : ℕ) (n : Node) (ts rest : List Token) → IsLiteral depth n ts rest → BeginsLiteral ts
unfolding IsLiteral
literal_begins depth n ts rest h1 = search (rules, scalar_begins, scalar_unnamed, listed_begins)

listed_again : {A : Type 0} (opening closing : List ℕ) (at : Parse A) (Is : Production A) → Lessens (after_mark (codes ",") at) → Again at Is Anything
    → ((x : A) (ts rest : List Token) → Is x ts rest → after closing ts ≡ None) → ((r : List Token) → after (codes ",") (symbol closing ∷ r) ≡ None)
    → (xs : List A) (ts rest : List Token) → AreListed opening closing Is xs ts rest → (inner : List Token) × HasSymbol opening ts inner × (listed_at closing at inner ≡ Some (xs, rest))
listed_again opening closing at Is less again front comma [] ts rest h =
    let e = after_again closing (symbol closing ∷ rest) rest refl in
    (symbol closing ∷ rest, h, rw e refl)
listed_again opening closing at Is less again front comma (x ∷ xs) ts rest h =
    let e = after_again closing h.1 rest h.4 in
    let none : after closing h.0 ≡ None = front x h.0 h.3.0 h.3.1 in
    let stops : after (codes ",") h.1 ≡ None = rw h.4 (comma rest) in
    let read = parted_again (codes ",") at Is Anything less again (λ r. tt) (x ∷ xs) h.0 h.1 h.3 tt stops in
    (h.0, h.2, rw (none, read, e) refl)

field_again : {A : Type 0} (at : Parse A) (Is : Production A) → Again at Is Anything → Again (field_at at) (IsField Is) Anything
field_again at Is again e ts rest h f = rw (h.1, again e.1 h.0 rest h.2 f) refl

pub literal_again : (depth : ℕ) → Again (literal_at depth) (IsLiteral depth) Anything
unfolding IsLiteral literal_at
literal_again zero n ts rest h f = rw (scalar_again h.0 ts rest h.2 f, h.1) refl
literal_again (suc depth) n ts rest (inl h) f =
    let none = scalar_begins h.0 ts rest h.2 in
    rw (none (codes "[") refl, none (codes "{") refl, scalar_again h.0 ts rest h.2 f, h.1) refl
literal_again (suc depth) n ts rest (inr (inl h)) f =
    let read = listed_again (codes "[") (codes "]") (literal_at depth) (IsLiteral depth) (item_lessens depth) (literal_again depth)
    (λ x us r is. (literal_begins depth x us r is).item) (λ r. refl) h.0 ts rest h.2 in
    rw (read.1, h.1) (rw read.2 refl)
literal_again (suc depth) n ts rest (inr (inr h)) f =
    let read = listed_again (codes "{") (codes "}") (field_at (literal_at depth)) (IsField (IsLiteral depth)) (field_lessens depth) (field_again (literal_at depth) (IsLiteral depth) (literal_again depth))
    (λ e us r is. rw is.1 refl) (λ r. refl) h.0 ts rest h.3 in
    let differ = distinct_again (map (λ e. e.0) h.0) h.2 in
    rw (read.1, h.1) (rw (read.2, differ) refl)
