-- The scalars and literals that are read are those of the grammar, and each has a token at least.
use Rattle.std.proofs.Common.{◌≡◌, ℕ, zero, suc, true, List, [], ◌∷◌, length, map, Some, refl, ap, ◌∙◌, subst, inl, inr, arith, rules}
use Rattle.std.{proofs.lemmas.Option.cond_some, specs.Prelude.codes}
use Rattle.yq_core.{specs.Tree.Node, proofs.Bools.bind_some, specs.Keys.are_distinct, specs.SchemaReading.is_one_of}
use Rattle.yq_semantics.specs.Tokens.{Token, symbol, scalar_words}
use Rattle.yq_semantics.specs.Grammar.{Production, HasSymbol, AreParted, IsPlainLiteral, AreListed, IsField, IsScalarNode, IsLiteral}
use Rattle.yq_expr_parser.specs.Lexing.{after, taken, as_number, as_string}
use Rattle.yq_expr_parser.specs.Parse.{Parse, parted_at, word_at, parse_scalar, listed_at, field_at, mapping_of, scalar_node_at, literal_at}
use Rattle.yq_expr_parser.proofs.Keys.{distinct_keys}
use Rattle.yq_expr_parser.proofs.Readers.{either_cases, after_takes, string_takes, number_takes, Takes, Shortens, same_form, parted_takes}
use Rattle.yq_expr_parser.proofs.Readers.{closed_takes, parted_shortens, between_shortens}

word_takes : (ts : List Token) (x : List ℕ × List Token) → word_at ts ≡ Some x → (is_one_of scalar_words x.0 ≡ true) × (ts ≡ symbol x.0 ∷ x.1)
word_takes ts x h = search (rules, either_cases, same_form, after_takes)

pub scalar_takes : Takes parse_scalar IsPlainLiteral
unfolding parse_scalar
scalar_takes ts x h = elim (either_cases (taken as_number ts) h) [
  | inl n ↦ same_form IsPlainLiteral ts n.2 (inr (inl (n.0.0, refl, number_takes ts n.0 n.1)))
  | inr on ↦ elim (either_cases (word_at ts) on.1) [
    | inl w ↦ let is = word_takes ts w.0 w.1 in same_form IsPlainLiteral ts w.2 (inr (inr (w.0.0, refl, is.0, is.1)))
    | inr other ↦
        let s = bind_some (taken as_string ts) other.1 in
        same_form IsPlainLiteral ts s.2 (inl (s.0.0, refl, string_takes ts s.0 s.1))
  ]
]

pub scalar_shortens : Shortens IsPlainLiteral
scalar_shortens s ts rest h = search rules

listed_is : {A : Type 0} (opening closing : List ℕ) (Is : Production A) (xs : List A) (all inner end rest : List Token)
    → HasSymbol opening all inner → AreParted (codes ",") Is xs inner end → HasSymbol closing end rest → AreListed opening closing Is xs all rest
listed_is opening closing Is xs all inner end rest o are c = search rules

listed_takes : {A : Type 0} (opening closing : List ℕ) (at : Parse A) (Is : Production A) → Takes at Is → (all ts : List Token) (x : List A × List Token)
    → HasSymbol opening all ts → listed_at closing at ts ≡ Some x → AreListed opening closing Is x.0 all x.1
listed_takes opening closing at Is takes all ts x o h = elim (either_cases (after closing ts) h) [
  | inl end ↦
      let c : ts ≡ symbol closing ∷ end.0 = after_takes closing ts end.0 end.1 in
      same_form (AreListed opening closing Is) all end.2 (o ∙ ap (λ (r : List Token). symbol opening ∷ r) c)
  | inr on ↦
      let y = closed_takes closing (parted_at (codes ",") at) (AreParted (codes ",") Is) (parted_takes (codes ",") at Is takes) ts x on.1 in
      listed_is opening closing Is x.0 all ts y.0 x.1 o y.1 y.2
]

pub field_takes : {A : Type 0} (at : Parse A) (Is : Production A) → Takes at Is → Takes (field_at at) (IsField Is)
field_takes at Is takes ts x h = search (rules, bind_some, string_takes, after_takes, same_form)

mapping_takes : (depth : ℕ) (all : List Token) (y : List (List ℕ × Node) × List Token) (x : Node × List Token)
    → AreListed (codes "{") (codes "}") (IsField (IsLiteral depth)) y.0 all y.1 → mapping_of y ≡ Some x → IsLiteral (suc depth) x.0 all x.1
unfolding IsLiteral
mapping_takes depth all y x are h =
    let g = cond_some (are_distinct (map (λ e. e.0) y.0)) _ _ h in
    subst (λ (p : Node × List Token). IsLiteral (suc depth) p.0 all p.1) g.1 (inr (inr (y.0, refl, distinct_keys _ g.0, are)))

scalar_node_takes : Takes scalar_node_at IsScalarNode
scalar_node_takes ts x h =
    let s = bind_some (parse_scalar ts) h in
    same_form IsScalarNode ts s.2 (s.0.0, refl, scalar_takes ts s.0 s.1)

pub literal_takes : (depth : ℕ) → Takes (literal_at depth) (IsLiteral depth)
unfolding literal_at IsLiteral
literal_takes zero ts x h = scalar_node_takes ts x h
literal_takes (suc depth) ts x h = elim (either_cases (after (codes "[") ts) h) [
  | inl opened ↦
      let y = bind_some (listed_at (codes "]") (literal_at depth) opened.0) opened.2 in
      same_form (IsLiteral (suc depth)) ts y.2
      (inr (inl (y.0.0, refl, listed_takes (codes "[") (codes "]") (literal_at depth) (IsLiteral depth) (literal_takes depth) ts opened.0 y.0 (after_takes (codes "[") ts opened.0 opened.1) y.1)))
  | inr on ↦ elim (either_cases (after (codes "{") ts) on.1) [
    | inl opened ↦
        let y = bind_some (listed_at (codes "}") (field_at (literal_at depth)) opened.0) opened.2 in
        mapping_takes depth ts y.0 x
        (listed_takes (codes "{") (codes "}") (field_at (literal_at depth)) (IsField (IsLiteral depth))
        (field_takes (literal_at depth) (IsLiteral depth) (literal_takes depth)) ts opened.0 y.0
        (after_takes (codes "{") ts opened.0 opened.1) y.1)
        y.2
    | inr other ↦ inl (scalar_node_takes ts x other.1)
  ]
]

listed_shortens : {A : Type 0} (opening closing : List ℕ) (Is : Production A) → Shortens Is → Shortens (AreListed opening closing Is)
listed_shortens opening closing Is less [] ts rest h = omega (arith, ap length h)
listed_shortens opening closing Is less (x ∷ xs) ts rest h = between_shortens opening closing (AreParted (codes ",") Is) (parted_shortens (codes ",") Is less) (x ∷ xs) ts rest h

pub field_shortens : {A : Type 0} (Is : Production A) → Shortens Is → Shortens (IsField Is)
field_shortens Is less e ts rest h = let one = less e.1 h.0 rest h.2 in omega (arith, ap length h.1)

pub literal_shortens : (depth : ℕ) → Shortens (IsLiteral depth)
unfolding IsLiteral
literal_shortens zero n ts rest h = scalar_shortens h.0 ts rest h.2
literal_shortens (suc depth) n ts rest (inl h) = scalar_shortens h.0 ts rest h.2
literal_shortens (suc depth) n ts rest (inr (inl h)) = listed_shortens (codes "[") (codes "]") (IsLiteral depth) (literal_shortens depth) h.0 ts rest h.2
literal_shortens (suc depth) n ts rest (inr (inr h)) = listed_shortens (codes "{") (codes "}") (IsField (IsLiteral depth)) (field_shortens (IsLiteral depth) (literal_shortens depth)) h.0 ts rest h.3
