-- The items and entries of the code, by their index.
use Rattle.std.proofs.Common.{◌≡◌, ℕ, zero, suc, ◌+◌, ◌<◌, ◌≤◌, Bool, true, false, ltb, List, [], ◌∷◌, length, drop, get_or, Option, Some}
use Rattle.std.proofs.Common.{None, refl, sym, ap, ◌∙◌, inl, inr, subst, arith}
use Rattle.std.proofs.lemmas.Bool.{false≢true, ltb-true, lt-ltb, cases_lt}
use Rattle.yq_core.{specs.declared.inline.Inline.Inline, specs.Entries.{end_of, start_of}, specs.View.{inline_view, items_end, entries_end}}
use Rattle.yq_core.{proofs.PathLoops.Field, specs.PlainText.begins_marker, specs.Places.Parts}
use Rattle.yq_batch.{specs.LeftItems.{GoesUpTo, count_parts, place_of_part}, specs.LeftPlaces.{GoesWith, IsLeftPlace}}
use Rattle.yq_batch.specs.declared.left.LeftPlace.{LeftPlace}

-- The items or entries of a list of the code are parts: each in its place (own).
pub record AreParts (A : Type 0) (parts : List A → Parts) (place : A → ℕ × ℕ) : Type 0 where
  none : (i : ℕ) → place_of_part i (parts []) ≡ None
  first : (x : A) (xs : List A) → place_of_part zero (parts (x ∷ xs)) ≡ Some (place x)
  later : (x : A) (xs : List A) (i : ℕ) → place_of_part (suc i) (parts (x ∷ xs)) ≡ place_of_part i (parts xs)
  count : count_parts (parts []) ≡ 0
  more : (x : A) (xs : List A) → count_parts (parts (x ∷ xs)) ≡ suc (count_parts (parts xs))

pub items_are : AreParts Inline items_end (λ (x : Inline). (start_of (inline_view x), end_of (inline_view x)))
items_are = record { none = λ i. refl; first = λ x xs. refl; later = λ x xs i. refl; count = refl; more = λ x xs. refl }

pub entries_are : AreParts Field entries_end (λ (x : Field). (x.1.start, end_of (inline_view x.2)))
entries_are = record { none = λ i. refl; first = λ x xs. refl; later = λ x xs i. refl; count = refl; more = λ x xs. refl }

module _ (A : Type 0) (parts : List A → Parts) (place : A → ℕ × ℕ) (are : AreParts A parts place) where
  part_at : (xs : List A) (i : ℕ) (d : A) → i < length xs → place_of_part i (parts xs) ≡ Some (place (get_or xs i d))
  part_at [] i d lt = absurd (omega (arith, lt))
  part_at (x ∷ xs) zero d lt = are.first x xs
  part_at (x ∷ xs) (suc i) d lt = are.later x xs i ∙ part_at xs i d (omega (arith, lt))

  no_part : (xs : List A) (i : ℕ) → length xs ≤ i → place_of_part i (parts xs) ≡ None
  no_part [] i h = are.none i
  no_part (x ∷ xs) zero h = absurd (omega (arith, h))
  no_part (x ∷ xs) (suc i) h = are.later x xs i ∙ no_part xs i (omega (arith, h))

  pub part_there : (xs all : List A) (i : ℕ) (x : A) (p : ℕ × ℕ) → xs ≡ all → true ≡ ltb i (length xs) → x ≡ get_or xs i x → p ≡ place x → Some p ≡ place_of_part i (parts all)
  part_there xs all i x p same lt at is =
      ap (λ (q : ℕ × ℕ). Some q) (is ∙ ap place at) ∙ (sym (part_at xs i x (ltb-true i (length xs) (sym lt))) ∙ ap (λ (l : List A). place_of_part i (parts l)) same)

  pub part_missing : (xs all : List A) (i : ℕ) → xs ≡ all → false ≡ ltb i (length xs) → None ≡ place_of_part i (parts all)
  part_missing xs all i same ge = elim (cases_lt i (length xs)) [
    | inl lt ↦ absurd (false≢true (ge ∙ lt-ltb i (length xs) lt))
    | inr le ↦ sym (no_part xs i le) ∙ ap (λ (l : List A). place_of_part i (parts l)) same
  ]

  pub parts_counted : (xs : List A) → length xs ≡ count_parts (parts xs)
  parts_counted [] = sym are.count
  parts_counted (x ∷ xs) = ap suc (parts_counted xs) ∙ sym (are.more x xs)

-- ---- what goes

-- up to another one
pub goes_up_to : (t : List ℕ) (parts : Parts) (i j : ℕ) (before : Option Bool) (start finish next other : ℕ) (marked : Bool) (x : LeftPlace) →
    place_of_part i parts ≡ Some (start, finish) → place_of_part (i + 1) parts ≡ Some (next, other) → i < j →
    (i + 1 < j → begins_marker (drop next t) ≡ marked) → (i + 1 ≡ j → before ≡ Some marked) → GoesUpTo t start next marked x.start x.end x.after → IsLeftPlace t parts i j before x
goes_up_to t parts i j before start finish next other marked x here there within as_read others goes =
    let one : i + 1 ≡ suc i = omega arith in
    subst (λ (o : Option Bool). GoesWith t parts i j before o x) (sym goes.2) (record {
      here = (start, finish);
      next = (next, other);
      here_at = here;
      next_at = ap (λ (n : ℕ). place_of_part n parts) (sym one) ∙ there;
      within = within;
      goes = goes;
      as_read = λ less. as_read (omega (arith, less));
      others = λ same. others (one ∙ same);
    })
