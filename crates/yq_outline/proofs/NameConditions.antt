-- What is asked of anchors and aliases, as a test and as a fact.
use Rattle.std.{proofs.Common.{◌≡◌, ℕ, List, [], ◌∷◌, true, Option, refl, inl, inr, ⊎_elim, bytes_eq, rules}, proofs.Math.Bool.or-true}
use Rattle.std.{proofs.lemmas.Bool.{and_parts, and_from, or_cases}, proofs.lemmas.Slice.Eq.bytes_eq-Decides, specs.List.list_any}
use Rattle.yq_core.{specs.Tree.Node, specs.Anchors.{Name, Anchors, Refers, IsAmong, AreBound}}
use Rattle.yq_outline.specs.LineAnchors.{MayTake, HaveOneAnchorEach}
use Rattle.yq_outline.{specs.LinesReading.{may_take, is_free, have_one_anchor_each, are_bound}, specs.Outline.{LineMark, Line}}

take_is : (m : LineMark) (a : Option (List ℕ)) (h : Option Node) → may_take m a h ≡ true → MayTake m a h
take_is m a h h1 = search rules

is_take : (m : LineMark) (a : Option (List ℕ)) (h : Option Node) → MayTake m a h → may_take m a h ≡ true
is_take m a h h1 = search rules

pub anchors_are : (ls : List Line) → have_one_anchor_each ls ≡ true → HaveOneAnchorEach ls
anchors_are [] e = tt
anchors_are (l ∷ ls) e = let p = and_parts (is_free l.anchor ls) (have_one_anchor_each ls) e in (search (rules, take_is), anchors_are ls p.1)

pub are_anchors : (ls : List Line) → HaveOneAnchorEach ls → have_one_anchor_each ls ≡ true
are_anchors [] h = refl
are_anchors (l ∷ ls) h = and_from (is_free l.anchor ls) (have_one_anchor_each ls) (search (rules, is_take)) (are_anchors ls h.1)

-- aliases
among_is : (name : List ℕ) (known : List (List ℕ)) → list_any (bytes_eq name) known ≡ true → IsAmong name known
among_is name [] e = cc
among_is name (k ∷ ks) e = ⊎_elim {0, 0, 0} (λ a. inl ((bytes_eq-Decides name k).0 a)) (λ b. inr (among_is name ks b)) (or_cases (bytes_eq name k) (list_any (bytes_eq name) ks) e)

is_among : (name : List ℕ) (known : List (List ℕ)) → IsAmong name known → list_any (bytes_eq name) known ≡ true
is_among name [] h = absurd h
is_among name (k ∷ ks) h = ⊎_elim {0, 0, 0} (λ a. rw (same name k a) refl) (λ b. rw (is_among name ks b) (or-true (bytes_eq name k))) h
  where
    same : (a b : List ℕ) → a ≡ b → bytes_eq a b ≡ true
    same a b e = (bytes_eq-Decides a b).1 e

pub bound_are : (known : List (List ℕ)) (names : List Name) → are_bound known names ≡ true → AreBound known names
bound_are known [] e = tt
bound_are known (Anchors a ∷ names) e = bound_are (a ∷ known) names e
bound_are known (Refers a ∷ names) e = let p = and_parts (list_any (bytes_eq a) known) (are_bound known names) e in (among_is a known p.0, bound_are known names p.1)

pub are_bound_of : (known : List (List ℕ)) (names : List Name) → AreBound known names → are_bound known names ≡ true
are_bound_of known [] h = refl
are_bound_of known (Anchors a ∷ names) h = are_bound_of (a ∷ known) names h
are_bound_of known (Refers a ∷ names) h = and_from (list_any (bytes_eq a) known) (are_bound known names) (is_among a known h.0) (are_bound_of known names h.1)
