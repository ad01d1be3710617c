-- Aliases and the anchors before them.
use Rattle.std.proofs.Common.{◌≡◌, ℕ, List, ◌∷◌, Option, Some, is_some, Bool, true, ◌||◌, ◌&&◌, cond, sym, ap, ◌∙◌, bytes_eq, rules}
use Rattle.std.{proofs.lemmas.Bool.false≢true, proofs.lemmas.Map.Text.btree_map_updates_str, proofs.lemmas.Slice.Eq.bytes_eq-Decides}
use Rattle.std.{specs.BTreeMap.BTreeMap, specs.Cmp.Lexicographic.slice_cmp, specs.List.list_any, specs.Ordering.nat_cmp}
use denote.Bor.{Bor}
use Rattle.yq_core.specs.Anchors.{Name, Anchors, Refers}
use Rattle.yq_outline.specs.LinesReading.{are_bound}
use Rattle.std.specs.BTreeMap as tree

-- a name is among the keys
abbrev pub has : {X : Type 0} → BTreeMap (Bor (List ℕ)) X → List ℕ → Bool
has m q = is_some (tree.get_by (λ k. slice_cmp nat_cmp q k.now) m)

-- the names that are left are asked of where those are known that are keys
pub record Known {X : Type 0} (m : BTreeMap (Bor (List ℕ)) X) (names : List Name) (all : Bool) : Type 0 where
  pub known : List (List ℕ)
  pub same : (q : List ℕ) → has m q ≡ list_any (bytes_eq q) known
  pub so_far : all ≡ are_bound known names

pub equal_back : (a b : List ℕ) → bytes_eq a b ≡ bytes_eq b a
equal_back a b = search (rules, bytes_eq, bytes_eq-Decides, false≢true)

some_or : {X : Type 0} (b : Bool) (v : X) (o : Option X) → is_some (cond b (Some v) o) ≡ (b || is_some o)
some_or b v o = search rules

-- an anchor is known from there on
pub anchor_known : {X : Type 0} (m n : BTreeMap (Bor (List ℕ)) X) (a : List ℕ) (v : X) (names : List Name) (all : Bool) →
    tree.UpdatesBy (λ x y. slice_cmp nat_cmp x.now y.now) (λ k. slice_cmp nat_cmp a k.now) m n (Some v) → Known m (Anchors a ∷ names) all → Known n names all
anchor_known m n a v names all h k = record {
  known = a ∷ k.known;
  same = λ q. ap is_some (btree_map_updates_str a m n (Some v) h q) ∙ (some_or (bytes_eq a q) v _ ∙ (λ i. equal_back a q i || k.same q i));
  so_far = k.so_far;
}

-- an alias of a known anchor
pub alias_known : {X : Type 0} (m : BTreeMap (Bor (List ℕ)) X) (a : List ℕ) (names : List Name) (all : Bool) → true ≡ has m a → Known m (Refers a ∷ names) all → Known m names all
alias_known m a names all h k = record { known = k.known; same = k.same; so_far = k.so_far ∙ ap (λ b. b && are_bound k.known names) (sym (k.same a) ∙ sym h) }
