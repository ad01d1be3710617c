-- Items and entries of values and of sums of terms.
use Rattle.std.proofs.Common.{◌≡◌, inl, inr, ℕ, ◌+◌, ◌≤◌, max, arith, false, List, [], ◌∷◌, ◌++◌, None, refl, sym, subst, ◌∙◌}
use Rattle.std.proofs.lemmas.Str.{IsUtf8-string_bytes}
use Rattle.yq_core.specs.Tree.{Node, alias, scalar, list}
use Rattle.yq_flow_edits.specs.Valued.{IsValueTree, AreValueTrees}
use Rattle.yq_planner.{specs.ListSizes.HasSize, specs.declared.updating.list_size.ListSize.ListSize}
use Rattle.yq_semantics.{specs.Places.FoundPlace, specs.Program.{Term, PathStep, key, index, each}}
use Rattle.yq_semantics.{specs.RightValues.{as_items, right_value, sum}, specs.Sizes.items_in, specs.View.program_step}
use Rattle.yq_expr.{specs.SumSizes.{GivesSized, ItemsOfSize}, specs.Oversized.{GiveItems, HaveUtf8Keys}}
use Rattle.yq_expr.specs.declared.sizes.sum_sizes.SumSize.{SumSize}
use Rattle.yq_eval.{specs.PlaceView.{missing_link, missing_of}, specs.declared.matching.place.Missing.Missing}
use Rattle.yq_eval.specs.declared.matching.place.Missing.TheFolds.{fold-roll-Missing, ind-Missing, map-Missing}
use Rattle.yq_eval.specs.declared.matching.place.Missing.TheOpen.{Missing-F}
use Rattle.yq_core.specs.Tree as tree
use Rattle.yq_semantics.specs.declared.program.PathStep as program

-- what a list gets from a valid value is valid
pub valid_items : (v : Node) → IsValueTree v → AreValueTrees false (as_items v)
valid_items (alias n) h = absurd h
valid_items (scalar a k t) h = (refl, h, tt)
valid_items (list a cs) h = h.1
valid_items (tree.map a cs) h = (refl, h, tt)

-- a list has as many items and entries at least after it got a value as are in that
pub added_items : (v : Node) → items_in v ≤ items_in (list None (as_items v))
added_items (alias n) = omega arith
added_items (scalar a k t) = omega arith
added_items (list a cs) = omega arith
added_items (tree.map a cs) = omega arith

-- a size with as many items and entries as are known of a value
pub more_items : (v : Node) (size more : ListSize) (count : ℕ) → HasSize (list None (as_items v)) size → count ≤ items_in v → more.depth ≡ size.depth → more.items ≡ max size.items count →
    HasSize (list None (as_items v)) more
more_items v size more count h most deep items = record {
  label = h.label;
  first = h.first;
  others = h.others;
  is = h.is;
  fit = h.fit;
  deep = deep ∙ h.deep;
  many = omega (arith, most, added_items v, h.many, items);
}

-- ---- items and entries of the sums of terms, from the first of places

module _ (doc : ℕ) (right : List Term) where
  pub none_given : (ps : List FoundPlace) → GiveItems doc right ps 0
  none_given [] = refl
  none_given (p ∷ ps) = inl refl

  pub fewer_given : (ps : List FoundPlace) (n k : ℕ) → GiveItems doc right ps n → k ≤ n → GiveItems doc right ps k
  fewer_given [] n k is h = omega (arith, is, h)
  fewer_given (p ∷ ps) n k (inl is) h = inl (omega (arith, is, h))
  fewer_given (p ∷ ps) n k (inr (v, m, found, valid, others, most)) h = inr (v, m, found, valid, others, omega (arith, most, h))

  -- those of a sum of known size at one place more
  pub one_given : (p : FoundPlace) (ps : List FoundPlace) (size : SumSize) (n m : ℕ) → ItemsOfSize size n → GivesSized (right_value doc right p) size → GiveItems doc right ps m →
      GiveItems doc right (p ∷ ps) (n + m)
  one_given p ps size n m items g h = let w = items (right_value doc right p) g in inr (w.0, m, w.1, w.2, h, omega (arith, w.3))

  -- what was counted so far, where no more is
  pub given_so_far : (ps qs : List FoundPlace) (count : ℕ) → ((m : ℕ) → GiveItems doc right qs m → GiveItems doc right ps (count + m)) → GiveItems doc right ps count
  given_so_far ps qs count so_far = fewer_given ps (count + 0) count (so_far 0 (none_given qs)) (omega arith)

-- ---- keys, which are UTF-8, as each text of the code

step_keys : (s : program.PathStep) → HaveUtf8Keys (program_step s ∷ [])
step_keys (program.TheVariants.Key k) = (IsUtf8-string_bytes k, tt)
step_keys (program.TheVariants.Index i) = tt
step_keys program.TheVariants.Each = tt

join_keys : (ss ts : List PathStep) → HaveUtf8Keys ss → HaveUtf8Keys ts → HaveUtf8Keys (ss ++ ts)
join_keys [] ts h k = k
join_keys (key name ∷ ss) ts h k = (h.0, join_keys ss ts h.1 k)
join_keys (index i ∷ ss) ts h k = join_keys ss ts h k
join_keys (each ∷ ss) ts h k = join_keys ss ts h k

abbrev MissKeys : Missing → Type 0
MissKeys m = HaveUtf8Keys (missing_of m)

-- those of a link, with those before it
abbrev LinkKeys : Missing-F Missing → Type 0
LinkKeys x = HaveUtf8Keys (missing_link (map-Missing Missing (List PathStep) missing_of x))

link_keys : (y : Missing-F ((m : Missing) × MissKeys m)) → LinkKeys (map-Missing ((m : Missing) × MissKeys m) Missing (λ e. e.0) y)
link_keys Missing-F.Nothing = tt
link_keys (Missing-F.Further front last) = join_keys (missing_of front.now.0) (program_step last.now ∷ []) front.now.1 (step_keys last.now)

-- those of missing steps
pub missing_keys : (m : Missing) → HaveUtf8Keys (missing_of m)
missing_keys = ind-Missing MissKeys (λ x y is. subst HaveUtf8Keys (sym (fold-roll-Missing (List PathStep) missing_link x)) (subst LinkKeys is (link_keys y)))
