-- Unique keys, as a test and as a fact.
use Rattle.std.{proofs.Common.{◌≡◌, ℕ, List, Bool, true, refl, arith, ◌↔◌, ◌≤◌, ◌++◌, length, drop, ◌&&◌, append-nil}, specs.Bool.IsTrue}
use Rattle.std.{proofs.lemmas.Bool.{and_parts, and_from, le-leb}, proofs.lemmas.List.drop_all, specs.Prelude.String}
use Rattle.std.specs.declared.alloc.Global.{Global}
use Rattle.yq_core.specs.Tree.{Node, alias, scalar, list, map, Children, none, child}
use Rattle.yq_core.specs.Keys.{AreDistinct, keys_of, HasUniqueKeys, EachHasUniqueKeys, are_distinct, has_unique_keys, each_has_unique_keys}
use Rattle.yq_core.{specs.declared.piece.Piece.Piece, specs.declared.inline.Inline.Inline, specs.Trees.parts_tree, specs.View.entries_end}
use Rattle.yq_core.proofs.DistinctKeys.{distinct_agrees, distinct_is, is_distinct}
use Rattle.yq_outline.specs.Sound.{are_sound}

mutual
  pub unique_is : (n : Node) → has_unique_keys n ≡ true → HasUniqueKeys n
  unique_is (alias name) e = tt
  unique_is (scalar a k t) e = tt
  unique_is (list a cs) e = each_unique_is cs e
  unique_is (map a cs) e = let p = and_parts (are_distinct (keys_of cs)) (each_has_unique_keys cs) e in (distinct_is (keys_of cs) p.0, each_unique_is cs p.1)

  pub each_unique_is : (cs : Children) → each_has_unique_keys cs ≡ true → EachHasUniqueKeys cs
  each_unique_is none e = tt
  each_unique_is (child label n cs) e = let p = and_parts (has_unique_keys n) (each_has_unique_keys cs) e in (unique_is n p.0, each_unique_is cs p.1)

mutual
  pub is_unique : (n : Node) → HasUniqueKeys n → has_unique_keys n ≡ true
  is_unique (alias name) h = refl
  is_unique (scalar a k t) h = refl
  is_unique (list a cs) h = each_is_unique cs h
  is_unique (map a cs) h = and_from (are_distinct (keys_of cs)) (each_has_unique_keys cs) (is_distinct (keys_of cs) h.0) (each_is_unique cs h.1)

  pub each_is_unique : (cs : Children) → EachHasUniqueKeys cs → each_has_unique_keys cs ≡ true
  each_is_unique none h = refl
  each_is_unique (child label n cs) h = and_from (has_unique_keys n) (each_has_unique_keys cs) (is_unique n h.0) (each_is_unique cs h.1)

-- ---- what is asked of the entries of an inline mapping

abbrev pub Field : Type 0
Field = String Global × Piece × Inline

-- after the last entry the keys are left to ask of
pub entries_left : (d i : ℕ) (es : List Field) (keys : List (List ℕ)) (b all : Bool) → length es ≤ i →
    all ≡ (are_sound d (parts_tree (entries_end (drop i es))) && are_distinct (keys ++ keys_of (parts_tree (entries_end (drop i es))))) → IsTrue b ↔ AreDistinct keys → b ≡ all
entries_left d i es keys b all past is agrees = cc (drop_all i es past, le-leb 0 d (omega arith), append-nil keys, distinct_agrees keys b agrees)
