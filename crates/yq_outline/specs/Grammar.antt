-- The rules of block nodes (YAML 1.2.2, 8.2).
use Rattle.std.specs.Prelude.{◌≡◌, ℕ, ◌<◌, List, [], ◌∷◌, ◌++◌, Some, None}
use Rattle.yq_core.specs.Tree.{Node, list, map, Children, none, child}
use Rattle.yq_outline.specs.Outline.{Bare, Key, Dash, Line, level, anchored, null_node, label}

mutual
  -- lines are a node's, the first one at this level (8.2.3)
  pub data IsNodeOutline : ℕ → List Line → Node → Type 0 where
    alone : {n : ℕ} {l : Line} {v : Node} → level l ≡ n → l.mark ≡ Bare → l.head ≡ Some v → IsNodeOutline n (l ∷ []) (anchored l.anchor v)
    mapping : {n : ℕ} {l : Line} {k : List ℕ} {ls : List Line} {cs : Children} → l.mark ≡ Key k → AreEntryLines n (l ∷ ls) cs →
        IsNodeOutline n (l ∷ ls) (map None cs)
    sequence : {n : ℕ} {l : Line} {ls : List Line} {cs : Children} → l.mark ≡ Dash → AreEntryLines n (l ∷ ls) cs → IsNodeOutline n (l ∷ ls) (list None cs)

  -- lines are those of items (8.2.1) or entries (8.2.2) at one level, in order
  pub data AreEntryLines : ℕ → List Line → Children → Type 0 where
    no_more : {n : ℕ} → AreEntryLines n [] none
    entry : {n : ℕ} {l : Line} {under after all : List Line} {v : Node} {cs : Children} →
        level l ≡ n → (l.mark ≡ Bare → ⊥) → IsUnder l under v → AreEntryLines n after cs → all ≡ under ++ after →
        AreEntryLines n (l ∷ all) (child (label l) (anchored l.anchor v) cs)

  -- an entry's head, the deeper lines after it, or a null where there is neither (7.2)
  pub data IsUnder : Line → List Line → Node → Type 0 where
    headed : {l : Line} {v : Node} → l.head ≡ Some v → IsUnder l [] v
    missing : {l : Line} → l.head ≡ None → IsUnder l [] null_node
    deeper_lines : {l : Line} {n : ℕ} {ls : List Line} {v : Node} → l.head ≡ None → level l < n → IsNodeOutline n ls v → IsUnder l ls v
