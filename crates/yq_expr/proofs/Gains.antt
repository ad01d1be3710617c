-- Operations by which so many items and entries come at places.
use Rattle.std.proofs.Common.{ℕ, suc, ◌+◌, ◌<◌, ◌≤◌, Bool, true, false, cond, List, [], ◌∷◌, ◌++◌, map, Option, Some, is_some, sym, subst}
use Rattle.std.specs.Str.{IsUtf8}
use Rattle.yq_core.{specs.Paths.{Step, To, child_at}, specs.Shapes.AreEntries, specs.Tree.{Label, Node, Children, none, child}}
use Rattle.yq_flow_edits.specs.Valued.{IsValueTree, AreValueTrees}
use Rattle.yq_semantics.{specs.Changes.{addition, additions, overwrites}, specs.Operations.{Operation, append, replace}}
use Rattle.yq_semantics.{specs.Places.FoundPlace, specs.Plans.add_op, specs.Sizes.{items_in, items_among}}
use Rattle.yq_expr.specs.Oversized.{AllWrite, MayBeUtf8, WritesValue}
use Rattle.yq_semantics.specs.Changes as changes

-- Operations append values at a path, in which are so many items and entries, the values themselves among them (own).
pub data AreAppends : ℕ → List Step → List Operation → ℕ → Type 0 where
  nothing : {doc : ℕ} {path : List Step} → AreAppends doc path [] 0
  appended : {doc : ℕ} {path : List Step} {k : Option (List ℕ)} {v : Node} {ops : List Operation} {n : ℕ} → MayBeUtf8 k → IsValueTree v → AreAppends doc path ops n →
      AreAppends doc path (append doc path k v ∷ ops) (suc (items_in v + n))

-- Operations put a value at a path, append some there, or make an entry of each of a mapping's: at least so many items and entries are there then (own).
pub data Gain : ℕ → List Step → ℕ → List Operation → Type 0 where
  puts : {doc : ℕ} {path : List Step} {n : ℕ} {v : Node} → IsValueTree v → n ≤ items_in v → Gain doc path n (replace doc path v ∷ [])
  appends : {doc : ℕ} {path : List Step} {n : ℕ} {k : Option (List ℕ)} {v : Node} {ops : List Operation} {m : ℕ} → MayBeUtf8 k → IsValueTree v → AreAppends doc path ops m →
      n ≤ suc (items_in v + m) → Gain doc path n (append doc path k v ∷ ops)
  merges : {doc : ℕ} {path : List Step} {n : ℕ} (cs ds : Children) → AreEntries ds → AreValueTrees true ds → 0 < n → n ≤ items_among ds → Gain doc path n (map (add_op doc path) (additions cs ds))

-- Operations do so at each of the first of places, in order: so many come in all, at least (own).
pub data GainSome : ℕ → List FoundPlace → ℕ → List Operation → Type 0 where
  no_more : {doc : ℕ} {ps : List FoundPlace} → GainSome doc ps 0 []
  one_place : {doc : ℕ} {p : FoundPlace} {ps : List FoundPlace} {m n k : ℕ} {here there : List Operation} → Gain doc p.path m here → GainSome doc ps n there → k ≤ m + n →
      GainSome doc (p ∷ ps) k (here ++ there)

-- ---- they write values

appends_write : (doc : ℕ) (path : List Step) (xs : List Operation) (count : ℕ) → AreAppends doc path xs count → AllWrite xs
appends_write doc path _ _ nothing = tt
appends_write doc path _ _ (appended {k} {v} {ops} {n} utf8 valid all) = ((utf8, valid), appends_write doc path ops n all)

write_both : (xs ys : List Operation) → AllWrite xs → AllWrite ys → AllWrite (xs ++ ys)
write_both [] ys h k = k
write_both (x ∷ xs) ys h k = (h.0, write_both xs ys h.1 k)

entry_writes : (doc : ℕ) (path : List Step) (cs : Children) (k : List ℕ) (v : Node) → IsUtf8 k → IsValueTree v → WritesValue (add_op doc path (addition cs (Some k) v))
entry_writes doc path cs k v utf8 valid = go (is_some (child_at (To k) cs))
  where
    go : (b : Bool) → WritesValue (add_op doc path (cond b (overwrites k v) (changes.appends (Some k) v)))
    go true = valid
    go false = (utf8, valid)

entries_write : (doc : ℕ) (path : List Step) (cs ds : Children) → AreValueTrees true ds → AllWrite (map (add_op doc path) (additions cs ds))
entries_write doc path cs none valid = tt
entries_write doc path cs (child label v ds) valid = (
  subst (λ (l : Label). WritesValue (add_op doc path (addition cs l.key v))) (sym valid.0.1) (entry_writes doc path cs valid.0.0 v valid.0.2 valid.1),
  entries_write doc path cs ds valid.2,
)

gain_writes : (doc : ℕ) (path : List Step) (n : ℕ) (ops : List Operation) → Gain doc path n ops → AllWrite ops
gain_writes doc path n _ (puts valid most) = (valid, tt)
gain_writes doc path n _ (appends {ops} {m} utf8 valid all most) = ((utf8, valid), appends_write doc path ops m all)
gain_writes doc path n _ (merges cs ds entries valid some most) = entries_write doc path cs ds valid

pub each_writes : (doc n : ℕ) (ps : List FoundPlace) (ops : List Operation) → GainSome doc ps n ops → AllWrite ops
each_writes doc n ps _ no_more = tt
each_writes doc n _ _ (one_place {p} {ps} {m} {n = l} {here} {there} g gs most) = write_both here there (gain_writes doc p.path m here g) (each_writes doc l ps there gs)
