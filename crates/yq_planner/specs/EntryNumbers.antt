-- Entries by their numbers.
use Rattle.std.specs.Prelude.{◌≡◌, ℕ, suc, List, [], ◌∷◌, Option, Some, None, option_map, if◌then◌else◌, String}
use Rattle.std.{specs.BTreeMap.{BTreeMap, get_by_text}, specs.Str.bytes_eq, specs.declared.alloc.Global.Global}
use Rattle.yq_core.specs.Tree.{Node}

-- the number from 0 of the first entry of a key, if there is one (own)
abbrev pub entry_number : List ℕ → List (List ℕ × Node) → Option ℕ
entry_number k [] = None
entry_number k (e ∷ es) = if bytes_eq e.0 k then Some 0 else option_map suc (entry_number k es)

-- the number that is kept for a key when an entry of a number comes: that of the first one (own)
abbrev pub number_kept : List ℕ → Option ℕ → List ℕ → ℕ → Option ℕ
number_kept k (Some i) key n = Some i
number_kept k None key n = if bytes_eq key k then Some n else None

-- a map has the number of each key of entries (own)
abbrev pub AreNumbered : List (List ℕ × Node) → BTreeMap (String Global) ℕ → Type 0
AreNumbered es m = (k : List ℕ) → get_by_text m k ≡ entry_number k es
