-- What a store holds: a finite map from names to the bytes of files (own).
use Rattle.std.{proofs.Common.{◌≡◌, ◌≢◌, ℕ, List, map, String, Vec, Some, cond, true, false, refl, ap, ◌∙◌}, specs.Str.bytes_eq}
use Rattle.std.{proofs.lemmas.Map.Text.is_eq-slice_cmp, proofs.lemmas.Slice.Eq.bytes_eq-Decides, specs.Ordering.nat_cmp}
use Rattle.std.{specs.Cmp.Lexicographic.{slice_cmp, nat_list_cmp_total}, specs.FinMap.{FinMap, from_entries, get, insert, get-insert}}
use Rattle.std.{specs.String.string_bytes, specs.declared.alloc.Global.Global}

-- the bytes of files, by the bytes of their names
abbrev pub FileMap : Type 0
FileMap = FinMap (slice_cmp nat_cmp) (List ℕ)

-- the names and the bytes of a log
abbrev pub log_entries : List (String Global × Vec ℕ Global) → List (List ℕ × List ℕ)
log_entries log = map (λ e. (string_bytes e.0, e.1.items)) log

-- the content that a log of writes makes, the newest write first
abbrev pub file_bytes : List (String Global × Vec ℕ Global) → FileMap
file_bytes log = from_entries (log_entries log)

-- what a name holds after a write to it
pub get_written : (m : FileMap) (k v : List ℕ) → get (insert m k v) k ≡ Some v
get_written m k v =
    get-insert nat_list_cmp_total m k v k
    ∙ ap (λ b. cond b (Some v) (get m k)) (is_eq-slice_cmp k k ∙ (bytes_eq-Decides k k).1 refl)

-- names that differ are distinguished
differ : (q k : List ℕ) → q ≢ k → bytes_eq q k ≡ false
differ q k d = elim (bytes_eq q k) as (λ b. bytes_eq q k ≡ b → b ≡ false) [
  | true ↦ λ e. absurd (d ((bytes_eq-Decides q k).0 e))
  | false ↦ λ e. refl
] refl

-- what a name holds after a write to another
pub get_other : (m : FileMap) (k v q : List ℕ) → q ≢ k → get (insert m k v) q ≡ get m q
get_other m k v q d =
    get-insert nat_list_cmp_total m k v q
    ∙ ap (λ b. cond b (Some v) (get m q)) (is_eq-slice_cmp q k ∙ differ q k d)
