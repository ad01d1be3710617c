-- Records joined one after the other.
use Rattle.std.proofs.Common.{◌≡◌, ℕ, ◌≤◌, ◌<◌, List, [], ◌∷◌, ◌++◌, length, suc, Some, None, true, refl, ap, ◌∙◌, arith, rules, sym}
use Rattle.std.proofs.Common.{get_or, take_all}
use Rattle.std.specs.Prelude.{◌==◌, ◌&&◌, Bool, false, slice_get, take, ◌+◌, ◌-◌, drop, if◌then◌else◌, nat_le}
use Rattle.std.{proofs.lemmas.Bool.{eqb-true, and_parts, le-leb}, specs.Cmp.Derive.both_true, proofs.lemmas.List.drop-take}
use Prim.Native.Nat.{zero}
use Rattle.yq_text.proofs.SpliceLaws.{lengths_done-append}
use Rattle.yq_journal.{specs.Refusals.count_fault, specs.declared.fault.JournalFault.TheVariants.BadCount, specs.State.last_done}
use Rattle.yq_journal.specs.Record.{Record, IsRecord, join, records_joined, meet}

-- fewer than two records meet
pub short_meet : (rs : List Record) → length rs < 2 → meet rs ≡ true
short_meet (r ∷ q ∷ rs) h = absurd (omega arith)
short_meet _ h = refl

-- one more record is joined to those before it
pub joined-push : (r : Record) (rs : List Record) (q : Record) → records_joined r (rs ++ q ∷ []) ≡ join (records_joined r rs) q
joined-push r [] q = refl
joined-push r (p ∷ rs) q = joined-push (join r p) rs q

-- records that meet are one record together
pub IsRecord-join : (r q : Record) → IsRecord r → IsRecord q → r.after_len ≡ q.before_len → IsRecord (join r q)
IsRecord-join r q h k meets = search (rules, lengths_done-append)

-- what is joined so far ends with the length with which the next record begins
pub joined_meets : (r : Record) (rs : List Record) (i : ℕ) (q : Record) → meet (r ∷ rs) ≡ true → slice_get rs i ≡ Some q → (records_joined r (take i rs)).after_len ≡ q.before_len
joined_meets r [] i q h is = cc
joined_meets r (p ∷ rs) zero q h is = let same : p ≡ q = cc in eqb-true r.after_len p.before_len (and_parts (r.after_len == p.before_len) (meet (p ∷ rs)) h).0 ∙ ap (λ (x : Record). x.before_len) same
joined_meets r (p ∷ rs) (suc i) q h is = joined_meets (join r p) rs i q (search rules) is

-- the records from a place up to the cursor, cut from either side
pub slice_run : (rs : List Record) (at i : ℕ) → i ≤ at → take (at - i) (drop i rs) ≡ drop i (take at rs)
slice_run rs at i h =
    let whole : i + (at - i) ≡ at = omega arith in
    sym (drop-take i (at - i) rs) ∙ ap (λ n. drop i (take n rs)) whole

never : (b : Bool) → (if b && false then None else Some BadCount) ≡ Some BadCount
never b = search rules

-- what is refused as a bad count, and what isn't refused
pub bad_count : (rs : List Record) (at n : ℕ) → meet (last_done rs at n) ≡ false → count_fault rs at n ≡ Some BadCount
bad_count rs at n h = ap (λ b. if nat_le 1 n && nat_le n at && b then None else Some BadCount) h ∙ never (nat_le 1 n && nat_le n at)

pub good_count : (rs : List Record) (at n : ℕ) → 1 ≤ n → n ≤ at → meet (last_done rs at n) ≡ true → count_fault rs at n ≡ None
good_count rs at n some fits h = ap (λ b. if b then None else Some BadCount) (both_true (both_true (le-leb 1 n some) (le-leb n at fits)) h)

-- a list that isn't empty is its first element and the rest
pub split_first : (rs : List Record) (r : Record) → 1 ≤ length rs → r ≡ get_or rs 0 r → rs ≡ r ∷ take (length rs - 1) (drop 1 rs)
split_first rs r h1 h2 = search (rules, take_all)
