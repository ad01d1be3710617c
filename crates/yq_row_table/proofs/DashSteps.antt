-- A dash after which a further one is, or a key, or neither.
use Rattle.std.proofs.Common.{rules, ◌≡◌, ℕ, ◌-◌, ◌≤◌, true, false, cond, not, ◌&&◌, List, ◌++◌, length, take, drop, Option, Some, None}
use Rattle.std.{proofs.Common.{sym, ap, arith}, proofs.lemmas.Bool.false≢true}
use Rattle.yq_core.specs.Text.{cut, no_space, is_empty}
use Rattle.yq_row_table.{specs.Slicing.{begun, with_dashes}, specs.Reading.{read_row_key, begins_entry, is_dash, key_mark, read_marks}}
use Rattle.yq_row_table.{specs.Rows.Key, proofs.BeginSteps.{dash_further, no_dash, mark_within}, proofs.FrontLaws.front_join}

-- the key after spaces, if there are any
abbrev pub FollowingKey : List ℕ → List ℕ → Option (List ℕ × List ℕ × List ℕ)
FollowingKey s next = cond (is_empty s) None (read_row_key next)

pub dash_goes : (s next : List ℕ) → (not (is_empty s) && is_dash next) ≡ true → (not (is_empty s) && begins_entry next) ≡ true
dash_goes s next h = search (rules, false≢true)

pub none_goes : (s next : List ℕ) → (not (is_empty s) && is_dash next) ≡ false → FollowingKey s next ≡ None → (not (is_empty s) && begins_entry next) ≡ false
none_goes s next h k = search (rules, false≢true)

-- a key after a dash and spaces
pub record HasKey (s next : List ℕ) (k : List ℕ × List ℕ × List ℕ) : Type 0 where
  pub key : read_row_key next ≡ Some k
  pub none : is_dash next ≡ false
  pub goes : (not (is_empty s) && begins_entry next) ≡ true

pub key_goes : (s next : List ℕ) (k : List ℕ × List ℕ × List ℕ) → (not (is_empty s) && is_dash next) ≡ false → FollowingKey s next ≡ Some k → HasKey s next k
key_goes s next k h e = search (rules, false≢true)

-- what was read up to that key
pub record Keyed (text next after key colon : List ℕ) : Type 0 where
  pub join : text ≡ take (length text - length next) text ++ next
  pub read : record { dashes = take (length text - length next) text; columns = length text - length next; mark = Key key colon; rest = after } ≡ begun (read_marks text)
  pub shorter : length after ≤ length text

pub dash_keyed : (text rest following s next key colon after : List ℕ) → drop (length text - length rest) text ≡ rest → length rest ≤ length text →
    with_dashes (take (length text - length rest) text) (begun (read_marks rest)) ≡ begun (read_marks text) →
    is_dash rest ≡ true → following ≡ drop 1 rest → (s, next) ≡ cut no_space following → HasKey s next (key, colon, after) → Keyed text next after key colon
dash_keyed text rest following s next key colon after is_located short so_far dash one e h =
    let step = dash_further text rest following s next is_located so_far dash one e h.goes in
    record {
      join = front_join text next step.is_located;
      read = no_dash text next after (Key key colon) step.is_located (omega (arith, step.shorter)) step.so_far h.none (sym (ap (key_mark next) h.key));
      shorter = omega (arith, mark_within next after (Key key colon) (sym (ap (key_mark next) h.key)), step.shorter);
    }
