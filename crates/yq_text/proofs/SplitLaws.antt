-- What becomes of a text in two halves when bytes are moved or written between them.
use Rattle.std.proofs.Common.{rules, arith, ◌≡◌, ◌+◌, ◌-◌, ◌≤◌, ◌++◌, drop, length, take, ℕ, List, take_all}
use Rattle.std.{specs.Str.{IsCharBoundary, IsUtf8}, specs.List.copy_within, proofs.lemmas.List.{places, same_lists, drop_all}}
use Rattle.std.{proofs.lemmas.Slice.overwrites, proofs.lemmas.Str.{IsUtf8-append, IsUtf8-take, IsUtf8-drop}}
use lib.Seq.{paste}
use Rattle.yq_text.specs.TextGapBuffer.{IsKept}

-- a text whose split is at its end is kept
pub all_front : (xs : List ℕ) (n : ℕ) → n ≡ length xs → IsUtf8 xs → IsKept xs n n
all_front xs n e u = search (rules, take_all, drop_all)

-- these bytes keep this text with its split at a place
pub record IsMoved (bytes : List ℕ) (front back : ℕ) (text : List ℕ) : Type 0 where
  pub kept : IsKept bytes front back
  pub front_is : take front bytes ≡ take front text
  pub back_is : drop back bytes ≡ drop front text

-- a text whose split was moved is kept
moved : (xs ys : List ℕ) (at f b c : ℕ) → IsKept xs f b → IsCharBoundary (take f xs ++ drop b xs) at →
    take at ys ≡ take at (take f xs ++ drop b xs) → drop c ys ≡ drop at (take f xs ++ drop b xs) →
    at ≤ c → c ≤ length ys → IsMoved ys at c (take f xs ++ drop b xs)
moved xs ys at f b c k i p q l m =
    let u = IsUtf8-append (take f xs) (drop b xs) k.front_text k.back_text in
    record {
      front_is = p;
      back_is = q;
      kept = record {
        order = l;
        within = m;
        front_text = rw p (IsUtf8-take _ at u i);
        back_text = rw q (IsUtf8-drop _ at u i);
      };
    }

-- the split moved to the front
pub moved_back : (xs : List ℕ) (at f b : ℕ) → IsKept xs f b → IsCharBoundary (take f xs ++ drop b xs) at → at ≤ f →
    IsMoved (copy_within xs at f (b - (f - at))) at (b - (f - at)) (take f xs ++ drop b xs)
moved_back xs at f b k i l = moved xs _ at f b _ k i
    (same_lists _ _ (search (rules, places, k)) (λ n d h. grind (arith, places, k)))
    (same_lists _ _ (search (rules, places, k)) (λ n d h. grind (arith, places, k)))
    (search (rules, k)) (search (rules, places, k))

-- the split moved to the end
pub moved_on : (xs : List ℕ) (at f b : ℕ) → IsKept xs f b → IsCharBoundary (take f xs ++ drop b xs) at → f ≤ at →
    IsMoved (copy_within xs b (b + (at - f)) f) at (b + (at - f)) (take f xs ++ drop b xs)
moved_on xs at f b k i l =
    let past : b + (at - f) ≤ length xs = search (rules, places, k, i) in
    moved xs _ at f b _ k i
    (same_lists _ _ (search (rules, places, k, past)) (λ n d h. grind (arith, places, k, past)))
    (same_lists _ _ (search (rules, places, k, past)) (λ n d h. grind (arith, places, k, past)))
    (search (rules, k)) (search (rules, places, past))

-- what is in front of the room when a text was written there
pub written_front : (xs ys : List ℕ) (f : ℕ) → f + length ys ≤ length xs →
    take (f + length ys) (paste xs f ys (length ys)) ≡ take f xs ++ ys
written_front xs ys f l = search (rules, overwrites)

-- how far a text reaches that is written into the room and over bytes after it
pub reaches : (xs ys : List ℕ) (f b gone : ℕ) → IsKept xs f b → IsCharBoundary (drop b xs) gone →
    length ys ≤ b - f + gone → (f + length ys ≤ b + gone) × (b + gone ≤ length xs)
reaches xs ys f b gone k i l = (search (rules, k), search (rules, places, k, i))

-- what comes after the room when a text was written there and bytes after it are given to it
pub written_back : (xs ys : List ℕ) (f b gone : ℕ) → IsKept xs f b → IsCharBoundary (drop b xs) gone →
    length ys ≤ b - f + gone → drop (b + gone) (paste xs f ys (length ys)) ≡ drop gone (drop b xs)
written_back xs ys f b gone k i l =
    let r = reaches xs ys f b gone k i l in
    same_lists _ _ (search (rules, places, r)) (λ n d h. grind (arith, places, r))

-- a text into which a text was written is kept
pub kept_written : (xs ys : List ℕ) (f b gone : ℕ) → IsKept xs f b → IsUtf8 ys → IsCharBoundary (drop b xs) gone →
    length ys ≤ b - f + gone → IsKept (paste xs f ys (length ys)) (f + length ys) (b + gone)
kept_written xs ys f b gone k u i l =
    let r = reaches xs ys f b gone k i l in
    record {
      order = r.0;
      within = search (rules, places, r);
      front_text = rw (written_front xs ys f (search (rules, r))) (IsUtf8-append (take f xs) ys k.front_text u);
      back_text = rw (written_back xs ys f b gone k i l) (IsUtf8-drop (drop b xs) gone k.back_text i);
    }
