-- Splices that can be done, found from the bytes of the text before them.
use Rattle.std.proofs.Common.{◌≡◌, ◌≢◌, ◌⊎◌, ℕ, suc, ◌+◌, ◌-◌, ◌≤◌, ◌<◌, Bool, true, false, List, [], ◌∷◌, ◌++◌, length, take, drop, nat_le}
use Rattle.std.proofs.Common.{Option, Some, None, refl, sym, ap, ◌∙◌, subst, arith, length-append, if◌then◌else◌, eq-eqb, rules}
use Rattle.std.{specs.Prelude.{◌==◌, ◌^◌, option_and_then, slice_get, is_some}, proofs.Math.Seq.{drop-append_seam, take-append_seam}}
use Rattle.std.{proofs.lemmas.Bool.{and_parts, le-leb, leb-true, lt-ltb, ltb-true}, proofs.lemmas.Bool.Decides.nat_tests}
use Rattle.std.proofs.lemmas.List.{take-append-drop, length-take-le}
use Rattle.std.proofs.lemmas.Option.{cond_some, none-some, option_and_then_some, same_Some}
use Prim.Native.Nat.{zero}
use Rattle.yq_text.specs.Splice.{Splice, swapped, change_done, all_done, flipped, length_done, lengths_done}
use Rattle.yq_text.proofs.PlaceInList.{split_at, take_next}
use Rattle.yq_text.proofs.SpliceLaws.{done-from_exchanges, exchanges-from_done, all_done-append, lengths_done-append}
use Rattle.yq_journal.{specs.Turned.flipped_if, proofs.PieceLaws.none_done, specs.Record.if_length}

and_then_one : (o : Option (List ℕ)) (s : Splice) → option_and_then (all_done (s ∷ [])) o ≡ option_and_then (change_done s) o
and_then_one o s = search rules

-- ---- elements by their places

get_front : {A : Type 0} (xs ys : List A) (i : ℕ) → i < length xs → slice_get (xs ++ ys) i ≡ slice_get xs i
get_front [] ys i h = absurd (omega arith)
get_front (x ∷ xs) ys zero h = refl
get_front (x ∷ xs) ys (suc i) h = get_front xs ys i (omega arith)

get_after : {A : Type 0} (xs ys : List A) (i j : ℕ) → i ≡ length xs + j → slice_get (xs ++ ys) i ≡ slice_get ys j
get_after [] ys i j is = let e : i ≡ j = omega (arith, is) in ap (slice_get ys) e
get_after (x ∷ xs) ys zero j is = absurd (omega (arith, is))
get_after (x ∷ xs) ys (suc i) j is = get_after xs ys i j (omega (arith, is))

pub length-flipped : (ss : List Splice) → length (flipped ss) ≡ length ss
length-flipped [] = refl
length-flipped (x ∷ ss) = length-append (flipped ss) (swapped x ∷ []) ∙ omega (arith, length-flipped ss)

-- the splices taken back, from the last on
pub flipped_at : (ss : List Splice) (k : ℕ) (s : Splice) → k < length ss → slice_get ss (length ss - 1 - k) ≡ Some s → slice_get (flipped ss) k ≡ Some (swapped s)
flipped_at [] k s h is = absurd (omega arith)
flipped_at (x ∷ ss) k s h is =
    elim (nat_le (suc k) (length ss)) as (λ t. nat_le (suc k) (length ss) ≡ t → slice_get (flipped ss ++ swapped x ∷ []) k ≡ Some (swapped s)) [
      | true ↦ λ e.
          let before : suc k ≤ length ss = leb-true (suc k) (length ss) e in
          let place : suc (length ss) - 1 - k ≡ suc (length ss - 1 - k) = omega arith in
          get_front (flipped ss) (swapped x ∷ []) k (omega (arith, length-flipped ss))
          ∙ flipped_at ss k s before (sym (ap (slice_get (x ∷ ss)) place) ∙ is)
      | false ↦ λ e.
          let last : k ≡ length ss = grind (arith, nat_tests) in
          let place : suc (length ss) - 1 - k ≡ 0 = omega arith in
          let same : x ≡ s = same_Some x s (sym (ap (slice_get (x ∷ ss)) place) ∙ is) in
          get_after (flipped ss) (swapped x ∷ []) k 0 (omega (arith, length-flipped ss)) ∙ ap (λ y. Some (swapped y)) same
    ] refl

-- ---- lengths

-- what a splice does to a length
pub record Lengths (s : Splice) (n m : ℕ) : Type 0 where
  pub fits : s.at + length s.old ≤ n
  pub small : m < 2 ^ 64
  pub is : m ≡ n - length s.old + length s.new

pub parts_of_length : (s : Splice) (n m : ℕ) → length_done s n ≡ Some m → Lengths s n m
unfolding length_done
parts_of_length s n m h = search (rules, cond_some, and_parts, leb-true, ltb-true)

-- the lengths of a text before and after a splice
record Grown (s : Splice) (b c : List ℕ) : Type 0 where
  within : s.at + length s.old ≤ length b
  long : length c ≡ length b - length s.old + length s.new

grown : (s : Splice) (b c : List ℕ) → change_done s b ≡ Some c → Grown s b c
grown s b c e =
    let x = exchanges-from_done s b c e in
    let old : length b ≡ length x.front + (length s.old + length x.rest) = ap length x.before ∙ length-append x.front (s.old ++ x.rest) ∙ ap (λ n. length x.front + n) (length-append s.old x.rest) in
    search (rules, length-append)

and_then_some : {A B : Type 0} (f : A → Option B) (o : Option A) → option_and_then f o ≢ None → (x : A) × (o ≡ Some x) × (f x ≢ None)
and_then_some f o h = search rules

-- lengths that are reached are those of the texts
pub lengths_follow : (ss : List Splice) (b c : List ℕ) → all_done ss b ≡ Some c → lengths_done ss (length b) ≢ None → lengths_done ss (length b) ≡ Some (length c)
lengths_follow [] b c e h = ap Some (ap length (same_Some b c e))
lengths_follow (s ∷ ss) b c e h = option_and_then_some (all_done ss) (change_done s b) c e (λ d is k.
    let there = and_then_some (lengths_done ss) (length_done s (length b)) h in
    let same : there.0 ≡ length d = (parts_of_length s (length b) there.0 there.1).is ∙ sym (grown s b d is).long in
    ap (option_and_then (lengths_done ss)) (there.1 ∙ ap Some same) ∙ lengths_follow ss d c k (λ none. there.2 (ap (lengths_done ss) same ∙ none)))

lengths_small : (ss : List Splice) (n m : ℕ) → lengths_done ss n ≡ Some m → n < 2 ^ 64 → m < 2 ^ 64
lengths_small [] n m e h = subst (λ x. x < 2 ^ 64) (same_Some n m e) h
lengths_small (s ∷ ss) n m e h = search (rules, option_and_then_some, parts_of_length, lengths_small ss)

-- splices taken back lead back from the one length to the other
pub lengths_flip : (ss : List Splice) (n m : ℕ) → lengths_done ss n ≡ Some m → n < 2 ^ 64 → lengths_done (flipped ss) m ≡ Some n
unfolding length_done
lengths_flip [] n m e h = sym e
lengths_flip (s ∷ ss) n m e h = option_and_then_some (lengths_done ss) (length_done s n) m e (λ x is k.
    let p = parts_of_length s n x is in
    let fits : s.at + length s.old ≤ n = p.fits in
    let long : x ≡ n - length s.old + length s.new = p.is in
    let back : length_done (swapped s) x ≡ Some n =
    search (rules, le-leb, lt-ltb) in
    lengths_done-append (flipped ss) (swapped s ∷ []) m
    ∙ ap (option_and_then (lengths_done (swapped s ∷ []))) (lengths_flip ss x m k p.small)
    ∙ ap (option_and_then (λ d. Some d)) back)

-- the lengths up to a place of splices whose lengths are all within
pub lengths_up_to : (ss rest : List Splice) (text b : List ℕ) → lengths_done (ss ++ rest) (length text) ≢ None → all_done ss text ≡ Some b → (lengths_done ss (length text) ≡ Some (length b)) × (lengths_done rest (length b) ≢ None)
lengths_up_to ss rest text b h e = search (rules, and_then_some, lengths_done-append, lengths_follow, none-some, same_Some)

-- each splice lies within the text that it finds
pub lies_within : (ss : List Splice) (k : ℕ) (s : Splice) (text b : List ℕ) → lengths_done ss (length text) ≢ None → all_done (take k ss) text ≡ Some b → slice_get ss k ≡ Some s → s.at + length s.old ≤ length b
lies_within ss k s text b h e is =
    let up = lengths_up_to (take k ss) (s ∷ drop (suc k) ss) text b (λ none. h (ap (λ l. lengths_done l (length text)) (split_at ss k s is) ∙ none)) e in
    search (rules, and_then_some, parts_of_length)

-- and that text's length is held by 64 bits
pub stays_small : (ss : List Splice) (k : ℕ) (text b : List ℕ) → lengths_done ss (length text) ≢ None → all_done (take k ss) text ≡ Some b → length text < 2 ^ 64 → length b < 2 ^ 64
stays_small ss k text b h e small =
    let up = lengths_up_to (take k ss) (drop k ss) text b (λ none. h (ap (λ l. lengths_done l (length text)) (sym (take-append-drop k ss)) ∙ none)) e in
    lengths_small (take k ss) (length text) (length b) up.0 small

-- ---- one splice more

pub done_next : (ss : List Splice) (k : ℕ) (s : Splice) (text : List ℕ) → slice_get ss k ≡ Some s → all_done (take (k + 1) ss) text ≡ option_and_then (change_done s) (all_done (take k ss) text)
done_next ss k s text is =
    ap (λ l. all_done l text) (take_next ss k s is) ∙ all_done-append (take k ss) (s ∷ []) text
    ∙ and_then_one (all_done (take k ss) text) s

-- where one isn't done, not all are
pub not_all : (ss : List Splice) (k : ℕ) (s : Splice) (text b : List ℕ) → slice_get ss k ≡ Some s → all_done (take k ss) text ≡ Some b → change_done s b ≡ None → all_done ss text ≡ None
not_all ss k s text b is e none =
    ap (λ l. all_done l text) (split_at ss k s is) ∙ all_done-append (take k ss) (s ∷ drop (suc k) ss) text
    ∙ ap (option_and_then (all_done (s ∷ drop (suc k) ss))) e ∙ ap (option_and_then (all_done (drop (suc k) ss))) none

-- ---- a byte before a splice

pub record Before (s : Splice) (b c : List ℕ) : Type 0 where
  pub front : (i : ℕ) → i < s.at → slice_get c i ≡ slice_get b i
  pub inside : (i : ℕ) → s.at ≤ i → i < s.at + length s.new → slice_get c i ≡ slice_get s.new (i - s.at)
  pub after : (i : ℕ) → s.at + length s.new ≤ i → slice_get c i ≡ slice_get b (i - length s.new + length s.old)
  pub long : length c ≡ length b - length s.old + length s.new
  pub within : s.at + length s.old ≤ length b

pub before : (s : Splice) (b c : List ℕ) → change_done s b ≡ Some c → Before s b c
before s b c e =
    let x = exchanges-from_done s b c e in
    let offset : length x.front ≡ s.at = x.offset in
    let g = grown s b c e in
    record {
      front = λ i h. ap (λ l. slice_get l i) x.after ∙ get_front x.front (s.new ++ x.rest) i (omega (arith, offset)) ∙ sym (get_front x.front (s.old ++ x.rest) i (omega (arith, offset))) ∙ ap (λ l. slice_get l i) (sym x.before);
      inside = λ i h k. ap (λ l. slice_get l i) x.after ∙ get_after x.front (s.new ++ x.rest) i (i - s.at) (omega (arith, offset)) ∙ get_front s.new x.rest (i - s.at) (omega arith);
      after = λ i h.
          ap (λ l. slice_get l i) x.after ∙ get_after x.front (s.new ++ x.rest) i (i - s.at) (omega (arith, offset)) ∙ get_after s.new x.rest (i - s.at) (i - s.at - length s.new) (omega arith)
          ∙ sym (ap (λ l. slice_get l (i - length s.new + length s.old)) x.before
          ∙ get_after x.front (s.old ++ x.rest) (i - length s.new + length s.old) (i - s.at - length s.new + length s.old) (omega (arith, offset))
          ∙ get_after s.old x.rest (i - s.at - length s.new + length s.old) (i - s.at - length s.new) (omega arith));
      long = g.long;
      within = g.within;
    }

-- where a byte came from over a splice
pub came_from : (s : Splice) (b c : List ℕ) (i j : ℕ) → Before s b c → i < length c → ((i < s.at) × (j ≡ i)) ⊎ ((s.at + length s.new ≤ i) × (j ≡ i - length s.new + length s.old)) → (j < length b) × (slice_get b j ≡ slice_get c i)
came_from s b c i j h1 h2 h3 = search rules

-- the text before a splice that was done
pub record Earlier (ss : List Splice) (text : List ℕ) (k : ℕ) (s : Splice) (c : List ℕ) : Type 0 where
  pub text_before : List ℕ
  pub is : all_done (take k ss) text ≡ Some text_before
  pub bytes : Before s text_before c
  pub small : length text_before < 2 ^ 64

pub earlier : (ss : List Splice) (text : List ℕ) (k : ℕ) (s : Splice) (c : List ℕ) → lengths_done ss (length text) ≢ None → length text < 2 ^ 64 → slice_get ss k ≡ Some s → all_done (take (k + 1) ss) text ≡ Some c → Earlier ss text k s c
earlier ss text k s c h small is e =
    option_and_then_some (change_done s) (all_done (take k ss) text) c (sym (done_next ss k s text is) ∙ e)
    (λ b to q. record { text_before = b; is = to; bytes = before s b c q; small = stays_small ss k text b h to small })

-- the same, from a place down
pub one_earlier : (ss : List Splice) (text : List ℕ) (n : ℕ) (s : Splice) (c : List ℕ) → 0 < n → lengths_done ss (length text) ≢ None →
    length text < 2 ^ 64 → slice_get ss (n - 1) ≡ Some s → all_done (take n ss) text ≡ Some c → Earlier ss text (n - 1) s c
one_earlier ss text n s c pos h small is e = search (rules, earlier)

-- ---- whether a splice's old bytes are there

pub some_of : {A : Type 0} (o : Option A) → is_some o ≡ true → (x : A) × (o ≡ Some x)
some_of o h = search rules

pub found_there : (s : Splice) (b : List ℕ) → s.at + length s.old ≤ length b → take (length s.old) (drop s.at b) ≡ s.old → (c : List ℕ) × (change_done s b ≡ Some c)
found_there s b within is = (
  take s.at b ++ (s.new ++ drop (length s.old) (drop s.at b)),
  done-from_exchanges s b (take s.at b ++ (s.new ++ drop (length s.old) (drop s.at b))) (record {
    front = take s.at b;
    rest = drop (length s.old) (drop s.at b);
    offset = length-take-le s.at b (omega arith);
    before = sym (take-append-drop s.at b) ∙ ap (λ l. take s.at b ++ l) (sym (take-append-drop (length s.old) (drop s.at b)) ∙ ap (λ l. l ++ drop (length s.old) (drop s.at b)) is);
    after = refl;
  }),
)

pub not_there : (s : Splice) (b : List ℕ) → take (length s.old) (drop s.at b) ≢ s.old → change_done s b ≡ None
not_there s b other = search (rules, none_done, drop-append_seam, take-append_seam)

pub length-turned : (back : Bool) (ss : List Splice) → length (flipped_if back ss) ≡ length ss
length-turned back ss = search (rules, length-flipped)

-- where lengths are within, splices that are done end with the length that is reported
pub ends_alike : (ss : List Splice) (n m : ℕ) (b : List ℕ) → lengths_done ss n ≡ Some m → length b ≡ n → is_some (all_done ss b) ≡ is_some (if length b == n then if_length m (all_done ss b) else None)
ends_alike ss n m b lengths long = search (rules, lengths_follow, none-some, same_Some, eq-eqb)
