-- Sums of values: the int that is written, one item, entry or term more.
use Rattle.std.proofs.Common.{◌≡◌, ℕ, zero, suc, ◌+◌, ◌-◌, ◌<◌, ◌^◌, Bool, true, false, List, [], ◌∷◌, ◌++◌, Option, Some, None, is_some}
use Rattle.std.proofs.Common.{◌≤◌, Result, Err, subst, option_map, length, map, drop, take, get_or, replicate, set, FitsSigned, refl, sym}
use Rattle.std.{proofs.Common.{ap, ◌∙◌, arith, cond, rules}, specs.Prelude.{ℤ, pos, negsuc}, specs.Fmt.{decimal, signed_decimal}}
use Rattle.std.{specs.Str.bytes_eq, proofs.lemmas.Fmt.decimal_is_IsNumeral, proofs.lemmas.Int.to_z-of_z}
use Rattle.std.proofs.lemmas.List.{length-map, length-take-le, map_push, set-get_or, take_more, take_rest}
use mir.Syntax.{w64}
use mir.Val.{to_z, of_z}
use Rattle.yq_core.{specs.Values.{items, entries}, specs.Numbers.{unsigned, minus}}
use Rattle.yq_core.{specs.Paths.{To, child_at, change_child, append_child, append_children}, specs.SchemaReading.resolve}
use Rattle.yq_core.{specs.Tree.{Node, Children, none, child, key_label}, proofs.SchemaLaws.resolve_again}
use Rattle.yq_planner.{specs.EntryNumbers.{entry_number, number_kept}, specs.Repeated.sum_times}
use Rattle.yq_semantics.{specs.Judgement.{ExprError, Judgement, Judges, MatchFails, and_then, gives, refuses}, specs.Places.FoundPlace}
use Rattle.yq_semantics.specs.Program.{Term}
use Rattle.yq_semantics.specs.RightValues.{as_items, with_entry, with_entries, value_sum, sum, term_value, sum_from, right_value}
use Rattle.yq_core.specs.Numbers as numbers
use Rattle.yq_core.specs.Tree as tree
use Rattle.yq_core.specs.declared.kind.Kind.TheVariants as kinds

-- ---- ints

-- a number of 64 bits is written as an int
pub int_written : (z : ℤ) → FitsSigned w64 z → resolve (signed_decimal z) ≡ kinds.Int
int_written (pos n) h =
    let small : n < 2 ^ 63 = h.sfits in
    resolve_again (decimal n) kinds.Int (_, (numbers.decimal unsigned (decimal n), refl, (decimal_is_IsNumeral n (omega (arith, small))).0, refl))
int_written (negsuc n) h =
    let small : n < 2 ^ 63 = h.sfits in
    resolve_again (signed_decimal (negsuc n)) kinds.Int (_, (numbers.decimal minus (decimal (suc n)), refl, (decimal_is_IsNumeral (suc n) (omega (arith, small))).0, refl))

-- a number that is passed on is the same
pub int_agrees : (z : ℤ) (t : List ℕ) → FitsSigned w64 z → t ≡ signed_decimal (to_z w64 (of_z w64 z)) → t ≡ signed_decimal z
int_agrees z t fits e = e ∙ ap signed_decimal (to_z-of_z w64 z fits)

-- ---- items and entries

-- one item more
pub item_more : (xs : List Node) (x : Node) (ds : Children) → append_children (items (xs ++ x ∷ [])) ds ≡ append_children (items xs) (child (key_label None) x ds)
item_more [] x ds = refl
item_more (y ∷ xs) x ds = ap (child (key_label None) y) (item_more xs x ds)

-- after items there is nothing more
pub followed_none : (cs : Children) → append_children cs none ≡ cs
followed_none none = refl
followed_none (child label n cs) = ap (child label n) (followed_none cs)

item_last : (xs : List Node) (x : Node) → items (xs ++ x ∷ []) ≡ append_children (items xs) (child (key_label None) x none)
item_last xs x = sym (followed_none (items (xs ++ x ∷ []))) ∙ item_more xs x none

-- a value that is no list is one item
pub one_item : (xs : List Node) (x v m : Node) → x ≡ m → v ≡ m → as_items m ≡ child (key_label None) m none → items (xs ++ x ∷ []) ≡ append_children (items xs) (as_items v)
one_item xs x v m a b one = search (rules, item_last)

-- an entry after others
pub entry_last : (k : List ℕ) (v : Node) (es : List (List ℕ × Node)) → append_child (key_label (Some k)) v (entries es) ≡ entries (es ++ (k, v) ∷ [])
entry_last k v [] = refl
entry_last k v (e ∷ es) = ap (child (key_label (Some e.0)) e.1) (entry_last k v es)

mapped_none : {A B : Type 0} (f : A → B) (o : Option A) → option_map f o ≡ None → o ≡ None
mapped_none f o h = search rules

-- no entry has a key that has no number
pub none_there : (k : List ℕ) (es : List (List ℕ × Node)) → entry_number k es ≡ None → is_some (child_at (To k) (entries es)) ≡ false
none_there k [] h = refl
none_there k (e ∷ es) h = go (bytes_eq e.0 k) (none_there k es) h
  where
    go : (b : Bool) → (entry_number k es ≡ None → is_some (child_at (To k) (entries es)) ≡ false) → cond b (Some 0) (option_map suc (entry_number k es)) ≡ None → is_some (cond b (Some e.1) (child_at (To k) (entries es))) ≡ false
    go true rest h = absurd (cc)
    go false rest h = rest (mapped_none suc (entry_number k es) h)

mapped_some : (o : Option ℕ) (i : ℕ) → option_map suc o ≡ Some i → (j : ℕ) × (o ≡ Some j) × (suc j ≡ i)
mapped_some o i h = search rules

-- the entry of a key's number has that key
pub some_there : (k : List ℕ) (es : List (List ℕ × Node)) (i : ℕ) → entry_number k es ≡ Some i → is_some (child_at (To k) (entries es)) ≡ true
some_there k [] i h = absurd (cc)
some_there k (e ∷ es) i h = go (bytes_eq e.0 k) (some_there k es) h
  where
    go : (b : Bool) → ((j : ℕ) → entry_number k es ≡ Some j → is_some (child_at (To k) (entries es)) ≡ true) → cond b (Some 0) (option_map suc (entry_number k es)) ≡ Some i → is_some (cond b (Some e.1) (child_at (To k) (entries es))) ≡ true
    go true rest h = refl
    go false rest h = let j = mapped_some (entry_number k es) i h in rest j.0 j.1

-- and it is one of them
pub number_within : (k : List ℕ) (es : List (List ℕ × Node)) (i : ℕ) → entry_number k es ≡ Some i → i < length es
number_within k [] i h = absurd (cc)
number_within k (e ∷ es) i h = go (bytes_eq e.0 k) (number_within k es) h
  where
    go : (b : Bool) → ((j : ℕ) → entry_number k es ≡ Some j → j < length es) → cond b (Some 0) (option_map suc (entry_number k es)) ≡ Some i → i < suc (length es)
    go true rest h = let zero : i ≡ 0 = cc in omega (arith, zero)
    go false rest h =
        let j = mapped_some (entry_number k es) i h in
        let below = rest j.0 j.1 in
        let next = j.2 in
        omega (arith, below, next)

-- its value is changed where its entry is
changed_there : (k : List ℕ) (es : List (List ℕ × Node)) (i : ℕ) (j : List ℕ) (v : Node) (d : List ℕ × Node) → entry_number k es ≡ Some i → (get_or es i d).0 ≡ j → change_child (To k) (λ old. v) (entries es) ≡ entries (set es i (j, v))
changed_there k [] i j v d h is = absurd (cc)
changed_there k (e ∷ es) zero j v d h is = search (rules, mapped_some, set)
changed_there k (e ∷ es) (suc i) j v d h is = go (bytes_eq e.0 k) (λ g. changed_there k es i j v d g is) h
  where
    go : (b : Bool) → (entry_number k es ≡ Some i → change_child (To k) (λ old. v) (entries es) ≡ entries (set es i (j, v))) → cond b (Some 0) (option_map suc (entry_number k es)) ≡ Some (suc i)
        → cond b (child (key_label (Some e.0)) v (entries es)) (child (key_label (Some e.0)) e.1 (change_child (To k) (λ old. v) (entries es))) ≡ child (key_label (Some e.0)) e.1 (entries (set es i (j, v)))
    go true rest h = absurd (cc)
    go false rest h =
        let n = mapped_some (entry_number k es) (suc i) h in
        let same : n.0 ≡ i = omega (arith, n.2) in
        ap (child (key_label (Some e.0)) e.1) (rest (n.1 ∙ ap Some same))

-- a value for a key that is there
pub with_present : (k : List ℕ) (es : List (List ℕ × Node)) (i : ℕ) (j : List ℕ) (v : Node) (d : List ℕ × Node) → entry_number k es ≡ Some i → (get_or es i d).0 ≡ j → with_entry (Some k) v (entries es) ≡ entries (set es i (j, v))
with_present k es i j v d h is = rw (some_there k es i h) (changed_there k es i j v d h is)

-- a value that is there for a key already
pub with_held : (k : List ℕ) (es : List (List ℕ × Node)) (i : ℕ) (d : List ℕ × Node) → entry_number k es ≡ Some i → with_entry (Some k) (get_or es i d).1 (entries es) ≡ entries es
with_held k es i d h = with_present k es i (get_or es i d).0 (get_or es i d).1 d h refl ∙ ap (λ (xs : List (List ℕ × Node)). entries xs) (set-get_or es i d)

-- a value for a key that isn't
pub with_absent : (k : List ℕ) (es : List (List ℕ × Node)) (v : Node) → entry_number k es ≡ None → with_entry (Some k) v (entries es) ≡ entries (es ++ (k, v) ∷ [])
with_absent k es v h = rw (none_there k es h) (entry_last k v es)

-- one more entry
pub number_last : (k : List ℕ) (es : List (List ℕ × Node)) (e : List ℕ × Node) → entry_number k (es ++ e ∷ []) ≡ number_kept k (entry_number k es) e.0 (length es)
number_last k [] e = search rules
number_last k (x ∷ es) e = go (bytes_eq x.0 k) (number_last k es e)
  where
    cases : (b : Bool) → option_map suc (cond b (Some (length es)) None) ≡ cond b (Some (suc (length es))) None
    cases true = refl
    cases false = refl

    later : (o : Option ℕ) → option_map suc (number_kept k o e.0 (length es)) ≡ number_kept k (option_map suc o) e.0 (suc (length es))
    later (Some i) = refl
    later None = cases (bytes_eq e.0 k)

    go : (b : Bool) → entry_number k (es ++ e ∷ []) ≡ number_kept k (entry_number k es) e.0 (length es) →
        cond b (Some 0) (option_map suc (entry_number k (es ++ e ∷ []))) ≡ number_kept k (cond b (Some 0) (option_map suc (entry_number k es))) e.0 (suc (length es))
    go true h = refl
    go false h = ap (option_map suc) h ∙ later (entry_number k es)

-- an entry whose value is exchanged keeps its number
pub number_same : (k : List ℕ) (es : List (List ℕ × Node)) (i : ℕ) (j : List ℕ) (v : Node) (d : List ℕ × Node) → i < length es → (get_or es i d).0 ≡ j → entry_number k (set es i (j, v)) ≡ entry_number k es
number_same k [] i j v d within is = absurd (omega (arith, within))
number_same k (e ∷ es) zero j v d within is = ap (λ (key : List ℕ). cond (bytes_eq key k) (Some 0) (option_map suc (entry_number k es))) (sym is)
number_same k (e ∷ es) (suc i) j v d within is = ap (λ o. cond (bytes_eq e.0 k) (Some 0) (option_map suc o)) (number_same k es i j v d (omega (arith, within)) is)

counted : {X Y : Type 0} (f : X → Y) (xs : List X) (i : ℕ) → i < length xs → length (map f (take i xs)) ≡ i
counted f xs i within = length-map (take i xs) f ∙ length-take-le i xs (omega arith)

-- one more entry of several
pub numbered_more : {X : Type 0} (f : X → List ℕ × Node) (xs : List X) (i : ℕ) (x : X) (key k : List ℕ) (old new : Option ℕ) → i < length xs → x ≡ get_or xs i x → key ≡ (f x).0 →
    old ≡ entry_number k (map f (take i xs)) → new ≡ number_kept k old key i → new ≡ entry_number k (map f (take (i + 1) xs))
numbered_more {X} f xs i x key k old new within is named before kept =
    let es : List (List ℕ × Node) = map f (take i xs) in
    cc (counted f xs i within, number_last k es (f x), map_push f (take i xs) x, take_more xs i x within)

-- one after all
pub numbered_push : {X : Type 0} (f : X → List ℕ × Node) (xs all : List X) (x : X) (key k : List ℕ) (n : ℕ) (old new : Option ℕ) → key ≡ (f x).0 → n ≡ length xs →
    old ≡ entry_number k (map f xs) → new ≡ number_kept k old key n → all ≡ xs ++ x ∷ [] → new ≡ entry_number k (map f all)
numbered_push {X} f xs all x key k n old new named many before kept pushed = search (rules, length-map, number_last, map_push)

-- a view of one element
pub map_get : {A B : Type 0} (f : A → B) (xs : List A) (i : ℕ) (d : A) → get_or (map f xs) i (f d) ≡ f (get_or xs i d)
map_get f (y ∷ xs) (suc i) d = map_get f xs i d
map_get f _ _ d = refl

-- the entries of two mappings
pub map_sum : (n m : Node) (es ds : List (List ℕ × Node)) (cs : Children) → n ≡ tree.map None (entries es) → m ≡ tree.map None (entries ds) → cs ≡ with_entries (entries es) (entries ds) → value_sum n m ≡ gives (tree.map None cs)
map_sum n m es ds cs a b h = search rules

-- the sum of two mappings of which the first one holds the other one's entries
pub held_sum : (n m : Node) (es ds : List (List ℕ × Node)) → n ≡ tree.map None (entries es) → m ≡ tree.map None (entries ds) → with_entries (entries es) (entries ds) ≡ entries es → sum n m ≡ gives n
held_sum n m es ds a b h = rw (a, b) (ap (λ (cs : Children). gives (tree.map None cs)) h)

-- ---- terms

-- the first of three steps and the second are one step before the third
joined_steps : {A B C : Type 0} (f : A → Judgement B) (g : B → Judgement C) (j : Judgement A) → and_then (λ x. and_then g (f x)) j ≡ and_then g (and_then f j)
joined_steps f g j = search rules

same_then : {A B : Type 0} (f g : A → Judgement B) (j : Judgement A) → ((x : A) → f x ≡ g x) → and_then f j ≡ and_then g j
same_then f g j h = search rules

-- what changes nothing if it is added changes nothing if it is added several times
pub settled : (n : ℕ) (v total : Node) → sum total v ≡ gives total → sum_times n v total ≡ gives total
settled zero v total h = refl
settled (suc n) v total h = rw h (settled n v total h)

-- the first of several times
pub time_more : (n : ℕ) (v total next : Node) (all : Judgement Node) → 0 < n → sum total v ≡ gives next → sum_times n v total ≡ all → sum_times (n - 1) v next ≡ all
time_more n v total next all some h is = one n (n - 1) (omega (arith, some)) is
  where
    one : (n left : ℕ) → n ≡ suc left → sum_times n v total ≡ all → sum_times left v next ≡ all
    one n left e so_far = sym (ap (and_then (sum_times left v)) h) ∙ subst (λ k. sum_times k v total ≡ all) e so_far

pub time_fails : (n : ℕ) (v total : Node) (all : Judgement Node) (e : ExprError) → 0 < n → MatchFails e (sum total v) → sum_times n v total ≡ all → MatchFails e all
time_fails zero v total all e some h is = absurd (omega (arith, some))
time_fails (suc n) v total all e some h is = search rules

-- after the last one
pub times_done : (n : ℕ) (v total : Node) (all : Judgement Node) → n ≤ 0 → sum_times n v total ≡ all → all ≡ gives total
times_done zero v total all last is = sym is
times_done (suc n) v total all last is = absurd (omega (arith, last))

-- an error is what a judgement fails with
pub failed : {X Y : Type 0} (view : X → Y) (r : Result X ExprError) (e : ExprError) (j : Judgement Y) → r ≡ Err e → MatchFails e j → Judges view r j
failed view r e j is h = subst (λ q. Judges view q j) (sym is) h

-- a term several times, of which the value is known
known_terms : (doc : ℕ) (p : FoundPlace) (t : Term) (v : Node) (n : ℕ) (ts : List Term) (total : Node) → term_value doc p t ≡ gives v →
    sum_from doc p total (replicate n t ++ ts) ≡ and_then (λ w. sum_from doc p w ts) (sum_times n v total)
known_terms doc p t v zero ts total is = refl
known_terms doc p t v (suc n) ts total is =
    ap (and_then (λ u. and_then (λ w. sum_from doc p w (replicate n t ++ ts)) (sum total u))) is
    ∙ (same_then (λ w. sum_from doc p w (replicate n t ++ ts)) (λ w. and_then (λ x. sum_from doc p x ts) (sum_times n v w)) (sum total v) (λ w. known_terms doc p t v n ts w is)
    ∙ joined_steps (sum_times n v) (λ x. sum_from doc p x ts) (sum total v))

-- a term several times
pub same_terms : (doc : ℕ) (p : FoundPlace) (t : Term) (n : ℕ) (ts : List Term) (total : Node) → 0 < n →
    sum_from doc p total (replicate n t ++ ts) ≡ and_then (λ w. sum_from doc p w ts) (and_then (λ v. sum_times n v total) (term_value doc p t))
same_terms doc p t zero ts total some = absurd (omega (arith, some))
same_terms doc p t (suc n) ts total some = go (term_value doc p t) refl
  where
    go : (j : Judgement Node) → term_value doc p t ≡ j → sum_from doc p total (replicate (suc n) t ++ ts) ≡ and_then (λ w. sum_from doc p w ts) (and_then (λ v. sum_times (suc n) v total) j)
    go (refuses why) is = ap (and_then (λ u. and_then (λ w. sum_from doc p w (replicate n t ++ ts)) (sum total u))) is
    go (gives v) is = known_terms doc p t v (suc n) ts total is

-- the first term and the others
pub right_on : {X : Type 0} (view : X → Term) (doc : ℕ) (p : FoundPlace) (xs : List X) (x : X) (v : Node) → 0 < length xs → x ≡ get_or xs 0 x → term_value doc p (view x) ≡ gives v →
    right_value doc (map view xs) p ≡ sum_from doc p v (map view (take (length xs - 1) (drop 1 xs)))
right_on view doc p [] x v some is h = absurd (omega (arith, some))
right_on {X} view doc p (y ∷ ys) x v some is h = cc (take_rest (y ∷ ys) 1)
