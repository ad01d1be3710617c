-- The operations of valid changes have valid values.
use Rattle.std.{proofs.Common.{ℕ, suc, Bool, true, false, List, [], ◌∷◌, ◌++◌, map, reverse, sym, subst}, proofs.lemmas.List.reverse-append}
use Rattle.yq_core.{specs.Entries.tree_step, specs.Paths.Step}
use Rattle.yq_semantics.specs.Changes.{Addition, appends, overwrites, Change, replaces, adds, removes, sets_comment, Changed}
use Rattle.yq_semantics.specs.Plans.{add_op, all_ops, change_ops, ops_of, ordered}
use Rattle.yq_planner.specs.ChangeView.{all_changes_under, changes_below, changes_under}
use Rattle.yq_planner.specs.declared.updating.change.ChangesUnder.{ChangesUnder}
use Rattle.yq_planner.specs.ValidChanges.{AddsValid, AreAllValid, AreValidChanges, Each, HasValidValue, HaveValidValues, IsValidChange}
use Rattle.yq_planner.specs.declared.updating.change.PlacedChange.{PlacedChange}
use Rattle.yq_semantics.specs.declared.program.CommentPlace as place

-- of each of two lists, and of one more
pub each_joined : {X : Type 0} (P : X → Type 0) (xs ys : List X) → Each P xs → Each P ys → Each P (xs ++ ys)
each_joined P [] ys h k = k
each_joined P (x ∷ xs) ys h k = (h.0, each_joined P xs ys h.1 k)

pub each_more : {X : Type 0} (P : X → Type 0) (xs : List X) (x : X) → Each P xs → P x → Each P (xs ++ x ∷ [])
each_more P xs x h k = each_joined P xs (x ∷ []) h (k, tt)

-- what holds of each as it is seen
pub seen_each : {X Y : Type 0} (P : Y → Type 0) (f : X → Y) (xs : List X) → Each (λ x. P (f x)) xs → Each P (map f xs)
seen_each P f [] h = tt
seen_each P f (x ∷ xs) h = (h.0, seen_each P f xs h.1)

turned : {X : Type 0} (P : X → Type 0) (xs : List X) → Each P xs → Each P (reverse xs)
turned P [] h = tt
turned P (x ∷ xs) h = subst (Each P) (sym (reverse-append (x ∷ []) xs)) (each_joined P (reverse xs) (x ∷ []) (turned P xs h.1) (h.0, tt))

added : (doc : ℕ) (path : List Step) (xs : List Addition) → Each AddsValid xs → HaveValidValues (map (add_op doc path) xs)
added doc path [] h = tt
added doc path (appends k v ∷ xs) h = (h.0, added doc path xs h.1)
added doc path (overwrites k v ∷ xs) h = (h.0, added doc path xs h.1)

changed : (doc : ℕ) (path : List Step) (c : Change) → IsValidChange c → HaveValidValues (change_ops doc (path, c))
changed doc path (replaces v) h = (h, tt)
changed doc path (adds xs) h = added doc path xs h
changed doc path removes h = (tt, tt)
changed doc path (sets_comment place.TheVariants.Line text) h = (tt, tt)
changed doc path (sets_comment place.TheVariants.Head text) h = (tt, tt)

all_changed : (doc : ℕ) (cs : List Changed) → Each (λ c. IsValidChange c.1) cs → HaveValidValues (ops_of doc cs)
all_changed doc [] h = tt
all_changed doc (c ∷ cs) h = each_joined HasValidValue (change_ops doc c) (ops_of doc cs) (changed doc c.0 c.1 h.0) (all_changed doc cs h.1)

changes_below_valid : (front : List Step) (cs : List PlacedChange) → AreValidChanges cs → Each (λ c. IsValidChange c.1) (changes_below front cs)
changes_below_valid front [] h = tt
changes_below_valid front (c ∷ cs) h = (h.0, changes_below_valid front cs h.1)

-- operations of valid changes
pub ops_valid : (doc : ℕ) (x : ChangesUnder) → AreValidChanges x.changes.items → HaveValidValues (ops_of doc (changes_under x))
ops_valid doc x h = all_changed doc (changes_under x) (changes_below_valid (map tree_step x.front.items) x.changes.items h)

ordered_valid : (doc : ℕ) (removal : Bool) (x : ChangesUnder) → AreValidChanges x.changes.items → HaveValidValues (ops_of doc (ordered removal (changes_under x)))
ordered_valid doc true x h =
    all_changed doc (reverse (changes_under x)) (turned (λ c. IsValidChange c.1) (changes_under x) (changes_below_valid (map tree_step x.front.items) x.changes.items h))
ordered_valid doc false x h = ops_valid doc x h

-- the same in each document
pub all_ops_valid : (removal : Bool) (doc : ℕ) (xs : List ChangesUnder) → AreAllValid xs → HaveValidValues (all_ops removal doc (all_changes_under xs))
all_ops_valid removal doc [] h = tt
all_ops_valid removal doc (x ∷ xs) h =
    each_joined HasValidValue (ops_of doc (ordered removal (changes_under x))) (all_ops removal (suc doc) (all_changes_under xs)) (ordered_valid doc removal x h.0) (all_ops_valid removal (suc doc) xs h.1)
