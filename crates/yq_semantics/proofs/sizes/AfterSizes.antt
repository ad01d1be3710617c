-- How many items and entries are in documents after an operation that puts or adds some.
use Rattle.std.proofs.Common.{◌≡◌, ℕ, zero, suc, ◌+◌, ◌≤◌, Bool, true, false, List, [], ◌∷◌, Option, Some, None, option_and_then}
use Rattle.std.{proofs.Common.{if◌then◌else◌, refl, arith, rules}, proofs.lemmas.Option.{none-some, same_Some}, specs.List.slice_get}
use Rattle.yq_core.specs.Tree.{Label, Node, alias, scalar, list, map, Children, none, child, children_of, anchor_of, key_label}
use Rattle.yq_core.specs.Paths.{Step, is_here, further, child_at, node_at, change_child, append_child, within, changed_at}
use Rattle.yq_documents.{specs.Documents.Document, specs.TreeEdits.{change_nth, replaced_node, led, headed}}
use Rattle.yq_semantics.{specs.Sizes.{items_in, items_among, items_of_all}, specs.After.{after_op, done_to}, specs.Changes.Room}
use Rattle.yq_semantics.{specs.Operations.{replace, append}, specs.Fits.{Fits, Takes}, proofs.sizes.RowSizes.under_anchor}

append_size : (l : Label) (v : Node) (cs : Children) → items_among (append_child l v cs) ≡ items_among cs + suc (items_in v)
append_size l v none = omega arith
append_size l v (child first n cs) = omega (arith, append_size l v cs)

headed_size : (texts : List (List ℕ)) (cs : Children) → items_among (headed texts cs) ≡ items_among cs
headed_size texts none = refl
headed_size texts (child l n cs) = refl

pub led_size : (block : Bool) (lead : List (List ℕ)) (path : List Step) (v : Node) → items_in (led block lead path v) ≡ items_in v
led_size true lead [] (alias n) = refl
led_size true lead [] (scalar a k t) = refl
led_size true lead [] (list a cs) = headed_size lead cs
led_size true lead [] (map a cs) = headed_size lead cs
led_size false lead [] v = refl
led_size block lead (s ∷ path) v = search rules

-- what is changed at a step, or a path, by how much more or less is in the node there
child_size : (s : Step) (f : Node → Node) (cs : Children) (n : Node) → child_at s cs ≡ Some n →
    items_among (change_child s f cs) + items_in n ≡ items_among cs + items_in (f n)
child_size s f none n h = absurd (none-some _ h)
child_size s f (child l m cs) n h = go (λ e. child_size (further s) f cs n e) (is_here s l) h
  where
    Inside : Type 0
    Inside = child_at (further s) cs ≡ Some n → items_among (change_child (further s) f cs) + items_in n ≡ items_among cs + items_in (f n)

    go : Inside → (here : Bool) → (if here then Some m else child_at (further s) cs) ≡ Some n →
        items_among (if here then child l (f m) cs else child l m (change_child (further s) f cs)) + items_in n ≡ suc (items_in m + items_among cs) + items_in (f n)
    go inside true e = let same : m ≡ n = same_Some m n e in rw same (omega arith)
    go inside false e = omega (arith, inside e)

within_size : (g : Children → Children) (n : Node) (extra less : ℕ) → items_among (g (children_of n)) + less ≡ items_among (children_of n) + extra → (children_of n ≡ none → ⊥) →
    items_in (within g n) + less ≡ items_in n + extra
within_size g (alias a) extra less h some = absurd (some refl)
within_size g (scalar a k t) extra less h some = absurd (some refl)
within_size g (list a cs) extra less h some = h
within_size g (map a cs) extra less h some = h

no_child : (s : Step) (cs : Children) (n : Node) → child_at s cs ≡ Some n → cs ≡ none → ⊥
no_child s none n h e = none-some _ h
no_child s (child l m cs) n h e = absurd (cc)

pub path_size : (path : List Step) (f : Node → Node) (root n : Node) → node_at path root ≡ Some n → items_in (changed_at path f root) + items_in n ≡ items_in root + items_in (f n)
path_size [] f root n h = let same : root ≡ n = same_Some root n h in rw same (omega arith)
path_size (s ∷ ss) f root n h = go (λ m k. path_size ss f m n k) (child_at s (children_of root)) refl h
  where
    Inside : Type 0
    Inside = (m : Node) → node_at ss m ≡ Some n → items_in (changed_at ss f m) + items_in n ≡ items_in m + items_in (f n)

    go : Inside → (found : Option Node) → child_at s (children_of root) ≡ found → option_and_then (node_at ss) found ≡ Some n →
        items_in (within (change_child s (changed_at ss f)) root) + items_in n ≡ items_in root + items_in (f n)
    go below None e k = absurd (none-some _ k)
    go below (Some m) e k =
        let inside = below m k in
        let here = child_size s (changed_at ss f) (children_of root) m e in
        let there : items_in (within (change_child s (changed_at ss f)) root) + items_in m ≡ items_in root + items_in (changed_at ss f m) =
        within_size (change_child s (changed_at ss f)) root _ _ here (no_child s (children_of root) m e) in
        omega (arith, inside, there)

-- documents with one changed
pub nth_size : (n : ℕ) (f : Document → Document) (docs : List Document) (d : Document) → slice_get docs n ≡ Some d →
    items_of_all (change_nth n f docs) + items_in d.root ≡ items_of_all docs + items_in (f d).root
nth_size n f [] d h = absurd (none-some _ h)
nth_size zero f (x ∷ xs) d h = let same : x ≡ d = same_Some x d h in rw same (omega arith)
nth_size (suc n) f (x ∷ xs) d h = omega (arith, nth_size n f xs d h)

-- a node at a path, or a document, has no more than what it is in
path_holds : (path : List Step) (root n : Node) → node_at path root ≡ Some n → items_in n ≤ items_in root
path_holds path root n h = omega (arith, path_size path (λ m. alias []) root n h)

pub nth_holds : (n : ℕ) (docs : List Document) (d : Document) → slice_get docs n ≡ Some d → items_in d.root ≤ items_of_all docs
nth_holds n docs d h = omega (arith, nth_size n (λ d. record { lead = []; root = alias [] }) docs d h)

-- after a value is put, documents hold what is in it at least
pub replaced_size : (rooms : ℕ → Room) (doc : ℕ) (path : List Step) (v : Node) (docs : List Document) → Fits rooms (replace doc path v) docs →
    items_in v ≤ items_of_all (after_op rooms (replace doc path v) docs)
replaced_size rooms doc path v docs h =
    let d = h.0 in
    let old = h.2.1.0 in
    let block = (rooms doc).block in
    let there = path_size path (replaced_node (led block d.lead path v)) d.root old h.2.1.1 in
    let all = nth_size doc (done_to block (replace doc path v)) docs d h.1 in
    omega (arith, there, all, path_holds path d.root old h.2.1.1, nth_holds doc docs d h.1, under_anchor (anchor_of old) (led block d.lead path v), led_size block d.lead path v)

within_append : (k : Option (List ℕ)) (v n : Node) → Takes k n → items_in (within (append_child (key_label k) v) n) ≡ items_in n + suc (items_in v)
within_append None v n h = rw h.2 (append_size (key_label None) v h.1)
within_append (Some k) v n h = rw h.2 (append_size (key_label (Some k)) v h.1)

-- after an item or entry is added, there is one more, and what is in it
pub appended_size : (rooms : ℕ → Room) (doc : ℕ) (path : List Step) (k : Option (List ℕ)) (v : Node) (docs : List Document) → Fits rooms (append doc path k v) docs →
    items_of_all (after_op rooms (append doc path k v) docs) ≡ items_of_all docs + suc (items_in v)
appended_size rooms doc path k v docs h =
    let d = h.0 in
    let old = h.2.2.0 in
    let there = path_size path (within (append_child (key_label k) v)) d.root old h.2.2.1 in
    let all = nth_size doc (done_to (rooms doc).block (append doc path k v)) docs d h.1 in
    omega (arith, there, all, within_append k v old h.2.2.2)
