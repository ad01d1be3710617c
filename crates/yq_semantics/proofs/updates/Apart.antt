-- What is done at one place leaves the node of another as it is, and two such changes may be made in either order.
use Rattle.std.proofs.Common.{◌≡◌, ◌≢◌, ℕ, zero, suc, ◌+◌, ◌<◌, Bool, true, false, cond, List, [], ◌∷◌, Option, Some, None, option_map}
use Rattle.std.proofs.Common.{option_and_then, refl, sym, ap, subst, ◌∙◌, arith, rules}
use Rattle.std.proofs.lemmas.Bool.{cases_Bool, cond-false, cond-true, cond_both}
use Rattle.yq_core.specs.Tree.{Label, Node, Children, none, child, children_of}
use Rattle.yq_core.{specs.Paths.{Step, To, Nth, key_is, is_item, child_at, node_at, changed_at}, specs.PathOrder.{Before, Apart}}
use Rattle.yq_core.specs.Shapes.{AreItems, AreEntries, IsTree}
use Rattle.yq_semantics.specs.NodeEdits.{NodeEdit, becomes, goes, NodeEdits, under, done_at, child_by, node_edit_inside, each_at_once}
use Rattle.yq_semantics.{specs.NodeEdits.{at_once, same_path, and_at, done_by}, specs.Places.step_by, proofs.updates.AtOnce.one_more}
use Rattle.yq_semantics.{proofs.ChildPlaces.{child_tree, children_tree}, proofs.PathLaws.{apart_root, bytes_refl, bytes_same}}
use Rattle.yq_semantics.proofs.updates.Spares.{IsSpared, Spares, spares_root, spares_under, spares_after, nothing, idle, child_done}
use Rattle.yq_semantics.proofs.updates.Spares.{node_edits_same, child_kept_or_gone}
use Rattle.yq_semantics.{proofs.updates.Folds.{path_same, apart_irrefl, apart_sym}, proofs.updates.OneAt.one_becomes}

-- ---- the child to which a step leads

-- the first child by what is done at it
abbrev first_by : Option NodeEdit → Option (List ℕ) → List (List ℕ) → Option (List ℕ) → Node → Children → Children
first_by d o hc lc m rest = child_by d (record { key = o; head_comment = hc; line_comment = lc }) m rest

find_past_key : (k : List ℕ) (o : Option (List ℕ)) (hc : List (List ℕ)) (lc : Option (List ℕ)) → key_is k o ≡ false → (d : Option NodeEdit) (m : Node) (rest : Children) → child_at (To k) (first_by d o hc lc m rest) ≡ child_at (To k) rest
find_past_key k o hc lc e d m rest = search (rules, child_kept_or_gone, cond-false)

find_past_item : (r : ℕ) (d : Option NodeEdit) → d ≢ Some goes → (label : Label) (m : Node) (rest : Children) → child_at (Nth (suc r)) (child_by d label m rest) ≡ child_at (Nth r) rest
find_past_item r d stays label m rest = search (rules, child_kept_or_gone)

-- an item is no entry
pub no_entry : (r : ℕ) (cs : Children) → AreEntries cs → child_at (Nth r) cs ≡ None
no_entry r none h = refl
no_entry zero (child label n cs) h = ap (λ (o : Option (List ℕ)). cond (is_item o) (Some n) (child_at (Nth 0) cs)) h.0.1 ∙ no_entry 0 cs h.1
no_entry (suc r) (child label n cs) h = no_entry r cs h.1

find_past_entry : (r : ℕ) (k : List ℕ) (hc : List (List ℕ)) (lc : Option (List ℕ)) (d : Option NodeEdit) (m : Node) (rest : Children) → ((j : ℕ) → child_at (Nth j) rest ≡ None) → child_at (Nth r) (first_by d (Some k) hc lc m rest) ≡ None
find_past_entry r k hc lc d m rest ih = search (rules, child_kept_or_gone)

no_entry_done : (f : NodeEdits) (i r : ℕ) (cs : Children) → AreEntries cs → child_at (Nth r) (each_at_once f i cs) ≡ None
no_entry_done f i r none h = refl
no_entry_done f i r (child label n cs) h =
    subst (λ (o : Option (List ℕ)). child_at (Nth r) (child_done (under (step_by i o) f) (record { key = o; head_comment = label.head_comment; line_comment = label.line_comment }) n (each_at_once f (suc i) cs)) ≡ None) (sym h.0.1)
    (find_past_entry r h.0.0 label.head_comment label.line_comment (f (To h.0.0 ∷ [])) (at_once (under (To h.0.0) f) n) (each_at_once f (suc i) cs) (λ j. no_entry_done f (suc i) j cs h.1))

-- what the step leads to afterwards
abbrev done_child : Step → NodeEdits → Option Node → Option Node
done_child s f o = option_map (at_once (under s f)) o

find_key : (k : List ℕ) (f : NodeEdits) → f (To k ∷ []) ≡ None → (i : ℕ) (cs : Children) → child_at (To k) (each_at_once f i cs) ≡ done_child (To k) f (child_at (To k) cs)
find_key k f free i none = refl
find_key k f free i (child label n cs) =
    search (rules, child_done, cond-true, bytes_refl, find_past_key, cond-false, cases_Bool, bytes_same, find_key k f free (suc i) cs)

find_item : (r m : ℕ) (f : NodeEdits) → f (Nth m ∷ []) ≡ None → ((i : ℕ) → f (Nth i ∷ []) ≡ Some goes → m < i) → (i : ℕ) → i + r ≡ m → (cs : Children) → AreItems cs → child_at (Nth r)
    (each_at_once f i cs) ≡ done_child (Nth m) f (child_at (Nth r) cs)
find_item r m f free after i is none items = refl
find_item zero m f free after i is (child label n cs) items = search (rules, child_done, find_past_item)
find_item (suc r) m f free after i is (child label n cs) items =
    let next : suc i + r ≡ m = omega (arith, is) in
    search (rules, child_done, find_past_item, find_item r m f free after (suc i) next cs items.1)

find_inside : (s : Step) (f : NodeEdits) → f (s ∷ []) ≡ None → ((m i : ℕ) → s ≡ Nth m → f (Nth i ∷ []) ≡ Some goes → m < i) → (n : Node) → IsTree n →
    child_at s (children_of (node_edit_inside f n)) ≡ done_child s f (child_at s (children_of n))
find_inside s f h1 h2 n h3 = search (rules, find_key, find_item, no_entry_done, no_entry)

-- what is done elsewhere leaves the node at a path as it is
pub node_spared : (p : List Step) (f : NodeEdits) (n : Node) → IsTree n → Spares f p → node_at p (at_once f n) ≡ node_at p n
node_spared [] f n tree spared = ap Some (idle f n (λ q. nothing (f q) [] q (apart_root q) (spared q)))
node_spared (s ∷ p) f n tree spared =
    let below : Spares (under s f) p = spares_under f s p spared in
    let after : (m i : ℕ) → s ≡ Nth m → f (Nth i ∷ []) ≡ Some goes → m < i =
    λ m i is gone. spares_after m i p (subst (λ (t : Step). Before (t ∷ p) (Nth i ∷ [])) is (subst (λ (d : Option NodeEdit). IsSpared d (s ∷ p) (Nth i ∷ [])) gone (spared (Nth i ∷ [])))) in
    ap (λ (d : Option NodeEdit). node_at (s ∷ p) (done_at d n (node_edit_inside f n))) (spares_root f (s ∷ p) spared)
    ∙ (ap (option_and_then (node_at p)) (find_inside s f (spares_root (under s f) p below) after n tree)
    ∙ go (child_at s (children_of n)) (λ m is. node_spared p (under s f) m (child_tree s (children_of n) m (children_tree n tree) is) below))
  where
    go : (o : Option Node) → ((m : Node) → o ≡ Some m → node_at p (at_once (under s f) m) ≡ node_at p m) → option_and_then (node_at p) (done_child s f o) ≡ option_and_then (node_at p) o
    go o ih = search rules

-- ---- two changes

-- a node that becomes another, and nothing else
abbrev alone : List Step → (Node → Node) → NodeEdits
alone p g = and_at p (becomes g) (done_by [])

spares_alone : (p q : List Step) (g : Node → Node) → Apart p q → Spares (alone q g) p
spares_alone p q g h r = cond_both (same_path q r) (Some (becomes g)) None (λ d. IsSpared d p r) (λ e. subst (Apart p) (path_same q r e) h) (λ e. tt)

alone_is : (p : List Step) (g : Node → Node) (n : Node) → IsTree n → at_once (alone p g) n ≡ changed_at p g n
alone_is p g n tree = search (rules, one_more, idle, one_becomes)

-- a change of one node leaves the node at a path that is apart as it is
pub node_apart : (p q : List Step) (g : Node → Node) (n : Node) → IsTree n → Apart p q → node_at p (changed_at q g n) ≡ node_at p n
node_apart p q g n tree h = ap (node_at p) (sym (alone_is q g n tree)) ∙ node_spared p (alone q g) n tree (spares_alone p q g h)

both : (p q : List Step) (f g : Node → Node) (n : Node) → IsTree n → Apart p q → at_once (and_at p (becomes f) (alone q g)) n ≡ changed_at p f (changed_at q g n)
both p q f g n tree h = simp (one_more, spares_alone, one_becomes, alone_is)

-- two changes at paths that are apart may be made in either order
pub changes_commute : (p q : List Step) (f g : Node → Node) (n : Node) → IsTree n → Apart p q → changed_at p f (changed_at q g n) ≡ changed_at q g (changed_at p f n)
changes_commute p q f g n tree h =
    sym (both p q f g n tree h)
    ∙ (ap (λ (d : NodeEdits). at_once d n) (node_edits_same (and_at p (becomes f) (alone q g)) (and_at q (becomes g) (alone p f)) (λ r. go r (same_path p r) (same_path q r) refl refl))
    ∙ both q p g f n tree (apart_sym p q h))
  where
    go : (r : List Step) (a b : Bool) → same_path p r ≡ a → same_path q r ≡ b → cond a (Some (becomes f)) (cond b (Some (becomes g)) None) ≡ cond b (Some (becomes g)) (cond a (Some (becomes f)) None)
    go r true true x y = absurd (apart_irrefl p (subst (Apart p) (path_same q r y ∙ sym (path_same p r x)) h))
    go r _ _ x y = refl
