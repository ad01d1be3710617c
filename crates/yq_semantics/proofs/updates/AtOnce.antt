-- What is done at once is one thing more done to what the rest makes.
use Rattle.std.{proofs.lemmas.Bool.{false≢true, cases_Bool, cond-false, cond-true}, proofs.lemmas.Slice.Eq.bytes_eq-Decides}
use Rattle.std.proofs.Common.{◌≡◌, ◌≢◌, ℕ, suc, ◌+◌, ◌<◌, ◌⊎◌, Bool, true, false, cond, List, [], ◌∷◌, Option, Some, None, refl, sym, ap}
use Rattle.std.{proofs.Common.{subst, ◌∙◌, inl, inr, arith, zero, ◌&&◌, rules}, proofs.lemmas.Option.{none-some, same_Some}}
use Rattle.yq_core.specs.Tree.{Label, Node, list, Children, none, child, map}
use Rattle.yq_core.{specs.Paths.{To, Nth, key_is, is_here, further, Step, within}, specs.PathOrder.Before}
use Rattle.yq_core.specs.Shapes.{IsNew, AreItems, AreEntries, IsTree, AreTrees}
use Rattle.yq_semantics.specs.NodeEdits.{step_to, NodeEdit, goes, NodeEdits, under, done_at, child_by, node_edit_inside, each_at_once}
use Rattle.yq_semantics.{specs.NodeEdits.{at_once, same_path, and_at, at_child, here, one_at}, specs.Places.step_by}
use Rattle.yq_semantics.proofs.PathLaws.{bytes_refl, bytes_same, to_nth, step_refl, step_other, apart_root}
use Rattle.yq_semantics.proofs.updates.Spares.{node_edits_same, IsSpared, Spares, spares_under, nothing, spares_root, spares_after}
use Rattle.yq_semantics.proofs.updates.Spares.{child_done, idle, child_kept_or_gone}

-- none of the steps to these is this one
abbrev HasNone : Step → ℕ → Children → Type 0
HasNone s i none = Unit {0}
HasNone s i (child label n cs) = (step_to i label ≢ s) × HasNone s (suc i) cs

-- what is done agrees but at a step
abbrev Agree : Step → NodeEdits → NodeEdits → Type 0
Agree s f g = (t : Step) → t ≢ s → (q : List Step) → f (t ∷ q) ≡ g (t ∷ q)

each_same : (s : Step) (f g : NodeEdits) → Agree s f g → (i : ℕ) (cs : Children) → HasNone s i cs → each_at_once f i cs ≡ each_at_once g i cs
each_same s f g same i none h = refl
each_same s f g same i (child label n cs) h = search (rules, child_done, node_edits_same, each_same s f g same (suc i) cs h.1)

-- what is done at a child, and at what a step leads to after it
abbrev at_rest : Step → (Label → Node → Children → Children) → Option NodeEdit → Label → Node → Children → Type 0
at_rest s h d label m rest = at_child s h (child_by d label m rest) ≡ child_by d label m (at_child (further s) h rest)

-- a step to a key leads past others
past_key : (k : List ℕ) (h : Label → Node → Children → Children) (o : Option (List ℕ)) (hc : List (List ℕ)) (lc : Option (List ℕ)) → key_is k o ≡ false → (d : Option NodeEdit) (m : Node) (rest : Children) →
    at_rest (To k) h d (record { key = o; head_comment = hc; line_comment = lc }) m rest
past_key k h o hc lc e d m rest = search (rules, child_kept_or_gone, cond-false)

-- a step to a later item leads past one that stays
past_item : (r : ℕ) (h : Label → Node → Children → Children) (d : Option NodeEdit) → d ≢ Some goes → (label : Label) (m : Node) (rest : Children) → at_rest (Nth (suc r)) h d label m rest
past_item r h d stays label m rest = search (rules, child_kept_or_gone)

-- a step to an item leads past what has a key
past_entry : (r : ℕ) (h : Label → Node → Children → Children) (k : List ℕ) (hc : List (List ℕ)) (lc : Option (List ℕ)) (d : Option NodeEdit) (m : Node) (rest : Children) →
    ((j : ℕ) → at_child (Nth j) h rest ≡ rest) → at_child (Nth r) h (child_by d (record { key = Some k; head_comment = hc; line_comment = lc }) m rest) ≡ child_by d (record { key = Some k; head_comment = hc; line_comment = lc }) m rest
past_entry r h k hc lc d m rest ih = search (rules, child_kept_or_gone)

-- one thing more is done under a step
record More (s : Step) (x : NodeEdit) (p : List Step) (f g : NodeEdits) : Type 0 where
  agree : Agree s f g
  at : f (s ∷ []) ≡ here x p
  free : g (s ∷ []) ≡ None
  within_it : (m : Node) → IsTree m → at_once (under s f) m ≡ one_at p x (at_once (under s g) m)
  after : (m i : ℕ) → s ≡ Nth m → g (Nth i ∷ []) ≡ Some goes → m < i

-- what is done where the step leads
abbrev there : NodeEdit → List Step → Label → Node → Children → Children
there x p label m cs = child_by (here x p) label (one_at p x m) cs

-- at the child where the step leads
more_here : (s t : Step) (x : NodeEdit) (p : List Step) (f g : NodeEdits) → More s x p f g → (label : Label) (n : Node) → IsTree n → is_here t label ≡ true → (fs gs : Children) → fs ≡ gs →
    child_done (under s f) label n fs ≡ at_child t (there x p) (child_done (under s g) label n gs)
more_here s t x p f g more label n tree is fs gs same = search (rules, child_done, cond-true)

new_none : (k : List ℕ) (i : ℕ) (cs : Children) → IsNew k cs → HasNone (To k) i cs
new_none k i none h = tt
new_none k i (child label n cs) h = (go label.key h.0, new_none k (suc i) cs h.1)
  where
    go : (o : Option (List ℕ)) → o ≢ Some k → step_by i o ≢ To k
    go o d e = search rules

later_none : (m i : ℕ) (cs : Children) → m < i → HasNone (Nth m) i cs
later_none m i none h = tt
later_none m i (child label n cs) h = (go label.key, later_none m (suc i) cs (omega arith))
  where
    go : (o : Option (List ℕ)) → step_by i o ≢ Nth m
    go o e = search rules

-- keys of entries differ
abbrev pub AreDistinct : Children → Type 0
AreDistinct none = Unit {0}
AreDistinct (child label n cs) = ((k : List ℕ) → label.key ≡ Some k → IsNew k cs) × AreDistinct cs

items_distinct : (cs : Children) → AreItems cs → AreDistinct cs
items_distinct none h = tt
items_distinct (child label n cs) h = ((λ k e. absurd (none-some _ (sym h.0 ∙ e))), items_distinct cs h.1)

entries_distinct : (cs : Children) → AreEntries cs → AreDistinct cs
entries_distinct none h = tt
entries_distinct (child label n cs) h = ((λ k e. subst (λ j. IsNew j cs) (same_Some _ _ (sym h.0.1 ∙ e)) h.0.2), entries_distinct cs h.1)

-- what is done at the first child and those after it
abbrev first_done : NodeEdits → ℕ → Option (List ℕ) → List (List ℕ) → Option (List ℕ) → Node → Children → Children
first_done f i o hc lc n rest = child_done (under (step_by i o) f) (record { key = o; head_comment = hc; line_comment = lc }) n rest

module _ (x : NodeEdit) (p : List Step) (f g : NodeEdits) (i : ℕ) (n : Node) (cs : Children) (tree : IsTree n) where
  -- the step is to a key, and this is another
  key_other : (k : List ℕ) → More (To k) x p f g → each_at_once f (suc i) cs ≡ at_child (To k) (there x p) (each_at_once g (suc i) cs) →
      (o : Option (List ℕ)) (hc : List (List ℕ)) (lc : Option (List ℕ)) → key_is k o ≡ false → step_by i o ≢ To k →
      first_done f i o hc lc n (each_at_once f (suc i) cs) ≡ at_child (To k) (there x p) (first_done g i o hc lc n (each_at_once g (suc i) cs))
  key_other k more rest o hc lc e differs = search (rules, child_done, node_edits_same, past_key)

  -- the step is to this key
  key_this : (k : List ℕ) → More (To k) x p f g → (hc : List (List ℕ)) (lc : Option (List ℕ)) → IsNew k cs →
      first_done f i (Some k) hc lc n (each_at_once f (suc i) cs) ≡ at_child (To k) (there x p) (first_done g i (Some k) hc lc n (each_at_once g (suc i) cs))
  key_this k more hc lc new = search (rules, more_here, bytes_refl, each_same, new_none)

  key_once : (k : List ℕ) → More (To k) x p f g → each_at_once f (suc i) cs ≡ at_child (To k) (there x p) (each_at_once g (suc i) cs) →
      (o : Option (List ℕ)) (hc : List (List ℕ)) (lc : Option (List ℕ)) → ((j : List ℕ) → o ≡ Some j → IsNew j cs) →
      first_done f i o hc lc n (each_at_once f (suc i) cs) ≡ at_child (To k) (there x p) (first_done g i o hc lc n (each_at_once g (suc i) cs))
  key_once k h1 h2 o hc lc h3 = search (rules, key_other, to_nth, cases_Bool, bytes_same, key_this, false≢true, bytes_eq-Decides)

  -- the step is to this item
  item_this : More (Nth i) x p f g → (hc : List (List ℕ)) (lc : Option (List ℕ)) →
      first_done f i None hc lc n (each_at_once f (suc i) cs) ≡ at_child (Nth 0) (there x p) (first_done g i None hc lc n (each_at_once g (suc i) cs))
  item_this more hc lc = search (rules, more_here, each_same, later_none)

  -- the step is to a later item
  item_later : (r m : ℕ) → i + suc r ≡ m → More (Nth m) x p f g → each_at_once f (suc i) cs ≡ at_child (Nth r) (there x p) (each_at_once g (suc i) cs) →
      (hc : List (List ℕ)) (lc : Option (List ℕ)) →
      first_done f i None hc lc n (each_at_once f (suc i) cs) ≡ at_child (Nth (suc r)) (there x p) (first_done g i None hc lc n (each_at_once g (suc i) cs))
  item_later r m is more rest hc lc = search (rules, child_done, node_edits_same, past_item)

-- under a key
more_key : (k : List ℕ) (x : NodeEdit) (p : List Step) (f g : NodeEdits) → More (To k) x p f g → (i : ℕ) (cs : Children) → AreDistinct cs → AreTrees cs →
    each_at_once f i cs ≡ at_child (To k) (there x p) (each_at_once g i cs)
more_key k x p f g more i none d trees = refl
more_key k x p f g more i (child label n cs) d trees =
    key_once x p f g i n cs trees.0 k more (more_key k x p f g more (suc i) cs d.1 trees.1) label.key label.head_comment label.line_comment d.0

-- the same of a first child
abbrev FirstOnce : Step → NodeEdit → List Step → NodeEdits → NodeEdits → ℕ → Node → Children → List (List ℕ) → Option (List ℕ) → Option (List ℕ) → Type 0
FirstOnce t x p f g i n cs hc lc o = first_done f i o hc lc n (each_at_once f (suc i) cs) ≡ at_child t (there x p) (first_done g i o hc lc n (each_at_once g (suc i) cs))

-- under an item
more_item : (r m : ℕ) (x : NodeEdit) (p : List Step) (f g : NodeEdits) → More (Nth m) x p f g → (i : ℕ) → i + r ≡ m → (cs : Children) → AreItems cs → AreTrees cs →
    each_at_once f i cs ≡ at_child (Nth r) (there x p) (each_at_once g i cs)
more_item r m x p f g more i is none items trees = refl
more_item zero m x p f g more i is (child label n cs) items trees =
    let same : m ≡ i = omega (arith, is) in
    subst (FirstOnce (Nth 0) x p f g i n cs label.head_comment label.line_comment) (sym items.0)
    (item_this x p f g i n cs trees.0 (subst (λ j. More (Nth j) x p f g) same more) label.head_comment label.line_comment)
more_item (suc r) m x p f g more i is (child label n cs) items trees =
    let next : suc i + r ≡ m = omega (arith, is) in
    subst (FirstOnce (Nth (suc r)) x p f g i n cs label.head_comment label.line_comment) (sym items.0)
    (item_later x p f g i n cs trees.0 r m is more (more_item r m x p f g more (suc i) next cs items.1 trees.1) label.head_comment label.line_comment)

-- a step to an item leads to no entry
no_item : (h : Label → Node → Children → Children) (g : NodeEdits) (i r : ℕ) (cs : Children) → AreEntries cs → at_child (Nth r) h (each_at_once g i cs) ≡ each_at_once g i cs
no_item h g i r none entries = refl
no_item h g i r (child label n cs) entries =
    let k : List ℕ = entries.0.0 in
    subst (λ (o : Option (List ℕ)). at_child (Nth r) h (first_done g i o label.head_comment label.line_comment n (each_at_once g (suc i) cs)) ≡
    first_done g i o label.head_comment label.line_comment n (each_at_once g (suc i) cs)) (sym entries.0.1)
    (past_entry r h k label.head_comment label.line_comment (g (To k ∷ [])) (at_once (under (To k) g) n) (each_at_once g (suc i) cs) (λ j. no_item h g (suc i) j cs entries.1))

no_nth : (m i : ℕ) (cs : Children) → AreEntries cs → HasNone (Nth m) i cs
no_nth m i none h = tt
no_nth m i (child label n cs) h = ((λ e. to_nth h.0.0 m (ap (step_by i) (sym h.0.1) ∙ e)), no_nth m (suc i) cs h.1)

-- in items or entries
more_each : (s : Step) (x : NodeEdit) (p : List Step) (f g : NodeEdits) → More s x p f g → (cs : Children) → AreItems cs ⊎ AreEntries cs → AreTrees cs → each_at_once f 0 cs ≡ at_child s (there x p) (each_at_once g 0 cs)
more_each (To k) x p f g more cs (inl items) trees = more_key k x p f g more 0 cs (items_distinct cs items) trees
more_each (To k) x p f g more cs (inr entries) trees = more_key k x p f g more 0 cs (entries_distinct cs entries) trees
more_each (Nth m) x p f g more cs (inl items) trees = more_item m m x p f g more 0 (omega arith) cs items trees
more_each (Nth m) x p f g more cs (inr entries) trees = search (rules, more_key, items_distinct, entries_distinct, more_item, each_same, no_nth, no_item)

-- a node by what is done at it is one of these two
done_one : (x : NodeEdit) (n m : Node) → done_at (Some x) n m ≡ done_at (Some x) n n
done_one x n m = search rules

and_under : (s : Step) (p : List Step) (x : NodeEdit) (f : NodeEdits) → under s (and_at (s ∷ p) x f) ≡ and_at p x (under s f)
and_under s p x f = node_edits_same (under s (and_at (s ∷ p) x f)) (and_at p x (under s f)) (λ q. ap (λ (b : Bool). cond (b && same_path p q) (Some x) (f (s ∷ q))) (step_refl s))

and_here : (p : List Step) (x : NodeEdit) (f : NodeEdits) → f [] ≡ None → and_at p x f [] ≡ here x p
and_here p x f h = search rules

in_tree : (s : Step) (x : NodeEdit) (p : List Step) (f g : NodeEdits) → More s x p f g → (n : Node) → IsTree n → node_edit_inside f n ≡ within (at_child s (there x p)) (node_edit_inside g n)
in_tree s x p f g more (list anchor cs) tree = ap (list anchor) (more_each s x p f g more cs (inl tree.0) tree.1)
in_tree s x p f g more (map anchor cs) tree = ap (map anchor) (more_each s x p f g more cs (inr tree.0) tree.1)
in_tree s x p f g more _ tree = refl

-- one thing more is done at once as it is done alone, after the others
pub one_more : (p : List Step) (x : NodeEdit) (f : NodeEdits) (n : Node) → IsTree n → Spares f p → at_once (and_at p x f) n ≡ one_at p x (at_once f n)
one_more [] x f n tree spared =
    done_one x n (node_edit_inside (and_at [] x f) n) ∙ ap (λ m. done_at (Some x) m m) (sym (idle f n (λ q. nothing (f q) [] q (apart_root q) (spared q))))
one_more (s ∷ p) x f n tree spared =
    let free : f [] ≡ None = spares_root f (s ∷ p) spared in
    let below : Spares (under s f) p = spares_under f s p spared in
    let more : More s x p (and_at (s ∷ p) x f) f = record {
      agree = λ t d q. (ap (λ (b : Bool). cond (b && same_path p q) (Some x) (f (t ∷ q))) (step_other s t (λ e. d (sym e))));
      at = ap (λ (k : NodeEdits). k []) (and_under s p x f) ∙ and_here p x (under s f) (spares_root (under s f) p below);
      free = spares_root (under s f) p below;
      within_it = λ m is. ap (λ (k : NodeEdits). at_once k m) (and_under s p x f) ∙ one_more p x (under s f) m is below;
      after = λ m i is gone. spares_after m i p (subst (λ (t : Step). Before (t ∷ p) (Nth i ∷ [])) is (subst (λ (d : Option NodeEdit). IsSpared d (s ∷ p) (Nth i ∷ [])) gone (spared (Nth i ∷ []))));
    } in
    cc (in_tree s x p (and_at (s ∷ p) x f) f more n tree)
