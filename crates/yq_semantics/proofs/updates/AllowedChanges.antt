-- What is allowed may be done.
use Rattle.std.proofs.Common.{◌≡◌, ◌≢◌, ℕ, suc, true, false, cond, ◌||◌, List, [], ◌∷◌, ◌++◌, length, map, Option, Some, None, is_some}
use Rattle.std.{proofs.Common.{refl, sym, ap, subst, ◌∙◌, rules}, specs.List.list_any}
use Rattle.std.{proofs.lemmas.Bool.{false≢true, cond-false, or_parts}, proofs.lemmas.Option.none-some}
use Rattle.yq_core.specs.Tree.{Node, list, Children, none, child, key_label}
use Rattle.yq_core.{specs.Paths.{To, key_is, child_at, node_at, change_child, append_child}, specs.Anchors.names_of}
use Rattle.yq_core.specs.Shapes.{IsNew, AreItems, AreEntries, IsTree, AreTrees}
use Rattle.yq_semantics.specs.Judgement.{Judgement, gives}
use Rattle.yq_semantics.specs.Changes.{Addition, appends, overwrites, addition, additions, is_overlong_key, has_long_key, writes_long_key}
use Rattle.yq_semantics.{specs.Changes.{value_in, is_deep, is_used_inside, overwrites_used}, specs.Meaning.add_to}
use Rattle.yq_semantics.specs.Pipes.{places, select_on}
use Rattle.yq_semantics.specs.Places.{FoundPlace, root_place, child_place, for_each, miss, step_there, step_on}
use Rattle.yq_semantics.{specs.Program.{PathStep, key, Condition, Stage}, proofs.JudgementLaws.{then_gives, gives_same}}
use Rattle.yq_semantics.{proofs.ChildPlaces.node_further, proofs.PathLaws.{bytes_differ, bytes_same}, proofs.updates.FitsInOrder.FitAdds}
use Rattle.yq_semantics.{proofs.updates.Each.{Each, each_given}, proofs.updates.PipePlaces.{pipe_keeps, select_keeps}}
use Rattle.yq_semantics.proofs.updates.StepPlaces.{step_keeps}
use mathlib.Core.List.{cons≢nil}
use Rattle.yq_core.specs.Tree as tree
use Rattle.yq_core.specs.Paths as paths

-- ---- what is missing

-- a node lacks what a step leads to, if it is a mapping
abbrev Lacks : PathStep → Node → Type 0
Lacks (key k) (tree.map anchor cs) = child_at (To k) cs ≡ None
Lacks _ (tree.map anchor cs) = ⊥
Lacks s _ = Unit {0}

abbrev pub IsMissed : List PathStep → Node → Type 0
IsMissed [] n = Unit {0}
IsMissed (m ∷ ms) n = Lacks m n

abbrev pub AreMissed : List FoundPlace → Type 0
AreMissed ps = Each (λ (p : FoundPlace). IsMissed p.missing p.node) ps

abbrev Keeps : (FoundPlace → Judgement (List FoundPlace)) → Type 0
Keeps f = (p : FoundPlace) (qs : List FoundPlace) → IsMissed p.missing p.node → f p ≡ gives qs → AreMissed qs

each_missed : (f : FoundPlace → Judgement (List FoundPlace)) → Keeps f → (ps qs : List FoundPlace) → AreMissed ps → for_each f ps ≡ gives qs → AreMissed qs
each_missed f so ps qs m h = each_given AreMissed (λ (p : FoundPlace). IsMissed p.missing p.node) f (λ p more miss. ((λ rs e. so p rs miss.0 e), miss.1)) ps qs m h

children_missed : (p : FoundPlace) (xs : List (paths.Step × Node)) → AreMissed (map (child_place p) xs)
children_missed p [] = tt
children_missed p (x ∷ xs) = (tt, children_missed p xs)

miss_missed : (s : PathStep) (p : FoundPlace) → IsMissed p.missing p.node → (p.missing ≡ [] → Lacks s p.node) → AreMissed (miss s p)
miss_missed s p h1 h2 = search rules

there_missed : (s : PathStep) → Keeps (step_there s)
there_missed s = search (rules, then_gives, gives_same, miss_missed, none-some, children_missed)

step_missed : (s : PathStep) → Keeps (step_on s)
step_missed s p qs m h = step_keeps AreMissed s p qs (there_missed s p qs m) (λ x xs is. miss_missed s p m (λ there. absurd (cons≢nil (sym is ∙ there)))) h

select_missed : (doc : ℕ) (c : Condition) → Keeps (select_on doc c)
select_missed doc c p qs m h = select_keeps AreMissed doc c p qs (m, tt) tt h

-- of what is missing nothing is there
pub places_missed : (doc : ℕ) (pipe : List Stage) (root : Node) (ps : List FoundPlace) → places doc pipe root ≡ gives ps → AreMissed ps
places_missed doc pipe root ps h =
    pipe_keeps doc AreMissed (λ s. each_missed (step_on s) (step_missed s)) (λ c. each_missed (select_on doc c) (select_missed doc c)) pipe (root_place root ∷ []) ps (tt, tt) h

-- ---- additions

-- nothing refuses additions at a path of a root
abbrev pub Unrefused : Node → List paths.Step → List Addition → Type 0
Unrefused root p xs = (list_any writes_long_key xs ≡ false) × (list_any (λ x. is_deep (suc (length p)) (value_in x)) xs ≡ false) × (list_any (overwrites_used root p) xs ≡ false)

unrefused_rest : (root : Node) (p : List paths.Step) (x : Addition) (xs : List Addition) → Unrefused root p (x ∷ xs) → Unrefused root p xs
unrefused_rest root p x xs h = search (rules, or_parts)

-- items for a sequence
pub list_fits : (root : Node) (p : List paths.Step) (a : Option (List ℕ)) (cs ds : Children) → AreItems ds → AreTrees ds → Unrefused root p (additions none ds) → FitAdds root p (list a cs) (additions none ds)
list_fits root p a cs none items trees h = tt
list_fits root p a cs (child label v ds) items trees h =
    subst (λ (o : Option (List ℕ)). Unrefused root p (addition none o v ∷ additions none ds) → FitAdds root p (list a cs) (addition none o v ∷ additions none ds)) (sym items.0)
    (λ k. ((refl, (trees.0, (k0 k).0, (k0 k).1), (a, cs, refl)), list_fits root p a (append_child (key_label None) v cs) ds items.1 trees.1 (unrefused_rest root p (appends None v) (additions none ds) k))) h
  where
    k0 : Unrefused root p (appends None v ∷ additions none ds) → (has_long_key v ≡ false) × (is_deep (suc (length p)) v ≡ false)
    k0 k = ((or_parts (has_long_key v) (list_any writes_long_key (additions none ds)) k.0).0, (or_parts (is_deep (suc (length p)) v) (list_any (λ y. is_deep (suc (length p)) (value_in y)) (additions none ds)) k.1).0)

pub other_append : (j k : List ℕ) (v : Node) (es : Children) → j ≢ k → child_at (To k) (append_child (key_label (Some j)) v es) ≡ child_at (To k) es
other_append j k v none d = cond-false (key_is k (Some j)) (Some v) None (bytes_differ j k d)
other_append j k v (child label n es) d = ap (λ (o : Option Node). cond (key_is k label.key) (Some n) o) (other_append j k v es d)

pub key_same : (j : List ℕ) (o : Option (List ℕ)) → key_is j o ≡ true → o ≡ Some j
key_same j o h = search (rules, false≢true, bytes_same)

pub other_change : (j k : List ℕ) (f : Node → Node) (es : Children) → j ≢ k → child_at (To k) (change_child (To j) f es) ≡ child_at (To k) es
other_change j k f none d = refl
other_change j k f (child label n es) d = search (rules, key_same, bytes_differ, cond-false, other_change j k f es d)

other_add : (cs : Children) (j k : List ℕ) (v : Node) (es : Children) → j ≢ k → child_at (To k) (add_to (addition cs (Some j) v) es) ≡ child_at (To k) es
other_add cs j k v es d = search (rules, other_change, other_append)

module _ (root : Node) (p : List paths.Step) (a first : Option (List ℕ)) (cs : Children) (at : node_at p root ≡ Some (tree.map first cs)) where
  entry_fits : (k : List ℕ) (v : Node) (es : Children) (xs : List Addition) → IsTree v → child_at (To k) es ≡ child_at (To k) cs → Unrefused root p (addition cs (Some k) v ∷ xs) →
      FitAdds root p (tree.map a (add_to (addition cs (Some k) v) es)) xs → FitAdds root p (tree.map a es) (addition cs (Some k) v ∷ xs)
  entry_fits k v es xs tree_is same free rest = go (child_at (To k) cs) refl free rest
    where
      go : (o : Option Node) → child_at (To k) cs ≡ o → Unrefused root p (cond (is_some o) (overwrites k v) (appends (Some k) v) ∷ xs) →
          FitAdds root p (tree.map a (add_to (cond (is_some o) (overwrites k v) (appends (Some k) v)) es)) xs → FitAdds root p (tree.map a es) (cond (is_some o) (overwrites k v) (appends (Some k) v) ∷ xs)
      go None is h r =
          let long = or_parts (is_overlong_key (Some k)) (has_long_key v) (or_parts (is_overlong_key (Some k) || has_long_key v) (list_any writes_long_key xs) h.0).0 in
          ((long.0, (tree_is, long.1, (or_parts (is_deep (suc (length p)) v) (list_any (λ y. is_deep (suc (length p)) (value_in y)) xs) h.1).0), (a, es, refl, same ∙ is)), r)
      go (Some m) is h r =
          let used : is_used_inside (names_of root) (node_at (p ++ To k ∷ []) root) ≡ false = (or_parts (overwrites_used root p (overwrites k v)) (list_any (overwrites_used root p) xs) h.2).0 in (
            (
              (tree_is, (or_parts (has_long_key v) (list_any writes_long_key xs) h.0).0, (or_parts (is_deep (suc (length p)) v) (list_any (λ y. is_deep (suc (length p)) (value_in y)) xs) h.1).0),
              (m, same ∙ is, ap (is_used_inside (names_of root)) (sym (node_further p (To k) root (tree.map first cs) at ∙ is)) ∙ used),
            ),
            r,
          )

  -- entries for a mapping
  pub entries_fit : (ds es : Children) → AreEntries ds → AreTrees ds → ((k : List ℕ) → (IsNew k ds → ⊥) → child_at (To k) es ≡ child_at (To k) cs) → Unrefused root p (additions cs ds) → FitAdds root p (tree.map a es) (additions cs ds)
  entries_fit none es h trees same free = tt
  entries_fit (child label v ds) es h trees same free =
      let k : List ℕ = h.0.0 in
      let is : label.key ≡ Some k = h.0.1 in
      let here : child_at (To k) es ≡ child_at (To k) cs = same k (λ new. new.0 is) in
      let at_k : Unrefused root p (addition cs (Some k) v ∷ additions cs ds) = subst (λ (o : Option (List ℕ)). Unrefused root p (addition cs o v ∷ additions cs ds)) is free in
      subst (λ (o : Option (List ℕ)). FitAdds root p (tree.map a es) (addition cs o v ∷ additions cs ds)) (sym is)
      (entry_fits k v es (additions cs ds) trees.0 here at_k
      (entries_fit ds (add_to (addition cs (Some k) v) es) h.1 trees.1
      (λ j not_new. other_add cs k j v es (λ e. not_new (subst (λ (c : List ℕ). IsNew c ds) e h.0.2)) ∙ same j (λ new. not_new new.1))
      (unrefused_rest root p (addition cs (Some k) v) (additions cs ds) at_k)))
