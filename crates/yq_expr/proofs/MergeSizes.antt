-- How many items and entries documents have after the entries of a mapping came to a node.
use Rattle.std.proofs.Common.{◌≡◌, ℕ, ◌+◌, ◌<◌, ◌≤◌, true, List, [], ◌∷◌, ◌++◌, map, Option, Some, None, option_and_then, refl, sym, ap}
use Rattle.std.{proofs.Common.{subst, ◌∙◌, arith}, proofs.lemmas.Option.{none-some, same_Some}, specs.List.slice_get}
use Rattle.yq_core.{specs.Paths.{Step, To, child_at, node_at, within, changed_at}, specs.Shapes.{AreEntries, IsNew}}
use Rattle.yq_core.specs.Tree.{Label, Node, alias, scalar, list, Children, none, child, children_of}
use Rattle.yq_documents.{specs.Documents.Document, specs.TreeEdits.change_nth}
use Rattle.yq_flow_edits.specs.Valued.{AreValueTrees}
use Rattle.yq_semantics.specs.After.{after_op, all_after, done_to}
use Rattle.yq_semantics.{specs.Changes.{Addition, Room, addition, additions, appends, overwrites}, specs.Fits.{AllFit, Fits, Takes}}
use Rattle.yq_semantics.{specs.Meaning.add_to, specs.Operations.{append, replace}, specs.Plans.add_op}
use Rattle.yq_semantics.{specs.Sizes.{items_in, items_among, items_of_all}, proofs.ChildPlaces.node_further}
use Rattle.yq_semantics.{proofs.updates.OneAt.{add_after, change_twice}, proofs.updates.FitsInOrder.node_change}
use Rattle.yq_semantics.{proofs.sizes.AfterSizes.nth_size, proofs.updates.AlikeRooms.nth_changed}
use Rattle.yq_expr.proofs.EntryLaws.{Adds, HasEntry, HaveEntries, entry_comes, entry_stays}
use Rattle.yq_core.specs.Tree as tree

-- ---- nodes at paths

-- where something is in a node, that is there
pub node_above : (p : List Step) (s : Step) (r w : Node) → node_at (p ++ s ∷ []) r ≡ Some w → (n : Node) × (node_at p r ≡ Some n)
node_above [] s r w h = (r, refl)
node_above (t ∷ p) s r w h = go (child_at t (children_of r)) (λ m. node_above p s m w) h
  where
    go : (o : Option Node) → ((m : Node) → node_at (p ++ s ∷ []) m ≡ Some w → (n : Node) × (node_at p m ≡ Some n)) → option_and_then (node_at (p ++ s ∷ [])) o ≡ Some w → (n : Node) × (option_and_then (node_at p) o ≡ Some n)
    go None ih e = absurd (none-some _ e)
    go (Some m) ih e = ih m e

-- ---- a node that becomes another one

-- A node of a document became another one, and by so much more or less is in all documents.
pub record Became (doc : ℕ) (path : List Step) (root : Node) (total : ℕ) (docs : List Document) (by : Node → Node) : Type 0 where
  pub d : Document
  pub nth : slice_get docs doc ≡ Some d
  pub is : d.root ≡ changed_at path by root
  pub size : items_of_all docs + items_in root ≡ total + items_in d.root

module _ (rooms : ℕ → Room) (doc : ℕ) (path : List Step) (root : Node) (total : ℕ) where
  once_more : (docs : List Document) (by : Node → Node) → Became doc path root total docs by → (g : Document → Document) (f : Node → Node) → ((d : Document) → (g d).root ≡ changed_at path f d.root) →
      Became doc path root total (change_nth doc g docs) (λ m. f (by m))
  once_more docs by b g f so = record {
    d = g b.d;
    nth = nth_changed doc g docs b.d b.nth;
    is = so b.d ∙ (ap (changed_at path f) b.is ∙ change_twice path f by root);
    size = omega (arith, b.size, nth_size doc g docs b.d b.nth);
  }

  one_added : (x : Addition) (docs : List Document) (by : Node → Node) → Became doc path root total docs by → Became doc path root total (after_op rooms (add_op doc path x) docs) (λ m. within (add_to x) (by m))
  one_added (appends k v) docs by b = once_more docs by b (done_to (rooms doc).block (append doc path k v)) (within (add_to (appends k v))) (λ d. refl)
  one_added (overwrites k v) docs by b =
      once_more docs by b (done_to (rooms doc).block (replace doc (path ++ To k ∷ []) v)) (within (add_to (overwrites k v))) (λ d. add_after (rooms doc).block d.lead doc path (overwrites k v) d.root)

  module _ (old : Node) (at : node_at path root ≡ Some old) where
    -- an addition fits the node, which is a collection
    abbrev MayAdd : Addition → Node → Type 0
    MayAdd x m = Adds x (children_of m) × (children_of (within (add_to x) m) ≡ add_to x (children_of m))

    may_append : (k : Option (List ℕ)) (v : Node) (m n : Node) → n ≡ m → Takes k n → MayAdd (appends k v) m
    may_append None v m n same h = subst (MayAdd (appends None v)) (sym h.2 ∙ same) (tt, refl)
    may_append (Some k) v m n same h = subst (MayAdd (appends (Some k) v)) (sym h.2 ∙ same) (h.3, refl)

    may_overwrite : (k : List ℕ) (v m w : Node) → child_at (To k) (children_of m) ≡ Some w → MayAdd (overwrites k v) m
    may_overwrite k v (alias a) w h = absurd (none-some _ h)
    may_overwrite k v (scalar a kind t) w h = absurd (none-some _ h)
    may_overwrite k v (list a cs) w h = ((w, h), refl)
    may_overwrite k v (tree.map a cs) w h = ((w, h), refl)

    fit_adds : (x : Addition) (docs : List Document) (by : Node → Node) → Became doc path root total docs by → Fits rooms (add_op doc path x) docs → MayAdd x (by old)
    fit_adds x docs by b h = go x h
      where
        now : node_at path b.d.root ≡ Some (by old)
        now = ap (node_at path) b.is ∙ node_change path by root old at

        go : (x : Addition) → Fits rooms (add_op doc path x) docs → MayAdd x (by old)
        go (appends k v) fits =
            let same : fits.0 ≡ b.d = same_Some fits.0 b.d (sym fits.1 ∙ b.nth) in
            may_append k v (by old) fits.2.2.0 (same_Some fits.2.2.0 (by old) (sym fits.2.2.1 ∙ (ap (λ (d : Document). node_at path d.root) same ∙ now))) fits.2.2.2
        go (overwrites k v) fits =
            let same : fits.0 ≡ b.d = same_Some fits.0 b.d (sym fits.1 ∙ b.nth) in
            may_overwrite k v (by old) fits.2.1.0 (sym (node_further path (To k) b.d.root (by old) now) ∙ (ap (λ (d : Document). node_at (path ++ To k ∷ []) d.root) (sym same) ∙ fits.2.1.1))

    -- entries came to a node: they are there, and those of other keys stay
    pub record Merged (ds : Children) (docs : List Document) (before : Node) : Type 0 where
      pub by : Node → Node
      pub became : Became doc path root total docs by
      pub there : HaveEntries ds (children_of (by old))
      pub stays : (k : List ℕ) (v : Node) → IsNew k ds → HasEntry (Some k) v (children_of before) → HasEntry (Some k) v (children_of (by old))

    pub merged : (cs ds : Children) → AreValueTrees true ds → AreEntries ds → (docs : List Document) (by : Node → Node) → Became doc path root total docs by → AllFit rooms (map (add_op doc path) (additions cs ds)) docs →
        Merged ds (all_after rooms (map (add_op doc path) (additions cs ds)) docs) (by old)
    merged cs none valid entries docs by b fits = record { by = by; became = b; there = tt; stays = λ k v new h. h }
    merged cs (child label v ds) valid entries docs by b fits =
        let k : List ℕ = valid.0.0 in
        let x : Addition = addition cs (Some k) v in
        let new : IsNew k ds = subst (λ j. IsNew j ds) (same_Some entries.0.0 k (sym entries.0.1 ∙ ap (λ (l : Label). l.key) valid.0.1)) entries.0.2 in
        let f : AllFit rooms (add_op doc path x ∷ map (add_op doc path) (additions cs ds)) docs = subst (λ (l : Label). AllFit rooms (map (add_op doc path) (additions cs (child l v ds))) docs) valid.0.1 fits in
        let fit = fit_adds x docs by b f.0 in
        let rest = merged cs ds valid.2 entries.1 (after_op rooms (add_op doc path x) docs) (λ m. within (add_to x) (by m)) (one_added x docs by b) f.1 in
        let here = subst (HasEntry (Some k) v) (sym fit.1) (entry_comes cs k v (children_of (by old)) fit.0) in
        subst (λ (l : Label). Merged (child l v ds) (all_after rooms (map (add_op doc path) (additions cs (child l v ds))) docs) (by old)) (sym valid.0.1) (record {
          by = rest.by;
          became = rest.became;
          there = (rest.stays k v new here, rest.there);
          stays = λ j u fresh h.
              rest.stays j u fresh.1 (subst (HasEntry (Some j) u) (sym fit.1) (entry_stays cs k v j u (children_of (by old)) (λ same. fresh.0 (ap Some same)) h));
        })

-- the node to which entries come
start_there : (rooms : ℕ → Room) (doc : ℕ) (path : List Step) (x : Addition) (docs : List Document) → Fits rooms (add_op doc path x) docs → (d : Document) × (slice_get docs doc ≡ Some d) × ((old : Node) × (node_at path d.root ≡ Some old))
start_there rooms doc path (appends k v) docs fits = (fits.0, fits.1, (fits.2.2.0, fits.2.2.1))
start_there rooms doc path (overwrites k v) docs fits = (fits.0, fits.1, node_above path (To k) fits.0.root fits.2.1.0 fits.2.1.1)

pub merge_there : (rooms : ℕ → Room) (doc : ℕ) (path : List Step) (cs ds : Children) (docs : List Document) → 0 < items_among ds → AllFit rooms (map (add_op doc path) (additions cs ds)) docs →
    (d : Document) × (slice_get docs doc ≡ Some d) × ((old : Node) × (node_at path d.root ≡ Some old))
merge_there rooms doc path cs none docs some fits = absurd (omega (arith, some))
merge_there rooms doc path cs (child label v ds) docs some fits = start_there rooms doc path (addition cs label.key v) docs fits.0

-- what is in a node is among its items or entries
pub items_of : (n : Node) → items_among (children_of n) ≤ items_in n
items_of (alias a) = omega arith
items_of (scalar a k t) = omega arith
items_of (list a cs) = omega arith
items_of (tree.map a cs) = omega arith
