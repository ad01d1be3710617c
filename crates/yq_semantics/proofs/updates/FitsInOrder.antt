-- Each operation of changes that are allowed fits at its turn.
use Rattle.std.proofs.Common.{◌≡◌, ℕ, suc, Bool, false, cond, List, [], ◌∷◌, ◌++◌, length, map, reverse, Option, Some, option_and_then}
use Rattle.std.{proofs.Common.{refl, sym, ap, subst, ◌∙◌, append-nil, arith, length-append, rules}, proofs.lemmas.List.reverse-reverse}
use Rattle.std.proofs.lemmas.Option.{same_Some}
use Rattle.yq_core.specs.Tree.{Node, list, Children, none, child, children_of}
use Rattle.yq_core.{specs.Paths.{Step, To, is_here, further, child_at, node_at, change_child, within, changed_at}, specs.Anchors.names_of}
use Rattle.yq_core.{specs.PathOrder.Before, specs.Shapes.IsTree}
use Rattle.yq_semantics.specs.After.{root_after}
use Rattle.yq_semantics.specs.Changes.{Addition, appends, overwrites, replaces, adds, sets_comment, Changed, Room, is_overlong_key}
use Rattle.yq_semantics.{specs.Changes.{is_used_inside, is_used_in}, specs.NodeEdits.at_once}
use Rattle.yq_semantics.specs.Fits.{IsWritableAt, Takes, IsBelow, MayComment, FitsRoot}
use Rattle.yq_semantics.{proofs.updates.Mentions.{AnyMentions, MentionsNoMore, inside_less, in_less}, specs.Meaning.add_to}
use Rattle.yq_semantics.{specs.Operations.Operation, specs.Plans.{add_op, change_ops, ops_of, ordered}}
use Rattle.yq_semantics.proofs.updates.Aliases.{AddNone, one_no_more, WritesNone, all_bring, at_once_no_more}
use Rattle.yq_semantics.proofs.updates.Apart.{node_spared}
use Rattle.yq_semantics.proofs.updates.Folds.{InPairs, MayFold, AreSpared, node_edits_of, ops_join, fold_back, spared_in_order}
use Rattle.yq_semantics.{proofs.updates.Folds.{spared_apart, pairs_apart, pairs_reverse, apart_sym}, proofs.ChildPlaces.node_further}
use Rattle.yq_semantics.{proofs.updates.OneAt.{roots_after, add_after}, proofs.updates.Each.{Each, each_reverse, each_weaker, reverse-cons}}
use Rattle.yq_core.specs.Tree as tree
use Rattle.yq_semantics.specs.declared.program.CommentPlace.TheVariants as comments
use Rattle.yq_semantics.specs.Changes as changes

-- each operation fits a root at its turn
abbrev pub AllFitRoot : Bool → List (List ℕ) → Room → List Operation → Node → Type 0
AllFitRoot block lead room [] n = Unit {0}
AllFitRoot block lead room (op ∷ ops) n = FitsRoot room op n × AllFitRoot block lead room ops (root_after block lead op n)

fit_join : (block : Bool) (lead : List (List ℕ)) (room : Room) (ops others : List Operation) (n : Node) → AllFitRoot block lead room ops n → AllFitRoot block lead room others (roots_after block lead ops n) →
    AllFitRoot block lead room (ops ++ others) n
fit_join block lead room [] others n h k = k
fit_join block lead room (op ∷ ops) others n h k = (h.0, fit_join block lead room ops others (root_after block lead op n) h.1 k)

-- ---- one change

-- additions to a node at a path of a root, each of which fits at its turn
abbrev pub FitAdds : Node → List Step → Node → List Addition → Type 0
FitAdds root p n [] = Unit {0}
FitAdds root p n (appends k v ∷ xs) = ((is_overlong_key k ≡ false) × IsWritableAt (suc (length p)) v × Takes k n) × FitAdds root p (within (add_to (appends k v)) n) xs
FitAdds root p n (overwrites k v ∷ xs) =
    (IsWritableAt (suc (length p)) v × ((m : Node) × (child_at (To k) (children_of n) ≡ Some m) × (is_used_inside (names_of root) (Some m) ≡ false))) × FitAdds root p (within (add_to (overwrites k v)) n) xs

-- a change may be made in a root
abbrev pub MayChange : Room → Node → Changed → Type 0
MayChange room root (p, replaces v) = IsWritableAt (length p) v × ((n : Node) × (node_at p root ≡ Some n) × (is_used_inside (names_of root) (Some n) ≡ false))
MayChange room root (p, adds xs) = (n : Node) × (node_at p root ≡ Some n) × FitAdds root p n xs
MayChange room root (p, changes.removes) = IsBelow p × ((n : Node) × (node_at p root ≡ Some n) × (is_used_in (names_of root) (Some n) ≡ false))
MayChange room root (p, sets_comment place text) = MayComment room place p text root

-- changes that may be made, and write no alias
abbrev pub AreFit : Room → Node → List Changed → Type 0
AreFit room root cs = Each (λ (c : Changed). MayChange room root c × WritesNone c.1) cs

pub child_changed : (s : Step) (f : Node → Node) (cs : Children) (n : Node) → child_at s cs ≡ Some n → child_at s (change_child s f cs) ≡ Some (f n)
child_changed s f none n h = absurd (cc)
child_changed s f (child label m cs) n h = search (rules, same_Some, child_changed (further s) f cs n)

pub children_within : (s : Step) (f : Node → Node) (r n : Node) → child_at s (children_of r) ≡ Some n → child_at s (children_of (within (change_child s f) r)) ≡ Some (f n)
children_within s f r n h1 = search (rules, child_changed)

-- the node at a path, changed
pub node_change : (p : List Step) (f : Node → Node) (r n : Node) → node_at p r ≡ Some n → node_at p (changed_at p f r) ≡ Some (f n)
node_change [] f r n h = let same : r ≡ n = cc in ap (λ (x : Node). Some (f x)) same
node_change (s ∷ p) f r n h = go (child_at s (children_of r)) refl (λ m. node_change p f m n) h
  where
    go : (o : Option Node) → child_at s (children_of r) ≡ o → ((m : Node) → node_at p m ≡ Some n → node_at p (changed_at p f m) ≡ Some (f n)) → option_and_then (node_at p) o ≡ Some n → node_at (s ∷ p) (changed_at (s ∷ p) f r) ≡ Some (f n)
    go o is ih e = search (rules, children_within)

child_no_more : (a : List ℕ) (s : Step) (f : Node → Node) → ((m : Node) → MentionsNoMore (f m) m) → (cs : Children) → AnyMentions a (change_child s f cs) → AnyMentions a cs
child_no_more a s f less none h = h
child_no_more a s f less (child label n cs) h = go (is_here s label) (child_no_more a (further s) f less cs) h
  where
    go : (b : Bool) → (AnyMentions a (change_child (further s) f cs) → AnyMentions a cs) → AnyMentions a (cond b (child label (f n) cs) (child label n (change_child (further s) f cs))) → AnyMentions a (child label n cs)
    go b ih e = search rules

change_no_more : (p : List Step) (f : Node → Node) → ((m : Node) → MentionsNoMore (f m) m) → (r : Node) → MentionsNoMore (changed_at p f r) r
change_no_more [] f less r a h = less r a h
change_no_more (s ∷ p) f less (list anchor cs) a h = child_no_more a s (changed_at p f) (change_no_more p f less) cs h
change_no_more (s ∷ p) f less (tree.map anchor cs) a h = child_no_more a s (changed_at p f) (change_no_more p f less) cs h
change_no_more (s ∷ p) f less _ a h = h

node_join : (p : List Step) (s : Step) (r n : Node) → node_at p r ≡ Some n → node_at (p ++ s ∷ []) r ≡ child_at s (children_of n)
node_join p s r n h = node_further p s r n h

longer : (p : List Step) (s : Step) → length (p ++ s ∷ []) ≡ suc (length p)
longer p s = length-append p (s ∷ []) ∙ omega arith

module _ (block : Bool) (lead : List (List ℕ)) (room : Room) (doc : ℕ) (root : Node) where
  add_fits : (p : List Step) (x : Addition) (xs : List Addition) (n r : Node) → node_at p r ≡ Some n → MentionsNoMore r root → FitAdds root p n (x ∷ xs) → FitsRoot room (add_op doc p x) r
  add_fits p (appends k v) xs n r at less h = (h.0.0, h.0.1, (n, at, h.0.2))
  add_fits p (overwrites k v) xs n r at less h =
      (subst (λ (m : ℕ). IsWritableAt m v) (sym (longer p (To k))) h.0.0, (h.0.1.0, node_join p (To k) r n at ∙ h.0.1.1, inside_less r root less (Some h.0.1.0) h.0.1.2))

  rest_fits : (p : List Step) (x : Addition) (xs : List Addition) (n : Node) → FitAdds root p n (x ∷ xs) → FitAdds root p (within (add_to x) n) xs
  rest_fits p x xs n h = search rules

  adds_fit : (p : List Step) (xs : List Addition) (n r : Node) → node_at p r ≡ Some n → MentionsNoMore r root → AddNone xs → FitAdds root p n xs → AllFitRoot block lead room (map (add_op doc p) xs) r
  adds_fit p [] n r at less free h = tt
  adds_fit p (x ∷ xs) n r at less free h =
      let next : Node = changed_at p (within (add_to x)) r in (
        add_fits p x xs n r at less h,
        subst (AllFitRoot block lead room (map (add_op doc p) xs)) (sym (add_after block lead doc p x r))
            (adds_fit p xs (within (add_to x) n) next (node_change p (within (add_to x)) r n at) (λ a e. less a (change_no_more p (within (add_to x)) (one_no_more x free.0) r a e)) free.1 (rest_fits p x xs n h)),
      )

  change_fits : (c : Changed) (r : Node) → node_at c.0 r ≡ node_at c.0 root → MentionsNoMore r root → WritesNone c.1 → MayChange room root c → AllFitRoot block lead room (change_ops doc c) r
  change_fits (p, replaces v) r same less w h = ((h.0, (h.1.0, same ∙ h.1.1, inside_less r root less (Some h.1.0) h.1.2)), tt)
  change_fits (p, adds xs) r same less w h = adds_fit p xs h.0 r (same ∙ h.1) less w h.2
  change_fits (p, changes.removes) r same less w h = ((h.0, (h.1.0, same ∙ h.1.1, in_less r root less (Some h.1.0) h.1.2)), tt)
  change_fits (p, sets_comment comments.Line text) r same less w h = ((h.0, h.1, (h.2.0, same ∙ h.2.1)), tt)
  change_fits (p, sets_comment comments.Head text) r same less w h = ((h.0, h.1, (h.2.0, same ∙ h.2.1)), tt)

  -- those of changes from the last one to the first
  fits_back : IsTree root → (cs : List Changed) → AreSpared block lead cs → AreFit room root cs → AllFitRoot block lead room (ops_of doc (reverse cs)) root
  fits_back tree [] s h = tt
  fits_back tree (c ∷ cs) s h =
      let r : Node = at_once (node_edits_of block lead cs) root in
      let one : AllFitRoot block lead room (change_ops doc c) r =
      change_fits c r (node_spared c.0 (node_edits_of block lead cs) root tree s.0)
      (at_once_no_more (node_edits_of block lead cs)
      (all_bring block lead cs (each_weaker (λ (d : Changed). MayChange room root d × WritesNone d.1) (λ d. WritesNone d.1) (λ d m. m.1) cs h.1))
      root) h.0.1 h.0.0 in
      subst (λ (xs : List Changed). AllFitRoot block lead room (ops_of doc xs) root) (sym (reverse-cons c cs))
      (subst (λ (ops : List Operation). AllFitRoot block lead room ops root) (sym (ops_join block lead doc (reverse cs) (c ∷ [])))
      (fit_join block lead room (ops_of doc (reverse cs)) (change_ops doc c ++ []) root (fits_back tree cs s.1 h.1)
      (subst (λ (ops : List Operation). AllFitRoot block lead room ops (roots_after block lead (ops_of doc (reverse cs)) root)) (sym (append-nil (change_ops doc c)))
      (subst (AllFitRoot block lead room (change_ops doc c)) (sym (fold_back block lead doc root tree cs s.1)) one))))

  -- each operation of changes that may be made fits at its turn
  pub all_fit : IsTree root → (removal : Bool) (cs : List Changed) → InPairs Before cs → MayFold removal cs → AreFit room root cs → AllFitRoot block lead room (ops_of doc (ordered removal cs)) root
  all_fit tree removal cs h k m = search (rules, fits_back, spared_in_order, pairs_reverse, apart_sym, pairs_apart, reverse-reverse, spared_apart, each_reverse)
