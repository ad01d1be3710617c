-- The paths of operations in flow collections, and the roots that they leave.
use Rattle.std.proofs.Common.{rules, ◌≡◌, false, List, [], ◌∷◌, ◌++◌, Option, Some, None, option_map, refl, sym, ap, ◌∙◌, subst}
use Rattle.std.proofs.lemmas.Option.{none-some, same_Some}
use Rattle.yq_core.{specs.Paths.{Step, changed_at, child_at, node_at, remove_child, within}, specs.Tree.{Node, children_of}}
use Rattle.yq_core.specs.Anchors.{names_of}
use Rattle.yq_documents.specs.TreeEdits.{at_end}
use Rattle.yq_places.specs.Placements.{last_step}
use Rattle.yq_edit_rules.{specs.SoundRoots.IsSoundRoot, proofs.AfterLaws.end_is_change, proofs.SoundRootLess.remove_keeps}
use Rattle.yq_edit_rules.proofs.EditsFitLaws.{not_used}
use Rattle.yq_semantics.specs.Changes.{is_used_in}

-- ---- the last step of a path

pub last_is : (path init : List Step) (s : Step) → last_step path ≡ Some (init, s) → path ≡ init ++ (s ∷ [])
last_is [] init s e = absurd (none-some _ e)
last_is (t ∷ []) init s e = ap (λ (y : List Step × Step). y.0 ++ (y.1 ∷ [])) (same_Some _ _ e)
last_is (t ∷ (u ∷ path)) init s e = go (last_step (u ∷ path)) refl e (λ a b is. last_is (u ∷ path) a b is)
  where
    go : (o : Option (List Step × Step)) → last_step (u ∷ path) ≡ o →
        option_map {U = List Step × Step} (λ (x : List Step × Step). (t ∷ x.0, x.1)) o ≡ Some (init, s) →
        ((a : List Step) (b : Step) → last_step (u ∷ path) ≡ Some (a, b) → u ∷ path ≡ a ++ (b ∷ [])) →
        t ∷ (u ∷ path) ≡ init ++ (s ∷ [])
    go None is e again = absurd (none-some _ e)
    go (Some x) is e again = ap (λ (l : List Step). t ∷ l) (again x.0 x.1 is) ∙ ap (λ (y : List Step × Step). y.0 ++ (y.1 ∷ [])) (same_Some _ _ e)

-- the node above the one to which a path leads
pub above_is : (init : List Step) (s : Step) (root n : Node) → node_at (init ++ (s ∷ [])) root ≡ Some n → (old : Node) × (node_at init root ≡ Some old) × (child_at s (children_of old) ≡ Some n)
above_is [] s root n e = search (rules, none-some)
above_is (t ∷ init) s root n e = search (rules, none-some, above_is init s)

-- ---- anchors that nobody names

-- ---- an item or entry taken out

pub remove_sound : (path init : List Step) (s : Step) (root n : Node) → IsSoundRoot root → last_step path ≡ Some (init, s) →
    node_at path root ≡ Some n → is_used_in (names_of root) (Some n) ≡ false → IsSoundRoot (changed_at init (within (remove_child s)) root)
remove_sound path init s root n sound last there free =
    let a = above_is init s root n (subst (λ (x : List Step). node_at x root ≡ Some n) (last_is path init s last) there) in
    remove_keeps init root a.0 n s sound a.1 a.2 (not_used (names_of root) (names_of n) free)

pub remove_root : (path init : List Step) (s : Step) (root : Node) → last_step path ≡ Some (init, s) → changed_at init (within (remove_child s)) root ≡ at_end remove_child path root
remove_root path init s root last = sym (ap (λ (x : List Step). at_end remove_child x root) (last_is path init s last) ∙ end_is_change remove_child init s root)
