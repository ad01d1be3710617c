-- No flow collection of a text that reads has a key twice.
use Rattle.std.proofs.Common.{rules, ◌≡◌, ℕ, ◌++◌, true, List, [], ◌∷◌, length, Option, Some, None, option_map, refl, sym, ap, ◌∙◌, subst}
use Rattle.std.{specs.Prelude.⊤, proofs.lemmas.Bool.false≢true, proofs.lemmas.Option.{none-some, same_Some}}
use Rattle.yq_core.{specs.Answers.◌>>=◌, specs.Keys.{AreDistinct, EachHasUniqueKeys, HasUniqueKeys, keys_of}, specs.Paths.{Step, node_at}}
use Rattle.yq_core.{specs.Collections.CollPieces, specs.Nodes.coll, specs.Places.{Placed, placed}}
use Rattle.yq_core.{specs.Trees.{content_tree, items_tree, placed_tree, tree_collection, tree_of}, proofs.TreeLaws.node_tree}
use Rattle.yq_outline.specs.Outline.{Outline, anchored, head_or, value}
use Rattle.yq_outline.{specs.Places.{FoundLine, find, in_head, place_inside, content_under}, proofs.Finding.{FoundNode, path_node}}
use Rattle.yq_outline.specs.Lines.{content_anchor, head_of}
use Rattle.yq_row_table.specs.Rows.{Content, Nothing, Inline, Block, Cut, cut_text}
use Rattle.yq_documents.specs.Reading.{cut_of, part_outline, read_at}
use Rattle.yq_places.specs.FlowNodes.{bare_line, content_flow, find_head, flow_collection, head_line}
use Rattle.yq_places.{specs.FlowViews.{FlowAgrees, following_anchor}, specs.declared.places.flow_node.FlowHead.FlowHead}
use Rattle.yq_places.proofs.FlowPieces.{head_tree}
use Rattle.yq_edit_rules.{proofs.PartLaws.document_known, proofs.SoundRootLaws.unique_at}
use Rattle.yq_edit_laws.proofs.FlowHeldNodes.{FlowContent, HeldAt, coll_held, coll_holds, held, held_anchored, held_coll, held_named}
use Rattle.yq_edit_laws.{proofs.FlowHeldNodes.same_held, specs.NearParts.HasUniqueCollection, proofs.FlowAnswers.{CollFound, coll_found}}
use Rattle.yq_edit_laws.{proofs.FlowHeads.whole_is, proofs.FlowPartNodes.{LineAt, line_at, line_head}}
use Rattle.yq_core.specs.Tree as tree

-- ---- what a node holds

-- what a node holds has no key twice
abbrev UniqueContent : Option FlowContent → Type 0
UniqueContent None = ⊤
UniqueContent (Some x) = (x.0 ≡ true → AreDistinct (keys_of x.1)) × EachHasUniqueKeys x.1

unique_content : (n : tree.Node) → HasUniqueKeys n → UniqueContent (held n)
unique_content n h = search (rules, false≢true)

content_unique : (n : tree.Node) → UniqueContent (held n) → HasUniqueKeys n
content_unique n h = search rules

-- of nodes that hold the same
same_unique : (a b : tree.Node) → held a ≡ held b → HasUniqueKeys a → HasUniqueKeys b
same_unique a b same h = content_unique b (subst UniqueContent same (unique_content a h))

-- ---- in the head of a line

abbrev Reached : Type 0
Reached = FoundLine × List Step

-- the node to which steps lead on from a line has no key twice
abbrev UniqueOn : Reached → Type 0
UniqueOn y = (m : tree.Node) → node_at y.1 (content_under y.0.line y.0.under) ≡ Some m → HasUniqueKeys m

-- from the lines of a node, if the first of them is the node itself
bare_unique : (g : FoundLine → FoundLine) → ((b : FoundLine) → (content_under (g b).line (g b).under ≡ content_under b.line b.under)) → (o : Outline) (y : Reached) → HasUniqueKeys (value o) →
    option_map {U = Reached} (λ b. (g b, [])) (bare_line o) ≡ Some y → UniqueOn y
bare_unique g same o y unique e = search (rules, none-some, same_Some)

head_unique : (f : FoundLine) (left : List Step) (y : Reached) → UniqueOn (f, left) → head_line f left ≡ Some y → UniqueOn y
head_unique f (s ∷ ss) y h e = subst UniqueOn (same_Some _ _ e) h
head_unique f [] y h e = go f.line.head refl e
  where
    go : (o : Option tree.Node) → f.line.head ≡ o → in_head o (Some (f, [])) (option_map {U = Reached} (λ b. (place_inside f b, [])) (bare_line f.under)) ≡ Some y → UniqueOn y
    go (Some n) head e = subst UniqueOn (same_Some _ _ e) h
    go None head e =
        let own = h (anchored f.line.anchor (value f.under)) (ap (λ o. Some (anchored f.line.anchor (head_or o (value f.under)))) head) in
        bare_unique (place_inside f) (λ b. refl) f.under y (same_unique (anchored f.line.anchor (value f.under)) (value f.under) (held_anchored f.line.anchor (value f.under)) own) e

-- where a path leads to the head of a line
line_unique : (steps : List Step) (o : Outline) (y : Reached) → find_head steps o ≡ Some y → HasUniqueKeys (value o) → UniqueOn y
line_unique [] o y found unique = bare_unique (λ b. b) (λ b. refl) o y unique found
line_unique (s ∷ ss) o y found unique = go (find s ss o) (path_node s ss o) found
  where
    go : (r : Option Reached) → node_at (s ∷ ss) (value o) ≡ FoundNode r → (r >>= λ z. head_line z.0 z.1) ≡ Some y → UniqueOn y
    go None at e = absurd (none-some _ e)
    go (Some z) at e = head_unique z.0 z.1 y (λ m is. unique_at (s ∷ ss) (value o) m (at ∙ is) unique) e

-- ---- in a cut

content_held : (y : Content) (h : tree.Node) (rest : List Step) (after : List ℕ) (w : CollPieces) → head_of y ≡ Some h → content_flow rest y after ≡ Some w → HeldAt rest (anchored (content_anchor y) h) (coll_held w)
content_held (Nothing tail) h rest after w head e = absurd (none-some _ e)
content_held (Block space anchor block) h rest after w head e = absurd (none-some _ e)
content_held (Inline space node tail) h rest after w head e =
    let n = head_tree node h head in
    let same : held (anchored (content_anchor (Inline space node tail)) h) ≡ held (tree_of node) = held_anchored (content_anchor (Inline space node tail)) h ∙ (sym (held_anchored n.0 h) ∙ ap held (sym n.1)) in
    same_held rest (tree_of node) (anchored (content_anchor (Inline space node tail)) h) (coll_held w) (sym same) (coll_holds rest node (tail ++ after) w e)

pub flow_unique : (c : Cut) (n : ℕ) (steps : List Step) (w : CollPieces) → read_at (cut_text c) ≡ Some c → flow_collection n steps c ≡ Some w → HasUniqueKeys (tree_collection w.close (items_tree w.items))
flow_unique c n steps w read found =
    let h : LineAt c n steps w = line_at c n steps w found in
    let known = document_known (cut_text c) c n h.part (record { read = read; there = h.there }) in
    let x = line_head c n steps w h read in
    let own : HeldAt h.line.1 (content_under h.line.0.line h.line.0.under) (coll_held w) =
    subst (λ (m : tree.Node). HeldAt h.line.1 m (coll_held w)) x.4 (content_held x.0 x.1 h.line.1 _ w x.2 x.3) in
    same_unique own.0 (tree_collection w.close (items_tree w.items)) (own.2 ∙ sym (held_coll w.close (items_tree w.items)))
    (line_unique steps (part_outline h.part) h.line h.found known.document.unique own.0 own.1)

-- ---- as the code finds it

held_after : (q : Placed) → held (placed_tree (following_anchor q)) ≡ held (placed_tree q)
held_after (placed None s c e f) = refl
held_after (placed (Some a) s c e f) = sym (held_named a (content_tree f))

found_unique : (c : Cut) (n : ℕ) (steps : List Step) (x : FlowHead) (q : Placed) → CollFound c n steps x q → HasUniqueKeys (placed_tree q)
unfolding tree_of
found_unique c n steps x q f =
    let own : CollPieces = f.agrees.at.coll in
    let unique = subst (λ (v : CollPieces). HasUniqueKeys (tree_collection v.close (items_tree v.items))) (whole_is (cut_text c) f.coll x f.agrees) (flow_unique c n steps f.coll f.read f.found) in
    let same : placed_tree (following_anchor q) ≡ tree_of (coll own.close own.gap own.items) = ap placed_tree f.node ∙ node_tree (length x.text.now) (coll own.close own.gap own.items) own.rest in
    same_unique (placed_tree (following_anchor q)) (placed_tree q) (held_after q) (subst HasUniqueKeys (sym same) unique)

pub collection_unique : (t : List ℕ) (n : ℕ) (steps : List Step) (x : FlowHead) → read_at t ≡ Some (cut_of t) → FlowAgrees t (flow_collection n steps (cut_of t)) (Some x) → HasUniqueCollection x
collection_unique t n steps x read agrees q there = found_unique (cut_of t) n steps x q (coll_found t n steps (Some x) x q read agrees refl there)
