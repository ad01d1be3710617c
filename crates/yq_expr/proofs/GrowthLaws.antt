-- How many items and entries documents have after operations that put or append values at places, of which none lies in another.
use Rattle.std.proofs.Common.{◌≡◌, inr, ℕ, zero, suc, ◌+◌, ◌<◌, ◌≤◌, Bool, List, [], ◌∷◌, ◌++◌, Some, refl, sym, ap, ◌∙◌, subst, arith}
use Rattle.std.{proofs.lemmas.Bool.cond_both, proofs.lemmas.Option.{none-some, same_Some}, specs.List.slice_get}
use Rattle.yq_core.{specs.PathOrder.Apart, specs.Shapes.IsTree, specs.Paths.{Step, node_at, append_child, within, changed_at}}
use Rattle.yq_core.specs.Tree.{Node, alias, anchor_of, children_of, key_label}
use Rattle.yq_documents.{specs.Documents.Document, specs.TreeEdits.{led, replaced_node}}
use Rattle.yq_semantics.{specs.After.{after_op, all_after, done_to}, specs.Changes.Room, specs.Fits.{AllFit, Fits}, specs.Meaning.AreReady}
use Rattle.yq_semantics.specs.NodeEdits.{NodeEdits, and_at, at_once, becomes, done_by, same_path}
use Rattle.yq_semantics.{specs.Operations.{Operation, append, replace}, specs.Places.FoundPlace, specs.PlacesApart.{AreApart, IsBeforeAll}}
use Rattle.yq_semantics.specs.Sizes.{items_in, items_of_all}
use Rattle.yq_semantics.proofs.sizes.AfterSizes.{appended_size, led_size, nth_holds, nth_size, path_size}
use Rattle.yq_semantics.{proofs.sizes.RowSizes.under_anchor, proofs.updates.Apart.node_spared, proofs.updates.AtOnce.one_more}
use Rattle.yq_semantics.{proofs.updates.Folds.path_same, proofs.updates.OneAt.{change_none, one_becomes, change_twice}}
use Rattle.yq_semantics.{proofs.updates.PlanMeans.after_join, proofs.updates.Spares.{IsSpared, Spares, idle}}
use Rattle.yq_semantics.proofs.updates.AlikeRooms.{nth_changed}
use Rattle.yq_expr.{specs.Oversized.BeginsOversized, specs.SumSizes.items_limit, proofs.EntryLaws.entries_size}
use Rattle.yq_expr.proofs.MergeSizes.{items_of, merge_there, merged}
use Rattle.yq_expr.proofs.Gains.{AreAppends, Gain, GainSome, appended, appends, each_writes, merges, no_more, nothing, one_place, puts}

-- ---- one node after another

-- a node that goes with what is in it, where nodes apart from it are others
size_without : (p : List Step) (f : NodeEdits) (n old : Node) → IsTree n → Spares f p → node_at p n ≡ Some old →
    items_in (at_once (and_at p (becomes (λ m. alias [])) f) n) + items_in old ≡ items_in (at_once f n)
size_without p f n old tree spared there =
    let gone : Node → Node = λ m. alias [] in
    let is : at_once (and_at p (becomes gone) f) n ≡ changed_at p gone (at_once f n) = one_more p (becomes gone) f n tree spared ∙ one_becomes p gone (at_once f n) in
    omega (arith, ap items_in is, path_size p gone (at_once f n) old (node_spared p f n tree spared ∙ there))

-- ---- places that what is done leaves as they are

abbrev AllSpared : NodeEdits → List FoundPlace → Type 0
AllSpared f [] = Unit {0}
AllSpared f (p ∷ ps) = Spares f p.path × AllSpared f ps

none_done : (ps : List FoundPlace) → AllSpared (done_by []) ps
none_done [] = tt
none_done (p ∷ ps) = ((λ q. tt), none_done ps)

later_spared : (p : List Step) (g : Node → Node) (f : NodeEdits) (ps : List FoundPlace) → IsBeforeAll p ps → AllSpared f ps → AllSpared (and_at p (becomes g) f) ps
later_spared p g f [] before spared = tt
later_spared p g f (x ∷ ps) before spared = (
  λ q. cond_both (same_path p q) (Some (becomes g)) (f q) (λ d. IsSpared d x.path q) (λ e. subst (Apart x.path) (path_same p q e) (inr before.0)) (λ e. spared.0 q),
  later_spared p g f ps before.1 spared.1,
)

-- ---- documents after operations

root_is_tree : (rooms : ℕ → Room) (i n : ℕ) (docs : List Document) (d : Document) → AreReady rooms i docs → slice_get docs n ≡ Some d → IsTree d.root
root_is_tree rooms i n [] d ready h = absurd (none-some _ h)
root_is_tree rooms i zero (x ∷ xs) d ready h = subst (λ (y : Document). IsTree y.root) (same_Some x d h) ready.0.0
root_is_tree rooms i (suc n) (x ∷ xs) d ready h = root_is_tree rooms (suc i) n xs d ready.1 h

fit_both : (rooms : ℕ → Room) (xs ys : List Operation) (docs : List Document) → AllFit rooms (xs ++ ys) docs → AllFit rooms xs docs × AllFit rooms ys (all_after rooms xs docs)
fit_both rooms [] ys docs h = (tt, h)
fit_both rooms (x ∷ xs) ys docs h = let both = fit_both rooms xs ys (after_op rooms x docs) h.1 in ((h.0, both.0), both.1)

appends_size : (rooms : ℕ → Room) (doc : ℕ) (path : List Step) (xs : List Operation) (count : ℕ) → AreAppends doc path xs count → (docs : List Document) → AllFit rooms xs docs →
    items_of_all docs + count ≤ items_of_all (all_after rooms xs docs)
appends_size rooms doc path _ _ nothing docs fits = omega arith
appends_size rooms doc path _ _ (appended {k} {v} {ops} {n} utf8 valid all) docs fits =
    omega (arith, appended_size rooms doc path k v docs fits.0, appends_size rooms doc path ops n all (after_op rooms (append doc path k v) docs) fits.1)

-- a node of a document that becomes another one, and the document of that number then
record BecomesAt (doc : ℕ) (path : List Step) (root : Node) (docs : List Document) : Type 0 where
  d : Document
  nth : slice_get docs doc ≡ Some d
  by : Node → Node
  is : d.root ≡ changed_at path by root

-- what is appended changes that node alone
append_all : (rooms : ℕ → Room) (doc : ℕ) (path : List Step) (xs : List Operation) (count : ℕ) → AreAppends doc path xs count → (root : Node) (docs : List Document) → BecomesAt doc path root docs →
    BecomesAt doc path root (all_after rooms xs docs)
append_all rooms doc path _ _ nothing root docs b = b
append_all rooms doc path _ _ (appended {k} {v} {ops} {n} utf8 valid all) root docs b =
    let op : Operation = append doc path k v in
    let next : Node → Node = within (append_child (key_label k) v) in
    append_all rooms doc path ops n all root (after_op rooms op docs) (record {
      d = done_to (rooms doc).block op b.d;
      nth = nth_changed doc (done_to (rooms doc).block op) docs b.d b.nth;
      by = λ m. next (b.by m);
      is = ap (changed_at path next) b.is ∙ change_twice path next b.by root;
    })

-- ---- what comes at places

-- A document was a tree at first, of which some nodes are others now; were they taken out, there would be so many items and entries less at least.
-- What is done leaves places as they are (own).
record Holds (doc count : ℕ) (ps : List FoundPlace) (docs : List Document) : Type 0 where
  d : Document
  nth : slice_get docs doc ≡ Some d
  first : Node
  tree : IsTree first
  done : NodeEdits
  takes : NodeEdits
  root : d.root ≡ at_once done first
  size : items_in (at_once takes first) + count ≤ items_of_all docs
  left : AllSpared done ps
  free : AllSpared takes ps

-- a value that is put at one place more
put_one : (rooms : ℕ → Room) (doc n count : ℕ) (p : FoundPlace) (ps : List FoundPlace) (v : Node) (docs : List Document) → n ≤ items_in v → IsBeforeAll p.path ps →
    Fits rooms (replace doc p.path v) docs → Holds doc count (p ∷ ps) docs → Holds doc (count + n) ps (after_op rooms (replace doc p.path v) docs)
put_one rooms doc n count p ps v docs most before fits s =
    let block : Bool = (rooms doc).block in
    let put : Node → Node = replaced_node (led block s.d.lead p.path v) in
    let gone : Node → Node = λ m. alias [] in
    let old : Node = fits.2.1.0 in
    let same : fits.0 ≡ s.d = same_Some fits.0 s.d (sym fits.1 ∙ s.nth) in
    let now : node_at p.path s.d.root ≡ Some old = ap (λ (d : Document). node_at p.path d.root) (sym same) ∙ fits.2.1.1 in
    let there : node_at p.path s.first ≡ Some old = sym (node_spared p.path s.done s.first s.tree s.left.0) ∙ (ap (node_at p.path) (sym s.root) ∙ now) in
    record {
      d = done_to block (replace doc p.path v) s.d;
      nth = nth_changed doc (done_to block (replace doc p.path v)) docs s.d s.nth;
      first = s.first;
      tree = s.tree;
      done = and_at p.path (becomes put) s.done;
      takes = and_at p.path (becomes gone) s.takes;
      root = ap (changed_at p.path put) s.root ∙ sym (one_more p.path (becomes put) s.done s.first s.tree s.left.0 ∙ one_becomes p.path put (at_once s.done s.first));
      size = omega (
        arith,
        most,
        s.size,
        size_without p.path s.takes s.first old s.tree s.free.0 there,
        path_size p.path put s.d.root old now,
        nth_size doc (done_to block (replace doc p.path v)) docs s.d s.nth,
        under_anchor (anchor_of old) (led block s.d.lead p.path v),
        led_size block s.d.lead p.path v,
      );
      left = later_spared p.path put s.done ps before s.left.1;
      free = later_spared p.path gone s.takes ps before s.free.1;
    }

-- what comes at one place more
gain_one : (rooms : ℕ → Room) (doc n count : ℕ) (p : FoundPlace) (ps : List FoundPlace) (ops : List Operation) (docs : List Document) → Gain doc p.path n ops → IsBeforeAll p.path ps →
    AllFit rooms ops docs → Holds doc count (p ∷ ps) docs → Holds doc (count + n) ps (all_after rooms ops docs)
gain_one rooms doc n count p ps _ docs (puts {v} valid most) before fits s = put_one rooms doc n count p ps v docs most before fits.0 s
gain_one rooms doc n count p ps _ docs (appends {k} {v} {ops} {m} utf8 valid all most) before fits s =
    let op : Operation = append doc p.path k v in
    let next : Node → Node = within (append_child (key_label k) v) in
    let b : BecomesAt doc p.path (at_once s.done s.first) (all_after rooms (op ∷ ops) docs) =
    append_all rooms doc p.path ops m all (at_once s.done s.first) (after_op rooms op docs) (record {
      d = done_to (rooms doc).block op s.d;
      nth = nth_changed doc (done_to (rooms doc).block op) docs s.d s.nth;
      by = next;
      is = ap (changed_at p.path next) s.root;
    }) in
    record {
      d = b.d;
      nth = b.nth;
      first = s.first;
      tree = s.tree;
      done = and_at p.path (becomes b.by) s.done;
      takes = s.takes;
      root = b.is ∙ sym (one_more p.path (becomes b.by) s.done s.first s.tree s.left.0 ∙ one_becomes p.path b.by (at_once s.done s.first));
      size = omega (arith, most, s.size, appends_size rooms doc p.path (op ∷ ops) (suc (items_in v + m)) (appended utf8 valid all) docs fits);
      left = later_spared p.path b.by s.done ps before s.left.1;
      free = s.free.1;
    }
gain_one rooms doc n count p ps _ docs (merges cs ds entries valid some most) before fits s =
    let root : Node = at_once s.done s.first in
    let gone : Node → Node = λ m. alias [] in
    let start = merge_there rooms doc p.path cs ds docs (omega (arith, some, most)) fits in
    let same : start.0 ≡ s.d = same_Some start.0 s.d (sym start.1 ∙ s.nth) in
    let old : Node = start.2.0 in
    let now : node_at p.path root ≡ Some old = ap (node_at p.path) (sym s.root) ∙ (ap (λ (d : Document). node_at p.path d.root) (sym same) ∙ start.2.1) in
    let there : node_at p.path s.first ≡ Some old = sym (node_spared p.path s.done s.first s.tree s.left.0) ∙ now in
    let m = merged rooms doc p.path root (items_of_all docs) old now cs ds valid entries docs (λ x. x) (record {
      d = s.d;
      nth = s.nth;
      is = s.root ∙ sym (change_none p.path root);
      size = omega (arith, ap items_in s.root);
    }) fits in
    record {
      d = m.became.d;
      nth = m.became.nth;
      first = s.first;
      tree = s.tree;
      done = and_at p.path (becomes m.by) s.done;
      takes = and_at p.path (becomes gone) s.takes;
      root = m.became.is ∙ sym (one_more p.path (becomes m.by) s.done s.first s.tree s.left.0 ∙ one_becomes p.path m.by root);
      size = omega (
        arith,
        most,
        s.size,
        size_without p.path s.takes s.first old s.tree s.free.0 there,
        path_size p.path m.by root old now,
        m.became.size,
        ap items_in m.became.is,
        entries_size ds (children_of (m.by old)) entries m.there,
        items_of (m.by old),
      );
      left = later_spared p.path m.by s.done ps before s.left.1;
      free = later_spared p.path gone s.takes ps before s.free.1;
    }

gain_all : (rooms : ℕ → Room) (doc count n : ℕ) (ps : List FoundPlace) (ops : List Operation) (docs : List Document) → GainSome doc ps n ops → AreApart ps → AllFit rooms ops docs → Holds doc count ps docs →
    count + n ≤ items_of_all (all_after rooms ops docs)
gain_all rooms doc count n ps _ docs no_more apart fits s = omega (arith, s.size)
gain_all rooms doc count n _ _ docs (one_place {p} {ps} {m} {n = l} {here} {there} g gs most) apart fits s =
    let fit = fit_both rooms here there docs fits in
    let last : (count + m) + l ≤ items_of_all (all_after rooms there (all_after rooms here docs)) =
    gain_all rooms doc (count + m) l ps there (all_after rooms here docs) gs apart.1 fit.1 (gain_one rooms doc m count p ps here docs g apart.0 fit.0 s) in
    omega (arith, last, ap items_of_all (after_join rooms here there docs), most)

-- the document in which something comes
gain_there : (rooms : ℕ → Room) (doc n : ℕ) (path : List Step) (ops : List Operation) (docs : List Document) → Gain doc path n ops → AllFit rooms ops docs → (d : Document) × (slice_get docs doc ≡ Some d)
gain_there rooms doc n path _ docs (puts valid most) fits = (fits.0.0, fits.0.1)
gain_there rooms doc n path _ docs (appends utf8 valid all most) fits = (fits.0.0, fits.0.1)
gain_there rooms doc n path _ docs (merges cs ds entries valid some most) fits =
    let start = merge_there rooms doc path cs ds docs (omega (arith, some, most)) fits in
    (start.0, start.1)

gain_size : (rooms : ℕ → Room) (doc n : ℕ) (ps : List FoundPlace) (ops : List Operation) (docs : List Document) → AreReady rooms 0 docs → GainSome doc ps n ops → AreApart ps → AllFit rooms ops docs →
    n ≤ items_of_all (all_after rooms ops docs)
gain_size rooms doc n ps _ docs ready no_more apart fits = omega arith
gain_size rooms doc n _ _ docs ready (one_place {p} {ps} {m} {n = l} {here} {there} g gs most) apart fits =
    let t = gain_there rooms doc m p.path here docs g (fit_both rooms here there docs fits).0 in
    let d : Document = t.0 in
    let same : at_once (done_by []) d.root ≡ d.root = idle (done_by []) d.root (λ q. refl) in
    let all : 0 + n ≤ items_of_all (all_after rooms (here ++ there) docs) =
    gain_all rooms doc 0 n (p ∷ ps) (here ++ there) docs (one_place g gs most) apart fits (record {
      d = d;
      nth = t.1;
      first = d.root;
      tree = root_is_tree rooms 0 doc docs d ready t.1;
      done = done_by [];
      takes = done_by [];
      root = sym same;
      size = omega (arith, ap items_in same, nth_holds doc docs d t.1);
      left = none_done (p ∷ ps);
      free = none_done (p ∷ ps);
    }) in
    omega (arith, all)

-- operations by which too many items and entries come for a text at the first of places, and others after them
pub by_gains : (doc n : ℕ) (ps : List FoundPlace) (ops others : List Operation) → GainSome doc ps n ops → AreApart ps → items_limit < n → BeginsOversized (ops ++ others)
by_gains doc n ps ops others g apart more = record {
  first = ops;
  others = others;
  split = refl;
  write = each_writes doc n ps ops g;
  more = λ rooms docs ready fits. omega (arith, more, gain_size rooms doc n ps ops docs ready g apart fits);
}
