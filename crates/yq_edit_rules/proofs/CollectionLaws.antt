-- Items or entries of the collection at a path, added, taken out and relabelled.
use Rattle.std.proofs.Common.{◌≡◌, ℕ, List, [], ◌∷◌, ◌++◌, Option, Some, None, option_map, Bool, true, false, cond, refl, sym, ap, ◌∙◌}
use Rattle.std.proofs.Common.{subst, append_assoc, append-nil, rules}
use Rattle.yq_core.specs.Paths.{Step, is_here, further, append_child, changed_at, relabel_child, remove_child, within, append_children}
use Rattle.yq_core.specs.Tree.{Label, child}
use Rattle.yq_outline.{specs.Group.level_or, specs.Laws.with_lines}
use Rattle.yq_outline.specs.Outline.{Line, level, Outline, end, row, flatten, IsEven, anchored, head_or, label, children, value}
use Rattle.yq_outline.{specs.Places.{here, plug, FoundLine, next_to, find_row, content_under}, proofs.PlaceLaws.at, proofs.Plug.entry_whole}
use Rattle.yq_outline.proofs.Values.{If, same_rank, same_entry, anchored-within}
use Rattle.yq_edit_rules.specs.Siblings.{append_outline, HasEntries, put_lines, AreSomewhere, CollectionReplaced, Appended, Removed}
use Rattle.yq_edit_rules.specs.Siblings.{Relabelled, NodeLines, IsCollectionAt, IsEntryAt}
use Rattle.yq_edit_rules.proofs.SiblingLaws.{entries, even_append, entry_in, entry_out, flatten-append, children-append, even_right}
use Rattle.yq_edit_rules.{proofs.SiblingLaws.{even_replaced, block_value}, proofs.NodeLineLaws.{lines_even, lines_replaced}}
use Rattle.yq_outline.proofs.Allowing as allowing

pub collection_replaced : CollectionReplaced
collection_replaced n o u steps h g even there block new kids =
    let deep = lines_even n o steps h even there.place_is there.block in
    let m : ℕ = level_or 0 h.lines in
    let same : value u ≡ within g (value h.lines) = block_value m h.lines u g there.block block deep.1 new kids in
    lines_replaced n m o u steps h (within g) even there.place_is (record { deep = deep.0; even = new; node_is = ap (anchored h.anchor) same ∙ anchored-within h.anchor g (value h.lines) })

-- an entry's collection
pub collection_of : {steps : List Step} {s : Step} {o : Outline} {h : NodeLines} {f : FoundLine} → IsEntryAt steps s o h f → IsCollectionAt steps o h
collection_of x = record { place_is = x.place_is; block = x.block }

-- the items or entries before one, itself, and those after it
pub record Splits (s : Step) (o : Outline) (f : FoundLine) : Type 0 where
  pub front : Outline
  pub whole : append_outline front (row f.line f.under f.after) ≡ o
  pub plugs : (x : Outline) → plug f.place x ≡ append_outline front x
  pub lines : (ls : List Line) → with_lines f ls ≡ flatten front ++ (ls ++ flatten f.after)
  pub removed : append_children (children front) (children f.after) ≡ remove_child s (children o)
  pub relabelled : (g : Label → Label) → append_children (children front) (child (g (label f.line)) (content_under f.line f.under) (children f.after)) ≡ relabel_child s g (children o)

pub row_splits : (s : Step) (o : Outline) → If (find_row s o) (Splits s o)
row_splits s end = tt
row_splits s (row k v a) = go (is_here s (label k)) refl (find_row (further s) a) (row_splits (further s) a)
  where
    go : (b : Bool) → is_here s (label k) ≡ b → (r : Option FoundLine) → If r (Splits (further s) a) →
        If (cond b (Some (record { place = here; line = k; under = v; after = a })) (option_map (next_to k v) r)) (Splits s (row k v a))
    go true e r h = search (rules, append-nil)
    go false e None h = tt
    go false e (Some f) h = record {
      front = row k v h.front;
      whole = ap (row k v) h.whole;
      plugs = λ x. ap (row k v) (h.plugs x);
      lines = λ ls. ap (λ x. k ∷ x) (append_assoc (flatten v) _ _ ∙ (ap (λ x. flatten v ++ x) (h.lines ls) ∙ sym (append_assoc (flatten v) (flatten h.front) (ls ++ flatten f.after))));
      removed = rw e (ap (child (label k) (content_under k v)) h.removed);
      relabelled = λ g. rw e (ap (child (label k) (content_under k v)) (h.relabelled g));
    }

pub some_at : (s : Step) (o : Outline) (f : FoundLine) → find_row s o ≡ Some f → Splits s o f
some_at s o f e = at (Splits s o) (find_row s o) f e (row_splits s o)

pub removed : Removed
removed n o steps h s f even entry left =
    let w = some_at s h.lines f entry.found in
    let deep = lines_even n o steps h even entry.place_is entry.block in
    let m : ℕ = level_or 0 h.lines in
    let whole : IsEven m (append_outline w.front (row f.line f.under f.after)) = subst (IsEven m) (sym w.whole) deep.1 in
    let block : HasEntries (append_outline w.front f.after) = subst HasEntries (w.plugs f.after) left in
    let new : IsEven m (append_outline w.front f.after) = even_replaced m w.front (row f.line f.under end) f.after end whole tt (subst HasEntries (sym w.whole) entry.block) block in
    let law = collection_replaced n o (append_outline w.front f.after) steps h (remove_child s) even (collection_of entry) block new (children-append w.front f.after ∙ w.removed) in
    let lines : flatten (append_outline w.front f.after) ≡ with_lines f [] = flatten-append w.front f.after ∙ sym (w.lines []) in
    let olds : flatten h.lines ≡ with_lines f (f.line ∷ flatten f.under) =
    ap flatten (sym w.whole) ∙ (flatten-append w.front (row f.line f.under f.after) ∙ sym (w.lines (f.line ∷ flatten f.under))) in
    (law.0 ∙ ap (put_lines h) olds, subst (λ ls. AreSomewhere (put_lines h ls) (changed_at steps (within (remove_child s)) (value o))) lines law.1)

pub relabelled : Relabelled
relabelled n o steps h s f g l even entry new_line =
    let w = some_at s h.lines f entry.found in
    let deep = lines_even n o steps h even entry.place_is entry.block in
    let m : ℕ = level_or 0 h.lines in
    let u : Outline = append_outline w.front (row l f.under f.after) in
    let whole : IsEven m (append_outline w.front (row f.line f.under f.after)) = subst (IsEven m) (sym w.whole) deep.1 in
    let here : IsEven m (row f.line f.under f.after) = even_right m w.front (row f.line f.under f.after) whole in
    let old' : HasEntries (append_outline w.front (row f.line f.under f.after)) = subst HasEntries (sym w.whole) entry.block in
    let block : HasEntries u = stay w.front old' in
    let one : IsEven m (row l f.under end) = search (rules, entry_whole, mark) in
    let new : IsEven m u = even_replaced m w.front (row f.line f.under end) f.after (row l f.under end) whole one old' block in
    let node : content_under l f.under ≡ content_under f.line f.under = λ i. anchored (new_line.anchor_is i) (head_or (new_line.head_is i) (value f.under)) in
    let kids : children u ≡ relabel_child s g (children h.lines) = search (rules, children-append, w, node) in
    let law = collection_replaced n o u steps h (relabel_child s g) even (collection_of entry) block new kids in
    let lines : flatten u ≡ with_lines f (l ∷ flatten f.under) = flatten-append w.front (row l f.under f.after) ∙ sym (w.lines (l ∷ flatten f.under)) in
    let olds : flatten h.lines ≡ with_lines f (f.line ∷ flatten f.under) =
    ap flatten (sym w.whole) ∙ (flatten-append w.front (row f.line f.under f.after) ∙ sym (w.lines (f.line ∷ flatten f.under))) in
    (law.0 ∙ ap (put_lines h) olds, subst (λ ls. AreSomewhere (put_lines h ls) (changed_at steps (within (relabel_child s g)) (value o))) lines law.1)
  where
    -- the line entry.place_is an entry's
    mark : (a : Outline) (m : ℕ) → IsEven m (append_outline a (row f.line f.under f.after)) → HasEntries (append_outline a (row f.line f.under f.after)) → allowing.IsEntry l.mark
    mark end m e b = same_entry f.line.mark l.mark (entry_in f.line.mark b) (same_rank f.line l (sym new_line.level_is))
    mark (row k v a) m e b =
        let back = even_right m a (row f.line f.under f.after) e.4 in
        same_entry k.mark l.mark (entry_in k.mark b) (same_rank k l (e.0 ∙ sym (new_line.level_is ∙ back.0)))

    stay : (a : Outline) → HasEntries (append_outline a (row f.line f.under f.after)) → HasEntries (append_outline a (row l f.under f.after))
    stay end b = entry_out l.mark (same_entry f.line.mark l.mark (entry_in f.line.mark b) (same_rank f.line l (sym new_line.level_is)))
    stay (row k v a) b = b

last_child : (o v : Outline) (l : Line) → children (append_outline o (row l v end)) ≡ append_child (label l) (content_under l v) (children o)
last_child end v l = refl
last_child (row k u a) v l = ap (child (label k) (content_under k u)) (last_child a v l)

-- a line at the level of a collection is an entry's
pub level_mark : (l : Line) (a : Outline) → HasEntries a → level l ≡ level_or 0 a → allowing.IsEntry l.mark
level_mark l end b e = absurd b
level_mark l (row k u c) b e = same_entry k.mark l.mark (entry_in k.mark b) (same_rank k l (sym e))

pub appended : Appended
appended n m o v l steps h even there fits =
    let deep = lines_even n o steps h even there.place_is there.block in
    let k : ℕ = level_or 0 h.lines in
    let u : Outline = append_outline h.lines (row l v end) in
    let block : HasEntries u = search rules in
    let one : IsEven k (row l v end) = search (rules, entry_whole, level_mark) in
    let new : IsEven k u = even_append k h.lines (row l v end) (entries u block) deep.1 one in
    let law = collection_replaced n o u steps h (append_child (label l) (content_under l v)) even there block new (last_child h.lines v l) in
    let lines : flatten u ≡ flatten h.lines ++ (l ∷ flatten v) = flatten-append h.lines (row l v end) ∙ ap (λ x. flatten h.lines ++ (l ∷ x)) (append-nil (flatten v)) in
    (law.0, subst (λ ls. AreSomewhere (put_lines h ls) (changed_at steps (within (append_child (label l) (content_under l v))) (value o))) lines law.1)
