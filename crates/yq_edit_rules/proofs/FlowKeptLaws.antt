-- What stays of a document in which a flow collection has other items or entries.
use Rattle.std.proofs.Common.{◌≡◌, ◌⊎◌, ℕ, Bool, true, false, cond, List, [], ◌∷◌, ◌++◌, map, Some, option_and_then, option_map, sym, ap}
use Rattle.std.{proofs.Common.{◌∙◌, subst, rules}, specs.Option.option_or, proofs.lemmas.Bool.cond_both}
use Rattle.std.{proofs.lemmas.Option.{none-some, same_Some}, specs.Prelude.is_some}
use Rattle.yq_core.{specs.Paths.{Step, is_here, further}, specs.Collections.{CollPieces, coll_along, collection_put, change_item}}
use Rattle.yq_core.{specs.Entries.{EntryPieces, item_at}, specs.Nodes.{Key, FlowNode, coll, anchored, Sep, Items, none, item}}
use Rattle.yq_core.{specs.Trees.key_content, specs.Tree.key_label}
use Rattle.yq_flow_edits.{specs.FlowEdits.FlowEdit, specs.Removals.{before_next, edit_from_item, gap_of, last_out, removing_from}}
use Rattle.yq_flow_edits.proofs.RemoveTexts.{either, option_some}
use Rattle.yq_row_table.{specs.Exchange.with_content, specs.Rows.{Inline, Row, Part}, proofs.splices.SpliceTexts.own_gap}
use Rattle.yq_documents.specs.Documents.{ContentHasFitKeys, EachHasFitKeys, HasFitKeys, HaveFitKeys}
use Rattle.yq_outline.specs.Lines.{head_of}
use Rattle.yq_edit_rules.{specs.FlowKept.{with_items, FlowRooms, FlowKeys, LeftKeys}, specs.Rooms.row_shape, proofs.AnchorLaws.fit_parts}
use Rattle.yq_edit_rules.{proofs.FlowRowLaws.node_holds, proofs.PartLaws.document_known, proofs.RowCommentLaws.lead_content}
use Rattle.yq_edit_rules.proofs.ShapeLaws.{shapes_are_alike}

-- ---- keys

fit_items : (ss : List Step) (k : ℕ) (s : Step) (os : Items) (rest : List ℕ) (w : CollPieces) (f : FlowNode → FlowNode) →
    option_and_then (λ (y : EntryPieces). coll_along ss y.node y.rest) (item_at k s os rest) ≡ Some w → EachHasFitKeys os →
    ((node : FlowNode) (u : List ℕ) → coll_along ss node u ≡ Some w → HasFitKeys node → HasFitKeys (f node)) → EachHasFitKeys (change_item s f os)
fit_items ss k s none rest w f e h fits = absurd (none-some _ e)
fit_items ss k s (item key n sep os) rest w f e h fits = search (rules, fit_items ss k (further s) os rest w f)

fit_at : (ss : List Step) (node : FlowNode) (rest : List ℕ) (w : CollPieces) (g : List ℕ) (is : Items) → coll_along ss node rest ≡ Some w →
    HasFitKeys node → (EachHasFitKeys w.items → EachHasFitKeys is) → HasFitKeys (collection_put ss g is node)
fit_at [] (coll k gap os) rest w g is e h f = f (subst (λ (x : CollPieces). EachHasFitKeys x.items) (same_Some _ _ e) h)
fit_at [] (anchored n gap node) rest w g is e h f = fit_at [] node rest w g is e h f
fit_at (s ∷ ss) (coll k gap os) rest w g is e h f = fit_items ss k s os rest w (collection_put ss g is) e h (λ node u found fit. fit_at ss node u w g is found fit f)
fit_at (s ∷ ss) (anchored n gap node) rest w g is e h f = fit_at (s ∷ ss) node rest w g is e h f
fit_at _ _ rest w g is e h f = absurd (none-some _ e)

pub flow_keys : FlowKeys
flow_keys t c k p steps f rest i w gap is old at fits =
    let known = document_known t c k p old in
    let row = (fit_parts i.front (i.row ∷ i.back) (subst HaveFitKeys at.rows_are known.document.keys)).1 in
    fit_at rest i.node _ w gap is at.along (subst ContentHasFitKeys at.content_is row.1) fits

before_fit : (k : ℕ) (rest g : List ℕ) (key : Key) (n : FlowNode) (sep : Sep) (os : Items) (e : FlowEdit) → before_next k rest g key n sep os ≡ Some e → EachHasFitKeys os → EachHasFitKeys e.items
before_fit k rest g key n sep none e at h = absurd (none-some _ at)
before_fit k rest g key n sep (item key2 n2 sep2 os) e at h = subst (λ (x : FlowEdit). EachHasFitKeys x.items) (same_Some _ _ at) h

left_fit : (k : ℕ) (rest : List ℕ) (s : Step) (g : List ℕ) (os : Items) (e : FlowEdit) → removing_from k rest s g os ≡ Some e → EachHasFitKeys os → EachHasFitKeys e.items
left_fit k rest s g none e at h = absurd (none-some _ at)
left_fit k rest s g (item key n sep os) e at h = go (is_here s (key_label (key_content key))) (λ x is. left_fit k rest (further s) (gap_of sep) os x is h.2) at
  where
    after : ((x : FlowEdit) → removing_from k rest (further s) (gap_of sep) os ≡ Some x → EachHasFitKeys x.items) →
        (last_out k rest (further s) g key n sep os ≡ Some e) ⊎ (option_map (edit_from_item g key n sep) (removing_from k rest (further s) (gap_of sep) os) ≡ Some e) → EachHasFitKeys e.items
    after again at = search (rules, none-some, same_Some, cond_both, option_some)

    go : (b : Bool) → ((x : FlowEdit) → removing_from k rest (further s) (gap_of sep) os ≡ Some x → EachHasFitKeys x.items) →
        cond b (before_next k rest g key n sep os) (option_or (last_out k rest (further s) g key n sep os) (option_map (edit_from_item g key n sep) (removing_from k rest (further s) (gap_of sep) os))) ≡ Some e → EachHasFitKeys e.items
    go true again at = before_fit k rest g key n sep os e at h.2
    go false again at = after again (either _ _ at)

pub left_keys : LeftKeys
left_keys s w e at h = left_fit w.close w.rest s w.gap w.items e at h

-- ---- rooms and leads

pub one_other : (front : List Row) (b r : Row) (back : List Row) → row_shape b ≡ row_shape r → map row_shape (front ++ (b ∷ back)) ≡ map row_shape (front ++ (r ∷ back))
one_other [] b r back e = ap (λ x. x ∷ map row_shape back) e
one_other (y ∷ front) b r back e = ap (λ xs. row_shape y ∷ xs) (one_other front b r back e)

pub flow_rooms : FlowRooms
flow_rooms c k p steps f rest i w gap is at =
    let q : Part = with_items p i rest gap is in
    let holds = node_holds rest i.node _ w gap is at.along in
    let b : Row = with_content (Inline i.space (collection_put rest gap is i.node) i.tail) i.row in
    let there : q.rows ≡ i.front ++ (b ∷ i.back) = ap (λ (rs : List Row). i.front ++ (b ∷ rs)) (own_gap i.back p.end) in
    let headed : is_some (head_of b.content) ≡ is_some (head_of i.row.content) = search (rules, holds) in
    let shape : row_shape b ≡ row_shape i.row = λ j. record { column = i.row.column; dashes = i.row.dashes; mark = i.row.mark; headed = headed j } in
    let reports = shapes_are_alike p q (ap (map row_shape) there ∙ (one_other i.front b i.row i.back shape ∙ sym (ap (map row_shape) at.rows_are))) in
    (reports.0, reports.1, lead_content i.front i.row (Inline i.space (collection_put rest gap is i.node) i.tail) i.back p q at.rows_are there)
