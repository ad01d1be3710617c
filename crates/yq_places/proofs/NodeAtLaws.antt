-- What is known of the nodes at paths, as the code finds it.
use Rattle.std.proofs.Common.{rules, ◌≡◌, ◌⊎◌, inl, inr, ℕ, suc, ◌+◌, ◌-◌, ◌<◌, ◌≤◌, ltb, eqb, Bool, true, false, not, cond, List, [], ◌∷◌}
use Rattle.std.proofs.Common.{length, map, Option, Some, None, option_map, option_and_then, refl, sym, ap, ◌∙◌, subst, arith}
use Rattle.std.{proofs.lemmas.Bool.{cases_lt, lt-ltb, le-ltb, eq-eqb, ne_eqb, false≢true}, proofs.lemmas.Option.{slice_get-map, same_Some}}
use Rattle.std.{specs.List.slice_get, specs.Prelude.{is_some, Vec, vec_len}, specs.declared.alloc.Global.Global}
use Rattle.yq_core.{specs.declared.kind.Kind.Kind, specs.Answers.◌>>=◌, specs.Paths.{Step, node_at, is_item}, specs.Tree.Node}
use Rattle.yq_core.{specs.declared.inline.Inline.Inline, specs.declared.inline.Form.TheFolds.the_lemmas}
use Rattle.yq_core.{specs.Places.{placed, sequence, mapping as entries_form}, specs.Trees.{with_anchor_name, placed_tree}}
use Rattle.yq_core.specs.View.{anchor_name, inline_view, form_view, items_end, entries_end}
use Rattle.yq_documents.{proofs.CountedLaws.{items_count, entries_count}, proofs.FlowLaws.Field, specs.Documents.document_parts}
use Rattle.yq_documents.{specs.Reading.{all_documents, part_document}, proofs.PartRows.each}
use Rattle.yq_outline.{specs.Counts.count, specs.Ends.{IsEndOf, has_no_lines, part, reached}, specs.Group.group}
use Rattle.yq_outline.specs.Outline.{LineMark, Bare, Key, Dash, Line, level, Outline, end, row, key_of, children, value}
use Rattle.yq_outline.{specs.Places.{lines_before, FoundLine, find}, specs.Positions.{has_no_mark, begins_with_node}}
use Rattle.yq_outline.{proofs.EndsLaws.{deeper_line, not_end, row_parts}, proofs.PlaceLaws.at, specs.Lines.{head_of, lines_of_rows}}
use Rattle.yq_outline.{specs.RowWalk.{HasRows, IsLine, line_number}, specs.declared.line_position.Position.Position}
use Rattle.yq_outline.{specs.declared.line_position.Stretch.Stretch, proofs.WalkPositions.{Located, located}}
use Rattle.yq_row_table.{specs.Rows.{Row, Part, Cut}, specs.View.RowsView}
use Rattle.yq_places.specs.NodeReading.{NodePlace, at_head, at_lines, line_place, line_with_steps, node_place, place_line, summary_in_head}
use Rattle.yq_places.specs.NodeReading.{summary_in_line, summary_of_lines, line_or, place_node}
use Rattle.yq_places.specs.NodesAt.{NodeAt, scalar, list, map as mapping, node_summary, node_in, summary_several, scalar_in, summary_scalar}
use Rattle.yq_places.{specs.RemovalPlaces.has_several, specs.RowWalk.InCut, proofs.FlowPlaceLaws.{TakesSteps, Takes, takes_left}}
use Rattle.yq_places.{proofs.FlowViewLaws.numbered, proofs.NodePlaceLaws.node_found, proofs.RowPathLaws.document_fine}
use Rattle.yq_places.{proofs.FoundLaws.{first_is, found_in_lines}, proofs.WalkNodes.row_is}
use Rattle.yq_core.specs.Tree as tree
use Rattle.yq_core.specs.declared.inline.Form as forms

-- an anchor tells nothing of a node
pub named_summary : (a : Option (List ℕ)) (n : Node) → node_summary (with_anchor_name a n) ≡ node_summary n
named_summary None n = refl
named_summary (Some a) (tree.alias n) = refl
named_summary _ _ = refl

-- an inline collection
view_of_node : (node : Inline) → inline_view node ≡ placed (anchor_name node.anchor) node.start node.content node.end (form_view node.form)
view_of_node node = search (rules, the_lemmas)

view_of_list : (v : Vec Inline Global) → form_view (forms.TheVariants.List v) ≡ sequence (items_end v.items)
view_of_list v = simp (the_lemmas) refl

view_of_map : (v : Vec Field Global) → form_view (forms.TheVariants.Map v) ≡ entries_form (entries_end v.items)
view_of_map v = simp (the_lemmas) refl

pub items_agrees : (node : Inline) (v : Vec Inline Global) (n : ℕ) → node.form ≡ forms.TheVariants.List v → n ≡ vec_len v → list (ltb 1 n) ≡ node_summary (placed_tree (inline_view node))
items_agrees node v n is size = search (rules, items_count, named_summary, view_of_node, view_of_list)

pub entries_agrees : (node : Inline) (v : Vec Field Global) (n : ℕ) → node.form ≡ forms.TheVariants.Map v → n ≡ vec_len v → mapping (ltb 1 n) ≡ node_summary (placed_tree (inline_view node))
entries_agrees node v n is size = search (rules, entries_count, named_summary, view_of_node, view_of_map)

-- no steps lead on from a scalar
pub scalar_steps : (ss : List Step) (kind : Kind) (text : List ℕ) → false ≡ eqb (length ss) 0 → None ≡ summary_in_head ss (Some (tree.scalar None kind text))
scalar_steps [] kind text e = absurd (false≢true (e ∙ eq-eqb 0 0 refl))
scalar_steps (s ∷ ss) kind text e = refl

pub scalar_there : (ss : List Step) (kind : Kind) (text : List ℕ) → true ≡ eqb (length ss) 0 → Some (scalar (record { kind = kind; text = text })) ≡ summary_in_head ss (Some (tree.scalar None kind text))
scalar_there [] kind text e = refl
scalar_there (s ∷ ss) kind text e = absurd (false≢true (sym (e ∙ ne_eqb (suc (length ss)) 0 (λ h. omega (arith, h)))))

-- ---- lines

several_is : (a : Outline) → ltb 1 (suc (count (children a))) ≡ not (has_no_lines a)
several_is end = le-ltb 1 1 (omega arith)
several_is (row l u a) = lt-ltb 1 (suc (suc (count (children a)))) (omega arith)

collection_is : (l : Line) (u a : Outline) → has_no_mark l.mark ≡ false → node_summary (value (row l u a)) ≡ cond (is_item (key_of l.mark)) (list (not (has_no_lines a))) (mapping (not (has_no_lines a)))
collection_is l u a other = go l.mark other
  where
    go : (m : LineMark) → has_no_mark m ≡ false → node_summary (Rattle.yq_outline.specs.Outline.outline_node m (children (row l u a))) ≡ cond (is_item (key_of m)) (list (not (has_no_lines a))) (mapping (not (has_no_lines a)))
    go Bare e = absurd (cc)
    go (Key k) e = ap mapping (several_is a)
    go Dash e = ap list (several_is a)

-- the collection that lines mean, by the first of them and what is after that
pub collection_view : (ls : List Line) (n floor next : ℕ) (l : Line) → slice_get ls n ≡ Some l → true ≡ not (has_no_lines (part ls n floor)) → begins_with_node (part ls n floor) ≡ false → IsEndOf ls n next →
    node_summary (value (part ls n floor)) ≡ cond (is_item (key_of l.mark)) (list (not (has_no_lines (part ls next floor)))) (mapping (not (has_no_lines (part ls next floor))))
collection_view ls n floor next l is some other ends =
    let whole = row_parts ls n floor next l is (deeper_line ls n floor l is (not_end _ some)) (ends.2 l is) in
    ap (λ o. node_summary (value o)) whole ∙ collection_is l (part ls (n + 1) (level l)) (part ls next floor) (sym (ap begins_with_node whole) ∙ other)

-- where the node of a line is written
pub lines_place : (n m floor : ℕ) (left : List Step) (l : Line) → left ≡ [] → false ≡ is_some l.head → m ≡ n + 1 → floor ≡ level l → at_lines m floor ≡ line_place n left l
lines_place n m floor left l none head next deep =
    (λ i. at_lines (next i) (deep i)) ∙ (ap (λ b. cond b (at_head n) (at_lines (n + 1) (level l))) head ∙ ap (λ ss. line_place n ss l) (sym none))

pub placed_at : (ls : List Line) (steps left : List Step) (n : ℕ) (l : Line) (p : NodePlace) → Some (n, left) ≡ reached steps ls → slice_get ls n ≡ Some l → p ≡ line_place n left l → Some (p, left) ≡ node_place steps ls
placed_at ls [] left n l p e is place = absurd (cc)
placed_at ls (s ∷ ss) left n l p e is place = search (rules, place, is, e)

-- a node is written in the head of a line that is a node itself or has a head
bare_first : (ls : List Line) (n m floor : ℕ) (l : Line) → cond (begins_with_node (part ls n floor)) (Some n) None ≡ Some m → slice_get ls m ≡ Some l → has_no_mark l.mark ≡ true
bare_first ls n m floor l e is = go (part ls n floor) refl e
  where
    go : (o : Outline) → part ls n floor ≡ o → cond (begins_with_node o) (Some n) None ≡ Some m → has_no_mark l.mark ≡ true
    go end there e = absurd (cc)
    go (row k u a) there e = by (has_no_mark k.mark) refl e
      where
        by : (b : Bool) → has_no_mark k.mark ≡ b → cond b (Some n) None ≡ Some m → has_no_mark l.mark ≡ true
        by false bare e = absurd (cc)
        by true bare e =
            let same : n ≡ m = same_Some _ _ e in
            let first : k ≡ l = same_Some _ _ (sym (first_is ls n floor k u a there).line ∙ (ap (slice_get ls) same ∙ is)) in
            ap (λ (x : Line). has_no_mark x.mark) (sym first) ∙ bare

pub head_takes : (ls : List Line) (steps left : List Step) (p : NodePlace) (n : ℕ) (l : Line) → Some (p, left) ≡ node_place steps ls → Some n ≡ place_line ls p → slice_get ls n ≡ Some l → TakesSteps l
head_takes ls [] left p n l e found is =
    let place : p ≡ at_lines 0 0 = ap (λ (x : NodePlace × List Step). x.0) (same_Some _ _ e) in
    inl (bare_first ls 0 n 0 l (sym (found ∙ ap (place_line ls) place)) is)
head_takes ls (s ∷ ss) left p n l e found is = go (find s ss (group ls)) refl (takes_left s ss (group ls)) e
  where
    line : (f : FoundLine) (rest : List Step) → Takes (f, rest) → slice_get ls (length (lines_before f.place)) ≡ Some f.line → Some n ≡ place_line ls (line_place (length (lines_before f.place)) rest f.line) → TakesSteps l
    line f (t ∷ ts) takes there at = subst TakesSteps (same_Some _ _ (sym there ∙ (ap (slice_get ls) (sym (same_Some _ _ at)) ∙ is))) takes
    line f [] takes there at = by (is_some f.line.head) refl at
      where
        by : (b : Bool) → is_some f.line.head ≡ b → Some n ≡ place_line ls (cond b (at_head (length (lines_before f.place))) (at_lines (length (lines_before f.place) + 1) (level f.line))) → TakesSteps l
        by true head at = subst TakesSteps (same_Some _ _ (sym there ∙ (ap (slice_get ls) (sym (same_Some _ _ at)) ∙ is))) (inr head)
        by false head at = inl (bare_first ls _ n _ l (sym at) is)

    go : (r : Option (FoundLine × List Step)) → find s ss (group ls) ≡ r → Rattle.yq_outline.proofs.Values.If r Takes →
        Some (p, left) ≡ (option_map numbered r >>= λ x. line_with_steps x.0 x.1 (slice_get ls x.0)) → TakesSteps l
    go None there takes e = absurd (cc)
    go (Some x) there takes e =
        let found_it = (found_in_lines s ss x.1 ls x.0 there).0 in
        let place : p ≡ line_place (length (lines_before x.0.place)) x.1 x.0.line = ap (λ (y : NodePlace × List Step). y.0) (same_Some _ _ (e ∙ ap (λ (o : Option Line). line_with_steps (length (lines_before x.0.place)) x.1 o) found_it)) in
        line x.0 x.1 takes found_it (found ∙ ap (place_line ls) place)

-- its head is that of its row
pub row_takes : (s : RowsView) (d : Stretch) (h : HasRows s d) (q : Position) (l : Located s d h q) → TakesSteps l.line → l.line.head ≡ head_of l.row.content
row_takes s d h q l takes = go (cases_lt q.line (length l.row.dashes))
  where
    go : (q.line < length l.row.dashes) ⊎ (length l.row.dashes ≤ q.line) → l.line.head ≡ head_of l.row.content
    go (inl less) = absurd (dash (l.agrees.dash less) takes)
      where
        dash : (l.line.mark ≡ Dash) × (l.line.head ≡ None) → TakesSteps l.line → ⊥
        dash e (inl bare) = false≢true (sym (ap has_no_mark e.0) ∙ bare)
        dash e (inr head) = false≢true (sym (ap is_some e.1) ∙ head)
    go (inr past) = (l.agrees.mark (omega (arith, past, l.within))).1

-- ---- nodes

-- among the rows of a document
abbrev pub node_among : List Step → ℕ → Cut → List Row → Option NodeAt
node_among steps k c rs = node_place steps (lines_of_rows rs) >>= λ x. place_node (lines_of_rows rs) x.0 x.1

-- in no head
pub block_numbers_of : (ls : List Line) (steps left : List Step) (p : NodePlace) → Some (p, left) ≡ node_place steps ls → None ≡ place_line ls p → summary_of_lines ls p ≡ (node_place steps ls >>= λ x. place_node ls x.0 x.1)
block_numbers_of ls steps left p e none = ap (λ (o : Option ℕ). line_or o (summary_in_line ls left) (summary_of_lines ls p)) none ∙ ap (λ (o : Option (NodePlace × List Step)). o >>= λ x. place_node ls x.0 x.1) e

-- in the head of a line, by its row
pub head_agrees : (s : RowsView) (d : Stretch) (c : Cut) (k : InCut s d c) (q : Position) (w : IsLine s d q) (steps left : List Step) (p : NodePlace)
    (h : Option Node) → Some (p, left) ≡ node_place steps (lines_of_rows k.document.are_there.rows) →
    Some (line_number d k.document.are_there.rows q) ≡ place_line (lines_of_rows k.document.are_there.rows) p → h ≡ head_of (row_is s d c k q w).content → summary_in_head left h ≡ node_among steps d.first c k.document.are_there.rows
head_agrees s d c k q w steps left p h e found head =
    let ls : List Line = lines_of_rows k.document.are_there.rows in
    let l = located s d k.document.are_there q w in
    let same : h ≡ l.line.head = head ∙ sym (row_takes s d k.document.are_there q l (head_takes ls steps left p (line_number d k.document.are_there.rows q) l.line e found l.is)) in
    search rules

-- in a document of a text
pub node_is : (c : Cut) (n : ℕ) (steps : List Step) (k : ℕ) → all_documents c ≡ true → (slice_get (document_parts c) n >>= λ p. node_among steps k c p.rows) ≡ option_map node_summary (node_in n steps c)
node_is c n steps k sound =
    go (slice_get (document_parts c) n) refl ∙ sym (ap (λ o. option_map node_summary (o >>= λ d. node_at steps d.root)) (slice_get-map part_document (document_parts c) n))
  where
    go : (o : Option Part) → slice_get (document_parts c) n ≡ o → (o >>= λ p. node_among steps k c p.rows) ≡ option_map node_summary (option_map part_document o >>= λ d. node_at steps d.root)
    go None is = refl
    go (Some p) is = sym (node_found (lines_of_rows p.rows) steps (document_fine p (each (document_parts c) sound n p is)))

-- ---- scalars

pub scalar_agrees : (o : Option Node) → (option_map node_summary o >>= summary_scalar) ≡ option_and_then scalar_in o
scalar_agrees None = refl
scalar_agrees (Some (tree.alias name)) = refl
scalar_agrees (Some (tree.scalar a kind text)) = refl
scalar_agrees (Some (tree.list a cs)) = refl
scalar_agrees (Some (tree.map a cs)) = refl

-- ---- whether there are others

pub several_agrees : (o : Option Node) (v : NodeAt) → Some v ≡ option_map node_summary o → summary_several v ≡ has_several o
several_agrees None v e = absurd (cc)
several_agrees (Some n) v e = ap summary_several (same_Some _ _ e) ∙ go n
  where
    go : (n : Node) → summary_several (node_summary n) ≡ has_several (Some n)
    go (tree.list a cs) = refl
    go (tree.map a cs) = refl
    go _ = sym (le-ltb 1 0 (omega arith))

pub none_agrees : (o : Option Node) → None ≡ option_map node_summary o → false ≡ has_several o
none_agrees None e = refl
none_agrees (Some n) e = absurd (cc)
