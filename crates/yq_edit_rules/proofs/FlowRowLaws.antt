-- A flow collection whose items or entries are changed, by the row in which it is.
use Rattle.std.proofs.Common.{◌≡◌, ℕ, true, false, eqb, List, [], ◌∷◌, ◌++◌, length, Some, None, refl, sym, ap, ◌∙◌, subst, length-append}
use Rattle.std.{proofs.Common.{ℤ, rules}, proofs.lemmas.Bool.{and_parts, cond_both}, proofs.lemmas.Option.{none-some, same_Some}}
use mathlib.Core.List.{head-eq_of_cons-eq}
use Rattle.yq_core.{specs.Paths.{Step, changed_at, within}, specs.Alike.{Alike, stop, after}}
use Rattle.yq_core.{specs.Collections.{CollPieces, coll_along, collection_put}, specs.Inline.IsInline}
use Rattle.yq_core.specs.Nodes.{FlowNode, empty, alias, scalar, coll, anchored, Items, node_text}
use Rattle.yq_core.specs.Trees.{tree_collection, items_tree, node_anchor, node_head, tree_of}
use Rattle.yq_core.{proofs.Alikes.{alike_append, alike_separates}, specs.Anchors.IsNoAlias}
use Rattle.yq_flow_edits.{specs.FlowEdits.edited_node, proofs.CollLaws.open_stop}
use Rattle.yq_outline.{specs.Comments.head_comment, specs.Group.level_or, specs.Laws.with_lines}
use Rattle.yq_outline.{specs.Outline.{Line, Outline, end, flatten}, specs.Places.{lines_before, lines_after, FoundLine}}
use Rattle.yq_outline.{proofs.Decides.flatten-group, proofs.PlaceLaws.placed, proofs.Plug.allows_from}
use Rattle.yq_outline.specs.Lines.{mark_line, lines_of_rows}
use Rattle.yq_row_table.specs.Exchange.{allows_first, asked_after, with_content}
use Rattle.yq_row_table.specs.Grammar.{IsContent, IsMark, IsRow, Limit, AreRows, unlimited, is_more, is_plain_content, no_rows}
use Rattle.yq_row_table.specs.Rows.{Content, Inline, Row, content_text, mark_column, mark_text, parent_indent, rows_text, Part, Cut}
use Rattle.yq_row_table.{specs.Seams.TakesPlace, specs.Splices.first_gap, proofs.AlikeRows.dashes_text_alike, proofs.ExchangeLaws.mark_kept}
use Rattle.yq_row_table.{proofs.RowPlaces.takes_place, proofs.seams.SeamLaws.rows_drop, proofs.splices.SpliceTexts.own_gap}
use Rattle.yq_documents.{specs.Documents.{HaveFitKeys, HasShortRoot}, specs.Reading.part_outline}
use Rattle.yq_places.{proofs.FlowPieces.{named_is, none_anchored, twice}, proofs.RemovalLines.front_some}
use Rattle.yq_edit_rules.{specs.DocumentRows.{Known, after_document}, specs.FlowChanges.with_head}
use Rattle.yq_edit_rules.{specs.FlowRows.{InlineRow, row_collection, with_node, IsFlowAt, FlowIsThere, FlowEdited}, specs.Moved.dash_lines}
use Rattle.yq_edit_rules.{specs.RowComments.TakesRow, proofs.AnchorLaws.{fit_parts, fit_from}, proofs.FirstRowLaws.short_first}
use Rattle.yq_edit_rules.{proofs.FlowLineLaws.{none_under, flow_line_changed, head_whole}, proofs.LineLaws.{above_mark, dashes_count}}
use Rattle.yq_edit_rules.{proofs.PartLaws.{document_known, drop_front, take_front, is_put, part_rows}, proofs.PlacedLaws.same_parts}
use Rattle.yq_edit_rules.{proofs.CommentPutLaws.last_lines, proofs.ReplaceLaws.document_replaced, proofs.RowCommentLaws.row_replaces}
use Rattle.yq_core.specs.Tree as tree
use Rattle.yq_outline.specs.Outline as outlines
use Rattle.yq_row_table.specs.Rows as rows

-- What is known of a node in which a collection is, and of one with other items or entries there.
pub record HoldsColl (node m : FlowNode) (rest : List ℕ) : Type 0 where
  pub alike : Alike (Some false) (node_text node rest) (node_text m rest)
  pub plain : is_plain_content m ≡ false
  pub more : is_more m ≡ true
  pub some : Rattle.yq_core.specs.Nodes.is_empty_node m ≡ false
  pub anchor : node_anchor m ≡ node_anchor node
  pub old_head : (n : tree.Node) × (node_head node ≡ Some n)
  pub head : (n : tree.Node) × (node_head m ≡ Some n) × IsNoAlias (Some n)

coll_no_alias : (k : ℕ) (cs : tree.Children) → IsNoAlias (Some (tree_collection k cs))
coll_no_alias k cs = cond_both (eqb k 125) (tree.map None cs) (tree.list None cs) (λ (n : tree.Node). IsNoAlias (Some n)) (λ _. tt) (λ _. tt)

coll_holds : (k : ℕ) (g gap : List ℕ) (is others : Items) (rest : List ℕ) → HoldsColl (coll k gap others) (coll k g is) rest
unfolding node_text tree_of
coll_holds k g gap is others rest = record {
  alike = stop (open_stop k);
  plain = refl;
  more = refl;
  some = refl;
  anchor = refl;
  old_head = (_, refl);
  head = (_, refl, coll_no_alias k (items_tree is));
}

named_holds : (n g : List ℕ) (node m : FlowNode) (rest : List ℕ) → HoldsColl node m rest → HoldsColl (anchored n g node) (anchored n g m) rest
unfolding node_text
named_holds n g node m rest h = record {
  alike = stop refl;
  plain = h.plain;
  more = ap Rattle.std.specs.Prelude.not h.some;
  some = refl;
  anchor = refl;
  old_head = h.old_head;
  head = h.head;
}

pub node_holds : (ss : List Step) (node : FlowNode) (rest : List ℕ) (w : CollPieces) (g : List ℕ) (is : Items) → coll_along ss node rest ≡ Some w → HoldsColl node (collection_put ss g is node) rest
node_holds [] (coll k gap others) rest w g is e = coll_holds k g gap is others rest
node_holds [] (anchored n gap node) rest w g is e = named_holds n gap node _ rest (node_holds [] node rest w g is e)
node_holds (s ∷ ss) (coll k gap others) rest w g is e = coll_holds k gap gap _ others rest
node_holds (s ∷ ss) (anchored n gap node) rest w g is e = named_holds n gap node _ rest (node_holds (s ∷ ss) node rest w g is e)
node_holds _ _ rest w g is e = absurd (none-some _ e)

-- the tree of a node by its anchor and its head
anchor_head : (node : FlowNode) (h : tree.Node) → node_head node ≡ Some h → tree_of node ≡ outlines.anchored (node_anchor node) h
unfolding tree_of
anchor_head empty h e = absurd (none-some _ e)
anchor_head (anchored n g node) h e = named_is n (tree_of node) ∙ (ap (outlines.anchored (Some n)) (anchor_head node h e) ∙ twice (Some n) (node_anchor node) h)
anchor_head _ h e = same_Some _ _ e ∙ none_anchored h

-- the row
row_is : (t : List ℕ) (c : Cut) (k : ℕ) (p : Part) (i : InlineRow) → Rattle.yq_edit_rules.specs.DocumentRows.IsDocumentPart t c k p → p.rows ≡ i.front ++ (i.row ∷ i.back) →
    IsRow (asked_after unlimited i.front) i.row (rows_text i.back (p.end ++ after_document k c))
row_is t c k p i old there =
    let rest : List ℕ = after_document k c in
    let all = rows_drop (length i.front) p.rows unlimited p.end rest (part_rows t c k p old (document_known t c k p old).cut) in
    let front = subst (λ (fs : List Row). AreRows (asked_after unlimited fs) (Rattle.std.specs.Prelude.drop (length i.front) p.rows) p.end rest) (take_front p i.front (i.row ∷ i.back) there) all in
    (subst (λ (bs : List Row). AreRows (asked_after unlimited i.front) bs p.end rest) (drop_front p i.front (i.row ∷ i.back) there) front).0

inline_is : (i : InlineRow) (limit : Limit) (u : List ℕ) → IsRow limit i.row u → i.row.content ≡ Inline i.space i.node i.tail → IsContent (parent_indent i.row) (Inline i.space i.node i.tail) u
inline_is i limit u h e = subst (λ (x : Content). IsContent (parent_indent i.row) x u) e h.content

pub flow_is_there : FlowIsThere
flow_is_there t c k p steps f rest i w old at = record { inline = (inline_is i _ _ (row_is t c k p i old at.rows_are) at.content_is).1; found = at.along }

mark_alike : (mark : rows.RowMark) (t u : List ℕ) → Alike (Some false) t u → Alike (Some false) (mark_text mark t) (mark_text mark u)
mark_alike rows.Bare t u h = h
mark_alike rows.Dash t u h = after h
mark_alike (rows.Key key colon) t u h = alike_append (Some false) key _ _ (alike_append (Some false) colon t u h)

row_takes : (limit : Limit) (i : InlineRow) (m : FlowNode) (u : List ℕ) → IsRow limit i.row u → i.row.content ≡ Inline i.space i.node i.tail → HoldsColl i.node m (i.tail ++ u) →
    IsInline Rattle.yq_core.specs.declared.style.Place.TheVariants.Block (parent_indent i.row) 0 m (i.tail ++ u) → TakesPlace limit i.row u (with_content (Inline i.space m i.tail) i.row) u
row_takes limit i m u h e holds inline =
    let r : Row = i.row in
    let text : Alike (Some false) (content_text (Inline i.space i.node i.tail) u) (content_text (Inline i.space m i.tail) u) = alike_append (Some false) i.space _ _ holds.alike in
    let same : Alike (Some false) (content_text r.content u) (content_text (Inline i.space m i.tail) u) = subst (λ (x : Content). Alike (Some false) (content_text x u) (content_text (Inline i.space m i.tail) u)) (sym e) text in
    let old = inline_is i limit u h e in
    takes_place limit r u r.dashes r.mark (Inline i.space m i.tail) u h
    (dashes_text_alike r.dashes _ _ (mark_alike r.mark _ _ same)) h.dashes
    (search (rules, and_parts, mark_kept, holds.more, sym (alike_separates (Some false) _ _ text), subst (λ (x : Content). IsMark r.mark x u) e h.mark))
    (old.0, inline, old.2)

plain_next : (n : ℤ) (space tail : List ℕ) (m : FlowNode) (back : List Row) → is_plain_content m ≡ false → allows_first (Rattle.yq_row_table.specs.Grammar.limit_after_content n (Inline space m tail)) back ≡ true
plain_next n space tail m back e = search rules

-- The line of the row's mark is the one at the path, and the document's lines with another line there.
record LineIs (p : Part) (f : FoundLine) (i : InlineRow) : Type 0 where
  is : mark_line (above_mark (head_comment i.row.gap) i.row.dashes) (mark_column i.row) i.row.mark (Inline i.space i.node i.tail) ≡ f.line
  put : (m : FlowNode) → lines_of_rows (with_node p i m).rows ≡ with_lines f (mark_line (above_mark (head_comment i.row.gap) i.row.dashes) (mark_column i.row) i.row.mark (Inline i.space m i.tail) ∷ [])

line_is : (t : List ℕ) (c : Cut) (k : ℕ) (p : Part) (steps : List Step) (f : FoundLine) (rest : List Step) (i : InlineRow) (w : CollPieces)
    (n : tree.Node) → Known t c p → IsFlowAt c k p steps f rest i w → node_head i.node ≡ Some n → LineIs p f i
line_is t c k p steps f rest i w n known at head =
    let r : Row = i.row in
    let o : Outline = part_outline p in
    let whole = head_whole (level_or 0 o) o steps f rest known.even at.found in
    let a : List Line = lines_of_rows i.front ++ dash_lines (head_comment r.gap) r.column r.dashes in
    let line : Content → Line = λ x. mark_line (above_mark (head_comment r.gap) r.dashes) (mark_column r) r.mark x in
    let tail : List Line = flatten f.after ++ lines_after f.place in
    let size : length a ≡ length (lines_before f.place) = search (rules, length-append, dashes_count, r) in
    let olds : a ++ (line r.content ∷ lines_of_rows i.back) ≡ lines_before f.place ++ (f.line ∷ (flatten f.under ++ tail)) =
    sym (ap lines_of_rows at.rows_are ∙ last_lines i.front r i.back r.content) ∙ (sym (flatten-group (lines_of_rows p.rows)) ∙ (ap flatten (sym whole) ∙ placed f f.line f.under)) in
    let parts = same_parts a (line r.content ∷ []) (lines_of_rows i.back) (lines_before f.place) (f.line ∷ []) (flatten f.under ++ tail) olds size refl in
    let is : line (Inline i.space i.node i.tail) ≡ f.line = ap line (sym at.content_is) ∙ head-eq_of_cons-eq parts.1 in
    search (rules, allows_from, none_under, own_gap, last_lines)

pub flow_edited : FlowEdited
flow_edited t c k p steps f rest i w e h old at edited keys sound text =
    let known = document_known t c k p old in
    let r : Row = i.row in
    let m : FlowNode = edited_node (row_collection c k p i rest w) e in
    let b : Row = with_content (Inline i.space m i.tail) r in
    let q : Part = with_node p i m in
    let u : List ℕ = rows_text i.back (p.end ++ after_document k c) in
    let holds = node_holds rest i.node (i.tail ++ u) w e.gap e.items at.along in
    let takes : TakesRow p i.front r b i.back (after_document k c) = search (rules, row_takes, row_is, plain_next) in
    let there : q.rows ≡ i.front ++ (b ∷ i.back) = ap (λ (rs : List Row). i.front ++ (b ∷ rs)) (own_gap i.back p.end) in
    let cut = document_replaced t c k p i.front (r ∷ []) i.back (b ∷ []) (first_gap i.back p.end) old (row_replaces t c k p i.front i.back r b old takes) text in
    let fits = fit_parts i.front (r ∷ i.back) (subst HaveFitKeys at.rows_are known.document.keys) in
    let fit : HaveFitKeys (i.front ++ (b ∷ i.back)) = fit_from i.front (b ∷ i.back) fits.0 (fits.1.0, keys, fits.1.2) in
    let short : HasShortRoot (i.front ++ (b ∷ i.back)) =
    short_first i.front i.back (r ∷ i.back) b (subst HasShortRoot at.rows_are known.document.short) (search rules) in
    let put = is_put t c k p q old (ap no_rows there ∙ front_some i.front b i.back) text cut (subst HaveFitKeys (sym there) fit) (subst HasShortRoot (sym there) short) in
    let n = holds.old_head in
    let d = holds.head in
    let line = line_is t c k p steps f rest i w n.0 known at n.1 in
    let above : List (List ℕ) = above_mark (head_comment r.gap) r.dashes in
    let l : Line = mark_line above (mark_column r) r.mark (Inline i.space m i.tail) in
    let whole_is : l ≡ with_head d.0 f.line = (λ j. record l { anchor = holds.anchor j; head = d.1 j }) ∙ ap (with_head d.0) line.is in
    let anchor : node_anchor i.node ≡ f.line.anchor = ap (λ (y : Line). y.anchor) line.is in
    let tree : outlines.anchored f.line.anchor d.0 ≡ changed_at rest (within h) (outlines.anchored f.line.anchor n.0) = search (rules, anchor_head) in
    flow_line_changed t c k p q steps rest f n.0 d.0 h put at.found (sym (ap (λ (y : Line). y.head) line.is) ∙ n.1) (λ _. d.2) tree (line.put m ∙ ap (λ (y : Line). with_lines f (y ∷ [])) whole_is) sound
