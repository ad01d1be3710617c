-- The line in whose head a path goes on holds the collection to which the path leads, in an inline node of its row.
use Rattle.std.proofs.Common.{rules, ◌≡◌, ℕ, ◌+◌, List, [], ◌∷◌, ◌++◌, length, Option, Some, None, option_map, refl, sym, ap, ◌∙◌, subst}
use Rattle.std.{proofs.Common.length-append, proofs.lemmas.Bool.false≢true, proofs.lemmas.Option.{none-some, same_Some}}
use Rattle.std.{specs.List.slice_get, specs.Prelude.option_and_then}
use mathlib.Core.List.{head-eq_of_cons-eq}
use Rattle.yq_core.{specs.Answers.◌>>=◌, specs.Paths.{Step, node_at}, specs.Collections.CollPieces, specs.Trees.tree_of}
use Rattle.yq_outline.{specs.Comments.head_comment, specs.Group.level_or}
use Rattle.yq_outline.specs.Outline.{Line, level, Outline, row, flatten, IsEven, IsWhole, anchored, head_or, value}
use Rattle.yq_outline.specs.Places.{lines_before, lines_after, FoundLine, find, in_head, place_inside, content_under}
use Rattle.yq_outline.{proofs.Decides.flatten-group, proofs.Finding.path_node, proofs.PlaceLaws.placed, proofs.Plug.allows_from}
use Rattle.yq_outline.specs.Lines.{content_anchor, head_of, lines_of_rows, mark_line}
use Rattle.yq_row_table.{specs.Exchange.after_row, specs.Rows.{Content, Nothing, Inline, Block, Row, Part, Cut, cut_text, mark_column}}
use Rattle.yq_documents.{specs.Documents.document_parts, specs.Reading.{part_outline, read_at, root_of}}
use Rattle.yq_documents.specs.LinesInRows.{document_row, RowLine, row_line}
use Rattle.yq_places.specs.FlowNodes.{bare_line, content_flow, find_head, flow_collection, head_line, line_collection, part_collection}
use Rattle.yq_places.{proofs.FlowPieces.head_tree, proofs.FlowPlaceLaws.{TakesSteps, mark_row_line}, proofs.FoundEntries.middle}
use Rattle.yq_edit_rules.{specs.LineRows.IsRowLine, specs.Moved.dash_lines, proofs.FlowLineLaws.{head_takes, head_whole}}
use Rattle.yq_edit_rules.{proofs.LineLaws.{above_mark, dashes_count, row_line_splits}, proofs.PartLaws.document_known}
use Rattle.yq_edit_rules.{proofs.PlacedLaws.same_parts, proofs.CommentPutLaws.last_lines}
use Rattle.yq_edit_laws.proofs.FlowHeldNodes.{FlowContent, HeldAt, coll_held, coll_there, held, held_anchored, same_held}
use Rattle.yq_core.specs.Tree as tree

abbrev Reached : Type 0
Reached = FoundLine × List Step

-- ---- the collection is that of the line

-- steps lead on from a line to a collection that holds these
abbrev HeldIn : FlowContent → Reached → Type 0
HeldIn x y = HeldAt y.1 (content_under y.0.line y.0.under) x

-- from the lines of a node, if the first of them is the node itself, under an anchor
bare_held : (a : Option (List ℕ)) (g : FoundLine → FoundLine) →
    ((b : FoundLine) → (content_under (g b).line (g b).under ≡ content_under b.line b.under)) → (o : Outline) (x : FlowContent) (y : Reached) →
    held (anchored a (value o)) ≡ Some x →
    option_map {U = Reached} (λ b. (g b, [])) (bare_line o) ≡ Some y → HeldIn x y
bare_held a g same o x y is e = search (rules, none-some, same_Some, held, held_anchored)

head_held : (f : FoundLine) (left : List Step) (x : FlowContent) (y : Reached) → HeldIn x (f, left) → head_line f left ≡ Some y → HeldIn x y
head_held f (s ∷ ss) x y h e = subst (HeldIn x) (same_Some _ _ e) h
head_held f [] x y h e = go f.line.head refl e
  where
    go : (o : Option tree.Node) → f.line.head ≡ o → in_head o (Some (f, [])) (option_map {U = Reached} (λ b. (place_inside f b, [])) (bare_line f.under)) ≡ Some y → HeldIn x y
    go (Some n) head e = subst (HeldIn x) (same_Some _ _ e) h
    go None head e =
        search (rules, ap (λ o. held (anchored f.line.anchor (head_or o (value f.under)))) (sym head) ∙ (ap held (same_Some _ _ h.1) ∙ h.2), bare_held)

-- A collection at a path is that to which steps lead on from the line.
line_holds : (steps : List Step) (o : Outline) (y : FoundLine × List Step) (x : FlowContent) → find_head steps o ≡ Some y → HeldAt steps (value o) x → HeldAt y.1 (content_under y.0.line y.0.under) x
line_holds [] o y x found h = bare_held None (λ b. b) (λ b. refl) o x y (held_anchored None (value o) ∙ (ap held (same_Some _ _ h.1) ∙ h.2)) found
line_holds (s ∷ ss) o y x found h = go (find s ss o) (sym (path_node s ss o) ∙ h.1) found
  where
    go : (r : Option Reached) → option_and_then (λ z. node_at z.1 (content_under z.0.line z.0.under)) r ≡ Some h.0 → (r >>= λ z. head_line z.0 z.1) ≡ Some y → HeldIn x y
    go None at e = absurd (none-some _ e)
    go (Some z) at e = head_held z.0 z.1 x y (h.0, at, h.2) e

-- ---- the line is that of a row

-- The row in which a line is, whose anchor and head these are.
pub record HeadRow (p : Part) (f : FoundLine) : Type 0 where
  pub row_line_is : RowLine
  pub there : row_line (length (lines_before f.place)) p.rows ≡ Some row_line_is
  pub anchor : content_anchor row_line_is.row.content ≡ f.line.anchor
  pub head : head_of row_line_is.row.content ≡ f.line.head

-- the line of a row's mark, by how many lines come before it
held_row_line : (rs front : List Row) (r : Row) (back : List Row) (before tail : List Line) (l : Line) → rs ≡ front ++ (r ∷ back) → lines_of_rows rs ≡ before ++ (l ∷ tail) →
    length before ≡ length (lines_of_rows front) + length r.dashes → mark_line (above_mark (head_comment r.gap) r.dashes) (mark_column r) r.mark r.content ≡ l
held_row_line rs front r back before tail l rows lines size =
    let dashes : List Line = dash_lines (head_comment r.gap) r.column r.dashes in
    let own : Line = mark_line (above_mark (head_comment r.gap) r.dashes) (mark_column r) r.mark r.content in
    let olds : (lines_of_rows front ++ dashes) ++ (own ∷ lines_of_rows back) ≡ before ++ (l ∷ tail) = sym (ap lines_of_rows rows ∙ last_lines front r back r.content) ∙ lines in
    let count : length (lines_of_rows front ++ dashes) ≡ length before = search (rules, length-append, dashes_count) in
    head-eq_of_cons-eq (same_parts (lines_of_rows front ++ dashes) (own ∷ []) (lines_of_rows back) before (l ∷ []) tail olds count refl).1

pub head_row : (n : ℕ) (p : Part) (steps : List Step) (f : FoundLine) (rest : List Step) → IsEven n (part_outline p) → find_head steps (part_outline p) ≡ Some (f, rest) → HeadRow p f
head_row n p steps f rest even found =
    let o : Outline = part_outline p in
    let k : ℕ = length (lines_before f.place) in
    let tail : List Line = flatten f.under ++ (flatten f.after ++ lines_after f.place) in
    let lines : lines_of_rows p.rows ≡ lines_before f.place ++ (f.line ∷ tail) =
    sym (flatten-group (lines_of_rows p.rows)) ∙ (ap flatten (sym (head_whole n o steps f rest even found)) ∙ placed f f.line f.under) in
    let m = mark_row_line p.rows k f.line (ap (λ (ls : List Line). slice_get ls k) lines ∙ middle (lines_before f.place) tail f.line) (head_takes n o steps f rest even found) in
    of_row_line tail m.0 lines m.1 m.2
  where
    of_row_line : (tail : List Line) (s : RowLine) → lines_of_rows p.rows ≡ lines_before f.place ++ (f.line ∷ tail) → row_line (length (lines_before f.place)) p.rows ≡ Some s → s.line ≡ length s.row.dashes → HeadRow p f
    of_row_line tail s lines there mark =
        let a : IsRowLine (length (lines_before f.place)) p.rows s = row_line_splits (length (lines_before f.place)) p.rows s there in
        let size : length (lines_before f.place) ≡ length (lines_of_rows a.front) + length s.row.dashes = a.lines ∙ ap (λ (j : ℕ). length (lines_of_rows a.front) + j) mark in
        let same = held_row_line p.rows a.front s.row a.back (lines_before f.place) tail f.line a.rows_are lines size in
        record { row_line_is = s; there = there; anchor = ap (λ (l : Line). l.anchor) same; head = ap (λ (l : Line). l.head) same }

-- the line has a head
pub head_there : (f : FoundLine) → TakesSteps f.line → IsWhole f.line.mark f.line.head f.after → (h : tree.Node) × (f.line.head ≡ Some h)
head_there f bare whole = search (rules, false≢true)

-- ---- the row's content is an inline node with the collection

scalar_holds : (ss : List Step) (a b : Option (List ℕ)) (text : List ℕ) (x : FlowContent) → HeldAt ss (anchored a (tree.scalar b Rattle.yq_core.specs.declared.kind.Kind.TheVariants.Text text)) x → ⊥
scalar_holds [] a b text x h = none-some _ (ap held (same_Some _ _ h.1) ∙ h.2)
scalar_holds (s ∷ ss) a b text x h = none-some _ h.1

content_holds : (y : Content) (h : tree.Node) (rest : List Step) (x : FlowContent) (after : List ℕ) → head_of y ≡ Some h → HeldAt rest (anchored (content_anchor y) h) x →
    (w : CollPieces) × (content_flow rest y after ≡ Some w) × (coll_held w ≡ x)
content_holds (Nothing tail) h rest x after head at = absurd (none-some _ head)
content_holds (Block space anchor block) h rest x after head at =
    absurd (scalar_holds rest (content_anchor (Block space anchor block)) None _ x (subst (λ (n : tree.Node). HeldAt rest (anchored (content_anchor (Block space anchor block)) n) x) (sym (same_Some _ _ head)) at))
content_holds (Inline space node tail) h rest x after head at =
    let n = head_tree node h head in
    let same : held (anchored (content_anchor (Inline space node tail)) h) ≡ held (tree_of node) = held_anchored (content_anchor (Inline space node tail)) h ∙ (sym (held_anchored n.0 h) ∙ ap held (sym n.1)) in
    coll_there rest node (tail ++ after) x (same_held rest (anchored (content_anchor (Inline space node tail)) h) (tree_of node) x same at)

-- Steps lead to a collection in a document of a cut that has a reading, and to its line's head.
pub record HeadHolds (c : Cut) (doc : ℕ) (steps : List Step) (x : FlowContent) : Type 0 where
  pub read : read_at (cut_text c) ≡ Some c
  pub part : Part
  pub there : slice_get (document_parts c) doc ≡ Some part
  pub line : FoundLine
  pub rest : List Step
  pub found : find_head steps (part_outline part) ≡ Some (line, rest)
  pub at : HeldAt steps (root_of part) x

-- It is a flow collection, that holds the same.
pub flow_there : (c : Cut) (doc : ℕ) (steps : List Step) (x : FlowContent) → HeadHolds c doc steps x → (w : CollPieces) × (flow_collection doc steps c ≡ Some w) × (coll_held w ≡ x)
flow_there c doc steps x h =
    let p : Part = h.part in
    let f : FoundLine = h.line in
    let o : Outline = part_outline p in
    let known = document_known (cut_text c) c doc p (record { read = h.read; there = h.there }) in
    let n : ℕ = level_or 0 o in
    let r = head_row n p steps f h.rest known.even h.found in
    let even : IsEven (level f.line) (row f.line f.under f.after) =
    (allows_from n f.place f.line f.under f.after (subst (IsEven n) (sym (head_whole n o steps f h.rest known.even h.found)) known.even)).1 in
    let head = head_there f (head_takes n o steps f h.rest known.even h.found) even.2 in
    let own : HeldAt h.rest (content_under f.line f.under) x = line_holds steps o (f, h.rest) x h.found h.at in
    let line : HeldAt h.rest (anchored (content_anchor r.row_line_is.row.content) head.0) x = subst (λ (m : tree.Node). HeldAt h.rest m x) (λ i. anchored (sym r.anchor i) (head_or (head.1 i) (value f.under))) own in
    let w = content_holds r.row_line_is.row.content head.0 h.rest x (after_row (document_row doc c + r.row_line_is.before) c) (r.head ∙ head.1) line in (
      w.0,
      ap (λ (y : Option Part). y >>= part_collection (document_row doc c) c steps) h.there
          ∙ (ap (λ (y : Option Reached). y >>= λ z. line_collection (document_row doc c) c p.rows (length (lines_before z.0.place)) z.1) h.found
          ∙ (ap (λ (y : Option RowLine). y >>= λ s. content_flow h.rest s.row.content (after_row (document_row doc c + s.before) c)) r.there ∙ w.1)),
      w.2,
    )
