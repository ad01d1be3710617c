-- Contents spell the nodes at their paths.
use Rattle.std.proofs.Common.{◌≡◌, ◌⊎◌, inl, inr, ℕ, ◌<◌, List, [], ◌∷◌, ◌++◌, map, Option, Some, None, is_some, option_map}
use Rattle.std.proofs.Common.{option_and_then, Bool, true, false, cond, refl, sym, ap, ◌∙◌, subst, append_assoc, append-nil, rules}
use Rattle.std.{proofs.lemmas.Option.{slice_get-map, none-some, same_Some}, specs.Str.is_utf8}
use Rattle.yq_core.{specs.Answers.◌>>=◌, specs.Block.IsBlock, specs.Paths.{Step, node_at}, specs.Tree.plain_label}
use Rattle.yq_core.{proofs.Bools.{bind_some, guard_then}, specs.Entries.path_inside}
use Rattle.yq_core.specs.Nodes.{FlowNode, node_text, empty, alias, scalar, coll, anchored, IsFlowNode}
use Rattle.yq_core.specs.Trees.{node_anchor, tree_of, node_head}
use Rattle.yq_row_table.specs.Rows.{Content, Nothing, Inline, Block, Cut}
use Rattle.yq_documents.{specs.declared.path.Part.Part as WhichPart, specs.declared.path.Path.Path}
use Rattle.yq_documents.{specs.Documents.{document_parts, Document}, specs.Located.{steps_of, document_at, labelled_located, located}}
use Rattle.yq_documents.{specs.Reading.read_at, proofs.PartRows.each, proofs.ReadLaws.{cut_is, text_takes}}
use Rattle.yq_documents.specs.Pieces.{TextPiece, node_piece, head_piece}
use Rattle.yq_outline.{specs.Group.{group, level_or, is_fine}, specs.Lines.{head_of, lines_of_rows}}
use Rattle.yq_outline.{specs.Labelled.{Labelled, labelled_from}, proofs.LabelPaths.{FoundEntry, path_entry}}
use Rattle.yq_outline.specs.Outline.{LineMark, Line, level, Outline, end, row, flatten, IsEven, first_anchor, head_or, value}
use Rattle.yq_outline.{specs.Places.{FoundLine, find}, specs.Positions.has_no_mark, proofs.Decides.{flatten-group, even_from}}
use Rattle.yq_outline.proofs.Finding.{entry_of, labelled_path}
use Rattle.yq_places.proofs.RowPathLaws.{found_place, document_fine}
use Rattle.yq_places.specs.PrintedLines.{line_front, PrintedLine, print_line, print_lines, line_in, run_piece, lines_piece}
use Rattle.yq_places.specs.PathPieces.{BlockEntry, content_piece, flow_at, line_inline, PrintedDocument, printed_document, found_entry}
use Rattle.yq_places.specs.PathPieces.{piece_in_entry, piece_in}
use Rattle.yq_places.specs.PieceLaws.{IsInlinePiece, IsLineRun, SpellsTree, SpellsNode, IsEntryRun, IsFlowPiece, ContentsSpell}
use Rattle.yq_places.{specs.PieceLaws.{EntriesSpell, LinesAreIn}, proofs.PrintedTexts.{map_some, lines_then, lines_append}}
use Rattle.yq_places.proofs.PieceTexts.{document_whole}
use Rattle.yq_places.proofs.PrintedLaws.{IsValid, IsWritten, IsPrinted, ArePrinted, lines_are, document_is}
use Rattle.yq_places.proofs.FoundEntries.{IsIn, IsFound, entry_found}
use Rattle.yq_places.proofs.FlowPieces.{none_anchored, twice, head_tree, head_item_at, head_there}
use Rattle.yq_core.specs.Tree as tree
use Rattle.yq_documents.specs.declared.path.Part.TheVariants as parts
use Rattle.yq_outline.specs.Outline as outlines
use Rattle.yq_outline.specs.Places as places

-- an inline node
piece_is : (node : FlowNode) (before after : List ℕ) (x : TextPiece) → node_anchor node ≡ None → Some (record { before = before; text = node_text node []; after = after }) ≡ Some x → IsValid node after → IsInlinePiece x (tree_of node)
piece_is node before after x none e v =
    let same = same_Some _ _ e in
    record { node = node; unnamed = none; text = ap (λ (p : TextPiece). p.text) (sym same); valid = subst (λ (p : TextPiece). IsValid node p.after) same v; tree = refl }

pub node_spells : (before : List ℕ) (node : FlowNode) (after : List ℕ) (x : TextPiece) → node_piece before node after ≡ Some x → IsValid node after →
    (h : tree.Node) × (node_head node ≡ Some h) × IsInlinePiece x h
unfolding IsFlowNode
node_spells before empty after x e v = absurd (none-some _ e)
node_spells before (alias name) after x e v = (tree_of (alias name), refl, piece_is (alias name) before after x refl e v)
node_spells before (scalar p) after x e v = (tree_of (scalar p), refl, piece_is (scalar p) before after x refl e v)
node_spells before (coll close gap items) after x e v = (tree_of (coll close gap items), refl, piece_is (coll close gap items) before after x refl e v)
node_spells before (anchored name gap node) after x e v = node_spells (before ++ 38 ∷ (name ++ gap)) node after x e (v.0, v.1, v.2, v.3.4)

-- what is written after a mark
pub head_spells : (s : PrintedDocument) (before : List ℕ) (c : Content) (after : List ℕ) (x : TextPiece) → head_piece before c after ≡ Some x → IsWritten c after → (h : tree.Node) × (head_of c ≡ Some h) × SpellsTree s x h
head_spells s before (Nothing tail) after x e w = absurd (none-some _ e)
head_spells s before (Inline space node tail) after x e w = let k = node_spells (before ++ space) node (tail ++ after) x e w in (k.0, k.1, inl k.2)
head_spells s before (Block space anchor block) after x e w =
    (_, refl, inr (inl (record { block = block; text = ap (λ (p : TextPiece). p.text) (sym (same_Some _ _ e)); valid = subst (λ (p : TextPiece). (least : ℕ) × IsBlock least block p.after) (same_Some _ _ e) w; tree = refl })))

pub following_anchor : (s : PrintedDocument) (a : Option (List ℕ)) (x : TextPiece) (n : tree.Node) → SpellsNode s x n → SpellsNode s x (outlines.anchored a n)
following_anchor s a x n h = record { anchor = first_anchor a h.anchor; tree = h.tree; node = ap (outlines.anchored a) h.node ∙ twice a h.anchor h.tree; spelled = h.spelled }

-- the node of a line's head
pub line_spells : (s : PrintedDocument) (before : List ℕ) (l : PrintedLine) (rest : List ℕ) (x : TextPiece) → IsPrinted l rest → head_piece before l.content rest ≡ Some x → (n : tree.Node) →
    SpellsNode s x (outlines.anchored l.line.anchor (head_or l.line.head n))
line_spells s before l rest x as_printed e n =
    let k = head_spells s before l.content rest x e as_printed.written in
    record { anchor = l.line.anchor; tree = k.0; node = ap (λ h. outlines.anchored l.line.anchor (head_or h n)) (as_printed.head ∙ k.1); spelled = k.2 }

pub bare_is : (m : LineMark) → has_no_mark m ≡ true → m ≡ outlines.Bare
bare_is m h1 = search rules

run_of : (s : PrintedDocument) (before : List ℕ) (l : PrintedLine) (ls : List PrintedLine) (after : List ℕ) (x : TextPiece) → IsIn s before (l ∷ ls) after → run_piece before l ls after ≡ x → IsLineRun s l ls x
run_of s before l ls after x h e = record { above = h.above; below = h.below; lines = h.lines; piece = sym e ∙ (λ i. run_piece (h.start i) l ls (h.stop i)) }

-- the node that lines mean
pub block_spells : (s : PrintedDocument) (before : List ℕ) (ls : List PrintedLine) (after : List ℕ) (x : TextPiece) (o : Outline) (m : ℕ) → IsIn s before ls after → lines_piece before ls after ≡ Some x →
    ArePrinted ls after → map line_in ls ≡ flatten o → IsEven m o → SpellsNode s x (value o)
block_spells s before [] after x o m path_inside e as_printed lines even = absurd (none-some _ e)
block_spells s before (l ∷ ls) after x end m path_inside e as_printed lines even = cc
block_spells s before (l ∷ ls) after x (row k u a) m path_inside e as_printed lines even = go (has_no_mark l.line.mark) refl e
  where
    first : l.line ≡ k
    first = cc

    go : (b : Bool) → has_no_mark l.line.mark ≡ b → cond b (head_piece (before ++ (line_front l ++ l.mark)) l.content (print_lines ls after)) (Some (run_piece before l ls after)) ≡ Some x → SpellsNode s x (value (row k u a))
    go true t e = search (rules, first, bare_is, line_spells)
    go false t e = record {
      anchor = None;
      tree = value (row k u a);
      node = none_anchored (value (row k u a));
      spelled = inr (inr (record { first = l; others = ls; run = run_of s before l ls after x path_inside (same_Some _ _ e); entry = t; outline = row k u a; even = (m, even); lines = lines; tree = refl }));
    }

under_in : (s : PrintedDocument) (e : BlockEntry) → IsIn s e.before (e.line ∷ e.under) e.after → IsIn s (e.before ++ print_line e.line []) e.under e.after
under_in s e h = record {
  above = h.above ++ (e.line ∷ []);
  below = h.below;
  lines = h.lines ∙ sym (append_assoc h.above (e.line ∷ []) (e.under ++ h.below));
  start =
      ap (λ x. x ++ print_line e.line []) h.start
      ∙ (append_assoc s.before (print_lines h.above []) (print_line e.line []) ∙ ap (λ x. s.before ++ x) (sym (lines_then h.above [] (print_line e.line [])) ∙ sym (lines_append h.above (e.line ∷ []) [])));
  stop = h.stop;
}

-- the content of a line
pub content_spells : (s : PrintedDocument) (e : BlockEntry) (f : FoundLine) (x : TextPiece) (m : ℕ) → IsFound s e f → IsEven m f.under → content_piece e ≡ Some x → SpellsNode s x (places.content_under f.line f.under)
content_spells s e f x m h even is = go e.line.line.head refl is
  where
    go : (o : Option tree.Node) → e.line.line.head ≡ o →
        cond (is_some o) (head_piece (e.before ++ (line_front e.line ++ e.line.mark)) e.line.content (print_lines e.under e.after))
        (lines_piece (e.before ++ print_line e.line []) e.under e.after) ≡ Some x →
        SpellsNode s x (places.content_under f.line f.under)
    go (Some k) head is = search (rules, line_spells)
    go None head is =
        subst (SpellsNode s x) (ap (λ j. outlines.anchored f.line.anchor (head_or j (value f.under))) (sym head ∙ ap (λ (j : Line). j.head) h.line))
        (following_anchor s f.line.anchor x (value f.under) (block_spells s (e.before ++ print_line e.line []) e.under e.after x f.under m (under_in s e h.inside) is h.as_printed.1 h.lines even))

-- what a part says of a node with its label
abbrev pub Says : PrintedDocument → WhichPart → TextPiece → Labelled → Type 0
Says s parts.Content x n = SpellsNode s x n.1
Says s parts.Entry x n = IsEntryRun s x n ⊎ IsFlowPiece x n
Says s parts.HeadComment x n = Unit {0}
Says s parts.LineComment x n = Unit {0}

-- there is one of which that is said
abbrev pub Spelled : PrintedDocument → WhichPart → TextPiece → Option Labelled → Type 0
Spelled s part x o = (n : Labelled) × (o ≡ Some n) × Says s part x n

-- steps go on only in a head
abbrev HasHead : List Step → FoundLine → Type 0
HasHead [] f = Unit {0}
HasHead (t ∷ ts) f = (h : tree.Node) × (f.line.head ≡ Some h)

pub part_spells : (s : PrintedDocument) (part : WhichPart) (ss : List Step) (e : BlockEntry) (f : FoundLine) (x : TextPiece) → IsFound s e f →
    HasHead ss f → ((m : ℕ) × (level f.line < m) × IsEven m f.under) → piece_in_entry part ss e ≡ Some x →
    Spelled s part x (labelled_from ss (entry_of f.line f.under))
part_spells s parts.Content [] e f x h head even is = (_, refl, content_spells s e f x even.0 h even.2 is)
part_spells s parts.Content (t ∷ ts) e f x h head even is =
    let k = bind_some (line_inline e) is in
    let y = bind_some (flow_at (t ∷ ts) k.0) k.2 in
    let at = head_item_at s t ts e f head.0 k.0 y.0 h head.1 k.1 y.1 in
    (_, at.labelled, search (rules, node_spells, head_tree))
part_spells s parts.Entry [] e f x h head even is = search (rules, run_of, same_Some)
part_spells s parts.Entry (t ∷ ts) e f x h head even is =
    let k = bind_some (line_inline e) is in
    let y = map_some (flow_at (t ∷ ts) k.0) k.2 in
    let at = head_item_at s t ts e f head.0 k.0 y.0 h head.1 k.1 y.1 in
    search (rules, y, at)
part_spells s parts.HeadComment (t ∷ ts) e f x h head even is = absurd (none-some _ is)
part_spells s parts.LineComment (t ∷ ts) e f x h head even is = absurd (none-some _ is)
part_spells s _ [] e f x h head even is = (_, refl, tt)

-- a document
steps_spell : (part : WhichPart) (y : Step) (ys : List Step) (s : PrintedDocument) (x : TextPiece) → ArePrinted s.lines s.after → is_fine (group (map line_in s.lines)) ≡ true →
    (find y ys (group (map line_in s.lines)) >>= λ f. found_entry s f.0 >>= piece_in_entry part f.1) ≡ Some x → Spelled s part x (labelled_from (y ∷ ys) (plain_label, value (group (map line_in s.lines))))
steps_spell part y ys s x as_printed fine is =
    let f = bind_some (find y ys (group (map line_in s.lines))) is in
    let e = bind_some (found_entry s f.0.0) f.2 in
    let even = (found_place (map line_in s.lines) y ys f.0.1 f.0.0 f.1 fine).1.3 in
    subst (Spelled s part x) (sym (path_entry y ys (group (map line_in s.lines)) ∙ ap FoundEntry f.1))
    (part_spells s part f.0.1 e.0 f.0.0 x (entry_found s y ys f.0.1 f.0.0 e.0 f.1 as_printed e.1) (head f.0.1 f.1) (even.0, even.1, even.2) e.2)
  where
    head : (rest : List Step) {f : FoundLine} → find y ys (group (map line_in s.lines)) ≡ Some (f, rest) → HasHead rest f
    head rest h1 = search (rules, head_there)

pub document_spells : (part : WhichPart) (ss : List Step) (s : PrintedDocument) (x : TextPiece) → ArePrinted s.lines s.after → is_fine (group (map line_in s.lines)) ≡ true → piece_in part ss s ≡ Some x →
    Spelled s part x (labelled_from ss (plain_label, value (group (map line_in s.lines))))
document_spells parts.Content [] s x as_printed fine is =
    let whole : IsIn s s.before s.lines s.after = record { above = []; below = []; lines = sym (append-nil s.lines); start = sym (append-nil s.before); stop = refl } in
    let even = even_from (level_or 0 (group (map line_in s.lines))) (group (map line_in s.lines)) fine in
    (_, refl, block_spells s s.before s.lines s.after x (group (map line_in s.lines)) _ whole is as_printed (sym (flatten-group (map line_in s.lines))) even)
document_spells parts.Entry [] s x as_printed fine is = absurd (none-some _ is)
document_spells parts.HeadComment [] s x as_printed fine is = absurd (none-some _ is)
document_spells parts.LineComment [] s x as_printed fine is = absurd (none-some _ is)
document_spells part (y ∷ ys) s x as_printed fine is = steps_spell part y ys s x as_printed fine is

by_part : (part : WhichPart) (t : List ℕ) (c : Cut) (p : Path) (s : PrintedDocument) (x : TextPiece) → read_at t ≡ Some c → printed_document p.doc c ≡ Some s → (printed_document p.doc c >>= piece_in part (steps_of p)) ≡ Some x →
    Spelled s part x (labelled_located p t)
unfolding read_at
by_part part t c p s x read there is =
    let cut = text_takes t c (guard_then (is_utf8 t) read).1 in
    let found : piece_in part (steps_of p) s ≡ Some x = ap (λ o. o >>= piece_in part (steps_of p)) (sym there) ∙ is in
    let q = document_is p.doc c s cut.0.parts there in
    let lines : map line_in s.lines ≡ lines_of_rows q.0.rows = ap (map line_in) q.2.lines ∙ lines_are q.0.rows in
    let fine = subst (λ ls. is_fine (group ls) ≡ true) (sym lines) (document_fine q.0 (each (document_parts c) cut.1 p.doc q.0 q.1)) in
    search (rules, option_and_then, cut_is, slice_get-map, document_spells, cut, found, q, lines, fine)

-- a node at a path is there with its label
located_is : (p : Path) (t : List ℕ) → option_map (λ x. x.1) (labelled_located p t) ≡ located p t
located_is p t = go (document_at t p.doc)
  where
    go : (o : Option Document) → option_map (λ x. x.1) (option_and_then (λ d. labelled_from (steps_of p) (plain_label, d.root)) o) ≡ option_and_then (λ d. node_at (steps_of p) d.root) o
    go o = search (rules, labelled_path)

pub contents_spell : ContentsSpell
contents_spell t c p s x read there is = let r = by_part parts.Content t c p s x read there is in (r.0.1, sym (located_is p t) ∙ ap (option_map (λ x. x.1)) r.1, r.2)

pub entries_spell : EntriesSpell
entries_spell t c p s x read there is = by_part parts.Entry t c p s x read there is

pub lines_are_in : LinesAreIn
unfolding read_at
lines_are_in t c n s read there =
    let cut = text_takes t c (guard_then (is_utf8 t) read).1 in
    search (rules, document_is, document_whole, lines_are, cut)
