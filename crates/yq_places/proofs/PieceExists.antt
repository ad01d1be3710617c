-- For which nodes there are pieces.
use Rattle.std.proofs.Common.{◌≡◌, ℕ, List, [], ◌∷◌, ◌++◌, map, Option, Some, None, is_some, option_map, option_and_then, Bool, true, false}
use Rattle.std.{proofs.Common.{cond, not, ◌&&◌, ◌||◌, refl, sym, ap, ◌∙◌, subst, rules}, proofs.lemmas.Bool.{false≢true, or_parts}}
use Rattle.std.{proofs.lemmas.Option.{slice_get-map, none-some, same_Some}, specs.List.slice_get, specs.Str.is_utf8}
use Rattle.yq_core.{specs.Answers.◌>>=◌, specs.Paths.{Step, node_at}, proofs.Bools.guard_then, specs.Nodes.{FlowNode, empty, anchored}}
use Rattle.yq_core.specs.Trees.{tree_of, with_name, node_head}
use Rattle.yq_row_table.specs.Rows.{Content, Cut}
use Rattle.yq_documents.{specs.declared.path.Path.Path, specs.Documents.{Document, document_parts}, specs.Located.{steps_of, located}}
use Rattle.yq_documents.{specs.Reading.{part_document, read_at}, proofs.PartRows.each, proofs.ReadLaws.{cut_is, text_takes}}
use Rattle.yq_documents.specs.Pieces.{node_piece, head_piece}
use Rattle.yq_outline.{specs.Group.{group, level_or, is_fine}, specs.Lines.head_of}
use Rattle.yq_outline.specs.Outline.{LineMark, Outline, end, row, flatten, IsEven, IsWhole, value}
use Rattle.yq_outline.{specs.Places.{FoundLine, find, content_under}, specs.Positions.has_no_mark}
use Rattle.yq_outline.{proofs.Decides.{flatten-group, even_from}, specs.Labelled.labelled_from}
use Rattle.yq_outline.{proofs.Finding.{FoundNode, entry_of, labelled_path, path_node}, proofs.PlaceLaws.at}
use Rattle.yq_places.proofs.RowPathLaws.{found_place, document_fine}
use Rattle.yq_places.specs.Existence.{are_none, IsNull, some_lines, flow_written, or_false, entry_written, document_written, ContentsExist}
use Rattle.yq_places.specs.Existence.{EntriesExist}
use Rattle.yq_places.specs.PrintedLines.{line_front, PrintedLine, print_line, print_lines, line_in, run_piece, lines_piece}
use Rattle.yq_places.specs.PathPieces.{BlockEntry, content_piece, FlowEntry, flow_at, line_inline, flow_piece, flow_content}
use Rattle.yq_places.specs.PathPieces.{PrintedDocument, printed_document, found_entry, piece_in_entry, piece_in}
use Rattle.yq_places.{proofs.PieceHolds.no_part, proofs.PrintedLaws.{ArePrinted, lines_are, document_is}}
use Rattle.yq_places.proofs.FoundEntries.{IsFound, entry_there, entry_found}
use Rattle.yq_places.proofs.FlowPieces.{flow_label, line_labels, head_there, head_item_at}
use Rattle.yq_core.specs.Tree as tree
use Rattle.yq_documents.specs.declared.path.Part.TheVariants as parts
use Rattle.yq_outline.specs.Outline as outlines

node_some : (before : List ℕ) (node : FlowNode) (rest : List ℕ) → is_some (node_piece before node rest) ≡ is_some (node_head node)
node_some before (anchored n g node) rest = node_some (before ++ 38 ∷ (n ++ g)) node rest
node_some before x rest = refl

head_some : (before : List ℕ) (c : Content) (rest : List ℕ) → is_some (head_piece before c rest) ≡ is_some (head_of c)
head_some before c rest = search (rules, node_some)

-- a node on a line of its own has a head
whole_head : (m : LineMark) (h : Option tree.Node) (a : Outline) → has_no_mark m ≡ true → IsWhole m h a → is_some h ≡ true
whole_head m h a h1 h2 = search rules

block_some : (before : List ℕ) (ls : List PrintedLine) (rest : List ℕ) (o : Outline) (m : ℕ) → ArePrinted ls rest → map line_in ls ≡ flatten o → IsEven m o → is_some (lines_piece before ls rest) ≡ some_lines ls
block_some before [] rest o m as_printed lines even = refl
block_some before (l ∷ ls) rest end m as_printed lines even = cc
block_some before (l ∷ ls) rest (row k u a) m as_printed lines even = go (has_no_mark l.line.mark) refl
  where
    first : l.line ≡ k
    first = cc

    go : (b : Bool) → has_no_mark l.line.mark ≡ b → is_some (cond b (head_piece (before ++ (line_front l ++ l.mark)) l.content (print_lines ls rest)) (Some (run_piece before l ls rest))) ≡ true
    go b h1 = search (rules, head_some, whole_head)

content_some : (s : PrintedDocument) (e : BlockEntry) (f : FoundLine) (m : ℕ) → IsFound s e f → IsEven m f.under → is_some (content_piece e) ≡ (is_some e.line.line.head || some_lines e.under)
content_some s e f m h even = go e.line.line.head refl
  where
    go : (o : Option tree.Node) → e.line.line.head ≡ o →
        is_some (cond (is_some o) (head_piece (e.before ++ (line_front e.line ++ e.line.mark)) e.line.content (print_lines e.under e.after)) (lines_piece (e.before ++ print_line e.line []) e.under e.after)) ≡
        (is_some o || some_lines e.under)
    go o h1 = search (rules, head_some, block_some)

item_some : (ss : List Step) (o : Option FlowEntry) → is_some (o >>= λ x. flow_at ss x >>= flow_content) ≡ or_false (o >>= λ x. option_map flow_written (flow_at ss x))
item_some ss o = search (rules, node_some)

entry_some : (s : PrintedDocument) (ss : List Step) (e : BlockEntry) (f : FoundLine) (m : ℕ) → IsFound s e f → IsEven m f.under → is_some (piece_in_entry parts.Content ss e) ≡ entry_written ss e
entry_some s [] e f m h even = content_some s e f m h even
entry_some s (t ∷ ts) e f m h even = item_some (t ∷ ts) (line_inline e)

document_some : (steps : List Step) (s : PrintedDocument) → ArePrinted s.lines s.after → is_fine (group (map line_in s.lines)) ≡ true → is_some (piece_in parts.Content steps s) ≡ document_written steps s
document_some [] s as_printed fine =
    block_some s.before s.lines s.after (group (map line_in s.lines)) (level_or 0 (group (map line_in s.lines))) as_printed (sym (flatten-group (map line_in s.lines)))
    (even_from (level_or 0 (group (map line_in s.lines))) (group (map line_in s.lines)) fine)
document_some (y ∷ ys) s as_printed fine = go (find y ys (group (map line_in s.lines))) refl
  where
    entry : (f : FoundLine) (rest : List Step) → find y ys (group (map line_in s.lines)) ≡ Some (f, rest) → (o : Option BlockEntry) → found_entry s f ≡ o →
        is_some (o >>= piece_in_entry parts.Content rest) ≡ or_false (option_map (entry_written rest) o)
    entry f rest is None at = refl
    entry f rest is (Some e) at =
        let even = (found_place (map line_in s.lines) y ys rest f is fine).1.3 in
        entry_some s rest e f even.0 (entry_found s y ys rest f e is as_printed at) even.2

    go : (o : Option (FoundLine × List Step)) → find y ys (group (map line_in s.lines)) ≡ o →
        is_some (o >>= λ f. found_entry s f.0 >>= piece_in_entry parts.Content f.1) ≡ or_false (o >>= λ f. option_map (entry_written f.1) (found_entry s f.0))
    go None is = refl
    go (Some f) is = entry f.0 f.1 is (found_entry s f.0) refl

some_map : {A B : Type 0} (f : A → B) (o : Option A) → is_some (option_map f o) ≡ is_some o
some_map f o = search rules

-- an item or entry is in flow exactly where the node is
line_agrees : (s : PrintedDocument) (t : Step) (ts : List Step) (e : BlockEntry) (f : FoundLine) (h : tree.Node) → IsFound s e f → f.line.head ≡ Some h →
    is_some (line_inline e >>= flow_at (t ∷ ts)) ≡ is_some (node_at (t ∷ ts) (content_under f.line f.under))
line_agrees s t ts e f h found head =
    sym (some_map flow_label (line_inline e >>= flow_at (t ∷ ts)))
    ∙ (ap is_some (sym (line_labels s t ts e f h found head))
    ∙ (sym (some_map (λ x. x.1) (labelled_from (t ∷ ts) (entry_of f.line f.under))) ∙ ap is_some (labelled_path (t ∷ ts) (entry_of f.line f.under))))

-- the entry or item at a path
then_map : {A B C : Type 0} (f : A → Option B) (g : B → C) (o : Option A) → is_some (o >>= λ x. option_map g (f x)) ≡ is_some (o >>= f)
then_map f g o = search (rules, some_map)

entry_agrees : (s : PrintedDocument) (y : Step) (ys rest : List Step) (f : FoundLine) (e : BlockEntry) → find y ys (group (map line_in s.lines)) ≡ Some (f, rest) → is_fine (group (map line_in s.lines)) ≡ true → IsFound s e f →
    is_some (piece_in_entry parts.Entry rest e) ≡ is_some (node_at rest (content_under f.line f.under))
entry_agrees s y ys [] f e is fine found = refl
entry_agrees s y ys (t ∷ ts) f e is fine found =
    let h = head_there (map line_in s.lines) y ys t ts f is fine in
    then_map (flow_at (t ∷ ts)) flow_piece (line_inline e) ∙ line_agrees s t ts e f h.0 found h.1

steps_agree : (s : PrintedDocument) (y : Step) (ys : List Step) → ArePrinted s.lines s.after → is_fine (group (map line_in s.lines)) ≡ true →
    is_some (piece_in parts.Entry (y ∷ ys) s) ≡ is_some (node_at (y ∷ ys) (value (group (map line_in s.lines))))
steps_agree s y ys as_printed fine = go (find y ys (group (map line_in s.lines))) refl ∙ ap is_some (sym (path_node y ys (group (map line_in s.lines))))
  where
    go : (o : Option (FoundLine × List Step)) → find y ys (group (map line_in s.lines)) ≡ o → is_some (o >>= λ f. found_entry s f.0 >>= piece_in_entry parts.Entry f.1) ≡ is_some (FoundNode o)
    go None is = refl
    go (Some f) is =
        let e = entry_there s y ys f.1 f.0 is in
        ap (λ o. is_some (o >>= piece_in_entry parts.Entry f.1)) e.1 ∙ entry_agrees s y ys f.1 f.0 e.0 is fine (entry_found s y ys f.1 f.0 e.0 is as_printed e.1)

-- a node for which nothing but an anchor is written
headless : (node : FlowNode) → node_head node ≡ None → IsNull (tree_of node)
unfolding tree_of
headless empty e = (None, refl)
headless (anchored n g node) e = let k = headless node e in (Some n, ap (with_name n) k.1 ∙ go k.0)
  where
    go : (a : Option (List ℕ)) → with_name n (outlines.anchored a outlines.null_node) ≡ outlines.anchored (Some n) outlines.null_node
    go None = refl
    go (Some x) = refl
headless x e = cc

no_lines : (o : Outline) (ls : List PrintedLine) → map line_in ls ≡ flatten o → some_lines ls ≡ false → o ≡ end
no_lines end ls e none = refl
no_lines (row l u a) [] e none = cc
no_lines (row l u a) (k ∷ ls) e none = cc

no_head : (h : Option tree.Node) → is_some h ≡ false → h ≡ None
no_head h h1 = search rules

in_null : (s : PrintedDocument) (t : Step) (ts : List Step) (e : BlockEntry) (f : FoundLine) (h n : tree.Node) (o : Option FlowEntry) → IsFound s e f → f.line.head ≡ Some h → line_inline e ≡ o → is_some (o >>= flow_at (t ∷ ts)) ≡ true →
    node_at (t ∷ ts) (content_under f.line f.under) ≡ Some n → or_false (o >>= λ x. option_map flow_written (flow_at (t ∷ ts) x)) ≡ false → IsNull n
in_null s t ts e f h n None found head is some at none = absurd (false≢true some)
in_null s t ts e f h n (Some x) found head is some at none = go (flow_at (t ∷ ts) x) refl some none
  where
    go : (o : Option FlowEntry) → flow_at (t ∷ ts) x ≡ o → is_some o ≡ true → or_false (option_map flow_written o) ≡ false → IsNull n
    go None there some none = absurd (false≢true some)
    go (Some w) there some none =
        let labelled = (head_item_at s t ts e f h x w found head is there).labelled in
        subst IsNull (same_Some _ _ (ap (option_map (λ x. x.1)) (sym labelled) ∙ (labelled_path (t ∷ ts) (entry_of f.line f.under) ∙ at))) (headless w.node (no_head (node_head w.node) none))

entry_null : (s : PrintedDocument) (y : Step) (ys rest : List Step) (f : FoundLine) (e : BlockEntry) (n : tree.Node) → find y ys (group (map line_in s.lines)) ≡ Some (f, rest) → is_fine (group (map line_in s.lines)) ≡ true → IsFound s e f →
    node_at rest (content_under f.line f.under) ≡ Some n → entry_written rest e ≡ false → IsNull n
entry_null s y ys [] f e n is fine found at none = search (rules, or_parts, no_head, same_Some, no_lines)
entry_null s y ys (t ∷ ts) f e n is fine found at none =
    let h = head_there (map line_in s.lines) y ys t ts f is fine in
    in_null s t ts e f h.0 n (line_inline e) found h.1 refl (line_agrees s t ts e f h.0 found h.1 ∙ ap is_some at) at none

document_null : (steps : List Step) (s : PrintedDocument) (n : tree.Node) → ArePrinted s.lines s.after → is_fine (group (map line_in s.lines)) ≡ true →
    node_at steps (value (group (map line_in s.lines))) ≡ Some n → document_written steps s ≡ false → IsNull n
document_null [] s n as_printed fine at none = (None, sym (same_Some _ _ at) ∙ ap value (no_lines (group (map line_in s.lines)) s.lines (sym (flatten-group (map line_in s.lines))) none))
document_null (y ∷ ys) s n as_printed fine at none = go (find y ys (group (map line_in s.lines))) refl (sym (path_node y ys (group (map line_in s.lines))) ∙ at) none
  where
    go : (o : Option (FoundLine × List Step)) → find y ys (group (map line_in s.lines)) ≡ o → FoundNode o ≡ Some n → or_false (o >>= λ f. option_map (entry_written f.1) (found_entry s f.0)) ≡ false → IsNull n
    go None is at none = absurd (none-some _ at)
    go (Some f) is at none =
        let e = entry_there s y ys f.1 f.0 is in
        entry_null s y ys f.1 f.0 e.0 n is fine (entry_found s y ys f.1 f.0 e.0 is as_printed e.1) at (sym (ap (λ (o : Option BlockEntry). or_false (option_map (entry_written f.1) o)) e.1) ∙ none)

-- A document of a text: its lines, which are given by their texts and are even, and the node at a path, which is in its root.
record IsRead (t : List ℕ) (p : Path) (s : PrintedDocument) : Type 0 where
  pub as_printed : ArePrinted s.lines s.after
  pub fine : is_fine (group (map line_in s.lines)) ≡ true
  pub node : located p t ≡ node_at (steps_of p) (value (group (map line_in s.lines)))

document_read : (t : List ℕ) (c : Cut) (p : Path) (s : PrintedDocument) → read_at t ≡ Some c → printed_document p.doc c ≡ Some s → IsRead t p s
unfolding read_at
document_read t c p s read is =
    let cut = text_takes t c (guard_then (is_utf8 t) read).1 in
    let q = document_is p.doc c s cut.0.parts is in
    search (rules, lines_are, document_fine, each, option_and_then, cut_is, slice_get-map, cut, q)

no_document : (t : List ℕ) (c : Cut) (p : Path) → read_at t ≡ Some c → printed_document p.doc c ≡ None → located p t ≡ None
unfolding read_at
no_document t c p read is =
    let cut = text_takes t c (guard_then (is_utf8 t) read).1 in
    ap (λ (x : Cut). option_and_then (λ (d : Document). node_at (steps_of p) d.root) (slice_get (map part_document (document_parts x)) p.doc)) (cut_is t c cut.0)
    ∙ ap (option_and_then (λ (d : Document). node_at (steps_of p) d.root)) (slice_get-map part_document (document_parts c) p.doc ∙ ap (option_map part_document) (no_part p.doc c is))

pub contents_exist : ContentsExist
contents_exist t c p read = go (printed_document p.doc c) refl
  where
    go : (o : Option PrintedDocument) → printed_document p.doc c ≡ o →
        (is_some (o >>= piece_in parts.Content (steps_of p)) ≡ or_false (option_map (document_written (steps_of p)) o)) ×
        ((n : tree.Node) → located p t ≡ Some n → or_false (option_map (document_written (steps_of p)) o) ≡ false → IsNull n)
    go None is = (refl, λ n at none. absurd (none-some _ (sym (no_document t c p read is) ∙ at)))
    go (Some s) is = let r = document_read t c p s read is in (document_some (steps_of p) s r.as_printed r.fine, λ n at none. document_null (steps_of p) s n r.as_printed r.fine (sym r.node ∙ at) none)

pub entries_exist : EntriesExist
entries_exist t c p read = go (printed_document p.doc c) refl (steps_of p) refl
  where
    none_root : (steps : List Step) → false ≡ (not (are_none steps) && false)
    none_root steps = search rules

    by : (s : PrintedDocument) → IsRead t p s → (steps : List Step) → steps_of p ≡ steps → is_some (piece_in parts.Entry steps s) ≡ (not (are_none steps) && is_some (located p t))
    by s h1 steps h2 = search (rules, steps_agree)

    go : (o : Option PrintedDocument) → printed_document p.doc c ≡ o → (steps : List Step) → steps_of p ≡ steps → is_some (o >>= piece_in parts.Entry steps) ≡ (not (are_none steps) && is_some (located p t))
    go None is steps e = none_root steps ∙ ap (λ x. not (are_none steps) && is_some x) (sym (no_document t c p read is))
    go (Some s) is steps e = by s (document_read t c p s read is) steps e
