-- Pieces with what comes before and after them are the text.
use Rattle.std.proofs.Common.{◌≡◌, ℕ, suc, eqb, List, [], ◌∷◌, ◌++◌, length, take, drop, map, Some, None, is_some, Bool, true, false, cond}
use Rattle.std.{proofs.Common.{refl, sym, ap, ◌∙◌, append_assoc, rules}, proofs.lemmas.List.take-append-drop}
use Rattle.std.{proofs.lemmas.Option.{none-some, same_Some}, specs.List.slice_get, specs.Str.is_utf8}
use Rattle.yq_core.{specs.Answers.◌>>=◌, specs.Paths.{Step, is_here, further}}
use Rattle.yq_core.specs.Text.{cut, front, ends_line, is_empty, joined, text_lines, no_white, past_white, upto}
use Rattle.yq_core.{proofs.LineLaws.joined_lines, proofs.Bools.{bind_some, guard_then}}
use Rattle.yq_core.specs.Nodes.{FlowNode, empty, alias, scalar, coll, anchored, Items, none, item, key_text, sep_text, opening_bracket}
use Rattle.yq_core.{specs.Nodes.{node_text, flow_items_text}, specs.Trees.key_content, specs.Tree.key_label}
use Rattle.yq_core.{proofs.NodesWrittenLaws.{key_append, sep_append, node_append, node_then}, proofs.PathLaws.then_some}
use Rattle.yq_row_table.{specs.Rows.{Content, content_text, Cut, cut_text}, specs.View.content_cut, proofs.SliceLaws.content_slices}
use Rattle.yq_documents.{specs.declared.path.Part.Part as WhichPart, specs.declared.path.Path.Path, specs.Located.steps_of}
use Rattle.yq_documents.{specs.Reading.read_at, proofs.ReadLaws.text_takes}
use Rattle.yq_documents.specs.Pieces.{TextPiece, node_piece, head_piece, tail_comment, content_comment, last_run, before_run, gap_comment}
use Rattle.yq_documents.proofs.RunLaws.{run_split}
use Rattle.yq_places.specs.PrintedLines.{PrintedLine, line_front, print_line, print_lines, line_in, run_text, run_break, run_piece}
use Rattle.yq_places.specs.PrintedLines.{lines_piece}
use Rattle.yq_places.specs.PathPieces.{BlockEntry, content_piece, FlowEntry, flow_in, flow_under, flow_at, content_inline, line_inline}
use Rattle.yq_places.specs.PathPieces.{flow_piece, PrintedDocument, printed_document, entry_with, found_entry, piece_in_entry, piece_in}
use Rattle.yq_places.proofs.PlacedPartLaws.{part_is_there}
use Rattle.yq_places.proofs.PrintedTexts.{line_then, lines_then, lines_append, run_is, map_some, line_split, rows_are}
use Rattle.yq_outline.{specs.Group.group, specs.Outline.flatten, specs.Places.{lines_before, find}}
use Rattle.yq_documents.specs.declared.path.Part.TheVariants as parts

-- a piece with the text before and after it
abbrev pub piece_text : TextPiece → List ℕ
piece_text p = p.before ++ (p.text ++ p.after)

-- a node
pub node_whole : (before : List ℕ) (node : FlowNode) (after : List ℕ) (x : TextPiece) → node_piece before node after ≡ Some x → piece_text x ≡ before ++ node_text node after
unfolding node_text
node_whole before empty after x e = absurd (none-some _ e)
node_whole before (alias name) after x e = ap piece_text (sym (same_Some _ _ e)) ∙ ap (λ l. before ++ l) (sym (node_then (alias name) after))
node_whole before (scalar p) after x e = ap piece_text (sym (same_Some _ _ e)) ∙ ap (λ l. before ++ l) (sym (node_then (scalar p) after))
node_whole before (coll close gap items) after x e = ap piece_text (sym (same_Some _ _ e)) ∙ ap (λ l. before ++ l) (sym (node_then (coll close gap items) after))
node_whole before (anchored name gap node) after x e = search (rules, append_assoc, node_whole (before ++ 38 ∷ (name ++ gap)) node after x e)

pub head_whole : (before : List ℕ) (c : Content) (after : List ℕ) (x : TextPiece) → head_piece before c after ≡ Some x → piece_text x ≡ before ++ content_text c after
head_whole before c after x h1 = search (rules, none-some, node_whole, append_assoc, same_Some)

-- lines
pub run_whole : (before : List ℕ) (l : PrintedLine) (ls : List PrintedLine) (after : List ℕ) → piece_text (run_piece before l ls after) ≡ before ++ print_lines (l ∷ ls) after
run_whole before l ls after = append_assoc before (line_front l) (run_text l ls ++ (run_break l ls ++ after)) ∙ ap (λ x. before ++ (line_front l ++ x)) (run_is l ls after)

mark_whole : (before : List ℕ) (l : PrintedLine) (ls : List PrintedLine) (after : List ℕ) (x : TextPiece) → head_piece (before ++ (line_front l ++ l.mark)) l.content (print_lines ls after) ≡ Some x →
    piece_text x ≡ before ++ print_lines (l ∷ ls) after
mark_whole before l ls after x e = head_whole (before ++ (line_front l ++ l.mark)) l.content (print_lines ls after) x e ∙ simp append_assoc refl

pub block_whole : (before : List ℕ) (ls : List PrintedLine) (after : List ℕ) (x : TextPiece) → lines_piece before ls after ≡ Some x → piece_text x ≡ before ++ print_lines ls after
block_whole before ls after x h1 = search (rules, none-some, mark_whole, same_Some, run_whole)

-- an entry, with the text before and after it
abbrev pub entry_text : BlockEntry → List ℕ
entry_text e = e.before ++ print_lines (e.line ∷ e.under) e.after

pub content_whole : (e : BlockEntry) (x : TextPiece) → content_piece e ≡ Some x → piece_text x ≡ entry_text e
content_whole e x is = go (is_some e.line.line.head) is
  where
    go : (b : Bool) → cond b (head_piece (e.before ++ (line_front e.line ++ e.line.mark)) e.line.content (print_lines e.under e.after))
        (lines_piece (e.before ++ print_line e.line []) e.under e.after) ≡ Some x → piece_text x ≡ entry_text e
    go true is = mark_whole e.before e.line e.under e.after x is
    go false is =
        block_whole (e.before ++ print_line e.line []) e.under e.after x is
        ∙ (append_assoc e.before (print_line e.line []) (print_lines e.under e.after) ∙ ap (λ l. e.before ++ l) (sym (line_then e.line [] (print_lines e.under e.after))))

-- an item, with the text before and after it
abbrev pub item_text : FlowEntry → List ℕ
item_text x = x.before ++ key_text x.key (node_text x.node x.after)

item_is : (x : FlowEntry) → piece_text (flow_piece x) ≡ item_text x
item_is x = ap (λ l. x.before ++ l) (sym (ap (key_text x.key) (node_then x.node x.after) ∙ key_append x.key (node_text x.node []) x.after))

key_before : (x : FlowEntry) → (x.before ++ key_text x.key []) ++ node_text x.node x.after ≡ item_text x
key_before x = append_assoc x.before (key_text x.key []) (node_text x.node x.after) ∙ ap (λ l. x.before ++ l) (sym (key_append x.key [] (node_text x.node x.after)))

items_whole : (k : ℕ) (s : Step) (before : List ℕ) (is : Items) (after : List ℕ) (x : FlowEntry) → flow_in k s before is after ≡ Some x → item_text x ≡ before ++ flow_items_text k is after
unfolding flow_items_text
items_whole k s before none after x e = absurd (none-some _ e)
items_whole k s before (item key n sep is) after x e = go (is_here s (key_label (key_content key))) (λ h. items_whole k (further s) (before ++ key_text key (node_text n (sep_text sep []))) is after x h) e
  where
    tail : List ℕ
    tail = flow_items_text k is after

    front : List ℕ
    front = key_text key (node_text n (sep_text sep []))

    split : key_text key (node_text n (sep_text sep tail)) ≡ front ++ tail
    split = cc (sep_append sep [] tail, node_append n (sep_text sep []) tail, key_append key (node_text n (sep_text sep [])) tail)

    go : (b : Bool) → (flow_in k (further s) (before ++ front) is after ≡ Some x → item_text x ≡ (before ++ front) ++ tail) →
        cond b (Some (record { before = before; key = key; node = n; after = sep_text sep tail })) (flow_in k (further s) (before ++ front) is after) ≡ Some x → item_text x ≡ before ++ key_text key (node_text n (sep_text sep tail))
    go b again e = search (rules, same_Some, append_assoc, split)

under_whole : (s : Step) (before : List ℕ) (node : FlowNode) (after : List ℕ) (x : FlowEntry) → flow_under s before node after ≡ Some x → item_text x ≡ before ++ node_text node after
unfolding node_text
under_whole s before (coll k gap is) after x e = items_whole k s (before ++ opening_bracket k ∷ gap) is after x e ∙ append_assoc before (opening_bracket k ∷ gap) (flow_items_text k is after)
under_whole s before (anchored n gap node) after x e = search (rules, append_assoc, under_whole s (before ++ 38 ∷ (n ++ gap)) node after x e)
under_whole s before _ after x e = absurd (none-some _ e)

pub at_whole : (ss : List Step) (x y : FlowEntry) → flow_at ss x ≡ Some y → item_text y ≡ item_text x
at_whole [] x y e = ap item_text (sym (same_Some _ _ e))
at_whole (s ∷ ss) x y e =
    let z = then_some (flow_under s (x.before ++ key_text x.key []) x.node x.after) e in
    at_whole ss z.0 y z.2 ∙ (under_whole s (x.before ++ key_text x.key []) x.node x.after z.0 z.1 ∙ key_before x)

head_item_whole : (before : List ℕ) (c : Content) (after : List ℕ) (x : FlowEntry) → content_inline before c after ≡ Some x → item_text x ≡ before ++ content_text c after
head_item_whole before c after x h1 = search (rules, none-some, same_Some, append_assoc)

in_line_whole : (e : BlockEntry) (x : FlowEntry) → line_inline e ≡ Some x → item_text x ≡ entry_text e
in_line_whole e x is = head_item_whole (e.before ++ (line_front e.line ++ e.line.mark)) e.line.content (print_lines e.under e.after) x is ∙ simp append_assoc refl

-- comments
tail_whole : (before tail after : List ℕ) (x : TextPiece) → tail_comment before tail after ≡ Some x → piece_text x ≡ before ++ (tail ++ after)
tail_whole before tail after x e = go (front (λ b. eqb b 35) (past_white tail)) e
  where
    whole : (before ++ (cut no_white tail).0) ++ ((cut ends_line (past_white tail)).0 ++ ((cut ends_line (past_white tail)).1 ++ after)) ≡ before ++ (tail ++ after)
    whole =
        append_assoc before (cut no_white tail).0 ((cut ends_line (past_white tail)).0 ++ ((cut ends_line (past_white tail)).1 ++ after))
        ∙ ap (λ l. before ++ l)
        (ap (λ l. (cut no_white tail).0 ++ l) (sym (append_assoc (cut ends_line (past_white tail)).0 (cut ends_line (past_white tail)).1 after)
        ∙ ap (λ l. l ++ after) (take-append-drop (upto ends_line (past_white tail)) (past_white tail)))
        ∙ (sym (append_assoc (cut no_white tail).0 (past_white tail) after) ∙ ap (λ l. l ++ after) (take-append-drop (upto no_white tail) tail)))

    go : (b : Bool) → cond b (Some (record { before = before ++ (cut no_white tail).0; text = (cut ends_line (past_white tail)).0; after = (cut ends_line (past_white tail)).1 ++ after })) None ≡ Some x →
        piece_text x ≡ before ++ (tail ++ after)
    go b e = search (rules, same_Some, whole, none-some)

pub tail_text : (before : List ℕ) (c : Content) (after : List ℕ) →
    (before ++ ((content_cut c).0 ++ ((content_cut c).1 ++ ((content_cut c).2 ++ (content_cut c).3)))) ++ ((content_cut c).4 ++ ((content_cut c).5 ++ after)) ≡ before ++ content_text c after
tail_text before c after = simp (append_assoc, content_slices)

comment_whole : (before : List ℕ) (c : Content) (after : List ℕ) (x : TextPiece) → content_comment before c after ≡ Some x → piece_text x ≡ before ++ content_text c after
comment_whole before c after x e = search (rules, tail_whole, tail_text)

gap_whole : (before gap after : List ℕ) (x : TextPiece) → gap_comment before gap after ≡ Some x → piece_text x ≡ before ++ (gap ++ after)
gap_whole before gap after x e = go (is_empty (joined (last_run (text_lines gap)))) e
  where
    go : (b : Bool) → cond b None (Some (record { before = before ++ joined (before_run (text_lines gap)); text = joined (last_run (text_lines gap)); after = after })) ≡ Some x → piece_text x ≡ before ++ (gap ++ after)
    go true e = absurd (none-some _ e)
    go false e =
        ap piece_text (sym (same_Some _ _ e))
        ∙ (append_assoc before (joined (before_run (text_lines gap))) (joined (last_run (text_lines gap)) ++ after)
        ∙ ap (λ l. before ++ l) (sym (append_assoc (joined (before_run (text_lines gap))) (joined (last_run (text_lines gap))) after) ∙ ap (λ l. l ++ after) (run_split (text_lines gap) ∙ joined_lines gap)))

-- the part of an entry
pub entry_piece_whole : (part : WhichPart) (ss : List Step) (e : BlockEntry) (x : TextPiece) → piece_in_entry part ss e ≡ Some x → piece_text x ≡ entry_text e
entry_piece_whole parts.Content [] e x is = content_whole e x is
entry_piece_whole parts.Content (s ∷ ss) e x is =
    let h = bind_some (line_inline e) is in
    let y = bind_some (flow_at (s ∷ ss) h.0) h.2 in
    (node_whole (y.0.before ++ key_text y.0.key []) y.0.node y.0.after x y.2 ∙ key_before y.0) ∙ (at_whole (s ∷ ss) h.0 y.0 y.1 ∙ in_line_whole e h.0 h.1)
entry_piece_whole parts.Entry [] e x is = ap piece_text (sym (same_Some _ _ is)) ∙ run_whole e.before e.line e.under e.after
entry_piece_whole parts.Entry (s ∷ ss) e x is =
    let h = bind_some (line_inline e) is in
    let y = map_some (flow_at (s ∷ ss) h.0) h.2 in
    ap piece_text (sym y.2) ∙ (item_is y.0 ∙ (at_whole (s ∷ ss) h.0 y.0 y.1 ∙ in_line_whole e h.0 h.1))
entry_piece_whole parts.HeadComment [] e x is = search (rules, gap_whole, append_assoc)
entry_piece_whole parts.LineComment [] e x is = search (rules, comment_whole, append_assoc)
entry_piece_whole y (s ∷ ss) e x is = absurd (none-some _ is)

-- the lines of a document with the text before and after them
abbrev pub document_text : PrintedDocument → List ℕ
document_text s = s.before ++ print_lines s.lines s.after

pub entry_whole : (s : PrintedDocument) (n m : ℕ) (e : BlockEntry) → entry_with s n m ≡ Some e → entry_text e ≡ document_text s
entry_whole s n m e is =
    let l = bind_some (slice_get s.lines n) is in
    let front : List PrintedLine = take n s.lines in
    let more : List PrintedLine = drop (suc n) s.lines in
    let lines : print_lines s.lines s.after ≡ print_lines front [] ++ print_line l.0 (print_lines (take m more) (print_lines (drop m more) s.after)) =
    ap (λ x. print_lines x s.after) (line_split s.lines n l.0 l.1)
    ∙ (lines_append front (l.0 ∷ more) s.after
    ∙ (ap (λ x. print_lines front (print_line l.0 (print_lines x s.after))) (sym (take-append-drop m more))
    ∙ (ap (λ x. print_lines front (print_line l.0 x)) (lines_append (take m more) (drop m more) s.after)
    ∙ lines_then front [] (print_line l.0 (print_lines (take m more) (print_lines (drop m more) s.after)))))) in
    cc (l.2, append_assoc s.before (print_lines front []) (print_line l.0 (print_lines (take m more) (print_lines (drop m more) s.after))))

steps_whole : (part : WhichPart) (y : Step) (ys : List Step) (s : PrintedDocument) (x : TextPiece) → (find y ys (group (map line_in s.lines)) >>= λ f. found_entry s f.0 >>= piece_in_entry part f.1) ≡ Some x → piece_text x ≡ document_text s
steps_whole part y ys s x is =
    let f = bind_some (find y ys (group (map line_in s.lines))) is in
    let e = bind_some (found_entry s f.0.0) f.2 in
    entry_piece_whole part f.0.1 e.0 x e.2 ∙ entry_whole s (length (lines_before f.0.0.place)) (length (flatten f.0.0.under)) e.0 e.1

pub piece_whole : (part : WhichPart) (ss : List Step) (s : PrintedDocument) (x : TextPiece) → piece_in part ss s ≡ Some x → piece_text x ≡ document_text s
piece_whole part ss s x h1 = search (rules, block_whole, none-some, steps_whole)

-- a document
pub document_whole : (n : ℕ) (c : Cut) (s : PrintedDocument) → printed_document n c ≡ Some s → document_text s ≡ cut_text c
document_whole n c s e = search (rules, map_some, rows_are, part_is_there)

pub whole_text : (t : List ℕ) (c : Cut) (p : Path) (part : WhichPart) (x : TextPiece) → read_at t ≡ Some c → (printed_document p.doc c >>= piece_in part (steps_of p)) ≡ Some x → t ≡ piece_text x
unfolding read_at
whole_text t c p part x read found =
    let s = bind_some (printed_document p.doc c) found in
    (text_takes t c (guard_then (is_utf8 t) read).1).0.text ∙ sym (piece_whole part (steps_of p) s.0 x s.2 ∙ document_whole p.doc c s.0 s.1)
