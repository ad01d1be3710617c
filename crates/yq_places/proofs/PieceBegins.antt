-- Contents begin in their entries.
use Rattle.std.proofs.Common.{◌≡◌, ℕ, List, [], ◌∷◌, ◌++◌, map, Option, Some, None, is_some, option_map, Bool, true, false, cond, sym, ap}
use Rattle.std.{proofs.Common.{◌∙◌, append_assoc, append-nil, rules}, proofs.lemmas.Option.{none-some, same_Some}}
use Rattle.yq_core.{specs.Answers.◌>>=◌, specs.Paths.Step, specs.Nodes.{FlowNode, anchored, key_text}}
use Rattle.yq_row_table.specs.Rows.{Content, Nothing, Inline, Block, anchor_text}
use Rattle.yq_outline.{specs.Group.group, specs.Places.{FoundLine, find}, specs.Positions.has_no_mark}
use Rattle.yq_documents.{specs.Located.steps_of, specs.Pieces.{TextPiece, node_piece, head_piece}}
use Rattle.yq_places.specs.PrintedLines.{line_front, PrintedLine, line_rest, print_line, print_lines, line_in, run_piece, lines_piece}
use Rattle.yq_places.specs.PathPieces.{BlockEntry, content_piece, FlowEntry, flow_piece, flow_content, PrintedDocument, printed_document}
use Rattle.yq_places.{specs.PathPieces.{found_entry, piece_in_entry, piece_in}, specs.PieceLaws.ContentsBegin}
use Rattle.yq_documents.specs.declared.path.Part.TheVariants as parts

-- a piece begins after a text
abbrev From : List ℕ → TextPiece → Type 0
From before x = (front : List ℕ) × (x.before ≡ before ++ front)

here : (before : List ℕ) (x : TextPiece) → x.before ≡ before → From before x
here before x e = ([], e ∙ sym (append-nil before))

further : (before more : List ℕ) (x : TextPiece) → From (before ++ more) x → From before x
further before more x h = (more ++ h.0, h.1 ∙ append_assoc before more h.0)

node_begins : (before : List ℕ) (node : FlowNode) (rest : List ℕ) (x : TextPiece) → node_piece before node rest ≡ Some x → From before x
node_begins before (anchored n g node) rest x e = further before (38 ∷ (n ++ g)) x (node_begins (before ++ 38 ∷ (n ++ g)) node rest x e)
node_begins before node rest x e = search (rules, none-some, here, same_Some)

head_begins : (before : List ℕ) (c : Content) (rest : List ℕ) (x : TextPiece) → head_piece before c rest ≡ Some x → From before x
head_begins before (Nothing tail) rest x e = absurd (none-some _ e)
head_begins before (Inline space node tail) rest x e = further before space x (node_begins (before ++ space) node (tail ++ rest) x e)
head_begins before (Block space anchor block) rest x e = (space ++ anchor_text anchor [], ap (λ (p : TextPiece). p.before) (sym (same_Some _ _ e)))

block_begins : (before : List ℕ) (ls : List PrintedLine) (rest : List ℕ) (x : TextPiece) → lines_piece before ls rest ≡ Some x → From before x
block_begins before [] rest x e = absurd (none-some _ e)
block_begins before (l ∷ ls) rest x e = go (has_no_mark l.line.mark) e
  where
    go : (b : Bool) → cond b (head_piece (before ++ (line_front l ++ l.mark)) l.content (print_lines ls rest)) (Some (run_piece before l ls rest)) ≡ Some x → From before x
    go true e = further before (line_front l ++ l.mark) x (head_begins (before ++ (line_front l ++ l.mark)) l.content (print_lines ls rest) x e)
    go false e = ((line_front l), ap (λ (p : TextPiece). p.before) (sym (same_Some _ _ e)))

moved : (a b more : List ℕ) (x : TextPiece) → From (a ++ (b ++ more)) x → From (a ++ b) x
moved a b more x h = (more ++ h.0, h.1 ∙ (ap (λ l. l ++ h.0) (sym (append_assoc a b more)) ∙ append_assoc (a ++ b) more h.0))

content_begins : (e : BlockEntry) (x : TextPiece) → content_piece e ≡ Some x → From (e.before ++ line_front e.line) x
content_begins e x is = go (is_some e.line.line.head) is
  where
    go : (b : Bool) → cond b (head_piece (e.before ++ (line_front e.line ++ e.line.mark)) e.line.content (print_lines e.under e.after))
        (lines_piece (e.before ++ print_line e.line []) e.under e.after) ≡ Some x → From (e.before ++ line_front e.line) x
    go true is = moved e.before (line_front e.line) e.line.mark x (head_begins (e.before ++ (line_front e.line ++ e.line.mark)) e.line.content (print_lines e.under e.after) x is)
    go false is = moved e.before (line_front e.line) (line_rest e.line []) x (block_begins (e.before ++ print_line e.line []) e.under e.after x is)

item_begins : (o : Option FlowEntry) (e x : TextPiece) → option_map flow_piece o ≡ Some e → (o >>= flow_content) ≡ Some x → From e.before x
item_begins None e x h k = absurd (none-some _ h)
item_begins (Some y) e x h k =
    search (rules, further y.before (key_text y.key []) x (node_begins (y.before ++ key_text y.key []) y.node y.after x k), same_Some)

part_begins : (ss : List Step) (o : Option BlockEntry) (e x : TextPiece) → (o >>= piece_in_entry parts.Entry ss) ≡ Some e → (o >>= piece_in_entry parts.Content ss) ≡ Some x → From e.before x
part_begins ss o e x h k = search (rules, none-some, content_begins, same_Some, item_begins)

found_begins : (s : PrintedDocument) (o : Option (FoundLine × List Step)) (e x : TextPiece) → (o >>= λ f. found_entry s f.0 >>= piece_in_entry parts.Entry f.1) ≡ Some e →
    (o >>= λ f. found_entry s f.0 >>= piece_in_entry parts.Content f.1) ≡ Some x → From e.before x
found_begins s o e x h1 h2 = search (rules, none-some, part_begins)

document_begins : (steps : List Step) (o : Option PrintedDocument) (e x : TextPiece) → (o >>= piece_in parts.Entry steps) ≡ Some e → (o >>= piece_in parts.Content steps) ≡ Some x → From e.before x
document_begins steps None e x h k = absurd (none-some _ h)
document_begins [] (Some s) e x h k = absurd (none-some _ h)
document_begins (y ∷ ys) (Some s) e x h k = found_begins s (find y ys (group (map line_in s.lines))) e x h k

pub contents_begin : ContentsBegin
contents_begin c p e x h k = document_begins (steps_of p) (printed_document p.doc c) e x h k
