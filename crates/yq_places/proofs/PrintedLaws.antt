-- What is known of lines with their texts, and the lines of a document.
use Rattle.std.proofs.Common.{◌≡◌, ◌⊎◌, inl, ℕ, suc, ◌+◌, List, [], ◌∷◌, ◌++◌, map, Option, Some, None, Bool, true, refl, sym, ap, ◌∙◌}
use Rattle.std.{proofs.Common.{subst, replicate, ℤ, rules}, specs.List.slice_get}
use Rattle.yq_core.{specs.Block.IsBlock, specs.Text.upto, specs.Nodes.{FlowNode, IsFlowNode}}
use Rattle.yq_row_table.{specs.Grammar.{Limit, unlimited, limit_after, IsContent, AreRows, AreParts}, specs.View.content_cut}
use Rattle.yq_row_table.specs.Rows.{Content, Nothing, Inline, Block, content_text, mark_text, dashes_text, following_gap, Row, rows_text}
use Rattle.yq_row_table.specs.Rows.{Part, Cut}
use Rattle.yq_documents.specs.Documents.{document_parts}
use Rattle.yq_outline.{specs.Lines.{head_of, tail_of, lines_from, lines_of_rows}, proofs.RowLaws.no_comments}
use Rattle.yq_places.specs.PrintedLines.{line_rest, PrintedLine, print_lines, printed_from, printed_row, printed_lines, line_in}
use Rattle.yq_places.{specs.PathPieces.{PrintedDocument, printed_document}, specs.PlacedRows.placed_document}
use Rattle.yq_places.{proofs.CommentPieceLaws.{Ended, content_end, gap_end}, proofs.PlacedPartLaws.{part_rows, part_is_there}}
use Rattle.yq_places.proofs.PrintedTexts.{alone, from_is, map_some, lines_append, rows_are}
use Rattle.yq_outline.specs.Comments as comments
use Rattle.yq_row_table.specs.Rows as rows

-- an inline node is valid where it is
abbrev pub IsValid : FlowNode → List ℕ → Type 0
IsValid node rest = (flow : Bool) × (spaces : Option ℕ) × (depth : ℕ) × IsFlowNode flow spaces depth node rest

-- a content is valid where it is
abbrev pub IsWritten : Content → List ℕ → Type 0
IsWritten (Nothing tail) rest = Unit {0}
IsWritten (Inline space node tail) rest = IsValid node (tail ++ rest)
IsWritten (Block space anchor block) rest = (least : ℕ) × IsBlock least block rest

-- A line is given by its text.
pub record IsPrinted (l : PrintedLine) (rest : List ℕ) : Type 0 where
  pub head : l.line.head ≡ head_of l.content
  pub above : l.line.head_comment ≡ comments.head_comment l.gap
  pub beside : l.line.line_comment ≡ comments.line_comment (tail_of l.content)
  pub written : IsWritten l.content rest
  pub gap : (l.gap ≡ []) ⊎ Ended l.gap (l.spaces ++ line_rest l rest)
  pub tail : (l.content ≡ Nothing []) ⊎ Ended (content_cut l.content).4 ((content_cut l.content).5 ++ rest)

abbrev pub ArePrinted : List PrintedLine → List ℕ → Type 0
ArePrinted [] rest = Unit {0}
ArePrinted (l ∷ ls) rest = IsPrinted l (print_lines ls rest) × ArePrinted ls rest

pub printed_append : (xs ys : List PrintedLine) (rest : List ℕ) → ArePrinted xs (print_lines ys rest) → ArePrinted ys rest → ArePrinted (xs ++ ys) rest
printed_append [] ys rest h k = k
printed_append (x ∷ xs) ys rest h k = (subst (IsPrinted x) (sym (lines_append xs ys rest)) h.0, printed_append xs ys rest h.1 k)

pub printed_split : (xs ys : List PrintedLine) (rest : List ℕ) → ArePrinted (xs ++ ys) rest → ArePrinted xs (print_lines ys rest) × ArePrinted ys rest
printed_split [] ys rest h = (tt, h)
printed_split (x ∷ xs) ys rest h = let k = printed_split xs ys rest h.1 in ((subst (IsPrinted x) (lines_append xs ys rest) h.0, k.0), k.1)

-- the lines of rows
pub content_written : (n : ℤ) (c : Content) (rest : List ℕ) → IsContent n c rest → IsWritten c rest
content_written n c rest h1 = search rules

pub none_beside : comments.line_comment [] ≡ None
unfolding upto
none_beside = refl

pub from_printed : (gap spaces : List ℕ) (column : ℕ) (ns : List ℕ) (m : rows.RowMark) (c : Content) (rest : List ℕ) → IsWritten c rest → Ended (content_cut c).4 ((content_cut c).5 ++ rest) →
    (gap ≡ []) ⊎ Ended gap (spaces ++ dashes_text ns (mark_text m (content_text c rest))) → ArePrinted (printed_from gap spaces column ns m c) rest
from_printed gap spaces column [] m c rest h e g = search (rules, alone)
from_printed gap spaces column (n ∷ ns) m c rest h e g = (
  record { head = refl; above = refl; beside = sym none_beside; written = tt; gap = subst (λ x. (gap ≡ []) ⊎ Ended gap (spaces ++ (45 ∷ (replicate n 32 ++ x)))) (sym (from_is [] [] (suc (column + n)) ns m c rest)) g; tail = inl refl },
  from_printed [] [] (suc (column + n)) ns m c rest h e (inl refl),
)

pub rows_printed : (limit : Limit) (rs : List Row) (gap rest : List ℕ) → AreRows limit rs gap rest → ArePrinted (printed_lines rs) (gap ++ rest)
rows_printed limit [] gap rest h = tt
rows_printed limit (r ∷ rs) gap rest h =
    let text : rows_text rs (gap ++ rest) ≡ print_lines (printed_lines rs) (gap ++ rest) = sym (rows_are rs (gap ++ rest)) in
    printed_append (printed_row r) (printed_lines rs) (gap ++ rest)
    (from_printed r.gap (replicate r.column 32) r.column r.dashes r.mark r.content (print_lines (printed_lines rs) (gap ++ rest)) (subst (IsWritten r.content) text (content_written _ r.content _ h.0.content))
    (subst (λ x. Ended (content_cut r.content).4 ((content_cut r.content).5 ++ x)) text (content_end _ r.content _ h.0.content))
    (subst (λ x. (r.gap ≡ []) ⊎ Ended r.gap (following_gap r x)) text (gap_end r.gap _ h.0.gap)))
    (rows_printed (limit_after r) rs gap rest h.1)

pub map_append : (xs ys : List PrintedLine) → map line_in (xs ++ ys) ≡ map line_in xs ++ map line_in ys
map_append [] ys = refl
map_append (x ∷ xs) ys = ap (λ l. line_in x ∷ l) (map_append xs ys)

pub from_lines : (gap spaces : List ℕ) (column : ℕ) (ns : List ℕ) (m : rows.RowMark) (c : Content) → map line_in (printed_from gap spaces column ns m c) ≡ lines_from (comments.head_comment gap) column ns m c
from_lines gap spaces column [] m c = refl
from_lines gap spaces column (n ∷ ns) m c = cc (from_lines [] [] (suc (column + n)) ns m c, no_comments)

pub lines_are : (rs : List Row) → map line_in (printed_lines rs) ≡ lines_of_rows rs
lines_are [] = refl
lines_are (r ∷ rs) = map_append (printed_row r) (printed_lines rs) ∙ (λ i. from_lines r.gap (replicate r.column 32) r.column r.dashes r.mark r.content i ++ lines_are rs i)

-- Lines are those of a document.
pub record IsPrintedDocument (p : Part) (s : PrintedDocument) : Type 0 where
  pub lines : s.lines ≡ printed_lines p.rows
  pub as_printed : ArePrinted s.lines s.after

pub document_is : (n : ℕ) (c : Cut) (s : PrintedDocument) → AreParts true c → printed_document n c ≡ Some s → (p : Part) × (slice_get (document_parts c) n ≡ Some p) × IsPrintedDocument p s
document_is n c s h e =
    let d = map_some (placed_document n c) e in
    let p : Part = d.0.part in
    (p, (part_is_there n c d.0 d.1).there, subst (IsPrintedDocument p) d.2 (record { lines = refl; as_printed = rows_printed unlimited p.rows p.end d.0.after (part_rows n c d.0 h d.1) }))
