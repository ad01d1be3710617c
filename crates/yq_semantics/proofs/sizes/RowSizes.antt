-- A text has two bytes at least for each item and entry of the documents as which it reads, and for each eight bytes that their
-- scalars mean, but for the last one's break.
use Rattle.std.proofs.Common.{◌≡◌, ℕ, suc, ◌+◌, ◌*◌, ◌/◌, ◌≤◌, ℤ, Bool, true, false, ◌||◌, not, List, [], ◌∷◌, ◌++◌, length, Option, Some}
use Rattle.std.{proofs.Common.{None, refl, sym, arith, ⊎_elim, length-append, rules, replicate}, proofs.lemmas.List.length-replicate}
use Rattle.yq_core.{specs.Nodes.{FlowNode, node_text, IsFlowNode}, specs.Trees.{node_head, tree_of}, specs.Tree.{Node, Children}}
use Rattle.yq_core.{specs.Block.{AreRaw, BlockText, block_text}, specs.BlockContent.block_content, specs.Text.joined}
use Rattle.yq_row_table.specs.Rows.{RowMark, Anchor, anchor_text, Content, Nothing, Inline, content_text, mark_text, dashes_text, Row}
use Rattle.yq_row_table.specs.Rows.{after_dashes, following_gap, print_row, rows_text, Part, Cut, last, marked, cut_text, parent_indent}
use Rattle.yq_row_table.specs.Grammar.{AreDashes, IsContent, IsMark, IsTail, IsRow, AreRows, AreParts, Limit, begins_document, limit_after}
use Rattle.yq_row_table.{specs.Grammar.unlimited, specs.Gap.IsBreak}
use Rattle.yq_outline.specs.Grammar.{IsNodeOutline, AreEntryLines, IsUnder, alone, mapping, sequence, no_more, entry, headed, missing}
use Rattle.yq_outline.{specs.Grammar.deeper_lines, specs.Outline.{Line, LineMark, anchored}}
use Rattle.yq_outline.specs.Lines.{lines_from, row_lines, lines_of_rows, head_of, line_mark}
use Rattle.yq_documents.specs.Documents.{Document, AreDocuments, ReadsDocuments, IsRoot, parts_from, with_part, begins_bare, has_begin}
use Rattle.yq_semantics.{specs.Sizes.{items_in, items_among, items_of_all}, proofs.sizes.FlowSizes.node_bytes}
use Rattle.yq_semantics.proofs.sizes.TextSizes.{block_text_size}
use native.Mathlib.Nat.{zero-add}
use Rattle.yq_core.specs.Nodes as inline
use Rattle.yq_core.specs.Tree as tree
use Rattle.yq_row_table.specs.Rows as rows
use Rattle.yq_outline.specs.Outline as outline
use Rattle.yq_outline.specs.Comments as comments

-- ---- lines

-- what a mark counts: an entry or item, but for a node on a line of its own
abbrev of_mark : LineMark → ℕ
of_mark outline.Bare = 0
of_mark (outline.Key k) = 1
of_mark outline.Dash = 1

abbrev of_head : Option Node → ℕ
of_head None = 0
of_head (Some n) = items_in n

-- what is in lines
abbrev of_lines : List Line → ℕ
of_lines [] = 0
of_lines (l ∷ ls) = of_mark l.mark + of_head l.head + of_lines ls

of_both : (ls ms : List Line) → of_lines (ls ++ ms) ≡ of_lines ls + of_lines ms
of_both [] ms = sym (zero-add (of_lines ms))
of_both (l ∷ ls) ms = omega (arith, of_both ls ms)

pub under_anchor : (a : Option (List ℕ)) (n : Node) → items_in (anchored a n) ≡ items_in n
under_anchor a (tree.alias n) = refl
under_anchor a (tree.scalar b k t) = refl
under_anchor a (tree.list b cs) = refl
under_anchor a (tree.map b cs) = refl

counts : (m : LineMark) → (m ≡ outline.Bare → ⊥) → of_mark m ≡ 1
counts outline.Bare h = absurd (h refl)
counts (outline.Key k) h = refl
counts outline.Dash h = refl

mutual
  outline_size : {n : ℕ} {ls : List Line} {v : Node} → IsNodeOutline n ls v → items_in v ≤ of_lines ls
  outline_size (alone {n} {l} {v} level mark head) = rw head (omega (arith, under_anchor l.anchor v))
  outline_size (mapping {n} {l} {k} {ls} {cs} mark entries) = entries_size entries
  outline_size (sequence {n} {l} {ls} {cs} mark entries) = entries_size entries

  entries_size : {n : ℕ} {ls : List Line} {cs : Children} → AreEntryLines n ls cs → items_among cs ≤ of_lines ls
  entries_size no_more = omega arith
  entries_size (entry {n} {l} {under} {after} {all} {v} {cs} level mark u rest is) =
      rw is (omega (arith, of_both under after, counts l.mark mark, under_anchor l.anchor v, under_size u, entries_size rest))

  under_size : {l : Line} {ls : List Line} {v : Node} → IsUnder l ls v → items_in v ≤ of_head l.head + of_lines ls
  under_size (headed {l} {v} head) = rw head (omega arith)
  under_size (missing {l} head) = omega arith
  under_size (deeper_lines {l} {n} {ls} {v} head deeper outline) = rw head (omega (arith, outline_size outline))

-- ---- rows

-- the break that the end of a text stands for
abbrev at_end : List ℕ → ℕ
at_end [] = 1
at_end (b ∷ bs) = 0

break_size : (p rest : List ℕ) → IsBreak p rest → suc (length rest) ≤ length p + length rest + at_end rest
break_size (b ∷ bs) rest h = omega arith
break_size [] [] h = omega arith
break_size [] (c ∷ cs) h = absurd (search (rules, ⊎_elim))

tail_size : (tail rest : List ℕ) → IsTail tail rest → suc (length rest) ≤ length (tail ++ rest) + at_end rest
tail_size tail rest h =
    let break = h.line.break in
    rw h.line.spelled (
    omega (arith, break_size break rest h.line.ends, length-append (h.white ++ (h.comment ++ break)) rest, length-append h.white (h.comment ++ break), length-append h.comment break)
    )

-- what a head counts
node_size : (flow : Bool) (spaces : Option ℕ) (d : ℕ) (node : FlowNode) (rest : List ℕ) → IsFlowNode flow spaces d node rest → 2 * of_head (node_head node) + length rest ≤ length (node_text node rest)
unfolding tree_of node_text IsFlowNode
node_size flow spaces d inline.empty rest h = omega arith
node_size flow spaces d (inline.alias n) rest h = omega (arith, node_bytes flow spaces d (inline.alias n) rest h)
node_size flow spaces d (inline.scalar p) rest h = omega (arith, node_bytes flow spaces d (inline.scalar p) rest h)
node_size flow spaces d (inline.coll k g is) rest h = omega (arith, node_bytes flow spaces d (inline.coll k g is) rest h)
node_size flow spaces d (inline.anchored n g node) rest h =
    omega (arith, length-append n (g ++ node_text node rest), length-append g (node_text node rest), node_size flow spaces d node rest h.4)

content_size : (n : ℤ) (c : Content) (rest : List ℕ) → IsContent n c rest → suc (2 * of_head (head_of c) + length rest) ≤ length (content_text c rest) + at_end rest
content_size n (Nothing tail) rest h = omega (arith, tail_size tail rest h)
content_size n (Inline space node tail) rest h =
    omega (arith, length-append space (node_text node (tail ++ rest)), tail_size tail rest h.2, node_size _ _ _ node (tail ++ rest) h.1.valid)
content_size n (rows.Block space anchor block) rest h =
    omega (arith, length-append space (anchor_text anchor (block_text block rest)), anchor_size anchor (block_text block rest), block_size block rest h.2.lines)
  where
    anchor_size : (a : Option Anchor) (t : List ℕ) → length t ≤ length (anchor_text a t)
    anchor_size None t = omega arith
    anchor_size (Some a) t = omega (arith, length-append a.name (a.gap ++ t), length-append a.gap t)

    block_size : (b : BlockText) (t : List ℕ) → AreRaw b.indent b.raw → suc (2 * (length (block_content b) / 8) + length t) ≤ length (block_text b t)
    block_size b t lines =
        omega (
          arith,
          length-append b.indicators (b.tail ++ (joined b.raw ++ t)),
          length-append b.tail (joined b.raw ++ t),
          length-append (joined b.raw) t,
          block_text_size b lines,
        )

mark_size : (m : RowMark) (c : Content) (rest : List ℕ) (left : ℕ) → IsMark m c rest → suc left ≤ length (content_text c rest) + at_end rest →
    2 * of_mark (line_mark m) + left ≤ length (mark_text m (content_text c rest)) + at_end rest
mark_size rows.Bare c rest left h k = omega (arith, k)
mark_size rows.Dash c rest left h k = omega (arith, k)
mark_size (rows.Key key colon) c rest left h k =
    let after = content_text c rest in
    let colon_is = h.colon_is in
    rw colon_is.spelled (omega (arith, k, length-append key ((colon_is.white ++ 58 ∷ []) ++ after), length-append (colon_is.white ++ 58 ∷ []) after, length-append colon_is.white (58 ∷ [])))

dashes_size : (above : List (List ℕ)) (column : ℕ) (dashes : List ℕ) (m : RowMark) (c : Content) (left end : ℕ) (t : List ℕ) → AreDashes dashes m →
    2 * of_mark (line_mark m) + (2 * of_head (head_of c) + left) ≤ length t + end → 2 * of_lines (lines_from above column dashes m c) + left ≤ length (dashes_text dashes t) + end
dashes_size above column [] m c left end t are h = omega (arith, h)
dashes_size above column (n ∷ ns) m c left end t are h =
    omega (
      arith,
      are.0,
      length-replicate {A = ℕ} n 32,
      length-append (replicate n 32) (dashes_text ns t),
      dashes_size [] (suc (column + n)) ns m c left end t are.2 h,
    )

row_size : (limit : Limit) (r : Row) (rest : List ℕ) → IsRow limit r rest → 2 * of_lines (row_lines r) + length rest ≤ length (print_row r rest) + at_end rest
row_size limit r rest h =
    let inside = after_dashes r rest in
    let content = content_size (parent_indent r) r.content rest h.content in
    let marked_so = mark_size r.mark r.content rest (2 * of_head (head_of r.content) + length rest) h.mark content in
    let dashed = dashes_size (comments.head_comment r.gap) r.column r.dashes r.mark r.content (length rest) (at_end rest) inside h.dashes marked_so in
    omega (arith, dashed, length-append r.gap (following_gap r rest), length-append (replicate r.column 32) (dashes_text r.dashes inside))

-- no row follows the end of the text
two_sizes : (x y size : ℕ) (after rest : List ℕ) → 2 * x + length after ≤ size + at_end after → 2 * y + length rest ≤ length after + at_end rest → 2 * (x + y) + length rest ≤ size + at_end rest
two_sizes x y size [] [] h k = omega (arith, h, k)
two_sizes x y size [] (b ∷ bs) h k = omega (arith, h, k)
two_sizes x y size (c ∷ cs) rest h k = omega (arith, h, k)

rows_size : (limit : Limit) (rs : List Row) (end rest : List ℕ) → AreRows limit rs end rest →
    2 * of_lines (lines_of_rows rs) + length (end ++ rest) ≤ length (rows_text rs (end ++ rest)) + at_end (end ++ rest)
rows_size limit [] end rest h = omega arith
rows_size limit (r ∷ rs) end rest h =
    let after = rows_text rs (end ++ rest) in
    rw (of_both (row_lines r) (lines_of_rows rs)) (
    two_sizes (of_lines (row_lines r)) (of_lines (lines_of_rows rs)) _ after (end ++ rest) (row_size limit r after h.0) (rows_size (limit_after r) rs end rest h.1)
    )

-- ---- documents

root_size : (ls : List Line) (root : Node) → IsRoot ls root → items_in root ≤ of_lines ls
root_size [] root h = rw h (omega arith)
root_size (l ∷ ls) root h = outline_size h.1

abbrev of_parts : List Part → ℕ
of_parts [] = 0
of_parts (p ∷ ps) = of_lines (lines_of_rows p.rows) + of_parts ps

of_parts_with : (is : Bool) (p : Part) (ps : List Part) → of_parts (with_part is p ps) ≤ of_lines (lines_of_rows p.rows) + of_parts ps
of_parts_with true p ps = omega arith
of_parts_with false p ps = omega arith

documents_size : (ps : List Part) (ds : List Document) → AreDocuments ps ds → items_of_all ds ≤ of_parts ps
documents_size [] [] h = omega arith
documents_size [] (d ∷ ds) h = absurd h
documents_size (p ∷ ps) [] h = absurd h
documents_size (p ∷ ps) (d ∷ ds) h = omega (arith, root_size (lines_of_rows p.rows) d.root h.0.root, documents_size ps ds h.1)

end_size : (t : List ℕ) → at_end t ≤ 1
end_size [] = omega arith
end_size (b ∷ bs) = omega arith

parts_size : (started is : Bool) (c : Cut) → AreParts started c → 2 * of_parts (parts_from is c) ≤ suc (length (cut_text c))
parts_size started is (last p) h =
    omega (arith, of_parts_with is p [], rows_size unlimited p.rows p.end [] h.rows, end_size (p.end ++ []))
parts_size started is (marked p marker c) h =
    let after = marker ++ cut_text c in
    omega (
      arith,
      of_parts_with is p (parts_from (begins_document marker) c),
      rows_size unlimited p.rows p.end after h.0.rows,
      end_size (p.end ++ after),
      length-append p.end after,
      length-append marker (cut_text c),
      h.1.long,
      parts_size (begins_document marker) (begins_document marker) c h.2,
    )

-- a text has two bytes at least for each item and entry of the documents as which it reads, but for the last one's break
pub text_size : (t : List ℕ) (docs : List Document) → ReadsDocuments t docs → 2 * items_of_all docs ≤ suc (length t)
text_size t docs h =
    rw h.cut.text (omega (arith, documents_size _ docs h.documents, parts_size true (begins_bare h.parts || not (has_begin h.parts)) h.parts h.cut.parts))
