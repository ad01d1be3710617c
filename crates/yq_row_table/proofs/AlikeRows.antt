-- A row, and rows, before one text are rows before a text that is alike.
use Rattle.yq_row_table.{proofs.AlikeBlocks.{ends_alike, lines_alike}, specs.Gap.{IsBreak, IsLineEnd, AreGapLines, IsGap}}
use Rattle.yq_row_table.specs.Grammar.{IsColon, IsKey, IsTail, IsAnchor, IsContent, IsMark, IsRow, Limit, limit_after, AreRows, IsPart}
use Rattle.yq_row_table.specs.Grammar.{IsMarkerLine}
use Rattle.yq_row_table.specs.Rows.{RowMark, Bare, Dash, Key, Anchor, Content, Nothing, Inline, Block, dashes_text, mark_text, anchor_text}
use Rattle.yq_row_table.specs.Rows.{content_text, Row, after_indent, following_gap, parent_indent, print_row, rows_text, Part, part_text}
use Rattle.std.proofs.Common.{inl, ℕ, ℤ, Bool, false, ◌&&◌, eqb, List, [], ◌∷◌, ◌++◌, Option, Some, None, drop, sym, ap, ◌∙◌, ⊎_elim}
use Rattle.std.proofs.Common.{replicate, rules}
use Rattle.yq_core.{specs.Block.{BlockText, block_text}, specs.Text.joined, specs.Alike.{Alike, after}}
use Rattle.yq_core.{proofs.Alikes.{alike_append, alike_separates, alike_marker}, proofs.LineNodes.line_node_alike}
use Rattle.yq_core.{proofs.NodeKeeps.node_text_alike, proofs.AlikePieces.{scalar_alike, name_alike}}

break_alike : (p t u : List ℕ) → Alike (Some false) t u → IsBreak p t → IsBreak p u
break_alike p t u h g = ⊎_elim {0, 0, 0} (λ e. inl e) (λ e. absurd (search rules)) g

line_end_alike : (white comment p t u : List ℕ) → Alike (Some false) t u → IsLineEnd white comment p t → IsLineEnd white comment p u
line_end_alike white comment p t u h g = record { break = g.break; spelled = g.spelled; blank = g.blank; as_comment = g.as_comment; ends = break_alike g.break t u h g.ends }

gap_lines_alike : (lines : List (List ℕ)) (t u : List ℕ) → Alike (Some false) t u → AreGapLines lines t → AreGapLines lines u
gap_lines_alike [] t u h g = tt
gap_lines_alike (l ∷ ls) t u h g = (
  record { white = g.0.white; comment = g.0.comment; line = line_end_alike g.0.white g.0.comment l (joined ls ++ t) (joined ls ++ u) (alike_append (Some false) (joined ls) t u h) g.0.line; some = g.0.some },
  gap_lines_alike ls t u h g.1,
)

pub row_gap_alike : (p t u : List ℕ) → Alike (Some false) t u → IsGap p t → IsGap p u
row_gap_alike p t u h g = record { lines = g.lines; spelled = g.spelled; each = gap_lines_alike g.lines t u h g.each }

tail_alike : (p t u : List ℕ) → Alike (Some false) t u → IsTail p t → IsTail p u
tail_alike p t u h g = record { white = g.white; comment = g.comment; line = line_end_alike g.white g.comment p t u h g.line; apart = g.apart }

-- contents
block_text_alike : (b : BlockText) (t u : List ℕ) → Alike (Some false) t u → Alike (Some false) (block_text b t) (block_text b u)
block_text_alike b t u h = after (alike_append (Some false) b.indicators _ _ (alike_append (Some false) b.tail _ _ (alike_append (Some false) (joined b.raw) t u h)))

anchor_text_alike : (anchor : Option Anchor) (t u : List ℕ) → Alike (Some false) t u → Alike (Some false) (anchor_text anchor t) (anchor_text anchor u)
anchor_text_alike None t u h = h
anchor_text_alike (Some a) t u h = after (alike_append (Some false) a.name _ _ (alike_append (Some false) a.gap t u h))

anchor_alike : (anchor : Option Anchor) (t u : List ℕ) → Alike (Some false) t u → IsAnchor anchor t → IsAnchor anchor u
anchor_alike None t u h g = g
anchor_alike (Some a) t u h g = (name_alike (Some false) a.name (a.gap ++ t) (a.gap ++ u) (alike_append (Some false) a.gap t u h) g.0, g.1, g.2)

content_text_alike : (c : Content) (t u : List ℕ) → Alike (Some false) t u → Alike (Some false) (content_text c t) (content_text c u)
content_text_alike c t u h1 = search (rules, alike_append, node_text_alike, anchor_text_alike, block_text_alike)

content_alike : (n : ℤ) (c : Content) (t u : List ℕ) → Alike (Some false) t u → IsContent n c t → IsContent n c u
content_alike n (Nothing tail) t u h g = tail_alike tail t u h g
content_alike n (Inline space node tail) t u h g = search (rules, line_node_alike, alike_append, tail_alike)
content_alike n (Block space anchor block) t u h g =
    (g.0, anchor_alike anchor (block_text block t) (block_text block u) (block_text_alike block t u h) g.1, (search (rules, ends_alike, lines_alike)))

-- marks
colon_alike : (p t u : List ℕ) → Alike (Some false) t u → IsColon p t → IsColon p u
colon_alike p t u h g = record { white = g.white; spelled = g.spelled; blank = g.blank; separated = sym (alike_separates (Some false) t u h) ∙ g.separated }

key_alike : (key colon t u : List ℕ) → Alike (Some false) t u → IsKey key colon t → IsKey key colon u
key_alike key colon t u h g = record { scalar = scalar_alike false None key (colon ++ t) (colon ++ u) (alike_append (Some false) colon t u h) g.scalar; colon_is = colon_alike colon t u h g.colon_is; near = g.near }

mark_alike : (mark : RowMark) (c : Content) (t u : List ℕ) → Alike (Some false) (content_text c t) (content_text c u) → IsMark mark c t → IsMark mark c u
mark_alike mark c t u h1 h2 = search (rules, alike_separates, key_alike)

mark_text_alike : (mark : RowMark) (t u : List ℕ) → Alike (Some false) t u → Alike (Some false) (mark_text mark t) (mark_text mark u)
mark_text_alike Bare t u h = h
mark_text_alike Dash t u h = after h
mark_text_alike (Key key colon) t u h = alike_append (Some false) key _ _ (alike_append (Some false) colon t u h)

pub dashes_text_alike : (ns t u : List ℕ) → Alike (Some false) t u → Alike (Some false) (dashes_text ns t) (dashes_text ns u)
dashes_text_alike [] t u h = h
dashes_text_alike (n ∷ ns) t u h = after (alike_append (Some false) (replicate n 32) _ _ (dashes_text_alike ns t u h))

-- rows
indent_alike : (r : Row) (t u : List ℕ) → Alike (Some false) t u → Alike (Some false) (after_indent r t) (after_indent r u)
indent_alike r t u h = dashes_text_alike r.dashes _ _ (mark_text_alike r.mark _ _ (content_text_alike r.content t u h))

pub row_text_alike : (r : Row) (t u : List ℕ) → Alike (Some false) t u → Alike (Some false) (print_row r t) (print_row r u)
row_text_alike r t u h = alike_append (Some false) r.gap _ _ (alike_append (Some false) (replicate r.column 32) _ _ (indent_alike r t u h))

pub row_alike : (limit : Limit) (r : Row) (t u : List ℕ) → Alike (Some false) t u → IsRow limit r t → IsRow limit r u
row_alike limit r t u h g =
    let indent = indent_alike r t u h in
    record {
      gap = row_gap_alike r.gap (following_gap r t) (following_gap r u) (alike_append (Some false) (replicate r.column 32) _ _ indent) g.gap;
      allowed = g.allowed;
      unmarked = ap (λ b. eqb r.column 0 && b) (sym (alike_marker (Some false) (after_indent r t) (after_indent r u) indent)) ∙ g.unmarked;
      dashes = g.dashes;
      mark = mark_alike r.mark r.content t u (content_text_alike r.content t u h) g.mark;
      content = content_alike (parent_indent r) r.content t u h g.content;
    }

pub rows_text_alike : (rs : List Row) (t u : List ℕ) → Alike (Some false) t u → Alike (Some false) (rows_text rs t) (rows_text rs u)
rows_text_alike [] t u h = h
rows_text_alike (r ∷ rs) t u h = row_text_alike r (rows_text rs t) (rows_text rs u) (rows_text_alike rs t u h)

pub rows_alike : (rs : List Row) (limit : Limit) (end t u : List ℕ) → Alike (Some false) t u → AreRows limit rs end t → AreRows limit rs end u
rows_alike [] limit end t u h g = row_gap_alike end t u h g
rows_alike (r ∷ rs) limit end t u h g = search (rules, row_alike, rows_text_alike, alike_append, rows_alike rs (limit_after r) end t u h g.1)

-- parts and markers
pub part_alike : (started : Bool) (p : Part) (t u : List ℕ) → Alike (Some false) t u → IsPart started p t → IsPart started p u
part_alike started p t u h g = record { rows = rows_alike p.rows _ p.end t u h g.rows; inside = g.inside }

pub part_text_alike : (p : Part) (t u : List ℕ) → Alike (Some false) t u → Alike (Some false) (part_text p t) (part_text p u)
part_text_alike p t u h = rows_text_alike p.rows (p.end ++ t) (p.end ++ u) (alike_append (Some false) p.end t u h)

pub marker_line_alike : (p t u : List ℕ) → Alike (Some false) t u → IsMarkerLine p t → IsMarkerLine p u
marker_line_alike p t u h g = record { marker = sym (alike_marker (Some false) (p ++ t) (p ++ u) (alike_append (Some false) p t u h)) ∙ g.marker; long = g.long; tail = tail_alike (drop 3 p) t u h g.tail }
