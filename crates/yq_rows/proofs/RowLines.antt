-- No line begins with a document marker inside a row.
use Rattle.std.proofs.Common.{◌≡◌, ⊎_elim, ℕ, zero, suc, ◌+◌, ◌≤◌, true, false, ◌&&◌, eqb, List, [], ◌∷◌, ◌++◌, length, drop, Option, Some}
use Rattle.std.proofs.Common.{None, refl, sym, ap, ◌∙◌, subst, arith, append_assoc, eqb-true, replicate, rules}
use Rattle.std.proofs.lemmas.Bool.{and_from, and_parts, cases_Bool, false≢true, leb-true, ne_eqb, or_cases, or_right}
use Rattle.yq_core.specs.Block.{BlockText, IsBlock, IsDetected, IsDigit, IsIndicators, IsRawLine, IsTextIndent, AreRaw, block_text}
use Rattle.yq_core.{specs.Block.{digit_text, style_indicator, sign_text}, specs.declared.block_header.BlockStyle.BlockStyle}
use Rattle.yq_core.{specs.declared.block_header.Chomping.Chomping, specs.declared.block_lines.TextIndent.TextIndent, specs.Piece.deeper}
use Rattle.yq_core.{specs.Text.{ends_line, is_break, is_empty, is_feed, is_line, is_marker, joined, NoneIn}, specs.Nodes.node_text}
use Rattle.yq_row_table.specs.Gap.{AreGapLines, IsBreak, IsComment, IsGap, IsLineEnd, IsWhite}
use Rattle.yq_row_table.specs.Grammar.{IsAnchor, IsContent, IsMark, IsMarkerLine, IsRow, IsTail, Limit, may_be_alone}
use Rattle.yq_row_table.specs.Rows.{Anchor, Bare, Content, Dash, Inline, Key, RowMark, Nothing, Row, anchor_text, following_gap}
use Rattle.yq_row_table.specs.Rows.{after_indent, content_text, dashes_text, mark_column, mark_text, parent_of, print_row}
use Rattle.yq_row_table.proofs.seams.MarkerSeams.{marker_byte}
use Rattle.yq_rows.proofs.LineLaws.{NoFeed, Upto, line_lines, no_marker_byte, space_no_marker, upto_byte, upto_inside, upto_line, upto_none}
use Rattle.yq_rows.{proofs.LineLaws.upto_piece, proofs.NodeLines.{name_no_feed, node_lines, scalar_lines, two_bytes}}
use Rattle.yq_core.specs.declared.block_header.BlockStyle.TheVariants as styles
use Rattle.yq_row_table.specs.Rows as rows

-- ---- ends of lines

pub white_all : (w : List ℕ) → IsWhite w → NoFeed w
white_all [] h = tt
white_all (b ∷ w) h = (two_bytes b 32 9 refl refl h.0, white_all w h.1)

none_all : (p t : List ℕ) → NoneIn ends_line p t → NoFeed p
none_all [] t h = tt
none_all (b ∷ p) t h = (⊎_elim {0, 0, 0} (λ (e : is_feed b ≡ true). absurd (false≢true (sym h.0 ∙ rw e refl))) (λ (e : is_feed b ≡ false). e) (cases_Bool (is_feed b)), none_all p t h.1)

pub comment_all : (c break : List ℕ) → IsComment c break → NoFeed c
comment_all [] break h = tt
comment_all (b ∷ c) break h = (ap is_feed h.0, none_all c break h.1)

break_lines : (p t rest : List ℕ) → IsBreak p t → Upto true t rest → Upto false (p ++ t) rest
break_lines p t rest h k = ⊎_elim {0, 0, 0}
    (λ a. line_lines p t rest (and_parts (is_break p) (is_line p) a).1 k)
    (λ a. subst (λ (l : List ℕ). Upto false (l ++ t) rest) (sym a.0) (upto_inside true t rest k))
    h

pub end_lines : (white comment p t rest : List ℕ) → IsLineEnd white comment p t → Upto true t rest → Upto false (p ++ t) rest
end_lines white comment p t rest h k =
    let own = upto_piece white (comment ++ (h.break ++ t)) rest (white_all white h.blank) (upto_piece comment (h.break ++ t) rest (comment_all comment h.break h.as_comment) (break_lines h.break t rest h.ends k)) in
    subst (λ (l : List ℕ). Upto false l rest) (ap (λ l. white ++ l) (sym (append_assoc comment h.break t)) ∙ (sym (append_assoc white (comment ++ h.break) t) ∙ ap (λ l. l ++ t) (sym h.spelled))) own

pub tail_lines : (tail rest : List ℕ) → IsTail tail rest → Upto false (tail ++ rest) rest
tail_lines tail rest h = end_lines h.white h.comment tail rest rest h.line (upto_none true rest)

-- ---- gaps

end_no_marker : (white comment p t : List ℕ) → IsLineEnd white comment p t → is_empty p ≡ false → is_marker (p ++ t) ≡ false
end_no_marker (b ∷ white) comment p t h some = subst (λ (l : List ℕ). is_marker (l ++ t) ≡ false) (sym h.spelled) (space_no_marker b _ (rw h.blank.0 refl))
end_no_marker [] (b ∷ comment) p t h some = subst (λ (l : List ℕ). is_marker (l ++ t) ≡ false) (sym h.spelled) (no_marker_byte b _ (ap (λ (n : ℕ). eqb n 45) h.as_comment.0) (ap (λ (n : ℕ). eqb n 46) h.as_comment.0))
end_no_marker [] [] p t h some = search (rules, space_no_marker, no_marker_byte, ⊎_elim, false≢true, or_right, and_parts, and_from, or_cases)

gap_all : (ls : List (List ℕ)) (t rest : List ℕ) → AreGapLines ls t → Upto true t rest → Upto true (joined ls ++ t) rest
gap_all [] t rest h k = k
gap_all (l ∷ ls) t rest h k =
    let more = gap_all ls t rest h.1 k in
    let own = upto_line true (l ++ (joined ls ++ t)) rest (end_no_marker h.0.white h.0.comment l (joined ls ++ t) h.0.line h.0.some) (end_lines h.0.white h.0.comment l (joined ls ++ t) rest h.0.line more) in
    subst (λ (p : List ℕ). Upto true p rest) (sym (append_assoc l (joined ls) t)) own

pub gap_lines : (gap t rest : List ℕ) → IsGap gap t → Upto true t rest → Upto true (gap ++ t) rest
gap_lines gap t rest h k = subst (λ (l : List ℕ). Upto true (l ++ t) rest) (sym h.spelled) (gap_all h.lines t rest h.each k)

-- ---- block scalars

digit_all : (d : Option ℕ) → IsDigit d → NoFeed (digit_text d)
digit_all None h = tt
digit_all (Some d) h = (ne_eqb (48 + d) 10 (λ e. omega (arith, e)), tt)

sign_all : (c : Chomping) → NoFeed (sign_text c)
sign_all c = search rules

pub both_all : (p q : List ℕ) → NoFeed p → NoFeed q → NoFeed (p ++ q)
both_all [] q h k = k
both_all (b ∷ p) q h k = (h.0, both_all p q h.1 k)

indicators_all : (digit : Option ℕ) (chomping : Chomping) (p : List ℕ) → IsIndicators digit chomping p → NoFeed p
indicators_all digit chomping p h = ⊎_elim {0, 0, 0}
    (λ (e : p ≡ digit_text digit ++ sign_text chomping). subst NoFeed (sym e) (both_all (digit_text digit) (sign_text chomping) (digit_all digit h.small) (sign_all chomping)))
    (λ (e : p ≡ sign_text chomping ++ digit_text digit). subst NoFeed (sym e) (both_all (sign_text chomping) (digit_text digit) (sign_all chomping) (digit_all digit h.small)))
    h.spelled

detected_some : (least : ℕ) (f : TextIndent) (ls : List (List ℕ)) → IsDetected least f ls → least ≤ f.columns
detected_some least f [] h = omega (arith, ap (λ (x : TextIndent). x.columns) h)
detected_some least f (l ∷ ls) h = ⊎_elim {0, 0, 0}
    (λ a. detected_some least f ls a.2)
    (λ a. omega (arith, ap (λ (x : TextIndent). x.columns) a.1, a.2))
    h

indent_some : (least : ℕ) (digit : Option ℕ) (f : TextIndent) (ls : List (List ℕ)) → IsDigit digit → IsTextIndent least digit f ls → least ≤ f.columns
indent_some least None f ls small h = detected_some least f ls h
indent_some least (Some d) f ls small h = omega (arith, small.0, ap (λ (x : TextIndent). x.columns) h)

-- a line of a block scalar begins with a space or a break
raw_no_marker : (f : TextIndent) (l t : List ℕ) → 1 ≤ f.columns → IsRawLine f l → is_marker (l ++ t) ≡ false
unfolding is_line
raw_no_marker f [] t some h = absurd (false≢true h.0)
raw_no_marker f (b ∷ l) t some h = search (rules, false≢true, no_marker_byte, ⊎_elim, and_parts, leb-true, eqb-true, cases_Bool)

raw_lines : (f : TextIndent) (ls : List (List ℕ)) (rest : List ℕ) → 1 ≤ f.columns → AreRaw f ls → Upto true (joined ls ++ rest) rest
raw_lines f [] rest some h = upto_none true rest
raw_lines f (l ∷ ls) rest some h =
    let more = raw_lines f ls rest some h.1 in
    let own = upto_line true (l ++ (joined ls ++ rest)) rest (raw_no_marker f l (joined ls ++ rest) some h.0) (line_lines l (joined ls ++ rest) rest h.0.0 more) in
    subst (λ (p : List ℕ). Upto true p rest) (sym (append_assoc l (joined ls) rest)) own

mark_byte : (s : BlockStyle) → is_feed (style_indicator s) ≡ false
mark_byte styles.Literal = refl
mark_byte styles.Folded = refl

block_lines : (least : ℕ) (b : BlockText) (rest : List ℕ) → 1 ≤ least → IsBlock least b rest → Upto false (block_text b rest) rest
block_lines least b rest some h =
    let deep = indent_some least b.digit b.indent b.raw h.indicators.small h.indent in
    upto_byte (style_indicator b.style) (b.indicators ++ (b.tail ++ (joined b.raw ++ rest))) rest (mark_byte b.style)
    (upto_piece b.indicators (b.tail ++ (joined b.raw ++ rest)) rest (indicators_all b.digit b.chomping b.indicators h.indicators)
    (line_lines b.tail (joined b.raw ++ rest) rest (and_parts (is_line b.tail) _ h.tail).0 (raw_lines b.indent b.raw rest (omega (arith, some, deep)) h.lines)))

-- ---- rows

anchor_lines : (a : Option Anchor) (t rest : List ℕ) → IsAnchor a t → Upto false t rest → Upto false (anchor_text a t) rest
anchor_lines None t rest h k = k
anchor_lines (Some a) t rest h k = upto_byte 38 (a.name ++ (a.gap ++ t)) rest refl (upto_piece a.name (a.gap ++ t) rest (name_no_feed a.name (a.gap ++ t) h.0.inside) (upto_piece a.gap t rest (white_all a.gap h.1) k))

deep_mark : (m : RowMark) (c : Content) (column : ℕ) (rest : List ℕ) → IsMark m c rest → may_be_alone c ≡ false → 1 ≤ deeper (parent_of m column)
deep_mark m c column rest h1 h2 = search (rules, false≢true)

content_lines : (m : RowMark) (c : Content) (column : ℕ) (rest : List ℕ) → IsMark m c rest → IsContent (parent_of m column) c rest → Upto false (content_text c rest) rest
content_lines m (Nothing tail) column rest mark h = tail_lines tail rest h
content_lines m (Inline space node tail) column rest mark h = upto_piece space (node_text node (tail ++ rest)) rest (white_all space h.0) (node_lines false _ _ node (tail ++ rest) rest h.1.valid (tail_lines tail rest h.2))
content_lines m (rows.Block space anchor block) column rest mark h =
    upto_piece space (anchor_text anchor (block_text block rest)) rest (white_all space h.0)
    (anchor_lines anchor (block_text block rest) rest h.1 (block_lines (deeper (parent_of m column)) block rest (deep_mark m (rows.Block space anchor block) column rest mark refl) h.2))

mark_lines : (m : RowMark) (c : Content) (rest : List ℕ) → IsMark m c rest → Upto false (content_text c rest) rest → Upto false (mark_text m (content_text c rest)) rest
mark_lines Bare c rest h k = k
mark_lines Dash c rest h k = upto_byte 45 (content_text c rest) rest refl k
mark_lines (Key key colon) c rest h k =
    let t = content_text c rest in
    let own = upto_piece h.colon_is.white (58 ∷ t) rest (white_all h.colon_is.white h.colon_is.blank) (upto_byte 58 t rest refl k) in
    scalar_lines false None key (colon ++ t) rest h.scalar (subst (λ (l : List ℕ). Upto false l rest) (sym (append_assoc h.colon_is.white (58 ∷ []) t) ∙ ap (λ l. l ++ t) (sym h.colon_is.spelled)) own)

spaces_all : (n : ℕ) → NoFeed (replicate n 32)
spaces_all zero = tt
spaces_all (suc n) = (refl, spaces_all n)

dashes_lines : (ns : List ℕ) (t rest : List ℕ) → Upto false t rest → Upto false (dashes_text ns t) rest
dashes_lines [] t rest k = k
dashes_lines (n ∷ ns) t rest k = upto_byte 45 (replicate n 32 ++ dashes_text ns t) rest refl (upto_piece (replicate n 32) (dashes_text ns t) rest (spaces_all n) (dashes_lines ns t rest k))

indent_lines : (n : ℕ) (t rest : List ℕ) → (eqb n 0 && is_marker t) ≡ false → Upto false t rest → Upto true (replicate n 32 ++ t) rest
indent_lines zero t rest h k = upto_line true t rest h k
indent_lines (suc n) t rest h k = upto_line true (32 ∷ (replicate n 32 ++ t)) rest (no_marker_byte 32 (replicate n 32 ++ t) refl refl) (upto_byte 32 (replicate n 32 ++ t) rest refl (upto_piece (replicate n 32) t rest (spaces_all n) k))

pub row_lines : (limit : Limit) (r : Row) (rest : List ℕ) → IsRow limit r rest → Upto true (print_row r rest) rest
row_lines limit r rest h =
    let content = content_lines r.mark r.content (mark_column r) rest h.mark h.content in
    let indent = dashes_lines r.dashes (mark_text r.mark (content_text r.content rest)) rest (mark_lines r.mark r.content rest h.mark content) in
    gap_lines r.gap (following_gap r rest) rest h.gap (indent_lines r.column (after_indent r rest) rest h.unmarked indent)

-- a marker's line is one line
pub marker_lines : (p rest : List ℕ) → IsMarkerLine p rest → Upto false (p ++ rest) rest
marker_lines p rest h = go p h.marker h.long h.tail where
  go : (p : List ℕ) → is_marker (p ++ rest) ≡ true → 3 ≤ length p → IsTail (drop 3 p) rest → Upto false (p ++ rest) rest
  go [] m long tail = absurd (omega (arith, long))
  go (a ∷ []) m long tail = absurd (omega (arith, long))
  go (a ∷ (b ∷ [])) m long tail = absurd (omega (arith, long))
  go (a ∷ (b ∷ (c ∷ p))) m long tail =
      let more = tail_lines p rest tail in
      let all : (x y z : ℕ) → is_feed x ≡ false → is_feed y ≡ false → is_feed z ≡ false → Upto false (x ∷ (y ∷ (z ∷ (p ++ rest)))) rest = λ x y z e f g. upto_byte x _ rest e (upto_byte y _ rest f (upto_byte z _ rest g more)) in
      ⊎_elim {0, 0, 0}
      (λ e. all a b c (ap is_feed e.0) (ap is_feed e.1) (ap is_feed e.2))
      (λ e. all a b c (ap is_feed e.0) (ap is_feed e.1) (ap is_feed e.2))
      (marker_byte a b c (p ++ rest) m)
