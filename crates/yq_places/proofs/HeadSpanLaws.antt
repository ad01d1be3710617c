-- The heads of rows, and what is in flow in them, go from one whole character to another.
use Rattle.std.proofs.Common.{◌≡◌, ℕ, ◌+◌, ◌-◌, ◌<◌, List, [], ◌∷◌, ◌++◌, length, Option, Some, Bool, true, false, refl, sym, ap, ◌∙◌}
use Rattle.std.{proofs.Common.{subst, arith, append_assoc, length-append, inl, rules}, proofs.Math.Seq.drop-append_seam}
use Rattle.std.{proofs.lemmas.Bool.{false≢true, and_parts}, specs.List.slice_get, specs.Str.{IsUtf8, IsCharBoundary}}
use Rattle.yq_core.{proofs.LineLaws.is_empty_is, specs.declared.block_header.BlockStyle.BlockStyle, specs.Block.style_indicator}
use Rattle.yq_core.{specs.Entries.end_of, specs.Inline.IsInlineAt, specs.Nodes.{FlowNode, node_text, IsFlowNode}}
use Rattle.yq_core.{specs.Places.{Placed, placed, anchored_node, locate}, specs.Spans.{IsSpan, HasSpans}}
use Rattle.yq_core.{proofs.NodeAgain.{is_anchored, takes_unanchored}, proofs.SpanLaws.inline_spans, proofs.NodesWrittenLaws.node_then}
use Rattle.yq_core.{proofs.EditPlaces.end_placed, specs.Piece.deeper}
use Rattle.yq_row_table.specs.Exchange.{before_content, after_row, with_content, allows_first}
use Rattle.yq_row_table.specs.Grammar.{IsContent, AreDashes, is_entry, IsCut, unlimited, limit_after}
use Rattle.yq_row_table.specs.Rows.{RowMark, Content, Inline, Block, mark_text, dashes_text, Row, parent_indent, Cut, cut_text}
use Rattle.yq_row_table.specs.View.{Slices, anchor_cut, content_cut, slices, rows_of}
use Rattle.yq_row_table.{proofs.NodePieces.{BeginsAscii, tail_ascii, before_ascii, node_pieces}, proofs.PlaceLaws.{place, row_in}}
use Rattle.yq_documents.specs.RowReading.{from_head}
use Rattle.yq_places.{specs.CommentReading.before_tail, specs.EntryReading.{before_line, head_extent}}
use Rattle.yq_places.proofs.CommentPieceLaws.{Ended, content_end, tail_place}
use Rattle.yq_places.proofs.SeamLaws.{seam_boundary, ended_seam, ended_after, raw_end, last_ended, line_boundary}
use Rattle.yq_places.proofs.StartLaws.{front_in}
use Rattle.yq_core.specs.declared.style.Place.TheVariants as places
use Rattle.yq_row_table.specs.Rows as rows

-- where a node with its places begins, after its anchor too, and where it ends
abbrev core_of : Placed → ℕ
core_of (placed a s c e f) = c

anchor_core : (n : List ℕ) (start : ℕ) (p : Placed) → core_of (anchored_node n start p) ≡ core_of p
anchor_core n start (placed a s c e f) = refl

unnamed_core : (total : ℕ) (node : FlowNode) (rest : List ℕ) → is_anchored node ≡ false → core_of (locate total node rest) ≡ total - length (node_text node [] ++ rest)
unfolding locate
unnamed_core total node rest h1 = search (rules, node_then, false≢true)

node_core : (flow : Bool) (spaces : Option ℕ) (d total : ℕ) (node : FlowNode) (rest : List ℕ) → IsFlowNode flow spaces d node rest → core_of (locate total node rest) ≡ total - length ((anchor_cut node).2 ++ rest)
unfolding locate IsFlowNode node_text
node_core flow spaces d total node rest h1 = search (rules, unnamed_core, anchor_core, takes_unanchored)

core_span : (t : List ℕ) (p : Placed) → HasSpans t p → IsSpan t (core_of p) (end_of p)
core_span t (placed a s c e f) h = h.1

-- where a row's inline node begins, with its anchor
bare_front : (ns : List ℕ) (m : RowMark) → is_entry m ≡ false → AreDashes ns m → dashes_text ns (mark_text m []) ≡ []
bare_front [] rows.Bare e h = refl
bare_front (n ∷ ns) m e h = absurd (false≢true (sym e ∙ h.1))
bare_front [] x e h = absurd (false≢true (sym e))

pub mark_ascii : (style : BlockStyle) → style_indicator style < 128
mark_ascii style = search rules

regroup : (a b c d e x : List ℕ) → (a ++ (b ++ (c ++ (d ++ e)))) ++ x ≡ (a ++ (b ++ (c ++ d))) ++ (e ++ x)
regroup a b c d e x = simp append_assoc refl

-- the text of a cut round the head of a row
pub head_text : (c : Cut) (i : ℕ) (r : Row) → slice_get (rows_of c) i ≡ Some r → cut_text c ≡ (before_content i c ++ ((slices r).space ++ ((slices r).anchor ++ (slices r).apart))) ++ from_head (slices r) (after_row i c)
head_text c i r is = tail_place c i r is ∙ regroup (before_content i c) (slices r).space (slices r).anchor (slices r).apart (slices r).head ((slices r).tail ++ ((slices r).raw ++ after_row i c))

grouped : (a b c d : List ℕ) → a ++ (b ++ (c ++ d)) ≡ (a ++ (b ++ (c ++ []))) ++ d
grouped a b c d = simp append_assoc refl

-- a row and its content
module _ (c : Cut) (i : ℕ) (r : Row) (u : IsUtf8 (cut_text c)) (cut : IsCut (cut_text c) c) (is : slice_get (rows_of c) i ≡ Some r) where
  holds : IsContent (parent_indent r) r.content (after_row i c)
  holds = (row_in c i true r cut.parts is).row.content

  node_boundary : (space : List ℕ) (node : FlowNode) (tail : List ℕ) → r.content ≡ Inline space node tail → (b : Bool) → is_entry r.mark ≡ b → IsCharBoundary (cut_text c) (length (before_content i c ++ space))
  node_boundary space node tail content true entry = (node_pieces (cut_text c) c i r space node tail cut u is content (inl entry)).start
  node_boundary space node tail content false alone =
      let row = (row_in c i true r cut.parts is).row in
      let none : space ≡ [] = search (rules, is_empty_is, and_parts, false≢true) in
      let same : length (before_line i 0 r c) ≡ length (before_content i c ++ space) =
      omega (arith, front_in i c r is, length-append {A = ℕ}, ap length none, ap length (bare_front r.dashes r.mark alone row.dashes)) in
      subst (IsCharBoundary (cut_text c)) same (line_boundary c i 0 r u cut.parts is)

  pub node_spans : (space : List ℕ) (node : FlowNode) (tail : List ℕ) → r.content ≡ Inline space node tail → HasSpans (cut_text c) (locate (length (cut_text c)) node (tail ++ after_row i c))
  node_spans space node tail content =
      let before : List ℕ = before_content i c ++ space in
      let rest : List ℕ = tail ++ after_row i c in
      let whole : cut_text c ≡ before ++ node_text node rest = cc (place c i r is, append_assoc (before_content i c) space (node_text node rest)) in
      let at : IsInlineAt places.Block (parent_indent r) 0 (length before) (cut_text c) (locate (length (cut_text c)) node rest) =
      search (rules, rest, before, whole, drop-append_seam, content, holds) in
      inline_spans places.Block (parent_indent r) 0 (length before) (cut_text c) (locate (length (cut_text c)) node rest) at u (node_boundary space node tail content (is_entry r.mark) refl)

  -- the head of a row
  abbrev start : ℕ
  start = length (before_content i c ++ ((slices r).space ++ ((slices r).anchor ++ (slices r).apart)))

  start_text : cut_text c ≡ (before_content i c ++ ((slices r).space ++ ((slices r).anchor ++ (slices r).apart))) ++ from_head (slices r) (after_row i c)
  start_text = head_text c i r is

  start_ascii : BeginsAscii ((slices r).head ++ ((slices r).tail ++ ((slices r).raw ++ after_row i c))) → IsCharBoundary (cut_text c) start
  start_ascii h = search (rules, start_text, before_ascii)

  tail_length : length (before_tail i r c) ≡ start + length (slices r).head
  tail_length = search (rules, length-append)

  raw_boundary : IsCharBoundary (cut_text c) (start + length (slices r).head + length (slices r).tail + length (slices r).raw)
  raw_boundary =
      let s : Slices = slices r in
      let before : List ℕ = before_tail i r c in
      let last : List ℕ = s.tail ++ (s.raw ++ []) in
      let ended : Ended last (after_row i c) = last_ended s.tail s.raw (after_row i c) (content_end (parent_indent r) r.content (after_row i c) holds) (raw_end (parent_indent r) r.content (after_row i c) holds) in
      let whole : cut_text c ≡ (before ++ last) ++ after_row i c = tail_place c i r is ∙ grouped before s.tail s.raw (after_row i c) in
      subst (IsCharBoundary (cut_text c)) (omega (arith, tail_length, length-append before last, length-append s.tail (s.raw ++ []), length-append s.raw []))
      (subst (λ (q : List ℕ). IsCharBoundary q (length (before ++ last))) (sym whole)
      (seam_boundary (before ++ last) (after_row i c) (subst IsUtf8 whole u)
      (ended_seam (before ++ last) (after_row i c) (ended_after before last (after_row i c) ended))))

  inline_span : (space : List ℕ) (node : FlowNode) (tail : List ℕ) → r.content ≡ Inline space node tail → IsSpan (cut_text c) start (start + length (slices r).head)
  inline_span space node tail content =
      let s : Slices = slices r in
      let total : ℕ = length (cut_text c) in
      let rest : List ℕ = tail ++ after_row i c in
      let p : Placed = locate total node rest in
      let valid = (subst (λ (x : Content). IsContent (parent_indent r) x (after_row i c)) content holds).1.valid in
      let head : length s.head ≡ length (anchor_cut node).2 = ap (λ (x : Content). length (content_cut x).3) content in
      let size : total ≡ start + length s.head + length rest =
      omega (
        arith,
        tail_length,
        ap length (tail_place c i r is),
        length-append (before_tail i r c) (s.tail ++ (s.raw ++ after_row i c)),
        ap (λ (x : Content). length ((content_cut x).4 ++ ((content_cut x).5 ++ after_row i c))) content,
      ) in
      let from : core_of p ≡ start = omega (arith, size, head, node_core _ _ _ total node rest valid, length-append (anchor_cut node).2 rest) in
      let to : end_of p ≡ start + length s.head = omega (arith, size, end_placed total node rest) in
      subst (IsSpan (cut_text c) start) to (subst (λ (n : ℕ). IsSpan (cut_text c) n (end_of p)) from (core_span (cut_text c) p (node_spans space node tail content)))

  pub head_span : IsSpan (cut_text c) (head_extent i r c).0 (head_extent i r c).1
  head_span = go r.content refl
    where
      go : (x : Content) → r.content ≡ x → IsSpan (cut_text c) (head_extent i r c).0 (head_extent i r c).1
      go x h1 = search (rules, start_ascii, tail_ascii, holds, inline_span, mark_ascii, raw_boundary)

-- ---- rows that may follow a row with another inline node

pub free_first : (rs : List Row) → allows_first unlimited rs ≡ true
free_first rs = search rules

pub may_follow : (r : Row) (space : List ℕ) (new : FlowNode) (tail : List ℕ) (rs : List Row) →
    allows_first (record { column = Some (deeper (parent_indent r)) }) rs ≡ true →
    allows_first (limit_after (with_content (Inline space new tail) r)) rs ≡ true
may_follow r space new tail rs h = search rules
