-- The rows in which a value is written as a root.
use Rattle.std.proofs.Common.{◌≡◌, ℕ, suc, ◌<◌, ◌≤◌, true, false, List, [], ◌∷◌, ◌++◌, replicate, Option, Some, None, refl, sym, ap, ◌∙◌}
use Rattle.std.{proofs.Common.{subst, arith, rules, append-nil, length}, proofs.Math.Bool.and-false, proofs.lemmas.Bool.false≢true}
use Rattle.std.{proofs.lemmas.List.length-append, specs.List.slice_get}
use Rattle.yq_core.{specs.Paths.within, specs.Plain.ends_plain, specs.Text.{is_empty, separates}, specs.Tree.Node, specs.Nodes.node_text}
use Rattle.yq_core.proofs.NodesWrittenLaws.{node_then}
use Rattle.yq_flow_edits.specs.Valued.{IsValueTree}
use Rattle.yq_outline.{specs.LineAnchors.HaveOneAnchorEach, specs.Comments.{head_comment, line_comment}}
use Rattle.yq_outline.{specs.Outline.{Line, level, Outline, end, row, flatten, IsEven, IsLocatedAt, value}, proofs.ByRules.rules_give}
use Rattle.yq_outline.{proofs.NodeLaws.anchored_none, specs.Lines.{mark_line, lines_from, lines_of_rows}}
use Rattle.yq_row_table.{specs.Gap.IsGap, specs.Grammar.{is_entry, IsTail, IsRow, unlimited, AreRows, no_rows, ends_part}}
use Rattle.yq_row_table.specs.Rows.{Bare, Inline, Row, following_gap, rows_text, Cut, Part, cut_text, part_text}
use Rattle.yq_row_table.{specs.Splices.{with_first_gap, with_row_gap, first_gap}, proofs.PlainEnds.{tail_ends, gap_line}}
use Rattle.yq_row_table.{proofs.seams.FrontSeams.after_row_some, proofs.seams.SeamLaws.part_line, specs.Items.{end_item, rows_items, Item}}
use Rattle.yq_documents.{specs.Documents.{HaveFitKeys, HasShortRoot, is_long_plain, document_parts}, specs.TreeEdits.headed}
use Rattle.yq_edit_rules.{specs.declared.layout.Layout.Layout, specs.BlockRows.{inline_of, node_rows}, specs.BlockText.block_node}
use Rattle.yq_edit_rules.{specs.BlockValues.{HasNearKeys, IsFilled, level_at}, proofs.FitLaws.{RowsAreFit, anchors_fit, keys_fit, node_fit}}
use Rattle.yq_edit_rules.{proofs.LaidRows.{AreLaid, laid_rows, no_gap_here}, proofs.BlockLineLaws.{node_is_there, node_begun}}
use Rattle.yq_edit_rules.{proofs.RowLaws.value_laid, proofs.TextLaws.node_spelled, specs.Edited.with_lead, specs.InlineRows.IsValueNode}
use Rattle.yq_edit_rules.{specs.Siblings.HasEntries, proofs.ContentLaws.{free_alone, alone_even, alone_value}}
use Rattle.yq_edit_rules.{proofs.EditedLaws.lead_is_above, proofs.NodeLineLaws.low_level, proofs.AppendEntryLaws.rows_gap}
use Rattle.yq_edit_rules.{specs.Changed.put_document, specs.DocumentRows.after_document, specs.Replaces.rooted}
use Rattle.yq_edit_rules.{specs.Local.{InFirst, IsLocal}, proofs.ItemsLocal.rows_last, proofs.LocalLaws.{above_is, h}}
use Rattle.yq_edit_rules.proofs.DocumentItemLaws.{rows_before}
use Rattle.yq_text.specs.Script.{Segment, kept_front, kept_back}
use Rattle.yq_core.specs.Nodes as inline
use Rattle.yq_outline.specs.Outline as outline
use Rattle.yq_row_table.specs.Rows as rows

-- a row with an inline node alone
abbrev pub lone_row : (gap : List ℕ) → ℕ → inline.FlowNode → (end : List ℕ) → Row
lone_row gap column node last = record { gap = gap; column = column; dashes = []; mark = Bare; content = Inline [] node last }

-- a value at a column after a gap: on a row alone, or in the rows of block style
abbrev pub rows_or : Option inline.FlowNode → (gap : List ℕ) → ℕ → List ℕ → List Row → List Row
rows_or None gap column last rs = with_first_gap gap rs
rows_or (Some node) gap column last rs = lone_row gap column node last ∷ []

abbrev pub root_rows : Layout → (gap : List ℕ) → ℕ → List ℕ → Node → List Row
root_rows l gap column last v = rows_or (inline_of v) gap column last (node_rows l column last v)

-- Rows may come after a gap, and end a line before another gap and the end of a part.
pub record HasRoom (gap last back rest : List ℕ) : Type 0 where
  pub front : (x : List ℕ) → is_empty x ≡ false → IsGap gap x
  pub tail : IsTail last (back ++ rest)
  pub apart : separates (last ++ (back ++ rest)) ≡ true
  pub uncommented : line_comment last ≡ None
  pub back_is : IsGap back rest
  pub ends : ends_part rest ≡ true

-- Rows are those of a root under the comment that ends the gap before them.
pub record AreRootRows (v : Node) (gap : List ℕ) (text : List ℕ) (rs : List Row) (back rest : List ℕ) : Type 0 where
  pub some : no_rows rs ≡ false
  pub rows : AreRows unlimited rs back rest
  pub spelled : rows_text rs (back ++ rest) ≡ gap ++ text
  pub keys : HaveFitKeys rs
  pub short : HasShortRoot rs
  pub first : first_gap rs [] ≡ gap
  pub level : ℕ
  pub deep : 0 < level
  pub lines : Outline
  pub even : IsEven level lines
  pub value_is : value lines ≡ within (headed (head_comment gap)) v
  pub lines_are : lines_of_rows rs ≡ flatten lines
  pub anchors : HaveOneAnchorEach (flatten lines)

module _ (v : Node) (l : Layout) (gap : List ℕ) (column : ℕ) (last back rest : List ℕ) (step : 1 ≤ l.mapping) (tree_is : IsValueTree v) (room : HasRoom gap last back rest) where
  plain : (d : ℕ) → ends_plain false (Some d) (last ++ (back ++ rest)) ≡ true
  plain d = tail_ends d room.tail.white room.tail.comment last (back ++ rest) room.tail.line room.tail.apart (gap_line d back rest room.back_is (part_line d rest room.ends))

  -- ---- in block style

  module _ (filled : IsFilled v) (near : HasNearKeys v) where
    abbrev old : List Row
    old = node_rows l column last v

    laid : AreLaid column old (back ++ rest)
    laid = value_laid v l column last (back ++ rest) (record { rows = record { filled = filled; value = tree_is }; near = near; ends = record { tail = room.tail; plain = plain (suc column) } })

    is_located : IsLocatedAt (lines_of_rows old) v (level_at column v)
    is_located = rules_give (level_at column v) (lines_of_rows old) v (node_is_there v l column last step filled tree_is room.uncommented)

    abbrev above : List (List ℕ)
    above = head_comment gap

    -- the first line under a comment
    abbrev first_led : List (List ℕ) → List Line → List Line
    first_led c [] = []
    first_led c (x ∷ xs) = record x { head_comment = c } ∷ xs

    led_row : (c d : List (List ℕ)) (k : ℕ) (ns : List ℕ) (m : rows.RowMark) (x : rows.Content) (more : List Line) → lines_from c k ns m x ++ more ≡ first_led c (lines_from d k ns m x ++ more)
    led_row c d k [] m x more = refl
    led_row c d k (n ∷ ns) m x more = refl

    led_outline : (c : List (List ℕ)) (o : Outline) → flatten (with_lead c o) ≡ first_led c (flatten o)
    led_outline c o = search rules

    entries : (o : Outline) → flatten o ≡ lines_of_rows old → IsEven (level_at column v) o → HasEntries o
    unfolding level
    entries end is even = absurd (none old laid (sym is))
      where
        none : (rs : List Row) → AreLaid column rs (back ++ rest) → lines_of_rows rs ≡ [] → ⊥
        none [] h e = h
        none (r ∷ rs) h e = go r.dashes e
          where
            go : (ns : List ℕ) → lines_from (head_comment r.gap) r.column ns r.mark r.content ++ lines_of_rows rs ≡ [] → ⊥
            go [] e = cc
            go (n ∷ ns) e = cc
    entries (row x u a) is even = search (rules, arith)

    laid_first : (rs : List Row) → AreLaid column rs (back ++ rest) → AreRows unlimited rs [] (back ++ rest) → (o : Outline) → flatten o ≡ lines_of_rows rs → IsEven (level_at column v) o → HasEntries o → value o ≡ v → RowsAreFit rs →
        rows_text rs (back ++ rest) ≡ replicate column 32 ++ (block_node l column v ++ (last ++ (back ++ rest))) →
        AreRootRows v gap (replicate column 32 ++ (block_node l column v ++ (last ++ (back ++ rest)))) (with_first_gap gap rs) back rest
    laid_first [] h are o is even block same fit text = absurd h
    laid_first (r ∷ rs) h are o is even block same fit text =
        let after : List ℕ = rows_text rs (back ++ rest) in
        let new : Row = with_row_gap gap r in
        let w = lead_is_above above (level_at column v) o block even in
        let all : AreRows unlimited (r ∷ rs) back rest = rows_gap unlimited (r ∷ rs) back rest are room.back_is in
        let whole : rows_text (r ∷ rs) (back ++ rest) ≡ following_gap r after = ap (λ g. g ++ following_gap r after) h.gap in
        record {
          some = refl;
          rows = (
            record {
              gap = room.front (following_gap r after) (after_row_some unlimited r after all.0);
              allowed = refl;
              unmarked = all.0.unmarked;
              dashes = all.0.dashes;
              mark = all.0.mark;
              content = all.0.content;
            },
            all.1,
          );
          spelled = ap (λ t. gap ++ t) (sym whole ∙ text);
          keys = keys_fit (new ∷ rs) (fit.0, fit.1);
          short = entry_short r.mark r.content h.entry;
          first = refl;
          level = level_at column v;
          deep = search (rules, filled);
          lines = with_lead above o;
          even = w.0;
          value_is = w.1 ∙ ap (within (headed above)) same;
          lines_are = led_row above (head_comment r.gap) r.column r.dashes r.mark r.content (lines_of_rows rs) ∙ (ap (first_led above) (sym is) ∙ sym (led_outline above o));
          anchors = led_anchors o (subst HaveOneAnchorEach (sym is) (anchors_fit (r ∷ rs) fit));
        }
      where
        entry_short : (mark : rows.RowMark) (c : rows.Content) → is_entry mark ≡ true → is_long_plain mark c ≡ false
        entry_short rows.Bare c h = absurd (false≢true h)
        entry_short _ c h = refl

        led_anchors : (o : Outline) → HaveOneAnchorEach (flatten o) → HaveOneAnchorEach (flatten (with_lead above o))
        led_anchors end h = h
        led_anchors (row x u a) h = h

    pub block_root_rows : AreRootRows v gap (replicate column 32 ++ (block_node l column v ++ (last ++ (back ++ rest)))) (with_first_gap gap (node_rows l column last v)) back rest
    block_root_rows =
        laid_first old laid (laid_rows column old (back ++ rest) unlimited laid refl) is_located.outline is_located.lines_are is_located.even
        (entries is_located.outline is_located.lines_are is_located.even) is_located.node_is (node_fit v l column last tree_is)
        (node_spelled v l column last (back ++ rest) filled tree_is)

  -- ---- on a row alone

  module _ (node : inline.FlowNode) (is : IsValueNode v node) (flat : (c : List (List ℕ)) → within (headed c) v ≡ v) where
    abbrev lone : Row
    lone = lone_row gap column node last

    abbrev line : Line
    line = mark_line (head_comment gap) column Bare (Inline [] node last)

    row_is : (g : List ℕ) → IsGap g (following_gap (lone_row g column node last) (back ++ rest)) → IsRow unlimited (lone_row g column node last) (back ++ rest)
    row_is g h = search (rules, and-false, plain)

    pub lone_root_rows : AreRootRows v gap (replicate column 32 ++ (node_text node [] ++ (last ++ (back ++ rest)))) (lone ∷ []) back rest
    lone_root_rows = record {
      some = refl;
      rows = (row_is gap (room.front _ (after_row_some unlimited (lone_row [] column node last) (back ++ rest) (row_is [] (no_gap_here _)))), room.back_is);
      spelled = ap (λ t. gap ++ (replicate column 32 ++ t)) (node_then node (last ++ (back ++ rest)));
      keys = (tt, is.keys, tt);
      short = line_short;
      first = refl;
      level = level line;
      deep = low_level line;
      lines = row line end end;
      even = alone_even line (level line) v refl refl is.head;
      value_is = alone_value line refl ∙ ((λ i. outline.anchored (is.unnamed i) (outline.head_or (is.head i) outline.null_node)) ∙ (anchored_none v ∙ sym (flat (head_comment gap))));
      lines_are = refl;
      anchors = (free_alone line.anchor, tt);
    }
      where
        line_short : is_long_plain Bare (Inline [] node last) ≡ false
        line_short = search (rules, false≢true)

-- ---- rows of a root come in the place of others, or after the gap of a document that has none: which items they exchange

-- ---- the first row

lone_first : (gap : List ℕ) (column : ℕ) (node : inline.FlowNode) (last : List ℕ) → InFirst (gap ++ replicate column 32) (rows_items (lone_row gap column node last ∷ []) [])
lone_first gap column node last = search (rules, arith, length-append, lone_row)

pub root_first : (v : Node) (l : Layout) (gap : List ℕ) (column : ℕ) (last : List ℕ) → IsValueTree v → InFirst (gap ++ replicate column 32) (rows_items (root_rows l gap column last v) [])
root_first v l gap column last h1 = search (rules, h, lone_first, length-append, node_begun)

-- bytes that begin its gap
gap_first : (rs : List Row) (xs : List Item) (g u : List ℕ) → no_rows rs ≡ false → first_gap rs [] ≡ g ++ u → InFirst g (rows_items rs xs)
gap_first [] xs g u some e = absurd (false≢true (sym some))
gap_first (r ∷ rs) xs g u some e = omega (arith, ap length e, length-append g u, length-append r.gap (following_gap r []))

-- ---- a document without rows

-- Rows come where a document has none, and the gap at its end ends up in front of them.
pub gap_moves : (n : ℕ) (c : Cut) (p : Part) (there : slice_get (document_parts c) n ≡ Some p) (start : List ℕ)
    (put : (x : Part) → cut_text (put_document n x c) ≡ start ++ part_text x (after_document n c)) (ss : List Segment) (rs : List Row)
    (u : List ℕ) → p.rows ≡ [] → no_rows rs ≡ false → first_gap rs [] ≡ p.end ++ u → kept_front ss ≡ start ++ p.end → kept_back ss ≡ after_document n c → IsLocal ss c (put_document n (rooted rs [] p) c)
gap_moves n c p there start put ss rs u none some gap before after =
    let k = h c n p there start put in
    record {
      front = k.above;
      gone = end_item p.end k.marker ∷ [];
      come = rows_items rs (end_item [] k.marker ∷ []);
      back = k.below;
      lead = p.end;
      trail = k.marker;
      old_are = k.old ∙ ap (λ xs. k.above ++ rows_items xs (end_item p.end k.marker ∷ k.below)) none;
      new_are = k.put (rooted rs [] p)
          ∙ ap (λ is. k.above ++ is) (ap (λ xs. rows_items xs (end_item [] k.marker ∷ k.below)) (append-nil rs) ∙ rows_before rs (end_item [] k.marker ∷ []) k.below);
      before_is = before ∙ sym (above_is c n p there start put p.end);
      following_is = after ∙ k.after;
      begins = (omega (arith, length-append p.end k.marker), gap_first rs (end_item [] k.marker ∷ []) p.end u some gap);
      ends = (omega (arith, length-append p.end k.marker), rows_last rs (end_item [] k.marker) k.marker (omega arith));
    }
