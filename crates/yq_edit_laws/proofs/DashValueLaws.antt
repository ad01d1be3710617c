-- A value in rows on the line of an item's dash.
use Rattle.std.proofs.Common.{◌≡◌, ℕ, ◌*◌, ◌+◌, ◌<◌, ◌≤◌, List, [], ◌∷◌, ◌++◌, None, sym, ap, ◌∙◌, subst, arith, append_assoc, rules}
use Rattle.std.{proofs.Common.replicate, proofs.lemmas.List.append_cancel_left}
use Rattle.yq_core.{specs.Paths.Step, specs.Tree.{Node, anchor_of}}
use Rattle.yq_outline.{specs.LineAnchors.HaveOneAnchorEach, specs.Comments.line_comment, specs.Outline.{level, IsLocatedAt}}
use Rattle.yq_outline.{specs.Places.content_under, proofs.ByRules.rules_give, specs.Lines.{lines_of_rows, tail_of}}
use Rattle.yq_row_table.specs.Exchange.{row_front}
use Rattle.yq_row_table.specs.Rows.{Nothing, Row, mark_column, rows_text, Cut, after_indent, dashes_text, mark_text}
use Rattle.yq_row_table.{specs.Items.rows_items, specs.Joined.compact_row, proofs.seams.JoinLaws.dashes_text-append}
use Rattle.yq_row_table.proofs.PlaceLaws.{dashes_then}
use Rattle.yq_edit_rules.{proofs.AppendEntryLaws.none_uncommented, specs.DocumentRows.after_document}
use Rattle.yq_edit_rules.{proofs.LineLaws.{above_mark, mark_after}, proofs.UnderLaws.{dashes_of, line_with}}
use Rattle.yq_edit_rules.{specs.declared.layout.Layout.Layout, specs.BlockPlaces.{compact_rows, Replaces}}
use Rattle.yq_edit_rules.{specs.BlockRows.{item_column, node_rows}, specs.BlockText.block_value}
use Rattle.yq_edit_rules.specs.BlockValues.{HasNearKeys, IsFilledValue, IsEnd, entry_level, level_at}
use Rattle.yq_edit_rules.proofs.FitLaws.{anchors_fit, keys_fit, node_fit}
use Rattle.yq_edit_rules.proofs.BlockLineLaws.{BeginAt, lines_deeper, node_begun, node_is_there}
use Rattle.yq_edit_rules.{proofs.PlaceLaws.{after_laid, compact_lines}, proofs.RowLaws.deeper_laid, proofs.TextLaws.value_spelled}
use Rattle.yq_edit_rules.{specs.Local.InFirst, proofs.ItemsLocal.first_within}
use Rattle.yq_edit_laws.{proofs.NodeValueLaws.upto_gap, proofs.NodeRowLaws.{NodeRows, limit, rest, rows_there}, proofs.NodeTaken.TakesNode}
use Rattle.yq_documents.specs.Documents.{HaveFitKeys}
use Rattle.yq_row_table.specs.Rows as rows

-- ---- a collection that begins on the line of a dash

-- the first of the rows after a dash
abbrev pub first_row : Row → List Row → Row
first_row row [] = row
first_row row (q ∷ qs) = compact_row 1 row q

abbrev pub more_rows : List Row → List Row
more_rows [] = []
more_rows (q ∷ qs) = qs

pub rows_are : (column : ℕ) (row : Row) (rs : List Row) → BeginAt column rs → compact_rows row rs ≡ first_row row rs ∷ more_rows rs
rows_are column row rs b = search rules

pub gap_same : (column : ℕ) (row : Row) (rs : List Row) → BeginAt column rs → (first_row row rs).gap ≡ row.gap
gap_same column row rs b = search rules

pub keys_same : (row : Row) (rs : List Row) → HaveFitKeys rs → HaveFitKeys (compact_rows row rs)
keys_same row rs h = search rules

-- their text
dash_front : (row : Row) (u : List ℕ) → row.mark ≡ rows.Dash → row.gap ++ (replicate row.column 32 ++ dashes_text row.dashes (45 ∷ u)) ≡ row_front row ++ u
dash_front row u is =
    let front : List ℕ = dashes_text row.dashes (45 ∷ []) in
    let own : row_front row ≡ row.gap ++ (replicate row.column 32 ++ front) = ap (λ m. row.gap ++ (replicate row.column 32 ++ dashes_text row.dashes (mark_text m []))) is in
    ap (λ l. row.gap ++ (replicate row.column 32 ++ l)) (dashes_then row.dashes (45 ∷ []) u)
    ∙ (ap (λ l. row.gap ++ l) (sym (append_assoc (replicate row.column 32) front u)) ∙ (sym (append_assoc row.gap (replicate row.column 32 ++ front) u) ∙ ap (λ l. l ++ u) (sym own)))

pub after_text : (column : ℕ) (row : Row) (rs : List Row) (u z : List ℕ) → BeginAt column rs → row.mark ≡ rows.Dash → rows_text rs z ≡ replicate column 32 ++ u → rows_text (compact_rows row rs) z ≡ row_front row ++ (32 ∷ u)
after_text column row rs u z h1 h2 h3 = search (rules, append_cancel_left, dashes_text-append, dash_front)

-- the first of them begins as the row does up to its dash
pub after_lead : (column : ℕ) (row : Row) (rs : List Row) → BeginAt column rs → row.mark ≡ rows.Dash → InFirst (row_front row) (rows_items (compact_rows row rs) [])
after_lead column row [] b is = absurd b
after_lead column row (q ∷ qs) b is =
    first_within _ (row_front row) (32 ∷ after_indent q []) (after_text column row (q ∷ []) (after_indent q []) [] b is (λ i. b.0 i ++ (replicate (b.1 i) 32 ++ after_indent q [])))

-- ---- a value in rows on the line of an item's dash

-- in the place of what comes after the dash, which has neither an anchor nor a comment: before an end of the line without a comment
module _ (doc : ℕ) (s : Step) (ss : List Step) (c : Cut) (h : NodeRows doc s ss c) (l : Layout) (step : 1 ≤ l.mapping) (v : Node) (filled : IsFilledValue v) (near_keys : HasNearKeys v) (last : List ℕ) (dash : h.mark.mark ≡ rows.Dash)
    (ends : IsEnd (mark_column h.mark) last (rest doc s ss c h)) (uncommented : line_comment last ≡ None) (none : line_comment (tail_of h.mark.content) ≡ None) (unnamed : anchor_of (content_under h.found.line h.found.under) ≡ None) where
  abbrev below : ℕ
  below = item_column (mark_column h.mark)

  abbrev rs : List Row
  rs = node_rows l (item_column (mark_column h.mark)) last v

  abbrev z : List ℕ
  z = rest doc s ss c h

  abbrev pub after_rows : List Row
  after_rows = compact_rows h.mark (node_rows l (item_column (mark_column h.mark)) last v)

  begun : BeginAt (item_column (mark_column h.mark)) (node_rows l (item_column (mark_column h.mark)) last v)
  begun = node_begun v l below last filled.filled filled.value

  replaces : Replaces (limit doc s ss c h) (mark_column h.mark) h.row (rows_text (h.under ++ h.back) (h.p.end ++ after_document doc c)) after_rows (rest doc s ss c h)
  replaces =
      after_laid (limit doc s ss c h) h.row h.mark (rows_text (h.under ++ h.back) (h.p.end ++ after_document doc c)) rs z (rows_there doc s ss c h).0 h.upto dash
      (deeper_laid v l (mark_column h.mark) below last z (omega arith) (record { rows = filled; near = near_keys; ends = ends }))

  is_located : IsLocatedAt (lines_of_rows rs) v (level_at below v)
  is_located = rules_give (level_at below v) (lines_of_rows rs) v (node_is_there v l below last step filled.filled filled.value uncommented)

  dash_level : level (line_with h.mark (Nothing [])) ≡ entry_level None (mark_column h.mark)
  unfolding level
  dash_level = ap (λ m. 3 * mark_column h.mark + Rattle.yq_outline.specs.Outline.rank (Rattle.yq_outline.specs.Lines.line_mark m)) dash

  pub takes_after : TakesNode doc s ss c h v after_rows
  takes_after =
      let fit = node_fit v l below last filled.value in
      record {
        first = first_row h.mark rs;
        more = more_rows rs;
        new_is = rows_are below h.mark rs begun;
        gap_is = gap_same below h.mark rs begun ∙ upto_gap h.upto;
        replaces = replaces;
        content = Nothing [];
        level = level_at below v;
        under = is_located.outline;
        comment = none_uncommented ∙ sym none;
        anchor = sym unnamed;
        open' = tt;
        value_is = is_located.node_is;
        even = is_located.even;
        deep = subst (λ n. n < level_at below v) (sym dash_level) (lines_deeper v l (mark_column h.mark) None step filled.filled);
        lines = search (rules, dashes_of, above_mark, compact_lines, begun, mark_after, append_assoc);
        keys = keys_same h.mark rs (keys_fit rs fit);
        anchors = subst (λ ls. HaveOneAnchorEach (line_with h.mark (Nothing []) ∷ ls)) (sym is_located.lines_are) (tt, anchors_fit rs fit);
      }

  -- their text
  pub after_spelled : rows_text after_rows (rest doc s ss c h) ≡ row_front h.mark ++ (32 ∷ (block_value l (item_column (mark_column h.mark)) v ++ (last ++ rest doc s ss c h)))
  after_spelled = after_text below h.mark rs (block_value l below v ++ (last ++ z)) z begun dash (value_spelled v l below last z filled.filled filled.value)

  pub after_first : InFirst (row_front h.mark) (rows_items after_rows [])
  after_first = after_lead below h.mark rs begun dash
