-- The rows that are written for a value in the place of those of an item or entry: after its key or dash, or under it.
use Rattle.std.proofs.Common.{◌≡◌, ℕ, suc, ◌≤◌, true, List, [], ◌∷◌, ◌++◌, Some, refl, sym, ap, subst, arith, rules, ◌<◌, false, Option}
use Rattle.std.{proofs.Common.{None, ◌∙◌}, proofs.lemmas.Bool.{lt-ltb, false≢true}}
use Rattle.yq_core.{specs.Paths.Step, specs.Text.separates, specs.Tree.{Node, anchor_of}, specs.Piece.deeper, specs.Plain.ends_plain}
use Rattle.yq_outline.{specs.Comments.line_comment, specs.Outline.{end, IsOpen, head_or, value, level, IsLocatedAt}}
use Rattle.yq_outline.{specs.Places.content_under, specs.Lines.{content_anchor, head_of, tail_of, lines_of_rows}}
use Rattle.yq_outline.{specs.LineAnchors.HaveOneAnchorEach, proofs.ByRules.rules_give}
use Rattle.yq_row_table.{specs.Exchange.with_content, specs.Grammar.{allows, limit_after_content, IsContent, IsTail}}
use Rattle.yq_row_table.specs.Rows.{Content, content_text, Row, mark_column, parent_indent, rows_text, Cut, cut_text}
use Rattle.yq_row_table.{specs.Alone.holds_nothing, specs.Seams.is_block, proofs.NodeExchange.{inline_starts, space_apart}}
use Rattle.yq_row_table.proofs.splices.PartPlaces.{part_ends}
use Rattle.yq_documents.{specs.Documents.{MarkIsFit, ContentHasFitKeys, HaveFitKeys}, specs.PartNumbers.part_number}
use Rattle.yq_edit_rules.{specs.DocumentRows.after_document, proofs.AnchorLaws.fit_parts, proofs.ContentLaws.free_alone}
use Rattle.yq_edit_rules.{proofs.InlineReplaceLaws.{deeper_entry, tail_ends_plain}, proofs.PartLaws.document_known}
use Rattle.yq_edit_rules.{proofs.UnderLaws.{line_with, gone_lines}, specs.BlockPlaces.{IsUpto, Replaces, IsAbove}}
use Rattle.yq_edit_rules.{proofs.LaidRows.{no_gap_here, AreLaid}, proofs.PlaceLaws.{upto_row, under_laid}, specs.InlineRows.IsValueNode}
use Rattle.yq_edit_rules.proofs.CoreLaws.{put_core, recore}
use Rattle.yq_edit_rules.proofs.ValueContentLaws.{content_is, content_head, content_named, content_tail, content_keys}
use Rattle.yq_edit_rules.{specs.declared.layout.Layout.Layout, specs.BlockRows.{column_below, node_rows}}
use Rattle.yq_edit_rules.{specs.BlockValues.{HasNearKeys, IsFilledValue, IsEnd, level_at}, proofs.FitLaws.{anchors_fit, keys_fit, node_fit}}
use Rattle.yq_edit_rules.{proofs.BlockLineLaws.{lines_deeper, node_is_there}, proofs.RowLaws.deeper_laid}
use Rattle.yq_edit_laws.{proofs.NodeRowLaws.{NodeRows, entry, limit, rest, rows_there, back_there, near}, proofs.NodeTaken.TakesNode}
use Rattle.yq_edit_laws.proofs.MarkContentLaws.{laid_free}
use Rattle.yq_outline.specs.Outline as outline
use Rattle.yq_core.specs.Nodes as inline
use Rattle.yq_row_table.specs.Rows as rows

upto_fit : {s r : Row} → IsUpto s r → MarkIsFit r.mark → MarkIsFit s.mark
upto_fit e h = search rules

pub upto_gap : {s r : Row} → IsUpto s r → s.gap ≡ r.gap
upto_gap e = search rules

-- ---- marks

-- the key of a mark, if it is one
abbrev pub mark_key : rows.RowMark → Option (List ℕ)
mark_key rows.Bare = None
mark_key rows.Dash = None
mark_key (rows.Key key colon) = Some key

-- ---- nothing but an anchor after a mark

-- it has no head and no key that is too long, and is no block scalar
nothing_is : (x : Content) → holds_nothing x ≡ true → (head_of x ≡ None) × ContentHasFitKeys x × (is_block x ≡ false)
nothing_is x h1 = search (rules, false≢true)

module _ (doc : ℕ) (s : Step) (ss : List Step) (c : Cut) (h : NodeRows doc s ss c) where
  pub mark_fit : MarkIsFit h.mark.mark
  mark_fit = let keys = (document_known (cut_text c) c doc h.p h.old).document.keys in upto_fit h.upto (fit_parts h.front (h.row ∷ (h.under ++ h.back)) (subst HaveFitKeys h.rows_are keys)).1.0

  -- A content that may come after the key or dash alone: it means the value, after the old anchor and before the old comment.
  pub record IsContentFor (v : Node) (new : Content) : Type 0 where
    pub is_located : IsContent (parent_indent h.mark) new (rest doc s ss c h)
    pub apart : separates (content_text new (rest doc s ss c h)) ≡ true
    pub head : head_of new ≡ Some v
    pub comment : line_comment (tail_of new) ≡ line_comment (tail_of h.mark.content)
    pub anchor : content_anchor new ≡ anchor_of (content_under h.found.line h.found.under)
    pub keys : ContentHasFitKeys new

  -- what is after it may begin at any column up to that of the key or dash
  follow : (x : Content) (k : ℕ) → k ≤ mark_column h.mark → allows (limit_after_content (parent_indent h.mark) x) k ≡ true
  follow x k h1 = search (rules, deeper_entry, entry, lt-ltb)

  module _ (v : Node) (new : Content) (is : IsContentFor v new) where
    replaces : Replaces (limit doc s ss c h) (mark_column h.mark) h.row (rows_text (h.under ++ h.back) (h.p.end ++ after_document doc c)) (with_content new h.mark ∷ []) (rest doc s ss c h)
    replaces =
        let row = upto_row new (rest doc s ss c h) (rows_there doc s ss c h).0 h.upto is.is_located is.apart in
        record { rows = (row.0, no_gap_here (rest doc s ss c h)); alike = row.1; follow = follow new }

    pub takes_content : TakesNode doc s ss c h v (with_content new h.mark ∷ [])
    unfolding outline.level
    takes_content = record {
      first = with_content new h.mark;
      more = [];
      new_is = refl;
      gap_is = upto_gap h.upto;
      replaces = replaces;
      content = new;
      level = suc (outline.level (line_with h.mark new));
      under = end;
      comment = is.comment;
      anchor = is.anchor;
      open' = subst (λ o. IsOpen o end) (sym is.head) tt;
      value_is = ap (λ o. head_or o (value end)) is.head;
      even = tt;
      deep = omega arith;
      lines = gone_lines (with_content new h.mark) [];
      keys = (mark_fit, is.keys, tt);
      anchors = (free_alone (content_anchor new), tt);
    }

  -- the end of a line before the rows after ends what is written in the place
  pub end_is : (tail : List ℕ) → IsTail tail (rest doc s ss c h) → IsEnd (mark_column h.mark) tail (rest doc s ss c h)
  end_is tail ends =
      let below : deeper (parent_indent h.mark) ≡ suc (mark_column h.mark) = deeper_entry h.mark.mark (mark_column h.mark) (entry doc s ss c h) in
      record {
        tail = ends;
        plain = subst (λ n. ends_plain false (Some n) (tail ++ rest doc s ss c h) ≡ true) below
            (tail_ends_plain (parent_indent h.mark) tail _ h.back h.p.end (after_document doc c) ends (back_there doc s ss c h)
            (subst (λ n. Rattle.yq_row_table.specs.Exchange.allows_first (record { column = Some n }) h.back ≡ true) (sym below) (near doc s ss c h))
            (part_ends c (part_number doc c) true (document_known (cut_text c) c doc h.p h.old).cut.parts));
      }

  -- What comes after the key or dash on its line, before lines under it or the rows after: nothing but perhaps the old anchor, and the end of the line with the old comment.
  pub record IsHolding (x : Content) (more : List ℕ) : Type 0 where
    pub holds : holds_nothing x ≡ true
    pub is_located : IsContent (parent_indent h.mark) x more
    pub apart : separates (content_text x more) ≡ true
    pub comment : line_comment (tail_of x) ≡ line_comment (tail_of h.mark.content)
    pub anchor : content_anchor x ≡ anchor_of (content_under h.found.line h.found.under)

  -- ---- under it

  module _ (l : Layout) (step : 1 ≤ l.mapping) (v : Node) (filled : IsFilledValue v) (near_keys : HasNearKeys v) (x : Content) (last : List ℕ)
      (held : IsHolding x (rows_text (node_rows l (column_below l (mark_column h.mark) (mark_key h.mark.mark) v) last v) (rest doc s ss c h)))
      (ends : IsEnd (mark_column h.mark) last (rest doc s ss c h)) (uncommented : line_comment last ≡ None) where
    abbrev pub below : ℕ
    below = column_below l (mark_column h.mark) (mark_key h.mark.mark) v

    abbrev rs : List Row
    rs = node_rows l (column_below l (mark_column h.mark) (mark_key h.mark.mark) v) last v

    abbrev pub rows_under : List Row
    rows_under = with_content x h.mark ∷ node_rows l (column_below l (mark_column h.mark) (mark_key h.mark.mark) v) last v

    abbrev z : List ℕ
    z = rest doc s ss c h

    laid : AreLaid below rs z
    laid = deeper_laid v l (mark_column h.mark) below last z (search rules) (record { rows = filled; near = near_keys; ends = ends })

    above : IsAbove (limit doc s ss c h) h.row (rows_text (h.under ++ h.back) (h.p.end ++ after_document doc c)) h.mark x below (rows_text rs z)
    above = record {
      row = (rows_there doc s ss c h).0;
      upto = h.upto;
      deep = search rules;
      nothing = held.holds;
      content = held.is_located;
      apart = held.apart;
    }

    is_located : IsLocatedAt (lines_of_rows rs) v (level_at below v)
    is_located = rules_give (level_at below v) (lines_of_rows rs) v (node_is_there v l below last step filled.filled filled.value uncommented)

    deep : outline.level (line_with h.mark x) < level_at below v
    unfolding level
    deep = search (rules, false≢true, entry, lines_deeper)

    pub takes_under : TakesNode doc s ss c h v rows_under
    takes_under =
        let fit = node_fit v l below last filled.value in
        record {
          first = with_content x h.mark;
          more = rs;
          new_is = refl;
          gap_is = upto_gap h.upto;
          replaces = under_laid (limit doc s ss c h) h.row h.mark (rows_text (h.under ++ h.back) (h.p.end ++ after_document doc c)) x below rs z above laid;
          content = x;
          level = level_at below v;
          under = is_located.outline;
          comment = held.comment;
          anchor = held.anchor;
          open' = subst (λ o. IsOpen o is_located.outline) (sym (nothing_is x held.holds).0) tt;
          value_is = ap (λ o. head_or o (value is_located.outline)) (nothing_is x held.holds).0 ∙ is_located.node_is;
          even = is_located.even;
          deep = deep;
          lines = gone_lines (with_content x h.mark) rs ∙ ap (λ ls. Rattle.yq_edit_rules.proofs.UnderLaws.dashes_of h.mark ++ (line_with h.mark x ∷ ls)) (sym is_located.lines_are);
          keys = (mark_fit, (nothing_is x held.holds).1, keys_fit rs fit);
          anchors = subst (λ ls. HaveOneAnchorEach (line_with h.mark x ∷ ls)) (sym is_located.lines_are) (laid_free (content_anchor x) below rs z laid, anchors_fit rs fit);
        }

  -- ---- after it on its line

  -- a content that is no block scalar, with the node of a value in the place of its own
  module _ (v : Node) (node : inline.FlowNode) (is : IsValueNode v node) (x : Content) (block : is_block x ≡ false) where
    pub content_for : IsContent (parent_indent h.mark) x (rest doc s ss c h) → separates (content_text x (rest doc s ss c h)) ≡ true → line_comment (tail_of x) ≡ line_comment (tail_of h.mark.content) →
        content_anchor x ≡ anchor_of (content_under h.found.line h.found.under) → IsContentFor v (put_core node x)
    content_for is_located apart comment anchor = record {
      is_located = content_is v node is (parent_indent h.mark) x (rest doc s ss c h) block is_located
          (λ tail ends. subst (λ n. ends_plain false (Some n) (tail ++ rest doc s ss c h) ≡ true) (sym (deeper_entry h.mark.mark (mark_column h.mark) (entry doc s ss c h))) (end_is tail ends).plain);
      apart = search (rules, space_apart, recore, inline_starts, is_located, apart);
      head = content_head v node is x block;
      comment = content_tail v node is x ∙ comment;
      anchor = content_named v node is x ∙ anchor;
      keys = content_keys v node is x;
    }

  module _ (v : Node) (node : inline.FlowNode) (is : IsValueNode v node) (x : Content) (held : IsHolding x (rest doc s ss c h)) where
    pub content_beside : IsContentFor v (put_core node x)
    content_beside = content_for v node is x (nothing_is x held.holds).2 held.is_located held.apart held.comment held.anchor

    abbrev pub rows_beside : List Row
    rows_beside = with_content (put_core node x) h.mark ∷ []

    pub takes_beside : TakesNode doc s ss c h v rows_beside
    takes_beside = takes_content v (put_core node x) content_beside
