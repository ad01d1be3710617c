-- What is written after the mark of one row is replaced by a value.
use Rattle.std.proofs.Common.{◌≡◌, ◌⊎◌, inl, inr, ℕ, ℤ, suc, ◌+◌, ◌++◌, List, [], ◌∷◌, length, Option, Some, None, refl, sym, ap, ◌∙◌}
use Rattle.std.{proofs.Common.{subst, arith, length-append, append_assoc, append-nil, rules}, proofs.lemmas.Bool.{cond_both, false≢true}}
use mathlib.Core.List.{head-eq_of_cons-eq, tail-eq_of_cons-eq}
use Rattle.yq_core.{specs.Paths.{Step, changed_at}, specs.Tree.{Node, Children, anchor_of}, specs.Nodes.IsFlowNode, specs.Trees.tree_of}
use Rattle.yq_core.specs.Anchors.{IsNoAlias}
use Rattle.yq_outline.{specs.LineAnchors.{IsFree, MayTake, HaveOneAnchorEach}, specs.Comments.head_comment, specs.Group.{group, level_or}}
use Rattle.yq_outline.specs.Laws.{with_lines}
use Rattle.yq_outline.specs.Outline.{Line, level, Outline, end, row, flatten, IsOpen, IsWhole, IsEven, anchored, head_or, null_node, value}
use Rattle.yq_outline.specs.Places.{lines_before, lines_after, FoundLine, find, content_under}
use Rattle.yq_outline.{specs.Lines.{content_anchor, head_of, line_mark, mark_line, lines_of_rows}, proofs.Decides.flatten-group}
use Rattle.yq_outline.{proofs.NodeLaws.anchored_twice, proofs.NameLaws.each_back}
use Rattle.yq_row_table.{specs.Exchange.{asked_after, with_content}, specs.Grammar.{unlimited, IsContent, IsCut, no_rows}}
use Rattle.yq_row_table.specs.Rows.{Content, Row, mark_column, parent_indent, rows_text, Part, Cut, cut_text}
use Rattle.yq_row_table.{specs.SpliceFits.RemovalMeans, specs.Splices.{first_gap, nth_part, splice}}
use Rattle.yq_row_table.{proofs.splices.RowReplaced.row_exchanged, proofs.splices.SpliceTexts.own_gap}
use Rattle.yq_documents.{specs.Documents.{HaveFitKeys, HasShortRoot, lead_of}, specs.TreeEdits.replaced_node}
use Rattle.yq_documents.{specs.Reading.{part_outline, root_of}, specs.PartNumbers.part_number}
use Rattle.yq_places.specs.RowPaths.{spelled_node, IsReadable}
use Rattle.yq_edit_rules.specs.Changed.{IsChanged, put_document}
use Rattle.yq_edit_rules.{specs.Contents.{recontent, TakesContent, LowerContentReplaced, RootContentReplaced}, specs.Appends.inserted}
use Rattle.yq_edit_rules.{specs.DocumentRows.{IsDocumentPart, after_document}, specs.Edited.IsPut, specs.Moved.dash_lines}
use Rattle.yq_edit_rules.{specs.SoundRoots.MayReplace, proofs.AnchorLaws.{fit_parts, fit_from}}
use Rattle.yq_edit_rules.{proofs.BlockChangeLaws.{node_replaced, root_replaced}, proofs.EditedLaws.led_as, proofs.FirstRowLaws.short_first}
use Rattle.yq_edit_rules.{proofs.LineLaws.{above_mark, dashes_count}, proofs.NodeLineLaws.{low_level, under_even}}
use Rattle.yq_edit_rules.proofs.PartLaws.{document_known, is_put, part_numbered, part_rows, rows_put, take_front}
use Rattle.yq_edit_rules.{proofs.PlacedLaws.{same_parts, whole_line}, proofs.CommentPutLaws.last_lines, proofs.ReplaceLaws.rows_before_some}
use Rattle.yq_edit_rules.proofs.RowCommentLaws.{following_rows, lead_content}
use Rattle.yq_core.specs.Trees as trees
use Rattle.yq_outline.specs.Outline as outline
use Rattle.yq_row_table.specs.Rows as rows

-- ---- what a row spells, and its anchor

coll_named : (k : ℕ) (a : Option (List ℕ)) (cs : Children) → anchor_of (anchored a (trees.tree_collection k cs)) ≡ a
coll_named k a cs = search (rules, cond_both)

-- the anchor in a row is that of the node
pub content_named : (n : ℤ) (x : Content) (rest : List ℕ) → IsContent n x rest → anchor_of (spelled_node x) ≡ content_anchor x
unfolding tree_of IsFlowNode
content_named n x rest h1 = search (rules, coll_named, false≢true)

no_alias : (a : Option (List ℕ)) (h : Option Node) → IsNoAlias h → IsNoAlias (Some (anchored a (head_or h null_node)))
no_alias a h h2 = search rules

-- an anchor before a line of its own
bare_takes : (a : Option (List ℕ)) (h : Option Node) → MayTake outline.Bare a h → (a ≡ None) × IsNoAlias h
bare_takes a h m = search rules

takes_bare : (a : Option (List ℕ)) (h : Option Node) → a ≡ None → IsNoAlias h → MayTake outline.Bare a h
takes_bare a h e n = search rules

free_cases : (a : Option (List ℕ)) (l : Line) (ls : List Line) → l.mark ≡ outline.Bare → IsFree a (l ∷ ls) → (a ≡ None) ⊎ ((l.anchor ≡ None) × IsNoAlias l.head)
free_cases None l ls m h = inl refl
free_cases (Some x) l ls m h = inr (bare_takes l.anchor l.head (subst (λ k. MayTake k l.anchor l.head) m h))

free_from : (a : Option (List ℕ)) (l : Line) (ls : List Line) → l.mark ≡ outline.Bare → (a ≡ None) ⊎ ((l.anchor ≡ None) × IsNoAlias l.head) → IsFree a (l ∷ ls)
free_from None l ls m h = tt
free_from (Some x) l ls m (inl e) = absurd (cc)
free_from (Some x) l ls m (inr h) = subst (λ k. MayTake k l.anchor l.head) (sym m) (takes_bare l.anchor l.head h.0 h.1)

pub free_alone : (a : Option (List ℕ)) → IsFree a []
free_alone a = search rules

-- ---- lines

single : (o : Outline) (x : Line) → flatten o ≡ x ∷ [] → o ≡ row x end end
single end x e = absurd (cc)
single (row y end end) x e = ap (λ (z : Line). row z end end) (head-eq_of_cons-eq e)
single (row y end (row z u a)) x e = absurd (let no : z ∷ (flatten u ++ flatten a) ≡ [] = tail-eq_of_cons-eq e in cc)
single (row y (row z u b) a) x e = absurd (let no : z ∷ ((flatten u ++ flatten b) ++ flatten a) ≡ [] = tail-eq_of_cons-eq e in cc)

-- a line of its own is its node
pub alone_value : (l : Line) → l.mark ≡ outline.Bare → value (row l end end) ≡ anchored l.anchor (head_or l.head null_node)
alone_value l m = ap (λ k. outline.outline_node k (outline.children (row l end end))) m

pub alone_even : (l : Line) (m : ℕ) (v : Node) → level l ≡ m → l.mark ≡ outline.Bare → l.head ≡ Some v → IsEven m (row l end end)
alone_even l m v at mark head =
    (at, subst (λ h. IsOpen h end) (sym head) tt, subst (λ k. IsWhole k l.head end) (sym mark) (subst (λ h. IsWhole outline.Bare h end) (sym head) tt), (suc m, omega arith, tt), tt)

mark_level : (above : List (List ℕ)) (column : ℕ) (m : rows.RowMark) (old new : Content) → level (mark_line above column m new) ≡ level (mark_line above column m old)
unfolding level
mark_level above column m old new = refl

bare_line : (m : rows.RowMark) → m ≡ rows.Bare → line_mark m ≡ outline.Bare
bare_line m e = ap line_mark e

-- ---- the new text

-- the cut in which one row means another
row_cut : (t : List ℕ) (c : Cut) (k : ℕ) (p : Part) (front back : List Row) (r s : Row) → IsDocumentPart t c k p → IsCut t c → p.rows ≡ front ++ (r ∷ back) →
    RemovalMeans (asked_after unlimited front) r s back (rows_text back (p.end ++ after_document k c)) → IsReadable (cut_text (put_document k (inserted front (s ∷ []) back p) c)) →
    IsCut (cut_text (put_document k (inserted front (s ∷ []) back p) c)) (put_document k (inserted front (s ∷ []) back p) c)
row_cut t c k p front back r s old cut rows is_located new =
    let j = part_number k c in
    let is : nth_part j c ≡ p = (part_numbered c k p old.there).0 in
    let whole_is : splice j (length front) (length front + 1) (s ∷ []) (first_gap back p.end) c ≡ put_document k (inserted front (s ∷ []) back p) c =
    rows_put c k p front (r ∷ []) back (s ∷ []) (first_gap back p.end) old.there rows in
    let one : length front + 1 ≡ suc (length front) = omega arith in
    let same : splice j (length front) (suc (length front)) (s ∷ []) (first_gap back (nth_part j c).end) c ≡ put_document k (inserted front (s ∷ []) back p) c =
    (λ i. splice j (length front) (sym one i) (s ∷ []) (first_gap back (is i).end) c) ∙ whole_is in
    search (rules, take_front, row_exchanged)

module _ (t : List ℕ) (c : Cut) (k : ℕ) (p : Part) (front : List Row) (r : Row) (back : List Row) (v : Node) (new : Content) (h : TakesContent t c k p front r back v new) where
  abbrev q : Part
  q = recontent front r back new p

  abbrev above : List (List ℕ)
  above = above_mark (head_comment r.gap) r.dashes

  abbrev x : Line
  x = mark_line above (mark_column r) r.mark r.content

  abbrev l : Line
  l = mark_line above (mark_column r) r.mark new

  abbrev a : List Line
  a = lines_of_rows front ++ dash_lines (head_comment r.gap) r.column r.dashes

  there : q.rows ≡ front ++ (with_content new r ∷ back)
  there = ap (λ (rs : List Row). front ++ (with_content new r ∷ rs)) (own_gap back p.end)

  is_it : IsPut t c k p q
  is_it =
      let known = document_known t c k p h.old in
      let b : Row = with_content new r in
      let cut = row_cut t c k p front back r b h.old known.cut h.rows_are h.row h.text in
      let keys = fit_parts front (r ∷ back) (subst HaveFitKeys h.rows_are known.document.keys) in
      let fit : HaveFitKeys (front ++ (b ∷ back)) = fit_from front (b ∷ back) keys.0 (keys.1.0, h.keys, keys.1.2) in
      let short : HasShortRoot (front ++ (b ∷ back)) = short_first front back (r ∷ back) b (subst HasShortRoot h.rows_are known.document.short) h.short in
      is_put t c k p q h.old (ap no_rows there ∙ rows_before_some front (b ∷ back) refl) h.text cut (subst HaveFitKeys (sym there) fit) (subst HasShortRoot (sym there) short)

  old_lines : lines_of_rows p.rows ≡ a ++ (x ∷ lines_of_rows back)
  old_lines = ap lines_of_rows h.rows_are ∙ last_lines front r back r.content

  new_lines : lines_of_rows q.rows ≡ a ++ (l ∷ lines_of_rows back)
  new_lines = ap lines_of_rows there ∙ last_lines front r back new

  even : IsEven (level_or 0 (part_outline p)) (part_outline p)
  even = (document_known t c k p h.old).even

  named : anchor_of (spelled_node r.content) ≡ content_anchor r.content
  named =
      following_rows front (r ∷ back) p.end (after_document k c) p h.rows_are (part_rows t c k p h.old (document_known t c k p h.old).cut) (λ rs. anchor_of (spelled_node r.content) ≡ content_anchor r.content)
      (λ limit rs. content_named (parent_indent r) r.content (rows_text back (p.end ++ after_document k c)) rs.0.content)

  spelled_new : spelled_node new ≡ anchored (content_anchor r.content) v
  spelled_new = (λ i. anchored (h.anchor_is i) (head_or (h.head_is i) null_node))

  -- alone on the line under a key or dash
  pub lower_is : (s : Step) (ss : List Step) (f : FoundLine) → find s ss (part_outline p) ≡ Some (f, []) → f.line.head ≡ None →
      length (flatten f.under) ≡ 1 → r.mark ≡ rows.Bare → length (lines_of_rows front) + length r.dashes ≡ suc (length (lines_before f.place)) →
      MayReplace v (content_under f.line f.under) (root_of p) (length (s ∷ ss)) → IsChanged c (put_document k q c) k (lead_of p) (changed_at (s ∷ ss) (replaced_node v))
  lower_is s ss f found open' count mark number may =
      let size : length a ≡ length (lines_before f.place ++ (f.line ∷ [])) = search (rules, length-append, dashes_count) in
      let rest : List Line = flatten f.after ++ lines_after f.place in
      let whole : lines_of_rows p.rows ≡ (lines_before f.place ++ (f.line ∷ [])) ++ (flatten f.under ++ rest) =
      sym (flatten-group (lines_of_rows p.rows)) ∙ (whole_line (part_outline p) s ss [] f found ∙ sym (append_assoc (lines_before f.place) (f.line ∷ []) (flatten f.under ++ rest))) in
      let parts = same_parts a (x ∷ []) (lines_of_rows back) (lines_before f.place ++ (f.line ∷ [])) (flatten f.under) rest (sym old_lines ∙ whole) size (sym count) in
      let lines : lines_of_rows q.rows ≡ with_lines f (f.line ∷ (l ∷ [])) = search (rules, new_lines, append_assoc, parts, rest) in
      let alone : f.under ≡ row x end end = single f.under x (sym parts.1) in
      let bare : line_mark r.mark ≡ outline.Bare = bare_line r.mark mark in
      let old = under_even (level_or 0 (part_outline p)) (part_outline p) s ss f even found in
      let deep = old.1.3 in
      let under : IsEven deep.0 (row x end end) = subst (IsEven deep.0) alone deep.2 in
      let each : HaveOneAnchorEach (lines_before f.place ++ (f.line ∷ (flatten f.under ++ rest))) =
      subst HaveOneAnchorEach (whole ∙ append_assoc (lines_before f.place) (f.line ∷ []) (flatten f.under ++ rest)) (document_known t c k p h.old).document.anchors in
      let free : IsFree f.line.anchor (x ∷ rest) = subst (λ ls. IsFree f.line.anchor (ls ++ rest)) (sym parts.1) (each_back (lines_before f.place) _ each).0 in
      let takes = free_cases f.line.anchor x rest bare free in
      node_replaced t c k p q s ss f v deep.0 f.line (row l end end) is_it found
      (record {
        label_is = refl;
        level_is = refl;
        headless = subst (λ y. IsOpen y (row l end end)) (sym open') tt;
        deep = deep.1;
        even = lower_even deep.0 under bare;
        node_is = node_is alone bare takes;
      })
      (free_from f.line.anchor l [] bare (new_free takes), (free_alone l.anchor, tt)) lines may
    where
      lower_even : (m : ℕ) → IsEven m (row x end end) → line_mark r.mark ≡ outline.Bare → IsEven m (row l end end)
      lower_even m e bare = alone_even l m v (mark_level above (mark_column r) r.mark r.content new ∙ e.0) bare h.head_is

      new_free : (f.line.anchor ≡ None) ⊎ ((content_anchor r.content ≡ None) × IsNoAlias (head_of r.content)) → (f.line.anchor ≡ None) ⊎ ((content_anchor new ≡ None) × IsNoAlias (head_of new))
      new_free (inl e) = inl e
      new_free (inr e) = inr (h.anchor_is ∙ e.0, subst IsNoAlias (sym h.head_is) (search rules))

      not_alias : (f.line.anchor ≡ None) ⊎ ((content_anchor r.content ≡ None) × IsNoAlias (head_of r.content)) → (f.line.anchor ≡ None) ⊎ IsNoAlias (Some (spelled_node r.content))
      not_alias (inl e) = inl e
      not_alias (inr e) = inr (no_alias (content_anchor r.content) (head_of r.content) e.1)

      node_is : f.under ≡ row x end end → line_mark r.mark ≡ outline.Bare →
          (f.line.anchor ≡ None) ⊎ ((content_anchor r.content ≡ None) × IsNoAlias (head_of r.content)) →
          content_under f.line (row l end end) ≡ replaced_node v (content_under f.line f.under)
      node_is alone bare takes = search (rules, alone_value, named, not_alias, spelled_new, anchored_twice)

  -- as a root
  pub root_is : length (lines_of_rows p.rows) ≡ 1 → r.mark ≡ rows.Bare → MayReplace v (root_of p) (root_of p) 0 → IsChanged c (put_document k q c) k (lead_of p) (changed_at [] (replaced_node v))
  root_is count mark may =
      let bare : line_mark r.mark ≡ outline.Bare = bare_line r.mark mark in
      let one = same_parts a (x ∷ []) (lines_of_rows back) [] (lines_of_rows p.rows) [] (sym old_lines ∙ sym (append-nil (lines_of_rows p.rows))) none (sym count) in
      let old : lines_of_rows p.rows ≡ x ∷ [] = sym one.1 in
      let lines : lines_of_rows q.rows ≡ l ∷ [] = new_lines ∙ (λ i. one.0 i ++ (l ∷ one.2 i)) in
      let root : root_of p ≡ spelled_node r.content = ap (λ ls. value (group ls)) old ∙ alone_value x bare in
      led_as c (put_document k q c) k (lead_of q) (lead_of p) (replaced_node v) (lead_content front r new back p q h.rows_are there)
      (root_replaced t c k p q v (level l) (row l end end) is_it
      (record {
        deep = low_level l;
        even = alone_even l (level l) v refl bare h.head_is;
        value_is = alone_value l bare ∙ (spelled_new ∙ (ap (λ y. anchored y v) (sym named) ∙ ap (replaced_node v) (sym root)));
        anchors = (free_alone l.anchor, tt);
      }) lines may)
    where
      none : length a ≡ 0
      none = omega (arith, count, ap length old_lines, length-append a (x ∷ lines_of_rows back))

pub lower_content_replaced : LowerContentReplaced
lower_content_replaced t c k p front back r v new s ss f h found open' count mark number may = lower_is t c k p front r back v new h s ss f found open' count mark number may

pub root_content_replaced : RootContentReplaced
root_content_replaced t c k p front back r v new h count mark may = root_is t c k p front r back v new h count mark may
