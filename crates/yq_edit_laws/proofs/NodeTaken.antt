-- The rows of an item or entry are replaced by rows that are written for a value: the document with that value there.
use Rattle.std.proofs.Common.{◌≡◌, ℕ, suc, ◌<◌, ◌≤◌, Bool, true, false, List, [], ◌∷◌, ◌++◌, length, Option, Some, refl, sym, ap, ◌∙◌}
use Rattle.std.{proofs.Common.{subst, arith, append-nil, rules, inl}, proofs.lemmas.Bool.{false≢true, ltb-true}}
use Rattle.yq_core.{specs.Paths.{Step, changed_at}, specs.Tree.{Node, anchor_of}, specs.Alike.Alike}
use Rattle.yq_outline.{specs.LineAnchors.HaveOneAnchorEach, specs.Comments.line_comment}
use Rattle.yq_outline.specs.Outline.{Line, level, Outline, flatten, IsEven, IsOpen, anchored, head_or, label, value}
use Rattle.yq_outline.{specs.Places.content_under, specs.Lines.{content_anchor, head_of, tail_of, lines_of_rows}}
use Rattle.yq_row_table.{specs.Exchange.{allows_first, asked_after}, specs.Gap.IsGap, specs.Grammar.{Limit, allows, AreRows, no_rows}}
use Rattle.yq_row_table.specs.Rows.{Content, Row, mark_column, print_row, rows_text, Part, Cut, cut_text}
use Rattle.yq_row_table.{specs.Splices.{after_first, first_gap}, proofs.seams.SeamLaws.rows_text-append}
use Rattle.yq_row_table.{proofs.splices.SpliceTexts.{own_gap, own_end, first_text, first_is}, specs.Items.rows_items}
use Rattle.yq_documents.{specs.Documents.{HaveFitKeys, lead_of}, specs.TreeEdits.{led, replaced_node}, specs.Ready.begins_no_node}
use Rattle.yq_documents.specs.Reading.{root_of, read_at}
use Rattle.yq_places.{specs.RowPaths.IsReadable, proofs.RunSpans.rows_then}
use Rattle.yq_edit_rules.{specs.Appends.inserted, specs.Changed.{IsChanged, put_document}, specs.DocumentRows.after_document}
use Rattle.yq_edit_rules.{specs.Edited.LineFits, specs.Replaces.{RowsReplace, TakesLines}, specs.Rooms.is_block_root}
use Rattle.yq_edit_rules.{specs.SoundRoots.MayReplace, proofs.AppendLaws.around, proofs.LeadLaws.same_lead_goes}
use Rattle.yq_edit_rules.{proofs.PlacedLaws.rows_in_parts, proofs.ReplaceLaws.{node_rows_replaced, rows_before_some}}
use Rattle.yq_edit_rules.{proofs.UnderLaws.{line_with, dashes_of}, proofs.UnbrokenLaws.gap_same, proofs.MarkFirst.no_node_first}
use Rattle.yq_edit_rules.{specs.BlockPlaces.Replaces, proofs.LaidRows.rows_append, specs.ReadsAfter.ReadsAfter}
use Rattle.yq_edit_rules.{proofs.DoneLaws.document_done, specs.Local.InFirst, specs.EditLaws.CarriedOut, proofs.LastRows.lines_local}
use Rattle.yq_edit_rules.{proofs.OneLines.is_one_line, proofs.LocalLaws.{RowsGiveWay, cut_known}}
use Rattle.yq_semantics.specs.Operations.{replace}
use Rattle.yq_text.specs.Script.{Segment, old_text, new_text, are_kept, kept_front, kept_back}
use Rattle.yq_edit_laws.proofs.NodeRowLaws.{NodeRows, back_there, before_are, known_lines, limit, line_is, near, old_lines, rest, size_is}
use Rattle.yq_edit_laws.proofs.NodeRowLaws.{lines_upto}
use Rattle.yq_outline.specs.Outline as outline

follow_first : (limit : Limit) (column : ℕ) (bs : List Row) → ((k : ℕ) → k ≤ column → allows limit k ≡ true) → allows_first (record { column = Some (suc column) }) bs ≡ true → allows_first limit bs ≡ true
follow_first limit column [] f h = refl
follow_first limit column (b ∷ bs) f h = f b.column (let less = ltb-true b.column (suc column) h in omega (arith, less))

led_below : (block : Bool) (lead : List (List ℕ)) (s : Step) (ss : List Step) (v : Node) → led block lead (s ∷ ss) v ≡ v
led_below block lead s ss v = search rules

-- Rows that are written for a value in the place of those of an item or entry: they may be there; the first begins as that one does; their lines are
-- those of its dashes, the line of its mark with what then comes after that, and lines under it, and together these mean the value.
pub record TakesNode (doc : ℕ) (s : Step) (ss : List Step) (c : Cut) (h : NodeRows doc s ss c) (v : Node) (new : List Row) : Type 0 where
  pub first : Row
  pub more : List Row
  pub new_is : new ≡ first ∷ more
  pub gap_is : first.gap ≡ h.row.gap
  pub replaces : Replaces (limit doc s ss c h) (mark_column h.mark) h.row (rows_text (h.under ++ h.back) (h.p.end ++ after_document doc c)) new (rest doc s ss c h)
  pub content : Content
  pub level : ℕ
  pub under : Outline
  pub comment : line_comment (tail_of content) ≡ line_comment (tail_of h.mark.content)
  pub anchor : content_anchor content ≡ anchor_of (Rattle.yq_outline.specs.Places.content_under h.found.line h.found.under)
  pub open' : IsOpen (head_of content) under
  pub value_is : head_or (head_of content) (value under) ≡ v
  pub even : IsEven level under
  pub deep : outline.level (line_with h.mark content) < level
  pub lines : lines_of_rows new ≡ dashes_of h.mark ++ (line_with h.mark content ∷ flatten under)
  pub keys : HaveFitKeys new
  pub anchors : HaveOneAnchorEach (line_with h.mark content ∷ flatten under)

-- Segments of the text keep it up to bytes of the first one of these rows, and from the end of the line that ends them on.
pub record KeepsNode (doc : ℕ) (s : Step) (ss : List Step) (c : Cut) (h : NodeRows doc s ss c) (us : List Segment) : Type 0 where
  pub lead : List ℕ
  pub trail : List ℕ
  pub before_is : kept_front us ≡ (h.start ++ rows_text h.front []) ++ lead
  pub following_is : kept_back us ≡ trail ++ rows_text h.back (h.p.end ++ after_document doc c)
  pub one : is_one_line trail ≡ true
  pub begins : length lead ≤ length (print_row h.row [])
  pub puts : are_kept us ≡ false
  pub old_is : old_text us ≡ cut_text c

module _ (doc : ℕ) (s : Step) (ss : List Step) (c : Cut) (h : NodeRows doc s ss c) (v : Node) (new : List Row) (t : TakesNode doc s ss c h v new) where
  abbrev z : List ℕ
  z = after_document doc c

  abbrev pub q : Part
  q = inserted h.front new h.back h.p

  -- the rows are there
  replace_rows : RowsReplace h.front (h.row ∷ h.under) new h.back (first_gap h.back h.p.end) h.p (after_document doc c)
  replace_rows =
      let text : rows_text h.back (h.p.end ++ z) ≡ first_gap h.back h.p.end ++ after_first h.back h.p.end z = first_text h.back h.p.end z in
      let stay : AreRows (limit doc s ss c h) new [] (first_gap h.back h.p.end ++ after_first h.back h.p.end z) = subst (λ u. AreRows (limit doc s ss c h) new [] u) text t.replaces.rows in
      let gap : IsGap (first_gap h.back h.p.end) (after_first h.back h.p.end z) = first_is _ h.back h.p.end z (back_there doc s ss c h) in
      record {
        rows_are = h.rows_are;
        some = refl;
        new_are = subst (λ rs. AreRows (limit doc s ss c h) rs (first_gap h.back h.p.end) (after_first h.back h.p.end z)) (append-nil new)
            (rows_append (limit doc s ss c h) new [] (first_gap h.back h.p.end) (after_first h.back h.p.end z) stay gap);
        next = follow_first (asked_after (limit doc s ss c h) new) (mark_column h.mark) h.back t.replaces.follow (near doc s ss c h);
        alike = subst (λ u. Alike (Some false) (print_row h.row (rows_text (h.under ++ h.back) (h.p.end ++ z))) (rows_text new u)) text t.replaces.alike;
      }

  -- their lines
  takes_lines : TakesLines h.found h.front (h.row ∷ h.under) new (dashes_of h.mark) (line_with h.mark h.mark.content ∷ (lines_upto h.upto h.under).0) (line_with h.mark t.content) t.under
  takes_lines = search (rules, before_are, known_lines, size_is)

  fits : LineFits [] h.found (replaced_node v) t.level (line_with h.mark t.content) t.under
  unfolding level
  fits = record {
    label_is = ap (λ (o : Option (List ℕ)). record { key = outline.key_of (line_with h.mark t.content).mark; head_comment = (line_with h.mark t.content).head_comment; line_comment = o }) t.comment ∙ ap label (line_is doc s ss c h);
    level_is = ap level (line_is doc s ss c h);
    headless = t.open';
    deep = t.deep;
    even = t.even;
    node_is = λ i. anchored (t.anchor i) (t.value_is i);
  }

  pub q_rows : q.rows ≡ h.front ++ (new ++ h.back)
  q_rows = ap (λ rs. h.front ++ (new ++ rs)) (own_gap h.back h.p.end)

  -- the text
  pub q_text : cut_text (put_document doc (inserted h.front new h.back h.p) c) ≡ h.start ++ (rows_text h.front [] ++ rows_text new (rest doc s ss c h))
  q_text = search (rules, q_rows, own_end, rows_text-append, rows_then)

  same_block : is_block_root q ≡ is_block_root h.p
  same_block =
      let now : Line = line_with h.mark t.content in
      let was : Line = line_with h.mark h.mark.content in
      let lines : lines_of_rows q.rows ≡ (lines_of_rows h.front ++ dashes_of h.mark) ++ ((now ∷ flatten t.under) ++ lines_of_rows h.back) =
      search (rules, q_rows, rows_in_parts, t.lines, around) in
      ap begins_no_node lines
      ∙ (no_node_first (lines_of_rows h.front ++ dashes_of h.mark) now was (flatten t.under ++ lines_of_rows h.back) ((lines_upto h.upto h.under).0 ++ lines_of_rows h.back) refl ∙ sym (ap begins_no_node (old_lines doc s ss c h)))

  pub node_changed : MayReplace v (content_under h.found.line h.found.under) (root_of h.p) (length (s ∷ ss)) → IsReadable (cut_text (put_document doc (inserted h.front new h.back h.p) c)) →
      IsChanged c (put_document doc (inserted h.front new h.back h.p) c) doc (lead_of h.p) (changed_at (s ∷ ss) (replaced_node v))
  node_changed may readable =
      node_rows_replaced (cut_text c) c doc h.p s ss h.found v h.front (h.row ∷ h.under) new h.back (dashes_of h.mark) (line_with h.mark h.mark.content ∷ (lines_upto h.upto h.under).0) t.level (line_with h.mark t.content) t.under h.old h.is
      replace_rows takes_lines fits may readable

  pub node_reads : MayReplace v (content_under h.found.line h.found.under) (root_of h.p) (length (s ∷ ss)) → IsReadable (cut_text (put_document doc (inserted h.front new h.back h.p) c)) →
      ReadsAfter (replace doc (s ∷ ss) v) c (cut_text (put_document doc (inserted h.front new h.back h.p) c))
  node_reads may readable =
      let changed : IsChanged c (put_document doc q c) doc (lead_of h.p) (changed_at (s ∷ ss) (replaced_node v)) = node_changed may readable in
      document_done (replace doc (s ∷ ss) v) c h.p q (lead_of h.p) (changed_at (s ∷ ss) (replaced_node v)) (record {
        read = h.old.read;
        there = h.old.there;
        rows = λ none. absurd (false≢true (sym (ap no_rows q_rows ∙ rows_before_some h.front (new ++ h.back) (ap (λ rs. no_rows (rs ++ h.back)) t.new_is)) ∙ none));
        changed = changed;
        root = ap (λ m. changed_at (s ∷ ss) (replaced_node m) (root_of h.p)) (sym (led_below (is_block_root h.p) (lead_of h.p) s ss v));
        lead_goes = same_lead_goes h.p q (search (rules, q_rows, gap_same)) same_block;
        block = λ keeps. same_block;
        equal_room = λ sets. absurd sets;
      })

  -- ---- segments

  pub node_carried : (us : List Segment) (n : KeepsNode doc s ss c h us) → MayReplace v (content_under h.found.line h.found.under) (root_of h.p) (length (s ∷ ss)) → IsReadable (new_text us) →
      cut_text (put_document doc (inserted h.front new h.back h.p) c) ≡ new_text us → InFirst n.lead (rows_items new []) → CarriedOut (replace doc (s ∷ ss) v) c us
  node_carried us n may readable text begins =
      let there : IsReadable (cut_text (put_document doc (inserted h.front new h.back h.p) c)) = subst IsReadable (sym text) readable in
      let read = (node_changed may there).read in
      let e : RowsGiveWay us c doc (inserted h.front new h.back h.p) = record {
        p = h.p;
        there = h.old.there;
        start = h.start;
        put = h.put;
        front = h.front;
        gone = h.row ∷ h.under;
        come = new;
        back = h.back;
        rows_are = h.rows_are;
        come_are = q_rows;
        end_is = own_end h.back h.p.end;
        lead = n.lead;
        trail = n.trail;
        before_is = n.before_is;
        following_is = n.following_is;
        puts = n.puts;
        old_is = n.old_is;
        new_is = sym text;
      } in
      record {
        reads = subst (ReadsAfter (replace doc (s ∷ ss) v) c) text (node_reads may there);
        local = inl (cut_known us c (put_document doc (inserted h.front new h.back h.p) c) read text (lines_local us c doc (inserted h.front new h.back h.p) e h.old.read read n.one n.begins begins));
      }

  -- the cut of the text that they make
  pub node_made : (us : List Segment) → MayReplace v (content_under h.found.line h.found.under) (root_of h.p) (length (s ∷ ss)) → IsReadable (new_text us) → cut_text (put_document doc (inserted h.front new h.back h.p) c) ≡ new_text us →
      read_at (new_text us) ≡ Some (put_document doc (inserted h.front new h.back h.p) c)
  node_made us may readable text = ap read_at (sym text) ∙ (node_changed may (subst IsReadable (sym text) readable)).read
