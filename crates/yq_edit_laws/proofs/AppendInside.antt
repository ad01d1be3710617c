-- One item or entry more after a line that has a break.
use Rattle.std.proofs.Common.{rules, ◌≡◌, ℕ, suc, ◌≤◌, true, false, List, [], ◌∷◌, ◌++◌, length, Option, Some, refl, sym, ap, ◌∙◌, subst}
use Rattle.std.{proofs.Common.{append_assoc, append-nil, Bool, inl}, proofs.lemmas.Bool.false≢true, proofs.lemmas.Option.same_Some}
use Rattle.yq_core.{specs.BlockWritten.break_text, specs.Paths.{Step, append_child, changed_at, within}, specs.Tree.Node}
use Rattle.yq_text.{specs.Limit.text_limit, specs.Script.{Segment, new_text, kept_back, kept_front, old_text}}
use Rattle.yq_row_table.{specs.Exchange.asked_after, specs.Grammar.{unlimited, no_rows}, proofs.PlainEnds.AtLine}
use Rattle.yq_row_table.{specs.Rows.{Row, rows_text, Part, Cut, cut_text}, specs.Seams.{ends_in_block, ends_in_line}}
use Rattle.yq_row_table.{specs.Splices.{first_gap, after_first}, proofs.seams.SeamLaws.rows_text-append}
use Rattle.yq_row_table.{proofs.splices.SpliceTexts.{own_gap, own_end, first_text}, specs.Items.rows_items}
use Rattle.yq_places.{specs.CollectionEnds.{CollectionEnd, is_broken}, specs.RowPaths.IsReadable, specs.Placements.{Held, LinesIn}}
use Rattle.yq_places.{proofs.RemovalLines.front_some, proofs.RunSpans.rows_then}
use Rattle.yq_documents.{specs.Documents.lead_of, specs.Ready.begins_no_node, specs.Reading.{read_at, documents}}
use Rattle.yq_outline.{specs.Lines.lines_of_rows, specs.Outline.label, specs.Places.content_under}
use Rattle.yq_edit_rules.{proofs.UnbrokenLaws.{begins_same, gap_same}, specs.declared.layout.Layout.Layout, specs.Alone.singleton}
use Rattle.yq_edit_rules.{specs.BlockRows.node_rows, proofs.BlockEndLaws.line_ends, proofs.TextLaws.value_spelled}
use Rattle.yq_edit_rules.{specs.Appends.{TakesRows, inserted}, specs.Changed.{IsChanged, put_document}}
use Rattle.yq_edit_rules.{specs.CollectionPlaces.IsCollectionEnd, specs.DocumentRows.after_document, specs.Rooms.is_block_root}
use Rattle.yq_edit_rules.{proofs.AppendLaws.block_appended, proofs.TextPieceLaws.pieces_joined, proofs.BlockLineLaws.break_uncommented}
use Rattle.yq_edit_rules.{specs.Local.{IsLocal, IsLocalTo}, proofs.ItemsLocal.{first_nothing, last_nothing}}
use Rattle.yq_edit_rules.{proofs.LocalLaws.{cut_known, rows_local}, specs.Layouts.layout_of, specs.EntryEdits.{entry_lines, after_held}}
use Rattle.yq_edit_rules.{specs.ReadsAfter.ReadsAfter, proofs.CommentPieceLaws.break_piece, proofs.SegmentLaws.segments_readable}
use Rattle.yq_edit_rules.proofs.AppendPlaces.{IsAppendPlace, put_segments, old_is, p, there, e, allows_there, kept_pieces, IsAsked, entry}
use Rattle.yq_edit_rules.{proofs.AppendPlaces.{written, new_rows_are, entry_piece, filled, finished}, specs.ClosedTexts.closed_lines_put}
use Rattle.yq_edit_rules.{specs.EditLaws.IsEdit, specs.Operands.HasOperand, specs.PiecePuts.after_lines, proofs.AppendAtEnd.end_both}
use Rattle.yq_edit_rules.{proofs.DoneLaws.nth_map, proofs.EditsFitLaws.tree_unique}
use Rattle.yq_semantics.{specs.Operations.append, specs.Fits.Fits, specs.Rooms.room_of}

last_closed : (others : List Row) (r : Row) → is_broken r.content ≡ true → ends_in_block (others ++ (r ∷ [])) ≡ false → ends_in_line (others ++ (r ∷ [])) ≡ true
last_closed [] r e inside = search (rules, false≢true)
last_closed (x ∷ []) r e inside = last_closed [] r e inside
last_closed (x ∷ (y ∷ others)) r e inside = last_closed (y ∷ others) r e inside

-- ---- after a line that has a break

module _ (doc : ℕ) (steps : List Step) (key : Option (List ℕ)) (v : Node) (c : Cut) (x : CollectionEnd) (read : read_at (cut_text c) ≡ Some c) (at : IsAppendPlace doc steps c x) (g : IsAsked steps key v (p doc steps c x read at)) where
  abbrev l : Layout
  l = layout_of doc c

  abbrev rest : List ℕ
  rest = after_document doc c

  abbrev part : Part
  part = p doc steps c x read at

  abbrev place : IsCollectionEnd c doc (p doc steps c x read at) steps x
  place = e doc steps c x read at

  abbrev pub new : List Row
  new = node_rows l x.column (break_text l.br) (singleton key v)

  abbrev lines : List ℕ
  lines = entry_lines l x.column key v

  abbrev pub q : Part
  q = inserted place.front new place.back part

  q_rows : q.rows ≡ place.front ++ (new ++ place.back)
  q_rows = ap (λ rs. place.front ++ (new ++ rs)) (own_gap place.back part.end)

  pub new_is : cut_text (put_document doc q c) ≡ new_text (put_segments x (lines ++ break_text l.br))
  new_is = search (rules, filled, q_rows, own_end, rows_text-append, rows_then, append_assoc, value_spelled, append-nil)

  readable : length (new_text (put_segments x (lines ++ break_text l.br))) ≤ text_limit → IsReadable (cut_text (put_document doc q c))
  readable size =
      let kept = kept_pieces doc steps c x read at in
      subst IsReadable (sym new_is) (segments_readable (put_segments x (lines ++ break_text l.br)) (kept.0, (pieces_joined lines (break_text l.br) (entry_piece doc steps key v c x read at g) (break_piece l.br), (kept.1, tt))) size)

  takes : x.broken ≡ true → TakesRows part place.front new place.back rest
  takes broken =
      let h = allows_there doc steps c x read at in
      record {
        rows_are = place.rows_are;
        new_are = new_rows_are doc steps key v c x read at g (break_text l.br) (first_gap place.back part.end) (after_first place.back part.end rest) (asked_after unlimited place.front)
            (line_ends l.br x.column (first_gap place.back part.end ++ after_first place.back part.end rest) (subst (AtLine (suc x.column)) (place.following_is ∙ first_text place.back part.end rest) h.line)) h.allowed h.gap;
        closed = λ none_back none_block. ap ends_in_line place.front_is ∙ last_closed place.others place.last (sym place.broken ∙ broken) (ap ends_in_block (sym place.front_is) ∙ none_block);
      }

  p_split : part.rows ≡ place.others ++ (place.last ∷ place.back)
  p_split = place.rows_are ∙ (ap (λ rs. rs ++ place.back) place.front_is ∙ append_assoc place.others (place.last ∷ []) place.back)

  q_split : q.rows ≡ place.others ++ (place.last ∷ (new ++ place.back))
  q_split = q_rows ∙ (ap (λ rs. rs ++ (new ++ place.back)) place.front_is ∙ append_assoc place.others (place.last ∷ []) (new ++ place.back))

  same_block : is_block_root q ≡ is_block_root part
  same_block =
      ap (λ rs. begins_no_node (lines_of_rows rs)) q_split
      ∙ (begins_same place.others place.last place.last.content place.last.content (new ++ place.back) place.back
      ∙ ap (λ rs. begins_no_node (lines_of_rows rs)) (sym p_split))

  same_lead : lead_of q ≡ lead_of part
  same_lead = search (rules, q_split, gap_same, p_split)

  changed : x.broken ≡ true → length (new_text (put_segments x (lines ++ break_text l.br))) ≤ text_limit →
      IsChanged c (put_document doc q c) doc (lead_of part)
      (changed_at steps (within (append_child (label (entry doc steps key v c x read at g (break_text l.br) (break_uncommented l.br)).line)
      (content_under (entry doc steps key v c x read at g (break_text l.br) (break_uncommented l.br)).line (entry doc steps key v c x read at g (break_text l.br) (break_uncommented l.br)).under))))
  changed broken size =
      let uncommented = break_uncommented l.br in
      let w = entry doc steps key v c x read at g (break_text l.br) uncommented in
      block_appended (cut_text c) c doc part steps place.h place.front place.back new w.deep.0 w.line w.under (there doc steps c x read at) place.collection place.count
      (written doc steps key v c x read at g (break_text l.br) uncommented) (takes broken) (readable size)

  -- the cut of the new text
  pub inside_read : x.broken ≡ true → length (new_text (put_segments x (lines ++ break_text l.br))) ≤ text_limit → read_at (cut_text (put_document doc q c)) ≡ Some (put_document doc q c)
  inside_read broken size = (changed broken size).read

  pub inside_both : x.broken ≡ true → length (new_text (put_segments x (lines ++ break_text l.br))) ≤ text_limit →
      ReadsAfter (append doc steps key v) c (new_text (put_segments x (lines ++ break_text l.br))) × IsLocalTo (put_segments x (lines ++ break_text l.br)) c
  inside_both broken size =
      let uncommented = break_uncommented l.br in
      let is_changed = changed broken size in
      let ss : List Segment = put_segments x (lines ++ break_text l.br) in
      let before_is : x.before ≡ (place.start ++ rows_text place.front []) ++ [] = place.before_is ∙ sym (append-nil (place.start ++ rows_text place.front [])) in
      let local : IsLocal ss c (put_document doc q c) =
      rows_local ss c doc q (record {
        p = part;
        there = (there doc steps c x read at).there;
        start = place.start;
        put = place.new_text;
        front = place.front;
        gone = [];
        come = new;
        back = place.back;
        rows_are = place.rows_are;
        come_are = q_rows;
        end_is = own_end place.back part.end;
        lead = [];
        trail = [];
        before_is = append-nil x.before ∙ before_is;
        following_is = append-nil x.after ∙ place.following_is;
        puts = refl;
        old_is = ap (λ z. x.before ++ z) (append-nil x.after) ∙ old_is doc steps c x read at;
        new_is = sym new_is;
      }) refl (first_nothing (rows_items new [])) refl (last_nothing (rows_items new [])) in (
        subst (ReadsAfter (append doc steps key v) c) new_is
            (finished doc steps key v c x read at g q (break_text l.br) uncommented is_changed same_lead same_block
            (ap no_rows q_split ∙ front_some place.others place.last (new ++ place.back))),
        cut_known ss c (put_document doc q c) is_changed.read new_is local,
      )

-- ---- one item or entry more at the end of a block collection: the segments that put it there, and what they come to

-- ---- at the end of a collection

-- what is put there, by whether its last line has a break
abbrev put_at : ℕ → Option (List ℕ) → Node → Cut → CollectionEnd → Bool → List Segment
put_at n key v c x b = put_segments x (closed_lines_put b (break_text (layout_of n c).br) (entry_lines (layout_of n c) x.column key v))

put_both : (n : ℕ) (steps : List Step) (key : Option (List ℕ)) (v : Node) (c : Cut) (x : CollectionEnd) (read : read_at (cut_text c) ≡ Some c) (at : IsAppendPlace n steps c x) → IsAsked steps key v (p n steps c x read at) →
    length (new_text (put_at n key v c x x.broken)) ≤ text_limit → ReadsAfter (append n steps key v) c (new_text (put_at n key v c x x.broken)) × IsLocalTo (put_at n key v c x x.broken) c
put_both n steps key v c x read at g = go x.broken refl
  where
    go : (b : Bool) → x.broken ≡ b → length (new_text (put_at n key v c x b)) ≤ text_limit → ReadsAfter (append n steps key v) c (new_text (put_at n key v c x b)) × IsLocalTo (put_at n key v c x b) c
    go true is size = inside_both n steps key v c x read at g is size
    go false is size = end_both n steps key v c x read at g is size

pub asked : (n : ℕ) (steps : List Step) (key : Option (List ℕ)) (v : Node) (c : Cut) (x : CollectionEnd) (read : read_at (cut_text c) ≡ Some c)
    (at : IsAppendPlace n steps c x) → HasOperand (append n steps key v) → Fits (room_of (cut_text c)) (append n steps key v) (documents c) →
    IsAsked steps key v (p n steps c x read at)
asked n steps key v c x read at operand fits = search (rules, same_Some, nth_map, tree_unique)

-- Segments put a text at the end of a collection.
pub record IsPutAt (x : CollectionEnd) (new : List ℕ) (ss : List Segment) : Type 0 where
  pub before : kept_front ss ≡ x.before
  pub after : kept_back ss ≡ x.after
  pub old : old_text ss ≡ x.before ++ x.after
  pub text : new_text ss ≡ x.before ++ (new ++ x.after)

pub edit_at : (n : ℕ) (steps : List Step) (key : Option (List ℕ)) (v : Node) (c : Cut) (x : CollectionEnd) (ss : List Segment) → read_at (cut_text c) ≡ Some c → IsAppendPlace n steps c x →
    IsPutAt x (closed_lines_put x.broken (break_text (layout_of n c).br) (entry_lines (layout_of n c) x.column key v)) ss → IsEdit (append n steps key v) c ss
edit_at n steps key v c x ss read at is = record {
  old = is.old ∙ old_is n steps c x read at;
  carried = λ operand fits size.
      let us : List Segment = put_at n key v c x x.broken in
      let new : List ℕ = closed_lines_put x.broken (break_text (layout_of n c).br) (entry_lines (layout_of n c) x.column key v) in
      let text : new_text us ≡ new_text ss = ap (λ z. x.before ++ (new ++ z)) (append-nil x.after) ∙ sym is.text in
      let both = put_both n steps key v c x read at (asked n steps key v c x read at operand fits) (subst (λ t. length t ≤ text_limit) (sym text) size) in
      record {
        reads = subst (ReadsAfter (append n steps key v) c) text both.0;
        local = inl (λ d reads.
            let h = both.1 d (subst (λ t. read_at t ≡ Some d) (sym text) reads) in
            record {
              front = h.front;
              gone = h.gone;
              come = h.come;
              back = h.back;
              lead = h.lead;
              trail = h.trail;
              old_are = h.old_are;
              new_are = h.new_are;
              before_is = is.before ∙ (sym (append-nil x.before) ∙ h.before_is);
              following_is = is.after ∙ (sym (append-nil x.after) ∙ h.following_is);
              begins = h.begins;
              ends = h.ends;
            });
      };
}

-- ---- the segments

pub held_put_at : (h : Held) (column : ℕ) (new : List ℕ) (before : List ℕ) (broken : Bool) → h.before ++ (h.space ++ (h.head ++ (h.white ++ (h.comment ++ (h.break ++ (h.lines ++ h.last)))))) ≡ before →
    IsPutAt (record { column = column; before = before; broken = broken; after = h.after }) new (after_held h new)
held_put_at h column new before broken is = search (rules, append-nil, append_assoc)

pub lines_put_at : (w : LinesIn) (column : ℕ) (new text : List ℕ) (broken : Bool) → w.before ++ (w.lines ++ w.last) ≡ text →
    IsPutAt (record { column = column; before = text; broken = broken; after = w.after }) new (after_lines w new)
lines_put_at w column new text broken is = search (rules, append_assoc, append-nil)
