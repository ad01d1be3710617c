-- One item or entry more at the end of a text that has no final break: the break comes first.
use Rattle.std.proofs.Common.{rules, arith, inr, ◌≡◌, ℕ, ◌+◌, ◌≤◌, true, false, List, [], ◌∷◌, ◌++◌, length, Option, Some, refl, sym, ap}
use Rattle.std.proofs.Common.{◌∙◌, subst, append_assoc, append-nil}
use Rattle.yq_core.{specs.declared.block_types.Break.Break, specs.BlockWritten.break_text, specs.Paths.Step, specs.Tree.Node}
use Rattle.yq_core.specs.Text.{is_line}
use Rattle.yq_text.{specs.Limit.text_limit, specs.Script.{Segment, new_text}}
use Rattle.yq_outline.{specs.Outline.flatten, specs.Lines.lines_of_rows, specs.Places.lines_before}
use Rattle.yq_row_table.{specs.Rows.{print_row, Row, rows_text, Part, Cut, cut_text}, specs.Appending.{closed_by, is_one_break}}
use Rattle.yq_row_table.{proofs.PlaceLaws.row_then, proofs.seams.SeamLaws.rows_text-append, specs.Items.rows_items}
use Rattle.yq_row_table.specs.Grammar.{IsTail, limit_after}
use Rattle.yq_places.{specs.CollectionEnds.CollectionEnd, specs.RowPaths.IsReadable, proofs.RunSpans.rows_then}
use Rattle.yq_places.proofs.RemovalLines.{front_some}
use Rattle.yq_documents.specs.Reading.{read_at}
use Rattle.yq_edit_rules.{specs.declared.layout.Layout.Layout, specs.Alone.singleton, specs.BlockRows.node_rows}
use Rattle.yq_edit_rules.{proofs.TextLaws.value_spelled, specs.Changed.put_document, specs.CollectionPlaces.IsCollectionEnd}
use Rattle.yq_edit_rules.{specs.DocumentRows.after_document, proofs.TextPieceLaws.pieces_joined, specs.Local.{IsLocal, IsLocalTo}}
use Rattle.yq_edit_rules.{proofs.ItemsLocal.{first_within, last_nothing}, proofs.LocalLaws.{cut_known, rows_local}, specs.Layouts.layout_of}
use Rattle.yq_edit_rules.{specs.EntryEdits.entry_lines, specs.ReadsAfter.ReadsAfter, proofs.CommentPieceLaws.break_piece}
use Rattle.yq_edit_rules.{proofs.SegmentLaws.segments_readable, specs.BlockValues.IsEnd, specs.Ends.{TakesRowsLast, closed_with}}
use Rattle.yq_edit_rules.proofs.EndLaws.{end_of_text_appended}
use Rattle.yq_edit_rules.proofs.UnbrokenLaws.{EndsText, ends_text, closed_row, closed_text, closed_root, closed_lead}
use Rattle.yq_edit_rules.proofs.AppendEntryLaws.{none_uncommented}
use Rattle.yq_edit_rules.proofs.AppendPlaces.{IsAppendPlace, put_segments, old_is, p, there, e, allows_there, kept_pieces, IsAsked, entry}
use Rattle.yq_edit_rules.{proofs.AppendPlaces.{written, new_rows_are, entry_piece, filled, finished}, proofs.LaidRows.no_gap_here}
use Rattle.yq_semantics.specs.Operations.{append}

one_break : (br : Break) → is_one_break (break_text br) ≡ true
unfolding is_line
one_break br = search rules

-- nothing may come after rows
pub nothing_tail : IsTail [] []
nothing_tail = record { white = []; comment = []; line = record { break = []; spelled = refl; blank = tt; as_comment = tt; ends = inr (refl, refl) }; apart = refl }

nothing_ends : (column : ℕ) → IsEnd column [] ([] ++ [])
nothing_ends column = record { tail = nothing_tail; plain = refl }

module _ (doc : ℕ) (steps : List Step) (key : Option (List ℕ)) (v : Node) (c : Cut) (x : CollectionEnd) (read : read_at (cut_text c) ≡ Some c)
    (at : IsAppendPlace doc steps c x) (g : IsAsked steps key v (p doc steps c x read at)) (broken : x.broken ≡ false) where
  abbrev l : Layout
  l = layout_of doc c

  abbrev rest : List ℕ
  rest = after_document doc c

  abbrev part : Part
  part = p doc steps c x read at

  abbrev place : IsCollectionEnd c doc (p doc steps c x read at) steps x
  place = e doc steps c x read at

  abbrev new : List Row
  new = node_rows l x.column [] (singleton key v)

  abbrev lines : List ℕ
  lines = entry_lines l x.column key v

  abbrev q : Part
  q = closed_with place.others place.last (break_text l.br) new part

  ends : EndsText c doc part x place.others place.last
  ends = ends_text c doc part steps x place (allows_there doc steps c x read at) broken

  new_lines : rows_text new [] ≡ lines
  new_lines = search (rules, filled doc steps key v c x read at g, value_spelled, append-nil)

  new_is : cut_text (put_document doc q c) ≡ new_text (put_segments x (break_text l.br ++ lines))
  new_is =
      place.new_text q
      ∙ (ap (λ z. place.start ++ z) (closed_text part place.others new place.last (break_text l.br) rest lines ends.inline ends.rest_is new_lines)
      ∙ (sym (append_assoc place.start (rows_text (place.others ++ (place.last ∷ [])) []) (break_text l.br ++ lines))
      ∙ (ap (λ z. z ++ (break_text l.br ++ lines)) (ap (λ rs. place.start ++ rows_text rs []) (sym place.front_is) ∙ sym place.before_is)
      ∙ ap (λ z. x.before ++ z) (sym (append-nil (break_text l.br ++ lines)) ∙ ap (λ z. (break_text l.br ++ lines) ++ z) (sym (ap (λ z. z ++ []) ends.following_is))))))

  readable : length (new_text (put_segments x (break_text l.br ++ lines))) ≤ text_limit → IsReadable (cut_text (put_document doc q c))
  readable size =
      let kept = kept_pieces doc steps c x read at in
      subst IsReadable (sym new_is) (segments_readable (put_segments x (break_text l.br ++ lines)) (kept.0, (pieces_joined (break_text l.br) lines (break_piece l.br) (entry_piece doc steps key v c x read at g), (kept.1, tt))) size)

  takes : TakesRowsLast part place.others place.last (break_text l.br) new rest
  takes = record {
    rows_are = ends.rows_are;
    end_is = ends.end_is;
    rest_is = ends.rest_is;
    takes = record { inline = ends.inline; bare = ends.bare; break_is = one_break l.br };
    new_are = new_rows_are doc steps key v c x read at g [] [] [] (limit_after place.last) (nothing_ends x.column) ends.allowed (no_gap_here []);
  }

  count : length (lines_of_rows part.rows) ≡ length (lines_before place.h.place) + length (flatten place.h.lines)
  count = ap (λ rs. length (lines_of_rows rs)) (ends.rows_are ∙ sym place.front_is) ∙ place.count

  -- the last row gets a break, and the text up to there is its own
  before_last : x.before ≡ (place.start ++ rows_text place.others []) ++ print_row place.last []
  before_last =
      place.before_is
      ∙ (ap (λ rs. place.start ++ rows_text rs []) place.front_is
      ∙ (ap (λ t. place.start ++ t) (rows_text-append place.others (place.last ∷ []) [] ∙ rows_then place.others (print_row place.last [])) ∙ sym (append_assoc place.start (rows_text place.others []) (print_row place.last []))))

  longer : length (print_row place.last []) ≤ length (print_row (closed_by (break_text l.br) place.last) [])
  longer = first_within _ (print_row place.last []) (break_text l.br) (closed_row place.last (break_text l.br) [] ends.inline ∙ (ap (print_row place.last) (append-nil (break_text l.br)) ∙ row_then place.last [] (break_text l.br)))

  pub end_both : length (new_text (put_segments x (break_text l.br ++ lines))) ≤ text_limit →
      ReadsAfter (append doc steps key v) c (new_text (put_segments x (break_text l.br ++ lines))) × IsLocalTo (put_segments x (break_text l.br ++ lines)) c
  end_both size =
      let w = entry doc steps key v c x read at g [] none_uncommented in
      let changed =
      end_of_text_appended (cut_text c) c doc part steps place.h place.others new place.last (break_text l.br) w.deep.0 w.line w.under (there doc steps c x read at) place.collection count
      (written doc steps key v c x read at g [] none_uncommented) takes (readable size) in
      let ss : List Segment = put_segments x (break_text l.br ++ lines) in
      let local : IsLocal ss c (put_document doc q c) =
      rows_local ss c doc q (record {
        p = part;
        there = (there doc steps c x read at).there;
        start = place.start;
        put = place.new_text;
        front = place.others;
        gone = place.last ∷ [];
        come = closed_by (break_text l.br) place.last ∷ new;
        back = [];
        rows_are = ends.rows_are;
        come_are = refl;
        end_is = sym ends.end_is;
        lead = print_row place.last [];
        trail = [];
        before_is = append-nil x.before ∙ before_last;
        following_is = append-nil x.after ∙ (ends.following_is ∙ sym (λ i. ends.end_is i ++ ends.rest_is i));
        puts = refl;
        old_is = ap (λ z. x.before ++ z) (append-nil x.after) ∙ old_is doc steps c x read at;
        new_is = sym new_is;
      }) (omega arith) longer (omega arith) (last_nothing (rows_items (closed_by (break_text l.br) place.last ∷ new) [])) in (
        subst (ReadsAfter (append doc steps key v) c) new_is
            (finished doc steps key v c x read at g q [] none_uncommented changed (closed_lead part place.others new place.last (break_text l.br) ends.rows_are) (closed_root part place.others new place.last (break_text l.br) ends.rows_are)
            (front_some place.others (closed_by (break_text l.br) place.last) (new ++ []))),
        cut_known ss c (put_document doc q c) changed.read new_is local,
      )
