-- A line comment set: the text reads as the documents after that.
use Rattle.std.proofs.Common.{◌≡◌, ℕ, ◌≤◌, Bool, true, false, ◌&&◌, not, cond, eqb, List, [], ◌∷◌, ◌++◌, length, Some, refl, sym, ap, ◌∙◌}
use Rattle.std.{proofs.Common.{subst, append_assoc, append-nil, arith, length-append}, proofs.lemmas.Bool.eqb-true}
use Rattle.std.{proofs.lemmas.Option.same_Some, specs.Str.IsUtf8}
use Rattle.yq_core.{specs.Paths.{Step, changed_at, relabel_child, within}, specs.Text.is_empty, specs.Tree.Node, proofs.Bools.guard_then}
use Rattle.yq_text.{specs.Limit.text_limit, specs.Script.{Segment, keep, put, old_text, new_text, are_kept, kept_front, kept_back}}
use Rattle.yq_outline.specs.Comments.{line_comment as comment_in}
use Rattle.yq_row_table.{specs.Exchange.row_front, specs.Grammar.IsTail}
use Rattle.yq_row_table.{specs.Rows.{Row, parent_indent, print_row, rows_text, Cut, cut_text}, specs.View.{Slices, slices}}
use Rattle.yq_places.{specs.CommentPlaces.{LineEnd, end_in_line}, proofs.LineEndLaws.line_tail, proofs.HeldRowLaws.no_root_rows}
use Rattle.yq_places.{proofs.RunSpans.rows_then, specs.RowPieces.anchor_before}
use Rattle.yq_places.specs.Placements.{Held, RowsOfEntry, before_entry, after_entry, held, held_by, rows_of_entry}
use Rattle.yq_documents.{specs.Documents.lead_of, specs.LinesInRows.row_line_of, specs.Reading.{read_at, root_of}}
use Rattle.yq_documents.specs.TreeEdits.{with_line_comment}
use Rattle.yq_edit_rules.{specs.Done.ArePieces, specs.PathTails.{IsLineTail, tailed}}
use Rattle.yq_edit_rules.{specs.PlacementLaws.{HoldsPieces, HasItsRows, held_text}, specs.CommentEdits.{comment_put, comment_written}}
use Rattle.yq_edit_rules.{specs.EditLaws.{CarriedOut, IsEdit, LineCommentIsPut}, specs.RowChanges.{ChangesRow, LineCommentsChangeRows}}
use Rattle.yq_edit_rules.{specs.TextPieces.IsPiece, proofs.PathTailLaws.path_tail_put, proofs.TextPieceLaws.nothing}
use Rattle.yq_edit_rules.proofs.CommentPieceLaws.{byte_then, line_text_is}
use Rattle.yq_edit_rules.proofs.CommentRowLaws.{IsEntryRow, entry_found, row_line_is_block, some_steps}
use Rattle.yq_edit_rules.{proofs.HeldLaws.{below_is, held_spelled, held_there}, proofs.HeldPieces.{end_agrees, held_spells}}
use Rattle.yq_edit_rules.{proofs.PlacementMarks.{row_there, under_there}, proofs.PlacementRows.rows_located, proofs.TailPieces.white_piece}
use Rattle.yq_semantics.{specs.Changes.can_be_comment, specs.Meaning.line_comment_text, specs.Operations.{Operation, line_comment}}
use Rattle.yq_edit_laws.proofs.LineTails.{written, new_white, new_comment, tail_then, new_tail, new_comment_is, line_tail_is, shape_same}
use Rattle.yq_edit_laws.proofs.LineTails.{slices_tailed}
use Rattle.yq_edit_laws.proofs.OneRows.{MakesRow, PutsRow, at_last, first_row, row_carried, row_changes, shape_keeps, text_now}
use Rattle.yq_semantics.specs.declared.program.CommentPlace.TheVariants as comments

-- ---- the segments

-- What is known of the segments that set a line comment: what a key or dash holds has another white space and another comment then.
record IsCommentPut (h : Held) (white comment : List ℕ) (us : List Segment) : Type 0 where
  old : old_text us ≡ held_text h
  new : new_text us ≡ held_text (record h { white = white; comment = comment })
  puts : are_kept us ≡ false
  front : (more : List ℕ) × (kept_front us ≡ h.before ++ more)
  after : kept_back us ≡ h.break ++ (h.lines ++ (h.last ++ h.after))

comment_segments : (text : List ℕ) (h : Held) → IsCommentPut h (new_white text h.white h.comment) (new_comment text) (comment_put text h)
comment_segments text h = go (is_empty text) (is_empty h.comment)
  where
    go : (a b : Bool) → IsCommentPut h (cond a (cond b h.white []) (cond b (h.white ++ 32 ∷ []) h.white)) (cond a [] (written text)) (keep h.before ∷ (keep h.space ∷ (keep h.head ∷ (cond (a && not b) (put h.white []) (keep h.white)
        ∷ (put h.comment (cond a [] (cond b (32 ∷ (35 ∷ (32 ∷ text))) (35 ∷ (32 ∷ text)))) ∷ (keep h.break ∷ (keep h.lines ∷ (keep h.last ∷ (keep h.after ∷ [])))))))))
    go true true = record { old = simp append-nil refl; new = simp append-nil refl; puts = refl; front = (_, refl); after = simp append-nil refl }
    go true false = record { old = simp append-nil refl; new = simp append-nil refl; puts = refl; front = (_, refl); after = simp append-nil refl }
    go false true = record { old = simp append-nil refl; new = simp (append_assoc, append-nil) refl; puts = refl; front = (_, refl); after = simp append-nil refl }
    go false false = record { old = simp append-nil refl; new = simp append-nil refl; puts = refl; front = (_, refl); after = simp append-nil refl }

comment_piece : (text old : List ℕ) → IsPiece text → IsPiece (comment_written text old)
comment_piece text old t = go (is_empty text) (is_empty old)
  where
    go : (a b : Bool) → IsPiece (cond a [] (cond b (32 ∷ (35 ∷ (32 ∷ text))) (35 ∷ (32 ∷ text))))
    go true b = nothing
    go false true = byte_then 32 _ refl (byte_then 35 _ refl (byte_then 32 text refl t))
    go false false = byte_then 35 _ refl (byte_then 32 text refl t)

-- ---- the law

module _ (n : ℕ) (s : Step) (ss : List Step) (text : List ℕ) (c : Cut) (e : RowsOfEntry) (read : read_at (cut_text c) ≡ Some c) (is : rows_of_entry n (s ∷ ss) c ≡ Some e) (last : e.line ≡ length e.row.dashes)
    (utf8 : IsUtf8 text) (fit : can_be_comment comments.Line text ≡ true) where
  abbrev op : Operation
  op = line_comment n (s ∷ ss) text

  abbrev w : Held
  w = held e

  abbrev sl : Slices
  sl = slices e.row

  abbrev u : List ℕ
  u = rows_text e.under (after_entry e)

  abbrev us : List Segment
  us = comment_put text w

  there : HasItsRows n s ss c e
  there = rows_located n s ss c e read is

  found : IsEntryRow n (s ∷ ss) c e
  found = entry_found n (s ∷ ss) c e is

  no_breaks : Rattle.yq_core.proofs.Bytes.Each Rattle.yq_core.proofs.WrittenText.no_break text × IsPiece text
  no_breaks = line_text_is text utf8 fit

  h : IsTail (slices e.row).tail ((slices e.row).raw ++ rows_text e.under (after_entry e))
  h = line_tail (parent_indent e.row) e.row.content u (row_there n s ss c e there).content

  ends : end_in_line [] (slices e.row).tail ≡ record { before = []; white = h.white; comment = h.comment; after = h.line.break }
  ends = end_agrees sl.tail _ h

  abbrev tail : List ℕ
  tail = tail_then text sl.tail (sl.raw ++ u) h no_breaks.0

  abbrev new : Row
  new = tailed tail e.row

  k : IsCommentPut (held e) (new_white text (held e).white (held e).comment) (new_comment text) (comment_put text (held e))
  k = comment_segments text w

  -- what the key or dash holds then
  text_is : new_text (comment_put text (held e)) ≡ before_entry e ++ print_row new (rows_text e.under (after_entry e))
  text_is =
      let below : List ℕ = sl.raw ++ rows_text e.under [] in
      let end_then : LineEnd → LineEnd = λ a. record { before = []; white = new_white text a.white a.comment; comment = new_comment text; after = a.after } in
      k.new
      ∙ sym (held_spelled (record e { row = new })
      ∙ ((λ i. held_text (held_by e (slices_tailed e.row tail i) (end_in_line [] (slices_tailed e.row tail i).tail) ((slices_tailed e.row tail i).raw ++ rows_text e.under [])))
      ∙ ap (λ (a : LineEnd). held_text (held_by e (record sl { tail = tail }) a below)) (end_agrees tail _ (new_tail text sl.tail (sl.raw ++ u) h no_breaks.0) ∙ ap end_then (sym ends))))

  pieces : ArePieces (comment_put text (held e))
  pieces = go (is_empty text && not (is_empty w.comment))
    where
      p : HoldsPieces (held e)
      p = (held_spells n s ss c e read is last).1

      more : IsPiece (comment_written text (held e).comment) × ArePieces (keep w.break ∷ (keep w.lines ∷ (keep w.last ∷ (keep w.after ∷ []))))
      more = (comment_piece text w.comment no_breaks.1, (p.break, (p.lines, (p.last, (p.after, tt)))))

      go : (b : Bool) → ArePieces
          (keep w.before ∷ (keep w.space
          ∷ (keep w.head ∷ (cond b (put w.white []) (keep w.white)
          ∷ (put w.comment (comment_written text w.comment) ∷ (keep w.break ∷ (keep w.lines ∷ (keep w.last ∷ (keep w.after ∷ [])))))))))
      go true = (p.before, (p.space, (p.head, (nothing, more))))
      go false = (p.before, (p.space, (p.head, (subst (λ (a : LineEnd). IsPiece a.white) (sym ends) (white_piece h.white h.line.blank), more))))

  puts : PutsRow op c (first_row n s ss c e there) new (comment_put text (held e))
  puts =
      let z : List ℕ = after_entry e in
      let below : List ℕ = sl.raw ++ rows_text e.under [] in
      let line : List ℕ = (end_in_line [] sl.tail).after in
      record {
        old = k.old ∙ sym (held_there n (s ∷ ss) c e is);
        text = text_is ∙ sym (text_now op c (first_row n s ss c e there) new ∙ ap (λ l. before_entry e ++ print_row new l) (under_there n s ss c e there));
        puts = k.puts;
        front = omega (
          arith,
          ap length k.front.1,
          length-append w.before k.front.0,
          length-append (before_entry e ++ row_front e.row) (anchor_before sl),
          length-append (before_entry e) (row_front e.row),
        );
        after = omega (
          arith,
          ap length (under_there n s ss c e there),
          ap length (k.after ∙ sym (below_is below line z)),
          length-append line (below ++ z),
          length-append below z,
          length-append sl.raw (rows_text e.under []),
          ap length (rows_then e.under z),
          length-append (rows_text e.under []) z,
        );
        pieces = pieces;
      }

  steps_are : (init : List Step) × (l : Step) × (s ∷ ss ≡ init ++ l ∷ [])
  steps_are = some_steps (s ∷ ss) there.part.rows _ (found.line_is there.part there.old.there)

  abbrev change : Node → Node
  change = changed_at steps_are.0 (within (relabel_child steps_are.1 (with_line_comment (comment_in tail))))

  makes : MakesRow op c (first_row n s ss c e there) new change
  makes = record {
    lead = lead_of there.part;
    changed = path_tail_put (cut_text c) c n there.part steps_are.0 steps_are.1 (record { before = length e.front; row = e.row; line = e.line }) e.front (e.under ++ e.back) tail there.old
        (ap (λ (l : List Step). row_line_of l there.part.rows) (sym steps_are.2) ∙ found.line_is there.part there.old.there) last (record {
          rows_are = there.rows_are;
          fits = subst (IsLineTail tail e.row.content) (sym (under_there n s ss c e there)) (line_tail_is (parent_indent e.row) text e.row.content u h (row_there n s ss c e there).content no_breaks.0);
        })
        refl;
    root = ap (λ o. changed_at steps_are.0 (within (relabel_child steps_are.1 (with_line_comment o))) (root_of there.part)) (new_comment_is text sl.tail (sl.raw ++ u) h no_breaks.0)
        ∙ at_last (λ l. relabel_child l (with_line_comment (line_comment_text text))) (s ∷ ss) steps_are.0 steps_are.1 (root_of there.part) steps_are.2;
    keeps = shape_keeps op c (first_row n s ss c e there) new (shape_same e.row tail) (row_line_is_block (s ∷ ss) there.part.rows _ (found.line_is there.part there.old.there));
  }

  pub carried : length (new_text (comment_put text (held e))) ≤ text_limit → CarriedOut (line_comment n (s ∷ ss) text) c (comment_put text (held e))
  carried = row_carried op c (first_row n s ss c e there) new us puts change makes

  pub changes_row : length (new_text (comment_put text (held e))) ≤ text_limit → ChangesRow n c e (comment_put text (held e))
  changes_row size = row_changes op c (first_row n s ss c e there) new us puts change makes size e refl (shape_same e.row tail)

pub line_comment_is_put : LineCommentIsPut
line_comment_is_put n [] text c e ss read is so = absurd (no_root_rows n c e is)
line_comment_is_put n (s ∷ st) text c e ss read is so =
    let g = guard_then (eqb e.line (length e.row.dashes)) so in
    subst (IsEdit (line_comment n (s ∷ st) text) c) (same_Some _ _ g.1) (record {
      old = (comment_segments text (held e)).old ∙ sym (held_there n (s ∷ st) c e is);
      carried = λ utf8 fits size. carried n s st text c e read is (eqb-true e.line (length e.row.dashes) g.0) utf8 fits.2.1 size;
    })

pub line_comments_change_rows : LineCommentsChangeRows
line_comments_change_rows n [] text c e read is last utf8 fits size = absurd (no_root_rows n c e is)
line_comments_change_rows n (s ∷ ss) text c e read is last utf8 fits size = changes_row n s ss text c e read is last utf8 fits.2.1 size
