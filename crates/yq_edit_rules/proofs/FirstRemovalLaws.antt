-- The first item or entry of a compact collection taken out of a text.
use Rattle.std.proofs.Common.{rules, ◌≡◌, ◌⊎◌, inl, inr, ℕ, ◌+◌, ◌<◌, ◌≤◌, Bool, true, false, cond, List, [], ◌∷◌, ◌++◌, length, replicate}
use Rattle.std.proofs.Common.{take, drop, Option, Some, None, refl, sym, ap, ◌∙◌, subst, arith, append_assoc}
use Rattle.std.{proofs.Math.Seq.take-append_seam, proofs.lemmas.List.{take-append-drop, length-append, length-take-le}}
use Rattle.std.{proofs.lemmas.Str.{IsUtf8-take, is_utf8-from_IsUtf8}, specs.Str.IsUtf8}
use Rattle.yq_core.{specs.Answers.◌>>=◌, specs.Paths.{Step, changed_at, remove_child, within}, specs.Text.{cut, no_space}}
use Rattle.yq_core.{proofs.Bools.guard_then, specs.Anchors.names_of}
use Rattle.yq_text.specs.Limit.{text_limit}
use Rattle.yq_outline.{specs.Ends.line_at_steps, specs.Group.{group, level_or, is_fine}, specs.Places.{plug, content_under}}
use Rattle.yq_outline.specs.Lines.{lines_from, lines_of_rows}
use Rattle.yq_row_table.{specs.Exchange.asked_after, specs.Grammar.{unlimited, AreRows, limit_after}}
use Rattle.yq_row_table.specs.Rows.{Row, after_columns, dashes_text, after_dashes, after_indent, following_gap, print_row, rows_text, Part}
use Rattle.yq_row_table.{specs.Rows.{part_text, Cut, cut_text}, proofs.NodePieces.{BeginsAscii, before_ascii}, proofs.PlaceLaws.row_then}
use Rattle.yq_row_table.{proofs.splices.SpliceTexts.{own_gap, own_end}, specs.Reading.begins_gap}
use Rattle.yq_documents.{specs.declared.path.Part.TheVariants.Entry, specs.Documents.{document_parts, lead_of}, specs.Pieces.TextPiece}
use Rattle.yq_documents.{specs.Reading.{part_outline, read_at, root_of}, specs.LinesInRows.{RowLine, row_line}, proofs.PartRows.each}
use Rattle.yq_documents.proofs.ReadLaws.{text_takes}
use Rattle.yq_places.specs.FirstPlaces.{less_spaces, end_spaces, first_out, first_removal, piece_between}
use Rattle.yq_places.{specs.PathPieces.{PrintedDocument, piece_in}, specs.RowPaths.IsReadable, proofs.RowPathLaws.document_fine}
use Rattle.yq_edit_rules.{specs.Appends.inserted, specs.Changed.{IsChanged, put_document}, specs.Conditions.AreSpared}
use Rattle.yq_edit_rules.{specs.DocumentRows.{IsDocumentPart, Known, after_document}, specs.Moved.{emptied_row, moved_up}}
use Rattle.yq_edit_rules.{specs.PathRows.IsEntryLine, specs.RemovalChanges.{IsTakenOut, MayTakeOut}, specs.Siblings.HasEntries}
use Rattle.yq_edit_rules.{specs.TextPieces.IsPiece, proofs.AfterLaws.end_is_change}
use Rattle.yq_edit_rules.proofs.FirstBreakLaws.{IsOneBreak, break_ascii, break_cut, ascii_break, dash_first, dashes_first, entries_first}
use Rattle.yq_edit_rules.proofs.FirstBreakLaws.{first_stays, last_dash}
use Rattle.yq_edit_rules.proofs.FirstChangeLaws.{dash_front, dash_less, dashes_front, dropped_changed, dropped_text, front_text}
use Rattle.yq_edit_rules.proofs.FirstChangeLaws.{inserted_text, moved_changed, moved_text, NoGap, no_gap, row_from}
use Rattle.yq_edit_rules.{proofs.FirstEntryLaws.{FirstRows, first_rows}, proofs.FirstOutLaws.{IsFirstOut, out_is, piece_is_there}}
use Rattle.yq_edit_rules.{proofs.FirstReplaceLaws.rows_after, proofs.FirstTextLaws.{FirstText, first_text}, proofs.OwnRowLaws.lines_counted}
use Rattle.yq_edit_rules.{proofs.PartLaws.{document_known, part_rows}, proofs.PathLaws.path_is_entry}
use Rattle.yq_edit_rules.proofs.PlaceTextLaws.{IsAround, around}
use Rattle.yq_edit_rules.proofs.RemovalChangeLaws.{snoc, may_go, FirstEntry, first_group, group_begins, keeps, root_entries}
use Rattle.yq_edit_rules.{proofs.RemovalPieceLaws.spaces_piece, proofs.TextPieceLaws.{cut_after, piece_back, pieces_joined, text_is_piece}}

-- bytes that end the last one of rows (own)
abbrev pub EndLastRow : List ℕ → List Row → Type 0
EndLastRow trail rows = (init : List Row) × (last : Row) × (rows ≡ init ++ (last ∷ [])) × (length trail ≤ length (print_row last []))

-- The rows that go with the first item or entry of a compact collection, and the row that is in their place.
pub record IsRowLeft (c : Cut) (k : ℕ) (x : TextPiece) (old new : Part) : Type 0 where
  pub front : List Row
  pub first : Row
  pub others : List Row
  pub row : Row
  pub back : List Row
  pub rows_are : old.rows ≡ front ++ ((first ∷ others) ++ back)
  pub new_are : new.rows ≡ front ++ (row ∷ back)
  pub end_is : new.end ≡ old.end
  pub start : List ℕ
  pub put : (q : Part) → cut_text (put_document k q c) ≡ start ++ part_text q (after_document k c)
  pub lead : List ℕ
  pub trail : List ℕ
  pub before_is : x.before ≡ (start ++ rows_text front []) ++ lead
  pub following_is : x.after ≡ trail ++ rows_text back (old.end ++ after_document k c)
  pub begins : length lead ≤ length (print_row first [])
  pub ends : IsOneBreak trail ⊎ EndLastRow trail (first ∷ others)

-- What is taken out, with its rows.
abbrev pub IsFirstGone : Cut → ℕ → List Step → TextPiece → Type 0
IsFirstGone c k steps x = (out : IsTakenOut c k steps (x.before ++ x.after)) × IsRowLeft c k x out.old out.new

module _ (c : Cut) (k : ℕ) (y : Step) (ys ss : List Step) (s : Step) (x : TextPiece) (same : y ∷ ys ≡ ss ++ (s ∷ [])) (read : read_at (cut_text c) ≡ Some c) (e : IsFirstOut c k (y ∷ ys) x)
    (may : MayTakeOut c k (ss ++ (s ∷ []))) (size : length (x.before ++ x.after) ≤ text_limit) where
  abbrev t : List ℕ
  t = cut_text c

  abbrev p : Part
  p = e.part

  abbrev q : RowLine
  q = e.row_line

  abbrev r : Row
  r = q.row

  abbrev m : ℕ
  m = level_or 0 (part_outline p)

  abbrev rest : List ℕ
  rest = after_document k c

  abbrev ns : List ℕ
  ns = take q.line r.dashes

  abbrev es : List ℕ
  es = drop q.line r.dashes

  old : IsDocumentPart t c k p
  old = record { read = read; there = e.there }

  known : Known t c p
  known = document_known t c k p old

  w : IsEntryLine ss s (part_outline p) e.number
  w = path_is_entry p m ss s e.number known.even (subst (λ (zs : List Step). line_at_steps zs (lines_of_rows p.rows) ≡ Some e.number) same e.line)

  go : HasEntries (plug w.f.place w.f.after) × AreSpared (names_of (content_under w.f.line w.f.under)) [] (names_of (root_of p))
  go = may_go t c k p ss s w.h w.f old w.entry may

  fr : FirstRows p w.h w.f q
  fr = first_rows p m ss s w.h w.f q known.even w.entry (subst (λ (j : ℕ). row_line j p.rows ≡ Some q) w.number e.row_line_is) e.later go.0

  a : IsAround k c p
  a = around k c p e.there

  fine : is_fine (group (lines_of_rows p.rows)) ≡ true
  unfolding read_at
  fine = document_fine p (each (document_parts c) (text_takes t c (guard_then _ read).1).1 k p e.there)

  are : AreRows unlimited p.rows p.end rest
  are = part_rows t c k p old known.cut

  abbrev next : List ℕ
  next = rows_text (fr.next ∷ fr.back) (p.end ++ rest)

  ft : FirstText a.start (p.end ++ rest) q fr.front (fr.next ∷ fr.back) e.piece
  ft =
      first_text p a.start rest w.h w.f q fr e.later e.number w.number e.row_line_is (lines_counted p m ss s w.h w.f known.even w.entry e.number w.number) fine are y ys e.piece e.line
      (ap (λ (o : Option PrintedDocument). o >>= piece_in Entry (y ∷ ys)) (sym a.printed) ∙ e.is)

  ns_some : 0 < length ns
  ns_some = omega (arith, length-take-le q.line r.dashes fr.within, e.later)

  dash : (init : List ℕ) × (n : ℕ) × (ns ≡ init ++ (n ∷ []))
  dash = last_dash ns ns_some

  -- the text up to the dash
  abbrev upto_dash : List ℕ
  upto_dash = a.start ++ rows_text fr.front (dashes_front r dash.0)

  before_is : e.piece.before ≡ upto_dash ++ (45 ∷ replicate dash.1 32)
  before_is =
      ft.before
      ∙ (ap (λ ds. a.start ++ rows_text fr.front (dashes_front r ds)) dash.2
      ∙ (ap (λ (u : List ℕ). a.start ++ rows_text fr.front u) (dash_front r dash.0 dash.1) ∙ front_text a.start fr.front (dashes_front r dash.0) (45 ∷ replicate dash.1 32)))

  whole : t ≡ e.piece.before ++ (e.piece.text ++ e.piece.after)
  whole = piece_is_there c k (y ∷ ys) x e

  dash_piece : IsPiece (upto_dash ++ (45 ∷ []))
  dash_piece =
      let more : List ℕ = replicate dash.1 32 ++ (e.piece.text ++ e.piece.after) in
      let text : t ≡ (upto_dash ++ (45 ∷ [])) ++ more = simp (whole, before_is, append_assoc, more) in
      (cut_after (upto_dash ++ (45 ∷ [])) more (subst IsPiece text (text_is_piece c read)) (record { front = upto_dash; last = 45; is = refl; ascii = omega arith })
      (record { front = upto_dash; last = 45; is = refl; no_return = refl })).0

  before_piece : IsPiece e.piece.before
  before_piece = subst IsPiece (append_assoc upto_dash (45 ∷ []) (replicate dash.1 32) ∙ sym before_is) (pieces_joined (upto_dash ++ (45 ∷ [])) (replicate dash.1 32) dash_piece (spaces_piece dash.1))

  after_piece : IsPiece e.piece.after
  after_piece =
      let above : List ℕ = e.piece.before ++ e.piece.text in
      let all : IsPiece (above ++ e.piece.after) = subst IsPiece (whole ∙ sym (append_assoc e.piece.before e.piece.text e.piece.after)) (text_is_piece c read) in
      let begins : BeginsAscii e.piece.after = subst BeginsAscii (sym ft.after) (break_ascii ft.break next ft.one) in
      piece_back above e.piece.after (subst IsUtf8 (take-append_seam above e.piece.after)
      (IsUtf8-take (above ++ e.piece.after) (length above) all.utf8 (before_ascii above e.piece.after begins))) all

  readable : (new u : List ℕ) → new ≡ u → IsPiece u → length u ≤ text_limit → IsReadable new
  readable new u is piece less = search (rules, is_utf8-from_IsUtf8)

  -- what is taken out, by whether a gap comes before the next row
  abbrev either : Bool → TextPiece
  either b = cond b (piece_between (less_spaces e.piece.before) (end_spaces e.piece.before ++ e.piece.text) e.piece.after)
      (piece_between e.piece.before (e.piece.text ++ (ft.break ++ (cut no_space next).0)) (cut no_space next).1)

  -- a row in the place of others
  taken : (new : Row) (back : List Row) (u : List ℕ) → cut_text (put_document k (inserted fr.front (new ∷ []) back p) c) ≡ u → FirstEntry (lines_of_rows (new ∷ back)) →
      IsChanged c (put_document k (inserted fr.front (new ∷ []) back p) c) k (lead_of (inserted fr.front (new ∷ []) back p)) (changed_at ss (within (remove_child s))) → IsTakenOut c k (ss ++ (s ∷ [])) u
  taken new back u text first changed =
      let n : Part = inserted fr.front (new ∷ []) back p in
      let block : HasEntries (part_outline p) = root_entries ss (part_outline p) w.h w.entry.place_is w.entry.block in
      let old_first : FirstEntry (lines_of_rows (fr.front ++ (r ∷ (fr.gone ++ (fr.next ∷ fr.back))))) = search (rules, entries_first) in
      let new_first : FirstEntry (lines_of_rows n.rows) = search (rules, own_gap, first_stays) in
      record {
        old = p;
        new = n;
        there = e.there;
        rows = keeps p n new_first;
        text = text;
        changed = subst (IsChanged c (put_document k n c) k (lead_of n)) (λ i v. sym (end_is_change remove_child ss s v) i) changed;
        old_block = group_begins (lines_of_rows p.rows) block;
        new_block = group_begins (lines_of_rows n.rows) (first_group (lines_of_rows n.rows) new_first);
        new_entries = first_group (lines_of_rows n.rows) new_first;
      }

  -- the text up to the row
  front_row : (u : List ℕ) → a.start ++ rows_text fr.front u ≡ (a.start ++ rows_text fr.front []) ++ u
  front_row u = front_text a.start fr.front [] u

  own_dashes : r.dashes ≡ ns ++ es
  own_dashes = sym (take-append-drop q.line r.dashes)

  row_long : length (dashes_front r ns) ≤ length (print_row r [])
  row_long = omega (arith, ap length (row_from r ns es [] own_dashes), length-append (dashes_front r ns) (dashes_text es (after_dashes r [])))

  dropped : length (less_spaces e.piece.before ++ e.piece.after) ≤ text_limit → IsFirstGone c k (ss ++ (s ∷ [])) (either true)
  unfolding taken
  dropped less =
      let new : Row = emptied_row r dash.0 ft.break in
      let back : List Row = fr.next ∷ fr.back in
      let front : less_spaces e.piece.before ≡ upto_dash ++ (45 ∷ []) = ap less_spaces before_is ∙ dash_less upto_dash dash.1 in
      let text : cut_text (put_document k (inserted fr.front (new ∷ []) back p) c) ≡ less_spaces e.piece.before ++ e.piece.after =
      a.put (inserted fr.front (new ∷ []) back p)
      ∙ (ap (λ (u : List ℕ). a.start ++ u) (inserted_text fr.front back new p rest ∙ ap (rows_text fr.front) (dropped_text r dash.0 ft.break next))
      ∙ (front_text a.start fr.front (dashes_front r dash.0) (45 ∷ (ft.break ++ next)) ∙ (sym (append_assoc upto_dash (45 ∷ []) (ft.break ++ next)) ∙ (λ i. sym front i ++ sym ft.after i)))) in
      let piece : IsPiece (less_spaces e.piece.before ++ e.piece.after) = pieces_joined (less_spaces e.piece.before) e.piece.after (subst IsPiece (sym front) dash_piece) after_piece in
      let lead : List ℕ = dashes_front r dash.0 ++ (45 ∷ []) in (
        taken new back _ text (dash_first _ r.column dash.0 new.content (lines_of_rows back))
            (dropped_changed t c k p ss s w.h w.f old w.entry go.0 go.1 fr.front fr.gone back r dash.0 es ft.break dash.1 fr.rows_are
            (sym (take-append-drop q.line r.dashes) ∙ ap (λ ds. ds ++ es) dash.2) ft.one
            (record {
              before_are = ap (λ ds. length (lines_of_rows fr.front) + length ds) (sym dash.2) ∙ fr.before;
              size_is = ap (λ ds. length (lines_from [] (after_columns r.column ds) es r.mark r.content ++ lines_of_rows fr.gone)) (sym dash.2) ∙ fr.size;
            })
            (readable _ _ text piece less)),
        record {
          front = fr.front;
          first = r;
          others = fr.gone;
          row = new;
          back = back;
          rows_are = fr.rows_are;
          new_are = ap (λ (rs : List Row). fr.front ++ (new ∷ rs)) (own_gap back p.end);
          end_is = own_end back p.end;
          start = a.start;
          put = a.put;
          lead = lead;
          trail = ft.break;
          before_is = front ∙ (ap (λ (u : List ℕ). u ++ (45 ∷ [])) (front_row (dashes_front r dash.0)) ∙ append_assoc (a.start ++ rows_text fr.front []) (dashes_front r dash.0) (45 ∷ []));
          following_is = ft.after;
          begins = search (rules, arith, row_long, dashes_front, dash_front, length-append);
          ends = inl ft.one;
        },
      )

  moved : begins_gap next ≡ false → length (e.piece.before ++ (cut no_space next).1) ≤ text_limit → IsFirstGone c k (ss ++ (s ∷ [])) (either false)
  unfolding taken
  moved none less =
      let b : Row = fr.next in
      let new : Row = moved_up r ns b in
      let u : List ℕ = rows_text fr.back (p.end ++ rest) in
      let following = rows_after unlimited fr.front (r ∷ (fr.gone ++ (b ∷ fr.back))) p.end rest (subst (λ (rs : List Row). AreRows unlimited rs p.end rest) fr.rows_are are) in
      let own = rows_after (limit_after r) fr.gone (b ∷ fr.back) p.end rest following.1 in
      let g : NoGap b u = no_gap (asked_after (limit_after r) fr.gone) b u own.0 none in
      let after : (cut no_space next).1 ≡ after_indent b u = ap (λ (v : List ℕ × List ℕ). v.1) g.indent in
      let text : cut_text (put_document k (inserted fr.front (new ∷ []) fr.back p) c) ≡ e.piece.before ++ (cut no_space next).1 =
      a.put (inserted fr.front (new ∷ []) fr.back p)
      ∙ (ap (λ (v : List ℕ). a.start ++ v) (inserted_text fr.front fr.back new p rest ∙ ap (rows_text fr.front) (moved_text r b ns u))
      ∙ (front_text a.start fr.front (dashes_front r ns) (after_indent b u) ∙ (λ i. sym ft.before i ++ sym after i))) in
      let lines : IsPiece next = piece_back ft.break next (ascii_break ft.break ft.one) (subst IsPiece ft.after after_piece) in
      let indented : IsPiece (replicate b.column 32 ++ after_indent b u) = subst (λ (v : List ℕ). IsPiece (v ++ (replicate b.column 32 ++ after_indent b u))) g.gap lines in
      let piece : IsPiece (e.piece.before ++ (cut no_space next).1) =
      pieces_joined e.piece.before (cut no_space next).1 before_piece (subst IsPiece (sym after) (piece_back (replicate b.column 32) (after_indent b u) (spaces_piece b.column).utf8 indented)) in
      let own_next : after_indent b u ≡ after_indent b [] ++ u = row_then (record b { gap = []; column = 0 }) [] u in (
        taken new fr.back _ text (dashes_first _ r.column ns b.dashes b.mark b.content (lines_of_rows fr.back) ns_some)
            (moved_changed t c k p ss s w.h w.f old w.entry go.0 go.1 fr.front fr.gone fr.back r b ns es fr.rows_are
            (record { dashes = sym (take-append-drop q.line r.dashes); some = ns_some; column = fr.column; entry = fr.entry }) g.gap (record { before_are = fr.before; size_is = fr.size })
            (readable _ _ text piece less)),
        record {
          front = fr.front;
          first = r;
          others = fr.gone ++ (b ∷ []);
          row = new;
          back = fr.back;
          rows_are = fr.rows_are ∙ ap (λ (rs : List Row). fr.front ++ (r ∷ rs)) (sym (append_assoc fr.gone (b ∷ []) fr.back));
          new_are = ap (λ (rs : List Row). fr.front ++ (new ∷ rs)) (own_gap fr.back p.end);
          end_is = own_end fr.back p.end;
          start = a.start;
          put = a.put;
          lead = dashes_front r ns;
          trail = after_indent b [];
          before_is = ft.before ∙ front_row (dashes_front r ns);
          following_is = after ∙ own_next;
          begins = row_long;
          ends = inr (r ∷ fr.gone, b, refl, omega (arith, length-append b.gap (following_gap b []), length-append (replicate b.column 32) (after_indent b [])));
        },
      )

  out_as : first_out e.piece ≡ either (begins_gap next)
  out_as = search (rules, ft, break_cut)

  out_is_so : (b : Bool) → begins_gap next ≡ b → x ≡ either b
  out_is_so b is = sym e.out ∙ (out_as ∙ ap either is)

  by_gap : (b : Bool) → begins_gap next ≡ b → IsFirstGone c k (ss ++ (s ∷ [])) x
  by_gap true is = subst (IsFirstGone c k (ss ++ (s ∷ []))) (sym (out_is_so true is)) (dropped (subst (λ (o : TextPiece). length (o.before ++ o.after) ≤ text_limit) (out_is_so true is) size))
  by_gap false is = subst (IsFirstGone c k (ss ++ (s ∷ []))) (sym (out_is_so false is)) (moved is (subst (λ (o : TextPiece). length (o.before ++ o.after) ≤ text_limit) (out_is_so false is) size))

  pub first_taken : IsFirstGone c k (ss ++ (s ∷ [])) x
  first_taken = by_gap (begins_gap next) refl

pub first_gone : (c : Cut) (k : ℕ) (steps : List Step) (x : TextPiece) → read_at (cut_text c) ≡ Some c → first_removal k steps c ≡ Some x → MayTakeOut c k steps → length (x.before ++ x.after) ≤ text_limit → IsFirstGone c k steps x
first_gone c k steps x read e may size = go steps refl (out_is c k steps x e)
  where
    go : (ts : List Step) → steps ≡ ts → IsFirstOut c k steps x → IsFirstGone c k steps x
    go [] is h = absurd (let none : None ≡ Some h.number = ap (λ (ts : List Step). line_at_steps ts (lines_of_rows h.part.rows)) (sym is) ∙ h.line in cc)
    go (y ∷ ys) is h =
        let v = snoc y ys in
        subst (λ (zs : List Step). IsFirstGone c k zs x) (sym (is ∙ v.2))
        (first_taken c k y ys v.0 v.1 x v.2 read (subst (λ (zs : List Step). IsFirstOut c k zs x) is h) (subst (MayTakeOut c k) (is ∙ v.2) may) size)
