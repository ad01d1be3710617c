-- What the code answers is the span of a piece, and the text holds each.
use Rattle.std.proofs.Common.{◌≡◌, ◌⊎◌, inl, inr, ℕ, ◌+◌, ◌-◌, List, ◌++◌, length, take, drop, map, Option, Some, None, option_map, true}
use Rattle.std.proofs.Common.{refl, sym, ap, ◌∙◌, subst, arith, rules, [], append_assoc, ◌∷◌}
use Rattle.std.{proofs.Math.Seq.{take-append_seam, drop-append_seam}, proofs.lemmas.Str.{IsUtf8-take, IsUtf8-between, IsUtf8-from_is_utf8}}
use Rattle.std.{specs.List.slice_get, specs.Str.{is_utf8, IsUtf8}, proofs.lemmas.Option.none-some}
use Rattle.yq_core.{specs.Answers.◌>>=◌, proofs.Bools.{bind_some, guard_then}, specs.Spans.IsSpan, specs.Paths.Step}
use Rattle.yq_core.specs.Text.{text_lines, upto}
use Rattle.yq_row_table.{specs.Exchange.HasPieces, specs.Grammar.IsCut, specs.Rows.{Part, Cut, cut_text, Content, Nothing, content_text}}
use Rattle.yq_row_table.specs.View.{content_cut}
use Rattle.yq_documents.{specs.declared.path.Part.Part as WhichPart, specs.declared.path.Path.Path, specs.Documents.document_parts}
use Rattle.yq_documents.{specs.PartNumbers.part_number, specs.Located.steps_of}
use Rattle.yq_documents.specs.Pieces.{piece_span, HoldsPiece, TextPiece, content_comment, gap_comment, tail_comment}
use Rattle.yq_documents.{specs.Reading.{all_documents, read_at}, specs.LinesInRows.document_row, proofs.PartRows.{each, part_begins}}
use Rattle.yq_documents.proofs.ReadLaws.{text_takes}
use Rattle.yq_places.{specs.EntryReading.{content_row_place, entry_at}, proofs.EntryPlacedLaws.entries_placed}
use Rattle.yq_places.{proofs.RowPathLaws.document_fine, specs.PrintedLines.{line_in, printed_lines, line_rest, print_lines}}
use Rattle.yq_places.specs.PathPieces.{PrintedDocument, printed_part, printed_document, piece_in, path_piece, BlockEntry, found_entry}
use Rattle.yq_places.{specs.PathPieces.piece_in_entry, specs.PlacedRows.{placed_at, placed_document}, specs.PieceLaws.PiecesHold}
use Rattle.yq_places.proofs.PieceTexts.{document_text, document_whole, whole_text, entry_text, entry_whole, tail_text}
use Rattle.yq_places.{proofs.PrintedLaws.{lines_are, document_is, IsPrinted, ArePrinted}, proofs.PrintedRowLines.document_placed}
use Rattle.yq_places.{proofs.PieceSpans.{contents_span, entries_span}, proofs.CommentPieceLaws.{Ended, gap_piece, tail_piece}}
use Rattle.yq_places.proofs.FoundEntries.{entry_found}
use Rattle.yq_outline.{specs.Group.{group, is_fine}, specs.Outline.flatten, specs.Places.{FoundLine, find, lines_before}}
use Rattle.yq_documents.specs.declared.path.Part.TheVariants as parts

-- ---- the text holds the pieces of comments

pub no_tail : (before after : List ℕ) → tail_comment before [] after ≡ None
unfolding upto
no_tail before after = refl

pub no_gap : (before after : List ℕ) → gap_comment before [] after ≡ None
unfolding text_lines
no_gap before after = refl

pub no_comment : (before : List ℕ) (c : Content) (after : List ℕ) → c ≡ Nothing [] → content_comment before c after ≡ None
no_comment before c after e = ap (λ x. content_comment before x after) e ∙ no_tail (before ++ []) ([] ++ after)

content_holds : (before : List ℕ) (c : Content) (after : List ℕ) (x : TextPiece) (t : List ℕ) → before ++ content_text c after ≡ t → IsUtf8 t →
    (c ≡ Nothing []) ⊎ Ended (content_cut c).4 ((content_cut c).5 ++ after) → content_comment before c after ≡ Some x → HoldsPiece t x
content_holds before c after x t text u (inl none) is = absurd (none-some _ (sym (no_comment before c after none) ∙ is))
content_holds before c after x t text u (inr ended) is =
    let s = content_cut c in
    let whole = tail_text before c after ∙ text in
    subst (λ q. HoldsPiece q x) whole (tail_piece (before ++ (s.0 ++ (s.1 ++ (s.2 ++ s.3)))) s.4 (s.5 ++ after) x (subst IsUtf8 (sym whole) u) ended is)

entry_holds : (e : BlockEntry) (x : TextPiece) → IsUtf8 (entry_text e) → IsPrinted e.line (print_lines e.under e.after) →
    (piece_in_entry parts.LineComment [] e ≡ Some x) ⊎ (piece_in_entry parts.HeadComment [] e ≡ Some x) → HoldsPiece (entry_text e) x
entry_holds e x u as_printed (inl is) = search (rules, content_holds, entry_text, append_assoc)
entry_holds e x u as_printed (inr is) =
    let rest = e.line.spaces ++ line_rest e.line (print_lines e.under e.after) in
    let whole : e.before ++ (e.line.gap ++ (e.line.spaces ++ line_rest e.line (print_lines e.under e.after))) ≡ entry_text e = simp (append_assoc) in
    subst (λ q. HoldsPiece q x) whole (gap_piece e.before e.line.gap rest x (subst IsUtf8 (sym whole) u) as_printed.gap is)

pub comments_hold : (steps : List Step) (s : PrintedDocument) (x : TextPiece) → IsUtf8 (document_text s) → ArePrinted s.lines s.after →
    (piece_in parts.LineComment steps s ≡ Some x) ⊎ (piece_in parts.HeadComment steps s ≡ Some x) → HoldsPiece (document_text s) x
comments_hold [] s x u as_printed (inl is) = absurd (none-some _ is)
comments_hold [] s x u as_printed (inr is) = absurd (none-some _ is)
comments_hold (y ∷ ys) s x u as_printed is = go is
  where
    found : (f : FoundLine) (rest : List Step) (e : BlockEntry) → find y ys (group (map line_in s.lines)) ≡ Some (f, rest) → found_entry s f ≡ Some e →
        (piece_in_entry parts.LineComment rest e ≡ Some x) ⊎ (piece_in_entry parts.HeadComment rest e ≡ Some x) → HoldsPiece (document_text s) x
    found f (t ∷ ts) e at there (inl is) = absurd (none-some _ is)
    found f (t ∷ ts) e at there (inr is) = absurd (none-some _ is)
    found f [] e at there is =
        let whole = entry_whole s (length (lines_before f.place)) (length (flatten f.under)) e there in
        subst (λ q. HoldsPiece q x) whole (entry_holds e x (subst IsUtf8 (sym whole) u) (entry_found s y ys [] f e at as_printed there).as_printed.0 is)

    go : (piece_in parts.LineComment (y ∷ ys) s ≡ Some x) ⊎ (piece_in parts.HeadComment (y ∷ ys) s ≡ Some x) → HoldsPiece (document_text s) x
    go (inl is) =
        let f = bind_some (find y ys (group (map line_in s.lines))) is in
        let e = bind_some (found_entry s f.0.0) f.2 in
        found f.0.0 f.0.1 e.0 f.1 e.1 (inl e.2)
    go (inr is) =
        let f = bind_some (find y ys (group (map line_in s.lines))) is in
        let e = bind_some (found_entry s f.0.0) f.2 in
        found f.0.0 f.0.1 e.0 f.1 e.1 (inr e.2)

-- ---- what the code answers is the span of a piece, and the text holds each

none_map : {A B : Type 0} (f : A → B) (o : Option A) → option_map f o ≡ None → o ≡ None
none_map f o h1 = search rules

-- no lines, no document
pub no_part : (n : ℕ) (c : Cut) → printed_document n c ≡ None → slice_get (document_parts c) n ≡ None
no_part n c e = none_map (λ p. placed_at (part_number n c) c) _ (none_map printed_part (placed_document n c) e)

-- what the code answers is the span of the piece
pub spans_are : (t : List ℕ) (c : Cut) (path : Path) → IsCut t c → all_documents c ≡ true →
    (option_map piece_span (path_piece path parts.Content c) ≡ content_row_place path c) × (option_map piece_span (path_piece path parts.Entry c) ≡ entry_at path c)
spans_are t c path cut sound = go (printed_document path.doc c) refl
  where
    go : (o : Option PrintedDocument) → printed_document path.doc c ≡ o →
        (option_map piece_span (o >>= piece_in parts.Content (steps_of path)) ≡ content_row_place path c) × (option_map piece_span (o >>= piece_in parts.Entry (steps_of path)) ≡ entry_at path c)
    go None is = search (rules, no_part)
    go (Some s) is =
        let q = document_is path.doc c s cut.parts is in
        let p : Part = q.0 in
        let k : ℕ = document_row path.doc c in
        let b = part_begins c path.doc p q.1 in
        let fine : is_fine (group (map line_in (printed_lines p.rows))) ≡ true = subst (λ ls. is_fine (group ls) ≡ true) (sym (lines_are p.rows)) (document_fine p (each (document_parts c) sound path.doc p q.1)) in
        let own : s ≡ record { before = s.before; lines = printed_lines p.rows; after = s.after } = (λ i. record { before = s.before; lines = q.2.lines i; after = s.after }) in
        search (rules, document_placed, document_text, document_whole, contents_span, entries_span, q, p, k, b, fine, own)

-- a text in three pieces, by the span of the second
pieces_at : (t before old after : List ℕ) → t ≡ before ++ (old ++ after) → IsUtf8 t → IsSpan t (length before) (length before + length old) → HasPieces t before old after
pieces_at t before old after text u span =
    let front : IsUtf8 (take (length before) t) = IsUtf8-take t (length before) u span.begins in
    let within : IsUtf8 (take (length before + length old - length before) (drop (length before) t)) = IsUtf8-between t (length before) (length before + length old) u span.ordered span.begins span.ends in
    let size : length before + length old - length before ≡ length old = omega arith in
    search (rules, drop-append_seam, take-append_seam, front, within)

pub pieces_hold : PiecesHold
unfolding read_at
pieces_hold t c path part x read found = go part found
  where
    text : t ≡ cut_text c
    text = (text_takes t c (guard_then (is_utf8 t) read).1).0.text

    u : IsUtf8 t
    u = IsUtf8-from_is_utf8 t (guard_then (is_utf8 t) read).0

    takes : IsCut t c × (all_documents c ≡ true)
    takes = text_takes t c (guard_then (is_utf8 t) read).1

    comment : (s : PrintedDocument) → printed_document path.doc c ≡ Some s → (piece_in parts.LineComment (steps_of path) s ≡ Some x) ⊎ (piece_in parts.HeadComment (steps_of path) s ≡ Some x) → HoldsPiece t x
    comment s is e =
        let whole = document_whole path.doc c s is ∙ sym text in
        subst (λ q. HoldsPiece q x) whole (comments_hold (steps_of path) s x (subst IsUtf8 (sym whole) u) (document_is path.doc c s takes.0.parts is).2.as_printed e)

    go : (part : WhichPart) → path_piece path part c ≡ Some x → HoldsPiece t x
    go parts.Content e =
        let span = sym (spans_are t c path takes.0 takes.1).0 ∙ ap (option_map piece_span) e in
        pieces_at t x.before x.text x.after (whole_text t c path parts.Content x read e) u (entries_placed t c path (piece_span x) takes.0 u (inr span))
    go parts.Entry e =
        let span = sym (spans_are t c path takes.0 takes.1).1 ∙ ap (option_map piece_span) e in
        pieces_at t x.before x.text x.after (whole_text t c path parts.Entry x read e) u (entries_placed t c path (piece_span x) takes.0 u (inl span))
    go parts.HeadComment e = comment (bind_some (printed_document path.doc c) e).0 (bind_some (printed_document path.doc c) e).1 (inr (bind_some (printed_document path.doc c) e).2)
    go parts.LineComment e = comment (bind_some (printed_document path.doc c) e).0 (bind_some (printed_document path.doc c) e).1 (inl (bind_some (printed_document path.doc c) e).2)
