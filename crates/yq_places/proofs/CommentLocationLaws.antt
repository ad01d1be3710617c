-- The comments that are known of entries and items are those in the pieces there.
use Rattle.std.proofs.Common.{◌≡◌, ℕ, List, [], ◌∷◌, map, Option, Some, None, option_map, option_and_then, true, refl, sym, ap, ◌∙◌, subst}
use Rattle.std.{proofs.Common.{rules, Bool, cond, drop, false, length, ◌++◌, ◌<◌, arith}, proofs.lemmas.Option.slice_get-map}
use Rattle.std.{specs.List.slice_get, specs.Str.is_utf8, proofs.lemmas.Bool.{cond-false, cond-true, eqb-true}}
use Rattle.yq_core.{specs.Answers.◌>>=◌, specs.Paths.Step, specs.Tree.plain_label, proofs.Bools.guard_then}
use Rattle.yq_core.{specs.Text.{cut, ends_line, upto, is_empty, joined, text_lines, line_len}, proofs.LineLaws.{joined_lines, line_step}}
use Rattle.yq_row_table.{specs.Grammar.IsCut, specs.Rows.{Content, Cut}}
use Rattle.yq_documents.{specs.declared.path.Path.Path, specs.Documents.document_parts, specs.Located.{steps_of, labelled_located}}
use Rattle.yq_documents.specs.Pieces.{TextPiece, content_comment, last_run, before_run, tail_comment, gap_comment}
use Rattle.yq_documents.{specs.Reading.{all_documents, part_document, read_at}, proofs.RowLineLaws.tail_is, proofs.PartRows.each}
use Rattle.yq_documents.{proofs.ReadLaws.{cut_is, text_takes}, specs.Texts.texts, proofs.RunLaws.run_texts}
use Rattle.yq_places.specs.CommentLaws.{comment_of, comments_of, head_comment_of, CommentsAreThere}
use Rattle.yq_places.specs.PathPieces.{BlockEntry, PrintedDocument, printed_document, found_entry, piece_in_entry, piece_in}
use Rattle.yq_places.{specs.PrintedLines.line_in, proofs.FlowPieces.head_there, proofs.PieceHolds.no_part}
use Rattle.yq_places.{proofs.PrintedLaws.{ArePrinted, lines_are, document_is}, proofs.FoundEntries.{IsFound, entry_there, entry_found}}
use Rattle.yq_places.proofs.UncommentedLaws.{HasNone, Uncommented, uncommented_content, uncommented_reach}
use Rattle.yq_places.proofs.RowPathLaws.{document_fine}
use Rattle.yq_outline.{specs.Group.{group, is_fine}, specs.Labelled.{Labelled, labelled_from}, specs.Lines.{tail_of, lines_of_rows}}
use Rattle.yq_outline.{specs.Outline.{Line, anchored, head_or, value}, specs.Places.{FoundLine, find}, proofs.Finding.entry_of}
use Rattle.yq_outline.{proofs.LabelPaths.{reach, FoundEntry, path_entry}, proofs.Values.If}
use Rattle.yq_outline.specs.Comments.{comment_text, are_comments, head_comment}
use mathlib.Core.List.{tail-eq_of_cons-eq}
use Rattle.yq_outline.specs.Comments as comments
use Rattle.yq_documents.specs.declared.path.Part.TheVariants as parts

-- ---- the texts of comments, by where they are

-- the comment in a tail
cut_mark : (bs : List ℕ) → drop 1 (cut ends_line (35 ∷ bs)).0 ≡ (cut ends_line bs).0
unfolding upto
cut_mark bs = refl

pub tail_view : (before tail after : List ℕ) → option_map comment_of (tail_comment before tail after) ≡ comment_text tail
tail_view before tail after = search (rules, cut_mark, eqb-true)

-- the run in a gap is the lines of a text
abbrev RunIs : List (List ℕ) → Type 0
RunIs ls = (u : List ℕ) × (text_lines u ≡ last_run ls)

no_lines : (b : ℕ) (bs : List ℕ) → 0 < length (b ∷ bs)
no_lines b bs = omega arith

run_is : (ls : List (List ℕ)) (t : List ℕ) → text_lines t ≡ ls → RunIs ls
unfolding text_lines
run_is [] t e = ([], refl)
run_is (l ∷ ls) [] e = absurd (cc)
run_is (l ∷ ls) (b ∷ bs) e = go (are_comments (l ∷ ls)) refl (run_is ls (drop (line_len (b ∷ bs)) (b ∷ bs)) (tail-eq_of_cons-eq (sym (line_step (b ∷ bs) (no_lines b bs)) ∙ e)))
  where
    go : (c : Bool) → are_comments (l ∷ ls) ≡ c → RunIs ls → RunIs (l ∷ ls)
    go true h again = (b ∷ bs, e ∙ sym (cond-true _ _ _ h))
    go false h again = (again.0, again.1 ∙ sym (cond-false _ _ _ h))

lines_none : text_lines [] ≡ []
unfolding text_lines
lines_none = refl

pub gap_agrees : (before gap after : List ℕ) → comments_of (gap_comment before gap after) ≡ head_comment gap
gap_agrees before gap after =
    let run = run_is (text_lines gap) gap refl in
    let same : joined (last_run (text_lines gap)) ≡ run.0 = ap joined (sym run.1) ∙ joined_lines run.0 in
    ap (λ x. comments_of (cond (is_empty x) None (Some (record { before = before ++ joined (before_run (text_lines gap)); text = x; after = after })))) same
    ∙ (go run.0 ∙ (ap texts run.1 ∙ run_texts (text_lines gap)))
  where
    go : (u : List ℕ) → comments_of (cond (is_empty u) None (Some (record { before = before ++ joined (before_run (text_lines gap)); text = u; after = after }))) ≡ texts (text_lines u)
    go u = search (rules, lines_none)

-- ---- the comments that are known of entries and items are those in the pieces there

content_agrees : (before : List ℕ) (c : Content) (after : List ℕ) → comments.line_comment (tail_of c) ≡ option_map comment_of (content_comment before c after)
content_agrees before c after = simp (tail_is, tail_view)

-- What is known of an entry or item, and the pieces of its comments.
record Agree (o : Option Labelled) (beside over : Option TextPiece) : Type 0 where
  pub line : (o >>= λ x. x.0.line_comment) ≡ option_map comment_of beside
  pub above : head_comment_of o ≡ comments_of over

no_one : Agree None None None
no_one = record { line = refl; above = refl }

inside : (o : Option Labelled) → If o (λ y. HasNone y.0) → Agree o None None
inside o h1 = search (rules, no_one)

entry_agrees : (s : PrintedDocument) (e : BlockEntry) (f : FoundLine) → IsFound s e f → Agree (Some (entry_of f.line f.under)) (piece_in_entry parts.LineComment [] e) (piece_in_entry parts.HeadComment [] e)
entry_agrees s e f h = search (rules, content_agrees, gap_agrees)

steps_agree : (s : PrintedDocument) (y : Step) (ys : List Step) → ArePrinted s.lines s.after → is_fine (group (map line_in s.lines)) ≡ true →
    Agree (labelled_from (y ∷ ys) (plain_label, value (group (map line_in s.lines)))) (piece_in parts.LineComment (y ∷ ys) s) (piece_in parts.HeadComment (y ∷ ys) s)
steps_agree s y ys as_printed fine =
    subst (λ o. Agree o (piece_in parts.LineComment (y ∷ ys) s) (piece_in parts.HeadComment (y ∷ ys) s)) (sym (path_entry y ys (group (map line_in s.lines)))) (go (find y ys (group (map line_in s.lines))) refl)
  where
    found : (f : FoundLine) (rest : List Step) (e : BlockEntry) → find y ys (group (map line_in s.lines)) ≡ Some (f, rest) → IsFound s e f →
        Agree (labelled_from rest (entry_of f.line f.under)) (piece_in_entry parts.LineComment rest e) (piece_in_entry parts.HeadComment rest e)
    found f [] e is h = entry_agrees s e f h
    found f (t ∷ ts) e is h =
        let head = head_there (map line_in s.lines) y ys t ts f is fine in
        let uncommented : Uncommented head.0 = subst (λ x. If x Uncommented) (sym h.as_printed.0.head ∙ (ap (λ (l : Line). l.head) h.line ∙ head.1)) (uncommented_content e.line.content) in
        inside (reach t ts (anchored f.line.anchor (head_or f.line.head (value f.under))))
        (subst (λ x. If (reach t ts (anchored f.line.anchor (head_or x (value f.under)))) (λ y. HasNone y.0)) (sym head.1) (uncommented_reach f.line.anchor t ts head.0 uncommented))

    go : (r : Option (FoundLine × List Step)) → find y ys (group (map line_in s.lines)) ≡ r →
        Agree (FoundEntry r) (r >>= λ f. found_entry s f.0 >>= piece_in_entry parts.LineComment f.1) (r >>= λ f. found_entry s f.0 >>= piece_in_entry parts.HeadComment f.1)
    go None is = no_one
    go (Some x) is =
        let e = entry_there s y ys x.1 x.0 is in
        subst (λ o. Agree (FoundEntry (Some x)) (o >>= piece_in_entry parts.LineComment x.1) (o >>= piece_in_entry parts.HeadComment x.1)) (sym e.1) (found x.0 x.1 e.0 is (entry_found s y ys x.1 x.0 e.0 is as_printed e.1))

document_agrees : (steps : List Step) (s : PrintedDocument) → ArePrinted s.lines s.after → is_fine (group (map line_in s.lines)) ≡ true →
    Agree (labelled_from steps (plain_label, value (group (map line_in s.lines)))) (piece_in parts.LineComment steps s) (piece_in parts.HeadComment steps s)
document_agrees [] s as_printed fine = record { line = refl; above = refl }
document_agrees (y ∷ ys) s as_printed fine = steps_agree s y ys as_printed fine

text_agrees : (t : List ℕ) (c : Cut) (path : Path) → read_at t ≡ Some c → (o : Option PrintedDocument) → printed_document path.doc c ≡ o →
    Agree (labelled_located path t) (o >>= piece_in parts.LineComment (steps_of path)) (o >>= piece_in parts.HeadComment (steps_of path))
unfolding read_at
text_agrees t c path read o is = subst (λ l. Agree l (o >>= piece_in parts.LineComment (steps_of path)) (o >>= piece_in parts.HeadComment (steps_of path))) (sym tree) (go o is)
  where
    text : IsCut t c × (all_documents c ≡ true)
    text = text_takes t c (guard_then (is_utf8 t) read).1

    tree : labelled_located path t ≡ option_and_then (λ d. labelled_from (steps_of path) (plain_label, d.root)) (option_map part_document (slice_get (document_parts c) path.doc))
    tree = cc (cut_is t c (text_takes t c (guard_then (is_utf8 t) read).1).0, slice_get-map part_document (document_parts c) path.doc)

    go : (o : Option PrintedDocument) → printed_document path.doc c ≡ o →
        Agree (option_and_then (λ d. labelled_from (steps_of path) (plain_label, d.root)) (option_map part_document (slice_get (document_parts c) path.doc)))
        (o >>= piece_in parts.LineComment (steps_of path)) (o >>= piece_in parts.HeadComment (steps_of path))
    go None is = subst (λ d. Agree (option_and_then (λ d. labelled_from (steps_of path) (plain_label, d.root)) (option_map part_document d)) None None) (sym (no_part path.doc c is)) no_one
    go (Some s) is =
        let q = document_is path.doc c s text.0.parts is in
        let lines : map line_in s.lines ≡ lines_of_rows q.0.rows = ap (map line_in) q.2.lines ∙ lines_are q.0.rows in
        let fine = subst (λ ls. is_fine (group ls) ≡ true) (sym lines) (document_fine q.0 (each (document_parts c) text.1 path.doc q.0 q.1)) in
        subst (λ d. Agree (option_and_then (λ d. labelled_from (steps_of path) (plain_label, d.root)) (option_map part_document d)) (piece_in parts.LineComment (steps_of path) s) (piece_in parts.HeadComment (steps_of path) s)) (sym q.1)
        (subst (λ ls. Agree (labelled_from (steps_of path) (plain_label, value (group ls))) (piece_in parts.LineComment (steps_of path) s) (piece_in parts.HeadComment (steps_of path) s)) lines
        (document_agrees (steps_of path) s q.2.as_printed fine))

pub comments_are_there : CommentsAreThere
comments_are_there t c path read = let h = text_agrees t c path read (printed_document path.doc c) refl in (h.line, h.above)
