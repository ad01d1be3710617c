-- The text without the first item or entry of a compact collection, and what it reads as.
use Rattle.std.proofs.Common.{◌≡◌, ℕ, zero, suc, ◌+◌, true, false, cond, List, [], ◌∷◌, ◌++◌, length, replicate, take, drop, refl, sym, ap}
use Rattle.std.proofs.Common.{◌∙◌, arith, append_assoc, append-nil, rules}
use Rattle.yq_core.{specs.Paths.{Step, changed_at, remove_child, within}, specs.Text.{cut, no_space}, specs.Anchors.names_of}
use Rattle.yq_outline.{specs.Comments.head_comment, specs.Places.{plug, FoundLine, content_under}, specs.Lines.{lines_from, lines_of_rows}}
use Rattle.yq_outline.proofs.RowLaws.{no_comments}
use Rattle.yq_row_table.{specs.Grammar.{IsRow, Limit, unlimited, AreRows}, specs.Reading.{cut_gap, begins_gap}}
use Rattle.yq_row_table.specs.Rows.{Row, after_columns, after_dashes, following_gap, after_indent, dashes_text, print_row, rows_text, Part}
use Rattle.yq_row_table.{specs.Rows.{part_text, Cut, cut_text}, proofs.GapLaws.{gap_again, gap_stop}, proofs.MarkLaws.spaces_again}
use Rattle.yq_row_table.{proofs.RowAgain.{row_no_gap, row_starts}, proofs.seams.SeamLaws.rows_text-append}
use Rattle.yq_row_table.{proofs.splices.SpliceTexts.{own_gap, own_end}, proofs.seams.JoinLaws.dashes_text-append}
use Rattle.yq_documents.{specs.Documents.lead_of, specs.Reading.{part_outline, root_of}}
use Rattle.yq_places.{specs.FirstPlaces.{are_spaces, less_spaces}, specs.RowPaths.IsReadable, proofs.RemovalTexts.texts_then}
use Rattle.yq_edit_rules.{specs.Appends.inserted, specs.BlockChanges.AreCounted, specs.Changed.{IsChanged, put_document}}
use Rattle.yq_edit_rules.{specs.Conditions.AreSpared, specs.DocumentRows.{IsDocumentPart, after_document}}
use Rattle.yq_edit_rules.{specs.Moved.{emptied_row, moved_up}, specs.Siblings.{HasEntries, IsEntryAt, NodeLines}}
use Rattle.yq_edit_rules.proofs.FirstBreakLaws.{IsOneBreak, break_apart, break_bare, break_tail}
use Rattle.yq_edit_rules.proofs.FirstReplaceLaws.{MovedFits, dropped_replaces, moved_replaces}
use Rattle.yq_edit_rules.{proofs.FirstRowLaws.{first_row_dropped, first_row_moved}, proofs.PartLaws.{document_known, part_rows}}

-- ---- the text of rows of which one is new

pub inserted_text : (front back : List Row) (new : Row) (p : Part) (rest : List ℕ) →
    part_text (inserted front (new ∷ []) back p) rest ≡ rows_text front (print_row new (rows_text back (p.end ++ rest)))
inserted_text front back new p rest = simp (own_gap, own_end, rows_text-append)

dashes_then : (ns t : List ℕ) → dashes_text ns t ≡ dashes_text ns [] ++ t
dashes_then [] t = refl
dashes_then (n ∷ ns) t = ap (λ (x : List ℕ). 45 ∷ (replicate n 32 ++ x)) (dashes_then ns t) ∙ ap (λ (x : List ℕ). 45 ∷ x) (sym (append_assoc (replicate n 32) (dashes_text ns []) t))

-- the text of a row up to dashes, before others
abbrev pub dashes_front : Row → List ℕ → List ℕ
dashes_front r ns = r.gap ++ (replicate r.column 32 ++ dashes_text ns [])

front_then : (r : Row) (ns t : List ℕ) → r.gap ++ (replicate r.column 32 ++ dashes_text ns t) ≡ dashes_front r ns ++ t
front_then r ns t = search (rules, dashes_then, append_assoc)

pub row_from : (r : Row) (ns es u : List ℕ) → r.dashes ≡ ns ++ es → print_row r u ≡ dashes_front r ns ++ dashes_text es (after_dashes r u)
row_from r ns es u e = search (rules, dashes_text-append, front_then)

pub moved_text : (r b : Row) (ns u : List ℕ) → print_row (moved_up r ns b) u ≡ dashes_front r ns ++ after_indent b u
moved_text r b ns u = ap (λ (x : List ℕ). r.gap ++ (replicate r.column 32 ++ x)) (dashes_text-append ns b.dashes (after_dashes b u)) ∙ front_then r ns (after_indent b u)

pub dropped_text : (r : Row) (ns tail u : List ℕ) → print_row (emptied_row r ns tail) u ≡ dashes_front r ns ++ (45 ∷ (tail ++ u))
dropped_text r ns tail u = front_then r ns (45 ∷ (tail ++ u))

-- what ends in a dash and spaces
pub dash_front : (r : Row) (ns : List ℕ) (n : ℕ) → dashes_front r (ns ++ (n ∷ [])) ≡ dashes_front r ns ++ (45 ∷ replicate n 32)
dash_front r ns n = search (rules, dashes_text-append, append-nil, front_then)

pub front_text : (start : List ℕ) (front : List Row) (t u : List ℕ) → start ++ rows_text front (t ++ u) ≡ (start ++ rows_text front t) ++ u
front_text start front t u = ap (λ (x : List ℕ). start ++ x) (texts_then front t u) ∙ sym (append_assoc start (rows_text front t) u)

-- ---- spaces after a dash

spaces_end : (n : ℕ) → are_spaces (replicate n 32) ≡ true
spaces_end zero = refl
spaces_end (suc n) = spaces_end n

no_spaces : (x : List ℕ) (n : ℕ) → are_spaces (x ++ (45 ∷ replicate n 32)) ≡ false
no_spaces [] n = refl
no_spaces (b ∷ x) n = search (rules, no_spaces x n)

none_less : (n : ℕ) → less_spaces (replicate n 32) ≡ []
unfolding less_spaces
none_less zero = refl
none_less (suc n) = ap (λ c. cond c [] (32 ∷ less_spaces (replicate n 32))) (spaces_end n)

pub dash_less : (x : List ℕ) (n : ℕ) → less_spaces (x ++ (45 ∷ replicate n 32)) ≡ x ++ (45 ∷ [])
unfolding less_spaces
dash_less [] n = ap (λ (t : List ℕ). 45 ∷ t) (none_less n)
dash_less (b ∷ x) n = (λ i. cond (no_spaces (b ∷ x) n i) [] (b ∷ less_spaces (x ++ (45 ∷ replicate n 32)))) ∙ ap (λ (t : List ℕ). b ∷ t) (dash_less x n)

-- ---- the next row, if no gap is before it

-- A row that begins without a gap: its text is its indentation and what comes after that.
pub record NoGap (b : Row) (u : List ℕ) : Type 0 where
  pub gap : b.gap ≡ []
  pub indent : cut no_space (print_row b u) ≡ (replicate b.column 32, after_indent b u)

pub no_gap : (limit : Limit) (b : Row) (u : List ℕ) → IsRow limit b u → begins_gap (print_row b u) ≡ false → NoGap b u
no_gap limit b u h none =
    let again : cut_gap (print_row b u) ≡ (b.gap, following_gap b u) = gap_again b.gap (following_gap b u) (h.gap, row_no_gap limit b u h) in
    let first : cut_gap (print_row b u) ≡ ([], print_row b u) = ap (λ n. (take n (print_row b u), drop n (print_row b u))) (gap_stop (print_row b u) none) in
    let gap : b.gap ≡ [] = ap (λ (x : List ℕ × List ℕ). x.0) (sym again ∙ first) in
    record { gap = gap; indent = ap (λ (x : List ℕ). cut no_space (x ++ following_gap b u)) gap ∙ spaces_again b.column (after_indent b u) (row_starts limit b u h).no_space }

-- ---- what the text reads as

module _ (t : List ℕ) (c : Cut) (k : ℕ) (p : Part) (ss : List Step) (s : Step) (h : NodeLines) (f : FoundLine) (old : IsDocumentPart t c k p) (entry : IsEntryAt ss s (part_outline p) h f)
    (left : HasEntries (plug f.place f.after))
    (spared : AreSpared (names_of (content_under f.line f.under)) [] (names_of (root_of p))) (front gone back : List Row) (r : Row) where
  are : AreRows unlimited p.rows p.end (after_document k c)
  are = part_rows t c k p old (document_known t c k p old).cut

  pub moved_changed : (b : Row) (ns es : List ℕ) → p.rows ≡ front ++ (r ∷ (gone ++ (b ∷ back))) → MovedFits r b ns es → b.gap ≡ [] →
      AreCounted h f (length (lines_of_rows front) + length ns) (length (lines_from [] (after_columns r.column ns) es r.mark r.content ++ lines_of_rows gone)) →
      IsReadable (cut_text (put_document k (inserted front (moved_up r ns b ∷ []) back p) c)) →
      IsChanged c (put_document k (inserted front (moved_up r ns b ∷ []) back p) c) k (lead_of (inserted front (moved_up r ns b ∷ []) back p)) (changed_at ss (within (remove_child s)))
  moved_changed b [] es rows fits bare counts text = absurd (let some = fits.some in omega (arith, some))
  moved_changed b (n ∷ ns) es rows fits bare counts text =
      first_row_moved t c k p ss s h f front gone back r b n ns es old entry left (moved_replaces p front gone back r b (n ∷ ns) es (after_document k c) are rows fits)
      (record { dashes = fits.dashes; column = fits.column; bare = ap head_comment bare ∙ no_comments })
      (record { before_are = counts.before_are; size_is = ap (λ (j : ℕ). length (lines_from [] j es r.mark r.content ++ lines_of_rows gone)) fits.column ∙ counts.size_is }) spared text

  pub dropped_changed : (ns es tail : List ℕ) (n : ℕ) → p.rows ≡ front ++ (r ∷ (gone ++ back)) → r.dashes ≡ (ns ++ (n ∷ [])) ++ es → IsOneBreak tail →
      AreCounted h f (length (lines_of_rows front) + length (ns ++ (n ∷ []))) (length (lines_from [] (after_columns r.column (ns ++ (n ∷ []))) es r.mark r.content ++ lines_of_rows gone)) →
      IsReadable (cut_text (put_document k (inserted front (emptied_row r ns tail ∷ []) back p) c)) →
      IsChanged c (put_document k (inserted front (emptied_row r ns tail ∷ []) back p) c) k (lead_of (inserted front (emptied_row r ns tail ∷ []) back p)) (changed_at ss (within (remove_child s)))
  dropped_changed ns es tail n rows dashes one counts text =
      first_row_dropped t c k p ss s h f front gone back r n ns es tail old entry left
      (dropped_replaces p front gone back r n ns es tail (after_document k c) are rows
      (record { dashes = dashes ∙ append_assoc ns (n ∷ []) es; ends = λ rest. break_tail tail rest one; apart = λ rest. break_apart tail rest one }))
      (record { dashes = dashes; bare = break_bare tail one }) counts spared text
