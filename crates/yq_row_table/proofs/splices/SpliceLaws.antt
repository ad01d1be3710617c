-- Rows in the place of others, in a part and in a cut.
use Rattle.std.proofs.Common.{◌≡◌, ◌⊎◌, inl, ℕ, zero, suc, Bool, true, false, not, ◌||◌, List, [], ◌++◌, take, drop, refl, ap, ◌∙◌, ⊎_elim}
use Rattle.std.{proofs.Common.{Some, rules}, proofs.lemmas.Bool.{false≢true, or_right}, proofs.lemmas.List.take-append-drop}
use Rattle.yq_core.{specs.Text.{is_empty, is_marker}, specs.Alike.Alike}
use Rattle.yq_row_table.specs.Exchange.{asked_after}
use Rattle.yq_row_table.specs.Grammar.{unlimited, AreRows, no_rows, IsPart, IsMarkerLine, begins_document, AreParts, IsCut, ends_part}
use Rattle.yq_row_table.{specs.Rows.{Row, rows_text, Part, part_text, Cut, last, marked, cut_text}, specs.Seams.{is_closed, are_seamed}}
use Rattle.yq_row_table.specs.SpliceFits.{is_after, SpliceFits, FitsIn}
use Rattle.yq_row_table.specs.Splices.{with_first_gap, end_gap, after_first, splice_part, splice, nth_part, after_part, marker_before}
use Rattle.yq_row_table.{specs.Splices.{is_started, CutsItsText}, proofs.AlikeRows.{part_alike, part_text_alike}}
use Rattle.yq_row_table.{proofs.ExchangeLaws.{CutExchanged, marked_after}, proofs.seams.MarkerSeams.marker_seam}
use Rattle.yq_row_table.proofs.seams.SeamLaws.{rows_seam, rows_join, rows_drop, rows_parted, spliced_text}

-- A text and another one after what comes before them: they begin alike, or the other one may be there.
abbrev Fronts : List ℕ → List ℕ → List ℕ → Type 0
Fronts marker t u = Alike (Some false) t u ⊎ (is_after marker u ≡ true)

-- parts
no_more : (a b c : List Row) → no_rows a ≡ true → no_rows b ≡ true → no_rows c ≡ true → no_rows (a ++ (b ++ c)) ≡ true
no_more a b c h1 h2 h3 = search (rules, false≢true)

no_take : (i : ℕ) (rs : List Row) → no_rows rs ≡ true → no_rows (take i rs) ≡ true
no_take i rs h1 = search (rules, false≢true)

no_drop : (gap : List ℕ) (j : ℕ) (rs : List Row) → no_rows rs ≡ true → no_rows (with_first_gap gap (drop j rs)) ≡ true
no_drop gap j rs h1 = search (rules, false≢true)

part_open : (started : Bool) (i j : ℕ) (new : List Row) (gap : List ℕ) (rs : List Row) → (started || no_rows rs) ≡ true → (started || no_rows new) ≡ true → (started || no_rows (take i rs ++ (new ++ with_first_gap gap (drop j rs)))) ≡ true
part_open started i j new gap rs h k = search (rules, no_more, no_take, no_drop)

abbrev PartSpliced : List ℕ → Bool → Part → Part → List ℕ → Type 0
PartSpliced marker started p q rest = IsPart started q rest × Fronts marker (part_text p rest) (part_text q rest)

or_not : (a b : Bool) → (not a || b) ≡ true → a ≡ true → b ≡ true
or_not a b h e = search (rules, false≢true)

none_front : (a b : List Row) (t : List ℕ) → no_rows a ≡ true → rows_text (a ++ b) t ≡ rows_text b t
none_front a b t h = search (rules, false≢true)

part_spliced : (marker : List ℕ) (started : Bool) (i j : ℕ) (new : List Row) (gap : List ℕ) (p : Part) (rest : List ℕ) → ends_part rest ≡ true →
    IsPart started p rest → SpliceFits marker started i j new gap p rest → PartSpliced marker started p (splice_part i j new gap p) rest
part_spliced marker started i j new gap p rest e h f =
    let front = take i p.rows in
    let back = drop j p.rows in
    let inner : List Row = new ++ with_first_gap gap back in
    let end = end_gap gap back p.end in
    let text : rows_text inner (end ++ rest) ≡ rows_text new (gap ++ after_first back p.end rest) = spliced_text new gap back p.end rest in
    let whole = rows_parted i p.rows unlimited p.end rest h.rows in
    let after : AreRows (asked_after unlimited (take j p.rows)) back p.end rest = rows_drop j p.rows unlimited p.end rest h.rows in
    let rows : AreRows (asked_after unlimited front) inner end rest = rows_join new (asked_after unlimited front) (asked_after unlimited (take j p.rows)) gap back p.end rest f.rows after f.next in
    let seam : are_seamed front (rows_text inner (end ++ rest)) ≡ true = ap (are_seamed front) text ∙ f.seam in
    let kept = rows_seam front (drop i p.rows) inner unlimited p.end rest end rest whole (record { rows = rows; seam = seam; ends = e }) in
    search (rules, take-append-drop, none_front, or_not, part_open)

-- cuts
abbrev CutSpliced : List ℕ → Bool → Cut → Cut → Type 0
CutSpliced marker started c d = AreParts started d × Fronts marker (cut_text c) (cut_text d)

after_closed : (p t u : List ℕ) → IsMarkerLine p t → is_after p u ≡ true → is_closed p u ≡ true
after_closed p t u h c = search rules

marked_spliced : (before : List ℕ) (started : Bool) (p : Part) (marker : List ℕ) (c d : Cut) → AreParts started (marked p marker c) →
    CutSpliced marker (begins_document marker) c d → CutSpliced before started (marked p marker c) (marked p marker d)
marked_spliced before started p marker c d h more = ⊎_elim {0, 0, 0}
    (λ alike. let kept : CutExchanged started (marked p marker c) (marked p marker d) = marked_after started p marker c d h (more.0, alike) in (kept.0, inl kept.1))
    (λ a.
    let line = marker_seam marker (cut_text c) (cut_text d) h.1 (after_closed marker (cut_text c) (cut_text d) h.1 a) in
    ((part_alike started p (marker ++ cut_text c) (marker ++ cut_text d) line.1 h.0, line.0, more.0), inl (part_text_alike p (marker ++ cut_text c) (marker ++ cut_text d) line.1)))
    more.1

pub parts_spliced : (c : Cut) (k : ℕ) (before : List ℕ) (started : Bool) (i j : ℕ) (new : List Row) (gap : List ℕ) → AreParts started c →
    SpliceFits (marker_before before k c) (is_started started k c) i j new gap (nth_part k c) (after_part k c) → CutSpliced before started c (splice k i j new gap c)
parts_spliced (last p) k before started i j new gap h f = part_spliced before started i j new gap p [] refl h f
parts_spliced (marked p marker c) zero before started i j new gap h f =
    let ends : ends_part (marker ++ cut_text c) ≡ true = or_right (is_empty (marker ++ cut_text c)) (is_marker (marker ++ cut_text c)) h.1.marker in
    let part = part_spliced before started i j new gap p (marker ++ cut_text c) ends h.0 f in
    ((part.0, h.1, h.2), part.1)
parts_spliced (marked p marker c) (suc k) before started i j new gap h f =
    marked_spliced before started p marker c (splice k i j new gap c) h (parts_spliced c k marker (begins_document marker) i j new gap h.2 f)

pub spliced : (t : List ℕ) (c : Cut) (k i j : ℕ) (new : List Row) (gap : List ℕ) → IsCut t c → FitsIn k i j new gap c → CutsItsText (splice k i j new gap c)
spliced t c k i j new gap h f = λ characters size. record { text = refl; parts = (parts_spliced c k [] true i j new gap h.parts f).0; characters = characters; size = size }
