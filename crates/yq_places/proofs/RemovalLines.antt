-- What is taken out of a text with rows of a document begins and ends between lines.
use Rattle.std.proofs.Common.{◌≡◌, ◌⊎◌, inl, inr, ℕ, zero, suc, ℤ, Bool, true, false, List, [], ◌∷◌, ◌++◌, length, take, drop, replicate}
use Rattle.std.{proofs.Common.{Some, refl, sym, ap, ◌∙◌, subst, append-nil, rules}, proofs.Math.Seq.drop-append_seam}
use Rattle.std.{proofs.lemmas.Bool.and_parts, proofs.lemmas.List.take-append-drop}
use Rattle.yq_core.{specs.Block.RawLines, specs.Text.{is_empty, is_line, joined, text_lines}}
use Rattle.yq_core.proofs.BlockPieceLaws.{IsLf, line_lf, append_lf, raw_lf}
use Rattle.yq_row_table.{specs.Exchange.asked_after, specs.Gap.{IsGap, AreGapLines}}
use Rattle.yq_row_table.specs.Grammar.{begins_document, IsContent, Limit, unlimited, AreRows, no_rows, AreParts}
use Rattle.yq_row_table.specs.Rows.{Content, Nothing, Inline, Block, Row, following_gap, parent_indent, print_row, rows_text, Part}
use Rattle.yq_row_table.{specs.Rows.{part_text, Cut, last, marked, cut_text}, specs.Splices.{after_first, first_gap, with_row_gap}}
use Rattle.yq_row_table.{specs.View.{Slices, content_cut, slices}, proofs.NothingLaws.some_after, proofs.PlaceLaws.{part_then, row_then}}
use Rattle.yq_row_table.{proofs.SliceLaws.slices_are, proofs.seams.BlockFronts.gap_front}
use Rattle.yq_row_table.{proofs.seams.FrontSeams.{after_row_some, rows_some}, proofs.seams.SeamLaws.{rows_drop, rows_text-append}}
use Rattle.yq_row_table.{proofs.splices.SpliceTexts.{first_is, first_text}, proofs.EmptyTexts.none_is}
use Rattle.yq_documents.{specs.PartNumbers.part_number, specs.Pieces.{before_run, last_run}}
use Rattle.yq_places.{specs.PlacedRows.{PlacedPart, placed_at, placed_document}, specs.RemovalPlaces.{comment_above, rows_out}}
use Rattle.yq_places.{proofs.CommentPieceLaws.{Ended, gap_end, tail_end}, proofs.PlacedPartLaws.{part_is_there, text_at}}
use Rattle.yq_places.proofs.RemovalTexts.{run_parts, texts_then}

-- Between two lines of a text: nothing is in front, an LF, or nothing is after.
abbrev pub LineSeam : List ℕ → List ℕ → Type 0
LineSeam a b = (a ≡ []) ⊎ Ended a b

pub seam_join : (a b c : List ℕ) → LineSeam a (b ++ c) → LineSeam b c → LineSeam (a ++ b) c
seam_join a b c h1 h2 = search (rules, append-nil, append_lf)

-- Nothing, or a text that ends in an LF.
abbrev pub AtLine : List ℕ → Type 0
AtLine a = (a ≡ []) ⊎ IsLf a

at_line : (a b : List ℕ) → LineSeam a b → is_empty b ≡ false → AtLine a
at_line a b h1 h2 = search (rules, none_is)

lines_join : (a b : List ℕ) → AtLine a → AtLine b → AtLine (a ++ b)
lines_join a b h1 h2 = search (rules, append-nil, append_lf)

pub line_seam : (a b : List ℕ) → AtLine a → LineSeam a b
line_seam a b h1 = search rules

-- ---- rows

content_ended : (n : ℤ) (x : Content) (rest : List ℕ) → IsContent n x rest → Ended ((content_cut x).4 ++ (content_cut x).5) rest
content_ended n (Nothing tail) rest h = subst (λ (t : List ℕ). Ended t rest) (sym (append-nil tail)) (tail_end tail rest h)
content_ended n (Inline space node tail) rest h = subst (λ (t : List ℕ). Ended t rest) (sym (append-nil tail)) (tail_end tail rest h.2)
content_ended n (Block space anchor block) rest h = go (raw_lf block.indent block.raw h.2.lines)
  where
    line : IsLf block.tail
    line = line_lf block.tail (and_parts (is_line block.tail) _ h.2.tail).0

    go : (joined block.raw ≡ []) ⊎ IsLf (joined block.raw) → Ended (block.tail ++ joined block.raw) rest
    go (inl none) = inl (subst IsLf (sym (ap (λ (t : List ℕ). block.tail ++ t) none ∙ append-nil block.tail)) line)
    go (inr lf) = inl (append_lf block.tail (joined block.raw) lf)

row_ended : (r : Row) (rest : List ℕ) → IsContent (parent_indent r) r.content rest → Ended (print_row r []) rest
row_ended r rest h = go (content_ended (parent_indent r) r.content rest h)
  where
    s : Slices
    s = slices r

    go : Ended ((content_cut r.content).4 ++ (content_cut r.content).5) rest → Ended (print_row r []) rest
    go (inr e) = inr e
    go (inl lf) =
        let x : IsLf (s.tail ++ (s.raw ++ [])) = subst IsLf (ap (λ (t : List ℕ). s.tail ++ t) (sym (append-nil s.raw))) lf in
        let y : IsLf (s.anchor ++ (s.apart ++ (s.head ++ (s.tail ++ (s.raw ++ []))))) = append_lf s.anchor _ (append_lf s.apart _ (append_lf s.head _ x)) in
        let z : IsLf (s.dashes ++ (s.key ++ (s.colon ++ (s.space ++ (s.anchor ++ (s.apart ++ (s.head ++ (s.tail ++ (s.raw ++ []))))))))) =
        append_lf s.dashes _ (append_lf s.key _ (append_lf s.colon _ (append_lf s.space _ y))) in
        inl (subst IsLf (slices_are r []) (append_lf s.gap _ (append_lf (replicate s.column 32) _ z)))

both_none : (a b : List ℕ) → a ≡ [] → a ++ b ≡ [] → b ≡ []
both_none a b e f = sym (ap (λ (x : List ℕ). x ++ b) e) ∙ f

-- a row, and rows after it
row_step : (r : Row) (rs : List Row) (u : List ℕ) → IsContent (parent_indent r) r.content (rows_text rs u) → LineSeam (rows_text rs []) u → Ended (print_row r (rows_text rs [])) u
row_step r rs u h more = go (row_ended r (rows_text rs u) h) more
  where
    text : print_row r (rows_text rs []) ≡ print_row r [] ++ rows_text rs []
    text = row_then r [] (rows_text rs [])

    go : Ended (print_row r []) (rows_text rs u) → LineSeam (rows_text rs []) u → Ended (print_row r (rows_text rs [])) u
    go h (inr (inl lf)) = inl (subst IsLf (sym text) (append_lf (print_row r []) (rows_text rs []) lf))
    go h (inr (inr e)) = inr e
    go (inl lf) (inl e) = inl (subst IsLf (sym (ap (print_row r) e)) lf)
    go (inr none) (inl e) = inr (both_none (rows_text rs []) u e (sym (texts_then rs [] u) ∙ none))

pub rows_seam : (a b : List Row) (limit : Limit) (end rest : List ℕ) → AreRows limit (a ++ b) end rest → LineSeam (rows_text a []) (rows_text b (end ++ rest))
rows_seam [] b limit end rest h = inl refl
rows_seam (r ∷ a) b limit end rest h =
    inr (row_step r a (rows_text b (end ++ rest)) (subst (IsContent (parent_indent r) r.content) (rows_text-append a b (end ++ rest)) h.0.content) (rows_seam a b _ end rest h.1))

-- ---- documents

-- A document comes after whole lines, and its rows are rows there.
pub record LiesIn (d : PlacedPart) : Type 0 where
  pub seam : LineSeam d.before (part_text d.part d.after)
  pub rows : AreRows unlimited d.part.rows d.part.end d.after

marker_seam : (p : Part) (marker rest : List ℕ) → Ended (drop 3 marker) rest → LineSeam (part_text p marker) rest
marker_seam p marker rest (inr e) = inr (inr e)
marker_seam p marker rest (inl lf) =
    let whole : IsLf marker = subst IsLf (take-append-drop 3 marker) (append_lf (take 3 marker) (drop 3 marker) lf) in
    inr (inl (subst IsLf (sym (part_then p [] marker)) (append_lf (part_text p []) marker whole)))

lies_at : (i : ℕ) (started : Bool) (c : Cut) → AreParts started c → LiesIn (placed_at i c)
lies_at i started (last p) h = record { seam = inl refl; rows = h.rows }
lies_at zero started (marked p marker c) h = record { seam = inl refl; rows = h.0.rows }
lies_at (suc i) started (marked p marker c) h =
    let lies = lies_at i (begins_document marker) c h.2 in
    let d : PlacedPart = placed_at i c in
    record {
      seam = seam_join (part_text p marker) d.before (part_text d.part d.after) (subst (LineSeam (part_text p marker)) (text_at i c) (marker_seam p marker (cut_text c) (tail_end (drop 3 marker) (cut_text c) h.1.tail))) lies.seam;
      rows = lies.rows;
    }

pub lies_in : (k : ℕ) (c : Cut) (d : PlacedPart) → AreParts true c → placed_document k c ≡ Some d → LiesIn d
lies_in k c d h e = subst LiesIn (part_is_there k c d e).is (lies_at (part_number k c) true c h)

-- ---- what is taken out

-- The text before what is taken out, what is taken out, and the gap after it, each of whole lines.
pub record AreLines (d : PlacedPart) (front own back : List Row) : Type 0 where
  pub before : AtLine (rows_out d (record { front = front; own = own; back = back })).before
  pub gone : Ended (comment_above own d.part.end ++ after_first own [] []) (first_gap back d.part.end ++ after_first back d.part.end d.after)
  pub gap : IsGap (first_gap back d.part.end) (after_first back d.part.end d.after)

pub front_some : (front : List Row) (r : Row) (more : List Row) → no_rows (front ++ (r ∷ more)) ≡ false
front_some [] r more = refl
front_some (q ∷ front) r more = refl

pub are_lines : (d : PlacedPart) (front : List Row) (r : Row) (rs back : List Row) → LiesIn d → d.part.rows ≡ front ++ ((r ∷ rs) ++ back) → AreLines d front (r ∷ rs) back
are_lines d front r rs back lies rows =
    let end : List ℕ = d.part.end in
    let all : AreRows unlimited (front ++ (r ∷ (rs ++ back))) end d.after = subst (λ (x : List Row). AreRows unlimited x end d.after) rows lies.rows in
    let some : is_empty (part_text d.part d.after) ≡ false = rows_some unlimited d.part.rows end d.after (ap no_rows rows ∙ front_some front r (rs ++ back)) lies.rows in
    let asked : Limit = asked_after unlimited (take (length front) (front ++ (r ∷ (rs ++ back)))) in
    let own : AreRows asked (r ∷ (rs ++ back)) end d.after =
    subst (λ (x : List Row). AreRows asked x end d.after) (drop-append_seam front (r ∷ (rs ++ back))) (rows_drop (length front) (front ++ (r ∷ (rs ++ back))) unlimited end d.after all) in
    let next : Limit = asked_after asked (take (length (r ∷ rs)) ((r ∷ rs) ++ back)) in
    let rest : AreRows next back end d.after =
    subst (λ (x : List Row). AreRows next x end d.after) (drop-append_seam (r ∷ rs) back) (rows_drop (length (r ∷ rs)) ((r ∷ rs) ++ back) asked end d.after own) in
    let ls : RawLines = text_lines r.gap in
    let x : List ℕ = following_gap r (rows_text (rs ++ back) (end ++ d.after)) in
    let kept : AreGapLines (before_run ls) (joined (last_run ls) ++ x) = gap_front r.gap x (before_run ls) (last_run ls) own.0.gap (run_parts ls) in
    let kept_line : AtLine (joined (before_run ls)) =
    at_line (joined (before_run ls)) (joined (last_run ls) ++ x) (gap_end (joined (before_run ls)) (joined (last_run ls) ++ x) (record { lines = before_run ls; spelled = refl; each = kept }))
    (some_after (joined (last_run ls)) x (after_row_some asked r (rows_text (rs ++ back) (end ++ d.after)) own.0)) in
    let front_line : AtLine (rows_text front []) =
    at_line (rows_text front []) (rows_text (r ∷ (rs ++ back)) (end ++ d.after)) (rows_seam front (r ∷ (rs ++ back)) unlimited end d.after all) (rows_some asked (r ∷ (rs ++ back)) end d.after refl own) in
    let start : AtLine d.before = at_line d.before (part_text d.part d.after) lies.seam some in
    let u : List ℕ = rows_text back (end ++ d.after) in
    let body : Ended (following_gap r (rows_text rs [])) u =
    row_step (with_row_gap [] r) rs u (subst (IsContent (parent_indent r) r.content) (rows_text-append rs back (end ++ d.after)) own.0.content) (rows_seam rs back _ end d.after own.1) in
    record {
      before = lines_join d.before (rows_text front (joined (before_run ls))) start (subst AtLine (sym (texts_then front [] (joined (before_run ls)))) (lines_join (rows_text front []) (joined (before_run ls)) front_line kept_line));
      gone = subst (Ended (joined (last_run ls) ++ following_gap r (rows_text rs []))) (first_text back end d.after) (ended_after (joined (last_run ls)) (following_gap r (rows_text rs [])) u body);
      gap = first_is next back end d.after rest;
    }
  where
    ended_after : (a b u : List ℕ) → Ended b u → Ended (a ++ b) u
    ended_after a b u h1 = search (rules, append_lf)
