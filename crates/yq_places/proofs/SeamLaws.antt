-- Rows and their lines begin at whole characters.
use Rattle.std.proofs.Common.{◌≡◌, ◌⊎◌, inl, inr, ℕ, zero, suc, ◌-◌, ◌<◌, ◌≤◌, ltb, List, [], ◌∷◌, ◌++◌, length, take, drop, replicate, ℤ}
use Rattle.std.proofs.Common.{Some, Bool, true, false, refl, sym, ap, ◌∙◌, subst, arith, append-nil, append_assoc, rules}
use Rattle.std.{proofs.lemmas.Bool.{cases_lt, lt-ltb, le-ltb}, proofs.lemmas.List.take-append-drop, proofs.lemmas.Str.IsCharBoundary-start}
use Rattle.std.{specs.List.slice_get, specs.Str.{IsUtf8, IsCharBoundary}}
use Rattle.yq_core.proofs.BlockPieceLaws.{IsLf, append_lf, raw_lf}
use Rattle.yq_row_table.{specs.Exchange.{text_after_row, after_row}, specs.Gap.IsGap}
use Rattle.yq_row_table.specs.Grammar.{IsContent, Limit, unlimited, limit_after, IsRow, AreRows, IsMarkerLine, AreParts, begins_document}
use Rattle.yq_row_table.specs.Rows.{Content, Row, after_dashes, following_gap, dashes_text, print_row, rows_text, parent_indent, part_text}
use Rattle.yq_row_table.{specs.Rows.{Cut, last, marked, cut_text}, specs.View.{content_cut, Slices, slices, rows_of}}
use Rattle.yq_row_table.proofs.ExchangeLaws.{slice_front, slice_back}
use Rattle.yq_row_table.proofs.NodePieces.{EndsAscii, following_ends, BeginsAscii, before_ascii, following_ascii}
use Rattle.yq_row_table.{proofs.PlaceLaws.{row_then, part_then, row_in}, proofs.SliceLaws.slices_are}
use Rattle.yq_places.{specs.EntryReading.before_line, specs.CommentReading.before_row}
use Rattle.yq_places.proofs.CommentPieceLaws.{Ended, tail_end, content_end, gap_end, row_place}

-- a text ends between characters before a rest: it is empty, or its last byte is ASCII, or nothing is after it
abbrev pub IsSeam : List ℕ → List ℕ → Type 0
IsSeam p rest = (p ≡ []) ⊎ (EndsAscii p ⊎ (rest ≡ []))

pub seam_boundary : (p rest : List ℕ) → IsUtf8 (p ++ rest) → IsSeam p rest → IsCharBoundary (p ++ rest) (length p)
seam_boundary p rest u (inl e) = subst (λ (q : List ℕ). IsCharBoundary (p ++ rest) (length q)) (sym e) (IsCharBoundary-start (p ++ rest) u)
seam_boundary p rest u (inr (inl a)) = following_ascii p rest u a
seam_boundary p rest u (inr (inr none)) = before_ascii p rest (subst BeginsAscii (sym none) tt)

pub seam_then : (p q rest : List ℕ) → IsSeam p (q ++ rest) → IsSeam q rest → IsSeam (p ++ q) rest
seam_then p q rest h1 h2 = search (rules, following_ends, append-nil)

pub ended_seam : (p rest : List ℕ) → Ended p rest → IsSeam p rest
ended_seam p rest h1 = search rules

pub gap_seam : (gap rest : List ℕ) → IsGap gap rest → IsSeam gap rest
gap_seam gap rest h = go (gap_end gap rest h)
  where
    go : (gap ≡ []) ⊎ Ended gap rest → IsSeam gap rest
    go h1 = search (rules, ended_seam)

pub ended_after : (p q rest : List ℕ) → Ended q rest → Ended (p ++ q) rest
ended_after p q rest h1 = search (rules, append_lf)

-- the end of a row
pub raw_end : (n : ℤ) (x : Content) (rest : List ℕ) → IsContent n x rest → ((content_cut x).5 ≡ []) ⊎ IsLf (content_cut x).5
raw_end n x rest h1 = search (rules, raw_lf)

pub last_ended : (tail raw rest : List ℕ) → Ended tail (raw ++ rest) → (raw ≡ []) ⊎ IsLf raw → Ended (tail ++ (raw ++ [])) rest
last_ended tail raw rest h1 h2 = search (rules, append_lf, append-nil)

row_ended : (limit : Limit) (r : Row) (rest : List ℕ) → IsRow limit r rest → Ended (print_row r []) rest
row_ended limit r rest h =
    let s : Slices = slices r in
    let end = last_ended s.tail s.raw rest (content_end (parent_indent r) r.content rest h.content) (raw_end (parent_indent r) r.content rest h.content) in
    subst (λ (q : List ℕ). Ended q rest) (slices_are r [])
    (ended_after s.gap _ rest (ended_after (replicate s.column 32) _ rest (ended_after s.dashes _ rest (ended_after s.key _ rest (ended_after s.colon _ rest
    (ended_after s.space _ rest (ended_after s.anchor _ rest (ended_after s.apart _ rest (ended_after s.head _ rest end)))))))))

-- the ends of rows, one after the other
rows_split : (i : ℕ) (rows : List Row) (rest : List ℕ) → rows_text rows rest ≡ rows_text (take i rows) [] ++ rows_text (drop i rows) rest
rows_split (suc i) (r ∷ rs) rest = ap (print_row r) (rows_split i rs rest) ∙ row_then r (rows_text (take i rs) []) (rows_text (drop i rs) rest)
rows_split _ _ rest = refl

rows_seam : (rows : List Row) (i : ℕ) (limit : Limit) (end rest : List ℕ) → AreRows limit rows end rest → IsSeam (rows_text (take i rows) []) (rows_text (drop i rows) (end ++ rest))
rows_seam rows zero limit end rest h = inl refl
rows_seam [] (suc i) limit end rest h = inl refl
rows_seam (r ∷ rs) (suc i) limit end rest h =
    let first = subst (IsSeam (print_row r [])) (rows_split i rs (end ++ rest)) (ended_seam (print_row r []) (rows_text rs (end ++ rest)) (row_ended limit r (rows_text rs (end ++ rest)) h.0)) in
    subst (λ (q : List ℕ). IsSeam q (rows_text (drop i rs) (end ++ rest))) (sym (row_then r [] (rows_text (take i rs) [])))
    (seam_then (print_row r []) (rows_text (take i rs) []) (rows_text (drop i rs) (end ++ rest)) first (rows_seam rs i (limit_after r) end rest h.1))

part_seam : (rows : List Row) (limit : Limit) (end rest : List ℕ) → AreRows limit rows end rest → IsSeam (rows_text rows (end ++ [])) rest
part_seam [] limit end rest h = subst (λ (q : List ℕ). IsSeam q rest) (sym (append-nil end)) (gap_seam end rest h)
part_seam (r ∷ rs) limit end rest h =
    let after : List ℕ = rows_text rs (end ++ []) in
    let first = subst (IsSeam (print_row r [])) (part_then (record { rows = rs; end = end }) [] rest) (ended_seam (print_row r []) (rows_text rs (end ++ rest)) (row_ended limit r (rows_text rs (end ++ rest)) h.0)) in
    subst (λ (q : List ℕ). IsSeam q rest) (sym (row_then r [] after)) (seam_then (print_row r []) after rest first (part_seam rs (limit_after r) end rest h.1))

marker_seam : (marker rest : List ℕ) → IsMarkerLine marker rest → IsSeam marker rest
marker_seam marker rest h = ended_seam marker rest (subst (λ (q : List ℕ). Ended q rest) (take-append-drop 3 marker) (ended_after (take 3 marker) (drop 3 marker) rest (tail_end (drop 3 marker) rest h.tail)))

row_first : (rows : List Row) (i : ℕ) (r : Row) (rest : List ℕ) → slice_get rows i ≡ Some r → rows_text (drop i rows) rest ≡ print_row r (text_after_row i rows rest)
row_first [] i r rest h = absurd (cc)
row_first (x ∷ rows) zero r rest h = let is : x ≡ r = cc in ap (λ (y : Row). print_row y (rows_text rows rest)) is
row_first (x ∷ rows) (suc i) r rest h = row_first rows i r rest h

pub row_seam : (c : Cut) (i : ℕ) (started : Bool) (r : Row) → AreParts started c → slice_get (rows_of c) i ≡ Some r → IsSeam (before_row i c) (print_row r (after_row i c))
row_seam (last p) i started r h is = subst (IsSeam (rows_text (take i p.rows) [])) (row_first p.rows i r (p.end ++ []) is) (rows_seam p.rows i unlimited p.end [] h.rows)
row_seam (marked p marker c) i started r h is = go (cases_lt i (length p.rows)) (λ there. row_seam c (i - length p.rows) (begins_document marker) r h.2 there)
  where
    go : (i < length p.rows) ⊎ (length p.rows ≤ i) → (slice_get (rows_of c) (i - length p.rows) ≡ Some r → IsSeam (before_row (i - length p.rows) c) (print_row r (after_row (i - length p.rows) c))) →
        IsSeam (before_row i (marked p marker c)) (print_row r (after_row i (marked p marker c)))
    go (inl here) again = search (rules, slice_front, lt-ltb, row_first, rows_seam)
    go (inr past) again =
        let test : ltb i (length p.rows) ≡ false = le-ltb i (length p.rows) past in
        let there : slice_get (rows_of c) (i - length p.rows) ≡ Some r = slice_back p.rows (rows_of c) i r past is in
        let before : List ℕ = before_row (i - length p.rows) c in
        let text : List ℕ = print_row r (after_row (i - length p.rows) c) in
        let whole : cut_text c ≡ before ++ text = row_place c (i - length p.rows) r there in
        let inner : IsSeam (marker ++ before) text = seam_then marker before text (subst (IsSeam marker) whole (marker_seam marker (cut_text c) h.1)) (again there) in
        let first : IsSeam (part_text p []) ((marker ++ before) ++ text) = search (rules, append_assoc, part_seam) in
        rw test (subst (λ (q : List ℕ). IsSeam q text) (sym (part_then p [] (marker ++ before))) (seam_then (part_text p []) (marker ++ before) text first inner))

-- the beginning of a line
spaces_seam : (n : ℕ) (rest : List ℕ) → IsSeam (replicate n 32) rest
spaces_seam zero rest = inl refl
spaces_seam (suc n) rest = seam_then (32 ∷ []) (replicate n 32) rest (inr (inl (record { front = []; last = 32; is = refl; ascii = omega arith }))) (spaces_seam n rest)

dashes_seam : (ns rest : List ℕ) → IsSeam (dashes_text ns []) rest
dashes_seam [] rest = inl refl
dashes_seam (n ∷ ns) rest =
    seam_then (45 ∷ []) (replicate n 32 ++ dashes_text ns []) rest (inr (inl (record { front = []; last = 45; is = refl; ascii = omega arith })))
    (seam_then (replicate n 32) (dashes_text ns []) rest (spaces_seam n (dashes_text ns [] ++ rest)) (dashes_seam ns rest))

pub dashes_split : (k : ℕ) (ns rest : List ℕ) → dashes_text ns rest ≡ dashes_text (take k ns) [] ++ dashes_text (drop k ns) rest
dashes_split zero ns rest = refl
dashes_split (suc k) [] rest = refl
dashes_split (suc k) (n ∷ ns) rest = ap (λ (l : List ℕ). 45 ∷ l) (ap (λ (l : List ℕ). replicate n 32 ++ l) (dashes_split k ns rest) ∙ sym (append_assoc (replicate n 32) (dashes_text (take k ns) []) (dashes_text (drop k ns) rest)))

pub line_boundary : (c : Cut) (i k : ℕ) (r : Row) → IsUtf8 (cut_text c) → AreParts true c → slice_get (rows_of c) i ≡ Some r → IsCharBoundary (cut_text c) (length (before_line i k r c))
line_boundary c i k r u h is =
    let after : List ℕ = after_row i c in
    let spaces : List ℕ = replicate r.column 32 in
    let front : List ℕ = dashes_text (take k r.dashes) [] in
    let rest : List ℕ = dashes_text (drop k r.dashes) (after_dashes r after) in
    let indent : following_gap r after ≡ (spaces ++ front) ++ rest = ap (λ (l : List ℕ). spaces ++ l) (dashes_split k r.dashes (after_dashes r after)) ∙ sym (append_assoc spaces front rest) in
    let row : print_row r after ≡ (r.gap ++ (spaces ++ front)) ++ rest = ap (λ (l : List ℕ). r.gap ++ l) indent ∙ sym (append_assoc r.gap (spaces ++ front) rest) in
    let whole : cut_text c ≡ before_line i k r c ++ rest = row_place c i r is ∙ (ap (λ (l : List ℕ). before_row i c ++ l) row ∙ sym (append_assoc (before_row i c) (r.gap ++ (spaces ++ front)) rest)) in
    let gap : IsSeam r.gap ((spaces ++ front) ++ rest) = subst (IsSeam r.gap) indent (gap_seam r.gap (following_gap r after) (row_in c i true r h is).row.gap) in
    let within : IsSeam (r.gap ++ (spaces ++ front)) rest = seam_then r.gap (spaces ++ front) rest gap (seam_then spaces front rest (spaces_seam r.column (front ++ rest)) (dashes_seam (take k r.dashes) rest)) in
    let seam : IsSeam (before_line i k r c) rest = seam_then (before_row i c) (r.gap ++ (spaces ++ front)) rest (subst (IsSeam (before_row i c)) row (row_seam c i true r h is)) within in
    subst (λ (q : List ℕ). IsCharBoundary q (length (before_line i k r c))) (sym whole) (seam_boundary (before_line i k r c) rest (subst IsUtf8 whole u) seam)
