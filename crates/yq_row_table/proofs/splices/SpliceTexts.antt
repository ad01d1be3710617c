-- The text of a cut at rows, and of a cut in which other rows are there.
use Rattle.std.proofs.Common.{◌≡◌, ℕ, zero, suc, ◌≤◌, true, List, [], ◌∷◌, ◌++◌, take, drop, refl, sym, ap, ◌∙◌, arith, append_assoc, rules}
use Rattle.std.{proofs.lemmas.Bool.and_parts, proofs.lemmas.List.take-append-drop, specs.List.list_all, specs.Str.chars}
use Rattle.yq_row_table.{specs.Gap.IsGap, specs.Grammar.{Limit, AreRows, IsCut}}
use Rattle.yq_row_table.specs.Rows.{Row, print_row, rows_text, Part, part_text, Cut, last, marked, cut_text}
use Rattle.yq_row_table.specs.Splices.{with_first_gap, end_gap, first_gap, after_first, splice_part, splice, nth_part, after_part}
use Rattle.yq_row_table.specs.Splices.{before_rows, after_rows, rows_between, gap_before, back_rows}
use Rattle.yq_row_table.{proofs.PlaceLaws.{part_then, row_then}, proofs.seams.SeamLaws.{spliced_text, rows_text-append}}
use Rattle.yq_row_table.proofs.CharacterLaws.{pairs_back}
use Rattle.yq_core.specs.Characters.{is_text_char, pairs_returns}

-- the texts
pub nil_before : (rs : List Row) (t : List ℕ) → rows_text rs t ≡ rows_text rs [] ++ t
nil_before [] t = refl
nil_before (r ∷ rs) t = ap (print_row r) (nil_before rs t) ∙ row_then r (rows_text rs []) t

rows_place : (i j : ℕ) (new : List Row) (gap : List ℕ) (p : Part) (rest : List ℕ) → part_text (splice_part i j new gap p) rest ≡ rows_text (take i p.rows) [] ++ rows_text new (gap ++ after_first (drop j p.rows) p.end rest)
rows_place i j new gap p rest = search (rules, rows_text-append, spliced_text, nil_before)

pub new_text : (c : Cut) (k i j : ℕ) (new : List Row) (gap : List ℕ) → cut_text (splice k i j new gap c) ≡ before_rows k i c ++ rows_text new (gap ++ after_rows k j c)
new_text (last p) k i j new gap = rows_place i j new gap p []
new_text (marked p marker c) zero i j new gap = rows_place i j new gap p (marker ++ cut_text c)
new_text (marked p marker c) (suc k) i j new gap = search (rules, append_assoc, part_then, new_text c k i j new gap)

-- the same rows in their own place
take_take : (i j : ℕ) (rs : List Row) → i ≤ j → take i rs ++ drop i (take j rs) ≡ take j rs
take_take (suc i) zero rs h = absurd (omega (arith, h))
take_take (suc i) (suc j) (r ∷ rs) h = ap (λ l. r ∷ l) (take_take i j rs (omega (arith, h)))
take_take _ _ _ h = refl

pub own_gap : (rs : List Row) (end : List ℕ) → with_first_gap (first_gap rs end) rs ≡ rs
own_gap rs end = search rules

pub own_end : (rs : List Row) (end : List ℕ) → end_gap (first_gap rs end) rs end ≡ end
own_end rs end = search rules

own_part : (i j : ℕ) (p : Part) → i ≤ j → splice_part i j (drop i (take j p.rows)) (first_gap (drop j p.rows) p.end) p ≡ p
own_part i j p h =
    let back = drop j p.rows in
    let rows : take i p.rows ++ (drop i (take j p.rows) ++ with_first_gap (first_gap back p.end) back) ≡ p.rows =
    ap (λ (b : List Row). take i p.rows ++ (drop i (take j p.rows) ++ b)) (own_gap back p.end)
    ∙ (sym (append_assoc (take i p.rows) (drop i (take j p.rows)) back)
    ∙ (ap (λ (a : List Row). a ++ back) (take_take i j p.rows h) ∙ take-append-drop j p.rows)) in
    ap (λ (rs : List Row). record { rows = rs; end = end_gap (first_gap back p.end) back p.end }) rows ∙ ap (λ (e : List ℕ). record { rows = p.rows; end = e }) (own_end back p.end)

own_splice : (c : Cut) (k i j : ℕ) → i ≤ j → splice k i j (rows_between k i j c) (gap_before k j c) c ≡ c
own_splice (last p) k i j h = ap last (own_part i j p h)
own_splice (marked p marker c) zero i j h = ap (λ (q : Part). marked q marker c) (own_part i j p h)
own_splice (marked p marker c) (suc k) i j h = ap (marked p marker) (own_splice c k i j h)

pub old_text : (c : Cut) (k i j : ℕ) → i ≤ j → cut_text c ≡ before_rows k i c ++ rows_text (rows_between k i j c) (gap_before k j c ++ after_rows k j c)
old_text c k i j h = ap cut_text (sym (own_splice c k i j h)) ∙ new_text c k i j (rows_between k i j c) (gap_before k j c)

-- the text of a cut at a row
pub first_text : (rs : List Row) (end rest : List ℕ) → rows_text rs (end ++ rest) ≡ first_gap rs end ++ after_first rs end rest
first_text rs end rest = search rules

pub first_is : (limit : Limit) (rs : List Row) (end rest : List ℕ) → AreRows limit rs end rest → IsGap (first_gap rs end) (after_first rs end rest)
first_is limit rs end rest h = search rules

none_between : (n : ℕ) (rs : List Row) → drop n (take n rs) ≡ []
none_between (suc n) (q ∷ rs) = none_between n rs
none_between _ _ = refl

pub front_text : (c : Cut) (k i : ℕ) → cut_text c ≡ before_rows k i c ++ rows_text (back_rows k i c) ((nth_part k c).end ++ after_part k c)
front_text c k i =
    let p = nth_part k c in
    old_text c k i i (omega arith)
    ∙ (ap (λ (rs : List Row). before_rows k i c ++ rows_text rs (first_gap (drop i p.rows) p.end ++ after_rows k i c)) (none_between i p.rows)
    ∙ ap (λ (x : List ℕ). before_rows k i c ++ x) (sym (first_text (drop i p.rows) p.end (after_part k c))))

-- in a cut an LF comes after each CR, so also from a row on
pub row_pairs : (t : List ℕ) (c : Cut) (k i : ℕ) → IsCut t c → pairs_returns (rows_text (back_rows k i c) ((nth_part k c).end ++ after_part k c)) ≡ true
row_pairs t c k i h =
    let whole : pairs_returns (cut_text c) ≡ true = ap pairs_returns (sym h.text) ∙ (and_parts (list_all is_text_char (chars t)) (pairs_returns t) h.characters).1 in
    pairs_back (before_rows k i c) (rows_text (back_rows k i c) ((nth_part k c).end ++ after_part k c)) (ap pairs_returns (sym (front_text c k i)) ∙ whole)
