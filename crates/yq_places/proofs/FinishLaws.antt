-- Rows end, before their breaks, at whole characters, and no later than rows after them.
use Rattle.std.proofs.Common.{◌≡◌, ◌⊎◌, inl, inr, ℕ, zero, suc, ◌-◌, ◌<◌, ◌≤◌, List, [], ◌∷◌, ◌++◌, length, Some, Bool, true, false, cond}
use Rattle.std.proofs.Common.{refl, sym, ap, ◌∙◌, subst, arith, eqb-true, append_assoc, length-append, rules}
use Rattle.std.{proofs.lemmas.Bool.{cases_lt, lt-ltb, le-ltb, cond-true, cond-false, false≢true, and_parts}, specs.List.slice_get}
use Rattle.std.specs.Str.{IsCharBoundary}
use Rattle.yq_core.{specs.Text.is_empty, proofs.BlockPieceLaws.IsLf}
use Rattle.yq_row_table.{specs.Exchange.{row_front, before_at, before_content, after_row}, specs.Grammar.AreParts}
use Rattle.yq_row_table.specs.Rows.{mark_text, content_text, Row, rows_text, parent_indent, part_text, Cut, last, marked, cut_text}
use Rattle.yq_row_table.{specs.View.{Slices, slices, rows_of}, proofs.ExchangeLaws.{slice_front, slice_back}}
use Rattle.yq_row_table.{proofs.NodePieces.{BeginsAscii, before_ascii}, proofs.PlaceLaws.{row_front-append, row_in}}
use Rattle.yq_row_table.proofs.SliceLaws.{print-length}
use Rattle.yq_places.{specs.CommentReading.before_tail, specs.EntryReading.{before_line, through_row}}
use Rattle.yq_places.{specs.PrintedLines.{is_last_break, less_break}, proofs.CommentPieceLaws.{Ended, content_end, tail_place}}
use Rattle.yq_places.{proofs.SeamLaws.{raw_end, dashes_split}, proofs.StartLaws.front_in}
use Rattle.yq_outline.proofs.LengthLaws.{part-length}

-- the break that ends a text, if there is one
record IsSplit (x less : List ℕ) : Type 0 where
  pub break : List ℕ
  pub is : x ≡ less ++ break
  pub ascii : BeginsAscii break
  pub some : IsLf x → 0 < length break

break_ascii : (b : ℕ) (bs : List ℕ) → is_last_break (b ∷ bs) ≡ true → b < 128
break_ascii b bs h1 = search (rules, eqb-true, and_parts, false≢true)

pub lf_after : (b : ℕ) (bs : List ℕ) → is_last_break (b ∷ bs) ≡ false → IsLf (b ∷ bs) → IsLf bs
lf_after b bs e lf = go lf.0 lf.1
  where
    go : (f : List ℕ) → b ∷ bs ≡ f ++ 10 ∷ [] → IsLf bs
    go [] is = absurd (false≢true (sym e ∙ ap is_last_break is))
    go (y ∷ f) is = (f, cc)

no_lf : IsLf [] → ⊥
no_lf lf = absurd (omega (arith, ap length lf.1, length-append lf.0 (10 ∷ [])))

split : (x : List ℕ) → IsSplit x (less_break x)
unfolding less_break
split [] = record { break = []; is = refl; ascii = tt; some = λ lf. absurd (no_lf lf) }
split (b ∷ bs) = go (is_last_break (b ∷ bs)) refl (split bs)
  where
    go : (l : Bool) → is_last_break (b ∷ bs) ≡ l → IsSplit bs (less_break bs) → IsSplit (b ∷ bs) (cond l [] (b ∷ less_break bs))
    go true e again = record { break = b ∷ bs; is = refl; ascii = break_ascii b bs e; some = λ lf. omega arith }
    go false e again = record { break = again.break; is = ap (λ (l : List ℕ). b ∷ l) again.is; ascii = again.ascii; some = λ lf. again.some (lf_after b bs e lf) }

-- a text is cut there between characters
pub break_boundary : (x : List ℕ) → IsCharBoundary x (length (less_break x))
break_boundary x = let s = split x in subst (λ (q : List ℕ). IsCharBoundary q (length (less_break x))) (sym s.is) (before_ascii (less_break x) s.break s.ascii)

break_after : (break after : List ℕ) → BeginsAscii break → (0 < length break) ⊎ (after ≡ []) → BeginsAscii (break ++ after)
break_after break after h1 h2 = search rules

less_boundary : (before x after : List ℕ) → Ended x after → IsCharBoundary (before ++ (x ++ after)) (length (before ++ less_break x))
less_boundary before x after ended =
    let s = split x in
    let whole : before ++ (x ++ after) ≡ (before ++ less_break x) ++ (s.break ++ after) = search (rules, append_assoc, s) in
    subst (λ (q : List ℕ). IsCharBoundary q (length (before ++ less_break x))) (sym whole) (before_ascii (before ++ less_break x) (s.break ++ after) (break_after s.break after s.ascii (some ended)))
  where
    some : Ended x after → (0 < length (split x).break) ⊎ (after ≡ [])
    some (inl lf) = inl ((split x).some lf)
    some (inr none) = inr none

-- the end of a row's last line
end_boundary : (before tail raw after : List ℕ) → Ended tail (raw ++ after) → (raw ≡ []) ⊎ IsLf raw →
    IsCharBoundary (before ++ (tail ++ (raw ++ after))) (length (before ++ cond (is_empty raw) (less_break tail) (tail ++ less_break raw)))
end_boundary before tail [] after ended h = less_boundary before tail after ended
end_boundary before tail (b ∷ bs) after ended (inl none) = absurd (cc)
end_boundary before tail (b ∷ bs) after ended (inr lf) =
    let raw : List ℕ = b ∷ bs in
    subst (λ (q : List ℕ). IsCharBoundary q (length (before ++ (tail ++ less_break raw)))) (append_assoc before tail (raw ++ after))
    (subst (λ (q : List ℕ). IsCharBoundary ((before ++ tail) ++ (raw ++ after)) (length q)) (append_assoc before tail (less_break raw)) (less_boundary (before ++ tail) raw after (inl lf)))

pub row_boundary : (c : Cut) (i : ℕ) (r : Row) → AreParts true c → slice_get (rows_of c) i ≡ Some r → IsCharBoundary (cut_text c) (length (through_row i r c))
row_boundary c i r h is =
    let s : Slices = slices r in
    let content = (row_in c i true r h is).row.content in
    subst (λ (q : List ℕ). IsCharBoundary q (length (through_row i r c))) (sym (tail_place c i r is))
    (end_boundary (before_tail i r c) s.tail s.raw (after_row i c) (content_end (parent_indent r) r.content (after_row i c) content) (raw_end (parent_indent r) r.content (after_row i c) content))

-- rows in order
at_order : (rows : List Row) (i j : ℕ) (q : Row) → i ≤ j → slice_get rows j ≡ Some q → length (before_at i rows) ≤ length (before_at j rows)
at_order [] i j q h is = absurd (cc)
at_order (x ∷ rows) zero zero q h is = omega arith
at_order (x ∷ rows) zero (suc j) q h is = omega (arith, ap length (row_front-append x (before_at j rows)), length-append (row_front x) (content_text x.content (before_at j rows)))
at_order (x ∷ rows) (suc i) zero q h is = absurd (omega (arith, h))
at_order (x ∷ rows) (suc i) (suc j) q h is = omega (arith, print-length x (before_at i rows), print-length x (before_at j rows), at_order rows i j q (omega (arith, h)) is)

at_fits : (rows : List Row) (i : ℕ) (r : Row) (rest : List ℕ) → slice_get rows i ≡ Some r → length (before_at i rows) ≤ length (rows_text rows rest)
at_fits [] i r rest is = absurd (cc)
at_fits (x ∷ rows) zero r rest is = omega (arith, ap length (row_front-append x (rows_text rows rest)), length-append (row_front x) (content_text x.content (rows_text rows rest)))
at_fits (x ∷ rows) (suc i) r rest is = omega (arith, print-length x (before_at i rows), print-length x (rows_text rows rest), at_fits rows i r rest is)

content_order : (c : Cut) (i j : ℕ) (r q : Row) → i ≤ j → slice_get (rows_of c) i ≡ Some r → slice_get (rows_of c) j ≡ Some q → length (before_content i c) ≤ length (before_content j c)
content_order (last p) i j r q h is at = at_order p.rows i j q h at
content_order (marked p marker c) i j r q h is at = go (cases_lt i (length p.rows)) (cases_lt j (length p.rows)) (λ less there other. content_order c (i - length p.rows) (j - length p.rows) r q less there other)
  where
    here : (n : ℕ) → n < length p.rows → length (before_content n (marked p marker c)) ≡ length (before_at n p.rows)
    here n h = ap length (cond-true _ _ _ (lt-ltb n (length p.rows) h))

    past : (n : ℕ) → length p.rows ≤ n → length (before_content n (marked p marker c)) ≡ length (part_text p (marker ++ before_content (n - length p.rows) c))
    past n h = ap length (cond-false _ _ _ (le-ltb n (length p.rows) h))

    go : (i < length p.rows) ⊎ (length p.rows ≤ i) → (j < length p.rows) ⊎ (length p.rows ≤ j) →
        (i - length p.rows ≤ j - length p.rows → slice_get (rows_of c) (i - length p.rows) ≡ Some r →
        slice_get (rows_of c) (j - length p.rows) ≡ Some q →
        length (before_content (i - length p.rows) c) ≤ length (before_content (j - length p.rows) c)) →
        length (before_content i (marked p marker c)) ≤ length (before_content j (marked p marker c))
    go h1 h2 h3 = search (rules, at_order, slice_front, at_fits, slice_back, part-length, length-append)

pub lines_order : (c : Cut) (i j k : ℕ) (r q : Row) → i ≤ j → slice_get (rows_of c) i ≡ Some r → slice_get (rows_of c) j ≡ Some q → length (before_line i k r c) ≤ length (through_row j q c)
lines_order c i j k r q h is at =
    omega (arith, content_order c i j r q h is at, front_in i c r is, length-append {A = ℕ}, ap length (dashes_split k r.dashes (mark_text r.mark [])))
