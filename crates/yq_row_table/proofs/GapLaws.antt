-- Gaps, read and spelled.
use Rattle.std.proofs.Common.{◌≡◌, ℕ, zero, suc, ◌+◌, ◌<◌, ◌≤◌, true, false, cond, not, ◌||◌, List, [], ◌∷◌, ◌++◌, length, take, drop, refl}
use Rattle.std.proofs.Common.{sym, ap, ◌∙◌, subst, arith, append_assoc, length-append, length-drop, length-take, rules}
use Rattle.std.{proofs.lemmas.Bool.{false≢true, cond_both, not-true, and_parts}, proofs.lemmas.List.{take-append-drop, drop-drop}}
use Rattle.std.proofs.Math.Seq.{take-append_seam, drop-append_seam, take-add}
use Rattle.std.{proofs.lemmas.Str.{IsCharBoundary-start, IsCharBoundary-from_rest, IsUtf8-drop}, specs.Str.{IsUtf8, IsCharBoundary}}
use Rattle.yq_core.specs.Text.{upto, cut, no_white, ends_line, is_empty, past_white, line_len, cut_line, joined}
use Rattle.yq_core.{proofs.Boundaries.boundary_line, proofs.LineLaws.{line_len_some, line_len_within}, specs.Lines.is_hash}
use Rattle.yq_row_table.{specs.Gap.{IsGapLine, AreGapLines, IsGap}, specs.Reading.{begins_gap, gap_lines, gap_len, cut_gap}}
use Rattle.yq_row_table.proofs.LineEnds.{white_cut, white_again, line_end_takes, following_line_end, line_end_line, line_again}

some_line : (t : List ℕ) → is_empty t ≡ false → is_empty (cut_line t).0 ≡ false
unfolding line_len
some_line t h = search (rules, cond_both)

-- a line of a gap
gap_line_takes : (t : List ℕ) → begins_gap t ≡ true → IsGapLine (cut_line t).0 (cut_line t).1
gap_line_takes t h =
    let parts = and_parts (not (is_empty t)) (ends_line (past_white t) || is_hash (past_white t)) h in
    let c = cut no_white t in
    let join : c.0 ++ c.1 ≡ t = take-append-drop (upto no_white t) t in
    let e = line_end_takes c.0 c.1 (white_cut t) parts.1 in
    let line : IsGapLine (cut_line (c.0 ++ c.1)).0 (cut_line (c.0 ++ c.1)).1 =
    record { white = c.0; comment = e.0; line = e.1; some = subst (λ (s : List ℕ). is_empty (cut_line s).0 ≡ false) (sym join) (some_line t (not-true (is_empty t) parts.0)) } in
    subst (λ (s : List ℕ). IsGapLine (cut_line s).0 (cut_line s).1) join line

pub some_more : (l rest : List ℕ) → is_empty l ≡ false → is_empty (l ++ rest) ≡ false
some_more l rest h = search (rules, false≢true)

gap_line_again : (l rest : List ℕ) → IsGapLine l rest → (begins_gap (l ++ rest) ≡ true) × (cut_line (l ++ rest) ≡ (l, rest))
gap_line_again l rest h =
    let u = following_line_end h.white h.comment l rest h.line in
    let whites : past_white (l ++ rest) ≡ u.0 = ap (λ s. (cut no_white s).1) u.1 ∙ ap (λ (y : List ℕ × List ℕ). y.1) (white_again h.white u.0 h.line.blank u.2) in
    (rw (some_more l rest h.some, whites) u.3, line_again l rest (line_end_line h.white h.comment l rest h.line))

line_len_pos : (b : ℕ) (bs : List ℕ) → 0 < line_len (b ∷ bs)
line_len_pos b bs = line_len_some (b ∷ bs) (omega arith)

-- how many lines are allowed makes no difference
gap_fuel : (n m : ℕ) (t : List ℕ) → length t ≤ n → length t ≤ m → gap_lines n t ≡ gap_lines m t
unfolding gap_lines
gap_fuel zero zero t a b = refl
gap_fuel zero (suc m) [] a b = refl
gap_fuel zero (suc m) (x ∷ t) a b = absurd (omega arith)
gap_fuel (suc n) zero [] a b = refl
gap_fuel (suc n) zero (x ∷ t) a b = absurd (omega arith)
gap_fuel (suc n) (suc m) [] a b = refl
gap_fuel (suc n) (suc m) (x ∷ t) a b =
    let s : List ℕ = x ∷ t in
    let less : length (drop (line_len s) s) ≤ length t = omega (arith, length-drop (line_len s) s, line_len_within s, line_len_pos x t) in
    let again = gap_fuel n m (drop (line_len s) s) (omega arith) (omega arith) in
    ap (λ k. cond (begins_gap s) (line_len s + k) 0) again

pub gap_step : (t : List ℕ) → begins_gap t ≡ true → gap_len t ≡ line_len t + gap_len (drop (line_len t) t)
unfolding gap_lines
gap_step t h1 = search (rules, false≢true, length-drop, line_len_pos, gap_fuel)

pub gap_stop : (t : List ℕ) → begins_gap t ≡ false → gap_len t ≡ 0
unfolding gap_lines
gap_stop t h = search rules

-- a gap
abbrev pub IsGapCut : List ℕ → List ℕ → Type 0
IsGapCut p rest = IsGap p rest × (begins_gap rest ≡ false)

gap_lines_take : (n : ℕ) (t : List ℕ) → length t ≤ n → IsGapCut (take (gap_lines n t) t) (drop (gap_lines n t) t)
unfolding gap_lines
gap_lines_take zero [] h = (record { lines = []; spelled = refl; each = tt }, refl)
gap_lines_take zero (b ∷ t) h = absurd (omega arith)
gap_lines_take (suc n) [] h = (record { lines = []; spelled = refl; each = tt }, refl)
gap_lines_take (suc n) (b ∷ bs) h =
    let t : List ℕ = b ∷ bs in
    let rest = drop (line_len t) t in
    let again = gap_lines_take n rest (omega (arith, length-drop (line_len t) t, line_len_pos b bs)) in
    let k = gap_lines n rest in
    cond_both (begins_gap t) (line_len t + k) 0 (λ m. IsGapCut (take m t) (drop m t))
    (λ is. rw (take-add (line_len t) k t, ← drop-drop k (line_len t) t) (
      record {
        lines = take (line_len t) t ∷ again.0.lines;
        spelled = ap (λ l. take (line_len t) t ++ l) again.0.spelled;
        each = (subst (λ (s : List ℕ). IsGapLine (take (line_len t) t) s) (sym (take-append-drop k rest) ∙ ap (λ l. l ++ drop k rest) again.0.spelled) (gap_line_takes t is), again.0.each);
      },
      again.1,
    ))
    (λ is. (record { lines = []; spelled = refl; each = tt }, is))

pub gap_takes : (t : List ℕ) → IsGapCut (cut_gap t).0 (cut_gap t).1
gap_takes t = gap_lines_take (length t) t (omega arith)

gap_len-lines : (lines : List (List ℕ)) (rest : List ℕ) → AreGapLines lines rest → begins_gap rest ≡ false → gap_len (joined lines ++ rest) ≡ length (joined lines)
gap_len-lines [] rest h stop = gap_stop rest stop
gap_len-lines (l ∷ ls) rest h stop =
    search (rules, append_assoc, gap_line_again, length-take, line_len_within, gap_step, length-append, gap_len-lines ls rest h.1 stop)

pub gap_again : (p rest : List ℕ) → IsGapCut p rest → cut_gap (p ++ rest) ≡ (p, rest)
gap_again p rest h = search (rules, gap_len-lines, take-append_seam, drop-append_seam)

-- where the text is cut after its gap
boundary_lines : (n : ℕ) (t : List ℕ) → IsUtf8 t → IsCharBoundary t (gap_lines n t)
unfolding gap_lines
boundary_lines zero t u = IsCharBoundary-start t u
boundary_lines (suc n) t u =
    let here = boundary_line t (line_len t) refl u in
    cond_both (begins_gap t) (line_len t + gap_lines n (drop (line_len t) t)) 0 (λ k. IsCharBoundary t k)
    (λ _. IsCharBoundary-from_rest t (line_len t) _ (line_len_within t) (boundary_lines n (drop (line_len t) t) (IsUtf8-drop t _ u here)))
    (λ _. IsCharBoundary-start t u)

pub boundary_gap : (t : List ℕ) (n : ℕ) → n ≡ gap_len t → IsUtf8 t → IsCharBoundary t n
boundary_gap t n e u = rw e (boundary_lines (length t) t u)
