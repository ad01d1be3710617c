-- The rows of a part: steps of reading them.
use Rattle.std.proofs.Common.{if◌then◌else◌, ◌≡◌, ℕ, suc, ◌<◌, ◌≤◌, true, false, cond, List, [], ◌∷◌, length, Option, Some, None, refl, ap}
use Rattle.std.proofs.Common.{arith, length-drop}
use Rattle.yq_core.{specs.Answers.◌>>=◌, proofs.Binds.bind_same}
use Rattle.yq_row_table.specs.Grammar.{Limit, limit_after, ends_part}
use Rattle.yq_row_table.{specs.Reading.{gap_len, cut_gap, row_at, with_rows, rows_at, all_rows}, specs.Rows.{Row, Part}}
use Rattle.yq_row_table.proofs.RowLaws.{row_shorter}

pub after_le : (t : List ℕ) → length (cut_gap t).1 ≤ length t
after_le t = omega (arith, length-drop (gap_len t) t)

-- rows before those that are read
abbrev pub with_front : List Row → Option (Part × List ℕ) → Option (Part × List ℕ)
with_front front read = read >>= λ x. Some (with_rows front x)

abbrev pub then_rows : ℕ → Row × List ℕ → Option (Part × List ℕ)
then_rows n row = with_front (row.0 ∷ []) (rows_at n (limit_after row.0) row.1)

-- no more rows
abbrev pub no_more : List ℕ × List ℕ → Option (Part × List ℕ)
no_more gap = Some (record { rows = []; end = gap.0 }, gap.1)

-- how many rows are allowed makes no difference
rows_fuel : (n m : ℕ) (limit : Limit) (t : List ℕ) → length t < n → length t < m → rows_at n limit t ≡ rows_at m limit t
unfolding rows_at
rows_fuel (suc n) (suc m) limit t a b =
    ap (λ o. cond (ends_part (cut_gap t).1) (no_more (cut_gap t)) o)
    (bind_same (then_rows n) (then_rows m) (row_at limit (cut_gap t).0 (cut_gap t).1) (λ x e.
    let short = row_shorter limit (cut_gap t).0 (cut_gap t).1 x e in
    let less = after_le t in
    ap (with_front (x.0 ∷ [])) (rows_fuel n m (limit_after x.0) x.1 (omega arith) (omega arith))))
rows_fuel _ _ limit t a b = absurd (omega arith)

-- the rows of a text whose first gap is cut
unfoldable pub rows_from : Limit → List ℕ → List ℕ → Option (Part × List ℕ)
rows_from limit gap t =
    if ends_part t then no_more (gap, t) else (row_at limit gap t >>= λ row. with_front (row.0 ∷ []) (all_rows (limit_after row.0) row.1))

pub rows_cut : (limit : Limit) (t : List ℕ) → all_rows limit t ≡ rows_from limit (cut_gap t).0 (cut_gap t).1
unfolding rows_at rows_from
rows_cut limit t =
    ap (λ o. cond (ends_part (cut_gap t).1) (no_more (cut_gap t)) o)
    (bind_same (then_rows (length t)) (λ row. with_front (row.0 ∷ []) (all_rows (limit_after row.0) row.1)) (row_at limit (cut_gap t).0 (cut_gap t).1) (λ x e.
    let short = row_shorter limit (cut_gap t).0 (cut_gap t).1 x e in
    let less = after_le t in
    ap (with_front (x.0 ∷ [])) (rows_fuel (length t) (suc (length x.1)) (limit_after x.0) x.1 (omega arith) (omega arith))))

pub rows_step : (limit : Limit) (gap t : List ℕ) (x : Row × List ℕ) → ends_part t ≡ false → row_at limit gap t ≡ Some x → rows_from limit gap t ≡ with_front (x.0 ∷ []) (rows_from (limit_after x.0) (cut_gap x.1).0 (cut_gap x.1).1)
unfolding rows_from
rows_step limit gap t x some h = rw (some, h) (ap (with_front (x.0 ∷ [])) (rows_cut (limit_after x.0) x.1))

pub rows_refused : (limit : Limit) (gap t : List ℕ) → ends_part t ≡ false → row_at limit gap t ≡ None → rows_from limit gap t ≡ None
unfolding rows_from
rows_refused limit gap t some h = rw (some, h) refl

pub rows_done : (limit : Limit) (gap t : List ℕ) → ends_part t ≡ true → rows_from limit gap t ≡ Some (record { rows = []; end = gap }, t)
unfolding rows_from
rows_done limit gap t none = rw none refl
