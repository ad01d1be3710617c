-- An item or entry whose lines end before those of another one, by its rows.
use Rattle.std.proofs.Common.{◌≡◌, inl, inr, ℕ, ◌+◌, ◌<◌, ◌≤◌, false, List, [], ◌∷◌, ◌++◌, length, refl, sym, ap, ◌∙◌, subst, arith}
use Rattle.std.{proofs.Common.{append_assoc, append-nil, length-append}, proofs.lemmas.Bool.cases_lt}
use mathlib.Core.List.{head-eq_of_cons-eq, tail-eq_of_cons-eq}
use Rattle.yq_row_table.specs.Grammar.{AreRows, IsRow, Limit, limit_after, no_rows, unlimited}
use Rattle.yq_row_table.{specs.Rows.{Row, following_gap, print_row, rows_text}, specs.Splices.{after_first, first_gap, with_row_gap}}
use Rattle.yq_row_table.{proofs.PlaceLaws.row_then, proofs.RowLaws.row_longer, proofs.seams.SeamLaws.rows_text-append}
use Rattle.yq_places.{specs.PlacedRows.PlacedPart, specs.RemovalPlaces.{OwnRows, comment_above, kept_gap, rows_out}}
use Rattle.yq_places.proofs.RemovalTexts.{first_then, gap_parts, texts_then}

-- lists in two parts in two ways
pub split_front : {A : Type 0} (a b c d : List A) → a ++ b ≡ c ++ d → length a ≤ length c → (m : List A) × (c ≡ a ++ m) × (b ≡ m ++ d)
split_front [] b c d e less = (c, refl, e)
split_front (x ∷ a) b [] d e less = absurd (omega (arith, less))
split_front (x ∷ a) b (y ∷ c) d e less =
    let h = split_front a b c d (tail-eq_of_cons-eq e) (omega (arith, less)) in
    (h.0, (λ i. sym (head-eq_of_cons-eq e) i ∷ h.1 i), h.2)

-- what comes after the gap of a row isn't empty
row_has : (limit : Limit) (r : Row) (rest : List ℕ) → IsRow limit r rest → 0 < length (following_gap r [])
row_has limit r rest h =
    let own : following_gap r rest ≡ following_gap r [] ++ rest = row_then (with_row_gap [] r) [] rest in
    omega (arith, row_longer r rest h.mark h.content, ap length own, length-append (following_gap r []) rest)

row_among : (a : List Row) (r : Row) (m : List Row) (limit : Limit) (end rest : List ℕ) → AreRows limit (a ++ (r ∷ m)) end rest → 0 < length (following_gap r [])
row_among [] r m limit end rest h = row_has limit r (rows_text m (end ++ rest)) h.0
row_among (x ∷ a) r m limit end rest h = row_among a r m (limit_after x) end rest h.1

-- where lines that go begin and end
module _ (d : PlacedPart) (x : OwnRows) (some : no_rows x.own ≡ false) where
  pub ends : length (rows_out d x).before + length (rows_out d x).gone ≡ length d.before + length (rows_text (x.front ++ x.own) [])
  ends =
      let end : List ℕ = d.part.end in
      let kept : List ℕ = kept_gap x.own end in
      let run : List ℕ = comment_above x.own end in
      let body : List ℕ = after_first x.own [] [] in
      let own : rows_text x.own [] ≡ (kept ++ run) ++ (body ++ []) = first_then x.own end [] some ∙ ap (λ (t : List ℕ). t ++ (body ++ [])) (sym (gap_parts (first_gap x.own end))) in
      omega (
        arith,
        length-append d.before (rows_text x.front kept),
        ap length (texts_then x.front [] kept),
        length-append (rows_text x.front []) kept,
        length-append run body,
        ap length (rows_text-append x.front x.own []),
        ap length (texts_then x.front [] (rows_text x.own [])),
        length-append (rows_text x.front []) (rows_text x.own []),
        ap length own,
        length-append (kept ++ run) (body ++ []),
        length-append kept run,
        length-append body [],
      )

-- an item or entry whose lines end where those of another one begin, or before, has rows in front of its rows
module _ (d : PlacedPart) (x y : OwnRows) (some : no_rows x.own ≡ false) (r : Row) (g : List Row) (first : y.own ≡ r ∷ g) (x_rows : d.part.rows ≡ x.front ++ (x.own ++ x.back)) (y_rows : d.part.rows ≡ y.front ++ (y.own ++ y.back))
    (are : AreRows unlimited d.part.rows d.part.end d.after)
    (short : length (rows_out d x).before + length (rows_out d x).gone ≤ length (rows_out d y).before) where
  whole : (x.front ++ x.own) ++ x.back ≡ y.front ++ (y.own ++ y.back)
  whole = append_assoc x.front x.own x.back ∙ (sym x_rows ∙ y_rows)

  -- how long what stays above it is
  kept_most : length (rows_out d y).before ≤ length d.before + (length (rows_text y.front []) + length r.gap)
  kept_most =
      let kept : List ℕ = kept_gap y.own d.part.end in
      let parts : kept_gap (r ∷ g) d.part.end ++ comment_above (r ∷ g) d.part.end ≡ r.gap = gap_parts r.gap in
      omega (
        arith,
        length-append d.before (rows_text y.front kept),
        ap length (texts_then y.front [] kept),
        length-append (rows_text y.front []) kept,
        ap (λ (rs : List Row). length (kept_gap rs d.part.end)) first,
        ap length parts,
        length-append (kept_gap (r ∷ g) d.part.end) (comment_above (r ∷ g) d.part.end),
      )

  pub before_offset : (m : List Row) × (y.front ≡ x.front ++ (x.own ++ m))
  before_offset = elim (cases_lt (length y.front) (length (x.front ++ x.own))) [
    | inl less ↦ absurd (not_longer less)
    | inr least ↦
        let h = split_front (x.front ++ x.own) x.back y.front (y.own ++ y.back) whole least in
        (h.0, h.1 ∙ append_assoc x.front x.own h.0)
  ]
    where
      not_longer : length y.front < length (x.front ++ x.own) → ⊥
      not_longer less =
          let h = split_front y.front (y.own ++ y.back) (x.front ++ x.own) x.back (sym whole) (omega (arith, less)) in
          go h.0 h.1 h.2
        where
          go : (m : List Row) → x.front ++ x.own ≡ y.front ++ m → y.own ++ y.back ≡ m ++ x.back → ⊥
          go [] e k = omega (arith, less, ap length e, ap length (append-nil y.front))
          go (s ∷ m) e k =
              let same : r ≡ s = head-eq_of_cons-eq (ap (λ (rs : List Row). rs ++ y.back) (sym first) ∙ k) in
              let there : d.part.rows ≡ y.front ++ (s ∷ (m ++ x.back)) = y_rows ∙ ap (λ (rs : List Row). y.front ++ rs) k in
              let own : 0 < length (following_gap s []) = row_among y.front s (m ++ x.back) _ d.part.end d.after (subst (λ (rs : List Row). AreRows unlimited rs d.part.end d.after) there are) in
              omega (
                arith,
                short,
                kept_most,
                own,
                ends d x some,
                ap (λ (rs : List Row). length (rows_text rs [])) e,
                ap length (rows_text-append y.front (s ∷ m) []),
                ap length (texts_then y.front [] (rows_text (s ∷ m) [])),
                length-append (rows_text y.front []) (rows_text (s ∷ m) []),
                ap length (row_then s [] (rows_text m [])),
                length-append (print_row s []) (rows_text m []),
                length-append s.gap (following_gap s []),
                ap (λ (q : Row). length q.gap) same,
              )
