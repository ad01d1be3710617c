-- The text before the content of a row ends as what is in front of it in its row.
use Rattle.std.{proofs.Common.{rules, ◌≡◌, inl, inr, ℕ, zero, suc, ◌-◌, List, [], ◌∷◌, ◌++◌, length, Some, sym, subst}, proofs.Math.Dec.ltb}
use Rattle.std.{proofs.lemmas.Bool.{ltb-true, ltb-false, cases_Bool}, specs.List.slice_get}
use Rattle.yq_row_table.{specs.Exchange.{row_front, before_at, before_content}, specs.Rows.{Row, part_text, Cut, last, marked}}
use Rattle.yq_row_table.{specs.View.rows_of, proofs.ExchangeLaws.{slice_front, slice_back}, proofs.PlaceLaws.{row_then, part_then}}

-- how a text ends, which is the same after another one
module _ (P : List ℕ → Type 0) (after : (xs p : List ℕ) → P p → P (xs ++ p)) where
  at_ends : (rows : List Row) (i : ℕ) (r : Row) → slice_get rows i ≡ Some r → P (row_front r) → P (before_at i rows)
  at_ends [] i r is e = cc
  at_ends (x ∷ rows) zero r is e = search rules
  at_ends (x ∷ rows) (suc i) r is e = subst P (sym (row_then x [] (before_at i rows))) (after _ (before_at i rows) (at_ends rows i r is e))

  pub content_ends : (c : Cut) (i : ℕ) (r : Row) → slice_get (rows_of c) i ≡ Some r → P (row_front r) → P (before_content i c)
  content_ends (last p) i r is e = at_ends p.rows i r is e
  content_ends (marked p marker c) i r is e = elim (cases_Bool (ltb i (length p.rows))) [
    | inl f ↦ rw f (at_ends p.rows i r (slice_front p.rows (rows_of c) i r (ltb-true i (length p.rows) f) is) e)
    | inr f ↦ rw f (subst P (sym (part_then p marker (before_content (i - length p.rows) c))) (after (part_text p marker) _ (content_ends c (i - length p.rows) r (slice_back p.rows (rows_of c) i r (ltb-false i (length p.rows) f) is) e)))
  ]
