-- Lines cut out of a text.
use Rattle.std.proofs.Common.{◌≡◌, inl, ℕ, ◌+◌, ◌-◌, eqb, Bool, false, cond, List, [], ◌∷◌, ◌++◌, length, length-append, take, drop, refl}
use Rattle.std.{proofs.Common.{◌∙◌, arith, rules, Some, ap, sym, subst, append_assoc}, proofs.Math.Seq.{drop-append_seam, take-append_seam}}
use Rattle.std.{proofs.lemmas.Bool.{and_parts, eqb-true, false≢true, ne_eqb}, specs.List.slice_get, specs.Str.{IsUtf8, IsCharBoundary}}
use Rattle.yq_core.specs.Text.{is_empty}
use Rattle.yq_outline.specs.Extents.{row_start}
use Rattle.yq_row_table.{specs.Offsets.row_length, specs.Rows.{print_row, rows_text}, specs.View.{RowsView, Slices}}
use Rattle.yq_places.{specs.PlacementReading.EndsRows, specs.Placements.{before_entry, after_entry, LinesIn}}
use Rattle.yq_places.{proofs.EntryRowLaws.{cut_in_two, stop_boundary, stop_is}, specs.LineReading.{CutsLines, IsLastBreak, line_list}}
use Rattle.yq_places.specs.PrintedLines.{is_last_break, last_break, less_break}

pub last_is : (t : List ℕ) → IsLastBreak (last_break t)
unfolding less_break
last_is [] = inl refl
last_is (b ∷ bs) = go (is_last_break (b ∷ bs)) refl (last_is bs)
  where
    go : (c : Bool) → is_last_break (b ∷ bs) ≡ c → IsLastBreak (last_break bs) → IsLastBreak (drop (length (cond c [] (b ∷ less_break bs))) (b ∷ bs))
    go c h1 h2 = search (rules, eqb-true, and_parts)

pub none_is : (t : List ℕ) → eqb (length t) 0 ≡ is_empty t
none_is t = search (rules, ne_eqb)

pub some_first : (a b : List ℕ) → eqb (length a) 0 ≡ false → is_empty (a ++ b) ≡ false
some_first [] b e = absurd (false≢true (sym e))
some_first (x ∷ xs) b e = refl

module _ (t : List ℕ) (from stop : ℕ) (h : CutsLines t from stop) where
  size : stop - from ≡ length h.own
  size = omega (arith, h.from_is, h.stop_is, length-append h.before h.own)

  rest : drop from t ≡ h.own ++ h.after
  rest = (λ i. drop (h.from_is i) (h.text i)) ∙ drop-append_seam h.before (h.own ++ h.after)

  pub lines_are : (before own lines last after : List ℕ) → before ≡ take from t → own ≡ take (stop - from) (drop from t) →
      after ≡ drop (stop - from) (drop from t) → lines ≡ less_break own → last ≡ last_break own →
      ◌≡◌ {A = LinesIn} (record { before = before; lines = lines; last = last; after = after }) (line_list h)
  lines_are before own lines last after a b d e f = search (rules, take-append_seam, size, rest, drop-append_seam)

-- the end of the rows of an item or entry
module _ (t : List ℕ) (s : RowsView) (from end : ℕ) (h : EndsRows t s from end) (u : IsUtf8 t) (stop : ℕ)
    (agrees : (x : Slices) → slice_get s.rows (end - 1) ≡ Some x → stop ≡ row_start (end - 1) s + row_length x) where
  pub stops : stop ≡ length (before_entry h.entry ++ print_row h.entry.row (rows_text h.entry.under []))
  stops = stop_is t s h.entry h.row end h.rows stop agrees

  abbrev pub rows_cut : CutsLines t from stop
  rows_cut = record {
    before = h.front;
    own = h.own;
    after = after_entry h.entry;
    text = cut_in_two t s h.entry h.row end h.rows ∙ (ap (λ (z : List ℕ). z ++ after_entry h.entry) h.text ∙ append_assoc h.front h.own (after_entry h.entry));
    from_is = h.from_is;
    stop_is = stops ∙ ap length h.text;
    starts = h.starts;
    stops = subst (IsCharBoundary t) (sym stops) (stop_boundary t s h.entry h.row end h.rows u);
  }
