-- Each item that segments write is touched by what they put, where that is near.
use Rattle.std.proofs.Common.{rules, ◌≡◌, ◌⊎◌, inl, inr, ℕ, ◌+◌, ◌≤◌, true, false, List, [], ◌∷◌, ◌++◌, length, Some, sym, ap, ◌∙◌, subst}
use Rattle.std.{proofs.Common.{append_assoc, arith}, proofs.lemmas.List.length-append}
use mathlib.Core.List.{tail-eq_of_cons-eq}
use Rattle.yq_core.{specs.Text.is_empty, proofs.BlockPieceLaws.IsLf}
use Rattle.yq_row_table.{specs.Grammar.IsCut, specs.Items.{Item, AreRowItems, items_of_cut, items_text, nothing_asked}, specs.Rows.Cut}
use Rattle.yq_row_table.specs.Touched.{in_back, before_offset, item_text}
use Rattle.yq_row_table.{proofs.ItemLaws.{items_of_text, items_text-append, parts_are_items}, proofs.KeptLaws.items_apart}
use Rattle.yq_documents.specs.Reading.{read_at}
use Rattle.yq_text.specs.Script.{Segment, are_kept, kept_back, kept_front, new_text}
use Rattle.yq_edit_laws.proofs.CutLaws.{cut_read}
use Rattle.yq_edit_laws.specs.TouchedRanges.{AreTouched, IsLocalEdit, IsTouched, LiesInOne, NearAreTouched, put_ranges}
use Rattle.yq_edit_laws.{proofs.ItemEnds.{back_stop, front_stop, items_ended}, proofs.RangeLaws.{at_first, at_last, from_front}}
use Rattle.yq_edit_laws.proofs.TouchLaws.{size_joined, size_one}

-- items of a list that is cut at another place too: they are in front of that, or after it
apart : (done front : List Item) (w own : Item) (ws back : List Item) → done ++ (w ∷ ws) ≡ front ++ (own ∷ back) →
    (length (items_text done []) ≤ length (items_text front [])) ⊎ (length (items_text (w ∷ ws) []) ≤ length (items_text back []))
apart [] front w own ws back e = inl (omega arith)
apart (x ∷ done) [] w own ws back e = search (rules, arith, size_joined)
apart (x ∷ done) (y ∷ front) w own ws back e = search (rules, arith, size_one, apart done front w own ws back (tail-eq_of_cons-eq e))

module _ (ss : List Segment) (new : Cut) (near : IsLocalEdit ss) (kept : are_kept ss ≡ false) (read : read_at (new_text ss) ≡ Some new) where
  cut : IsCut (new_text ss) new
  cut = cut_read (new_text ss) new read

  items : AreRowItems nothing_asked (items_of_cut new) []
  items = parts_are_items new true cut.parts

  text : items_text (items_of_cut new) [] ≡ new_text ss
  text = items_of_text new ∙ sym cut.text

  -- an item between those in front and others
  item_touched : (done : List Item) (w : Item) (ws : List Item) → items_of_cut new ≡ done ++ (w ∷ ws) → length (kept_front ss) ≤ length (items_text done []) + length (item_text w) → length (kept_back ss) ≤ length (items_text (w ∷ ws) []) →
      IsTouched (length (items_text done [])) (length (items_text done []) + length (item_text w)) (put_ranges ss)
  item_touched done w ws are front back = by_near near
    where
      before : List ℕ
      before = items_text done []

      after : List ℕ
      after = items_text (w ∷ ws) []

      whole : new_text ss ≡ before ++ after
      whole = sym text ∙ (ap (λ (l : List Item). items_text l []) are ∙ (items_text-append done (w ∷ ws) [] ∙ items_apart done (items_text (w ∷ ws) [])))

      size : length (new_text ss) ≡ length before + length after
      size = ap length whole ∙ length-append before after

      ended : is_empty after ≡ false → (before ≡ []) ⊎ IsLf before
      ended some = search (rules, items_ended, items)

      side : LiesInOne ss new → (length before ≤ length (kept_front ss)) ⊎ (length after ≤ length (kept_back ss))
      side one = search (rules, arith, apart)

      by_side : (length before ≤ length (kept_front ss)) ⊎ (length after ≤ length (kept_back ss)) → IsTouched (length before) (length before + length (item_text w)) (put_ranges ss)
      by_side (inl k) = at_first 0 (length before) (length before + length (item_text w)) ss kept (omega (arith, k)) (omega (arith, front))
      by_side (inr k) = at_last 0 (length before) (length before + length (item_text w)) ss kept (omega (arith, size, back)) (omega (arith, size, k)) (omega arith)

      by_near : IsLocalEdit ss → IsTouched (length before) (length before + length (item_text w)) (put_ranges ss)
      by_near (inl lines) =
          from_front before after (length before + length (item_text w)) ended (omega arith) [] ss whole lines kept (omega (arith, front)) back (omega (arith, size_one w ws))
      by_near (inr one) = by_side (side (one new read))

  -- items the first of which ends after what is kept in front
  items_touched : (back : List Item) → back ≡ in_back (length (kept_back ss)) (items_of_cut new) → (done ws : List Item) → items_of_cut new ≡ done
      ++ (ws ++ back) →
      ((w : Item) (more : List Item) → items_of_cut new ≡ done ++ (w ∷ more) →
      length (kept_front ss) ≤ length (items_text done []) + length (item_text w)) → AreTouched (length (items_text done [])) ws (put_ranges ss)
  items_touched back after done [] are front = tt
  items_touched back after done (w ∷ ws) are front =
      let n : length (items_text (done ++ (w ∷ [])) []) ≡ length (items_text done []) + length (item_text w) = omega (arith, size_joined done (w ∷ []), size_one w []) in
      let front_long = front w (ws ++ back) are in
      let back_long : length (kept_back ss) ≤ length (items_text (w ∷ (ws ++ back)) []) =
      subst (λ (b : List Item). length (kept_back ss) ≤ length (items_text (w ∷ (ws ++ b)) [])) (sym after)
      (back_stop (length (kept_back ss)) (items_of_cut new) done w ws (are ∙ ap (λ (b : List Item). done ++ (w ∷ (ws ++ b))) after)) in (
        item_touched done w (ws ++ back) are front_long back_long,
        subst (λ (k : ℕ). AreTouched k ws (put_ranges ss)) n
            (items_touched back after (done ++ (w ∷ [])) ws (are ∙ sym (append_assoc done (w ∷ []) (ws ++ back)))
            (λ u more rest. omega (arith, n, front_long))),
      )

  -- all of them
  all_touched : (front back : List Item) → front ≡ before_offset (length (kept_front ss)) (items_of_cut new) → back ≡ in_back (length (kept_back ss)) (items_of_cut new) → (ws : List Item) → items_of_cut new ≡ front ++ (ws ++ back) →
      AreTouched (length (items_text front [])) ws (put_ranges ss)
  all_touched front back before after ws are = items_touched back after front ws are (λ w more are. (search (rules, front_stop)))

pub near_touched : NearAreTouched
near_touched ss c new near kept read front back is after t = search (rules, all_touched)
