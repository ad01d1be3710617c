-- Items of a cut end in an LF, where something is after them; and which of them lie at the bytes that a change keeps.
use Rattle.std.proofs.Common.{rules, ◌≡◌, ◌⊎◌, inl, inr, ℕ, ◌+◌, ◌-◌, ◌≤◌, Bool, true, false, cond, ltb, List, [], ◌∷◌, ◌++◌, length, refl}
use Rattle.std.{proofs.Common.{sym, ap, ◌∙◌, subst, arith, append-nil}, proofs.lemmas.Bool.{false≢true, ltb-false}}
use Rattle.std.proofs.lemmas.List.{length-append}
use mathlib.Core.List.{tail-eq_of_cons-eq}
use Rattle.yq_core.{specs.Text.is_empty, proofs.BlockPieceLaws.{IsLf, append_lf, line_lf}}
use Rattle.yq_row_table.specs.Items.{Item, row_item, end_item, items_text, Asked, asked_by, IsItem, AreRowItems}
use Rattle.yq_row_table.{specs.Touched.{item_text, in_back, before_offset}, proofs.ItemLaws.items_text-append, proofs.KeptLaws.items_apart}
use Rattle.yq_row_table.{proofs.NothingLaws.some_after, proofs.seams.MarkerSeams.marker_line_is}
use Rattle.yq_places.proofs.CommentPieceLaws.{Ended}
use Rattle.yq_edit_rules.{proofs.EndedRowLaws.row_ended, proofs.ItemsLocal.item_apart}
use Rattle.yq_edit_laws.proofs.TouchLaws.{size_one}

-- ---- what ends them

item_ended : (asked : Asked) (i : Item) (xs : List Item) → IsItem asked i xs [] → is_empty (items_text xs []) ≡ false → IsLf (item_text i)
item_ended asked (row_item r) xs h some = go (row_ended asked.limit r (items_text xs []) h.1)
  where
    go : Ended (item_text (row_item r)) (items_text xs []) → IsLf (item_text (row_item r))
    go (inl lf) = lf
    go (inr none) = absurd (false≢true (sym some ∙ ap is_empty none))
item_ended asked (end_item gap marker) xs h some = search (rules, append_lf, line_lf, marker_line_is, false≢true)

-- several of them
pub items_ended : (asked : Asked) (xs ys : List Item) → AreRowItems asked (xs ++ ys) [] → is_empty (items_text ys []) ≡ false → (xs ≡ []) ⊎ IsLf (items_text xs [])
items_ended asked [] ys h some = inl refl
items_ended asked (x ∷ xs) ys h some = inr (subst IsLf (sym (item_apart x xs [])) (go (items_ended (asked_by asked x) xs ys h.1 some)))
  where
    after : is_empty (items_text (xs ++ ys) []) ≡ false
    after = ap is_empty (items_text-append xs ys [] ∙ items_apart xs (items_text ys [])) ∙ some_after (items_text xs []) (items_text ys []) some

    own : IsLf (item_text x)
    own = item_ended asked x (xs ++ ys) h.0 after

    go : (xs ≡ []) ⊎ IsLf (items_text xs []) → IsLf (item_text x ++ items_text xs [])
    go (inl none) = subst (λ (l : List Item). IsLf (item_text x ++ items_text l [])) (sym none) (subst IsLf (sym (append-nil (item_text x))) own)
    go (inr lf) = append_lf (item_text x) (items_text xs []) lf

-- ---- which of them are before and after

-- the first item that isn't in front of an offset reaches it
pub front_stop : (n : ℕ) (is : List Item) (y : Item) (ys : List Item) → is ≡ before_offset n is ++ (y ∷ ys) → n ≤ length (items_text (before_offset n is) []) + length (item_text y)
front_stop n [] y ys e = absurd (let no : [] ≡ y ∷ ys = e in cc)
front_stop n (i ∷ is) y ys e = search (rules, arith, size_one, ltb-false, front_stop (n - length (item_text i)) is y ys)

-- an item in front of those that are after a place begins at it or in front of it
pub back_stop : (n : ℕ) (is xs : List Item) (w : Item) (ws : List Item) → is ≡ xs ++ (w ∷ (ws ++ in_back n is)) → n ≤ length (items_text (w ∷ (ws ++ in_back n is)) [])
back_stop n [] [] w ws e = absurd (let no : [] ≡ w ∷ (ws ++ in_back n []) = e in cc)
back_stop n [] (x ∷ xs) w ws e = absurd (let no : [] ≡ x ∷ (xs ++ (w ∷ (ws ++ in_back n []))) = e in cc)
back_stop n (i ∷ is) xs w ws e = go (λ ys k. back_stop n is ys w ws k) (ltb (length (items_text (i ∷ is) [])) n) refl e
  where
    whole : (xs : List Item) → i ∷ is ≡ xs ++ (w ∷ (ws ++ (i ∷ is))) → ⊥
    whole xs k = omega (arith, ap length k, length-append xs (w ∷ (ws ++ (i ∷ is))), length-append ws (i ∷ is))

    less : ((ys : List Item) → is ≡ ys ++ (w ∷ (ws ++ in_back n is)) → n ≤ length (items_text (w ∷ (ws ++ in_back n is)) [])) → (xs : List Item) → i ∷ is ≡ xs ++ (w ∷ (ws ++ in_back n is)) → n ≤ length (items_text (i ∷ is) []) →
        n ≤ length (items_text (w ∷ (ws ++ in_back n is)) [])
    less again [] k h = subst (λ (l : List Item). n ≤ length (items_text l [])) k h
    less again (x ∷ xs) k h = again xs (tail-eq_of_cons-eq k)

    go : ((ys : List Item) → is ≡ ys ++ (w ∷ (ws ++ in_back n is)) → n ≤ length (items_text (w ∷ (ws ++ in_back n is)) [])) → (b : Bool) →
        ltb (length (items_text (i ∷ is) [])) n ≡ b → i ∷ is ≡ xs ++ (w ∷ (ws ++ cond b (i ∷ is) (in_back n is))) →
        n ≤ length (items_text (w ∷ (ws ++ cond b (i ∷ is) (in_back n is))) [])
    go again true long k = absurd (whole xs k)
    go again false long k = less again xs k (ltb-false (length (items_text (i ∷ is) [])) n long)
