-- Items of a cut, exchanged for others: the bytes of those that are kept in part.
use Rattle.std.proofs.Common.{◌≡◌, ℕ, ◌≤◌, List, [], ◌∷◌, ◌++◌, length, false, refl, sym, ap, ◌∙◌, subst, append_assoc, arith, rules}
use Rattle.std.proofs.lemmas.List.{append_cancel_left, append_cancel_right, length-append}
use Rattle.yq_row_table.{specs.Items.{Item, row_item, end_item, rows_items, items_of_cut, items_text}, specs.Rows.{Row, Cut, cut_text}}
use Rattle.yq_row_table.{specs.Touched.item_text, proofs.ItemLaws.{items_of_text, items_text-append}, proofs.KeptLaws.items_apart}
use Rattle.yq_row_table.proofs.PlaceLaws.{row_then}
use Rattle.yq_edit_rules.{proofs.DocumentItemLaws.rows_before, specs.Local.{InFirst, InLast, IsLocal}}
use Rattle.yq_text.{specs.Script.{Segment, old_text, new_text, are_kept, kept_front, kept_back}, proofs.KeptSegments.{IsBetween, between}}

-- ---- bytes in items

pub first_nothing : (is : List Item) → InFirst [] is
first_nothing is = search rules

pub last_nothing : (is : List Item) → InLast [] is
last_nothing [] = refl
last_nothing (i ∷ []) = omega arith
last_nothing (i ∷ (j ∷ is)) = last_nothing (j ∷ is)

in_last : (is : List Item) (i : Item) (trail : List ℕ) → length trail ≤ length (item_text i) → InLast trail (is ++ (i ∷ []))
in_last (j ∷ (k ∷ is)) i trail h = in_last (k ∷ is) i trail h
in_last _ i trail h = h

pub rows_last : (rs : List Row) (i : Item) (trail : List ℕ) → length trail ≤ length (item_text i) → InLast trail (rows_items rs (i ∷ []))
rows_last rs i trail h = subst (InLast trail) (sym (rows_before rs [] (i ∷ []))) (in_last (rows_items rs []) i trail h)

pub first_within : (t a b : List ℕ) → t ≡ a ++ b → length a ≤ length t
first_within t a b e = let size : length t ≡ length (a ++ b) = ap length e in omega (arith, size, length-append a b)

-- ---- the texts of items

pub item_apart : (i : Item) (is : List Item) (rest : List ℕ) → items_text (i ∷ is) rest ≡ item_text i ++ items_text is rest
item_apart (row_item r) is rest = row_then r [] (items_text is rest)
item_apart (end_item gap marker) is rest = sym (append_assoc gap marker (items_text is rest))

-- the text between what segments keep
inside : (f r lead m trail z : List ℕ) → f ++ (r ++ z) ≡ (f ++ lead) ++ (m ++ (trail ++ z)) → r ≡ lead ++ (m ++ trail)
inside f r lead m trail z e = search (rules, append_cancel_right, append_cancel_left, append_assoc)

-- The text of items begins with bytes, and ends with others.
pub record IsInside (is : List Item) (lead trail : List ℕ) : Type 0 where
  pub middle : List ℕ
  pub text : items_text is [] ≡ lead ++ (middle ++ trail)

items_inside : (front is back : List Item) (lead m trail : List ℕ) → items_text (front ++ (is ++ back)) [] ≡ items_text front lead ++ (m ++ (trail ++ items_text back [])) → IsInside is lead trail
items_inside front is back lead m trail e = record {
  middle = m;
  text = inside (items_text front []) (items_text is []) lead m trail (items_text back [])
      (sym (items_text-append front (is ++ back) [] ∙ (items_apart front (items_text (is ++ back) []) ∙ ap (λ t. items_text front [] ++ t) (items_text-append is back [] ∙ items_apart is (items_text back []))))
      ∙ (e ∙ ap (λ t. t ++ (m ++ (trail ++ items_text back []))) (items_apart front lead)));
}

-- Segments keep texts that end after items in front, and begin in front of those after; the items of a cut and of a new one are between these.
pub record ItemsGiveWay (ss : List Segment) (c new : Cut) : Type 0 where
  pub front : List Item
  pub gone : List Item
  pub come : List Item
  pub back : List Item
  pub old_are : items_of_cut c ≡ front ++ (gone ++ back)
  pub new_are : items_of_cut new ≡ front ++ (come ++ back)
  pub lead : List ℕ
  pub trail : List ℕ
  pub before_is : kept_front ss ≡ items_text front lead
  pub following_is : kept_back ss ≡ trail ++ items_text back []
  pub puts : are_kept ss ≡ false
  pub old_is : old_text ss ≡ cut_text c
  pub new_is : new_text ss ≡ cut_text new

module _ (ss : List Segment) (c new : Cut) (e : ItemsGiveWay ss c new) where
  pub gone_inside : IsInside e.gone e.lead e.trail
  gone_inside =
      let b : IsBetween ss = between ss e.puts in
      items_inside e.front e.gone e.back e.lead b.old e.trail
      (sym (ap (λ is. items_text is []) e.old_are) ∙ (items_of_text c ∙ (sym e.old_is ∙ (b.old_is ∙ (λ j. e.before_is j ++ (b.old ++ e.following_is j))))))

  pub come_inside : IsInside e.come e.lead e.trail
  come_inside =
      let b : IsBetween ss = between ss e.puts in
      items_inside e.front e.come e.back e.lead b.new e.trail
      (sym (ap (λ is. items_text is []) e.new_are) ∙ (items_of_text new ∙ (sym e.new_is ∙ (b.new_is ∙ (λ j. e.before_is j ++ (b.new ++ e.following_is j))))))

  pub items_local : InFirst e.lead e.gone → InFirst e.lead e.come → InLast e.trail e.gone → InLast e.trail e.come → IsLocal ss c new
  items_local b0 b1 e0 e1 = search rules

-- bytes of one item
pub one_first : (i : Item) (lead trail : List ℕ) → IsInside (i ∷ []) lead trail → length lead ≤ length (item_text i)
one_first i lead trail h = omega (arith, ap length h.text, ap length (item_apart i [] []), length-append (item_text i) [], length-append lead (h.middle ++ trail))

pub one_last : (i : Item) (lead trail : List ℕ) → IsInside (i ∷ []) lead trail → length trail ≤ length (item_text i)
one_last i lead trail h = search (rules, item_apart, length-append)
