-- Where the items and entries of a collection are that are left.
use Rattle.std.proofs.Common.{◌≡◌, ℕ, zero, suc, ◌+◌, ◌<◌, Bool, true, false, ◌&&◌, List, [], ◌∷◌, ◌++◌, length, drop, Some, refl, sym, ap}
use Rattle.std.{proofs.Common.{◌∙◌, arith, append_assoc, length-append}, proofs.Math.Seq.drop-append_seam, proofs.lemmas.Bool.false≢true}
use Rattle.std.proofs.lemmas.Option.{none-some, same_Some}
use Rattle.yq_core.{specs.PlainText.begins_marker, specs.Text.is_feed, specs.Alike.fresh, specs.Paths.{Step, is_here, further}}
use Rattle.yq_core.specs.Nodes.{Key, FlowNode, Sep, last, comma, Items, none, item, key_text, node_text, sep_text, flow_items_text}
use Rattle.yq_core.{specs.Nodes.{is_close, AreFlowItems}, specs.Places.{Parts, locate_items}, specs.Tree.key_label}
use Rattle.yq_core.{proofs.EditPlaces.{end_placed, entry_placed}, proofs.NodeAgain.item_front, proofs.TreeLaws.key_tree}
use Rattle.yq_flow_edits.{specs.FlowPlaces.{past_feed, marks_before}, specs.Removals.ends_marked, proofs.ItemSwaps.{item_cut, text_cut}}
use Rattle.yq_flow_edits.proofs.Marks.{line_after, marks_are}
use Rattle.yq_edit_laws.specs.NearParts.{LeadsToPart}
use Rattle.yq_batch.specs.LeftItems.{Ending, ending_items, sep_left, left_items, items_after, LeadsToIndex, gap_at, front_text}
use Rattle.yq_batch.specs.LeftItems.{text_of_item, upto_text, count_items, NeedsNoComma, place_of_part, count_parts}

-- ---- places

pub spans : (total : ℕ) (h : List ℕ) (k i : ℕ) (is : Items) (rest : List ℕ) (p : ℕ × ℕ) → total ≡ length h + length (flow_items_text k is rest) → place_of_part i (locate_items total k is rest) ≡ Some p →
    (p.0 ≡ length h + length (front_text i is)) × (p.1 ≡ length h + length (upto_text i is))
unfolding locate_items flow_items_text
spans total h k i none rest p all at = absurd (none-some _ at)
spans total h k zero (item key n sep is) rest p all at =
    let u : List ℕ = sep_text sep (flow_items_text k is rest) in
    let own : List ℕ = key_text key (node_text n []) in
    let same = same_Some _ _ at in
    let start = sym (ap (λ (q : ℕ × ℕ). q.0) same) ∙ entry_placed total (record { key = key; node = n; rest = u }) in
    let finish = sym (ap (λ (q : ℕ × ℕ). q.1) same) ∙ end_placed total n u in
    let size = ap length (text_cut key n u) ∙ length-append own u in
    (omega (arith, start, all, size), omega (arith, finish, all, size))
spans total h k (suc i) (item key n sep is) rest p all at =
    let a : List ℕ = key_text key (node_text n (sep_text sep [])) in
    let size = ap length (item_cut key n sep (flow_items_text k is rest)) ∙ length-append a (flow_items_text k is rest) in
    let again = spans total (h ++ a) k i is rest p (omega (arith, all, size, length-append h a)) at in (
      omega (arith, again.0, length-append h a, length-append a (front_text i is)),
      omega (arith, again.1, length-append h a, length-append a (front_text i is), length-append (a ++ front_text i is) (text_of_item i is), length-append (front_text i is) (text_of_item i is)),
    )

-- the text of an item, and what is before and after it
pub item_split : (total k i : ℕ) (is : Items) (rest : List ℕ) (p : ℕ × ℕ) → place_of_part i (locate_items total k is rest) ≡ Some p → (x : List ℕ) × (flow_items_text k is rest ≡ front_text i is ++ (text_of_item i is ++ x))
unfolding locate_items flow_items_text
item_split total k i none rest p at = absurd (none-some _ at)
item_split total k zero (item key n sep is) rest p at = let u : List ℕ = sep_text sep (flow_items_text k is rest) in (u, text_cut key n u)
item_split total k (suc i) (item key n sep is) rest p at =
    let a : List ℕ = key_text key (node_text n (sep_text sep [])) in
    let x = item_split total k i is rest p at in
    (x.0, item_cut key n sep (flow_items_text k is rest) ∙ (ap (λ (l : List ℕ). a ++ l) x.1 ∙ sym (append_assoc a (front_text i is) (text_of_item i is ++ x.0))))

pub counted : (total k : ℕ) (is : Items) (rest : List ℕ) → count_parts (locate_items total k is rest) ≡ count_items is
unfolding locate_items
counted total k none rest = refl
counted total k (item key n sep is) rest = ap suc (counted total k is rest)

-- ---- steps

pub leads_there : (total k : ℕ) (s : Step) (i : ℕ) (is : Items) (rest : List ℕ) → LeadsToPart s i (locate_items total k is rest) → LeadsToIndex s i is
unfolding locate_items flow_items_text
leads_there total k s i none rest h = h
leads_there total k s zero (item key n sep is) rest h =
    sym (ap (λ o. is_here s (key_label o)) (key_tree total (key_text key (node_text n (sep_text sep (flow_items_text k is rest)))) key)) ∙ h
leads_there total k s (suc i) (item key n sep is) rest h = (
  sym (ap (λ o. is_here s (key_label o)) (key_tree total (key_text key (node_text n (sep_text sep (flow_items_text k is rest)))) key)) ∙ h.0,
  leads_there total k (further s) i is rest h.1,
)

-- ---- what comes after an item

pub after_as_read : (total k i j : ℕ) (is : Items) (rest : List ℕ) (e : Ending) (p : ℕ × ℕ) → place_of_part (suc i) (locate_items total k is rest) ≡ Some p → suc i < j →
    (key : Key) × (n : FlowNode) × (sep : Sep) × (os : Items) × (items_after i j is e ≡ item key n sep os) × (text_of_item (suc i) is ≡ key_text key (node_text n []))
unfolding locate_items
after_as_read total k i zero is rest e p at less = absurd (omega (arith, less))
after_as_read total k i (suc j) none rest e p at less = absurd (none-some _ at)
after_as_read total k zero (suc zero) (item key n sep is) rest e p at less = absurd (omega (arith, less))
after_as_read total k zero (suc (suc j)) (item key n sep none) rest e p at less = absurd (none-some _ at)
after_as_read total k zero (suc (suc j)) (item key n sep (item key2 n2 sep2 is)) rest e p at less = (key2, n2, sep_left j sep2 e, left_items j is e, refl, refl)
after_as_read total k (suc i) (suc j) (item key n sep is) rest e p at less = after_as_read total k i j is rest e p at (omega (arith, less))

pub after_ending : (total k i : ℕ) (is : Items) (rest : List ℕ) (e : Ending) (p : ℕ × ℕ) → place_of_part i (locate_items total k is rest) ≡ Some p → items_after i (suc i) is e ≡ ending_items e
unfolding locate_items
after_ending total k i none rest e p at = absurd (none-some _ at)
after_ending total k zero (item key n sep is) rest e p at = refl
after_ending total k (suc i) (item key n sep is) rest e p at = after_ending total k i is rest e p at

-- ---- lines and markers

-- a line begins before an item by the gap there
pub line_there : (d total k i : ℕ) (g : List ℕ) (is : Items) (rest t w : List ℕ) (b : ℕ) (p : ℕ × ℕ) → is_close k ≡ true → AreFlowItems d k is rest → is_feed b ≡ false → t ≡ w ++ (b ∷ (g ++ flow_items_text k is rest)) →
    place_of_part i (locate_items total k is rest) ≡ Some p → past_feed t (suc (length w + length g) + length (front_text i is)) ≡ fresh false (gap_at i g is)
unfolding flow_items_text locate_items AreFlowItems
line_there d total k i g none rest t w b p c are feed text at = absurd (none-some _ at)
line_there d total k zero g (item key n sep is) rest t w b p c are feed text at =
    let x : List ℕ = flow_items_text k (item key n sep is) rest in
    let m : ℕ = suc (length w + length g) + length (front_text zero (item key n sep is)) in
    ap (λ (l : List ℕ). past_feed l m) text ∙ (line_after g w b x m (omega arith) ∙ ap (λ (f : Bool). fresh f g) feed)
line_there d total k (suc i) g (item key n sep none) rest t w b p c are feed text at = absurd (none-some _ at)
line_there d total k (suc i) g (item key n (last q) (item key2 n2 sep2 is)) rest t w b p c are feed text at =
    absurd (false≢true (sym (item_front true (Some 0) d k key2 n2 (sep_text sep2 (flow_items_text k is rest)) c are.4.1 are.4.0 are.4.2) ∙ are.3.1))
line_there d total k (suc i) g (item key n (comma q h) (item key2 n2 sep2 is)) rest t w b p c are feed text at =
    let os : Items = item key2 n2 sep2 is in
    let tail : List ℕ = flow_items_text k os rest in
    let front : List ℕ = key_text key (node_text n (q ++ [])) in
    let a : List ℕ = key_text key (node_text n (sep_text (comma q h) [])) in
    let moved : t ≡ (w ++ (b ∷ (g ++ front))) ++ (44 ∷ (h ++ tail)) =
    text
    ∙ (ap (λ (l : List ℕ). w ++ (b ∷ (g ++ l))) (item_cut key n (last q) (44 ∷ (h ++ tail)))
    ∙ (ap (λ (l : List ℕ). w ++ (b ∷ l)) (sym (append_assoc g front (44 ∷ (h ++ tail)))) ∙ sym (append_assoc w (b ∷ (g ++ front)) (44 ∷ (h ++ tail))))) in
    let size = ap length (item_cut key n (last q) (44 ∷ (h ++ []))) ∙ length-append front (44 ∷ (h ++ [])) in
    let again = line_there d total k i h os rest t (w ++ (b ∷ (g ++ front))) 44 p c are.4 refl moved at in
    let here : suc (length w + length g) + length (front_text (suc i) (item key n (comma q h) os)) ≡ suc (length (w ++ (b ∷ (g ++ front))) + length h) + length (front_text i os) =
    omega (arith, size, length-append h [], length-append a (front_text i os), length-append w (b ∷ (g ++ front)), length-append g front) in
    ap (λ (m : ℕ). past_feed t m) here ∙ again

-- a marker that a text begins with
pub marker_more : (p x : List ℕ) → begins_marker p ≡ true → begins_marker (p ++ x) ≡ true
marker_more [] x h = absurd (false≢true h)
marker_more (a ∷ []) x h = absurd (false≢true h)
marker_more (a ∷ b ∷ []) x h = absurd (false≢true h)
marker_more (a ∷ b ∷ c ∷ p) x h = h

-- where neither a line begins nor a marker comes
pub no_space : (line marked m : Bool) → (line && m) ≡ false → (marked ≡ true → m ≡ true) → (line && marked) ≡ false
no_space false marked m apart known = refl
no_space true false m apart known = refl
no_space true true m apart known = absurd (false≢true (sym apart ∙ known refl))

-- Items after a bracket and a gap, in a text.
module _ (d k : ℕ) (g : List ℕ) (is : Items) (rest t w : List ℕ) (b : ℕ) (c : is_close k ≡ true) (are : AreFlowItems d k is rest) (feed : is_feed b ≡ false) (text : t ≡ w ++ (b ∷ (g ++ flow_items_text k is rest))) where
  abbrev pub parts : Parts
  parts = locate_items (length t) k is rest

  abbrev pub opening : List ℕ
  opening = w ++ (b ∷ g)

  opened : t ≡ opening ++ flow_items_text k is rest
  opened = text ∙ sym (append_assoc w (b ∷ g) (flow_items_text k is rest))

  size : length t ≡ length opening + length (flow_items_text k is rest)
  size = ap length opened ∙ length-append opening (flow_items_text k is rest)

  opening_size : length opening ≡ suc (length w + length g)
  opening_size = length-append w (b ∷ g) ∙ omega arith

  module _ (i : ℕ) (p : ℕ × ℕ) (at : place_of_part i parts ≡ Some p) where
    pub places : (p.0 ≡ length opening + length (front_text i is)) × (p.1 ≡ length opening + length (upto_text i is))
    places = spans (length t) opening k i is rest p size at

    pub line : past_feed t p.0 ≡ fresh false (gap_at i g is)
    line =
        let here : p.0 ≡ suc (length w + length g) + length (front_text i is) = omega (arith, places.0, opening_size) in
        ap (λ (m : ℕ). past_feed t m) here ∙ line_there d (length t) k i g is rest t w b p c are feed text at

    split : (x : List ℕ) × (flow_items_text k is rest ≡ front_text i is ++ (text_of_item i is ++ x))
    split = item_split (length t) k i is rest p at

    there : t ≡ (opening ++ front_text i is) ++ (text_of_item i is ++ split.0)
    there = opened ∙ (ap (λ (l : List ℕ). opening ++ l) split.1 ∙ sym (append_assoc opening (front_text i is) (text_of_item i is ++ split.0)))

    front_size : p.0 ≡ length (opening ++ front_text i is)
    front_size = omega (arith, places.0, length-append opening (front_text i is))

    pub own_marked : begins_marker (text_of_item i is) ≡ true → begins_marker (drop p.0 t) ≡ true
    own_marked h =
        ap begins_marker ((λ i. drop (front_size i) (there i)) ∙ drop-append_seam (opening ++ front_text i is) (text_of_item i is ++ split.0))
        ∙ marker_more (text_of_item i is) split.0 h

    pub no_comma : marks_before t p.0 p.1 ≡ false → NeedsNoComma i g is
    no_comma unmarked =
        let ends : p.1 ≡ p.0 + length (text_of_item i is) = omega (arith, places.0, places.1, length-append (front_text i is) (text_of_item i is)) in
        ap (λ (f : Bool). ends_marked f (text_of_item i is)) (sym line) ∙ (sym (marks_are (text_of_item i is) (opening ++ front_text i is) split.0 t p.0 p.1 there front_size ends) ∙ unmarked)
