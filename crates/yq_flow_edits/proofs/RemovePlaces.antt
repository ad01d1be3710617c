-- What the code tells of an item or entry that is taken out is where the bytes of the edit are.
use Rattle.std.proofs.Common.{◌≡◌, ⊎_elim, ℕ, suc, ◌+◌, ◌-◌, Bool, true, false, eqb, cond, List, [], ◌∷◌, ◌++◌, length, drop, Option, Some}
use Rattle.std.proofs.Common.{option_map, refl, sym, ap, ◌∙◌, arith, append_assoc, length-append, eqb-true, rules}
use Rattle.std.{proofs.Math.Seq.drop-append_seam, proofs.lemmas.Bool.{false≢true, or_cases}, proofs.lemmas.Option.same_Some}
use Rattle.std.specs.Option.{option_or}
use Rattle.yq_core.{specs.Paths.{Step, is_here, further}, specs.Text.is_feed, specs.Alike.fresh, specs.Collections.{CollPieces, coll_in}}
use Rattle.yq_core.{specs.Entries.{entry_start, parts_in, parts_of}, specs.Gaps.IsInlineGap, specs.declared.gap.GapPlace.TheVariants.Token}
use Rattle.yq_core.specs.Nodes.{Key, Sep, last, comma, FlowNode, coll, anchored, Items, none, item, key_text, sep_text, node_text}
use Rattle.yq_core.specs.Nodes.{flow_items_text, begins_with, opening_bracket, is_close, IsFlowNode, IsSep, AreFlowItems}
use Rattle.yq_core.specs.Places.{Parts, Placed, placed, key_placed, holder, locate, locate_items, mapping, sequence, anchored_node}
use Rattle.yq_core.{specs.Reading.flow_gap_len, specs.Trees.key_content, specs.Tree.key_label, proofs.EditPlaces.{end_placed, entry_placed}}
use Rattle.yq_core.{proofs.GapLaws.gap_append, proofs.NodeAgain.item_front, proofs.NodeKeeps.sep_ends, proofs.TreeLaws.key_tree}
use Rattle.yq_flow_edits.specs.FlowEdits.{FlowEdit}
use Rattle.yq_flow_edits.specs.FlowPlaces.{PlacedEdit, past_feed, first_start, marks_before, only_end, past_gap, place_edit, remove_before}
use Rattle.yq_flow_edits.specs.FlowPlaces.{remove_end, remove_part, remove_place, space_at}
use Rattle.yq_flow_edits.specs.Removals.{before_next, edit_from_item, comma_left, ends_marked, gap_of, last_gone, last_out, last_removed}
use Rattle.yq_flow_edits.{specs.Removals.{removing, removing_from, space_to}, proofs.CollLaws.coll_is_there}
use Rattle.yq_flow_edits.{proofs.ItemLaws.{Unmarked, ends_mark, marks_own}, proofs.ItemSwaps.{item_cut, text_cut}}
use Rattle.yq_flow_edits.{proofs.Marks.{line_after, marks_are}, proofs.RemoveTexts.{comma_new_bytes, comma_old_bytes, gone_bytes}}

-- ---- up to the next one

-- what a text ends in
pub drop_end : (t v x : List ℕ) → t ≡ v ++ x → drop (length t - length x) t ≡ x
drop_end t v x h =
    let at : length t - length x ≡ length v = omega (arith, ap length h, length-append v x) in
    ap (λ n. drop n t) at ∙ (ap (drop (length v)) h ∙ drop-append_seam v x)

-- the space
spaced_here : (t w : List ℕ) (b : ℕ) (g front own u : List ℕ) → is_feed b ≡ false → Unmarked u → t ≡ w ++ (b ∷ (g ++ (front ++ (own ++ u)))) →
    space_at t (length t - length (front ++ (own ++ u))) (length t - length (own ++ u)) ≡ space_to g own
spaced_here t w b g front own u feed m is =
    let tail : List ℕ = own ++ u in
    let x : List ℕ = front ++ tail in
    let at : length t - length x ≡ suc (length w + length g) = omega (arith, ap length is, length-append w (b ∷ (g ++ x)), length-append g x) in
    let line : past_feed t (length t - length x) ≡ fresh false g = ap (λ l. past_feed l (length t - length x)) is ∙ (line_after g w b x (length t - length x) at ∙ ap (λ f. fresh f g) feed) in
    let whole : t ≡ (w ++ (b ∷ (g ++ front))) ++ tail = is ∙ (ap (λ l. w ++ (b ∷ l)) (sym (append_assoc g front tail)) ∙ sym (append_assoc w (b ∷ (g ++ front)) tail)) in
    search (rules, drop_end, marks_own)

next_placed : (d k : ℕ) (g : List ℕ) (key : Key) (n : FlowNode) (sep : Sep) (is : Items) (rest t w : List ℕ) (b : ℕ) → is_close k ≡ true →
    AreFlowItems d k is rest → is_feed b ≡ false → t ≡ w ++ (b ∷ (g ++ flow_items_text k (item key n sep is) rest)) →
    option_map (remove_before t (length t - length (flow_items_text k (item key n sep is) rest))) (first_start (locate_items (length t) k is rest)) ≡ option_map (place_edit (length t)) (before_next k rest g key n sep is)
unfolding flow_items_text locate_items AreFlowItems
next_placed d k g key n sep none rest t w b c a feed text = refl
next_placed d k g key n sep (item key2 n2 sep2 is) rest t w b c a feed text =
    let u : List ℕ = sep_text sep2 (flow_items_text k is rest) in
    let y : List ℕ = key_text key2 (node_text n2 u) in
    let own : List ℕ = key_text key2 (node_text n2 []) in
    let front : List ℕ = key_text key (node_text n (sep_text sep [])) in
    let cut : key_text key (node_text n (sep_text sep y)) ≡ front ++ y = item_cut key n sep y in
    let own_cut : y ≡ own ++ u = text_cut key2 n2 u in
    let start : entry_start (key_placed (length t) y key2, locate (length t) n2 u) ≡ length t - length y = entry_placed (length t) (record { key = key2; node = n2; rest = u }) in
    let space : space_at t (length t - length (front ++ y)) (length t - length y) ≡ space_to g own =
    (λ i. space_at t (length t - length (front ++ own_cut i)) (length t - length (own_cut i)))
    ∙ spaced_here t w b g front own u feed (ends_mark k u c (sep_ends k sep2 (flow_items_text k is rest) a.3)) (text ∙ ap (λ l. w ++ (b ∷ (g ++ l))) (cut ∙ ap (λ l. front ++ l) own_cut)) in
    (λ i. Some (remove_before t (length t - length (cut i)) (start i))) ∙ ap (λ l. Some (record { start = length t - length (front ++ y); end = length t - length y; lead = l })) space

-- ---- the last one

-- the comma after it
comma_part : List ℕ → ℕ → ℕ → PlacedEdit
comma_part t from e = cond (begins_with 44 (drop (past_gap t e) t)) (record { start = from; end = past_gap t e; lead = [] }) (record { start = from; end = e; lead = 44 ∷ [] })

past_placed : (t v q x : List ℕ) → IsInlineGap q x → t ≡ v ++ (q ++ x) → (past_gap t (length t - length (q ++ x)) ≡ length t - length x) × (drop (length t - length x) t ≡ x)
past_placed t v q x gap is =
    let there = drop_end t v (q ++ x) is in
    let len : flow_gap_len Token (drop (length t - length (q ++ x)) t) ≡ length q = ap (flow_gap_len Token) there ∙ (gap_append Token q x gap.inside gap.ends).0 in
    let whole : t ≡ (v ++ q) ++ x = is ∙ sym (append_assoc v q x) in
    (omega (arith, len, ap length is, length-append v (q ++ x), length-append q x), drop_end t (v ++ q) x whole)

comma_placed : (k : ℕ) (rest g : List ℕ) (key : Key) (n : FlowNode) (sep : Sep) (key2 : Key) (n2 : FlowNode) (sep2 : Sep) (t v : List ℕ) → is_close k ≡ true → IsSep k sep2 (k ∷ rest) → t ≡ v ++ sep_text sep2 (k ∷ rest) →
    comma_part t (length t - length (sep_text sep (key_text key2 (node_text n2 (sep_text sep2 (k ∷ rest)))))) (length t - length (sep_text sep2 (k ∷ rest))) ≡ place_edit (length t) (comma_left k rest g key n sep key2 n2 sep2)
unfolding comma_part
comma_placed k rest g key n sep key2 n2 sep2 t v h1 h2 h3 = search (rules, past_placed, ⊎_elim, eqb-true, or_cases, comma_new_bytes, comma_old_bytes)

end_placed_at : (k : ℕ) (g : List ℕ) (key : Key) (n : FlowNode) (sep : Sep) (key2 : Key) (n2 : FlowNode) (sep2 : Sep) (rest t w : List ℕ) (b : ℕ) → is_close k ≡ true → IsSep k sep2 (k ∷ rest) → is_feed b ≡ false →
    t ≡ w ++ (b ∷ (g ++ key_text key (node_text n (sep_text sep (key_text key2 (node_text n2 (sep_text sep2 (k ∷ rest)))))))) →
    remove_end t (length t - length (key_text key (node_text n (sep_text sep (key_text key2 (node_text n2 (sep_text sep2 (k ∷ rest)))))))) (length t - length (sep_text sep (key_text key2 (node_text n2 (sep_text sep2 (k ∷ rest))))))
    (length t - length (sep_text sep2 (k ∷ rest)))
    ≡ place_edit (length t) (last_removed k rest g key n sep key2 n2 sep2)
unfolding comma_part
end_placed_at k g key n sep key2 n2 sep2 rest t w b c sep_is feed text =
    let from : ℕ = length t - length y in
    let first : from ≡ suc (length w + length g) = omega (arith, ap length text, length-append w (b ∷ (g ++ y)), length-append g y) in
    let past_front : from ≡ length front = first ∙ omega (arith, length-append w (b ∷ g)) in
    let second : at ≡ from + length own = omega (arith, past_front, ap length whole, length-append front (own ++ u), length-append own u) in
    let line : past_feed t from ≡ fresh false g = ap (λ l. past_feed l from) text ∙ (line_after g w b y from first ∙ ap (λ f. fresh f g) feed) in
    let marks : marks_before t from at ≡ ends_marked (fresh false g) own =
    marks_are own front u t from at whole past_front second ∙ ap (λ f. ends_marked f own) line in
    ap (λ v. cond v (comma_part t at end_) (record { start = at; end = end_; lead = [] })) marks ∙ go (ends_marked (fresh false g) own) where
      own : List ℕ
      own = key_text key (node_text n [])

      z : List ℕ
      z = sep_text sep2 (k ∷ rest)

      u : List ℕ
      u = sep_text sep (key_text key2 (node_text n2 (sep_text sep2 (k ∷ rest))))

      y : List ℕ
      y = key_text key (node_text n (sep_text sep (key_text key2 (node_text n2 (sep_text sep2 (k ∷ rest))))))

      at : ℕ
      at = length t - length u

      end_ : ℕ
      end_ = length t - length z

      front : List ℕ
      front = w ++ (b ∷ g)

      cut : y ≡ own ++ u
      cut = text_cut key n u

      whole : t ≡ front ++ (own ++ u)
      whole = text ∙ (sym (append_assoc w (b ∷ g) y) ∙ ap (λ l. front ++ l) cut)

      old : List ℕ
      old = sep_text sep (key_text key2 (node_text n2 []))

      was : old ++ z ≡ u
      was = (gone_bytes k rest sep key2 n2 sep2).was

      before_sep : t ≡ ((front ++ own) ++ old) ++ z
      before_sep = whole ∙ (sym (append_assoc front own u) ∙ (ap (λ l. (front ++ own) ++ l) (sym was) ∙ sym (append_assoc (front ++ own) old z)))

      go : (v : Bool) → cond v (comma_part t at end_) (record { start = at; end = end_; lead = [] }) ≡ place_edit (length t) (cond v (comma_left k rest g key n sep key2 n2 sep2) (last_gone k rest g key n sep key2 n2 sep2))
      go true = comma_placed k rest g key n sep key2 n2 sep2 t ((front ++ own) ++ old) c sep_is before_sep
      go false = ap (λ l. record { start = length t - length l; end = end_; lead = [] }) (sym was)

last_placed : (d k : ℕ) (s : Step) (g : List ℕ) (key : Key) (n : FlowNode) (sep : Sep) (is : Items) (rest t w : List ℕ) (b : ℕ) → is_close k ≡ true →
    AreFlowItems d k is rest → is_feed b ≡ false → t ≡ w ++ (b ∷ (g ++ flow_items_text k (item key n sep is) rest)) →
    option_map (remove_end t (length t - length (flow_items_text k (item key n sep is) rest)) (length t - length (sep_text sep (flow_items_text k is rest)))) (only_end s (locate_items (length t) k is rest))
    ≡ option_map (place_edit (length t)) (last_out k rest s g key n sep is)
unfolding flow_items_text locate_items AreFlowItems
last_placed d k s g key n sep (item key2 n2 sep2 none) rest t w b c a feed text = search (rules, key_tree, end_placed, end_placed_at)
last_placed d k s g key n sep _ rest t w b c a feed text = refl

-- ---- among items

pub or_mapped : {A B : Type 0} (f : A → B) (x y : Option A) → option_or (option_map f x) (option_map f y) ≡ option_map f (option_or x y)
or_mapped f x y = search rules

same_place : (total : ℕ) (g : List ℕ) (key : Key) (n : FlowNode) (sep : Sep) (o : Option FlowEdit) → option_map (place_edit total) o ≡ option_map (place_edit total) (option_map (edit_from_item g key n sep) o)
same_place total g key n sep o = search rules

-- after an item are a comma and the gap before the next one
further_placed : (d k : ℕ) (s : Step) (g : List ℕ) (key : Key) (n : FlowNode) (sep : Sep) (is : Items) (rest t w : List ℕ) (b : ℕ) →
    is_close k ≡ true → AreFlowItems d k (item key n sep is) rest → t ≡ w ++ (b ∷ (g ++ flow_items_text k (item key n sep is) rest)) →
    ((p v : List ℕ) (e : ℕ) → is_feed e ≡ false → t ≡ v ++ (e ∷ (p ++ flow_items_text k is rest)) → remove_part t s (locate_items (length t) k is rest) ≡ option_map (place_edit (length t)) (removing_from k rest s p is)) →
    remove_part t s (locate_items (length t) k is rest) ≡ option_map (place_edit (length t)) (removing_from k rest s (gap_of sep) is)
unfolding flow_items_text locate_items AreFlowItems
further_placed d k s g key n sep none rest t w b c a text again = refl
further_placed d k s g key n (last q) (item key2 n2 sep2 is) rest t w b c a text again = search (rules, false≢true, item_front, item_cut, append_assoc)
further_placed d k s g key n (comma q p) (item key2 n2 sep2 is) rest t w b c a text again =
    let tail : List ℕ = flow_items_text k (item key2 n2 sep2 is) rest in
    let front : List ℕ = key_text key (node_text n (q ++ [])) in
    again p (w ++ (b ∷ (g ++ front))) 44 refl
    (text
    ∙ (ap (λ l. w ++ (b ∷ (g ++ l))) (item_cut key n (last q) (44 ∷ (p ++ tail)))
    ∙ (ap (λ l. w ++ (b ∷ l)) (sym (append_assoc g front (44 ∷ (p ++ tail)))) ∙ sym (append_assoc w (b ∷ (g ++ front)) (44 ∷ (p ++ tail))))))

part_removed : (d k : ℕ) (s : Step) (g : List ℕ) (is : Items) (rest t w : List ℕ) (b : ℕ) → is_close k ≡ true → AreFlowItems d k is rest → is_feed b ≡ false → t ≡ w ++ (b ∷ (g ++ flow_items_text k is rest)) →
    remove_part t s (locate_items (length t) k is rest) ≡ option_map (place_edit (length t)) (removing_from k rest s g is)
unfolding flow_items_text locate_items AreFlowItems
part_removed d k s g none rest t w b c a feed text = refl
part_removed d k s g (item key n sep is) rest t w b c a feed text =
    let total : ℕ = length t in
    let after : List ℕ = sep_text sep (flow_items_text k is rest) in
    let own : List ℕ = key_text key (node_text n after) in
    let parts : Parts = locate_items total k is rest in
    let start : entry_start (key_placed total own key, locate total n after) ≡ total - length own = entry_placed total (record { key = key; node = n; rest = after }) in
    let again = further_placed d k (further s) g key n sep is rest t w b c a text (λ p v e f x. part_removed d k (further s) p is rest t v e c a.4 f x) in
    let others : option_or (option_map (remove_end t (total - length own) (total - length after)) (only_end (further s) parts)) (remove_part t (further s) parts)
    ≡ option_map (place_edit total) (option_or (last_out k rest (further s) g key n sep is) (option_map (edit_from_item g key n sep) (removing_from k rest (further s) (gap_of sep) is))) =
    (λ i. option_or (last_placed d k (further s) g key n sep is rest t w b c a.4 feed text i) ((again ∙ same_place total g key n sep (removing_from k rest (further s) (gap_of sep) is)) i))
    ∙ or_mapped (place_edit total) (last_out k rest (further s) g key n sep is) (option_map (edit_from_item g key n sep) (removing_from k rest (further s) (gap_of sep) is)) in
    (λ i. cond (is_here s (key_label (key_tree total own key i))) (option_map (remove_before t (start i)) (first_start parts))
    (option_or (option_map (remove_end t (start i) (end_placed total n after i)) (only_end (further s) parts))
    (remove_part t (further s) parts)))
    ∙ elim (is_here s (key_label (key_content key)))
    as (λ v. cond v (option_map (remove_before t (total - length own)) (first_start parts)) (option_or (option_map (remove_end t (total - length own) (total - length after)) (only_end (further s) parts)) (remove_part t (further s) parts))
    ≡ option_map (place_edit total) (cond v (before_next k rest g key n sep is) (option_or (last_out k rest (further s) g key n sep is) (option_map (edit_from_item g key n sep) (removing_from k rest (further s) (gap_of sep) is)))))
    [ true ↦ next_placed d k g key n sep is rest t w b c a.4 feed text | false ↦ others ]

-- ---- in a node

holder_parts : (k : ℕ) (parts : Parts) → parts_in (holder k parts) ≡ parts
holder_parts k parts = elim (eqb k 125) as (λ c. parts_in (cond c (mapping parts) (sequence parts)) ≡ parts) [ true ↦ refl | false ↦ refl ]

anchor_parts : (n : List ℕ) (start : ℕ) (p : Placed) → parts_of (anchored_node n start p) ≡ parts_of p
anchor_parts n start (placed a s c e f) = refl

pub coll_parts : (total : ℕ) (node : FlowNode) (rest : List ℕ) (c : CollPieces) → coll_in node rest ≡ Some c → parts_of (locate total node rest) ≡ locate_items total c.close c.items c.rest
unfolding locate
coll_parts total (coll k g is) rest c at = holder_parts k (locate_items total k is rest) ∙ ap (λ (z : CollPieces). locate_items total z.close z.items z.rest) (same_Some _ _ at)
coll_parts total (anchored n g node) rest c at = anchor_parts n _ (locate total node rest) ∙ coll_parts total node rest c at
coll_parts total _ rest c at = cc

open_feed : (k : ℕ) → is_feed (opening_bracket k) ≡ false
open_feed k = elim (eqb k 125) as (λ c. is_feed (cond c 123 91) ≡ false) [ true ↦ refl | false ↦ refl ]

pub remove_placed : (flow : Bool) (spaces : Option ℕ) (d : ℕ) (t w : List ℕ) (node : FlowNode) (rest : List ℕ) (c : CollPieces) (s : Step) → IsFlowNode flow spaces d node rest → coll_in node rest ≡ Some c → t ≡ w ++ node_text node rest →
    remove_place t s (locate (length t) node rest) ≡ option_map (place_edit (length t)) (removing s c)
remove_placed flow spaces d t w node rest c s is at text =
    let i = coll_is_there flow spaces d node rest c is at in
    let t_is : t ≡ (w ++ i.before) ++ (opening_bracket c.close ∷ (c.gap ++ flow_items_text c.close c.items c.rest)) = search (rules, append_assoc) in
    ap (remove_part t s) (coll_parts (length t) node rest c at) ∙ part_removed i.inner_depth c.close s c.gap c.items c.rest t (w ++ i.before) (opening_bracket c.close) i.closes i.items (open_feed c.close) t_is
