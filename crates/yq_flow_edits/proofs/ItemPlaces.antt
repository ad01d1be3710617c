-- Where an item or entry is among others, and what ends it.
use Rattle.std.proofs.Common.{rules, ◌≡◌, ℕ, ◌≤◌, length, arith, length-append, Bool, true, false, cond, List, [], ◌∷◌, ◌++◌, Some, refl}
use Rattle.std.{proofs.Common.{sym, ap, ◌∙◌, subst, append_assoc}, proofs.lemmas.Bool.false≢true}
use Rattle.std.proofs.lemmas.Option.{none-some, same_Some}
use Rattle.yq_core.{specs.Paths.{Step, is_here, further}, specs.Alike.EndsItem, specs.Entries.{EntryPieces, item_at, pieces_text}}
use Rattle.yq_core.{specs.Nodes.{Items, none, item, key_text, sep_text, node_text, flow_items_text, AreFlowItems}, specs.Trees.key_content}
use Rattle.yq_core.{specs.Tree.key_label, proofs.NodeAgain.{items_longer, sep_longer}, proofs.NodeKeeps.sep_ends}
use Rattle.yq_flow_edits.{specs.FlowEdits.{FitsItem, after_last, is_none}, proofs.ItemSwaps.item_cut}

-- An item or entry comes after a text, and what ends it after that.
pub record IsItemIn (d k : ℕ) (t : List ℕ) (y : EntryPieces) : Type 0 where
  pub before : List ℕ
  pub text : t ≡ before ++ pieces_text y
  pub fits : FitsItem d k y.key y.node y.rest
  pub ends : EndsItem k y.rest

pub further_after : (d k : ℕ) (t u front : List ℕ) (y : EntryPieces) → t ≡ front ++ u → IsItemIn d k u y → IsItemIn d k t y
further_after d k t u front y is h = record { before = front ++ h.before; text = is ∙ (ap (λ (l : List ℕ). front ++ l) h.text ∙ sym (append_assoc front h.before (pieces_text y))); fits = h.fits; ends = h.ends }

pub item_after : (d k : ℕ) (s : Step) (is : Items) (rest : List ℕ) (y : EntryPieces) → AreFlowItems d k is rest → item_at k s is rest ≡ Some y → IsItemIn d k (flow_items_text k is rest) y
unfolding flow_items_text AreFlowItems
item_after d k s none rest y a e = absurd (cc)
item_after d k s (item key n sep is) rest y a e = go (is_here s (key_label (key_content key))) (λ again. item_after d k (further s) is rest y a.4 again) e
  where
    tail : List ℕ
    tail = flow_items_text k is rest

    own : EntryPieces
    own = record { key = key; node = n; rest = sep_text sep tail }

    first : IsItemIn d k (key_text key (node_text n (sep_text sep tail))) own
    first = record { before = []; text = refl; fits = record { key_is = a.0; some = a.1; is = a.2 }; ends = sep_ends k sep tail a.3 }

    go : (b : Bool) → (item_at k (further s) is rest ≡ Some y → IsItemIn d k tail y) → cond b (Some own) (item_at k (further s) is rest) ≡ Some y → IsItemIn d k (key_text key (node_text n (sep_text sep tail))) y
    go true again e = subst (IsItemIn d k (key_text key (node_text n (sep_text sep tail)))) (same_Some _ _ e) first
    go false again e = further_after d k (key_text key (node_text n (sep_text sep tail))) tail (key_text key (node_text n (sep_text sep []))) y (item_cut key n sep tail) (again e)

-- the last one
pub following_last : (d k : ℕ) (gap : List ℕ) (is : Items) (rest : List ℕ) → is_none is ≡ false → AreFlowItems d k is rest → (y : EntryPieces) × (y.rest ≡ after_last k gap is rest) × IsItemIn d k (flow_items_text k is rest) y
unfolding flow_items_text AreFlowItems
following_last d k gap none rest some a = absurd (false≢true (sym some))
following_last d k gap (item key n sep none) rest some a =
    (record { key = key; node = n; rest = sep_text sep (k ∷ rest) }, refl, record { before = []; text = refl; fits = record { key_is = a.0; some = a.1; is = a.2 }; ends = sep_ends k sep (k ∷ rest) a.3 })
following_last d k gap (item key n sep (item key2 n2 sep2 is)) rest some a =
    let more = following_last d k gap (item key2 n2 sep2 is) rest refl a.4 in
    let tail : List ℕ = flow_items_text k (item key2 n2 sep2 is) rest in
    (more.0, more.1, further_after d k (key_text key (node_text n (sep_text sep tail))) tail (key_text key (node_text n (sep_text sep []))) more.0 (item_cut key n sep tail) more.2)

-- ---- what comes after is no less than what comes after the closing bracket

pub item_rest : (k : ℕ) (s : Step) (is : Items) (rest : List ℕ) (y : EntryPieces) → item_at k s is rest ≡ Some y → length rest ≤ length y.rest
item_rest k s none rest y e = absurd (none-some _ e)
item_rest k s (item key n sep is) rest y e = search (rules, same_Some, sep_longer, items_longer, item_rest k (further s) is rest y)

pub last_rest : (k : ℕ) (gap : List ℕ) (is : Items) (rest : List ℕ) → length rest ≤ length (after_last k gap is rest)
last_rest k gap none rest = omega (arith, length-append gap (k ∷ rest))
last_rest k gap (item j n sep none) rest = omega (arith, sep_longer sep (k ∷ rest))
last_rest k gap (item j n sep (item j2 n2 sep2 is)) rest = last_rest k gap (item j2 n2 sep2 is) rest
