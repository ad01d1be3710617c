-- Where another content, and one more item or entry, are written: in the bytes of the edit.
use Rattle.std.proofs.Common.{◌≡◌, ℕ, suc, ◌+◌, ◌-◌, ◌≤◌, min, Bool, true, false, eqb, cond, List, [], ◌∷◌, ◌++◌, length, Option, Some}
use Rattle.std.{proofs.Common.{refl, sym, ap, ◌∙◌, arith, rules}, proofs.lemmas.Bool.false≢true, proofs.lemmas.Option.same_Some}
use Rattle.yq_core.{specs.Paths.Step, specs.Collections.{CollPieces, coll_in}, specs.Entries.{EntryPieces, place_in}}
use Rattle.yq_core.specs.Nodes.{Key, FlowNode, empty, alias, scalar, coll, anchored, Items, none, item, sep_text, node_text}
use Rattle.yq_core.specs.Nodes.{flow_items_text, IsFlowNode, without_anchor}
use Rattle.yq_core.specs.Places.{Placed, placed, sequence, mapping, Parts, holder, anchored_node, locate, locate_items}
use Rattle.yq_core.{proofs.EditPlaces.end_placed, proofs.NodesWrittenLaws.node_then}
use Rattle.yq_flow_edits.specs.FlowEdits.{space_for, replacing, is_none, appending, after_last}
use Rattle.yq_flow_edits.specs.FlowPlaces.{PlacedEdit, place_edit, replace_at, replace_place, last_end, append_at, append_in, append_place}

-- another content
content_edit : ℕ → FlowNode → List ℕ → PlacedEdit
content_edit total n rest = record { start = total - length (node_text n [] ++ rest); end = total - length rest; lead = space_for n }

old_edit : ℕ → List ℕ → List ℕ → PlacedEdit
old_edit total t rest = record { start = total - length t; end = total - length rest; lead = [] }

coll_placed : (total : ℕ) (k : ℕ) (t rest : List ℕ) (parts : Parts) (e : ℕ) → e ≡ total - length rest → replace_at e (place_in (holder k parts) (total - length t) (total - length rest)) ≡ old_edit total t rest
unfolding old_edit
coll_placed total k t rest parts e h = search (rules, old_edit)

content_edited : (flow : Bool) (spaces : Option ℕ) (d total : ℕ) (n : FlowNode) (rest : List ℕ) → IsFlowNode flow spaces d n rest → replace_place (locate total n rest) ≡ content_edit total (without_anchor n) rest
unfolding locate IsFlowNode content_edit old_edit node_text
content_edited flow spaces d total empty rest h = refl
content_edited flow spaces d total (alias n) rest h = ap (λ l. old_edit total l rest) (node_then (alias n) rest)
content_edited flow spaces d total (scalar p) rest h = ap (λ l. old_edit total l rest) (node_then (scalar p) rest)
content_edited flow spaces d total (coll k g is) rest h = coll_placed total k (node_text (coll k g is) rest) rest _ _ refl ∙ ap (λ l. old_edit total l rest) (node_then (coll k g is) rest)
content_edited flow spaces d total (anchored n g empty) rest h = refl
content_edited flow spaces d total (anchored n g (alias m)) rest h = absurd (false≢true h.3)
content_edited flow spaces d total (anchored n g (scalar p)) rest h = ap (λ l. old_edit total l rest) (node_then (scalar p) rest)
content_edited flow spaces d total (anchored n g (coll k q is)) rest h = coll_placed total k (node_text (coll k q is) rest) rest _ _ refl ∙ ap (λ l. old_edit total l rest) (node_then (coll k q is) rest)
content_edited flow spaces d total (anchored n g (anchored m q node)) rest h = absurd (false≢true h.3)

pub replace_placed : (flow : Bool) (spaces : Option ℕ) (d total : ℕ) (s : Step) (y : EntryPieces) (m : FlowNode) (c : CollPieces) →
    IsFlowNode flow spaces d y.node y.rest → replace_place (locate total y.node y.rest) ≡ place_edit total (replacing s y m c)
unfolding content_edit
replace_placed flow spaces d total s y m c h = content_edited flow spaces d total y.node y.rest h

-- one more item or entry
last_placed : (total k : ℕ) (gap : List ℕ) (is : Items) (rest : List ℕ) → is_none is ≡ false → last_end (locate_items total k is rest) ≡ Some (total - length (after_last k gap is rest))
unfolding locate_items flow_items_text
last_placed total k gap none rest some = absurd (false≢true (sym some))
last_placed total k gap (item key n sep none) rest some = ap Some (end_placed total n (sep_text sep (k ∷ rest)))
last_placed total k gap (item key n sep (item key2 n2 sep2 is)) rest some = last_placed total k gap (item key2 n2 sep2 is) rest refl

holder_append : (k c e : ℕ) (parts : Parts) → append_in c e (holder k parts) ≡ Some (append_at (min (c + 1) e) (last_end parts))
holder_append k c e parts = elim (eqb k 125) as (λ b. append_in c e (cond b (mapping parts) (sequence parts)) ≡ Some (append_at (min (c + 1) e) (last_end parts))) [ true ↦ refl | false ↦ refl ]

after_open : (total a b : ℕ) → suc a ≤ total → b ≤ a → min ((total - suc a) + 1) (total - b) ≡ total - a
after_open total a b h l = omega arith

close_in : (k : ℕ) (g rest : List ℕ) → length rest ≤ length (g ++ (k ∷ rest))
close_in k [] rest = omega arith
close_in k (b ∷ g) rest = let more = close_in k g rest in omega arith

append_anchor : (n : List ℕ) (start : ℕ) (p : Placed) → append_place (anchored_node n start p) ≡ append_place p
append_anchor n start (placed a s c e f) = refl

anchor_length : (n g t : List ℕ) → length t ≤ length (n ++ (g ++ t))
anchor_length [] [] t = omega arith
anchor_length [] (b ∷ g) t = let more = anchor_length [] g t in omega arith
anchor_length (b ∷ n) g t = let more = anchor_length n g t in omega arith

pub append_placed : (total : ℕ) (node : FlowNode) (rest : List ℕ) (c : CollPieces) (key : Key) (m : FlowNode) →
    length (node_text node rest) ≤ total → coll_in node rest ≡ Some c →
    append_place (locate total node rest) ≡ Some (place_edit total (appending key m c))
unfolding locate locate_items node_text flow_items_text
append_placed total empty rest c key m h at = cc
append_placed total (alias n) rest c key m h at = cc
append_placed total (scalar p) rest c key m h at = cc
append_placed total (anchored n g node) rest c key m h at =
    let shorter = anchor_length n g (node_text node rest) in
    append_anchor n _ (locate total node rest) ∙ append_placed total node rest c key m (omega arith) at
append_placed total (coll k g none) rest c key m h at = search (rules, after_open, close_in, same_Some, holder_append)
append_placed total (coll k g (item key2 n2 sep2 is)) rest c key m h at = search (rules, same_Some, holder_append, last_placed)
