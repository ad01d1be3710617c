-- Items and entries in flow go from one whole character to another.
use Rattle.std.proofs.Common.{◌≡◌, ℕ, ◌≤◌, List, [], ◌∷◌, ◌++◌, length, Option, Some, None, option_map, option_and_then, Bool, cond, refl}
use Rattle.std.{proofs.Common.{sym, ◌∙◌, subst, length-append, rules}, proofs.lemmas.Option.same_Some, specs.List.slice_get}
use Rattle.std.specs.Str.{IsUtf8}
use Rattle.yq_core.specs.Paths.{Step, is_here, further}
use Rattle.yq_core.specs.Entries.{PlacedEntry, EntryPieces, parts_of, flow_part_at, placed_entry_at, content_place, end_of, entry_start}
use Rattle.yq_core.{specs.Entries.{entry_place, locate_entry, entry_pieces_at}, specs.Nodes.{Key, bare, empty, node_text, key_text}}
use Rattle.yq_core.{specs.Places.{Placed, Parts, end, part, key_placed, locate}, specs.Spans.{IsSpan, HasKeySpan, HasSpans, PartsHaveSpans}}
use Rattle.yq_core.{specs.Trees.unplaced_key, specs.Tree.key_label, proofs.NodeAgain.node_longer, proofs.PathLaws.path_places}
use Rattle.yq_core.proofs.EditPlaces.{start_placed, end_placed}
use Rattle.yq_row_table.{specs.Exchange.after_row, specs.Grammar.IsCut, specs.Rows.{Content, Nothing, Inline, Block, Row, Cut, cut_text}}
use Rattle.yq_row_table.specs.View.{rows_of}
use Rattle.yq_places.{specs.EntryReading.{inline_node, placed_inline}, proofs.HeadSpanLaws.node_spans}
use Rattle.yq_outline.specs.Lines.{tail_of}

-- an item or entry with its key
abbrev pub EntrySpans : List ℕ → PlacedEntry → Type 0
EntrySpans t e = HasKeySpan t e.0 × HasSpans t e.1

part_spans : (t : List ℕ) (s : Step) (ps : Parts) (e : PlacedEntry) → PartsHaveSpans t ps → flow_part_at s ps ≡ Some e → EntrySpans t e
part_spans t s end e h is = absurd (cc)
part_spans t s (part key n ps) e h is = go (is_here s (key_label (unplaced_key key))) (λ again. part_spans t (further s) ps e h.2 again) is
  where
    go : (b : Bool) → (flow_part_at (further s) ps ≡ Some e → EntrySpans t e) → cond b (Some (key, n)) (flow_part_at (further s) ps) ≡ Some e → EntrySpans t e
    go b h1 h2 = search (rules, same_Some)

pub entry_spans : (t : List ℕ) (ss : List Step) (slot e : PlacedEntry) → EntrySpans t slot → placed_entry_at ss slot ≡ Some e → EntrySpans t e
entry_spans t [] slot e h is = subst (EntrySpans t) (same_Some _ _ is) h
entry_spans t (s ∷ ss) slot e h is = go (flow_part_at s (parts_of slot.1)) refl (λ x k again. entry_spans t ss x e k again) is
  where
    go : (o : Option PlacedEntry) → flow_part_at s (parts_of slot.1) ≡ o → ((x : PlacedEntry) → EntrySpans t x → placed_entry_at ss x ≡ Some e → EntrySpans t e) → option_and_then (placed_entry_at ss) o ≡ Some e → EntrySpans t e
    go o h1 h2 h3 = search (rules, part_spans)

-- an item or entry ends after where it begins
entry_order : (total : ℕ) (y : EntryPieces) → entry_start (locate_entry total y) ≤ end_of (locate_entry total y).1
entry_order total y = go y.key
  where
    go : (k : Key) → entry_start (key_placed total (key_text k (node_text y.node y.rest)) k, locate total y.node y.rest) ≤ end_of (locate total y.node y.rest)
    go k = search (rules, start_placed, end_placed, node_longer, length-append)

content_span : (t : List ℕ) (p : Placed) (x : ℕ × ℕ) → HasSpans t p → content_place p ≡ Some x → IsSpan t x.0 x.1
content_span t p x h1 h2 = search (rules, same_Some)

-- the item or entry, and its content, to which steps lead in the head of a row
none_within : (total : ℕ) (rest : List ℕ) (s : Step) (ss : List Step) (e : PlacedEntry) → placed_entry_at (s ∷ ss) (None, locate total empty rest) ≡ Some e → ⊥
unfolding locate
none_within total rest s ss e is = cc

mapped : {A B : Type 0} (f : A → B) (o : Option A) (y : B) → option_map f o ≡ Some y → (x : A) × (f x ≡ y)
mapped f o y h1 = search (rules, same_Some)

-- an entry's place is one from a character to another, and so is that of its content
abbrev pub AreSpans : List ℕ → PlacedEntry → Type 0
AreSpans t e = IsSpan t (entry_place e).0 (entry_place e).1 × ((x : ℕ × ℕ) → content_place e.1 ≡ Some x → IsSpan t x.0 x.1)

pub flow_spans : (c : Cut) (i : ℕ) (r : Row) → IsUtf8 (cut_text c) → IsCut (cut_text c) c → slice_get (rows_of c) i ≡ Some r →
    (s : Step) (ss : List Step) (e : PlacedEntry) → placed_entry_at (s ∷ ss) (None, placed_inline i r c) ≡ Some e → AreSpans (cut_text c) e
flow_spans c i r u cut is s ss e found = go r.content refl found
  where
    go : (x : Content) → r.content ≡ x → placed_entry_at (s ∷ ss) (None, locate (length (cut_text c)) (inline_node x) (tail_of x ++ after_row i c)) ≡ Some e → AreSpans (cut_text c) e
    go (Nothing tail) content found = absurd (none_within (length (cut_text c)) (tail ++ after_row i c) s ss e found)
    go (Block space anchor block) content found = absurd (none_within (length (cut_text c)) (block.tail ++ after_row i c) s ss e found)
    go (Inline space node tail) content found =
        let total : ℕ = length (cut_text c) in
        let slot : EntryPieces = record { key = bare; node = node; rest = tail ++ after_row i c } in
        let y = mapped (locate_entry total) (entry_pieces_at (s ∷ ss) slot) e (sym (path_places total (s ∷ ss) slot) ∙ found) in
        let spans = entry_spans (cut_text c) (s ∷ ss) (None, locate total node (tail ++ after_row i c)) e (tt, node_spans c i r u cut is space node tail content) found in
        search (rules, entry_order, content_span, total, y, spans)
