-- The bytes of an edit of a flow collection go from one whole character to another.
use Rattle.std.proofs.Common.{◌≡◌, ◌⊎◌, inl, inr, ℕ, zero, suc, ◌-◌, ◌<◌, Bool, true, cond, eqb-true, eq-eqb, List, [], ◌∷◌, ◌++◌, length}
use Rattle.std.{proofs.Common.{drop, Option, Some, option_map, refl, ap, ◌∙◌, arith, rules}, proofs.lemmas.Bool.false≢true}
use Rattle.std.{proofs.lemmas.Option.{none-some, same_Some}, proofs.lemmas.Str.IsCharBoundary-before_ascii, specs.Option.option_or}
use Rattle.std.{specs.Prelude.get_or, specs.Str.IsCharBoundary}
use Rattle.yq_core.{specs.Paths.{Step, is_here, further}, specs.declared.piece.Piece.Piece, proofs.Boundaries.space_ascii}
use Rattle.yq_core.{specs.Alike.EndsItem, specs.Entries.{end_of, entry_start, parts_in}, specs.Nodes.{begins_with, is_close}}
use Rattle.yq_core.{specs.Places.{Placed, placed, Parts, end, part}, specs.Spans.{HasKeySpan, HasSpans, PartsHaveSpans}}
use Rattle.yq_core.{specs.Trees.unplaced_key, specs.Tree.key_label, proofs.EndLaws.ends_by}
use Rattle.yq_flow_edits.specs.FlowPlaces.{PlacedEdit, first_start, only_end, remove_before, remove_end, remove_part, remove_place}
use Rattle.yq_flow_edits.{specs.FlowPlaces.replace_place, proofs.RemovePlaces.drop_end, proofs.RemoveTexts.either}

-- an edit begins and ends at whole characters
abbrev pub EditIsSpan : List ℕ → PlacedEdit → Type 0
EditIsSpan t e = IsCharBoundary t e.start × IsCharBoundary t e.end

-- another content
pub replace_spans : (t : List ℕ) (p : Placed) → HasSpans t p → EditIsSpan t (replace_place p)
replace_spans t p h1 = search rules

-- before an ASCII byte
ascii_boundary : (t : List ℕ) (n k : ℕ) → k < 128 → begins_with k (drop n t) ≡ true → IsCharBoundary t n
ascii_boundary t n k low h = let x = there t n h in IsCharBoundary-before_ascii t n x.0 (omega (arith, x.1, low))
  where
    there : (t : List ℕ) (n : ℕ) → begins_with k (drop n t) ≡ true → (n < length t) × (get_or t n 0 ≡ k)
    there [] zero h = absurd (false≢true h)
    there [] (suc n) h = absurd (false≢true h)
    there (b ∷ t) zero h = (omega arith, eqb-true b k h)
    there (b ∷ t) (suc n) h = let x = there t n h in (omega (arith, x.0), x.1)

pub ends_bound : (k : ℕ) (t a u : List ℕ) → is_close k ≡ true → EndsItem k u → t ≡ a ++ u → IsCharBoundary t (length t - length u)
ends_bound k t a u c ends is =
    let x = ends_by (λ (l : List ℕ). (b : ℕ) × (r : List ℕ) × (l ≡ b ∷ r) × (b < 128)) k u c ends (λ r. (44, r, refl, omega arith))
    (λ r. (93, r, refl, omega arith)) (λ r. (125, r, refl, omega arith)) (λ b r s. (b, r, refl, space_ascii b r s)) in
    ascii_boundary t (length t - length u) x.0 x.3 (ap (begins_with x.0) (drop_end t a u is ∙ x.2) ∙ eq-eqb x.0 x.0 refl)

-- one that is taken out
entry_begins : (t : List ℕ) (key : Option (List ℕ × Piece)) (n : Placed) → HasKeySpan t key → HasSpans t n → IsCharBoundary t (entry_start (key, n))
entry_begins t key n k h = search rules

node_ends : (t : List ℕ) (n : Placed) → HasSpans t n → IsCharBoundary t (end_of n)
node_ends t (placed a s c e f) h = h.1.ends

end_spans : (t : List ℕ) (from before e : ℕ) → IsCharBoundary t before → IsCharBoundary t e → EditIsSpan t (remove_end t from before e)
end_spans t from before e b x = search (rules, ascii_boundary)

before_spans : (t : List ℕ) (start : ℕ) (ps : Parts) (e : PlacedEdit) → IsCharBoundary t start → PartsHaveSpans t ps → option_map (remove_before t start) (first_start ps) ≡ Some e → EditIsSpan t e
before_spans t start ps e b h is = search (rules, none-some, same_Some, entry_begins)

part_spans : (t : List ℕ) (s : Step) (ps : Parts) (e : PlacedEdit) → PartsHaveSpans t ps → remove_part t s ps ≡ Some e → EditIsSpan t e
part_spans t s end e h is = absurd (none-some _ is)
part_spans t s (part key n ps) e h is = go (is_here s (key_label (unplaced_key key))) (λ again. part_spans t (further s) ps e h.2 again) is
  where
    other : (remove_part t (further s) ps ≡ Some e → EditIsSpan t e) → (option_map (remove_end t (entry_start (key, n)) (end_of n)) (only_end (further s) ps) ≡ Some e) ⊎ (remove_part t (further s) ps ≡ Some e) → EditIsSpan t e
    other again (inl is) = search (rules, none-some, same_Some, end_spans, node_ends)
    other again (inr is) = again is

    go : (c : Bool) → (remove_part t (further s) ps ≡ Some e → EditIsSpan t e) →
        cond c (option_map (remove_before t (entry_start (key, n))) (first_start ps))
        (option_or (option_map (remove_end t (entry_start (key, n)) (end_of n)) (only_end (further s) ps)) (remove_part t (further s) ps)) ≡ Some
        e → EditIsSpan t e
    go c again is = search (rules, before_spans, entry_begins, other, either)

pub remove_spans : (t : List ℕ) (s : Step) (p : Placed) (e : PlacedEdit) → HasSpans t p → remove_place t s p ≡ Some e → EditIsSpan t e
remove_spans t s (placed a b c x f) e h is = part_spans t s (parts_in f) e (search rules) is
