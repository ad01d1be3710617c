-- The items and entries of the code.
use Rattle.std.proofs.Common.{◌≡◌, ℕ, ◌-◌, ◌≤◌, List, [], ◌∷◌, length, slice_index_or, Some, refl, sym, ap, ◌∙◌, arith}
use Rattle.yq_core.{specs.declared.inline.Inline.Inline, specs.Entries.end_of, specs.View.{inline_view, items_end, entries_end}}
use Rattle.yq_core.proofs.PathLoops.{Field}
use Rattle.yq_flow_edits.specs.FlowPlaces.{last_end}

last_item : (is : List Inline) (x d : Inline) → last_end (items_end (x ∷ is)) ≡ Some (end_of (inline_view (slice_index_or (x ∷ is) (length is) d)))
last_item [] x d = refl
last_item (y ∷ is) x d = last_item is y d

pub items_last : (is : List Inline) (x : Inline) (e : ℕ) → e ≡ end_of (inline_view x) → 1 ≤ length is → x ≡ slice_index_or is (length is - 1) x → Some e ≡ last_end (items_end is)
items_last [] x e is_end some at = absurd (omega (arith, some))
items_last (y ∷ is) x e is_end some at =
    let less : length (y ∷ is) - 1 ≡ length is = omega arith in
    ap Some (is_end ∙ ap (λ (z : Inline). end_of (inline_view z)) (at ∙ ap (λ n. slice_index_or (y ∷ is) n x) less)) ∙ sym (last_item is y x)

last_entry : (es : List Field) (e d : Field) → last_end (entries_end (e ∷ es)) ≡ Some (end_of (inline_view (slice_index_or (e ∷ es) (length es) d).2))
last_entry [] e d = refl
last_entry (f ∷ es) e d = last_entry es f d

pub entries_last : (es : List Field) (f : Field) (e : ℕ) → e ≡ end_of (inline_view f.2) → 1 ≤ length es → f ≡ slice_index_or es (length es - 1) f → Some e ≡ last_end (entries_end es)
entries_last [] f e is_end some at = absurd (omega (arith, some))
entries_last (g ∷ es) f e is_end some at =
    let less : length (g ∷ es) - 1 ≡ length es = omega arith in
    ap Some (is_end ∙ ap (λ (z : Field). end_of (inline_view z.2)) (at ∙ ap (λ n. slice_index_or (g ∷ es) n f) less)) ∙ sym (last_entry es g f)
