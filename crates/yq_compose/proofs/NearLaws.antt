-- Aliases, each with an anchor of its name before it.
use Rattle.std.proofs.Common.{⊎_elim, ◌≡◌, ℕ, zero, suc, ◌+◌, ◌<◌, ◌≤◌, List, [], ◌∷◌, length, drop, get_or, Some, true, refl, ap, ◌∙◌}
use Rattle.std.{proofs.Common.{bytes_eq, arith, rules}, proofs.Math.Bool.or-true, proofs.lemmas.Bool.{cases_lt, false≢true}}
use Rattle.std.{proofs.lemmas.Option.{same_Some, slice_get-get_or, slice_get-map}, proofs.lemmas.Slice.Eq.bytes_eq-Decides}
use Rattle.std.{specs.List.{list_any, slice_get}, specs.Prelude.option_map}
use Rattle.yq_outline.{proofs.EndsLaws.drop_at, specs.LinesReading.are_bound}
use Rattle.yq_core.specs.Anchors.{Name, Anchors, Refers}
use Rattle.yq_compose.specs.Named.{all_named, name_view}
use Rattle.yq_compose.specs.declared.names.Name as declared

-- the anchors before a place are known, and what is asked of the names from there on is what is asked of all
pub record IsBoundTo (ns : List Name) (at : ℕ) : Type 0 where
  pub known : List (List ℕ)
  pub holds : (i : ℕ) (q : List ℕ) → i < at → slice_get ns i ≡ Some (Anchors q) → list_any (bytes_eq q) known ≡ true
  pub so_far : are_bound [] ns ≡ are_bound known (drop at ns)

pub bound_none : (ns : List Name) → IsBoundTo ns 0
bound_none ns = record { known = []; holds = λ i q lt is. absurd (omega (arith, lt)); so_far = refl }

-- the name of the code at a place
pub named_here : (ns : List declared.Name) (i : ℕ) (d : declared.Name) (n : Name) → i < length ns → name_view (get_or ns i d) ≡ n → slice_get (all_named ns) i ≡ Some n
named_here ns i d n within is = slice_get-map name_view ns i ∙ (ap (option_map name_view) (slice_get-get_or ns i d within) ∙ ap Some is)

equal_self : (a : List ℕ) → bytes_eq a a ≡ true
equal_self a = search (rules, bytes_eq-Decides)

pub equal_names : (a b : List ℕ) → bytes_eq a b ≡ true → a ≡ b
equal_names a b h = search (rules, bytes_eq-Decides, false≢true)

pub bound_anchor : (ns : List Name) (at : ℕ) (a : List ℕ) → slice_get ns at ≡ Some (Anchors a) → IsBoundTo ns at → IsBoundTo ns (at + 1)
bound_anchor ns at a is b = search (rules, ⊎_elim, cases_lt, or-true, same_Some, equal_self, drop_at, b.holds)

pub bound_alias : (ns : List Name) (at i : ℕ) (a : List ℕ) → slice_get ns at ≡ Some (Refers a) → i < at → slice_get ns i ≡ Some (Anchors a) → IsBoundTo ns at → IsBoundTo ns (at + 1)
bound_alias ns at i a is before anchor b = search (rules, ⊎_elim, cases_lt, same_Some, drop_at, b.holds)

drop_none : (ns : List Name) (n : ℕ) → length ns ≤ n → drop n ns ≡ []
drop_none [] zero h = refl
drop_none [] (suc n) h = refl
drop_none (x ∷ xs) zero h = absurd (omega (arith, h))
drop_none (x ∷ xs) (suc n) h = drop_none xs n (omega (arith, h))

pub bound_all : (ns : List Name) (at : ℕ) → length ns ≤ at → IsBoundTo ns at → are_bound [] ns ≡ true
bound_all ns at past b = b.so_far ∙ ap (are_bound b.known) (drop_none ns at past)
