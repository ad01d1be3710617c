-- One row more, moved over the gap.
use Rattle.std.proofs.Common.{◌≡◌, ℕ, ◌-◌, ◌<◌, ◌≤◌, Option, Some, List, [], ◌∷◌, ◌++◌, length, get_or, map, reverse, slice_index_or}
use Rattle.std.proofs.Common.{option_to_list, sym, ap, ◌∙◌, subst, append_assoc, rules, slice_get, arith}
use Rattle.std.{proofs.lemmas.List.reverse-append, proofs.lemmas.List.Elements.All-pop}
use Rattle.std.{proofs.lemmas.Option.{get_or_from_slice_get, slice_get_within}, specs.List.All}
use Rattle.yq_row_table.specs.Kept.{row_from_end}
use Rattle.yq_rows.{specs.Sides.{LastBefore, both_sides}, proofs.SplitLaws.{Within, last_of_joined, turned_one}}
use Rattle.yq_row_table.specs.declared.offsets.Offsets as declared

pub popped : (old new : List declared.Offsets) (n m : ℕ) (r : Option declared.Offsets) (o : declared.Offsets) → old ≡ new ++ option_to_list r → ((d : declared.Offsets) → 0 < n → r ≡ Some (slice_index_or old (n - 1) d)) →
    m ≡ n → 0 < n → o ≡ slice_index_or old (m - 1) o → old ≡ new ++ o ∷ []
popped old new n m r o all last same some own = search (rules, slice_index_or, option_to_list)

pub passed_front : (n : ℕ) (front after : List declared.Offsets) (o : declared.Offsets) → both_sides n (front ++ row_from_end n o ∷ []) after ≡ both_sides n front (after ++ o ∷ [])
passed_front n front after o = append_assoc front (row_from_end n o ∷ []) (map (row_from_end n) (reverse after)) ∙ ap (λ l. front ++ map (row_from_end n) l) (sym (reverse-append after (o ∷ [])))

pub passed_after : (n : ℕ) (front after : List declared.Offsets) (o : declared.Offsets) → Within n o → both_sides n front (after ++ row_from_end n o ∷ []) ≡ both_sides n (front ++ o ∷ []) after
passed_after n front after o h = sym (passed_front n front after (row_from_end n o)) ∙ ap (λ (p : declared.Offsets). both_sides n (front ++ p ∷ []) after) (turned_one n o h)

pub last_pushed : (at : ℕ) (front : List declared.Offsets) (o : declared.Offsets) → o.start < at → LastBefore at (front ++ o ∷ [])
last_pushed at front o less x e =
    let same : o ≡ x = let own = last_of_joined front o in cc in
    subst (λ (y : declared.Offsets). y.start < at) same less

pub all_popped : (P : declared.Offsets → Type 0) (old new : List declared.Offsets) (o : declared.Offsets) → old ≡ new ++ o ∷ [] → All P old → All P new × P o
all_popped P old new o e h = let r = All-pop P old new (Some o) e h in (r.0, r.1)

-- the last row is the one that was looked at
pub last_is : (os : List declared.Offsets) (n : ℕ) (own : declared.Offsets) → n ≡ length os → own ≡ get_or os (n - 1) own → (o : declared.Offsets) →
    slice_get os (length os - 1) ≡ Some o → own ≡ o
last_is os n own long is o e = is ∙ (ap (λ (m : ℕ). get_or os (m - 1) own) long ∙ get_or_from_slice_get os (length os - 1) o own e)

pub none_last : (os : List declared.Offsets) (n : ℕ) → n ≡ length os → n ≤ 0 → (o : declared.Offsets) → slice_get os (length os - 1) ≡ Some o → ⊥
none_last os n long none o e = omega (arith, slice_get_within os (length os - 1) o e, long, none)
