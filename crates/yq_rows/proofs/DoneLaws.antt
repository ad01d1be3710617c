-- What a change that was followed leaves.
use Rattle.std.proofs.Common.{◌≡◌, ℕ, List, ◌++◌, if◌then◌else◌, refl, sym, ap, ◌∙◌, subst, append_assoc, rules}
use Rattle.std.specs.Prelude.{Err, Result, is_ok}
use Rattle.yq_row_table.{specs.Grammar.IsCut, specs.Items.items_of_cut, specs.Kept.IsPlaced, specs.Rows.Cut, specs.View.rows_view}
use Rattle.yq_row_table.specs.declared.places.Places.{Places}
use Rattle.yq_rows.specs.Exchanging.{TextChange, RowsExchanged, GivesWay, SamePlaces}
use Rattle.yq_rows.{specs.Following.{ArePlacesOf, Follows, IsPlacedIn, exchanged}, specs.Reading.ArePlacesRead}
use Rattle.yq_rows.{specs.declared.kept.Kept.Kept, specs.declared.session_reading.NewRows.NewRows, specs.declared.touched.Touched.Touched}
use Rattle.yq_rows.proofs.ItemPlaces.{BothSides, placed_in, places_of}

-- before a change: places that were moved
pub placed_before : (t : List ℕ) (p : Places) (kept : Kept) (new : List ℕ) → Follows t p kept new → IsPlacedIn t p
placed_before t p kept new h = record { cut = h.old_cut; is_cut = h.old_is; placed = h.placed }

pub moved_follows : (t : List ℕ) (p q : Places) (kept : Kept) (new : List ℕ) → Follows t p kept new → IsPlacedIn t q → Follows t q kept new
moved_follows t p q kept new h placed = record {
  old_cut = h.old_cut;
  new_cut = h.new_cut;
  old_is = h.old_is;
  placed = places_of t q placed h.old_cut h.old_is;
  new_is = h.new_is;
  touches = h.touches;
  within = h.within;
  front_edge = h.front_edge;
  back_edge = h.back_edge;
}

pub same_places : (t u : List ℕ) (p q : Places) → u ≡ t → IsPlacedIn t p → SamePlaces p q → ArePlacesOf u q
same_places t u p q text h same =
    let placed : IsPlaced q (rows_view h.cut) = search rules in
    subst (λ (x : List ℕ). ArePlacesOf x q) (sym text) (places_of t q (record { cut = h.cut; is_cut = h.is_cut; placed = placed }))

pub still_placed : (t u : List ℕ) (p : Places) → u ≡ t → IsPlacedIn t p → ArePlacesOf u p
still_placed t u p text h = same_places t u p p text h (refl, refl, refl, refl)

-- what is replaced, and what is there then
pub gives_way : (t new : List ℕ) (kept : Kept) (p : Places) (x : Touched) (come : NewRows) → (k : TextChange t new kept p x) → ArePlacesRead k.read.written come → GivesWay p x come
gives_way t new kept p x come k read = record {
  before = k.before;
  touched = k.touched;
  written = k.read.written;
  after = k.read.after;
  placed = k.placed;
  are_read = read;
  front_is = k.front_is;
  old_is = k.old_is;
  front_rows = k.front_rows;
  back_rows = k.back_rows;
  small = k.small;
}

new_sides : (t new : List ℕ) (kept : Kept) (p q : Places) (x : Touched) (come : NewRows) (d : Cut) → (k : TextChange t new kept p x) →
    ArePlacesRead k.read.written come → RowsExchanged p x come q → IsCut (exchanged kept t new) d → BothSides q (items_of_cut d)
unfolding gives_way
new_sides t new kept p q x come d k read done is =
    (k.before ++ k.read.written, k.read.after, append_assoc k.before k.read.written k.read.after ∙ k.items d is, done (gives_way t new kept p x come k read))

pub new_places : (t u v new : List ℕ) (kept : Kept) (p q : Places) (x : Touched) (come : NewRows) (d : Cut) → u ≡ t → v ≡ exchanged kept u new →
    (k : TextChange t new kept p x) → ArePlacesRead k.read.written come → RowsExchanged p x come q → IsCut (exchanged kept t new) d → ArePlacesOf v q
new_places t u v new kept p q x come d text spliced k read done is =
    subst (λ (l : List ℕ). ArePlacesOf l q) (sym (spliced ∙ ap (λ (l : List ℕ). exchanged kept l new) text))
    (places_of (exchanged kept t new) q (placed_in (exchanged kept t new) q d is (new_sides t new kept p q x come d k read done is)))

-- an error leaves the text, and nothing is said of the count
pub stays : {T E : Type 0} (r : Result T E) (e : E) → r ≡ Err e → (u new old : List ℕ) → u ≡ old → u ≡ (if is_ok r then new else old)
stays {T} {E} r e is u new old same = same ∙ sym (ap (λ (x : Result T E). if is_ok x then new else old) is)
