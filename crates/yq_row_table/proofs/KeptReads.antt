-- Reads of places by an index among both sides.
use Rattle.std.proofs.Common.{rules, ◌≡◌, ℕ, zero, suc, ◌+◌, ◌-◌, ◌<◌, ◌≤◌, List, [], ◌∷◌, ◌++◌, get_or, length, map, reverse, Some}
use Rattle.std.proofs.Common.{slice_get, refl, sym, ap, ◌∙◌, subst, arith, length-append}
use Rattle.std.{proofs.lemmas.List.{get_or-reverse, length-map, length-reverse}, proofs.lemmas.Option.{slice_get-map, slice_get_read}}
use Rattle.std.{specs.Option.option_map, specs.Vec.vec_len}
use Rattle.yq_text.specs.declared.halves.Halves.{Halves}
use Rattle.yq_row_table.{specs.Kept.{halves_view, kept_rows, placed_rows, row_from_end}, specs.View.RowsView}
use Rattle.yq_row_table.specs.declared.places.Places.{Places}
use Rattle.yq_row_table.specs.declared.offsets.Offsets as declared

-- how many rows and ends of parts a view of these places has
pub rows_kept : (text : Halves) (p : Places) (v : RowsView) → halves_view text p ≡ v → length (kept_rows p) ≡ length v.rows
rows_kept text p v is = search (rules, length-append, length-map)

-- a row of such a view is one of those that are kept
pub kept_within : (text : Halves) (p : Places) (i : ℕ) (v : RowsView) → halves_view text p ≡ v → i < length v.rows → i < length (kept_rows p)
kept_within text p i v is less = subst (λ (n : ℕ). i < n) (sym (rows_kept text p v is)) less

-- an element of one list before another, or after it
pub first_at : {A : Type 0} (xs ys : List A) (i : ℕ) (a : A) → i < length xs → a ≡ get_or xs i a → slice_get (xs ++ ys) i ≡ Some a
first_at [] ys i a less is = absurd (omega (arith, less))
first_at (x ∷ xs) ys zero a less is = ap Some (sym is)
first_at (x ∷ xs) ys (suc i) a less is = first_at xs ys i a (omega (arith, less)) is

pub second_at : {A : Type 0} (xs ys : List A) (i j : ℕ) (a : A) → i ≡ length xs + j → slice_get ys j ≡ Some a → slice_get (xs ++ ys) i ≡ Some a
second_at [] ys i j a e at = let same : j ≡ i = omega (arith, e) in subst (λ (k : ℕ). slice_get ys k ≡ Some a) same at
second_at (x ∷ xs) ys zero j a e at = absurd (omega (arith, e))
second_at (x ∷ xs) ys (suc i) j a e at = second_at xs ys i j a (omega (arith, e)) at

-- a row that is kept in front of the split
pub front_kept : (p : Places) (i : ℕ) (a : declared.Offsets) → i < vec_len p.front → a ≡ get_or p.front.items i a → slice_get (kept_rows p) i ≡ Some a
front_kept p i a less is = first_at p.front.items (reverse p.after.items) i a (omega (arith, less, p.front.ok.0)) is

pub front_placed : (p : Places) (len i : ℕ) (a : declared.Offsets) → i < vec_len p.front → a ≡ get_or p.front.items i a
    → slice_get (placed_rows len p) i ≡ Some a
front_placed p len i a less is = first_at p.front.items (map (row_from_end len) (reverse p.after.items)) i a (omega (arith, less, p.front.ok.0)) is

-- An index after the split among so many rows, of which so many are in front of it: it is one of those after, counted from the last one.
pub record IsAfter (p : Places) (i n m : ℕ) : Type 0 where
  pub some : 1 ≤ n
  pub place : i - m ≤ n - 1
  pub within : (n - 1) - (i - m) < vec_len p.after
  pub kept : (a : declared.Offsets) → a ≡ get_or p.after.items ((n - 1) - (i - m)) a → slice_get (kept_rows p) i ≡ Some a
  pub placed : (len : ℕ) (a : declared.Offsets) → a ≡ get_or p.after.items ((n - 1) - (i - m)) a → slice_get (placed_rows len p) i ≡ Some (row_from_end len a)

pub comes_later : (p : Places) (i n m : ℕ) → i < length (kept_rows p) → vec_len p.front ≤ i → n ≡ vec_len p.after → m ≡ vec_len p.front → IsAfter p i n m
comes_later p i n m less more n_is m_is =
    let front = p.front.ok.0 in
    let after = p.after.ok.0 in
    let all = length-append p.front.items (reverse p.after.items) in
    let turns = length-reverse p.after.items in
    let j = i - m in
    let here : j < length p.after.items = omega (arith, less, more, n_is, m_is, front, after, all, turns) in
    let back : length p.after.items - 1 - j ≡ (n - 1) - j = omega (arith, n_is, after) in
    let at = λ (a : declared.Offsets) (is : a ≡ get_or p.after.items ((n - 1) - j) a).
    slice_get_read (reverse p.after.items) (length (reverse p.after.items)) j a refl (omega (arith, here, turns))
    (is ∙ sym (get_or-reverse p.after.items j a here ∙ ap (λ (k : ℕ). get_or p.after.items k a) back)) in
    let place : i ≡ length p.front.items + j = omega (arith, more, m_is, front) in
    record {
      some = omega (arith, here, n_is, after);
      place = omega (arith, here, n_is, after);
      within = omega (arith, here, n_is, after);
      kept = λ a is. second_at p.front.items (reverse p.after.items) i j a place (at a is);
      placed = λ len a is. second_at p.front.items (map (row_from_end len) (reverse p.after.items)) i j (row_from_end len a) place
          (slice_get-map (row_from_end len) (reverse p.after.items) j ∙ ap (option_map (row_from_end len)) (at a is));
    }
