-- Dashes and the mark after them, read and spelled.
use Rattle.std.proofs.Common.{◌≡◌, ℕ, zero, suc, ◌≤◌, true, false, cond, not, ◌&&◌, List, [], ◌∷◌, ◌++◌, length, drop, Option, refl, arith}
use Rattle.std.{proofs.Common.{replicate, length-drop, rules}, proofs.lemmas.Bool.{false≢true, cond_both, not-false, and_parts}}
use Rattle.yq_core.{specs.Text.{upto, cut, NoneIn, no_space, is_empty, separates}, proofs.Upto.{cut-append, cut_takes}}
use Rattle.yq_row_table.specs.Grammar.{IsKey, is_entry, AreDashes}
use Rattle.yq_row_table.specs.Reading.{read_row_key, is_dash, is_some, begins_entry, key_mark, mark_at, Marks, with_dash, undashed}
use Rattle.yq_row_table.{specs.Reading.{dashes_at, read_marks}, specs.Rows.{RowMark, Bare, Dash, Key, dashes_text, mark_text}}
use Rattle.yq_row_table.proofs.PieceLaws.{key_takes}

-- spaces
pub spaces_are : (t : List ℕ) → (cut no_space t).0 ≡ replicate (length (cut no_space t).0) 32
unfolding upto
spaces_are [] = refl
spaces_are (b ∷ bs) = search (rules, cond_both, not-false, spaces_are bs)

none_in_spaces : (n : ℕ) (rest : List ℕ) → NoneIn no_space (replicate n 32) rest
none_in_spaces zero rest = tt
none_in_spaces (suc n) rest = (refl, none_in_spaces n rest)

pub spaces_again : (n : ℕ) (rest : List ℕ) → no_space rest ≡ true → cut no_space (replicate n 32 ++ rest) ≡ (replicate n 32, rest)
spaces_again n rest h = cut-append no_space (replicate n 32) rest (none_in_spaces n rest) h

-- how many dashes are allowed makes no difference
without_spaces : (t : List ℕ) → length (cut no_space t).1 ≤ length t
without_spaces t = omega (arith, length-drop (upto no_space t) t)

dashes_fuel : (n m : ℕ) (t : List ℕ) → length t ≤ n → length t ≤ m → dashes_at n t ≡ dashes_at m t
unfolding dashes_at
dashes_fuel zero zero t a b = refl
dashes_fuel zero (suc m) [] a b = refl
dashes_fuel zero (suc m) (x ∷ t) a b = absurd (omega arith)
dashes_fuel (suc n) zero [] a b = refl
dashes_fuel (suc n) zero (x ∷ t) a b = absurd (omega arith)
dashes_fuel (suc n) (suc m) [] a b = refl
dashes_fuel (suc n) (suc m) (x ∷ t) a b =
    let s = cut no_space t in
    let less = without_spaces t in
    search (rules, dashes_fuel n m s.1 (omega arith) (omega arith))

-- one more dash
pub marks_more : (t : List ℕ) → is_dash t ≡ true → (not (is_empty (cut no_space (drop 1 t)).0) && begins_entry (cut no_space (drop 1 t)).1) ≡ true →
    read_marks t ≡ with_dash (length (cut no_space (drop 1 t)).0) (read_marks (cut no_space (drop 1 t)).1)
unfolding dashes_at
marks_more t h1 h2 = search (rules, false≢true, without_spaces, dashes_fuel)

-- the last one
pub marks_dash : (t : List ℕ) → is_dash t ≡ true → (not (is_empty (cut no_space (drop 1 t)).0) && begins_entry (cut no_space (drop 1 t)).1) ≡ false → read_marks t ≡ ([], Dash, drop 1 t)
unfolding dashes_at
marks_dash t h more = search (rules, false≢true)

-- none
pub marks_none : (t : List ℕ) → is_dash t ≡ false → read_marks t ≡ undashed (mark_at t)
unfolding dashes_at
marks_none t h = search rules

-- what comes after a mark that was read
abbrev pub IsMarked : RowMark → List ℕ → Type 0
IsMarked Bare rest = Unit {0}
IsMarked Dash rest = separates rest ≡ true
IsMarked (Key key colon) rest = IsKey key colon rest

abbrev pub MarksCut : List ℕ → Marks → Type 0
MarksCut t m = (t ≡ dashes_text m.0 (mark_text m.1 m.2)) × AreDashes m.0 m.1 × IsMarked m.1 m.2

mark_takes_at : (t : List ℕ) (o : Option (List ℕ × List ℕ × List ℕ)) → read_row_key t ≡ o → MarksCut t (undashed (key_mark t o))
mark_takes_at t o h = search (rules, key_takes)

entry_mark : (t : List ℕ) (o : Option (List ℕ × List ℕ × List ℕ)) → is_some o ≡ true → is_entry (key_mark t o).0 ≡ true
entry_mark t o h = search (rules, false≢true)

pub dash_is : (t : List ℕ) → is_dash t ≡ true → (t ≡ 45 ∷ drop 1 t) × (separates (drop 1 t) ≡ true)
dash_is t h = search (rules, false≢true, and_parts)

-- where an entry begins, an entry is read
entry_read : (n : ℕ) (t : List ℕ) → length t ≤ n → begins_entry t ≡ true → is_entry (dashes_at n t).1 ≡ true
unfolding dashes_at
entry_read zero [] short h = entry_mark [] (read_row_key []) h
entry_read zero (b ∷ t) short h = absurd (omega arith)
entry_read (suc n) [] short h = entry_mark [] (read_row_key []) h
entry_read (suc n) (b ∷ t) short h =
    let u : List ℕ = b ∷ t in
    let s = cut no_space t in
    let less = without_spaces t in
    cond_both (is_dash u) (cond (not (is_empty s.0) && begins_entry s.1) (with_dash (length s.0) (dashes_at n s.1)) ([], Dash, t)) (undashed (mark_at u)) (λ m. is_entry m.1 ≡ true)
    (λ _. cond_both (not (is_empty s.0) && begins_entry s.1) (with_dash (length s.0) (dashes_at n s.1)) ([], Dash, t) (λ m. is_entry m.1 ≡ true)
    (λ e. entry_read n s.1 (omega arith) (and_parts (not (is_empty s.0)) (begins_entry s.1) e).1)
    (λ _. refl))
    (λ e. entry_mark u (read_row_key u) (rw e at h))

some_length : (s : List ℕ) → not (is_empty s) ≡ true → 1 ≤ length s
some_length s h = search (rules, false≢true)

one_dash : (t : List ℕ) (m : Marks) → is_dash t ≡ true → (not (is_empty (cut no_space (drop 1 t)).0)) ≡ true → is_entry m.1 ≡ true → MarksCut (cut no_space (drop 1 t)).1 m → MarksCut t (with_dash (length (cut no_space (drop 1 t)).0) m)
one_dash t m dash some entry h = search (rules, cut_takes, spaces_are, dash_is, some_length)

dashes_take : (n : ℕ) (t : List ℕ) → length t ≤ n → MarksCut t (dashes_at n t)
unfolding dashes_at
dashes_take zero t short = mark_takes_at t (read_row_key t) refl
dashes_take (suc n) [] short = mark_takes_at [] (read_row_key []) refl
dashes_take (suc n) (b ∷ t) short =
    let u : List ℕ = b ∷ t in
    let s = cut no_space t in
    let less = without_spaces t in
    cond_both (is_dash u) (cond (not (is_empty s.0) && begins_entry s.1) (with_dash (length s.0) (dashes_at n s.1)) ([], Dash, t)) (undashed (mark_at u)) (MarksCut u)
    (λ d. cond_both (not (is_empty s.0) && begins_entry s.1) (with_dash (length s.0) (dashes_at n s.1)) ([], Dash, t) (MarksCut u)
    (λ e. let parts = and_parts (not (is_empty s.0)) (begins_entry s.1) e in
    one_dash u (dashes_at n s.1) d parts.0 (entry_read n s.1 (omega arith) parts.1) (dashes_take n s.1 (omega arith)))
    (λ _. let is = dash_is u d in (is.0, tt, is.1)))
    (λ _. mark_takes_at u (read_row_key u) refl)

pub marks_take : (t : List ℕ) → MarksCut t (read_marks t)
marks_take t = dashes_take (length t) t (omega arith)
