-- Where lines begin and end among rows, by their levels.
use Rattle.std.proofs.Common.{rules, ◌≡◌, ◌⊎◌, inl, inr, ⊎_elim, ℕ, suc, ◌+◌, ◌*◌, ◌≤◌, List, [], ◌∷◌, ◌++◌, Option, Some, None, option_map}
use Rattle.std.{proofs.Common.{Bool, true, false, cond, refl, sym, ap, ◌∙◌, subst, arith}, proofs.lemmas.Bool.false≢true}
use Rattle.std.proofs.lemmas.Option.{same_Some}
use mathlib.Core.List.{head-eq_of_cons-eq, tail-eq_of_cons-eq}
use Rattle.yq_core.specs.Paths.{Step, is_here, further}
use Rattle.yq_outline.{specs.Comments.head_comment, specs.Group.level_or, specs.Lines.{mark_line, lines_from, row_lines, lines_of_rows}}
use Rattle.yq_outline.specs.Outline.{Line, level, Outline, flatten, IsEven, label, end, row}
use Rattle.yq_outline.specs.Places.{Context, here, below, beside, lines_before, lines_after, FoundLine, next_to, find_row}
use Rattle.yq_outline.{proofs.Allowing.Allows, proofs.PlaceLaws.at, proofs.Values.{If, rank_small}}
use Rattle.yq_row_table.specs.Rows.{Content, Row}
use Rattle.yq_places.proofs.RowPathLaws.{allowed_level}
use Rattle.yq_edit_rules.specs.Siblings.{HasEntries, NodeLines, lines_at}
use Rattle.yq_edit_rules.proofs.NodeLineLaws.{Under, lines_found, lines_even, under_even, after_under}
use Rattle.yq_edit_rules.specs.LineRows.{Begins, AreApartLines, RowBegins, LinesApart, following_lines, EntriesApart, AreDeep, AreClosed}
use Rattle.yq_edit_rules.specs.LineRows.{EvenClosed}
use Rattle.yq_row_table.specs.Rows as rows

pub deep_both : (n : ℕ) (xs ys : List Line) → AreDeep n xs → AreDeep n ys → AreDeep n (xs ++ ys)
deep_both n [] ys a b = b
deep_both n (x ∷ xs) ys a b = (a.0, deep_both n xs ys a.1 b)

pub deep_less : (n m : ℕ) (xs : List Line) → n ≤ m → AreDeep m xs → AreDeep n xs
deep_less n m [] e h = tt
deep_less n m (x ∷ xs) e h = (let d = h.0 in omega (arith, d, e), deep_less n m xs e h.1)

pub even_deep : (n : ℕ) (o : Outline) → IsEven n o → AreDeep n (flatten o)
even_deep n end e = tt
even_deep n (row l u a) e = (let same = e.0 in omega (arith, same), deep_both n (flatten u) (flatten a) (deep_less n e.3.0 (flatten u) (let lt = e.3.1 in omega (arith, lt)) (even_deep e.3.0 u e.3.2)) (even_deep n a e.4))

-- first lines
pub begins_both : (n : ℕ) (xs ys : List Line) → Begins n xs → Begins n ys → Begins n (xs ++ ys)
begins_both n xs ys a b = search rules

pub begins_less : (n m : ℕ) (xs : List Line) → n ≤ m → Begins n xs → Begins m xs
begins_less n m [] e h = tt
begins_less n m (x ∷ xs) e h = omega (arith, e, h)

pub even_begins : (n : ℕ) (o : Outline) → IsEven n o → Begins n (flatten o)
even_begins n end e = tt
even_begins n (row l u a) e = let same = e.0 in omega (arith, same)

pub apart_skip : (a b z : List Line) → (b ≡ [] → ⊥) → AreApartLines b z → AreApartLines (a ++ b) z
apart_skip (x ∷ []) [] z some h = absurd (some refl)
apart_skip (x ∷ (y ∷ a)) b z some h = apart_skip (y ∷ a) b z some h
apart_skip _ _ z some h = h

pub apart_deep : (n : ℕ) (b z : List Line) → AreDeep n b → Begins n z → AreApartLines b z
apart_deep n [] z d h = tt
apart_deep n (l ∷ []) z d h = begins_less n (level l) z d.0 h
apart_deep n (l ∷ (k ∷ b)) z d h = apart_deep n (k ∷ b) z d.1 h

-- lines after a place
pub after_begins : (n m : ℕ) (p : Context) → Allows n p m → Begins m (lines_after p)
after_begins n m here a = tt
after_begins n m (below l p after) a = search (rules, arith, allowed_level, begins_both, begins_less, even_begins, after_begins a.3.0 m p a.3.2)
after_begins n m (beside l under p) a = after_begins n m p a.4

lines_begin : (n : ℕ) (o : Outline) (steps : List Step) (h : NodeLines) → IsEven n o → lines_at steps o ≡ Some h → Begins h.above (lines_after h.place)
lines_begin n o [] h even e = subst (λ (x : NodeLines). Begins x.above (lines_after x.place)) (same_Some _ _ e) tt
lines_begin n o (s ∷ ss) h even e = found (lines_found s ss o h e)
  where
    found : Under s ss o h → Begins h.above (lines_after h.place)
    found w = search (rules, under_even n o s ss w.found even w.is, after_under, begins_both, even_begins, after_begins)

pub block_some : (o : Outline) → HasEntries o → flatten o ≡ [] → ⊥
block_some o b e = search rules

pub lines_apart : LinesApart
lines_apart n o steps h even e block =
    let deep = lines_even n o steps h even e block in
    let lt = deep.0 in
    let next = lines_begin n o steps h even e in (
      apart_skip (lines_before h.place) (flatten h.lines) (lines_after h.place) (block_some h.lines block)
          (apart_deep (level_or 0 h.lines) (flatten h.lines) (lines_after h.place) (even_deep (level_or 0 h.lines) h.lines deep.1) (begins_less h.above (level_or 0 h.lines) (lines_after h.place) (omega (arith, lt)) next)),
      next,
    )

-- An item or entry among its siblings.
pub record Stood (n : ℕ) (f : FoundLine) : Type 0 where
  pub before : AreDeep n (lines_before f.place)
  pub after : lines_after f.place ≡ []
  pub even : IsEven n (row f.line f.under f.after)

pub row_stood : (s : Step) (n : ℕ) (o : Outline) → IsEven n o → If (find_row s o) (Stood n)
row_stood s n end e = tt
row_stood s n (row k v a) e = go (is_here s (label k)) (find_row (further s) a) (row_stood (further s) n a e.4)
  where
    go : (b : Bool) (r : Option FoundLine) → If r (Stood n) → If (cond b (Some (record { place = here; line = k; under = v; after = a })) (option_map (next_to k v) r)) (Stood n)
    go true r h = record { before = tt; after = refl; even = e }
    go false None h = tt
    go false (Some f) h = record {
      before = (let same = e.0 in omega (arith, same), deep_both n (flatten v) (lines_before f.place) (deep_less n e.3.0 (flatten v) (let lt = e.3.1 in omega (arith, lt)) (even_deep e.3.0 v e.3.2)) h.before);
      after = h.after;
      even = h.even;
    }

pub entries_apart : EntriesApart
entries_apart n o steps s h f even e =
    let deep = lines_even n o steps h even e.place_is e.block in
    let m = level_or 0 h.lines in
    let w = at (Stood m) (find_row s h.lines) f e.found (row_stood s m h.lines deep.1) in
    let own = w.even in
    let lt = deep.0 in
    let same : level f.line ≡ m = own.0 in
    let after : Begins m (following_lines h f) = search (rules, arith, begins_both, even_begins, begins_less, lines_begin) in
    search (rules, deep_less, even_deep, apart_skip, apart_deep, begins_less)

-- closed lines
closed_both : (n : ℕ) (xs ys : List Line) → AreDeep n xs → Begins n ys → AreClosed xs → AreClosed ys → AreClosed (xs ++ ys)
closed_both n [] ys d b h k = k
closed_both n (x ∷ xs) ys d b h k = (λ some. begins_both (level x) xs ys (h.0 some) (begins_less n (level x) ys d.0 b), closed_both n xs ys d.1 b h.1 k)

pub even_closed : EvenClosed
even_closed n end e = tt
even_closed n (row l u a) e =
    search (rules, arith, closed_both, deep_less, even_deep, even_begins, false≢true, begins_less, even_closed e.3.0 u e.3.2, even_closed n a e.4)

pub closed_back : (xs ys : List Line) → AreClosed (xs ++ ys) → AreClosed ys
closed_back [] ys h = h
closed_back (x ∷ xs) ys h = closed_back xs ys h.1

-- lines of a row are each deeper than the one before
pub first_level : (above : List (List ℕ)) (column : ℕ) (ns : List ℕ) (m : rows.RowMark) (c : Content) (rest : List Line) (n : ℕ) → Begins n (lines_from above column ns m c ++ rest) → 3 * column + 1 ≤ n
unfolding level
first_level above column [] m c rest n h = let small = rank_small (mark_line above column m c).mark in omega (arith, h, small.0)
first_level above column (k ∷ ns) m c rest n h = omega (arith, h)

-- Lines in front of others are none of a row's lines, or all of them.
abbrev Around : List Line → List Line → List Line → List Line → Type 0
Around ls rest a z = (a ≡ []) ⊎ ((b : List Line) × (a ≡ ls ++ b) × (rest ≡ b ++ z) × AreApartLines b z)

apart_rest : (x : Line) (a z : List Line) → AreApartLines (x ∷ a) z → AreApartLines a z
apart_rest x a z h = search rules

row_around : (above : List (List ℕ)) (column : ℕ) (ns : List ℕ) (m : rows.RowMark) (c : Content) (rest a z : List Line) → lines_from above column ns m c ++ rest ≡ a ++ z → AreApartLines a z →
    Around (lines_from above column ns m c) rest a z
unfolding level
row_around above column ns m c rest [] z e h = inl refl
row_around above column [] m c rest (x ∷ a) z e h = inr (a, (λ i. sym (head-eq_of_cons-eq e) i ∷ a), tail-eq_of_cons-eq e, apart_rest x a z h)
row_around above column (n ∷ ns) m c rest (x ∷ a) z e h =
    ⊎_elim {0, 0, 0}
    (λ none. absurd (deep none))
    (λ r. inr (r.0, (λ i. sym (head-eq_of_cons-eq e) i ∷ r.1 i), r.2, r.3))
    (row_around [] (suc (column + n)) ns m c rest a z (tail-eq_of_cons-eq e) (apart_rest x a z h))
  where
    deep : a ≡ [] → ⊥
    deep none =
        let one : AreApartLines (x ∷ []) z = subst (λ (b : List Line). AreApartLines (x ∷ b) z) none h in
        let is : z ≡ lines_from [] (suc (column + n)) ns m c ++ rest = ap (λ (b : List Line). b ++ z) (sym none) ∙ sym (tail-eq_of_cons-eq e) in
        let first = first_level [] (suc (column + n)) ns m c rest (level x) (subst (Begins (level x)) is one) in
        let same : level x ≡ 3 * column + 3 = ap level (sym (head-eq_of_cons-eq e)) in
        omega (arith, first, same)

pub row_begins : RowBegins
row_begins [] [] z e h = record { front = []; back = []; rows_are = refl; front_lines = refl; back_lines = e }
row_begins [] (x ∷ a) z e h = absurd (cc)
row_begins (r ∷ rs) a z e h =
    ⊎_elim {0, 0, 0}
    (λ none. record { front = []; back = r ∷ rs; rows_are = refl; front_lines = sym none; back_lines = e ∙ ap (λ (b : List Line). b ++ z) none })
    (λ w.
    let more = row_begins rs w.0 z w.2 w.3 in
    record { front = r ∷ more.front; back = more.back; rows_are = ap (λ (l : List Row). r ∷ l) more.rows_are; front_lines = ap (λ (b : List Line). row_lines r ++ b) more.front_lines ∙ sym w.1; back_lines = more.back_lines })
    (row_around (head_comment r.gap) r.column r.dashes r.mark r.content (lines_of_rows rs) a z e h)
