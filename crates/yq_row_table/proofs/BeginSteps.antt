-- Dashes and the mark after them, as the code reads them.
use Rattle.std.proofs.Common.{rules, ◌≡◌, ℕ, suc, ◌+◌, ◌-◌, ◌<◌, ◌≤◌, true, false, not, ◌&&◌, List, [], ◌∷◌, ◌++◌, length, take, drop}
use Rattle.std.proofs.Common.{Option, Some, None, refl, sym, ap, ◌∙◌, subst, arith, append_assoc, append-nil, length-append, replicate}
use Rattle.std.{proofs.lemmas.List.length-replicate, specs.Str.{IsUtf8, IsCharBoundary}}
use Rattle.yq_core.{specs.Text.{cut, no_space, is_empty}, proofs.Upto.cut_takes}
use Rattle.yq_row_table.specs.Slicing.{Begun, begun, with_dashes}
use Rattle.yq_row_table.specs.Reading.{Marks, read_row_key, begins_entry, is_dash, key_mark, mark_at, with_dash, read_marks}
use Rattle.yq_row_table.{specs.Rows.{RowMark, Dash, after_columns}, specs.View.last_dash}
use Rattle.yq_row_table.{proofs.MarkLaws.{dash_is, marks_more, marks_dash, marks_none, spaces_are}, proofs.PieceLaws.key_takes}
use Rattle.yq_row_table.proofs.FrontLaws.{front_take, front_drop, front_boundary, front_join, front_next}

pub columns_from : (c : ℕ) (ns : List ℕ) → after_columns c ns ≡ c + after_columns 0 ns
columns_from c [] = omega arith
columns_from c (n ∷ ns) = omega (arith, columns_from (suc (c + n)) ns, columns_from (suc (0 + n)) ns)

begun_more : (n : ℕ) (m : Marks) → begun (with_dash n m) ≡ with_dashes (45 ∷ replicate n 32) (begun m)
begun_more n m = search (rules, columns_from, length-replicate)

front_twice : (p q : List ℕ) (b : Begun) → with_dashes p (with_dashes q b) ≡ with_dashes (p ++ q) b
front_twice p q b = search (rules, length-append, append_assoc)

-- a dash and the spaces after it
dash_text : (rest s next : List ℕ) → is_dash rest ≡ true → (s, next) ≡ cut no_space (drop 1 rest) → rest ≡ (45 ∷ s) ++ next
dash_text rest s next dash e = search (rules, dash_is, cut_takes)

-- the loop's step
pub record Further (text rest next : List ℕ) : Type 0 where
  pub shorter : length next < length rest
  pub is_located : drop (length text - length next) text ≡ next
  pub so_far : with_dashes (take (length text - length next) text) (begun (read_marks next)) ≡ begun (read_marks text)

pub dash_further : (text rest after s next : List ℕ) → drop (length text - length rest) text ≡ rest →
    with_dashes (take (length text - length rest) text) (begun (read_marks rest)) ≡ begun (read_marks text) →
    is_dash rest ≡ true → after ≡ drop 1 rest → (s, next) ≡ cut no_space after → (not (is_empty s) && begins_entry next) ≡ true → Further text rest next
dash_further text rest after s next is_located so_far dash one e goes =
    let cut_is : (s, next) ≡ cut no_space (drop 1 rest) = e ∙ ap (cut no_space) one in
    let is : rest ≡ (45 ∷ s) ++ next = dash_text rest s next dash cut_is in
    let front : List ℕ = take (length text - length rest) text in
    let whole : text ≡ (front ++ (45 ∷ s)) ++ next = front_next text rest (45 ∷ s) next is_located is in
    let both : (not (is_empty (cut no_space (drop 1 rest)).0) && begins_entry (cut no_space (drop 1 rest)).1) ≡ true = subst (λ (y : List ℕ × List ℕ). (not (is_empty y.0) && begins_entry y.1) ≡ true) cut_is goes in
    let spaces : s ≡ replicate (length s) 32 = subst (λ (y : List ℕ × List ℕ). y.0 ≡ replicate (length y.0) 32) (sym cut_is) (spaces_are (drop 1 rest)) in
    let step : read_marks rest ≡ with_dash (length s) (read_marks next) = subst (λ (y : List ℕ × List ℕ). read_marks rest ≡ with_dash (length y.0) (read_marks y.1)) (sym cut_is) (marks_more rest dash both) in
    let here : begun (read_marks rest) ≡ with_dashes (45 ∷ s) (begun (read_marks next)) = ap begun step ∙ (begun_more (length s) (read_marks next) ∙ ap (λ (l : List ℕ). with_dashes (45 ∷ l) (begun (read_marks next))) (sym spaces)) in
    record {
      shorter = rw is (omega (arith, length-append (45 ∷ s) next));
      is_located = front_drop text (front ++ (45 ∷ s)) next whole;
      so_far = rw (front_take text (front ++ (45 ∷ s)) next whole) (sym (front_twice front (45 ∷ s) (begun (read_marks next))) ∙ (ap (with_dashes front) (sym here) ∙ so_far));
    }

dash_seam : (text rest after : List ℕ) → drop (length text - length rest) text ≡ rest → is_dash rest ≡ true → after ≡ drop 1 rest → text ≡ (take (length text - length rest) text ++ (45 ∷ [])) ++ after
dash_seam text rest after is_located dash one = front_next text rest (45 ∷ []) after is_located ((dash_is rest dash).0 ∙ ap (λ l. 45 ∷ l) (sym one))

pub dash_boundary : (text rest after : List ℕ) → drop (length text - length rest) text ≡ rest → is_dash rest ≡ true → after ≡ drop 1 rest → IsUtf8 after → IsCharBoundary text (length text - length after)
dash_boundary text rest after is_located dash one u = front_boundary text (take (length text - length rest) text ++ (45 ∷ [])) after (dash_seam text rest after is_located dash one) u

-- what follows a mark
key_within : (t : List ℕ) (o : Option (List ℕ × List ℕ × List ℕ)) → read_row_key t ≡ o → length (key_mark t o).1 ≤ length t
key_within t None h = omega arith
key_within t (Some k) h = let is = (key_takes t k h).0 in rw is (omega (arith, length-append k.0 (k.1 ++ k.2), length-append k.1 k.2))

pub mark_within : (t rest : List ℕ) (mark : RowMark) → (mark, rest) ≡ mark_at t → length rest ≤ length t
mark_within t rest mark e = subst (λ (y : RowMark × List ℕ). length y.1 ≤ length t) (sym e) (key_within t (read_row_key t) refl)

-- a dash that is the mark
pub dash_last : (text rest after s next : List ℕ) → drop (length text - length rest) text ≡ rest → length rest ≤ length text →
    with_dashes (take (length text - length rest) text) (begun (read_marks rest)) ≡ begun (read_marks text) →
    is_dash rest ≡ true → after ≡ drop 1 rest → (s, next) ≡ cut no_space after → (not (is_empty s) && begins_entry next) ≡ false →
    record { dashes = take (length text - length after) text; columns = length text - length rest; mark = Dash; rest = after } ≡ begun (read_marks text)
dash_last text rest after s next is_located short so_far dash one e ends =
    let cut_is : (s, next) ≡ cut no_space (drop 1 rest) = e ∙ ap (cut no_space) one in
    let is : rest ≡ (45 ∷ []) ++ after = (dash_is rest dash).0 ∙ ap (λ l. 45 ∷ l) (sym one) in
    let front : List ℕ = take (length text - length rest) text in
    let join : text ≡ front ++ rest = front_join text rest is_located in
    let whole : text ≡ (front ++ (45 ∷ [])) ++ after = front_next text rest (45 ∷ []) after is_located is in
    search (rules, marks_dash, length-append, front_take)

mark_no_dash : (t : List ℕ) (o : Option (List ℕ × List ℕ × List ℕ)) → last_dash (key_mark t o).0 ≡ []
mark_no_dash t o = search rules

-- no dash
pub no_dash : (text rest after : List ℕ) (mark : RowMark) → drop (length text - length rest) text ≡ rest → length rest ≤ length text →
    with_dashes (take (length text - length rest) text) (begun (read_marks rest)) ≡ begun (read_marks text) →
    is_dash rest ≡ false → (mark, after) ≡ mark_at rest →
    record { dashes = take (length text - length rest) text; columns = length text - length rest; mark = mark; rest = after } ≡ begun (read_marks text)
no_dash text rest after mark is_located short so_far h7 e = search (rules, front_join, length-append, marks_none, mark_no_dash, append-nil)
