-- Dashes and the mark after them are read again.
use Rattle.std.proofs.Common.{◌≡◌, ℕ, zero, suc, ◌≤◌, ◌<◌, true, false, not, ◌&&◌, List, [], ◌∷◌, ◌++◌, length, None, refl, arith, eqb-true}
use Rattle.std.{proofs.Common.{replicate, length-append, rules}, proofs.lemmas.Bool.{false≢true, not-true, or_right, and_parts, cases_Bool}}
use Rattle.std.proofs.lemmas.List.{length-replicate}
use Rattle.yq_core.{specs.Text.{cut, no_space, is_empty, separates}, specs.Nodes.{begins_node, begins_with, begins_content}}
use Rattle.yq_core.{specs.Scalars.begins_scalar, proofs.NodesPieceLaws.scalar_begins}
use Rattle.yq_row_table.specs.Grammar.{IsKey, is_entry, AreDashes}
use Rattle.yq_row_table.specs.Reading.{read_row_key, is_dash, begins_entry, Marks, with_dash, dashes_at, read_marks}
use Rattle.yq_row_table.{specs.Rows.{RowMark, Bare, Dash, Key, dashes_text, mark_text}, proofs.Fronts.node_starts}
use Rattle.yq_row_table.{proofs.MarkLaws.spaces_again, proofs.PieceLaws.key_again}

-- a scalar is no dash
pub scalar_no_dash : (t : List ℕ) → begins_scalar false t ≡ true → is_dash t ≡ false
scalar_no_dash t h1 = search (rules, cases_Bool, eqb-true, not-true, and_parts)

pub scalar_node : (t : List ℕ) → begins_scalar false t ≡ true → begins_node false t ≡ true
scalar_node t h = or_right (begins_with 38 t) (begins_content false t) (or_right (begins_with 42 t) _ (or_right (begins_with 91 t) _ (or_right (begins_with 123 t) (begins_scalar false t) h)))

-- What comes after a mark so that nothing but that mark is read.
abbrev pub Ended : RowMark → List ℕ → Type 0
Ended Bare rest = (is_dash rest ≡ false) × (read_row_key rest ≡ None)
Ended Dash rest = (separates rest ≡ true) × ((not (is_empty (cut no_space rest).0) && begins_entry (cut no_space rest).1) ≡ false)
Ended (Key key colon) rest = IsKey key colon rest

pub key_starts : (key colon rest : List ℕ) → IsKey key colon rest → begins_scalar false (key ++ (colon ++ rest)) ≡ true
key_starts key colon rest h = scalar_begins false None key (colon ++ rest) h.scalar

-- an entry is in front
abbrev EntryFront : List ℕ → Type 0
EntryFront t = (no_space t ≡ true) × (begins_entry t ≡ true)

entry_front : (ns : List ℕ) (mark : RowMark) (rest : List ℕ) → AreDashes ns mark → is_entry mark ≡ true → Ended mark rest → EntryFront (dashes_text ns (mark_text mark rest))
entry_front [] Bare rest d e h = absurd (false≢true e)
entry_front [] Dash rest d e h = (refl, rw h.0 refl)
entry_front [] (Key key colon) rest d e h = search (rules, node_starts, scalar_node, key_starts, or_right, key_again)
entry_front (zero ∷ ns) mark rest d e h = absurd (omega (arith, d.0))
entry_front (suc n ∷ ns) mark rest d e h = (refl, refl)

-- one dash before an entry
dash_again : (f n : ℕ) (t : List ℕ) (m : Marks) → 1 ≤ n → EntryFront t → dashes_at f t ≡ m → dashes_at (suc f) (45 ∷ (replicate n 32 ++ t)) ≡ with_dash n m
unfolding dashes_at
dash_again f n t m h1 h2 h3 = search (rules, spaces_again, length-replicate)

mark_again : (mark : RowMark) (rest : List ℕ) (f : ℕ) → Ended mark rest → length (mark_text mark rest) ≤ f → dashes_at f (mark_text mark rest) ≡ ([], mark, rest)
unfolding dashes_at
mark_again Bare rest zero h short = rw h.1 refl
mark_again Dash rest zero h short = absurd (omega arith)
mark_again (Key key colon) rest zero h short = rw (key_again key colon rest h) refl
mark_again (Key key colon) rest (suc f) h short = rw (scalar_no_dash (key ++ (colon ++ rest)) (key_starts key colon rest h), key_again key colon rest h) refl
mark_again _ rest (suc f) h short = rw (h.0, h.1) refl

dashes_again : (ns : List ℕ) (mark : RowMark) (rest : List ℕ) (f : ℕ) → AreDashes ns mark → Ended mark rest → length (dashes_text ns (mark_text mark rest)) ≤ f → dashes_at f (dashes_text ns (mark_text mark rest)) ≡ (ns, mark, rest)
dashes_again [] mark rest f d h short = mark_again mark rest f h short
dashes_again (n ∷ ns) mark rest zero d h short = absurd (omega arith)
dashes_again (n ∷ ns) mark rest (suc f) d h short =
    let t = dashes_text ns (mark_text mark rest) in
    let less : length t < length (45 ∷ (replicate n 32 ++ t)) = omega (arith, length-append {A = ℕ} (replicate n 32) t) in
    dash_again f n t (ns, mark, rest) d.0 (entry_front ns mark rest d.2 d.1 h) (dashes_again ns mark rest f d.2 h (omega arith))

pub marks_again : (ns : List ℕ) (mark : RowMark) (rest : List ℕ) → AreDashes ns mark → Ended mark rest → read_marks (dashes_text ns (mark_text mark rest)) ≡ (ns, mark, rest)
marks_again ns mark rest d h = dashes_again ns mark rest (length (dashes_text ns (mark_text mark rest))) d h (omega arith)
