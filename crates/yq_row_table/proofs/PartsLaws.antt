-- The parts of a text and the markers between them, read and spelled.
use Rattle.std.proofs.Common.{◌≡◌, ℕ, suc, ◌<◌, ◌≤◌, Bool, true, false, cond, ◌||◌, List, [], ◌∷◌, ◌++◌, length, Option, Some, None, refl}
use Rattle.std.{proofs.Common.{ap, ◌∙◌, subst, arith, rules}, proofs.lemmas.Bool.{false≢true, cases_Bool}}
use Rattle.std.proofs.lemmas.Option.{cond_some, same_Some}
use Rattle.yq_core.{specs.Answers.◌>>=◌, specs.Text.{is_empty, is_marker}, proofs.Bools.bind_some, proofs.Binds.bind_same}
use Rattle.yq_row_table.specs.Grammar.{Limit, unlimited, limit_after, AreRows, no_rows, IsPart, IsMarkerLine, begins_document, ends_part}
use Rattle.yq_row_table.specs.Reading.{read_tail, all_rows, read_cut_part, marker_at, parts_at, all_parts}
use Rattle.yq_row_table.{specs.Rows.{Row, Part, part_text, rows_text, Cut, last, marked}, proofs.PieceLaws.{tail_takes, tail_again}}
use Rattle.yq_row_table.{proofs.RowLaws.{row_longer, suffix_le}, proofs.RowsRead.{rows_takes, rows_again}}

-- a part
pub record PartCut (started : Bool) (t : List ℕ) (x : Part × List ℕ) : Type 0 where
  pub text : t ≡ part_text x.0 x.1
  pub part : IsPart started x.0 x.1
  pub ends : ends_part x.1 ≡ true

pub part_takes : (started : Bool) (t : List ℕ) (x : Part × List ℕ) → read_cut_part started t ≡ Some x → PartCut started t x
unfolding read_cut_part
part_takes started t x h =
    let part = bind_some (all_rows unlimited t) h in
    let g = cond_some (started || no_rows part.0.0.rows) _ _ part.2 in
    let rows = rows_takes (suc (length t)) unlimited t part.0 part.1 in
    subst (PartCut started t) g.1 (record { text = rows.text; part = record { rows = rows.rows; inside = g.0 }; ends = rows.ends })

pub part_again : (started : Bool) (p : Part) (rest : List ℕ) → IsPart started p rest → ends_part rest ≡ true → read_cut_part started (part_text p rest) ≡ Some (p, rest)
unfolding read_cut_part
part_again started p rest h ends = search (rules, rows_again)

-- the line of a marker
abbrev MarkerCut : List ℕ → List ℕ × List ℕ → Type 0
MarkerCut t x = (t ≡ x.0 ++ x.1) × IsMarkerLine x.0 x.1

pub marker_takes : (t : List ℕ) (x : List ℕ × List ℕ) → is_marker t ≡ true → marker_at t ≡ Some x → MarkerCut t x
unfolding marker_at
marker_takes (a ∷ (b ∷ (c ∷ t))) x is h =
    let front : List ℕ → List ℕ = λ l. a ∷ (b ∷ (c ∷ l)) in
    let tail = bind_some (read_tail t) h in
    let law = tail_takes t tail.0 tail.1 in
    subst (MarkerCut (front t)) (same_Some _ _ tail.2)
    (ap front law.0, record { marker = subst (λ (s : List ℕ). is_marker (front s) ≡ true) law.0 is; long = omega arith; tail = law.1 })
marker_takes _ x is h = absurd (false≢true is)

pub marker_again : (p rest : List ℕ) → IsMarkerLine p rest → (marker_at (p ++ rest) ≡ Some (p, rest)) × (length rest < length (p ++ rest))
unfolding marker_at
marker_again p rest h1 = search (rules, tail_again, suffix_le)

marker_shorter : (t : List ℕ) (x : List ℕ × List ℕ) → is_marker t ≡ true → marker_at t ≡ Some x → length x.1 < length t
marker_shorter t x is h =
    let l = marker_takes t x is h in
    rw l.0 (marker_again x.0 x.1 l.1).1

pub marker_ends : (t : List ℕ) → is_marker t ≡ true → (is_empty t ≡ false) × (ends_part t ≡ true)
marker_ends t h = search (rules, false≢true)

pub ends_marker : (t : List ℕ) → ends_part t ≡ true → is_empty t ≡ false → is_marker t ≡ true
ends_marker t h some = search (rules, false≢true)

rows_le : (rs : List Row) (limit : Limit) (end rest : List ℕ) → AreRows limit rs end rest → length (end ++ rest) ≤ length (rows_text rs (end ++ rest))
rows_le [] limit end rest h = omega arith
rows_le (r ∷ rs) limit end rest h = search (rules, row_longer, suffix_le, rows_le rs (limit_after r) end rest h.1)

pub part_longer : (started : Bool) (p : Part) (rest : List ℕ) → IsPart started p rest → length rest ≤ length (part_text p rest)
part_longer started p rest h = let less = rows_le p.rows unlimited p.end rest h.rows in omega (arith, suffix_le p.end rest)

pub part_le : (started : Bool) (t : List ℕ) (x : Part × List ℕ) → read_cut_part started t ≡ Some x → length x.1 ≤ length t
part_le started t x h =
    let l = part_takes started t x h in rw l.text (part_longer started x.0 x.1 l.part)

-- how many parts are allowed makes no difference
abbrev then_cut : Part → List ℕ → Option Cut → Option Cut
then_cut part marker read = read >>= λ parts. Some (marked part marker parts)

abbrev parts_by : ℕ → Part × List ℕ → Option Cut
parts_by n part = cond (is_empty part.1) (Some (last part.0)) (marker_at part.1 >>= λ marker. then_cut part.0 marker.0 (parts_at n (begins_document marker.0) marker.1))

cond_alike : {A : Type 0} (b : Bool) (x y z : A) → (b ≡ false → y ≡ z) → cond b x y ≡ cond b x z
cond_alike b x y z h = search rules

-- a part and those after its marker, read in two ways that agree there
marked_same : (f g : List ℕ × List ℕ → Option Cut) (part : Part × List ℕ) → ends_part part.1 ≡ true
    → ((marker : List ℕ × List ℕ) → length marker.1 < length part.1 → f marker ≡ g marker)
    → cond (is_empty part.1) (Some (last part.0)) (marker_at part.1 >>= λ marker. then_cut part.0 marker.0 (f marker))
    ≡ cond (is_empty part.1) (Some (last part.0)) (marker_at part.1 >>= λ marker. then_cut part.0 marker.0 (g marker))
marked_same f g part ends h = search (rules, cond_alike, bind_same, marker_shorter, ends_marker)

marked_fuel : (n m : ℕ) (part : Part × List ℕ) → ends_part part.1 ≡ true →
    ((marker : List ℕ × List ℕ) → length marker.1 < length part.1 →
    parts_at n (begins_document marker.0) marker.1 ≡ parts_at m (begins_document marker.0) marker.1) → parts_by n part ≡ parts_by m part
marked_fuel n m part ends h = search (rules, cases_Bool, bind_same, marker_shorter, ends_marker)

parts_fuel : (n m : ℕ) (started : Bool) (t : List ℕ) → length t < n → length t < m → parts_at n started t ≡ parts_at m started t
unfolding parts_at
parts_fuel (suc n) (suc m) started t a b =
    bind_same (parts_by n) (parts_by m) (read_cut_part started t) (λ part e.
    let less = part_le started t part e in
    marked_fuel n m part (part_takes started t part e).ends (λ marker short. parts_fuel n m (begins_document marker.0) marker.1 (omega arith) (omega arith)))
parts_fuel _ _ started t a b = absurd (omega arith)

-- a part and those after it
abbrev pub parts_after : Part × List ℕ → Option Cut
parts_after part = cond (is_empty part.1) (Some (last part.0)) (marker_at part.1 >>= λ marker. then_cut part.0 marker.0 (all_parts (begins_document marker.0) marker.1))

marked_all : (n : ℕ) (part : Part × List ℕ) → ends_part part.1 ≡ true → length part.1 ≤ n → parts_by n part ≡ parts_after part
marked_all n part ends h =
    marked_same (λ marker. parts_at n (begins_document marker.0) marker.1) (λ marker. all_parts (begins_document marker.0) marker.1) part ends
    (λ marker short. parts_fuel n (suc (length marker.1)) (begins_document marker.0) marker.1 (omega (arith, short, h)) (omega arith))

pub parts_step : (started : Bool) (t : List ℕ) → all_parts started t ≡ (read_cut_part started t >>= parts_after)
unfolding parts_at
parts_step started t =
    bind_same (parts_by (length t)) parts_after (read_cut_part started t) (λ part e. marked_all (length t) part (part_takes started t part e).ends (part_le started t part e))

pub parts_refused : (started : Bool) (t : List ℕ) → read_cut_part started t ≡ None → all_parts started t ≡ None
parts_refused started t h = parts_step started t ∙ ap (λ o. o >>= parts_after) h

pub parts_last : (started : Bool) (t : List ℕ) (part : Part × List ℕ) → read_cut_part started t ≡ Some part → is_empty part.1 ≡ true → all_parts started t ≡ Some (last part.0)
parts_last started t part h none = parts_step started t ∙ (ap (λ o. o >>= parts_after) h ∙ rw none refl)

pub parts_no_marker : (started : Bool) (t : List ℕ) (part : Part × List ℕ) → read_cut_part started t ≡ Some part → is_empty part.1 ≡ false → marker_at part.1 ≡ None → all_parts started t ≡ None
parts_no_marker started t part h some none = parts_step started t ∙ (ap (λ o. o >>= parts_after) h ∙ rw (some, none) refl)

pub parts_marked : (started : Bool) (t : List ℕ) (part : Part × List ℕ) (marker : List ℕ × List ℕ) → read_cut_part started t ≡ Some part → is_empty part.1 ≡ false → marker_at part.1 ≡ Some marker →
    all_parts started t ≡ (all_parts (begins_document marker.0) marker.1 >>= λ parts. Some (marked part.0 marker.0 parts))
parts_marked started t part marker h some is = parts_step started t ∙ (ap (λ o. o >>= parts_after) h ∙ rw (some, is) refl)

pub part_marker : (started : Bool) (t : List ℕ) (part : Part × List ℕ) → read_cut_part started t ≡ Some part → is_empty part.1 ≡ false → is_marker part.1 ≡ true
part_marker started t part h some = ends_marker part.1 (part_takes started t part h).ends some

pub parts_smaller : (started : Bool) (t : List ℕ) (part : Part × List ℕ) (marker : List ℕ × List ℕ) → read_cut_part started t ≡ Some part → is_empty part.1 ≡ false → marker_at part.1 ≡ Some marker → length marker.1 < length t
parts_smaller started t part marker h some is =
    let less = part_le started t part h in
    search (rules, marker_shorter, part_marker)
