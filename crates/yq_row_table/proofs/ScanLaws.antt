-- A whole text, cut into its rows and markers and read again.
use Rattle.std.proofs.Common.{◌≡◌, ℕ, zero, suc, ◌<◌, Bool, true, false, ◌&&◌, leb, List, [], ◌++◌, length, Option, Some, Result, Ok, Err}
use Rattle.std.{proofs.Common.{IfOk, refl, sym, ⊎_elim, ◌∙◌, subst, arith, rules}, proofs.lemmas.Bool.{leb-true, le-leb, and_parts}}
use Rattle.std.proofs.lemmas.Option.{same_Some}
use Rattle.yq_core.{specs.Answers.{◌>>=◌, Gives, ReadError}, specs.Characters.is_text, specs.Text.is_empty}
use Rattle.yq_core.proofs.Bools.{bind_some, chosen, guard_then}
use Rattle.yq_text.specs.Limit.{text_limit}
use Rattle.yq_row_table.specs.Grammar.{begins_document, IsPart, IsMarkerLine, AreParts, IsCut}
use Rattle.yq_row_table.specs.Reading.{read_cut_part, marker_at, parts_at, scan_at}
use Rattle.yq_row_table.{specs.Rows.{Part, part_text, Cut, last, marked, cut_text}, specs.View.{RowsView, rows_view}}
use Rattle.yq_row_table.proofs.EmptyTexts.{empty_is}
use Rattle.yq_row_table.proofs.PartsLaws.{PartCut, part_takes, part_again, part_longer, marker_takes, marker_again, marker_ends}
use Rattle.yq_row_table.proofs.PartsLaws.{ends_marker}

-- parts
abbrev pub PartsCut : Bool → List ℕ → Cut → Type 0
PartsCut started t c = (t ≡ cut_text c) × AreParts started c

parts_last_cut : (started : Bool) (t : List ℕ) (part : Part × List ℕ) → PartCut started t part → is_empty part.1 ≡ true → PartsCut started t (last part.0)
parts_last_cut started t part p h4 = search (rules, empty_is)

parts_marked_cut : (started : Bool) (t : List ℕ) (part : Part × List ℕ) (marker : List ℕ × List ℕ) (c : Cut) → PartCut started t part →
    is_empty part.1 ≡ false → marker_at part.1 ≡ Some marker → PartsCut (begins_document marker.0) marker.1 c →
    PartsCut started t (marked part.0 marker.0 c)
parts_marked_cut started t part marker c p some h more =
    let m = marker_takes part.1 marker (ends_marker part.1 p.ends some) h in
    search rules

pub parts_take : (n : ℕ) (started : Bool) (t : List ℕ) (c : Cut) → parts_at n started t ≡ Some c → PartsCut started t c
unfolding parts_at
parts_take zero started t c h = cc
parts_take (suc n) started t c h =
    let part = bind_some (read_cut_part started t) h in
    let p = part_takes started t part.0 part.1 in
    ⊎_elim {0, 0, 0}
    (λ (e : (is_empty part.0.1 ≡ true) × (Some (last part.0.0) ≡ Some c)). subst (PartsCut started t) (same_Some _ _ e.1) (parts_last_cut started t part.0 p e.0))
    (λ e.
    let marker = bind_some (marker_at part.0.1) e.1 in
    let rest = bind_some (parts_at n (begins_document marker.0.0) marker.0.1) marker.2 in
    subst (PartsCut started t) (same_Some _ _ rest.2) (parts_marked_cut started t part.0 marker.0 rest.0 p e.0 marker.1 (parts_take n (begins_document marker.0.0) marker.0.1 rest.0 rest.1)))
    (chosen (is_empty part.0.1) part.2)

marker_more : (p : Part) (marker rest : List ℕ) (started : Bool) → IsPart started p (marker ++ rest) → IsMarkerLine marker rest → length rest < length (part_text p (marker ++ rest))
marker_more p marker rest started h m =
    let less = part_longer started p (marker ++ rest) h in
    let short = (marker_again marker rest m).1 in
    omega arith

pub parts_again : (c : Cut) (started : Bool) (n : ℕ) → AreParts started c → length (cut_text c) < n → parts_at n started (cut_text c) ≡ Some c
unfolding parts_at
parts_again c started zero h short = absurd (omega arith)
parts_again (last p) started (suc n) h short = rw (part_again started p [] h refl) refl
parts_again (marked p marker c) started (suc n) h short =
    let rest = cut_text c in
    let m = marker_ends (marker ++ rest) h.1.marker in
    let more = marker_more p marker rest started h.0 h.1 in
    rw (part_again started p (marker ++ rest) h.0 m.1) (rw (m.0, (marker_again marker rest h.1).0) (rw (parts_again c (begins_document marker) n h.2 (omega arith)) refl))

-- the cut of a whole text
pub scan_takes : (t : List ℕ) (c : Cut) → scan_at t ≡ Some c → IsCut t c
unfolding scan_at
scan_takes t c h =
    let g = guard_then (leb (length t) text_limit && is_text t) h in
    let tests = and_parts (leb (length t) text_limit) (is_text t) g.0 in
    let parts = parts_take (suc (length t)) true t c g.1 in
    record { text = parts.0; parts = parts.1; characters = tests.1; size = leb-true _ _ tests.0 }

pub scan_again : (t : List ℕ) (c : Cut) → IsCut t c → scan_at t ≡ Some c
unfolding scan_at
scan_again t c h = search (rules, le-leb, parts_again)

pub one_cut : (t : List ℕ) (c other : Cut) → IsCut t c → IsCut t other → c ≡ other
one_cut t c other a b = same_Some _ _ (sym (scan_again t c a) ∙ scan_again t other b)

pub found_by : {X : Type 0} (v : X → RowsView) (t : List ℕ) (r : Result X ReadError) → Gives v r (scan_at t >>= λ c. Some (rows_view c)) → IfOk r (λ x. (c : Cut) × IsCut t c × (v x ≡ rows_view c))
found_by v t (Ok x) h = let c = bind_some (scan_at t) h in (c.0, scan_takes t c.0 c.1, sym (same_Some _ _ c.2))
found_by v t (Err e) h = tt

pub only_by : {X : Type 0} (v : X → RowsView) (t : List ℕ) (r : Result X ReadError) → Gives v r (scan_at t >>= λ c. Some (rows_view c)) → (c : Cut) → IsCut t c → Gives v r (Some (rows_view c))
only_by v t r h c a = subst (λ (o : Option Cut). Gives v r (o >>= λ d. Some (rows_view d))) (scan_again t c a) h
