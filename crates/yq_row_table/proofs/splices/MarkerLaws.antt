-- Rows after the last marker of a text, which has no break.
use Rattle.std.proofs.Common.{rules, ◌≡◌, ℕ, Bool, true, false, List, [], ◌∷◌, ◌++◌, refl, sym, ap, ◌∙◌, subst, ⊎_elim, arith, append-nil}
use Rattle.std.{proofs.Common.Some, proofs.lemmas.Bool.{false≢true, and_parts}}
use Rattle.yq_core.{specs.Characters.pairs_returns, specs.Text.{is_empty, is_feed, is_space, is_line}, specs.Alike.{Alike, byte, after}}
use Rattle.yq_core.proofs.Alikes.{alike_marker}
use Rattle.yq_row_table.specs.Grammar.{IsPart, IsMarkerLine, begins_document, AreParts, IsCut}
use Rattle.yq_row_table.specs.Rows.{Part, part_text, Cut, last, marked, cut_text}
use Rattle.yq_row_table.{specs.Appending.{is_one_break, last_marker, with_last_part, PartFits}, specs.Splices.CutsItsText}
use Rattle.yq_row_table.{proofs.AlikeRows.{part_alike, part_text_alike}, proofs.CharacterLaws.pairs_back}
use Rattle.yq_row_table.{proofs.ExchangeLaws.{CutExchanged, marked_after}, proofs.NothingLaws.tail_apart, proofs.PlaceLaws.part_then}
use Rattle.yq_row_table.{proofs.seams.SeamLaws.tail_line, proofs.seams.MarkerSeams.{three_lines, marker_byte}}
use Rattle.yq_row_table.{proofs.seams.TailLaws.tail_closed, proofs.ItemCuts.no_marker}

abbrev MarkerClosed : List ℕ → List ℕ → List ℕ → Type 0
MarkerClosed p break u = IsMarkerLine (p ++ break) u × Alike (Some false) (p ++ []) ((p ++ break) ++ u)

three_closed : (a b c : ℕ) (p break u : List ℕ) → is_feed a ≡ false → is_feed b ≡ false → is_feed c ≡ false →
    ((r : List ℕ) → is_space (c ∷ r) ≡ false) → IsMarkerLine (a ∷ (b ∷ (c ∷ p))) [] → is_line (a ∷ (b ∷ (c ∷ p))) ≡ false →
    is_one_break break ≡ true →
    pairs_returns (a ∷ (b ∷ (c ∷ p))) ≡ true → MarkerClosed (a ∷ (b ∷ (c ∷ p))) break u
three_closed a b c p break u x y z black h bare is pairs =
    let none : is_line p ≡ false = sym (three_lines a b c p x y z) ∙ bare in
    let tail = tail_closed p break u is none (pairs_back (a ∷ (b ∷ (c ∷ []))) p pairs) h.tail in
    let alike : Alike (Some false) (a ∷ (b ∷ (c ∷ (p ++ [])))) (a ∷ (b ∷ (c ∷ ((p ++ break) ++ u)))) = after (after (byte (black (p ++ [])) (black ((p ++ break) ++ u)) (tail_apart p [] h.tail) (tail_apart (p ++ break) u tail))) in
    (record { marker = sym (alike_marker (Some false) (a ∷ (b ∷ (c ∷ (p ++ [])))) (a ∷ (b ∷ (c ∷ ((p ++ break) ++ u)))) alike) ∙ h.marker; long = omega arith; tail = tail }, alike)

pub marker_closed : (p break u : List ℕ) → IsMarkerLine p [] → is_line p ≡ false → is_one_break break ≡ true → pairs_returns p ≡ true → MarkerClosed p break u
marker_closed (a ∷ (b ∷ (c ∷ p))) break u h bare is pairs = ⊎_elim {0, 0, 0}
    (λ e. three_closed a b c p break u (rw e.0 refl) (rw e.1 refl) (rw e.2 refl) (λ r. rw e.2 refl) h bare is pairs)
    (λ e. three_closed a b c p break u (rw e.0 refl) (rw e.1 refl) (rw e.2 refl) (λ r. rw e.2 refl) h bare is pairs)
    (marker_byte a b c (p ++ []) h.marker)
marker_closed _ break u h bare is pairs = absurd (let l = h.long in omega (arith, l))

-- after a marker without a break is nothing
marker_end : (p t : List ℕ) → IsMarkerLine p t → is_line p ≡ false → t ≡ []
marker_end (a ∷ (b ∷ (c ∷ p))) t h bare = ⊎_elim {0, 0, 0}
    (λ line. absurd (false≢true (sym bare ∙ ⊎_elim {0, 0, 0}
    (λ e. three_lines a b c p (rw e.0 refl) (rw e.1 refl) (rw e.2 refl) ∙ line)
    (λ e. three_lines a b c p (rw e.0 refl) (rw e.1 refl) (rw e.2 refl) ∙ line)
    (marker_byte a b c (p ++ t) h.marker))))
    (λ e. e)
    (tail_line p t h.tail)
marker_end _ t h bare = absurd (let l = h.long in omega (arith, l))

begins_same : (p break : List ℕ) → is_empty p ≡ false → begins_document (p ++ break) ≡ begins_document p
begins_same p break h = search (rules, false≢true)

-- cuts
one_closed : (started : Bool) (p : Part) (marker : List ℕ) (q new : Part) (break : List ℕ) → AreParts started (marked p marker (last q)) →
    is_line marker ≡ false → is_one_break break ≡ true → pairs_returns (cut_text (marked p marker (last q))) ≡ true →
    IsPart (begins_document marker) new [] → CutExchanged started (marked p marker (last q)) (marked p (marker ++ break) (last new))
one_closed started p marker q new break h bare is pairs n =
    let u : List ℕ = part_text new [] in
    let none : part_text q [] ≡ [] = marker_end marker (part_text q []) h.1 bare in
    let line : IsMarkerLine marker [] = subst (IsMarkerLine marker) none h.1 in
    let texts : cut_text (marked p marker (last q)) ≡ part_text p [] ++ marker =
    ap (λ (x : List ℕ). part_text p (marker ++ x)) none ∙ (ap (part_text p) (append-nil marker) ∙ part_then p [] marker) in
    let own : pairs_returns marker ≡ true = pairs_back (part_text p []) marker (ap pairs_returns (sym texts) ∙ pairs) in
    let closed = marker_closed marker break u line bare is own in
    search (rules, begins_same, no_marker, part_alike, part_text_alike)

parts_closed : (c : Cut) (started : Bool) (p : Part) (marker : List ℕ) (new : Part) (break : List ℕ) → AreParts started (marked p marker c) →
    is_line (last_marker (marked p marker c)) ≡ false → is_one_break break ≡ true → pairs_returns (cut_text (marked p marker c)) ≡ true →
    IsPart (begins_document (last_marker (marked p marker c))) new [] → CutExchanged started (marked p marker c) (with_last_part break new (marked p marker c))
parts_closed (last q) started p marker new break h bare is pairs n = one_closed started p marker q new break h bare is pairs n
parts_closed (marked q other c) started p marker new break h bare is pairs n =
    let d : Cut = marked q other c in
    let more : pairs_returns (cut_text d) ≡ true = pairs_back marker (cut_text d) (pairs_back (part_text p []) (marker ++ cut_text d) (ap pairs_returns (sym (part_then p [] (marker ++ cut_text d))) ∙ pairs)) in
    marked_after started p marker d (with_last_part break new d) h (parts_closed c (begins_document marker) q other new break h.2 bare is more n)

pub marker_appended : (t : List ℕ) (c : Cut) (break : List ℕ) (new : Part) → IsCut t c → PartFits break new c → CutsItsText (with_last_part break new c)
marker_appended t (last p) break new h f = absurd (false≢true (sym f.some))
marker_appended t (marked p marker c) break new h f = search (rules, and_parts, parts_closed)
