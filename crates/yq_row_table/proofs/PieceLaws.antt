-- Keys and tails, read and spelled.
use Rattle.std.proofs.Common.{◌≡◌, ℕ, zero, suc, ◌+◌, Bool, true, false, cond, not, ◌&&◌, ◌||◌, leb, List, [], ◌∷◌, ◌++◌, length, take}
use Rattle.std.proofs.Common.{drop, Option, Some, None, refl, ap, ◌∙◌, subst, ⊎_elim, append_assoc, rules}
use Rattle.std.proofs.lemmas.Bool.{false≢true, or_cases, leb-true, le-leb, or_right, and_from, and_parts}
use Rattle.std.{proofs.lemmas.List.take-append-drop, proofs.Math.Seq.{take-append_seam, drop-append_seam}, proofs.lemmas.Option.cond_some}
use Rattle.std.specs.Str.{chars}
use Rattle.yq_core.{specs.Text.{cut, no_white, ends_line, separates, is_empty, cut_line}, proofs.Bools.bind_some, proofs.Upto.upto-append}
use Rattle.yq_core.{specs.Lines.is_hash, specs.Reading.read_scalar, specs.Scalars.IsScalarAt}
use Rattle.yq_core.{proofs.NodesPieceLaws.{scalar_takes, scalar_again}, specs.FitKeys.key_limit}
use Rattle.yq_row_table.{specs.Gap.IsWhite, specs.Grammar.{IsColon, IsKey, IsTail}, specs.Reading.{read_colon, read_row_key, read_tail}}
use Rattle.yq_row_table.proofs.LineEnds.{none_in_white, white_cut, white_again, line_end_takes, following_line_end, line_end_line}
use Rattle.yq_row_table.proofs.LineEnds.{line_again}

-- the `:` of a key
byte_at : (t r : List ℕ) (n b : ℕ) → drop n t ≡ b ∷ r → (take (suc n) t ≡ take n t ++ b ∷ []) × (drop (suc n) t ≡ r)
byte_at [] r zero b h = cc
byte_at [] r (suc n) b h = cc
byte_at (x ∷ t) r zero b h = (cc, cc)
byte_at (x ∷ t) r (suc n) b h = let again = byte_at t r n b h in (ap (λ l. x ∷ l) again.0, again.1)

colon_takes : (t : List ℕ) (x : List ℕ × List ℕ) → read_colon t ≡ Some x → (t ≡ x.0 ++ x.1) × IsColon x.0 x.1
unfolding read_colon
colon_takes t x h = search (rules, cond_some, false≢true, and_parts, byte_at, take-append-drop, white_cut)

colon_after : (w rest : List ℕ) → IsWhite w → separates rest ≡ true → read_colon (w ++ (58 ∷ rest)) ≡ Some (w ++ 58 ∷ [], rest)
unfolding read_colon
colon_after w rest blank sep = search (rules, upto-append, none_in_white, byte_at, drop-append_seam, take-append_seam)

-- a key, with its `:`
pub key_takes : (t : List ℕ) (x : List ℕ × List ℕ × List ℕ) → read_row_key t ≡ Some x → (t ≡ x.0 ++ (x.1 ++ x.2)) × IsKey x.0 x.1 x.2
unfolding read_row_key
key_takes t x h =
    let key = bind_some (read_scalar false None t) h in
    let colon = bind_some (read_colon key.0.1) key.2 in
    let near = cond_some (leb (length (chars key.0.0) + length (chars colon.0.0)) (key_limit + 1)) _ _ colon.2 in
    let key_law = scalar_takes false None t key.0 key.1 in
    let colon_law = colon_takes key.0.1 colon.0 colon.1 in
    subst (λ (y : List ℕ × List ℕ × List ℕ). (t ≡ y.0 ++ (y.1 ++ y.2)) × IsKey y.0 y.1 y.2) near.1
    (rw (← colon_law.0) key_law.0, record { scalar = subst (λ (s : List ℕ). IsScalarAt false None key.0.0 s) colon_law.0 key_law.1; colon_is = colon_law.1; near = leb-true _ _ near.0 })

pub key_again : (key colon rest : List ℕ) → IsKey key colon rest → read_row_key (key ++ (colon ++ rest)) ≡ Some (key, colon, rest)
unfolding read_row_key
key_again key colon rest h = search (rules, scalar_again, append_assoc, colon_after, le-leb)

-- a tail, by how the text is cut after its white space and after its line
abbrev ends_tail : List ℕ × List ℕ → Bool
ends_tail c = ends_line c.1 || (not (is_empty c.0) && is_hash c.1)

abbrev tail_from : List ℕ × List ℕ → List ℕ × List ℕ → Option (List ℕ × List ℕ)
tail_from c l = cond (ends_tail c) (Some l) None

tail_test : (w u : List ℕ) → ((ends_line u || is_hash u) ≡ true) → ((ends_line u || not (is_empty w)) ≡ true) → ends_tail (w, u) ≡ true
tail_test w u h apart = search (rules, ⊎_elim, or_right, and_from, or_cases)

pub tail_takes : (t : List ℕ) (x : List ℕ × List ℕ) → read_tail t ≡ Some x → (t ≡ x.0 ++ x.1) × IsTail x.0 x.1
unfolding read_tail
tail_takes t x h = search (rules, cond_some, take-append-drop, and_parts, or_right, or_cases, line_end_takes, white_cut)

pub tail_again : (p rest : List ℕ) → IsTail p rest → read_tail (p ++ rest) ≡ Some (p, rest)
unfolding read_tail
tail_again p rest h =
    let u = following_line_end h.white h.comment p rest h.line in
    let whites : cut no_white (p ++ rest) ≡ (h.white, u.0) = ap (cut no_white) u.1 ∙ white_again h.white u.0 h.line.blank u.2 in
    let line : cut_line (p ++ rest) ≡ (p, rest) = line_again p rest (line_end_line h.white h.comment p rest h.line) in
    let test : ends_tail (h.white, u.0) ≡ true = tail_test h.white u.0 u.3 (rw u.4 h.apart) in
    ap (λ c. tail_from c (cut_line (p ++ rest))) whites ∙ (ap (tail_from (h.white, u.0)) line ∙ rw test refl)
