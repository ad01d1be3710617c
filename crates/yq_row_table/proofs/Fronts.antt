-- What is in front of a node, of a tail and of a marker.
use Rattle.std.proofs.Common.{◌≡◌, ℕ, true, false, ◌||◌, eqb, List, ◌∷◌, ◌++◌, refl, ap, ◌∙◌, ⊎_elim, eqb-true, rules}
use Rattle.std.proofs.lemmas.Bool.{false≢true, or_cases, false_from_ne_true, and_parts, cases_Bool}
use Rattle.yq_core.{specs.Text.{cut, is_feed, front, is_break, ends_line, no_white, no_space, separates, is_empty}, specs.Lines.is_hash}
use Rattle.yq_core.{specs.Nodes.{begins_with, begins_node}, specs.Scalars.begins_scalar, proofs.NodesPieceLaws.front_not}
use Rattle.yq_row_table.{specs.Gap.IsWhite, specs.Grammar.IsTail, specs.Reading.{is_colon, is_dash}}
use Rattle.yq_row_table.proofs.LineEnds.{following_line_end, white_again}

-- A text that begins with none of white space, a break, the end and `#`.
pub record Starts (t : List ℕ) : Type 0 where
  pub no_white : no_white t ≡ true
  pub no_end : ends_line t ≡ false
  pub no_hash : is_hash t ≡ false
  pub no_space : no_space t ≡ true
  pub some : is_empty t ≡ false
  pub joined : separates t ≡ false

pub starts_by : (b : ℕ) (bs : List ℕ) → eqb b 32 ≡ false → eqb b 9 ≡ false → is_break (b ∷ bs) ≡ false → eqb b 35 ≡ false → Starts (b ∷ bs)
starts_by b bs space tab break hash = search rules

-- what begins with a CR and is a node begins with no break
return_no_break : (bs : List ℕ) → begins_node false (13 ∷ bs) ≡ true → front is_feed bs ≡ false
return_no_break bs h = search (rules, ⊎_elim, false≢true, cases_Bool)

pub node_starts : (t : List ℕ) → begins_node false t ≡ true → Starts t
node_starts t h1 = search (rules, false≢true, front_not, starts_by, false_from_ne_true, ⊎_elim, and_parts, eqb-true, return_no_break, or_cases)

-- A text that begins with a break, the end or `#`.
pub record Stops (t : List ℕ) : Type 0 where
  pub no_node : begins_node false t ≡ false
  pub no_block : front (λ b. eqb b 124 || eqb b 62) t ≡ false
  pub no_anchor : begins_with 38 t ≡ false
  pub no_colon : is_colon t ≡ false
  pub no_dash : is_dash t ≡ false
  pub no_scalar : begins_scalar false t ≡ false
  pub no_space : no_space t ≡ true

return_stops : (bs : List ℕ) → front is_feed bs ≡ true → Stops (13 ∷ bs)
return_stops bs h = record { no_node = rw h refl; no_block = refl; no_anchor = refl; no_colon = refl; no_dash = refl; no_scalar = rw h refl; no_space = refl }

pub stops_by : (t : List ℕ) → (ends_line t || is_hash t) ≡ true → Stops t
stops_by t h1 = search (rules, ⊎_elim, eqb-true, and_parts, return_stops, or_cases)

-- A tail, by its white space and what comes after it.
pub record TailFront (t : List ℕ) : Type 0 where
  pub white : List ℕ
  pub after : List ℕ
  pub is : t ≡ white ++ after
  pub blank : IsWhite white
  pub past : cut no_white t ≡ (white, after)
  pub stops : Stops after

pub tail_front : (tail rest : List ℕ) → IsTail tail rest → TailFront (tail ++ rest)
tail_front tail rest h =
    let u = following_line_end h.white h.comment tail rest h.line in
    record { white = h.white; after = u.0; is = u.1; blank = h.line.blank; past = ap (cut no_white) u.1 ∙ white_again h.white u.0 h.line.blank u.2; stops = stops_by u.0 u.3 }
