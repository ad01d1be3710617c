-- Steps of the loop over parts.
use Rattle.std.proofs.Common.{rules, ◌≡◌, ℕ, ◌+◌, ◌≤◌, ◌<◌, ◌^◌, List, ◌∷◌, ◌++◌, length, drop, get_or, drop-cons, ap, arith, append_assoc}
use Rattle.std.proofs.lemmas.List.{length-append}
use Rattle.yq_history.specs.DiffParts.{new_part, new_parts, old_part, old_parts}
use Rattle.yq_history.{specs.DiffPrinting.{Open, open_after, print_ended, print_parts}, specs.declared.diff.part.Part.Part}

-- the next part of several
pub next_part : (ps : List Part) (i : ℕ) (p : Part) → i < length ps → drop i ps ≡ get_or ps i p ∷ drop (i + 1) ps
next_part ps i p within = search (rules, drop-cons)

-- where a hunk is after a part
pub old_after : (o : Open) (p : Part) → o.old_before ≤ o.old_at → (open_after o p).old_before ≤ (open_after o p).old_at
old_after o p h = search rules

-- what the next part has of what is left
pub old_room : (ps qs : List Part) (p : Part) (at all : ℕ) → ps ≡ p ∷ qs → at + length (old_parts ps) ≡ all → all < 2 ^ 64 → at + length (old_part p) < 2 ^ 64
old_room ps qs p at all is sum small = omega (arith, small, ap (λ x. length (old_parts x)) is, length-append (old_part p) (old_parts qs), sum)

pub new_room : (ps qs : List Part) (p : Part) (at all : ℕ) → ps ≡ p ∷ qs → at + length (new_parts ps) ≡ all → all < 2 ^ 64 → at + length (new_part p) < 2 ^ 64
new_room ps qs p at all is sum small = omega (arith, small, ap (λ x. length (new_parts x)) is, length-append (new_part p) (new_parts qs), sum)

pub old_sum : (o q : Open) (ps qs : List Part) (p : Part) (all : ℕ) → ps ≡ p ∷ qs → q ≡ open_after o p → o.old_at + length (old_parts ps) ≡ all → q.old_at + length (old_parts qs) ≡ all
old_sum o q ps qs p all is after sum = search (rules, length-append)

pub new_sum : (o q : Open) (ps qs : List Part) (p : Part) (all : ℕ) → ps ≡ p ∷ qs → q ≡ open_after o p → o.new_at + length (new_parts ps) ≡ all → q.new_at + length (new_parts qs) ≡ all
new_sum o q ps qs p all is after sum = search (rules, length-append)

-- what is printed, one part more
pub printed_step : (o q : Open) (ps qs : List Part) (p : Part) (out more all : List ℕ) → ps ≡ p ∷ qs → q ≡ open_after o p → more ≡ out ++ print_ended o p →
    out ++ print_parts o ps ≡ all → more ++ print_parts q qs ≡ all
printed_step o q ps qs p out more all is after ended so_far = search (rules, append_assoc, open_after)
