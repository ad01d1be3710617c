-- A scalar without an anchor after a mark, as the code lends it.
use Rattle.std.proofs.Common.{rules, ◌≡◌, ℕ, Bool, true, false, not, ◌&&◌, ◌||◌, eqb, List, [], Option, Some, None, refl, ℤ}
use Rattle.std.{proofs.lemmas.Bool.{false≢true, or_from}, proofs.lemmas.List.append-nil}
use Rattle.yq_core.{specs.Answers.◌>>=◌, specs.Piece.deeper, specs.Text.is_empty, specs.Inline.depth_limit}
use Rattle.yq_core.{specs.Nodes.{scalar, node_text, begins_node}, specs.Reading.{read_scalar, read_core, read_node, all_node}}
use Rattle.yq_core.specs.Scalars.{is_quoted, begins_scalar}
use Rattle.yq_row_table.{specs.Slicing.{begins_other, inline_sliced}, specs.Reading.{read_tail, inline_content_at}}

-- what begins here, by its first byte
pub other_node : (t : List ℕ) → begins_other t ≡ true → begins_node false t ≡ true
other_node t h = search (rules, false≢true)

-- none of the bytes before other nodes than scalars is in front
pub record Others (b : ℕ) : Type 0 where
  pub anchor : eqb b 38 ≡ false
  pub alias : eqb b 42 ≡ false
  pub sequence : eqb b 91 ≡ false
  pub mapping : eqb b 123 ≡ false

no_others : (b : ℕ) → (eqb b 38 || eqb b 42 || eqb b 91 || eqb b 123) ≡ false → Others b
no_others b h = search (rules, false≢true)

pub no_node : (t : List ℕ) → begins_other t ≡ false → begins_scalar false t ≡ false → begins_node false t ≡ false
no_node t h s = search (rules, no_others, or_from)

node_scalar : (spaces : Option ℕ) (d : ℕ) (t : List ℕ) → begins_other t ≡ false → begins_scalar false t ≡ true → all_node false spaces d t ≡ (read_scalar false spaces t >>= λ x. Some (scalar x.0, x.1))
unfolding read_node read_core
node_scalar spaces d t h s = search (rules, false≢true, no_others)

pub scalar_none : (n : ℤ) (space t : List ℕ) → begins_other t ≡ false → begins_scalar false t ≡ true → read_scalar false (Some (deeper n)) t ≡ None → inline_sliced n space t ≡ None
unfolding inline_content_at
scalar_none n space t h s e = rw (node_scalar (Some (deeper n)) depth_limit t h s) (rw e refl)

pub scalar_no_tail : (n : ℤ) (space t p after : List ℕ) → begins_other t ≡ false → begins_scalar false t ≡ true → read_scalar false (Some (deeper n)) t ≡ Some (p, after) → read_tail after ≡ None → inline_sliced n space t ≡ None
unfolding inline_content_at
scalar_no_tail n space t p after h s e f = rw (node_scalar (Some (deeper n)) depth_limit t h s) (rw e (rw f refl))

pub scalar_some : (n : ℤ) (space t p after tail rest : List ℕ) (plain alone : Bool) → begins_other t ≡ false → begins_scalar false t ≡ true → read_scalar false (Some (deeper n)) t ≡ Some (p, after) → read_tail after ≡ Some (tail, rest) →
    plain ≡ not (is_quoted p) → alone ≡ (is_empty space && true) →
    inline_sliced n space t ≡ Some (record { space = space; anchor = []; apart = []; head = p; tail = tail; raw = []; plain = plain; alone = alone; rest = rest })
unfolding inline_content_at node_text
scalar_some n space t p after tail rest plain alone h s e f plain_is alone_is = rw (node_scalar (Some (deeper n)) depth_limit t h s) (rw e (rw f (rw (append-nil p, plain_is, alone_is) refl)))
