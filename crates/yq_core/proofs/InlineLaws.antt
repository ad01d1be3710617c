-- The inline node at an offset, read and spelled.
use Rattle.std.proofs.Common.{◌≡◌, ℕ, ◌-◌, not, List, length, drop, Some, subst, ℤ, Result, IfOk, rules}
use Rattle.std.proofs.lemmas.Option.{cond_some, same_Some}
use Rattle.yq_core.{specs.Answers.{ReadError, Gives}, specs.declared.style.Place.Place, specs.Piece.further_spaces, specs.Writable.in_flow}
use Rattle.yq_core.{proofs.Bools.bind_some, specs.Inline.{depth_limit, IsInlineAt, inline_at}, specs.Places.{Placed, bare_placed}}
use Rattle.yq_core.{specs.PlacedReading.placed_node, specs.Reading.all_node, proofs.NodeLaws.{all_takes, all_again}}
use Rattle.yq_core.proofs.Steps.{bare_locate}

pub inline_takes : (place : Place) (n : ℤ) (depth at : ℕ) (text : List ℕ) (p : Placed) → inline_at place n depth at text ≡ Some p → IsInlineAt place n depth at text p
inline_takes place n depth at text p h =
    let flow = in_flow place in
    let spaces = further_spaces place n in
    let d = depth_limit - depth in
    let x = bind_some (placed_node flow spaces (length text) d (drop at text)) h in
    let y = bind_some (all_node flow spaces d (drop at text)) x.1 in
    let g = cond_some (not (bare_placed x.0.0)) _ _ x.2 in
    let a = all_takes flow spaces d (drop at text) y.0 y.1 in
    search (rules, same_Some, bare_locate, y, a, g)

pub inline_again : (place : Place) (n : ℤ) (depth at : ℕ) (text : List ℕ) (p : Placed) → IsInlineAt place n depth at text p → inline_at place n depth at text ≡ Some p
inline_again place n depth at text p h = search (rules, all_again, bare_locate)

pub found_by : {X : Type 0} (v : X → Placed) (place : Place) (n : ℤ) (depth at : ℕ) (text : List ℕ) (r : Result X ReadError) → Gives v r (inline_at place n depth at text) → IfOk r (λ x. IsInlineAt place n depth at text (v x))
found_by v place n depth at text r h = search (rules, inline_takes)

pub only_by : {X : Type 0} (v : X → Placed) (place : Place) (n : ℤ) (depth at : ℕ) (text : List ℕ) (r : Result X ReadError) →
    Gives v r (inline_at place n depth at text) → (p : Placed) → IsInlineAt place n depth at text p → Gives v r (Some p)
only_by v place n depth at text r h p a = subst (Gives v r) (inline_again place n depth at text p a) h

-- what is read is what is there, and nothing else
pub ruleset inline_laws = (found_by, only_by)
