use Rattle.std.{proofs.Common.{◌≡◌, Some, List, ℕ, Bool, rules, sym, ap, ◌∙◌, not, ◌&&◌, w64}, proofs.lemmas.Int.to_z-of_z}
use Rattle.yq_core.{specs.Piece.deeper, specs.Text.is_empty}
use Rattle.yq_row_table.{proofs.InlineSlicing.{lead_here, head_within, head_boundary, inline_some, inline_no_tail}, specs.Slicing.cut_lead}
use Rattle.yq_rows.{proofs.KnownHeads.head_known, proofs.MeasuredSlicing.{known, none_known}}
use Rattle.yq_rows.proofs.content.read_inline_content.Goals.{in-Some-no_further_line, in-None-no_further_line}
use Rattle.yq_rows.proofs.content.read_inline_content.Goals as goal

pub returns-in-Err-clause-read : goal.returns-in-Err-clause-read
returns-in-Err-clause-read c =
    let spaces : c.further_spaces-spaces.result ≡ Some (deeper c.args.parent) = rw (to_z-of_z w64 c.args.parent c.ranges.parent) at c.further_spaces-spaces.ensures in
    none_known c.args.parent c.further_spaces-spaces.result c.args.space.now c.args.text.now spaces c.in-Err.ensures.read

pub overflow_sub-rest : goal.overflow_sub-rest
overflow_sub-rest c =
    let spaces : c.further_spaces-spaces.result ≡ Some (deeper c.args.parent) = rw (to_z-of_z w64 c.args.parent c.ranges.parent) at c.further_spaces-spaces.ensures in
    let k = known c.args.parent c.further_spaces-spaces.result c.args.text.now c.in-Ok.found.node.rest.now c.in-Ok.found.node.anchored c.in-Ok.found.node.kind spaces c.in-Ok.ensures.read in
    let lead = lead_here c.args.text.now _ _ _ _ _ k.node c.split_anchor.ensures (c.is_nothing-nothing.ensures ∙ k.nothing_is) c.split_lead.ensures in
    head_within (Some (deeper c.args.parent)) c.args.text.now c.in-Ok.found.node.rest.now c.split_lead.result.1.now k.node k.read (ap (λ (y : List ℕ × List ℕ). y.1) lead)

pub split_at-requires : goal.split_at-requires
split_at-requires c =
    let spaces : c.further_spaces-spaces.result ≡ Some (deeper c.args.parent) = rw (to_z-of_z w64 c.args.parent c.ranges.parent) at c.further_spaces-spaces.ensures in
    let k = known c.args.parent c.further_spaces-spaces.result c.args.text.now c.in-Ok.found.node.rest.now c.in-Ok.found.node.anchored c.in-Ok.found.node.kind spaces c.in-Ok.ensures.read in
    let lead = lead_here c.args.text.now _ _ _ _ _ k.node c.split_anchor.ensures (c.is_nothing-nothing.ensures ∙ k.nothing_is) c.split_lead.ensures in
    head_boundary (Some (deeper c.args.parent)) c.args.text.now c.in-Ok.found.node.rest.now c.split_lead.result.1.now k.node k.read (ap (λ (y : List ℕ × List ℕ). y.1) lead) (search rules)

pub returns-in-Some-clause-read : goal.returns-in-Some-clause-read
returns-in-Some-clause-read c =
    let spaces : c.further_spaces-spaces.result ≡ Some (deeper c.args.parent) = rw (to_z-of_z w64 c.args.parent c.ranges.parent) at c.further_spaces-spaces.ensures in
    let k = known c.args.parent c.further_spaces-spaces.result c.args.text.now c.in-Ok.found.node.rest.now c.in-Ok.found.node.anchored c.in-Ok.found.node.kind spaces c.in-Ok.ensures.read in
    let nothing = c.is_nothing-nothing.ensures ∙ k.nothing_is in
    let lead = lead_here c.args.text.now _ _ _ _ _ k.node c.split_anchor.ensures nothing c.split_lead.ensures in
    rw c.split_at.ensures.front
    (inline_some c.args.parent c.args.space.now c.args.text.now _ _ _ c.split_lead.result.1.now c.in-Ok.found.node.rest.now c.in-Some.tail.now
    c.in-Some.rest.now k.node c.may_be_alone.result c.is_plain.result k.read c.split_anchor.ensures lead (sym c.in-Some.ensures)
    (c.is_plain.ensures ∙ k.plain_is)
    (c.may_be_alone.ensures ∙ ap (λ (b : Bool). is_empty c.args.space.now && not b) nothing))

pub returns-in-Some-clause-known : goal.returns-in-Some-clause-known
returns-in-Some-clause-known c =
    head_known c.in-Ok.found.depth c.args.text.now c.in-Ok.found.node.rest.now c.split_lead.result.1.now c.split_at.result.0.now c.is_nothing-nothing.result c.in-Ok.ensures.passed
    (ap (λ (y : List ℕ × List ℕ). y.1) c.split_lead.ensures ∙ ap (λ (y : List ℕ × List ℕ). (cut_lead c.is_nothing-nothing.result y.1).1) c.split_anchor.ensures)
    c.split_at.ensures.front

pub returns-after-no_further_line-clause-read : goal.returns-after-no_further_line-clause-read
returns-after-no_further_line-clause-read c =
    let spaces : c.further_spaces-spaces.result ≡ Some (deeper c.args.parent) = rw (to_z-of_z w64 c.args.parent c.ranges.parent) at c.further_spaces-spaces.ensures in
    let k = known c.args.parent c.further_spaces-spaces.result c.args.text.now c.in-Ok.found.node.rest.now c.in-Ok.found.node.anchored c.in-Ok.found.node.kind spaces c.in-Ok.ensures.read in
    inline_no_tail c.args.parent c.args.space.now c.args.text.now c.in-Ok.found.node.rest.now k.node k.read (sym c.in-None.ensures)

pub returns-after-no_further_line-clause-known : goal.returns-after-no_further_line-clause-known
returns-after-no_further_line-clause-known c = elim c.match-no_further_line.branch [
  | in-Some-no_further_line w ↦ rw w.result-is (λ is. w.in-Some-no_further_line.ensures (sym w.fault.ensures.kind ∙ is))
  | in-None-no_further_line w ↦ rw w.result-is (λ is. w.no_tail.ensures (sym w.fault-in-None-no_further_line.ensures.kind ∙ is))
]
