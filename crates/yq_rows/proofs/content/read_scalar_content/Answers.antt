use Rattle.std.{proofs.Common.{◌≡◌, Some, arith, w64, sym, ap, ◌∙◌, not}, proofs.lemmas.Int.to_z-of_z}
use Rattle.yq_core.{specs.Piece.deeper, specs.Scalars.is_quoted}
use Rattle.yq_row_table.proofs.ScalarSlicing.{scalar_none, scalar_no_tail, scalar_some}
use Rattle.yq_rows.proofs.content.read_scalar_content.Goals.{in-Some-no_further_line, in-None-no_further_line}
use Rattle.yq_rows.proofs.content.read_scalar_content.Goals as goal

pub returns-in-Err-clause-read : goal.returns-in-Err-clause-read
returns-in-Err-clause-read c =
    let spaces : c.further_spaces-spaces.result ≡ Some (deeper c.args.parent) = rw (to_z-of_z w64 c.args.parent c.ranges.parent) at c.further_spaces-spaces.ensures in
    scalar_none c.args.parent c.args.space.now c.args.text.now c.requires.0 c.requires.1 (rw spaces at c.in-Err.ensures.read)

pub returns-in-Some-clause-read : goal.returns-in-Some-clause-read
returns-in-Some-clause-read c =
    let spaces : c.further_spaces-spaces.result ≡ Some (deeper c.args.parent) = rw (to_z-of_z w64 c.args.parent c.ranges.parent) at c.further_spaces-spaces.ensures in
    scalar_some c.args.parent c.args.space.now c.args.text.now c.in-Ok.found.0.now c.in-Ok.found.1.now c.in-Some.tail.now c.in-Some.rest.now _
    c.may_be_alone.result c.requires.0 c.requires.1 (rw spaces at c.in-Ok.ensures.read) (sym c.in-Some.ensures)
    (ap not (c.is_quoted.ensures ∙ ap is_quoted c.as_bytes.ensures.value)) c.may_be_alone.ensures

pub returns-after-no_further_line-clause-read : goal.returns-after-no_further_line-clause-read
returns-after-no_further_line-clause-read c =
    let spaces : c.further_spaces-spaces.result ≡ Some (deeper c.args.parent) = rw (to_z-of_z w64 c.args.parent c.ranges.parent) at c.further_spaces-spaces.ensures in
    scalar_no_tail c.args.parent c.args.space.now c.args.text.now c.in-Ok.found.0.now c.in-Ok.found.1.now c.requires.0 c.requires.1 (rw spaces at c.in-Ok.ensures.read) (sym c.in-None.ensures)

pub returns-after-no_further_line-clause-known : goal.returns-after-no_further_line-clause-known
returns-after-no_further_line-clause-known c = elim c.match-no_further_line.branch [
  | in-Some-no_further_line w ↦ rw w.result-is (λ is. w.in-Some-no_further_line.ensures (sym w.fault.ensures.kind ∙ is))
  | in-None-no_further_line w ↦ rw w.result-is (λ is. w.no_tail.ensures (sym w.fault-in-None-no_further_line.ensures.kind ∙ is))
]

pub returns-in-Some-clause-known : goal.returns-in-Some-clause-known
returns-in-Some-clause-known c = λ more. absurd (omega (arith, more))
