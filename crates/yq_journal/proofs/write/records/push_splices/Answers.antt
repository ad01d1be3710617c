use Rattle.std.{proofs.Common.arith, specs.String.string_bytes}
use Rattle.yq_journal.{specs.Json.{change_data, splice_of}, proofs.AddedLaws.{so_far_ends, so_far_more}}
use Rattle.yq_journal.proofs.write.records.push_splices.Goals as goal

pub splices-preserved : goal.splices-preserved
splices-preserved c =
    so_far_more change_data splice_of c.args.splices.now c.splices.splice-index c.splice-item.result c.splices.later (string_bytes c.args.text.now) (string_bytes c.splices.text) _ _
    (omega arith) c.splice-item.is c.splices.invariant c.in_ok-push_comma.ensures c.in_ok-push_splice.ensures

pub returns : goal.returns
returns c =
    so_far_ends change_data splice_of c.args.splices.now c.splices.splice-index c.splices.later (string_bytes c.args.text.now) (string_bytes c.splices.text) _
    (omega arith) c.splices.invariant c.in_ok-push_str-2.ensures.bytes
