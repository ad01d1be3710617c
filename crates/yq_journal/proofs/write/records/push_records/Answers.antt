use Rattle.std.{proofs.Common.{arith, true}, specs.String.string_bytes}
use Rattle.yq_journal.{specs.Json.{record_data, record_of}, proofs.AddedLaws.{so_far_ends, so_far_more}}
use Rattle.yq_journal.proofs.write.records.push_records.Goals as goal

pub records-preserved : goal.records-preserved
records-preserved c =
    so_far_more record_data (record_of true) c.args.records.now c.records.patch-index c.patch-item.result c.records.later (string_bytes c.args.text.now) (string_bytes c.records.text) _ _
    (omega arith) c.patch-item.is c.records.invariant c.in_ok-push_comma.ensures c.in_ok-push_record.ensures

pub returns : goal.returns
returns c =
    so_far_ends record_data (record_of true) c.args.records.now c.records.patch-index c.records.later (string_bytes c.args.text.now) (string_bytes c.records.text) _
    (omega arith) c.records.invariant c.in_ok-push_str-2.ensures.bytes
