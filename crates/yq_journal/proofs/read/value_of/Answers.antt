use Rattle.std.proofs.lemmas.Bool.{both_ways}
use Rattle.serde_json.specs.View.{view}
use Rattle.yq_journal.proofs.JsonLaws.{utf8_read, not_read}
use Rattle.yq_journal.proofs.read.value_of.Goals as goal

pub returns-in-Ok : goal.returns-in-Ok
returns-in-Ok c = utf8_read c.args.bytes.now (view c.in-Ok.value) c.in-Ok.ensures.ok.0 c.in-Ok.ensures.ok.1

pub returns-in-Err-2 : goal.returns-in-Err-2
returns-in-Err-2 c = not_read c.args.bytes.now (c.in-Err.ensures.err (λ m. both_ways c.is_memory.result c.if-is_memory.false (c.is_memory.ensures.1 m)))
