use Rattle.std.{proofs.Common.{◌≡◌, ◌+◌, ◌*◌, ◌^◌, ◌-◌, ◌<◌, length, Some}, specs.String.string_bytes}
use Rattle.yq_documents.specs.Reading.{documents_of}
use Rattle.yq_semantics.{specs.Program.{Update, update_at}, specs.View.program_of}
use Rattle.yq_splice.proofs.PartLaws.{IsUnderWay}
use Rattle.yq_splice.proofs.in_parts.carry_parts.Given as goal

abbrev pub invariant-parts : goal.invariant-parts
invariant-parts l = record {
  count : l.count ≡ length (documents_of l.documents);
  small : l.place < 2 ^ 64;
  carried : (u : Update) → update_at l.nth (program_of l.program) ≡ Some u → IsUnderWay u l.documents l.fn.splices.items l.doc l.place (string_bytes l.done.text) l.done.splices.items;
}

abbrev pub decreases-parts : goal.decreases-parts
decreases-parts l = l.count * 2 ^ 64 - (l.doc * 2 ^ 64 + l.place)
