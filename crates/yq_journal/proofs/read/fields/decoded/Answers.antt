use Rattle.std.proofs.Common.{refl, sym, ◌∙◌}
use Rattle.base64.{specs.Engines.standard, proofs.EngineFacts.decode_of-encode_of}
use Rattle.yq_journal.proofs.BareLaws.{base64_escapes}
use Rattle.yq_journal.proofs.read.fields.decoded.Goals as goal

pub invariant_of-decode-2 : goal.invariant_of-decode-2
invariant_of-decode-2 c = record { tables = refl }

pub returns-in-Ok-clause-exact : goal.returns-in-Ok-clause-exact
returns-in-Ok-clause-exact c = c.in-Ok.ensures.exact (refl, refl) ∙ sym (base64_escapes _ c.in-Ok.ensures.bytes)

pub returns-in-Ok-clause-reads_back : goal.returns-in-Ok-clause-reads_back
returns-in-Ok-clause-reads_back c = decode_of-encode_of standard _ refl c.in-Ok.ensures.bytes
