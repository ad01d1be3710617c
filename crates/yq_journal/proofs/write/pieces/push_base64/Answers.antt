use Rattle.std.{proofs.Common.{refl, arith, rules}, proofs.lemmas.Result.{IfOk-equal, IfOk-weaker}}
use Rattle.base64.{specs.Engines.standard, proofs.EngineFacts.decode_of-encode_of}
use Rattle.yq_journal.proofs.BareLaws.{base64_escapes}
use Rattle.yq_journal.proofs.write.pieces.push_base64.Goals as goal

pub returns-clause-added : goal.returns-clause-added
returns-clause-added c = search (rules, IfOk-equal, base64_escapes, c.type_inv.bytes)

pub returns-clause-reads_back : goal.returns-clause-reads_back
returns-clause-reads_back c = IfOk-weaker _ _ _ (λ _ _. decode_of-encode_of standard c.args.bytes.now refl (λ i. let f = c.type_inv.bytes i in omega arith)) c.encode_string.ensures.ok
