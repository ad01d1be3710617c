use Rattle.std.proofs.Common.{List, ℕ, subst}
use Rattle.yq_documents.specs.Reading.{cut_of}
use Rattle.yq_lookup.specs.Knowledge.{KnowledgeStays}
use Rattle.yq_operation.proofs.operation.change_one.Goals as goal

pub returns-in-Ok-clause-known : goal.returns-in-Ok-clause-known
returns-in-Ok-clause-known c = subst (λ (x : List ℕ). KnowledgeStays c.in-Ok.changed.front (cut_of x) c.known_before.result) c.go_on.ensures c.known_before.ensures.known
