use Rattle.std.proofs.Common.{◌∙◌, sym, subst}
use Rattle.yq_documents.{specs.Reading.cut_of, specs.Ready.TextIsReady, proofs.ReadLaws.{read_as_text, read_takes, only_by, none_by}}
use Rattle.yq_tree.proofs.reading.read.Goals as goal

pub returns-in-Ok-read_text-clause-found : goal.returns-in-Ok-read_text-clause-found
returns-in-Ok-read_text-clause-found c = read_takes c.args.bytes.now (cut_of c.in-Ok-read_text.documents) (read_as_text c.args.bytes.now c.in-Ok.text.now _ c.in-Ok.ensures.utf8 c.in-Ok-read_text.ensures.exact)

pub returns-in-Ok-read_text-clause-only : goal.returns-in-Ok-read_text-clause-only
returns-in-Ok-read_text-clause-only c = only_by c.args.bytes.now (cut_of c.in-Ok-read_text.documents) (read_as_text c.args.bytes.now c.in-Ok.text.now _ c.in-Ok.ensures.utf8 c.in-Ok-read_text.ensures.exact)

pub returns-in-Ok-read_text-clause-ready : goal.returns-in-Ok-read_text-clause-ready
returns-in-Ok-read_text-clause-ready c =
    let read = read_as_text c.args.bytes.now c.in-Ok.text.now _ c.in-Ok.ensures.utf8 c.in-Ok-read_text.ensures.exact in
    let is = c.in-Ok-read_text.ensures.text ∙ c.in-Ok.ensures.utf8.1 in
    subst TextIsReady (sym is) (c.documents_ready.ensures c.args.bytes.now _ (read_takes c.args.bytes.now (cut_of c.in-Ok-read_text.documents) read))

pub returns-in-Ok-read_text-clause-text : goal.returns-in-Ok-read_text-clause-text
returns-in-Ok-read_text-clause-text c = c.in-Ok-read_text.ensures.text ∙ c.in-Ok.ensures.utf8.1

pub returns-in-Err-Fault-clause-only : goal.returns-in-Err-Fault-clause-only
returns-in-Err-Fault-clause-only c = none_by c.args.bytes.now (read_as_text c.args.bytes.now c.in-Ok.text.now _ c.in-Ok.ensures.utf8 (rw c.in-Err-Fault.field-0-is at c.in-Err-Fault.ensures.exact))

pub returns-in-Ok-read_text-clause-exact : goal.returns-in-Ok-read_text-clause-exact
returns-in-Ok-read_text-clause-exact c = read_as_text c.args.bytes.now c.in-Ok.text.now _ c.in-Ok.ensures.utf8 c.in-Ok-read_text.ensures.exact
