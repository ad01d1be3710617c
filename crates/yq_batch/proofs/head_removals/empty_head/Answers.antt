use Rattle.std.{proofs.Common.{map, refl, ap}, proofs.lemmas.Result.err_from_is_err_and}
use Rattle.yq_core.specs.Entries.{tree_step}
use Rattle.yq_documents.specs.Located.{steps_of}
use Rattle.yq_places.specs.declared.places.flow_node.FlowHead.{FlowHead}
use Rattle.yq_semantics.specs.Operations.{operation_of}
use Rattle.yq_edit_laws.specs.NearParts.{head_with}
use Rattle.yq_batch.proofs.HeadRemovalLaws.{can_empty}
use Rattle.yq_batch.proofs.head_removals.empty_head.Goals as goal

pub exchange-requires : goal.exchange-requires
exchange-requires c =
    let x : FlowHead = head_with c.args.at.now.head c.in-Some.steps in
    let out = can_empty c.args.at.now.cut.now c.args.at.now.doc (map tree_step c.args.at.now.stem.now) (steps_of c.in-Remove.path) x c.in-Some-own_gone.gone c.args.run.now c.args.taken.1 c.args.row c.requires.there.read
    c.in-Some.ensures.1 (c.requires.there.reports.reports x refl refl refl) c.in-Some-own_gone.ensures c.requires.run c.requires.row
    c.in-Remove.path.doc (operation_of c.args.taken.0.now) (ap operation_of c.in-Remove.is) c.in-Some.ensures.0 in
    record { order = out.order; room = out.room; utf8 = out.utf8; start = out.starts; end = out.finishes }

pub returns-in_err-exchange-clause-err : goal.returns-in_err-exchange-clause-err
returns-in_err-exchange-clause-err c =
    let p = err_from_is_err_and c.from_residual.result c.from_residual.ensures.1 in
    let x : FlowHead = head_with c.args.at.now.head c.in-Some.steps in
    let out = can_empty c.args.at.now.cut.now c.args.at.now.doc (map tree_step c.args.at.now.stem.now) (steps_of c.in-Remove.path) x c.in-Some-own_gone.gone c.args.run.now c.args.taken.1 c.args.row c.requires.there.read
    c.in-Some.ensures.1 (c.requires.there.reports.reports x refl refl refl) c.in-Some-own_gone.ensures c.requires.run c.requires.row
    c.in-Remove.path.doc (operation_of c.args.taken.0.now) (ap operation_of c.in-Remove.is) c.in-Some.ensures.0 in
    rw (p.1, p.2) (out.fails c.in_err-exchange.field-0.0 c.in_err-exchange.ensures.err)

pub returns-clause-ok : goal.returns-clause-ok
returns-clause-ok c =
    let x : FlowHead = head_with c.args.at.now.head c.in-Some.steps in
    let out = can_empty c.args.at.now.cut.now c.args.at.now.doc (map tree_step c.args.at.now.stem.now) (steps_of c.in-Remove.path) x c.in-Some-own_gone.gone c.args.run.now c.args.taken.1 c.args.row c.requires.there.read
    c.in-Some.ensures.1 (c.requires.there.reports.reports x refl refl refl) c.in-Some-own_gone.ensures c.requires.run c.requires.row
    c.in-Remove.path.doc (operation_of c.args.taken.0.now) (ap operation_of c.in-Remove.is) c.in-Some.ensures.0 in
    λ is. out.on c.requires.fits c.exchange.new.run c.in_ok-exchange.ensures.ok
