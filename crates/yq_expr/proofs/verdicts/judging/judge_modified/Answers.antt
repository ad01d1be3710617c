use Rattle.std.proofs.Common.{map, ap, subst}
use Rattle.yq_nodes.specs.Nodes.{node_of}
use Rattle.yq_planner.specs.Substitutes.{verdict}
use Rattle.yq_semantics.{specs.Judgement.Judges, specs.Rooms.room_of, specs.View.{stage_of, term_of}}
use Rattle.yq_eval.specs.FoundView.{found_places}
use Rattle.yq_expr.proofs.AllChanges.{modified}
use Rattle.yq_expr.proofs.verdicts.judging.judge_modified.Goals as goal

pub returns : goal.returns
returns c =
    subst (Judges (λ _. tt) c.judge_found.result)
    (ap verdict (modified c.args.found.now.document.doc (room_of c.args.found.now.document.documents.now c.args.found.now.document.doc)
    (node_of c.args.found.now.document.root) (map stage_of c.args.assignment.now.left.items) c.args.assignment.now.operator
    (map term_of c.args.assignment.now.right.items) (map term_of c.deref-right.result.now) (found_places c.args.found.now.places)
    c.requires.operator (ap (map term_of) c.deref-right.ensures.value)))
    (c.judge_found.ensures (node_of c.args.found.now.document.root) c.in_ok-aliases.ensures c.requires.places.within)
