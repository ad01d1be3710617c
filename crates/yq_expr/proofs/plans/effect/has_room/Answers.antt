use Rattle.std.{proofs.Common.{List, ℕ, sym, subst}, specs.Prelude.IfSome}
use Rattle.yq_documents.specs.Reading.{cut_of}
use Rattle.yq_lookup.specs.PathLines.{IsLineOf}
use Rattle.yq_expr.proofs.plans.effect.has_room.Goals as goal

pub has_room_from-requires : goal.has_room_from-requires
has_room_from-requires c = subst (λ (t : List ℕ). IfSome c.go_along-line.result (IsLineOf c.args.path.now (cut_of t))) (sym c.go_along-line.ensures.same) c.go_along-line.ensures.line
