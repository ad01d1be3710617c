use Rattle.std.proofs.Common.{arith}
use Rattle.yq_expr.proofs.SummandLaws.{two_added}
use Rattle.yq_eval.specs.PlaceView.{place_of}
use Rattle.yq_semantics.specs.View.{term_of}
use Rattle.yq_expr.proofs.terms.right_value.scalar_terms.Goals as goal

pub returns : goal.returns
returns c = λ doc.
    two_added term_of doc (place_of c.args.place.now) c.args.terms.now c.one-item.result c.other-item.result c.in_ok-kind.kind
    c.in_ok-added.added.now.kind c.in_ok-kind.text.now c.in_ok-added.added.now.text (omega (arith, c.in-len2.len_at_least, c.in-len2.len_below))
    c.one-item.is c.other-item.is
    (c.in_ok-kind.ensures doc) (c.in_ok-added.ensures doc (place_of c.args.place.now))
