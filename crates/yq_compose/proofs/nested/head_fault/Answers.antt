use Rattle.std.proofs.Common.{not, sym, ap, ◌∙◌, arith}
use Rattle.yq_compose.proofs.HeadViewLaws.{none_of, unmade_sound}
use Rattle.yq_compose.proofs.nested.head_fault.Goals as goal

pub returns-then-is_none-clause-sound : goal.returns-then-is_none-clause-sound
returns-then-is_none-clause-sound c = λ k l is.
    let x = c.args.x in
    unmade_sound x.text.now x.rows.now x.decoded.now x.document k c.args.at.position c.requires.line l is c.args.depth (omega (arith, c.if-depth-ge-BORROWED_DEPTH.true))
    (sym (c.decoded_here.ensures x.decoded.now c.requires.at.decoded) ∙ none_of c.decoded_here.result (c.is_none.ensures ∙ ap not c.if-is_none.true))
