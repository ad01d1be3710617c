use Rattle.std.proofs.Common.{◌≡◌, IfSome, arith, map, refl, subst}
use Rattle.yq_core.specs.Entries.{tree_step}
use Rattle.yq_outline.specs.declared.line_position.Stretch.{Stretch}
use Rattle.yq_row_walk.specs.Walk.{IsKnownLine, IsLineAt}
use Rattle.yq_row_walk.proofs.known_line.if_along.Goals as goal

pub returns : goal.returns
returns c =
    let s = c.args.walk.now.rows.now in
    let k = c.in-Some.found.now in
    let is : IsKnownLine s k = subst (λ o. IfSome o (λ x. IsKnownLine s x.now)) c.in-Some.is c.requires.line in
    let first : k.document.first ≡ c.args.walk.now.document.first = omega (arith, c.if-found-document.false) in
    let end : k.document.end ≡ c.args.walk.now.document.end = omega (arith, c.if-found-document-2.false) in
    let document : k.document ≡ c.args.walk.now.document = λ i. record { first = first i; end = end i } in
    subst (λ (d : Stretch). IsLineAt s d (map tree_step c.args.steps.now) k.at) document (subst (λ ss. IsLineAt s k.document ss k.at) (c.if-not-are_same.ensures refl) is)
