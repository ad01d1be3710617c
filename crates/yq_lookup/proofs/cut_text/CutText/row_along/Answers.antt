use Rattle.std.{proofs.Common.{map, subst}, proofs.lemmas.Option.IfSome_then, specs.Prelude.IfSome}
use Rattle.yq_core.specs.Entries.{tree_step}
use Rattle.yq_documents.specs.Located.{steps_of}
use Rattle.yq_places.proofs.HeldRowLaws.{held_row_is, line_in}
use Rattle.yq_row_walk.specs.Walk.{IsLineAt}
use Rattle.yq_lookup.proofs.CutRows.{items_agree, items_known, walk_found}
use Rattle.yq_lookup.proofs.cut_text.CutText.row_along.Goals as goal

pub row_of_last-requires-clause-within : goal.row_of_last-requires-clause-within
row_of_last-requires-clause-within c =
    let at = subst (λ o. IfSome o (λ k. IsLineAt c.in-Some.walk.rows.now c.in-Some.walk.document (map tree_step c.deref.result.now) k.at)) c.in-Some-line.is c.known_along-way.ensures.at in
    (line_in c.in-Some.walk.rows.now c.in-Some.walk.document _ c.in-Some-line.line.at
    (walk_found c.args.self.now c.args.path.now.doc c.in-Some.walk c.in-Some.ensures.cut c.in-Some.ensures.place).document.are_there at).1.1

pub returns-clause-row : goal.returns-clause-row
returns-clause-row c =
    let t = c.args.self.now in
    let s = c.in-Some.walk.rows.now in
    let d = c.in-Some.walk.document in
    let at = subst (λ o. IfSome o (λ k. IsLineAt s d (map tree_step c.deref.result.now) k.at)) c.in-Some-line.is c.known_along-way.ensures.at in
    let there = subst (λ xs. IsLineAt s d (map tree_step xs) c.in-Some-line.line.at) c.deref.ensures.value at in
    let y = line_in s d _ c.in-Some-line.line.at (walk_found t c.args.path.now.doc c.in-Some.walk c.in-Some.ensures.cut c.in-Some.ensures.place).document.are_there there in
    IfSome_then c.row_of_last.result c.row_of_last.ensures
    (λ x says. held_row_is t s c.args.path.now.doc d (steps_of c.args.path.now) c.in-Some-line.line.at x c.in-Some.ensures.cut.cut c.in-Some.ensures.cut.rows c.in-Some.ensures.place c.in-Some.ensures.cut.sound there y.0 y.1.0 says)

pub known_along-way-requires-clause-known : goal.known_along-way-requires-clause-known
known_along-way-requires-clause-known c = items_known c.args.self.now c.in-Some.walk.rows.now c.args.known.now.items c.in-Some.ensures.cut.rows c.requires

pub returns-clause-known : goal.returns-clause-known
returns-clause-known c = items_agree c.args.self.now c.in-Some.walk.rows.now c.known_along-way.new.known.items c.in-Some.ensures.cut.rows c.known_along-way.ensures.known
