use Rattle.std.proofs.Common.{◌<◌, length, arith}
use Rattle.yq_places.proofs.SearchLaws.{found_deeper, none_found, one_found}
use Rattle.yq_places.proofs.places.steps.first_step.Goals as goal

pub returns-then-found-walk : goal.returns-then-found-walk
returns-then-found-walk c = λ h.
    let found = c.search_step-found in
    none_found c.args.walk.now.rows.now c.args.walk.now.document h c.args.dashes found.result found.ensures.first (omega (arith, found.ensures.within, c.if-found-walk.true)) found.ensures.searched

pub overflow_sub-result : goal.overflow_sub-result
overflow_sub-result c =
    let found = c.search_step-found in
    let within : found.result.row < c.args.walk.now.document.end = omega (arith, c.if-found-walk.false) in
    let there : found.result.row < length c.args.walk.now.rows.now.rows = omega (arith, within, c.requires.walk.document.are_there.within) in
    found_deeper c.args.dashes c.args.walk.now.rows.now.rows found.result c.level_at-level.result there (found.ensures.stops within within) c.level_at-level.ensures

pub returns : goal.returns
returns c = λ h.
    let found = c.search_step-found in
    let within : found.result.row < c.args.walk.now.document.end = omega (arith, c.if-found-walk.false) in
    one_found c.args.walk.now.rows.now c.args.walk.now.document h c.args.dashes found.result c.level_at-level.result found.ensures.first
    found.ensures.order within found.ensures.searched (found.ensures.stops within within) c.level_at-level.ensures
