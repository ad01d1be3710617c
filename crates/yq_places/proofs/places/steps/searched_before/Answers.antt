use Rattle.std.proofs.Common.{◌≡◌, ◌<◌, ◌+◌, ◌-◌, ℕ, length, Option, IfSome, subst, arith, rules}
use Rattle.yq_outline.proofs.KnownLaws.{one_there}
use Rattle.yq_row_table.specs.RowStarts.{row_start}
use Rattle.yq_places.{proofs.SearchLaws.{search_anew, search_less, search_stays}, specs.StepReading.IsSearched}
use Rattle.yq_places.specs.declared.places.steps.StepSearch.{StepSearch}
use Rattle.yq_places.proofs.places.steps.searched_before.Goals as goal

pub returns-then-row-known-2 : goal.returns-then-row-known-2
returns-then-row-known-2 c = λ dashes searched cut is.
    let s = c.args.rows.now in
    let known : IsSearched dashes s.rows c.in_ok-known.known = subst (λ (o : Option StepSearch). IfSome o (IsSearched dashes s.rows)) c.in_ok-known.was searched in
    let within : c.in_ok-known.known.row < length s.rows = omega (arith, c.if-row-known-2.true, c.if-row-len.false, c.len.ensures) in
    let before : row_start c.in_ok-known.known.row s < c.args.front = subst (λ (n : ℕ). row_start n s < c.args.front) c.if-row-known-2.true (omega (arith, c.if-start-front.false, c.start.ensures)) in
    search_stays dashes s c.in_ok-known.known c.args.front known within before cut is

pub returns-then-row-known-3 : goal.returns-then-row-known-3
returns-then-row-known-3 c = search (rules, arith, search_stays, search_anew)

pub returns-else-row-known-3 : goal.returns-else-row-known-3
returns-else-row-known-3 c = λ dashes searched cut is.
    let s = c.args.rows.now in
    let row : ℕ = c.row_at_front-row.result in
    let k : StepSearch = c.in_ok-known.known in
    let known : IsSearched dashes s.rows k = subst (λ (o : Option StepSearch). IfSome o (IsSearched dashes s.rows)) c.in_ok-known.was searched in
    let within : row < length s.rows = omega (arith, c.if-row-len.false, c.len.ensures) in
    let before : row_start row s < c.args.front = omega (arith, c.if-start-front.false, c.start.ensures) in
    let r = one_there s.rows (row - 1) (omega (arith, within)) in
    let next : (row - 1) + 1 ≡ row = omega (arith, c.if-row-known.false, c.if-row-known-3.false) in
    let less : IsSearched dashes s.rows (record { first = k.first; row = (row - 1) + 1; above = c.last_level-above.result }) =
    search_less dashes s.rows k (row - 1) c.last_level-above.result r.0 known (omega (arith, c.if-row-known.false, c.if-row-known-3.false)) (omega (arith, next, c.row_at_front-row.ensures)) r.1 (c.last_level-above.ensures r.0 r.1)
    in
    let here : IsSearched dashes s.rows (record { first = k.first; row = row; above = c.last_level-above.result }) =
    subst (λ (n : ℕ). IsSearched dashes s.rows (record { first = k.first; row = n; above = c.last_level-above.result })) next less in
    search_stays dashes s (record { first = k.first; row = row; above = c.last_level-above.result }) c.args.front here within before cut is
