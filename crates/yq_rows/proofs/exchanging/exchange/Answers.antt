use Rattle.std.{proofs.Common.{◌+◌, ◌-◌, ◌<◌, ◌^◌, List, ◌++◌, map, take, refl, ap, sym, subst, ◌∙◌, arith}, specs.List.All}
use Rattle.yq_row_table.specs.Kept.{raised, placed_rows}
use Rattle.yq_rows.{specs.Exchanging.IsMovable, specs.Sides.origin, specs.declared.sides.Side.Side}
use Rattle.yq_rows.proofs.ExchangeLaws.{following_ends, ends_movable, exchanged, numbers, rows_movable}
use Rattle.yq_row_table.specs.declared.offsets.Offsets as declared
use Rattle.yq_rows.proofs.exchanging.exchange.Goals as goal

pub overflow_sub-kept : goal.overflow_sub-kept
overflow_sub-kept c = let n = numbers c.args.places.now c.args.touched c.args.come.now c.requires in omega (arith, c.len.ensures, n.all_rows)

pub overflow_add-new : goal.overflow_add-new
overflow_add-new c = let n = numbers c.args.places.now c.args.touched c.args.come.now c.requires in omega (arith, c.in_ok-reserve.ensures.ok, c.reserve.ensures.len)

pub overflow_add-new-2 : goal.overflow_add-new-2
overflow_add-new-2 c = let n = numbers c.args.places.now c.args.touched c.args.come.now c.requires in omega arith

pub push_rows-requires-clause-small : goal.push_rows-requires-clause-small
push_rows-requires-clause-small c = let n = numbers c.args.places.now c.args.touched c.args.come.now c.requires in omega (arith, n.bytes, c.requires.are_read.short)

pub push_rows-requires-clause-within : goal.push_rows-requires-clause-within
push_rows-requires-clause-within c =
    let h = c.requires in
    let n = numbers c.args.places.now c.args.touched c.args.come.now h in
    subst (All (λ (o : declared.Offsets). o.start + c.args.touched.front.bytes < 2 ^ 32)) (sym h.are_read.rows) (rows_movable (2 ^ 32) c.args.touched.front.bytes h.written (omega (arith, h.are_read.long, n.bytes)))

pub returns-clause-ok : goal.returns-clause-ok
returns-clause-ok c h =
    let p = c.args.places.now in
    let x = c.args.touched in
    let come = c.args.come.now in
    let n = numbers p x come h in
    let next : Side = record { rows = x.front.rows + c.len-rows.result; ends = 0; bytes = x.front.bytes + come.len } in
    let front_now = c.push_rows.ensures ∙ ap (λ (l : List declared.Offsets). l ++ map (raised x.front.bytes) (placed_rows come.read come.places)) (c.truncate.ensures.items ∙ ap (take x.front.rows) c.reserve.ensures.items) in
    exchanged p _ x come next (c.len.result - x.old.rows) h (omega (arith, c.len.ensures, n.all_rows)) (ap (λ m. x.front.rows + m) c.len-rows.ensures) refl front_now c.truncate-2.ensures.items c.in_ok-exchange_ends.ensures.ok refl

pub exchange_ends-requires-clause-order : goal.exchange_ends-requires-clause-order
exchange_ends-requires-clause-order c = let n = numbers c.args.places.now c.args.touched c.args.come.now c.requires in n.order

pub exchange_ends-requires-clause-small : goal.exchange_ends-requires-clause-small
exchange_ends-requires-clause-small c =
    let n = numbers c.args.places.now c.args.touched c.args.come.now c.requires in
    (omega (arith, n.bytes), n.old_bytes, omega (arith, n.bytes))

pub exchange_ends-requires-clause-within : goal.exchange_ends-requires-clause-within
exchange_ends-requires-clause-within c = let n = numbers c.args.places.now c.args.touched c.args.come.now c.requires in n.old_ends

pub exchange_ends-requires-clause-found : goal.exchange_ends-requires-clause-found
exchange_ends-requires-clause-found c =
    let h = c.requires in
    let n = numbers c.args.places.now c.args.touched c.args.come.now h in
    subst (All (IsMovable origin c.args.touched.front)) (sym h.are_read.ends)
    (ends_movable origin c.args.touched.front h.written (omega (arith, c.in_ok-reserve.ensures.ok, c.reserve.ensures.len, c.len-rows.ensures, n.come_rows)) (omega (arith, h.are_read.long, n.bytes)))

pub exchange_ends-requires-clause-after : goal.exchange_ends-requires-clause-after
exchange_ends-requires-clause-after c =
    let h = c.requires in
    let x = c.args.touched in
    let n = numbers c.args.places.now x c.args.come.now h in
    let next : Side = record { rows = x.front.rows + c.len-rows.result; ends = 0; bytes = x.front.bytes + c.args.come.now.len } in
    subst (All (IsMovable x.old next)) (sym (following_ends c.args.places.now x c.args.come.now h))
    (ends_movable x.old next h.after (omega (arith, c.in_ok-reserve.ensures.ok, c.reserve.ensures.len, c.len.ensures, n.all_rows, c.len-rows.ensures)) (omega (arith, n.bytes)))
