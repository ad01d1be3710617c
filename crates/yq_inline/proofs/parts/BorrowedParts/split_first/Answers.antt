use Rattle.yq_inline.{specs.Measured.closing_byte, proofs.PartSteps.{comma_there, none_left, parts_left, tested}}
use Rattle.yq_inline.proofs.parts.BorrowedParts.split_first.Goals as goal

pub returns-then-first_is-clause-view : goal.returns-then-first_is-clause-view
returns-then-first_is-clause-view c =
    let s = c.args.self in
    none_left s.total s.depth (closing_byte s.keyed) s.text.now (tested _ _ _ _ _ _ c.closing_bracket-closing.ensures c.as_bytes.ensures.value c.first_is.ensures c.if-first_is.true)

pub past_comma-text-requires : goal.past_comma-text-requires
past_comma-text-requires c =
    let s = c.args.self in
    let before = tested _ (closing_byte s.keyed) s.text.now _ _ _ c.closing_bracket-closing.ensures c.as_bytes.ensures.value c.first_is.ensures c.if-first_is.false in
    λ none. comma_there s c.first-entry.result c.past_borrowed.result.now _ before c.first-entry.ensures c.past_borrowed.ensures.rest c.closing_bracket-closing.ensures none

pub invariant_of-others-clause-borrowed : goal.invariant_of-others-clause-borrowed
invariant_of-others-clause-borrowed c =
    let s = c.args.self in
    let before = tested _ (closing_byte s.keyed) s.text.now _ _ _ c.closing_bracket-closing.ensures c.as_bytes.ensures.value c.first_is.ensures c.if-first_is.false in
    (parts_left s c.first-entry.result c.past_borrowed.result.now c.past_comma-text.result.now _ before c.first-entry.ensures c.past_borrowed.ensures.rest c.closing_bracket-closing.ensures c.past_comma-text.ensures.rest).borrowed

pub returns-clause-view : goal.returns-clause-view
returns-clause-view c =
    let s = c.args.self in
    let before = tested _ (closing_byte s.keyed) s.text.now _ _ _ c.closing_bracket-closing.ensures c.as_bytes.ensures.value c.first_is.ensures c.if-first_is.false in
    (parts_left s c.first-entry.result c.past_borrowed.result.now c.past_comma-text.result.now _ before c.first-entry.ensures c.past_borrowed.ensures.rest c.closing_bracket-closing.ensures c.past_comma-text.ensures.rest).shown

pub returns-clause-fewer : goal.returns-clause-fewer
returns-clause-fewer c =
    let s = c.args.self in
    let before = tested _ (closing_byte s.keyed) s.text.now _ _ _ c.closing_bracket-closing.ensures c.as_bytes.ensures.value c.first_is.ensures c.if-first_is.false in
    (parts_left s c.first-entry.result c.past_borrowed.result.now c.past_comma-text.result.now _ before c.first-entry.ensures c.past_borrowed.ensures.rest c.closing_bracket-closing.ensures c.past_comma-text.ensures.rest).shorter
