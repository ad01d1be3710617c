use Rattle.std.proofs.Common.{◌-◌, ◌+◌, Some, arith, length, refl, sym, ap, ◌∙◌}
use Rattle.yq_core.{specs.Borrowed.are_borrowed, specs.Piece.inline_piece, specs.Scalars.scalar_style}
use Rattle.yq_inline.{specs.BorrowedParts.key_before, specs.Measured.closing_byte, proofs.PartSteps.{key_found, key_there, node_found}}
use Rattle.yq_inline.proofs.parts.BorrowedParts.first_keyed.Goals as goal

pub leading_key-requires : goal.leading_key-requires
leading_key-requires c =
    let s = c.args.self in
    λ none. key_there s.depth s.text.now c.requires.some (ap (λ b. are_borrowed s.depth (closing_byte b) s.text.now) (sym c.requires.keyed) ∙ s.borrowed) none

pub overflow_add-start : goal.overflow_add-start
overflow_add-start c =
    let s = c.args.self in
    let k = key_found s.depth s.text.now c.requires.some
    (ap (λ b. are_borrowed s.depth (closing_byte b) s.text.now) (sym c.requires.keyed) ∙ s.borrowed) c.leading_key.result.0.now
    c.leading_key.result.1.now c.leading_key.ensures.split in
    omega (arith, k.within, s.within)

pub borrowed_content-requires-clause-borrows : goal.borrowed_content-requires-clause-borrows
borrowed_content-requires-clause-borrows c =
    let s = c.args.self in
    (key_found s.depth s.text.now c.requires.some (ap (λ b. are_borrowed s.depth (closing_byte b) s.text.now) (sym c.requires.keyed) ∙ s.borrowed) c.leading_key.result.0.now c.leading_key.result.1.now c.leading_key.ensures.split).borrows

pub invariant_of-node-clause-borrowed : goal.invariant_of-node-clause-borrowed
invariant_of-node-clause-borrowed c =
    let s = c.args.self in
    let borrowed = ap (λ b. are_borrowed s.depth (closing_byte b) s.text.now) (sym c.requires.keyed) ∙ s.borrowed in
    let k = key_found s.depth s.text.now c.requires.some borrowed c.leading_key.result.0.now c.leading_key.result.1.now c.leading_key.ensures.split in
    node_found s.depth 125 s.text.now refl c.requires.some borrowed k.key c.leading_key.result.1.now k.read

pub returns : goal.returns
returns c =
    let s = c.args.self in
    let borrowed = ap (λ b. are_borrowed s.depth (closing_byte b) s.text.now) (sym c.requires.keyed) ∙ s.borrowed in
    let k = key_found s.depth s.text.now c.requires.some borrowed c.leading_key.result.0.now c.leading_key.result.1.now c.leading_key.ensures.split in
    let start = s.total - length s.text.now in
    let style = c.style_of.ensures.value ∙ ap scalar_style c.as_bytes.ensures.value in
    let place = c.inline_piece-place.ensures ∙ ap (λ y. inline_piece y start (start + length c.leading_key.result.0.now)) style in
    record {
      key = k.key;
      is_located = ap (λ b. key_before (closing_byte b) s.text.now) c.requires.keyed ∙ k.read;
      view = (λ i. Some (c.borrowed_content.ensures i, place i)) ∙ k.piece s.total;
      total = refl;
      depth = refl;
    }
