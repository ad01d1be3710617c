use Rattle.std.proofs.Common.{◌≡◌, ℕ, true, List, rules, sym, ap, ◌∙◌, subst, arith}
use Rattle.yq_core.{specs.Lines.spaces, specs.Text.text_lines, proofs.BlockSteps.{at_cut, at_end}}
use Rattle.yq_batch.specs.RowRemovals.{AreLow, is_spaced}
use Rattle.yq_batch.proofs.row_removals.least_for.Goals as goal

pub lines-smaller-then-found-spaces : goal.lines-smaller-then-found-spaces
lines-smaller-then-found-spaces c = (at_cut _ _ _ _ c.is_empty.ensures c.lines-test.true c.split_line.ensures).1

pub lines-smaller : goal.lines-smaller
lines-smaller c = (at_cut _ _ _ _ c.is_empty.ensures c.lines-test.true c.split_line.ensures).1

pub lines-preserved-then-found-spaces : goal.lines-preserved-then-found-spaces
lines-preserved-then-found-spaces c =
    let cut = at_cut _ _ _ _ c.is_empty.ensures c.lines-test.true c.split_line.ensures in
    let size : spaces c.split_line.result.0.now ≡ c.spaces_len-spaces.result = ap spaces (sym c.as_bytes-in-lines.ensures.value) ∙ sym c.spaces_len-spaces.ensures.value in
    let spaced : is_spaced c.split_line.result.0.now ≡ true = ap is_spaced (sym c.as_bytes.ensures.value) ∙ (sym c.is_spaced.ensures ∙ c.if-not-is_spaced.false) in
    let less = c.if-found-spaces.true in
    let most = c.lines.invariant.was.2 in
    record {
      rest_text = search rules;
      was = (c.lines.invariant.was.0, c.lines.invariant.was.1, omega (arith, most, less));
      so_far = λ n more low. c.lines.invariant.so_far n (omega (arith, more, less)) (subst (AreLow n) (sym cut.0) (spaced, omega (arith, more, size), low));
    }

pub lines-preserved : goal.lines-preserved
lines-preserved c =
    let cut = at_cut _ _ _ _ c.is_empty.ensures c.lines-test.true c.split_line.ensures in
    let size : spaces c.split_line.result.0.now ≡ c.spaces_len-spaces.result = ap spaces (sym c.as_bytes-in-lines.ensures.value) ∙ sym c.spaces_len-spaces.ensures.value in
    let spaced : is_spaced c.split_line.result.0.now ≡ true = ap is_spaced (sym c.as_bytes.ensures.value) ∙ (sym c.is_spaced.ensures ∙ c.if-not-is_spaced.false) in
    let less = c.if-found-spaces.false in
    record {
      rest_text = search rules;
      was = c.lines.invariant.was;
      so_far = λ n more low. c.lines.invariant.so_far n more (subst (AreLow n) (sym cut.0) (spaced, omega (arith, more, size, less), low));
    }

pub returns : goal.returns
unfolding text_lines
returns c = (
  c.lines.invariant.was.0,
  c.lines.invariant.was.1,
  c.lines.invariant.was.2,
  c.lines.invariant.so_far c.lines.found (omega arith) (subst (λ (t : List ℕ). AreLow c.lines.found (text_lines t)) (sym (at_end _ _ c.is_empty.ensures c.lines-test.false)) tt),
)
