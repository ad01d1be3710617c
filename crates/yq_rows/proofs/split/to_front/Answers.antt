use Rattle.std.proofs.Common.{◌≡◌, ◌<◌, ◌∙◌, ◌++◌, ◌∷◌, [], List, ap, sym, subst, arith}
use Rattle.yq_rows.{specs.Sides.{LastBefore, both_sides}, proofs.PassingLaws.{all_popped, last_pushed, passed_front, popped}}
use Rattle.yq_rows.proofs.SplitLaws.{Within}
use Rattle.yq_row_table.specs.declared.offsets.Offsets as declared
use Rattle.yq_rows.proofs.split.to_front.Goals as goal

pub rows-preserved : goal.rows-preserved
rows-preserved c =
    let len = c.args.len in
    let row = c.turned-row.result in
    let all = popped c.rows.after.items c.pop.new.self.items _ c.len-in-rows.result c.pop.result c.index.result.now c.pop.ensures.items c.pop.ensures.value (omega arith) (omega arith) c.index.ensures in
    let front : c.push.new.self.items ≡ c.rows.front.items ++ (row ∷ []) = c.in_ok-push.ensures.items in
    let step = passed_front len c.rows.front.items c.pop.new.self.items c.index.result.now in
    let less : row.start < c.args.at = omega arith in
    record {
      same = ap (λ (l : List declared.Offsets). both_sides len l c.pop.new.self.items) (front ∙ ap (λ (o : declared.Offsets). c.rows.front.items ++ (o ∷ [])) c.turned-row.ensures)
          ∙ (step ∙ (ap (λ (l : List declared.Offsets). both_sides len c.rows.front.items l) (sym all) ∙ c.rows.invariant.same));
      last = subst (LastBefore c.args.at) (sym front) (last_pushed c.args.at c.rows.front.items row less);
      later = (all_popped (Within len) c.rows.after.items c.pop.new.self.items c.index.result.now all c.rows.invariant.later).0;
    }
