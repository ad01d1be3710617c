use Rattle.std.{proofs.Common.{◌≡◌, ◌∙◌, ◌++◌, ◌∷◌, [], List, ap, sym, subst, arith, ℕ, ◌<◌}, proofs.lemmas.List.Elements.All-push}
use Rattle.std.specs.List.{All}
use Rattle.yq_rows.{specs.Sides.both_sides, proofs.PassingLaws.{all_popped, passed_after, popped, last_is, none_last}}
use Rattle.yq_rows.proofs.SplitLaws.{Within}
use Rattle.yq_row_table.specs.declared.offsets.Offsets as declared
use Rattle.yq_rows.proofs.split.to_after.Goals as goal

pub rows-preserved : goal.rows-preserved
rows-preserved c =
    let len = c.args.len in
    let row = c.index.result.now in
    let all = popped c.rows.front.items c.pop.new.self.items _ c.len-in-rows.result c.pop.result row c.pop.ensures.items c.pop.ensures.value (omega arith) (omega arith) c.index.ensures in
    let after : c.push.new.self.items ≡ c.rows.after.items ++ (c.turned.result ∷ []) = c.in_ok-push.ensures.items in
    let held = all_popped (Within len) c.rows.front.items c.pop.new.self.items row all c.rows.invariant.within in
    let step = passed_after len c.pop.new.self.items c.rows.after.items row held.1 in
    record {
      same = ap (λ (l : List declared.Offsets). both_sides len c.pop.new.self.items l) (after ∙ ap (λ (o : declared.Offsets). c.rows.after.items ++ (o ∷ [])) c.turned.ensures)
          ∙ (step ∙ (ap (λ (l : List declared.Offsets). both_sides len l c.rows.after.items) (sym all) ∙ c.rows.invariant.same));
      within = held.0;
      later = subst (All (Within len)) (sym after) (All-push (Within len) c.rows.after.items c.turned.result c.rows.invariant.later (let own = ap (λ (o : declared.Offsets). o.start) c.turned.ensures in omega (arith, own)));
    }

pub returns-then-start-at-clause-ok : goal.returns-then-start-at-clause-ok
returns-then-start-at-clause-ok c = λ o e.
    let same = last_is c.rows.front.items c.len-in-rows.result c.index.result.now (c.len-in-rows.ensures ∙ c.rows.front.ok.0) c.index.ensures o e in
    subst (λ (p : declared.Offsets). p.start < c.args.at) same (subst (λ (n : ℕ). n < c.args.at) c.start.ensures c.if-start-at.true)

pub returns-clause-ok : goal.returns-clause-ok
returns-clause-ok c = λ o e. absurd (none_last c.rows.front.items c.len.result (c.len.ensures ∙ c.rows.front.ok.0) c.rows-test.false o e)
