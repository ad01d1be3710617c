use Rattle.std.proofs.Common.{◌-◌, sym, ◌∙◌, arith}
use Rattle.yq_outline.proofs.KnownLaws.{known_less, moved_to, none_as_deep, one_as_deep, one_there}
use Rattle.yq_row_walk.proofs.known_item.item_back.Goals as goal

pub rows-preserved-then-level_at-known : goal.rows-preserved-then-level_at-known
rows-preserved-then-level_at-known c =
    let ss = c.args.rows.now.rows in
    let k = c.args.known in
    let x = one_there ss (c.rows.row - 1) (omega (arith, c.if-saturating_sub-gt1.true, c.saturating_sub.ensures, c.rows.invariant.upto, c.requires.within)) in
    record {
      known =
          known_less ss (moved_to k c.rows.at c.rows.row) x.0 (c.rows.at - 1) (c.rows.row - 1) c.rows.invariant.known x.1
          (omega (arith, c.if-saturating_sub-gt1.true, c.saturating_sub.ensures))
          (omega (arith, c.if-saturating_sub-gt1.true, c.saturating_sub.ensures))
          (omega (arith, c.rows.invariant.known.index, one_as_deep k.level x.0 (sym (c.level_at.ensures x.0 x.1) ∙ c.if-level_at-known.true)));
      upto = omega (arith, c.rows.invariant.upto);
    }

pub rows-preserved : goal.rows-preserved
rows-preserved c =
    let ss = c.args.rows.now.rows in
    let k = c.args.known in
    let x = one_there ss (c.rows.row - 1) (omega (arith, c.if-saturating_sub-gt1.true, c.saturating_sub.ensures, c.rows.invariant.upto, c.requires.within)) in
    record {
      known =
          known_less ss (moved_to k c.rows.at c.rows.row) x.0 c.rows.at (c.rows.row - 1) c.rows.invariant.known x.1
          (omega (arith, c.if-saturating_sub-gt1.true, c.saturating_sub.ensures))
          (omega (arith, c.if-saturating_sub-gt1.true, c.saturating_sub.ensures))
          (omega (arith, none_as_deep k.level x.0 (λ e. c.if-level_at-known.false (c.level_at.ensures x.0 x.1 ∙ e))));
      upto = omega (arith, c.rows.invariant.upto);
    }
