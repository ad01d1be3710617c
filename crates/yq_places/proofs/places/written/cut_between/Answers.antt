use Rattle.std.{proofs.Common.{rules, sym, subst}, specs.Str.IsCharBoundary}
use Rattle.yq_text.specs.Halves.{whole}
use Rattle.yq_places.proofs.CutLaws.{between_ends, between_starts}
use Rattle.yq_places.proofs.places.written.cut_between.Goals as goal

pub cut_at-requires-clause-start : goal.cut_at-requires-clause-start
cut_at-requires-clause-start c =
    subst (IsCharBoundary (whole c.args.text)) (sym c.len.ensures) (between_starts (whole c.args.text) (whole c.args.before) (whole c.args.after) c.requires c.is_text.ensures)

pub cut_at-requires-clause-end : goal.cut_at-requires-clause-end
cut_at-requires-clause-end c = search (rules, between_ends)
