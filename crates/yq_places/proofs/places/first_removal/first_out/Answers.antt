use Rattle.std.proofs.Common.{sym, ◌∙◌, rules}
use Rattle.yq_text.specs.Halves.{whole}
use Rattle.yq_places.proofs.CutLaws.{gap_lies, gap_out, next_lies, next_out}
use Rattle.yq_places.proofs.places.first_removal.first_out.Goals as goal

pub cut_between-requires : goal.cut_between-requires
cut_between-requires c = search (rules, gap_lies)

pub returns-then-begins_gap : goal.returns-then-begins_gap
returns-then-begins_gap c =
    c.cut_between.ensures (gap_lies (whole c.args.text) c.args.start c.args.end (whole c.cut_at.result.0) (whole c.cut_at.result.1) (whole c.cut_at.result.2) c.cut_at.ensures.before c.cut_at.ensures.middle
    c.cut_at.ensures.after c.is_text.ensures (whole c.split_line.result.0) (whole c.split_line.result.1) c.split_line.ensures (whole c.split_end_spaces.result.0) (whole c.split_end_spaces.result.1)
    c.split_end_spaces.ensures.front c.split_end_spaces.ensures.spaces c.is_text-then-begins_gap.ensures)
    ∙ gap_out (whole c.args.text) c.args.start c.args.end (whole c.cut_at.result.0) (whole c.cut_at.result.1) (whole c.cut_at.result.2) c.cut_at.ensures.before c.cut_at.ensures.middle
    c.cut_at.ensures.after c.is_text.ensures (whole c.split_line.result.0) (whole c.split_line.result.1) c.split_line.ensures (whole c.split_end_spaces.result.0) (whole c.split_end_spaces.result.1)
    c.split_end_spaces.ensures.front c.split_end_spaces.ensures.spaces c.is_text-then-begins_gap.ensures (sym c.begins_gap.ensures ∙ c.if-begins_gap.true)

pub cut_between-requires-2 : goal.cut_between-requires-2
cut_between-requires-2 c = search (rules, next_lies)

pub returns : goal.returns
returns c =
    c.cut_between-2.ensures (next_lies (whole c.args.text) c.args.start c.args.end (whole c.cut_at.result.0) (whole c.cut_at.result.1) (whole c.cut_at.result.2) c.cut_at.ensures.before c.cut_at.ensures.middle
    c.cut_at.ensures.after c.is_text.ensures (whole c.split_line.result.0) (whole c.split_line.result.1) c.split_line.ensures (whole c.split_spaces.result.0) (whole c.split_spaces.result.1) c.split_spaces.ensures
    c.is_text-2.ensures c.is_text-3.ensures)
    ∙ next_out (whole c.args.text) c.args.start c.args.end (whole c.cut_at.result.0) (whole c.cut_at.result.1) (whole c.cut_at.result.2) c.cut_at.ensures.before c.cut_at.ensures.middle
    c.cut_at.ensures.after c.is_text.ensures (whole c.split_line.result.0) (whole c.split_line.result.1) c.split_line.ensures (whole c.split_spaces.result.0) (whole c.split_spaces.result.1) c.split_spaces.ensures
    c.is_text-2.ensures c.is_text-3.ensures (sym c.begins_gap.ensures ∙ c.if-begins_gap.false)
