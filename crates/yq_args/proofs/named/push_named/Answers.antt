use Rattle.std.{proofs.Common.{◌∙◌, rules, string_bytes, arith}, proofs.lemmas.Str.Pattern.split_parts}
use Rattle.yq_args.proofs.NamedLaws.{marks_more, marks_done}
use Rattle.yq_args.proofs.named.push_named.Goals as goal

pub marks-preserved : goal.marks-preserved
marks-preserved c =
    let cut = rw c.in-Some.is at (split_parts 37 c.marks.rest.now c.split_once.result c.split_once.ensures.cases (omega arith)) in
    (search rules, marks_more c.args.name.now (string_bytes c.marks.text) _ c.marks.rest.now c.in-Some.before.now c.in-Some.after.now cut.0 cut.1 (search rules) ∙ c.marks.invariant.1)

pub returns : goal.returns
returns c =
    let none = rw c.in_default.is at (split_parts 37 c.marks.rest.now c.split_once.result c.split_once.ensures.cases (omega arith)) in
    search (rules, marks_done)
