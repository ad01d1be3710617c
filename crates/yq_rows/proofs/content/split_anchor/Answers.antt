use Rattle.std.{proofs.Common.{◌≡◌, ap, ◌∙◌, arith}, specs.List.prefix_len}
use Rattle.yq_core.specs.Nodes.{in_name}
use Rattle.yq_row_table.proofs.InlineSlicing.{anchor_some, anchor_within, anchor_boundary}
use Rattle.yq_rows.proofs.content.split_anchor.Goals as goal

pub overflow_add-name_len : goal.overflow_add-name_len
overflow_add-name_len c =
    let len : c.name_len.result ≡ prefix_len in_name c.in-Some.after.now = c.name_len.ensures ∙ ap (prefix_len in_name) c.as_bytes.ensures.value in
    omega (arith, anchor_within c.args.text.now c.in-Some.after.now c.name_len.result c.in-Some.ensures.1 c.in-Some.ensures.2 len, c.type_inv.text)

pub split_at-requires : goal.split_at-requires
split_at-requires c =
    let len : c.name_len.result ≡ prefix_len in_name c.in-Some.after.now = c.name_len.ensures ∙ ap (prefix_len in_name) c.as_bytes.ensures.value in
    anchor_boundary c.args.text.now c.in-Some.after.now c.name_len.result c.in-Some.ensures.1 c.in-Some.ensures.2 len

pub returns-in-Some : goal.returns-in-Some
returns-in-Some c =
    let len : c.name_len.result ≡ prefix_len in_name c.in-Some.after.now = c.name_len.ensures ∙ ap (prefix_len in_name) c.as_bytes.ensures.value in
    rw (c.split_at.ensures.front, c.split_at.ensures.back) (anchor_some c.args.text.now c.name_len.result c.in-Some.ensures.0 (len ∙ ap (prefix_len in_name) c.in-Some.ensures.1))
