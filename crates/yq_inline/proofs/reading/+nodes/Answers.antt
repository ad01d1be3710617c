use Rattle.std.proofs.Common.{Some, rules, arith, length, sym, ap, ◌∙◌}
use Rattle.yq_core.proofs.Loops.{node_shorter, items_on, entries_on}
use Rattle.yq_core.proofs.Steps.{node_fails, node_gives, node_no_lead, node_no_name, node_plain}
use Rattle.yq_core.{specs.declared.inline.Form.TheFolds.the_lemmas, specs.Nodes.begins_content, specs.Places.Placed}
use Rattle.yq_core.{specs.PlacedReading.placed_coll, specs.View.{entries_end, form_view, items_end, inline_view}}
use Rattle.yq_inline.proofs.FormLaws.{content_fails, content_given, form_alias, form_unnamed, sequence_form, mapping_form, text_form}
use Rattle.yq_inline.proofs.FormLaws.{no_form, coll_unopened, coll_given, coll_fails, item_given, item_refused, item_fails, gives_same}
use Rattle.yq_inline.proofs.reading.+nodes.Goals as goal

pub read_entries-each-preserved : goal.read_entries-each-preserved
read_entries-each-preserved t c = record {
  utf8 = search rules;
  within = omega (arith, c.in_ok-entry.ensures.shorter, c.each.invariant.within);
  so_far = entries_on (length c.args.whole.now) c.args.depth c.each.entries.items c.push.new.self.items c.in_ok-entry.entry c.each.rest.now c.in_ok-entry.after.now _
      c.in_default.ensures c.in_ok-entry.ensures.read c.in_ok-push.ensures.items c.each.invariant.so_far;
}

pub read_items-each-preserved : goal.read_items-each-preserved
read_items-each-preserved t c = record {
  utf8 = search rules;
  within = omega (arith, c.in_ok-item.ensures.shorter, c.each.invariant.within);
  so_far = items_on (length c.args.whole.now) c.args.depth c.each.items.items c.push.new.self.items c.in_ok-item.item c.each.rest.now c.in_ok-item.after.now _
      c.in_default.ensures c.in_ok-item.ensures.read c.in_ok-push.ensures.items c.each.invariant.so_far;
}

pub read_node-returns-in-Ok-clause-read : goal.read_node-returns-in-Ok-clause-read
read_node-returns-in-Ok-clause-read t c =
    node_gives _ c.put_anchor.result c.args.flow c.args.spaces (length c.args.whole.now) c.args.depth c.args.text.now c.in_ok-name.name.now c.in_ok-name.rest.now c.in_ok-gap.gap.now c.in_ok-gap.rest.now _
    c.in-Some.ensures.0 (rw c.in-Some.ensures.1 at c.in_ok-name.ensures.read) c.in_ok-gap.ensures.read c.in-Ok.ensures.read c.put_anchor.ensures.read

pub read_content-returns-in-Ok-clause-read : goal.read_content-returns-in-Ok-clause-read
read_content-returns-in-Ok-clause-read t c =
    content_given c.args.flow c.args.spaces (length c.args.whole.now) c.args.depth c.args.text.now (form_view c.in-Ok.form) c.in-Ok.rest.now
    c.in-Ok.ensures.read ∙ ap (λ (s : Placed). Some (s, c.in-Ok.rest.now)) (sym c.placed_between.ensures)

pub read_content-returns-in-Err-clause-read : goal.read_content-returns-in-Err-clause-read
read_content-returns-in-Err-clause-read t c = content_fails c.args.flow c.args.spaces (length c.args.whole.now) c.args.depth c.args.text.now c.in-Err.e c.in-Err.ensures.read

pub read_form-returns-in_err-name-clause-read : goal.read_form-returns-in_err-name-clause-read
read_form-returns-in_err-name-clause-read t c = search (rules, form_unnamed)

pub read_form-returns-in-Some-clause-read : goal.read_form-returns-in-Some-clause-read
read_form-returns-in-Some-clause-read t c = let h =
    form_alias c.args.flow c.args.spaces (length c.args.whole.now) c.args.depth c.args.text.now c.in-Some.after.now c.in_ok-name.name.now
    c.in_ok-name.rest.now c.in-Some.ensures.0 c.in-Some.ensures.1 c.in_ok-name.ensures.read in simp the_lemmas h

pub read_form-returns-in-Some-strip-clause-read : goal.read_form-returns-in-Some-strip-clause-read
read_form-returns-in-Some-strip-clause-read t c =
    gives_same _ c.read_sequence.result _ _
    (sequence_form c.args.flow c.args.spaces (length c.args.whole.now) c.args.depth c.args.text.now c.in_default.ensures c.in-Some-strip.ensures.0
    ∙ ap (placed_coll (length c.args.whole.now) c.args.depth 93) (sym c.in-Some-strip.ensures.1)) c.read_sequence.ensures.read

pub read_form-returns-in-Some-strip-2-clause-read : goal.read_form-returns-in-Some-strip-2-clause-read
read_form-returns-in-Some-strip-2-clause-read t c =
    gives_same _ c.read_mapping.result _ _
    (mapping_form c.args.flow c.args.spaces (length c.args.whole.now) c.args.depth c.args.text.now c.in_default.ensures c.in_default-strip.ensures
    c.in-Some-strip-2.ensures.0 ∙ ap (placed_coll (length c.args.whole.now) c.args.depth 125) (sym c.in-Some-strip-2.ensures.1))
    c.read_mapping.ensures.read

pub read_form-returns-then-begins_content-clause-read : goal.read_form-returns-then-begins_content-clause-read
read_form-returns-then-begins_content-clause-read t c =
    gives_same _ c.read_text.result _ _
    (text_form c.args.flow c.args.spaces (length c.args.whole.now) c.args.depth c.args.text.now c.in_default.ensures c.in_default-strip.ensures
    c.in_default-strip-2.ensures (sym (c.if-begins_content.ensures ∙ ap (begins_content c.args.flow) c.as_bytes.ensures.value)))
    c.read_text.ensures.read

pub read_form-returns-clause-read : goal.read_form-returns-clause-read
read_form-returns-clause-read t c = let h =
    no_form c.args.flow c.args.spaces (length c.args.whole.now) c.args.depth c.args.text.now c.in_default.ensures c.in_default-strip.ensures
    c.in_default-strip-2.ensures (sym (c.if-begins_content.ensures ∙ ap (begins_content c.args.flow) c.as_bytes.ensures.value)) in simp the_lemmas h

pub read_item-returns-in-Err-clause-read : goal.read_item-returns-in-Err-clause-read
read_item-returns-in-Err-clause-read t c = item_fails c.in-Err.e (length c.args.whole.now) c.args.depth c.args.text.now c.in-Err.ensures.read

pub read_item-returns-in_err-after-in-Ok-clause-read : goal.read_item-returns-in_err-after-in-Ok-clause-read
read_item-returns-in_err-after-in-Ok-clause-read t c = search (rules, item_refused)

pub read_item-returns-in_ok-after-in-Ok-clause-read : goal.read_item-returns-in_ok-after-in-Ok-clause-read
read_item-returns-in_ok-after-in-Ok-clause-read t c =
    item_given (length c.args.whole.now) c.args.depth c.args.text.now (inline_view c.in-Ok.item) c.in-Ok.rest.now c.in_ok-after-in-Ok.after.now
    c.in-Ok.ensures.read c.in_ok-after-in-Ok.ensures.read

pub read_item-returns-in_ok-after-in-Ok-clause-shorter : goal.read_item-returns-in_ok-after-in-Ok-clause-shorter
read_item-returns-in_ok-after-in-Ok-clause-shorter t c = omega (arith, c.in_ok-after-in-Ok.ensures.shorter, node_shorter (length c.args.whole.now) c.args.depth c.args.text.now _ _ c.in-Ok.ensures.read c.in_ok-after-in-Ok.ensures.some)

pub read_sequence-returns-in_err-rest-clause-read : goal.read_sequence-returns-in_err-rest-clause-read
read_sequence-returns-in_err-rest-clause-read t c = search (rules, coll_unopened)

pub read_sequence-returns-in-Ok-clause-read : goal.read_sequence-returns-in-Ok-clause-read
read_sequence-returns-in-Ok-clause-read t c = let h =
    coll_given (length c.args.whole.now) c.args.depth 93 c.args.text.now c.in_ok-rest.rest.now (items_end c.in-Ok.items.items) c.in-Ok.rest.now
    c.in_ok-rest.ensures.read c.in-Ok.ensures.read in simp the_lemmas h

pub read_sequence-returns-in-Err-clause-read : goal.read_sequence-returns-in-Err-clause-read
read_sequence-returns-in-Err-clause-read t c = coll_fails c.in-Err.e (length c.args.whole.now) c.args.depth 93 c.args.text.now c.in_ok-rest.rest.now c.in_ok-rest.ensures.read c.in-Err.ensures.read

pub read_mapping-returns-in_err-rest-clause-read : goal.read_mapping-returns-in_err-rest-clause-read
read_mapping-returns-in_err-rest-clause-read t c = search (rules, coll_unopened)

pub read_mapping-returns-in-Ok-clause-read : goal.read_mapping-returns-in-Ok-clause-read
read_mapping-returns-in-Ok-clause-read t c = let h =
    coll_given (length c.args.whole.now) c.args.depth 125 c.args.text.now c.in_ok-rest.rest.now (entries_end c.in-Ok.entries.items) c.in-Ok.rest.now
    c.in_ok-rest.ensures.read c.in-Ok.ensures.read in simp the_lemmas h

pub read_mapping-returns-in-Err-clause-read : goal.read_mapping-returns-in-Err-clause-read
read_mapping-returns-in-Err-clause-read t c = coll_fails c.in-Err.e (length c.args.whole.now) c.args.depth 125 c.args.text.now c.in_ok-rest.rest.now c.in_ok-rest.ensures.read c.in-Err.ensures.read

pub read_node-returns-in_default-clause-read : goal.read_node-returns-in_default-clause-read
read_node-returns-in_default-clause-read t c = gives_same _ c.read_content.result _ _ (node_plain c.args.flow c.args.spaces (length c.args.whole.now) c.args.depth c.args.text.now c.in_default.ensures) c.read_content.ensures.read

pub read_node-returns-in_err-name-clause-read : goal.read_node-returns-in_err-name-clause-read
read_node-returns-in_err-name-clause-read t c = search (rules, node_no_name)

pub read_node-returns-in_err-gap-clause-read : goal.read_node-returns-in_err-gap-clause-read
read_node-returns-in_err-gap-clause-read t c = search (rules, node_no_lead)

pub read_node-returns-in-Err-clause-read : goal.read_node-returns-in-Err-clause-read
read_node-returns-in-Err-clause-read t c =
    node_fails c.in-Err.e c.args.flow c.args.spaces (length c.args.whole.now) c.args.depth c.args.text.now c.in_ok-name.name.now c.in_ok-name.rest.now c.in_ok-gap.gap.now c.in_ok-gap.rest.now
    c.in-Some.ensures.0 (rw c.in-Some.ensures.1 at c.in_ok-name.ensures.read) c.in_ok-gap.ensures.read c.in-Err.ensures.read
