use Rattle.std.{proofs.Common.{rules, ◌≡◌, length, Some, sym, ap, ◌∙◌}, specs.Vec.vec_len}
use Rattle.yq_core.specs.Entries.{tree_step}
use Rattle.yq_text.specs.Halves.{whole}
use Rattle.yq_documents.{specs.Located.steps_of, specs.Reading.cut_of}
use Rattle.yq_places.{specs.Placements.placement_at, proofs.EntryNumbers.entry_found}
use Rattle.yq_places.proofs.PlacementViewLaws.{no_placement, some_steps, placement_there}
use Rattle.yq_lookup.proofs.cut_text.CutText.placement.Goals as goal

pub entry_placement-requires : goal.entry_placement-requires
entry_placement-requires c =
    let f = rw (← c.whole-text.ensures.text) at (entry_found c.args.self.now c.rows.result.now c.args.path.now.doc (steps_of c.args.path.now) c.in_ok-entry.entry c.whole-text.ensures.cut c.rows.ensures.rows c.in_ok-entry.ensures) in
    record { entry = f.entry; is = f.is }

pub returns-in_err-entry : goal.returns-in_err-entry
returns-in_err-entry c =
    let counted : vec_len c.args.path.now.steps ≡ length c.args.path.now.steps.items = search rules in
    let some = some_steps tree_step c.args.path.now.steps.items (sym c.is_empty.ensures ∙ c.if-is_empty.false) counted in
    rw c.from_residual.ensures (no_placement c.args.path.now.doc (steps_of c.args.path.now) (cut_of c.args.self.now) c.in_err-entry.ensures some)

pub returns : goal.returns
returns c =
    let f = rw (← c.whole-text.ensures.text) at (entry_found c.args.self.now c.rows.result.now c.args.path.now.doc (steps_of c.args.path.now) c.in_ok-entry.entry c.whole-text.ensures.cut c.rows.ensures.rows c.in_ok-entry.ensures) in
    let counted : vec_len c.args.path.now.steps ≡ length c.args.path.now.steps.items = search rules in
    let some = some_steps tree_step c.args.path.now.steps.items (sym c.is_empty.ensures ∙ c.if-is_empty.false) counted in
    ap Some (c.entry_placement.ensures f.entry f.is)
    ∙ (placement_there (whole c.whole-text.result) c.rows.result.now c.args.path.now.doc (steps_of c.args.path.now) c.in_ok-entry.entry f some
    ∙ ap (λ t. placement_at c.args.path.now.doc (steps_of c.args.path.now) (cut_of t)) c.whole-text.ensures.text)
