use Rattle.std.{proofs.Common.{Some, sym, ap, ◌∙◌, [], refl}, specs.Prelude.option_map}
use Rattle.yq_outline.{specs.Sound.head_is_sound, proofs.WalkPositions.located}
use Rattle.yq_compose.{specs.Flows.flow_view, proofs.DecidingLaws.decides_as}
use Rattle.yq_compose.proofs.HeadViewLaws.{alias_sound, flow_line, head_free, head_sound, headless, row_of_cut}
use Rattle.yq_compose.proofs.nested.flow_fault.Goals as goal

pub row_flow-requires-clause-decoded : goal.row_flow-requires-clause-decoded
row_flow-requires-clause-decoded c = c.requires.at.decoded

pub returns-in-None-clause-sound : goal.returns-in-None-clause-sound
returns-in-None-clause-sound c = λ r l is.
    let x = c.args.x in
    let found = c.row_flow.ensures r (located x.rows.now x.document r.document c.args.at.position c.requires.line).row (row_of_cut x.text.now x.rows.now x.decoded.now x.document r c.args.at.position c.requires.line) in
    head_free x.text.now x.rows.now x.decoded.now x.document r c.args.at.position c.requires.line l is c.args.depth (sym found ∙ ap (option_map flow_view) c.in-None.is)

pub returns-then-is_shallow-clause-sound : goal.returns-then-is_shallow-clause-sound
returns-then-is_shallow-clause-sound c = λ r l is.
    let x = c.args.x in
    let found = c.row_flow.ensures r (located x.rows.now x.document r.document c.args.at.position c.requires.line).row (row_of_cut x.text.now x.rows.now x.decoded.now x.document r c.args.at.position c.requires.line) in
    head_sound x.text.now x.rows.now x.decoded.now x.document r c.args.at.position c.requires.line l is c.args.depth _ (sym found ∙ ap (option_map flow_view) c.in-Some.is) (c.if-is_shallow.ensures refl)

pub returns-then-not-has_head-clause-sound : goal.returns-then-not-has_head-clause-sound
returns-then-not-has_head-clause-sound c = λ r l is. headless c.args.depth l.head (c.if-not-has_head.ensures r.document l is)

pub returns-in-Owned-clause-sound : goal.returns-in-Owned-clause-sound
returns-in-Owned-clause-sound c = λ r l is.
    let x = c.args.x in
    let found = c.row_flow.ensures r (located x.rows.now x.document r.document c.args.at.position c.requires.line).row (row_of_cut x.text.now x.rows.now x.decoded.now x.document r c.args.at.position c.requires.line) in
    let flow = sym found ∙ ap (option_map flow_view) (c.in-Some.is ∙ ap Some c.in-Owned.is) in
    decides_as c.node_fault.result _ _
    (ap (head_is_sound c.args.depth)
    (flow_line x.text.now x.rows.now x.decoded.now x.document r c.args.at.position c.requires.line l is _ flow
    (c.if-not-has_head.ensures r.document l is))) c.node_fault.ensures.sound

pub returns-in-Borrowed-clause-sound : goal.returns-in-Borrowed-clause-sound
returns-in-Borrowed-clause-sound c = λ r l is.
    let x = c.args.x in
    let found = c.row_flow.ensures r (located x.rows.now x.document r.document c.args.at.position c.requires.line).row (row_of_cut x.text.now x.rows.now x.decoded.now x.document r c.args.at.position c.requires.line) in
    let flow = sym found ∙ ap (option_map flow_view) (c.in-Some.is ∙ ap Some c.in-Borrowed.is) in
    decides_as c.borrowed_fault.result _ _
    (ap (head_is_sound c.args.depth)
    (flow_line x.text.now x.rows.now x.decoded.now x.document r c.args.at.position c.requires.line l is _ flow
    (c.if-not-has_head.ensures r.document l is))) c.borrowed_fault.ensures.sound

pub returns-in-Alias-clause-sound : goal.returns-in-Alias-clause-sound
returns-in-Alias-clause-sound c = λ r l is.
    let x = c.args.x in
    let found = c.row_flow.ensures r (located x.rows.now x.document r.document c.args.at.position c.requires.line).row (row_of_cut x.text.now x.rows.now x.decoded.now x.document r c.args.at.position c.requires.line) in
    let flow = sym found ∙ ap (option_map flow_view) (c.in-Some.is ∙ ap Some c.in-Alias.is) in
    sym (ap (head_is_sound c.args.depth) (flow_line x.text.now x.rows.now x.decoded.now x.document r c.args.at.position c.requires.line l is _ flow (c.if-not-has_head.ensures r.document l is))) ∙ alias_sound c.args.depth []
