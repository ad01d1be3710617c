use Rattle.std.{proofs.Common.{◌+◌, sym, ap, ◌∙◌, refl}, specs.Prelude.is_some}
use Rattle.yq_outline.{specs.Ends.{has_no_lines, part}, specs.Sound.head_is_sound, proofs.EndsLaws.{is_at_end, not_end}}
use Rattle.yq_outline.{specs.Lines.lines_of_rows, specs.RowWalk.line_number}
use Rattle.yq_compose.{proofs.DecidingLaws.denies_as, proofs.GivesLaws.gives_bare, proofs.UnderLaws.{bare_head, bare_passes, bare_under}}
use Rattle.yq_compose.proofs.sound.check_bare.Goals as goal

pub returns-then-not-has_head-clause-sound : goal.returns-then-not-has_head-clause-sound
returns-then-not-has_head-clause-sound c = λ r l is.
    let h = r.document in (rw (sym (c.if-not-has_head.ensures h l is)) refl)

pub returns-then-is_deeper-clause-sound : goal.returns-then-is_deeper-clause-sound
returns-then-is_deeper-clause-sound c = λ r l is.
    let h = r.document in
    bare_under _ _ (head_is_sound c.args.depth l.head)
    (ap (λ m. has_no_lines (part (lines_of_rows h.rows) m c.args.floor)) (sym (c.line_after-after.ensures.number h)) ∙ not_end _ (c.if-is_deeper.ensures.test h))

pub returns-in-Err-clause-sound : goal.returns-in-Err-clause-sound
returns-in-Err-clause-sound c = λ r l is.
    let h = r.document in
    denies_as c.in-Err.e (head_is_sound c.args.depth l.head) _
    (bare_head (is_some l.head) (has_no_lines (part (lines_of_rows h.rows) (line_number c.args.x.document h.rows c.args.at.position + 1) c.args.floor)) (head_is_sound c.args.depth l.head))
    (c.in-Err.ensures.sound r l is)

pub returns-in-Ok-clause-sound : goal.returns-in-Ok-clause-sound
returns-in-Ok-clause-sound c = λ r l is.
    let h = r.document in
    bare_passes _ _ _ (c.if-not-has_head.ensures h l is)
    (ap (λ m. has_no_lines (part (lines_of_rows h.rows) m c.args.floor)) (sym (c.line_after-after.ensures.number h)) ∙ is_at_end _ (c.if-is_deeper.ensures.test h))
    (c.in-Ok.ensures.sound r l is)

pub returns-in-Ok-clause-after : goal.returns-in-Ok-clause-after
returns-in-Ok-clause-after c =
    gives_bare c.args.x.rows.now c.args.x.document c.args.at.position c.line_after-after.result.position c.args.floor c.requires.line
    c.line_after-after.ensures.reached.position c.line_after-after.ensures.number c.if-not-has_head.ensures c.requires.deep
    (λ h. is_at_end _ (c.if-is_deeper.ensures.test h))

pub returns-in-Ok-clause-reached : goal.returns-in-Ok-clause-reached
returns-in-Ok-clause-reached c = c.line_after-after.ensures.reached
