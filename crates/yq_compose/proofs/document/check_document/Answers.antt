use Rattle.std.proofs.Common.{ℕ, ◌&&◌, sym, ap, ◌∙◌, refl, arith}
use Rattle.yq_core.specs.Inline.{depth_limit}
use Rattle.yq_outline.{specs.Ends.part, specs.LinesReading.lines_are_sound, specs.Sound.is_sound_outline}
use Rattle.yq_outline.{proofs.NameLaws.{lines_named, lines_unsound}, specs.Lines.lines_of_rows, specs.RowWalk.line_number}
use Rattle.yq_outline.proofs.WalkPositions.{first_number}
use Rattle.yq_compose.{proofs.DecidingLaws.{decides_as, denies_as}, proofs.HeadsApart.heads_apart}
use Rattle.yq_compose.proofs.document.check_document.Goals as goal

pub with_level-start-requires-clause-position : goal.with_level-start-requires-clause-position
with_level-start-requires-clause-position c = record { from = omega arith; upto = c.requires.ready.document.order; line = λ x e. omega arith; last = λ e. refl }

pub ahead_from-requires : goal.ahead_from-requires
ahead_from-requires c = c.requires.ready.rise

pub returns-then-not-has_short_root-clause-sound : goal.returns-then-not-has_short_root-clause-sound
returns-then-not-has_short_root-clause-sound c = λ k. ap (λ b. b && lines_are_sound (lines_of_rows k.document.rows)) (sym (c.if-not-has_short_root.ensures k.document))

pub returns-clause-sound : goal.returns-clause-sound
returns-clause-sound c = λ k.
    let ls = lines_of_rows k.document.rows in
    denies_as c.in-Err.e _ _
    (λ bad.
    let unsound = lines_unsound ls
    (sym (ap (λ (n : ℕ). is_sound_outline depth_limit (part ls n 0))
    (first_number c.args.x.document k.document.rows
    ∙ ap (line_number c.args.x.document k.document.rows) (sym c.with_level-start.ensures.position)) ∙ bad)) in
    (λ i. sym (c.if-not-has_short_root.ensures k.document) i && sym unsound i))
    (c.in-Err.ensures.sound k)

pub returns-in-Ok-clause-sound : goal.returns-in-Ok-clause-sound
returns-in-Ok-clause-sound c = λ k.
    let ls = lines_of_rows k.document.rows in
    let h = k.document in
    let sound = sym (ap (λ (n : ℕ). is_sound_outline depth_limit (part ls n 0)) (first_number c.args.x.document h.rows ∙ ap (line_number c.args.x.document h.rows) (sym c.with_level-start.ensures.position)) ∙ c.in-Ok.ensures.sound k) in
    decides_as c.check_names.result _ _
    (lines_named ls (heads_apart h.limit h.rows h.end h.rest h.valid) sound ∙ ap (λ b. b && lines_are_sound ls) (c.if-not-has_short_root.ensures h))
    (c.check_names.ensures.sound k)
