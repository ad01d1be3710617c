use Rattle.std.{proofs.Common.{◌-◌, drop, inl, refl, sym, ◌∙◌, subst, arith}, proofs.lemmas.Result.IfOk-weaker, proofs.lemmas.Bool.ne_eqb}
use Rattle.yq_outline.{specs.Outline.level, specs.Ends.{has_no_lines, part}, specs.Sound.is_sound_outline}
use Rattle.yq_outline.proofs.EndsLaws.{is_at_end, not_end}
use Rattle.yq_outline.{proofs.EntryLaws.{start_asked, start_deep, start_bare, one_fails, one_passes, no_more}, proofs.LineEnds.end_counted}
use Rattle.yq_outline.{proofs.SoundLaws.{IsEntryLevel, entry_level}, specs.Lines.lines_of_rows, specs.RowWalk.line_number}
use Rattle.yq_outline.proofs.WalkPositions.{located, position_line}
use Rattle.yq_core.proofs.DistinctKeys.{distinct_agrees}
use Rattle.yq_documents.proofs.NodeLines.{bare_mark}
use Rattle.yq_inline.{specs.KeyTexts.key_texts, proofs.KeysLaws.{all_stay, more_own, more_stay, none_own}}
use Rattle.yq_compose.proofs.DecidingLaws.{decides_as, denies_as}
use Rattle.yq_compose.proofs.GivesLaws.{gives_all, gives_alone, gives_end, gives_none, moved_on, stop_same}
use Rattle.yq_compose.proofs.UnderLaws.{alone_sound, both_there, entry_is, none_sound, under_sound}
use Rattle.yq_compose.proofs.sound.+sound.Goals as goal

-- a line
pub check_line-returns-then-level-n-clause-sound : goal.check_line-returns-then-level-n-clause-sound
check_line-returns-then-level-n-clause-sound t c = λ r l is.
    let h = r.document in (rw (ne_eqb (level l) c.args.n (λ same. c.if-level-n.true (c.requires.at.agrees c.requires.line.upto h l is ∙ same))) refl)

pub check_line-returns-in-Err-clause-sound : goal.check_line-returns-in-Err-clause-sound
check_line-returns-in-Err-clause-sound t c = λ r l is.
    let h = r.document in
    let same = sym (c.requires.at.agrees c.requires.line.upto h l is) ∙ c.if-level-n.false in
    let none = (λ i. has_no_lines (part (lines_of_rows h.rows) (sym (c.line_after-after.ensures.number h) i) (same i))) ∙ is_at_end _ (c.if-not-is_deeper.ensures.test h) in
    denies_as c.in-Err.e _ _ (λ bad. alone_sound c.args.depth c.args.n l _ same none ∙ bad) (c.in-Err.ensures.sound r l is)

pub check_line-returns-in-Ok-clause-sound : goal.check_line-returns-in-Ok-clause-sound
check_line-returns-in-Ok-clause-sound t c = λ r l is.
    let h = r.document in
    let same = sym (c.requires.at.agrees c.requires.line.upto h l is) ∙ c.if-level-n.false in
    let none = (λ i. has_no_lines (part (lines_of_rows h.rows) (sym (c.line_after-after.ensures.number h) i) (same i))) ∙ is_at_end _ (c.if-not-is_deeper.ensures.test h) in
    alone_sound c.args.depth c.args.n l _ same none ∙ c.in-Ok.ensures.sound r l is

pub check_line-returns-in-Ok-clause-reached : goal.check_line-returns-in-Ok-clause-reached
check_line-returns-in-Ok-clause-reached t c = c.line_after-after.ensures.reached

pub check_line-returns-in-Ok-clause-after : goal.check_line-returns-in-Ok-clause-after
check_line-returns-in-Ok-clause-after t c =
    let x = c.args.x in
    gives_alone x.rows.now x.document c.args.at.position c.line_after-after.result.position c.args.n c.requires.ready.document c.requires.line c.line_after-after.ensures.reached.position c.line_after-after.ensures.number
    (λ h l is. sym c.if-level-n.false ∙ c.requires.at.agrees c.requires.line.upto h l is) (λ h. is_at_end _ (c.if-not-is_deeper.ensures.test h))

pub check_line-returns-then-has_head-clause-sound : goal.check_line-returns-then-has_head-clause-sound
check_line-returns-then-has_head-clause-sound t c = λ r l is.
    let h = r.document in
    let same = sym (c.requires.at.agrees c.requires.line.upto h l is) ∙ c.if-level-n.false in
    let some = (λ i. has_no_lines (part (lines_of_rows h.rows) (sym (c.line_after-after.ensures.number h) i) (same i))) ∙ not_end _ (c.if-not-is_deeper.ensures.test h) in
    both_there c.args.depth c.args.n l _ (c.if-has_head.ensures h l is) some

pub check_line-returns-clause-sound : goal.check_line-returns-clause-sound
check_line-returns-clause-sound t c = λ r l is.
    let h = r.document in
    let same = sym (c.requires.at.agrees c.requires.line.upto h l is) ∙ c.if-level-n.false in
    decides_as c.check_lines.result _ _
    ((λ i. is_sound_outline c.args.depth (part (lines_of_rows h.rows) (c.line_after-after.ensures.number h i) (sym same i))) ∙ under_sound c.args.depth c.args.n l _ same (c.if-has_head.ensures h l is))
    (c.check_lines.ensures.sound r)

pub check_line-returns-clause-after : goal.check_line-returns-clause-after
check_line-returns-clause-after t c =
    let x = c.args.x in
    IfOk-weaker c.check_lines.result _ _
    (λ q g.
    gives_end x.rows.now x.document c.args.at.position c.line_after-after.result.position q.position c.args.n c.requires.ready.document c.requires.line c.line_after-after.ensures.reached.position c.line_after-after.ensures.number
    (λ h l is. sym c.if-level-n.false ∙ c.requires.at.agrees c.requires.line.upto h l is) (λ h. not_end _ (c.if-not-is_deeper.ensures.test h)) g)
    c.check_lines.ensures.after

-- lines that are deeper than a level
pub check_lines-returns-then-not-is_deeper-clause-sound : goal.check_lines-returns-then-not-is_deeper-clause-sound
check_lines-returns-then-not-is_deeper-clause-sound t c = λ r.
    let h = r.document in none_sound c.args.depth _ (is_at_end _ (c.if-not-is_deeper.ensures.test h))

pub check_lines-returns-then-not-is_deeper-clause-after : goal.check_lines-returns-then-not-is_deeper-clause-after
check_lines-returns-then-not-is_deeper-clause-after t c =
    gives_none c.args.x.rows.now c.args.x.document c.args.start.position c.args.floor c.requires.start.position (λ h. is_at_end _ (c.if-not-is_deeper.ensures.test h))

pub check_lines-is_bare-requires-clause-line : goal.check_lines-is_bare-requires-clause-line
check_lines-is_bare-requires-clause-line t c = position_line c.args.x.rows.now c.args.x.document c.args.start.position c.requires.start.position (c.if-not-is_deeper.ensures.some refl)

pub check_lines-check_bare-requires-clause-line : goal.check_lines-check_bare-requires-clause-line
check_lines-check_bare-requires-clause-line t c = position_line c.args.x.rows.now c.args.x.document c.args.start.position c.requires.start.position (c.if-not-is_deeper.ensures.some refl)

pub check_lines-check_bare-requires-clause-deep : goal.check_lines-check_bare-requires-clause-deep
check_lines-check_bare-requires-clause-deep t c = λ h. not_end _ (c.if-not-is_deeper.ensures.test h)

pub check_lines-returns-then-is_bare-clause-sound : goal.check_lines-returns-then-is_bare-clause-sound
check_lines-returns-then-is_bare-clause-sound t c = λ r.
    let h = r.document in
    let k = located c.args.x.rows.now c.args.x.document h c.args.start.position (position_line c.args.x.rows.now c.args.x.document c.args.start.position c.requires.start.position (c.if-not-is_deeper.ensures.some refl)) in
    decides_as c.check_bare.result _ _
    (sym (start_bare (lines_of_rows h.rows) (line_number c.args.x.document h.rows c.args.start.position) c.args.floor c.args.depth k.line k.is
    (c.if-not-is_deeper.ensures.test h) (bare_mark k.line.mark (c.if-is_bare.ensures h k.line k.is))))
    (c.check_bare.ensures.sound r k.line k.is)

pub check_lines-returns-then-depth-eq0-clause-sound : goal.check_lines-returns-then-depth-eq0-clause-sound
check_lines-returns-then-depth-eq0-clause-sound t c = λ r.
    let h = r.document in
    let k = located c.args.x.rows.now c.args.x.document h c.args.start.position (position_line c.args.x.rows.now c.args.x.document c.args.start.position c.requires.start.position (c.if-not-is_deeper.ensures.some refl)) in
    start_deep (lines_of_rows h.rows) (line_number c.args.x.document h.rows c.args.start.position) c.args.floor c.args.depth k.line k.is
    (c.if-not-is_deeper.ensures.test h) (entry_is k.line.mark (c.if-is_bare.ensures h k.line k.is)) c.if-depth-eq0.true

pub check_lines-lines-init : goal.check_lines-lines-init
check_lines-lines-init t c =
    let at = position_line c.args.x.rows.now c.args.x.document c.args.start.position c.requires.start.position (c.if-not-is_deeper.ensures.some refl) in
    let rows = c.requires.ready.document in
    let first = located c.args.x.rows.now c.args.x.document rows c.args.start.position at in
    record {
      at = c.requires.start;
      moved = inl refl;
      more = omega (arith, c.if-depth-eq0.false);
      entries = subst IsEntryLevel (sym (c.requires.start.agrees at.upto rows first.line first.is)) (entry_level first.line (entry_is first.line.mark (c.if-is_bare.ensures rows first.line first.is)));
      keys = all_stay c.len-others.result c.args.keys.now.items (c.len-others.ensures ∙ c.args.keys.now.ok.0);
      so_far = λ r.
          let h = r.document in
          let k = located c.args.x.rows.now c.args.x.document h c.args.start.position at in
          rw (c.requires.start.agrees at.upto h k.line k.is, none_own c.len-others.result c.args.keys.now.items (c.len-others.ensures ∙ c.args.keys.now.ok.0))
          (start_asked (lines_of_rows h.rows) (line_number c.args.x.document h.rows c.args.start.position) c.args.floor c.args.depth k.line k.is
          (c.if-not-is_deeper.ensures.test h) (c.args.depth - 1) (entry_is k.line.mark (c.if-is_bare.ensures h k.line k.is))
          (omega (arith, c.if-depth-eq0.false)));
      stop = λ h. refl;
    }

pub check_lines-push_key-requires-clause-line : goal.check_lines-push_key-requires-clause-line
check_lines-push_key-requires-clause-line t c = position_line c.args.x.rows.now c.args.x.document c.lines.at.position c.lines.invariant.at.position (c.lines-test.ensures.some refl)

pub check_lines-returns-in-Err-clause-sound : goal.check_lines-returns-in-Err-clause-sound
check_lines-returns-in-Err-clause-sound t c = λ r.
    let h = r.document in
    let k = located c.args.x.rows.now c.args.x.document h c.lines.at.position (position_line c.args.x.rows.now c.args.x.document c.lines.at.position c.lines.invariant.at.position (c.lines-test.ensures.some refl)) in
    let num = line_number c.args.x.document h.rows in
    let ends = end_counted (lines_of_rows h.rows) (num c.lines.at.position) k.line k.is in
    denies_as c.in-Err.e _ _
    (λ bad.
    sym (one_fails (lines_of_rows h.rows) (num c.lines.at.position) c.args.floor _ (c.args.depth - 1) c.args.start.level
    (drop c.len-others.result (key_texts c.lines.keys.items)) k.line k.is (c.lines-test.ensures.test h) ends c.lines.invariant.entries _ (c.lines.invariant.so_far r)
    (sym bad)))
    (c.in-Err.ensures.sound r k.line k.is)

pub check_lines-lines-preserved : goal.check_lines-lines-preserved
check_lines-lines-preserved t c =
    let x = c.args.x in
    let at = position_line x.rows.now x.document c.lines.at.position c.lines.invariant.at.position (c.lines-test.ensures.some refl) in
    let g = c.in-Ok.ensures.after in
    record {
      at = c.in-Ok.ensures.reached;
      moved = moved_on c.args.start.position c.lines.at.position c.in-Ok.after.position c.lines.invariant.moved g.later;
      more = c.lines.invariant.more;
      entries = c.lines.invariant.entries;
      keys =
          let h = c.requires.ready.document in
          let k = located x.rows.now x.document h c.lines.at.position at in
          more_stay c.len-others.result _ _ _ _ c.lines.invariant.keys (c.in-Ok.ensures.kept ∙ c.in_ok-push_key.ensures h k.line k.is);
      so_far = λ r.
          let h = r.document in
          let k = located x.rows.now x.document h c.lines.at.position at in
          let num = line_number x.document h.rows in
          rw (more_own c.len-others.result _ _ _ _ c.lines.invariant.keys (c.in-Ok.ensures.kept ∙ c.in_ok-push_key.ensures h k.line k.is))
          (one_passes (lines_of_rows h.rows) (num c.lines.at.position) c.args.floor (num c.in-Ok.after.position) (c.args.depth - 1)
          c.args.start.level (drop c.len-others.result (key_texts c.lines.keys.items)) k.line k.is (c.lines-test.ensures.test h) (g.end h) c.lines.invariant.entries
          _ (c.lines.invariant.so_far r) (sym (c.in-Ok.ensures.sound r k.line k.is)));
      stop = λ h. stop_same x.rows.now x.document h c.args.start.position c.lines.at.position c.in-Ok.after.position c.args.floor at (c.lines.invariant.stop h) (not_end _ (c.lines-test.ensures.test h)) g;
    }

pub check_lines-returns-then-not-take_distinct-clause-sound : goal.check_lines-returns-then-not-take_distinct-clause-sound
check_lines-returns-then-not-take_distinct-clause-sound t c = λ r.
    let h = r.document in
    c.lines.invariant.so_far r ∙ (no_more (c.args.depth - 1) _ (drop c.len-others.result (key_texts c.lines.keys.items)) _ (c.lines-test.ensures.test h) ∙ distinct_agrees _ _ c.if-not-take_distinct.ensures.differ)

pub check_lines-returns-clause-sound : goal.check_lines-returns-clause-sound
check_lines-returns-clause-sound t c = λ r.
    let h = r.document in
    c.lines.invariant.so_far r ∙ (no_more (c.args.depth - 1) _ (drop c.len-others.result (key_texts c.lines.keys.items)) _ (c.lines-test.ensures.test h) ∙ distinct_agrees _ _ c.if-not-take_distinct.ensures.differ)

pub check_lines-returns-clause-after : goal.check_lines-returns-clause-after
check_lines-returns-clause-after t c =
    gives_all c.args.x.rows.now c.args.x.document c.args.start.position c.lines.at.position c.args.floor c.lines.invariant.at.position c.lines.invariant.stop c.lines.invariant.moved (λ h. is_at_end _ (c.lines-test.ensures.test h))

pub check_lines-returns-clause-reached : goal.check_lines-returns-clause-reached
check_lines-returns-clause-reached t c = c.lines.invariant.at

pub check_lines-returns-then-not-is_deeper-clause-reached : goal.check_lines-returns-then-not-is_deeper-clause-reached
check_lines-returns-then-not-is_deeper-clause-reached t c = c.requires.start

pub check_lines-check_line-requires : goal.check_lines-check_line-requires
check_lines-check_line-requires t c =
    let line = position_line c.args.x.rows.now c.args.x.document c.lines.at.position c.lines.invariant.at.position (c.lines-test.ensures.some refl) in
    (omega (arith, c.lines.invariant.more), (c.requires.ready, (c.lines.invariant.at, line)))

pub check_line-check_lines-requires : goal.check_line-check_lines-requires
check_line-check_lines-requires t c = (omega arith, (c.requires.ready, c.line_after-after.ensures.reached))

pub check_lines-returns-then-not-take_distinct-clause-fault : goal.check_lines-returns-then-not-take_distinct-clause-fault
check_lines-returns-then-not-take_distinct-clause-fault t c = c.row_fault-then-not-take_distinct.ensures

pub check_lines-repeated_line-requires-clause-start : goal.check_lines-repeated_line-requires-clause-start
check_lines-repeated_line-requires-clause-start t c = c.requires.start.position

pub check_lines-returns-clause-kept : goal.check_lines-returns-clause-kept
check_lines-returns-clause-kept t c = c.take_distinct.ensures.kept ∙ c.lines.invariant.keys.kept
