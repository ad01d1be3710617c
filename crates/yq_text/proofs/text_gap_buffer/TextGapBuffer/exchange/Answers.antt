use Rattle.yq_text.{proofs.RoomLaws.is_room, specs.TextGapBuffer.TextGapView, proofs.SplitLaws.{kept_written, written_back}}
use Rattle.std.{proofs.Common.{rules, sym, subst, length, ◌≤◌, ◌+◌}, specs.Str.IsCharBoundary}
use Rattle.yq_text.proofs.text_gap_buffer.TextGapBuffer.exchange.Goals as goal

pub invariant_of-self : goal.invariant_of-self
invariant_of-self c = search (rules, kept_written)

pub returns-clause-back : goal.returns-clause-back
returns-clause-back c = search (rules, written_back)

pub overflow_add-self-2 : goal.overflow_add-self-2
overflow_add-self-2 c = (is_room c.self.inside.bytes c.args.text.now c.self.inside.front c.self.inside.back c.args.gone c.self.invariant
    (subst (λ (s : TextGapView). IsCharBoundary s.back c.args.gone) (sym c.self.view_is) c.requires.gone)
    (subst (λ (s : TextGapView). length c.args.text.now ≤ s.room + c.args.gone) (sym c.self.view_is) c.requires.room)).fits
