use Rattle.std.proofs.Common.{◌≡◌, ◌⊎◌, ◌+◌, ◌-◌, ◌*◌, ◌<◌, drop}
use Rattle.yq_outline.{specs.Ends.part, specs.Sound.is_sound_outline, proofs.SoundLaws.{asked, IsEntryLevel}}
use Rattle.yq_outline.specs.RowWalk.{OfLines, lines_stop}
use Rattle.yq_inline.{specs.KeyTexts.key_texts, proofs.KeysLaws.KeysStay}
use Rattle.yq_compose.specs.Checking.{IsReached, OfChecked}
use Rattle.yq_compose.proofs.sound.+sound.Given as goal

abbrev pub decreases-check_lines : goal.decreases-check_lines
decreases-check_lines l = 2 * l.depth

abbrev pub decreases-check_line : goal.decreases-check_line
decreases-check_line l = 2 * l.depth + 1

abbrev pub decreases-check_lines-lines : goal.decreases-check_lines-lines
decreases-check_lines-lines l = l.x.document.end - l.at.position.row

-- what is asked of all lines is what is asked from here on, and they end where those end
abbrev pub invariant-check_lines-lines : goal.invariant-check_lines-lines
invariant-check_lines-lines l = record {
  at : IsReached l.x.decoded.now l.x.rows.now l.x.document l.at;
  moved : (l.at.position ≡ l.start.position) ⊎ (l.start.position.row < l.at.position.row);
  more : 0 < l.depth;
  entries : IsEntryLevel l.start.level;
  keys : KeysStay l.others (key_texts l.fn.keys.items) (key_texts l.keys.items);
  so_far : OfChecked l.x (λ ls num. is_sound_outline l.depth (part ls (num l.start.position) l.floor) ≡ asked (l.depth - 1) l.start.level (drop l.others (key_texts l.keys.items)) (part ls (num l.at.position) l.floor));
  stop : OfLines l.x.rows.now l.x.document (λ ls num. lines_stop (num l.start.position) l.floor ls ≡ lines_stop (num l.at.position) l.floor ls);
}
