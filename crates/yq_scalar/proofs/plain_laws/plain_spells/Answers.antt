use Rattle.yq_core.specs.Writable.{in_flow}
use Rattle.yq_core.proofs.PlainSpells.{plain_is_text, plain_line, plain_opens, plain_some, writable_text, writable_same, writable_piece}
use Rattle.yq_core.proofs.PlainWritten.{plain_text_parts}
use Rattle.yq_scalar.proofs.plain_laws.plain_spells.Goals as goal

pub returns-clause-piece : goal.returns-clause-piece
returns-clause-piece c s place spaces rest h =
    writable_piece s (in_flow place) spaces rest h.text.utf8 h.text.plain.kind h.text.plain.writable h.ends

pub returns-clause-line : goal.returns-clause-line
returns-clause-line c s place h =
    plain_line (in_flow place) s.text h.utf8 (writable_text s.kind s.text (in_flow place) h.plain.kind h.plain.writable)

pub returns-clause-same : goal.returns-clause-same
returns-clause-same c s place h = writable_same s.kind s.text (in_flow place) h.kind h.writable

pub returns-clause-text : goal.returns-clause-text
returns-clause-text c s place h =
    plain_is_text (in_flow place) s.text h.utf8 (writable_text s.kind s.text (in_flow place) h.plain.kind h.plain.writable)

pub returns-clause-some : goal.returns-clause-some
returns-clause-some c s place h = plain_some (in_flow place) s.text (writable_text s.kind s.text (in_flow place) h.kind h.writable)

pub returns-clause-opens : goal.returns-clause-opens
returns-clause-opens c s place test h only dash =
    plain_opens test s.text only dash (plain_text_parts (in_flow place) s.text (writable_text s.kind s.text (in_flow place) h.kind h.writable)).1
