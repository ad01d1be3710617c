use Rattle.std.proofs.Common.{sym, arith}
use Rattle.yq_outline.proofs.KnownWalks.{goes_to, known_line}
use Rattle.yq_row_walk.proofs.known_key.keyed.Goals as goal

pub returns-clause-found : goal.returns-clause-found
returns-clause-found c =
    goes_to c.args.walk.now.rows.now c.args.walk.now.document c.args.under c.args.floor c.args.known c.requires.under c.requires.known
    (λ y is. omega (arith, c.level_at-level.ensures y is, c.if-level-known.false)) c.args.key.now c.requires.keys
    (λ y is. omega (arith, c.level_at-level.ensures y is, c.if-level-known.false)) (λ h l is. sym (c.if-not-is_key.ensures h l is))

pub is_key-requires-clause-position : goal.is_key-requires-clause-position
is_key-requires-clause-position c =
    known_line c.args.walk.now.rows.now c.args.walk.now.document c.args.under c.args.floor c.args.known c.requires.under c.requires.known
    (λ y is. omega (arith, c.level_at-level.ensures y is, c.if-level-known.false)) c.requires.walk.document.are_there

pub returns-clause-within : goal.returns-clause-within
returns-clause-within c =
    known_line c.args.walk.now.rows.now c.args.walk.now.document c.args.under c.args.floor c.args.known c.requires.under c.requires.known
    (λ y is. omega (arith, c.level_at-level.ensures y is, c.if-level-known.false)) c.requires.walk.document.are_there
