use Rattle.std.{proofs.Common.{◌≡◌, ◌+◌, ◌-◌, subst, arith}, proofs.lemmas.Str.IsCharBoundary-after_ascii, specs.Str.IsCharBoundary}
use Rattle.yq_expr_parser.proofs.token.unescape.skip.Goals as goal

pub range_from-requires : goal.range_from-requires
range_from-requires c _ =
    let s = c.args.text.now in
    let i = c.args.n - 1 in
    let more : i + 1 ≡ c.args.n = omega (arith, c.requires.some) in
    subst (IsCharBoundary s) more (IsCharBoundary-after_ascii s i c.utf8.text (omega (arith, c.requires.some, c.requires.within)) c.requires.ascii)
