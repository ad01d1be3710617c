use Rattle.std.proofs.Common.{◌≡◌, ◌++◌, ◌∙◌, ℕ, List, length, ap, sym, arith, rules, length-drop, string_bytes}
use Rattle.yq_core.specs.Text.{unless, upto}
use Rattle.yq_expr_parser.{specs.Lexing.is_plain_byte, proofs.Content.{content_next, content_done}}
use Rattle.yq_expr_parser.proofs.token.unescape.content.Goals as goal

pub runs-preserved : goal.runs-preserved
runs-preserved c =
    let run = c.split_plain.result.0.now in
    let character = c.in-Some.character.now in
    let pushed : string_bytes c.push_str-in-Some.new.self ≡ (string_bytes c.runs.out ++ run) ++ character =
    c.in_ok-push_str-in-Some.ensures.bytes ∙ ap (λ (s : List ℕ). s ++ character) c.in_ok-push_str.ensures.bytes in
    (search rules, rw pushed (content_next _ _ c.runs.rest.now run _ character _ c.runs.invariant.1 c.split_plain.ensures (sym c.in-Some.ensures.value)))

pub returns-in-None : goal.returns-in-None
returns-in-None c =
    c.in_ok-push_str.ensures.bytes ∙ content_done _ _ c.runs.rest.now c.split_plain.result.0.now _ c.runs.invariant.1 c.split_plain.ensures (sym c.in-None.ensures.value)

pub runs-smaller : goal.runs-smaller
runs-smaller c =
    omega (arith, c.in-Some.ensures.shorter, ap (λ (p : List ℕ × List ℕ). length p.1) c.split_plain.ensures, length-drop (upto (unless is_plain_byte) c.runs.rest.now) c.runs.rest.now)
