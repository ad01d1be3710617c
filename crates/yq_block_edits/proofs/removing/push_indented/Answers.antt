use Rattle.std.{proofs.Common.{◌≡◌, ℕ, List, [], ◌∷◌, ◌++◌, append_assoc, ap, ◌∙◌, subst}, specs.Prelude.OnOk, specs.String.string_bytes}
use Rattle.yq_text.{specs.Halves.whole, specs.Script.{Segment, keep, put}}
use Rattle.yq_block_edits.proofs.removing.push_indented.Goals as goal

pub returns : goal.returns
returns c =
    let first : Segment = put (whole c.of.result) (string_bytes c.in_ok-indent.indent) in
    let white = ap (λ (x : List ℕ × List ℕ). x.0) c.split_white.ensures in
    let rest = ap (λ (x : List ℕ × List ℕ). x.1) c.split_white.ensures in
    subst (λ (x : List Segment). OnOk c.push-2.result (c.push-2.new.self ≡ x))
    (ap (λ (x : List Segment). x ++ (keep (whole c.of-2.result) ∷ [])) c.in_ok-push.ensures
    ∙ (append_assoc c.args.segments.now (first ∷ []) (keep (whole c.of-2.result) ∷ [])
    ∙ λ i. c.args.segments.now ++ (put ((c.of.ensures.whole ∙ white) i) (c.in_ok-indent.ensures i) ∷ (keep ((c.of-2.ensures.whole ∙ rest) i) ∷ [])))) c.push-2.ensures
