-- A block scalar, both ways.
use Rattle.std.{proofs.Common.{◌≡◌, ℕ, List, ◌++◌, Some, sym, ap, ◌∙◌, rules}, proofs.lemmas.List.append_cancel_left}
use Rattle.std.proofs.lemmas.Option.{same_Some}
use Rattle.yq_core.{proofs.Bools.bind_some, proofs.DetectedLaws.{indent_takes, indent_again}}
use Rattle.yq_core.proofs.HeaderLaws.{style_takes, indicators_takes, tail_takes, tail_again, tail_no_indicator, indicators_again}
use Rattle.yq_core.proofs.LineLaws.{joined_lines, lines_are, joined-append}
use Rattle.yq_core.{proofs.RawLaws.{raw_split, IsRaw, raw_takes, raw_again, lines_raw}, specs.Block.{keeps, BlockText, block_text, IsBlock}}
use Rattle.yq_core.specs.BlockReading.{raw_at, indent_at, read_style, indicators_at, read_header_tail, block_after, block_at}
use Rattle.yq_core.specs.Text.{text_lines, joined}

-- the text of what is read
pub block_takes : (least : ℕ) (t : List ℕ) (x : BlockText × List ℕ) → block_at least t ≡ Some x → (t ≡ block_text x.0 x.1) × IsBlock least x.0 x.1
unfolding block_at block_after
block_takes least t x h =
    let s = bind_some (read_style t) h in
    let m = indicators_at s.0.1 in
    let tail = bind_some (read_header_tail m.3) s.2 in
    let ls = text_lines tail.0.1 in
    let indent = bind_some (indent_at least m.0 ls) tail.2 in
    let raw = bind_some (raw_at (keeps m.1) indent.0 ls) indent.2 in
    let is : (record { style = s.0.0; digit = m.0; chomping = m.1; indicators = m.2; tail = tail.0.0; raw = raw.0.0; indent = indent.0 }, joined raw.0.1) ≡ x = same_Some _ _ raw.2 in
    let cut : ls ≡ raw.0.0 ++ raw.0.1 = raw_split (keeps m.1) indent.0 ls raw.0 raw.1 in
    let are : IsRaw (keeps m.1) indent.0 raw.0 = raw_takes (keeps m.1) indent.0 ls raw.0 (lines_are tail.0.1) raw.1 in
    let text : tail.0.1 ≡ joined raw.0.0 ++ joined raw.0.1 = sym (joined_lines tail.0.1) ∙ (ap joined cut ∙ joined-append raw.0.0 raw.0.1) in
    let after : raw.0.1 ≡ text_lines (joined raw.0.1) = search (rules, append_cancel_left, lines_raw, are, raw, cut, text, indent) in
    let line = tail_takes m.3 tail.0 tail.1 in
    let indicators = indicators_takes s.0.1 in
    search (rules, style_takes, indent_takes, lines_are)

pub block_again : (least : ℕ) (b : BlockText) (rest : List ℕ) → IsBlock least b rest → block_at least (block_text b rest) ≡ Some (b, rest)
unfolding block_at block_after read_style
block_again least b rest h =
    let after = joined b.raw ++ rest in
    let indicators = indicators_again b.digit b.chomping b.indicators (b.tail ++ after) h.indicators (tail_no_indicator b.tail after h.tail) in
    search (rules, tail_again, joined_lines, lines_raw, indent_again, raw_again, indicators, after)

pub one_block : (least : ℕ) (a b : BlockText) (rest other : List ℕ) → block_text a rest ≡ block_text b other → IsBlock least a rest → IsBlock least b other → (a ≡ b) × (rest ≡ other)
one_block least a b rest other e h k =
    let same : (a, rest) ≡ (b, other) = same_Some _ _ (sym (block_again least a rest h) ∙ (ap (block_at least) e ∙ block_again least b other k)) in
    (ap (λ (y : BlockText × List ℕ). y.0) same, ap (λ (y : BlockText × List ℕ). y.1) same)
