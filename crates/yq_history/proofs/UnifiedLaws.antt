-- What is printed of the parts of two texts is a diff of these.
use Rattle.std.{proofs.Common.{rules, ◌≡◌, ℕ, ◌<◌, ◌^◌, List, [], ◌++◌, length, sym, ap, ◌∙◌, arith}, specs.List.flat_map}
use Rattle.yq_core.specs.Text.{text_lines}
use Rattle.yq_history.{specs.Hunks.{Hunk, Applies, IsDiff}, specs.Unified.{IsPrintedDiff, print_diff, print_hunk, print_names}}
use Rattle.yq_history.{specs.DiffParts.{ArePartsOf, hunks_of, new_parts, old_parts}, specs.DiffPrinting.{opened, print_parts}}
use Rattle.yq_history.{proofs.HunkLaws.{hunks_apply, hunks_back}, proofs.LineCuts.{lines_within, same_lines}, proofs.DiffPrintLaws.print_is}
use Rattle.yq_history.specs.declared.diff.part.Part.{Part}

-- the hunks of the parts of two texts that differ are a diff of these
is_diff : (ps : List Part) (old new : List ℕ) → ArePartsOf ps old new → (old ≡ new → ⊥) → IsDiff (hunks_of ps) old new
is_diff ps old new are differ = search (rules, hunks_apply, hunks_back)

-- there is a hunk, and the names are above it
named : (hs : List Hunk) (name old new : List ℕ) → Applies 0 hs (text_lines old) (text_lines new) → (old ≡ new → ⊥) →
    print_diff name hs ≡ print_names name ++ flat_map print_hunk hs
named hs name old new same differ = search (rules, same_lines)

pub printed_diff : (name old new out : List ℕ) (ps : List Part) → ArePartsOf ps old new → (old ≡ new → ⊥) →
    out ≡ print_names name ++ print_parts (opened 0 0) ps → IsPrintedDiff name old new out
printed_diff name old new out ps are differ is =
    let d = is_diff ps old new are differ in
    record { hunks = hunks_of ps; diff = d; print = is ∙ (ap (λ x. print_names name ++ x) (print_is 0 0 [] ps) ∙ sym (named (hunks_of ps) name old new d.forward differ)) }

-- the lines of parts are no more than the bytes of their texts
pub old_few : (ps : List Part) (old new : List ℕ) → ArePartsOf ps old new → length old < 2 ^ 64 → length (old_parts ps) < 2 ^ 64
old_few ps old new are small = omega (arith, ap length are.old_lines, lines_within old, small)

pub new_few : (ps : List Part) (old new : List ℕ) → ArePartsOf ps old new → length new < 2 ^ 64 → length (new_parts ps) < 2 ^ 64
new_few ps old new are small = omega (arith, ap length are.new_lines, lines_within new, small)
