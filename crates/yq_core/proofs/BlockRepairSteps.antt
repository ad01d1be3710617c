-- Steps of the loop that repairs a gap.
use Rattle.std.proofs.Common.{◌≡◌, ℕ, Bool, true, false, cond, List, [], ◌∷◌, ◌++◌, sym, ap, ◌∙◌, append_assoc, append-nil, rules}
use Rattle.yq_core.{proofs.LineLaws.joined_lines, specs.BlockRepair.{repaired_blank, repaired_comment, repair}, specs.Lines.is_blank}
use Rattle.yq_core.specs.Text.{text_lines, joined}

-- what is written for a blank line
abbrev written_blank : Bool → ℕ → List ℕ → List ℕ
written_blank keep m l = cond keep [] (repaired_blank m l)

-- a blank line, which goes or stays
pub blank_step : (keep : Bool) (m column : ℕ) (t l a out mid all : List ℕ) (b : Bool) → text_lines t ≡ l ∷ text_lines a → b ≡ is_blank l → b ≡ true →
    mid ≡ out ++ written_blank keep m l → out ++ joined (repair keep m column (text_lines t)) ≡ all → mid ++ joined (repair keep m column (text_lines a)) ≡ all
unfolding repair
blank_step keep m column t l a out mid all b e is blank on so_far = search (rules, append_assoc)

-- the first comment line, and all that follows it
pub comment_step : (keep : Bool) (m column : ℕ) (t l a out mid end all : List ℕ) (b : Bool) → text_lines t ≡ l ∷ text_lines a → b ≡ is_blank l → b ≡ false →
    mid ≡ out ++ repaired_comment m column l → end ≡ mid ++ a → out ++ joined (repair keep m column (text_lines t)) ≡ all → end ≡ all
unfolding repair
comment_step keep m column t l a out mid end all b e is blank on after so_far = search (rules, joined_lines, append_assoc)

pub repair_end : (keep : Bool) (m column : ℕ) (t out all : List ℕ) → t ≡ [] → out ++ joined (repair keep m column (text_lines t)) ≡ all → out ≡ all
unfolding repair text_lines
repair_end keep m column t out all h so_far = sym (append-nil out) ∙ (ap (λ x. out ++ joined (repair keep m column (text_lines x))) (sym h) ∙ so_far)
