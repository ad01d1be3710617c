-- The break that ends a text, and what comes after the last line of a content.
use Rattle.std.proofs.Common.{◌≡◌, ℕ, true, false, cond, List, [], ◌∷◌, ◌++◌, ap, ◌∙◌, rules}
use Rattle.yq_core.{specs.Block.AreRaw, specs.Text.{is_empty, is_feed, is_line, joined}, specs.declared.block_lines.TextIndent.TextIndent}
use Rattle.yq_core.proofs.BlockPieceLaws.{IsLf, line_lf, raw_lf}
use Rattle.yq_places.specs.PrintedLines.{less_break, last_break}

-- no byte of a text is an LF
abbrev pub HasNoFeed : List ℕ → Type 0
HasNoFeed [] = Unit {0}
HasNoFeed (b ∷ bs) = (is_feed b ≡ false) × HasNoFeed bs

following_last : (f : List ℕ) → is_line (last_break (f ++ (10 ∷ []))) ≡ true
unfolding less_break is_line
following_last (b ∷ (d ∷ [])) = following_last (d ∷ [])
following_last (b ∷ (d ∷ (e ∷ f))) = following_last (d ∷ (e ∷ f))
following_last f = search rules

pub lf_last : (t : List ℕ) → IsLf t → is_line (last_break t) ≡ true
lf_last t h = ap (λ x. is_line (last_break x)) h.1 ∙ following_last h.0

pub line_last : (t : List ℕ) → is_line t ≡ true → is_line (last_break t) ≡ true
line_last t h = lf_last t (line_lf t h)

-- the raw lines of a block scalar, if there are some, end in a break
pub raw_last : (f : TextIndent) (raw : List (List ℕ)) (tail : List ℕ) → AreRaw f raw → is_line tail ≡ true → is_line (cond (is_empty (joined raw)) (last_break tail) (last_break (joined raw))) ≡ true
raw_last f raw tail h t = search (rules, raw_lf, line_last, lf_last)

-- where no LF is in a text, no break ends it
pub no_last : (t : List ℕ) → HasNoFeed t → last_break t ≡ []
unfolding less_break
no_last (b ∷ (d ∷ (e ∷ t))) h = no_last (d ∷ (e ∷ t)) h.1
no_last t h = search rules
