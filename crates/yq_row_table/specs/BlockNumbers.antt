-- Reading (own; you may skip it): what a gap after a block scalar asks of it, by the pieces of its row.
use Rattle.std.{specs.Prelude.{ℤ, ℕ, ◌==◌, ◌||◌, Bool, List, [], ◌∷◌, Option, None, if◌then◌else◌}, specs.Option.option_map}
use Rattle.yq_core.{specs.Block.keeps, specs.BlockReading.{indent_at, indicators_at}, specs.Piece.deeper, specs.Text.text_lines}

-- how far raw lines after this indentation indicator are indented, at least so far (own)
abbrev pub columns_at : ℕ → Option ℕ → List ℕ → Option ℕ
columns_at least digit raw = option_map (λ f. f.columns) (indent_at least digit (text_lines raw))

-- whether the block scalar of this header and these raw lines, below a parent of this indentation, keeps the empty lines at its end, and how far its
-- text is indented; nothing where the header is none (own)
abbrev pub block_numbers_of : ℤ → (head raw : List ℕ) → Option (Bool × ℕ)
block_numbers_of n [] raw = None
block_numbers_of n (b ∷ t) raw =
    if b == 124 || b == 62 then option_map (λ k. (keeps (indicators_at t).1, k)) (columns_at (deeper n) (indicators_at t).0 raw) else None
