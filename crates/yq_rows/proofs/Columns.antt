-- How long what the readers cut off is: no longer than the text.
use Rattle.std.proofs.Common.{◌≡◌, ℕ, ◌+◌, ◌-◌, ◌<◌, ◌≤◌, List, ◌++◌, [], length, sym, ap, ◌∙◌, arith, length-append, length-drop}
use Rattle.yq_core.{specs.Text.{cut, no_space}, proofs.Upto.cut_takes}
use Rattle.yq_row_table.{specs.Offsets.Ends, specs.Slicing.{Begun, with_dashes}}

-- the spaces in front and what follows are the text
spaces_length : (t s rest : List ℕ) → (s, rest) ≡ cut no_space t → length t ≡ length s + length rest
spaces_length t s rest e = ap length (cut_takes no_space t ∙ ap (λ (y : List ℕ × List ℕ). y.0 ++ y.1) (sym e)) ∙ length-append s rest

-- the column of a mark after spaces
pub column_small : (t s rest whole : List ℕ) (columns : ℕ) → (s, rest) ≡ cut no_space t → columns ≤ length rest → length t ≤ length whole → length whole < 4294967296 → length s + columns < 4294967296
column_small t s rest whole columns e within short small = omega (arith, spaces_length t s rest e, within, short, small)

-- what follows the dash in front and the spaces after it
pub after_dash : (t after s next : List ℕ) → length after + 1 ≡ length t → (s, next) ≡ cut no_space after → length next < length t
after_dash t after s next one e = omega (arith, one, spaces_length after s next e)

pub ends_within : (t whole : List ℕ) → Ends t whole → length t ≤ length whole
ends_within t whole h =
    let is : length t ≡ length whole - (length whole - length t) = ap length (sym h) ∙ length-drop (length whole - length t) whole in
    omega (arith, is)

pub front_none : (b : Begun) → with_dashes [] b ≡ b
front_none b =
    let none : 0 + b.columns ≡ b.columns = omega arith in
    ap (λ (k : ℕ). record { dashes = b.dashes; columns = k; mark = b.mark; rest = b.rest }) none
