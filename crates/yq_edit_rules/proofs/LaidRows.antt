-- Rows that are written one after the other.
use Rattle.std.{proofs.Common.{◌≡◌, ℕ, suc, ◌≤◌, true, List, [], ◌∷◌, ◌++◌, refl, sym, subst, arith, rules}, proofs.Math.Bool.and-false}
use Rattle.yq_row_table.{specs.Exchange.asked_after, specs.Gap.IsGap, specs.Grammar.{is_entry, IsRow, Limit, allows, limit_after, AreRows}}
use Rattle.yq_row_table.{specs.Rows.{Row, rows_text}, proofs.PlainEnds.{AtLine, row_at_line}, proofs.seams.SeamLaws.rows_text-append}
use Rattle.yq_core.proofs.Alikes.{sep_first}
use Rattle.yq_edit_rules.specs.BlockRows.{item_column, rows_on_dash}

-- Rows begin at a column, before a rest, after any row that allows it; what comes after them may begin at any column up to that.
pub record IsLaid (column : ℕ) (r : Row) (rs : List Row) (rest : List ℕ) : Type 0 where
  pub gap : r.gap ≡ []
  pub at : r.column ≡ column
  pub entry : is_entry r.mark ≡ true
  pub laid : (limit : Limit) → allows limit column ≡ true → AreRows limit (r ∷ rs) [] rest
  pub follows : (c : ℕ) → c ≤ column → allows (asked_after (limit_after r) rs) c ≡ true

abbrev pub AreLaid : ℕ → List Row → List ℕ → Type 0
AreLaid column [] rest = ⊥
AreLaid column (r ∷ rs) rest = IsLaid column r rs rest

pub no_gap_here : (rest : List ℕ) → IsGap [] rest
no_gap_here rest = record { lines = []; spelled = refl; each = tt }

-- rows after rows
pub rows_append : (limit : Limit) (xs ys : List Row) (end rest : List ℕ) → AreRows limit xs [] (rows_text ys (end ++ rest)) → AreRows (asked_after limit xs) ys end rest → AreRows limit (xs ++ ys) end rest
rows_append limit [] ys end rest h k = k
rows_append limit (x ∷ xs) ys end rest h k = (subst (IsRow limit x) (sym (rows_text-append xs ys (end ++ rest))) h.0, rows_append (limit_after x) xs ys end rest h.1 k)

asked_append : (limit : Limit) (xs ys : List Row) → asked_after limit (xs ++ ys) ≡ asked_after (asked_after limit xs) ys
asked_append limit [] ys = refl
asked_append limit (x ∷ xs) ys = asked_append (limit_after x) xs ys

pub laid_append : (column : ℕ) (xs ys : List Row) (rest : List ℕ) → AreLaid column xs (rows_text ys rest) → AreLaid column ys rest → AreLaid column (xs ++ ys) rest
laid_append column [] ys rest h k = absurd h
laid_append column (x ∷ xs) [] rest h k = absurd k
laid_append column (x ∷ xs) (y ∷ ys) rest h k = record {
  gap = h.gap;
  at = h.at;
  entry = h.entry;
  laid = λ limit allowed. rows_append limit (x ∷ xs) (y ∷ ys) [] rest (h.laid limit allowed) (k.laid (asked_after (limit_after x) xs) (h.follows column (omega arith)));
  follows = λ c within. subst (λ (limit : Limit). allows limit c ≡ true) (sym (asked_append (limit_after x) xs (y ∷ ys))) (k.follows c within);
}

pub laid_rows : (column : ℕ) (rs : List Row) (rest : List ℕ) (limit : Limit) → AreLaid column rs rest → allows limit column ≡ true → AreRows limit rs [] rest
laid_rows column rs rest limit h1 h2 = search rules

pub laid_follow : (column : ℕ) (rs : List Row) (rest : List ℕ) (limit : Limit) (c : ℕ) → AreLaid column rs rest → c ≤ column → allows (asked_after limit rs) c ≡ true
laid_follow column rs rest limit c h1 h2 = search rules

-- no plain scalar deeper than their column goes on with them
pub laid_line : (column : ℕ) (rs : List Row) (rest : List ℕ) → AreLaid column rs rest → AtLine (suc column) (rows_text rs rest)
laid_line column rs rest h1 = search (rules, row_at_line)

-- rows of which the first one comes after a dash
pub laid_after : (column : ℕ) (rs : List Row) (rest : List ℕ) → AreLaid (item_column column) rs rest → AreLaid column (rows_on_dash column rs) rest
laid_after column rs rest h1 = search (rules, no_gap_here, sep_first, and-false)
