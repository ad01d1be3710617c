-- The rows of a document, one by one.
use Rattle.std.proofs.Common.{◌≡◌, ℕ, zero, suc, ◌+◌, List, [], ◌∷◌, ◌++◌, drop, Option, Some, None, Bool, true, refl, ◌&&◌, false, sym, ap}
use Rattle.std.{proofs.Common.{◌∙◌, subst}, proofs.lemmas.Bool.false≢true, proofs.lemmas.Option.same_Some, specs.List.slice_get}
use Rattle.std.specs.Prelude.{is_none}
use Rattle.yq_outline.{specs.LinesReading.{have_one_anchor_each, is_free, may_take}, specs.Outline.Line, proofs.EndsLaws.drop_at}
use Rattle.yq_outline.{specs.Lines.{content_anchor, lines_of_rows, row_lines}, proofs.WalkLevels.free_row}
use Rattle.yq_row_table.{specs.Grammar.{AreRows, IsContent, Limit, limit_after}, specs.Rows.{Row, parent_indent}}
use Rattle.yq_compose.proofs.AnchorRows.{first_of}

-- the content of a row is one
pub row_content : (limit : Limit) (rs : List Row) (end rest : List ℕ) (i : ℕ) (r : Row) → AreRows limit rs end rest → slice_get rs i ≡ Some r → (t : List ℕ) × IsContent (parent_indent r) r.content t
row_content limit [] end rest i r valid e = absurd (cc)
row_content limit (x ∷ rs) end rest zero r valid e = subst (λ (y : Row). (t : List ℕ) × IsContent (parent_indent y) y.content t) (same_Some _ _ e) (_, valid.0.content)
row_content limit (x ∷ rs) end rest (suc i) r valid e = row_content (limit_after x) rs end rest i r valid.1 e

-- the lines of rows from one on
pub lines_at : (rs : List Row) (i : ℕ) (r : Row) → slice_get rs i ≡ Some r → lines_of_rows (drop i rs) ≡ row_lines r ++ lines_of_rows (drop (i + 1) rs)
lines_at rs i r e = ap lines_of_rows (drop_at rs i r e)

-- what is asked of anchors from a row on
pub anchor_step : (rs : List Row) (i : ℕ) (r : Row) → slice_get rs i ≡ Some r →
    have_one_anchor_each (lines_of_rows (drop i rs)) ≡ (is_free (content_anchor r.content) (lines_of_rows (drop (i + 1) rs)) && have_one_anchor_each (lines_of_rows (drop (i + 1) rs)))
anchor_step rs i r there = ap have_one_anchor_each (lines_at rs i r there) ∙ free_row r (lines_of_rows (drop (i + 1) rs))

-- a row without an anchor asks nothing of the next one
pub unnamed_step : (rs : List Row) (i : ℕ) (r : Row) → slice_get rs i ≡ Some r → is_none (content_anchor r.content) ≡ true → have_one_anchor_each (lines_of_rows (drop i rs)) ≡ have_one_anchor_each (lines_of_rows (drop (i + 1) rs))
unnamed_step rs i r there none = anchor_step rs i r there ∙ go (content_anchor r.content) none (lines_of_rows (drop (i + 1) rs))
  where
    go : (a : Option (List ℕ)) → is_none a ≡ true → (ls : List Line) → (is_free a ls && have_one_anchor_each ls) ≡ have_one_anchor_each ls
    go None none ls = refl
    go (Some a) none ls = absurd (false≢true none)

-- one with an anchor asks that it may have it
pub named_step : (rs : List Row) (i : ℕ) (r : Row) (free : Bool) → slice_get rs i ≡ Some r → is_none (content_anchor r.content) ≡ false → ((a : List ℕ) → free ≡ is_free (Some a) (lines_of_rows (drop (i + 1) rs))) →
    have_one_anchor_each (lines_of_rows (drop i rs)) ≡ (free && have_one_anchor_each (lines_of_rows (drop (i + 1) rs)))
named_step rs i r free there some is = anchor_step rs i r there ∙ go (content_anchor r.content) some
  where
    go : (a : Option (List ℕ)) → is_none a ≡ false → (is_free a (lines_of_rows (drop (i + 1) rs)) && have_one_anchor_each (lines_of_rows (drop (i + 1) rs))) ≡ (free && have_one_anchor_each (lines_of_rows (drop (i + 1) rs)))
    go None some = absurd (false≢true (sym some))
    go (Some a) some = ap (λ b. b && have_one_anchor_each (lines_of_rows (drop (i + 1) rs))) (sym (is a))

-- an anchor before the rows from one on, by the first line of that
pub free_at : (rs : List Row) (i : ℕ) (r : Row) (l : Line) (a : List ℕ) → slice_get rs i ≡ Some r → slice_get (row_lines r) 0 ≡ Some l → is_free (Some a) (lines_of_rows (drop i rs)) ≡ may_take l.mark l.anchor l.head
free_at rs i r l a there first = ap (is_free (Some a)) (lines_at rs i r there) ∙ first_of a (row_lines r) l (lines_of_rows (drop (i + 1) rs)) first
