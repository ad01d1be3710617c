-- A text that reads is that of its cut.
use Rattle.std.{proofs.Common.{◌≡◌, ◌<◌, ◌^◌, ℕ, List, [], ◌∷◌, length, Some, arith, sym, ap, ◌∙◌}, specs.Str.is_utf8}
use Rattle.yq_core.proofs.Bools.{guard_then}
use Rattle.yq_row_table.{specs.Grammar.IsCut, specs.Rows.{Cut, cut_text}}
use Rattle.yq_documents.{specs.Reading.{read_at, cut_of}, proofs.ReadLaws.text_takes}
use Rattle.yq_text.specs.Script.{keep}

-- what is read is cut so
pub cut_read : (t : List ℕ) (c : Cut) → read_at t ≡ Some c → IsCut t c
unfolding read_at
cut_read t c h = (text_takes t c (guard_then (is_utf8 t) h).1).0

pub text_read : (t : List ℕ) (c : Cut) → read_at t ≡ Some c → cut_text c ≡ t
text_read t c h = sym (cut_read t c h).text

pub text_small : (t : List ℕ) (c : Cut) → read_at t ≡ Some c → length t < 2 ^ 64
text_small t c h = omega (arith, (cut_read t c h).size)

-- all bytes stay
pub whole_kept : (t m : List ℕ) → read_at t ≡ Some (cut_of t) → m ≡ t → keep m ∷ [] ≡ keep (cut_text (cut_of t)) ∷ []
whole_kept t m read same = ap (λ (x : List ℕ). keep x ∷ []) (same ∙ sym (text_read t (cut_of t) read))
