-- The header that is written, and the loop that writes the lines.
use Rattle.std.proofs.Common.{◌≡◌, ℕ, suc, ◌-◌, ◌<◌, ◌≤◌, Bool, eqb, List, [], ◌∷◌, ◌++◌, length, take, drop, sym, ap, ◌∙◌, ⊎_elim, arith}
use Rattle.std.{proofs.Common.{eqb-true, append_assoc, append-nil, rules}, proofs.lemmas.Bool.{false≢true, false_from_ne_true, cases_Bool}}
use Rattle.std.{specs.List.ends_with, specs.Cmp.Lexicographic.pointwise, specs.Prelude.nat_eq}
use Rattle.yq_core.{proofs.LineLaws.line_step, specs.Block.RawLines, specs.BlockContent.text_of_line}
use Rattle.yq_core.specs.BlockWritten.{indented_text, raw_written, ends_with_break, chomping_by, chomping_of, ends_in_feed}
use Rattle.yq_core.specs.Text.{line_len, text_lines, joined, is_line}

-- the loop that writes the lines
pub write_step : (m : ℕ) (br t l a p out mid all : List ℕ) → text_lines t ≡ l ∷ text_lines a → p ≡ text_of_line l → mid ≡ out ++ (indented_text m p ++ br) →
    out ++ joined (raw_written m br (text_lines t)) ≡ all → mid ++ joined (raw_written m br (text_lines a)) ≡ all
unfolding raw_written
write_step m br t l a p out mid all e is on so_far = search (rules, append_assoc)

pub write_end : (m : ℕ) (br t out all : List ℕ) → t ≡ [] → out ++ joined (raw_written m br (text_lines t)) ≡ all → out ≡ all
unfolding raw_written text_lines
write_end m br t out all h so_far = sym (append-nil out) ∙ (ap (λ x. out ++ joined (raw_written m br (text_lines x))) (sym h) ∙ so_far)

pub some_lines : (t : List ℕ) → 0 < length t → (l : List ℕ) × (ls : RawLines) × (text_lines t ≡ l ∷ ls)
some_lines t h = (take (line_len t) t, text_lines (drop (line_len t) t), line_step t h)

swap : (b k : ℕ) → eqb k b ≡ eqb b k
swap b k = search (rules, ⊎_elim, eqb-true, false_from_ne_true, false≢true, cases_Bool)

-- how a text ends, with a byte more in front
pub ends_next : (b : ℕ) (s n : List ℕ) → length n ≤ length s → ends_with nat_eq (b ∷ s) n ≡ ends_with nat_eq s n
ends_next b s n h = let e : length (b ∷ s) - length n ≡ suc (length s - length n) = omega arith in ap (λ k. pointwise nat_eq n (drop k (b ∷ s))) e

closed_is : (b : ℕ) (s : List ℕ) → ends_with_break (text_lines (b ∷ s)) ≡ ends_with nat_eq (b ∷ s) (10 ∷ [])
unfolding ends_with_break text_lines is_line
closed_is b [] = search (rules, ⊎_elim, swap, cases_Bool)
closed_is b (c ∷ s) =
    let again = closed_is c s ∙ sym (ends_next b (c ∷ s) (10 ∷ []) (omega arith)) in
    let f = some_lines (c ∷ s) (omega arith) in
    search (rules, ⊎_elim, cases_Bool, again, f)

pub chomping_is : (s : List ℕ) (c : Bool) → c ≡ ends_in_feed s → chomping_of (text_lines s) ≡ chomping_by c
unfolding text_lines ends_with_break
chomping_is s c h = search (rules, closed_is)
