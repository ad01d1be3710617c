-- Bytes of one line that end rows lie in the last of them.
use Rattle.std.proofs.Common.{◌≡◌, append_assoc, Some, ℕ, ◌<◌, ◌≤◌, Bool, true, false, leb, List, [], ◌∷◌, ◌++◌, length, refl, sym, ap, ◌∙◌}
use Rattle.std.{proofs.Common.{subst, arith, rules}, proofs.lemmas.Bool.{false≢true, leb-true, leb-false}, proofs.lemmas.List.length-append}
use mathlib.Core.List.{tail-eq_of_cons-eq}
use Rattle.yq_core.{proofs.BlockPieceLaws.IsLf, proofs.Bools.guard_then}
use Rattle.yq_row_table.{proofs.ItemLaws.{rows_items_text, items_joined, parts_are_items}, specs.Grammar.{Limit, limit_after, IsRow}}
use Rattle.yq_row_table.specs.Items.{Item, row_item, rows_items, items_of_cut, items_text, Asked, nothing_asked, asked_by, asked_of}
use Rattle.yq_row_table.{specs.Items.AreRowItems, specs.Rows.{Row, print_row, rows_text, Part, Cut, cut_text}, specs.Splices.with_row_gap}
use Rattle.yq_row_table.{proofs.PlaceLaws.row_then, proofs.RowLaws.row_longer, proofs.seams.FrontSeams.row_some, proofs.FrontLaws.front_le}
use Rattle.yq_documents.{specs.Reading.read_at, proofs.ReadLaws.text_takes}
use Rattle.yq_places.proofs.CommentPieceLaws.{Ended}
use Rattle.yq_edit_rules.{proofs.DocumentItemLaws.rows_before, proofs.EndedRowLaws.row_ended, specs.Changed.put_document}
use Rattle.yq_edit_rules.{specs.Local.{InFirst, InLast, IsLocal}, proofs.OneLines.{is_one_line, left_none, past_feed}}
use Rattle.yq_edit_rules.proofs.ItemsLocal.{IsInside}
use Rattle.yq_edit_rules.proofs.LocalLaws.{longer_end, RowsGiveWay, rows_way, gone_text, come_text, rows_local}
use Rattle.yq_text.specs.Script.{Segment}

pub lf_end : (t u : List ℕ) → IsLf (t ++ u) → 0 < length u → IsLf u
lf_end [] u h some = h
lf_end (x ∷ t) u h some = go (λ k. lf_end t u k some) h.0 h.1
  where
    go : (IsLf (t ++ u) → IsLf u) → (f : List ℕ) → x ∷ (t ++ u) ≡ f ++ 10 ∷ [] → IsLf u
    go more [] e = absurd (omega (arith, some, ap length (tail-eq_of_cons-eq e), length-append t u))
    go more (y ∷ f) e = more (f, tail-eq_of_cons-eq e)

-- a row has a text of its own
own_some : (limit : Limit) (r : Row) (rest : List ℕ) → IsRow limit r rest → 0 < length (print_row r [])
own_some limit r rest h = search (rules, arith, row_then (with_row_gap [] r) [] rest, row_longer, length-append)

first_own : (r : Row) (rs : List Row) → length (print_row r []) ≤ length (rows_text (r ∷ rs) [])
first_own r rs = omega (arith, ap length (row_then r [] (rows_text rs [])), length-append (print_row r []) (rows_text rs []))

-- a row in front of another one ends in a line feed
row_feed : (asked : Asked) (r s : Row) (is : List Item) (rest : List ℕ) → AreRowItems asked (row_item r ∷ (row_item s ∷ is)) rest → IsLf (print_row r [])
row_feed asked r s is rest h = go (row_ended asked.limit r (print_row s (items_text is rest)) h.0.1)
  where
    go : Ended (print_row r []) (print_row s (items_text is rest)) → IsLf (print_row r [])
    go h1 = search (rules, false≢true, row_some)

last_line : (rs : List Row) (asked : Asked) (is : List Item) (rest t trail : List ℕ) → AreRowItems asked (rows_items rs is) rest → rows_text rs [] ≡ t ++ trail → is_one_line trail ≡ true → InLast trail (rows_items rs [])
last_line [] asked is rest t trail h e one = left_none t trail (sym e)
last_line (r ∷ []) asked is rest t trail h e one = front_le (print_row r []) t trail e
last_line (r ∷ (s ∷ more)) asked is rest t trail h e one = go (λ u k. last_line (s ∷ more) (asked_by asked (row_item r)) is rest u trail h.1 k one) (leb (length trail) (length (rows_text (s ∷ more) []))) refl
  where
    whole : print_row r [] ++ rows_text (s ∷ more) [] ≡ t ++ trail
    whole = sym (row_then r [] (rows_text (s ∷ more) [])) ∙ e

    some : 0 < length (rows_text (s ∷ more) [])
    some = omega (arith, own_some (limit_after r) s (items_text (rows_items more is) rest) h.1.0.1, first_own s more)

    go : ((u : List ℕ) → rows_text (s ∷ more) [] ≡ u ++ trail → InLast trail (rows_items (s ∷ more) [])) → (b : Bool) → leb (length trail) (length (rows_text (s ∷ more) [])) ≡ b → InLast trail (rows_items (s ∷ more) [])
    go again true le =
        let k = longer_end t trail (print_row r []) (rows_text (s ∷ more) []) (sym whole) (leb-true (length trail) (length (rows_text (s ∷ more) [])) le) in
        again k.0 k.1
    go again false gt =
        let more_than = leb-false (length trail) (length (rows_text (s ∷ more) [])) gt in
        let k = longer_end (print_row r []) (rows_text (s ∷ more) []) t trail whole (omega (arith, more_than)) in
        let long : 0 < length k.0 = omega (arith, more_than, ap length k.1, length-append k.0 (rows_text (s ∷ more) [])) in
        let lf : IsLf k.0 = lf_end t k.0 (subst IsLf k.2 (row_feed asked r s (rows_items more is) rest h)) long in
        search (rules, past_feed, is_one_line, lf, k, some)

-- the same of rows of a text that reads as a cut
cut_line : (c : Cut) (front : List Item) (rs : List Row) (back : List Item) (lead trail : List ℕ) → read_at (cut_text c) ≡ Some c → items_of_cut c ≡ front ++ (rows_items rs [] ++ back) →
    IsInside (rows_items rs []) lead trail → is_one_line trail ≡ true → InLast trail (rows_items rs [])
unfolding read_at
cut_line c front rs back lead trail read are inside one =
    let parts = (text_takes (cut_text c) c (guard_then _ read).1).0.parts in
    let all : AreRowItems nothing_asked (front ++ rows_items rs back) [] = subst (λ is. AreRowItems nothing_asked is []) (are ∙ ap (λ is. front ++ is) (sym (rows_before rs [] back))) (parts_are_items c true parts) in
    let text : rows_text rs [] ≡ (lead ++ inside.middle) ++ trail = sym (rows_items_text rs [] []) ∙ (inside.text ∙ sym (append_assoc lead inside.middle trail)) in
    last_line rs (asked_of nothing_asked front) back [] (lead ++ inside.middle) trail (items_joined front (rows_items rs back) nothing_asked [] all) text one

module _ (ss : List Segment) (c : Cut) (k : ℕ) (q : Part) (e : RowsGiveWay ss c k q) where
  pub gone_last : read_at (cut_text c) ≡ Some c → is_one_line e.trail ≡ true → InLast e.trail (rows_items e.gone [])
  gone_last read one = cut_line c (rows_way ss c k q e).front e.gone (rows_way ss c k q e).back e.lead e.trail read (rows_way ss c k q e).old_are (gone_text ss c k q e) one

  come_last : read_at (cut_text (put_document k q c)) ≡ Some (put_document k q c) → is_one_line e.trail ≡ true → InLast e.trail (rows_items e.come [])
  come_last read one = cut_line (put_document k q c) (rows_way ss c k q e).front e.come (rows_way ss c k q e).back e.lead e.trail read (rows_way ss c k q e).new_are (come_text ss c k q e) one

  -- Rows are replaced by others, where what is kept after begins in the line that ends them.
  pub lines_local : read_at (cut_text c) ≡ Some c → read_at (cut_text (put_document k q c)) ≡ Some (put_document k q c) → is_one_line e.trail ≡ true →
      InFirst e.lead (rows_items e.gone []) → InFirst e.lead (rows_items e.come []) → IsLocal ss c (put_document k q c)
  lines_local read new one b0 b1 = rows_local ss c k q e b0 b1 (gone_last read one) (come_last new one)
