-- Rows end in an LF, or nothing is after them.
use Rattle.std.proofs.Common.{rules, inl, inr, ℕ, ℤ, List, [], ◌∷◌, ◌++◌, sym, ◌∙◌, subst}
use Rattle.yq_core.proofs.BlockPieceLaws.{IsLf, append_lf}
use Rattle.yq_row_table.{specs.Exchange.row_front, specs.Grammar.{Limit, limit_after, IsContent, IsRow, AreRows}}
use Rattle.yq_row_table.{specs.Rows.{Content, content_text, Row, print_row, rows_text}, specs.View.content_cut}
use Rattle.yq_row_table.{proofs.PlaceLaws.row_front-append, proofs.seams.SeamLaws.rows_text-append, proofs.SliceLaws.content_slices}
use Rattle.yq_places.{proofs.CommentPieceLaws.{Ended, content_end}, proofs.SeamLaws.{raw_end, last_ended}, proofs.RunSpans.rows_then}

-- the text of a content
pub many_lf : (a b c d t : List ℕ) → IsLf t → IsLf (a ++ (b ++ (c ++ (d ++ t))))
many_lf a b c d t h = append_lf a (b ++ (c ++ (d ++ t))) (append_lf b (c ++ (d ++ t)) (append_lf c (d ++ t) (append_lf d t h)))

content_ended : (n : ℤ) (c : Content) (rest : List ℕ) → IsContent n c rest → Ended (content_text c []) rest
content_ended n c rest h = go (last_ended (content_cut c).4 (content_cut c).5 rest (content_end n c rest h) (raw_end n c rest h))
  where
    go : Ended ((content_cut c).4 ++ ((content_cut c).5 ++ [])) rest → Ended (content_text c []) rest
    go (inl lf) = inl (subst IsLf (content_slices c []) (many_lf (content_cut c).0 (content_cut c).1 (content_cut c).2 (content_cut c).3 ((content_cut c).4 ++ ((content_cut c).5 ++ [])) lf))
    go (inr none) = inr none

pub row_there : (limit : Limit) (others : List Row) (r : Row) (back : List Row) (gap rest : List ℕ) → AreRows limit (others ++ (r ∷ back)) gap rest → (l : Limit) × IsRow l r (rows_text back (gap ++ rest))
row_there limit [] r back gap rest h = (limit, h.0)
row_there limit (x ∷ others) r back gap rest h = row_there (limit_after x) others r back gap rest h.1

row_lf : (r : Row) → IsLf (content_text r.content []) → IsLf (print_row r [])
row_lf r h = subst IsLf (sym (row_front-append r [])) (append_lf (row_front r) (content_text r.content []) h)

pub row_ended : (limit : Limit) (r : Row) (rest : List ℕ) → IsRow limit r rest → Ended (print_row r []) rest
row_ended limit r rest h = search (rules, content_ended, row_lf)

pub rows_ended : (limit : Limit) (others : List Row) (r : Row) (back : List Row) (gap rest : List ℕ) → AreRows limit (others ++ (r ∷ back)) gap rest → Ended (rows_text (others ++ (r ∷ [])) []) (rows_text back (gap ++ rest))
rows_ended limit others r back gap rest h = go (content_ended _ r.content _ (row_there limit others r back gap rest h).1.content)
  where
    go : Ended (content_text r.content []) (rows_text back (gap ++ rest)) → Ended (rows_text (others ++ (r ∷ [])) []) (rows_text back (gap ++ rest))
    go (inl lf) = inl (subst IsLf (sym (rows_text-append others (r ∷ []) [] ∙ rows_then others (print_row r []))) (append_lf (rows_text others []) (print_row r []) (row_lf r lf)))
    go (inr none) = inr none
