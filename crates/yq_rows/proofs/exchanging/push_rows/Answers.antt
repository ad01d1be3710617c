use Rattle.std.proofs.Common.{◌≡◌, ◌+◌, ◌++◌, ◌∷◌, [], List, map, take, is_ok, true, vec_len, ap, sym, ◌∙◌, append_assoc, arith, ◌<◌, ◌^◌}
use Rattle.yq_row_table.specs.Kept.{placed_rows, raised}
use Rattle.yq_rows.proofs.ExchangeLaws.{row_more, place_has}
use Rattle.yq_row_table.specs.declared.offsets.Offsets as declared
use Rattle.yq_rows.proofs.exchanging.push_rows.Goals as goal

pub rows-preserved : goal.rows-preserved
rows-preserved c =
    let all = placed_rows c.args.len c.args.found.now in
    let ok : is_ok c.push.result ≡ true = c.push.ensures.succeeds (omega arith) in
    let items : c.push.new.self.items ≡ c.rows.rows.items ++ (c.raised-row.result ∷ []) = rw ok at c.push.ensures.items in
    let long : vec_len c.push.new.self ≡ vec_len c.rows.rows + 1 = rw ok at c.push.ensures.len in
    let more = row_more c.args.by c.rows.i all c.place.result c.place.ensures in
    record {
      same = items
          ∙ (ap (λ (l : List declared.Offsets). l ++ (c.raised-row.result ∷ [])) c.rows.invariant.same
          ∙ (append_assoc c.args.rows.now.items (map (raised c.args.by) (take c.rows.i all)) (c.raised-row.result ∷ [])
          ∙ ap (λ (l : List declared.Offsets). c.args.rows.now.items ++ l) (ap (λ (o : declared.Offsets). map (raised c.args.by) (take c.rows.i all) ++ (o ∷ [])) c.raised-row.ensures ∙ sym more)));
      room = omega (arith, c.push.ensures.capacity, long);
    }

pub raised-row-requires : goal.raised-row-requires
raised-row-requires c =
    place_has (λ o. o.start + c.args.by < 2 ^ 32) (placed_rows c.args.len c.args.found.now) c.rows.i c.place.result c.requires.within c.place.ensures
