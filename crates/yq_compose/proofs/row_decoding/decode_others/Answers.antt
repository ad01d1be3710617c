use Rattle.std.proofs.Common.{ℕ, suc, ◌||◌, get_or, length, arith, refl, subst}
use Rattle.yq_row_table.{specs.View.{rows_of, slices}, specs.declared.rows.Other.Other}
use Rattle.yq_documents.{specs.Reading.{cut_of, have_fit_keys}, specs.RowReading.row_fits}
use Rattle.yq_compose.{proofs.AllOf.all_fails, proofs.DecidingLaws.denies_as, proofs.WordRowLaws.{next_other, no_other}}
use Rattle.yq_compose.proofs.DecodedRows.{DecodedUpto, are_alias_free, are_decoded, decoded_done, decoded_start, row_step}
use Rattle.yq_compose.proofs.RowsRead.{pieces_there, row_at, rows_count}
use Rattle.yq_compose.proofs.row_decoding.decode_others.Goals as goal

abbrev none : Other
none = record { row = 0; depth = 0 }

pub rows-init : goal.rows-init
rows-init c = record {
  at = 0;
  within = omega arith;
  upto = decoded_start c.args.text.now c.in_ok-decoded.decoded.items c.in_ok-decoded.ensures.items;
  others = c.requires.others;
}

pub decoded_of-requires-clause-within : goal.decoded_of-requires-clause-within
decoded_of-requires-clause-within c = (next_other c.args.text.now c.args.rows.now c.requires.cut c.rows.refers none c.rows.left.now c.rows.decoded.items c.in-len1-up.len_at_least c.rows.invariant).0

pub decoded_of-requires-clause-known : goal.decoded_of-requires-clause-known
decoded_of-requires-clause-known c = λ r is.
    (next_other c.args.text.now c.args.rows.now c.requires.cut c.rows.refers none c.rows.left.now c.rows.decoded.items c.in-len1-up.len_at_least
    c.rows.invariant).2 (slices r) (pieces_there c.args.text.now c.args.rows.now c.requires.cut _ r is)

pub returns-in-Err-clause-fits : goal.returns-in-Err-clause-fits
returns-in-Err-clause-fits c =
    let u = next_other c.args.text.now c.args.rows.now c.requires.cut c.rows.refers none c.rows.left.now c.rows.decoded.items c.in-len1-up.len_at_least c.rows.invariant in
    let r = row_at c.args.text.now c.args.rows.now c.requires.cut (get_or c.rows.left.now 0 none).row u.0 in
    denies_as c.in-Err.e (row_fits r.0) (have_fit_keys (rows_of (cut_of c.args.text.now)))
    (λ bad. all_fails row_fits (rows_of (cut_of c.args.text.now)) (get_or c.rows.left.now 0 none).row _ u.1.fits r.0 r.1 bad)
    (c.in-Err.ensures.fits r.0 r.1)

pub rows-preserved : goal.rows-preserved
rows-preserved c =
    let u = next_other c.args.text.now c.args.rows.now c.requires.cut c.rows.refers none c.rows.left.now c.rows.decoded.items c.in-len1-up.len_at_least c.rows.invariant in
    let r = row_at c.args.text.now c.args.rows.now c.requires.cut (get_or c.rows.left.now 0 none).row u.0 in
    record {
      at = suc (get_or c.rows.left.now 0 none).row;
      within = omega (arith, u.0);
      upto = subst (λ (n : ℕ). DecodedUpto c.args.text.now (c.rows.refers || c.in-Ok.found.refers) n c.push_decoded.new.decoded.items) (omega arith)
          (row_step c.args.text.now c.rows.refers (get_or c.rows.left.now 0 none).row c.rows.decoded.items u.1 r.0 r.1 (c.in-Ok.ensures.fits r.0 r.1) c.in-Ok.found.decoded
          c.push_decoded.new.decoded.items c.in-Ok.ensures.row c.in_ok-push_decoded.ensures (c.in-Ok.ensures.agrees r.0 r.1) c.in-Ok.found.refers _ refl (c.in-Ok.ensures.refers r.0 r.1));
      others = u.3;
    }

pub returns-clause-fits : goal.returns-clause-fits
returns-clause-fits c =
    let u = no_other c.args.text.now c.args.rows.now c.requires.cut c.rows.refers c.rows.left.now c.rows.decoded.items c.in_default.len_below c.rows.invariant in
    decoded_done c.args.text.now c.rows.refers (length c.args.rows.now.rows) c.rows.decoded.items u (omega (arith, rows_count c.args.text.now c.args.rows.now c.requires.cut))

pub returns-clause-decoded : goal.returns-clause-decoded
returns-clause-decoded c =
    let u = no_other c.args.text.now c.args.rows.now c.requires.cut c.rows.refers c.rows.left.now c.rows.decoded.items c.in_default.len_below c.rows.invariant in
    rw c.shrink_to_fit.ensures.items (are_decoded c.args.text.now c.rows.refers (length c.args.rows.now.rows) c.rows.decoded.items u (omega (arith, rows_count c.args.text.now c.args.rows.now c.requires.cut)))

pub returns-clause-refers : goal.returns-clause-refers
returns-clause-refers c =
    let u = no_other c.args.text.now c.args.rows.now c.requires.cut c.rows.refers c.rows.left.now c.rows.decoded.items c.in_default.len_below c.rows.invariant in
    are_alias_free c.args.text.now c.rows.refers (length c.args.rows.now.rows) c.rows.decoded.items u (omega (arith, rows_count c.args.text.now c.args.rows.now c.requires.cut))
