use Rattle.std.proofs.Common.{arith, refl}
use Rattle.yq_row_table.specs.View.{rows_of}
use Rattle.yq_documents.{specs.Reading.{cut_of, have_fit_keys}, specs.RowReading.row_fits}
use Rattle.yq_compose.{proofs.AllOf.all_fails, proofs.DecidingLaws.denies_as}
use Rattle.yq_compose.proofs.DecodedRows.{are_alias_free, are_decoded, decoded_done, decoded_start, row_step}
use Rattle.yq_compose.proofs.RowsRead.{row_at, rows_count}
use Rattle.yq_compose.proofs.row_decoding.decode_each.Goals as goal

pub rows-init : goal.rows-init
rows-init c = record { within = omega arith; so_far = decoded_start c.args.text.now c.new-decoded.result.items c.new-decoded.ensures.items }

pub decoded_of-requires-clause-known : goal.decoded_of-requires-clause-known
decoded_of-requires-clause-known c = λ r is more. absurd (omega (arith, more))

pub returns-in-Err-clause-fits : goal.returns-in-Err-clause-fits
returns-in-Err-clause-fits c =
    let r = row_at c.args.text.now c.args.rows.now c.requires.cut c.rows.at (omega (arith, c.rows-test.true, c.len.ensures)) in
    denies_as c.in-Err.e (row_fits r.0) (have_fit_keys (rows_of (cut_of c.args.text.now))) (λ bad. all_fails row_fits (rows_of (cut_of c.args.text.now)) c.rows.at _ c.rows.invariant.so_far.fits r.0 r.1 bad) (c.in-Err.ensures.fits r.0 r.1)

pub rows-preserved : goal.rows-preserved
rows-preserved c =
    let r = row_at c.args.text.now c.args.rows.now c.requires.cut c.rows.at (omega (arith, c.rows-test.true, c.len.ensures)) in
    record {
      within = omega (arith, c.rows-test.true, c.len.ensures);
      so_far = row_step c.args.text.now c.rows.refers c.rows.at c.rows.decoded.items c.rows.invariant.so_far r.0 r.1 (c.in-Ok.ensures.fits r.0 r.1) c.in-Ok.found.decoded
          c.push_decoded.new.decoded.items c.in-Ok.ensures.row c.in_ok-push_decoded.ensures (c.in-Ok.ensures.agrees r.0 r.1) c.in-Ok.found.refers _ refl (c.in-Ok.ensures.refers r.0 r.1);
    }

pub returns-clause-fits : goal.returns-clause-fits
returns-clause-fits c =
    decoded_done c.args.text.now c.rows.refers c.rows.at c.rows.decoded.items c.rows.invariant.so_far (omega (arith, c.rows-test.false, c.len.ensures, rows_count c.args.text.now c.args.rows.now c.requires.cut))

pub returns-clause-decoded : goal.returns-clause-decoded
returns-clause-decoded c = rw c.shrink_to_fit.ensures.items
    (are_decoded c.args.text.now c.rows.refers c.rows.at c.rows.decoded.items c.rows.invariant.so_far (omega (arith, c.rows-test.false, c.len.ensures, rows_count c.args.text.now c.args.rows.now c.requires.cut)))

pub returns-clause-refers : goal.returns-clause-refers
returns-clause-refers c =
    are_alias_free c.args.text.now c.rows.refers c.rows.at c.rows.decoded.items c.rows.invariant.so_far (omega (arith, c.rows-test.false, c.len.ensures, rows_count c.args.text.now c.args.rows.now c.requires.cut))
