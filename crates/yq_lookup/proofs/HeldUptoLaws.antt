-- What a key or dash would hold if the rows under it ended before one of them.
use Rattle.std.proofs.Common.{◌≡◌, ℕ, suc, ◌+◌, ◌-◌, ◌<◌, ◌≤◌, List, ◌∷◌, ◌++◌, length, length-take-le, take, drop, sym, ap, ◌∙◌}
use Rattle.std.{proofs.Common.{append_assoc, arith}, proofs.lemmas.List.take-append-drop}
use Rattle.yq_core.specs.Paths.{Step}
use Rattle.yq_row_table.{specs.Rows.Row, specs.View.RowsView}
use Rattle.yq_documents.specs.Reading.{cut_of}
use Rattle.yq_places.{specs.Placements.{Held, RowsOfEntry, held}, specs.PlacementReading.IsEntryIn, proofs.EntryNumbers.FoundEntry}
use Rattle.yq_lookup.specs.HeldRows.{IsHeldUpto}
use Rattle.yq_places.specs.declared.places.rows_of_entry.RowsOfEntry as declared

module _ (t : List ℕ) (s : RowsView) (n : ℕ) (steps : List Step) (m : declared.RowsOfEntry) (f : FoundEntry t s n steps m) (end : ℕ) (more : m.row < end) (within : end ≤ m.end) where
  abbrev size : ℕ
  size = end - suc m.row

  abbrev upto : List Row
  upto = take size f.entry.under

  abbrev others : List Row
  others = drop size f.entry.under

  both : f.entry.under ≡ upto ++ others
  both = sym (take-append-drop size f.entry.under)

  counted : end ≡ m.row + suc (length upto)
  counted =
      let last = f.is.rows.last_is in
      let few : size ≤ length f.entry.under = omega (arith, last, within) in
      omega (arith, more, length-take-le size f.entry.under few)

  -- the rows up to there
  abbrev pub short : RowsOfEntry
  short = record f.entry { under = upto; back = others ++ f.entry.back }

  pub short_in : IsEntryIn t s short (record m { end = end })
  short_in = record {
    rows = record {
      cut = f.is.rows.cut;
      rows_view_is = f.is.rows.rows_view_is;
      document = f.is.rows.document;
      part = f.is.rows.part;
      placed = f.is.rows.placed;
      rows_are =
          f.is.rows.rows_are
          ∙ (ap (λ (us : List Row). f.entry.front ++ (f.entry.row ∷ (us ++ f.entry.back))) both
          ∙ ap (λ (us : List Row). f.entry.front ++ (f.entry.row ∷ us)) (append_assoc upto others f.entry.back));
      start_is = f.is.rows.start_is;
      end_is = f.is.rows.end_is;
      following_is = f.is.rows.following_is;
      row_is = f.is.rows.row_is;
      last_is = counted;
    };
    line = f.is.line;
    dashes = f.is.dashes;
    upto = f.is.upto;
  }

  pub held_upto_is : m.line ≡ m.dashes → (h : Held) → h ≡ held short → IsHeldUpto n steps (cut_of t) end m h
  held_upto_is last h is = record {
    entry = f.entry;
    found = f.place;
    last = sym f.is.line ∙ (last ∙ f.is.dashes);
    row_is = f.row;
    end_is = f.is.rows.last_is;
    upto = upto;
    others = others;
    under_is = both;
    size = counted;
    held_is = is;
  }
