use Rattle.std.proofs.Common.{Bool, true, false, ℕ, Option, Some, None, IfSome}
use Rattle.yq_row_table.{specs.Rows.Cut, specs.Touched.TouchesOnly, specs.View.rows_view}
use Rattle.yq_places.{specs.StepReading.{IsSearched, StaysSearched}, specs.declared.places.steps.StepSearch.StepSearch}
use Rattle.yq_lookup.proofs.knowledge.searches_before.Goals as goal

-- a search that went as far in each such text did so in one of them
went_so_far : (dashes : Bool) (front back : ℕ) (c new : Cut) (o : Option StepSearch) → TouchesOnly front back c new → IfSome o (StaysSearched dashes front c) → IfSome o (IsSearched dashes (rows_view new).rows)
went_so_far dashes front back c new None touched h = h
went_so_far dashes front back c new (Some k) touched h = h new back touched

pub returns : goal.returns
returns c = λ cut is new back touched. (
  went_so_far true c.args.front back cut new c.searched_before.result touched (c.searched_before.ensures true c.requires.steps.0 cut is),
  went_so_far false c.args.front back cut new c.searched_before-2.result touched (c.searched_before-2.ensures false c.requires.steps.1 cut is),
)
