use Rattle.desk_places.proofs.EntryLemmas.{first_by, skipped_first, skipped_none}
use Rattle.desk_places.proofs.places.PlaceTable.index_of.Goals as goal

pub returns-then-entries-le-FEW-clause-first : goal.returns-then-entries-le-FEW-clause-first
returns-then-entries-le-FEW-clause-first c =
    let is = rw c.as_slice-entries.ensures.value at c.position_of.ensures.is in
    rw (← c.self.view_is) (first_by c.self.inside.entries.items c.args.place c.position_of.result is)

pub returns-in_err-i-clause-first : goal.returns-in_err-i-clause-first
returns-in_err-i-clause-first c =
    let is = rw c.as_slice-entries.ensures.value at c.position_of-2.ensures.is in
    let start = rw c.as_slice-entries.ensures.value at c.start_of-start.ensures.start in
    let bound = rw c.as_slice-entries.ensures.value at c.start_of-start.ensures.bound in
    rw (c.from_residual.ensures, ← c.self.view_is) (skipped_none c.self.inside.entries.items c.start_of-start.result c.args.place c.position_of-2.result (start c.self.invariant.0) bound is c.in_err-i.was)

pub returns-clause-first : goal.returns-clause-first
returns-clause-first c =
    let is = rw c.as_slice-entries.ensures.value at c.position_of-2.ensures.is in
    let start = rw c.as_slice-entries.ensures.value at c.start_of-start.ensures.start in
    let bound = rw c.as_slice-entries.ensures.value at c.start_of-start.ensures.bound in
    rw (← c.self.view_is) (skipped_first c.self.inside.entries.items c.start_of-start.result c.args.place c.position_of-2.result c.in_ok-i.i (start c.self.invariant.0) bound is c.in_ok-i.was)
