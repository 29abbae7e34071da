use Rattle.relay_model.specs.declared.places.Half.TheVariants.{ToRead, ToWrite}
use Rattle.desk_places.specs.Naming.{NamesOnly}
use Rattle.desk_places.proofs.naming.name_hinted.Goals.{then-entry+then-hint, else-entry}
use Rattle.desk_places.proofs.naming.name_hinted.Goals as goal

pub returns-then-hint-2-clause-only : goal.returns-then-hint-2-clause-only
returns-then-hint-2-clause-only c = λ keys told places due only.
    let mid : NamesOnly keys told places c.if-entry.ready.entries = elim c.if-entry.branch [ then-entry+then-hint w ↦ rw w.ready-is (w.name.ensures.only keys told places (due ToRead w.if-entry.true w.if-hint.true) only) | else-entry w ↦ rw w.ready-is only ] in
    c.name-then-hint-2.ensures.only keys told places (due ToWrite c.if-entry-2.true c.if-hint-2.true) mid
