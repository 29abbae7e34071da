use Rattle.std.proofs.Common.{arith, sym, ◌≡◌, ◌∙◌}
use Rattle.std.proofs.lemmas.Bool.Decides.{nat_tests}
use Rattle.desk_places.proofs.EntryLemmas.{marks_put, marks_still}
use Rattle.desk_places.proofs.places.PlaceTable.mark.Goals as goal

pub returns-then-is_disarmed-disarmed-clause-marks : goal.returns-then-is_disarmed-disarmed-clause-marks
returns-then-is_disarmed-disarmed-clause-marks c =
    let same : c.is_disarmed.result ≡ c.args.disarmed = grind (arith, nat_tests, c.if-is_disarmed-disarmed.true) in
    marks_still c.args.self.now.entries c.args.entry c.args.half c.args.disarmed c.requires (sym c.is_disarmed.ensures ∙ same)

pub returns-clause-marks : goal.returns-clause-marks
returns-clause-marks c = marks_put c.args.self.now.entries c.replace.new.self.entries c.args.entry c.with_half-marked.result c.args.half c.args.disarmed c.requires c.with_half-marked.ensures c.replace.ensures.put c.replace.ensures.standing c.replace.ensures.len
