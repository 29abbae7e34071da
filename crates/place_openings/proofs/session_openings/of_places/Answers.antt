use Rattle.std.proofs.Common.{[], arith}
use Rattle.std.proofs.lemmas.Grind.{common_steps}
use Rattle.place_openings.proofs.Beginning.{one_place_more, unasked_more}
use Rattle.place_openings.proofs.session_openings.of_places.Goals as goal

pub loop-place-preserved : goal.loop-place-preserved
loop-place-preserved c =
    (one_place_more c.args.config.now [] c.args.places.now c.loop-place.place-index _ c.loop-place.openings _ _ (omega arith) c.loop-place.invariant.0 (c.new.ensures.stands (c.requires.no_doors c.loop-place.place-index _ (omega arith))) c.push.ensures, grind (arith, common_steps), unasked_more c.loop-place.openings _ _ c.loop-place.invariant.2 c.new.ensures.unasked c.push.ensures)
