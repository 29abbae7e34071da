use Rattle.std.proofs.Common.{sym, subst}
use Rattle.place_openings.specs.Attempts.{Spends}
use Rattle.place_openings.proofs.GivingUp.{spends}
use Rattle.place_openings.proofs.one_place.Opening.spent_attempts.Goals as goal

pub returns : goal.returns
returns c =
    λ retry forever interval failures is. subst (Spends retry forever failures) (sym c.attempts_in.ensures) (spends retry forever interval failures c.args.self.now.plan c.next.result is c.next.ensures)
