use Rattle.socat_top.proofs.runs.follow.Goals as goal

pub socat-outcome-requires : goal.socat-outcome-requires
socat-outcome-requires g c = record { free = rw c.follow-followed.ensures.2 c.requires.free }

pub returns-clause-free : goal.returns-clause-free
returns-clause-free g c = rw c.unfollow.ensures.same.2 c.socat-outcome.ensures.free

pub returns-clause-headline : goal.returns-clause-headline
returns-clause-headline g c = λ before told. rw c.unfollow.ensures.same.2 (c.socat-outcome.ensures.headline before (rw c.follow-followed.ensures.2 told))
