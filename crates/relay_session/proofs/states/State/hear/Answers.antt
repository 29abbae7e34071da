use Rattle.std.proofs.lemmas.Bool.{or_left}
use Rattle.std.proofs.Math.Dec.{leb-zero}
use Rattle.relay_session.proofs.StepLemmas.{reads_bytes, reads_one, takes_some, takes_all, never_ended}
use Rattle.relay_session.proofs.states.State.hear.Goals as goal

pub returns-in-Open-Opened-clause-goes : goal.returns-in-Open-Opened-clause-goes
returns-in-Open-Opened-clause-goes c = λ k n past s f a. let i = c.in-Open-Opened in rw (i.is-0, i.is-1) (c.hear_opening.ensures.goes k n past s f (rw i.is-0 at a))

pub returns-in-Open-Opened-clause-over : goal.returns-in-Open-Opened-clause-over
returns-in-Open-Opened-clause-over c = λ k n past s a e. never_ended c.args.self.now.ending (rw c.in-Open-Opened.is-0 at a).1 e

pub returns-in-Open-Later-clause-goes : goal.returns-in-Open-Later-clause-goes
returns-in-Open-Later-clause-goes c = λ k n past s f a. let i = c.in-Open-Later in rw (i.is-0, i.is-1) (c.hear_later.ensures.goes k n past s f (rw i.is-0 at a))

pub returns-in-Open-Later-clause-over : goal.returns-in-Open-Later-clause-over
returns-in-Open-Later-clause-over c = λ k n past s a e. never_ended c.args.self.now.ending (rw c.in-Open-Later.is-0 at a).1 e

pub returns-in-Open-Failed-clause-goes : goal.returns-in-Open-Failed-clause-goes
returns-in-Open-Failed-clause-goes c = λ k n past s f a. let i = c.in-Open-Failed in rw (i.is-0, i.is-1) (c.hear_open_failure.ensures.goes k n past s f (rw i.is-0 at a))

pub returns-in-Open-Failed-clause-over : goal.returns-in-Open-Failed-clause-over
returns-in-Open-Failed-clause-over c = λ k n past s a e. never_ended c.args.self.now.ending (rw c.in-Open-Failed.is-0 at a).1 e

pub returns-in-Settle-Opened-clause-goes : goal.returns-in-Settle-Opened-clause-goes
returns-in-Settle-Opened-clause-goes c = λ k n past s f a. let i = c.in-Settle-Opened in rw (i.is-0, i.is-1) (c.hear_opening-in-Settle-Opened.ensures.settles k n past s f (rw i.is-0 at a))

pub returns-in-Settle-Opened-clause-over : goal.returns-in-Settle-Opened-clause-over
returns-in-Settle-Opened-clause-over c = λ k n past s a e. never_ended c.args.self.now.ending (rw c.in-Settle-Opened.is-0 at a).1 e

pub returns-in-Settle-Later-clause-goes : goal.returns-in-Settle-Later-clause-goes
returns-in-Settle-Later-clause-goes c = λ k n past s f a. let i = c.in-Settle-Later in rw (i.is-0, i.is-1) (c.hear_later-in-Settle-Later.ensures.settles k n past s f (rw i.is-0 at a))

pub returns-in-Settle-Later-clause-over : goal.returns-in-Settle-Later-clause-over
returns-in-Settle-Later-clause-over c = λ k n past s a e. never_ended c.args.self.now.ending (rw c.in-Settle-Later.is-0 at a).1 e

pub returns-in-Settle-Failed-clause-goes : goal.returns-in-Settle-Failed-clause-goes
returns-in-Settle-Failed-clause-goes c = λ k n past s f a. let i = c.in-Settle-Failed in rw (i.is-0, i.is-1) (c.hear_open_failure-in-Settle-Failed.ensures.settles k n past s f (rw i.is-0 at a))

pub returns-in-Settle-Failed-clause-over : goal.returns-in-Settle-Failed-clause-over
returns-in-Settle-Failed-clause-over c = λ k n past s a e. never_ended c.args.self.now.ending (rw c.in-Settle-Failed.is-0 at a).1 e

pub returns-in-Listen-Listening-clause-goes : goal.returns-in-Listen-Listening-clause-goes
returns-in-Listen-Listening-clause-goes c = λ k n past s f a. let i = c.in-Listen-Listening in rw (i.is-0, i.is-1) (c.hear_listening.ensures.goes k n past s f (rw i.is-0 at a))

pub returns-in-Listen-Listening-clause-over : goal.returns-in-Listen-Listening-clause-over
returns-in-Listen-Listening-clause-over c = λ k n past s a e. never_ended c.args.self.now.ending (rw c.in-Listen-Listening.is-0 at a).1 e

pub returns-in-Listen-Failed-clause-goes : goal.returns-in-Listen-Failed-clause-goes
returns-in-Listen-Failed-clause-goes c = λ k n past s f a. let i = c.in-Listen-Failed in rw (i.is-0, i.is-1) (c.hear_listen_failure.ensures.goes k n past s f (rw i.is-0 at a))

pub returns-in-Listen-Failed-clause-over : goal.returns-in-Listen-Failed-clause-over
returns-in-Listen-Failed-clause-over c = λ k n past s a e. never_ended c.args.self.now.ending (rw c.in-Listen-Failed.is-0 at a).1 e

pub returns-in-Accept-Accepted-clause-goes : goal.returns-in-Accept-Accepted-clause-goes
returns-in-Accept-Accepted-clause-goes c = λ k n past s f a. let i = c.in-Accept-Accepted in rw (i.is-0, i.is-1) (c.hear_accepting.ensures.goes k n past s f (rw i.is-0 at a))

pub returns-in-Accept-Accepted-clause-over : goal.returns-in-Accept-Accepted-clause-over
returns-in-Accept-Accepted-clause-over c = λ k n past s a e. never_ended c.args.self.now.ending (rw c.in-Accept-Accepted.is-0 at a).1 e

pub returns-in-Accept-NoPeer-clause-goes : goal.returns-in-Accept-NoPeer-clause-goes
returns-in-Accept-NoPeer-clause-goes c = λ k n past s f a. let i = c.in-Accept-NoPeer in rw (i.is-0, i.is-1) (c.hear_no_peer.ensures.goes k n past s f (rw i.is-0 at a))

pub returns-in-Accept-NoPeer-clause-over : goal.returns-in-Accept-NoPeer-clause-over
returns-in-Accept-NoPeer-clause-over c = λ k n past s a e. never_ended c.args.self.now.ending (rw c.in-Accept-NoPeer.is-0 at a).1 e

pub returns-in-Accept-Failed-clause-goes : goal.returns-in-Accept-Failed-clause-goes
returns-in-Accept-Failed-clause-goes c = λ k n past s f a. let i = c.in-Accept-Failed in rw (i.is-0, i.is-1) (c.hear_accept_failure.ensures.goes k n past s f (rw i.is-0 at a))

pub returns-in-Accept-Failed-clause-over : goal.returns-in-Accept-Failed-clause-over
returns-in-Accept-Failed-clause-over c = λ k n past s a e. never_ended c.args.self.now.ending (rw c.in-Accept-Failed.is-0 at a).1 e

pub returns-in-Read-Bytes-clause-goes : goal.returns-in-Read-Bytes-clause-goes
returns-in-Read-Bytes-clause-goes c = λ k n past s f a. let i = c.in-Read-Bytes in rw (i.is-0, i.is-1) (c.hear_transfer.ensures.goes k n past s f (rw i.is-0 at a).1.0 (record { own = (rw i.is-0 at a).0.own; may = reads_bytes k past s _ _ _ (rw i.is-0 at a).0 (rw (i.is-0, i.is-1) at c.requires); affords = (rw i.is-0 at a).1.1 }))

pub returns-in-Read-Bytes-clause-over : goal.returns-in-Read-Bytes-clause-over
returns-in-Read-Bytes-clause-over c = λ k n past s a e. never_ended c.args.self.now.ending (rw c.in-Read-Bytes.is-0 at a).1.0 e

pub returns-in-Read-Empty-clause-goes : goal.returns-in-Read-Empty-clause-goes
returns-in-Read-Empty-clause-goes c = λ k n past s f a. let i = c.in-Read-Empty in rw (i.is-0, i.is-1) (c.hear_transfer-in-Read-Empty.ensures.goes k n past s f (rw i.is-0 at a).1.0 (record { own = (rw i.is-0 at a).0.own; may = reads_one k past s _ _ (rw i.is-0 at a).0; affords = (rw i.is-0 at a).1.1 }))

pub returns-in-Read-Empty-clause-over : goal.returns-in-Read-Empty-clause-over
returns-in-Read-Empty-clause-over c = λ k n past s a e. never_ended c.args.self.now.ending (rw c.in-Read-Empty.is-0 at a).1.0 e

pub returns-in-Read-End-clause-goes : goal.returns-in-Read-End-clause-goes
returns-in-Read-End-clause-goes c = λ k n past s f a. let i = c.in-Read-End in rw (i.is-0, i.is-1) (c.hear_transfer-in-Read-End.ensures.goes k n past s f (rw i.is-0 at a).1.0 (record { own = (rw i.is-0 at a).0.own; may = reads_one k past s _ _ (rw i.is-0 at a).0; affords = (rw i.is-0 at a).1.1 }))

pub returns-in-Read-End-clause-over : goal.returns-in-Read-End-clause-over
returns-in-Read-End-clause-over c = λ k n past s a e. never_ended c.args.self.now.ending (rw c.in-Read-End.is-0 at a).1.0 e

pub returns-in-Read-NotYet-clause-goes : goal.returns-in-Read-NotYet-clause-goes
returns-in-Read-NotYet-clause-goes c = λ k n past s f a. let i = c.in-Read-NotYet in rw (i.is-0, i.is-1) (c.hear_transfer-in-Read-NotYet.ensures.goes k n past s f (rw i.is-0 at a).1.0 (record { own = (rw i.is-0 at a).0.own; may = reads_one k past s _ _ (rw i.is-0 at a).0; affords = (rw i.is-0 at a).1.1 }))

pub returns-in-Read-NotYet-clause-over : goal.returns-in-Read-NotYet-clause-over
returns-in-Read-NotYet-clause-over c = λ k n past s a e. never_ended c.args.self.now.ending (rw c.in-Read-NotYet.is-0 at a).1.0 e

pub returns-in-Read-Failed-clause-goes : goal.returns-in-Read-Failed-clause-goes
returns-in-Read-Failed-clause-goes c = λ k n past s f a. let i = c.in-Read-Failed in rw (i.is-0, i.is-1) (c.hear_transfer-in-Read-Failed.ensures.goes k n past s f (rw i.is-0 at a).1.0 (record { own = (rw i.is-0 at a).0.own; may = reads_one k past s _ _ (rw i.is-0 at a).0; affords = (rw i.is-0 at a).1.1 }))

pub returns-in-Read-Failed-clause-over : goal.returns-in-Read-Failed-clause-over
returns-in-Read-Failed-clause-over c = λ k n past s a e. never_ended c.args.self.now.ending (rw c.in-Read-Failed.is-0 at a).1.0 e

pub returns-in-Write-Took-clause-goes : goal.returns-in-Write-Took-clause-goes
returns-in-Write-Took-clause-goes c = λ k n past s f a. let i = c.in-Write-Took in rw (i.is-0, i.is-1) (c.hear_transfer-in-Write-Took.ensures.goes k n past s f (rw i.is-0 at a).1.0 (record { own = (rw i.is-0 at a).0.own; may = ((rw i.is-0 at a).0.may, takes_some k past s _ _ _ (rw i.is-0 at a).0 (rw (i.is-0, i.is-1) at c.requires)); affords = (rw i.is-0 at a).1.1 }))

pub returns-in-Write-Took-clause-over : goal.returns-in-Write-Took-clause-over
returns-in-Write-Took-clause-over c = λ k n past s a e. never_ended c.args.self.now.ending (rw c.in-Write-Took.is-0 at a).1.0 e

pub returns-in-Write-NotYet-clause-goes : goal.returns-in-Write-NotYet-clause-goes
returns-in-Write-NotYet-clause-goes c = λ k n past s f a. let i = c.in-Write-NotYet in rw (i.is-0, i.is-1) (c.hear_transfer-in-Write-NotYet.ensures.goes k n past s f (rw i.is-0 at a).1.0 (record { own = (rw i.is-0 at a).0.own; may = (rw i.is-0 at a).0.may; affords = (rw i.is-0 at a).1.1 }))

pub returns-in-Write-NotYet-clause-over : goal.returns-in-Write-NotYet-clause-over
returns-in-Write-NotYet-clause-over c = λ k n past s a e. never_ended c.args.self.now.ending (rw c.in-Write-NotYet.is-0 at a).1.0 e

pub returns-in-Write-Failed-clause-goes : goal.returns-in-Write-Failed-clause-goes
returns-in-Write-Failed-clause-goes c = λ k n past s f a. let i = c.in-Write-Failed in rw (i.is-0, i.is-1) (c.hear_transfer-in-Write-Failed.ensures.goes k n past s f (rw i.is-0 at a).1.0 (record { own = (rw i.is-0 at a).0.own; may = (rw i.is-0 at a).0.may; affords = (rw i.is-0 at a).1.1 }))

pub returns-in-Write-Failed-clause-over : goal.returns-in-Write-Failed-clause-over
returns-in-Write-Failed-clause-over c = λ k n past s a e. never_ended c.args.self.now.ending (rw c.in-Write-Failed.is-0 at a).1.0 e

pub returns-in-Send-Took-clause-goes : goal.returns-in-Send-Took-clause-goes
returns-in-Send-Took-clause-goes c = λ k n past s f a. let i = c.in-Send-Took in rw (i.is-0, i.is-1) (c.hear_transfer-in-Send-Took.ensures.goes k n past s f (rw i.is-0 at a).1.0 (record { own = (rw i.is-0 at a).0.own; may = ((rw i.is-0 at a).0.may, takes_all k past s _ _ _ (rw i.is-0 at a).0 (rw (i.is-0, i.is-1) at c.requires)); affords = (rw i.is-0 at a).1.1 }))

pub returns-in-Send-Took-clause-over : goal.returns-in-Send-Took-clause-over
returns-in-Send-Took-clause-over c = λ k n past s a e. never_ended c.args.self.now.ending (rw c.in-Send-Took.is-0 at a).1.0 e

pub returns-in-Send-NotYet-clause-goes : goal.returns-in-Send-NotYet-clause-goes
returns-in-Send-NotYet-clause-goes c = λ k n past s f a. let i = c.in-Send-NotYet in rw (i.is-0, i.is-1) (c.hear_transfer-in-Send-NotYet.ensures.goes k n past s f (rw i.is-0 at a).1.0 (record { own = (rw i.is-0 at a).0.own; may = (rw i.is-0 at a).0.may; affords = (rw i.is-0 at a).1.1 }))

pub returns-in-Send-NotYet-clause-over : goal.returns-in-Send-NotYet-clause-over
returns-in-Send-NotYet-clause-over c = λ k n past s a e. never_ended c.args.self.now.ending (rw c.in-Send-NotYet.is-0 at a).1.0 e

pub returns-in-Send-Failed-clause-goes : goal.returns-in-Send-Failed-clause-goes
returns-in-Send-Failed-clause-goes c = λ k n past s f a. let i = c.in-Send-Failed in rw (i.is-0, i.is-1) (c.hear_transfer-in-Send-Failed.ensures.goes k n past s f (rw i.is-0 at a).1.0 (record { own = (rw i.is-0 at a).0.own; may = (rw i.is-0 at a).0.may; affords = (rw i.is-0 at a).1.1 }))

pub returns-in-Send-Failed-clause-over : goal.returns-in-Send-Failed-clause-over
returns-in-Send-Failed-clause-over c = λ k n past s a e. never_ended c.args.self.now.ending (rw c.in-Send-Failed.is-0 at a).1.0 e

pub returns-in-Shut-Done-clause-goes : goal.returns-in-Shut-Done-clause-goes
returns-in-Shut-Done-clause-goes c = λ k n past s f a. let i = c.in-Shut-Done in rw (i.is-0, i.is-1) (c.hear_transfer-in-Shut-Done.ensures.goes k n past s f (rw i.is-0 at a).1 (record { own = (rw i.is-0 at a).0.own; may = (rw i.is-0 at a).0.may; affords = leb-zero _ }))

pub returns-in-Shut-Done-clause-over : goal.returns-in-Shut-Done-clause-over
returns-in-Shut-Done-clause-over c = λ k n past s a e. never_ended c.args.self.now.ending (rw c.in-Shut-Done.is-0 at a).1 e

pub returns-in-Shut-Failed-clause-goes : goal.returns-in-Shut-Failed-clause-goes
returns-in-Shut-Failed-clause-goes c = λ k n past s f a. let i = c.in-Shut-Failed in rw (i.is-0, i.is-1) (c.hear_transfer-in-Shut-Failed.ensures.goes k n past s f (rw i.is-0 at a).1 (record { own = (rw i.is-0 at a).0.own; may = (rw i.is-0 at a).0.may; affords = leb-zero _ }))

pub returns-in-Shut-Failed-clause-over : goal.returns-in-Shut-Failed-clause-over
returns-in-Shut-Failed-clause-over c = λ k n past s a e. never_ended c.args.self.now.ending (rw c.in-Shut-Failed.is-0 at a).1 e

pub returns-in-Close-Done-clause-goes : goal.returns-in-Close-Done-clause-goes
returns-in-Close-Done-clause-goes c = λ k n past s f a. let i = c.in-Close-Done in rw (i.is-0, i.is-1) (c.hear_closing.ensures.goes k n past s f (rw i.is-0 at a))

pub returns-in-Close-Done-clause-over : goal.returns-in-Close-Done-clause-over
returns-in-Close-Done-clause-over c = λ k n past s a e. c.hear_closing.ensures.over e

pub returns-in-Reap-Reaped-clause-goes : goal.returns-in-Reap-Reaped-clause-goes
returns-in-Reap-Reaped-clause-goes c = λ k n past s f a. let i = c.in-Reap-Reaped in rw (i.is-0, i.is-1) (c.hear_reaping.ensures.goes k n past s _ f (rw i.is-0 at a))

pub returns-in-Reap-Reaped-clause-over : goal.returns-in-Reap-Reaped-clause-over
returns-in-Reap-Reaped-clause-over c = λ k n past s a e. c.hear_reaping.ensures.same

pub returns-in-Open-Opened-clause-asked : goal.returns-in-Open-Opened-clause-asked
returns-in-Open-Opened-clause-asked c = λ p e. or_left _ _ (c.hear_opening.ensures.asked p e)

pub returns-in-Open-Later-clause-asked : goal.returns-in-Open-Later-clause-asked
returns-in-Open-Later-clause-asked c = λ p e. or_left _ _ (c.hear_later.ensures.asked p e)

pub returns-in-Open-Failed-clause-asked : goal.returns-in-Open-Failed-clause-asked
returns-in-Open-Failed-clause-asked c = λ p e. or_left _ _ (c.hear_open_failure.ensures.asked p e)

pub returns-in-Settle-Opened-clause-asked : goal.returns-in-Settle-Opened-clause-asked
returns-in-Settle-Opened-clause-asked c = λ p e. or_left _ _ (c.hear_opening-in-Settle-Opened.ensures.asked p e)

pub returns-in-Settle-Later-clause-asked : goal.returns-in-Settle-Later-clause-asked
returns-in-Settle-Later-clause-asked c = λ p e. or_left _ _ (c.hear_later-in-Settle-Later.ensures.asked p e)

pub returns-in-Settle-Failed-clause-asked : goal.returns-in-Settle-Failed-clause-asked
returns-in-Settle-Failed-clause-asked c = λ p e. or_left _ _ (c.hear_open_failure-in-Settle-Failed.ensures.asked p e)

pub returns-in-Listen-Listening-clause-asked : goal.returns-in-Listen-Listening-clause-asked
returns-in-Listen-Listening-clause-asked c = λ p e. or_left _ _ (c.hear_listening.ensures.asked p e)

pub returns-in-Listen-Failed-clause-asked : goal.returns-in-Listen-Failed-clause-asked
returns-in-Listen-Failed-clause-asked c = λ p e. or_left _ _ (c.hear_listen_failure.ensures.asked p e)

pub returns-in-Accept-Accepted-clause-asked : goal.returns-in-Accept-Accepted-clause-asked
returns-in-Accept-Accepted-clause-asked c = λ p e. or_left _ _ (c.hear_accepting.ensures.asked p e)

pub returns-in-Accept-NoPeer-clause-asked : goal.returns-in-Accept-NoPeer-clause-asked
returns-in-Accept-NoPeer-clause-asked c = λ p e. or_left _ _ (c.hear_no_peer.ensures.asked p e)

pub returns-in-Accept-Failed-clause-asked : goal.returns-in-Accept-Failed-clause-asked
returns-in-Accept-Failed-clause-asked c = λ p e. or_left _ _ (c.hear_accept_failure.ensures.asked p e)

pub returns-in-Read-Bytes-clause-asked : goal.returns-in-Read-Bytes-clause-asked
returns-in-Read-Bytes-clause-asked c = λ p e. or_left _ _ (c.hear_transfer.ensures.asked p e)

pub returns-in-Read-Empty-clause-asked : goal.returns-in-Read-Empty-clause-asked
returns-in-Read-Empty-clause-asked c = λ p e. or_left _ _ (c.hear_transfer-in-Read-Empty.ensures.asked p e)

pub returns-in-Read-End-clause-asked : goal.returns-in-Read-End-clause-asked
returns-in-Read-End-clause-asked c = λ p e. or_left _ _ (c.hear_transfer-in-Read-End.ensures.asked p e)

pub returns-in-Read-NotYet-clause-asked : goal.returns-in-Read-NotYet-clause-asked
returns-in-Read-NotYet-clause-asked c = λ p e. or_left _ _ (c.hear_transfer-in-Read-NotYet.ensures.asked p e)

pub returns-in-Read-Failed-clause-asked : goal.returns-in-Read-Failed-clause-asked
returns-in-Read-Failed-clause-asked c = λ p e. or_left _ _ (c.hear_transfer-in-Read-Failed.ensures.asked p e)

pub returns-in-Write-Took-clause-asked : goal.returns-in-Write-Took-clause-asked
returns-in-Write-Took-clause-asked c = λ p e. or_left _ _ (c.hear_transfer-in-Write-Took.ensures.asked p e)

pub returns-in-Write-NotYet-clause-asked : goal.returns-in-Write-NotYet-clause-asked
returns-in-Write-NotYet-clause-asked c = λ p e. or_left _ _ (c.hear_transfer-in-Write-NotYet.ensures.asked p e)

pub returns-in-Write-Failed-clause-asked : goal.returns-in-Write-Failed-clause-asked
returns-in-Write-Failed-clause-asked c = λ p e. or_left _ _ (c.hear_transfer-in-Write-Failed.ensures.asked p e)

pub returns-in-Send-Took-clause-asked : goal.returns-in-Send-Took-clause-asked
returns-in-Send-Took-clause-asked c = λ p e. or_left _ _ (c.hear_transfer-in-Send-Took.ensures.asked p e)

pub returns-in-Send-NotYet-clause-asked : goal.returns-in-Send-NotYet-clause-asked
returns-in-Send-NotYet-clause-asked c = λ p e. or_left _ _ (c.hear_transfer-in-Send-NotYet.ensures.asked p e)

pub returns-in-Send-Failed-clause-asked : goal.returns-in-Send-Failed-clause-asked
returns-in-Send-Failed-clause-asked c = λ p e. or_left _ _ (c.hear_transfer-in-Send-Failed.ensures.asked p e)

pub returns-in-Shut-Done-clause-asked : goal.returns-in-Shut-Done-clause-asked
returns-in-Shut-Done-clause-asked c = λ p e. or_left _ _ (c.hear_transfer-in-Shut-Done.ensures.asked p e)

pub returns-in-Shut-Failed-clause-asked : goal.returns-in-Shut-Failed-clause-asked
returns-in-Shut-Failed-clause-asked c = λ p e. or_left _ _ (c.hear_transfer-in-Shut-Failed.ensures.asked p e)

pub returns-in-Close-Done-clause-asked : goal.returns-in-Close-Done-clause-asked
returns-in-Close-Done-clause-asked c = λ p e. or_left _ _ (c.hear_closing.ensures.asked p e)

pub returns-in-Reap-Reaped-clause-asked : goal.returns-in-Reap-Reaped-clause-asked
returns-in-Reap-Reaped-clause-asked c = λ p e. rw c.in-Reap-Reaped.is-0 (c.hear_reaping.ensures.asked p e)

pub returns-in-Reap-NoChild-clause-childless : goal.returns-in-Reap-NoChild-clause-childless
returns-in-Reap-NoChild-clause-childless c = λ k n past s f a e. c.hear_childless.ensures.goes k n past s f (rw c.in-Reap-NoChild.is-0 at a)

pub returns-in-Reap-NoChild-clause-over : goal.returns-in-Reap-NoChild-clause-over
returns-in-Reap-NoChild-clause-over c = λ k n past s a e. c.hear_childless.ensures.same

pub returns-in-Reap-NoChild-clause-asked : goal.returns-in-Reap-NoChild-clause-asked
returns-in-Reap-NoChild-clause-asked c = λ p e. rw c.in-Reap-NoChild.is-0 (c.hear_childless.ensures.asked p e)
