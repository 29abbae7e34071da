use Rattle.std.proofs.Common.{ap, ◌∙◌}
use Rattle.session_replay.specs.Replies.{with_act}
use Rattle.session_replay.proofs.Going.{heard_on}
use Rattle.session_replay.proofs.runs.ReplayRun.take_in.Goals as goal

pub returns : goal.returns
returns c = λ k n exchanges on left.
    heard_on k n exchanges c.args.self.now _ c.args.reply.now on left c.requires.fits
    (c.in_ok-note.ensures ∙ ap (λ o. with_act o c.args.self.now.journal.acts) c.in_ok-act.ensures)
    c.moment-self.ensures c.in_ok-self.ensures (λ past st. c.say.ensures.stands k n past st) c.say.ensures.asked
