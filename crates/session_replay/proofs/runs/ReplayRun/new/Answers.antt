use Rattle.std.proofs.Common.{refl, sym, ◌∙◌}
use Rattle.std.proofs.lemmas.Bool.{false≢true}
use Rattle.session_replay.proofs.runs.ReplayRun.new.Goals as goal

pub returns : goal.returns
returns c = λ n silent. record {
  alone = c.requires.alone;
  silent = silent;
  exchanged = tt;
  legal = tt;
  acts = c.new-2.ensures;
  clock = refl;
  stands = c.in_ok-session.ensures.stands n;
  asked = c.in_ok-asked.ensures;
  reaped = λ p e. absurd (false≢true (sym (c.in_ok-session.ensures.unasked p) ∙ e));
}
