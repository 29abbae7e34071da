-- A session that lives with `fork` holds something, which a session with a cause may not while it rests.
use Rattle.std.proofs.Common.{◌≡◌, sym, ap, ◌∙◌, ℕ, Bool, true, false, cond, ◌&&◌, ◌==◌, nat_lt, is_some, List, Some}
use Rattle.std.proofs.lemmas.Bool.{true≢false, false≢true, and_parts}
use Rattle.relay_model.specs.declared.commands.Config.{Config}
use Rattle.relay_model.specs.declared.acts.Act.{Act}
use Rattle.relay_model.specs.declared.acts.Why.{Why}
use Rattle.relay_model.specs.Configs.{has_fork}
use Rattle.relay_model.specs.Sessions.{admitted, holds, live}
use Rattle.relay_model.specs.Cause.{cause}
use Rattle.session_laws.specs.Works.{MustAct}

holding : (fork begun held first : Bool) → fork ≡ true → cond fork (begun && held) first ≡ true → held ≡ true
holding true begun held first f l = (and_parts begun held l).1
holding false begun held first f l = absurd (false≢true f)

pub ended : (c : Config) (past : List Act) (s : ℕ) (why : Why) → has_fork c ≡ true → live c past s ≡ true → cause c past s ≡ Some why → MustAct c past s
ended c past s why fork l e r = true≢false (sym (holding (has_fork c) (nat_lt s (admitted c past)) (holds c past s) (s == 0) fork l) ∙ r.ended (ap is_some e))
