-- Both kinds of runs, and what is known of each.
use Rattle.std.proofs.Common.{◌≡◌, refl, sym, ap, subst, ◌∙◌, ℕ, suc, ◌+◌, ◌-◌, ◌^◌, ◌≤◌, ◌<◌, min, true, false, List, ◌∷◌, ◌++◌, length-append, append_assoc, add-one, Option, Some, None, arith}
use Rattle.std.proofs.lemmas.Bool.{false≢true, true≢false}
use Rattle.relay_model.specs.declared.acts.Act.{Act}
use Rattle.relay_model.specs.declared.acts.Act.TheVariants.{Turn}
use Rattle.relay_model.specs.declared.commands.Config.{Config}
use Rattle.relay_model.specs.Configs.{Fit, has_fork}
use Rattle.relay_model.specs.History.{turns}
use Rattle.relay_model.specs.Readiness.{copied_list}
use Rattle.exit_status.specs.declared.outcomes.Outcome.{Outcome}
use Rattle.world_trait.specs.Seen.{Seen}
use Rattle.session_loop.specs.Commands.{Runnable}
use Rattle.session_loop.specs.Courses.{ends_in_turn}
use Rattle.session_loop.specs.Ended.{Happened}
use Rattle.session_loop.proofs.Ended as single
use Rattle.event_loop.specs.Births.{Forks}
use Rattle.event_loop.specs.declared.all_sessions.Sessions.{Sessions}
use Rattle.event_loop.specs.declared.turned.RunEnd.{RunEnd}
use Rattle.event_loop.specs.declared.turned.RunEnd.TheVariants as ends
use Rattle.event_loop.specs.Looks.{LooksPaid}
use Rattle.event_loop.specs.Turned.{ComesTo, Further, GoesRound, RunIs, Within}
use Rattle.event_loop.specs.Vacated.{EndedAt, EndsFor, acts_to}
use Rattle.event_loop.specs.Waited.{ShortAt, Stopping}
use Rattle.event_loop.proofs.Finishing as several
use Rattle.event_loop.proofs.Paying.{named_append}
use Rattle.event_loop.specs.declared.steps.Step.{Step}
use Rattle.event_loop.specs.declared.steps.Step.TheVariants.{Goes, Over}
use Rattle.event_loop.specs.declared.many.ManySessions.{ManySessions}
use Rattle.event_loop.specs.declared.courses.LoopCourse.{LoopCourse}
use Rattle.event_loop.specs.declared.courses.LoopCourse.TheVariants.{One, Many}
use Rattle.event_loop.specs.Loops.{CallPaid, Called, CountsWaits, HasEnded, IsCourse, AreSessions, IsMany, IsToEnd, LoopWentOn, is_late}

-- ---- commands

pub runs_one : (c : Config) → Fit c → has_fork c ≡ false → Runnable c
runs_one c fit alone = record { fit = fit; alone = alone }

pub runs_many : (c : Config) → Fit c → has_fork c ≡ true → Forks c
runs_many c fit fork = record { fit = fit; fork = fork }

-- ---- what has happened

happened_end : (c : Config) (n : ℕ) (start now : Seen) (past : List Act) (sessions : Sessions) (end : RunEnd) → IsToEnd c n start now past sessions end → Happened c n start now past
happened_end c n start now past sessions ends.Stops is =
    let o = is.0.stopping.exit in
    subst (Happened c n start now) (sym is.1) (several.happened c n start now (Turn is.0.until sessions.clock (copied_list sessions.ready) true ∷ is.0.past) o.fork o.run)
happened_end c n start now past sessions ends.Short is =
    let f = is.0.ends.frame in
    subst (Happened c n start now) (sym is.1) (several.happened c n start now is.0.ends.past f.fork f.run)
happened_end c n start now past sessions ends.Over is = absurd is
happened_end c n start now past sessions (ends.Ends why) is = absurd is

happened_sessions : (c : Config) (n : ℕ) (start now : Seen) (past : List Act) (sessions : Sessions) (end : Option RunEnd) → AreSessions c n start now past sessions end → Happened c n start now past
happened_sessions c n start now past sessions None is = several.happened c n start now past is.0.frame.fork is.0.frame.run
happened_sessions c n start now past sessions (Some end) is = happened_end c n start now past sessions end is

pub happened : (c : Config) (n : ℕ) (start now : Seen) (past : List Act) (course : LoopCourse) → IsCourse c n start now past course → Happened c n start now past
happened c n start now past (One one) is = single.happened c n start now one.driver past is.course
happened c n start now past (Many many) is = happened_sessions c n start now past many.sessions many.end is.sessions

-- ---- how many turns were made

turned_end : (c : Config) (n : ℕ) (start now : Seen) (past : List Act) (sessions : Sessions) (end : RunEnd) → IsToEnd c n start now past sessions end → turns past ≡ sessions.made
turned_end c n start now past sessions ends.Stops is = ap turns is.1 ∙ is.0.stopping.made_is
turned_end c n start now past sessions ends.Short is = ap turns is.1 ∙ is.0.ends.frame.made_is
turned_end c n start now past sessions ends.Over is = absurd is
turned_end c n start now past sessions (ends.Ends why) is = absurd is

pub turned_sessions : (c : Config) (n : ℕ) (start now : Seen) (past : List Act) (sessions : Sessions) (end : Option RunEnd) → AreSessions c n start now past sessions end → turns past ≡ sessions.made
turned_sessions c n start now past sessions None is = is.0.frame.made_is
turned_sessions c n start now past sessions (Some end) is = turned_end c n start now past sessions end is

-- ---- what a sessions comes to

-- what is to be ended is such an end
abbrev pub end_is : (c : Config) (n : ℕ) (start now : Seen) (past : List Act) (sessions : Sessions) (end : RunEnd) → IsToEnd c n start now past sessions end → RunIs c n start now sessions (Some end)
end_is c n start now past sessions ends.Stops is = is.0
end_is c n start now past sessions ends.Short is = is.0
end_is c n start now past sessions ends.Over is = absurd is
end_is c n start now past sessions (ends.Ends why) is = absurd is

abbrev pub within : (c : Config) (n : ℕ) (start now : Seen) (past : List Act) (many : ManySessions) → many.end ≡ None → IsMany c n start now past many → Within c n now many.sessions
within c n start now past many going is =
    let on = subst (AreSessions c n start now past many.sessions) going is.sessions in
    record { start = start; past = past; course = on.0; begins = on.1 }

one_more : (k n m : ℕ) → k ≡ n → m ≡ suc n → m ≡ k + 1
one_more k n m e f = omega (arith, e, f)

-- a turn came, and the run goes on
pub round_on : (c : Config) (n : ℕ) (start new : Seen) (past : List Act) (before : ℕ) (after : ManySessions) → Fit c → after.end ≡ None → turns past ≡ before → GoesRound c n start new after.sessions → after.sessions.made ≡ suc before → LoopWentOn past (λ since. IsMany c n start new since after)
round_on c n start new past before after fit going turned r made = record {
  since = Turn r.until r.turned.at r.turned.ready false ∷ r.past;
  stands = record { fit = fit; sessions = subst (AreSessions c n start new (Turn r.until r.turned.at r.turned.ready false ∷ r.past) after.sessions) (sym going) (r.turned.course, r.turned.begins) };
  last = refl;
  turned = one_more (turns past) before (turns (Turn r.until r.turned.at r.turned.ready false ∷ r.past)) turned (r.turned.course.frame.made_is ∙ made);
}

-- a turn came that says stop
pub stop_on : (c : Config) (n : ℕ) (start new : Seen) (past : List Act) (before : ℕ) (after : ManySessions) → Fit c → after.end ≡ Some ends.Stops → turns past ≡ before → Stopping c n start new after.sessions → after.sessions.made ≡ suc before → LoopWentOn past (λ since. IsMany c n start new since after)
stop_on c n start new past before after fit end turned s made = record {
  since = Turn s.until after.sessions.clock (copied_list after.sessions.ready) true ∷ s.past;
  stands = record { fit = fit; sessions = subst (AreSessions c n start new (Turn s.until after.sessions.clock (copied_list after.sessions.ready) true ∷ s.past) after.sessions) (sym end) (s, refl) };
  last = refl;
  turned = one_more (turns past) before (suc (turns s.past)) turned (s.stopping.made_is ∙ made);
}

-- a turn came, and then there was no memory
pub short_on : (c : Config) (n : ℕ) (start new : Seen) (past : List Act) (before : ℕ) (after : ManySessions) → Fit c → after.end ≡ Some ends.Short → turns past ≡ before → ShortAt c n start new after.sessions → after.sessions.made ≡ suc before → LoopWentOn past (λ since. IsMany c n start new since after)
short_on c n start new past before after fit end turned s made = record {
  since = s.ends.past;
  stands = record { fit = fit; sessions = subst (AreSessions c n start new s.ends.past after.sessions) (sym end) (s, refl) };
  last = ap ends_in_turn s.last;
  turned = one_more (turns past) before (turns s.ends.past) turned (s.ends.frame.made_is ∙ made);
}

-- a turn came for which the run is to be ended
pub late_on : (c : Config) (n : ℕ) (start new : Seen) (past : List Act) (before : Sessions) (after : ManySessions) (end : RunEnd) → Fit c → after.end ≡ Some end → is_late end ≡ true → turns past ≡ before.made → RunIs c n start new after.sessions (Some end) → Further n before after.sessions (Some end) → LoopWentOn past (λ since. IsMany c n start new since after)
late_on c n start new past before after ends.Stops fit e late turned is f = stop_on c n start new past before.made after fit e turned is f.1
late_on c n start new past before after ends.Short fit e late turned is f = short_on c n start new past before.made after fit e turned is f.1
late_on c n start new past before after ends.Over fit e late turned is f = absurd (false≢true late)
late_on c n start new past before after (ends.Ends why) fit e late turned is f = absurd (false≢true late)

pub late_further : (n : ℕ) (before after : Sessions) (end : RunEnd) → is_late end ≡ true → Further n before after (Some end) → (before.made < n) × (after.made ≡ before.made + 1)
late_further n before after ends.Stops late f = (f.0, f.1 ∙ sym (add-one before.made))
late_further n before after ends.Short late f = (f.0, f.1 ∙ sym (add-one before.made))
late_further n before after ends.Over late f = absurd (false≢true late)
late_further n before after (ends.Ends why) late f = absurd (false≢true late)

early_made : (n : ℕ) (before after : Sessions) (end : RunEnd) → is_late end ≡ false → Further n before after (Some end) → after.made ≡ before.made
early_made n before after ends.Stops late f = absurd (true≢false late)
early_made n before after ends.Short late f = absurd (true≢false late)
early_made n before after ends.Over late f = f
early_made n before after (ends.Ends why) late f = f

-- the run has ended by a call without a turn
pub early_end : (c : Config) (n : ℕ) (start new : Seen) (past since : List Act) (before after : Sessions) (end : RunEnd) (answer : Outcome) (ticks more : ℕ) → is_late end ≡ false → turns past ≡ before.made → Further n before after (Some end) → EndedAt c n start new since after.made answer ticks more → HasEnded c n start new past answer
early_end c n start new past since before after end answer ticks more late turned f e = record { since = e.made ++ since; ended = e.ended; turned = e.turned_is ∙ early_made n before after end late f ∙ sym turned }

-- ---- waits

one_wait : (start k old m new : ℕ) → min (start + k) (2 ^ 64 - 1) ≤ old → old ≤ start + k → m ≡ k + 1 → min (start + m) (2 ^ 64 - 1) ≤ new → new ≤ start + m → old < 2 ^ 64 - 1 → new ≡ old + 1
one_wait start k old m new a b e x y l = omega (arith, a, b, e, x, y, l)

no_wait : (start k old m new : ℕ) → min (start + k) (2 ^ 64 - 1) ≤ old → old ≤ start + k → m ≡ k → min (start + m) (2 ^ 64 - 1) ≤ new → new ≤ start + m → old < 2 ^ 64 - 1 → new ≡ old
no_wait start k old m new a b e x y l = omega (arith, a, b, e, x, y, l)

pub waits_counted : (c : Config) (n : ℕ) (start old new : Seen) (past : List Act) (step : Step) (Stands : List Act → Type 0) → Happened c n start old past → ((since : List Act) → Stands since → Happened c n start new since) → Called c n start new past Stands step → CountsWaits old.waits new.waits step
waits_counted c n start old new past Goes Stands was is w = let k = is w.since w.stands in one_wait start.waits (turns past) old.waits (turns w.since) new.waits was.waited was.few_waits w.turned k.waited k.few_waits
waits_counted c n start old new past (Over answer) Stands was is w = let k = w.ended.happened in no_wait start.waits (turns past) old.waits (turns w.since) new.waits was.waited was.few_waits w.turned k.waited k.few_waits

-- ---- looks

comes_happened : (c : Config) (n : ℕ) (start now : Seen) (sessions : Sessions) (end : Option RunEnd) (since : List Act) → has_fork c ≡ true → ComesTo c n start now sessions end since → Happened c n start now since
comes_happened c n start now sessions None since fork run = several.happened c n start now since fork run
comes_happened c n start now sessions (Some ends.Over) since fork o = subst (Happened c n start now) o.1 (several.happened c n start now o.0.past fork o.0.course.frame.run)
comes_happened c n start now sessions (Some (ends.Ends why)) since fork m = subst (Happened c n start now) m.1 (several.happened c n start now m.0.past fork m.0.frame.run)
comes_happened c n start now sessions (Some ends.Stops) since fork run = several.happened c n start now since fork run
comes_happened c n start now sessions (Some ends.Short) since fork run = several.happened c n start now since fork run

pub paid_on : (c : Config) (n : ℕ) (start now : Seen) (past : List Act) (sessions : Sessions) (end : Option RunEnd) (old new : ℕ) → has_fork c ≡ true → LooksPaid past (ComesTo c n start now sessions end) old new → CallPaid c n start now past old new
paid_on c n start now past sessions end old new fork l = record { made = l.made; happened = comes_happened c n start now sessions end (l.made ++ past) fork l.holds; few = l.few }

-- the run has ended after these looks
pub paid_end : (c : Config) (n : ℕ) (start mid now : Seen) (past : List Act) (sessions : Sessions) (end : Option RunEnd) (turned : ℕ) (answer : Outcome) (old ticks new : ℕ) (since : List Act) (l : LooksPaid past (ComesTo c n start mid sessions end) old ticks) → since ≡ l.made ++ past → EndedAt c n start now since turned answer ticks new → CallPaid c n start now past old new
paid_end c n start mid now past sessions end turned answer old ticks new since l same e = record {
  made = e.made ++ l.made;
  happened = subst (Happened c n start now) (ap (λ (xs : List Act). e.made ++ xs) same ∙ sym (append_assoc e.made l.made past)) e.ended.happened;
  few = (let a = l.few in let b = e.few in let s = length-append e.made l.made in let k = named_append e.made l.made in omega (arith, a, b, s, k));
}

-- what is to be ended was led to by these acts
pub led_there : (c : Config) (n : ℕ) (start now : Seen) (past : List Act) (sessions : Sessions) (end : RunEnd) (is : IsToEnd c n start now past sessions end) → acts_to c n start now sessions end (end_is c n start now past sessions end is) ≡ past
led_there c n start now past sessions ends.Stops is = sym is.1
led_there c n start now past sessions ends.Short is = sym is.1
led_there c n start now past sessions ends.Over is = absurd is
led_there c n start now past sessions (ends.Ends why) is = absurd is

pub paid_there : (c : Config) (n : ℕ) (start now : Seen) (past since : List Act) (turned : ℕ) (answer : Outcome) (old new : ℕ) → since ≡ past → EndedAt c n start now since turned answer old new → CallPaid c n start now past old new
paid_there c n start now past since turned answer old new same e = record {
  made = e.made;
  happened = subst (λ (xs : List Act). Happened c n start now (e.made ++ xs)) same e.ended.happened;
  few = (let b = e.few in omega (arith, b));
}

-- the looks of a call that ends the run
pub early_paid : (c : Config) (n : ℕ) (start mid new : Seen) (past : List Act) (sessions : Sessions) (end : RunEnd) (answer : Outcome) (old ticks more : ℕ) → is_late end ≡ false → RunIs c n start mid sessions (Some end) → LooksPaid past (ComesTo c n start mid sessions (Some end)) old ticks → EndsFor c end mid new sessions answer ticks more → CallPaid c n start new past old more
early_paid c n start mid new past sessions ends.Over answer old ticks more late is l leads = paid_end c n start mid new past sessions (Some ends.Over) sessions.made answer old ticks more l.holds.0.past l l.holds.1 (leads n start (l.holds.0, is.1))
early_paid c n start mid new past sessions (ends.Ends why) answer old ticks more late is l leads = paid_end c n start mid new past sessions (Some (ends.Ends why)) sessions.made answer old ticks more l.holds.0.past l l.holds.1 (leads n start l.holds.0)
early_paid c n start mid new past sessions ends.Stops answer old ticks more late is l leads = absurd (true≢false late)
early_paid c n start mid new past sessions ends.Short answer old ticks more late is l leads = absurd (true≢false late)
