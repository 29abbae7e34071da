-- Where the door and all sessions wait, a wait is in order, until the least moment that one of them waits for.
use Rattle.std.proofs.Common.{◌≡◌, refl, sym, ap, ◌∙◌, ℕ, suc, ◌<◌, ◌≤◌, ◌⊎◌, inl, inr, Bool, true, false, ◌&&◌, nat_lt, List, [], ◌∷◌, length, Option, Some, None, is_some, arith}
use Rattle.std.proofs.lemmas.Bool.{false≢true}
use Rattle.relay_model.specs.declared.commands.Config.{Config}
use Rattle.relay_model.specs.declared.acts.Act.{Act}
use Rattle.relay_model.specs.declared.acts.Why.TheVariants as whys
use Rattle.relay_model.specs.Configs.{has_fork}
use Rattle.relay_model.specs.History.{turns}
use Rattle.relay_model.specs.Sessions.{admitted, holds, numbers}
use Rattle.relay_model.specs.May.{Legal}
use Rattle.relay_model.specs.declared.acts.Act.TheVariants as acts
use Rattle.relay_model.specs.Rest.{SessionRests}
use Rattle.relay_session.specs.Timers.{session_until}
use Rattle.program_door.specs.Wishes.{GoesOn}
use Rattle.event_loop.specs.declared.turned.RunEnd.{RunEnd}
use Rattle.event_loop.specs.declared.turned.RunEnd.TheVariants as ends
use Rattle.event_loop.specs.Turned.{Rested, Further, GoesRound, Within}
use Rattle.program_door.proofs.Moves.{numbers_are}
use Rattle.relay_laws.specs.Sleeps.{RestsUntil}
use Rattle.relay_laws.proofs.Resting.{gone}
use Rattle.session_laws.specs.Wholes.{Remains, WaitsUntil, IsLeastWait}
use Rattle.session_laws.proofs.Members.{resting}
use Rattle.session_laws.proofs.Rests.{all_rest}
use Rattle.session_laws.proofs.Waits.{least_wait}
use Rattle.fork_table.specs.Tables.{row_of}
use Rattle.world_trait.specs.Seen.{Seen}
use Rattle.event_loop.specs.declared.all_sessions.Sessions.{Sessions}
use Rattle.event_loop.specs.declared.all_sessions.Row.{Row}
use Rattle.event_loop.specs.Rows.{Has, UpRow, RowIs}
use Rattle.event_loop.specs.Turns.{names_own}
use Rattle.event_loop.specs.Looks.{AddsParts, CameForCause, HasCome, LeftByTurn, NoneDue, WaitsNoLonger, WasDue}
use Rattle.event_loop.specs.Courses.{SessionsCourse, SameLists, SessionsSomewhere, Keeps, NoWork, timer_of}
use Rattle.event_loop.specs.Asking.{DoorWaits, DoorIsOver}
use Rattle.event_loop.specs.Endings.{MayEnd, MayEndAfter}
use Rattle.event_loop.specs.Waited.{IsWaitInOrder}
use Rattle.event_loop.specs.Waits.{WaitsFor, IsLeast}
use Rattle.event_loop.proofs.Looking.{none_then}
use Rattle.event_loop.proofs.Lists.{has_none}
use Rattle.event_loop.proofs.RowLaws.{row_up, same_timer}
use Rattle.event_loop.proofs.DoorSteps.{course_may_end_after}

-- what one session waits for, if it has begun
pub record RowRests (c : Config) (past : List Act) (s : ℕ) (timer : Option ℕ) : Type 0 where
  pub rests : SessionRests c past s
  pub until_is : session_until c past s ≡ timer

gone_until : (c : Config) (past : List Act) (s : ℕ) → RestsUntil c past s None → session_until c past s ≡ None
gone_until c past s r = rw r.no_work r.moment_is

pub row_rests : (c : Config) (n : ℕ) (past : List Act) (s : ℕ) (work : List ℕ) (timer : Option ℕ) (row : Option Row) → has_fork c ≡ true → s < admitted c past → work ≡ [] → RowIs c n past s work timer row → RowRests c past s timer
row_rests c n past s work timer None fork below e r =
    let g = gone c past s fork (r.0 below) in
    record { rests = g.rests; until_is = gone_until c past s g ∙ sym r.1 }
row_rests c n past s work timer (Some row) fork below e (inl r) = has_none s work e r.0
row_rests c n past s work timer (Some row) fork below e (inr o) = let k = resting c n past s timer row.turn row.member.session o.0 in record { rests = k.0; until_is = k.1 }

and_second : (a b : Bool) → (a && b) ≡ true → b ≡ true
and_second true b e = e
and_second false b e = absurd (false≢true e)

row_holds : (c : Config) (n : ℕ) (past : List Act) (s : ℕ) (timer : Option ℕ) (row : Option Row) → has_fork c ≡ true → UpRow c n past s timer row → is_some row ≡ true → (s < numbers c past) × (holds c past s ≡ true)
row_holds c n past s timer None fork r e = absurd (false≢true e)
row_holds c n past s timer (Some row) fork r e = (r.begun, and_second (nat_lt s (admitted c past)) (holds c past s) (rw fork at r.lives))

-- a timer that is set is that of a session that has begun
set_begun : (c : Config) (n : ℕ) (past : List Act) (s m : ℕ) (timer : Option ℕ) (row : Option Row) → timer ≡ Some m → UpRow c n past s timer row → s < numbers c past
set_begun c n past s m timer None e r = let y : None ≡ Some m = sym r.1 ∙ e in let x : ⊥ = cc in absurd x
set_begun c n past s m timer (Some row) e r = r.begun

pub in_order : (c : Config) (n : ℕ) (start now : Seen) (past : List Act) (sessions : Sessions) (first until : Option ℕ) → SessionsCourse c n start now past sessions → Rested c past first sessions → NoWork sessions → IsLeast (WaitsFor first sessions) until → IsWaitInOrder c past until
in_order c n start now past sessions first until on rested idle least = record {
  rests = all_rest c n past first on.frame.run.legal on.frame.fork on.unowed (record { door = rested.door; remains = left rested.remains; sessions = λ s below. (each s (begun s below)).rests });
  is_until = least_wait c past until (go until least);
}
  where
    up : (s : ℕ) → UpRow c n past s (timer_of sessions s) (row_of sessions.table s)
    up s = row_up c n past s sessions.work.items (timer_of sessions s) (row_of sessions.table s) (on.rows s)

    left : GoesOn c past ⊎ ((s : ℕ) × (is_some (row_of sessions.table s) ≡ true)) → Remains c past
    left (inl g) = inl g
    left (inr w) = let h = row_holds c n past w.0 (timer_of sessions w.0) (row_of sessions.table w.0) on.frame.fork (up w.0) w.1 in inr (w.0, h.0, h.1)

    begun : (s : ℕ) → s < numbers c past → s < admitted c past
    begun s below = let e = numbers_are c past on.frame.fork in omega (arith, below, e)

    each : (s : ℕ) → s < admitted c past → RowRests c past s (timer_of sessions s)
    each s below = row_rests c n past s sessions.work.items (timer_of sessions s) (row_of sessions.table s) on.frame.fork below idle (on.rows s)

    to : (m : ℕ) → WaitsUntil c past m → WaitsFor first sessions m
    to m (inl e) = inl (rested.door.until_is ∙ e)
    to m (inr w) = inr (w.0, sym (each w.0 (begun w.0 w.1)).until_is ∙ w.2)

    from : (m : ℕ) → WaitsFor first sessions m → WaitsUntil c past m
    from m (inl e) = inl (sym rested.door.until_is ∙ e)
    from m (inr w) = let b = set_begun c n past w.0 m (timer_of sessions w.0) (row_of sessions.table w.0) w.1 (up w.0) in inr (w.0, b, (each w.0 (begun w.0 b)).until_is ∙ w.1)

    go : (o : Option ℕ) → IsLeast (WaitsFor first sessions) o → IsLeastWait c past o
    go None l = λ m w. l m (to m w)
    go (Some m) l = (from m l.0, λ k w. l.1 k (to k w))

-- ---- after a wait

-- what its sessions waited for is what their timers were set to
pub came_for : (c : Config) (n : ℕ) (start now : Seen) (past : List Act) (at : ℕ) (before mid after : Sessions) → SessionsCourse c n start now past before → NoWork before → mid.clock ≡ at → SameLists before mid → CameForCause c mid.ready.entries mid after → (s : ℕ) → Has s after.work.items → (names_own c s mid.ready.entries ≡ true) ⊎ ((m : ℕ) × (session_until c past s ≡ Some m) × (m ≤ at))
came_for c n start now past at before mid after on idle clock same came s has = go (came s has)
  where
    waited : (m : ℕ) → timer_of before s ≡ Some m → session_until c past s ≡ Some m
    waited m e =
        let up = row_up c n past s before.work.items (timer_of before s) (row_of before.table s) (on.rows s) in
        let b = set_begun c n past s m (timer_of before s) (row_of before.table s) e up in
        let k = numbers_are c past on.frame.fork in
        (row_rests c n past s before.work.items (timer_of before s) (row_of before.table s) on.frame.fork (omega (arith, b, k)) idle (on.rows s)).until_is ∙ e

    go : Has s mid.work.items ⊎ ((names_own c s mid.ready.entries ≡ true) ⊎ HasCome mid mid.clock s) → (names_own c s mid.ready.entries ≡ true) ⊎ ((m : ℕ) × (session_until c past s ≡ Some m) × (m ≤ at))
    go (inl f) = has_none s mid.work.items (same.work_same ∙ idle) f
    go (inr (inl f)) = inl f
    go (inr (inr d)) = inr (d.0, waited d.0 (sym (same_timer s before mid same.timers_same) ∙ d.1), (let b = d.2 in omega (arith, b, clock)))

-- where the turn came before the end of the wait, none was due
none_due : (mid : Sessions) (due : List ℕ) → NoneDue mid → ((s : ℕ) → Has s due → HasCome mid mid.clock s) → due ≡ []
none_due mid [] none come = refl
none_due mid (s ∷ ss) none come = let d = come s (inl refl) in let l = none s d.0 d.1 in let m = d.2 in absurd (omega (arith, l, m))

-- the list of work after it
pub left_by : (c : Config) (n : ℕ) (start now : Seen) (past : List Act) (until : Option ℕ) (at : ℕ) (before mid after : Sessions) → SessionsCourse c n start now past before → NoWork before → mid.clock ≡ at → SameLists before mid → WaitsNoLonger until before → AddsParts (length mid.ready.entries) mid after → LeftByTurn c past until at mid.ready.entries after.work.items
left_by c n start now past until at before mid after on idle clock same longest a = record {
  named = a.named;
  due = a.due;
  work_is = a.work_is;
  few = (let f = a.few in let w = ap length (same.work_same ∙ idle) in omega (arith, f, w));
  once = a.once;
  come = λ s h. due s (a.come s h);
  none = λ early. none_due mid a.due (none_then at until before mid clock same.timers_same longest early) a.come;
}
  where
    due : (s : ℕ) → HasCome mid mid.clock s → WasDue c past at s
    due s d =
        let e : timer_of before s ≡ Some d.0 = sym (same_timer s before mid same.timers_same) ∙ d.1 in
        let up = row_up c n past s before.work.items (timer_of before s) (row_of before.table s) (on.rows s) in
        let b = set_begun c n past s d.0 (timer_of before s) (row_of before.table s) e up in
        let k = numbers_are c past on.frame.fork in
        let l = d.2 in
        record {
          begun = b;
          come = (d.0, (row_rests c n past s before.work.items (timer_of before s) (row_of before.table s) on.frame.fork (omega (arith, b, k)) idle (on.rows s)).until_is ∙ e, omega (arith, l, clock));
        }

-- ---- the turns are used up

turns_within : (c : Config) (n : ℕ) (past : List Act) → Legal c n past → turns past ≤ n
turns_within c n [] l = omega (arith)
turns_within c n (acts.Turn until at ready stop ∷ past) l = let x = l.0.1.turns_left in omega (arith, x)
turns_within c n (act ∷ past) l = turns_within c n past l.1

pub limit_ends_after : (c : Config) (n : ℕ) (start now : Seen) (past : List Act) (sessions : Sessions) (until : Option ℕ) → SessionsCourse c n start now past sessions → IsWaitInOrder c past until → n ≤ sessions.made → MayEndAfter c n start now whys.Stopped sessions past
limit_ends_after c n start now past sessions until on order used =
    let e = on.frame.made_is in
    let within = turns_within c n past on.frame.run.legal in
    let all_used : turns past ≡ n = omega (arith, e, within, used) in
    course_may_end_after c n start now past whys.Stopped sessions refl (inr (refl, all_used, order.rests)) on

pub limit_ends : (c : Config) (n : ℕ) (start now : Seen) (past : List Act) (sessions : Sessions) (until : Option ℕ) → SessionsCourse c n start now past sessions → IsWaitInOrder c past until → n ≤ sessions.made → MayEnd c n start now whys.Stopped sessions
limit_ends c n start now past sessions until on order used = (limit_ends_after c n start now past sessions until on order used).0

-- ---- one more turn

pub further_made : (n : ℕ) (before mid after : Sessions) → mid.made ≡ before.made → (mid.made < n) × (after.made ≡ suc mid.made) → (before.made < n) × (after.made ≡ suc before.made)
further_made n before mid after m r = let few = r.0 in (omega (arith, m, few), r.1 ∙ ap suc m)

pub further_then : (n : ℕ) (before mid after : Sessions) (end : Option RunEnd) → mid.made ≡ before.made → Further n mid after end → Further n before after end
further_then n before mid after None m r = further_made n before mid after m r
further_then n before mid after (Some ends.Over) m r = r ∙ m
further_then n before mid after (Some (ends.Ends why)) m r = r ∙ m
further_then n before mid after (Some ends.Stops) m r = further_made n before mid after m r
further_then n before mid after (Some ends.Short) m r = further_made n before mid after m r

-- ---- after the door's calls

pub door_waits : (c : Config) (old mid new : Seen) (one two three : Sessions) (first : Option ℕ) → SessionsSomewhere c old one → Keeps c old mid one two → ((n : ℕ) (start : Seen) (past : List Act) → SessionsCourse c n start mid past two → DoorWaits c n start new first three) → SessionsSomewhere c new three
door_waits c old mid new one two three first at k w = let o = k at.n at.start at.past at.course in let d = w at.n at.start o.past o.course in record { n = at.n; start = at.start; past = d.past; course = d.course }

pub door_over : (c : Config) (old mid new : Seen) (one two three : Sessions) → SessionsSomewhere c old one → Keeps c old mid one two → ((n : ℕ) (start : Seen) (past : List Act) → SessionsCourse c n start mid past two → DoorIsOver c n start new three) → SessionsSomewhere c new three
door_over c old mid new one two three at k w = let o = k at.n at.start at.past at.course in let d = w at.n at.start o.past o.course in record { n = at.n; start = at.start; past = d.past; course = d.course }

-- ---- where the next call begins

pub some_within : (c : Config) (n : ℕ) (now : Seen) (sessions : Sessions) → Within c n now sessions → SessionsSomewhere c now sessions
some_within c n now sessions w = record { n = n; start = w.start; past = w.past; course = w.course }

pub within_round : (c : Config) (n : ℕ) (start now : Seen) (sessions : Sessions) → GoesRound c n start now sessions → Within c n now sessions
within_round c n start now sessions r = record { start = start; past = acts.Turn r.until r.turned.at r.turned.ready false ∷ r.past; course = r.turned.course; begins = r.turned.begins }
