-- How many looks at sessions the loop makes, and that ended calls of the door stay ended.
use Rattle.std.proofs.Common.{◌≡◌, refl, sym, ap, ◌∙◌, ℕ, ◌+◌, ◌≤◌, ◌<◌, inr, Bool, true, false, ◌||◌, List, [], ◌∷◌, length, Option, Some, None, arith}
use Rattle.std.proofs.lemmas.Bool.{or_parts, true≢false}
use Rattle.std.specs.FinMap.{FinMap, get, len}
use Rattle.std.specs.Ordering.{nat_cmp}
use Rattle.relay_model.specs.declared.commands.Config.{Config}
use Rattle.relay_model.specs.declared.acts.Why.TheVariants as whys
use Rattle.relay_model.specs.declared.acts.Act.{Act}
use Rattle.relay_model.specs.declared.acts.Act.TheVariants as acts
use Rattle.relay_model.specs.Choices.{only_if, first_some}
use Rattle.relay_model.specs.Places.{same_place}
use Rattle.relay_model.specs.Configs.{program_door}
use Rattle.relay_model.specs.History.{memory_said, stop_said, accept_failed, same_why}
use Rattle.program_door.specs.Causes.{door_cause}
use Rattle.program_door.specs.declared.doors.Door.{Door}
use Rattle.fork_table.specs.Tables.{live_in}
use Rattle.world_trait.specs.Seen.{Seen}
use Rattle.session_driver.specs.DoorSteps.{DoorFor, DoorActs}
use Rattle.event_loop.specs.declared.all_sessions.Sessions.{Sessions}
use Rattle.event_loop.specs.Courses.{NoWork, SessionsSomewhere, SameLists, SameRest}
use Rattle.relay_model.specs.Readiness.{Listed, copied_list}
use Rattle.event_loop.specs.Turns.{DoorHearsTurn}
use Rattle.event_loop.specs.Looks.{LooksFew, NoneDue, OnlyNamedCame, WaitsNoLonger, WorksFew}
use Rattle.event_loop.specs.Waits.{IsLeast, WaitsFor}
use Rattle.relay_laws.specs.Sleeps.{IsBefore}
use Rattle.event_loop.proofs.DoorSteps.{door_for}

-- ---- what has ended the calls of the door

none_of : (m t a : Bool) → first_some (only_if m whys.Memory ∷ only_if t whys.Stopped ∷ only_if a whys.AcceptFailed ∷ []) ≡ None → (m ≡ false) × (t ≡ false) × (a ≡ false)
none_of true t a e = let x : ⊥ = cc in absurd x
none_of false true a e = let x : ⊥ = cc in absurd x
none_of false false true e = let x : ⊥ = cc in absurd x
none_of false false false e = (refl, refl, refl)

all_none : (m t a : Bool) → m ≡ false → t ≡ false → a ≡ false → first_some (only_if m whys.Memory ∷ only_if t whys.Stopped ∷ only_if a whys.AcceptFailed ∷ []) ≡ None
all_none m t a e f g = rw (e, f, g) refl

stays_uncut : (act : Act) (past : List Act) → door_cause (act ∷ past) ≡ None → door_cause past ≡ None
stays_uncut (acts.Turn until at ready stop) past e =
    let n = none_of (memory_said past) (stop || stop_said past) (accept_failed past program_door) e in
    all_none (memory_said past) (stop_said past) (accept_failed past program_door) n.0 (or_parts stop (stop_said past) n.1).1 n.2
stays_uncut (acts.Closed q why) past e =
    let n = none_of (same_why why whys.Memory || memory_said past) (same_why why whys.Stopped || stop_said past) (accept_failed past program_door) e in
    all_none (memory_said past) (stop_said past) (accept_failed past program_door) (or_parts (same_why why whys.Memory) (memory_said past) n.0).1 (or_parts (same_why why whys.Stopped) (stop_said past) n.1).1 n.2
stays_uncut (acts.AcceptFailed q) past e =
    let n = none_of (memory_said past) (stop_said past) (same_place q program_door || accept_failed past program_door) e in
    all_none (memory_said past) (stop_said past) (accept_failed past program_door) n.0 n.1 (or_parts (same_place q program_door) (accept_failed past program_door) n.2).1
stays_uncut act past e = e

-- an act of the door
pub acted_uncut : (c : Config) (old new : Seen) (live : ℕ) (before : Sessions) (after : Door) (act : Act) → live ≡ live_in before.table → SessionsSomewhere c old before → DoorActs c (λ m p. DoorFor c m p before.clock live before.door) old new before.door after act → after.cut ≡ None → before.door.cut ≡ None
acted_uncut c old new live before after act e at a k =
    let s = (a.heard at.n at.past (door_for c at.n at.start old at.past before live e at.course)).stands in
    at.course.frame.door.cut_is ∙ stays_uncut act at.past (sym s.cut_is ∙ k)

-- a failed accepting ends them
pub failed_cut : {P : Type 0} (c : Config) (old new : Seen) (live : ℕ) (before : Sessions) (after : Door) → live ≡ live_in before.table → SessionsSomewhere c old before → DoorActs c (λ m p. DoorFor c m p before.clock live before.door) old new before.door after (acts.AcceptFailed program_door) → after.cut ≡ None → P
failed_cut c old new live before after e at a k =
    let s = (a.heard at.n at.past (door_for c at.n at.start old at.past before live e at.course)).stands in
    let n = none_of (memory_said at.past) (stop_said at.past) true (sym s.cut_is ∙ k) in
    absurd (true≢false n.2)

-- a turn leaves them ended
pub turned_uncut : (c : Config) (now : Seen) (sessions : Sessions) (at : ℕ) (ready : Listed) (stop : Bool) (after : Door) → SessionsSomewhere c now sessions → DoorHearsTurn ready stop sessions.door after → after.cut ≡ None → sessions.door.cut ≡ None
turned_uncut c now sessions at ready stop after there hears k =
    let d = there.course.frame.door in
    let s = hears c there.past None at d in
    d.cut_is ∙ stays_uncut (acts.Turn None at (copied_list ready) stop) there.past (sym s.cut_is ∙ k)

pub same_cut : (before after : Door) → after ≡ before → after.cut ≡ None → before.cut ≡ None
same_cut before after e k = ap (λ (d : Door). d.cut) (sym e) ∙ k

-- ---- looks

pub looks_none : (ticks : ℕ) (before after : Sessions) → after.door ≡ before.door → after.table.admitted ≡ before.table.admitted → LooksFew 0 ticks ticks before after
looks_none ticks before after d a = λ k. (same_cut before.door after.door d k, omega (arith, a))

pub looks_then : (more : ℕ) (old mid new : ℕ) (one two three : Sessions) → LooksFew 0 old mid one two → LooksFew more mid new two three → LooksFew more old new one three
looks_then more old mid new one two three f g = λ k. let b = g k in let a = f b.0 in (a.0, (let x = a.1 in let y = b.1 in omega (arith, x, y)))

-- the list of work was run before
pub looks_after : (work more : ℕ) (old mid new : ℕ) (one two three : Sessions) → SameRest one two → mid ≤ old + work → LooksFew more mid new two three → LooksFew (work + more) old new one three
looks_after work more old mid new one two three same few g = λ k.
    let b = g k in
    let a = same.admitted_same in
    (same_cut one.door two.door same.door_same b.0, (let x = b.1 in omega (arith, x, few, a)))

pub looks_run : (work more : ℕ) (old new : ℕ) (one two : Sessions) → SameRest one two → new ≤ old + work → LooksFew (work + more) old new one two
looks_run work more old new one two same few = λ k. let a = same.admitted_same in (same_cut one.door two.door same.door_same k, omega (arith, few, a))

pub looks_more : (more : ℕ) (old new : ℕ) (one two : Sessions) → LooksFew 0 old new one two → LooksFew more old new one two
looks_more more old new one two f = λ k. let a = f k in (a.0, (let x = a.1 in omega (arith, x)))

-- ---- a wait

pub looks_waited : (c : Config) (seen : Seen) (at : ℕ) (ready : Listed) (stop : Bool) (more old new : ℕ) (before mid after : Sessions) → SessionsSomewhere c seen before → DoorHearsTurn ready stop before.door mid.door → mid.table.admitted ≡ before.table.admitted → SameRest mid after → new ≤ old + more → LooksFew more old new before after
looks_waited c seen at ready stop more old new before mid after there hears admitted same few = λ k.
    let a = same.admitted_same in
    (turned_uncut c seen before at ready stop mid.door there hears (same_cut mid.door after.door same.door_same k), omega (arith, a, admitted, few))

pub works_waited : (named more : ℕ) (before mid after : Sessions) → mid.work.items ≡ before.work.items → mid.timers.moments ≡ before.timers.moments → WorksFew named mid after → named ≤ more → WorksFew more before after
works_waited named more before mid after w t few l = let x = ap length w in let y = ap len t in omega (arith, x, y, few, l)

pub works_named : (more : ℕ) (one two three : Sessions) → length two.work.items ≤ length one.work.items + more → two.timers.moments ≡ one.timers.moments → WorksFew 0 two three → WorksFew more one three
works_named more one two three few t due = let y = ap len t in omega (arith, few, y, due)

pub works_alone : (more : ℕ) (one two : Sessions) → length two.work.items ≤ length one.work.items + more → two.timers.moments ≡ one.timers.moments → WorksFew more one two
works_alone more one two few t = let y = ap len t in omega (arith, few, y)

pub as_many : (one two : Listed) → two ≡ one → length two.entries ≡ length one.entries
as_many one two e = ap (λ (l : Listed). length l.entries) e

-- ---- what comes into the list of work where no timer is due

pub named_alone : (named more : ℕ) (one two three : Sessions) → length two.work.items ≤ length one.work.items + named → two.clock ≡ one.clock → two.timers.moments ≡ one.timers.moments → named ≤ more → OnlyNamedCame 0 two three → OnlyNamedCame more one three
named_alone named more one two three few clock t l due = λ none. let d = due (λ s m e. let k = none s m (ap (λ (x : FinMap nat_cmp ℕ). get x s) (sym t) ∙ e) in omega (arith, k, clock)) in omega (arith, few, d, l)

pub came_then : (more : ℕ) (one two three : Sessions) → two.work.items ≡ one.work.items → two.clock ≡ one.clock → two.timers.moments ≡ one.timers.moments → OnlyNamedCame more two three → OnlyNamedCame more one three
came_then more one two three w clock t came = λ none. let k = came (λ s m e. let l = none s m (ap (λ (x : FinMap nat_cmp ℕ). get x s) (sym t) ∙ e) in omega (arith, l, clock)) in let x = ap length w in omega (arith, k, x)

pub none_then : (at : ℕ) (until : Option ℕ) (before mid : Sessions) → mid.clock ≡ at → mid.timers.moments ≡ before.timers.moments → WaitsNoLonger until before → IsBefore at until → NoneDue mid
none_then at until before mid clock t longest early s m e = go until early (longest s m (ap (λ (x : FinMap nat_cmp ℕ). get x s) (sym t) ∙ e))
  where
    go : (o : Option ℕ) → IsBefore at o → (u : ℕ) × (o ≡ Some u) × (u ≤ m) → mid.clock < m
    go None b (u, f, l) = let x : ⊥ = cc in absurd x
    go (Some k) b (u, f, l) = let same : k ≡ u = cc in omega (arith, b, same, l, clock)

-- the least moment of all is no later than that of any session
pub no_longer : (first until : Option ℕ) (sessions : Sessions) → IsLeast (WaitsFor first sessions) until → WaitsNoLonger until sessions
no_longer first None sessions l s m e = absurd (l m (inr (s, e)))
no_longer first (Some u) sessions l s m e = (u, refl, l.1 m (inr (s, e)))

-- a wait that ends early leaves no more in the list of work than the turn names
pub turned_few : (at : ℕ) (until : Option ℕ) (before mid after : Sessions) → mid.clock ≡ at → SameLists before mid → NoWork before → OnlyNamedCame (length mid.ready.entries) mid after → WaitsNoLonger until before → IsBefore at until → length after.work.items ≤ length mid.ready.entries
turned_few at until before mid after clock same idle came longest early =
    let k = came (none_then at until before mid clock same.timers_same longest early) in
    let w = ap length (same.work_same ∙ idle) in
    omega (arith, k, w)
