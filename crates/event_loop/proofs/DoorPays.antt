-- Acts of the door, and turns, that pay for looks at sessions.
use Rattle.std.proofs.Common.{◌≡◌, ℕ, ◌+◌, ◌≤◌, Bool, List, [], ◌∷◌, ◌++◌, length, Option, Some, None, arith}
use Rattle.relay_model.specs.declared.commands.Config.{Config}
use Rattle.relay_model.specs.declared.places.Place.{Place}
use Rattle.relay_model.specs.declared.acts.Peer.{Peer}
use Rattle.relay_model.specs.declared.acts.Act.{Act}
use Rattle.relay_model.specs.declared.acts.Act.TheVariants as acts
use Rattle.relay_model.specs.declared.acts.Why.{Why}
use Rattle.relay_model.specs.Readiness.{Listed}
use Rattle.relay_model.specs.Configs.{program_door}
use Rattle.program_door.specs.declared.wishes.DoorWish.TheVariants as wishes
use Rattle.program_door.specs.Wishes.{Wished}
use Rattle.fork_table.specs.Tables.{live_in}
use Rattle.world_trait.specs.Seen.{Seen}
use Rattle.relay_model.specs.declared.acts.Why.TheVariants as whys
use Rattle.session_driver.specs.DoorSteps.{DoorFor, DoorActs, AdmitsNone, Admits}
use Rattle.event_loop.specs.declared.all_sessions.Sessions.{Sessions}
use Rattle.event_loop.specs.declared.all_sessions.Row.{Row}
use Rattle.event_loop.specs.declared.asked.DoorAsked.{DoorAsked}
use Rattle.event_loop.specs.declared.asked.DoorAsked.TheVariants as asks
use Rattle.event_loop.specs.Asking.{BornAs, OneMore, SameButNext}
use Rattle.event_loop.specs.Courses.{SessionsCourse, NoWork}
use Rattle.event_loop.specs.Endings.{MayEndAfter, RowRuns}
use Rattle.event_loop.specs.Paid.{LedOn, AskPaid, AskedPaid, AskedTo, EndsPaid}
use Rattle.event_loop.proofs.DoorSteps.{KeptBack, born_on, course_but_next, door_course, door_failed, door_unmoved, door_for, memory_ends_after}
use Rattle.event_loop.proofs.Paying.{led_after, led_itself, led_ran, led_then}
use Rattle.event_loop.proofs.RowRuns.{here_of, ran_course, ran_ends_after}

-- ---- one call of the door

pub paid_acted : (c : Config) (old new : Seen) (live ticks : ℕ) (before after : Sessions) (act : Act) → live ≡ live_in before.table → DoorActs c (λ m p. DoorFor c m p before.clock live before.door) old new before.door after.door act → ((m : ℕ) (p : List Act) → DoorFor c m p before.clock live before.door → AdmitsNone c p act) → KeptBack c before after → AskPaid c old new before after ticks ticks None
paid_acted c old new live ticks before after act e a none kept = λ n start past on. record {
  made = act ∷ [];
  holds = door_course c n start old new past live before after act e on a none kept;
  few = omega arith;
}

pub paid_admitted : (c : Config) (old mid_seen new : Seen) (live number ticks more : ℕ) (before mid after : Sessions) (place : Place) (peer : Peer) (row : Row) → live ≡ live_in before.table → DoorActs c (λ m p. DoorFor c m p before.clock live before.door) old mid_seen before.door mid.door (acts.Accepted place peer) → ((m : ℕ) (p : List Act) → DoorFor c m p before.clock live before.door → Admits c p place peer) → BornAs c before peer row.member.session → OneMore row before mid → number ≡ before.table.admitted → RowRuns c mid_seen new number mid after None → more ≤ ticks + 1 → AskPaid c old new before after ticks more None
paid_admitted c old mid_seen new live number ticks more before mid after place peer row e a admits born grown same run few = λ n start past on.
    let at = born_on c n start old mid_seen past live number before mid place peer row e on a admits born grown same in
    let r = run.0 n start (acts.Accepted place peer ∷ past) (here_of c n start mid_seen (acts.Accepted place peer ∷ past) number mid at) in
    led_after (acts.Accepted place peer) past (λ since. SessionsCourse c n start new since after) 1 0 ticks more (omega arith)
    (led_ran c number (acts.Accepted place peer ∷ past) r.since (λ since. SessionsCourse c n start new since after) 1 ticks more r.only.ran (ran_course c n start mid_seen new (acts.Accepted place peer ∷ past) number mid after at r run.1) few)

pub ended_admitted : (c : Config) (old mid_seen new : Seen) (live number ticks more : ℕ) (why : Why) (before mid after : Sessions) (place : Place) (peer : Peer) (row : Row) → live ≡ live_in before.table → DoorActs c (λ m p. DoorFor c m p before.clock live before.door) old mid_seen before.door mid.door (acts.Accepted place peer) → ((m : ℕ) (p : List Act) → DoorFor c m p before.clock live before.door → Admits c p place peer) → BornAs c before peer row.member.session → OneMore row before mid → number ≡ before.table.admitted → RowRuns c mid_seen new number mid after (Some why) → more ≤ ticks + 1 → AskPaid c old new before after ticks more (Some (asks.Ends why))
ended_admitted c old mid_seen new live number ticks more why before mid after place peer row e a admits born grown same run few = λ n start past on.
    let at = born_on c n start old mid_seen past live number before mid place peer row e on a admits born grown same in
    let r = run.0 n start (acts.Accepted place peer ∷ past) (here_of c n start mid_seen (acts.Accepted place peer ∷ past) number mid at) in
    led_after (acts.Accepted place peer) past (MayEndAfter c n start new why after) 1 2 ticks more (omega arith)
    (led_ran c number (acts.Accepted place peer ∷ past) r.since (MayEndAfter c n start new why after) 1 ticks more r.only.ran (ran_ends_after c n start mid_seen new (acts.Accepted place peer ∷ past) number why mid after at r run.1) few)

pub paid_failed : (c : Config) (old mid_seen new : Seen) (live ticks more : ℕ) (before mid after : Sessions) → live ≡ live_in before.table → NoWork before → DoorActs c (λ m p. DoorFor c m p before.clock live before.door) old mid_seen before.door mid.door (acts.AcceptFailed program_door) → KeptBack c before mid → EndsPaid c mid_seen new mid after ticks more None → AskPaid c old new before after ticks more None
paid_failed c old mid_seen new live ticks more before mid after e idle a kept run = λ n start past on.
    led_after (acts.AcceptFailed program_door) past (λ since. SessionsCourse c n start new since after) 0 0 ticks more (omega arith) (run n start past (door_failed c n start old mid_seen past live before mid e on idle a kept))

pub ended_failed : (c : Config) (old mid_seen new : Seen) (live ticks more : ℕ) (why : Why) (before mid after : Sessions) → live ≡ live_in before.table → NoWork before → DoorActs c (λ m p. DoorFor c m p before.clock live before.door) old mid_seen before.door mid.door (acts.AcceptFailed program_door) → KeptBack c before mid → EndsPaid c mid_seen new mid after ticks more (Some why) → AskPaid c old new before after ticks more (Some (asks.Ends why))
ended_failed c old mid_seen new live ticks more why before mid after e idle a kept run = λ n start past on.
    led_after (acts.AcceptFailed program_door) past (MayEndAfter c n start new why after) 2 2 ticks more (omega arith) (run n start past (door_failed c n start old mid_seen past live before mid e on idle a kept))

pub paid_idled : (c : Config) (n : ℕ) (start new : Seen) (past : List Act) (ticks : ℕ) (after : Sessions) → SessionsCourse c n start new past after → LedOn past (AskedTo c n start new after (asks.Ends whys.Memory)) 2 ticks ticks
paid_idled c n start new past ticks after on = led_itself past (AskedTo c n start new after (asks.Ends whys.Memory)) 2 ticks (memory_ends_after c n start new past after on)

pub paid_waiting : (c : Config) (old new : Seen) (live ticks : ℕ) (before after : Sessions) (until : Option ℕ) → live ≡ live_in before.table → new ≡ old → after.door ≡ before.door → ((m : ℕ) (p : List Act) → DoorFor c m p before.clock live before.door → Wished c p (wishes.Sleep until)) → KeptBack c before after → AskPaid c old new before after ticks ticks (Some (asks.Waits until))
paid_waiting c old new live ticks before after until e same door wished kept = λ n start past on.
    led_itself past (AskedTo c n start new after (asks.Waits until)) 2 ticks (door_unmoved c n start old new past before after on same door kept, wished n past (door_for c n start old past before live e on))

pub paid_over : (c : Config) (old new : Seen) (live ticks : ℕ) (before after : Sessions) → live ≡ live_in before.table → new ≡ old → after.door ≡ before.door → ((m : ℕ) (p : List Act) → DoorFor c m p before.clock live before.door → Wished c p wishes.Done) → KeptBack c before after → AskPaid c old new before after ticks ticks (Some asks.Over)
paid_over c old new live ticks before after e same door wished kept = λ n start past on.
    led_itself past (AskedTo c n start new after asks.Over) 2 ticks (door_unmoved c n start old new past before after on same door kept, wished n past (door_for c n start old past before live e on))

-- before the next session stood
pub paid_before : (c : Config) (old new : Seen) (ticks more : ℕ) (before mid after : Sessions) (result : Option DoorAsked) → SameButNext c before mid → AskPaid c old new mid after ticks more result → AskPaid c old new before after ticks more result
paid_before c old new ticks more before mid after None same p = λ n start past on. p n start past (course_but_next c n start old past before mid on same)
paid_before c old new ticks more before mid after (Some asked) same p = λ n start past on. p n start past (course_but_next c n start old past before mid on same)

-- no memory for it
pub paid_short : (c : Config) (now : Seen) (ticks : ℕ) (before after : Sessions) → SameButNext c before after → AskPaid c now now before after ticks ticks (Some (asks.Ends whys.Memory))
paid_short c now ticks before after same = λ n start past on. led_itself past (MayEndAfter c n start now whys.Memory after) 2 ticks (memory_ends_after c n start now past after (course_but_next c n start now past before after on same))

-- ---- all calls of the door

-- those so far
abbrev pub AskedOn : Config → Seen → Seen → Sessions → Sessions → ℕ → ℕ → Type 0
AskedOn c from now before after old new = AskPaid c from now before after old new None

pub asked_first : (c : Config) (now : Seen) (sessions : Sessions) (ticks : ℕ) → AskedOn c now now sessions sessions ticks ticks
asked_first c now sessions ticks = λ n start past on. led_itself past (λ since. SessionsCourse c n start now since sessions) 0 ticks on

pub asked_next : (c : Config) (old mid new : Seen) (one two three : Sessions) (ticks more last : ℕ) → AskedOn c old mid one two ticks more → AskPaid c mid new two three more last None → AskedOn c old new one three ticks last
asked_next c old mid new one two three ticks more last f g = λ n start past on.
    let a = f n start past on in
    led_then past (λ since. SessionsCourse c n start mid since two) (λ since. SessionsCourse c n start new since three) 0 0 0 ticks more last (omega arith) a (g n start (a.made ++ past) a.holds)

pub asked_last : (c : Config) (old mid new : Seen) (one two three : Sessions) (ticks more last : ℕ) (asked : DoorAsked) → AskedOn c old mid one two ticks more → AskPaid c mid new two three more last (Some asked) → AskedPaid c old new one three ticks last asked
asked_last c old mid new one two three ticks more last asked f g = λ n start past on.
    let a = f n start past on in
    led_then past (λ since. SessionsCourse c n start mid since two) (AskedTo c n start new three asked) 0 2 2 ticks more last (omega arith) a (g n start (a.made ++ past) a.holds)

-- ---- a turn came

pub led_turned : (past : List Act) (Q : List Act → Type 0) (until : Option ℕ) (at old new : ℕ) (ready : Listed) (stop : Bool) → Q (acts.Turn until at ready stop ∷ past) → new ≤ old + length ready.entries → LedOn past Q 0 old new
led_turned past Q until at old new ready stop q few = record { made = acts.Turn until at ready stop ∷ []; holds = q; few = omega (arith, few) }
