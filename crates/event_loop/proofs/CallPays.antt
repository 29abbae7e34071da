-- One call of the loop, and the acts that pay for its looks.
use Rattle.std.proofs.Common.{ℕ, ◌+◌, ◌*◌, List, ◌++◌, Option, Some, None, arith}
use Rattle.relay_model.specs.declared.commands.Config.{Config}
use Rattle.relay_model.specs.declared.acts.Act.{Act}
use Rattle.relay_model.specs.declared.acts.Why.{Why}
use Rattle.program_door.specs.Wishes.{Wished}
use Rattle.program_door.specs.declared.wishes.DoorWish.{DoorWish}
use Rattle.world_trait.specs.Seen.{Seen}
use Rattle.event_loop.specs.declared.turned.RunEnd.{RunEnd}
use Rattle.event_loop.specs.declared.turned.RunEnd.TheVariants as ends
use Rattle.event_loop.specs.declared.all_sessions.Sessions.{Sessions}
use Rattle.event_loop.specs.declared.asked.DoorAsked.{DoorAsked}
use Rattle.event_loop.specs.Courses.{SessionsCourse}
use Rattle.event_loop.specs.Looks.{last_named}
use Rattle.event_loop.specs.Paid.{LedOn, RowsPaid, AskedPaid, AskedTo, WaitForPaid}
use Rattle.event_loop.specs.Turned.{ComesTo, LooksBounded, Rested}
use Rattle.event_loop.proofs.Paying.{call_paid, led_as, led_then, looks_paid}

-- a session ended the run
pub call_ends : (c : Config) (n : ℕ) (from now : Seen) (old new : ℕ) (before after : Sessions) (why : Why) → RowsPaid c from now before after old new (Some why) → LooksBounded c n from now before after old new (Some (ends.Ends why))
call_ends c n from now old new before after why p at timely =
    let past = at.past in
    looks_paid past (ComesTo c n at.start now after (Some (ends.Ends why))) (2 * last_named past + 2) old new (omega arith) (p n at.start past (2 * last_named past) at.course (call_paid c past before.work.items at.begins timely))

-- the door ended it, or is over
pub call_asked : (c : Config) (n : ℕ) (from mid now : Seen) (old ticks new : ℕ) (before two after : Sessions) (asked : DoorAsked) (end : RunEnd) → ((start : Seen) (since : List Act) → AskedTo c n start now after asked since → ComesTo c n start now after (Some end) since) → RowsPaid c from mid before two old ticks None → AskedPaid c mid now two after ticks new asked → LooksBounded c n from now before after old new (Some end)
call_asked c n from mid now old ticks new before two after asked end comes p q at timely =
    let start = at.start in
    let past = at.past in
    let a = p n start past (2 * last_named past) at.course (call_paid c past before.work.items at.begins timely) in
    looks_paid past (ComesTo c n start now after (Some end)) (2 * last_named past + 2) old new (omega arith)
    (led_then past (λ since. SessionsCourse c n start mid since two) (ComesTo c n start now after (Some end)) (2 * last_named past) 2 (2 * last_named past + 2) old ticks new (omega arith) a
    (led_as (a.made ++ past) (AskedTo c n start now after asked) (ComesTo c n start now after (Some end)) 2 ticks new (comes start) (q n start (a.made ++ past) a.holds)))

-- the door waits, and so does the loop
pub call_waited : (c : Config) (n : ℕ) (from mid late now : Seen) (old ticks more new : ℕ) (before two three after : Sessions) (wish : DoorWish) (first : Option ℕ) (end : Option RunEnd) → RowsPaid c from mid before two old ticks None → ((m : ℕ) (start : Seen) (past : List Act) → SessionsCourse c m start mid past two → LedOn past (λ since. SessionsCourse c m start late since three × Wished c since wish) 2 ticks more) → ((since : List Act) → Wished c since wish → Rested c since first three) → WaitForPaid c n first late now three after more new end → LooksBounded c n from now before after old new end
call_waited c n from mid late now old ticks more new before two three after wish first end p q rested w at timely =
    let start = at.start in
    let past = at.past in
    let a = p n start past (2 * last_named past) at.course (call_paid c past before.work.items at.begins timely) in
    let b = q n start (a.made ++ past) a.holds in
    looks_paid past (ComesTo c n start now after end) (2 * last_named past + 2) old new (omega arith)
    (led_then past (λ since. SessionsCourse c n start mid since two) (ComesTo c n start now after end) (2 * last_named past) 2 (2 * last_named past + 2) old ticks new (omega arith) a
    (led_then (a.made ++ past) (λ since. SessionsCourse c n start late since three × Wished c since wish) (ComesTo c n start now after end) 2 0 2 ticks more new (omega arith) b
    (w start (b.made ++ (a.made ++ past)) b.holds.0 (rested (b.made ++ (a.made ++ past)) b.holds.1))))
