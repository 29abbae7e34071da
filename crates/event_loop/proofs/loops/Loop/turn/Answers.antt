use Rattle.std.proofs.Common.{refl, sym, subst}
use Rattle.event_loop.specs.declared.courses.LoopCourse.{LoopCourse}
use Rattle.event_loop.specs.declared.courses.LoopCourse.TheVariants.{One, Many}
use Rattle.event_loop.specs.Loops.{Further, made_in}
use Rattle.event_loop.proofs.Ending.{course_turned, some_many, some_one, waits_of}
use Rattle.event_loop.proofs.loops.Loop.turn.Goals as goal

pub turn-requires : goal.turn-requires
turn-requires g c = some_one _ c.args.self.now c.in-One.one c.in-One.is c.requires

pub turn-requires-in-Many : goal.turn-requires-in-Many
turn-requires-in-Many g c = some_many _ c.args.self.now c.in-Many.many c.in-Many.is c.requires

pub returns-in-One-clause-turns : goal.returns-in-One-clause-turns
returns-in-One-clause-turns g c = course_turned _ _ c.args.self.now _ (One c.in-One.one) (One c.turn.new.self) c.turn.result c.in-One.is refl (record { config_same = refl; turns_same = refl }) c.turn.ensures.turns

pub returns-in-One-clause-waits : goal.returns-in-One-clause-waits
returns-in-One-clause-waits g c = waits_of (g.W.World.seen c.args.world.now) (g.W.World.seen c.turn.new.world) c.args.self.now (record c.args.self.now { course = One c.turn.new.self }) c.turn.result (record { config_same = refl; turns_same = refl }) c.requires (returns-in-One-clause-turns g c)

pub returns-in-One-clause-further : goal.returns-in-One-clause-further
returns-in-One-clause-further g c = subst (λ (x : LoopCourse). Further c.args.self.now.turns (made_in x) c.turn.new.self.driver.made c.turn.result) (sym c.in-One.is) c.turn.ensures.further

pub returns-in-One-clause-looks : goal.returns-in-One-clause-looks
returns-in-One-clause-looks g c = rw c.in-One.is refl

pub returns-in-Many-clause-turns : goal.returns-in-Many-clause-turns
returns-in-Many-clause-turns g c = course_turned _ _ c.args.self.now _ (Many c.in-Many.many) (Many c.turn-in-Many.new.self) c.turn-in-Many.result c.in-Many.is refl (record { config_same = refl; turns_same = refl }) c.turn-in-Many.ensures.turns

pub returns-in-Many-clause-waits : goal.returns-in-Many-clause-waits
returns-in-Many-clause-waits g c = waits_of (g.W.World.seen c.args.world.now) (g.W.World.seen c.turn-in-Many.new.world) c.args.self.now (record c.args.self.now { course = Many c.turn-in-Many.new.self }) c.turn-in-Many.result (record { config_same = refl; turns_same = refl }) c.requires (returns-in-Many-clause-turns g c)

pub returns-in-Many-clause-further : goal.returns-in-Many-clause-further
returns-in-Many-clause-further g c = subst (λ (x : LoopCourse). Further c.args.self.now.turns (made_in x) c.turn-in-Many.new.self.sessions.made c.turn-in-Many.result) (sym c.in-Many.is) c.turn-in-Many.ensures.further

pub returns-in-Many-clause-looks : goal.returns-in-Many-clause-looks
returns-in-Many-clause-looks g c = rw c.in-Many.is c.turn-in-Many.ensures.looks
