use Rattle.desk_places.proofs.NamingLemmas.{push_at, push_fits, push_most, push_named}
use Rattle.desk_places.proofs.OnlyLemmas.{push_only}
use Rattle.desk_places.proofs.naming.name.Goals as goal

pub returns-clause-named : goal.returns-clause-named
returns-clause-named c = push_named c.push.result c.args.ready.now c.push.new.self (record { place = c.args.place; half = c.args.half }) c.push.ensures.full c.push.ensures.pushed c.push.ensures.refused

pub returns-clause-fits : goal.returns-clause-fits
returns-clause-fits c = push_fits c.push.result c.args.ready.now c.push.new.self (record { place = c.args.place; half = c.args.half }) c.push.ensures.full c.push.ensures.pushed

pub returns-clause-most : goal.returns-clause-most
returns-clause-most c = push_most c.push.result c.args.ready.now c.push.new.self (record { place = c.args.place; half = c.args.half }) c.push.ensures.pushed c.push.ensures.refused

pub returns-clause-list : goal.returns-clause-list
returns-clause-list c = push_at c.push.result c.args.ready.now c.push.new.self (record { place = c.args.place; half = c.args.half }) c.push.ensures.pushed c.push.ensures.refused

pub returns-clause-only : goal.returns-clause-only
returns-clause-only c = push_only c.push.result c.args.ready.now c.push.new.self (record { place = c.args.place; half = c.args.half }) c.push.ensures.pushed c.push.ensures.refused
