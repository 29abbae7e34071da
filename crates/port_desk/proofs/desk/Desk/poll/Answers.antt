use Rattle.std.proofs.Common.{arith, rules, []}
use Rattle.std.proofs.lemmas.Grind.{common_steps}
use Rattle.desk_places.specs.PlaceTables.{hold_at}
use Rattle.desk_places.specs.Naming.{told_by}
use Rattle.desk_places.proofs.OnlyLemmas.{first_due, never_idle, only_none, only_step, push_only}
use Rattle.desk_places.proofs.NamingLemmas.{grown_then, keyed_on, push_grown, push_held}
use Rattle.desk_places.proofs.TurnLemmas.{hinting_on, polls_at_once, polls_on}
use Rattle.port_desk.proofs.PollLemmas.{first_held}
use Rattle.port_desk.proofs.desk.Desk.poll.Goals as goal

pub returns-then-len-eq0-clause-named : goal.returns-then-len-eq0-clause-named
returns-then-len-eq0-clause-named g c =
    let hold = hold_at c.args.self.now.log.places.entries in
    push_held c.push.result c.name_hinting-then-len-gt0.new.ready c.push.new.self c.get-hinting.result c.push.ensures.pushed c.push.ensures.refused hold
    (first_held hold c.name_hinting.new.ready.entries c.get-hinting.result c.name_hinting.ensures.list.held c.get-hinting.ensures)
    c.name_hinting-then-len-gt0.ensures.list.held

pub returns-then-len-eq0-clause-polls : goal.returns-then-len-eq0-clause-polls
returns-then-len-eq0-clause-polls g c =
    let entries = c.args.self.now.log.places.entries in
    let told = told_by c.args.self.now.ports.table in
    let keys = c.poll-polled.new.ready.entries in
    record {
      keys = c.poll-polled.ensures.named;
      said = search rules;
      once = search rules;
      keyed = keyed_on keys entries c.name_keyed.new.ready.entries c.push.new.self.entries
          (grown_then c.name_keyed.new.ready.entries c.name_hinting-then-len-gt0.new.ready.entries c.push.new.self.entries
          c.name_hinting-then-len-gt0.ensures.list.grown
          (push_grown c.push.result c.name_hinting-then-len-gt0.new.ready c.push.new.self c.get-hinting.result c.push.ensures.pushed c.push.ensures.refused))
          c.name_keyed.ensures.named;
      hinted = hinting_on told entries c.name_hinting-then-len-gt0.new.ready.entries c.push.new.self.entries
          (push_grown c.push.result c.name_hinting-then-len-gt0.new.ready c.push.new.self c.get-hinting.result c.push.ensures.pushed c.push.ensures.refused) (search rules);
      only = push_only c.push.result c.name_hinting-then-len-gt0.new.ready c.push.new.self c.get-hinting.result c.push.ensures.pushed c.push.ensures.refused keys told entries
          (first_due keys told entries c.name_hinting.new.ready.entries c.get-hinting.result (c.name_hinting.ensures.list.only keys (only_none keys told entries c.args.ready.now.entries c.requires.empty)) c.get-hinting.ensures)
          (only_step keys c.args.self.now.ports.table c.name_hinting.new.ports.table entries c.name_keyed.new.ready.entries c.name_hinting-then-len-gt0.new.ready.entries c.name_hinting.ensures.list.same.streams c.name_hinting.ensures.list.same.made (c.name_hinting-then-len-gt0.ensures.list.only keys)
          (c.name_keyed.ensures.only told));
      waits = polls_at_once told entries c.push.new.self.entries c.push.new.self.entries c.args.self.now.log.last c.args.until _ (grind (arith, common_steps)) (record { kept = λ p half named. named; longer = search rules }) c.poll-polled.ensures.asked;
      idle = never_idle told entries c.name_hinting.new.ready.entries c.get-hinting.result c.args.until _ (c.name_hinting.ensures.list.only [] (only_none [] told entries c.args.ready.now.entries c.requires.empty)) c.get-hinting.ensures;
    }

pub returns-else-len-eq0-clause-polls : goal.returns-else-len-eq0-clause-polls
returns-else-len-eq0-clause-polls g c =
    let entries = c.args.self.now.log.places.entries in
    let told = told_by c.args.self.now.ports.table in
    let keys = c.poll-polled.new.ready.entries in
    record {
      keys = c.poll-polled.ensures.named;
      said = search rules;
      once = search rules;
      keyed = search rules;
      hinted = search rules;
      only = only_step keys c.args.self.now.ports.table c.name_hinting.new.ports.table entries c.name_keyed.new.ready.entries c.name_hinting-then-len-gt0.new.ready.entries c.name_hinting.ensures.list.same.streams c.name_hinting.ensures.list.same.made (c.name_hinting-then-len-gt0.ensures.list.only keys)
          (c.name_keyed.ensures.only told);
      waits = search rules;
      idle = never_idle told entries c.name_hinting.new.ready.entries c.get-hinting.result c.args.until _ (c.name_hinting.ensures.list.only [] (only_none [] told entries c.args.ready.now.entries c.requires.empty)) c.get-hinting.ensures;
    }

pub returns-clause-polls : goal.returns-clause-polls
returns-clause-polls g c =
    let entries = c.args.self.now.log.places.entries in
    let told = told_by c.args.self.now.ports.table in
    let keys = c.poll-polled-2.new.ready.entries in
    record {
      keys = c.poll-polled-2.ensures.named;
      said = search rules;
      once = search rules;
      keyed = search rules;
      hinted = search rules;
      only = only_step keys c.args.self.now.ports.table c.name_hinting.new.ports.table entries c.name_keyed-2.new.ready.entries c.name_hinting-2.new.ready.entries c.name_hinting.ensures.list.same.streams c.name_hinting.ensures.list.same.made (c.name_hinting-2.ensures.list.only keys)
          (c.name_keyed-2.ensures.only told);
      waits = polls_on told entries c.name_hinting.new.ready.entries c.name_hinting-2.new.ready.entries c.args.self.now.log.last c.args.until _ (search rules) c.name_hinting.ensures.named c.poll-polled-2.ensures.asked;
      idle = search rules;
    }
