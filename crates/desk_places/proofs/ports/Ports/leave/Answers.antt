use Rattle.std.proofs.Common.{◌∙◌, Some, ap, rules, sym}
use Rattle.desk_places.proofs.EntryLemmas.{found_base}
use Rattle.desk_places.proofs.MarkLemmas.{marks_gone}
use Rattle.desk_places.proofs.PortLemmas.{based_some, key_made, let_go_gone, let_go_others}
use Rattle.desk_places.proofs.SoundLemmas.{sound_let_go}
use Rattle.desk_places.proofs.ports.Ports.leave.Goals as goal

pub returns-clause-sound : goal.returns-clause-sound
returns-clause-sound g c = λ but.
    let entry = c.args.entry in
    let based = found_base c.args.places.now.entries entry.place entry c.requires.held ∙ ap Some (key_made entry.base c.in_ok-key.key (sym c.made_key.ensures ∙ c.in_ok-key.was)) in
    sound_let_go c.args.places.now.entries c.remove.new.self.entries entry.place c.args.self.now.table.made c.try_remove.new.self c.args.self.now.listed c.set.new.self c.remove.ensures.put.set c.set.ensures.covered but
    c.in_ok-key.key based c.try_remove.ensures.updates c.set.ensures.others

pub returns-clause-left : goal.returns-clause-left
returns-clause-left g c =
    let entry = c.args.entry in
    let based = found_base c.args.places.now.entries entry.place entry c.requires.held ∙ ap Some (key_made entry.base c.in_ok-key.key (sym c.made_key.ensures ∙ c.in_ok-key.was)) in
    record {
      gone = let_go_gone c.args.places.now.entries entry.place c.args.self.now.table.made c.try_remove.new.self c.in_ok-key.key based c.try_remove.ensures.updates;
      others = let_go_others c.args.places.now.entries entry.place c.args.self.now.table.made c.try_remove.new.self c.in_ok-key.key based c.try_remove.ensures.updates;
      marks = marks_gone c.args.places.now.entries c.remove.new.self.entries entry.place c.remove.ensures.put.set;
      fewer = c.remove.ensures.fewer (based_some c.args.places.now.entries entry.place _ based);
      room = search rules;
      maker = search rules;
      capacity = search rules;
    }
