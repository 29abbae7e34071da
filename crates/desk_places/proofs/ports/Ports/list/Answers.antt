use Rattle.std.proofs.Common.{rules, ◌∙◌, ap, refl, sym}
use Rattle.port_table.specs.declared.bases.Base.TheVariants as bases
use Rattle.desk_places.proofs.PortLemmas.{key_made}
use Rattle.desk_places.proofs.SoundLemmas.{heeds_armed_both, heeds_set, heeds_standard, sound_listed}
use Rattle.desk_places.proofs.ports.Ports.list.Goals as goal

pub returns-in_default-clause-sound : goal.returns-in_default-clause-sound
returns-in_default-clause-sound g c = λ places here but.
    sound_listed places c.args.entry.place c.args.self.now.table.made c.args.self.now.listed c.args.self.now.listed refl but
    c.args.entry here (λ key away. refl)
    (λ stands. heeds_standard c.args.entry c.args.self.now.listed.keys c.args.entry.base c.args.self.now.table.made (sym c.made_key.ensures ∙ c.in_default.is))

pub returns-then-is_armed-clause-sound : goal.returns-then-is_armed-clause-sound
returns-then-is_armed-clause-sound g c = λ places here but.
    let is = key_made c.args.entry.base c.in-Some.key (sym c.made_key.ensures ∙ c.in-Some.is) in
    sound_listed places c.args.entry.place c.args.self.now.table.made c.args.self.now.listed c.set.new.self c.set.ensures.covered but
    c.args.entry here
    (λ key away. c.set.ensures.others key (λ same. away (is ∙ ap bases.Made (sym same))))
    (λ stands. heeds_armed_both c.args.entry c.set.new.self.keys c.args.entry.base c.args.self.now.table.made (sym c.is_armed.ensures ∙ c.if-is_armed.true))

pub returns-clause-sound : goal.returns-clause-sound
returns-clause-sound g c = λ places here but.
    let is = key_made c.args.entry.base c.in-Some.key (sym c.made_key.ensures ∙ c.in-Some.is) in
    sound_listed places c.args.entry.place c.args.self.now.table.made c.args.self.now.listed c.set-2.new.self c.set-2.ensures.covered but
    c.args.entry here
    (λ key away. c.set-2.ensures.others key (λ same. away (is ∙ ap bases.Made (sym same))))
    (λ stands. heeds_set c.args.entry c.in-Some.key c.args.self.now.listed.covered c.args.entry.place c.set-2.new.self.keys c.may_hint-may.result c.args.self.now.table.made is c.may_hint-may.ensures.halves c.may_hint-may.ensures.told (λ below. c.set-2.ensures.here below ∙ (search rules)) stands)
