use Rattle.std.proofs.Common.{sym, ap, ◌∙◌, cond, ◌==◌, ◌++◌}
use Rattle.relay_model.specs.Places.{same_place}
use Rattle.relay_model.specs.Choices.{joined}
use Rattle.relay_model.specs.Configs.{input}
use Rattle.relay_model.specs.History.{got}
use Rattle.relay_model.specs.Transfers.{due}
use Rattle.session_facts.specs.Owings.{listed, due_number, met_at}
use Rattle.session_facts.proofs.Owed.{due_after_met, due_appended, number_follows, elsewhere}
use Rattle.session_facts.proofs.owings.read_due.Goals as goal

pub returns-then-met : goal.returns-then-met
returns-then-met c = λ met told s w.
    told s w ∙ due_after_met c.args.facts.now.config c.args.facts.now.acts c.args.place c.args.bytes.now s w (sym c.if-met.true ∙ met)

pub returns-else-is : goal.returns-else-is
returns-else-is c = rw (← c.config-config.ensures) (λ met told s w.
    told s w ∙ ap (λ b. due c.config-config.result.now w (joined b (got c.args.facts.now.acts (input c.config-config.result.now s w)) c.args.bytes.now))
    (sym (elsewhere c.config-config.result.now c.args.place c.input.result c.way_from-way.result s w c.way_from-way.ensures c.input.ensures (sym c.is.ensures ∙ c.if-is.false))))

pub returns-in_ok-append : goal.returns-in_ok-append
returns-in_ok-append c = rw (← c.config-config.ensures) (λ met told s w.
    due_appended c.config-config.result.now c.args.facts.now.acts c.args.place c.args.bytes.now c.got_length-count.result s c.way_from-way.result w
    (listed c.args.due.now (due_number s w)) (listed c.append.new.self (due_number s w)) c.as_slice.result.now (c.due_number.result == due_number s w)
    c.way_from-way.ensures
    c.got_length-count.ensures
    (sym c.if-met.false ∙ met ∙ ap (λ k. met_at k c.args.facts.now.acts c.args.place) (sym c.config-config.ensures))
    (c.in_ok-append.ensures (due_number s w))
    (ap (λ n. n == due_number s w) c.due_number.ensures ∙ number_follows c.config-config.result.now c.args.place c.input.result c.way_from-way.result s w c.way_from-way.ensures c.input.ensures (sym c.is.ensures ∙ c.if-is.true))
    (c.as_slice.ensures.value ∙ c.in_ok-more.ensures)
    (told s w))
