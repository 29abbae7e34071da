use Rattle.std.proofs.Common.{◌≢◌, [], ap, sym, refl, ◌∙◌, rules, arith}
use Rattle.std.specs.Prelude.{Some}
use Rattle.std.proofs.lemmas.Bool.{false≢true}
use Rattle.port_trait.specs.declared.counts.PortCounts.{PortCounts}
use Rattle.crossbeam_queue.specs.Passes.{view}
use Rattle.ring_queue.specs.declared.roles.PassView.{PassView}
use Rattle.ring_queue.specs.declared.items.RingItem.{RingItem}
use Rattle.ring_queue.specs.declared.items.RingItem.TheVariants as kinds
use Rattle.ring_reader.proofs.Readings.{gives_held, takes_chunk, takes_end, takes_fault, gives_of_held, gives_of_chunk, given_mark, gave_some}
use Rattle.ring_reader.proofs.reader_port.RingReaderPort.read.Goals as goal

pub invariant_of-self : goal.invariant_of-self
invariant_of-self g c =
    let i = c.self.inside in
    let some : i.held ≢ [] = λ e. false≢true (sym c.if-not-is_empty.true ∙ c.is_empty.ensures.1 e) in
    (c.self.invariant.0, c.self.invariant.1, rw c.give.ensures.rest (gives_held g.S.Source.left g.S.Source.faults g.S.Source.ends i.lines.value i.start.value i.tally.misuses (view i.items) (view i.words) i.held i.marked i.ended i.tally.counts i.stage _ c.self.invariant.2 some), c.self.invariant.3)

pub returns-then-not-is_empty-clause-reads : goal.returns-then-not-is_empty-clause-reads
returns-then-not-is_empty-clause-reads g c =
    let i = c.self.inside in
    let some : i.held ≢ [] = λ e. false≢true (sym c.if-not-is_empty.true ∙ c.is_empty.ensures.1 e) in
    let fits = gave_some i.held c.args.into.now c.give.new.into c.give.result some c.give.ensures.count c.requires (search rules) in
    record {
      gives = rw (c.give.ensures.rest, ← c.self.view_is) (gives_of_held (view i.items).taken i.held c.give.new.into c.give.result c.self.invariant.2.taking.rest c.give.ensures.given fits.0 fits.1);
      took = search rules;
      unshut = search rules;
      emptied = search rules;
      begun = search rules;
      ended = search rules;
      child = search rules;
      served = search rules;
      counts = search rules;
    }

pub invariant_of-self-in-Some-Chunk : goal.invariant_of-self-in-Some-Chunk
invariant_of-self-in-Some-Chunk g c =
    let i = c.self.inside in
    let runs = sym c.is_running.ensures ∙ c.if-not-is_running.false in
    let is = rw c.in-Some-Chunk.field-0-is at c.in-Some-Chunk.ensures.taken.0 in
    (search rules, search rules, rw (c.give-in-Some-Chunk.ensures.rest, c.put.ensures) (takes_chunk g.S.Source.left g.S.Source.faults g.S.Source.ends i.lines.value i.start.value i.tally.misuses (view i.items) (view c.next.new.items) (view i.words) (view c.ask_again.new.words) i.held i.marked i.ended i.tally.counts i.stage _ _ c.self.invariant.2 runs c.ask_again.ensures.sends c.ask_again.ensures.asked is), c.self.invariant.3)

pub returns-in-Some-Chunk-clause-reads : goal.returns-in-Some-Chunk-clause-reads
returns-in-Some-Chunk-clause-reads g c =
    let i = c.self.inside in
    let nothing = c.is_empty.ensures.0 c.if-not-is_empty.false in
    let is = rw c.in-Some-Chunk.field-0-is at c.in-Some-Chunk.ensures.taken.0 in
    let follows = rw c.in-Some-Chunk.field-0-is at c.in-Some-Chunk.ensures.taken.1 in
    let count = rw c.put.ensures at c.give-in-Some-Chunk.ensures.count in
    let same = rw c.put.ensures at c.give-in-Some-Chunk.ensures.given in
    record {
      gives = rw (c.give-in-Some-Chunk.ensures.rest, c.put.ensures, ← c.self.view_is) (gives_of_chunk (view i.items).taken (view c.next.new.items).taken i.held c.in-Some-Chunk.chunk c.give-in-Some-Chunk.new.into c.give-in-Some-Chunk.result nothing (ap (λ (v : PassView RingItem). v.taken) is) same (omega (arith, count, follows.0, c.requires)) (omega (arith, count, c.give-in-Some-Chunk.auto.into)));
      took = search rules;
      unshut = search rules;
      emptied = search rules;
      begun = search rules;
      ended = search rules;
      child = search rules;
      served = search rules;
      counts = search rules;
    }

pub invariant_of-self-in-Some-End : goal.invariant_of-self-in-Some-End
invariant_of-self-in-Some-End g c =
    let i = c.self.inside in
    let nothing = c.is_empty.ensures.0 c.if-not-is_empty.false in
    let runs = sym c.is_running.ensures ∙ c.if-not-is_running.false in
    let is = rw c.in-Some-End.field-0-is at c.in-Some-End.ensures.taken.0 in
    let value = c.count_end.ensures.value in
    (search rules, search rules, takes_end g.S.Source.left g.S.Source.faults g.S.Source.ends i.lines.value i.start.value i.tally.misuses (view i.items) (view c.next.new.items) (view i.words) (view c.ask_again.new.words) i.held i.marked i.ended i.tally.counts c.count_end.new.self i.stage _ (ap (λ (k : PortCounts). k.faults) value) (ap (λ (k : PortCounts). k.ends) value) c.self.invariant.2 nothing runs c.ask_again.ensures.sends c.ask_again.ensures.asked is, c.self.invariant.3)

pub returns-in-Some-End-clause-reads : goal.returns-in-Some-End-clause-reads
returns-in-Some-End-clause-reads g c =
    let i = c.self.inside in
    let is = rw c.in-Some-End.field-0-is at c.in-Some-End.ensures.taken.0 in
    record {
      gives = rw (← c.self.view_is) (ap Some (given_mark (view i.items).taken (view c.next.new.items).taken i.held (kinds.End c.in-Some-End.field-0-0) refl (ap (λ (v : PassView RingItem). v.taken) is)));
      took = search rules;
      unshut = search rules;
      emptied = search rules;
      begun = search rules;
      ended = search rules;
      child = search rules;
      served = search rules;
      counts = search rules;
    }

pub invariant_of-self-in-Some-Fault : goal.invariant_of-self-in-Some-Fault
invariant_of-self-in-Some-Fault g c =
    let i = c.self.inside in
    let nothing = c.is_empty.ensures.0 c.if-not-is_empty.false in
    let runs = sym c.is_running.ensures ∙ c.if-not-is_running.false in
    let is = rw c.in-Some-Fault.field-0-is at c.in-Some-Fault.ensures.taken.0 in
    let value = c.count_fault.ensures.value in
    (search rules, search rules, takes_fault g.S.Source.left g.S.Source.faults g.S.Source.ends i.lines.value i.start.value i.tally.misuses (view i.items) (view c.next.new.items) (view i.words) (view c.ask_again.new.words) i.held i.marked i.ended i.tally.counts c.count_fault.new.self i.stage _ c.count_fault.ensures.counted.0.faults (ap (λ (k : PortCounts). k.faults) value) (ap (λ (k : PortCounts). k.ends) value) c.self.invariant.2 nothing runs c.ask_again.ensures.sends c.ask_again.ensures.asked is, c.self.invariant.3)

pub returns-in-Some-Fault-clause-reads : goal.returns-in-Some-Fault-clause-reads
returns-in-Some-Fault-clause-reads g c =
    let i = c.self.inside in
    let is = rw c.in-Some-Fault.field-0-is at c.in-Some-Fault.ensures.taken.0 in
    record {
      gives = rw (← c.self.view_is) (ap Some (given_mark (view i.items).taken (view c.next.new.items).taken i.held (kinds.Fault c.in-Some-Fault.field-0-0) refl (ap (λ (v : PassView RingItem). v.taken) is)));
      took = search rules;
      unshut = search rules;
      emptied = search rules;
      begun = search rules;
      ended = search rules;
      child = search rules;
      served = search rules;
      counts = search rules;
    }
