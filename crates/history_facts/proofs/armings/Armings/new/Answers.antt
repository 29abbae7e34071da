use Rattle.std.proofs.Common.{sym, subst, ap, false}
use Rattle.relay_model.specs.Configs.{output}
use Rattle.history_facts.specs.Told.{AskedBefore}
use Rattle.history_facts.proofs.Asked.{asked_never}
use Rattle.history_facts.proofs.armings.Armings.new.Goals as goal

pub returns : goal.returns
returns c = λ config. record {
  reads = λ p. (c.new.ensures p);
  writes = λ p. c.new-2.ensures p;
  accepts = λ p. c.new-3.ensures p;
  reads_asked = λ p. subst (λ n. AskedBefore n 1 false) (sym (c.new-4.ensures p)) (asked_never 0);
  writes_asked = λ s w. subst (λ n. AskedBefore n 1 false) (sym (c.new-5.ensures (output config s w))) (asked_never 0);
  accepts_asked = λ p. subst (λ n. AskedBefore n 1 false) (sym (c.new-6.ensures p)) (asked_never 0);
}
