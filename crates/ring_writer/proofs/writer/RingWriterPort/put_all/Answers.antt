use Rattle.std.proofs.Common.{◌++◌, take, ap, ◌∙◌, rules}
use Rattle.std.specs.Prelude.{Some}
use Rattle.ring_writer.specs.Writers.{took_of}
use Rattle.ring_writer.proofs.writer.RingWriterPort.put_all.Goals as goal

pub returns-then-failed-clause-puts : goal.returns-then-failed-clause-puts
returns-then-failed-clause-puts g c =
    let count = c.put_all-count.result.0 in
    record {
      accepts = (
        count,
        c.put_all-count.ensures.bound,
        ap Some (c.put_all-count.ensures.put.bytes ∙ ap (λ before. took_of before ++ take count c.args.bytes.now) c.self.view_is),
      );
      gave = search rules;
      unshut = search rules;
      unemptied = search rules;
      begun = search rules;
      ended = search rules;
      child = search rules;
      served = search rules;
      counts = search rules;
    }
