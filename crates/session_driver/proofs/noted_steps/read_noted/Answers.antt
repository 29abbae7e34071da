use Rattle.std.proofs.Common.{refl, inl, inr}
use Rattle.session_driver.proofs.Noting.{cut_short, just_read}
use Rattle.session_driver.proofs.noted_steps.read_noted.Goals as goal

pub returns-else-note-clause-step : goal.returns-else-note-clause-step
returns-else-note-clause-step g c =
    let k = c.args.config.now in
    let at = just_read k _ _ _ _ _ c.args.place _ c.requires.meets c.requires.reads.own c.requires.reads.going c.requires.reads.opened c.in-Bytes.ensures.step.2 c.if-note.ensures.note in
    record {
      dumped = c.requires.dumped;
      place = c.args.place;
      bytes = _;
      between = _;
      heard = _;
      going = c.requires.reads.going;
      reads = c.in-Bytes.ensures.step.2;
      nothing = c.if-note.ensures.note;
      cut = cut_short k _ _ _ at (λ n past s st u. c.cut.ensures.early k n past s st.fields.ground (inr (inl (refl, u)))) c.cut.ensures.ending c.cut.ensures.left c.cut.ensures.over;
      counts = c.if-note.ensures.counts;
    }
