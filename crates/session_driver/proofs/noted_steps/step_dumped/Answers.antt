use Rattle.std.proofs.Common.{refl, sym, ap, ◌∙◌, arith}
use Rattle.relay_model.specs.Holding.{is_open}
use Rattle.std.proofs.lemmas.List.{length-take-le}
use Rattle.session_driver.proofs.Sizes.{wish_fits}
use Rattle.session_driver.proofs.noted_steps.step_dumped.Goals as goal

pub slice_bounds-into-end : goal.slice_bounds-into-end
slice_bounds-into-end g c =
    let at = c.requires.meets.meets in
    let fits = wish_fits c.args.config.now at.past at.s c.in-Read.place _ _ (c.in-Read.ensures.wished c.args.config.now at.n at.past at.s at.stands) c.requires.block in
    let long = length-take-le c.in-Read.at_most c.as_mut_slice.result.now (omega (arith, fits, c.as_mut_slice.ensures.len)) in
    omega (arith, fits, c.as_mut_slice.ensures.len, long)

pub read_noted-requires-clause-wished : goal.read_noted-requires-clause-wished
read_noted-requires-clause-wished g c =
    let at = c.requires.meets.meets in
    let fits = wish_fits c.args.config.now at.past at.s c.in-Read.place _ _ (c.in-Read.ensures.wished c.args.config.now at.n at.past at.s at.stands) c.requires.block in
    length-take-le c.in-Read.at_most c.as_mut_slice.result.now (omega (arith, fits, c.as_mut_slice.ensures.len))

pub read_noted-requires-clause-reads : goal.read_noted-requires-clause-reads
read_noted-requires-clause-reads g c =
    let at = c.requires.meets.meets in
    record {
      wish = sym c.in-Read.ensures.wish;
      opened = ap is_open (at.holds c.in-Read.place) ∙ (c.in-Read.ensures.can c.args.config.now at.n at.past at.s at.stands at.legal).0;
      own = λ n past s st. c.in-Read.ensures.own c.args.config.now n past s st;
      going = c.in-Read.ensures.going c.args.config.now at.n at.past at.s at.stands refl;
    }
