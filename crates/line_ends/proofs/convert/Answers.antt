use Rattle.std.proofs.Common.{◌+◌, ◌++◌, take, ap, ◌∙◌}
use Rattle.std.proofs.lemmas.List.{take_rest}
use Rattle.line_ends.specs.Converted.{converted}
use Rattle.line_ends.proofs.Appended.{room_on, step_on}
use Rattle.line_ends.proofs.convert.Goals as goal

pub loop-at-preserved : goal.loop-at-preserved
loop-at-preserved c =
    let rest = c.loop-at.rest.now in
    let at = c.in-Some.at in record {
      front =
          ap (λ r. take c.append-filled-in-Some.result c.append-filled-in-Some.new.out ++ converted c.args.how r) (take_rest rest (at + 1))
          ∙ step_on c.args.how rest (converted c.args.how c.args.block.now) _ _ _ c.converted_line_end.result.now at c.in-Some.ensures.0 c.in-Some.ensures.1 c.loop-at.invariant.front
          c.append-filled.ensures.front
          c.append-filled-in-Some.ensures.front
          c.converted_line_end.ensures.converts;
      room =
          room_on rest c.converted_line_end.result.now at c.loop-at.filled c.append-filled.result c.append-filled-in-Some.result _ c.in-Some.ensures.0 c.loop-at.invariant.room c.append-filled.ensures.end c.append-filled-in-Some.ensures.end c.converted_line_end.ensures.short;
    }
