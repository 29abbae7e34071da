use Rattle.std.proofs.Common.{◌∙◌, ap, Some}
use Rattle.std.specs.Prelude.{slice_get}
use Rattle.addr_words.specs.Reading.{outermost}
use Rattle.addr_words.proofs.Openings.{outermost_first}
use Rattle.addr_words.proofs.nesting.OpenEnclosures.outermost.Goals as goal

pub returns : goal.returns
returns c =
    outermost_first c.self.inside.items.items (Some c.in_ok-outermost.outermost.now) (c.in_ok-outermost.ensures.value ∙ ap (λ xs. slice_get xs 0) c.deref.ensures.value)
    ∙ ap outermost c.self.view_is
