use Rattle.std.proofs.Common.{◌∙◌, sym, ◌&&◌}
use Rattle.relay_model.specs.declared.places.Way.TheVariants.{LeftToRight, RightToLeft}
use Rattle.std.proofs.lemmas.Bool.{and_parts}
use Rattle.relay_session.proofs.TimerLemmas.{one_done_then, one_done_else}
use Rattle.relay_session.proofs.lanes.Lanes.one_done_at.Goals as goal

pub returns-then-both_formed : goal.returns-then-both_formed
returns-then-both_formed c = λ k past s l.
    let formed = sym (λ i. c.is_formed.ensures k past s LeftToRight l.to_right_is i && c.is_formed-2.ensures k past s RightToLeft l.to_left_is i) ∙ c.if-both_formed.true in
    let each = and_parts _ _ formed in
    c.one_of.ensures ∙ one_done_then k past s _ _ formed (c.done_at.ensures k past s LeftToRight l.to_right_is each.0) (c.done_at-then-both_formed.ensures k past s RightToLeft l.to_left_is each.1)

pub returns-else-both_formed : goal.returns-else-both_formed
returns-else-both_formed c = λ k past s l.
    one_done_else k past s (sym (λ i. c.is_formed.ensures k past s LeftToRight l.to_right_is i && c.is_formed-2.ensures k past s RightToLeft l.to_left_is i) ∙ c.if-both_formed.false)
