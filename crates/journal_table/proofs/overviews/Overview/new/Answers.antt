use Rattle.std.proofs.Common.{◌≡◌, ◌<◌, ◌^◌, List, [], length, subst, sym, arith}
use Rattle.relay_model.specs.declared.acts.Act.{Act}
use Rattle.journal_table.specs.Told.{VisitsTold}
use Rattle.journal_table.proofs.overviews.Overview.new.Goals as goal

few : (past : List Act) → past ≡ [] → length past < 2 ^ 32
few past none = subst (λ (a : List Act). length a < 2 ^ 32) (sym none) (omega arith)

pub invariant_of-result : goal.invariant_of-result
invariant_of-result c =
    (subst (λ (a : List Act). VisitsTold c.new.result.config c.new-2.result a) (sym c.new.ensures.acts) (c.new-2.ensures c.new.result.config), few c.new.result.acts c.new.ensures.acts)
