-- At most one answer fits a list of acts.
use Rattle.std.proofs.Common.{◌≡◌, refl, sym, ap, ◌∙◌, ℕ, List, Option, Some, None, inl, inr}
use Rattle.relay_model.specs.declared.commands.Config.{Config}
use Rattle.relay_model.specs.declared.acts.Act.{Act}
use Rattle.relay_model.specs.declared.acts.Why.{Why}
use Rattle.relay_model.specs.declared.acts.Why.TheVariants as whys
use Rattle.relay_model.specs.declared.places.Half.{Half}
use Rattle.relay_model.specs.declared.places.Half.TheVariants.{ToRead, ToWrite}
use Rattle.relay_model.specs.declared.outcomes.RunOutcome.{RunOutcome}
use Rattle.relay_model.specs.declared.outcomes.RunOutcome.TheVariants as endings
use Rattle.exit_status.specs.declared.outcomes.EndWhy.{EndWhy}
use Rattle.exit_status.specs.declared.outcomes.EndWhy.TheVariants as ends
use Rattle.exit_status.specs.declared.outcomes.Op.{Op}
use Rattle.exit_status.specs.declared.outcomes.Op.TheVariants.{Reading, Writing}
use Rattle.exit_status.specs.declared.outcomes.Outcome.{Outcome as Told}
use Rattle.exit_status.specs.declared.outcomes.Outcome.TheVariants as told
use Rattle.exit_status.specs.Outcomes.{why_of, half_of, outcome_of, IsOutcome}

abbrev end_of : Why → EndWhy
end_of whys.ClosingTime = ends.ClosingTime
end_of whys.Idle = ends.Idle
end_of whys.Served = ends.Served
end_of why = ends.Finished

end_of_why : (why : EndWhy) → end_of (why_of why) ≡ why
end_of_why ends.Finished = refl
end_of_why ends.ClosingTime = refl
end_of_why ends.Idle = refl
end_of_why ends.Served = refl

abbrev op_of : Half → Op
op_of ToRead = Reading
op_of ToWrite = Writing

op_of_half : (op : Op) → op_of (half_of op) ≡ op
op_of_half Reading = refl
op_of_half Writing = refl

-- the answer that tells an outcome
abbrev answer_of : Option RunOutcome → Told
answer_of None = told.Told
answer_of (Some (endings.Ended why)) = told.Ended (end_of why)
answer_of (Some (endings.OpenFailed side attempts)) = told.OpenFailed side attempts
answer_of (Some (endings.ListenFailed attempts)) = told.ListenFailed attempts
answer_of (Some endings.AcceptFailed) = told.AcceptFailed
answer_of (Some (endings.Faulted place half)) = told.Faulted place (op_of half)
answer_of (Some (endings.Stopped turns)) = told.Stopped turns
answer_of (Some endings.Memory) = told.Memory

-- an answer is the one that tells its outcome, where it has one
told_back : (answer : Told) (ending : RunOutcome) → outcome_of answer ≡ Some ending → answer ≡ answer_of (Some ending)
told_back (told.Ended why) ending e = ap told.Ended (sym (end_of_why why)) ∙ ap answer_of e
told_back told.Told ending e = cc
told_back told.Loaded ending e = cc
told_back (told.Refused refused) ending e = cc
told_back (told.OpenFailed side attempts) ending e = ap answer_of e
told_back (told.ListenFailed attempts) ending e = ap answer_of e
told_back told.AcceptFailed ending e = ap answer_of e
told_back (told.Faulted place op) ending e = ap (told.Faulted place) (sym (op_of_half op)) ∙ ap answer_of e
told_back (told.Stopped turns) ending e = ap answer_of e
told_back told.Memory ending e = ap answer_of e

-- two answers that fit the same acts are the same
pub same_answer : (c : Config) (n : ℕ) (past : List Act) (one other : Told) → IsOutcome c n past one → IsOutcome c n past other → one ≡ other
same_answer c n past one other (inl a) (inl b) =
    told_back one a.0 a.2 ∙ ap answer_of (sym a.1 ∙ b.1) ∙ sym (told_back other b.0 b.2)
same_answer c n past one other (inl a) (inr b) = let k = sym a.1 ∙ b.2.no_outcome in cc
same_answer c n past one other (inr a) (inl b) = let k = sym b.1 ∙ a.2.no_outcome in cc
same_answer c n past one other (inr a) (inr b) = a.3 ∙ sym b.3
