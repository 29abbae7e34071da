use Rattle.std.proofs.Common.{Some, sym, ap, ◌∙◌}
use Rattle.option_table.proofs.LiteralsLemmas.{v6_value, v6_none}
use Rattle.option_table.proofs.literals.ipv6_literal.Goals as goal

pub returns-in-Ok-clause-value : goal.returns-in-Ok-clause-value
returns-in-Ok-clause-value c = ap Some c.octets.ensures ∙ sym (v6_value _ _ c.in-Ok.ensures)

pub returns-in-Err-clause-value : goal.returns-in-Err-clause-value
returns-in-Err-clause-value c = sym (v6_none _ (λ segments. c.in-Err.ensures (record { segments = segments })))

pub returns-in-Err-clause-spelled : goal.returns-in-Err-clause-spelled
returns-in-Err-clause-spelled c = λ octets h. c.in-Err.ensures (record { segments = h.segments }) h.spelled

pub returns-in-Ok-clause-only : goal.returns-in-Ok-clause-only
returns-in-Ok-clause-only c = λ octets h. returns-in-Ok-clause-value c ∙ v6_value _ h.segments h.spelled ∙ ap Some (sym h.value)

pub returns-in-Err-clause-only : goal.returns-in-Err-clause-only
returns-in-Err-clause-only c = λ octets h. returns-in-Err-clause-value c ∙ v6_value _ h.segments h.spelled ∙ ap Some (sym h.value)
