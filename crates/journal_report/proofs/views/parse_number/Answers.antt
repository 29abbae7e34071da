use Rattle.std.proofs.Common.{◌∙◌}
use Rattle.journal_text.proofs.NumberLemmas.{no_text, no_text_from, text_from, parse_value_of}
use Rattle.journal_report.proofs.views.parse_number.Goals as goal

pub returns-in_err-text : goal.returns-in_err-text
returns-in_err-text c = c.from_residual.ensures ∙ no_text c.args.digits.now (no_text_from _ _ _ c.in_err-text.ensures.value c.from_utf8.ensures.cases)

pub returns : goal.returns
returns c =
    let is = text_from _ c.args.digits.now c.in_ok-text.text _ _ c.in_ok-text.ensures.value c.from_utf8.ensures.cases in
    c.ok-2.ensures.value ∙ parse_value_of c.in_ok-text.text.now c.args.digits.now c.parse.result is c.parse.ensures.value.0 c.requires
