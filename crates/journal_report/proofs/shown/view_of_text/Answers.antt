use Rattle.std.proofs.Common.{subst}
use Rattle.cmd_words.specs.Commands.{IsRelayOf}
use Rattle.journal_report.proofs.Faults.{view_made, unshown_made}
use Rattle.journal_report.proofs.shown.view_of_text.Goals as goal

pub returns-in-Some-clause-shown : goal.returns-in-Some-clause-shown
returns-in-Some-clause-shown c =
    let made = subst (IsRelayOf c.args.words.now) c.in-Some.is c.in_ok-relay_of.ensures.exact in
    view_made c.in-Some.config c.args.words.now c.args.text.now c.args.view c.view_by-shown.result c.if-text-gt-LONGEST_TEXT.false made c.view_by-shown.ensures.shown

pub returns-in-Some-clause-unshown : goal.returns-in-Some-clause-unshown
returns-in-Some-clause-unshown c =
    let made = subst (IsRelayOf c.args.words.now) c.in-Some.is c.in_ok-relay_of.ensures.exact in
    unshown_made c.in-Some.config c.args.words.now c.args.text.now c.args.view c.view_by-shown.result c.if-text-gt-LONGEST_TEXT.false made c.view_by-shown.ensures.unshown

pub view_by-shown-requires : goal.view_by-shown-requires
view_by-shown-requires c = c.if-text-gt-LONGEST_TEXT.false
