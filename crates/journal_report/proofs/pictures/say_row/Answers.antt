use Rattle.std.proofs.Common.{◌≡◌}
use Rattle.journal_report.specs.Pictures.{label}
use Rattle.journal_report.proofs.Pictured.{row_added}
use Rattle.journal_report.proofs.pictures.say_row.Goals as goal

pub returns : goal.returns
returns c =
    let named : c.as_slice.result.now ≡ label c.args.overview.now.config c.args.overview.now.acts c.args.session = cc (c.as_slice.ensures.text, c.in_ok-name.ensures) in
    row_added c.args.overview.now.config c.args.overview.now.acts c.args.session 4 c.saturating_add-y.result c.as_slice.result.now c.args.page.now c.say_words.new.page c.say_drawing.new.page
    named c.in_ok-say_words.ensures c.in_ok-say_drawing.ensures
