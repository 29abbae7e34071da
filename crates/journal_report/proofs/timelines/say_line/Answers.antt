use Rattle.std.proofs.Common.{◌≡◌, ℕ, ◌++◌, ap, ◌∙◌, subst}
use Rattle.std.specs.Prelude.{decimal}
use Rattle.relay_model.specs.Cause.{closed_why}
use Rattle.journal_table.specs.declared.rows.SessionRow.{SessionRow}
use Rattle.journal_table.specs.Cells.{to_left, to_right}
use Rattle.journal_table.specs.Tables.{peers_cell, why_cell}
use Rattle.journal_report.specs.Timelines.{AddsCells}
use Rattle.journal_report.proofs.Drawn.{row_added}
use Rattle.journal_report.proofs.timelines.say_line.Goals as goal

pub returns : goal.returns
returns c =
    let number : c.say_right-2.new.page ≡ c.args.page.now ++ to_right 7 (decimal c.args.session) = cc (c.in_ok-say_right.ensures, c.in_ok-number.ensures, c.from.ensures) in
    let drawn : AddsCells 60 c.say.new.self c.say_signs.new.page = subst (λ (count : ℕ). AddsCells count c.say.new.self c.say_signs.new.page) c.requires c.in_ok-say_signs.ensures in
    let peers : c.say_left-2.new.page ≡ c.say-2.new.self ++ to_left 22 (peers_cell c.args.overview.now.config c.args.overview.now.acts c.args.session) = cc (c.in_ok-say_left.ensures, c.in_ok-peers_cell.ensures) in
    let why : c.say_why.new.page ≡ c.say_left-2.new.page ++ why_cell (closed_why c.args.overview.now.config c.args.overview.now.acts c.args.session) =
    c.in_ok-say_why.ensures ∙ ap (λ (row : SessionRow). c.say_left-2.new.page ++ why_cell row.why) c.row-row.ensures in
    row_added c.args.overview.now.config c.args.overview.now.acts c.args.session c.args.page.now c.say_right-2.new.page c.say.new.self c.say_signs.new.page c.say-2.new.self c.say_left-2.new.page c.say_why.new.page c.end_line.new.self
    number c.in_ok-say.ensures drawn c.in_ok-say-2.ensures peers why c.in_ok-end_line.ensures
