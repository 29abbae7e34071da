use Rattle.journal_table.proofs.Growing.{one_row_more}
use Rattle.journal_table.proofs.tables.say_sessions.Goals as goal

pub loop-session-preserved : goal.loop-session-preserved
loop-session-preserved c =
    one_row_more c.args.overview.now.config c.args.overview.now.acts c.loop-session.session c.args.page.now c.loop-session.page c.say_session.new.page c.loop-session.invariant c.in_ok-say_session.ensures
