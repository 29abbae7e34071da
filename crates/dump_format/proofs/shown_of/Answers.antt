use Rattle.dump_format.proofs.Tables.{table_few, table_shows}
use Rattle.dump_format.proofs.shown_of.Goals as goal

pub returns-clause-few : goal.returns-clause-few
returns-clause-few c = table_few c.args.byte c.ranges.byte.fits

pub returns-clause-shown : goal.returns-clause-shown
returns-clause-shown c = table_shows c.args.byte c.ranges.byte.fits
