use Rattle.line_ends.proofs.Searched.{found_newline, found_return, found_either}
use Rattle.line_ends.proofs.next_line_end.Goals as goal

pub returns-in-Plain-default : goal.returns-in-Plain-default
returns-in-Plain-default c = found_newline c.args.how c.args.bytes.now c.memchr.result c.in-Plain-default.is-0 c.memchr.ensures

pub returns-in_default-Plain : goal.returns-in_default-Plain
returns-in_default-Plain c = found_return c.args.how c.args.bytes.now c.memchr-in_default-Plain.result c.in_default-Plain.is-1 c.memchr-in_default-Plain.ensures

pub returns-in_default : goal.returns-in_default
returns-in_default c = found_either c.args.how c.args.bytes.now c.memchr2.result c.memchr2.ensures
