use Rattle.std.proofs.Common.{arith, None, Some}
use Rattle.std.proofs.lemmas.Str.Pattern.{strip_prefix_char, strip_suffix_char}
use Rattle.host_lookup.proofs.Enclosed.{unopened, unclosed}
use Rattle.host_lookup.proofs.hosts.without_brackets.Goals as goal

pub returns-in-None : goal.returns-in-None
returns-in-None c = unopened c.args.text.now (strip_prefix_char 91 c.args.text.now None c.in-None.ensures.cases (omega arith))

pub returns-in-None-strip_suffix : goal.returns-in-None-strip_suffix
returns-in-None-strip_suffix c = unclosed c.args.text.now c.in-Some.inner.now (strip_prefix_char 91 c.args.text.now (Some c.in-Some.inner) c.in-Some.ensures.cases (omega arith)) (strip_suffix_char 93 c.in-Some.inner.now None c.in-None-strip_suffix.ensures.cases (omega arith))
