use Rattle.std.proofs.Common.{rules}
use Rattle.file_ports.proofs.Makings.{opened_kept}
use Rattle.file_ports.proofs.open.open_file.Goals as goal

pub returns-in-Made-clause-made : goal.returns-in-Made-clause-made
returns-in-Made-clause-made g c = opened_kept _ _ _ c.args.single.now c.args.part c.in-Some.kind c.in-Some.name.now c.in-Ok.name.now c.of-access.result c.in-Made.ends c.keep_entry.result c.in-Some.ensures.found (search rules) c.of-access.ensures (search rules) c.in-Made.ensures c.keep_entry.ensures
