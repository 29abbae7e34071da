use Rattle.std.proofs.Common.{refl}
use Rattle.socat_top.proofs.NumberedLemmas.{read_gives}
use Rattle.socat_top.proofs.numbered_worlds.NumberedWorldWorld.read.Goals as goal

pub invariant_of-self : goal.invariant_of-self
invariant_of-self c = record {
  gives = read_gives c.args.self.now.number c.args.self.now.world.kept c.read.new.self.kept c.args.self.now.world.script c.read.new.self.script _ _ c.args.place c.args.self.now.world.clock _ c.read.new.into c.read.result c.read.ensures.act c.read.ensures.script c.args.self.now.gives refl refl;
}
