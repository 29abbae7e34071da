use Rattle.place_openings.proofs.Staying.{stopped, stays}
use Rattle.place_openings.proofs.session_openings.Openings.stay_unmoved.Goals as goal

pub returns-clause-stopped : goal.returns-clause-stopped
returns-clause-stopped c = λ cfg past s until at ready are. stopped cfg past s until at ready c.args.self.now are

pub returns-clause-elsewhere : goal.returns-clause-elsewhere
returns-clause-elsewhere c = λ cfg past s act are none. stays cfg past s act c.args.self.now are none
