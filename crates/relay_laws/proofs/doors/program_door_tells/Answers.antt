-- By the choices that the call is made of.
use Rattle.relay_laws.proofs.Admissions.{door_says}
use Rattle.relay_laws.proofs.doors.program_door_tells.Goals as goal

pub returns : goal.returns
returns c = door_says
