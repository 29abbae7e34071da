use Rattle.exit_status.proofs.OneAnswer.{same_answer}
use Rattle.exit_status.proofs.outcomes.one_answer_fits.Goals as goal

pub returns : goal.returns
returns c = same_answer
