-- What is behind the standard streams at the ends of a relay's directions.
use Rattle.std.proofs.Common.{List}
use Rattle.relay_model.specs.declared.acts.Act.{Act}
use Rattle.port_trait.specs.Ports.{BehindSeen, PortSeen}
use Rattle.socat_top.specs.Behind.{StandsBehind}
use Rattle.socat_top.proofs.BehindLemmas.{behind}
use Rattle.socat_top.specs.Tasks.{WordsTask, Relaying, Telling, Loading, Refusing, Unread}
use Rattle.socat_top.specs.Headline.{TaskEnds, TaskEndsBehind}

-- each end is so at the far ends of ports that tell of what is behind them as joined ones do
pub task_ends_behind :
    (task : WordsTask) (acts : List Act) (stdin stdout : PortSeen) (source sink : BehindSeen) →
    TaskEnds task acts stdin.gave stdout.took stdin.ended →
    StandsBehind stdin source →
    StandsBehind stdout sink →
    TaskEndsBehind task acts stdin stdout source sink
task_ends_behind (Relaying c) acts stdin stdout source sink ends at_source at_sink = behind c acts stdin stdout source sink ends at_source at_sink
task_ends_behind (Telling text) acts stdin stdout source sink ends at_source at_sink = tt
task_ends_behind (Loading number) acts stdin stdout source sink ends at_source at_sink = tt
task_ends_behind (Refusing refused) acts stdin stdout source sink ends at_source at_sink = tt
task_ends_behind Unread acts stdin stdout source sink ends at_source at_sink = tt
