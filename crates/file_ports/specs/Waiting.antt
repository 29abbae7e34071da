-- What contracts see of pipes that wait.
use Rattle.std.specs.declared.fs.File.{File}
use Rattle.port_trait.specs.{Shutting}
use Rattle.port_trait.specs.declared.answers.Shutting.TheVariants as shuts
use Rattle.file_ports.specs.declared.pipes.PipeOutcome.{PipeOutcome}
use Rattle.file_ports.specs.declared.pipes.PipeOutcome.TheVariants as outcomes

-- a fact of the file, where the opening gave one
abbrev pub OnOutcome : PipeOutcome → (File → Type 0) → Type 0
OnOutcome outcomes.UnderWay P = Unit {0}
OnOutcome (outcomes.Opened file) P = P file
OnOutcome outcomes.Refused P = Unit {0}

-- passing on the end fails where the pipe couldn't be opened
abbrev pub shutting_after : PipeOutcome → Shutting
shutting_after outcomes.UnderWay = shuts.Done
shutting_after (outcomes.Opened file) = shuts.Done
shutting_after outcomes.Refused = shuts.Failed
