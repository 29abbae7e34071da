use Rattle.std.proofs.Common.{◌≡◌, ◌++◌, drop}
use Rattle.place_report.specs.Shown.{shown}
use Rattle.place_report.proofs.pages.Page.show.Given as goal

abbrev pub invariant-loop-byte : goal.invariant-loop-byte
invariant-loop-byte l = l.self ++ shown (drop l.byte-index l.bytes) ≡ l.initial.self ++ shown l.bytes
