use Rattle.std.proofs.Common.{◌≡◌, ◌++◌, drop}
use Rattle.place_report.specs.Shown.{marked}
use Rattle.place_report.proofs.pages.Page.mark.Given as goal

abbrev pub invariant-loop-byte : goal.invariant-loop-byte
invariant-loop-byte l = l.self ++ marked l.mark (drop l.byte-index l.bytes) ≡ l.initial.self ++ marked l.mark l.bytes
