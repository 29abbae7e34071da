-- A text has at least as many bytes as acts.
use Rattle.std.proofs.Common.{ℕ, ◌^◌, ◌<◌, ◌≤◌, List, [], ◌∷◌, ◌++◌, length, ap, length-append, arith}
use Rattle.relay_model.specs.declared.acts.Act.{Act}
use Rattle.relay_model.specs.Dumps.{newline}
use Rattle.journal_text.specs.Lines.{body_of, line_of, spelt}
use Rattle.journal_report.specs.Shown.{Reads}

some_line : (body : List ℕ) → 1 ≤ length (body ++ newline)
some_line body = omega (arith, length-append body newline)

few_acts : (acts : List Act) → length acts ≤ length (spelt acts)
few_acts [] = omega arith
few_acts (act ∷ past) = omega (arith, length-append (spelt past) (line_of act), some_line (body_of act), few_acts past)

pub acts_fit : (text : List ℕ) (acts : List Act) → Reads text acts → length text ≤ 16777216 → length acts < 2 ^ 32
acts_fit text acts h short = omega (arith, few_acts acts, ap length h.0.spelling)
