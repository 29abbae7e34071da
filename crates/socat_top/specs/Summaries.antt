-- The summary of a generated run, and its line.
use Rattle.std.specs.Prelude.{ℕ, List, [], ◌∷◌, ◌++◌, length, sum, codes, decimal}
use Rattle.relay_model.specs.{Act}
use Rattle.socat_top.specs.declared.summaries.Summary.{Summary}
use Rattle.socat_top.specs.Sums.{delivered, sessions_of}

-- the summary of these acts: how many sessions finished, and how many bytes right places got, and their sum
abbrev pub summary_of : ℕ → List Act → Summary
summary_of n acts = record { number = n; sessions = sessions_of acts; bytes = length (delivered acts); sum = sum (delivered acts) }

-- its line, with a newline at its end
unfoldable pub summary_line : Summary → List ℕ
summary_line s =
    codes "load " ++ (decimal s.number ++ (codes ": " ++ (decimal s.sessions ++ (codes " sessions, " ++ (decimal s.bytes
    ++ (codes " bytes, sum " ++ (decimal s.sum ++ 10 ∷ [])))))))
