-- Each journal is judged by computing.
use Rattle.std.proofs.Common.{◌≡◌, refl, ◌-◌, ◌^◌, arith}
use Rattle.relay_model.specs.May.{Legal}
use Rattle.relay_laws.specs.Examples.{ExamplesAreJudged, broken, broken_command, broken_other, closing, closing_command, closing_wrong, forked, forked_command, forked_wrong, idle, idle_command, idle_wrong, packets, packets_command, packets_wrong, pair_busy, pair_command, pair_quiet, plain_run, plain_run_command, plain_run_wrong, refusal, refusal_command, refusal_wrong}
use Rattle.relay_laws.proofs.Sound.{legal_is}
use Rattle.relay_laws.proofs.Complete.{legal_test}

plain_run_not : Legal plain_run_command (2 ^ 64 - 1) plain_run_wrong → ⊥
plain_run_not legal = let e : 4 ≡ 0 = legal_test plain_run_command (2 ^ 64 - 1) plain_run_wrong legal in omega (arith, e)

refusal_not : Legal refusal_command (2 ^ 64 - 1) refusal_wrong → ⊥
refusal_not legal = let e : 5 ≡ 0 = legal_test refusal_command (2 ^ 64 - 1) refusal_wrong legal in omega (arith, e)

forked_not : Legal forked_command (2 ^ 64 - 1) forked_wrong → ⊥
forked_not legal = let e : 6 ≡ 0 = legal_test forked_command (2 ^ 64 - 1) forked_wrong legal in omega (arith, e)

closing_not : Legal closing_command (2 ^ 64 - 1) closing_wrong → ⊥
closing_not legal = let e : 14 ≡ 0 = legal_test closing_command (2 ^ 64 - 1) closing_wrong legal in omega (arith, e)

idle_not : Legal idle_command (2 ^ 64 - 1) idle_wrong → ⊥
idle_not legal = let e : 7 ≡ 0 = legal_test idle_command (2 ^ 64 - 1) idle_wrong legal in omega (arith, e)

broken_not : Legal broken_other (2 ^ 64 - 1) broken → ⊥
broken_not legal = let e : 13 ≡ 0 = legal_test broken_other (2 ^ 64 - 1) broken legal in omega (arith, e)

packets_not : Legal packets_command (2 ^ 64 - 1) packets_wrong → ⊥
packets_not legal = let e : 8 ≡ 0 = legal_test packets_command (2 ^ 64 - 1) packets_wrong legal in omega (arith, e)

pub judged : ExamplesAreJudged
judged = record {
  plain_run_legal = legal_is plain_run_command (2 ^ 64 - 1) plain_run refl;
  plain_run_outcome = refl;
  plain_run_until = refl;
  plain_run_not = plain_run_not;
  refusal_legal = legal_is refusal_command (2 ^ 64 - 1) refusal refl;
  refusal_outcome = refl;
  refusal_until = refl;
  refusal_not = refusal_not;
  forked_legal = legal_is forked_command (2 ^ 64 - 1) forked refl;
  forked_outcome = refl;
  forked_until = refl;
  forked_not = forked_not;
  closing_legal = legal_is closing_command (2 ^ 64 - 1) closing refl;
  closing_outcome = refl;
  closing_until = refl;
  closing_until_then = refl;
  closing_not = closing_not;
  idle_legal = legal_is idle_command (2 ^ 64 - 1) idle refl;
  idle_outcome = refl;
  idle_until = refl;
  idle_not = idle_not;
  broken_legal = legal_is broken_command (2 ^ 64 - 1) broken refl;
  broken_outcome = refl;
  broken_until = refl;
  broken_until_then = refl;
  broken_not = broken_not;
  packets_legal = legal_is packets_command (2 ^ 64 - 1) packets refl;
  packets_outcome = refl;
  packets_until = refl;
  packets_until_then = refl;
  packets_not = packets_not;
  pair_quiet_legal = legal_is pair_command (2 ^ 64 - 1) pair_quiet refl;
  pair_busy_legal = legal_is pair_command (2 ^ 64 - 1) pair_busy refl;
  pair_same = refl;
  pair_told = refl;
  pair_stopped = refl;
  pair_out_of_turns = refl;
}
