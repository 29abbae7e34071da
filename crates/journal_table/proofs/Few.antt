-- No more peers are let in than there are acts; and the acts from the place before on.
use Rattle.std.proofs.Common.{ℕ, suc, ◌≤◌, Bool, true, false, List, [], ◌∷◌, length, arith}
use Rattle.relay_model.specs.declared.commands.Config.{Config}
use Rattle.relay_model.specs.declared.acts.Act.{Act}
use Rattle.relay_model.specs.declared.acts.Act.TheVariants.{Turn, Opened, OpenLater, OpenFailed, Listening, ListenFailed, Accepted, NoPeer, AcceptFailed, Read, ReadEmpty, ReadEnd, ReadNotYet, ReadFault, Wrote, WriteNotYet, WriteFault, Shut, ShutFault, Closed, Reaped, Note, NoteFault}
use Rattle.relay_model.specs.Choices.{one_more}
use Rattle.relay_model.specs.Sessions.{is_admission, admitted}

one_more_most : (b : Bool) (n m : ℕ) → n ≤ m → one_more b n ≤ suc m
one_more_most true n m h = omega arith
one_more_most false n m h = omega arith

later : (n m : ℕ) → n ≤ m → n ≤ suc m
later n m h = omega arith

pub admitted_few : (c : Config) (past : List Act) → admitted c past ≤ length past
admitted_few c [] = omega arith
admitted_few c (Accepted p peer ∷ past) = one_more_most (is_admission c p peer) (admitted c past) (length past) (admitted_few c past)
admitted_few c (Turn until at ready stop ∷ past) = later (admitted c past) (length past) (admitted_few c past)
admitted_few c (Opened p ∷ past) = later (admitted c past) (length past) (admitted_few c past)
admitted_few c (OpenLater p ∷ past) = later (admitted c past) (length past) (admitted_few c past)
admitted_few c (OpenFailed p ∷ past) = later (admitted c past) (length past) (admitted_few c past)
admitted_few c (Listening p ∷ past) = later (admitted c past) (length past) (admitted_few c past)
admitted_few c (ListenFailed p ∷ past) = later (admitted c past) (length past) (admitted_few c past)
admitted_few c (NoPeer p ∷ past) = later (admitted c past) (length past) (admitted_few c past)
admitted_few c (AcceptFailed p ∷ past) = later (admitted c past) (length past) (admitted_few c past)
admitted_few c (Read p bytes ∷ past) = later (admitted c past) (length past) (admitted_few c past)
admitted_few c (ReadEmpty p ∷ past) = later (admitted c past) (length past) (admitted_few c past)
admitted_few c (ReadEnd p ∷ past) = later (admitted c past) (length past) (admitted_few c past)
admitted_few c (ReadNotYet p ∷ past) = later (admitted c past) (length past) (admitted_few c past)
admitted_few c (ReadFault p ∷ past) = later (admitted c past) (length past) (admitted_few c past)
admitted_few c (Wrote p bytes ∷ past) = later (admitted c past) (length past) (admitted_few c past)
admitted_few c (WriteNotYet p ∷ past) = later (admitted c past) (length past) (admitted_few c past)
admitted_few c (WriteFault p ∷ past) = later (admitted c past) (length past) (admitted_few c past)
admitted_few c (Shut p how ∷ past) = later (admitted c past) (length past) (admitted_few c past)
admitted_few c (ShutFault p how ∷ past) = later (admitted c past) (length past) (admitted_few c past)
admitted_few c (Closed p why ∷ past) = later (admitted c past) (length past) (admitted_few c past)
admitted_few c (Reaped p end ∷ past) = later (admitted c past) (length past) (admitted_few c past)
admitted_few c (Note bytes ∷ past) = later (admitted c past) (length past) (admitted_few c past)
admitted_few c (NoteFault bytes ∷ past) = later (admitted c past) (length past) (admitted_few c past)
