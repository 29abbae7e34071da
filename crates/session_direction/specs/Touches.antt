-- Which acts may change what a direction stands for.
use Rattle.std.specs.Prelude.{ℕ, Bool, true, false, ◌||◌}
use Rattle.relay_model.specs.{Way, Config, Act, same_place, input, output}
use Rattle.relay_model.specs.declared.acts.Act.TheVariants.{Turn, Opened, Accepted, Read, ReadEmpty, ReadEnd, ReadNotYet, ReadFault, Wrote, WriteNotYet, WriteFault, Shut, ShutFault}

-- the acts that may change what a direction stands for
abbrev pub touches : Config → ℕ → Way → Act → Bool
touches c s w (Turn until at ready stop) = true
touches c s w (Opened q) = same_place q (input c s w) || same_place q (output c s w)
touches c s w (Accepted q peer) = same_place q (input c s w) || same_place q (output c s w)
touches c s w (Read q bytes) = same_place q (input c s w)
touches c s w (ReadEmpty q) = same_place q (input c s w)
touches c s w (ReadEnd q) = same_place q (input c s w)
touches c s w (ReadNotYet q) = same_place q (input c s w)
touches c s w (ReadFault q) = same_place q (input c s w)
touches c s w (Wrote q bytes) = same_place q (output c s w)
touches c s w (WriteNotYet q) = same_place q (output c s w)
touches c s w (WriteFault q) = same_place q (output c s w)
touches c s w (Shut q way) = same_place q (output c s w)
touches c s w (ShutFault q way) = same_place q (output c s w)
touches c s w act = false
