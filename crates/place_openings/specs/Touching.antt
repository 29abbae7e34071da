-- Which acts the openings of a session depend on.
use Rattle.std.specs.Prelude.{ℕ, Bool, true, false}
use Rattle.relay_model.specs.{Config, Act, is_of}
use Rattle.relay_model.specs.declared.acts.Act.TheVariants.{Turn, Opened, OpenLater, OpenFailed, Listening, ListenFailed, Accepted, NoPeer, AcceptFailed, Closed, Reaped}

-- turns, and acts of opening, accepting, closing and reaping at the session's places and doors
abbrev pub touches : Config → ℕ → Act → Bool
touches c s (Turn until at ready stop) = true
touches c s (Opened q) = is_of c s q
touches c s (OpenLater q) = is_of c s q
touches c s (OpenFailed q) = is_of c s q
touches c s (Listening q) = is_of c s q
touches c s (ListenFailed q) = is_of c s q
touches c s (Accepted q peer) = is_of c s q
touches c s (NoPeer q) = is_of c s q
touches c s (AcceptFailed q) = is_of c s q
touches c s (Closed q why) = is_of c s q
touches c s (Reaped q end) = is_of c s q
touches c s act = false
