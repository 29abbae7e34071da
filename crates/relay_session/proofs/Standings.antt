-- How a thing stands for a world, from its stage.
use Rattle.std.proofs.Common.{◌≡◌, refl, sym, subst, ℕ, Bool, true, false, cond, List, [], ◌∷◌, Option, Some, None}
use Rattle.std.proofs.lemmas.Bool.{false≢true}
use Rattle.relay_model.specs.declared.places.Place.{Place}
use Rattle.relay_model.specs.declared.commands.Config.{Config}
use Rattle.relay_model.specs.declared.acts.Act.{Act}
use Rattle.relay_model.specs.declared.acts.Act.TheVariants.{Opened, OpenLater, OpenFailed, Listening, ListenFailed, Accepted, Shut, ShutFault, Closed}
use Rattle.relay_model.specs.Places.{same_place}
use Rattle.relay_model.specs.Configs.{output, way_to}
use Rattle.relay_model.specs.Holding.{Hold, Free, Settling, Open, ShutDown, standing, is_open}
use Rattle.relay_model.specs.History.{now, stage, shut_at}
use Rattle.relay_model.specs.declared.stages.Stage.{Stage}
use Rattle.relay_model.specs.declared.stages.Stage.TheVariants.{Untried, Usable, Unsettled, Failed, Met, Waiting, Gone}
use Rattle.relay_model.specs.Openings.{is_ready, stands_ready}
use Rattle.relay_model.specs.Rest.{is_going}
use Rattle.relay_model.specs.May.{Legal}
use Rattle.relay_laws.proofs.PlaceLemmas.{same_place_equal}
use Rattle.relay_laws.proofs.Holdings.{output_passes, moves_formed, moves_running, running_ready}
use Rattle.relay_session.specs.Standings.{StandsFor}

-- an act that sets the stage of its own thing
set : (b : Bool) (hold old_hold : Hold) (st old_st : Stage) → StandsFor st hold → StandsFor old_st old_hold → StandsFor (cond b st old_st) (cond b hold old_hold)
set true hold old_hold st old_st here there = here
set false hold old_hold st old_st here there = there

-- where a thing is ready, it may be shut
ready_shut : (c : Config) (past : List Act) (p : Place) (st : Stage) → stands_ready c past p st ≡ true → StandsFor st ShutDown
ready_shut c past p Usable e = refl
ready_shut c past p (Met peer) e = refl
ready_shut c past p Untried e = absurd (false≢true e)
ready_shut c past p Unsettled e = absurd (false≢true e)
ready_shut c past p Failed e = absurd (false≢true e)
ready_shut c past p Waiting e = absurd (false≢true e)
ready_shut c past p (Gone why) e = absurd (false≢true e)

-- the output of a direction that moves is ready
pub output_ready : (c : Config) (past : List Act) (p : Place) → same_place p (output c p.session (way_to p.side)) ≡ true → is_going c past p.session (way_to p.side) ≡ true → is_ready c past p ≡ true
output_ready c past p same moving =
    let w = way_to p.side in
    let r = output_passes c (is_ready c past) p.session w (moves_formed c past p.session w moving) (running_ready c past p.session (moves_running c past p.session w moving)) in
    subst (λ q. is_ready c past q ≡ true) (sym (same_place_equal p (output c p.session w) same)) r

-- a shut leaves the stage, and the place open
shut : (b : Bool) (hold : Hold) (st : Stage) → (b ≡ true → StandsFor st ShutDown) → StandsFor st hold → StandsFor st (cond b ShutDown hold)
shut true hold st here there = here refl
shut false hold st here there = there

shut_stands : (c : Config) (past : List Act) (q p : Place) → same_place q (output c q.session (way_to q.side)) ≡ true → is_going c past q.session (way_to q.side) ≡ true → same_place q p ≡ true → StandsFor (stage past p) ShutDown
shut_stands c past q p same moving e = subst (λ x. StandsFor (stage past x) ShutDown) (same_place_equal q p e) (ready_shut c past q (stage past q) (output_ready c past q same moving))

-- in a legal list a thing stands as its stage says
pub standing_of : (c : Config) (n : ℕ) (past : List Act) (p : Place) → Legal c n past → StandsFor (stage past p) (standing past p)
standing_of c n [] p legal = refl
standing_of c n (Opened q ∷ past) p legal = set (same_place q p) Open (standing past p) Usable (stage past p) refl (standing_of c n past p legal.1)
standing_of c n (OpenLater q ∷ past) p legal = set (same_place q p) Settling (standing past p) Unsettled (stage past p) refl (standing_of c n past p legal.1)
standing_of c n (OpenFailed q ∷ past) p legal = set (same_place q p) Free (standing past p) Failed (stage past p) refl (standing_of c n past p legal.1)
standing_of c n (Listening q ∷ past) p legal = set (same_place q p) Open (standing past p) Waiting (stage past p) refl (standing_of c n past p legal.1)
standing_of c n (ListenFailed q ∷ past) p legal = set (same_place q p) Free (standing past p) Failed (stage past p) refl (standing_of c n past p legal.1)
standing_of c n (Accepted q peer ∷ past) p legal = set (same_place q p) Open (standing past p) (Met peer) (stage past p) refl (standing_of c n past p legal.1)
standing_of c n (Closed q why ∷ past) p legal = set (same_place q p) Free (standing past p) (Gone why) (stage past p) refl (standing_of c n past p legal.1)
standing_of c n (Shut q way ∷ past) p legal = shut (same_place q p) (standing past p) (stage past p) (λ e. shut_stands c past q p legal.0.1.is_output legal.0.1.moving e) (standing_of c n past p legal.1)
standing_of c n (ShutFault q way ∷ past) p legal = shut (same_place q p) (standing past p) (stage past p) (λ e. shut_stands c past q p legal.0.1.is_output legal.0.1.moving e) (standing_of c n past p legal.1)
standing_of c n (act ∷ past) p legal = standing_of c n past p legal.1

-- the same at a stage that is known
pub standing_at : (c : Config) (n : ℕ) (past : List Act) (p : Place) (st : Stage) → Legal c n past → stage past p ≡ st → StandsFor st (standing past p)
standing_at c n past p st legal e = subst (λ x. StandsFor x (standing past p)) e (standing_of c n past p legal)

-- ---- places that were not shut

abbrev is_shut : Hold → Bool
is_shut ShutDown = true
is_shut other = false

kept : (b : Bool) (hold old : Hold) → is_shut hold ≡ false → is_shut old ≡ false → is_shut (cond b hold old) ≡ false
kept true hold old h k = h
kept false hold old h k = k

none_before : (b : Bool) (at : ℕ) (old : Option ℕ) (hold : Hold) → cond b (Some at) old ≡ None → (old ≡ None → is_shut hold ≡ false) → is_shut (cond b ShutDown hold) ≡ false
none_before true at old hold e ih = cc
none_before false at old hold e ih = ih e

unshut : (past : List Act) (p : Place) → shut_at past p ≡ None → is_shut (standing past p) ≡ false
unshut [] p e = refl
unshut (Opened q ∷ past) p e = kept (same_place q p) Open (standing past p) refl (unshut past p e)
unshut (OpenLater q ∷ past) p e = kept (same_place q p) Settling (standing past p) refl (unshut past p e)
unshut (OpenFailed q ∷ past) p e = kept (same_place q p) Free (standing past p) refl (unshut past p e)
unshut (Listening q ∷ past) p e = kept (same_place q p) Open (standing past p) refl (unshut past p e)
unshut (ListenFailed q ∷ past) p e = kept (same_place q p) Free (standing past p) refl (unshut past p e)
unshut (Accepted q peer ∷ past) p e = kept (same_place q p) Open (standing past p) refl (unshut past p e)
unshut (Closed q why ∷ past) p e = kept (same_place q p) Free (standing past p) refl (unshut past p e)
unshut (Shut q way ∷ past) p e = let ih = unshut past p in none_before (same_place q p) (now past) (shut_at past p) (standing past p) e ih
unshut (ShutFault q way ∷ past) p e = let ih = unshut past p in none_before (same_place q p) (now past) (shut_at past p) (standing past p) e ih
unshut (act ∷ past) p e = unshut past p e

open_unshut : (hold : Hold) → is_open hold ≡ true → is_shut hold ≡ false → hold ≡ Open
open_unshut Free o s = absurd (false≢true o)
open_unshut Settling o s = absurd (false≢true o)
open_unshut Open o s = refl
open_unshut ShutDown o s = absurd (false≢true (sym s))

-- what can be used and was never shut is plainly open
pub open_where_unshut : (past : List Act) (p : Place) → is_open (standing past p) ≡ true → shut_at past p ≡ None → standing past p ≡ Open
open_where_unshut past p o e = open_unshut (standing past p) o (unshut past p e)
