-- What each call says of how the things that it names stand.
use Rattle.std.proofs.Common.{◌≡◌, refl, ap, ℕ, Bool, true, false, not, cond, ◌&&◌, ◌||◌, nat_le, is_none, List, [], ◌∷◌, Option, Some, None}
use Rattle.std.proofs.lemmas.Bool.{leb-false}
use Rattle.relay_model.specs.declared.places.Place.{Place}
use Rattle.relay_model.specs.declared.commands.Config.{Config}
use Rattle.relay_model.specs.declared.acts.Act.{Act}
use Rattle.relay_model.specs.Places.{door_of}
use Rattle.relay_model.specs.Configs.{places, options_of, listens_at, has_own_door, has_fork, is_left, program_door}
use Rattle.relay_model.specs.History.{now, stage, held, holds_at, woken, failures}
use Rattle.relay_model.specs.declared.stages.Stage.{Stage}
use Rattle.relay_model.specs.declared.stages.Stage.TheVariants.{Untried, Unsettled, Failed, Met, Waiting}
use Rattle.relay_model.specs.Arming.{armed_to_accept}
use Rattle.relay_model.specs.Sessions.{permits, live, next_place}
use Rattle.relay_model.specs.Tries.{next_due}
use Rattle.relay_model.specs.Openings.{out_of_tries, when_due, try_again, is_ready, opening_call, listening_call, peer_call, place_call, first_call}
use Rattle.relay_model.specs.declared.calls.Call.{Call}
use Rattle.relay_model.specs.declared.calls.Call.TheVariants.{Nothing, TryAt, Open, Settle, Listen, Accept, Refuse, Serve}
use Rattle.relay_model.specs.Cause.{cause}
use Rattle.relay_model.specs.Calls.{call, door_cut, enough, full, program_door_call, door_call, called_at}
use Rattle.relay_model.specs.Laws.{Tells}

-- a choice tells where both of its calls do, each under its test
pub choice : (past : List Act) (b : Bool) (one other : Call) → (b ≡ true → Tells past one) → (b ≡ false → Tells past other) → Tells past (cond b one other)
choice past true one other t f = t refl
choice past false one other t f = f refl

due_tells : (past : List Act) (o : Option ℕ) (wanted : Call) → Tells past wanted → Tells past (when_due (now past) o wanted)
due_tells past None wanted t = tt
due_tells past (Some m) wanted t = choice past (nat_le m (now past)) wanted (TryAt m) (λ _. t) (λ e. leb-false m (now past) e)

again_tells : (c : Config) (past : List Act) (p : Place) (wanted : Call) → Tells past wanted → Tells past (try_again c past p wanted)
again_tells c past p wanted t = choice past (out_of_tries c past p) Nothing (when_due (now past) (next_due (options_of c p).tries.interval (failures past p)) wanted) (λ _. tt) (λ _. due_tells past (next_due (options_of c p).tries.interval (failures past p)) wanted t)

opening_tells : (c : Config) (past : List Act) (p : Place) (st : Stage) → stage past p ≡ st → Tells past (opening_call c past p st)
opening_tells c past p Untried e = ap holds_at e
opening_tells c past p Unsettled e = choice past (woken past p) (Settle p) Nothing (λ w. (e, w)) (λ _. tt)
opening_tells c past p Failed e = again_tells c past p (Open p) (ap holds_at e)
opening_tells c past p st e = tt

listening_tells : (c : Config) (past : List Act) (d p : Place) (st : Stage) → stage past d ≡ st → Tells past (listening_call c past d p st)
listening_tells c past d p Untried e = ap holds_at e
listening_tells c past d p Failed e = again_tells c past d (Listen d) (ap holds_at e)
listening_tells c past d p Waiting e = choice past (armed_to_accept past d) (Accept d p) Nothing (λ a. (e, a)) (λ _. tt)
listening_tells c past d p st e = tt

peer_tells : (c : Config) (past : List Act) (p : Place) (st : Stage) → stage past p ≡ st → Tells past (peer_call c past p st)
peer_tells c past p (Met peer) e =
    choice past (permits c p peer) (cond (held past (door_of p)) (Serve (door_of p)) Nothing) (Refuse p)
    (λ _. choice past (held past (door_of p)) (Serve (door_of p)) Nothing (λ h. h) (λ _. tt))
    (λ _. ap holds_at e)
peer_tells c past p st e = listening_tells c past (door_of p) p (stage past (door_of p)) refl

place_tells : (c : Config) (past : List Act) (p : Place) → Tells past (place_call c past p)
place_tells c past p =
    choice past (has_own_door c p) (peer_call c past p (stage past p)) (cond (listens_at c p) Nothing (opening_call c past p (stage past p)))
    (λ _. peer_tells c past p (stage past p) refl)
    (λ _. choice past (listens_at c p) Nothing (opening_call c past p (stage past p)) (λ _. tt) (λ _. opening_tells c past p (stage past p) refl))

first_tells : (c : Config) (past : List Act) (ps : List Place) → Tells past (first_call c past ps)
first_tells c past [] = tt
first_tells c past (p ∷ ps) = let h = first_tells c past ps in choice past (is_ready c past p) (first_call c past ps) (place_call c past p) (λ _. h) (λ _. place_tells c past p)

pub call_tells : (c : Config) (past : List Act) (s : ℕ) → Tells past (call c past s)
call_tells c past s = choice past (live c past s && is_none (cause c past s)) (first_call c past (places c s)) Nothing (λ _. first_tells c past (places c s)) (λ _. tt)

program_door_tells : (c : Config) (past : List Act) (st : Stage) → stage past program_door ≡ st → Tells past (program_door_call c past st)
program_door_tells c past Waiting e =
    choice past (enough c past) (Serve program_door) (cond (full c past) Nothing (listening_call c past program_door (next_place c past) Waiting))
    (λ _. ap holds_at e)
    (λ _. choice past (full c past) Nothing (listening_call c past program_door (next_place c past) Waiting) (λ _. tt) (λ _. listening_tells c past program_door (next_place c past) Waiting e))
program_door_tells c past st e = listening_tells c past program_door (next_place c past) st e

pub door_tells : (c : Config) (past : List Act) → Tells past (door_call c past)
door_tells c past =
    choice past (not (has_fork c) || door_cut past) Nothing (cond (held past (next_place c past)) (Refuse (next_place c past)) (program_door_call c past (stage past program_door)))
    (λ _. tt)
    (λ _. choice past (held past (next_place c past)) (Refuse (next_place c past)) (program_door_call c past (stage past program_door)) (λ h. h) (λ _. program_door_tells c past (stage past program_door) refl))

pub called_tells : (c : Config) (past : List Act) (p : Place) → Tells past (called_at c past p)
called_tells c past p = choice past (is_left p && has_fork c) (door_call c past) (call c past p.session) (λ _. door_tells c past) (λ _. call_tells c past p.session)
