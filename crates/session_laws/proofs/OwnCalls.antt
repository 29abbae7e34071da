-- A session calls for an accepting at its own doors alone.
use Rattle.std.proofs.Common.{◌≡◌, refl, ℕ, Bool, true, false, cond, ◌&&◌, nat_le, is_none, List, [], ◌∷◌, Option, Some, None}
use Rattle.relay_model.specs.declared.places.Place.{Place}
use Rattle.relay_model.specs.declared.commands.Config.{Config}
use Rattle.relay_model.specs.declared.acts.Act.{Act}
use Rattle.relay_model.specs.Places.{door_of}
use Rattle.relay_model.specs.Configs.{places, options_of, listens_at, has_own_door, is_program_door}
use Rattle.relay_model.specs.History.{now, stage, held, woken, failures}
use Rattle.relay_model.specs.declared.stages.Stage.{Stage}
use Rattle.relay_model.specs.declared.stages.Stage.TheVariants.{Unsettled, Failed, Met, Waiting}
use Rattle.relay_model.specs.Arming.{armed_to_accept}
use Rattle.relay_model.specs.Sessions.{permits, live}
use Rattle.relay_model.specs.Tries.{next_due}
use Rattle.relay_model.specs.Openings.{out_of_tries, when_due, try_again, is_ready, opening_call, listening_call, peer_call, place_call, first_call}
use Rattle.relay_model.specs.declared.calls.Call.{Call}
use Rattle.relay_model.specs.declared.calls.Call.TheVariants.{Nothing, TryAt, Open, Settle, Listen, Accept, Refuse, Serve}
use Rattle.relay_model.specs.Cause.{cause}
use Rattle.relay_model.specs.Calls.{call}
use Rattle.relay_laws.proofs.OwnThings.{EachOwn, door_own, each_place}

-- an accepting is at a door of the session's own
abbrev pub IsOwnCall : Config → ℕ → Call → Type 0
IsOwnCall c s (Accept d p) = (d.session ≡ s) × (is_program_door c d ≡ false)
IsOwnCall c s other = Unit {0}

choice : (c : Config) (s : ℕ) (b : Bool) (one other : Call) → (b ≡ true → IsOwnCall c s one) → IsOwnCall c s other → IsOwnCall c s (cond b one other)
choice c s true one other f h = f refl
choice c s false one other f h = h

due_own : (c : Config) (s at : ℕ) (o : Option ℕ) (wanted : Call) → IsOwnCall c s wanted → IsOwnCall c s (when_due at o wanted)
due_own c s at None wanted h = tt
due_own c s at (Some m) wanted h = choice c s (nat_le m at) wanted (TryAt m) (λ _. h) tt

again_own : (c : Config) (s : ℕ) (past : List Act) (p : Place) (wanted : Call) → IsOwnCall c s wanted → IsOwnCall c s (try_again c past p wanted)
again_own c s past p wanted h =
    let at = now past in
    let due = next_due (options_of c p).tries.interval (failures past p) in
    choice c s (out_of_tries c past p) Nothing (when_due at due wanted) (λ _. tt) (due_own c s at due wanted h)

opening_own : (c : Config) (s : ℕ) (past : List Act) (p : Place) (st : Stage) → IsOwnCall c s (opening_call c past p st)
opening_own c s past p Unsettled = choice c s (woken past p) (Settle p) Nothing (λ _. tt) tt
opening_own c s past p Failed = again_own c s past p (Open p) tt
opening_own c s past p st = tt

listening_own : (c : Config) (s : ℕ) (past : List Act) (d p : Place) → d.session ≡ s → is_program_door c d ≡ false → (st : Stage) → IsOwnCall c s (listening_call c past d p st)
listening_own c s past d p e o Failed = again_own c s past d (Listen d) tt
listening_own c s past d p e o Waiting = choice c s (armed_to_accept past d) (Accept d p) Nothing (λ _. (e, o)) tt
listening_own c s past d p e o st = tt

peer_own : (c : Config) (s : ℕ) (past : List Act) (p : Place) → p.session ≡ s → is_program_door c (door_of p) ≡ false → (st : Stage) → IsOwnCall c s (peer_call c past p st)
peer_own c s past p e o (Met peer) =
    choice c s (permits c p peer) (cond (held past (door_of p)) (Serve (door_of p)) Nothing) (Refuse p) (λ _. choice c s (held past (door_of p)) (Serve (door_of p)) Nothing (λ _. tt) tt) tt
peer_own c s past p e o st = listening_own c s past (door_of p) p e o (stage past (door_of p))

place_own : (c : Config) (s : ℕ) (past : List Act) (p : Place) → p.session ≡ s → IsOwnCall c s (place_call c past p)
place_own c s past p e =
    choice c s (has_own_door c p) (peer_call c past p (stage past p)) (cond (listens_at c p) Nothing (opening_call c past p (stage past p)))
    (λ own. peer_own c s past p e (door_own c p own) (stage past p))
    (choice c s (listens_at c p) Nothing (opening_call c past p (stage past p)) (λ _. tt) (opening_own c s past p (stage past p)))

first_own : (c : Config) (s : ℕ) (past : List Act) (ps : List Place) → EachOwn c s ps → IsOwnCall c s (first_call c past ps)
first_own c s past [] own = tt
first_own c s past (p ∷ ps) own =
    let later = first_own c s past ps own.2 in
    choice c s (is_ready c past p) (first_call c past ps) (place_call c past p) (λ _. later) (place_own c s past p own.0)

pub call_own : (c : Config) (past : List Act) (s : ℕ) → IsOwnCall c s (call c past s)
call_own c past s = choice c s (live c past s && is_none (cause c past s)) (first_call c past (places c s)) Nothing (λ _. first_own c s past (places c s) (each_place c s)) tt
