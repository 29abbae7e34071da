-- Without `fork` no door and no peer has a standard stream for its address.
use Rattle.std.proofs.Common.{◌≡◌, refl, sym, subst, ℕ, Bool, true, false, cond, ◌&&◌, nat_le, is_none, List, [], ◌∷◌, Option, None, Some}
use Rattle.std.proofs.lemmas.Bool.{and_parts, false≢true}
use Rattle.relay_model.specs.declared.places.Place.{Place}
use Rattle.relay_model.specs.declared.commands.Config.{Config}
use Rattle.relay_model.specs.declared.commands.Target.{Target}
use Rattle.relay_model.specs.declared.commands.Target.TheVariants as targets
use Rattle.relay_model.specs.declared.acts.Act.{Act}
use Rattle.relay_model.specs.declared.acts.Act.TheVariants.{Listening, Accepted}
use Rattle.relay_model.specs.Places.{door_of}
use Rattle.relay_model.specs.Configs.{places, options_of, listens, listens_at, has_own_door, has_fork, is_left, single}
use Rattle.relay_model.specs.History.{now, stage, held, woken, failures}
use Rattle.relay_model.specs.declared.stages.Stage.{Stage}
use Rattle.relay_model.specs.declared.stages.Stage.TheVariants.{Untried, Unsettled, Failed, Met, Waiting}
use Rattle.relay_model.specs.Arming.{armed_to_accept}
use Rattle.relay_model.specs.Sessions.{permits, live}
use Rattle.relay_model.specs.Tries.{next_due}
use Rattle.relay_model.specs.Openings.{out_of_tries, when_due, try_again, is_ready, opening_call, listening_call, peer_call, place_call, first_call}
use Rattle.relay_model.specs.declared.calls.Call.{Call}
use Rattle.relay_model.specs.declared.calls.Call.TheVariants.{Nothing, TryAt, Open, Settle, Listen, Accept, Refuse, Serve}
use Rattle.relay_model.specs.Cause.{cause}
use Rattle.relay_model.specs.Calls.{call, door_call, called_at}
use Rattle.relay_model.specs.May.{Legal}
use Rattle.port_table.specs.Bases.{standard_of}
use Rattle.port_desk.specs.Following.{AreElsewhere, IsElsewhere, stream_of}

-- what a call listens at, and whom it accepts, has no standard stream for its address
abbrev IsApart : Config → Call → Type 0
IsApart c (Listen d) = stream_of (single c) d ≡ None
IsApart c (Accept d p) = stream_of (single c) p ≡ None
IsApart c call = Unit {0}

choice : (c : Config) (b : Bool) (one other : Call) → (b ≡ true → IsApart c one) → IsApart c other → IsApart c (cond b one other)
choice c true one other t f = t refl
choice c false one other t f = f

due_apart : (c : Config) (past : List Act) (o : Option ℕ) (wanted : Call) → IsApart c wanted → IsApart c (when_due (now past) o wanted)
due_apart c past None wanted t = tt
due_apart c past (Some m) wanted t = choice c (nat_le m (now past)) wanted (TryAt m) (λ _. t) tt

again_apart : (c : Config) (past : List Act) (p : Place) (wanted : Call) → IsApart c wanted → IsApart c (try_again c past p wanted)
again_apart c past p wanted t = choice c (out_of_tries c past p) Nothing (when_due (now past) (next_due (options_of c p).tries.interval (failures past p)) wanted) (λ _. tt) (due_apart c past (next_due (options_of c p).tries.interval (failures past p)) wanted t)

opening_apart : (c : Config) (past : List Act) (p : Place) (st : Stage) → IsApart c (opening_call c past p st)
opening_apart c past p Untried = tt
opening_apart c past p Unsettled = choice c (woken past p) (Settle p) Nothing (λ _. tt) tt
opening_apart c past p Failed = again_apart c past p (Open p) tt
opening_apart c past p st = tt

-- what listens is no standard stream
listening_target : (place : Place) (target : Target) → listens target ≡ true → standard_of place target ≡ None
listening_target place targets.Stdio e = absurd (false≢true e)
listening_target place targets.Stdin e = absurd (false≢true e)
listening_target place targets.Stdout e = absurd (false≢true e)
listening_target place targets.Stderr e = absurd (false≢true e)
listening_target place target e = refl

listening_apart : (c : Config) (past : List Act) (p : Place) (st : Stage) → listens_at c p ≡ true → IsApart c (listening_call c past (door_of p) p st)
listening_apart c past p Untried l = listening_target (door_of p) (single c p).target l
listening_apart c past p Failed l = again_apart c past (door_of p) (Listen (door_of p)) (listening_target (door_of p) (single c p).target l)
listening_apart c past p Waiting l = choice c (armed_to_accept past (door_of p)) (Accept (door_of p) p) Nothing (λ _. listening_target p (single c p).target l) tt
listening_apart c past p st l = tt

peer_apart : (c : Config) (past : List Act) (p : Place) (st : Stage) → listens_at c p ≡ true → IsApart c (peer_call c past p st)
peer_apart c past p (Met peer) l =
    choice c (permits c p peer) (cond (held past (door_of p)) (Serve (door_of p)) Nothing) (Refuse p)
    (λ _. choice c (held past (door_of p)) (Serve (door_of p)) Nothing (λ _. tt) tt)
    tt
peer_apart c past p st l = listening_apart c past p (stage past (door_of p)) l

place_apart : (c : Config) (past : List Act) (p : Place) → IsApart c (place_call c past p)
place_apart c past p =
    choice c (has_own_door c p) (peer_call c past p (stage past p)) (cond (listens_at c p) Nothing (opening_call c past p (stage past p)))
    (λ own. peer_apart c past p (stage past p) (and_parts (listens_at c p) _ own).0)
    (choice c (listens_at c p) Nothing (opening_call c past p (stage past p)) (λ _. tt) (opening_apart c past p (stage past p)))

first_apart : (c : Config) (past : List Act) (ps : List Place) → IsApart c (first_call c past ps)
first_apart c past [] = tt
first_apart c past (p ∷ ps) = let h = first_apart c past ps in choice c (is_ready c past p) (first_call c past ps) (place_call c past p) (λ _. h) (place_apart c past p)

call_apart : (c : Config) (past : List Act) (s : ℕ) → IsApart c (call c past s)
call_apart c past s = choice c (live c past s && is_none (cause c past s)) (first_call c past (places c s)) Nothing (λ _. first_apart c past (places c s)) tt

no_door : (b fork : Bool) → fork ≡ false → (b && fork) ≡ false
no_door true fork e = e
no_door false fork e = refl

called_apart : (c : Config) (past : List Act) (p : Place) → has_fork c ≡ false → IsApart c (called_at c past p)
called_apart c past p alone =
    let e : (is_left p && has_fork c) ≡ false = no_door (is_left p) (has_fork c) alone in
    subst (λ (b : Bool). IsApart c (cond b (door_call c past) (call c past p.session))) (sym e) (call_apart c past p.session)

act_apart : (c : Config) (n : ℕ) (act : Act) (past : List Act) → has_fork c ≡ false → Legal c n (act ∷ past) → IsElsewhere (single c) act
act_apart c n (Listening d) past alone legal = subst (IsApart c) legal.0.1 (called_apart c past d alone)
act_apart c n (Accepted p peer) past alone legal = subst (IsApart c) legal.0.1.1 (called_apart c past p alone)
act_apart c n act past alone legal = tt

-- of legal acts without `fork` this is known
pub elsewhere : (c : Config) (n : ℕ) (past : List Act) → has_fork c ≡ false → Legal c n past → AreElsewhere (single c) past
elsewhere c n [] alone legal = tt
elsewhere c n (act ∷ past) alone legal = (act_apart c n act past alone legal, elsewhere c n past alone legal.1)
