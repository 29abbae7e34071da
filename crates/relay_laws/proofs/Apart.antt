-- An act of another session or of the program door leaves a session as it is.
use Rattle.std.proofs.Common.{◌≡◌, refl, sym, ap, ◌∙◌, ℕ, suc, ◌+◌, ◌<◌, Bool, true, false, not, cond, ◌&&◌, ◌||◌, ◌==◌, ◌-◌, nat_lt, length, is_some, is_none, List, [], ◌∷◌, Option, Some, None, arith}
use Rattle.std.specs.List.{list_all, list_any}
use Rattle.std.proofs.lemmas.Bool.{true≢false, and_parts, and_right, or_parts, lt-ltb, false_from_ne_true}
use Rattle.relay_model.specs.declared.places.Side.TheVariants.{Left}
use Rattle.relay_model.specs.declared.places.Part.TheVariants.{Both}
use Rattle.relay_model.specs.declared.places.Way.{Way}
use Rattle.relay_model.specs.declared.places.Way.TheVariants.{LeftToRight, RightToLeft}
use Rattle.relay_model.specs.declared.places.Place.{Place}
use Rattle.relay_model.specs.declared.commands.Config.{Config}
use Rattle.relay_model.specs.declared.acts.Why.{Why}
use Rattle.relay_model.specs.declared.acts.Why.TheVariants as whys
use Rattle.relay_model.specs.declared.acts.Act.{Act}
use Rattle.relay_model.specs.declared.acts.Act.TheVariants.{Turn, Opened, Accepted, NoPeer, AcceptFailed, Read, Wrote, WriteNotYet, WriteFault, Closed}
use Rattle.relay_model.specs.Places.{same_place, same_side, same_part, same_bool, door_of}
use Rattle.relay_model.specs.Choices.{only_if, or_else, first_some, one_more, earlier, later}
use Rattle.relay_model.specs.Configs.{places, things, own_doors, has_own_door, options_of, listens_at, has_fork, is_left, program_door, is_program_door, is_of, is_place_of, input, output, formed, accepting_door}
use Rattle.relay_model.specs.Conversions.{is_over}
use Rattle.relay_model.specs.History.{now, stage, held, holds_at, is_gone_with, served, stop_said, memory_said, same_why, accept_failed}
use Rattle.relay_model.specs.declared.stages.Stage.{Stage}
use Rattle.relay_model.specs.declared.stages.Stage.TheVariants.{Unsettled, Failed, Met, Waiting}
use Rattle.relay_model.specs.Sessions.{permits, holds, live, admitted, is_admission, numbers}
use Rattle.relay_model.specs.Tries.{next_due, is_out_of_tries}
use Rattle.relay_model.specs.Moments.{moved_at, passed_at, broken_at, done_at, after_one, closing_moment, idle_moment, reached}
use Rattle.relay_model.specs.Openings.{out_of_tries, when_due, try_again, stands_ready, is_ready, ready, opening_call, listening_call, peer_call, place_call, first_call}
use Rattle.relay_model.specs.declared.calls.Call.{Call}
use Rattle.relay_model.specs.declared.calls.Call.TheVariants.{Nothing, Open, Settle, Listen, Accept, Refuse, Serve}
use Rattle.relay_model.specs.Arming.{is_armed, arming_moment, asked_to_write, asked_to_accept}
use Rattle.relay_model.specs.Transfers.{due, due_pieces, over, backlog}
use Rattle.relay_model.specs.Cause.{is_end, closed_why, fault_at, faulted, finished, cause, running}
use Rattle.relay_model.specs.Calls.{call}
use Rattle.relay_model.specs.Rest.{is_going, owes_read, owes_write, accepts, session_work, try_moment, input_moment, timer_moment, session_moment}
use Rattle.relay_model.specs.Frames.{is_at, is_turn, reads_bytes, SameAt, IsForeign, is_common, SameSession}
use Rattle.relay_laws.proofs.PlaceLemmas.{same_place_equal, same_place_self}
use Rattle.relay_laws.proofs.Elsewhere.{elsewhere, due_pieces_left}
use Rattle.relay_laws.proofs.OwnThings.{EachOwn, own_door, door_own, each_place, each_door, each_thing, none_among, input_own, output_own}

-- ---- the same of each of a session's own

any_same : (c : Config) (s : ℕ) (f g : Place → Bool) → ((p : Place) → p.session ≡ s → is_program_door c p ≡ false → f p ≡ g p) → (ps : List Place) → EachOwn c s ps → list_any f ps ≡ list_any g ps
any_same c s f g h [] own = refl
any_same c s f g h (p ∷ ps) own = let x = h p own.0 own.1 in let y = any_same c s f g h ps own.2 in λ i. x i || y i

all_same : (c : Config) (s : ℕ) (f g : Place → Bool) → ((p : Place) → p.session ≡ s → is_program_door c p ≡ false → f p ≡ g p) → (ps : List Place) → EachOwn c s ps → list_all f ps ≡ list_all g ps
all_same c s f g h [] own = refl
all_same c s f g h (p ∷ ps) own = let x = h p own.0 own.1 in let y = all_same c s f g h ps own.2 in λ i. x i && y i

-- ---- two lists that say the same of a session's own

pub record Base (c : Config) (s : ℕ) (one other : List Act) : Type 0 where
  pub own : (p : Place) → p.session ≡ s → is_program_door c p ≡ false → SameAt p one other
  pub now_same : now one ≡ now other
  pub memory_same : memory_said one ≡ memory_said other
  pub stop_same : stop_said one ≡ stop_said other
  pub door_same : (has_fork c && accept_failed one program_door) ≡ (has_fork c && accept_failed other program_door)
  pub closed_same : closed_why c one s ≡ closed_why c other s
  pub moved_same : moved_at c one s ≡ moved_at c other s

held_same : (c : Config) (s : ℕ) (a b : List Act) → Base c s a b → (p : Place) → p.session ≡ s → is_program_door c p ≡ false → held a p ≡ held b p
held_same c s a b base p e d = ap holds_at (base.own p e d).stage_same

holding_same : (c : Config) (s : ℕ) (a b : List Act) → Base c s a b → holds c a s ≡ holds c b s
holding_same c s a b base = any_same c s (held a) (held b) (held_same c s a b base) (things c s) (each_thing c s)

standing_same : (c : Config) (a b : List Act) (p : Place) → (has_own_door c p ≡ true → served a (door_of p) ≡ served b (door_of p)) → (st : Stage) → stands_ready c a p st ≡ stands_ready c b p st
standing_same c a b p h (Met peer) = ap (λ x. listens_at c p && permits c p peer && x) (go (has_own_door c p) h)
  where
    go : (t : Bool) → (t ≡ true → served a (door_of p) ≡ served b (door_of p)) → (not t || served a (door_of p)) ≡ (not t || served b (door_of p))
    go true k = k refl
    go false k = refl
standing_same c a b p h st = refl

ready_same_at : (c : Config) (s : ℕ) (a b : List Act) → Base c s a b → (p : Place) → p.session ≡ s → is_program_door c p ≡ false → is_ready c a p ≡ is_ready c b p
ready_same_at c s a b base p e d =
    ap (stands_ready c a p) (base.own p e d).stage_same
    ∙ standing_same c a b p (λ o. ap (is_gone_with whys.Served) (base.own (door_of p) e (door_own c p o)).stage_same) (stage b p)

readiness_same : (c : Config) (s : ℕ) (a b : List Act) → Base c s a b → ready c a s ≡ ready c b s
readiness_same c s a b base = all_same c s (is_ready c a) (is_ready c b) (ready_same_at c s a b base) (places c s) (each_place c s)

tries_same : (c : Config) (s : ℕ) (a b : List Act) → Base c s a b → (p : Place) → p.session ≡ s → is_program_door c p ≡ false → out_of_tries c a p ≡ out_of_tries c b p
tries_same c s a b base p e d = ap (is_out_of_tries (options_of c p).tries.retry (options_of c p).tries.forever) (base.own p e d).failures_same

fault_same : (c : Config) (s : ℕ) (a b : List Act) → Base c s a b → (p : Place) → p.session ≡ s → is_program_door c p ≡ false → fault_at a p ≡ fault_at b p
fault_same c s a b base p e d = let x = (base.own p e d).read_fault_at_same in let y = (base.own p e d).write_fault_at_same in λ i. is_some (x i) || is_some (y i)

-- ---- timers

pub passing_same : (c : Config) (s : ℕ) (a b : List Act) → Base c s a b → (w : Way) → passed_at c a s w ≡ passed_at c b s w
passing_same c s a b base w = (base.own (output c s w) refl (output_own c s w)).shut_at_same

breaking_same : (c : Config) (s : ℕ) (a b : List Act) → Base c s a b → (w : Way) → broken_at c a s w ≡ broken_at c b s w
breaking_same c s a b base w =
    let x = (base.own (input c s w) refl (input_own c s w)).read_fault_at_same in
    let y = (base.own (output c s w) refl (output_own c s w)).write_fault_at_same in
    λ i. cond c.sloppy (or_else (x i) (y i)) None

doing_same : (c : Config) (s : ℕ) (a b : List Act) → Base c s a b → (w : Way) → done_at c a s w ≡ done_at c b s w
doing_same c s a b base w = let x = passing_same c s a b base w in let y = breaking_same c s a b base w in λ i. or_else (x i) (y i)

closing_same : (c : Config) (s : ℕ) (a b : List Act) → Base c s a b → closing_moment c a s ≡ closing_moment c b s
closing_same c s a b base =
    let x = doing_same c s a b base LeftToRight in
    let y = doing_same c s a b base RightToLeft in
    λ i. cond (formed c LeftToRight && formed c RightToLeft) (after_one c.closing (x i) (y i)) None

idle_same : (c : Config) (s : ℕ) (a b : List Act) → Base c s a b → idle_moment c a s ≡ idle_moment c b s
idle_same c s a b base =
    let x = doing_same c s a b base LeftToRight in
    let y = doing_same c s a b base RightToLeft in
    let m = base.moved_same in
    λ i. cond (nat_lt 0 c.idle && (formed c LeftToRight && not (is_some (x i)) || formed c RightToLeft && not (is_some (y i)))) (Some (m i + c.idle)) None

-- ---- cause

faults_same : (c : Config) (s : ℕ) (a b : List Act) → Base c s a b → faulted c a s ≡ faulted c b s
faults_same c s a b base =
    let r = readiness_same c s a b base in
    let x = doing_same c s a b base LeftToRight in
    let y = doing_same c s a b base RightToLeft in
    let u = breaking_same c s a b base LeftToRight in
    let v = breaking_same c s a b base RightToLeft in
    let f = any_same c s (fault_at a) (fault_at b) (fault_same c s a b base) (places c s) (each_place c s) in
    λ i. cond c.sloppy
    (r i && ((not (formed c LeftToRight) || is_some (x i)) && (not (formed c RightToLeft) || is_some (y i))) && (formed c LeftToRight && is_some (u i) || formed c RightToLeft && is_some (v i)))
    (f i)

finish_same : (c : Config) (s : ℕ) (a b : List Act) → Base c s a b → finished c a s ≡ finished c b s
finish_same c s a b base =
    let r = readiness_same c s a b base in
    let x = passing_same c s a b base LeftToRight in
    let y = passing_same c s a b base RightToLeft in
    λ i. r i && ((not (formed c LeftToRight) || is_some (x i)) && (not (formed c RightToLeft) || is_some (y i)))

abbrev pub cause_from : Option Why → Bool → Bool → Bool → Bool → Bool → Bool → Bool → Bool → Bool → Option Why
cause_from closed memory stop accepting listening opening fault finish closing idle =
    first_some (closed
    ∷ only_if memory whys.Memory
    ∷ only_if stop whys.Stopped
    ∷ only_if accepting whys.AcceptFailed
    ∷ only_if listening whys.ListenFailed
    ∷ only_if opening whys.OpenFailed
    ∷ only_if fault whys.Faulted
    ∷ only_if finish whys.Finished
    ∷ only_if closing whys.ClosingTime
    ∷ only_if idle whys.Idle
    ∷ [])

pub ending_same : (c : Config) (s : ℕ) (a b : List Act) → Base c s a b → cause c a s ≡ cause c b s
ending_same c s a b base =
    let closed = base.closed_same in
    let memory = base.memory_same in
    let stop = base.stop_same in
    let door = base.door_same in
    let accepting = any_same c s (accept_failed a) (accept_failed b) (λ p e d. (base.own p e d).accept_failed_same) (own_doors c s) (each_door c s) in
    let listening = any_same c s (out_of_tries c a) (out_of_tries c b) (tries_same c s a b base) (own_doors c s) (each_door c s) in
    let opening = any_same c s (out_of_tries c a) (out_of_tries c b) (tries_same c s a b base) (places c s) (each_place c s) in
    let fault = faults_same c s a b base in
    let finish = finish_same c s a b base in
    let r = readiness_same c s a b base in
    let closing = closing_same c s a b base in
    let idle = idle_same c s a b base in
    let at = base.now_same in
    λ i. cause_from (closed i) (memory i) (stop i) (door i || accepting i) (listening i) (opening i) (fault i) (finish i) (r i && reached (closing i) (at i)) (r i && reached (idle i) (at i))

-- ---- calls

again_same : (c : Config) (s : ℕ) (a b : List Act) → Base c s a b → (p : Place) (wanted : Call) → p.session ≡ s → is_program_door c p ≡ false → try_again c a p wanted ≡ try_again c b p wanted
again_same c s a b base p wanted e d =
    let f = (base.own p e d).failures_same in
    let at = base.now_same in
    λ i. cond (is_out_of_tries (options_of c p).tries.retry (options_of c p).tries.forever (f i)) Nothing (when_due (at i) (next_due (options_of c p).tries.interval (f i)) wanted)

opening_same : (c : Config) (s : ℕ) (a b : List Act) → Base c s a b → (p : Place) → p.session ≡ s → is_program_door c p ≡ false → (st : Stage) → opening_call c a p st ≡ opening_call c b p st
opening_same c s a b base p e d Unsettled = let w = (base.own p e d).woken_same in λ i. cond (w i) (Settle p) Nothing
opening_same c s a b base p e d Failed = again_same c s a b base p (Open p) e d
opening_same c s a b base p e d st = refl

listening_same : (c : Config) (s : ℕ) (a b : List Act) → Base c s a b → (d p : Place) → d.session ≡ s → is_program_door c d ≡ false → (st : Stage) → listening_call c a d p st ≡ listening_call c b d p st
listening_same c s a b base d p e o Failed = again_same c s a b base d (Listen d) e o
listening_same c s a b base d p e o Waiting = let w = (base.own d e o).armed_to_accept_same in λ i. cond (w i) (Accept d p) Nothing
listening_same c s a b base d p e o st = refl

waiting_same : (c : Config) (s : ℕ) (a b : List Act) → Base c s a b → (p : Place) → p.session ≡ s → is_program_door c (door_of p) ≡ false → listening_call c a (door_of p) p (stage a (door_of p)) ≡ listening_call c b (door_of p) p (stage b (door_of p))
waiting_same c s a b base p e o = ap (listening_call c a (door_of p) p) (base.own (door_of p) e o).stage_same ∙ listening_same c s a b base (door_of p) p e o (stage b (door_of p))

peer_same : (c : Config) (s : ℕ) (a b : List Act) → Base c s a b → (p : Place) → p.session ≡ s → is_program_door c (door_of p) ≡ false → (st : Stage) → peer_call c a p st ≡ peer_call c b p st
peer_same c s a b base p e o (Met peer) = let h = held_same c s a b base (door_of p) e o in λ i. cond (permits c p peer) (cond (h i) (Serve (door_of p)) Nothing) (Refuse p)
peer_same c s a b base p e o st = waiting_same c s a b base p e o

place_call_same : (c : Config) (s : ℕ) (a b : List Act) → Base c s a b → (p : Place) → p.session ≡ s → is_program_door c p ≡ false → place_call c a p ≡ place_call c b p
place_call_same c s a b base p e d = go (has_own_door c p) refl
  where
    go : (t : Bool) → has_own_door c p ≡ t → cond t (peer_call c a p (stage a p)) (cond (listens_at c p) Nothing (opening_call c a p (stage a p))) ≡ cond t (peer_call c b p (stage b p)) (cond (listens_at c p) Nothing (opening_call c b p (stage b p)))
    go true o = ap (peer_call c a p) (base.own p e d).stage_same ∙ peer_same c s a b base p e (door_own c p o) (stage b p)
    go false o = ap (cond (listens_at c p) Nothing) (ap (opening_call c a p) (base.own p e d).stage_same ∙ opening_same c s a b base p e d (stage b p))

first_call_same : (c : Config) (s : ℕ) (a b : List Act) → Base c s a b → (ps : List Place) → EachOwn c s ps → first_call c a ps ≡ first_call c b ps
first_call_same c s a b base [] own = refl
first_call_same c s a b base (p ∷ ps) own =
    let r = ready_same_at c s a b base p own.0 own.1 in
    let k = place_call_same c s a b base p own.0 own.1 in
    let ih = first_call_same c s a b base ps own.2 in
    λ i. cond (r i) (ih i) (k i)

-- ---- work and moments

pub over_same : (c : Config) (s : ℕ) (a b : List Act) → Base c s a b → (p : Place) → p.session ≡ s → is_program_door c p ≡ false → over c a p ≡ over c b p
over_same c s a b base p e d =
    let x = (base.own p e d).met_end_same in
    let y = (base.own p e d).met_empty_same in
    let g = (base.own p e d).got_same in
    λ i. x i && not (options_of c p).input.ignoreeof || y i && (options_of c p).input.null_eof || is_over (options_of c p).input.readbytes (options_of c p).input.escape (g i)

pub backlog_same : (c : Config) (s : ℕ) (a b : List Act) → Base c s a b → (w : Way) → backlog c a s w ≡ backlog c b s w
backlog_same c s a b base w =
    let g = (base.own (input c s w) refl (input_own c s w)).got_same in
    let u = (base.own (output c s w) refl (output_own c s w)).put_same in
    λ i. length (due c w (g i)) - length (u i)

pub moves_same : (c : Config) (s : ℕ) (a b : List Act) → Base c s a b → running c a s ≡ running c b s → (w : Way) → is_going c a s w ≡ is_going c b s w
moves_same c s a b base run w = let u = breaking_same c s a b base w in λ i. formed c w && not (is_some (u i)) && run i

reads_same : (c : Config) (s : ℕ) (a b : List Act) → Base c s a b → running c a s ≡ running c b s → (w : Way) → owes_read c a s w ≡ owes_read c b s w
reads_same c s a b base run w =
    let m = moves_same c s a b base run w in
    let r = (base.own (input c s w) refl (input_own c s w)).read_arming_same in
    let at = base.now_same in
    let o = over_same c s a b base (input c s w) refl (input_own c s w) in
    let k = backlog_same c s a b base w in
    λ i. m i && is_armed (r i) (at i) && not (o i) && k i == 0

writes_same : (c : Config) (s : ℕ) (a b : List Act) → Base c s a b → running c a s ≡ running c b s → (w : Way) → owes_write c a s w ≡ owes_write c b s w
writes_same c s a b base run w =
    let m = moves_same c s a b base run w in
    let r = (base.own (output c s w) refl (output_own c s w)).armed_to_write_same in
    let k = backlog_same c s a b base w in
    λ i. m i && r i && nat_lt 0 (k i)

work_same : (c : Config) (s : ℕ) (a b : List Act) → Base c s a b → running c a s ≡ running c b s → call c a s ≡ call c b s → session_work c a s ≡ session_work c b s
work_same c s a b base run calling =
    let r = reads_same c s a b base run LeftToRight in
    let u = writes_same c s a b base run LeftToRight in
    let x = reads_same c s a b base run RightToLeft in
    let y = writes_same c s a b base run RightToLeft in
    λ i. (r i || u i) || (x i || y i) || accepts (calling i)

input_same : (c : Config) (s : ℕ) (a b : List Act) → Base c s a b → running c a s ≡ running c b s → (w : Way) → input_moment c a s w ≡ input_moment c b s w
input_same c s a b base run w =
    let m = moves_same c s a b base run w in
    let o = over_same c s a b base (input c s w) refl (input_own c s w) in
    let r = (base.own (input c s w) refl (input_own c s w)).read_arming_same in
    λ i. cond (m i && not (o i)) (arming_moment (r i)) None

timer_same : (c : Config) (s : ℕ) (a b : List Act) → Base c s a b → running c a s ≡ running c b s → timer_moment c a s ≡ timer_moment c b s
timer_same c s a b base run =
    let closing = closing_same c s a b base in
    let idle = idle_same c s a b base in
    let at = base.now_same in
    λ i. cond (run i) (earlier (later (at i) (closing i)) (later (at i) (idle i))) None

moment_same : (c : Config) (s : ℕ) (a b : List Act) → Base c s a b → running c a s ≡ running c b s → call c a s ≡ call c b s → session_moment c a s ≡ session_moment c b s
moment_same c s a b base run calling =
    let t = timer_same c s a b base run in
    let x = input_same c s a b base run LeftToRight in
    let y = input_same c s a b base run RightToLeft in
    let at = base.now_same in
    λ i. earlier (t i) (earlier (earlier (later (at i) (x i)) (later (at i) (y i))) (later (at i) (try_moment (calling i))))

-- ---- one act

foreign_of : (c : Config) (s : ℕ) (q : Place) → ((p : Place) → p.session ≡ s → is_program_door c p ≡ false → same_place q p ≡ false) → is_of c s q ≡ false
foreign_of c s q f = none_among c s q (things c s) (each_thing c s) f

foreign_place : (c : Config) (s : ℕ) (q : Place) → ((p : Place) → p.session ≡ s → is_program_door c p ≡ false → same_place q p ≡ false) → is_place_of c s q ≡ false
foreign_place c s q f = none_among c s q (places c s) (each_place c s) f

pub closed_step : (c : Config) (act : Act) (past : List Act) (s : ℕ) → IsForeign c s act → closed_why c (act ∷ past) s ≡ closed_why c past s
closed_step c (Closed q why) past s f = let e = foreign_of c s q f in λ i. cond (e i && is_end q why) (Some why) (closed_why c past s)
closed_step c act past s f = refl

moved_step : (c : Config) (act : Act) (past : List Act) (s : ℕ) → IsForeign c s act → moved_at c (act ∷ past) s ≡ moved_at c past s
moved_step c (Opened q) past s f = let e = foreign_place c s q f in λ i. cond (e i) (now past) (moved_at c past s)
moved_step c (Accepted q peer) past s f = let e = foreign_place c s q f in λ i. cond (e i) (now past) (moved_at c past s)
moved_step c (Read q bytes) past s f = let e = foreign_place c s q f in λ i. cond (e i) (now past) (moved_at c past s)
moved_step c (Wrote q bytes) past s f = let e = foreign_place c s q f in λ i. cond (e i) (now past) (moved_at c past s)
moved_step c act past s f = refl

now_step : (c : Config) (act : Act) (past : List Act) → is_common c act ≡ false → now (act ∷ past) ≡ now past
now_step c (Turn until at ready stop) past k = absurd (true≢false k)
now_step c act past k = refl

turn_step : (c : Config) (act : Act) → is_common c act ≡ false → is_turn act ≡ false
turn_step c (Turn until at ready stop) k = absurd (true≢false k)
turn_step c act k = refl

memory_step : (c : Config) (act : Act) (past : List Act) → is_common c act ≡ false → memory_said (act ∷ past) ≡ memory_said past
memory_step c (Closed q why) past k = let e = (or_parts (same_why why whys.Stopped) (same_why why whys.Memory) k).1 in λ i. e i || memory_said past
memory_step c act past k = refl

stop_step : (c : Config) (act : Act) (past : List Act) → is_common c act ≡ false → stop_said (act ∷ past) ≡ stop_said past
stop_step c (Turn until at ready stop) past k = absurd (true≢false k)
stop_step c (Closed q why) past k = let e = (or_parts (same_why why whys.Stopped) (same_why why whys.Memory) k).0 in λ i. e i || stop_said past
stop_step c act past k = refl

unfailed : (x f y : Bool) → (x && f) ≡ false → (f && (x || y)) ≡ (f && y)
unfailed true true y e = absurd (true≢false e)
unfailed true false y e = refl
unfailed false f y e = refl

door_step : (c : Config) (act : Act) (past : List Act) → is_common c act ≡ false → (has_fork c && accept_failed (act ∷ past) program_door) ≡ (has_fork c && accept_failed past program_door)
door_step c (AcceptFailed q) past k = unfailed (same_place q program_door) (has_fork c) (accept_failed past program_door) k
door_step c act past k = refl

pub write_step : (act : Act) (past : List Act) (i o : Place) → is_turn act ≡ false → is_at act i ≡ false → is_at act o ≡ false → asked_to_write (act ∷ past) i o ≡ asked_to_write past i o
write_step (Turn until at ready stop) past i o t x y = absurd (true≢false t)
write_step (Read q bytes) past i o t x y = λ j. not (x j) && asked_to_write past i o
write_step (Wrote q bytes) past i o t x y = λ j. y j || asked_to_write past i o
write_step (WriteNotYet q) past i o t x y = λ j. y j || asked_to_write past i o
write_step (WriteFault q) past i o t x y = λ j. y j || asked_to_write past i o
write_step act past i o t x y = refl

-- a peer of another session is accepted at another door
other_door : (c : Config) (s : ℕ) (q d : Place) → ((p : Place) → p.session ≡ s → is_program_door c p ≡ false → same_place q p ≡ false) → d.session ≡ s → is_program_door c d ≡ false → same_place (accepting_door c q) d ≡ false
other_door c s q d f e o = false_from_ne_true (same_place (accepting_door c q) d) (go (is_left q && has_fork c) refl)
  where
    go : (b : Bool) → (is_left q && has_fork c) ≡ b → same_place (cond b program_door (door_of q)) d ≡ true → ⊥
    go true k h = true≢false (sym (and_parts (is_left q) (has_fork c) k).1 ∙ ap (is_program_door c) (same_place_equal program_door d h) ∙ o)
    go false k h = true≢false (sym (same_place_self q) ∙ f q (ap (λ x. x.session) (same_place_equal (door_of q) d h) ∙ e) (own_door (same_side q.side Left) (same_part q.part Both) (same_bool q.door true) (q.session == 0) (has_fork c) k))

pub accept_step : (c : Config) (act : Act) (past : List Act) (s : ℕ) → IsForeign c s act → is_turn act ≡ false → (d : Place) → d.session ≡ s → is_program_door c d ≡ false → asked_to_accept c (act ∷ past) d ≡ asked_to_accept c past d
accept_step c (Turn until at ready stop) past s f t d e o = absurd (true≢false t)
accept_step c (Accepted q peer) past s f t d e o = let x = other_door c s q d f e o in λ i. x i || asked_to_accept c past d
accept_step c (NoPeer q) past s f t d e o = let x = f d e o in λ i. x i || asked_to_accept c past d
accept_step c (AcceptFailed q) past s f t d e o = let x = f d e o in λ i. x i || asked_to_accept c past d
accept_step c act past s f t d e o = refl

pub pieces_step : (c : Config) (act : Act) (past : List Act) (s : ℕ) → IsForeign c s act → (w : Way) → due_pieces c (act ∷ past) s w ≡ due_pieces c past s w
pieces_step c act past s f w = due_pieces_left act past c s w (and_right (reads_bytes act) (is_at act (input c s w)) (f (input c s w) refl (input_own c s w)))

pub base_step : (c : Config) (act : Act) (past : List Act) (s : ℕ) → IsForeign c s act → is_common c act ≡ false → Base c s (act ∷ past) past
base_step c act past s f k = record {
  own = λ p e d. elsewhere act past p (turn_step c act k) (f p e d);
  now_same = now_step c act past k;
  memory_same = memory_step c act past k;
  stop_same = stop_step c act past k;
  door_same = door_step c act past k;
  closed_same = closed_step c act past s f;
  moved_same = moved_step c act past s f;
}

-- the count of permitted peers may rise, but not past a session that has begun
admitted_more : (s m : ℕ) (b : Bool) → s < m → nat_lt s (one_more b m) ≡ nat_lt s m
admitted_more s m true h = lt-ltb s (suc m) (omega (arith, h)) ∙ sym (lt-ltb s m h)
admitted_more s m false h = refl

admitted_step : (c : Config) (act : Act) (past : List Act) (s : ℕ) → s < admitted c past → nat_lt s (admitted c (act ∷ past)) ≡ nat_lt s (admitted c past)
admitted_step c (Accepted p peer) past s h = admitted_more s (admitted c past) (is_admission c p peer) h
admitted_step c act past s h = refl

life_same : (fork : Bool) (s m n : ℕ) (x y : Bool) → (s < n → nat_lt s m ≡ nat_lt s n) → x ≡ y → s < cond fork n 1 → cond fork (nat_lt s m && x) (s == 0) ≡ cond fork (nat_lt s n && y) (s == 0)
life_same true s m n x y f e h = let g = f h in λ i. g i && e i
life_same false s m n x y f e h = refl

-- what is said of a session is made of what is said of its own
pub session_same :
    (c : Config) (s : ℕ) (a b : List Act) → Base c s a b → live c a s ≡ live c b s →
    ((w : Way) → asked_to_write a (input c s w) (output c s w) ≡ asked_to_write b (input c s w) (output c s w)) →
    ((d : Place) → d.session ≡ s → is_program_door c d ≡ false → asked_to_accept c a d ≡ asked_to_accept c b d) →
    ((w : Way) → due_pieces c a s w ≡ due_pieces c b s w) →
    SameSession c s a b
session_same c s a b base l written accepted pieces =
    let r = readiness_same c s a b base in
    let e = ending_same c s a b base in
    let o = first_call_same c s a b base (places c s) (each_place c s) in
    let calling : call c a s ≡ call c b s = λ i. cond (l i && is_none (e i)) (o i) Nothing in
    let run : running c a s ≡ running c b s = λ i. l i && r i && is_none (e i) in
    record {
      places_same = base.own;
      holds_same = holding_same c s a b base;
      live_same = l;
      ready_same = r;
      cause_same = e;
      call_same = calling;
      running_same = run;
      moved_same = base.moved_same;
      closing_moment_same = closing_same c s a b base;
      idle_moment_same = idle_same c s a b base;
      session_work_same = work_same c s a b base run calling;
      session_moment_same = moment_same c s a b base run calling;
      asked_to_write_same = written;
      asked_to_accept_same = accepted;
      pieces_same = pieces;
    }

pub apart : (c : Config) (act : Act) (past : List Act) (s : ℕ) → s < numbers c past → IsForeign c s act → is_common c act ≡ false → SameSession c s (act ∷ past) past
apart c act past s begun f k =
    let base = base_step c act past s f k in
    let l = life_same (has_fork c) s (admitted c (act ∷ past)) (admitted c past) (holds c (act ∷ past) s) (holds c past s) (admitted_step c act past s) (holding_same c s (act ∷ past) past base) begun in
    session_same c s (act ∷ past) past base l
    (λ w. write_step act past (input c s w) (output c s w) (turn_step c act k) (f (input c s w) refl (input_own c s w)) (f (output c s w) refl (output_own c s w)))
    (accept_step c act past s f (turn_step c act k))
    (pieces_step c act past s f)

-- a session that has begun lives where it holds something
life_begun : (fork : Bool) (s m n : ℕ) (x y : Bool) → x ≡ y → s < cond fork m 1 → s < cond fork n 1 → cond fork (nat_lt s m && x) (s == 0) ≡ cond fork (nat_lt s n && y) (s == 0)
life_begun true s m n x y e h k = let g = lt-ltb s m h ∙ sym (lt-ltb s n k) in λ i. g i && e i
life_begun false s m n x y e h k = refl

pub session_begun :
    (c : Config) (s : ℕ) (a b : List Act) → s < numbers c a → s < numbers c b → Base c s a b →
    ((w : Way) → asked_to_write a (input c s w) (output c s w) ≡ asked_to_write b (input c s w) (output c s w)) →
    ((d : Place) → d.session ≡ s → is_program_door c d ≡ false → asked_to_accept c a d ≡ asked_to_accept c b d) →
    ((w : Way) → due_pieces c a s w ≡ due_pieces c b s w) →
    SameSession c s a b
session_begun c s a b h k base = session_same c s a b base (life_begun (has_fork c) s (admitted c a) (admitted c b) (holds c a s) (holds c b s) (holding_same c s a b base) h k)
