-- With `fork`, a session is live while the place is held that its peer came to, and its own calls leave that place alone.
use Rattle.std.proofs.Common.{◌≡◌, refl, sym, ap, subst, ◌∙◌, ℕ, ◌<◌, Bool, true, false, not, cond, ◌&&◌, ◌||◌, ◌==◌, nat_lt, nat_le, is_none, List, [], ◌∷◌, ◌++◌, map, Option, Some, None, arith, inl, inr, ◌⊎◌}
use Rattle.std.specs.List.{list_any}
use Rattle.std.proofs.lemmas.Bool.{false≢true, true≢false, and_parts, not-true, lt-ltb, eq-eqb, false_from_ne_true}
use Rattle.relay_model.specs.declared.places.Side.{Side}
use Rattle.relay_model.specs.declared.places.Side.TheVariants.{Left, Right}
use Rattle.relay_model.specs.declared.places.Part.{Part}
use Rattle.relay_model.specs.declared.places.Part.TheVariants.{Reading, Writing}
use Rattle.relay_model.specs.declared.places.Place.{Place}
use Rattle.relay_model.specs.declared.commands.Config.{Config}
use Rattle.relay_model.specs.declared.commands.Address.{Address}
use Rattle.relay_model.specs.declared.commands.Address.TheVariants as addresses
use Rattle.relay_model.specs.declared.commands.Ways.{Ways}
use Rattle.relay_model.specs.declared.commands.Ways.TheVariants as ways
use Rattle.relay_model.specs.declared.acts.Act.{Act}
use Rattle.relay_model.specs.declared.acts.Act.TheVariants.{Accepted}
use Rattle.relay_model.specs.Choices.{one_more}
use Rattle.relay_model.specs.Places.{same_place, same_side, same_part, same_bool, door_of}
use Rattle.relay_model.specs.Configs.{Fit, fork_is_placed, forks, listens, single_for, places, own_doors, parts, parts_of, place_at, listens_at, has_own_door, options_of, has_fork, is_left}
use Rattle.relay_model.specs.History.{now, stage, held, holds_at, woken, failures}
use Rattle.relay_model.specs.declared.stages.Stage.{Stage}
use Rattle.relay_model.specs.declared.stages.Stage.TheVariants.{Untried, Unsettled, Failed, Met, Waiting}
use Rattle.relay_model.specs.Arming.{armed_to_accept}
use Rattle.relay_model.specs.Sessions.{permits, admitted, is_admission, numbers, live, holds, first_part}
use Rattle.relay_model.specs.Tries.{next_due}
use Rattle.relay_model.specs.Openings.{out_of_tries, when_due, try_again, is_ready, opening_call, listening_call, peer_call, place_call, first_call}
use Rattle.relay_model.specs.declared.calls.Call.{Call}
use Rattle.relay_model.specs.declared.calls.Call.TheVariants.{Nothing, TryAt, Open, Settle, Listen, Accept, Refuse, Serve}
use Rattle.relay_model.specs.Cause.{cause}
use Rattle.relay_model.specs.Calls.{call, called_at, door_call}
use Rattle.relay_model.specs.Frames.{is_at, is_turn}
use Rattle.relay_laws.proofs.Elsewhere.{elsewhere}
use Rattle.relay_session.specs.States.{home}

-- ---- a session that holds its home lives

or_first : (x y : Bool) → x ≡ true → (x || y) ≡ true
or_first true y e = refl
or_first false y e = absurd (false≢true e)

home_among : (f : Place → Bool) (s : ℕ) (w : Ways) (a : Address) (r d : List Place) → f (place_at s Left (first_part (parts_of w a Left))) ≡ true → list_any f ((map (place_at s Left) (parts_of w a Left) ++ r) ++ d) ≡ true
home_among f s ways.Two (addresses.One single) r d e = or_first (f (place_at s Left (first_part (parts_of ways.Two (addresses.One single) Left)))) (list_any f (r ++ d)) e
home_among f s ways.Two (addresses.Two reading writing) r d e = or_first (f (place_at s Left Reading)) (list_any f (place_at s Left Writing ∷ r ++ d)) e
home_among f s ways.OnlyRight a r d e = or_first (f (place_at s Left Reading)) (list_any f (r ++ d)) e
home_among f s ways.OnlyLeft a r d e = or_first (f (place_at s Left Writing)) (list_any f (r ++ d)) e

home_holds : (c : Config) (past : List Act) (s : ℕ) → held past (home c s) ≡ true → holds c past s ≡ true
home_holds c past s e = home_among (held past) s c.ways c.left (map (place_at s Right) (parts c Right)) (own_doors c s) e

pub lives_at_home : (c : Config) (past : List Act) (s : ℕ) → s < numbers c past → (has_fork c ≡ true → held past (home c s) ≡ true) → live c past s ≡ true
lives_at_home c past s b h = go (has_fork c) b (λ e. home_holds c past s (h e))
  where
    go : (f : Bool) → s < cond f (admitted c past) 1 → (f ≡ true → holds c past s ≡ true) → cond f (nat_lt s (admitted c past) && holds c past s) (s == 0) ≡ true
    go true b k = let x = lt-ltb s (admitted c past) b in let y = k refl in λ i. x i && y i
    go false b k = eq-eqb s 0 (omega (arith, b))

-- ---- a session that has begun stays one

more : (f b : Bool) (n s : ℕ) → s < cond f n 1 → s < cond f (one_more b n) 1
more true true n s h = omega arith
more true false n s h = h
more false b n s h = h

pub begun_after : (c : Config) (act : Act) (past : List Act) (s : ℕ) → s < numbers c past → s < numbers c (act ∷ past)
begun_after c (Accepted p peer) past s h = more (has_fork c) (is_admission c p peer) (admitted c past) s h
begun_after c act past s h = h

-- ---- a session's own calls are for no left place of a command with `fork`

-- the place is the program door's to call for
abbrev pub is_called_out : Config → Place → Bool
is_called_out c p = is_left p && has_fork c

abbrev pub Off : Config → Call → Type 0
Off c Nothing = Unit {0}
Off c (TryAt m) = Unit {0}
Off c (Open p) = is_called_out c p ≡ false
Off c (Settle p) = is_called_out c p ≡ false
Off c (Listen d) = is_called_out c d ≡ false
Off c (Accept d p) = (is_called_out c d ≡ false) × (is_called_out c p ≡ false)
Off c (Refuse p) = is_called_out c p ≡ false
Off c (Serve d) = is_called_out c d ≡ false

choice : (c : Config) (b : Bool) (one other : Call) → (b ≡ true → Off c one) → (b ≡ false → Off c other) → Off c (cond b one other)
choice c true one other t f = t refl
choice c false one other t f = f refl

due : (c : Config) (at : ℕ) (o : Option ℕ) (wanted : Call) → Off c wanted → Off c (when_due at o wanted)
due c at None wanted t = tt
due c at (Some m) wanted t = choice c (nat_le m at) wanted (TryAt m) (λ _. t) (λ _. tt)

again : (c : Config) (past : List Act) (p : Place) (wanted : Call) → Off c wanted → Off c (try_again c past p wanted)
again c past p wanted t = choice c (out_of_tries c past p) Nothing (when_due (now past) (next_due (options_of c p).tries.interval (failures past p)) wanted) (λ _. tt) (λ _. due c (now past) (next_due (options_of c p).tries.interval (failures past p)) wanted t)

opening : (c : Config) (past : List Act) (p : Place) (st : Stage) → is_called_out c p ≡ false → Off c (opening_call c past p st)
opening c past p Untried h = h
opening c past p Unsettled h = choice c (woken past p) (Settle p) Nothing (λ _. h) (λ _. tt)
opening c past p Failed h = again c past p (Open p) h
opening c past p st h = tt

listening : (c : Config) (past : List Act) (d p : Place) (st : Stage) → is_called_out c d ≡ false → is_called_out c p ≡ false → Off c (listening_call c past d p st)
listening c past d p Untried h k = h
listening c past d p Failed h k = again c past d (Listen d) h
listening c past d p Waiting h k = choice c (armed_to_accept past d) (Accept d p) Nothing (λ _. (h, k)) (λ _. tt)
listening c past d p st h k = tt

peer : (c : Config) (past : List Act) (p : Place) (st : Stage) → is_called_out c p ≡ false → Off c (peer_call c past p st)
peer c past p (Met met) k =
    choice c (permits c p met) (cond (held past (door_of p)) (Serve (door_of p)) Nothing) (Refuse p)
    (λ _. choice c (held past (door_of p)) (Serve (door_of p)) Nothing (λ _. k) (λ _. tt))
    (λ _. k)
peer c past p st k = listening c past (door_of p) p (stage past (door_of p)) k k

forked : (f l : Bool) → (not f || l) ≡ true → f ≡ true → l ≡ true
forked true l e g = e
forked false l e g = absurd (false≢true g)

-- `fork` stands on a left address that listens
fork_listens : (left right : Address) (part : Part) → fork_is_placed left right ≡ true → forks left ≡ true → listens (single_for left part).target ≡ true
fork_listens (addresses.One single) right part e f = forked single.options.sessions.fork (listens single.target) (and_parts (not single.options.sessions.fork || listens single.target) _ e).0 f
fork_listens (addresses.Two reading writing) right part e f = absurd (false≢true f)

pub left_listens : (c : Config) (side : Side) (part : Part) (s : ℕ) (d : Bool) → Fit c → same_side side Left ≡ true → has_fork c ≡ true → listens_at c (record { session = s; side = side; part = part; door = d }) ≡ true
left_listens c Left part s d fit e f = fork_listens c.left c.right part fit.fork f
left_listens c Right part s d fit e f = absurd (false≢true e)

pub unlistening_off : (c : Config) (p : Place) → Fit c → listens_at c p ≡ false → is_called_out c p ≡ false
unlistening_off c p fit e = false_from_ne_true (is_called_out c p) (λ h. let a = and_parts (is_left p) (has_fork c) h in false≢true (sym e ∙ left_listens c p.side p.part p.session p.door fit a.0 a.1))

place : (c : Config) (past : List Act) (p : Place) → Fit c → Off c (place_call c past p)
place c past p fit =
    choice c (has_own_door c p) (peer_call c past p (stage past p)) (cond (listens_at c p) Nothing (opening_call c past p (stage past p)))
    (λ e. peer c past p (stage past p) (not-true (is_called_out c p) (and_parts (listens_at c p) (not (is_called_out c p)) e).1))
    (λ _. choice c (listens_at c p) Nothing (opening_call c past p (stage past p)) (λ _. tt) (λ e. opening c past p (stage past p) (unlistening_off c p fit e)))

first : (c : Config) (past : List Act) (ps : List Place) → Fit c → Off c (first_call c past ps)
first c past [] fit = tt
first c past (p ∷ ps) fit = let ih = first c past ps fit in choice c (is_ready c past p) (first_call c past ps) (place_call c past p) (λ _. ih) (λ _. place c past p fit)

pub call_off : (c : Config) (past : List Act) (s : ℕ) → Fit c → Off c (call c past s)
call_off c past s fit = choice c (live c past s && is_none (cause c past s)) (first_call c past (places c s)) Nothing (λ _. first c past (places c s) fit) (λ _. tt)

-- ---- where a call is

-- the call names this thing
abbrev pub NamesThing : Call → Place → Type 0
NamesThing Nothing q = ⊥
NamesThing (TryAt m) q = ⊥
NamesThing (Open p) q = q ≡ p
NamesThing (Settle p) q = q ≡ p
NamesThing (Listen d) q = q ≡ d
NamesThing (Accept d p) q = (q ≡ d) ⊎ (q ≡ p)
NamesThing (Refuse p) q = q ≡ p
NamesThing (Serve d) q = q ≡ d

off_thing : (c : Config) (k : Call) (q : Place) → Off c k → NamesThing k q → is_called_out c q ≡ false
off_thing c Nothing q o n = absurd n
off_thing c (TryAt m) q o n = absurd n
off_thing c (Open p) q o n = ap (is_called_out c) n ∙ o
off_thing c (Settle p) q o n = ap (is_called_out c) n ∙ o
off_thing c (Listen d) q o n = ap (is_called_out c) n ∙ o
off_thing c (Accept d p) q o (inl n) = ap (is_called_out c) n ∙ o.0
off_thing c (Accept d p) q o (inr n) = ap (is_called_out c) n ∙ o.1
off_thing c (Refuse p) q o n = ap (is_called_out c) n ∙ o
off_thing c (Serve d) q o n = ap (is_called_out c) n ∙ o

pub called_off_thing : (c : Config) (past : List Act) (s : ℕ) (k : Call) (q : Place) → Fit c → call c past s ≡ k → NamesThing k q → is_called_out c q ≡ false
called_off_thing c past s k q fit e n = off_thing c k q (subst (Off c) e (call_off c past s fit)) n

pub called_here : (c : Config) (past : List Act) (s : ℕ) (k : Call) (q : Place) → Fit c → call c past s ≡ k → NamesThing k q → q.session ≡ s → called_at c past q ≡ k
called_here c past s k q fit e n own = ap (λ b. cond b (door_call c past) (call c past q.session)) (called_off_thing c past s k q fit e n) ∙ ap (call c past) own ∙ e

-- ---- what leaves the home as it is

not_left : (q : Place) (f : Bool) → (is_left q && f) ≡ false → f ≡ true → is_left q ≡ false
not_left q f e t = false_from_ne_true (is_left q) (λ l. true≢false (sym (λ i. l i && t i) ∙ e))

away_from : (c : Config) (s : ℕ) (q : Place) → is_called_out c q ≡ false → has_fork c ≡ true → same_place q (home c s) ≡ false
away_from c s q o f =
    let e = not_left q (has_fork c) o f in
    λ i. e i && same_part q.part (home c s).part && same_bool q.door false && q.session == s

pub held_away : (c : Config) (past : List Act) (s : ℕ) (k : Call) (q : Place) (act : Act) → Fit c → call c past s ≡ k → NamesThing k q → is_turn act ≡ false → ((p : Place) → same_place q p ≡ false → is_at act p ≡ false) → has_fork c ≡ true → held (act ∷ past) (home c s) ≡ held past (home c s)
held_away c past s k q act fit e n t at f = ap holds_at (elsewhere act past (home c s) t (at (home c s) (away_from c s q (called_off_thing c past s k q fit e n) f))).stage_same
