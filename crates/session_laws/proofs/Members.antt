-- Sessions that wait, that are awake, and that leave, while others act.
use Rattle.std.proofs.Common.{◌≡◌, refl, sym, ap, subst, ◌∙◌, ℕ, ◌<◌, ◌≤◌, ◌⊎◌, inl, inr, Bool, true, false, List, [], ◌∷◌, Option, Some, None, arith}
use Rattle.std.proofs.lemmas.Bool.{cases_eq}
use Rattle.relay_model.specs.declared.commands.Config.{Config}
use Rattle.relay_model.specs.declared.places.Place.{Place}
use Rattle.relay_model.specs.declared.readiness.ReadyAt.{ReadyAt}
use Rattle.relay_model.specs.declared.acts.Why.{Why}
use Rattle.relay_model.specs.declared.acts.Why.TheVariants as whys
use Rattle.relay_model.specs.declared.acts.Act.{Act}
use Rattle.relay_model.specs.declared.acts.Act.TheVariants.{Turn, AcceptFailed, Closed}
use Rattle.relay_model.specs.Readiness.{Listed}
use Rattle.relay_model.specs.Configs.{has_fork, program_door}
use Rattle.relay_model.specs.History.{now, turns, memory_said, stop_said}
use Rattle.relay_model.specs.Sessions.{numbers}
use Rattle.relay_model.specs.Cause.{cause, closed_why}
use Rattle.relay_model.specs.Rest.{SessionRests}
use Rattle.relay_model.specs.Frames.{IsForeign, is_common}
use Rattle.relay_laws.proofs.Elsewhere.{elsewhere}
use Rattle.session_direction.specs.Directions.{listed}
use Rattle.relay_laws.specs.Stories.{own_entries}
use Rattle.relay_laws.proofs.Apart.{closed_step}
use Rattle.relay_session.specs.declared.sessions.Session.{Session}
use Rattle.relay_session.specs.declared.wishes.Wish.TheVariants as wishes
use Rattle.relay_session.specs.States.{Sleeps, Wished}
use Rattle.relay_session.specs.Timers.{session_until}
use Rattle.relay_session.specs.Sessions.{Stands, Hears, IsGrounded, Leaver, wish_of, ending_of}
use Rattle.relay_session.proofs.Lives.{asleep as unended}
use Rattle.relay_session.proofs.Plans.{quiet_while}
use Rattle.relay_laws.specs.Sleeps.{Since, just, foreign, quiet, IsQuiet, IsBefore, RestsUntil}
use Rattle.relay_laws.proofs.Slept.{still_begun, same_turns, begun_step, passes, session_alike}
use Rattle.relay_laws.proofs.Resting.{sleeps_on}
use Rattle.session_laws.proofs.Others.{stands_kept, hears_kept, late_kept, sleeps_rest}
use Rattle.session_laws.proofs.Grounds.{Near, ground_near}
use Rattle.session_laws.proofs.Ending.{spreads, stops, forgets}
use Rattle.session_driver.proofs.Doors.{door_apart}
use Rattle.session_laws.specs.SessionSets.{Sleeper, Waker, Woke, IsSaid, MaySay}

-- ---- sleep

pub asleep : (c : Config) (n : ℕ) (past : List Act) (s : ℕ) (until : Option ℕ) (x : Session) → Stands c n past s x → wish_of x ≡ wishes.Sleep until → Sleeper c n past s until (turns past) x
asleep c n past s until x st w = record { slept = past; begun = st.fields.ground.begun; stands = st; wish = w; since = just; turn_is = refl }

pub through_acts : (c : Config) (n : ℕ) (act : Act) (past : List Act) (s : ℕ) (until : Option ℕ) (turn : ℕ) (x : Session) → IsForeign c s act → is_common c act ≡ false → Sleeper c n past s until turn x → Sleeper c n (act ∷ past) s until turn x
through_acts c n act past s until turn x f k o = record { slept = o.slept; begun = o.begun; stands = o.stands; wish = o.wish; since = foreign act past f k o.since; turn_is = o.turn_is }

pub through_turns : (c : Config) (n : ℕ) (wait : Option ℕ) (at : ℕ) (ready : Listed) (stop : Bool) (past : List Act) (s : ℕ) (until : Option ℕ) (turn : ℕ) (x : Session) → IsQuiet c s until past at ready.entries stop → Sleeper c n past s until turn x → Sleeper c n (Turn wait at ready stop ∷ past) s until turn x
through_turns c n wait at ready stop past s until turn x q o = record { slept = o.slept; begun = o.begun; stands = o.stands; wish = o.wish; since = quiet wait at ready stop past q o.since; turn_is = o.turn_is }

pub wakes : (c : Config) (n : ℕ) (wait : Option ℕ) (at : ℕ) (past : List Act) (s : ℕ) (until : Option ℕ) (turn : ℕ) (old new : Session) → Sleeper c n past s until turn old → Woke c n s at old new → Hears c n (Turn wait at (listed []) false ∷ past) s new
wakes c n wait at past s until turn old new o woke = hears_kept c n s until o.slept past wait until at (listed []) (listed []) false new o.begun o.since refl (woke o.slept until o.stands o.wish)

pub others_named : (c : Config) (n : ℕ) (wait : Option ℕ) (at : ℕ) (names more : List ReadyAt) (past : List Act) (s : ℕ) (x : Session) → own_entries c s more ≡ own_entries c s names → Hears c n (Turn wait at (listed names) false ∷ past) s x → Hears c n (Turn wait at (listed more) false ∷ past) s x
others_named c n wait at names more past s x e h = hears_kept c n s None past past wait wait at (listed more) (listed names) false x h.stands.fields.ground.begun just e h

-- ---- a session that waits and that no turn passed over stands for now

-- nothing has ended a session that wishes to sleep
unended_asleep : (c : Config) (n : ℕ) (past : List Act) (s : ℕ) (until : Option ℕ) (x : Session) → Stands c n past s x → wish_of x ≡ wishes.Sleep until → ending_of x ≡ None
unended_asleep c n past s until x st w = unended c n past s x.state x.wish until st.allowed w

caused_as : (c : Config) (n : ℕ) (past : List Act) (s : ℕ) (x : Session) → Stands c n past s x → ending_of x ≡ None → ending_of x ≡ cause c past s
caused_as c n past s x st e = e ∙ sym (quiet_while c n past s x.state.ending st.fields.ending_is e).1

pub awake_asleep : (c : Config) (n : ℕ) (past : List Act) (s : ℕ) (until : Option ℕ) (x : Session) → Stands c n past s x → wish_of x ≡ wishes.Sleep until → Waker c n past s x
awake_asleep c n past s until x st w =
    let e = unended_asleep c n past s until x st w in
    record { stands = st; ending = caused_as c n past s x st e; unclosed = (quiet_while c n past s x.state.ending st.fields.ending_is e).0.unclosed }

-- since then the session stands for what came, where only others acted
pub record StillStands (c : Config) (n : ℕ) (slept past : List Act) (s : ℕ) (x : Session) : Type 0 where
  pub stands : Stands c n past s x
  pub now_same : now past ≡ now slept
  pub turns_same : turns past ≡ turns slept

now_kept : (c : Config) (act : Act) (past : List Act) → is_common c act ≡ false → now (act ∷ past) ≡ now past
now_kept c (Turn until at ready stop) past k = let x : ⊥ = cc in absurd x
now_kept c act past k = refl

pub turns_grow : (c : Config) (s : ℕ) (until : Option ℕ) (slept past : List Act) → Since c s until slept past → turns slept ≤ turns past
turns_grow c s until slept all just = omega arith
turns_grow c s until slept all (foreign act past f k h) = let x = turns_grow c s until slept past h in let e = same_turns c act past k in omega (arith, x, e)
turns_grow c s until slept all (quiet wait at ready stop past q h) = let x = turns_grow c s until slept past h in omega (arith, x)

-- no turn came since, by the number of turns
pub by_turns : (c : Config) (n s : ℕ) (until : Option ℕ) (slept past : List Act) (x : Session) → Stands c n slept s x → wish_of x ≡ wishes.Sleep until → s < numbers c slept → Since c s until slept past → turns past ≤ turns slept → StillStands c n slept past s x
by_turns c n s until slept all x st w b just few = record { stands = st; now_same = refl; turns_same = refl }
by_turns c n s until slept all x st w b (foreign act past f k h) few =
    let e = same_turns c act past k in
    let r = by_turns c n s until slept past x st w b h (omega (arith, few, e)) in
    record {
      stands = stands_kept c n act past s x (still_begun c s until slept past h b) (inr (awake_asleep c n past s until x r.stands w).ending) f k r.stands;
      now_same = now_kept c act past k ∙ r.now_same;
      turns_same = e ∙ r.turns_same;
    }
by_turns c n s until slept all x st w b (quiet wait at ready stop past q h) few = let g = turns_grow c s until slept past h in absurd (omega (arith, few, g))

-- nor where it waits until the moment at which it fell asleep
at_once : (c : Config) (n s : ℕ) (until : Option ℕ) (slept past : List Act) (x : Session) → until ≡ Some (now slept) → Stands c n slept s x → wish_of x ≡ wishes.Sleep until → s < numbers c slept → Since c s until slept past → StillStands c n slept past s x
at_once c n s until slept all x u st w b just = record { stands = st; now_same = refl; turns_same = refl }
at_once c n s until slept all x u st w b (foreign act past f k h) =
    let r = at_once c n s until slept past x u st w b h in
    record {
      stands = stands_kept c n act past s x (still_begun c s until slept past h b) (inr (awake_asleep c n past s until x r.stands w).ending) f k r.stands;
      now_same = now_kept c act past k ∙ r.now_same;
      turns_same = same_turns c act past k ∙ r.turns_same;
    }
at_once c n s until slept all x u st w b (quiet wait at ready stop past q h) =
    let r = at_once c n s until slept past x u st w b h in
    let early : at < now slept = subst (IsBefore at) u q.before in
    let later = q.forward in
    let same = r.now_same in
    absurd (omega (arith, early, later, same))

-- ---- rest

is_sleep : (c : Config) (n : ℕ) (past : List Act) (s : ℕ) (until : Option ℕ) (x : Session) → Stands c n past s x → wish_of x ≡ wishes.Sleep until → Sleeps c past s until
is_sleep c n past s until x st w = subst (Wished c n past s) w st.allowed.0

until_is : (c : Config) (past : List Act) (s : ℕ) (until : Option ℕ) → RestsUntil c past s until → session_until c past s ≡ until
until_is c past s until r = rw r.no_work r.moment_is

same_until : (until : Option ℕ) (at : ℕ) → (until ≡ Some at) ⊎ (until ≡ Some at → ⊥)
same_until None at = inr (λ e. let x : ⊥ = cc in x)
same_until (Some m) at = go (cases_eq m at)
  where
    go : (m ≡ at) ⊎ (m ≡ at → ⊥) → (Some m ≡ Some at) ⊎ (Some m ≡ Some at → ⊥)
    go (inl e) = inl (ap Some e)
    go (inr f) = inr (λ e. f (let x : m ≡ at = cc in x))

pub resting : (c : Config) (n : ℕ) (past : List Act) (s : ℕ) (until : Option ℕ) (turn : ℕ) (x : Session) → Sleeper c n past s until turn x → SessionRests c past s × (session_until c past s ≡ until)
resting c n past s until turn x o = go (same_until until (now o.slept))
  where
    go : (until ≡ Some (now o.slept)) ⊎ (until ≡ Some (now o.slept) → ⊥) → SessionRests c past s × (session_until c past s ≡ until)
    go (inl u) =
        let r = at_once c n s until o.slept past x u o.stands o.wish o.begun o.since in
        let k = is_sleep c n past s until x r.stands o.wish in
        (k.rests, sym k.until_is)
    go (inr u) =
        let r = sleeps_on c s until o.slept past o.begun (sleeps_rest c o.slept s until (is_sleep c n o.slept s until x o.stands o.wish) u) o.since in
        (r.rests_until.rests, until_is c past s until r.rests_until)

-- ---- awake

pub awake : (c : Config) (n : ℕ) (past : List Act) (s : ℕ) (x : Session) → Hears c n past s x → Waker c n past s x
awake c n past s x h = record { stands = h.stands; ending = h.heeds.ending_is; unclosed = h.heeds.quiet.unclosed }

pub late : (c : Config) (n : ℕ) (past : List Act) (s : ℕ) (until : Option ℕ) (turn : ℕ) (old new : Session) → Sleeper c n past s until turn old → turn < turns past → Woke c n s (now past) old new → Waker c n past s new
late c n past s until turn old new o l woke =
    let e = o.turn_is in
    awake c n past s new (late_kept c n s until o.slept past until (listed []) new o.begun o.since (omega (arith, l, e)) refl (woke o.slept until o.stands o.wish))

pub early : (c : Config) (n : ℕ) (past : List Act) (s : ℕ) (until : Option ℕ) (turn : ℕ) (x : Session) → Sleeper c n past s until turn x → turns past ≤ turn → Waker c n past s x
early c n past s until turn x o l =
    let e = o.turn_is in
    awake_asleep c n past s until x (by_turns c n s until o.slept past x o.stands o.wish o.begun o.since (omega (arith, l, e))).stands o.wish

cause_kept : (c : Config) (act : Act) (past : List Act) (s : ℕ) → s < numbers c past → IsForeign c s act → is_common c act ≡ false → cause c (act ∷ past) s ≡ cause c past s
cause_kept c act past s b f k = (session_alike c s (act ∷ past) past (begun_step c act past s b) b (passes c s act past f k)).cause_same

pub stays : (c : Config) (n : ℕ) (act : Act) (past : List Act) (s : ℕ) (x : Session) → IsForeign c s act → is_common c act ≡ false → Waker c n past s x → Waker c n (act ∷ past) s x
stays c n act past s x f k w =
    let b = w.stands.fields.ground.begun in
    record {
      stands = stands_kept c n act past s x b (inr w.ending) f k w.stands;
      ending = w.ending ∙ sym (cause_kept c act past s b f k);
      unclosed = closed_step c act past s f ∙ w.unclosed;
    }

-- a failed accepting at the program door is at no thing of a session
accept_near : (c : Config) (s : ℕ) (past : List Act) → s < numbers c past → IsForeign c s (AcceptFailed program_door) → Near c s (AcceptFailed program_door ∷ past) past
accept_near c s past b f = record {
  begun = b;
  unclosed = λ u. u;
  own = λ p e d. elsewhere (AcceptFailed program_door) past p refl (f p e d);
  now_same = refl;
  moved_same = refl;
  written = λ w. refl;
  accepted = λ d e o. rw (f d e o) refl;
  pieces = λ w. refl;
}

pub accept_ends : (c : Config) (n : ℕ) (past : List Act) (s : ℕ) (x : Session) → has_fork c ≡ true → memory_said past ≡ false → stop_said past ≡ false → Waker c n past s x →
    IsGrounded c (AcceptFailed program_door ∷ past) s x × (cause c (AcceptFailed program_door ∷ past) s ≡ Some whys.AcceptFailed) × (closed_why c (AcceptFailed program_door ∷ past) s ≡ None)
accept_ends c n past s x fork m t w =
    let g = w.stands.fields.ground in (
      ground_near c s (AcceptFailed program_door ∷ past) past x.state (accept_near c s past g.begun (door_apart c s (AcceptFailed program_door) fork (λ p. refl))) g,
      rw (w.unclosed, m, t, fork) refl,
      w.unclosed,
    )

-- ---- leaving

said_now : (c : Config) (past : List Act) (s : ℕ) (q : Place) (why : Why) → MaySay why past → IsForeign c s (Closed q why) → closed_why c past s ≡ None → cause c (Closed q why ∷ past) s ≡ Some why
said_now c past s q whys.Memory m f u = forgets c past s q f u
said_now c past s q whys.Stopped m f u = stops c past s q f u m
said_now c past s q why m f u = absurd m

pub closings_leave : (c : Config) (n : ℕ) (past : List Act) (s : ℕ) (q : Place) (why : Why) (x : Session) → IsForeign c s (Closed q why) → MaySay why past → Leaver c n past s why x → Leaver c n (Closed q why ∷ past) s why x
closings_leave c n past s q why x f m o = record {
  stands = spreads c n past s q why x o.stands.fields.ground.begun f o.ending (said_now c past s q why m f o.unclosed) o.stands;
  ending = o.ending;
  unclosed = closed_step c (Closed q why) past s f ∙ o.unclosed;
}

cause_said : (c : Config) (past : List Act) (s : ℕ) (why : Why) → IsSaid why past → closed_why c past s ≡ None → cause c past s ≡ Some why
cause_said c past s whys.Memory m u = rw (u, m) refl
cause_said c past s whys.Stopped m u = rw (u, m.1, m.0) refl
cause_said c past s why m u = absurd m

pub acts_leave : (c : Config) (n : ℕ) (act : Act) (past : List Act) (s : ℕ) (why : Why) (x : Session) → IsForeign c s act → is_common c act ≡ false → IsSaid why past → Leaver c n past s why x → Leaver c n (act ∷ past) s why x
acts_leave c n act past s why x f k m o =
    let b = o.stands.fields.ground.begun in
    record {
      stands = stands_kept c n act past s x b (inr (o.ending ∙ sym (cause_said c past s why m o.unclosed))) f k o.stands;
      ending = o.ending;
      unclosed = closed_step c act past s f ∙ o.unclosed;
    }
