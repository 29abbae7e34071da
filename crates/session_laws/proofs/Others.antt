-- Acts of others, and the turn that wakes a session.
use Rattle.std.proofs.Common.{◌≡◌, subst, ℕ, ◌<◌, Bool, false, List, ◌∷◌, Option, None, inl, inr, sym, [], refl, true, cond, Some}
use Rattle.relay_model.specs.declared.commands.Config.{Config}
use Rattle.relay_model.specs.declared.readiness.ReadyAt.{ReadyAt}
use Rattle.relay_model.specs.declared.acts.Act.{Act}
use Rattle.relay_model.specs.declared.acts.Act.TheVariants.{Turn}
use Rattle.relay_model.specs.Readiness.{Listed}
use Rattle.relay_model.specs.Sessions.{numbers}
use Rattle.relay_model.specs.Cause.{cause}
use Rattle.relay_model.specs.History.{now, turns}
use Rattle.relay_model.specs.Rest.{session_work, session_moment}
use Rattle.relay_model.specs.Frames.{IsForeign, is_common}
use Rattle.relay_laws.specs.Stories.{own_entries}
use Rattle.relay_laws.proofs.Alike.{seen, Alike, alike_turned, alike_joined}
use Rattle.relay_session.specs.declared.states.State.{State}
use Rattle.relay_session.specs.declared.sessions.Session.{Session}
use Rattle.relay_session.specs.States.{Ground, Sleeps}
use Rattle.relay_session.specs.Sessions.{Stands, Hears}
use Rattle.relay_laws.specs.Sleeps.{Since, tick, RestsUntil}
use Rattle.relay_laws.proofs.Slept.{passes, glimpsed, ticked_now, session_alike, begun_step, still_begun, summed, woken_alike}
use Rattle.session_laws.specs.Laws.{EndsByCause}
use Rattle.session_laws.proofs.Grounds.{ground_alike}
use Rattle.session_laws.proofs.Standing.{stands_alike, stands_along, hears_along}

pub ground_kept : (c : Config) (act : Act) (past : List Act) (s : ℕ) (st : State) → s < numbers c past → IsForeign c s act → is_common c act ≡ false → Ground c past s st → Ground c (act ∷ past) s st
ground_kept c act past s st b f k g = ground_alike c s (act ∷ past) past st (begun_step c act past s b) (passes c s act past f k) g

pub stands_kept : (c : Config) (n : ℕ) (act : Act) (past : List Act) (s : ℕ) (x : Session) → s < numbers c past → EndsByCause c n past s x → IsForeign c s act → is_common c act ≡ false → Stands c n past s x → Stands c n (act ∷ past) s x
stands_kept c n act past s x b (inl t) f k r =
    let a = passes c s act past f k in
    stands_alike c n s (act ∷ past) past x (record { alike = a; same = session_alike c s (act ∷ past) past (begun_step c act past s b) b a; begun = b; begun_here = begun_step c act past s b; turns_left = t }) r
stands_kept c n act past s x b (inr e) f k r =
    let a = passes c s act past f k in
    stands_along c n s (act ∷ past) past x a (session_alike c s (act ∷ past) past (begun_step c act past s b) b a) (begun_step c act past s b) b e r

-- two turns that name the same of the session
told_alike : (c : Config) (s : ℕ) (wait other : Option ℕ) (at : ℕ) (ready told : Listed) (stop : Bool) (past : List Act) → own_entries c s ready.entries ≡ own_entries c s told.entries → Alike c s (Turn wait at ready stop ∷ past) (Turn other at told stop ∷ past)
told_alike c s wait other at ready told stop past e =
    alike_joined c s (Turn wait at ready stop ∷ past) (seen c s (Turn other at told stop) ∷ past) (Turn other at told stop ∷ past)
    (subst (λ (x : List ReadyAt). Alike c s (Turn wait at ready stop ∷ past) (Turn None at (record { entries = x; room = 0 }) stop ∷ past)) e (glimpsed c s wait at ready stop past))
    (alike_turned c s (Turn other at told stop ∷ past) (seen c s (Turn other at told stop) ∷ past) (glimpsed c s other at told stop past))

-- a turn after a sleep, and the same turn with no sleep before it
woken_told : (c : Config) (s : ℕ) (until : Option ℕ) (slept past : List Act) (wait other : Option ℕ) (at : ℕ) (ready told : Listed) (stop : Bool) → Since c s until slept past → own_entries c s ready.entries ≡ own_entries c s told.entries → Alike c s (Turn wait at ready stop ∷ past) (Turn other at told stop ∷ slept)
woken_told c s until slept past wait other at ready told stop h e =
    alike_joined c s (Turn wait at ready stop ∷ past) (Turn wait at ready stop ∷ slept) (Turn other at told stop ∷ slept)
    (woken_alike c s until slept past wait at ready stop (summed c s until slept past h))
    (told_alike c s wait other at ready told stop slept e)

pub hears_kept : (c : Config) (n : ℕ) (s : ℕ) (until : Option ℕ) (slept past : List Act) (wait other : Option ℕ) (at : ℕ) (ready told : Listed) (stop : Bool) (x : Session) →
    s < numbers c slept → Since c s until slept past → own_entries c s ready.entries ≡ own_entries c s told.entries →
    Hears c n (Turn other at told stop ∷ slept) s x → Hears c n (Turn wait at ready stop ∷ past) s x
hears_kept c n s until slept past wait other at ready told stop x b h e r =
    let a = woken_told c s until slept past wait other at ready told stop h e in
    hears_along c n s (Turn wait at ready stop ∷ past) (Turn other at told stop ∷ slept) x a
    (session_alike c s (Turn wait at ready stop ∷ past) (Turn other at told stop ∷ slept) (still_begun c s until slept past h b) b a) (still_begun c s until slept past h b) b r

pub stopped_kept : (c : Config) (n : ℕ) (s : ℕ) (until : Option ℕ) (slept past : List Act) (wait other : Option ℕ) (at : ℕ) (ready told : Listed) (stop : Bool) (x : Session) →
    s < numbers c slept → Since c s until slept past → own_entries c s ready.entries ≡ own_entries c s told.entries →
    x.state.ending ≡ cause c (Turn other at told stop ∷ slept) s → Stands c n (Turn other at told stop ∷ slept) s x → Stands c n (Turn wait at ready stop ∷ past) s x
stopped_kept c n s until slept past wait other at ready told stop x b h e k r =
    let a = woken_told c s until slept past wait other at ready told stop h e in
    stands_along c n s (Turn wait at ready stop ∷ past) (Turn other at told stop ∷ slept) x a
    (session_alike c s (Turn wait at ready stop ∷ past) (Turn other at told stop ∷ slept) (still_begun c s until slept past h b) b a) (still_begun c s until slept past h b) b k r

pub late_kept : (c : Config) (n : ℕ) (s : ℕ) (until : Option ℕ) (slept past : List Act) (other : Option ℕ) (told : Listed) (x : Session) →
    s < numbers c slept → Since c s until slept past → turns slept < turns past → own_entries c s told.entries ≡ [] →
    Hears c n (Turn other (now past) told false ∷ slept) s x → Hears c n past s x
late_kept c n s until slept past other told x b h l e r =
    let a =
    alike_joined c s past (tick (now past) ∷ slept) (Turn other (now past) told false ∷ slept) (ticked_now c s until slept past l (summed c s until slept past h))
    (told_alike c s None other (now past) (record { entries = []; room = 0 }) told false slept (sym e)) in
    hears_along c n s past (Turn other (now past) told false ∷ slept) x a (session_alike c s past (Turn other (now past) told false ∷ slept) (still_begun c s until slept past h b) b a) (still_begun c s until slept past h b) b r

-- ---- from the wish to sleep

idle_until : (b : Bool) (until moment : Option ℕ) (at : ℕ) → until ≡ cond b (Some at) moment → (until ≡ Some at → ⊥) → (b ≡ false) × (moment ≡ until)
idle_until true until moment at e f = absurd (f e)
idle_until false until moment at e f = (refl, sym e)

pub sleeps_rest : (c : Config) (past : List Act) (s : ℕ) (until : Option ℕ) → Sleeps c past s until → (until ≡ Some (now past) → ⊥) → RestsUntil c past s until
sleeps_rest c past s until h f =
    let e = idle_until (session_work c past s) until (session_moment c past s) (now past) h.until_is f in
    record { rests = h.rests; no_work = e.0; moment_is = e.1 }
