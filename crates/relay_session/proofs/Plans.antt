-- What a state wishes for, from what it tells of the history.
use Rattle.std.proofs.Common.{◌≡◌, refl, sym, ap, subst, ◌∙◌, ℕ, Bool, true, false, cond, List, [], ◌∷◌, Option, Some, None, is_none, ◌&&◌, inl, inr}
use Rattle.std.proofs.lemmas.Bool.{false≢true}
use Rattle.relay_model.specs.declared.places.Place.{Place}
use Rattle.relay_model.specs.declared.places.Way.{Way}
use Rattle.relay_model.specs.declared.commands.Config.{Config}
use Rattle.relay_model.specs.declared.acts.Act.{Act}
use Rattle.relay_model.specs.declared.acts.Why.{Why}
use Rattle.relay_model.specs.declared.acts.Why.TheVariants as whys
use Rattle.relay_model.specs.Choices.{only_if, or_else, first_some, earlier, later}
use Rattle.relay_model.specs.Configs.{places}
use Rattle.relay_model.specs.History.{now}
use Rattle.relay_model.specs.Arming.{asked_to_accept}
use Rattle.relay_model.specs.Moments.{closing_moment, idle_moment}
use Rattle.relay_model.specs.Openings.{first_call, ready}
use Rattle.relay_model.specs.declared.calls.Call.{Call}
use Rattle.relay_model.specs.declared.calls.Call.TheVariants.{Nothing, TryAt, Accept, Refuse, Serve}
use Rattle.relay_model.specs.Cause.{cause, closed_why, running}
use Rattle.relay_model.specs.Sessions.{live}
use Rattle.relay_model.specs.Calls.{call}
use Rattle.relay_model.specs.Rest.{timer_moment}
use Rattle.relay_model.specs.Laws.{Tells}
use Rattle.relay_model.specs.May.{by_refusal, by_service}
use Rattle.relay_laws.proofs.CallLemmas.{call_tells}
use Rattle.session_direction.specs.Directions.{WantsNothing}
use Rattle.relay_session.specs.declared.states.State.{State}
use Rattle.relay_session.specs.declared.wishes.Wish.{Wish}
use Rattle.relay_session.specs.declared.wishes.Wish.TheVariants as wishes
use Rattle.relay_session.specs.Endings.{Quiet, giving_up, cause_when_tried, Ends, EndingIs}
use Rattle.relay_session.specs.Timers.{session_until}
use Rattle.relay_session.specs.Lanes.{LanesWish}
use Rattle.relay_session.specs.States.{Ground, Fields, Closes, ClosesFor, Sleeps, Allowed}
use Rattle.relay_session.proofs.Causes.{cause_of_quiet, own_session}
use Rattle.relay_session.proofs.Homes.{lives_at_home, called_here}
use Rattle.relay_session.proofs.Own.{NamesOwn, names_own, ready_calls}
use Rattle.relay_session.proofs.Rests.{running_of, not_running, rests_unready, rests_running, until_unready}

-- ---- the cause

pub gives_up : (c : Config) (past : List Act) (s : ℕ) (g : Option Why) (why : Why) → Quiet c past s → g ≡ giving_up c past s → g ≡ Some why → Some why ≡ cause c past s
gives_up c past s g why q e f = ap (λ o. or_else o (cause_when_tried c past s)) (sym (sym e ∙ f)) ∙ sym (cause_of_quiet c past s q)

pub goes_on : (c : Config) (past : List Act) (s : ℕ) (g r : Option Why) → Quiet c past s → g ≡ giving_up c past s → g ≡ None → r ≡ cause_when_tried c past s → r ≡ cause c past s
goes_on c past s g r q e f h = h ∙ (ap (λ o. or_else o (cause_when_tried c past s)) (sym (sym e ∙ f)) ∙ sym (cause_of_quiet c past s q))

pub by_closing : (p t i : Bool) → p ≡ false → t ≡ true → Some whys.ClosingTime ≡ first_some (only_if p whys.Finished ∷ only_if t whys.ClosingTime ∷ only_if i whys.Idle ∷ [])
by_closing p t i e f = rw (e, f) refl

pub by_idle : (p t i : Bool) → p ≡ false → t ≡ false → i ≡ true → Some whys.Idle ≡ first_some (only_if p whys.Finished ∷ only_if t whys.ClosingTime ∷ only_if i whys.Idle ∷ [])
by_idle p t i e f g = rw (e, f, g) refl

pub by_none : (p t i : Bool) → p ≡ false → t ≡ false → i ≡ false → None ≡ first_some (only_if p whys.Finished ∷ only_if t whys.ClosingTime ∷ only_if i whys.Idle ∷ [])
by_none p t i e f g = rw (e, f, g) refl

pub timer_of : (c : Config) (past : List Act) (s : ℕ) → running c past s ≡ true → earlier (later (now past) (closing_moment c past s)) (later (now past) (idle_moment c past s)) ≡ timer_moment c past s
timer_of c past s runs = go (running c past s) runs
  where
    go : (b : Bool) → b ≡ true → earlier (later (now past) (closing_moment c past s)) (later (now past) (idle_moment c past s)) ≡ cond b (earlier (later (now past) (closing_moment c past s)) (later (now past) (idle_moment c past s))) None
    go true e = refl
    go false e = absurd (false≢true e)

-- ---- whether it has ended

pub ends_of : (c : Config) (n : ℕ) (past : List Act) (s : ℕ) (e : Option Why) (why : Why) → EndingIs c n past s e → e ≡ Some why → Ends c n past s why
ends_of c n past s e why h f = subst (EndingIs c n past s) f h

pub quiet_while : (c : Config) (n : ℕ) (past : List Act) (s : ℕ) (e : Option Why) → EndingIs c n past s e → e ≡ None → Quiet c past s × (cause c past s ≡ None)
quiet_while c n past s e h f = subst (EndingIs c n past s) f h

-- ---- what is called for

-- a session of which nothing was closed that ends it lives
pub lives_by : (c : Config) (past : List Act) (s : ℕ) (st : State) → Ground c past s st → closed_why c past s ≡ None → live c past s ≡ true
lives_by c past s st g u = lives_at_home c past s g.begun (λ fork. g.home_held fork u)

pub called : (c : Config) (n : ℕ) (past : List Act) (s : ℕ) (st : State) → Fields c n past s st → st.ending ≡ None → call c past s ≡ first_call c past (places c s)
called c n past s st f e =
    let q = quiet_while c n past s st.ending f.ending_is e in
    let l = lives_by c past s st f.ground q.0.unclosed in
    let k = q.1 in
    λ i. cond (l i && is_none (k i)) (first_call c past (places c s)) Nothing

pub named : (c : Config) (past : List Act) (s : ℕ) (k : Call) → first_call c past (places c s) ≡ k → NamesOwn c s k
named c past s k e = subst (NamesOwn c s) e (names_own c past s)

pub told : (c : Config) (past : List Act) (s : ℕ) (k : Call) → call c past s ≡ k → Tells past k
told c past s k e = subst (Tells past) e (call_tells c past s)

pub refused : (c : Config) (n : ℕ) (past : List Act) (s : ℕ) (st : State) (p : Place) → Fields c n past s st → st.ending ≡ None → call c past s ≡ Refuse p → Closes c n past s p whys.Refused × ClosesFor c past s st.ending p whys.Refused
refused c n past s st p f e k =
    let own = (named c past s (Refuse p) (sym (called c n past s st f e) ∙ k)).of in (
      record {
        is_held = told c past s (Refuse p) k;
        own = own;
        licensed = by_refusal refl (called_here c past s (Refuse p) p f.ground.fit k refl (own_session c s p own));
      },
      subst (λ x. ClosesFor c past s x p whys.Refused) (sym e) (inl (refl, k)),
    )

pub served : (c : Config) (n : ℕ) (past : List Act) (s : ℕ) (st : State) (d : Place) → Fields c n past s st → st.ending ≡ None → call c past s ≡ Serve d → Closes c n past s d whys.Served × ClosesFor c past s st.ending d whys.Served
served c n past s st d f e k =
    let own = (named c past s (Serve d) (sym (called c n past s st f e) ∙ k)).of in (
      record {
        is_held = told c past s (Serve d) k;
        own = own;
        licensed = by_service refl (called_here c past s (Serve d) d f.ground.fit k refl (own_session c s d own));
      },
      subst (λ x. ClosesFor c past s x d whys.Served) (sym e) (inr (refl, k)),
    )

-- a session that calls for something isn't ready
unready : (c : Config) (past : List Act) (s : ℕ) (k : Call) → first_call c past (places c s) ≡ k → (k ≡ Nothing → ⊥) → ready c past s ≡ false
unready c past s k e never = go (ready c past s) refl
  where
    go : (b : Bool) → ready c past s ≡ b → b ≡ false
    go true r = absurd (never (sym e ∙ ready_calls c past (places c s) r))
    go false r = refl

awake : (c : Config) (past : List Act) (s : ℕ) → ready c past s ≡ false → (w : Way) → running c past s ≡ true → WantsNothing c past s w
awake c past s r w runs = absurd (false≢true (sym (not_running c past s r) ∙ runs))

pub sleeps_for_try : (c : Config) (n : ℕ) (past : List Act) (s : ℕ) (st : State) (m : ℕ) (until : Option ℕ) → Fields c n past s st → st.ending ≡ None → call c past s ≡ TryAt m → until ≡ later st.clock (Some m) → Sleeps c past s until
sleeps_for_try c n past s st m until f e k u =
    let q = quiet_while c n past s st.ending f.ending_is e in
    let r = unready c past s (TryAt m) (sym (called c n past s st f e) ∙ k) (λ x. cc) in
    record {
      rests = rests_unready c past s q.1 r (rw k refl) (rw k tt);
      until_is = u ∙ (ap (λ x. later x (Some m)) f.ground.clock_is ∙ sym (until_unready c past s r ∙ (rw k refl)));
      read_ahead = awake c past s r;
    }

pub sleeps_for_peer : (c : Config) (n : ℕ) (past : List Act) (s : ℕ) (st : State) (d p : Place) → Fields c n past s st → st.ending ≡ None → call c past s ≡ Accept d p → asked_to_accept c past d ≡ true → Sleeps c past s (Some st.clock)
sleeps_for_peer c n past s st d p f e k a =
    let q = quiet_while c n past s st.ending f.ending_is e in
    let r = unready c past s (Accept d p) (sym (called c n past s st f e) ∙ k) (λ x. cc) in
    record {
      rests = rests_unready c past s q.1 r (rw k refl) (rw k a);
      until_is = ap Some f.ground.clock_is ∙ sym (until_unready c past s r ∙ (rw k refl));
      read_ahead = awake c past s r;
    }

pub sleeps_unready : (c : Config) (n : ℕ) (past : List Act) (s : ℕ) (st : State) → Fields c n past s st → st.ending ≡ None → call c past s ≡ Nothing → ready c past s ≡ false → Sleeps c past s None
sleeps_unready c n past s st f e k r =
    let q = quiet_while c n past s st.ending f.ending_is e in
    record {
      rests = rests_unready c past s q.1 r (rw k refl) (rw k tt);
      until_is = sym (until_unready c past s r ∙ (rw k refl));
      read_ahead = awake c past s r;
    }

pub runs_of : (c : Config) (n : ℕ) (past : List Act) (s : ℕ) (st : State) → Fields c n past s st → st.ending ≡ None → ready c past s ≡ true → running c past s ≡ true
runs_of c n past s st f e r = let q = quiet_while c n past s st.ending f.ending_is e in running_of c past s (lives_by c past s st f.ground q.0.unclosed) r q.1

pub sleeps_running : (c : Config) (n : ℕ) (past : List Act) (s : ℕ) (st : State) (until : Option ℕ) → Fields c n past s st → st.ending ≡ None → call c past s ≡ Nothing → ((w : Way) → WantsNothing c past s w) → until ≡ session_until c past s → Sleeps c past s until
sleeps_running c n past s st until f e k want u =
    let q = quiet_while c n past s st.ending f.ending_is e in
    record {
      rests = rests_running c past s q.1 k (λ w. (want w).read_tried) (λ w. (want w).write_tried) (λ w. (want w).passed_on);
      until_is = u;
      read_ahead = λ w runs. want w;
    }

pub wish_allowed : (c : Config) (n : ℕ) (past : List Act) (s : ℕ) (st : State) (wish : Wish) → LanesWish c past s st.lanes (Some wish) → st.ending ≡ None → Allowed c n past s st wish
wish_allowed c n past s st (wishes.Read p at_most) h e = (h.0, (e, h.1))
wish_allowed c n past s st (wishes.Write p) h e = (h.0, (e, h.1))
wish_allowed c n past s st (wishes.Send p) h e = (h.0, (e, h.1))
wish_allowed c n past s st (wishes.Shut p how) h e = (h, e)
wish_allowed c n past s st (wishes.Open p) h e = absurd h
wish_allowed c n past s st (wishes.Settle p) h e = absurd h
wish_allowed c n past s st (wishes.Listen d) h e = absurd h
wish_allowed c n past s st (wishes.Accept d p) h e = absurd h
wish_allowed c n past s st (wishes.Close q why) h e = absurd h
wish_allowed c n past s st (wishes.Reap p) h e = absurd h
wish_allowed c n past s st (wishes.Sleep until) h e = absurd h
wish_allowed c n past s st (wishes.Done why) h e = absurd h
