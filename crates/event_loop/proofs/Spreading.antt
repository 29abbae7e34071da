-- When a closing of one session may end all others.
use Rattle.std.proofs.Common.{◌≡◌, refl, sym, ap, subst, ◌∙◌, ℕ, ◌<◌, ◌≤◌, ◌⊎◌, arith, inl, inr, Bool, true, false, ◌||◌, ◌&&◌, List, [], ◌∷◌, Option, Some, None, is_some, cond}
use Rattle.std.specs.List.{list_any}
use Rattle.std.proofs.lemmas.Bool.{true≢false, false≢true, or_parts, cases_lt}
use Rattle.relay_model.specs.declared.commands.Config.{Config}
use Rattle.relay_model.specs.declared.places.Place.{Place}
use Rattle.relay_model.specs.declared.acts.Act.{Act}
use Rattle.relay_model.specs.declared.acts.Act.TheVariants.{Turn, Closed}
use Rattle.relay_model.specs.declared.acts.Why.{Why}
use Rattle.relay_model.specs.declared.acts.Why.TheVariants as whys
use Rattle.relay_model.specs.Choices.{only_if, first_some}
use Rattle.relay_model.specs.Places.{same_place}
use Rattle.relay_model.specs.Configs.{is_of, things}
use Rattle.relay_model.specs.History.{now, now as moment, turns, held, memory_said, stop_said, same_why}
use Rattle.relay_model.specs.Moments.{closing_moment, idle_moment, reached}
use Rattle.relay_model.specs.Openings.{ready}
use Rattle.relay_model.specs.Cause.{cause, closed_why, is_end, accept_failed_for, listening_failed, opening_failed, faulted, finished}
use Rattle.relay_model.specs.Rest.{Rest}
use Rattle.relay_laws.proofs.PlaceLemmas.{same_place_equal}
use Rattle.relay_session.specs.declared.sessions.Session.{Session}
use Rattle.relay_session.specs.declared.wishes.Wish.TheVariants as wishes
use Rattle.relay_session.specs.Endings.{Ends, EndingIs}
use Rattle.relay_session.specs.States.{Allowed, ClosesFor}
use Rattle.relay_session.specs.Sessions.{Stands, IsGrounded, Leaver, wish_of, ending_of}
use Rattle.session_laws.specs.SessionSets.{Waker, Woke}
use Rattle.session_loop.specs.Pauses.{Spreads, ends_all}
use Rattle.event_loop.specs.Courses.{Unsaid}
use Rattle.event_loop.specs.declared.all_sessions.Row.{Row}
use Rattle.event_loop.specs.Rows.{Wakened, UpRow}
use Rattle.event_loop.specs.Endings.{MayLeave, MayLeaveThen, MayLeaveRow, LeavesRow, CutRow, RunsOut}

pub cut_none : (made at : ℕ) (why : Why) (s : ℕ) → CutRow made at why s None None
cut_none made at why s = tt

-- ---- what nothing has said

memory_closed : (c : Config) (past : List Act) (s : ℕ) → memory_said past ≡ false → closed_why c past s ≡ Some whys.Memory → ⊥
memory_closed c [] s m e = cc
memory_closed c (Closed q w ∷ past) s m e = let p = or_parts (same_why w whys.Memory) (memory_said past) m in go (is_of c s q && is_end q w) e p.0 (memory_closed c past s p.1)
  where
    go : (b : Bool) → cond b (Some w) (closed_why c past s) ≡ Some whys.Memory → same_why w whys.Memory ≡ false → (closed_why c past s ≡ Some whys.Memory → ⊥) → ⊥
    go true k n ih = let x : w ≡ whys.Memory = cc in true≢false (sym (ap (λ v. same_why v whys.Memory) x) ∙ n)
    go false k n ih = ih k
memory_closed c (act ∷ past) s m e = memory_closed c past s m e

stop_closed : (c : Config) (past : List Act) (s : ℕ) → stop_said past ≡ false → closed_why c past s ≡ Some whys.Stopped → ⊥
stop_closed c [] s m e = cc
stop_closed c (Turn until at list stop ∷ past) s m e = stop_closed c past s (or_parts stop (stop_said past) m).1 e
stop_closed c (Closed q w ∷ past) s m e = let p = or_parts (same_why w whys.Stopped) (stop_said past) m in go (is_of c s q && is_end q w) e p.0 (stop_closed c past s p.1)
  where
    go : (b : Bool) → cond b (Some w) (closed_why c past s) ≡ Some whys.Stopped → same_why w whys.Stopped ≡ false → (closed_why c past s ≡ Some whys.Stopped → ⊥) → ⊥
    go true k n ih = let x : w ≡ whys.Stopped = cc in true≢false (sym (ap (λ v. same_why v whys.Stopped) x) ∙ n)
    go false k n ih = ih k
stop_closed c (act ∷ past) s m e = stop_closed c past s m e

never_closed : (c : Config) (past : List Act) (s : ℕ) (why : Why) → ends_all why ≡ true → Unsaid past → closed_why c past s ≡ Some why → ⊥
never_closed c past s whys.Memory a u e = memory_closed c past s u.remembered e
never_closed c past s whys.Stopped a u e = stop_closed c past s u.unstopped e
never_closed c past s why a u e = false≢true a

apart : (one why : Why) → ends_all one ≡ false → ends_all why ≡ true → Some one ≡ Some why → ⊥
apart one why n a e = let x : one ≡ why = cc in true≢false (sym a ∙ sym (ap ends_all x) ∙ n)

never_alone : (a l o f g h i : Bool) (why : Why) → ends_all why ≡ true →
    first_some (only_if a whys.AcceptFailed ∷ only_if l whys.ListenFailed ∷ only_if o whys.OpenFailed ∷ only_if f whys.Faulted ∷ only_if g whys.Finished ∷ only_if h whys.ClosingTime ∷ only_if i whys.Idle ∷ []) ≡ Some why → ⊥
never_alone true l o f g h i why e k = apart whys.AcceptFailed why refl e k
never_alone false true o f g h i why e k = apart whys.ListenFailed why refl e k
never_alone false false true f g h i why e k = apart whys.OpenFailed why refl e k
never_alone false false false true g h i why e k = apart whys.Faulted why refl e k
never_alone false false false false true h i why e k = apart whys.Finished why refl e k
never_alone false false false false false true i why e k = apart whys.ClosingTime why refl e k
never_alone false false false false false false true why e k = apart whys.Idle why refl e k
never_alone false false false false false false false why e k = let x : ⊥ = cc in x

never_caused : (c : Config) (past : List Act) (s : ℕ) (why : Why) → ends_all why ≡ true → Unsaid past → cause c past s ≡ Some why → ⊥
never_caused c past s why a u e = go (closed_why c past s) refl
  where
    go : (k : Option Why) → closed_why c past s ≡ k → ⊥
    go (Some w) f = never_closed c past s why a u (f ∙ (rw f at e))
    go None f =
        let m = u.remembered in
        let t = u.unstopped in
        never_alone (accept_failed_for c past s) (listening_failed c past s) (opening_failed c past s) (faulted c past s) (finished c past s) (ready c past s && reached (closing_moment c past s) (now past)) (ready c past s && reached (idle_moment c past s) (now past)) why a (rw (f, m, t) at e)

-- ---- what a session that wishes for such a closing says

or_first : (a b : Bool) → a ≡ true → (a || b) ≡ true
or_first true b e = refl
or_first false b e = absurd (false≢true e)

pub or_second : (a b : Bool) → b ≡ true → (a || b) ≡ true
or_second true b e = refl
or_second false b e = e

held_among : (past : List Act) (q : Place) (ps : List Place) → list_any (same_place q) ps ≡ true → held past q ≡ true → list_any (held past) ps ≡ true
held_among past q [] among h = among
held_among past q (p ∷ ps) among h = go (same_place q p) refl among (held_among past q ps)
  where
    go : (b : Bool) → same_place q p ≡ b → (b || list_any (same_place q) ps) ≡ true → (list_any (same_place q) ps ≡ true → held past q ≡ true → list_any (held past) ps ≡ true) → (held past p || list_any (held past) ps) ≡ true
    go true e f ih = or_first (held past p) (list_any (held past) ps) (ap (held past) (sym (same_place_equal q p e)) ∙ h)
    go false e f ih = or_second (held past p) (list_any (held past) ps) (ih f h)

pub record SpreadTells (c : Config) (n : ℕ) (past : List Act) (s : ℕ) (why : Why) (x : Session) : Type 0 where
  pub may : MayLeave c n past s why x
  pub ends : RunsOut c n past why

unclosed_by_rest : (c : Config) (past : List Act) (s : ℕ) (q : Place) → is_of c s q ≡ true → held past q ≡ true → Rest c past → closed_why c past s ≡ None
unclosed_by_rest c past s q own h r = go (closed_why c past s) refl
  where
    go : (k : Option Why) → closed_why c past s ≡ k → closed_why c past s ≡ None
    go None f = f
    go (Some w) f =
        let caused : is_some (cause c past s) ≡ true = rw f refl in
        absurd (true≢false (sym (held_among past q (things c s) own h) ∙ (r.sessions s).ended caused))

closes_for : (c : Config) (past : List Act) (s : ℕ) (ending : Option Why) (q : Place) (why : Why) → ends_all why ≡ true → ClosesFor c past s ending q why → ending ≡ Some why
closes_for c past s None q why a (inl k) = absurd (apart whys.Refused why refl a (ap Some (sym k.0)))
closes_for c past s None q why a (inr k) = absurd (apart whys.Served why refl a (ap Some (sym k.0)))
closes_for c past s (Some end) q why a k = ap Some k

pub spread_tells : (c : Config) (n : ℕ) (past : List Act) (s : ℕ) (why : Why) (x : Session) → Unsaid past → Stands c n past s x → Spreads (wish_of x) why → SpreadTells c n past s why x
spread_tells c n past s why x u st (q, e, a) = by_ends (subst (EndingIs c n past s) (closes_for c past s x.state.ending q why a allowed.1) st.fields.ending_is)
  where
    allowed : Allowed c n past s x.state (wishes.Close q why)
    allowed = subst (Allowed c n past s x.state) e st.allowed

    with_none : closed_why c past s ≡ None → Ends c n past s why → RunsOut c n past why → SpreadTells c n past s why x
    with_none k ends run = record { may = record { grounded = st.fields.ground; ends = ends; unclosed = k }; ends = run }

    by_ends : Ends c n past s why → SpreadTells c n past s why x
    by_ends (inl k) = absurd (never_caused c past s why a u k)
    by_ends (inr (inl k)) = with_none k.1 (inr (inl k)) (inl k.0)
    by_ends (inr (inr k)) = with_none (unclosed_by_rest c past s q allowed.0.own allowed.0.is_held k.2) (inr (inr k)) (inr k)

-- then each session that is awake may be cut for the same reason
pub waker_may : (c : Config) (n : ℕ) (past : List Act) (s : ℕ) (why : Why) (x : Session) → RunsOut c n past why → Waker c n past s x → MayLeave c n past s why x
waker_may c n past s why x (inl e) w = record { grounded = w.stands.fields.ground; ends = inr (inl (e, w.unclosed)); unclosed = w.unclosed }
waker_may c n past s why x (inr e) w = record { grounded = w.stands.fields.ground; ends = inr (inr e); unclosed = w.unclosed }

pub up_may : (c : Config) (n : ℕ) (past : List Act) (s : ℕ) (why : Why) (timer : Option ℕ) (row : Option Row) → RunsOut c n past why → UpRow c n past s timer row → MayLeaveRow c n past s why row
up_may c n past s why timer None e r = r.0
up_may c n past s why timer (Some row) e r = record {
  current = λ h. waker_may c n past s why row.member.session e (r.current h);
  late = λ h new w. waker_may c n past s why new e (r.late h new w);
}

-- one that has heard the last turn
pub heard_may : (c : Config) (n : ℕ) (past : List Act) (s : ℕ) (why : Why) (row : Row) → row.turn ≡ turns past → MayLeave c n past s why row.member.session → MayLeaveThen c n past s why row
heard_may c n past s why row e m = record { current = λ h. m; late = λ h. absurd (omega (arith, h, e)) }

-- a row whose session was cut
pub row_cut : (made at : ℕ) (why : Why) (t : ℕ) (before after : Option Row) (x y z : Row) → before ≡ Some x → after ≡ Some z → Wakened made at x y → z.turn ≡ y.turn → ((c : Config) (n : ℕ) (past : List Act) (s : ℕ) → IsGrounded c past s y.member.session → Ends c n past s why → Stands c n past s z.member.session) → ending_of z.member.session ≡ Some why → z.member.dumper ≡ y.member.dumper → CutRow made at why t before after
row_cut made at why t before after x y z had has wakened same cut ending counts =
    subst (λ (r : Option Row). CutRow made at why t r after) (sym had)
    (subst (CutRow made at why t (Some x)) (sym has) (same ∙ wakened.turn_is, counts ∙ wakened.dumper_same, λ c n past e m may. leaves c n past (brought c n past e m may (cases_lt x.turn made))))
  where
    brought : (c : Config) (n : ℕ) (past : List Act) → turns past ≡ made → moment past ≡ at → MayLeaveThen c n past t why x → (x.turn < made) ⊎ (made ≤ x.turn) → MayLeave c n past t why y.member.session
    brought c n past e m may (inl b) = may.late (omega (arith, b, e)) y.member.session (subst (λ (k : ℕ). Woke c n t k x.member.session y.member.session) (sym m) (wakened.woken b c n t))
    brought c n past e m may (inr b) = subst (MayLeave c n past t why) (sym (wakened.kept b)) (may.current (omega (arith, b, e)))

    leaves : (c : Config) (n : ℕ) (past : List Act) → MayLeave c n past t why y.member.session → Leaver c n past t why z.member.session
    leaves c n past m = record { stands = cut c n past t m.grounded m.ends; ending = ending; unclosed = m.unclosed }

pub cut_leaves : (c : Config) (n : ℕ) (past : List Act) (made at : ℕ) (why : Why) (s : ℕ) (before after : Option Row) → turns past ≡ made → moment past ≡ at → CutRow made at why s before after → MayLeaveRow c n past s why before → LeavesRow c n past s why after
cut_leaves c n past made at why s None None e m cut may = may
cut_leaves c n past made at why s (Some old) (Some new) e m cut may = cut.2 c n past e m may
cut_leaves c n past made at why s None (Some new) e m cut may = absurd cut
cut_leaves c n past made at why s (Some old) None e m cut may = absurd cut
