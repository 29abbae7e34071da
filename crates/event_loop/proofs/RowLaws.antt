-- What the row of a session says, while others act and once a turn has come.
use Rattle.std.proofs.Common.{◌≡◌, refl, sym, subst, ◌∙◌, ℕ, ◌<◌, ◌≤◌, ◌⊎◌, inl, inr, true, false, List, [], ◌∷◌, Option, Some, None, arith}
use Rattle.std.proofs.lemmas.Bool.{cases_lt, false≢true}
use Rattle.relay_model.specs.declared.commands.Config.{Config}
use Rattle.relay_model.specs.declared.acts.Act.{Act}
use Rattle.relay_model.specs.declared.acts.Act.TheVariants.{Turn}
use Rattle.relay_model.specs.Readiness.{Listed, copied_list}
use Rattle.relay_model.specs.History.{now as moment, turns}
use Rattle.relay_model.specs.Sessions.{live}
use Rattle.relay_model.specs.Frames.{IsForeign, is_common}
use Rattle.relay_laws.specs.Stories.{own_entries}
use Rattle.relay_session.proofs.Homes.{lives_at_home}
use Rattle.relay_laws.proofs.Slept.{passes, begun_step, session_alike, same_turns, still_begun, through}
use Rattle.session_driver.specs.Dumpers.{Counted}
use Rattle.session_laws.specs.SessionSets.{Sleeper, Waker, Woke}
use Rattle.session_laws.proofs.Members.{awake, awake_asleep, early, late as woken_late, stays, wakes, others_named, turns_grow}
use Rattle.fork_table.specs.Tables.{row_of}
use Rattle.event_loop.specs.declared.all_sessions.Sessions.{Sessions}
use Rattle.event_loop.specs.declared.all_sessions.Row.{Row}
use Rattle.event_loop.specs.Rows.{Has, Wakes, Wakened, RowIs, UpRow}
use Rattle.event_loop.specs.Courses.{RowOf, SameLists, timer_of}
use Rattle.event_loop.proofs.Counting.{counted_kept, counted_by}

pub now_kept : (c : Config) (act : Act) (past : List Act) → is_common c act ≡ false → moment (act ∷ past) ≡ moment past
now_kept c (Turn until at ready stop) past k = absurd (false≢true (sym k))
now_kept c act past k = refl

-- ---- acts of others

pub wakes_kept : (c : Config) (n : ℕ) (act : Act) (past : List Act) (s : ℕ) (row : Row) → IsForeign c s act → is_common c act ≡ false → Wakes c n past s row → Wakes c n (act ∷ past) s row
wakes_kept c n act past s row f k r =
    let b = begun_step c act past s r.begun in
    let e = same_turns c act past k in
    let m = now_kept c act past k in
    record {
      begun = b;
      lives = (session_alike c s (act ∷ past) past b r.begun (passes c s act past f k)).live_same ∙ r.lives;
      current = λ h. stays c n act past s row.member.session f k (r.current (omega (arith, h, e)));
      counted = counted_kept c act past s row.member.dumper f r.counted;
      late = λ h.
          let t = r.late (omega (arith, h, e)) in
          λ new w. stays c n act past s new f k (t new (subst (λ (at : ℕ). Woke c n s at row.member.session new) m w));
    }

-- ---- awake, or asleep

pub awake_wakes : (c : Config) (n : ℕ) (past : List Act) (s : ℕ) (row : Row) → Waker c n past s row.member.session → row.turn ≡ turns past → Counted c past s row.member.dumper → Wakes c n past s row
awake_wakes c n past s row w e k =
    let g = w.stands.fields.ground in
    record {
      begun = g.begun;
      lives = lives_at_home c past s g.begun (λ f. g.home_held f w.unclosed);
      current = λ h. w;
      counted = k;
      late = λ h. absurd (omega (arith, h, e));
    }

pub sleeper_wakes : (c : Config) (n : ℕ) (past : List Act) (s : ℕ) (timer : Option ℕ) (row : Row) → Sleeper c n past s timer row.turn row.member.session → Counted c past s row.member.dumper → Wakes c n past s row
sleeper_wakes c n past s timer row o counted =
    let w = awake_asleep c n o.slept s timer row.member.session o.stands o.wish in
    let g = o.stands.fields.ground in
    let lived : live c o.slept s ≡ true = lives_at_home c o.slept s g.begun (λ f. g.home_held f w.unclosed) in
    record {
      begun = still_begun c s timer o.slept past o.since o.begun;
      lives = (through c s timer o.slept past o.begun o.since).live_same ∙ lived;
      counted = counted;
      current = λ h. early c n past s timer row.turn row.member.session o h;
      late = λ h new k. woken_late c n past s timer row.turn row.member.session new o h k;
    }

pub row_up : (c : Config) (n : ℕ) (past : List Act) (s : ℕ) (work : List ℕ) (timer : Option ℕ) (row : Option Row) → RowIs c n past s work timer row → UpRow c n past s timer row
row_up c n past s work timer None r = r
row_up c n past s work timer (Some row) (inl r) = r.1
row_up c n past s work timer (Some row) (inr o) = sleeper_wakes c n past s timer row o.0 o.1

-- ---- another list of work, or the same

pub row_work : (c : Config) (n : ℕ) (past : List Act) (s : ℕ) (work more : List ℕ) (timer : Option ℕ) (row : Option Row) → (Has s work → Has s more) → RowIs c n past s work timer row → RowIs c n past s more timer row
row_work c n past s work more timer None h r = r
row_work c n past s work more timer (Some row) h (inl r) = inl (h r.0, r.1)
row_work c n past s work more timer (Some row) h (inr o) = inr o

pub row_as : (c : Config) (n : ℕ) (past : List Act) (s : ℕ) (before after : Sessions) → row_of after.table s ≡ row_of before.table s → timer_of after s ≡ timer_of before s → (Has s before.work.items → Has s after.work.items) → RowOf c n past before s → RowOf c n past after s
row_as c n past s before after e t w r =
    subst (λ (k : Option ℕ). RowIs c n past s after.work.items k (row_of after.table s)) (sym t)
    (subst (RowIs c n past s after.work.items (timer_of before s)) (sym e) (row_work c n past s before.work.items after.work.items (timer_of before s) (row_of before.table s) w r))

pub same_timer : (s : ℕ) (before after : Sessions) → after.timers.moments ≡ before.timers.moments → timer_of after s ≡ timer_of before s
same_timer s before after e = rw e refl

pub same_work : (s : ℕ) (before after : Sessions) → after.work.items ≡ before.work.items → Has s before.work.items → Has s after.work.items
same_work s before after e h = subst (Has s) (sym e) h

pub row_listed : (c : Config) (n : ℕ) (past : List Act) (s : ℕ) (before after : Sessions) → row_of after.table s ≡ row_of before.table s → SameLists before after → RowOf c n past before s → RowOf c n past after s
row_listed c n past s before after e l r = row_as c n past s before after e (same_timer s before after l.timers_same) (same_work s before after l.work_same) r

pub up_listed : (c : Config) (n : ℕ) (past : List Act) (s : ℕ) (before after : Sessions) → row_of after.table s ≡ row_of before.table s → timer_of after s ≡ timer_of before s → UpRow c n past s (timer_of before s) (row_of before.table s) → UpRow c n past s (timer_of after s) (row_of after.table s)
up_listed c n past s before after e t r = subst (λ (k : Option ℕ). UpRow c n past s k (row_of after.table s)) (sym t) (subst (UpRow c n past s (timer_of before s)) (sym e) r)

-- ---- a session that has heard the last turn

pub wakened_awake : (c : Config) (n : ℕ) (past : List Act) (s made at : ℕ) (old new : Row) → turns past ≡ made → at ≡ moment past → Wakes c n past s old → Wakened made at old new → Waker c n past s new.member.session
wakened_awake c n past s made at old new e m r h = go (cases_lt old.turn made)
  where
    go : (old.turn < made) ⊎ (made ≤ old.turn) → Waker c n past s new.member.session
    go (inl b) = r.late (omega (arith, b, e)) new.member.session (subst (λ (k : ℕ). Woke c n s k old.member.session new.member.session) m (h.woken b c n s))
    go (inr b) = subst (Waker c n past s) (sym (h.kept b)) (r.current (omega (arith, b, e)))

-- ---- a session that a turn doesn't name, and that is to hear it

pub due_wakes : (c : Config) (n : ℕ) (past : List Act) (s : ℕ) (until : Option ℕ) (at : ℕ) (ready : Listed) (timer : Option ℕ) (row : Row) → own_entries c s ready.entries ≡ [] → Sleeper c n past s timer row.turn row.member.session → Counted c past s row.member.dumper → Wakes c n (Turn until at (copied_list ready) false ∷ past) s row
due_wakes c n past s until at ready timer row own o counted =
    let r = sleeper_wakes c n past s timer row o counted in
    let g = turns_grow c s timer o.slept past o.since in
    let e = o.turn_is in
    record {
      begun = begun_step c (Turn until at (copied_list ready) false) past s r.begun;
      lives = r.lives;
      counted = counted_by c (Turn until at (copied_list ready) false) past s row.member.dumper row.member.dumper refl refl counted;
      current = λ h. absurd (omega (arith, h, g, e));
      late = λ h new w.
          awake c n (Turn until at (copied_list ready) false ∷ past) s new
          (others_named c n until at [] ready.entries past s new own (wakes c n until at past s timer row.turn row.member.session new o w));
    }
