-- Sessions that are cut for a failed accepting, one after another, each right before its calls.
use Rattle.std.proofs.Common.{◌≡◌, ◌≢◌, refl, sym, ap, subst, ◌∙◌, ℕ, ◌+◌, ◌≤◌, ◌<◌, ◌⊎◌, inl, inr, true, false, List, [], ◌∷◌, ◌++◌, Option, Some, None, is_some, arith}
use Rattle.std.proofs.lemmas.Bool.{cases_eq, false≢true}
use Rattle.relay_model.specs.declared.commands.Config.{Config}
use Rattle.relay_model.specs.declared.acts.Act.{Act}
use Rattle.relay_model.specs.declared.acts.Act.TheVariants as acts
use Rattle.relay_model.specs.declared.acts.Why.{Why}
use Rattle.relay_model.specs.declared.acts.Why.TheVariants as whys
use Rattle.relay_model.specs.Places.{same_place}
use Rattle.relay_model.specs.Configs.{has_fork, program_door}
use Rattle.relay_model.specs.History.{now as moment, turns, accept_failed}
use Rattle.relay_model.specs.Sessions.{numbers}
use Rattle.relay_model.specs.Cause.{cause}
use Rattle.relay_model.specs.Frames.{IsForeign, is_common}
use Rattle.relay_laws.proofs.Apart.{closed_step}
use Rattle.relay_session.specs.declared.sessions.Session.{Session}
use Rattle.relay_session.specs.Endings.{Ends}
use Rattle.fork_table.specs.Tables.{Table, row_of}
use Rattle.relay_laws.proofs.Slept.{passes, begun_step, same_turns, session_alike}
use Rattle.session_laws.proofs.Others.{ground_kept}
use Rattle.world_trait.specs.Seen.{Seen}
use Rattle.session_driver.specs.Dumpers.{Counted}
use Rattle.session_laws.specs.SessionSets.{Woke}
use Rattle.session_loop.specs.Runs.{Ran, stayed, acted}
use Rattle.event_loop.specs.declared.all_sessions.Sessions.{Sessions}
use Rattle.event_loop.specs.declared.all_sessions.Row.{Row}
use Rattle.event_loop.specs.Rows.{Has, RowIs, UpRow}
use Rattle.event_loop.specs.Courses.{Unsaid, SessionsCourse, HereAt, SomewhereAt, Beside, TakesFirst, TakesNone, NoWork, SameRest, SameButWork, timer_of}
use Rattle.event_loop.specs.Endings.{MayLeave, MayLeaveThen, MayLeaveRow, MayEnd, RunsOut, CutRow, CutsRow, RowRan, RowEnds, RowRuns, AllQueued, FailedRow, FailedAt, Failed, SomeFailed, EndsRows, EndingRow, Ending, SomeEnding, Once, WorkLives, MayEndAfter}
use Rattle.event_loop.specs.Paid.{IsBusy, LedOn, EndingPaid, EndsPaid}
use Rattle.session_laws.proofs.Ended.{ended as ended_must}
use Rattle.event_loop.proofs.Lists.{has_none, has_rest}
use Rattle.event_loop.proofs.Counting.{counted_kept}
use Rattle.event_loop.proofs.Others.{Leave, foreign_to}
use Rattle.event_loop.proofs.RowLaws.{awake_wakes, now_kept, same_timer, sleeper_wakes}
use Rattle.event_loop.proofs.RowRuns.{frame_rest, only_leaves, rest_then}
use Rattle.event_loop.proofs.Spreading.{or_second, up_may}
use Rattle.event_loop.proofs.Paying.{busy_acts, led_acted, led_itself, led_ran, led_then}

-- ---- acts of others leave a session that is to be cut so

accept_stays : (act : Act) (past : List Act) → accept_failed past program_door ≡ true → accept_failed (act ∷ past) program_door ≡ true
accept_stays (acts.AcceptFailed q) past e = or_second (same_place q program_door) (accept_failed past program_door) e
accept_stays act past e = e

still_failed : (c : Config) (t : ℕ) (past since : List Act) → Ran c t past since → accept_failed past program_door ≡ true → accept_failed since program_door ≡ true
still_failed c t past all stayed e = e
still_failed c t past all (acted act since here k ran) e = accept_stays act since (still_failed c t past since ran e)

leave_kept : (c : Config) (n : ℕ) (act : Act) (past : List Act) (s : ℕ) (x : Session) → s < numbers c past → IsForeign c s act → is_common c act ≡ false → MayLeave c n past s whys.AcceptFailed x → MayLeave c n (act ∷ past) s whys.AcceptFailed x
leave_kept c n act past s x b f k m = record { grounded = ground_kept c act past s x.state b f k m.grounded; ends = go m.ends; unclosed = closed_step c act past s f ∙ m.unclosed }
  where
    go : Ends c n past s whys.AcceptFailed → Ends c n (act ∷ past) s whys.AcceptFailed
    go (inl e) = inl ((session_alike c s (act ∷ past) past (begun_step c act past s b) b (passes c s act past f k)).cause_same ∙ e)
    go (inr (inl h)) = (let e = h.0 in let y : ⊥ = cc in absurd y)
    go (inr (inr h)) = (let e = h.0 in let y : ⊥ = cc in absurd y)

failed_kept : (c : Config) (n : ℕ) (act : Act) (past : List Act) (s : ℕ) (row : Row) → IsForeign c s act → is_common c act ≡ false → FailedRow c n past s row → FailedRow c n (act ∷ past) s row
failed_kept c n act past s row f k r =
    let b = r.begun in
    let e = same_turns c act past k in
    let m = now_kept c act past k in
    record {
      may = record {
        current = λ h. leave_kept c n act past s row.member.session b f k (r.may.current (omega (arith, h, e)));
        late = λ h. (let t = r.may.late (omega (arith, h, e)) in λ new w. leave_kept c n act past s new b f k (t new (subst (λ (at : ℕ). Woke c n s at row.member.session new) m w)));
      };
      begun = begun_step c act past s b;
      lives = (session_alike c s (act ∷ past) past (begun_step c act past s b) b (passes c s act past f k)).live_same ∙ r.lives;
      counted = counted_kept c act past s row.member.dumper f r.counted;
    }

failed_on : (c : Config) (n s t : ℕ) (past since : List Act) (row : Row) → s ≢ t → Ran c t past since → FailedRow c n past s row → FailedRow c n since s row
failed_on c n s t past all row apart stayed r = r
failed_on c n s t past all row apart (acted act since here k ran) r = failed_kept c n act since s row (foreign_to c s t act here apart) k (failed_on c n s t past since row apart ran r)

ending_on : (c : Config) (n s t : ℕ) (past since : List Act) (work : List ℕ) (timer : Option ℕ) (row : Option Row) → s ≢ t → Ran c t past since → Leave c n past since t → EndingRow c n past s work timer row → EndingRow c n since s work timer row
ending_on c n s t past since work timer None apart ran l r = l.rows s work timer None apart r
ending_on c n s t past since work timer (Some row) apart ran l (inl (h, r)) = inl (h, failed_on c n s t past since row apart ran r)
ending_on c n s t past since work timer (Some row) apart ran l (inr (absent, o, k)) = go (l.rows s work timer (Some row) apart (inr (o, k)))
  where
    go : RowIs c n since s work timer (Some row) → EndingRow c n since s work timer (Some row)
    go (inl h) = absurd (absent h.0)
    go (inr r) = inr (absent, r.0, r.1)

-- ---- a session that is taken out of the list of work

others_taken : (c : Config) (n : ℕ) (past : List Act) (s t : ℕ) (work more : List ℕ) (timer : Option ℕ) (row : Option Row) → work ≡ t ∷ more → s ≢ t → EndingRow c n past s work timer row → EndingRow c n past s more timer row
others_taken c n past s t work more timer None e apart r = r
others_taken c n past s t work more timer (Some row) e apart (inl (h, r)) = inl (has_rest s t work more e apart h, r)
others_taken c n past s t work more timer (Some row) e apart (inr (absent, o, k)) = inr (λ h. absent (subst (Has s) (sym e) (inr h)), o, k)

failed_taken : (c : Config) (n : ℕ) (past : List Act) (k : ℕ) (work more : List ℕ) (timer : Option ℕ) (row : Option Row) → work ≡ k ∷ more → EndingRow c n past k work timer row → FailedAt c n past k timer row
failed_taken c n past k work more timer None e r = r
failed_taken c n past k work more timer (Some row) e (inl (h, r)) = r
failed_taken c n past k work more timer (Some row) e (inr (absent, o, q)) = absurd (absent (subst (Has k) (sym e) (inl refl)))

row_at : (c : Config) (n : ℕ) (start now : Seen) (past : List Act) (k : ℕ) (two three : Sessions) → Ending c n start now past two → TakesFirst k two three → FailedAt c n past k (timer_of three k) (row_of three.table k)
row_at c n start now past k two three e t =
    subst (λ (x : Option ℕ). FailedAt c n past k x (row_of three.table k)) (sym (same_timer k two three t.timers_same))
    (subst (λ (x : Table Row). FailedAt c n past k (timer_of two k) (row_of x k)) (sym t.table_same)
    (failed_taken c n past k two.work.items three.work.items (timer_of two k) (row_of two.table k) t.work_is (e.rows k)))

-- what a session is that was cut: awake, and its cause is the failed accepting
caused : (c : Config) (n : ℕ) (past : List Act) (s made at : ℕ) (old new : Row) → has_fork c ≡ true → Unsaid past → accept_failed past program_door ≡ true → turns past ≡ made → moment past ≡ at → FailedRow c n past s old → CutRow made at whys.AcceptFailed s (Some old) (Some new) → cause c past s ≡ Some whys.AcceptFailed
caused c n past s made at old new fork u f e m r cut =
    let l = cut.2 c n past e m r.may in
    let k = l.unclosed in
    let h = u.remembered in
    let t = u.unstopped in
    rw (k, h, t, fork, f) refl

rises : (c : Config) (n : ℕ) (past : List Act) (s made at : ℕ) (timer : Option ℕ) (before after : Option Row) → has_fork c ≡ true → Unsaid past → accept_failed past program_door ≡ true → turns past ≡ made → moment past ≡ at → FailedAt c n past s timer before → CutRow made at whys.AcceptFailed s before after → UpRow c n past s timer after
rises c n past s made at timer None None fork u f e m r cut = r
rises c n past s made at timer (Some old) (Some new) fork u f e m r cut =
    let l = cut.2 c n past e m r.may in
    awake_wakes c n past s new (record { stands = l.stands; ending = l.ending ∙ sym (caused c n past s made at old new fork u f e m r cut); unclosed = l.unclosed }) (cut.0 ∙ sym e) (subst (Counted c past s) (sym cut.1) r.counted)
rises c n past s made at timer None (Some new) fork u f e m r cut = absurd cut
rises c n past s made at timer (Some old) None fork u f e m r cut = absurd cut

must : (c : Config) (n : ℕ) (past : List Act) (s made at : ℕ) (timer : Option ℕ) (before after : Option Row) → has_fork c ≡ true → Unsaid past → accept_failed past program_door ≡ true → turns past ≡ made → moment past ≡ at → is_some before ≡ true → FailedAt c n past s timer before → CutRow made at whys.AcceptFailed s before after → IsBusy c past s
must c n past s made at timer None after fork u f e m lives r cut = absurd (false≢true lives)
must c n past s made at timer (Some old) (Some new) fork u f e m lives r cut = record { begun = r.begun; must = ended_must c past s whys.AcceptFailed fork r.lives (caused c n past s made at old new fork u f e m r cut) }
must c n past s made at timer (Some old) None fork u f e m lives r cut = absurd cut

pub cut_here : (c : Config) (n : ℕ) (start now : Seen) (past : List Act) (k : ℕ) (two three four : Sessions) → Ending c n start now past two → TakesFirst k two three → CutsRow k whys.AcceptFailed three four → HereAt c n start now past k four
cut_here c n start now past k two three four e t cuts = record {
  frame = frame_rest c n start now past two four e.frame (rest_then two three four t.same cuts.same);
  unowed = e.unowed;
  here = subst (λ (x : Option ℕ). UpRow c n past k x (row_of four.table k)) (sym (same_timer k three four cuts.lists.timers_same))
      (rises c n past k three.made three.clock (timer_of three k) (row_of three.table k) (row_of four.table k) e.frame.fork e.frame.unsaid e.failed (e.frame.made_is ∙ sym t.same.made_same) (sym e.frame.clock_is ∙ sym t.same.clock_same) (row_at c n start now past k two three e t) cuts.row);
}

pub cut_busy : (c : Config) (n : ℕ) (start now : Seen) (past : List Act) (k : ℕ) (two three four : Sessions) → Ending c n start now past two → WorkLives two → TakesFirst k two three → CutsRow k whys.AcceptFailed three four → IsBusy c past k
cut_busy c n start now past k two three four e w t cuts =
    must c n past k three.made three.clock (timer_of three k) (row_of three.table k) (row_of four.table k) e.frame.fork e.frame.unsaid e.failed (e.frame.made_is ∙ sym t.same.made_same) (sym e.frame.clock_is ∙ sym t.same.clock_same)
    (ap (λ (x : Table Row). is_some (row_of x k)) t.table_same ∙ w.lives k (subst (Has k) (sym t.work_is) (inl refl))) (row_at c n start now past k two three e t) cuts.row

pub some_cut : (c : Config) (now : Seen) (k : ℕ) (two three four : Sessions) → SomeEnding c now two → TakesFirst k two three → CutsRow k whys.AcceptFailed three four → SomewhereAt c now k four
some_cut c now k two three four at t cuts = record { n = at.n; start = at.start; past = at.past; course = cut_here c at.n at.start now at.past k two three four at.ending t cuts }

-- ---- and runs

-- each of the others is as it was
others_ran : (c : Config) (n : ℕ) (start old new : Seen) (past : List Act) (k : ℕ) (two three four five : Sessions) (since : List Act) → Ending c n start old past two → TakesFirst k two three → CutsRow k whys.AcceptFailed three four → Beside k four five → Ran c k past since → Leave c n past since k → (s : ℕ) → s ≢ k → EndingRow c n since s five.work.items (timer_of five s) (row_of five.table s)
others_ran c n start old new past k two three four five since e t cuts b ran l s apart =
    subst (λ (w : List ℕ). EndingRow c n since s w (timer_of five s) (row_of five.table s)) (sym (b.work_same ∙ cuts.lists.work_same))
    (subst (λ (x : Option ℕ). EndingRow c n since s three.work.items x (row_of five.table s)) (sym (b.timers s apart ∙ (same_timer s three four cuts.lists.timers_same ∙ same_timer s two three t.timers_same)))
    (subst (EndingRow c n since s three.work.items (timer_of two s)) (sym (b.rows s apart ∙ (cuts.others s apart ∙ ap (λ (x : Table Row). row_of x s) t.table_same)))
    (ending_on c n s k past since three.work.items (timer_of two s) (row_of two.table s) apart ran l (others_taken c n past s k two.work.items three.work.items (timer_of two s) (row_of two.table s) t.work_is apart (e.rows s)))))

row_over : (c : Config) (n : ℕ) (past : List Act) (s : ℕ) (work : List ℕ) (timer : Option ℕ) (row : Option Row) → (Has s work → ⊥) → RowIs c n past s [] timer row → EndingRow c n past s work timer row
row_over c n past s work timer None absent r = r
row_over c n past s work timer (Some row) absent (inl h) = absurd h.0
row_over c n past s work timer (Some row) absent (inr r) = inr (absent, r.0, r.1)

-- the number that was taken out isn't there again
pub once_taken : (k : ℕ) (two three four five : Sessions) → WorkLives two → TakesFirst k two three → CutsRow k whys.AcceptFailed three four → Beside k four five → Has k five.work.items → ⊥
once_taken k two three four five w t cuts b h = (subst Once t.work_is w.once).0 (subst (Has k) (b.work_same ∙ cuts.lists.work_same) h)

pub ran_ending : (c : Config) (n : ℕ) (start old new : Seen) (past : List Act) (k : ℕ) (two three four five : Sessions) → Ending c n start old past two → WorkLives two → TakesFirst k two three → CutsRow k whys.AcceptFailed three four → (r : RowRan c n start new past k five) → Beside k four five → Ending c n start new r.since five
ran_ending c n start old new past k two three four five e w t cuts r b = record { frame = r.frame; unowed = r.unowed; failed = still_failed c k past r.since r.only.ran e.failed; rows = λ s. go s (cases_eq s k) }
  where
    go : (s : ℕ) → (s ≡ k) ⊎ (s ≡ k → ⊥) → EndingRow c n r.since s five.work.items (timer_of five s) (row_of five.table s)
    go s (inl same) = subst (λ (x : ℕ). EndingRow c n r.since x five.work.items (timer_of five x) (row_of five.table x)) (sym same) (row_over c n r.since k five.work.items (timer_of five k) (row_of five.table k) (once_taken k two three four five w t cuts b) r.row)
    go s (inr apart) = others_ran c n start old new past k two three four five r.since e t cuts b r.only.ran (only_leaves c n k past r.since e.frame.fork r.frame.run.legal r.only) s apart

pub lives_on : (k : ℕ) (two three four five : Sessions) → WorkLives two → TakesFirst k two three → CutsRow k whys.AcceptFailed three four → Beside k four five → WorkLives five
lives_on k two three four five w t cuts b = record {
  once = subst Once (sym (b.work_same ∙ cuts.lists.work_same)) (subst Once t.work_is w.once).1;
  lives = λ s h.
      let apart : s ≡ k → ⊥ = λ e. once_taken k two three four five w t cuts b (subst (λ (x : ℕ). Has x five.work.items) e h) in
      ap is_some (b.rows s apart ∙ (cuts.others s apart ∙ ap (λ (x : Table Row). row_of x s) t.table_same)) ∙ w.lives s (subst (Has s) (sym t.work_is) (inr (subst (Has s) (b.work_same ∙ cuts.lists.work_same) h)));
}

-- the run may be ended for another reason as well
failed_may : (c : Config) (n : ℕ) (past : List Act) (s : ℕ) (why : Why) (x : Session) → RunsOut c n past why → MayLeave c n past s whys.AcceptFailed x → MayLeave c n past s why x
failed_may c n past s why x (inl e) m = record { grounded = m.grounded; ends = inr (inl (e, m.unclosed)); unclosed = m.unclosed }
failed_may c n past s why x (inr e) m = record { grounded = m.grounded; ends = inr (inr e); unclosed = m.unclosed }

row_may : (c : Config) (n : ℕ) (past : List Act) (s : ℕ) (why : Why) (row : Row) → RunsOut c n past why → FailedRow c n past s row → MayLeaveThen c n past s why row
row_may c n past s why row e r = record {
  current = λ h. failed_may c n past s why row.member.session e (r.may.current h);
  late = λ h new w. failed_may c n past s why new e (r.may.late h new w);
}

ending_may : (c : Config) (n : ℕ) (past : List Act) (s : ℕ) (why : Why) (work : List ℕ) (timer : Option ℕ) (row : Option Row) → RunsOut c n past why → EndingRow c n past s work timer row → MayLeaveRow c n past s why row
ending_may c n past s why work timer None e r = r.0
ending_may c n past s why work timer (Some row) e (inl (h, r)) = row_may c n past s why row e r
ending_may c n past s why work timer (Some row) e (inr (absent, o, k)) = up_may c n past s why timer (Some row) e (sleeper_wakes c n past s timer row o k)

pub ends_ending : (c : Config) (n : ℕ) (start old new : Seen) (past : List Act) (k : ℕ) (why : Why) (two three four five : Sessions) → Ending c n start old past two → TakesFirst k two three → CutsRow k whys.AcceptFailed three four → (r : RowEnds c n start new past k why five) → Beside k four five → MayEndAfter c n start new why five r.since
ends_ending c n start old new past k why two three four five e t cuts r b = (record { past = r.since; frame = r.frame; all = r.all; ends = r.ends; owes = r.owes; rows = λ s. go s (cases_eq s k) }, refl)
  where
    go : (s : ℕ) → (s ≡ k) ⊎ (s ≡ k → ⊥) → MayLeaveRow c n r.since s why (row_of five.table s)
    go s (inl same) = subst (λ (x : ℕ). MayLeaveRow c n r.since x why (row_of five.table x)) (sym same) r.row
    go s (inr apart) =
        ending_may c n r.since s why five.work.items (timer_of five s) (row_of five.table s) r.ends
        (others_ran c n start old new past k two three four five r.since e t cuts b r.only.ran (only_leaves c n k past r.since e.frame.fork r.frame.run.legal r.only) s apart)

-- ---- one after another

-- the run of each that led to the beginning has led on
abbrev pub EndsOn : Config → Seen → Seen → ℕ → ℕ → Sessions → Sessions → Type 0
EndsOn c from now old new before after = (n : ℕ) (start : Seen) (past : List Act) → Ending c n start from past before → LedOn past (λ since. Ending c n start now since after) 0 old new

pub ends_first : (c : Config) (now : Seen) (ticks : ℕ) (sessions : Sessions) → EndsOn c now now ticks ticks sessions sessions
ends_first c now ticks sessions n start past e = led_itself past (λ since. Ending c n start now since sessions) 0 ticks e

pub some_on : (c : Config) (from now : Seen) (old new : ℕ) (before after : Sessions) → SomeEnding c from before → EndsOn c from now old new before after → SomeEnding c now after
some_on c from now old new before after at on = let o = on at.n at.start at.past at.ending in record { n = at.n; start = at.start; past = o.made ++ at.past; ending = o.holds }

pub ends_next : (c : Config) (from mid now : Seen) (old ticks cut new k : ℕ) (one two three four five : Sessions) → EndsOn c from mid old ticks one two → WorkLives two → TakesFirst k two three → CutsRow k whys.AcceptFailed three four → RowRuns c mid now k four five None → cut ≤ ticks + 1 → new ≤ cut + 1 → EndsOn c from now old new one five
ends_next c from mid now old ticks cut new k one two three four five on w t cuts run l m n start past e =
    let a = on n start past e in
    let so_far = a.made ++ past in
    let r = run.0 n start so_far (cut_here c n start mid so_far k two three four a.holds t cuts) in
    led_then past (λ since. Ending c n start mid since two) (λ since. Ending c n start now since five) 0 0 0 old ticks new (omega arith) a
    (led_acted c k so_far r.since (λ since. Ending c n start now since five) ticks new r.only.ran (busy_acts c n so_far r.since k five a.holds.frame.fork (cut_busy c n start mid so_far k two three four a.holds w t cuts) r.row)
    (ran_ending c n start mid now so_far k two three four five a.holds w t cuts r run.1) (omega (arith, l, m)))

pub ends_by : (c : Config) (from mid now : Seen) (old ticks cut new k : ℕ) (why : Why) (one two three four five : Sessions) → EndsOn c from mid old ticks one two → TakesFirst k two three → CutsRow k whys.AcceptFailed three four → RowRuns c mid now k four five (Some why) → cut ≤ ticks + 1 → new ≤ cut + 1 → EndingPaid c from now one five old new (Some why)
ends_by c from mid now old ticks cut new k why one two three four five on t cuts run l m n start past e =
    let a = on n start past e in
    let so_far = a.made ++ past in
    let r = run.0 n start so_far (cut_here c n start mid so_far k two three four a.holds t cuts) in
    led_then past (λ since. Ending c n start mid since two) (MayEndAfter c n start now why five) 0 2 2 old ticks new (omega arith) a
    (led_ran c k so_far r.since (MayEndAfter c n start now why five) 2 ticks new r.only.ran (ends_ending c n start mid now so_far k why two three four five a.holds t cuts r run.1) (omega (arith, l, m)))

row_ended : (c : Config) (n : ℕ) (past : List Act) (s : ℕ) (work more : List ℕ) (timer : Option ℕ) (row : Option Row) → work ≡ [] → EndingRow c n past s work timer row → RowIs c n past s more timer row
row_ended c n past s work more timer None e r = r
row_ended c n past s work more timer (Some row) e (inl (h, r)) = has_none s work e h
row_ended c n past s work more timer (Some row) e (inr (absent, o, k)) = inr (o, k)

ended_course : (c : Config) (n : ℕ) (start now : Seen) (past : List Act) (two three : Sessions) → Ending c n start now past two → TakesNone two three → SessionsCourse c n start now past three
ended_course c n start now past two three e t = record {
  frame = frame_rest c n start now past two three e.frame t.same;
  unowed = e.unowed;
  rows = λ s.
      subst (λ (x : Option ℕ). RowIs c n past s three.work.items x (row_of three.table s)) (sym (same_timer s two three t.lists.timers_same))
      (subst (λ (x : Table Row). RowIs c n past s three.work.items (timer_of two s) (row_of x s)) (sym t.table_same)
      (row_ended c n past s two.work.items three.work.items (timer_of two s) (row_of two.table s) (sym t.lists.work_same ∙ t.idle) (e.rows s)));
}

pub ends_done : (c : Config) (from now : Seen) (old new : ℕ) (one two three : Sessions) → EndsOn c from now old new one two → TakesNone two three → EndingPaid c from now one three old new None
ends_done c from now old new one two three on t = (λ n start past e. (let a = on n start past e in record { made = a.made; holds = ended_course c n start now (a.made ++ past) two three a.holds t; few = a.few }), t.idle)

-- ---- from the failed accepting on

row_queued : (c : Config) (n : ℕ) (past : List Act) (s : ℕ) (work : List ℕ) (timer : Option ℕ) (row : Option Row) → (is_some row ≡ true → Has s work) → FailedAt c n past s timer row → EndingRow c n past s work timer row
row_queued c n past s work timer None h r = r
row_queued c n past s work timer (Some row) h r = inl (h refl, r)

failed_then : (c : Config) (n : ℕ) (past : List Act) (s : ℕ) (before mid : Sessions) → SameButWork before mid → FailedAt c n past s (timer_of before s) (row_of before.table s) → FailedAt c n past s (timer_of mid s) (row_of mid.table s)
failed_then c n past s before mid same r =
    subst (λ (x : Option ℕ). FailedAt c n past s x (row_of mid.table s)) (sym (same_timer s before mid same.timers_same))
    (subst (λ (x : Table Row). FailedAt c n past s (timer_of before s) (row_of x s)) (sym same.table_same) r)

failed_ending : (c : Config) (n : ℕ) (start now : Seen) (past : List Act) (before mid : Sessions) → Failed c n start now past before → SameButWork before mid → AllQueued mid → Ending c n start now (acts.AcceptFailed program_door ∷ past) mid
failed_ending c n start now past before mid f same queued = record {
  frame = frame_rest c n start now (acts.AcceptFailed program_door ∷ past) before mid f.frame same.same;
  unowed = refl;
  failed = refl;
  rows = λ s. row_queued c n (acts.AcceptFailed program_door ∷ past) s mid.work.items (timer_of mid s) (row_of mid.table s) (queued s) (failed_then c n (acts.AcceptFailed program_door ∷ past) s before mid same (f.rows s));
}

pub some_queued : (c : Config) (now : Seen) (before mid : Sessions) → SomeFailed c now before → SameButWork before mid → AllQueued mid → SomeEnding c now mid
some_queued c now before mid at same queued = record { n = at.n; start = at.start; past = acts.AcceptFailed program_door ∷ at.past; ending = failed_ending c at.n at.start now at.past before mid at.failed same queued }

pub some_idle : (c : Config) (now : Seen) (sessions : Sessions) → SomeFailed c now sessions → NoWork sessions
some_idle c now sessions at = at.failed.idle

pub ends_rows : (c : Config) (from now : Seen) (before mid after : Sessions) (old new : ℕ) (why : Option Why) → SameButWork before mid → AllQueued mid → EndingPaid c from now mid after old new why → SameRest mid after → EndsRows c from now before after why
ends_rows c from now before mid after old new None same queued p rest = (
  λ n start past f. (let l = p.0 n start (acts.AcceptFailed program_door ∷ past) (failed_ending c n start from past before mid f same queued) in record { past = l.made ++ (acts.AcceptFailed program_door ∷ past); course = l.holds }),
  p.1,
  rest_then before mid after same.same rest,
)
ends_rows c from now before mid after old new (Some why) same queued p rest = λ n start past f. (p n start (acts.AcceptFailed program_door ∷ past) (failed_ending c n start from past before mid f same queued)).holds.0

pub ends_paid : (c : Config) (from now : Seen) (before mid after : Sessions) (old new : ℕ) (why : Option Why) → SameButWork before mid → AllQueued mid → EndingPaid c from now mid after old new why → EndsPaid c from now before after old new why
ends_paid c from now before mid after old new None same queued p = λ n start past f. p.0 n start (acts.AcceptFailed program_door ∷ past) (failed_ending c n start from past before mid f same queued)
ends_paid c from now before mid after old new (Some why) same queued p = λ n start past f. p n start (acts.AcceptFailed program_door ∷ past) (failed_ending c n start from past before mid f same queued)

-- no memory for the list of work
failed_leaves : (c : Config) (n : ℕ) (past : List Act) (s : ℕ) (timer : Option ℕ) (row : Option Row) → FailedAt c n past s timer row → MayLeaveRow c n past s whys.Memory row
failed_leaves c n past s timer None r = r.0
failed_leaves c n past s timer (Some row) r = row_may c n past s whys.Memory row (inl refl) r

pub ends_short_after : (c : Config) (n : ℕ) (start now : Seen) (past : List Act) (before after : Sessions) → Failed c n start now past before → SameButWork before after → MayEndAfter c n start now whys.Memory after (acts.AcceptFailed program_door ∷ past)
ends_short_after c n start now past before after f same = (
  record {
    past = acts.AcceptFailed program_door ∷ past;
    frame = frame_rest c n start now (acts.AcceptFailed program_door ∷ past) before after f.frame same.same;
    all = refl;
    ends = inl refl;
    owes = inr refl;
    rows = λ s. failed_leaves c n (acts.AcceptFailed program_door ∷ past) s (timer_of after s) (row_of after.table s) (failed_then c n (acts.AcceptFailed program_door ∷ past) s before after same (f.rows s));
  },
  refl,
)

pub ends_short : (c : Config) (n : ℕ) (start now : Seen) (past : List Act) (before after : Sessions) → Failed c n start now past before → SameButWork before after → MayEnd c n start now whys.Memory after
ends_short c n start now past before after f same = (ends_short_after c n start now past before after f same).0
