-- Acts that pay for looks at sessions.
use Rattle.std.proofs.Common.{◌≡◌, ◌≢◌, refl, sym, ap, subst, ◌∙◌, ℕ, ◌+◌, ◌*◌, ◌≤◌, ◌⊎◌, inl, inr, true, false, List, [], ◌∷◌, ◌++◌, length, Option, Some, None, arith}
use Rattle.std.proofs.lemmas.Bool.{cases_eq}
use Rattle.std.proofs.lemmas.List.{append_assoc, length-append}
use Rattle.relay_model.specs.declared.commands.Config.{Config}
use Rattle.relay_model.specs.declared.acts.Act.{Act}
use Rattle.relay_model.specs.declared.acts.Act.TheVariants.{Turn}
use Rattle.relay_model.specs.declared.acts.Why.{Why}
use Rattle.relay_model.specs.Readiness.{Listed}
use Rattle.relay_model.specs.Configs.{has_fork}
use Rattle.relay_model.specs.History.{now as moment}
use Rattle.program_door.proofs.Moves.{numbers_are}
use Rattle.world_trait.specs.Seen.{Seen}
use Rattle.relay_laws.specs.Sleeps.{IsBefore}
use Rattle.relay_laws.proofs.Slept.{begun_step}
use Rattle.session_loop.specs.Runs.{Ran, stayed, acted}
use Rattle.fork_table.specs.Tables.{row_of}
use Rattle.session_laws.specs.Works.{MustAct}
use Rattle.event_loop.specs.declared.all_sessions.Sessions.{Sessions}
use Rattle.event_loop.specs.Rows.{Has, RowIs}
use Rattle.event_loop.specs.Courses.{SessionsCourse, CourseAt, TakesFirst, TakesNone, timer_of}
use Rattle.event_loop.specs.Endings.{MayEndAfter, Once, RowRan, RowRuns}
use Rattle.event_loop.specs.Looks.{BeginsCall, IsTimely, LeftByTurn, LooksPaid, WasDue, all_named, last_named}
use Rattle.event_loop.specs.Paid.{IsBusy, Paid, LedOn}
use Rattle.session_laws.proofs.Stays.{stays as must_stays}
use Rattle.session_laws.proofs.Waited.{waited as waited_now}
use Rattle.event_loop.proofs.InOrder.{row_rests}
use Rattle.event_loop.proofs.Others.{foreign_to}
use Rattle.event_loop.proofs.RowRuns.{here_of, none_taken, ran_course, ran_ends_after, taken_at}

-- ---- acts, and those before them

pub named_append : (xs ys : List Act) → all_named (xs ++ ys) ≡ all_named xs + all_named ys
named_append [] ys = omega arith
named_append (Turn until at ready stop ∷ xs) ys = let e = named_append xs ys in omega (arith, e)
named_append (act ∷ xs) ys = named_append xs ys

pub led_itself : (past : List Act) (Q : List Act → Type 0) (more ticks : ℕ) → Q past → LedOn past Q more ticks ticks
led_itself past Q more ticks q = record { made = []; holds = q; few = omega arith }

pub led_more : (past : List Act) (Q : List Act → Type 0) (k more old new : ℕ) → k ≤ more → LedOn past Q k old new → LedOn past Q more old new
led_more past Q k more old new l a = record { made = a.made; holds = a.holds; few = (let x = a.few in omega (arith, x, l)) }

pub led_then : (past : List Act) (P Q : List Act → Type 0) (m k more old mid new : ℕ) → m + k ≤ more → (a : LedOn past P m old mid) → LedOn (a.made ++ past) Q k mid new → LedOn past Q more old new
led_then past P Q m k more old mid new l a b = record {
  made = b.made ++ a.made;
  holds = subst Q (sym (append_assoc b.made a.made past)) b.holds;
  few = (let x = a.few in let y = b.few in let s = length-append b.made a.made in let n = named_append b.made a.made in omega (arith, x, y, s, n, l));
}

-- one act came before
pub led_after : (act : Act) (past : List Act) (Q : List Act → Type 0) (k more old new : ℕ) → k ≤ more + 2 → LedOn (act ∷ past) Q k old new → LedOn past Q more old new
led_after act past Q k more old new l b = record {
  made = b.made ++ act ∷ [];
  holds = subst Q (sym (append_assoc b.made (act ∷ []) past)) b.holds;
  few = (let y = b.few in let s : length (b.made ++ act ∷ []) ≡ length b.made + 1 = length-append b.made (act ∷ []) in let n = named_append b.made (act ∷ []) in omega (arith, y, s, n, l));
}

pub led_as : (past : List Act) (P Q : List Act → Type 0) (more old new : ℕ) → ((since : List Act) → P since → Q since) → LedOn past P more old new → LedOn past Q more old new
led_as past P Q more old new f a = record { made = a.made; holds = f (a.made ++ past) a.holds; few = a.few }

-- what a session has done
pub ran_newer : (c : Config) (s : ℕ) (past since : List Act) → Ran c s past since → (newer : List Act) × (since ≡ newer ++ past)
ran_newer c s past all stayed = ([], refl)
ran_newer c s past all (acted act since here k ran) = let r = ran_newer c s past since ran in (act ∷ r.0, ap (λ (xs : List Act). act ∷ xs) r.1)

pub led_ran : (c : Config) (s : ℕ) (past since : List Act) (Q : List Act → Type 0) (more old new : ℕ) → Ran c s past since → Q since → new ≤ old + more → LedOn past Q more old new
led_ran c s past since Q more old new ran q few =
    let r = ran_newer c s past since ran in
    record { made = r.0; holds = subst Q r.1 q; few = omega (arith, few) }

-- it did something
pub led_acted : (c : Config) (s : ℕ) (past since : List Act) (Q : List Act → Type 0) (old new : ℕ) → Ran c s past since → (since ≡ past → ⊥) → Q since → new ≤ old + 2 → LedOn past Q 0 old new
led_acted c s past since Q old new ran apart q few = (let r = ran_newer c s past since ran in go r.0 r.1)
  where
    go : (newer : List Act) → since ≡ newer ++ past → LedOn past Q 0 old new
    go [] e = absurd (apart e)
    go (act ∷ newer) e = record { made = act ∷ newer; holds = subst Q e q; few = omega (arith, few) }

-- ---- sessions that have to act

pub busy_on : (c : Config) (s r : ℕ) (past since : List Act) → r ≢ s → Ran c s past since → IsBusy c past r → IsBusy c since r
busy_on c s r past all apart stayed b = b
busy_on c s r past all apart (acted act since here k ran) b =
    let i = busy_on c s r past since apart ran b in
    record { begun = begun_step c act since r i.begun; must = must_stays c act since r i.begun (foreign_to c r s act here apart) k i.must }

pub paid_more : (c : Config) (past : List Act) (work : List ℕ) (k more : ℕ) → k ≤ more → Paid c past work k → Paid c past work more
paid_more c past [] k more l p = tt
paid_more c past (r ∷ rs) k more l (inl (busy, once, p)) = inl (busy, once, paid_more c past rs k more l p)
paid_more c past (r ∷ rs) k more l (inr (inl (once, (j, m, p)))) = inr (inl (once, (j, omega (arith, l, m), p)))
paid_more c past (r ∷ rs) k more l (inr (inr (j, m, p))) = inr (inr (j, omega (arith, l, m), p))

-- others have acted
pub paid_apart : (c : Config) (s : ℕ) (past since : List Act) (work : List ℕ) (k : ℕ) → Ran c s past since → (Has s work → ⊥) → Paid c past work k → Paid c since work k
paid_apart c s past since [] k ran absent p = tt
paid_apart c s past since (r ∷ rs) k ran absent (inl (busy, once, p)) = inl (busy_on c s r past since (λ e. absent (inl (sym e))) ran busy, once, paid_apart c s past since rs k ran (λ h. absent (inr h)) p)
paid_apart c s past since (r ∷ rs) k ran absent (inr (inl (once, (j, m, p)))) = inr (inl (once, (j, m, paid_apart c s past since rs j ran (λ h. absent (inr h)) p)))
paid_apart c s past since (r ∷ rs) k ran absent (inr (inr (j, m, p))) = inr (inr (j, m, paid_apart c s past since rs j ran (λ h. absent (inr h)) p))

-- one that may be among them has
pub paid_on : (c : Config) (s : ℕ) (past since : List Act) (work : List ℕ) (k : ℕ) → Ran c s past since → Paid c past work k → Paid c since work (k + 1)
paid_on c s past since [] k ran p = tt
paid_on c s past since (r ∷ rs) k ran (inl (busy, once, p)) = go (cases_eq r s) (paid_on c s past since rs k ran p)
  where
    go : (r ≡ s) ⊎ (r ≡ s → ⊥) → Paid c since rs (k + 1) → Paid c since (r ∷ rs) (k + 1)
    go (inl e) q = inr (inl (once, (k, omega arith, paid_apart c s past since rs k ran (subst (λ (x : ℕ). Has x rs → ⊥) e once) p)))
    go (inr apart) q = inl (busy_on c s r past since apart ran busy, once, q)
paid_on c s past since (r ∷ rs) k ran (inr (inl (once, (j, m, p)))) = inr (inl (once, (j + 1, omega (arith, m), paid_on c s past since rs j ran p)))
paid_on c s past since (r ∷ rs) k ran (inr (inr (j, m, p))) = inr (inr (j + 1, omega (arith, m), paid_on c s past since rs j ran p))

-- ---- the list of work, one after another

-- the sessions that had work before the rest of it have run
pub record RowsOn (c : Config) (n : ℕ) (start now : Seen) (past : List Act) (k old new : ℕ) (sessions : Sessions) : Type 0 where
  pub made : List Act
  pub course : SessionsCourse c n start now (made ++ past) sessions
  pub left : ℕ
  pub paid : Paid c (made ++ past) sessions.work.items left
  pub few : new + left ≤ old + 2 * (length made + all_named made) + k

pub rows_first : (c : Config) (n : ℕ) (start now : Seen) (past : List Act) (k ticks : ℕ) (sessions : Sessions) → SessionsCourse c n start now past sessions → Paid c past sessions.work.items k → RowsOn c n start now past k ticks ticks sessions
rows_first c n start now past k ticks sessions on p = record { made = []; course = on; left = k; paid = p; few = omega arith }

-- a session that has to act doesn't rest where it stayed
pub busy_acts : (c : Config) (n : ℕ) (past since : List Act) (s : ℕ) (sessions : Sessions) → has_fork c ≡ true → IsBusy c past s → RowIs c n since s [] (timer_of sessions s) (row_of sessions.table s) → since ≡ past → ⊥
busy_acts c n past since s sessions fork busy row e =
    let b = busy.begun in
    let k = numbers_are c past fork in
    busy.must (row_rests c n past s [] (timer_of sessions s) (row_of sessions.table s) fork (omega (arith, b, k)) refl (subst (λ (x : List Act). RowIs c n x s [] (timer_of sessions s) (row_of sessions.table s)) e row)).rests

pub rows_next : (c : Config) (n : ℕ) (start mid new : Seen) (past : List Act) (k old ticks more s : ℕ) (two three four : Sessions) → (r : RowsOn c n start mid past k old ticks two) → TakesFirst s two three → RowRuns c mid new s three four None → more ≤ ticks + 1 → RowsOn c n start new past k old more four
rows_next c n start mid new past k old ticks more s two three four r takes run few = go (subst (λ (w : List ℕ). Paid c (r.made ++ past) w r.left) takes.work_is r.paid)
  where
    at : CourseAt c n start mid (r.made ++ past) s three
    at = taken_at c n start mid (r.made ++ past) s two three r.course takes

    ran : RowRan c n start new (r.made ++ past) s four
    ran = run.0 n start (r.made ++ past) (here_of c n start mid (r.made ++ past) s three at)

    with_newer : (newer : List Act) → ran.since ≡ newer ++ (r.made ++ past) → (left : ℕ) → Paid c ran.since three.work.items left → more + left ≤ ticks + r.left + 2 * length newer → RowsOn c n start new past k old more four
    with_newer newer e left p l =
        let same : ran.since ≡ (newer ++ r.made) ++ past = e ∙ sym (append_assoc newer r.made past) in
        record {
          made = newer ++ r.made;
          course = subst (λ (x : List Act). SessionsCourse c n start new x four) same (ran_course c n start mid new (r.made ++ past) s three four at ran run.1);
          left = left;
          paid = subst (λ (x : List Act). Paid c x four.work.items left) same (subst (λ (w : List ℕ). Paid c ran.since w left) (sym run.1.work_same) p);
          few = (let x = r.few in let y = length-append newer r.made in let z = named_append newer r.made in omega (arith, x, y, z, l));
        }

    newer : (x : List Act) × (ran.since ≡ x ++ (r.made ++ past))
    newer = ran_newer c s (r.made ++ past) ran.since ran.only.ran

    acts : IsBusy c (r.made ++ past) s → (x : List Act) → ran.since ≡ x ++ (r.made ++ past) → 1 ≤ length x
    acts busy [] e = absurd (busy_acts c n (r.made ++ past) ran.since s four r.course.frame.fork busy ran.row e)
    acts busy (act ∷ x) e = omega arith

    go : Paid c (r.made ++ past) (s ∷ three.work.items) r.left → RowsOn c n start new past k old more four
    go (inl (busy, once, p)) = (let l = acts busy newer.0 newer.1 in with_newer newer.0 newer.1 r.left (paid_apart c s (r.made ++ past) ran.since three.work.items r.left ran.only.ran once p) (omega (arith, few, l)))
    go (inr (inl (once, (j, m, p)))) = with_newer newer.0 newer.1 j (paid_apart c s (r.made ++ past) ran.since three.work.items j ran.only.ran once p) (omega (arith, few, m))
    go (inr (inr (j, m, p))) = with_newer newer.0 newer.1 (j + 1) (paid_on c s (r.made ++ past) ran.since three.work.items j ran.only.ran p) (omega (arith, few, m))

-- one of them ends the run
pub rows_end : (c : Config) (n : ℕ) (start mid new : Seen) (past : List Act) (k old ticks more s : ℕ) (why : Why) (two three four : Sessions) → (r : RowsOn c n start mid past k old ticks two) → TakesFirst s two three → RowRuns c mid new s three four (Some why) → more ≤ ticks + 1 → LedOn past (MayEndAfter c n start new why four) (k + 2) old more
rows_end c n start mid new past k old ticks more s why two three four r takes run few =
    let so_far = r.made ++ past in
    let at = taken_at c n start mid so_far s two three r.course takes in
    let ran = run.0 n start so_far (here_of c n start mid so_far s three at) in
    let x = r.few in
    led_then past (λ since. SessionsCourse c n start mid since two) (MayEndAfter c n start new why four) k 2 (k + 2) old ticks more (omega arith)
    (record { made = r.made; holds = r.course; few = omega (arith, x) })
    (led_ran c s so_far ran.since (MayEndAfter c n start new why four) 2 ticks more ran.only.ran (ran_ends_after c n start mid new so_far s why three four at ran run.1) (omega (arith, few)))

-- none is left
pub rows_done : (c : Config) (n : ℕ) (start now : Seen) (past : List Act) (k old new : ℕ) (two three : Sessions) → RowsOn c n start now past k old new two → TakesNone two three → LedOn past (λ since. SessionsCourse c n start now since three) k old new
rows_done c n start now past k old new two three r t = record { made = r.made; holds = none_taken c n start now (r.made ++ past) two three r.course t; few = (let x = r.few in omega (arith, x)) }

-- ---- the list of work as a turn leaves it

due_paid : (c : Config) (past : List Act) (due : List ℕ) → Once due → ((s : ℕ) → Has s due → IsBusy c past s) → Paid c past due 0
due_paid c past [] once busy = tt
due_paid c past (s ∷ ss) once busy = inl (busy s (inl refl), once.0, due_paid c past ss once.1 (λ r h. busy r (inr h)))

-- each that is named may be there twice
named_paid : (c : Config) (past : List Act) (named due : List ℕ) (k : ℕ) → 2 * length named ≤ k → Paid c past due 0 → Paid c past (named ++ due) k
named_paid c past [] due k l p = paid_more c past due 0 k (omega arith) p
named_paid c past (s ∷ ss) due k l p = inr (inr (2 * length ss, omega (arith, l), named_paid c past ss due (2 * length ss) (omega arith) p))

left_paid : (c : Config) (until : Option ℕ) (at : ℕ) (ready : Listed) (past : List Act) (work : List ℕ) → LeftByTurn c past until at ready.entries work → IsBefore at until ⊎ (at ≡ moment past) → Paid c (Turn until at ready false ∷ past) work (2 * length ready.entries)
left_paid c until at ready past work left timely =
    subst (λ (w : List ℕ). Paid c (Turn until at ready false ∷ past) w (2 * length ready.entries)) (sym left.work_is)
    (let few = left.few in named_paid c (Turn until at ready false ∷ past) left.named left.due (2 * length ready.entries) (omega (arith, few)) (rest timely))
  where
    must : at ≡ moment past → (s : ℕ) → WasDue c past at s → MustAct c (Turn until at ready false ∷ past) s
    must e s d = (let l = d.come.2 in subst (λ (k : ℕ). MustAct c (Turn until k ready false ∷ past) s) (sym e) (waited_now c until ready past s d.come.0 d.come.1 (omega (arith, l, e))))

    rest : IsBefore at until ⊎ (at ≡ moment past) → Paid c (Turn until at ready false ∷ past) left.due 0
    rest (inl early) = subst (λ (w : List ℕ). Paid c (Turn until at ready false ∷ past) w 0) (sym (left.none early)) tt
    rest (inr e) = due_paid c (Turn until at ready false ∷ past) left.due left.once (λ s h. (let d = left.come s h in record { begun = begun_step c (Turn until at ready false) past s d.begun; must = must e s d }))

pub call_paid : (c : Config) (past : List Act) (work : List ℕ) → BeginsCall c past work → IsTimely past → Paid c past work (2 * last_named past)
call_paid c [] work begins timely = subst (λ (w : List ℕ). Paid c [] w 0) (sym begins) tt
call_paid c (Turn until at ready false ∷ past) work begins timely = left_paid c until at ready past work begins timely
call_paid c (Turn until at ready true ∷ past) work begins timely = absurd begins
call_paid c (act ∷ past) work begins timely = absurd begins

pub looks_paid : (past : List Act) (Q : List Act → Type 0) (more old new : ℕ) → more ≤ 2 * last_named past + 2 → LedOn past Q more old new → LooksPaid past Q old new
looks_paid past Q more old new l a = record { made = a.made; holds = a.holds; few = (let x = a.few in omega (arith, x, l)) }
