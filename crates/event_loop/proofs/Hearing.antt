-- A turn that sessions hear, and those that it puts into the list of work.
use Rattle.std.proofs.Common.{◌≡◌, ◌≢◌, refl, sym, ap, subst, ◌∙◌, ℕ, zero, suc, ◌+◌, ◌-◌, ◌<◌, ◌≤◌, ◌⊎◌, inl, inr, Bool, true, false, cond, ◌||◌, List, [], ◌∷◌, ◌++◌, take, slice_get, length, Option, Some, None, is_some, Result, Ok, Err, OnOk, arith}
use Rattle.std.specs.Ordering.{nat_cmp}
use Rattle.std.specs.Cmp.{nat_cmp_total}
use Rattle.std.specs.FinMap.{FinMap, get, remove, len, contains_key, len-remove, empty_of_len, get-empty}
use Rattle.std.proofs.lemmas.Bool.{cases_eq, cases_lt, or_parts, true≢false, false≢true, false_from_ne_true}
use Rattle.std.proofs.lemmas.List.{length-append, append-nil, append_assoc}
use Rattle.std.proofs.lemmas.List.Folds.{list_any-append}
use Rattle.relay_model.specs.declared.commands.Config.{Config}
use Rattle.relay_model.specs.declared.places.Place.{Place}
use Rattle.relay_model.specs.declared.readiness.ReadyAt.{ReadyAt}
use Rattle.relay_model.specs.Configs.{is_program_door}
use Rattle.relay_model.specs.Readiness.{Listed}
use Rattle.relay_laws.specs.Stories.{is_own_place, own_entries}
use Rattle.relay_laws.proofs.Alike.{own_from, own_is}
use Rattle.timer_set.proofs.Told.{got_left, got_removed}
use Rattle.fork_table.specs.Tables.{Table, row_of, IsFirstLive}
use Rattle.event_loop.specs.declared.all_sessions.Sessions.{Sessions}
use Rattle.event_loop.specs.declared.all_sessions.Row.{Row}
use Rattle.event_loop.specs.Rows.{Has}
use Rattle.event_loop.specs.Courses.{NoWork, SameButWork, SameButLists, timer_of}
use Rattle.event_loop.specs.Endings.{Once}
use Rattle.event_loop.specs.Looks.{AddsDue, AddsParts, CameByName, CameForCause, CameInTime, HasCome, NoneDue}
use Rattle.relay_session.specs.Sessions.{HearsTurn}
use Rattle.relay_session.proofs.Naming.{take_next}
use Rattle.event_loop.specs.Turns.{HearsRow, SameBesides, RowHeard, UnheardRow, AllUnheard, names_own, NamedRow, NamedHeard, HearsOnce, RowHearsOnce, QueuesNamed, Moves, QueuesDue, Queued}
use Rattle.event_loop.proofs.Lists.{has_left, has_last, has_none}
use Rattle.event_loop.proofs.RowLoops.{RowsTo, rows_next}
use Rattle.event_loop.proofs.RowLaws.{same_timer}
use Rattle.event_loop.proofs.RowRuns.{rest_itself, rest_then}

pub heard_none : (made at : ℕ) (ready : Listed) (stop : Bool) (s : ℕ) → HearsRow made at ready stop None None
heard_none made at ready stop s = tt

-- a row whose session heard a turn
pub row_hears : (made at : ℕ) (ready : Listed) (stop : Bool) (before after : Option Row) (x y : Row) → before ≡ Some x → after ≡ Some y → HearsTurn at ready stop x.member.session y.member.session → y.turn ≡ made → y.member.dumper ≡ x.member.dumper → HearsRow made at ready stop before after
row_hears made at ready stop before after x y had has h e d = subst (λ (a : Option Row). HearsRow made at ready stop a after) (sym had) (subst (λ (a : Option Row). HearsRow made at ready stop (Some x) a) (sym has) (h, e, d))

pub besides_itself : (sessions : Sessions) → SameBesides sessions sessions
besides_itself sessions = record { same = rest_itself sessions; lists = record { work_same = refl; timers_same = refl }; ready_same = refl }

pub besides_then : (one two three : Sessions) → SameBesides one two → SameBesides two three → SameBesides one three
besides_then one two three a b = record { same = rest_then one two three a.same b.same; lists = record { work_same = b.lists.work_same ∙ a.lists.work_same; timers_same = b.lists.timers_same ∙ a.lists.timers_same }; ready_same = b.ready_same ∙ a.ready_same }

pub rows_heard_next : (k : ℕ) (before mid after : Sessions) (next : Option ℕ) → RowsTo (λ s. HearsRow before.made before.clock before.ready true) (Some k) before mid → SameBesides before mid → RowHeard k mid after → IsFirstLive after.table (k + 1) next → RowsTo (λ s. HearsRow before.made before.clock before.ready true) next before after
rows_heard_next k before mid after next done same r first =
    rows_next (λ s. HearsRow before.made before.clock before.ready true) (heard_none before.made before.clock before.ready true) k before mid after next done
    (subst (λ (l : Listed). HearsRow before.made before.clock l true (row_of mid.table k) (row_of after.table k)) same.ready_same
    (subst (λ (m : ℕ). HearsRow before.made m mid.ready true (row_of mid.table k) (row_of after.table k)) same.same.clock_same
    (subst (λ (m : ℕ). HearsRow m mid.clock mid.ready true (row_of mid.table k) (row_of after.table k)) same.same.made_same r.row))) r.others first

-- ---- the entries of a turn, one after another

or_false : (b : Bool) → (b || false) ≡ b
or_false true = refl
or_false false = refl

or_true : (b : Bool) → (b || true) ≡ true
or_true true = refl
or_true false = refl

pub names_more : (c : Config) (s : ℕ) (entries : List ReadyAt) (i : ℕ) (e : ReadyAt) → slice_get entries i ≡ Some e → names_own c s (take (i + 1) entries) ≡ (names_own c s (take i entries) || is_own_place c s e.place)
names_more c s entries i e g =
    ap (names_own c s) (take_next entries i e g)
    ∙ (list_any-append (λ (x : ReadyAt). is_own_place c s x.place) (take i entries) (e ∷ [])
    ∙ ap (λ b. names_own c s (take i entries) || b) (or_false (is_own_place c s e.place)))

not_own : (c : Config) (s : ℕ) (q : Place) → (s ≡ q.session → is_program_door c q ≡ false → ⊥) → is_own_place c s q ≡ false
not_own c s q h = false_from_ne_true (is_own_place c s q) (λ o. let k = own_is c s q o in h (sym k.0) k.1)

still_named : (c : Config) (s : ℕ) (entries : List ReadyAt) (i : ℕ) (e : ReadyAt) → slice_get entries i ≡ Some e → names_own c s (take i entries) ≡ true → names_own c s (take (i + 1) entries) ≡ true
still_named c s entries i e g n = names_more c s entries i e g ∙ ap (λ b. b || is_own_place c s e.place) n

-- what some of the entries name all of them do
taken : (c : Config) (s i : ℕ) (entries : List ReadyAt) → names_own c s (take i entries) ≡ true → names_own c s entries ≡ true
taken c s zero entries n = absurd (false≢true n)
taken c s (suc i) [] n = absurd (false≢true n)
taken c s (suc i) (x ∷ xs) n = go (is_own_place c s x.place) (λ m. taken c s i xs m) n
  where
    go : (b : Bool) → (names_own c s (take i xs) ≡ true → names_own c s xs ≡ true) → (b || names_own c s (take i xs)) ≡ true → (b || names_own c s xs) ≡ true
    go true later m = refl
    go false later m = later m

names_same : (c : Config) (s : ℕ) (entries : List ReadyAt) (i : ℕ) (e : ReadyAt) → slice_get entries i ≡ Some e → is_own_place c s e.place ≡ false → names_own c s (take (i + 1) entries) ≡ names_own c s (take i entries)
names_same c s entries i e g k = names_more c s entries i e g ∙ (ap (λ b. names_own c s (take i entries) || b) k ∙ or_false (names_own c s (take i entries)))

names_now : (c : Config) (s : ℕ) (entries : List ReadyAt) (i : ℕ) (e : ReadyAt) → slice_get entries i ≡ Some e → is_own_place c s e.place ≡ true → names_own c s (take (i + 1) entries) ≡ true
names_now c s entries i e g k = names_more c s entries i e g ∙ (ap (λ b. names_own c s (take i entries) || b) k ∙ or_true (names_own c s (take i entries)))

-- an entry of the program door
pub door_named : (c : Config) (before after : Sessions) (i : ℕ) (e : ReadyAt) → slice_get before.ready.entries i ≡ Some e → is_program_door c e.place ≡ true → NamedHeard c (take i before.ready.entries) before after → NamedHeard c (take (i + 1) before.ready.entries) before after
door_named c before after i e g door h = record {
  rows = λ s. subst (λ b. NamedRow before.made before.clock before.ready b (row_of before.table s) (row_of after.table s)) (sym (names_same c s before.ready.entries i e g (not_own c s e.place (λ k f. true≢false (sym door ∙ f))))) (h.rows s);
  same = h.same;
}

twice_heard : (made at : ℕ) (ready : Listed) (before mid after : Option Row) → HearsRow made at ready false before mid → HearsOnce made at ready mid after → HearsRow made at ready false before after
twice_heard made at ready None None None h o = tt
twice_heard made at ready (Some x) (Some y) (Some z) h o = (let e = h.1 in subst (HearsTurn at ready false x.member.session) (sym (o.kept (omega (arith, e)))) h.0, o.turn_is, o.dumper_same ∙ h.2)
twice_heard made at ready None None (Some z) h o = absurd o
twice_heard made at ready None (Some y) after h o = absurd h
twice_heard made at ready (Some x) None after h o = absurd h
twice_heard made at ready (Some x) (Some y) None h o = absurd o

once_heard : (made at : ℕ) (ready : Listed) (before after : Option Row) → UnheardRow made before → HearsOnce made at ready before after → HearsRow made at ready false before after
once_heard made at ready None None u o = tt
once_heard made at ready (Some x) (Some y) u o = (o.hears u, o.turn_is, o.dumper_same)
once_heard made at ready None (Some y) u o = absurd o
once_heard made at ready (Some x) None u o = absurd o

named_once : (made at : ℕ) (ready : Listed) (b : Bool) (before mid after : Option Row) → UnheardRow made before → NamedRow made at ready b before mid → HearsOnce made at ready mid after → HearsRow made at ready false before after
named_once made at ready true before mid after u h o = twice_heard made at ready before mid after h o
named_once made at ready false before mid after u h o = once_heard made at ready before after u (subst (λ (r : Option Row). HearsOnce made at ready r after) h o)

-- an entry of a session
pub row_named : (c : Config) (before mid after : Sessions) (i : ℕ) (e : ReadyAt) → AllUnheard before → slice_get before.ready.entries i ≡ Some e → is_program_door c e.place ≡ false → NamedHeard c (take i before.ready.entries) before mid → RowHearsOnce e.place.session mid after → NamedHeard c (take (i + 1) before.ready.entries) before after
row_named c before mid after i e unheard g door h r = record { rows = λ s. go s (cases_eq s e.place.session); same = besides_then before mid after h.same r.same }
  where
    once : HearsOnce before.made before.clock before.ready (row_of mid.table e.place.session) (row_of after.table e.place.session)
    once =
        subst (λ (l : Listed). HearsOnce before.made before.clock l (row_of mid.table e.place.session) (row_of after.table e.place.session)) h.same.ready_same
        (subst (λ (m : ℕ). HearsOnce before.made m mid.ready (row_of mid.table e.place.session) (row_of after.table e.place.session)) h.same.same.clock_same
        (subst (λ (m : ℕ). HearsOnce m mid.clock mid.ready (row_of mid.table e.place.session) (row_of after.table e.place.session)) h.same.same.made_same r.row))

    here : NamedRow before.made before.clock before.ready (names_own c e.place.session (take (i + 1) before.ready.entries)) (row_of before.table e.place.session) (row_of after.table e.place.session)
    here =
        subst (λ b. NamedRow before.made before.clock before.ready b (row_of before.table e.place.session) (row_of after.table e.place.session)) (sym (names_now c e.place.session before.ready.entries i e g (own_from c e.place.session e.place refl door)))
        (named_once before.made before.clock before.ready (names_own c e.place.session (take i before.ready.entries)) (row_of before.table e.place.session) (row_of mid.table e.place.session) (row_of after.table e.place.session) (unheard e.place.session) (h.rows e.place.session) once)

    go : (s : ℕ) → (s ≡ e.place.session) ⊎ (s ≡ e.place.session → ⊥) → NamedRow before.made before.clock before.ready (names_own c s (take (i + 1) before.ready.entries)) (row_of before.table s) (row_of after.table s)
    go s (inl k) = subst (λ (x : ℕ). NamedRow before.made before.clock before.ready (names_own c x (take (i + 1) before.ready.entries)) (row_of before.table x) (row_of after.table x)) (sym k) here
    go s (inr apart) =
        subst (λ b. NamedRow before.made before.clock before.ready b (row_of before.table s) (row_of after.table s)) (sym (names_same c s before.ready.entries i e g (not_own c s e.place (λ k f. apart k))))
        (subst (NamedRow before.made before.clock before.ready (names_own c s (take i before.ready.entries)) (row_of before.table s)) (sym (r.others s apart)) (h.rows s))

-- nothing was named yet
pub none_named : (c : Config) (sessions : Sessions) → NamedHeard c [] sessions sessions
none_named c sessions = record { rows = λ s. refl; same = besides_itself sessions }

-- ---- the list of work

pub none_queued : (c : Config) (sessions : Sessions) → QueuesNamed c [] sessions sessions
none_queued c sessions = record { named = λ s e. absurd (true≢false (sym e)); kept = λ s h. h; same = record { table_same = refl; timers_same = refl; same = rest_itself sessions; ready_same = refl } }

pub work_itself : (sessions : Sessions) → SameButWork sessions sessions
work_itself sessions = record { table_same = refl; timers_same = refl; same = rest_itself sessions; ready_same = refl }

pub work_then : (one two three : Sessions) → SameButWork one two → SameButWork two three → SameButWork one three
work_then one two three a b = record { table_same = b.table_same ∙ a.table_same; timers_same = b.timers_same ∙ a.timers_same; same = rest_then one two three a.same b.same; ready_same = b.ready_same ∙ a.ready_same }

pub door_queued : (c : Config) (before after : Sessions) (i : ℕ) (e : ReadyAt) → slice_get before.ready.entries i ≡ Some e → is_program_door c e.place ≡ true → QueuesNamed c (take i before.ready.entries) before after → QueuesNamed c (take (i + 1) before.ready.entries) before after
door_queued c before after i e g door q = record {
  named = λ s n. q.named s (sym (names_same c s before.ready.entries i e g (not_own c s e.place (λ k f. true≢false (sym door ∙ f)))) ∙ n);
  kept = q.kept;
  same = q.same;
}

pub row_queued : (c : Config) (before mid after : Sessions) (i : ℕ) (e : ReadyAt) → slice_get before.ready.entries i ≡ Some e → is_program_door c e.place ≡ false → QueuesNamed c (take i before.ready.entries) before mid → after.work.items ≡ mid.work.items ++ e.place.session ∷ [] → SameButWork mid after → QueuesNamed c (take (i + 1) before.ready.entries) before after
row_queued c before mid after i e g door q w same = record { named = λ s n. go s n (cases_eq s e.place.session); kept = λ s h. more s (q.kept s h); same = work_then before mid after q.same same }
  where
    more : (s : ℕ) → Has s mid.work.items → Has s after.work.items
    more s h = subst (Has s) (sym w) (has_left s mid.work.items (e.place.session ∷ []) h)

    go : (s : ℕ) → names_own c s (take (i + 1) before.ready.entries) ≡ true → (s ≡ e.place.session) ⊎ (s ≡ e.place.session → ⊥) → Has s after.work.items
    go s n (inl k) = subst (λ (x : ℕ). Has x after.work.items) (sym k) (subst (Has e.place.session) (sym w) (has_last e.place.session mid.work.items))
    go s n (inr apart) = more s (q.named s (sym (names_same c s before.ready.entries i e g (not_own c s e.place (λ k f. apart k))) ∙ n))

-- ---- the timers

pub none_moved : (sessions : Sessions) → Moves sessions sessions
none_moved sessions = record { kept = λ s h. h; moved = λ s. inl refl; same = record { table_same = refl; same = rest_itself sessions; ready_same = refl } }

pub lists_then : (one two three : Sessions) → SameButLists one two → SameButLists two three → SameButLists one three
lists_then one two three a b = record { table_same = b.table_same ∙ a.table_same; same = rest_then one two three a.same b.same; ready_same = b.ready_same ∙ a.ready_same }

-- one more has fallen due
pub one_longer : (work more : List ℕ) (k : ℕ) → more ≡ work ++ k ∷ [] → length more ≡ length work + 1
one_longer work more k e = ap length e ∙ length-append work (k ∷ [])

pub one_kept : (s k : ℕ) (work more : List ℕ) → more ≡ work ++ k ∷ [] → Has s work → Has s more
one_kept s k work more w h = subst (Has s) (sym w) (has_left s work (k ∷ []) h)

pub one_moved : (s k : ℕ) (work more : List ℕ) (old mid new : FinMap nat_cmp ℕ) → new ≡ remove mid k → more ≡ work ++ k ∷ [] → (get mid s ≡ get old s) ⊎ (Has s work × (get mid s ≡ None)) → (get new s ≡ get old s) ⊎ (Has s more × (get new s ≡ None))
one_moved s k work more old mid new t w m = go (cases_eq s k) m
  where
    left : s ≢ k → get new s ≡ get mid s
    left apart = rw t (got_left mid k s apart)

    gone : s ≡ k → get new s ≡ None
    gone e = rw t (got_removed mid k s e)

    go : (s ≡ k) ⊎ (s ≡ k → ⊥) → (get mid s ≡ get old s) ⊎ (Has s work × (get mid s ≡ None)) → (get new s ≡ get old s) ⊎ (Has s more × (get new s ≡ None))
    go (inl e) m = inr (subst (λ (x : ℕ). Has x more) (sym e) (subst (Has k) (sym w) (has_last k work)), gone e)
    go (inr apart) (inl e) = inl (left apart ∙ e)
    go (inr apart) (inr h) = inr (one_kept s k work more w h.0, left apart ∙ h.1)

-- the key that has fallen due is taken out
pub fewer_timers : (m : FinMap nat_cmp ℕ) (k at : ℕ) → get m k ≡ Some at → len (remove m k) < len m
fewer_timers m k at e = go (cases_eq (len m) 0)
  where
    there : contains_key m k ≡ true
    there = ap is_some e

    removed : len (remove m k) ≡ len m - 1
    removed = len-remove nat_cmp_total m k ∙ ap (λ b. cond b (len m - 1) (len m)) there

    go : (len m ≡ 0) ⊎ (len m ≡ 0 → ⊥) → len (remove m k) < len m
    go (inl z) = let y : None ≡ Some at = sym (ap (λ (n : FinMap nat_cmp ℕ). get n k) (empty_of_len m z) ∙ get-empty nat_cmp k) ∙ e in let x : ⊥ = cc in absurd x
    go (inr z) = let r = removed in omega (arith, r, z)

pub fewer_by : (m n : FinMap nat_cmp ℕ) (k at : ℕ) → n ≡ remove m k → get m k ≡ Some at → len n < len m
fewer_by m n k at e g = rw e (fewer_timers m k at g)

-- a timer that is due was due before, when no other had been taken out
pub was_due : {P : Type 0} (k at : ℕ) (before mid : Sessions) → at ≤ mid.clock → timer_of mid k ≡ Some at → Moves before mid → NoneDue before → P
was_due {P = P} k at before mid due set moves none = go (moves.moved k)
  where
    go : (timer_of mid k ≡ timer_of before k) ⊎ (Has k mid.work.items × (timer_of mid k ≡ None)) → P
    go (inl e) = (let l = none k at (sym e ∙ set) in let c = moves.same.same.clock_same in let x : ⊥ = omega (arith, due, l, c) in absurd x)
    go (inr h) = (let y : None ≡ Some at = sym h.1 ∙ set in let x : ⊥ = cc in absurd x)

has_more : (s k : ℕ) (work more : List ℕ) → more ≡ work ++ k ∷ [] → Has s more → Has s work ⊎ (s ≡ k)
has_more s k work more e h = go work (subst (Has s) e h)
  where
    go : (xs : List ℕ) → Has s (xs ++ k ∷ []) → Has s xs ⊎ (s ≡ k)
    go [] (inl f) = inr f
    go [] (inr g) = absurd g
    go (x ∷ xs) (inl f) = inl (inl f)
    go (x ∷ xs) (inr g) = later (go xs g)
      where
        later : Has s xs ⊎ (s ≡ k) → Has s (x ∷ xs) ⊎ (s ≡ k)
        later (inl f) = inl (inr f)
        later (inr f) = inr f

-- the one that is put there has waited for a moment that has come
pub one_came : (k at : ℕ) (before mid : Sessions) (more : List ℕ) → at ≤ mid.clock → timer_of mid k ≡ Some at → Moves before mid → more ≡ mid.work.items ++ k ∷ [] → CameInTime before mid → (s : ℕ) → Has s more → Has s before.work.items ⊎ HasCome before before.clock s
one_came k at before mid more due set moves w came s h = go (has_more s k mid.work.items more w h)
  where
    here : (timer_of mid k ≡ timer_of before k) ⊎ (Has k mid.work.items × (timer_of mid k ≡ None)) → HasCome before before.clock k
    here (inl e) = (at, sym e ∙ set, (let c = moves.same.same.clock_same in omega (arith, due, c)))
    here (inr g) = (let y : None ≡ Some at = sym g.1 ∙ set in let x : ⊥ = cc in absurd x)

    go : Has s mid.work.items ⊎ (s ≡ k) → Has s before.work.items ⊎ HasCome before before.clock s
    go (inl g) = came s g
    go (inr e) = inr (subst (HasCome before before.clock) (sym e) (here (moves.moved k)))

any_at : (c : Config) (s : ℕ) (entries : List ReadyAt) (i : ℕ) (e : ReadyAt) → slice_get entries i ≡ Some e → is_own_place c s e.place ≡ true → names_own c s (take (i + 1) entries) ≡ true
any_at c s entries i e g k = names_more c s entries i e g ∙ (ap (λ b. names_own c s (take i entries) || b) k ∙ or_true (names_own c s (take i entries)))
  where
    or_true : (b : Bool) → (b || true) ≡ true
    or_true true = refl
    or_true false = refl

-- the one that is put there is named
pub name_came : (c : Config) (before mid : Sessions) (more : List ℕ) (i : ℕ) (e : ReadyAt) → slice_get before.ready.entries i ≡ Some e → is_program_door c e.place ≡ false → more ≡ mid.work.items ++ e.place.session ∷ [] → CameByName c (take i before.ready.entries) before mid → (s : ℕ) → Has s more → Has s before.work.items ⊎ (names_own c s (take (i + 1) before.ready.entries) ≡ true)
name_came c before mid more i e g d w came s h = go (has_more s e.place.session mid.work.items more w h)
  where
    older : Has s before.work.items ⊎ (names_own c s (take i before.ready.entries) ≡ true) → Has s before.work.items ⊎ (names_own c s (take (i + 1) before.ready.entries) ≡ true)
    older (inl f) = inl f
    older (inr n) = inr (still_named c s before.ready.entries i e g n)

    go : Has s mid.work.items ⊎ (s ≡ e.place.session) → Has s before.work.items ⊎ (names_own c s (take (i + 1) before.ready.entries) ≡ true)
    go (inl f) = older (came s f)
    go (inr f) = inr (any_at c s before.ready.entries i e g (own_from c s e.place (sym f) d))

pub none_came : (c : Config) (before mid : Sessions) (i : ℕ) (e : ReadyAt) → slice_get before.ready.entries i ≡ Some e → CameByName c (take i before.ready.entries) before mid → CameByName c (take (i + 1) before.ready.entries) before mid
none_came c before mid i e g came s h = go (came s h)
  where
    go : Has s before.work.items ⊎ (names_own c s (take i before.ready.entries) ≡ true) → Has s before.work.items ⊎ (names_own c s (take (i + 1) before.ready.entries) ≡ true)
    go (inl f) = inl f
    go (inr n) = inr (still_named c s before.ready.entries i e g n)

-- all of the entries
pub names_all : (c : Config) (before mid : Sessions) (i : ℕ) → CameByName c (take i before.ready.entries) before mid → CameByName c before.ready.entries before mid
names_all c before mid i came s h = go (came s h)
  where
    go : Has s before.work.items ⊎ (names_own c s (take i before.ready.entries) ≡ true) → Has s before.work.items ⊎ (names_own c s before.ready.entries ≡ true)
    go (inl f) = inl f
    go (inr n) = inr (taken c s i before.ready.entries n)

-- ---- all sessions in the list of work

abbrev pub QueuedTo : Option ℕ → Table Row → List ℕ → Type 0
QueuedTo None table work = (s : ℕ) → is_some (row_of table s) ≡ true → Has s work
QueuedTo (Some k) table work = (s : ℕ) → s < k → is_some (row_of table s) ≡ true → Has s work

no_row : {P : Type 0} (row : Option Row) → row ≡ None → is_some row ≡ true → P
no_row row e f = absurd (false≢true (sym (ap is_some e) ∙ f))

pub queued_first : (sessions : Sessions) (first : Option ℕ) → IsFirstLive sessions.table 0 first → QueuedTo first sessions.table sessions.work.items
queued_first sessions None f = λ s e. no_row (row_of sessions.table s) (f s (omega arith)) e
queued_first sessions (Some k) f = λ s b e. no_row (row_of sessions.table s) (f.2 s (omega arith) b) e

pub queued_next : (k : ℕ) (table : Table Row) (work more : List ℕ) (next : Option ℕ) → QueuedTo (Some k) table work → more ≡ work ++ k ∷ [] → IsFirstLive table (k + 1) next → QueuedTo next table more
queued_next k table work more next q w f = go next f
  where
    one : (s : ℕ) → (s < k) ⊎ (k ≤ s) → s < k + 1 → is_some (row_of table s) ≡ true → Has s more
    one s (inl b) l e = subst (Has s) (sym w) (has_left s work (k ∷ []) (q s b e))
    one s (inr b) l e = let same : s ≡ k = omega (arith, b, l) in subst (λ (x : ℕ). Has x more) (sym same) (subst (Has k) (sym w) (has_last k work))

    go : (o : Option ℕ) → IsFirstLive table (k + 1) o → QueuedTo o table more
    go None h = λ s e. each s (cases_lt s (k + 1)) e
      where
        each : (s : ℕ) → (s < k + 1) ⊎ (k + 1 ≤ s) → is_some (row_of table s) ≡ true → Has s more
        each s (inl l) e = one s (cases_lt s k) l e
        each s (inr l) e = no_row (row_of table s) (h s l) e
    go (Some j) h = λ s b e. each s (cases_lt s (k + 1)) b e
      where
        each : (s : ℕ) → (s < k + 1) ⊎ (k + 1 ≤ s) → s < j → is_some (row_of table s) ≡ true → Has s more
        each s (inl l) b e = one s (cases_lt s k) l e
        each s (inr l) b e = no_row (row_of table s) (h.2 s l b) e

-- each once, and only of sessions that live

once_last : (k : ℕ) (xs : List ℕ) → Once xs → (Has k xs → ⊥) → Once (xs ++ k ∷ [])
once_last k [] once absent = (λ h. h, tt)
once_last k (x ∷ xs) once absent = (λ h. go (has_more x k xs (xs ++ k ∷ []) refl h), once_last k xs once.1 (λ h. absent (inr h)))
  where
    go : Has x xs ⊎ (x ≡ k) → ⊥
    go (inl h) = once.0 h
    go (inr e) = absent (inl (sym e))

abbrev pub LivesTo : Option ℕ → Table Row → List ℕ → Type 0
LivesTo None table work = Once work × ((s : ℕ) → Has s work → is_some (row_of table s) ≡ true)
LivesTo (Some k) table work = Once work × (((s : ℕ) → Has s work → (s < k) × (is_some (row_of table s) ≡ true)) × (is_some (row_of table k) ≡ true))

pub lives_first : (sessions : Sessions) (first : Option ℕ) → IsFirstLive sessions.table 0 first → NoWork sessions → LivesTo first sessions.table sessions.work.items
lives_first sessions None f idle = (subst Once (sym idle) tt, λ s h. has_none s sessions.work.items idle h)
lives_first sessions (Some k) f idle = (subst Once (sym idle) tt, (λ s h. has_none s sessions.work.items idle h, f.1))

pub lives_next : (k : ℕ) (table : Table Row) (work more : List ℕ) (next : Option ℕ) → LivesTo (Some k) table work → more ≡ work ++ k ∷ [] → IsFirstLive table (k + 1) next → LivesTo next table more
lives_next k table work more next (once, (below, here)) w f = go next f
  where
    longer : Once more
    longer = subst Once (sym w) (once_last k work once (λ h. let l = (below k h).0 in omega (arith, l)))

    each : (s : ℕ) → Has s work ⊎ (s ≡ k) → (s < k + 1) × (is_some (row_of table s) ≡ true)
    each s (inl h) = (let b = below s h in let l = b.0 in (omega (arith, l), b.1))
    each s (inr e) = (omega (arith, e), subst (λ (x : ℕ). is_some (row_of table x) ≡ true) (sym e) here)

    go : (o : Option ℕ) → IsFirstLive table (k + 1) o → LivesTo o table more
    go None h = (longer, λ s g. (each s (has_more s k work more w g)).1)
    go (Some j) h = (longer, (λ s g. (let b = each s (has_more s k work more w g) in let l = b.0 in let m = h.0 in (omega (arith, l, m), b.1)), h.1))

-- each whose timer fell due

pub due_first : (sessions : Sessions) → AddsDue sessions sessions
due_first sessions = record { due = []; work_is = sym (append-nil sessions.work.items); once = tt; come = λ s h. absurd h; taken = λ s h. absurd h }

pub due_next : (k at : ℕ) (before mid after : Sessions) → at ≤ mid.clock → timer_of mid k ≡ Some at → Moves before mid → after.work.items ≡ mid.work.items ++ k ∷ [] → after.timers.moments ≡ remove mid.timers.moments k → AddsDue before mid → AddsDue before after
due_next k at before mid after due set moves w t d = record {
  due = d.due ++ k ∷ [];
  work_is = w ∙ (ap (λ (xs : List ℕ). xs ++ k ∷ []) d.work_is ∙ append_assoc before.work.items d.due (k ∷ []));
  once = once_last k d.due d.once (λ h. let y : None ≡ Some at = sym (d.taken k h) ∙ set in let x : ⊥ = cc in x);
  come = λ s h. come s (has_more s k d.due (d.due ++ k ∷ []) refl h);
  taken = λ s h. gone s (cases_eq s k) (has_more s k d.due (d.due ++ k ∷ []) refl h);
}
  where
    here : (timer_of mid k ≡ timer_of before k) ⊎ (Has k mid.work.items × (timer_of mid k ≡ None)) → HasCome before before.clock k
    here (inl e) = (at, sym e ∙ set, (let c = moves.same.same.clock_same in omega (arith, due, c)))
    here (inr g) = (let y : None ≡ Some at = sym g.1 ∙ set in let x : ⊥ = cc in absurd x)

    come : (s : ℕ) → Has s d.due ⊎ (s ≡ k) → HasCome before before.clock s
    come s (inl h) = d.come s h
    come s (inr e) = subst (HasCome before before.clock) (sym e) (here (moves.moved k))

    gone : (s : ℕ) → (s ≡ k) ⊎ (s ≡ k → ⊥) → Has s d.due ⊎ (s ≡ k) → timer_of after s ≡ None
    gone s (inl e) h = rw t (got_removed mid.timers.moments k s e)
    gone s (inr apart) (inl h) = rw t (got_left mid.timers.moments k s apart) ∙ d.taken s h
    gone s (inr apart) (inr e) = absurd (apart e)

pub due_kept : (before mid after : Sessions) → after.work.items ≡ mid.work.items → after.timers.moments ≡ mid.timers.moments → AddsDue before mid → AddsDue before after
due_kept before mid after w t d = record { due = d.due; work_is = w ∙ d.work_is; once = d.once; come = d.come; taken = λ s h. same_timer s mid after t ∙ d.taken s h }

-- with those that were named
pub parts_of : (before heard named after : Sessions) → SameBesides before heard → length named.work.items ≤ length heard.work.items + length heard.ready.entries → SameButWork heard named → AddsDue named after → AddsParts (length before.ready.entries) before after
parts_of before heard named after h few q d = record {
  named = named.work.items;
  due = d.due;
  work_is = d.work_is;
  few = (let w = ap length h.lists.work_same in let e = ap (λ (l : Listed). length l.entries) h.ready_same in omega (arith, few, w, e));
  once = d.once;
  come = λ s g. (let m = d.come s g in (m.0, sym (same_timer s heard named q.timers_same ∙ same_timer s before heard h.lists.timers_same) ∙ m.1, (let b = m.2 in let l = q.same.clock_same in let k = h.same.clock_same in omega (arith, b, l, k))));
}

-- ---- after a turn

pub on_ok : {A E P Q : Type 0} (r : Result A E) → (P → Q) → OnOk r P → OnOk r Q
on_ok (Ok x) f p = f p
on_ok (Err e) f p = tt

pub all_queued : (c : Config) (before heard named after : Sessions) → SameBesides before heard → QueuesNamed c heard.ready.entries heard named → QueuesDue named after → Queued c before after
all_queued c before heard named after h q d = record {
  named = λ s n. d.moves.kept s (q.named s (ap (λ (l : Listed). names_own c s l.entries) h.ready_same ∙ n));
  moved = λ s. go s (d.moves.moved s);
  ahead = λ s at e. (let k = d.ahead s at e in let l = q.same.same.clock_same in let m = h.same.clock_same in omega (arith, k, l, m));
}
  where
    same : (s : ℕ) → timer_of named s ≡ timer_of before s
    same s = same_timer s heard named q.same.timers_same ∙ same_timer s before heard h.lists.timers_same

    go : (s : ℕ) → (timer_of after s ≡ timer_of named s) ⊎ (Has s after.work.items × (timer_of after s ≡ None)) → (timer_of after s ≡ timer_of before s) ⊎ (Has s after.work.items × (timer_of after s ≡ None))
    go s (inl e) = inl (e ∙ same s)
    go s (inr e) = inr e

-- ---- why each is in the list of work

pub named_came : (c : Config) (before heard named : Sessions) → SameBesides before heard → CameByName c heard.ready.entries heard named → CameForCause c before.ready.entries before named
named_came c before heard named h came s has = go (came s has)
  where
    go : Has s heard.work.items ⊎ (names_own c s heard.ready.entries ≡ true) → Has s before.work.items ⊎ ((names_own c s before.ready.entries ≡ true) ⊎ HasCome before before.clock s)
    go (inl f) = inl (subst (Has s) h.lists.work_same f)
    go (inr n) = inr (inl (sym (ap (λ (l : Listed). names_own c s l.entries) h.ready_same) ∙ n))

pub all_came : (c : Config) (before heard named after : Sessions) → SameBesides before heard → CameByName c heard.ready.entries heard named → SameButWork heard named → CameInTime named after → CameForCause c before.ready.entries before after
all_came c before heard named after h came q due s has = go (due s has)
  where
    go : Has s named.work.items ⊎ HasCome named named.clock s → Has s before.work.items ⊎ ((names_own c s before.ready.entries ≡ true) ⊎ HasCome before before.clock s)
    go (inl f) = named_came c before heard named h came s f
    go (inr d) = inr (inr (d.0, sym (same_timer s heard named q.timers_same ∙ same_timer s before heard h.lists.timers_same) ∙ d.1, (let b = d.2 in let l = q.same.clock_same in let m = h.same.clock_same in omega (arith, b, l, m))))

-- ---- what a turn that names nothing of a session leaves

pub unnamed_own : (c : Config) (s : ℕ) (entries : List ReadyAt) → names_own c s entries ≡ false → own_entries c s entries ≡ []
unnamed_own c s [] e = refl
unnamed_own c s (x ∷ entries) e =
    let p = or_parts (is_own_place c s x.place) (names_own c s entries) e in
    (λ i. cond (p.0 i) (x ∷ own_entries c s entries) (own_entries c s entries)) ∙ unnamed_own c s entries p.1
