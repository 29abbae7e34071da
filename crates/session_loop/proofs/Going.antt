-- How the loop's facts go on from act to act.
use Rattle.std.proofs.Common.{◌≡◌, inl, ℕ, suc, subst, ◌+◌, ◌-◌, ◌*◌, ◌^◌, ◌<◌, ◌≤◌, Bool, true, false, not, ◌||◌, List, [], ◌∷◌, ◌++◌, append_assoc, Option, Some, None, option_map, is_some, IfNone, min, refl, ap, sym, ◌∙◌, arith}
use Rattle.relay_model.specs.declared.acts.Act.{Act}
use Rattle.relay_model.specs.declared.acts.Act.TheVariants as acts
use Rattle.relay_model.specs.declared.acts.Why.{Why}
use Rattle.relay_model.specs.Readiness.{Listed}
use Rattle.relay_model.specs.Holding as holds
use Rattle.relay_model.specs.declared.places.Place.{Place}
use Rattle.relay_model.specs.declared.places.Half.{Half}
use Rattle.relay_model.specs.declared.commands.Config.{Config}
use Rattle.relay_model.specs.declared.places.Side.{Side}
use Rattle.relay_model.specs.Dumps.{dump_of}
use Rattle.relay_model.specs.Journals.{History, Asking}
use Rattle.relay_model.specs.Holding.{Hold, hold_after, standing}
use Rattle.relay_model.specs.History.{turns}
use Rattle.relay_model.specs.Choices.{or_else, only_if}
use Rattle.relay_model.specs.declared.outcomes.RunOutcome.{RunOutcome}
use Rattle.relay_model.specs.declared.outcomes.RunOutcome.TheVariants as whole
use Rattle.relay_model.specs.Outcome.{first_fault}
use Rattle.relay_model.specs.Rest.{Rest, owed, until_of}
use Rattle.world_trait.specs.Recordings.{with_act, with_asking}
use Rattle.relay_model.specs.May.{May}
use Rattle.world_trait.specs.Answers.{Answered, Did, DidNothing, Rose, TurnCounts}
use Rattle.relay_session.specs.declared.sessions.Session.{Session}
use Rattle.relay_session.specs.Sessions.{Stands}
use Rattle.relay_session.specs.Blames.{is_blamed}
use Rattle.relay_session.specs.Told.{stop_turned}
use Rattle.world_trait.specs.Seen.{Seen}
use Rattle.relay_model.specs.Configs.{single, way_from}
use Rattle.session_loop.specs.Commands.{Runnable}
use Rattle.session_loop.specs.Answers.{told_fault}
use Rattle.session_loop.specs.declared.faults.Fault.{Fault}
use Rattle.session_loop.specs.declared.drivers.Driver.{Driver}
use Rattle.session_loop.specs.Courses.{DriverCourse, DriverRun, Somewhere, SomewhereFor, Onward, WaitedLast, WaitsOnce, KeepsFor, TurnsFor, IsOwn, OnlyOwn, Risen, unit_of}
use Rattle.session_driver.specs.Steps.{extend, Acts, DidFor, OwnAsking}
use Rattle.session_driver.specs.Dumpers.{IsDumpSettled, counted_at}
use Rattle.session_driver.specs.Noted.{MeetsUnowed, Notes, note_of}
use Rattle.session_driver.specs.declared.dumpers.Dumper.{Dumper}
use Rattle.session_driver.proofs.Counting.{settled_on}
use Rattle.session_loop.proofs.Noting.{stands_noted}

-- what a world tells goes on by the act
told_act : (act : Act) (past : List Act) (pairs : List Asking) (start : Option History) → option_map (with_act act) (option_map (extend past pairs) start) ≡ option_map (extend (act ∷ past) pairs) start
told_act act past pairs None = refl
told_act act past pairs (Some h) = refl

told_asking : (act : Act) (asking : Asking) (past : List Act) (pairs : List Asking) (start : Option History) → option_map (with_asking act asking) (option_map (extend past pairs) start) ≡ option_map (extend (act ∷ past) (pairs ++ asking ∷ [])) start
told_asking act asking past pairs None = refl
told_asking act asking past pairs (Some h) =
    ap (λ xs. Some (record { acts = act ∷ (past ++ h.acts); asked = xs })) (append_assoc h.asked pairs (asking ∷ []))

own_more : (c : Config) (pairs : List Asking) (asking : Asking) → OnlyOwn c pairs → IsOwn c asking.0 → asking.1 ≡ single c asking.0 → OnlyOwn c (pairs ++ asking ∷ [])
own_more c [] asking own of e = (of, e, tt)
own_more c (pair ∷ pairs) asking own of e = (own.0, own.1, own_more c pairs asking own.2 of e)

pub risen_later : (start before now : ℕ) → start ≤ before → min (before + 1) (2 ^ 64 - 1) ≤ now → Risen start now
risen_later start before now h e = omega arith

pub risen_kept : (start before now : ℕ) → before ≤ now → Risen start before → Risen start now
risen_kept start before now h e = omega arith

unit_small : (t : Bool) → unit_of t ≤ 1
unit_small true = omega arith
unit_small false = omega arith

-- an answer that was heard leaves fewer steps, and so does a cut of what went on
pub rank_heard : (left left' : ℕ) (t t' : Bool) → left' < left → 2 * left' + unit_of t' < 2 * left + unit_of t
rank_heard left left' t t' h = omega (arith, unit_small t')

pub rank_cut : (left left' : ℕ) (t t' : Bool) → left' ≡ left → t ≡ false → t' ≡ true → 2 * left' + unit_of (not t') < 2 * left + unit_of (not t)
rank_cut left left' t t' e f g = rw (e, f, g) (omega arith)

next_turn : (a b k : ℕ) → a ≡ b → k ≡ b + 1 → suc a ≡ k
next_turn a b k e f = omega (arith, e, f)

-- the same run, of other names for its turns and its first fault
pub run_as : (c : Config) (n : ℕ) (start now : Seen) (x : Session) (made made' : ℕ) (failed failed' : Option Fault) (past : List Act) → made' ≡ made → failed' ≡ failed → DriverRun c n start now x made failed past → DriverRun c n start now x made' failed' past
run_as c n start now x made made' failed failed' past em er on =
    let one : DriverRun c n start now x made' failed past = subst (λ (k : ℕ). DriverRun c n start now x k failed past) (sym em) on in
    subst (λ (f : Option Fault). DriverRun c n start now x made' f past) (sym er) one

-- an act that is no turn, with what it makes of the blame and of the first fault
went_on : (c : Config) (n : ℕ) (start old new : Seen) (x x' : Session) (made : ℕ) (failed failed' : Option Fault) (past : List Act) (act : Act) (pairs : List Asking) → DriverRun c n start old x made failed past → new.told ≡ option_map (extend (act ∷ past) pairs) start.told → OnlyOwn c pairs → ((p : Place) → new.held p ≡ hold_after act p (old.held p)) → May c n past act → Stands c n (act ∷ past) 0 x' → turns (act ∷ past) ≡ turns past → stop_turned (act ∷ past) ≡ stop_turned past → told_fault failed' ≡ first_fault c (act ∷ past) 0 → (is_blamed (act ∷ past) ≡ true → Risen start.faults new.faults) → old.faults ≤ new.faults → new.waits ≡ old.waits → old.stops ≤ new.stops → DriverRun c n start new x' made failed' (act ∷ past)
went_on c n start old new x x' made failed failed' past act pairs on told own held may stands et es fault blamed faults waits stops =
    record {
      runnable = on.runnable;
      legal = (may, on.legal);
      stands = stands;
      turned = et ∙ on.turned;
      pairs = pairs;
      own = own;
      told = told;
      holds = λ p. held p ∙ ap (hold_after act p) (on.holds p);
      later = omega (arith, on.later, faults);
      fault = fault;
      blamed = blamed;
      waited = rw waits on.waited;
      few_waits = rw waits on.few_waits;
      later_stops = omega (arith, on.later_stops, stops);
      stopped = rw es (λ h. risen_kept start.stops old.stops new.stops stops (on.stopped h));
    }

blame_risen : (c : Config) (n : ℕ) (start old new : Seen) (x : Session) (made : ℕ) (fault : Option Fault) (past : List Act) (act : Act) (failed : Bool) → DriverRun c n start old x made fault past → Rose old.faults new.faults failed → (failed ≡ false → is_blamed (act ∷ past) ≡ is_blamed past) → is_blamed (act ∷ past) ≡ true → Risen start.faults new.faults
blame_risen c n start old new x made fault past act true on rose blameless h = risen_later start.faults old.faults new.faults on.later (rose.rose refl)
blame_risen c n start old new x made fault past act false on rose blameless h = risen_kept start.faults old.faults new.faults rose.later (on.blamed (sym (blameless refl) ∙ h))

-- an act that the session heard
pub acted_run : (c : Config) (n : ℕ) (start old new : Seen) (x x' : Session) (made : ℕ) (failed failed' : Option Fault) (past : List Act) (act : Act) → DriverRun c n start old x made failed past → Acts c old new x x' act → May c n past act → told_fault failed' ≡ first_fault c (act ∷ past) 0 → DriverRun c n start new x' made failed' (act ∷ past)
acted_run c n start old new x x' made failed failed' past act on a may ef = go a.asked a.did (a.own n past 0 on.stands)
  where
    on_with : (pairs : List Asking) → new.told ≡ option_map (extend (act ∷ past) pairs) start.told → OnlyOwn c pairs → ((p : Place) → new.held p ≡ hold_after act p (old.held p)) → DriverRun c n start new x' made failed' (act ∷ past)
    on_with pairs told own held =
        went_on c n start old new x x' made failed failed' past act pairs on told own held may (a.heard n past 0 on.stands).stands (a.no_turn.turns_same past) (a.no_turn.stops_same past) ef
        (blame_risen c n start old new x made failed past act a.failed on a.rose (λ e. a.blameless e past)) a.rose.later a.waitless.waits a.waitless.stops

    go : (asked : Option Asking) → DidFor asked old new act → OwnAsking c 0 asked → DriverRun c n start new x' made failed' (act ∷ past)
    go None did own = on_with on.pairs (did.told ∙ (ap (option_map (with_act act)) on.told ∙ told_act act past on.pairs start.told)) on.own did.held
    go (Some asking) did own = on_with (on.pairs ++ asking ∷ []) (did.told ∙ (ap (option_map (with_asking act asking)) on.told ∙ told_asking act asking past on.pairs start.told)) (own_more c on.pairs asking on.own (inl (0, own.0, λ _. refl)) own.1) did.held

note_blames : (failed : Bool) (text : List ℕ) (past : List Act) → is_blamed (note_of failed text ∷ past) ≡ is_blamed past
note_blames false text past = refl
note_blames true text past = refl

note_turns : (failed : Bool) (text : List ℕ) (past : List Act) → turns (note_of failed text ∷ past) ≡ turns past
note_turns false text past = refl
note_turns true text past = refl

note_stops : (failed : Bool) (text : List ℕ) (past : List Act) → stop_turned (note_of failed text ∷ past) ≡ stop_turned past
note_stops false text past = refl
note_stops true text past = refl

note_faults : (c : Config) (failed : Bool) (text : List ℕ) (past : List Act) → first_fault c past 0 ≡ first_fault c (note_of failed text ∷ past) 0
note_faults c false text past = refl
note_faults c true text past = refl

may_note : (c : Config) (n : ℕ) (past : List Act) (failed : Bool) (text : List ℕ) → owed c past ≡ Some text → May c n past (note_of failed text)
may_note c n past false text o = o
may_note c n past true text o = o

-- the note of a dump that is owed
pub noted_run : (c : Config) (n : ℕ) (start old new : Seen) (x : Session) (made : ℕ) (failed : Option Fault) (past : List Act) (dumper : Dumper) (p : Place) (bytes text : List ℕ) (note : Notes c old new dumper p bytes) → text ≡ dump_of c.dump (way_from p.side) (counted_at dumper p.side) bytes → owed c past ≡ Some text → DriverRun c n start old x made failed past → DriverRun c n start new x made failed (note_of note.failed text ∷ past)
noted_run c n start old new x made failed past dumper p bytes text note e o on =
    let b = note.failed in
    let act = note_of b text in
    let did : Answered old new (Some act) = subst (λ (t : List ℕ). Answered old new (Some (note_of b t))) (sym e) note.did in
    went_on c n start old new x x made failed failed past act on.pairs on (did.told ∙ (ap (option_map (with_act act)) on.told ∙ told_act act past on.pairs start.told)) on.own did.held (may_note c n past b text o) (stands_noted c n past 0 x b text o on.stands) (note_turns b text past) (note_stops b text past) (on.fault ∙ note_faults c b text past)
    (λ h. risen_kept start.faults old.faults new.faults note.rose.later (on.blamed (sym (note_blames b text past) ∙ h))) note.rose.later note.waitless.waits note.waitless.stops

-- nothing was done, and the session stands for the same acts
pub idled_run : (c : Config) (n : ℕ) (start old new : Seen) (x x' : Session) (made : ℕ) (failed : Option Fault) (past : List Act) → DriverRun c n start old x made failed past → DidNothing old new → Stands c n past 0 x' → old.faults ≤ new.faults → new.waits ≡ old.waits → old.stops ≤ new.stops → DriverRun c n start new x' made failed past
idled_run c n start old new x x' made failed past on did stands faults waits stops =
    record {
      runnable = on.runnable;
      legal = on.legal;
      stands = stands;
      turned = on.turned;
      pairs = on.pairs;
      own = on.own;
      told = did.told ∙ on.told;
      holds = λ p. did.held p ∙ on.holds p;
      later = omega (arith, on.later, faults);
      fault = on.fault;
      blamed = λ h. risen_kept start.faults old.faults new.faults faults (on.blamed h);
      waited = rw waits on.waited;
      few_waits = rw waits on.few_waits;
      later_stops = omega (arith, on.later_stops, stops);
      stopped = λ h. risen_kept start.stops old.stops new.stops stops (on.stopped h);
    }

pub idled : (c : Config) (n : ℕ) (start old new : Seen) (r r' : Driver) (past : List Act) → DriverCourse c n start old r past → DidNothing old new → Stands c n past 0 r'.session → r'.made ≡ r.made → r'.fault ≡ r.fault → IsDumpSettled c past 0 r'.dumper → old.faults ≤ new.faults → new.waits ≡ old.waits → old.stops ≤ new.stops → Onward c n start new r'
idled c n start old new r r' past on did stands em er settled faults waits stops =
    record {
      past = past;
      course = record { run = run_as c n start new r'.session r.made r'.made r.fault r'.fault past em er (idled_run c n start old new r.session r'.session r.made r.fault past on.run did stands faults waits stops); settled = settled };
    }

or_stop : (a b : Bool) {A : Type 0} → (a ≡ true → A) → (b ≡ true → A) → a || b ≡ true → A
or_stop true b f g e = f refl
or_stop false b f g e = g e

-- a turn
pub turned_on : (c : Config) (n : ℕ) (start old new : Seen) (r r' : Driver) (past : List Act) (until : Option ℕ) (at : ℕ) (list : Listed) (stop : Bool) → DriverCourse c n start old r past → Did old new (acts.Turn until at list stop) → turns past < n → Rest c past → until ≡ until_of c past → Stands c n (acts.Turn until at list stop ∷ past) 0 r'.session → r'.made ≡ r.made + 1 → r'.fault ≡ r.fault → r'.dumper ≡ r.dumper → old.faults ≤ new.faults → TurnCounts old new at stop → WaitedLast c n start new r'
turned_on c n start old new r r' past until at list stop course did left rests is_until stands em er ed faults counts =
    let on = course.run in
    record {
      past = acts.Turn until at list stop ∷ past;
      last = refl;
      course = record {
        settled = settled_on c (acts.Turn until at list stop) past 0 r.dumper r'.dumper refl ed course.settled.counted;
        run = record {
          runnable = on.runnable;
          legal = ((course.settled.unowed, record { turns_left = left; rests = rests; is_until = is_until }), on.legal);
          stands = stands;
          turned = next_turn (turns past) r.made r'.made on.turned em;
          pairs = on.pairs;
          own = on.own;
          told = did.told ∙ (ap (option_map (with_act (acts.Turn until at list stop))) on.told ∙ told_act (acts.Turn until at list stop) past on.pairs start.told);
          holds = λ p. did.held p ∙ on.holds p;
          later = omega (arith, on.later, faults);
          fault = ap told_fault er ∙ on.fault;
          blamed = λ h. risen_kept start.faults old.faults new.faults faults (on.blamed h);
          waited = rw (em, counts.waits_is) (omega (arith, on.waited));
          few_waits = rw (em, counts.waits_is) (omega (arith, on.few_waits));
          later_stops = omega (arith, on.later_stops, counts.stops_is.later);
          stopped = or_stop stop (stop_turned past) (λ h. risen_later start.stops old.stops new.stops on.later_stops (counts.stops_is.rose h)) (λ h. risen_kept start.stops old.stops new.stops counts.stops_is.later (on.stopped h));
        };
      };
    }

nil_right : {A : Type 0} (xs : List A) → xs ++ [] ≡ xs
nil_right [] = refl
nil_right (x ∷ xs) = ap (λ ys. x ∷ ys) (nil_right xs)

pub told_nothing : (h : Option History) → h ≡ option_map (extend [] []) h
told_nothing None = refl
told_nothing (Some h) = ap (λ xs. Some (record { acts = h.acts; asked = xs })) (sym (nil_right h.asked))

-- a run that has just begun
pub begun : (c : Config) (n : ℕ) (start : Seen) (r : Driver) → Runnable c → Stands c n [] 0 r.session → r.made ≡ 0 → r.fault ≡ None → ((side : Side) → counted_at r.dumper side ≡ 0) → ((p : Place) → start.held p ≡ holds.Free) → DriverCourse c n start start r []
begun c n start r runnable stands em er counts free =
    record {
      settled = record { unowed = refl; counted = λ dumped side. counts side };
      run = record {
        runnable = runnable;
        legal = tt;
        stands = stands;
        turned = sym em;
        pairs = [];
        own = tt;
        told = told_nothing start.told;
        holds = free;
        later = omega arith;
        fault = ap told_fault er;
        blamed = λ h. cc;
        waited = rw em (omega arith);
        few_waits = rw em (omega arith);
        later_stops = omega arith;
        stopped = λ h. cc;
      };
    }

-- the session was cut, and nothing else happened
pub recut : (c : Config) (n : ℕ) (start now : Seen) (r r' : Driver) (past : List Act) → DriverCourse c n start now r past → Stands c n past 0 r'.session → r'.made ≡ r.made → r'.fault ≡ r.fault → IsDumpSettled c past 0 r'.dumper → DriverCourse c n start now r' past
recut c n start now r r' past course stands em er settled =
    let on = course.run in
    record {
      settled = settled;
      run = record {
        runnable = on.runnable;
        legal = on.legal;
        stands = stands;
        turned = on.turned ∙ sym em;
        pairs = on.pairs;
        own = on.own;
        told = on.told;
        holds = on.holds;
        later = on.later;
        fault = ap told_fault er ∙ on.fault;
        blamed = on.blamed;
        waited = rw em on.waited;
        few_waits = rw em on.few_waits;
        later_stops = on.later_stops;
        stopped = on.stopped;
      };
    }

pub anywhere : (c : Config) (n : ℕ) (now : Seen) (r : Driver) → SomewhereFor c n now r → Somewhere now r
anywhere c n now r at = record { c = c; n = n; start = at.start; past = at.past; course = at.course }

pub kept_for : (c : Config) (n : ℕ) (now now' : Seen) (r r' : Driver) → SomewhereFor c n now r → KeepsFor c now now' r r' → SomewhereFor c n now' r'
kept_for c n now now' r r' at k = let o = k n at.start at.past at.course in record { start = at.start; past = o.past; course = o.course }

pub turned_for : (c : Config) (n : ℕ) (now now' : Seen) (r r' : Driver) → SomewhereFor c n now r → TurnsFor c n now now' r r' → SomewhereFor c n now' r'
turned_for c n now now' r r' at k = let o = k at.start at.past at.course in record { start = at.start; past = o.past; course = o.course }

-- a wait after calls that were kept
pub waited_after : (c : Config) (n : ℕ) (old mid new : Seen) (r r' r'' : Driver) (o : Option Why) → KeepsFor c old mid r r' → IfNone o (WaitsOnce c n mid new r' r'') → IfNone o (WaitsOnce c n old new r r'')
waited_after c n old mid new r r' r'' None k w = λ start past on. let o = k n start past on in w start o.past o.course
waited_after c n old mid new r r' r'' (Some why) k w = tt

pub was_going : (x y : Bool) → (x ≡ true → y ≡ true) → y ≡ false → x ≡ false
was_going true y f e = let k : y ≡ true = f refl in cc
was_going false y f e = refl

-- a world goes on telling, or goes on telling nothing
pub tells_on : {A B : Type 0} (f : A → B) (o : Option A) (n : Option B) → n ≡ option_map f o → is_some n ≡ is_some o
tells_on f None n e = rw e refl
tells_on f (Some h) n e = rw e refl

-- the first fault, after a fault at a place of the session
pub faulted_on : (c : Config) (past : List Act) (o o' : Option RunOutcome) (q : Place) (half : Half) (t : Bool) → o ≡ first_fault c past 0 → o' ≡ or_else o (Some (whole.Faulted q half)) → t ≡ true → o' ≡ or_else (first_fault c past 0) (only_if t (whole.Faulted q half))
faulted_on c past o o' q half t e f g = rw g (rw (sym e) f)

-- a world and a session that are as they were
pub unmoved : (c : Config) (n : ℕ) (start old new : Seen) (r r' : Driver) (past : List Act) → DriverCourse c n start old r past → new ≡ old → r'.session ≡ r.session → r'.made ≡ r.made → r'.fault ≡ r.fault → IsDumpSettled c past 0 r'.dumper → Onward c n start new r'
unmoved c n start old new r r' past on e f em er settled =
    record { past = past; course = subst (λ (x : Seen). DriverCourse c n start x r' past) (sym e) (recut c n start old r r' past on (subst (Stands c n past 0) (sym f) on.run.stands) em er settled) }

-- the session of the loop stands for a history that the world stands for, after which no dump is owed
pub meets : (c : Config) (n : ℕ) (now : Seen) (r : Driver) → SomewhereFor c n now r → MeetsUnowed c now r.session
meets c n now r at =
    let on = at.course.run in
    record { meets = record { n = n; past = at.past; s = 0; legal = on.legal; stands = on.stands; start = at.start.told; pairs = on.pairs; told = on.told; holds = on.holds }; unowed = at.course.settled.unowed }
