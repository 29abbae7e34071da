-- What the closings of the program door make of the run that is ended.
use Rattle.std.proofs.Common.{◌≡◌, refl, sym, ap, subst, ◌∙◌, ℕ, ◌≤◌, ◌⊎◌, inl, inr, Bool, true, false, cond, ◌||◌, List, ◌∷◌, Some, None, is_none, [], ◌++◌, append_assoc}
use Rattle.std.proofs.lemmas.Bool.{false≢true, true≢false, false_from_ne_true}
use Rattle.relay_model.specs.declared.commands.Config.{Config}
use Rattle.relay_model.specs.declared.places.Place.{Place}
use Rattle.relay_model.specs.declared.places.Side.TheVariants.{Left}
use Rattle.relay_model.specs.declared.acts.Act.{Act}
use Rattle.relay_model.specs.declared.acts.Act.TheVariants as acts
use Rattle.relay_model.specs.declared.acts.Why.{Why}
use Rattle.relay_model.specs.declared.acts.Why.TheVariants as whys
use Rattle.relay_model.specs.Places.{same_place}
use Rattle.relay_model.specs.Holding.{is_free}
use Rattle.relay_model.specs.Configs.{has_fork, program_door, parts, things}
use Rattle.relay_model.specs.History.{turns, held, holds_at, stage, memory_said, stop_said}
use Rattle.relay_model.specs.declared.stages.Stage.TheVariants.{Gone}
use Rattle.relay_model.specs.Sessions.{admitted, next_place, first_part}
use Rattle.relay_model.specs.Cause.{cause, closed_why}
use Rattle.relay_model.specs.Rest.{Rest, owed}
use Rattle.relay_model.specs.May.{MayClose, Licensed, by_cause, by_door, for_stop}
use Rattle.relay_laws.proofs.PlaceLemmas.{same_place_equal, same_place_self}
use Rattle.relay_laws.proofs.OwnThings.{place_own}
use Rattle.world_trait.specs.Answers.{Answered}
use Rattle.relay_session.proofs.Possible.{held_taken}
use Rattle.program_door.specs.declared.doors.Door.{Door}
use Rattle.program_door.specs.Stands.{DoorStands}
use Rattle.program_door.specs.Turns.{first_held}
use Rattle.world_trait.specs.Seen.{Waitless}
use Rattle.world_trait.specs.Seen.{Seen}
use Rattle.session_laws.specs.SessionSets.{IsSaid, MaySay}
use Rattle.session_loop.proofs.DrainGoing.{acted_run}
use Rattle.event_loop.specs.declared.all_sessions.Sessions.{Sessions}
use Rattle.event_loop.specs.Endings.{LeavesRow, RunsOut}
use Rattle.event_loop.specs.Turned.{NoneLives}
use Rattle.event_loop.specs.Waited.{Exit, LeavingAt, OwesAtExit}
use Rattle.event_loop.specs.Vacated.{Vacated, SomeVacated, HoldsLess, ClosesFirst, Empty}
use Rattle.event_loop.proofs.Closings.{now_said, may_still}
use Rattle.event_loop.proofs.Emptying.{none_held}

-- ---- what the door holds

apart_at : (c : Config) (past : List Act) → same_place (next_place c past) program_door ≡ false
apart_at c past = false_from_ne_true (same_place (next_place c past) program_door) (λ e. let x : false ≡ true = ap (λ (p : Place). p.door) (same_place_equal (next_place c past) program_door e) in false≢true x)

first_by : (a b : Bool) (p d q : Place) → cond a (Some p) (cond b (Some d) None) ≡ Some q → ((a ≡ true) × (q ≡ p)) ⊎ ((a ≡ false) × (b ≡ true) × (q ≡ d))
first_by true b p d q e = let x : p ≡ q = cc in inl (refl, sym x)
first_by false true p d q e = let x : d ≡ q = cc in inr (refl, refl, sym x)
first_by false false p d q e = let x : ⊥ = cc in absurd x

-- the place of a refused peer, or else the door
pub first_tells : (c : Config) (past : List Act) (q : Place) → first_held c past ≡ Some q → ((held past (next_place c past) ≡ true) × (q ≡ next_place c past)) ⊎ ((held past (next_place c past) ≡ false) × (held past program_door ≡ true) × (q ≡ program_door))
first_tells c past q e = first_by (held past (next_place c past)) (held past program_door) (next_place c past) program_door q e

none_by : (a b : Bool) (p d : Place) → cond a (Some p) (cond b (Some d) None) ≡ None → (a ≡ false) × (b ≡ false)
none_by true b p d e = let x : ⊥ = cc in absurd x
none_by false true p d e = let x : ⊥ = cc in absurd x
none_by false false p d e = (refl, refl)

pub none_tells : (c : Config) (past : List Act) → first_held c past ≡ None → (held past (next_place c past) ≡ false) × (held past program_door ≡ false)
none_tells c past e = none_by (held past (next_place c past)) (held past program_door) (next_place c past) program_door e

pub first_is_held : (c : Config) (past : List Act) (q : Place) → first_held c past ≡ Some q → held past q ≡ true
first_is_held c past q e = go (first_tells c past q e)
  where
    go : ((held past (next_place c past) ≡ true) × (q ≡ next_place c past)) ⊎ ((held past (next_place c past) ≡ false) × (held past program_door ≡ true) × (q ≡ program_door)) → held past q ≡ true
    go (inl k) = ap (held past) k.1 ∙ k.0
    go (inr k) = ap (held past) k.2 ∙ k.1

-- ---- it may be closed

said_cause : (c : Config) (past : List Act) (s : ℕ) → stop_said past ≡ true → memory_said past ≡ false → closed_why c past s ≡ None → cause c past s ≡ Some whys.Stopped
said_cause c past s t m u = rw (u, m, t) refl

unended : (c : Config) (past : List Act) (door : Door) → DoorStands c past door → held past (next_place c past) ≡ true → closed_why c past (admitted c past) ≡ None
unended c past door s h = s.unended (let e : door.refused ≡ true = s.refused_is ∙ h in λ i. e i || is_none door.cut)

stop_licence : (c : Config) (n : ℕ) (past : List Act) (door : Door) (q : Place) → has_fork c ≡ true → DoorStands c past door → IsSaid whys.Stopped past → first_held c past ≡ Some q → Licensed c n past q whys.Stopped
stop_licence c n past door q fork s said e = go (first_tells c past q e)
  where
    go : ((held past (next_place c past) ≡ true) × (q ≡ next_place c past)) ⊎ ((held past (next_place c past) ≡ false) × (held past program_door ≡ true) × (q ≡ program_door)) → Licensed c n past q whys.Stopped
    go (inl k) = subst (λ (p : Place). Licensed c n past p whys.Stopped) (sym k.1) (by_cause (place_own c (admitted c past) Left (first_part (parts c Left))) (said_cause c past (admitted c past) said.0 said.1 (unended c past door s k.0)))
    go (inr k) = subst (λ (p : Place). Licensed c n past p whys.Stopped) (sym k.2) (by_door fork (for_stop refl said.0))

-- what the door tells of its closings
pub record MayCloseFirst (c : Config) (n : ℕ) (past : List Act) (q : Place) : Type 0 where
  pub memory : MayClose c n past q whys.Memory
  pub limit : turns past ≡ n → Rest c past → MayClose c n past q whys.Stopped

-- a stop comes where no dump is owed
unowed_stop : (c : Config) (past : List Act) → OwesAtExit c past whys.Stopped → (owed c past ≡ None) ⊎ (whys.Stopped ≡ whys.Memory)
unowed_stop c past (inl e) = inl e
unowed_stop c past (inr k) = inr k.0

pub may_close : (c : Config) (n : ℕ) (start now : Seen) (past : List Act) (why : Why) (door : Door) (q : Place) → Exit c n start now past why door → first_held c past ≡ Some q → MayCloseFirst c n past q → MayClose c n past q why
may_close c n start now past why door q o e m = go why o.may o.ends o.owes
  where
    go : (w : Why) → MaySay w past → IsSaid w past ⊎ RunsOut c n past w → OwesAtExit c past w → MayClose c n past q w
    go whys.Memory may ends owes = m.memory
    go whys.Stopped may (inl said) owes = record { is_held = first_is_held c past q e; licensed = stop_licence c n past door q o.fork o.stands said e; timely = unowed_stop c past owes }
    go whys.Stopped may (inr (inl k)) owes = let x : ⊥ = cc in absurd x
    go whys.Stopped may (inr (inr k)) owes = m.limit k.1 k.2
    go w may ends owes = absurd may

pub a_stop_or_memory : (past : List Act) (why : Why) → MaySay why past → (why ≡ whys.Stopped) ⊎ (why ≡ whys.Memory)
a_stop_or_memory past whys.Stopped m = inl refl
a_stop_or_memory past whys.Memory m = inr refl
a_stop_or_memory past why m = absurd m

-- ---- it was closed

pub vacated_by : (c : Config) (n : ℕ) (start now : Seen) (past : List Act) (why : Why) (sessions : Sessions) → LeavingAt c n start now past why sessions → NoneLives sessions → Vacated c n start now past why sessions
vacated_by c n start now past why sessions l none = record { exit = l.exit; made_is = l.made_is; none = λ s below. subst (LeavesRow c n past s why) (none s) (l.rows s) below }

-- what a world did by a closing
pub record Closes (old new : Seen) (q : Place) (why : Why) : Type 0 where
  pub did : Answered old new (Some (acts.Closed q why))
  pub later : old.faults ≤ new.faults
  pub waitless : Waitless old new

pub first_closed : (c : Config) (n : ℕ) (start old new : Seen) (past : List Act) (why : Why) (before after : Sessions) (q : Place) → Vacated c n start old past why before → first_held c past ≡ Some q → MayCloseFirst c n past q → Closes old new q why → DoorStands c (acts.Closed q why ∷ past) after.door → after.made ≡ before.made → HoldsLess c n start new past why after
first_closed c n start old new past why before after q v e m w door made =
    let o = v.exit in
    record {
      since = acts.Closed q why ∷ past;
      vacated = record {
        exit = record {
          fork = o.fork;
          run = acted_run c n start old new past (acts.Closed q why) None false o.run w.did tt (may_close c n start old past why before.door q o e m) refl (record { turns_same = λ p. refl; stops_same = λ p. refl }) (record { later = w.later; rose = λ x. absurd (false≢true x) }) (λ x. refl) w.waitless;
          stands = door;
          may = may_still past q why o.may;
          ends = inl (now_said past q why o.may);
          stops = o.stops;
          owes = inl refl;
        };
        made_is = v.made_is ∙ sym made;
        none = λ s below. none_held past q why (things c s) (v.none s below);
      };
      closed = inr (q, e, refl);
    }

pub nothing_first : (c : Config) (n : ℕ) (start now : Seen) (past : List Act) (why : Why) (before after : Sessions) → Vacated c n start now past why before → first_held c past ≡ None → after.door ≡ before.door → after.made ≡ before.made → HoldsLess c n start now past why after
nothing_first c n start now past why before after v e door made = record {
  since = past;
  vacated = record { exit = subst (λ (d : Door). Exit c n start now past why d) (sym door) v.exit; made_is = v.made_is ∙ sym made; none = v.none };
  closed = inl (e, refl);
}

pub taken_first : (now : Seen) (why : Why) (sessions : Sessions) (q : Place) (at : SomeVacated now why sessions) → first_held at.c at.past ≡ Some q → is_free (now.held q) ≡ false
taken_first now why sessions q at e = ap is_free (at.vacated.exit.run.holds q) ∙ held_taken at.c at.n at.past q at.vacated.exit.run.legal (first_is_held at.c at.past q e)

pub some_less : (old new : Seen) (why : Why) (before after : Sessions) → SomeVacated old why before → ClosesFirst old new why before after → SomeVacated new why after
some_less old new why before after at k = let o = k at.c at.n at.start at.past at.vacated in record { c = at.c; n = at.n; start = at.start; past = o.since; vacated = o.vacated }

-- ---- after two closings nothing is left

closed_self : (past : List Act) (q : Place) (why : Why) → held (acts.Closed q why ∷ past) q ≡ false
closed_self past q why = ap (λ b. holds_at (cond b (Gone why) (stage past q))) (same_place_self q)

door_kept : (c : Config) (past : List Act) (why : Why) → held (acts.Closed (next_place c past) why ∷ past) program_door ≡ held past program_door
door_kept c past why = ap (λ b. holds_at (cond b (Gone why) (stage past program_door))) (apart_at c past)

apart_back : (c : Config) (past : List Act) → same_place program_door (next_place c past) ≡ false
apart_back c past = false_from_ne_true (same_place program_door (next_place c past)) (λ e. let x : true ≡ false = ap (λ (p : Place). p.door) (same_place_equal program_door (next_place c past) e) in true≢false x)

next_kept : (c : Config) (past : List Act) (why : Why) → held (acts.Closed program_door why ∷ past) (next_place c past) ≡ held past (next_place c past)
next_kept c past why = ap (λ b. holds_at (cond b (Gone why) (stage past (next_place c past)))) (apart_back c past)

none_of : (c : Config) (past : List Act) → held past (next_place c past) ≡ false → held past program_door ≡ false → first_held c past ≡ None
none_of c past a b = rw (a, b) refl

door_closed : (c : Config) (past : List Act) (why : Why) → held past (next_place c past) ≡ false → first_held c (acts.Closed program_door why ∷ past) ≡ None
door_closed c past why a = none_of c (acts.Closed program_door why ∷ past) (next_kept c past why ∙ a) (closed_self past program_door why)

next_closed : (c : Config) (past : List Act) (why : Why) → held (acts.Closed (next_place c past) why ∷ past) (next_place c past) ≡ false
next_closed c past why = closed_self past (next_place c past) why

-- once the first was closed, no refused peer stands
no_peer_after : (c : Config) (past : List Act) (why : Why) (q : Place) → first_held c past ≡ Some q → held (acts.Closed q why ∷ past) (next_place c past) ≡ false
no_peer_after c past why q e = go (first_tells c past q e)
  where
    go : ((held past (next_place c past) ≡ true) × (q ≡ next_place c past)) ⊎ ((held past (next_place c past) ≡ false) × (held past program_door ≡ true) × (q ≡ program_door)) → held (acts.Closed q why ∷ past) (next_place c past) ≡ false
    go (inl k) = subst (λ (p : Place). held (acts.Closed p why ∷ past) (next_place c past) ≡ false) (sym k.1) (next_closed c past why)
    go (inr k) = subst (λ (p : Place). held (acts.Closed p why ∷ past) (next_place c past) ≡ false) (sym k.2) (next_kept c past why ∙ k.0)

nothing_after : (c : Config) (past : List Act) (why : Why) (q : Place) → held past (next_place c past) ≡ false → first_held c past ≡ Some q → first_held c (acts.Closed q why ∷ past) ≡ None
nothing_after c past why q a e = go (first_tells c past q e)
  where
    go : ((held past (next_place c past) ≡ true) × (q ≡ next_place c past)) ⊎ ((held past (next_place c past) ≡ false) × (held past program_door ≡ true) × (q ≡ program_door)) → first_held c (acts.Closed q why ∷ past) ≡ None
    go (inl k) = absurd (false≢true (sym a ∙ k.0))
    go (inr k) = subst (λ (p : Place). first_held c (acts.Closed p why ∷ past) ≡ None) (sym k.2) (door_closed c past why a)

-- what a closing at most added
less_newer : (c : Config) (n : ℕ) (start now : Seen) (past : List Act) (why : Why) (sessions : Sessions) → (h : HoldsLess c n start now past why sessions) → (newer : List Act) × (h.since ≡ newer ++ past)
less_newer c n start now past why sessions h = go h.closed
  where
    go : ((first_held c past ≡ None) × (h.since ≡ past)) ⊎ ((q : Place) × (first_held c past ≡ Some q) × (h.since ≡ acts.Closed q why ∷ past)) → (newer : List Act) × (h.since ≡ newer ++ past)
    go (inl k) = ([], k.1)
    go (inr k) = (acts.Closed k.0 why ∷ [], k.2)

pub two_closed : (c : Config) (n : ℕ) (start mid new : Seen) (past : List Act) (why : Why) (one two : Sessions) → (first : HoldsLess c n start mid past why one) → HoldsLess c n start new first.since why two → Empty c n start new past why two
two_closed c n start mid new past why one two first second =
    let a = less_newer c n start mid past why one first in
    let b = less_newer c n start new first.since why two second in
    let e : second.since ≡ (b.0 ++ a.0) ++ past = b.1 ∙ ap (λ (xs : List Act). b.0 ++ xs) a.1 ∙ sym (append_assoc b.0 a.0 past) in
    record {
      made = b.0 ++ a.0;
      vacated = subst (λ (xs : List Act). Vacated c n start new xs why two) e second.vacated;
      no_door = sym (ap (first_held c) e) ∙ go first.closed second.closed;
    }
  where
    at : (since : List Act) → second.since ≡ since → first_held c since ≡ None → first_held c second.since ≡ None
    at since e h = ap (first_held c) e ∙ h

    go : ((first_held c past ≡ None) × (first.since ≡ past)) ⊎ ((q : Place) × (first_held c past ≡ Some q) × (first.since ≡ acts.Closed q why ∷ past)) → ((first_held c first.since ≡ None) × (second.since ≡ first.since)) ⊎ ((q : Place) × (first_held c first.since ≡ Some q) × (second.since ≡ acts.Closed q why ∷ first.since)) → first_held c second.since ≡ None
    go k (inl h) = at first.since h.1 h.0
    go (inl k) (inr h) = let x : None ≡ Some h.0 = sym k.0 ∙ sym (ap (first_held c) k.1) ∙ h.1 in let y : ⊥ = cc in absurd y
    go (inr k) (inr h) =
        let free : held first.since (next_place c first.since) ≡ false = subst (λ (l : List Act). held l (next_place c l) ≡ false) (sym k.2) (no_peer_after c past why k.0 k.1) in
        at (acts.Closed h.0 why ∷ first.since) h.2 (nothing_after c first.since why h.0 free h.1)
