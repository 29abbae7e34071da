-- Acts that end no session from outside, and what a fault leaves.
use Rattle.std.proofs.Common.{◌≡◌, refl, sym, ℕ, Bool, true, false, not, cond, ◌&&◌, ◌||◌, List, [], ◌∷◌, Option, Some, None, is_some, inl, inr, ◌⊎◌}
use Rattle.std.specs.List.{list_any}
use Rattle.std.proofs.lemmas.Bool.{false≢true, or_cases}
use Rattle.relay_model.specs.declared.places.Place.{Place}
use Rattle.relay_model.specs.declared.commands.Config.{Config}
use Rattle.relay_model.specs.declared.acts.Why.{Why}
use Rattle.relay_model.specs.declared.acts.Why.TheVariants as whys
use Rattle.relay_model.specs.declared.acts.Act.{Act}
use Rattle.relay_model.specs.declared.acts.Act.TheVariants.{Turn, Opened, OpenLater, OpenFailed, Listening, ListenFailed, Accepted, NoPeer, AcceptFailed, Read, ReadEmpty, ReadEnd, ReadNotYet, ReadFault, Wrote, WriteNotYet, WriteFault, Shut, ShutFault, Closed, Reaped, Note, NoteFault}
use Rattle.relay_model.specs.Places.{same_place}
use Rattle.relay_model.specs.Configs.{places, is_of, is_place_of, own_doors, has_fork}
use Rattle.relay_model.specs.History.{now, same_why, accept_failed, read_fault_at, write_fault_at}
use Rattle.relay_model.specs.Cause.{closed_why, is_end, fault_at, fault_stands}
use Rattle.relay_session.specs.Endings.{Quiet}

abbrev pub keeps_quiet : Act → Bool
keeps_quiet (Turn until at ready stop) = not stop
keeps_quiet (AcceptFailed d) = false
keeps_quiet (Closed q why) = false
keeps_quiet act = true

pub quiet_after : (c : Config) (past : List Act) (s : ℕ) (act : Act) → keeps_quiet act ≡ true → Quiet c past s → Quiet c (act ∷ past) s
quiet_after c past s (Turn until at ready true) e q = absurd (false≢true e)
quiet_after c past s (Turn until at ready false) e q = record { unclosed = q.unclosed; remembered = q.remembered; unstopped = q.unstopped; accepts = q.accepts }
quiet_after c past s (Opened p) e q = record { unclosed = q.unclosed; remembered = q.remembered; unstopped = q.unstopped; accepts = q.accepts }
quiet_after c past s (OpenLater p) e q = record { unclosed = q.unclosed; remembered = q.remembered; unstopped = q.unstopped; accepts = q.accepts }
quiet_after c past s (OpenFailed p) e q = record { unclosed = q.unclosed; remembered = q.remembered; unstopped = q.unstopped; accepts = q.accepts }
quiet_after c past s (Listening p) e q = record { unclosed = q.unclosed; remembered = q.remembered; unstopped = q.unstopped; accepts = q.accepts }
quiet_after c past s (ListenFailed p) e q = record { unclosed = q.unclosed; remembered = q.remembered; unstopped = q.unstopped; accepts = q.accepts }
quiet_after c past s (Accepted p peer) e q = record { unclosed = q.unclosed; remembered = q.remembered; unstopped = q.unstopped; accepts = q.accepts }
quiet_after c past s (NoPeer p) e q = record { unclosed = q.unclosed; remembered = q.remembered; unstopped = q.unstopped; accepts = q.accepts }
quiet_after c past s (AcceptFailed p) e q = absurd (false≢true e)
quiet_after c past s (Read p bytes) e q = record { unclosed = q.unclosed; remembered = q.remembered; unstopped = q.unstopped; accepts = q.accepts }
quiet_after c past s (ReadEmpty p) e q = record { unclosed = q.unclosed; remembered = q.remembered; unstopped = q.unstopped; accepts = q.accepts }
quiet_after c past s (ReadEnd p) e q = record { unclosed = q.unclosed; remembered = q.remembered; unstopped = q.unstopped; accepts = q.accepts }
quiet_after c past s (ReadNotYet p) e q = record { unclosed = q.unclosed; remembered = q.remembered; unstopped = q.unstopped; accepts = q.accepts }
quiet_after c past s (ReadFault p) e q = record { unclosed = q.unclosed; remembered = q.remembered; unstopped = q.unstopped; accepts = q.accepts }
quiet_after c past s (Wrote p bytes) e q = record { unclosed = q.unclosed; remembered = q.remembered; unstopped = q.unstopped; accepts = q.accepts }
quiet_after c past s (WriteNotYet p) e q = record { unclosed = q.unclosed; remembered = q.remembered; unstopped = q.unstopped; accepts = q.accepts }
quiet_after c past s (WriteFault p) e q = record { unclosed = q.unclosed; remembered = q.remembered; unstopped = q.unstopped; accepts = q.accepts }
quiet_after c past s (Shut p how) e q = record { unclosed = q.unclosed; remembered = q.remembered; unstopped = q.unstopped; accepts = q.accepts }
quiet_after c past s (ShutFault p how) e q = record { unclosed = q.unclosed; remembered = q.remembered; unstopped = q.unstopped; accepts = q.accepts }
quiet_after c past s (Closed p why) e q = absurd (false≢true e)
quiet_after c past s (Reaped p end) e q = record { unclosed = q.unclosed; remembered = q.remembered; unstopped = q.unstopped; accepts = q.accepts }
quiet_after c past s (Note text) e q = record { unclosed = q.unclosed; remembered = q.remembered; unstopped = q.unstopped; accepts = q.accepts }
quiet_after c past s (NoteFault text) e q = record { unclosed = q.unclosed; remembered = q.remembered; unstopped = q.unstopped; accepts = q.accepts }

no_end : (a : Bool) → (a && false) ≡ false
no_end true = refl
no_end false = refl

kept : (a b : Bool) (why : Why) (before : Option Why) → b ≡ false → before ≡ None → cond (a && b) (Some why) before ≡ None
kept a true why before e h = absurd (false≢true (sym e))
kept true false why before e h = h
kept false false why before e h = h

-- a refused peer's closing, and that of a door that has served, end nothing
pub quiet_closed : (c : Config) (past : List Act) (s : ℕ) (q : Place) (why : Why) → is_end q why ≡ false → same_why why whys.Memory ≡ false → same_why why whys.Stopped ≡ false → Quiet c past s → Quiet c (Closed q why ∷ past) s
quiet_closed c past s p why e m t q =
    record {
      unclosed = kept (is_of c s p) (is_end p why) why (closed_why c past s) e q.unclosed;
      remembered = rw m q.remembered;
      unstopped = rw t q.unstopped;
      accepts = q.accepts;
    }

-- ---- faults

here : (a b d : Bool) → a ≡ true → ((a || b) || d) ≡ true
here true b d e = refl
here false b d e = absurd (false≢true e)

there : (a b d : Bool) → b ≡ true → ((a || b) || d) ≡ true
there true b d e = refl
there false true d e = refl
there false false d e = absurd (false≢true e)

further : (a d : Bool) → d ≡ true → (a || d) ≡ true
further true d e = refl
further false d e = e

is_noted : (b : Bool) (at : ℕ) (before : Option ℕ) → b ≡ true → is_some (cond b (Some at) before) ≡ true
is_noted true at before e = refl
is_noted false at before e = absurd (false≢true e)

read_faulty : (past : List Act) (q : Place) (ps : List Place) → list_any (same_place q) ps ≡ true → list_any (fault_at (ReadFault q ∷ past)) ps ≡ true
read_faulty past q [] e = absurd (false≢true e)
read_faulty past q (p ∷ ps) e =
    go (or_cases (same_place q p) (list_any (same_place q) ps) e) (read_faulty past q ps)
  where
    go : (same_place q p ≡ true) ⊎ (list_any (same_place q) ps ≡ true) → (list_any (same_place q) ps ≡ true → list_any (fault_at (ReadFault q ∷ past)) ps ≡ true) → list_any (fault_at (ReadFault q ∷ past)) (p ∷ ps) ≡ true
    go (inl h) ih = here (is_some (read_fault_at (ReadFault q ∷ past) p)) (is_some (write_fault_at past p)) (list_any (fault_at (ReadFault q ∷ past)) ps) (is_noted (same_place q p) (now past) (read_fault_at past p) h)
    go (inr h) ih = further (fault_at (ReadFault q ∷ past) p) (list_any (fault_at (ReadFault q ∷ past)) ps) (ih h)

write_faulty : (past : List Act) (q : Place) (ps : List Place) → list_any (same_place q) ps ≡ true → list_any (fault_at (WriteFault q ∷ past)) ps ≡ true
write_faulty past q [] e = absurd (false≢true e)
write_faulty past q (p ∷ ps) e =
    go (or_cases (same_place q p) (list_any (same_place q) ps) e) (write_faulty past q ps)
  where
    go : (same_place q p ≡ true) ⊎ (list_any (same_place q) ps ≡ true) → (list_any (same_place q) ps ≡ true → list_any (fault_at (WriteFault q ∷ past)) ps ≡ true) → list_any (fault_at (WriteFault q ∷ past)) (p ∷ ps) ≡ true
    go (inl h) ih = there (is_some (read_fault_at past p)) (is_some (write_fault_at (WriteFault q ∷ past) p)) (list_any (fault_at (WriteFault q ∷ past)) ps) (is_noted (same_place q p) (now past) (write_fault_at past p) h)
    go (inr h) ih = further (fault_at (WriteFault q ∷ past) p) (list_any (fault_at (WriteFault q ∷ past)) ps) (ih h)

-- a fault at a place of the session is one of the session's
pub read_fault_stands : (c : Config) (past : List Act) (s : ℕ) (q : Place) → is_place_of c s q ≡ true → fault_stands c (ReadFault q ∷ past) s ≡ true
read_fault_stands c past s q e = read_faulty past q (places c s) e

pub write_fault_stands : (c : Config) (past : List Act) (s : ℕ) (q : Place) → is_place_of c s q ≡ true → fault_stands c (WriteFault q ∷ past) s ≡ true
write_fault_stands c past s q e = write_faulty past q (places c s) e

-- ---- at the beginning

no_faults : (ps : List Place) → list_any (fault_at []) ps ≡ false
no_faults [] = refl
no_faults (p ∷ ps) = no_faults ps

pub faultless : (c : Config) (s : ℕ) → false ≡ fault_stands c [] s
faultless c s = sym (no_faults (places c s))

none_failed : (ds : List Place) → list_any (accept_failed []) ds ≡ false
none_failed [] = refl
none_failed (d ∷ ds) = none_failed ds

pub quiet_at_first : (c : Config) (s : ℕ) → Quiet c [] s
quiet_at_first c s =
    record {
      unclosed = refl;
      remembered = refl;
      unstopped = refl;
      accepts = neither (has_fork c) (list_any (accept_failed []) (own_doors c s)) (none_failed (own_doors c s));
    }
  where
    neither : (a b : Bool) → b ≡ false → ((a && false) || b) ≡ false
    neither true b e = e
    neither false b e = e
