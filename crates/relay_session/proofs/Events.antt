-- The events that end a session, and what they say of its cause.
use Rattle.std.proofs.Common.{◌≡◌, refl, subst, Bool, true, false, not, cond, ◌&&◌, ◌||◌, List, [], ◌∷◌, Option, Some, None}
use Rattle.relay_model.specs.declared.commands.Config.{Config}
use Rattle.relay_model.specs.declared.acts.Act.{Act}
use Rattle.relay_model.specs.declared.acts.Why.{Why}
use Rattle.relay_model.specs.declared.acts.Why.TheVariants as whys
use Rattle.relay_model.specs.Choices.{only_if, first_some}
use Rattle.relay_model.specs.History.{now, same_why, memory_said, stop_said}
use Rattle.relay_model.specs.Moments.{done, broken, closing_moment, idle_moment, reached}
use Rattle.relay_model.specs.Openings.{ready}
use Rattle.relay_model.specs.Cause.{cause, closed_why, accept_failed_for, listening_failed, opening_failed, fault_stands, each_formed, some_formed, finished}

abbrev pub event_of : Bool → Bool → Bool → Bool → Bool → Bool → Option Why
event_of memory stop accepting listening opening fault =
    first_some (only_if memory whys.Memory
    ∷ only_if stop whys.Stopped
    ∷ only_if accepting whys.AcceptFailed
    ∷ only_if listening whys.ListenFailed
    ∷ only_if opening whys.OpenFailed
    ∷ only_if fault whys.Faulted
    ∷ [])

-- the first of the events that end the session, if there is one; with `-s` a fault is none
abbrev pub event_cause : Config → List Act → Option Why
event_cause c past = event_of (memory_said past) (stop_said past) (accept_failed_for c past 0) (listening_failed c past 0) (opening_failed c past 0) (not c.sloppy && fault_stands c past 0)

-- the event that stands behind a reason, with or without `-s`
abbrev pub event_part : Bool → Why → Option Why
event_part sloppy whys.Memory = Some whys.Memory
event_part sloppy whys.Stopped = Some whys.Stopped
event_part sloppy whys.AcceptFailed = Some whys.AcceptFailed
event_part sloppy whys.ListenFailed = Some whys.ListenFailed
event_part sloppy whys.OpenFailed = Some whys.OpenFailed
event_part sloppy whys.Faulted = only_if (not sloppy) whys.Faulted
event_part sloppy why = None

-- ---- the cause agrees with the events, where an earlier closing does

at_why : (sloppy : Bool) (k : Option Why) (one why : Why) → k ≡ event_part sloppy one → Some one ≡ Some why → k ≡ event_part sloppy why
at_why sloppy k one why h e = let w : one ≡ why = cc in subst (λ x. k ≡ event_part sloppy x) w h

events : (closed : Option Why) (m t a l o sloppy all_done fault fi cl id : Bool) (why : Why) →
    (closed ≡ Some why → event_of m t a l o (not sloppy && fault) ≡ event_part sloppy why) →
    first_some (closed ∷ only_if m whys.Memory ∷ only_if t whys.Stopped ∷ only_if a whys.AcceptFailed ∷ only_if l whys.ListenFailed ∷ only_if o whys.OpenFailed ∷ only_if (cond sloppy all_done fault) whys.Faulted ∷ only_if fi whys.Finished ∷ only_if cl whys.ClosingTime ∷ only_if id whys.Idle ∷ []) ≡ Some why →
    event_of m t a l o (not sloppy && fault) ≡ event_part sloppy why
events (Some one) m t a l o sloppy all_done fault fi cl id why h e = h e
events None true t a l o sloppy all_done fault fi cl id why h e = at_why sloppy _ whys.Memory why refl e
events None false true a l o sloppy all_done fault fi cl id why h e = at_why sloppy _ whys.Stopped why refl e
events None false false true l o sloppy all_done fault fi cl id why h e = at_why sloppy _ whys.AcceptFailed why refl e
events None false false false true o sloppy all_done fault fi cl id why h e = at_why sloppy _ whys.ListenFailed why refl e
events None false false false false true sloppy all_done fault fi cl id why h e = at_why sloppy _ whys.OpenFailed why refl e
events None false false false false false true true fault fi cl id why h e = at_why true _ whys.Faulted why refl e
events None false false false false false true false fault true cl id why h e = at_why true _ whys.Finished why refl e
events None false false false false false true false fault false true id why h e = at_why true _ whys.ClosingTime why refl e
events None false false false false false true false fault false false true why h e = at_why true _ whys.Idle why refl e
events None false false false false false true false fault false false false why h e = cc
events None false false false false false false all_done true fi cl id why h e = at_why false _ whys.Faulted why refl e
events None false false false false false false all_done false true cl id why h e = at_why false _ whys.Finished why refl e
events None false false false false false false all_done false false true id why h e = at_why false _ whys.ClosingTime why refl e
events None false false false false false false all_done false false false true why h e = at_why false _ whys.Idle why refl e
events None false false false false false false all_done false false false false why h e = cc

pub cause_event : (c : Config) (past : List Act) (why : Why) → (closed_why c past 0 ≡ Some why → event_cause c past ≡ event_part c.sloppy why) → cause c past 0 ≡ Some why → event_cause c past ≡ event_part c.sloppy why
cause_event c past why h e =
    events (closed_why c past 0) (memory_said past) (stop_said past) (accept_failed_for c past 0) (listening_failed c past 0) (opening_failed c past 0) c.sloppy (ready c past 0 && each_formed c (done c past 0) && some_formed c (broken c past 0)) (fault_stands c past 0) (finished c past 0) (ready c past 0 && reached (closing_moment c past 0) (now past)) (ready c past 0 && reached (idle_moment c past 0) (now past)) why h e

-- ---- a closing

-- a closing for a reason that the events give leaves them so
pub closed_event : (sloppy m t a l o f : Bool) (why : Why) → event_of m t a l o f ≡ event_part sloppy why → event_of (same_why why whys.Memory || m) (same_why why whys.Stopped || t) a l o f ≡ event_part sloppy why
closed_event sloppy m t a l o f whys.Memory e = refl
closed_event sloppy true t a l o f whys.Stopped e = cc
closed_event sloppy false t a l o f whys.Stopped e = refl
closed_event sloppy m t a l o f whys.Finished e = e
closed_event sloppy m t a l o f whys.ClosingTime e = e
closed_event sloppy m t a l o f whys.Idle e = e
closed_event sloppy m t a l o f whys.Faulted e = e
closed_event sloppy m t a l o f whys.OpenFailed e = e
closed_event sloppy m t a l o f whys.ListenFailed e = e
closed_event sloppy m t a l o f whys.AcceptFailed e = e
closed_event sloppy m t a l o f whys.Refused e = e
closed_event sloppy m t a l o f whys.Served e = e

-- ---- what stands behind each event

-- the events that come before one aren't there
abbrev pub CauseStands : Option Why → Bool → Bool → Bool → Bool → Bool → Type 0
CauseStands (Some whys.Memory) m t a l o = m ≡ true
CauseStands (Some whys.Stopped) m t a l o = (m ≡ false) × (t ≡ true)
CauseStands (Some whys.AcceptFailed) m t a l o = (m ≡ false) × (t ≡ false) × (a ≡ true)
CauseStands (Some whys.ListenFailed) m t a l o = (m ≡ false) × (t ≡ false) × (a ≡ false) × (l ≡ true)
CauseStands (Some whys.OpenFailed) m t a l o = (m ≡ false) × (t ≡ false) × (a ≡ false) × (l ≡ false) × (o ≡ true)
CauseStands other m t a l o = (m ≡ false) × (t ≡ false) × (a ≡ false) × (l ≡ false) × (o ≡ false)

pub stands : (m t a l o f : Bool) → CauseStands (event_of m t a l o f) m t a l o
stands true t a l o f = refl
stands false true a l o f = (refl, refl)
stands false false true l o f = (refl, refl, refl)
stands false false false true o f = (refl, refl, refl, refl)
stands false false false false true f = (refl, refl, refl, refl, refl)
stands false false false false false true = (refl, refl, refl, refl, refl)
stands false false false false false false = (refl, refl, refl, refl, refl)

-- what the history says where it agrees with a reason
abbrev pub EventStands : Config → List Act → Why → Type 0
EventStands c past why = CauseStands (event_part c.sloppy why) (memory_said past) (stop_said past) (accept_failed_for c past 0) (listening_failed c past 0) (opening_failed c past 0)

pub event_stands : (c : Config) (past : List Act) (why : Why) → event_cause c past ≡ event_part c.sloppy why → EventStands c past why
event_stands c past why e =
    subst (λ k. CauseStands k (memory_said past) (stop_said past) (accept_failed_for c past 0) (listening_failed c past 0) (opening_failed c past 0)) e
    (stands (memory_said past) (stop_said past) (accept_failed_for c past 0) (listening_failed c past 0) (opening_failed c past 0) (not c.sloppy && fault_stands c past 0))
