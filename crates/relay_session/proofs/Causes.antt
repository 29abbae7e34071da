-- Why a session ends, from what the state tells; and what licenses its closings.
use Rattle.std.proofs.Common.{◌≡◌, refl, sym, ap, ◌∙◌, ℕ, Bool, true, false, not, cond, ◌&&◌, List, [], ◌∷◌, Option, Some, None, inl, inr}
use Rattle.std.proofs.lemmas.Bool.{false≢true}
use Rattle.relay_model.specs.declared.places.Place.{Place}
use Rattle.relay_model.specs.declared.commands.Config.{Config}
use Rattle.relay_model.specs.declared.acts.Act.{Act}
use Rattle.relay_model.specs.declared.acts.Act.TheVariants.{Closed}
use Rattle.relay_model.specs.declared.acts.Why.{Why}
use Rattle.relay_model.specs.declared.acts.Why.TheVariants as whys
use Rattle.relay_model.specs.Choices.{only_if, or_else, first_some}
use Rattle.relay_model.specs.Configs.{has_fork, is_of, is_left, is_program_door, things, places}
use Rattle.relay_model.specs.History.{now, memory_said, stop_said}
use Rattle.relay_model.specs.Moments.{passed, closing_moment, idle_moment, reached}
use Rattle.relay_model.specs.Sessions.{live}
use Rattle.relay_model.specs.Openings.{ready, first_call}
use Rattle.relay_model.specs.Cause.{cause, closed_why, accept_failed_for, listening_failed, opening_failed, faulted, finished, each_formed, is_end}
use Rattle.relay_model.specs.Calls.{call, called_at}
use Rattle.relay_model.specs.May.{Licensed, by_cause, by_memory, by_turns}
use Rattle.relay_laws.proofs.OwnThings.{each_thing, among_own}
use Rattle.relay_session.specs.Endings.{Quiet, cause_by_itself, Ends, EndingIs}

-- the order of the causes by which a session ends by itself
ordered : (lf of fa rdy pas clo idl : Bool) (A B C D E F : Why) →
    first_some (None ∷ only_if false A ∷ only_if false A ∷ only_if false A ∷ only_if lf A ∷ only_if of B ∷ only_if fa C ∷ only_if (rdy && pas) D ∷ only_if (rdy && clo) E ∷ only_if (rdy && idl) F ∷ [])
    ≡ or_else (or_else (only_if lf A) (only_if of B)) (cond fa (Some C) (cond rdy (first_some (only_if pas D ∷ only_if clo E ∷ only_if idl F ∷ [])) None))
ordered true of fa rdy pas clo idl A B C D E F = refl
ordered false true fa rdy pas clo idl A B C D E F = refl
ordered false false true rdy pas clo idl A B C D E F = refl
ordered false false false true pas clo idl A B C D E F = refl
ordered false false false false pas clo idl A B C D E F = refl

pub cause_of_quiet : (c : Config) (past : List Act) (s : ℕ) → Quiet c past s → cause c past s ≡ cause_by_itself c past s
cause_of_quiet c past s q =
    rw (q.unclosed, q.remembered, q.unstopped, q.accepts)
    (ordered (listening_failed c past s) (opening_failed c past s) (faulted c past s) (ready c past s) (each_formed c (passed c past s)) (reached (closing_moment c past s) (now past)) (reached (idle_moment c past s) (now past)) whys.ListenFailed whys.OpenFailed whys.Faulted whys.Finished whys.ClosingTime whys.Idle)

-- an ending that is known to be the cause
pub ending_of : (c : Config) (n : ℕ) (past : List Act) (s : ℕ) (e : Option Why) → e ≡ cause c past s → Quiet c past s → EndingIs c n past s e
ending_of c n past s None h q = (q, sym h)
ending_of c n past s (Some why) h q = inl (sym h)

and_false : (a b : Bool) → b ≡ false → (a && b) ≡ false
and_false true b e = e
and_false false b e = refl

pub own_session : (c : Config) (s : ℕ) (q : Place) → is_of c s q ≡ true → q.session ≡ s
own_session c s q e = (among_own c s q (things c s) (each_thing c s) e).0

pub no_program_door : (c : Config) (q : Place) → has_fork c ≡ false → is_program_door c q ≡ false
no_program_door c q e = and_false _ (has_fork c) e

-- without `fork` the one session is live, and calls for what its first place that isn't ready does
pub lives : (c : Config) (past : List Act) (s : ℕ) → has_fork c ≡ false → s ≡ 0 → live c past s ≡ true
lives c past s e f = rw (e, f) refl

pub call_of : (c : Config) (past : List Act) (s : ℕ) → has_fork c ≡ false → s ≡ 0 → cause c past s ≡ None → call c past s ≡ first_call c past (places c s)
call_of c past s e f g = rw (lives c past s e f, g) refl

pub called_of : (c : Config) (past : List Act) (s : ℕ) (p : Place) → has_fork c ≡ false → p.session ≡ s → called_at c past p ≡ call c past s
called_of c past s p e f = rw (and_false (is_left p) (has_fork c) e) (ap (call c past) f)

pub licensed_by : (c : Config) (n : ℕ) (past : List Act) (s : ℕ) (q : Place) (why : Why) → is_of c s q ≡ true → Ends c n past s why → Licensed c n past q why
licensed_by c n past s q why own (inl e) = by_cause (among_own c s q (things c s) (each_thing c s) own).1 (ap (cause c past) (own_session c s q own) ∙ e)
licensed_by c n past s q why own (inr (inl e)) = by_memory e.0 (inr (ap (closed_why c past) (own_session c s q own) ∙ e.1))
licensed_by c n past s q why own (inr (inr e)) = by_turns e.0 e.1 e.2

-- ---- closings

pub plain_end : (d : Bool) → not (d && false) ≡ true
plain_end true = refl
plain_end false = refl

-- a cause that isn't an earlier closing's ends the session at its closing too
pub ends_at : (q : Place) (lf of fa fi cl id mem sto acc : Bool) (why : Why) →
    first_some (None ∷ only_if mem whys.Memory ∷ only_if sto whys.Stopped ∷ only_if acc whys.AcceptFailed ∷ only_if lf whys.ListenFailed ∷ only_if of whys.OpenFailed ∷ only_if fa whys.Faulted ∷ only_if fi whys.Finished ∷ only_if cl whys.ClosingTime ∷ only_if id whys.Idle ∷ []) ≡ Some why →
    is_end q why ≡ true
ends_at q lf of fa fi cl id mem sto acc whys.Finished e = plain_end q.door
ends_at q lf of fa fi cl id mem sto acc whys.ClosingTime e = plain_end q.door
ends_at q lf of fa fi cl id mem sto acc whys.Idle e = plain_end q.door
ends_at q lf of fa fi cl id mem sto acc whys.Faulted e = plain_end q.door
ends_at q lf of fa fi cl id mem sto acc whys.OpenFailed e = plain_end q.door
ends_at q lf of fa fi cl id mem sto acc whys.ListenFailed e = plain_end q.door
ends_at q lf of fa fi cl id mem sto acc whys.AcceptFailed e = plain_end q.door
ends_at q lf of fa fi cl id mem sto acc whys.Stopped e = plain_end q.door
ends_at q lf of fa fi cl id mem sto acc whys.Memory e = plain_end q.door
ends_at q lf of fa fi cl id mem sto acc whys.Refused e = absurd (never lf of fa fi cl id mem sto acc e)
  where
    never : (lf of fa fi cl id mem sto acc : Bool) → first_some (None ∷ only_if mem whys.Memory ∷ only_if sto whys.Stopped ∷ only_if acc whys.AcceptFailed ∷ only_if lf whys.ListenFailed ∷ only_if of whys.OpenFailed ∷ only_if fa whys.Faulted ∷ only_if fi whys.Finished ∷ only_if cl whys.ClosingTime ∷ only_if id whys.Idle ∷ []) ≡ Some whys.Refused → ⊥
    never lf of fa fi cl id true sto acc e = cc
    never lf of fa fi cl id false true acc e = cc
    never lf of fa fi cl id false false true e = cc
    never true of fa fi cl id false false false e = cc
    never false true fa fi cl id false false false e = cc
    never false false true fi cl id false false false e = cc
    never false false false true cl id false false false e = cc
    never false false false false true id false false false e = cc
    never false false false false false true false false false e = cc
    never false false false false false false false false false e = cc
ends_at q lf of fa fi cl id mem sto acc whys.Served e = absurd (never lf of fa fi cl id mem sto acc e)
  where
    never : (lf of fa fi cl id mem sto acc : Bool) → first_some (None ∷ only_if mem whys.Memory ∷ only_if sto whys.Stopped ∷ only_if acc whys.AcceptFailed ∷ only_if lf whys.ListenFailed ∷ only_if of whys.OpenFailed ∷ only_if fa whys.Faulted ∷ only_if fi whys.Finished ∷ only_if cl whys.ClosingTime ∷ only_if id whys.Idle ∷ []) ≡ Some whys.Served → ⊥
    never lf of fa fi cl id true sto acc e = cc
    never lf of fa fi cl id false true acc e = cc
    never lf of fa fi cl id false false true e = cc
    never true of fa fi cl id false false false e = cc
    never false true fa fi cl id false false false e = cc
    never false false true fi cl id false false false e = cc
    never false false false true cl id false false false e = cc
    never false false false false true id false false false e = cc
    never false false false false false true false false false e = cc
    never false false false false false false false false false e = cc

-- after a closing for a reason that a session ends for, that is its cause
closed_for : (c : Config) (past : List Act) (s : ℕ) (q : Place) (why : Why) → is_of c s q ≡ true → is_end q why ≡ true → cause c (Closed q why ∷ past) s ≡ Some why
closed_for c past s q why own e = go (is_of c s q && is_end q why) (rw (own, e) refl)
  where
    go : (b : Bool) → b ≡ true → or_else (cond b (Some why) (closed_why c past s)) (first_some (only_if (memory_said (Closed q why ∷ past)) whys.Memory ∷ only_if (stop_said (Closed q why ∷ past)) whys.Stopped ∷ only_if (accept_failed_for c (Closed q why ∷ past) s) whys.AcceptFailed ∷ only_if (listening_failed c (Closed q why ∷ past) s) whys.ListenFailed ∷ only_if (opening_failed c (Closed q why ∷ past) s) whys.OpenFailed ∷ only_if (faulted c (Closed q why ∷ past) s) whys.Faulted ∷ only_if (finished c (Closed q why ∷ past) s) whys.Finished ∷ only_if (ready c (Closed q why ∷ past) s && reached (closing_moment c (Closed q why ∷ past) s) (now past)) whys.ClosingTime ∷ only_if (ready c (Closed q why ∷ past) s && reached (idle_moment c (Closed q why ∷ past) s) (now past)) whys.Idle ∷ [])) ≡ Some why
    go true f = refl
    go false f = absurd (false≢true f)

-- the same where the session has that cause from an earlier closing
closed_again : (c : Config) (past : List Act) (s : ℕ) (q : Place) (why : Why) → closed_why c past s ≡ Some why → cause c (Closed q why ∷ past) s ≡ Some why
closed_again c past s q why e = go (is_of c s q && is_end q why) (closed_why c past s) e
  where
    go : (b : Bool) (w : Option Why) → w ≡ Some why → or_else (cond b (Some why) w) (first_some (only_if (memory_said (Closed q why ∷ past)) whys.Memory ∷ only_if (stop_said (Closed q why ∷ past)) whys.Stopped ∷ only_if (accept_failed_for c (Closed q why ∷ past) s) whys.AcceptFailed ∷ only_if (listening_failed c (Closed q why ∷ past) s) whys.ListenFailed ∷ only_if (opening_failed c (Closed q why ∷ past) s) whys.OpenFailed ∷ only_if (faulted c (Closed q why ∷ past) s) whys.Faulted ∷ only_if (finished c (Closed q why ∷ past) s) whys.Finished ∷ only_if (ready c (Closed q why ∷ past) s && reached (closing_moment c (Closed q why ∷ past) s) (now past)) whys.ClosingTime ∷ only_if (ready c (Closed q why ∷ past) s && reached (idle_moment c (Closed q why ∷ past) s) (now past)) whys.Idle ∷ [])) ≡ Some why
    go true w f = refl
    go false (Some other) f = f
    go false None f = cc

-- whatever a session ends for is its cause after a closing for it
pub closed_cause : (c : Config) (n : ℕ) (past : List Act) (s : ℕ) (q : Place) (why : Why) → is_of c s q ≡ true → Ends c n past s why → cause c (Closed q why ∷ past) s ≡ Some why
closed_cause c n past s q why own (inl e) = go (closed_why c past s) refl
  where
    go : (w : Option Why) → closed_why c past s ≡ w → cause c (Closed q why ∷ past) s ≡ Some why
    go (Some other) f = closed_again c past s q why (f ∙ sym (ap (λ x. or_else x (first_some (only_if (memory_said past) whys.Memory ∷ only_if (stop_said past) whys.Stopped ∷ only_if (accept_failed_for c past s) whys.AcceptFailed ∷ only_if (listening_failed c past s) whys.ListenFailed ∷ only_if (opening_failed c past s) whys.OpenFailed ∷ only_if (faulted c past s) whys.Faulted ∷ only_if (finished c past s) whys.Finished ∷ only_if (ready c past s && reached (closing_moment c past s) (now past)) whys.ClosingTime ∷ only_if (ready c past s && reached (idle_moment c past s) (now past)) whys.Idle ∷ []))) f) ∙ e)
    go None f = closed_for c past s q why own (ends_at q (listening_failed c past s) (opening_failed c past s) (faulted c past s) (finished c past s) (ready c past s && reached (closing_moment c past s) (now past)) (ready c past s && reached (idle_moment c past s) (now past)) (memory_said past) (stop_said past) (accept_failed_for c past s) why (rw f at e))
closed_cause c n past s q why own (inr (inl e)) = rw e.0 (closed_for c past s q whys.Memory own (plain_end q.door))
closed_cause c n past s q why own (inr (inr e)) = rw e.0 (closed_for c past s q whys.Stopped own (plain_end q.door))
