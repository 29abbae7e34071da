-- Bytes that pass end no session that nothing has ended.
use Rattle.std.proofs.Common.{◌≡◌, refl, sym, ◌∙◌, ℕ, ◌+◌, Bool, true, false, cond, ◌&&◌, nat_lt, nat_le, List, [], ◌∷◌, length, take, Some, None, arith}
use Rattle.std.proofs.lemmas.Bool.{false≢true, false_from_ne_true, leb-true, ltb-true}
use Rattle.relay_model.specs.declared.places.Place.{Place}
use Rattle.relay_model.specs.declared.commands.Config.{Config}
use Rattle.relay_model.specs.declared.acts.Act.{Act}
use Rattle.relay_model.specs.declared.acts.Act.TheVariants as acts
use Rattle.relay_model.specs.declared.acts.Why.TheVariants as whys
use Rattle.relay_model.specs.Choices.{only_if, or_else, first_some}
use Rattle.relay_model.specs.Configs.{is_place_of}
use Rattle.relay_model.specs.History.{now}
use Rattle.relay_model.specs.Moments.{passed, moved_at, closing_moment, idle_moment, is_unfinished, reached}
use Rattle.relay_model.specs.Openings.{ready}
use Rattle.relay_model.specs.Cause.{cause, listening_failed, opening_failed, faulted, fault_stands, each_formed}
use Rattle.relay_session.specs.declared.transfers.Transfer.{Transfer}
use Rattle.relay_session.specs.declared.transfers.Transfer.TheVariants as transfers
use Rattle.relay_session.specs.Endings.{Quiet}
use Rattle.relay_session.specs.Transfers.{transfer_act, MayTransfer, moves_bytes}
use Rattle.relay_session.proofs.Causes.{cause_of_quiet}
use Rattle.relay_session.proofs.Quiet.{quiet_after}
use Rattle.relay_session.proofs.StepLemmas.{noted, offer_own, read_own}

-- a limit that begins now isn't reached
not_idle : (b u : Bool) (idle at : ℕ) → nat_lt 0 idle ≡ b → reached (cond (b && u) (Some (at + idle)) None) at ≡ false
not_idle false u idle at e = refl
not_idle true false idle at e = refl
not_idle true true idle at e = false_from_ne_true (nat_le (at + idle) at) (λ h. let late = leb-true (at + idle) at h in let some = ltb-true 0 idle e in absurd (omega (arith, late, some)))

-- where nothing ends a session, nothing does once its limit of inactivity isn't reached
calm : (lf of fa rdy pas clo idl : Bool) →
    or_else (or_else (only_if lf whys.ListenFailed) (only_if of whys.OpenFailed)) (cond fa (Some whys.Faulted) (cond rdy (first_some (only_if pas whys.Finished ∷ only_if clo whys.ClosingTime ∷ only_if idl whys.Idle ∷ [])) None)) ≡ None →
    or_else (or_else (only_if lf whys.ListenFailed) (only_if of whys.OpenFailed)) (cond fa (Some whys.Faulted) (cond rdy (first_some (only_if pas whys.Finished ∷ only_if clo whys.ClosingTime ∷ only_if false whys.Idle ∷ [])) None)) ≡ None
calm true of fa rdy pas clo idl h = cc
calm false true fa rdy pas clo idl h = cc
calm false false true rdy pas clo idl h = cc
calm false false false false pas clo idl h = refl
calm false false false true true clo idl h = cc
calm false false false true false true idl h = cc
calm false false false true false false idl h = refl

calmed : (lf of fa rdy pas clo idl idl' : Bool) →
    or_else (or_else (only_if lf whys.ListenFailed) (only_if of whys.OpenFailed)) (cond fa (Some whys.Faulted) (cond rdy (first_some (only_if pas whys.Finished ∷ only_if clo whys.ClosingTime ∷ only_if idl whys.Idle ∷ [])) None)) ≡ None → idl' ≡ false →
    or_else (or_else (only_if lf whys.ListenFailed) (only_if of whys.OpenFailed)) (cond fa (Some whys.Faulted) (cond rdy (first_some (only_if pas whys.Finished ∷ only_if clo whys.ClosingTime ∷ only_if idl' whys.Idle ∷ [])) None)) ≡ None
calmed lf of fa rdy pas clo idl idl' h e = rw e (calm lf of fa rdy pas clo idl h)

pub read_ends_none : (c : Config) (past : List Act) (s : ℕ) (p : Place) (bytes : List ℕ) → is_place_of c s p ≡ true → Quiet c past s → cause c past s ≡ None → cause c (acts.Read p bytes ∷ past) s ≡ None
read_ends_none c past s p bytes own q none =
    cause_of_quiet c (acts.Read p bytes ∷ past) s (quiet_after c past s (acts.Read p bytes) refl q)
    ∙ calmed (listening_failed c past s) (opening_failed c past s) (faulted c past s) (ready c past s) (each_formed c (passed c past s)) (reached (closing_moment c past s) (now past)) (reached (idle_moment c past s) (now past)) (reached (idle_moment c (acts.Read p bytes ∷ past) s) (now past))
    (sym (cause_of_quiet c past s q) ∙ none) (rw own (not_idle (nat_lt 0 c.idle) (is_unfinished c past s) c.idle (now past) refl))

pub write_ends_none : (c : Config) (past : List Act) (s : ℕ) (p : Place) (bytes : List ℕ) → is_place_of c s p ≡ true → Quiet c past s → cause c past s ≡ None → cause c (acts.Wrote p bytes ∷ past) s ≡ None
write_ends_none c past s p bytes own q none =
    cause_of_quiet c (acts.Wrote p bytes ∷ past) s (quiet_after c past s (acts.Wrote p bytes) refl q)
    ∙ calmed (listening_failed c past s) (opening_failed c past s) (faulted c past s) (ready c past s) (each_formed c (passed c past s)) (reached (closing_moment c past s) (now past)) (reached (idle_moment c past s) (now past)) (reached (idle_moment c (acts.Wrote p bytes ∷ past) s) (now past))
    (sym (cause_of_quiet c past s q) ∙ none) (rw own (not_idle (nat_lt 0 c.idle) (is_unfinished c past s) c.idle (now past) refl))

-- ---- a transfer that passes bytes

pub passing_ends_none : (c : Config) (past : List Act) (s : ℕ) (p : Place) (waiting : List ℕ) (t : Transfer) → p.session ≡ s → MayTransfer c past p waiting t → moves_bytes t ≡ true → Quiet c past s → cause c past s ≡ None → cause c (transfer_act p waiting t ∷ past) s ≡ None
passing_ends_none c past s p waiting (transfers.Read bytes) own may m q none = read_ends_none c past s p bytes.now (read_own c past s p (length bytes.now) own may) q none
passing_ends_none c past s p waiting (transfers.Wrote count) own may m q none = write_ends_none c past s p (take count waiting) (offer_own c past s p own may.0.offers) q none
passing_ends_none c past s p waiting t own may m q none = absurd (false≢true m)

pub passing_moves : (c : Config) (past : List Act) (s : ℕ) (p : Place) (waiting : List ℕ) (t : Transfer) (clock : ℕ) → p.session ≡ s → MayTransfer c past p waiting t → moves_bytes t ≡ true → clock ≡ now past → clock ≡ moved_at c (transfer_act p waiting t ∷ past) s
passing_moves c past s p waiting (transfers.Read bytes) clock own may m at = noted (is_place_of c s p) (now past) clock (moved_at c past s) (read_own c past s p (length bytes.now) own may) at
passing_moves c past s p waiting (transfers.Wrote count) clock own may m at = noted (is_place_of c s p) (now past) clock (moved_at c past s) (offer_own c past s p own may.0.offers) at
passing_moves c past s p waiting t clock own may m at = absurd (false≢true m)

pub passing_is_faultless : (c : Config) (past : List Act) (s : ℕ) (p : Place) (waiting : List ℕ) (t : Transfer) (before : Bool) → moves_bytes t ≡ true → before ≡ fault_stands c past s → before ≡ fault_stands c (transfer_act p waiting t ∷ past) s
passing_is_faultless c past s p waiting (transfers.Read bytes) before m was = was
passing_is_faultless c past s p waiting (transfers.Wrote count) before m was = was
passing_is_faultless c past s p waiting t before m was = absurd (false≢true m)

pub others_move_nothing : (c : Config) (past : List Act) (s : ℕ) (p : Place) (waiting : List ℕ) (t : Transfer) (before : ℕ) → moves_bytes t ≡ false → before ≡ moved_at c past s → before ≡ moved_at c (transfer_act p waiting t ∷ past) s
others_move_nothing c past s p waiting (transfers.Read bytes) before m was = absurd (false≢true (sym m))
others_move_nothing c past s p waiting (transfers.Wrote count) before m was = absurd (false≢true (sym m))
others_move_nothing c past s p waiting transfers.ReadEmpty before m was = was
others_move_nothing c past s p waiting transfers.ReadEnd before m was = was
others_move_nothing c past s p waiting transfers.ReadNotYet before m was = was
others_move_nothing c past s p waiting transfers.ReadFailed before m was = was
others_move_nothing c past s p waiting transfers.WriteNotYet before m was = was
others_move_nothing c past s p waiting transfers.WriteFailed before m was = was
others_move_nothing c past s p waiting (transfers.Shut how) before m was = was
others_move_nothing c past s p waiting (transfers.ShutFailed how) before m was = was
