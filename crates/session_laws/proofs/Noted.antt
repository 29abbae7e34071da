-- A session stands through the note of a dump.
use Rattle.std.proofs.Common.{◌≡◌, ◌⊎◌, inl, inr, refl, sym, ap, subst, ◌∙◌, ℕ, List, ◌∷◌, Option, Some, None}
use Rattle.relay_model.specs.declared.places.Place.{Place}
use Rattle.relay_model.specs.declared.commands.Config.{Config}
use Rattle.relay_model.specs.declared.acts.Act.{Act}
use Rattle.relay_model.specs.declared.acts.Act.TheVariants as acts
use Rattle.relay_model.specs.declared.acts.Why.{Why}
use Rattle.relay_model.specs.declared.acts.Why.TheVariants as whys
use Rattle.relay_model.specs.Configs.{things}
use Rattle.relay_model.specs.Cause.{cause, closed_why}
use Rattle.relay_model.specs.Rest.{owed}
use Rattle.relay_model.specs.May.{by_memory}
use Rattle.relay_model.specs.Frames.{IsForeign}
use Rattle.relay_laws.proofs.OwnThings.{each_thing, among_own}
use Rattle.relay_session.specs.declared.states.State.{State}
use Rattle.relay_session.specs.declared.sessions.Session.{Session}
use Rattle.relay_session.specs.declared.wishes.Wish.{Wish}
use Rattle.relay_session.specs.declared.wishes.Wish.TheVariants as wishes
use Rattle.relay_session.specs.Endings.{EndingIs}
use Rattle.relay_session.specs.States.{Allowed, ClosesFor}
use Rattle.relay_session.specs.Sessions.{Stands}
use Rattle.session_laws.proofs.Others.{ground_kept, stands_kept}

foreign : (c : Config) (s : ℕ) (text : List ℕ) → IsForeign c s (acts.Note text)
foreign c s text p own plain = refl

foreign_fault : (c : Config) (s : ℕ) (text : List ℕ) → IsForeign c s (acts.NoteFault text)
foreign_fault c s text p own plain = refl

uncut : {P : Type 0} (end : Option Why) → end ≡ Some whys.Memory → end ≡ None → P
uncut end e k = let x : ⊥ = cc in absurd x

closes_for : (c : Config) (one other : List Act) (s : ℕ) (end : Option Why) (q : Place) (why : Why) → end ≡ Some whys.Memory → ClosesFor c other s end q why → (why ≡ whys.Memory) × ClosesFor c one s end q why
closes_for c one other s None q why e k = let x : ⊥ = cc in absurd x
closes_for c one other s (Some w) q why e k = let x : w ≡ whys.Memory = cc in (sym k ∙ x, k)

done_for : (end : Option Why) (why : Why) → end ≡ Some whys.Memory → end ≡ Some why → why ≡ whys.Memory
done_for end why e k = let x : Some why ≡ Some whys.Memory = sym k ∙ e in cc

-- what a session that was cut for want of memory wishes for may come after a note too
allowed_noted : (c : Config) (n : ℕ) (past : List Act) (s : ℕ) (text : List ℕ) (st : State) (wish : Wish) → st.ending ≡ Some whys.Memory → closed_why c past s ≡ None → Allowed c n past s st wish → Allowed c n (acts.Note text ∷ past) s st wish
allowed_noted c n past s text st (wishes.Close q why) e u a =
    let at = among_own c s q (things c s) (each_thing c s) a.0.own in
    let k = closes_for c (acts.Note text ∷ past) past s st.ending q why e a.1 in
    (record { is_held = a.0.is_held; own = a.0.own; licensed = by_memory k.0 (inr (ap (closed_why c past) at.0 ∙ u)) }, k.1)
allowed_noted c n past s text st (wishes.Reap p) e u a = (record { own = a.0.own; among = a.0.among; may = record { is_child = a.0.may.is_child; closed = a.0.may.closed; first = a.0.may.first } }, a.1)
allowed_noted c n past s text st (wishes.Done why) e u a = (record { nothing_held = a.0.nothing_held; ends = inr (inl (done_for st.ending why e a.1.0, u)) }, a.1)
allowed_noted c n past s text st (wishes.Open p) e u a = uncut st.ending e a.1
allowed_noted c n past s text st (wishes.Settle p) e u a = uncut st.ending e a.1
allowed_noted c n past s text st (wishes.Listen d) e u a = uncut st.ending e a.1
allowed_noted c n past s text st (wishes.Accept d p) e u a = uncut st.ending e a.1
allowed_noted c n past s text st (wishes.Read p m) e u a = uncut st.ending e a.1.0
allowed_noted c n past s text st (wishes.Write p) e u a = uncut st.ending e a.1.0
allowed_noted c n past s text st (wishes.Send p) e u a = uncut st.ending e a.1.0
allowed_noted c n past s text st (wishes.Shut p way) e u a = uncut st.ending e a.1
allowed_noted c n past s text st (wishes.Sleep until) e u a = uncut st.ending e a.1

allowed_unnoted : (c : Config) (n : ℕ) (past : List Act) (s : ℕ) (text : List ℕ) (st : State) (wish : Wish) → st.ending ≡ Some whys.Memory → closed_why c past s ≡ None → Allowed c n past s st wish → Allowed c n (acts.NoteFault text ∷ past) s st wish
allowed_unnoted c n past s text st (wishes.Close q why) e u a =
    let at = among_own c s q (things c s) (each_thing c s) a.0.own in
    let k = closes_for c (acts.NoteFault text ∷ past) past s st.ending q why e a.1 in
    (record { is_held = a.0.is_held; own = a.0.own; licensed = by_memory k.0 (inr (ap (closed_why c past) at.0 ∙ u)) }, k.1)
allowed_unnoted c n past s text st (wishes.Reap p) e u a = (record { own = a.0.own; among = a.0.among; may = record { is_child = a.0.may.is_child; closed = a.0.may.closed; first = a.0.may.first } }, a.1)
allowed_unnoted c n past s text st (wishes.Done why) e u a = (record { nothing_held = a.0.nothing_held; ends = inr (inl (done_for st.ending why e a.1.0, u)) }, a.1)
allowed_unnoted c n past s text st (wishes.Open p) e u a = uncut st.ending e a.1
allowed_unnoted c n past s text st (wishes.Settle p) e u a = uncut st.ending e a.1
allowed_unnoted c n past s text st (wishes.Listen d) e u a = uncut st.ending e a.1
allowed_unnoted c n past s text st (wishes.Accept d p) e u a = uncut st.ending e a.1
allowed_unnoted c n past s text st (wishes.Read p m) e u a = uncut st.ending e a.1.0
allowed_unnoted c n past s text st (wishes.Write p) e u a = uncut st.ending e a.1.0
allowed_unnoted c n past s text st (wishes.Send p) e u a = uncut st.ending e a.1.0
allowed_unnoted c n past s text st (wishes.Shut p way) e u a = uncut st.ending e a.1
allowed_unnoted c n past s text st (wishes.Sleep until) e u a = uncut st.ending e a.1

-- while a dump is owed, a session has ended by its cause or for want of memory, if at all
abbrev HowEnded : Config → List Act → ℕ → Option Why → Type 0
HowEnded c past s end = (end ≡ cause c past s) ⊎ ((end ≡ Some whys.Memory) × (closed_why c past s ≡ None))

how_ended : (c : Config) (n : ℕ) (past : List Act) (s : ℕ) (text : List ℕ) (end : Option Why) → owed c past ≡ Some text → EndingIs c n past s end → HowEnded c past s end
how_ended c n past s text None o h = inl (sym h.1)
how_ended c n past s text (Some why) o (inl e) = inl (sym e)
how_ended c n past s text (Some why) o (inr (inl e)) = inr (ap Some e.0, e.1)
how_ended c n past s text (Some why) o (inr (inr e)) = let x = e.2.no_dump in let y : ⊥ = cc in absurd y

-- a session stands through the note of a dump that is owed
pub stands_noted : (c : Config) (n : ℕ) (past : List Act) (s : ℕ) (x : Session) (text : List ℕ) → owed c past ≡ Some text → Stands c n past s x → Stands c n (acts.Note text ∷ past) s x
stands_noted c n past s x text o st = go (how_ended c n past s text x.state.ending o st.fields.ending_is)
  where
    go : HowEnded c past s x.state.ending → Stands c n (acts.Note text ∷ past) s x
    go (inl e) = stands_kept c n (acts.Note text) past s x st.fields.ground.begun (inr e) (foreign c s text) refl st
    go (inr e) =
        record {
          fields = record { ground = ground_kept c (acts.Note text) past s x.state st.fields.ground.begun (foreign c s text) refl st.fields.ground; ending_is = subst (EndingIs c n (acts.Note text ∷ past) s) (sym e.0) (inr (inl (refl, e.1))) };
          allowed = allowed_noted c n past s text x.state x.wish e.0 e.1 st.allowed;
        }

-- and through one that couldn't be written
pub stands_unnoted : (c : Config) (n : ℕ) (past : List Act) (s : ℕ) (x : Session) (text : List ℕ) → owed c past ≡ Some text → Stands c n past s x → Stands c n (acts.NoteFault text ∷ past) s x
stands_unnoted c n past s x text o st = go (how_ended c n past s text x.state.ending o st.fields.ending_is)
  where
    go : HowEnded c past s x.state.ending → Stands c n (acts.NoteFault text ∷ past) s x
    go (inl e) = stands_kept c n (acts.NoteFault text) past s x st.fields.ground.begun (inr e) (foreign_fault c s text) refl st
    go (inr e) =
        record {
          fields = record { ground = ground_kept c (acts.NoteFault text) past s x.state st.fields.ground.begun (foreign_fault c s text) refl st.fields.ground; ending_is = subst (EndingIs c n (acts.NoteFault text ∷ past) s) (sym e.0) (inr (inl (refl, e.1))) };
          allowed = allowed_unnoted c n past s text x.state x.wish e.0 e.1 st.allowed;
        }
