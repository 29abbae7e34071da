-- A closing elsewhere that ends every session.
use Rattle.std.proofs.Common.{◌≡◌, refl, sym, ap, subst, ◌∙◌, ℕ, false, ◌||◌, inl, List, [], ◌∷◌, Option, Some, None, ◌<◌}
use Rattle.relay_model.specs.declared.places.Place.{Place}
use Rattle.relay_model.specs.declared.commands.Config.{Config}
use Rattle.relay_model.specs.declared.acts.Why.{Why}
use Rattle.relay_model.specs.declared.acts.Why.TheVariants as whys
use Rattle.relay_model.specs.declared.acts.Act.{Act}
use Rattle.relay_model.specs.declared.acts.Act.TheVariants.{Closed}
use Rattle.relay_model.specs.Configs.{things, Fit}
use Rattle.relay_model.specs.History.{memory_said, held, holds_at}
use Rattle.relay_model.specs.Sessions.{numbers}
use Rattle.relay_model.specs.Cause.{cause, closed_why}
use Rattle.relay_model.specs.May.{by_cause}
use Rattle.relay_model.specs.Frames.{IsForeign}
use Rattle.std.specs.List.{list_any}
use Rattle.relay_laws.proofs.Elsewhere.{elsewhere}
use Rattle.relay_laws.proofs.OwnThings.{EachOwn, each_thing, among_own}
use Rattle.relay_laws.proofs.Apart.{closed_step}
use Rattle.relay_session.specs.declared.states.State.{State}
use Rattle.relay_session.specs.declared.sessions.Session.{Session}
use Rattle.relay_session.specs.declared.wishes.Wish.{Wish}
use Rattle.relay_session.specs.declared.wishes.Wish.TheVariants as wishes
use Rattle.relay_session.specs.Endings.{EndingIs}
use Rattle.relay_session.specs.States.{ClosesFor, Allowed}
use Rattle.relay_session.specs.Sessions.{Stands}
use Rattle.session_laws.proofs.Grounds.{Near, ground_near}
use Rattle.session_laws.proofs.Standing.{child_own}

closing_near : (c : Config) (s : ℕ) (past : List Act) (q : Place) (why : Why) → s < numbers c past → IsForeign c s (Closed q why) → Near c s (Closed q why ∷ past) past
closing_near c s past q why b f = record { begun = b; unclosed = λ u. sym (closed_step c (Closed q why) past s f) ∙ u; own = λ p e d. elsewhere (Closed q why) past p refl (f p e d); now_same = refl; moved_same = refl; written = λ w. refl; accepted = λ d e o. refl; pieces = λ w. refl }

holding_near : (c : Config) (s : ℕ) (one other : List Act) → Near c s one other → (ps : List Place) → EachOwn c s ps → list_any (held one) ps ≡ list_any (held other) ps
holding_near c s one other h [] own = refl
holding_near c s one other h (p ∷ ps) own = let x = ap holds_at (h.own p own.0 own.1).stage_same in let y = holding_near c s one other h ps own.2 in λ i. x i || y i

-- a session that was cut wishes for nothing but closings and children, until it is done
cut_for : (c : Config) (one other : List Act) (s : ℕ) (end : Option Why) (q : Place) (why for : Why) → end ≡ Some for → ClosesFor c other s end q why → (for ≡ why) × ClosesFor c one s end q why
cut_for c one other s None q why for e k = let x : ⊥ = cc in absurd x
cut_for c one other s (Some w) q why for e k = let x : for ≡ why = cc in (x, k)

uncut : {P : Type 0} (end : Option Why) (for : Why) → end ≡ Some for → end ≡ None → P
uncut end for e k = let x : ⊥ = cc in absurd x

allowed_near : (c : Config) (n s : ℕ) (one other : List Act) (st : State) (for : Why) (wish : Wish) → Near c s one other → st.ending ≡ Some for → cause c one s ≡ Some for → Fit c → Allowed c n other s st wish → Allowed c n one s st wish
allowed_near c n s one other st for (wishes.Close q why) h e k fit r =
    let a = among_own c s q (things c s) (each_thing c s) r.0.own in
    let t = cut_for c one other s st.ending q why for e r.1 in
    (record { is_held = ap holds_at (h.own q a.0 a.1).stage_same ∙ r.0.is_held; own = r.0.own; licensed = by_cause a.1 (ap (cause c one) a.0 ∙ k ∙ ap Some t.0) }, t.1)
allowed_near c n s one other st for (wishes.Reap p) h e k fit r =
    let a = h.own p r.0.own (child_own c p fit r.0.may.is_child) in
    (record { own = r.0.own; among = r.0.among; may = record { is_child = r.0.may.is_child; closed = a.was_closed_same ∙ r.0.may.closed; first = a.was_reaped_same ∙ r.0.may.first } }, r.1)
allowed_near c n s one other st for (wishes.Done why) h e k fit r = (record { nothing_held = holding_near c s one other h (things c s) (each_thing c s) ∙ r.0.nothing_held; ends = inl (k ∙ sym e ∙ r.1.0) }, r.1)
allowed_near c n s one other st for (wishes.Open p) h e k fit r = uncut st.ending for e r.1
allowed_near c n s one other st for (wishes.Settle p) h e k fit r = uncut st.ending for e r.1
allowed_near c n s one other st for (wishes.Listen d) h e k fit r = uncut st.ending for e r.1
allowed_near c n s one other st for (wishes.Accept d p) h e k fit r = uncut st.ending for e r.1
allowed_near c n s one other st for (wishes.Read p m) h e k fit r = uncut st.ending for e r.1.0
allowed_near c n s one other st for (wishes.Write p) h e k fit r = uncut st.ending for e r.1.0
allowed_near c n s one other st for (wishes.Send p) h e k fit r = uncut st.ending for e r.1.0
allowed_near c n s one other st for (wishes.Shut p way) h e k fit r = uncut st.ending for e r.1
allowed_near c n s one other st for (wishes.Sleep until) h e k fit r = uncut st.ending for e r.1

pub spreads : (c : Config) (n : ℕ) (past : List Act) (s : ℕ) (q : Place) (why : Why) (x : Session) → s < numbers c past → IsForeign c s (Closed q why) → x.state.ending ≡ Some why → cause c (Closed q why ∷ past) s ≡ Some why → Stands c n past s x → Stands c n (Closed q why ∷ past) s x
spreads c n past s q why x b f e k r =
    let h = closing_near c s past q why b f in
    record {
      fields = record { ground = ground_near c s (Closed q why ∷ past) past x.state h r.fields.ground; ending_is = subst (EndingIs c n (Closed q why ∷ past) s) (sym e) (inl k) };
      allowed = allowed_near c n s (Closed q why ∷ past) past x.state why x.wish h e k r.fields.ground.fit r.allowed;
    }

pub stops : (c : Config) (past : List Act) (s : ℕ) (q : Place) → IsForeign c s (Closed q whys.Stopped) → closed_why c past s ≡ None → memory_said past ≡ false → cause c (Closed q whys.Stopped ∷ past) s ≡ Some whys.Stopped
stops c past s q f u m = let k = closed_step c (Closed q whys.Stopped) past s f ∙ u in rw (k, m) refl

pub forgets : (c : Config) (past : List Act) (s : ℕ) (q : Place) → IsForeign c s (Closed q whys.Memory) → closed_why c past s ≡ None → cause c (Closed q whys.Memory ∷ past) s ≡ Some whys.Memory
forgets c past s q f u = let k = closed_step c (Closed q whys.Memory) past s f ∙ u in rw k refl
