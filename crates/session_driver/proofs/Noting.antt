-- Steps whose reads are noted.
use Rattle.std.proofs.Common.{◌≡◌, refl, sym, ap, subst, ◌∙◌, ℕ, Bool, true, false, not, ◌||◌, List, [], ◌∷◌, ◌++◌, Option, Some, None, is_some}
use Rattle.std.specs.List.{list_any}
use Rattle.std.proofs.lemmas.Bool.{false≢true, true≢false}
use Rattle.relay_model.specs.declared.places.Place.{Place}
use Rattle.relay_model.specs.declared.commands.Config.{Config}
use Rattle.relay_model.specs.declared.acts.Act.{Act}
use Rattle.relay_model.specs.declared.acts.Act.TheVariants as acts
use Rattle.relay_model.specs.declared.acts.Why.{Why}
use Rattle.relay_model.specs.declared.acts.Why.TheVariants as whys
use Rattle.relay_model.specs.Configs.{Fit, is_of, own_doors, places, things}
use Rattle.relay_model.specs.Places.{same_place}
use Rattle.relay_model.specs.Holding.{Hold, Free, Settling, Open, ShutDown, is_free, is_open, standing}
use Rattle.relay_model.specs.Journals.{Asking}
use Rattle.relay_model.specs.History.{held}
use Rattle.relay_model.specs.Cause.{closed_why}
use Rattle.relay_model.specs.May.{Legal}
use Rattle.relay_session.specs.declared.states.State.{State}
use Rattle.relay_session.specs.declared.sessions.Session.{Session}
use Rattle.relay_session.specs.declared.wishes.Wish.{Wish}
use Rattle.relay_session.specs.declared.wishes.Wish.TheVariants as wishes
use Rattle.relay_session.specs.States.{Allowed, ClosesFor}
use Rattle.relay_session.specs.Sessions.{Stands, wish_of, left_of, ending_of, has_ended}
use Rattle.relay_session.specs.Endings.{EndingIs}
use Rattle.relay_laws.proofs.Holdings.{standing_held}
use Rattle.relay_session.proofs.Held.{among}
use Rattle.relay_session.proofs.Possible.{child_over}
use Rattle.world_trait.specs.Seen.{Seen}
use Rattle.session_driver.specs.Steps.{Acts, ClosesAsWished, DidFor, IsOwn, StepIs}
use Rattle.session_driver.specs.Noted.{GivesUp, MeetsHeld, MeetsUnowed, NotedStep, Untouched, UnreadIs}
use Rattle.session_driver.specs.Noted as noting
use Rattle.session_driver.specs.Owing.{ClosesShort, CutShort, IsShort, ReadOwed, SettledStep, undumped, unread, noted}
use Rattle.session_driver.specs.declared.dumpers.Dumper.{Dumper}
use Rattle.session_driver.specs.declared.stepped.Stepped.{Stepped}
use Rattle.session_driver.specs.declared.stepped.Stepped.TheVariants as steps

-- a step whose act reads no bytes is a step
pub unread_step : (c : Config) (old new : Seen) (before after : Session) (stepped : Stepped) → UnreadIs c old new before after stepped → StepIs c old new before after stepped
unread_step c old new before after steps.Acted h = (h.0, h.2, h.3)
unread_step c old new before after (steps.ReadFailed p) h = h
unread_step c old new before after (steps.WriteFailed p) h = h
unread_step c old new before after steps.Childless h = h
unread_step c old new before after steps.Memory h = h
unread_step c old new before after (steps.Sleep until) h = h
unread_step c old new before after (steps.Done why) h = h

-- ---- the first closing

-- the session wishes to close a thing that it holds, since memory is wanting
pub record ClosesFirst (past : List Act) (wish : Wish) : Type 0 where
  pub thing : Place
  pub is : wish ≡ wishes.Close thing whys.Memory
  pub is_held : held past thing ≡ true

uncut : {P : Type 0} (end : Option Why) → end ≡ Some whys.Memory → end ≡ None → P
uncut end e k = let x : ⊥ = cc in absurd x

why_is : (c : Config) (past : List Act) (s : ℕ) (end : Option Why) (q : Place) (why : Why) → end ≡ Some whys.Memory → ClosesFor c past s end q why → why ≡ whys.Memory
why_is c past s None q why e k = let x : ⊥ = cc in absurd x
why_is c past s (Some w) q why e k = let x : w ≡ whys.Memory = cc in sym k ∙ x

unended : {P : Type 0} (k : Option Why) → k ≡ None → is_some k ≡ true → P
unended None e t = absurd (false≢true t)
unended (Some why) e t = let x : ⊥ = cc in absurd x

first_by : (c : Config) (n : ℕ) (past : List Act) (s : ℕ) (at : Place) (st : State) (wish : Wish) → Fit c → Legal c n past → st.ending ≡ Some whys.Memory → closed_why c past s ≡ None → is_of c s at ≡ true → held past at ≡ true → Allowed c n past s st wish → ClosesFirst past wish
first_by c n past s at st (wishes.Close q why) fit legal e u own h a = record { thing = q; is = ap (wishes.Close q) (why_is c past s st.ending q why e a.1); is_held = a.0.is_held }
first_by c n past s at st (wishes.Reap p) fit legal e u own h a =
    let mine : is_of c p.session p ≡ true = subst (λ (x : ℕ). is_of c x p ≡ true) (sym a.0.own) a.0.among in
    let over = child_over c n past p fit mine a.0.may.is_child legal a.0.may.closed in
    unended (closed_why c past p.session) (ap (closed_why c past) a.0.own ∙ u) over.closed
first_by c n past s at st (wishes.Done why) fit legal e u own h a = absurd (false≢true (sym a.0.nothing_held ∙ among (held past) at (things c s) own h))
first_by c n past s at st (wishes.Open p) fit legal e u own h a = uncut st.ending e a.1
first_by c n past s at st (wishes.Settle p) fit legal e u own h a = uncut st.ending e a.1
first_by c n past s at st (wishes.Listen d) fit legal e u own h a = uncut st.ending e a.1
first_by c n past s at st (wishes.Accept d p) fit legal e u own h a = uncut st.ending e a.1
first_by c n past s at st (wishes.Read p m) fit legal e u own h a = uncut st.ending e a.1.0
first_by c n past s at st (wishes.Write p) fit legal e u own h a = uncut st.ending e a.1.0
first_by c n past s at st (wishes.Send p) fit legal e u own h a = uncut st.ending e a.1.0
first_by c n past s at st (wishes.Shut p way) fit legal e u own h a = uncut st.ending e a.1
first_by c n past s at st (wishes.Sleep until) fit legal e u own h a = uncut st.ending e a.1

-- a session that was cut for want of memory while it held something closes that first
pub closes_first : (c : Config) (n : ℕ) (past : List Act) (s : ℕ) (at : Place) (x : Session) → Legal c n past → Stands c n past s x → ending_of x ≡ Some whys.Memory → closed_why c past s ≡ None → is_of c s at ≡ true → held past at ≡ true → ClosesFirst past (wish_of x)
closes_first c n past s at x legal st e u own h = first_by c n past s at x.state x.wish st.fields.ground.fit legal e u own h st.allowed

-- the act of a closing that was wished for
closing_act : (c : Config) (old new : Seen) (before after : Session) (q : Place) (why : Why) → wish_of before ≡ wishes.Close q why → StepIs c old new before after steps.Acted → Acts c old new before after (acts.Closed q why)
closing_act c old new before after q why e h =
    let is : h.0 ≡ acts.Closed q why = subst (λ (w : Wish). ClosesAsWished w h.0) e h.2.closes in
    subst (λ (x : Act). Acts c old new before after x) is h.2

pub closing_as : (c : Config) (old new : Seen) (before after : Session) (q : Place) (why : Why) (stepped : Stepped) → wish_of before ≡ wishes.Close q why → stepped ≡ steps.Acted → StepIs c old new before after stepped → Acts c old new before after (acts.Closed q why)
closing_as c old new before after q why stepped e t h = closing_act c old new before after q why e (subst (λ (x : Stepped). StepIs c old new before after x) t h)

-- what the closing wish names is held
pub short_held : (now : Seen) (session : Session) (q : Place) (why : Why) → wishes.Close q why ≡ wish_of session → IsShort now session → is_free (now.held q) ≡ false
short_held now session q why e k =
    let x : wishes.Close q why ≡ wishes.Close k.thing whys.Memory = e ∙ k.wish in
    let same : q ≡ k.thing = cc in
    ap (λ (p : Place). is_free (now.held p)) same ∙ k.is_held

-- a session that was cut for want of memory while it held something is to close the first thing
pub cut_short : (c : Config) (now : Seen) (before after : Session) → (at : MeetsHeld c now before) → ((n : ℕ) (past : List Act) (s : ℕ) → Stands c n past s before → closed_why c past s ≡ None → Stands c n past s after) → ending_of after ≡ Some whys.Memory → left_of after ≡ left_of before → has_ended after ≡ true → CutShort c now before after
cut_short c now before after at stands ending left over =
    let first = closes_first c at.n at.past at.s at.at after at.legal (stands at.n at.past at.s at.stands at.unclosed) ending at.unclosed at.own at.is_held in
    record {
      short = record { thing = first.thing; wish = first.is; is_held = ap is_free (at.holds first.thing) ∙ standing_held c at.n at.past first.thing at.legal ∙ ap not first.is_held };
      stands = stands;
      left = left;
      over = over;
    }

-- a step after which no dump is owed
pub settled_step : (c : Config) (old new : Seen) (before after : Session) (dumper dumper' : Dumper) (stepped : Stepped) → SettledStep c old new before after dumper dumper' stepped → NotedStep c old new before after dumper dumper' stepped
settled_step c old new before after dumper dumper' stepped (undumped e h) = noting.undumped e h
settled_step c old new before after dumper dumper' stepped (unread e h) = noting.unread e h
settled_step c old new before after dumper dumper' stepped (noted e h) = noting.noted e h

-- one after which one is, and the closing
pub owing_step : (c : Config) (old late new : Seen) (before cut after : Session) (dumper dumper' : Dumper) → ReadOwed c old late before cut dumper dumper' → ClosesShort c late new cut after → NotedStep c old new before after dumper dumper' steps.Memory
owing_step c old late new before cut after dumper dumper' h closes =
    let k = h.cut in
    noting.unnoted refl (record {
      place = h.place;
      bytes = h.bytes;
      between = h.between;
      late = late;
      heard = h.heard;
      going = h.going;
      reads = h.reads;
      nothing = h.nothing;
      gives_up = record { cut = cut; thing = k.short.thing; stands = k.stands; wish = k.short.wish; left = k.left; over = k.over; closes = closes k.short.thing k.short.wish };
      counts = h.counts;
    })

-- ---- a session that has just read

any_left : (f : Place → Bool) (xs ys : List Place) → list_any f xs ≡ true → list_any f (xs ++ ys) ≡ true
any_left f [] ys e = absurd (false≢true e)
any_left f (x ∷ xs) ys e = go (f x) e (any_left f xs ys)
  where
    go : (b : Bool) → (b || list_any f xs) ≡ true → (list_any f xs ≡ true → list_any f (xs ++ ys) ≡ true) → (b || list_any f (xs ++ ys)) ≡ true
    go true t ih = refl
    go false t ih = ih t

pub unclosed_by : (c : Config) (n : ℕ) (past : List Act) (s : ℕ) (end : Option Why) → is_some end ≡ false → EndingIs c n past s end → closed_why c past s ≡ None
unclosed_by c n past s None e h = h.0.unclosed
unclosed_by c n past s (Some why) e h = absurd (true≢false e)

held_open : (hold : Hold) (b : Bool) → is_open hold ≡ true → is_free hold ≡ not b → b ≡ true
held_open Free b e f = absurd (false≢true e)
held_open Settling true e f = refl
held_open Settling false e f = absurd (false≢true f)
held_open Open true e f = refl
held_open Open false e f = absurd (false≢true f)
held_open ShutDown true e f = refl
held_open ShutDown false e f = absurd (false≢true f)

held_as : (asked : Option Asking) (old new : Seen) (p : Place) (bytes : List ℕ) → DidFor asked old new (acts.Read p bytes) → (q : Place) → new.held q ≡ old.held q
held_as None old new p bytes did q = did.held q
held_as (Some asking) old new p bytes did q = did.held q

-- the place that it read from is held, and nothing has closed the session
pub just_read : (c : Config) (old between late : Seen) (before heard : Session) (p : Place) (bytes : List ℕ) → MeetsUnowed c old before → IsOwn c before p → has_ended before ≡ false → is_open (old.held p) ≡ true → Acts c old between before heard (acts.Read p bytes) → Untouched between late → MeetsHeld c late heard
just_read c old between late before heard p bytes m own going usable a u =
    let at = m.meets in
    let h = a.heard at.n at.past at.s at.stands in
    record {
      n = at.n;
      past = acts.Read p bytes ∷ at.past;
      s = at.s;
      at = p;
      legal = (h.may m.unowed, at.legal);
      stands = h.stands;
      unclosed = unclosed_by c at.n at.past at.s before.state.ending going at.stands.fields.ending_is;
      own = any_left (same_place p) (places c at.s) (own_doors c at.s) (own at.n at.past at.s at.stands);
      is_held = held_open (standing at.past p) (held at.past p) (sym (ap is_open (at.holds p)) ∙ usable) (standing_held c at.n at.past p at.legal);
      holds = λ q. u.did.held q ∙ held_as a.asked old between p bytes a.did q ∙ at.holds q;
    }
