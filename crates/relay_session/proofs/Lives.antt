-- A session, from its state and the wish that this plans.
use Rattle.std.proofs.Common.{◌≡◌, refl, ap, subst, ℕ, Bool, true, false, List, ◌∷◌, Option, Some, None, is_some}
use Rattle.relay_model.specs.declared.commands.Config.{Config}
use Rattle.relay_model.specs.declared.acts.Act.{Act}
use Rattle.relay_model.specs.declared.acts.Act.TheVariants as acts
use Rattle.relay_model.specs.declared.acts.Why.{Why}
use Rattle.relay_model.specs.declared.acts.Why.TheVariants as whys
use Rattle.relay_model.specs.Cause.{closed_why}
use Rattle.relay_model.specs.Readiness.{Listed}
use Rattle.session_direction.specs.Directions.{listed}
use Rattle.relay_session.specs.declared.sessions.Session.{Session}
use Rattle.relay_session.specs.declared.states.State.{State}
use Rattle.relay_session.specs.declared.wishes.Wish.{Wish}
use Rattle.relay_session.specs.declared.wishes.Wish.TheVariants as wishes
use Rattle.relay_session.specs.States.{Fields, Allowed, Stage}
use Rattle.relay_session.specs.Steps.{AbsorbedBy, Heeds}
use Rattle.relay_session.specs.Sessions.{Stands, Hears, HeardBy, HeardTurn}
use Rattle.relay_session.proofs.StepLemmas.{heeded}

pub none_of : (e : Option Why) → is_some e ≡ false → e ≡ None
none_of None h = refl
none_of (Some why) h = cc

pub some_not : (e : Option Why) → e ≡ None → is_some e ≡ false
some_not e h = ap is_some h

pub asleep : (c : Config) (n : ℕ) (past : List Act) (s : ℕ) (st : State) (wish : Wish) (until : Option ℕ) → Allowed c n past s st wish → wish ≡ wishes.Sleep until → st.ending ≡ None
asleep c n past s st wish until a e = subst (Stage c past s st) e a.1

pub stands_by : (c : Config) (n : ℕ) (past : List Act) (s : ℕ) (st : State) (wish : Wish) → Fields c n past s st → ((p : List Act) → Fields c n p s st → Allowed c n p s st wish) → Stands c n past s (record { state = st; wish = wish })
stands_by c n past s st wish f plan = record { fields = f; allowed = plan past f }

pub hears_by : (c : Config) (n : ℕ) (past : List Act) (s : ℕ) (st : State) (wish : Wish) → Heeds c past s st → ((p : List Act) → Fields c n p s st → Allowed c n p s st wish) → Hears c n past s (record { state = st; wish = wish })
hears_by c n past s st wish h plan = record { stands = stands_by c n past s st wish (heeded c n past s st h) plan; heeds = h }

pub heard_by : (c : Config) (n : ℕ) (past : List Act) (s : ℕ) (act : Option Act) (old : Session) (st : State) (wish : Wish) → AbsorbedBy c n past s act old.state st → ((p : List Act) → Fields c n p s st → Allowed c n p s st wish) → HeardBy c n past s act old (record { state = st; wish = wish })
heard_by c n past s None old st wish h plan = tt
heard_by c n past s (Some act) old st wish h plan = record { may = h.may; stands = stands_by c n (act ∷ past) s st wish h.fields plan; fewer = h.fewer }

pub turn_heard : (c : Config) (n : ℕ) (past : List Act) (s : ℕ) (until : Option ℕ) (at : ℕ) (ready : Listed) (stop : Bool) (st : State) (wish : Wish) → closed_why c past s ≡ None
    → (stop ≡ false → Heeds c (acts.Turn until at (listed ready.entries) false ∷ past) s st) → (stop ≡ true → Fields c n (acts.Turn until at (listed ready.entries) true ∷ past) s st)
    → (stop ≡ true → st.ending ≡ Some whys.Stopped) → ((p : List Act) → Fields c n p s st → Allowed c n p s st wish) → HeardTurn c n past s until at ready stop (record { state = st; wish = wish })
turn_heard c n past s until at ready false st wish unclosed goes stops over plan = hears_by c n _ s st wish (goes refl) plan
turn_heard c n past s until at ready true st wish unclosed goes stops over plan = record { stands = stands_by c n _ s st wish (stops refl) plan; ending = over refl; unclosed = unclosed }

-- a session that has heard a turn stands for it
pub turn_stands : (c : Config) (n : ℕ) (past : List Act) (s : ℕ) (until : Option ℕ) (at : ℕ) (ready : Listed) (stop : Bool) (x : Session) → HeardTurn c n past s until at ready stop x → Stands c n (acts.Turn until at (listed ready.entries) stop ∷ past) s x
turn_stands c n past s until at ready false x h = h.stands
turn_stands c n past s until at ready true x h = h.stands
