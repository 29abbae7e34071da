-- A session wishes for calls at its own places and doors alone.
use Rattle.std.proofs.Common.{◌≡◌, sym, subst, ◌∙◌, ℕ, Bool, true, false, cond, ◌&&◌, is_none, List}
use Rattle.relay_model.specs.declared.places.Place.{Place}
use Rattle.relay_model.specs.declared.commands.Config.{Config}
use Rattle.relay_model.specs.declared.acts.Act.{Act}
use Rattle.relay_model.specs.Places.{same_place}
use Rattle.relay_model.specs.Configs.{is_of, is_program_door, input, output, places, things, way_from, way_to}
use Rattle.relay_model.specs.Frames.{is_at, is_turn}
use Rattle.relay_model.specs.Sessions.{live}
use Rattle.relay_model.specs.Openings.{first_call}
use Rattle.relay_model.specs.declared.calls.Call.TheVariants.{Nothing}
use Rattle.relay_model.specs.declared.calls.Call.{Call}
use Rattle.relay_model.specs.declared.calls.Call.TheVariants as calls
use Rattle.relay_model.specs.Cause.{cause}
use Rattle.relay_model.specs.Calls.{call}
use Rattle.relay_laws.proofs.PlaceLemmas.{same_place_equal}
use Rattle.relay_laws.proofs.OwnThings.{among_own, each_thing, input_own, output_own}
use Rattle.relay_session.specs.declared.sessions.Session.{Session}
use Rattle.relay_session.specs.declared.wishes.Wish.{Wish}
use Rattle.relay_session.specs.declared.wishes.Wish.TheVariants as wishes
use Rattle.relay_session.specs.States.{Wished}
use Rattle.relay_session.specs.Sessions.{Stands, wish_of}
use Rattle.relay_session.proofs.Own.{NamesOwn, names_own}
use Rattle.session_driver.specs.Steps.{IsActOf, ClosesAsWished, ReadsAsWished}

-- the place or door is the session's own
abbrev pub OwnThing : Config → ℕ → Place → Type 0
OwnThing c s p = (p.session ≡ s) × (is_program_door c p ≡ false)

abbrev pub OwnWish : Config → ℕ → Wish → Type 0
OwnWish c s (wishes.Open p) = OwnThing c s p
OwnWish c s (wishes.Settle p) = OwnThing c s p
OwnWish c s (wishes.Listen d) = OwnThing c s d
OwnWish c s (wishes.Accept d p) = OwnThing c s d × OwnThing c s p
OwnWish c s (wishes.Read p n) = OwnThing c s p
OwnWish c s (wishes.Write p) = OwnThing c s p
OwnWish c s (wishes.Send p) = OwnThing c s p
OwnWish c s (wishes.Shut p how) = OwnThing c s p
OwnWish c s (wishes.Close q why) = OwnThing c s q
OwnWish c s (wishes.Reap p) = OwnThing c s p
OwnWish c s (wishes.Sleep until) = Unit {0}
OwnWish c s (wishes.Done why) = Unit {0}

of_own : (c : Config) (s : ℕ) (p : Place) → is_of c s p ≡ true → OwnThing c s p
of_own c s p e = among_own c s p (things c s) (each_thing c s) e

-- what is called for names things of the session
call_own : (c : Config) (past : List Act) (s : ℕ) → NamesOwn c s (call c past s)
call_own c past s = go (live c past s && is_none (cause c past s))
  where
    go : (b : Bool) → NamesOwn c s (cond b (first_call c past (places c s)) Nothing)
    go true = names_own c past s
    go false = tt

called_own : (c : Config) (past : List Act) (s : ℕ) (k : Call) → call c past s ≡ k → NamesOwn c s k
called_own c past s k e = subst (NamesOwn c s) e (call_own c past s)

at_thing : (c : Config) (s : ℕ) (p q : Place) → p.session ≡ s → same_place p q ≡ true → is_program_door c q ≡ false → OwnThing c s p
at_thing c s p q e same own = (e, subst (λ (x : Place). is_program_door c x ≡ false) (sym (same_place_equal p q same)) own)

wished_own : (c : Config) (n : ℕ) (past : List Act) (s : ℕ) (wish : Wish) → Wished c n past s wish → OwnWish c s wish
wished_own c n past s (wishes.Open p) w = of_own c s p (called_own c past s (calls.Open p) w).0.of
wished_own c n past s (wishes.Settle p) w = of_own c s p (called_own c past s (calls.Settle p) w).0.of
wished_own c n past s (wishes.Listen d) w = of_own c s d (called_own c past s (calls.Listen d) w).of
wished_own c n past s (wishes.Accept d p) w = let o = called_own c past s (calls.Accept d p) w.0 in (of_own c s d o.0.of, of_own c s p o.1.of)
wished_own c n past s (wishes.Read p k) w = at_thing c s p (input c p.session (way_from p.side)) w.own w.may.asks.is_input (input_own c p.session (way_from p.side))
wished_own c n past s (wishes.Write p) w = at_thing c s p (output c p.session (way_to p.side)) w.own w.may.offers.is_output (output_own c p.session (way_to p.side))
wished_own c n past s (wishes.Send p) w = at_thing c s p (output c p.session (way_to p.side)) w.own w.may.offers.is_output (output_own c p.session (way_to p.side))
wished_own c n past s (wishes.Shut p how) w = at_thing c s p (output c p.session (way_to p.side)) w.own w.may.is_output (output_own c p.session (way_to p.side))
wished_own c n past s (wishes.Close q why) w = of_own c s q w.own
wished_own c n past s (wishes.Reap p) w = of_own c s p w.among
wished_own c n past s (wishes.Sleep until) w = tt
wished_own c n past s (wishes.Done why) w = tt

pub own_by : (c : Config) (n : ℕ) (past : List Act) (s : ℕ) (x : Session) (wish : Wish) → Stands c n past s x → wish_of x ≡ wish → OwnWish c s wish
own_by c n past s x wish st e = subst (OwnWish c s) e (wished_own c n past s x.wish st.allowed.0)

-- an act at a thing of the session is at no other
pub at_own : (c : Config) (s : ℕ) (q : Place) (act : Act) → ((p : Place) → is_at act p ≡ same_place q p) → is_turn act ≡ false → OwnThing c s q → IsActOf c s act
at_own c s q act at turn own = record {
  own = λ p e.
      let same = same_place_equal q p (sym (at p) ∙ e) in
      (subst (λ (x : Place). x.session ≡ s) same own.0, subst (λ (x : Place). is_program_door c x ≡ false) same own.1);
  untimed = turn;
}

pub closes_as : (wish : Wish) (act : Act) (x : Session) → wish_of x ≡ wish → ClosesAsWished wish act → ClosesAsWished (wish_of x) act
closes_as wish act x e h = subst (λ (w : Wish). ClosesAsWished w act) (sym e) h

pub reads_as : (wish : Wish) (act : Act) (x : Session) → wish_of x ≡ wish → ReadsAsWished wish act → ReadsAsWished (wish_of x) act
reads_as wish act x e h = subst (λ (w : Wish). ReadsAsWished w act) (sym e) h
