-- What the acts of the program door say of sessions that have begun, and of who becomes the next.
use Rattle.std.proofs.Common.{◌≡◌, refl, sym, ap, subst, ◌∙◌, ℕ, ◌<◌, ◌⊎◌, inl, inr, Bool, true, false, ◌&&◌, List, ◌∷◌, Option, Some, None, arith}
use Rattle.std.proofs.lemmas.Bool.{true≢false, and_parts, false_from_ne_true}
use Rattle.relay_model.specs.declared.places.Place.{Place}
use Rattle.relay_model.specs.declared.commands.Config.{Config}
use Rattle.relay_model.specs.declared.acts.Peer.{Peer}
use Rattle.relay_model.specs.declared.acts.Why.{Why}
use Rattle.relay_model.specs.declared.acts.Why.TheVariants as whys
use Rattle.relay_model.specs.declared.acts.Act.{Act}
use Rattle.relay_model.specs.declared.acts.Act.TheVariants as acts
use Rattle.relay_model.specs.Places.{same_place}
use Rattle.relay_model.specs.Choices.{one_more}
use Rattle.relay_model.specs.History.{held}
use Rattle.relay_model.specs.Configs.{has_fork, is_left, is_program_door, program_door}
use Rattle.relay_model.specs.Sessions.{admitted, is_admission, next_place, permits}
use Rattle.relay_model.specs.Frames.{is_at, IsForeign}
use Rattle.relay_laws.proofs.PlaceLemmas.{same_place_equal}
use Rattle.program_door.specs.declared.doors.Door.{Door}
use Rattle.program_door.specs.declared.wishes.DoorWish.{DoorWish}
use Rattle.program_door.specs.declared.wishes.DoorWish.TheVariants as wishes
use Rattle.program_door.specs.declared.wishes.DoorAnswer.{DoorAnswer}
use Rattle.program_door.specs.declared.wishes.DoorAnswer.TheVariants as answers
use Rattle.program_door.specs.Steps.{DoorHeard, DoorHeardBy}
use Rattle.program_door.specs.Wishes.{Wished, act_of}
use Rattle.world_trait.specs.Seen.{Seen}
use Rattle.session_driver.specs.DoorSteps.{DoorActs, EndsNone, WishFor, DoorFor, DoorStepIs}
use Rattle.session_driver.specs.declared.door_stepped.DoorStepped.{DoorStepped}
use Rattle.session_driver.specs.declared.door_stepped.DoorStepped.TheVariants as steps

-- ---- where the acts are

away : (c : Config) (p : Place) → has_fork c ≡ true → is_program_door c p ≡ false → same_place program_door p ≡ false
away c p f d = false_from_ne_true (same_place program_door p) (λ e. let t = same_place_equal program_door p e in let g = sym f in true≢false ((λ i. same_place (t i) program_door && g i) ∙ d))

pub door_apart : (c : Config) (s : ℕ) (act : Act) → has_fork c ≡ true → ((p : Place) → is_at act p ≡ same_place program_door p) → IsForeign c s act
door_apart c s act fork at = λ p e d. at p ∙ away c p fork d

pub next_apart : (c : Config) (past : List Act) (s : ℕ) (q : Place) (act : Act) → q ≡ next_place c past → s < admitted c past → ((p : Place) → is_at act p ≡ same_place q p) → IsForeign c s act
next_apart c past s q act next below at = λ p e d. at p ∙ false_from_ne_true (same_place q p) (λ same.
    let x : q.session ≡ p.session = ap (λ (y : Place). y.session) (same_place_equal q p same) in
    let y : q.session ≡ admitted c past = ap (λ (z : Place). z.session) next in
    omega (arith, below, e, x, y))

-- ---- closings

-- a closing by the door is at no thing of a session that has begun
pub record Closing (c : Config) (past : List Act) (act : Act) : Type 0 where
  pub apart : (s : ℕ) → s < admitted c past → IsForeign c s act
  pub ends_none : EndsNone c past act

abbrev pub ClosingOf : Config → List Act → Option Act → Type 0
ClosingOf c past None = Unit {0}
ClosingOf c past (Some act) = Closing c past act

end_apart : (c : Config) (past : List Act) (s : ℕ) (q : Place) (why : Why) → has_fork c ≡ true → (q ≡ next_place c past) ⊎ ((q ≡ program_door) × (held past (next_place c past) ≡ false)) → s < admitted c past → IsForeign c s (acts.Closed q why)
end_apart c past s q why fork (inl e) below = next_apart c past s q (acts.Closed q why) e below (λ p. refl)
end_apart c past s q why fork (inr e) below = subst (λ (x : Place). IsForeign c s (acts.Closed x why)) (sym e.0) (door_apart c s (acts.Closed program_door why) fork (λ p. refl))

closing_of : (c : Config) (past : List Act) (wish : DoorWish) → has_fork c ≡ true → Wished c past wish → ClosingOf c past (act_of wish answers.Closed)
closing_of c past (wishes.Refuse p) fork w = record { apart = λ s below. next_apart c past s p (acts.Closed p whys.Refused) w.0 below (λ x. refl); ends_none = inl refl }
closing_of c past wishes.Serve fork w = record { apart = λ s below. door_apart c s (acts.Closed program_door whys.Served) fork (λ x. refl); ends_none = inl refl }
closing_of c past (wishes.End q why) fork w = record { apart = λ s below. end_apart c past s q why fork w.which below; ends_none = inr (q, why, refl, w.is_cause) }
closing_of c past wishes.Listen fork w = tt
closing_of c past (wishes.Accept p) fork w = tt
closing_of c past (wishes.Sleep until) fork w = tt
closing_of c past wishes.Done fork w = tt

pub closing : (c : Config) (past : List Act) (wish : DoorWish) (act : Act) → has_fork c ≡ true → Wished c past wish → act_of wish answers.Closed ≡ Some act → Closing c past act
closing c past wish act fork w e = subst (ClosingOf c past) e (closing_of c past wish fork w)

pub heard_as : (c : Config) (n : ℕ) (past : List Act) (wish : DoorWish) (answer : DoorAnswer) (act : Act) (old new : Door) → act_of wish answer ≡ Some act → DoorHeardBy c n past (act_of wish answer) old new → DoorHeard c n past act old new
heard_as c n past wish answer act old new e h = subst (λ (a : Option Act). DoorHeardBy c n past a old new) e h

-- ---- peers

grew : (b : Bool) (k : ℕ) → (one_more b k ≡ k → ⊥) → b ≡ true
grew true k h = refl
grew false k h = absurd (h refl)

-- where there are more sessions than before, the peer was permitted
pub permitted_by : (c : Config) (past : List Act) (p : Place) (peer : Peer) → (admitted c (acts.Accepted p peer ∷ past) ≡ admitted c past → ⊥) → permits c p peer ≡ true
permitted_by c past p peer more = (and_parts (is_left p && has_fork c) (permits c p peer) (grew (is_admission c p peer) (admitted c past) more)).1

-- ---- a step stands for what its call does

pub acts_for : (c : Config) (For Other : ℕ → List Act → Type 0) (old new : Seen) (before after : Door) (act : Act) → ((n : ℕ) (past : List Act) → Other n past → For n past) → DoorActs c For old new before after act → DoorActs c Other old new before after act
acts_for c For Other old new before after act to a = record {
  asked = a.asked;
  failed = a.failed;
  did = a.did;
  own = a.own;
  heard = λ n past f. a.heard n past (to n past f);
  apart = λ n past f. a.apart n past (to n past f);
  untimed = a.untimed;
  unread = a.unread;
  no_turn = a.no_turn;
  rose = a.rose;
  blameless = a.blameless;
  waitless = a.waitless;
}

pub step_for : (c : Config) (For Other : ℕ → List Act → Type 0) (old new : Seen) (before after : Door) (result : DoorStepped) → ((n : ℕ) (past : List Act) → Other n past → For n past) → DoorStepIs c For old new before after result → DoorStepIs c Other old new before after result
step_for c For Other old new before after steps.Acted to r = (r.0, acts_for c For Other old new before after r.0 to r.1, λ n past f. r.2 n past (to n past f))
step_for c For Other old new before after (steps.Admitted peer) to r = (r.0, acts_for c For Other old new before after _ to r.1, λ n past f. r.2 n past (to n past f))
step_for c For Other old new before after steps.AcceptFailed to r = acts_for c For Other old new before after _ to r
step_for c For Other old new before after steps.Memory to r = r
step_for c For Other old new before after (steps.Sleep until) to r = (r.0, r.1, λ n past f. r.2 n past (to n past f))
step_for c For Other old new before after steps.Done to r = (r.0, r.1, λ n past f. r.2 n past (to n past f))

pub wish_for : (c : Config) (n : ℕ) (past : List Act) (at live : ℕ) (wish : DoorWish) (door : Door) → DoorFor c n past at live door → Wished c past wish → WishFor c n past at wish door
wish_for c n past at live wish door f w = record { legal = f.legal; stands = f.stands; at_is = f.at_is; wished = w }
