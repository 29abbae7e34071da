-- A read that a session hears of after it was made.
use Rattle.std.proofs.Common.{◌≡◌, refl, sym, ap, subst, ◌∙◌, ℕ, ◌<◌, ◌≤◌, ◌++◌, false, true, List, length, take, None, arith}
use Rattle.std.proofs.lemmas.List.{take-append-le, take-take}
use Rattle.relay_model.specs.declared.acts.Act.{Act}
use Rattle.relay_model.specs.declared.acts.Act.TheVariants as acts
use Rattle.relay_model.specs.declared.places.Place.{Place}
use Rattle.relay_model.specs.declared.commands.Config.{Config}
use Rattle.relay_session.specs.declared.sessions.Session.{Session}
use Rattle.relay_session.specs.declared.wishes.Wish.{Wish}
use Rattle.relay_session.specs.declared.wishes.Wish.TheVariants as wishes
use Rattle.relay_session.specs.Sessions.{Stands, Heard, HeardBy, ending_of, has_ended, wish_of}
use Rattle.relay_session.specs.Wishes.{FitsRead, read_act}
use Rattle.world_trait.specs.Seen.{Seen}
use Rattle.session_driver.specs.Steps.{Acts}
use Rattle.session_driver.specs.Noted.{Came}
use Rattle.session_driver.proofs.Owning.{own_by, at_own, closes_as, reads_as}

acts_heard : (c : Config) (old new : Seen) (before after : Session) (p : Place) (at_most : ℕ) (bytes : List ℕ) → wish_of before ≡ wishes.Read p at_most → Came old new p bytes →
    ((n : ℕ) (past : List Act) (s : ℕ) → Stands c n past s before → Heard c n past s (acts.Read p bytes) before after) →
    ((n : ℕ) (past : List Act) (s : ℕ) → Stands c n past s before → has_ended before ≡ true → has_ended after ≡ true) →
    ((n : ℕ) (past : List Act) (s : ℕ) → Stands c n past s before → has_ended before ≡ true → ending_of after ≡ ending_of before) → Acts c old new before after (acts.Read p bytes)
acts_heard c old new before after p at_most bytes wish came heard over ending = record {
  asked = None;
  failed = false;
  did = came.did;
  heard = heard;
  own = λ n past s st. tt;
  here = λ n past s st. at_own c s p (acts.Read p bytes) (λ q. refl) refl (own_by c n past s before (wishes.Read p at_most) st wish);
  closes = closes_as (wishes.Read p at_most) (acts.Read p bytes) before wish refl;
  reads = reads_as (wishes.Read p at_most) (acts.Read p bytes) before wish tt;
  no_turn = record { turns_same = λ past. refl; stops_same = λ past. refl };
  rose = came.rose;
  blameless = λ e past. refl;
  waitless = came.waitless;
  over = over;
  ending = ending;
}

-- the session is still as it was before the read
pub read_acts : (c : Config) (old new : Seen) (before mid after : Session) (p : Place) (at_most : ℕ) (bytes : List ℕ) → wish_of before ≡ wishes.Read p at_most → mid ≡ before → Came old new p bytes →
    ((n : ℕ) (past : List Act) (s : ℕ) → Stands c n past s mid → Heard c n past s (acts.Read p bytes) mid after) →
    ((n : ℕ) (past : List Act) (s : ℕ) → Stands c n past s mid → has_ended mid ≡ true → has_ended after ≡ true) →
    ((n : ℕ) (past : List Act) (s : ℕ) → Stands c n past s mid → has_ended mid ≡ true → ending_of after ≡ ending_of mid) → Acts c old new before after (acts.Read p bytes)
read_acts c old new before mid after p at_most bytes wish same came heard over ending =
    subst (λ (x : Session). Acts c old new x after (acts.Read p bytes)) same (acts_heard c old new mid after p at_most bytes (ap wish_of same ∙ wish) came heard over ending)

pub fits_read : (mid before : Session) (p : Place) (at_most count : ℕ) → mid ≡ before → wish_of before ≡ wishes.Read p at_most → (0 < count) × (count ≤ at_most) → FitsRead (wish_of mid) count
fits_read mid before p at_most count same wish fits = let P : Wish → Type 0 = λ w. FitsRead w count in subst P (sym (ap wish_of same ∙ wish)) fits

-- what was read into a part of the front of a block stands at its front
pub front_kept : (count len at_most : ℕ) (block more : List ℕ) → count ≤ at_most → at_most ≤ len → at_most ≤ length block → take count (take len (block ++ more)) ≡ take count (take at_most block)
front_kept count len at_most block more few within fits =
    take-take count len (block ++ more) (omega arith)
    ∙ take-append-le count block more (omega arith)
    ∙ sym (take-take count at_most block few)

-- what stands at the front of the block is what was read
pub block_heard : (c : Config) (n : ℕ) (past : List Act) (s : ℕ) (p : Place) (at_most : ℕ) (bytes front : List ℕ) (mid after : Session) → wish_of mid ≡ wishes.Read p at_most → front ≡ bytes → HeardBy c n past s (read_act (wish_of mid) front) mid after → Heard c n past s (acts.Read p bytes) mid after
block_heard c n past s p at_most bytes front mid after wish same heard =
    let P : Wish → Type 0 = λ w. HeardBy c n past s (read_act w front) mid after in
    subst (λ xs. Heard c n past s (acts.Read p xs) mid after) same (subst P wish heard)
