-- What a session hears, and that nothing was done.
use Rattle.std.proofs.Common.{◌≡◌, ◌⊎◌, inl, inr, ℕ, subst, ◌≤◌, false, take, length, List, ◌++◌, Option, Some, None, option_map, ap, sym, ◌∙◌}
use Rattle.std.proofs.lemmas.List.{take-take}
use Rattle.relay_model.specs.declared.acts.Act.{Act}
use Rattle.relay_model.specs.declared.acts.Act.TheVariants as acts
use Rattle.relay_model.specs.declared.places.Place.{Place}
use Rattle.relay_model.specs.declared.commands.Config.{Config}
use Rattle.relay_model.specs.Journals.{History, Asking}
use Rattle.relay_model.specs.History.{reaped_since}
use Rattle.world_trait.specs.declared.answers.ReapAnswer.{ReapAnswer}
use Rattle.world_trait.specs.declared.answers.ReapAnswer.TheVariants as reaps
use Rattle.world_trait.specs.Seen.{Seen}
use Rattle.world_trait.specs.Answers.{Answered, NotReaped, reap_act, DidNothing}
use Rattle.relay_session.specs.declared.sessions.Session.{Session}
use Rattle.relay_session.specs.declared.wishes.Wish.{Wish}
use Rattle.relay_session.specs.declared.wishes.Answer.{Answer}
use Rattle.relay_session.specs.Wishes.{Fits, act_of}
use Rattle.relay_session.specs.Sessions.{Heard, HeardBy, wish_of, waiting_of}
use Rattle.session_driver.specs.Steps.{extend}

-- an answer, heard as one to the wish that there was
pub heard_as : (c : Config) (n : ℕ) (past : List Act) (s : ℕ) (wish : Wish) (answer : Answer) (old new : Session) → wish_of old ≡ wish → HeardBy c n past s (act_of (wish_of old) (waiting_of old) answer) old new → HeardBy c n past s (act_of wish (waiting_of old) answer) old new
heard_as c n past s wish answer old new e heard = let P : Wish → Type 0 = λ x. HeardBy c n past s (act_of x (waiting_of old) answer) old new in subst P e heard

pub fits_as : (wish : Wish) (answer : Answer) (old : Session) → wish_of old ≡ wish → Fits wish (waiting_of old) answer → Fits (wish_of old) (waiting_of old) answer
fits_as wish answer old e fits = let P : Wish → Type 0 = λ x. Fits x (waiting_of old) answer in subst P (sym e) fits

-- the bytes that were taken from the front of what waits
pub front_taken : (offered waiting : List ℕ) (count : ℕ) → offered ≡ take (length offered) waiting → count ≤ length offered → take count offered ≡ take count waiting
front_taken offered waiting count e h = ap (take count) e ∙ take-take count (length offered) waiting h

pub heard_bytes : (c : Config) (n : ℕ) (past : List Act) (s : ℕ) (p : Place) (bytes others : List ℕ) (old new : Session) → bytes ≡ others → Heard c n past s (acts.Wrote p others) old new → Heard c n past s (acts.Wrote p bytes) old new
heard_bytes c n past s p bytes others old new e heard = let P : List ℕ → Type 0 = λ x. Heard c n past s (acts.Wrote p x) old new in subst P (sym e) heard

-- where no child is known of, nothing was done
pub unreaped : (place : Place) (answer : ReapAnswer) (old new : Seen) → (answer ≡ reaps.NoChild) ⊎ (answer ≡ reaps.Memory) → Answered old new (reap_act place answer) → DidNothing old new
unreaped place answer old new (inl e) did = let P : ReapAnswer → Type 0 = λ x. Answered old new (reap_act place x) in subst P e did
unreaped place answer old new (inr e) did = let P : ReapAnswer → Type 0 = λ x. Answered old new (reap_act place x) in subst P e did

-- no child was reaped of what a world told before, and since then
pub unreaped_told : (past : List Act) (pairs : List Asking) (p : Place) (start told : Option History) → told ≡ option_map (extend past pairs) start → ((older : List Act) → reaped_since (past ++ older) p ≡ false) → NotReaped told p
unreaped_told past pairs p start told e h = subst (λ (x : Option History). NotReaped x p) (sym e) (go start)
  where
    go : (o : Option History) → NotReaped (option_map (extend past pairs) o) p
    go None = tt
    go (Some older) = h older.acts
