use Rattle.std.proofs.Common.{◌≡◌, sym, ◌∙◌, Bool, true, ◌||◌, List, ◌∷◌, ◌⊎◌, inl, inr}
use Rattle.std.proofs.lemmas.Bool.{or_left}
use Rattle.relay_model.specs.declared.places.Place.{Place}
use Rattle.relay_model.specs.declared.commands.Config.{Config}
use Rattle.relay_model.specs.declared.acts.ChildEnd.{ChildEnd}
use Rattle.relay_model.specs.declared.acts.Act.{Act}
use Rattle.relay_model.specs.declared.acts.Act.TheVariants as acts
use Rattle.place_openings.specs.declared.one_place.Opening.{Opening}
use Rattle.place_openings.specs.Stands.{IsOpening}
use Rattle.place_openings.specs.Moves.{ReapsOnceMore}
use Rattle.place_openings.proofs.one_place.Opening.take.Goals as goal

with_child_or_not : (c : Config) (q p : Place) (past later : List Act) (o : Opening) → ((end : ChildEnd) → IsOpening c (acts.Reaped q end ∷ past) p o) → IsOpening c past p o → ReapsOnceMore q past later ⊎ (later ≡ past) → IsOpening c later p o
with_child_or_not c q p past later o reaped childless (inl k) = rw k.later_is (reaped k.end)
with_child_or_not c q p past later o reaped childless (inr e) = rw e childless

pub returns-in-Reaped-clause-goes : goal.returns-in-Reaped-clause-goes
returns-in-Reaped-clause-goes c = λ cfg past later p f i.
    with_child_or_not cfg _ p past later _ (λ end. c.hear_reaping.ensures.goes cfg past p end i) (c.hear_reaping.ensures.childless cfg past p i) (rw c.in-Reaped.is at f)

pub returns-in-Woken-clause-goes : goal.returns-in-Woken-clause-goes
returns-in-Woken-clause-goes c = λ cfg past later p f i.
    let k = rw c.in-Woken.is at f in rw k.later_is (c.wake.ensures.goes cfg past p k.until k.at i)

pub returns-in-Named-clause-goes : goal.returns-in-Named-clause-goes
returns-in-Named-clause-goes c = λ cfg past later p f i.
    let k = rw c.in-Named.is at f in rw k.later_is (c.hear_entry.ensures.goes cfg k.older p k.until k.at k.names (rw k.past_is at i))

asked_before : (old new asks : Bool) → new ≡ old → new ≡ true → (old || asks) ≡ true
asked_before old new asks same e = or_left old asks (sym same ∙ e)

pub returns-in-Opened-clause-asked : goal.returns-in-Opened-clause-asked
returns-in-Opened-clause-asked c = λ p e. asked_before _ _ _ (c.hear_opening.ensures.asked p) e

pub returns-in-OpenedLater-clause-asked : goal.returns-in-OpenedLater-clause-asked
returns-in-OpenedLater-clause-asked c = λ p e. asked_before _ _ _ (c.hear_later.ensures.asked p) e

pub returns-in-OpenFailed-clause-asked : goal.returns-in-OpenFailed-clause-asked
returns-in-OpenFailed-clause-asked c = λ p e. asked_before _ _ _ (c.hear_open_failure.ensures.asked p) e

pub returns-in-Listening-clause-asked : goal.returns-in-Listening-clause-asked
returns-in-Listening-clause-asked c = λ p e. asked_before _ _ _ (c.hear_listening.ensures.asked p) e

pub returns-in-ListenFailed-clause-asked : goal.returns-in-ListenFailed-clause-asked
returns-in-ListenFailed-clause-asked c = λ p e. asked_before _ _ _ (c.hear_listen_failure.ensures.asked p) e

pub returns-in-Accepted-clause-asked : goal.returns-in-Accepted-clause-asked
returns-in-Accepted-clause-asked c = λ p e. asked_before _ _ _ (c.hear_peer.ensures.asked p) e

pub returns-in-NoPeer-clause-asked : goal.returns-in-NoPeer-clause-asked
returns-in-NoPeer-clause-asked c = λ p e. asked_before _ _ _ (c.hear_no_peer.ensures.asked p) e

pub returns-in-AcceptFailed-clause-asked : goal.returns-in-AcceptFailed-clause-asked
returns-in-AcceptFailed-clause-asked c = λ p e. asked_before _ _ _ (c.hear_accept_failure.ensures.asked p) e

pub returns-in-Closed-clause-asked : goal.returns-in-Closed-clause-asked
returns-in-Closed-clause-asked c = λ p e. asked_before _ _ _ (c.hear_closing.ensures.asked p) e

pub returns-in-Woken-clause-asked : goal.returns-in-Woken-clause-asked
returns-in-Woken-clause-asked c = λ p e. asked_before _ _ _ (c.wake.ensures.asked p) e

pub returns-in-Named-clause-asked : goal.returns-in-Named-clause-asked
returns-in-Named-clause-asked c = λ p e. asked_before _ _ _ (c.hear_entry.ensures.asked p) e

pub returns-in-Reaped-clause-asked : goal.returns-in-Reaped-clause-asked
returns-in-Reaped-clause-asked c = λ p e. rw c.in-Reaped.is (c.hear_reaping.ensures.asked p e)
