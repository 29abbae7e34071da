-- What each kind of act changes, by computing at its own place.
use Rattle.std.proofs.Common.{◌≡◌, refl, ap, subst, sym, ◌∙◌, ℕ, true, false, not, cond, ◌&&◌, ◌||◌, List, [], ◌∷◌, ◌++◌, Some}
use Rattle.relay_model.specs.declared.places.Half.TheVariants.{ToRead, ToWrite}
use Rattle.relay_model.specs.declared.places.Way.{Way}
use Rattle.relay_model.specs.declared.places.Place.{Place}
use Rattle.relay_model.specs.declared.commands.Config.{Config}
use Rattle.relay_model.specs.declared.acts.Act.{Act}
use Rattle.relay_model.specs.declared.acts.Act.TheVariants.{Turn, Opened, OpenLater, OpenFailed, Listening, ListenFailed, Accepted, NoPeer, AcceptFailed, Read, ReadEmpty, ReadEnd, ReadNotYet, ReadFault, Wrote, WriteNotYet, WriteFault, Shut, ShutFault, Closed, Reaped}
use Rattle.relay_model.specs.Places.{same_place}
use Rattle.relay_model.specs.Choices.{joined, noted, only_if, or_else}
use Rattle.relay_model.specs.Holding.{Free, Settling, Open, ShutDown, standing}
use Rattle.relay_model.specs.Configs.{input, accepting_door}
use Rattle.relay_model.specs.History.{now, stage, failures, woken, accept_failed, was_closed, was_reaped, reaped_since, got, put, sent, met_end, met_empty, shut_at, read_fault_at, write_fault_at}
use Rattle.relay_model.specs.declared.stages.Stage.TheVariants.{Usable, Unsettled, Failed, Met, Waiting, Gone}
use Rattle.relay_model.specs.Arming.{read_arming, armed_to_write, armed_to_accept, asked_to_read, asked_to_write, asked_to_accept}
use Rattle.relay_model.specs.declared.armings.Arming.TheVariants.{Disarmed, Armed, AtEnd}
use Rattle.relay_model.specs.Transfers.{due_part, due_pieces, is_empty}
use Rattle.relay_model.specs.Moments.{moved_at}
use Rattle.relay_model.specs.Cause.{closed_why}
use Rattle.relay_model.specs.Outcome.{first_fault}
use Rattle.relay_model.specs.declared.outcomes.RunOutcome.TheVariants.{Faulted}
use Rattle.relay_model.specs.Changes.{Makes}
use Rattle.relay_laws.proofs.PlaceLemmas.{same_place_self}

pieces_made :
    (c : Config) (s : ℕ) (w : Way) (p : Place) (bytes : List ℕ) (past : List Act) → p ≡ input c s w → is_empty (due_part c w (got past p) bytes) ≡ false →
    due_pieces c (Read p bytes ∷ past) s w ≡ due_pieces c past s w ++ due_part c w (got past p) bytes ∷ []
pieces_made c s w p bytes past e some =
    let here : same_place p (input c s w) ≡ true = subst (λ x. same_place p x ≡ true) e (same_place_self p) in
    let g : got past (input c s w) ≡ got past p = ap (got past) (sym e) in
    let before = due_pieces c past s w in
    let one : due_pieces c (Read p bytes ∷ past) s w ≡ joined (not (is_empty (due_part c w (got past p) bytes))) before (due_part c w (got past p) bytes ∷ []) =
    λ i. joined (here i && not (is_empty (due_part c w (g i) bytes))) before (due_part c w (g i) bytes ∷ [])
    in
    one ∙ ap (λ b. joined (not b) before (due_part c w (got past p) bytes ∷ [])) some

pub steps_change : (act : Act) (past : List Act) → Makes act past
steps_change (Turn until at ready stop) past = record { now_is = refl; turns_are = refl; stop_is = refl; woken_is = λ p. refl; read_arming_is = λ p. refl; write_arming_is = λ p. refl; accept_arming_is = λ d. refl; read_unasked = λ p. refl; write_unasked = λ i o. refl; accept_unasked = λ c d. refl }
steps_change (Opened p) past = record { stage_is = ap (λ b. cond b Usable (stage past p)) (same_place_self p); standing_is = ap (λ b. cond b Open (standing past p)) (same_place_self p); read_arming_is = ap (λ b. cond b Armed (read_arming past p)) (same_place_self p); write_arming_is = ap (λ b. b || armed_to_write past p) (same_place_self p); moved_is = λ c s e i. cond (e i) (now past) (moved_at c past s) }
steps_change (OpenLater p) past = record { stage_is = ap (λ b. cond b Unsettled (stage past p)) (same_place_self p); standing_is = ap (λ b. cond b Settling (standing past p)) (same_place_self p); not_woken = ap (λ b. not b && woken past p) (same_place_self p) }
steps_change (OpenFailed p) past = record { stage_is = ap (λ b. cond b Failed (stage past p)) (same_place_self p); standing_is = ap (λ b. cond b Free (standing past p)) (same_place_self p); failures_are = ap (λ b. noted b (now past) (failures past p)) (same_place_self p) }
steps_change (Listening p) past = record { stage_is = ap (λ b. cond b Waiting (stage past p)) (same_place_self p); standing_is = ap (λ b. cond b Open (standing past p)) (same_place_self p); accept_arming_is = ap (λ b. b || armed_to_accept past p) (same_place_self p) }
steps_change (ListenFailed p) past = record { stage_is = ap (λ b. cond b Failed (stage past p)) (same_place_self p); standing_is = ap (λ b. cond b Free (standing past p)) (same_place_self p); failures_are = ap (λ b. noted b (now past) (failures past p)) (same_place_self p) }
steps_change (Accepted p peer) past = record { stage_is = ap (λ b. cond b (Met peer) (stage past p)) (same_place_self p); standing_is = ap (λ b. cond b Open (standing past p)) (same_place_self p); read_arming_is = ap (λ b. cond b Armed (read_arming past p)) (same_place_self p); write_arming_is = ap (λ b. b || armed_to_write past p) (same_place_self p); accept_asked = λ c. ap (λ b. b || asked_to_accept c past (accepting_door c p)) (same_place_self (accepting_door c p)); moved_is = λ c s e i. cond (e i) (now past) (moved_at c past s); admitted_is = λ c. refl }
steps_change (NoPeer p) past = record { accept_arming_is = ap (λ b. not b && armed_to_accept past p) (same_place_self p); accept_asked = λ c. ap (λ b. b || asked_to_accept c past p) (same_place_self p) }
steps_change (AcceptFailed p) past = record { accept_failed_is = ap (λ b. b || accept_failed past p) (same_place_self p); accept_asked = λ c. ap (λ b. b || asked_to_accept c past p) (same_place_self p) }
steps_change (Read p bytes) past = record { got_is = ap (λ b. joined b (got past p) bytes) (same_place_self p); read_asked = ap (λ b. b || asked_to_read past p) (same_place_self p); write_unasked = λ o. ap (λ b. not b && asked_to_write past p o) (same_place_self p); moved_is = λ c s e i. cond (e i) (now past) (moved_at c past s); due_pieces_are = λ c s w. pieces_made c s w p bytes past }
steps_change (ReadEmpty p) past = record { met_empty_is = ap (λ b. b || met_empty past p) (same_place_self p); read_asked = ap (λ b. b || asked_to_read past p) (same_place_self p) }
steps_change (ReadEnd p) past = record { met_end_is = ap (λ b. b || met_end past p) (same_place_self p); read_arming_is = ap (λ b. cond b (AtEnd (now past)) (read_arming past p)) (same_place_self p); read_asked = ap (λ b. b || asked_to_read past p) (same_place_self p) }
steps_change (ReadNotYet p) past = record { read_arming_is = ap (λ b. cond b Disarmed (read_arming past p)) (same_place_self p); read_asked = ap (λ b. b || asked_to_read past p) (same_place_self p) }
steps_change (ReadFault p) past = record { read_fault_is = ap (λ b. cond b (Some (now past)) (read_fault_at past p)) (same_place_self p); read_asked = ap (λ b. b || asked_to_read past p) (same_place_self p); first_fault_is = λ c s e i. or_else (first_fault c past s) (only_if (e i) (Faulted p ToRead)) }
steps_change (Wrote p bytes) past = record { put_is = ap (λ b. joined b (put past p) bytes) (same_place_self p); sent_is = ap (λ b. joined b (sent past p) (bytes ∷ [])) (same_place_self p); write_asked = λ i. ap (λ b. b || asked_to_write past i p) (same_place_self p); moved_is = λ c s e i. cond (e i) (now past) (moved_at c past s) }
steps_change (WriteNotYet p) past = record { write_arming_is = ap (λ b. not b && armed_to_write past p) (same_place_self p); write_asked = λ i. ap (λ b. b || asked_to_write past i p) (same_place_self p) }
steps_change (WriteFault p) past = record { write_fault_is = ap (λ b. cond b (Some (now past)) (write_fault_at past p)) (same_place_self p); write_asked = λ i. ap (λ b. b || asked_to_write past i p) (same_place_self p); first_fault_is = λ c s e i. or_else (first_fault c past s) (only_if (e i) (Faulted p ToWrite)) }
steps_change (Shut p way) past = record { shut_is = ap (λ b. cond b (Some (now past)) (shut_at past p)) (same_place_self p); standing_is = ap (λ b. cond b ShutDown (standing past p)) (same_place_self p) }
steps_change (ShutFault p way) past = record { shut_is = ap (λ b. cond b (Some (now past)) (shut_at past p)) (same_place_self p); standing_is = ap (λ b. cond b ShutDown (standing past p)) (same_place_self p) }
steps_change (Closed p why) past = record { stage_is = ap (λ b. cond b (Gone why) (stage past p)) (same_place_self p); standing_is = ap (λ b. cond b Free (standing past p)) (same_place_self p); was_closed_is = ap (λ b. b || was_closed past p) (same_place_self p); reaped_since_is = ap (λ b. not b && reaped_since past p) (same_place_self p); stop_is = refl; memory_is = refl; closed_why_is = λ c s e f i. cond (e i && f i) (Some why) (closed_why c past s) }
steps_change (Reaped p end) past = record { was_reaped_is = ap (λ b. b || was_reaped past p) (same_place_self p); reaped_since_is = ap (λ b. b || reaped_since past p) (same_place_self p) }
steps_change act past = tt
