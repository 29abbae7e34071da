-- What is used is held, and what was closed is over.
use Rattle.std.proofs.Common.{◌≡◌, refl, sym, ap, subst, ◌∙◌, ℕ, Bool, true, false, not, cond, ◌&&◌, is_some, is_none, List, [], ◌∷◌, ◌++◌, map, unwrap_or, Some}
use Rattle.std.specs.List.{list_all, list_any}
use Rattle.std.proofs.lemmas.Bool.{false_from_ne_true, false≢true, and_parts, or_parts}
use Rattle.std.proofs.lemmas.List.Folds.{list_all-append}
use Rattle.relay_model.specs.declared.places.Side.{Side}
use Rattle.relay_model.specs.declared.places.Side.TheVariants.{Left, Right}
use Rattle.relay_model.specs.declared.places.Part.{Part}
use Rattle.relay_model.specs.declared.places.Part.TheVariants.{Both}
use Rattle.relay_model.specs.declared.places.Half.{Half}
use Rattle.relay_model.specs.declared.places.Half.TheVariants.{ToRead, ToWrite}
use Rattle.relay_model.specs.declared.places.Way.{Way}
use Rattle.relay_model.specs.declared.places.Way.TheVariants.{LeftToRight, RightToLeft}
use Rattle.relay_model.specs.declared.places.Place.{Place}
use Rattle.relay_model.specs.declared.commands.Config.{Config}
use Rattle.relay_model.specs.declared.acts.Why.{Why}
use Rattle.relay_model.specs.declared.acts.Act.{Act}
use Rattle.relay_model.specs.declared.acts.Act.TheVariants.{Opened, OpenLater, OpenFailed, Listening, ListenFailed, Accepted, NoPeer, AcceptFailed, Read, ReadEmpty, ReadEnd, ReadNotYet, ReadFault, Wrote, WriteNotYet, WriteFault, Shut, ShutFault, Closed}
use Rattle.relay_model.specs.Places.{same_place}
use Rattle.relay_model.specs.Holding.{Hold, Free, Settling, Open, ShutDown, standing, is_free}
use Rattle.relay_model.specs.Configs.{input, output, parts, part_with, has_half, place_at, places, formed, way_from, way_to}
use Rattle.relay_model.specs.History.{stage, held, holds_at}
use Rattle.relay_model.specs.declared.stages.Stage.{Stage}
use Rattle.relay_model.specs.declared.stages.Stage.TheVariants.{Untried, Usable, Unsettled, Failed, Met, Waiting, Gone}
use Rattle.relay_model.specs.Openings.{is_ready, stands_ready, ready}
use Rattle.relay_model.specs.declared.calls.Call.TheVariants as calls
use Rattle.relay_model.specs.Cause.{running, cause}
use Rattle.relay_model.specs.Sessions.{live}
use Rattle.relay_model.specs.Moments.{broken}
use Rattle.relay_model.specs.Rest.{is_going, goes}
use Rattle.relay_model.specs.Calls.{called_at}
use Rattle.relay_model.specs.May.{Legal, MayAsk}
use Rattle.relay_model.specs.Laws.{uses, begins_holding, Tells}
use Rattle.relay_laws.proofs.PlaceLemmas.{same_place_equal, same_place_self}
use Rattle.relay_laws.proofs.CallLemmas.{called_tells}

-- ---- the ends of a direction that moves are held

ready_holds : (c : Config) (past : List Act) (p : Place) (st : Stage) → stands_ready c past p st ≡ true → holds_at st ≡ true
ready_holds c past p Untried e = e
ready_holds c past p Usable e = refl
ready_holds c past p Unsettled e = refl
ready_holds c past p Failed e = e
ready_holds c past p (Met peer) e = refl
ready_holds c past p Waiting e = refl
ready_holds c past p (Gone why) e = e

pub ready_is_held : (c : Config) (past : List Act) (p : Place) → is_ready c past p ≡ true → held past p ≡ true
ready_is_held c past p e = ready_holds c past p (stage past p) e

-- the test holds of the place with the half, where it holds of all places of the side
part_passes : (test : Place → Bool) (s : ℕ) (side : Side) (half : Half) (ps : List Part) → is_some (part_with half ps) ≡ true → list_all test (map (place_at s side) ps) ≡ true → test (place_at s side (unwrap_or (part_with half ps) Both)) ≡ true
part_passes test s side half [] f all = absurd (false≢true f)
part_passes test s side half (part ∷ ps) f all = go (has_half half part) f (λ g. part_passes test s side half ps g (and_parts (test (place_at s side part)) (list_all test (map (place_at s side) ps)) all).1)
  where
    go : (b : Bool) → is_some (cond b (Some part) (part_with half ps)) ≡ true → (is_some (part_with half ps) ≡ true → test (place_at s side (unwrap_or (part_with half ps) Both)) ≡ true) → test (place_at s side (unwrap_or (cond b (Some part) (part_with half ps)) Both)) ≡ true
    go true g ih = (and_parts (test (place_at s side part)) (list_all test (map (place_at s side) ps)) all).0
    go false g ih = ih g

sides_pass : (c : Config) (test : Place → Bool) (s : ℕ) → list_all test (places c s) ≡ true → (list_all test (map (place_at s Left) (parts c Left)) ≡ true) × (list_all test (map (place_at s Right) (parts c Right)) ≡ true)
sides_pass c test s all = and_parts (list_all test (map (place_at s Left) (parts c Left))) (list_all test (map (place_at s Right) (parts c Right))) (sym (list_all-append test (map (place_at s Left) (parts c Left)) (map (place_at s Right) (parts c Right))) ∙ all)

pub input_passes : (c : Config) (test : Place → Bool) (s : ℕ) (w : Way) → formed c w ≡ true → list_all test (places c s) ≡ true → test (input c s w) ≡ true
input_passes c test s LeftToRight f all = part_passes test s Left ToRead (parts c Left) (and_parts (is_some (part_with ToRead (parts c Left))) (is_some (part_with ToWrite (parts c Right))) f).0 (sides_pass c test s all).0
input_passes c test s RightToLeft f all = part_passes test s Right ToRead (parts c Right) (and_parts (is_some (part_with ToRead (parts c Right))) (is_some (part_with ToWrite (parts c Left))) f).0 (sides_pass c test s all).1

pub output_passes : (c : Config) (test : Place → Bool) (s : ℕ) (w : Way) → formed c w ≡ true → list_all test (places c s) ≡ true → test (output c s w) ≡ true
output_passes c test s LeftToRight f all = part_passes test s Right ToWrite (parts c Right) (and_parts (is_some (part_with ToRead (parts c Left))) (is_some (part_with ToWrite (parts c Right))) f).1 (sides_pass c test s all).1
output_passes c test s RightToLeft f all = part_passes test s Left ToWrite (parts c Left) (and_parts (is_some (part_with ToRead (parts c Right))) (is_some (part_with ToWrite (parts c Left))) f).1 (sides_pass c test s all).0

-- a direction that moves is formed, and its session is ready
pub moves_formed : (c : Config) (past : List Act) (s : ℕ) (w : Way) → is_going c past s w ≡ true → formed c w ≡ true
moves_formed c past s w m = (and_parts (formed c w) (not (broken c past s w)) (and_parts (goes c past s w) (running c past s) m).0).0

pub moves_running : (c : Config) (past : List Act) (s : ℕ) (w : Way) → is_going c past s w ≡ true → running c past s ≡ true
moves_running c past s w m = (and_parts (goes c past s w) (running c past s) m).1

pub running_ready : (c : Config) (past : List Act) (s : ℕ) → running c past s ≡ true → ready c past s ≡ true
running_ready c past s r = (and_parts (live c past s) (ready c past s) (and_parts (live c past s && ready c past s) (is_none (cause c past s)) r).0).1

asks_held : (c : Config) (past : List Act) (p : Place) → MayAsk c past p → held past p ≡ true
asks_held c past p m =
    let w = way_from p.side in
    let r = input_passes c (is_ready c past) p.session w (moves_formed c past p.session w m.moving) (running_ready c past p.session (moves_running c past p.session w m.moving)) in
    subst (λ q. held past q ≡ true) (sym (same_place_equal p (input c p.session w) m.is_input)) (ready_is_held c past (input c p.session w) r)

output_held : (c : Config) (past : List Act) (p : Place) → same_place p (output c p.session (way_to p.side)) ≡ true → is_going c past p.session (way_to p.side) ≡ true → held past p ≡ true
output_held c past p same moving =
    let w = way_to p.side in
    let r = output_passes c (is_ready c past) p.session w (moves_formed c past p.session w moving) (running_ready c past p.session (moves_running c past p.session w moving)) in
    subst (λ q. held past q ≡ true) (sym (same_place_equal p (output c p.session w) same)) (ready_is_held c past (output c p.session w) r)

accepts_held : (c : Config) (past : List Act) (d p : Place) → called_at c past d ≡ calls.Accept d p → held past d ≡ true
accepts_held c past d p e = let t = subst (Tells past) e (called_tells c past d) in ap holds_at t.0

at_same : (past : List Act) (q p : Place) → same_place q p ≡ true → held past q ≡ true → held past p ≡ true
at_same past q p e h = subst (λ x. held past x ≡ true) (same_place_equal q p e) h

pub used_held : (c : Config) (n : ℕ) (act : Act) (past : List Act) (p : Place) → Legal c n (act ∷ past) → uses act p ≡ true → held past p ≡ true
used_held c n (NoPeer q) past p legal u = at_same past q p u (accepts_held c past q legal.0.1.0 legal.0.1.1)
used_held c n (AcceptFailed q) past p legal u = at_same past q p u (accepts_held c past q legal.0.1.0 legal.0.1.1)
used_held c n (Read q bytes) past p legal u = at_same past q p u (asks_held c past q legal.0.1.asks)
used_held c n (ReadEmpty q) past p legal u = at_same past q p u (asks_held c past q legal.0.1.asks)
used_held c n (ReadEnd q) past p legal u = at_same past q p u (asks_held c past q legal.0.1.asks)
used_held c n (ReadNotYet q) past p legal u = at_same past q p u (asks_held c past q legal.0.1.asks)
used_held c n (ReadFault q) past p legal u = at_same past q p u (asks_held c past q legal.0.1.asks)
used_held c n (Wrote q bytes) past p legal u = at_same past q p u (output_held c past q legal.0.1.offers.is_output legal.0.1.offers.moving)
used_held c n (WriteNotYet q) past p legal u = at_same past q p u (output_held c past q legal.0.1.offers.is_output legal.0.1.offers.moving)
used_held c n (WriteFault q) past p legal u = at_same past q p u (output_held c past q legal.0.1.offers.is_output legal.0.1.offers.moving)
used_held c n (Shut q way) past p legal u = at_same past q p u (output_held c past q legal.0.1.is_output legal.0.1.moving)
used_held c n (ShutFault q way) past p legal u = at_same past q p u (output_held c past q legal.0.1.is_output legal.0.1.moving)
used_held c n (Closed q why) past p legal u = at_same past q p u legal.0.is_held
used_held c n act past p legal u = absurd (false≢true u)

-- ---- what was closed is over

not_held : (b : Bool) (st : Stage) (later : Stage) → holds_at later ≡ false → holds_at st ≡ false → holds_at (cond b st later) ≡ false
not_held true st later h k = k
not_held false st later h k = h

skipped : (b : Bool) (st : Stage) (later : Stage) → holds_at later ≡ false → b ≡ false → holds_at (cond b st later) ≡ false
skipped true st later h k = absurd (false≢true (sym k))
skipped false st later h k = h

-- an act that begins no holding leaves what isn't held
pub stays_over : (act : Act) (past : List Act) (p : Place) → begins_holding act p ≡ false → held past p ≡ false → held (act ∷ past) p ≡ false
stays_over (Opened q) past p b h = skipped (same_place q p) Usable (stage past p) h b
stays_over (OpenLater q) past p b h = skipped (same_place q p) Unsettled (stage past p) h b
stays_over (OpenFailed q) past p b h = not_held (same_place q p) Failed (stage past p) h refl
stays_over (Listening q) past p b h = skipped (same_place q p) Waiting (stage past p) h b
stays_over (ListenFailed q) past p b h = not_held (same_place q p) Failed (stage past p) h refl
stays_over (Accepted q peer) past p b h = skipped (same_place q p) (Met peer) (stage past p) h b
stays_over (Closed q why) past p b h = not_held (same_place q p) (Gone why) (stage past p) h refl
stays_over act past p b h = h

closed_at : (past : List Act) (p : Place) (why : Why) → held (Closed p why ∷ past) p ≡ false
closed_at past p why = subst (λ b. holds_at (cond b (Gone why) (stage past p)) ≡ false) (sym (same_place_self p)) refl

over_after : (later past : List Act) (p : Place) (why : Why) → list_any (λ a. begins_holding a p) later ≡ false → held (later ++ Closed p why ∷ past) p ≡ false
over_after [] past p why none = closed_at past p why
over_after (act ∷ later) past p why none =
    let parts = or_parts (begins_holding act p) (list_any (λ a. begins_holding a p) later) none in
    stays_over act (later ++ Closed p why ∷ past) p parts.0 (over_after later past p why parts.1)

pub closed_over : (c : Config) (n : ℕ) (act : Act) (later past : List Act) (p : Place) (why : Why) → Legal c n (act ∷ later ++ Closed p why ∷ past) → list_any (λ a. begins_holding a p) later ≡ false → uses act p ≡ false
closed_over c n act later past p why legal none = false_from_ne_true (uses act p) (λ u. false≢true (sym (over_after later past p why none) ∙ used_held c n act (later ++ Closed p why ∷ past) p legal u))

-- ---- what a world tells

agree : (b : Bool) (hold : Hold) (st : Stage) (h : Hold) (t : Stage) → is_free h ≡ not (holds_at t) → is_free hold ≡ not (holds_at st) → is_free (cond b hold h) ≡ not (holds_at (cond b st t))
agree true hold st h t old new = new
agree false hold st h t old new = old

shut_agrees : (b : Bool) (h : Hold) (t : Stage) → is_free h ≡ not (holds_at t) → (b ≡ true → holds_at t ≡ true) → is_free (cond b ShutDown h) ≡ not (holds_at t)
shut_agrees true h t old held_there = sym (ap not (held_there refl))
shut_agrees false h t old held_there = old

pub standing_held : (c : Config) (n : ℕ) (past : List Act) (p : Place) → Legal c n past → is_free (standing past p) ≡ not (held past p)
standing_held c n [] p legal = refl
standing_held c n (Opened q ∷ past) p legal = agree (same_place q p) Open Usable (standing past p) (stage past p) (standing_held c n past p legal.1) refl
standing_held c n (OpenLater q ∷ past) p legal = agree (same_place q p) Settling Unsettled (standing past p) (stage past p) (standing_held c n past p legal.1) refl
standing_held c n (OpenFailed q ∷ past) p legal = agree (same_place q p) Free Failed (standing past p) (stage past p) (standing_held c n past p legal.1) refl
standing_held c n (Listening q ∷ past) p legal = agree (same_place q p) Open Waiting (standing past p) (stage past p) (standing_held c n past p legal.1) refl
standing_held c n (ListenFailed q ∷ past) p legal = agree (same_place q p) Free Failed (standing past p) (stage past p) (standing_held c n past p legal.1) refl
standing_held c n (Accepted q peer ∷ past) p legal = agree (same_place q p) Open (Met peer) (standing past p) (stage past p) (standing_held c n past p legal.1) refl
standing_held c n (Closed q why ∷ past) p legal = agree (same_place q p) Free (Gone why) (standing past p) (stage past p) (standing_held c n past p legal.1) refl
standing_held c n (Shut q way ∷ past) p legal = shut_agrees (same_place q p) (standing past p) (stage past p) (standing_held c n past p legal.1) (λ e. used_held c n (Shut q way) past p legal e)
standing_held c n (ShutFault q way ∷ past) p legal = shut_agrees (same_place q p) (standing past p) (stage past p) (standing_held c n past p legal.1) (λ e. used_held c n (ShutFault q way) past p legal e)
standing_held c n (act ∷ past) p legal = standing_held c n past p legal.1
