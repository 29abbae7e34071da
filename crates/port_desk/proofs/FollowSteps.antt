-- What one act makes of what follows a history.
use Rattle.std.proofs.Common.{◌≡◌, ◌≤◌, length, take, ℕ, Bool, true, false, List, [], ◌∷◌, ◌++◌, Option, None, Some, IfSome, is_some, option_map, refl, sym, ap, subst, ◌∙◌}
use Rattle.relay_model.specs.declared.acts.Act.{Act}
use Rattle.relay_model.specs.declared.places.Place.{Place}
use Rattle.relay_model.specs.declared.commands.Single.{Single}
use Rattle.relay_model.specs.Holding.{is_free}
use Rattle.relay_model.specs.Journals.{Asking, History}
use Rattle.relay_model.specs.Places.{same_place}
use Rattle.world_trait.specs.Recordings.{with_act, with_asking}
use Rattle.port_trait.specs.Meanings.{Adds}
use Rattle.world_trait.specs.declared.answers.NoteAnswer.{NoteAnswer}
use Rattle.world_trait.specs.declared.answers.NoteAnswer.TheVariants as notes
use Rattle.port_table.specs.Ports.{StreamSeen}
use Rattle.port_table.specs.declared.bases.Base.{Base}
use Rattle.port_table.specs.declared.bases.Base.TheVariants as bases
use Rattle.desk_places.specs.declared.places.PlaceEntry.{PlaceEntry}
use Rattle.desk_places.specs.PlaceBases.{ComesOn, Leaves, SameBases, StandsFor}
use Rattle.desk_places.specs.PlaceTables.{base_at, hold_at, hold_by, entry_at}
use Rattle.desk_places.proofs.PlaceLemmas.{same_place-eq}
use Rattle.port_desk.specs.Records.{Tells}
use Rattle.port_desk.specs.Following.{AllOwn, Follows, FollowsTold, IsElsewhere, are_noted, errors_written, input_ended, input_read, output_written, reads_input, stream_of, writes_errors, writes_output}

-- ---- what is told

-- the act of an answer is told, and what was asked, where acts are told
abbrev pub TellsAsking : Asking → Option Act → Option History → Option History → Type 0
TellsAsking asking None told told' = told' ≡ told
TellsAsking asking (Some act) told told' = told' ≡ option_map (with_asking act asking) told

-- what standard error took of a note, by the answer
abbrev pub NotedSo : NoteAnswer → Option (List ℕ) → Option (List ℕ) → List ℕ → Type 0
NotedSo notes.Noted before now text = Adds before now text
NotedSo notes.Failed before now text = (n : ℕ) × (n ≤ length text) × Adds before now (take n text)
NotedSo notes.Memory before now text = now ≡ before

-- ---- what a place stands on

-- each place stands on the streams of its address
abbrev pub AllStandFor : (Place → Single) → (Place → Option Base) → Type 0
AllStandFor own base = (p : Place) → IfSome (base p) (λ b. StandsFor (stream_of own p) (Some b))

pub stands_same : (own : Place → Single) (base base' : Place → Option Base) → SameBases base base' → AllStandFor own base → AllStandFor own base'
stands_same own base base' same stands p = subst (λ slot. IfSome slot (λ b. StandsFor (stream_of own p) (Some b))) (sym (same p)) (stands p)

pub on_own : (asked slot : Option Base) → StandsFor asked slot → IfSome slot (λ b. StandsFor asked (Some b))
on_own asked None h = tt
on_own asked (Some b) h = h

-- a place that comes to stand on what is its own
pub comes_here : (own : Place → Single) (place p : Place) (asked : Option Base) (base base' : Place → Option Base) → stream_of own place ≡ asked → ComesOn asked place base base' → AllStandFor own base → (b : Bool) → same_place place p ≡ b → IfSome (base' p) (λ d. StandsFor (stream_of own p) (Some d))
comes_here own place p asked base base' is comes stands true e =
    subst (λ q. IfSome (base' q) (λ d. StandsFor (stream_of own q) (Some d))) (same_place-eq place p e)
    (subst (λ slot. IfSome (base' place) (λ d. StandsFor slot (Some d))) (sym is) (on_own asked (base' place) comes.0))
comes_here own place p asked base base' is comes stands false e =
    subst (λ slot. IfSome slot (λ d. StandsFor (stream_of own p) (Some d))) (sym (comes.1 p e)) (stands p)

pub stands_comes : (own : Place → Single) (place : Place) (asked : Option Base) (base base' : Place → Option Base) → stream_of own place ≡ asked → ComesOn asked place base base' → AllStandFor own base → AllStandFor own base'
stands_comes own place asked base base' is comes stands p = comes_here own place p asked base base' is comes stands (same_place place p) refl

pub leaves_here : (own : Place → Single) (place p : Place) (base base' : Place → Option Base) → Leaves place base base' → AllStandFor own base → (b : Bool) → same_place place p ≡ b → IfSome (base' p) (λ d. StandsFor (stream_of own p) (Some d))
leaves_here own place p base base' leaves stands true e =
    subst (λ q. IfSome (base' q) (λ d. StandsFor (stream_of own q) (Some d))) (same_place-eq place p e)
    (subst (λ slot. IfSome slot (λ d. StandsFor (stream_of own place) (Some d))) (sym leaves.0) tt)
leaves_here own place p base base' leaves stands false e =
    subst (λ slot. IfSome slot (λ d. StandsFor (stream_of own p) (Some d))) (sym (leaves.1 p e)) (stands p)

pub stands_leaves : (own : Place → Single) (place : Place) (base base' : Place → Option Base) → Leaves place base base' → AllStandFor own base → AllStandFor own base'
stands_leaves own place base base' leaves stands p = leaves_here own place p base base' leaves stands (same_place place p) refl

-- what stands on the streams of its address is read and written as these are
pub own_reads : (asked : Option Base) (b : Base) → StandsFor asked (Some b) → reads_input asked ≡ reads_input (Some b)
own_reads (Some s) b h = ap reads_input (sym h)
own_reads None (bases.Made key) h = refl
own_reads None bases.Input h = absurd cc
own_reads None bases.Output h = absurd cc
own_reads None bases.Both h = absurd cc
own_reads None bases.Errors h = absurd cc

pub own_writes : (asked : Option Base) (b : Base) → StandsFor asked (Some b) → writes_output asked ≡ writes_output (Some b)
own_writes (Some s) b h = ap writes_output (sym h)
own_writes None (bases.Made key) h = refl
own_writes None bases.Input h = absurd cc
own_writes None bases.Output h = absurd cc
own_writes None bases.Both h = absurd cc
own_writes None bases.Errors h = absurd cc

pub own_said : (asked : Option Base) (b : Base) → StandsFor asked (Some b) → writes_errors asked ≡ writes_errors (Some b)
own_said (Some s) b h = ap writes_errors (sym h)
own_said None (bases.Made key) h = refl
own_said None bases.Input h = absurd cc
own_said None bases.Output h = absurd cc
own_said None bases.Both h = absurd cc
own_said None bases.Errors h = absurd cc

-- a place that is held stands on something
pub based_by : (slot : Option PlaceEntry) → is_free (hold_by slot) ≡ false → is_some (option_map (λ s. s.base) slot) ≡ true
based_by None e = absurd cc
based_by (Some s) e = refl

pub based : (xs : List PlaceEntry) (p : Place) → is_free (hold_at xs p) ≡ false → is_some (base_at xs p) ≡ true
based xs p e = based_by (entry_at xs p) e

pub found : (slot : Option Base) → is_some slot ≡ true → (b : Base) × (slot ≡ Some b)
found None e = absurd cc
found (Some b) e = (b, refl)

pub on_slot : (slot : Option Base) (b : Base) (Fact : Base → Type 0) → slot ≡ Some b → IfSome slot Fact → Fact b
on_slot slot b Fact e h = subst (λ s. IfSome s Fact) e h

-- ---- what was asked for

pub own_front : (own : Place → Single) (asked : List Asking) (last : Asking) → AllOwn own (asked ++ last ∷ []) → AllOwn own asked
own_front own [] last all = tt
own_front own (a ∷ more) last all = (all.0, own_front own more last all.1)

pub own_last : (own : Place → Single) (asked : List Asking) (last : Asking) → AllOwn own (asked ++ last ∷ []) → last.1 ≡ own last.0
own_last own [] last all = all.0
own_last own (a ∷ more) last all = own_last own more last all.1

-- ---- one act

-- what an act makes of what follows
abbrev pub Goes : (Place → Single) → Act → (Place → Option Base) → (Place → Option Base) → Option (List ℕ) → Option (List ℕ) → Option (List ℕ) → Option (List ℕ) → Option (List ℕ) → Option (List ℕ) → Bool → Bool → Type 0
Goes own act base base' gave gave' took took' said said' over over' = (past : List Act) → Follows own past base gave took said over → Follows own (act ∷ past) base' gave' took' said' over'

pub acted : (told told' : Option History) (act : Act) (base base' : Place → Option Base) (gave gave' took took' said said' : Option (List ℕ)) (over over' : Bool) → told' ≡ option_map (with_act act) told → ((own : Place → Single) → IsElsewhere own act → Goes own act base base' gave gave' took took' said said' over over') → FollowsTold told base gave took said over → FollowsTold told' base' gave' took' said' over'
acted None told' act base base' gave gave' took took' said said' over over' e goes follows = subst (λ t. FollowsTold t base' gave' took' said' over') (sym e) tt
acted (Some h) told' act base base' gave gave' took took' said said' over over' e goes follows =
    subst (λ t. FollowsTold t base' gave' took' said' over') (sym e) (λ own all elsewhere. goes own elsewhere.0 h.acts (follows own all elsewhere.1))

pub asked : (told told' : Option History) (act : Act) (asking : Asking) (base base' : Place → Option Base) (gave gave' took took' said said' : Option (List ℕ)) (over over' : Bool) → told' ≡ option_map (with_asking act asking) told → ((own : Place → Single) → IsElsewhere own act → asking.1 ≡ own asking.0 → Goes own act base base' gave gave' took took' said said' over over') → FollowsTold told base gave took said over → FollowsTold told' base' gave' took' said' over'
asked None told' act asking base base' gave gave' took took' said said' over over' e goes follows = subst (λ t. FollowsTold t base' gave' took' said' over') (sym e) tt
asked (Some h) told' act asking base base' gave gave' took took' said said' over over' e goes follows =
    subst (λ t. FollowsTold t base' gave' took' said' over') (sym e)
    (λ own all elsewhere. goes own elsewhere.0 (own_last own h.asked asking all) h.acts (follows own (own_front own h.asked asking all) elsewhere.1))

pub kept_sum : (slot slot' : Option (List ℕ)) (x y : List ℕ) → slot' ≡ slot → y ≡ x → IfSome slot (λ all. all ≡ x) → IfSome slot' (λ all. all ≡ y)
kept_sum slot slot' x y e f h = subst (λ s. IfSome s (λ all. all ≡ y)) (sym e) (subst (λ z. IfSome slot (λ all. all ≡ z)) (sym f) h)

pub grown_sum : (slot slot' : Option (List ℕ)) (f : List ℕ → List ℕ) (x : List ℕ) → slot' ≡ option_map f slot → IfSome slot (λ all. all ≡ x) → IfSome slot' (λ all. all ≡ f x)
grown_sum None slot' f x e h = subst (λ s. IfSome s (λ all. all ≡ f x)) (sym e) tt
grown_sum (Some a) slot' f x e h = subst (λ s. IfSome s (λ all. all ≡ f x)) (sym e) (ap f h)

-- an act that reads, writes and notes nothing
abbrev pub IsStillAt : (Place → Single) → Act → List Act → Type 0
IsStillAt own act past = (input_read own (act ∷ past) ≡ input_read own past) × ((output_written own (act ∷ past) ≡ output_written own past) × ((errors_written own (act ∷ past) ≡ errors_written own past) × ((are_noted (act ∷ past) ≡ are_noted past) × (input_ended own (act ∷ past) ≡ input_ended own past))))

-- what is told where no note failed
abbrev pub Told : Bool → Option (List ℕ) → List ℕ → Type 0
Told whole slot x = whole ≡ true → IfSome slot (λ all. all ≡ x)

pub kept_told : (slot slot' : Option (List ℕ)) (x y : List ℕ) (whole whole' : Bool) → slot' ≡ slot → y ≡ x → whole' ≡ whole → Told whole slot x → Told whole' slot' y
kept_told slot slot' x y whole whole' e f g h now = kept_sum slot slot' x y e f (h (sym g ∙ now))

pub kept_over : (before now over over' : Bool) → over' ≡ over → now ≡ before → (before ≡ true → over ≡ true) → now ≡ true → over' ≡ true
kept_over before now over over' e f h is = e ∙ h (sym f ∙ is)

-- an act that passes no bytes
pub quiet : (own : Place → Single) (act : Act) (base base' : Place → Option Base) (gave gave' took took' said said' : Option (List ℕ)) (over over' : Bool) → (AllStandFor own base → AllStandFor own base') → gave' ≡ gave → took' ≡ took → said' ≡ said → over' ≡ over → ((past : List Act) → IsStillAt own act past) → Goes own act base base' gave gave' took took' said said' over over'
quiet own act base base' gave gave' took took' said said' over over' stands e f g k still past follows = record {
  stands = stands follows.stands;
  given = kept_sum gave gave' _ _ e (still past).0 follows.given;
  taken = kept_sum took took' _ _ f (still past).1.0 follows.taken;
  told = kept_told said said' _ _ _ _ g (still past).1.1.0 (still past).1.1.1.0 follows.told;
  over = kept_over _ _ over over' k (still past).1.1.1.1 follows.over;
}

-- no act was made
pub nothing : (told told' : Option History) (base base' : Place → Option Base) (gave gave' took took' said said' : Option (List ℕ)) (over over' : Bool) → told' ≡ told → SameBases base base' → gave' ≡ gave → took' ≡ took → said' ≡ said → over' ≡ over → FollowsTold told base gave took said over → FollowsTold told' base' gave' took' said' over'
nothing None told' base base' gave gave' took took' said said' over over' e same f h k m follows = subst (λ t. FollowsTold t base' gave' took' said' over') (sym e) tt
nothing (Some history) told' base base' gave gave' took took' said said' over over' e same f h k m follows =
    subst (λ t. FollowsTold t base' gave' took' said' over') (sym e)
    (λ own all elsewhere.
    let here = follows own all elsewhere in
    record { stands = stands_same own base base' same here.stands; given = kept_sum gave gave' _ _ f refl here.given; taken = kept_sum took took' _ _ h refl here.taken; told = kept_told said said' _ _ _ _ k refl refl here.told; over = kept_over _ _ over over' m refl here.over })

pub unmapped : (slot : Option (List ℕ)) → slot ≡ option_map (λ all. all) slot
unmapped None = refl
unmapped (Some all) = refl

pub gave_of : (stream stream' : StreamSeen) → stream' ≡ stream → stream'.port.gave ≡ stream.port.gave
gave_of stream stream' same = ap (λ (s : StreamSeen). s.port.gave) same

pub took_of : (stream stream' : StreamSeen) → stream' ≡ stream → stream'.port.took ≡ stream.port.took
took_of stream stream' same = ap (λ (s : StreamSeen). s.port.took) same

pub ended_of : (stream stream' : StreamSeen) → stream' ≡ stream → stream'.port.ended ≡ stream.port.ended
ended_of stream stream' same = ap (λ (s : StreamSeen). s.port.ended) same

-- ---- an answer that passes no bytes and moves no place

-- an act that reads, writes and notes nothing, whatever came before it
abbrev pub IsStill : Act → Type 0
IsStill act = (own : Place → Single) (past : List Act) → IsStillAt own act past

pub still_follows : (made : Option Act) (told told' : Option History) (base base' : Place → Option Base) (gave gave' took took' said said' : Option (List ℕ)) (over over' : Bool) → IfSome made IsStill → Tells made told told' → SameBases base base' → gave' ≡ gave → took' ≡ took → said' ≡ said → over' ≡ over → FollowsTold told base gave took said over → FollowsTold told' base' gave' took' said' over'
still_follows None told told' base base' gave gave' took took' said said' over over' is_still did same e f g k =
    nothing told told' base base' gave gave' took took' said said' over over' did same e f g k
still_follows (Some act) told told' base base' gave gave' took took' said said' over over' is_still did same e f g k =
    acted told told' act base base' gave gave' took took' said said' over over' did
    (λ own elsewhere. quiet own act base base' gave gave' took took' said said' over over' (stands_same own base base' same) e f g k (is_still own))
