-- What a turn names by hints, and which halves it arms.
use Rattle.std.proofs.Common.{◌≡◌, ◌≤◌, ◌<◌, ◌+◌, ◌⊎◌, inl, inr, ℕ, zero, suc, Bool, true, false, not, ◌&&◌, ◌||◌, List, [], ◌∷◌, length, take, slice_get, Option, Some, None, IfSome, option_map, refl, sym, ap, subst, ◌∙◌, add-one, arith, if◌then◌else◌}
use Rattle.std.proofs.lemmas.List.{take_all}
use Rattle.slab.specs.Slab.{Slab, SameValues, get}
use Rattle.relay_model.specs.declared.places.Place.{Place}
use Rattle.relay_model.specs.declared.places.Half.{Half}
use Rattle.relay_model.specs.declared.places.Half.TheVariants.{ToRead, ToWrite}
use Rattle.relay_model.specs.declared.readiness.ReadyAt.{ReadyAt}
use Rattle.relay_model.specs.Places.{same_place, same_half}
use Rattle.relay_model.specs.Readiness.{names}
use Rattle.port_trait.specs.declared.answers.Hint.{Hint}
use Rattle.port_table.specs.Bases.{is_standard}
use Rattle.port_trait.specs.Ports.{PortSeen}
use Rattle.port_table.specs.Ports.{EntrySeen}
use Rattle.port_table.specs.PortTables.{PortId, Input, Output, Errors, Made, giving_port, hint_told, hints_of, place_of, taking_port}
use Rattle.port_table.specs.declared.bases.Base.{Base}
use Rattle.port_table.specs.declared.bases.Base.TheVariants as bases
use Rattle.desk_places.specs.declared.places.PlaceEntry.{PlaceEntry}
use Rattle.desk_places.specs.Standing.{IsSound, heeds, is_heeded, is_quiet, may_tell, stands_on, tells}
use Rattle.desk_places.specs.Keys.{KeyTable, is_in}
use Rattle.desk_places.proofs.KeyLemmas.{in_index}
use Rattle.desk_places.specs.PlaceTables.{AreListed, SetsEntry, half_disarmed, is_disarmed, entry_at, with_half}
use Rattle.desk_places.proofs.PlaceLemmas.{same_place-eq}
use Rattle.desk_places.proofs.SoundLemmas.{stands_at}
use Rattle.desk_places.proofs.EntryLemmas.{asked_index}
use Rattle.desk_places.specs.Naming.{Grown, HintNamed, IsHinted, IsHinting, IsNamed, NamesHinting, NamesListed, NamesStandard, PlaceNamed, PollsUntil, EntryNamed, half_port, is_hinted}
use Rattle.desk_places.proofs.NamingLemmas.{below_or_last, named_on, within}

-- ---- hints

reading_step : (slot : Option Hint) (hint : Hint) (Fact : Type 0) → IfSome slot (λ told. hint.readable ≡ told.readable) → (hint.readable ≡ true → Fact) → IfSome slot (λ told. told.readable ≡ true → Fact)
reading_step None hint Fact same fact = tt
reading_step (Some told) hint Fact same fact = λ ready. fact (same ∙ ready)

writing_step : (slot : Option Hint) (hint : Hint) (Fact : Type 0) → IfSome slot (λ told. hint.writable ≡ told.writable) → (hint.writable ≡ true → Fact) → IfSome slot (λ told. told.writable ≡ true → Fact)
writing_step None hint Fact same fact = tt
writing_step (Some told) hint Fact same fact = λ ready. fact (same ∙ ready)

-- the halves that the hint finds ready, by what the ports tell
pub entry_named : (told : PortId → Option Hint) (entry : PlaceEntry) (hint : Hint) (ready : List ReadyAt) → HintNamed entry hint ready → IfSome (told (giving_port entry.base)) (λ h. hint.readable ≡ h.readable) → IfSome (told (taking_port entry.base)) (λ h. hint.writable ≡ h.writable) → EntryNamed told entry ready
entry_named told entry hint ready named reading writing ToRead off = reading_step (told (giving_port entry.base)) hint (IsNamed ready entry.place ToRead) reading (named ToRead off)
entry_named told entry hint ready named reading writing ToWrite off = writing_step (told (taking_port entry.base)) hint (IsNamed ready entry.place ToWrite) writing (named ToWrite off)

hint_on : (slot : Option Hint) (half : Half) (place : Place) (xs ys : List ReadyAt) → Grown xs ys → IfSome slot (λ hint. is_hinted half hint ≡ true → IsNamed xs place half) → IfSome slot (λ hint. is_hinted half hint ≡ true → IsNamed ys place half)
hint_on None half place xs ys grown h = tt
hint_on (Some hint) half place xs ys grown h = λ ready. named_on xs ys place half grown (h ready)

-- what was named stays named
pub entry_on : (told : PortId → Option Hint) (entry : PlaceEntry) (xs ys : List ReadyAt) → Grown xs ys → EntryNamed told entry xs → EntryNamed told entry ys
entry_on told entry xs ys grown named = λ half off. hint_on (told (half_port half entry.base)) half entry.place xs ys grown (named half off)

-- ports that tell the same hints
pub told_same : (input output errors input' output' errors' : Option Hint) (made made' : Slab EntrySeen) → input' ≡ input → output' ≡ output → errors' ≡ errors → SameValues made made' → (id : PortId) → hint_told input' output' errors' made' id ≡ hint_told input output errors made id
told_same input output errors input' output' errors' made made' i o e same Input = i
told_same input output errors input' output' errors' made made' i o e same Output = o
told_same input output errors input' output' errors' made made' i o e same Errors = e
told_same input output errors input' output' errors' made made' i o e same (Made key) = ap hints_of (same key)

pub entry_told : (told told' : PortId → Option Hint) (entry : PlaceEntry) (ready : List ReadyAt) → ((id : PortId) → told' id ≡ told id) → EntryNamed told' entry ready → EntryNamed told entry ready
entry_told told told' entry ready same named = λ half off.
    let Named : Option Hint → Type 0 = λ slot. IfSome slot (λ hint. is_hinted half hint ≡ true → IsNamed ready entry.place half) in
    subst Named (same (half_port half entry.base)) (named half off)

slot_named : (slot : Option PlaceEntry) (told told' : PortId → Option Hint) (ready : List ReadyAt) → ((id : PortId) → told' id ≡ told id) → IfSome slot (λ entry. EntryNamed told' entry ready) → IfSome slot (λ entry. EntryNamed told entry ready)
slot_named None told told' ready same named = tt
slot_named (Some entry) told told' ready same named = entry_told told told' entry ready same named

slot_on : (slot : Option PlaceEntry) (told : PortId → Option Hint) (xs ys : List ReadyAt) → Grown xs ys → IfSome slot (λ entry. EntryNamed told entry xs) → IfSome slot (λ entry. EntryNamed told entry ys)
slot_on None told xs ys grown named = tt
slot_on (Some entry) told xs ys grown named = entry_on told entry xs ys grown named

pub hinting_on : (told : PortId → Option Hint) (places : List PlaceEntry) (xs ys : List ReadyAt) → Grown xs ys → NamesHinting told places xs → NamesHinting told places ys
hinting_on told places xs ys grown named = λ p. slot_on (entry_at places p) told xs ys grown (named p)

-- ---- until when a turn polls

unnamed : (ready : List ReadyAt) (p : Place) (half : Half) → length ready ≤ 0 → IsNamed ready p half → ⊥
unnamed [] p half none (inl e) = cc
unnamed [] p half none (inr full) = omega (arith, full)
unnamed (x ∷ xs) p half none named = omega (arith, none)

unhinted : (slot : Option Hint) (half : Half) (place : Place) (ready : List ReadyAt) → length ready ≤ 0 → IfSome slot (λ hint. is_hinted half hint ≡ true → IsNamed ready place half) → IsHinted half slot → ⊥
unhinted None half place ready none named hinted = hinted
unhinted (Some hint) half place ready none named hinted = unnamed ready place half none (named hinted)

unhinting : (slot : Option PlaceEntry) (told : PortId → Option Hint) (half : Half) (ready : List ReadyAt) → length ready ≤ 0 → IfSome slot (λ entry. EntryNamed told entry ready) → IsHinting told slot half → ⊥
unhinting None told half ready none named hinting = hinting
unhinting (Some entry) told half ready none named hinting = unhinted (told (half_port half entry.base)) half entry.place ready none (named half hinting.0) hinting.1

-- no half hints, and the poll waits as the turn asks
pub polls_on : (told : PortId → Option Hint) (places : List PlaceEntry) (hinting ready : List ReadyAt) (last : ℕ) (until asked : Option ℕ) → length hinting ≤ 0 → NamesHinting told places hinting → asked ≡ until → PollsUntil told places ready last until asked
polls_on told places hinting ready last until asked none named is = record {
  at_once = λ p half h. absurd (unhinting (entry_at places p) told half hinting none (named p) h);
  waits = λ empty. is;
  either = inr is;
}

-- a half hints, and the poll doesn't wait
pub polls_at_once : (told : PortId → Option Hint) (places : List PlaceEntry) (hinting ready : List ReadyAt) (last : ℕ) (until asked : Option ℕ) → 0 < length hinting → Grown hinting ready → asked ≡ Some last → PollsUntil told places ready last until asked
polls_at_once told places hinting ready last until asked some grown is = record {
  at_once = λ p half h. is;
  waits = λ empty. absurd (let none : length ready ≡ 0 = ap length empty in omega (arith, none, some, grown.longer));
  either = inl is;
}

asked_step : (told : PortId → Option Hint) (places : List PlaceEntry) (asked : List Place) (i j : ℕ) (last p : Place) (xs ys : List ReadyAt) → (j < i) ⊎ (j ≡ i) → slice_get asked i ≡ Some last → slice_get asked j ≡ Some p → Grown xs ys → (j < i → PlaceNamed told places p xs) → PlaceNamed told places last ys → PlaceNamed told places p ys
asked_step told places asked i j last p xs ys (inl below) at here grown before named = slot_on (entry_at places p) told xs ys grown (before below)
asked_step told places asked i j last p xs ys (inr same) at here grown before named =
    let f : Some last ≡ Some p = sym at ∙ (ap (slice_get asked) (sym same) ∙ here) in
    let is : last ≡ p = cc in
    subst (λ x. PlaceNamed told places x ys) is named

-- one more place whose halves are named
pub asked_more : (told : PortId → Option Hint) (places : List PlaceEntry) (asked : List Place) (i : ℕ) (last : Place) (xs ys : List ReadyAt) → slice_get asked i ≡ Some last → Grown xs ys → ((j : ℕ) (p : Place) → j < i → slice_get asked j ≡ Some p → PlaceNamed told places p xs) → PlaceNamed told places last ys → (j : ℕ) (p : Place) → j < i + 1 → slice_get asked j ≡ Some p → PlaceNamed told places p ys
asked_more told places asked i last xs ys at grown before named j p below here =
    asked_step told places asked i j last p xs ys (below_or_last i j below) at here grown (λ b. before j p b here) named

standard_slot : (told : PortId → Option Hint) (places : List PlaceEntry) (asked : List Place) (i : ℕ) (ready : List ReadyAt) → length asked ≤ i → AreListed places asked → ((j : ℕ) (p : Place) → j < i → slice_get asked j ≡ Some p → PlaceNamed told places p ready) → (p : Place) (slot : Option PlaceEntry) → entry_at places p ≡ slot → IfSome slot (λ entry. is_standard entry.base ≡ true → EntryNamed told entry ready)
standard_slot told places asked i ready past listed named p None e = tt
standard_slot told places asked i ready past listed named p (Some s) e =
    λ standard.
    let index = asked_index places asked p s listed e standard in
    let here = named index.0 p (omega (arith, within asked index.0 p index.1, past)) index.1 in
    subst (λ slot. IfSome slot (λ entry. EntryNamed told entry ready)) e here

-- every place on standard streams was gone through
pub standard_all : (told : PortId → Option Hint) (places : List PlaceEntry) (asked : List Place) (i : ℕ) (ready : List ReadyAt) → length asked ≤ i → AreListed places asked → ((j : ℕ) (p : Place) → j < i → slice_get asked j ≡ Some p → PlaceNamed told places p ready) → NamesStandard told places ready
standard_all told places asked i ready past listed named p = standard_slot told places asked i ready past listed named p (entry_at places p) refl

-- ---- made ports that are listed

-- the place of the key is gone through
abbrev pub KeyPlaced : (PortId → Option Hint) → List PlaceEntry → Slab EntrySeen → ℕ → List ReadyAt → Type 0
KeyPlaced told places made key ready = IfSome (place_of (get made key)) (λ place. PlaceNamed told places place ready)

placed_on : (slot : Option Place) (told : PortId → Option Hint) (places : List PlaceEntry) (xs ys : List ReadyAt) → Grown xs ys → IfSome slot (λ place. PlaceNamed told places place xs) → IfSome slot (λ place. PlaceNamed told places place ys)
placed_on None told places xs ys grown named = tt
placed_on (Some place) told places xs ys grown named = slot_on (entry_at places place) told xs ys grown named

listed_step : (told : PortId → Option Hint) (places : List PlaceEntry) (made : Slab EntrySeen) (keys : List ℕ) (i j last key : ℕ) (xs ys : List ReadyAt) → (j < i) ⊎ (j ≡ i) → slice_get keys i ≡ Some last → slice_get keys j ≡ Some key → Grown xs ys → (j < i → KeyPlaced told places made key xs) → KeyPlaced told places made last ys → KeyPlaced told places made key ys
listed_step told places made keys i j last key xs ys (inl below) at here grown before named = placed_on (place_of (get made key)) told places xs ys grown (before below)
listed_step told places made keys i j last key xs ys (inr same) at here grown before named =
    let f : Some last ≡ Some key = sym at ∙ (ap (slice_get keys) (sym same) ∙ here) in
    let is : last ≡ key = cc in
    subst (λ k. KeyPlaced told places made k ys) is named

-- one more key whose place is gone through
pub listed_more : (told : PortId → Option Hint) (places : List PlaceEntry) (made : Slab EntrySeen) (keys : List ℕ) (i last : ℕ) (xs ys : List ReadyAt) → slice_get keys i ≡ Some last → Grown xs ys → ((j key : ℕ) → j < i → slice_get keys j ≡ Some key → KeyPlaced told places made key xs) → KeyPlaced told places made last ys → (j key : ℕ) → j < i + 1 → slice_get keys j ≡ Some key → KeyPlaced told places made key ys
listed_more told places made keys i last xs ys at grown before named j key below here =
    listed_step told places made keys i j last key xs ys (below_or_last i j below) at here grown (λ b. before j key b here) named

-- every key was gone through
pub listed_all : (told : PortId → Option Hint) (places : List PlaceEntry) (made : Slab EntrySeen) (keys : List ℕ) (i : ℕ) (ready : List ReadyAt) → length keys ≤ i → ((j key : ℕ) → j < i → slice_get keys j ≡ Some key → KeyPlaced told places made key ready) → NamesListed told places made keys ready
listed_all told places made keys i ready past named j key at = named j key (omega (arith, within keys j key at, past)) at

-- a key that tells the same
pub placed_told : (told told' : PortId → Option Hint) (places : List PlaceEntry) (made made' : Slab EntrySeen) (key : ℕ) (ready : List ReadyAt) → ((id : PortId) → told' id ≡ told id) → SameValues made made' → KeyPlaced told' places made' key ready → KeyPlaced told places made key ready
placed_told told told' places made made' key ready same values named =
    slot_placed (place_of (get made key)) (subst (λ slot. IfSome (place_of slot) (λ place. PlaceNamed told' places place ready)) (values key) named)
  where
    slot_placed : (slot : Option Place) → IfSome slot (λ place. PlaceNamed told' places place ready) → IfSome slot (λ place. PlaceNamed told places place ready)
    slot_placed None h = tt
    slot_placed (Some place) h = slot_named (entry_at places place) told told' ready same h

pub listed_told : (told told' : PortId → Option Hint) (places : List PlaceEntry) (made made' : Slab EntrySeen) (keys keys' : List ℕ) (ready : List ReadyAt) → ((id : PortId) → told' id ≡ told id) → SameValues made made' → keys' ≡ keys → NamesListed told' places made' keys' ready → NamesListed told places made keys ready
listed_told told told' places made made' keys keys' ready same values e named i key at =
    placed_told told told' places made made' key ready same values (named i key (ap (λ (ks : List ℕ). slice_get ks i) e ∙ at))

-- ---- both

true_or : (a b : Bool) (Fact : Type 0) → (a || b) ≡ true → (a ≡ true → Fact) → (b ≡ true → Fact) → Fact
true_or true b Fact e left right = left refl
true_or false b Fact e left right = right e

not_told : (disarmed may told : Bool) → not (disarmed && (may || told)) ≡ true → disarmed ≡ true → told ≡ true → ⊥
not_told true true true e off is = absurd cc
not_told true false true e off is = absurd cc
not_told true may false e off is = absurd cc
not_told false may told e off is = absurd cc

both_parts : (a b : Bool) → (a && b) ≡ true → (a ≡ true) × (b ≡ true)
both_parts true b e = (refl, e)
both_parts false b e = absurd cc

-- a quiet port tells no disarmed half as ready
quiet_half : (entry : PlaceEntry) (port : PortSeen) (half : Half) (ready : List ReadyAt) → is_quiet entry port ≡ true → half_disarmed half (Some entry) ≡ true → (hints : Option Hint) → port.hints ≡ hints → IfSome hints (λ hint. is_hinted half hint ≡ true → IsNamed ready entry.place half)
quiet_half entry port half ready quiet off None e = tt
quiet_half entry port ToRead ready quiet off (Some hint) e =
    λ hinted. absurd (not_told entry.reading_disarmed port.hinting.readable (tells ToRead port.hints) (both_parts (not (entry.reading_disarmed && may_tell ToRead port)) (not (entry.writing_disarmed && may_tell ToWrite port)) quiet).0 off (ap (tells ToRead) e ∙ hinted))
quiet_half entry port ToWrite ready quiet off (Some hint) e =
    λ hinted. absurd (not_told entry.writing_disarmed port.hinting.writable (tells ToWrite port.hints) (both_parts (not (entry.reading_disarmed && may_tell ToRead port)) (not (entry.writing_disarmed && may_tell ToWrite port)) quiet).1 off (ap (tells ToWrite) e ∙ hinted))

either_half : (half : Half) (base : Base) (key : ℕ) → base ≡ bases.Made key → half_port half base ≡ Made key
either_half ToRead base key is = ap giving_port is
either_half ToWrite base key is = ap taking_port is

module _ (input output errors : Option Hint) (made : Slab EntrySeen) (places : List PlaceEntry) (listed : KeyTable) (xs ys : List ReadyAt) (standard : NamesStandard (hint_told input output errors made) places xs) (grown : Grown xs ys) (keyed : NamesListed (hint_told input output errors made) places made listed.keys ys) where
  quiet_entry : (p : Place) (s : PlaceEntry) (key : ℕ) → s.base ≡ bases.Made key → (entry : EntrySeen) → get made key ≡ Some entry → is_quiet s entry.port ≡ true → EntryNamed (hint_told input output errors made) s ys
  quiet_entry p s key is entry at quiet half off =
      let telling : hint_told input output errors made (half_port half s.base) ≡ entry.port.hints = ap (hint_told input output errors made) (either_half half s.base key is) ∙ ap hints_of at in
      subst (λ slot. IfSome slot (λ hint. is_hinted half hint ≡ true → IsNamed ys s.place half)) (sym telling) (quiet_half s entry.port half ys quiet off entry.port.hints refl)

  keyed_entry : (p : Place) (s : PlaceEntry) (key : ℕ) → entry_at places p ≡ Some s → place_of (get made key) ≡ Some p → is_in key listed.keys ≡ true → EntryNamed (hint_told input output errors made) s ys
  keyed_entry p s key e here inside =
      let index = in_index key listed.keys inside in
      let named : PlaceNamed (hint_told input output errors made) places p ys = subst (λ slot. IfSome slot (λ place. PlaceNamed (hint_told input output errors made) places place ys)) here (keyed index.0 key index.1) in
      subst (λ slot. IfSome slot (λ entry. EntryNamed (hint_told input output errors made) entry ys)) e named

  made_entry : (p : Place) (s : PlaceEntry) (key : ℕ) → entry_at places p ≡ Some s → s.base ≡ bases.Made key → stands_on made listed.covered p s.base ≡ true → heeds made listed.keys s s.base ≡ true → EntryNamed (hint_told input output errors made) s ys
  made_entry p s key e is stands heeded =
      let at = stands_at made listed.covered p s.base key is stands in
      let either : (is_in key listed.keys || is_quiet s at.0.port) ≡ true = ap (is_heeded s key listed.keys) (sym at.1) ∙ (ap (heeds made listed.keys s) (sym is) ∙ heeded) in
      true_or (is_in key listed.keys) (is_quiet s at.0.port) (EntryNamed (hint_told input output errors made) s ys) either
      (keyed_entry p s key e (ap place_of at.1 ∙ ap Some at.2))
      (quiet_entry p s key is at.0 at.1)

  standard_entry : (p : Place) (s : PlaceEntry) → entry_at places p ≡ Some s → is_standard s.base ≡ true → EntryNamed (hint_told input output errors made) s ys
  standard_entry p s e is =
      entry_on (hint_told input output errors made) s xs ys grown
      (subst (λ slot. IfSome slot (λ entry. is_standard entry.base ≡ true → EntryNamed (hint_told input output errors made) entry xs)) e (standard p) is)

  base_hinting : (p : Place) (s : PlaceEntry) (base : Base) → s.base ≡ base → entry_at places p ≡ Some s → stands_on made listed.covered p s.base ≡ true → heeds made listed.keys s s.base ≡ true → EntryNamed (hint_told input output errors made) s ys
  base_hinting p s (bases.Made key) is e stands heeded = made_entry p s key e is stands heeded
  base_hinting p s bases.Input is e stands heeded = standard_entry p s e (ap is_standard is)
  base_hinting p s bases.Output is e stands heeded = standard_entry p s e (ap is_standard is)
  base_hinting p s bases.Both is e stands heeded = standard_entry p s e (ap is_standard is)
  base_hinting p s bases.Errors is e stands heeded = standard_entry p s e (ap is_standard is)

  slot_hinting : (p : Place) (slot : Option PlaceEntry) → entry_at places p ≡ slot → IfSome slot (λ s. stands_on made listed.covered p s.base ≡ true) → IfSome slot (λ s. heeds made listed.keys s s.base ≡ true) → IfSome slot (λ entry. EntryNamed (hint_told input output errors made) entry ys)
  slot_hinting p None e stands heeded = tt
  slot_hinting p (Some s) e stands heeded = base_hinting p s s.base refl e stands heeded

  -- who isn't listed is quiet
  pub hinting_all : IsSound places made listed → NamesHinting (hint_told input output errors made) places ys
  hinting_all sound p = slot_hinting p (entry_at places p) refl (sound.entered p) (sound.heeded p)

pub place_told : (told told' : PortId → Option Hint) (places : List PlaceEntry) (p : Place) (ready : List ReadyAt) → ((id : PortId) → told' id ≡ told id) → PlaceNamed told' places p ready → PlaceNamed told places p ready
place_told told told' places p ready same named = slot_named (entry_at places p) told told' ready same named

-- ---- arming

and_false : (b : Bool) → (b && false) ≡ false
and_false true = refl
and_false false = refl

and_true : (b : Bool) → (b && true) ≡ b
and_true true = refl
and_true false = refl

or_false : (b : Bool) → (b || false) ≡ b
or_false true = refl
or_false false = refl

or_assoc : (a b c : Bool) → (a || (b || c)) ≡ ((a || b) || c)
or_assoc true b c = refl
or_assoc false b c = refl

and_not_or : (d n h : Bool) → ((d && not n) && not h) ≡ (d && not (n || h))
and_not_or true true h = refl
and_not_or true false h = refl
and_not_or false n h = refl

-- whether the entry is this half of this place
abbrev is_hit : ReadyAt → Place → Half → Bool
is_hit e p half = same_place e.place p && same_half e.half half

names_next : (xs : List ReadyAt) (i : ℕ) (e : ReadyAt) (p : Place) (half : Half) → slice_get xs i ≡ Some e → names (take (suc i) xs) p half ≡ (names (take i xs) p half || is_hit e p half)
names_next [] i e p half at = absurd cc
names_next (x ∷ xs) zero e p half at =
    let is : x ≡ e = cc in
    or_false (is_hit x p half) ∙ ap (λ y. is_hit y p half) is
names_next (x ∷ xs) (suc i) e p half at =
    ap (λ b. is_hit x p half || b) (names_next xs i e p half at) ∙ or_assoc (is_hit x p half) (names (take i xs) p half) (is_hit e p half)

half_arms : (slot : Option PlaceEntry) (half h : Half) → half_disarmed h (option_map (with_half half false) slot) ≡ (half_disarmed h slot && not (same_half half h))
half_arms None ToRead ToRead = refl
half_arms None ToRead ToWrite = refl
half_arms None ToWrite ToRead = refl
half_arms None ToWrite ToWrite = refl
half_arms (Some s) ToRead ToRead = sym (and_false s.reading_disarmed)
half_arms (Some s) ToRead ToWrite = sym (and_true s.writing_disarmed)
half_arms (Some s) ToWrite ToRead = sym (and_true s.reading_disarmed)
half_arms (Some s) ToWrite ToWrite = sym (and_false s.writing_disarmed)

arm_step : (b : Bool) (slot rest now : Option PlaceEntry) (half h : Half) → now ≡ (if b then option_map (with_half half false) slot else rest) → (b ≡ true → slot ≡ rest) → half_disarmed h now ≡ (half_disarmed h rest && not (b && same_half half h))
arm_step true slot rest now half h e same = ap (half_disarmed h) e ∙ (half_arms slot half h ∙ ap (λ s. half_disarmed h s && not (same_half half h)) (same refl))
arm_step false slot rest now half h e same = ap (half_disarmed h) e ∙ sym (and_true (half_disarmed h rest))

-- the half that is marked is armed, and no other
mark_arms : (xs ys : List PlaceEntry) (e : ReadyAt) → SetsEntry e.place (option_map (with_half e.half false) (entry_at xs e.place)) (entry_at xs) (entry_at ys) → (p : Place) (h : Half) → is_disarmed ys p h ≡ (is_disarmed xs p h && not (is_hit e p h))
mark_arms xs ys e sets p h = arm_step (same_place e.place p) (entry_at xs e.place) (entry_at xs p) (entry_at ys p) e.half h (sets p) (λ same. ap (entry_at xs) (same_place-eq e.place p same))

-- one more entry whose half is armed
pub armed_more : (first xs ys : List PlaceEntry) (ready : List ReadyAt) (i : ℕ) (e : ReadyAt) → slice_get ready i ≡ Some e → SetsEntry e.place (option_map (with_half e.half false) (entry_at xs e.place)) (entry_at xs) (entry_at ys) → ((p : Place) (h : Half) → is_disarmed xs p h ≡ (is_disarmed first p h && not (names (take i ready) p h))) → (p : Place) (h : Half) → is_disarmed ys p h ≡ (is_disarmed first p h && not (names (take (i + 1) ready) p h))
armed_more first xs ys ready i e at sets before p h =
    let next : names (take (i + 1) ready) p h ≡ (names (take i ready) p h || is_hit e p h) = rw add-one (names_next ready i e p h at) in
    mark_arms xs ys e sets p h
    ∙ (ap (λ b. b && not (is_hit e p h)) (before p h)
    ∙ (and_not_or (is_disarmed first p h) (names (take i ready) p h) (is_hit e p h)
    ∙ ap (λ b. is_disarmed first p h && not b) (sym next)))

-- every entry was gone through
pub armed_all : (first xs : List PlaceEntry) (ready : List ReadyAt) (i : ℕ) → length ready ≤ i → ((p : Place) (h : Half) → is_disarmed xs p h ≡ (is_disarmed first p h && not (names (take i ready) p h))) → (p : Place) (h : Half) → is_disarmed xs p h ≡ (is_disarmed first p h && not (names ready p h))
armed_all first xs ready i past armed p h = armed p h ∙ ap (λ es. is_disarmed first p h && not (names es p h)) (take_all i ready past)

-- before the first entry
pub armed_first : (first : List PlaceEntry) (ready : List ReadyAt) (p : Place) (h : Half) → is_disarmed first p h ≡ (is_disarmed first p h && not (names (take 0 ready) p h))
armed_first first [] p h = sym (and_true (is_disarmed first p h))
armed_first first (e ∷ ready) p h = sym (and_true (is_disarmed first p h))
