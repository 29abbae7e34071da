-- Each place keeps its port, and each port its place, after a call on a port and after a place comes or goes; and what may
-- be hinted stays listed.
use Rattle.std.proofs.Common.{◌≡◌, ◌≢◌, ◌<◌, ◌≤◌, ◌⊎◌, inl, inr, ℕ, Bool, true, false, true≢false, not, ◌&&◌, ◌||◌, eqb, nat_lt, List, Option, None, Some, IfSome, is_some, option_map, refl, sym, ap, subst, ◌∙◌, if◌then◌else◌, arith}
use Rattle.std.proofs.lemmas.Bool.Decides.{eqb_tells, nat_tests}
use Rattle.slab.specs.Slab.{Slab, Updates, SameValues, get}
use Rattle.relay_model.specs.declared.places.Half.{Half}
use Rattle.relay_model.specs.declared.places.Half.TheVariants.{ToRead, ToWrite}
use Rattle.relay_model.specs.declared.places.Place.{Place}
use Rattle.relay_model.specs.Places.{same_place}
use Rattle.port_trait.specs.Hinting.{IsWithin}
use Rattle.port_trait.specs.declared.answers.Hint.{Hint}
use Rattle.port_table.specs.Bases.{IsStandard, key_of}
use Rattle.port_table.specs.PortTables.{AtMade, MadeCall, PortId, Input, Output, Errors, Made, giving_port, taking_port}
use Rattle.port_trait.specs.Ports.{PortSeen}
use Rattle.port_table.specs.Ports.{EntrySeen}
use Rattle.port_table.specs.declared.bases.Base.{Base}
use Rattle.port_table.specs.declared.bases.Base.TheVariants as bases
use Rattle.desk_places.specs.declared.places.PlaceEntry.{PlaceEntry}
use Rattle.desk_places.specs.Standing.{IsSound, IsSoundBut, heeds, is_entered, is_heeded, is_quiet, may_tell, stands_on, tells}
use Rattle.desk_places.specs.Keys.{KeyTable, is_in}
use Rattle.desk_places.specs.PlaceTables.{entry_at, base_at, is_armed, with_half, SetsEntry}
use Rattle.desk_places.proofs.PlaceLemmas.{same_place-eq, same_place-same}

-- ---- tests and facts

and_parts : (a b : Bool) → (a && b) ≡ true → (a ≡ true) × (b ≡ true)
and_parts true b e = (refl, e)
and_parts false b e = absurd cc

and_both : (a b : Bool) → a ≡ true → b ≡ true → (a && b) ≡ true
and_both true b e f = f
and_both false b e f = absurd cc

below_is : (a b : ℕ) → nat_lt a b ≡ true → a < b
below_is a b e = grind (arith, nat_tests)

is_below : (a b : ℕ) → a < b → nat_lt a b ≡ true
is_below a b lt = grind (arith, nat_tests)

-- the made port is there for the place, and its key can be listed
abbrev pub EnteredAt : Place → ℕ → ℕ → Option EntrySeen → Type 0
EnteredAt p key covered slot = (entry : EntrySeen) × (slot ≡ Some entry) × (entry.place ≡ p) × (key < covered)

entered_is : (p : Place) (key covered : ℕ) (slot : Option EntrySeen) → is_entered p key covered slot ≡ true → EnteredAt p key covered slot
entered_is p key covered None e = absurd cc
entered_is p key covered (Some entry) e =
    let parts = and_parts (same_place entry.place p) (nat_lt key covered) e in
    (entry, refl, same_place-eq entry.place p parts.0, below_is key covered parts.1)

entered_here : (p : Place) (key covered : ℕ) (entry : EntrySeen) → entry.place ≡ p → key < covered → is_entered p key covered (Some entry) ≡ true
entered_here p key covered entry place below = and_both (same_place entry.place p) (nat_lt key covered) (ap (same_place entry.place) (sym place) ∙ same_place-same entry.place) (is_below key covered below)

entered_by : (p : Place) (key covered : ℕ) (slot : Option EntrySeen) → EnteredAt p key covered slot → is_entered p key covered slot ≡ true
entered_by p key covered slot at = ap (is_entered p key covered) at.1 ∙ entered_here p key covered at.0 at.2 at.3

-- a made port that an entry stands on
pub stands_at : (made : Slab EntrySeen) (covered : ℕ) (p : Place) (base : Base) (key : ℕ) → base ≡ bases.Made key → stands_on made covered p base ≡ true → EnteredAt p key covered (get made key)
stands_at made covered p base key is e = entered_is p key covered (get made key) (sym (ap (stands_on made covered p) is) ∙ e)

-- ---- what a call on one made port keeps

-- the port of the base is still there for its place, and each other port is what it was
pub record OnlyAt (base : Base) (made made' : Slab EntrySeen) : Type 0 where
  pub others : (key : ℕ) → (base ≡ bases.Made key → ⊥) → get made' key ≡ get made key
  pub stands : (key : ℕ) (entry : EntrySeen) → get made key ≡ Some entry → (now : EntrySeen) × (get made' key ≡ Some now) × (now.place ≡ entry.place)

found_after : (old new : Option EntrySeen) (Call : PortSeen → PortSeen → Type 0) (entry : EntrySeen) → old ≡ Some entry → IfSome old (λ o. IfSome new (λ n. (n.place ≡ o.place) × Call o.port n.port)) → is_some new ≡ is_some old → (now : EntrySeen) × (new ≡ Some now) × (now.place ≡ entry.place)
found_after None new Call entry e call stands = absurd cc
found_after (Some o) None Call entry e call stands = absurd cc
found_after (Some o) (Some n) Call entry e call stands =
    let is : o ≡ entry = cc in
    (n, refl, call.0 ∙ ap (λ (b : EntrySeen). b.place) is)

stands_either : (made made' : Slab EntrySeen) (key other : ℕ) (Call : PortSeen → PortSeen → Type 0) (entry : EntrySeen) → MadeCall made made' key Call → get made other ≡ Some entry → ((eqb other key ≡ true) × (other ≡ key)) ⊎ ((eqb other key ≡ false) × (other ≢ key)) → (now : EntrySeen) × (get made' other ≡ Some now) × (now.place ≡ entry.place)
stands_either made made' key other Call entry call e (inl t) =
    let found = found_after (get made key) (get made' key) Call entry (ap (get made) (sym t.1) ∙ e) call.call call.stands in
    (found.0, ap (get made') t.1 ∙ found.1, found.2)
stands_either made made' key other Call entry call e (inr t) = (entry, call.others other t.1 ∙ e, refl)

pub call_keeps : (made made' : Slab EntrySeen) (key : ℕ) (Call : PortSeen → PortSeen → Type 0) → MadeCall made made' key Call → OnlyAt (bases.Made key) made made'
call_keeps made made' key Call call = record {
  others = λ other away. call.others other (λ same. away (ap bases.Made (sym same)));
  stands = λ other entry e. stands_either made made' key other Call entry call e (eqb_tells other key);
}

pub same_keeps : (base : Base) (made made' : Slab EntrySeen) → SameValues made made' → OnlyAt base made made'
same_keeps base made made' same = record {
  others = λ other away. same other;
  stands = λ other entry e. (entry, same other ∙ e, refl);
}

-- an id is the port of its base, whichever half
abbrev pub PortIdOf : PortId → Base → Type 0
PortIdOf Input base = (key : ℕ) → base ≡ bases.Made key → ⊥
PortIdOf Output base = (key : ℕ) → base ≡ bases.Made key → ⊥
PortIdOf Errors base = (key : ℕ) → base ≡ bases.Made key → ⊥
PortIdOf (Made key) base = base ≡ bases.Made key

pub id_keeps : (id : PortId) (base : Base) (made made' : Slab EntrySeen) (Call : PortSeen → PortSeen → Type 0) → PortIdOf id base → AtMade id (λ key. MadeCall made made' key Call) (made' ≡ made) → OnlyAt base made made'
id_keeps Input base made made' Call of same = same_keeps base made made' (λ key. ap (λ m. get m key) same)
id_keeps Output base made made' Call of same = same_keeps base made made' (λ key. ap (λ m. get m key) same)
id_keeps Errors base made made' Call of same = same_keeps base made made' (λ key. ap (λ m. get m key) same)
id_keeps (Made key) base made made' Call of call = subst (λ b. OnlyAt b made made') (sym of) (call_keeps made made' key Call call)

-- ---- another place, whose port and whose listing are what they were

-- the made port of a place is what it was
abbrev SamePort : Place → Base → ℕ → Slab EntrySeen → Slab EntrySeen → Type 0
SamePort p on covered made made' = (key : ℕ) → on ≡ bases.Made key → EnteredAt p key covered (get made key) → get made' key ≡ get made key

-- and it is listed as it was
abbrev SameListing : Place → Base → ℕ → Slab EntrySeen → List ℕ → List ℕ → Type 0
SameListing p on covered made keys keys' = (key : ℕ) → on ≡ bases.Made key → EnteredAt p key covered (get made key) → is_in key keys' ≡ is_in key keys

stands_same : (p : Place) (on : Base) (covered : ℕ) (made made' : Slab EntrySeen) → SamePort p on covered made made' → stands_on made covered p on ≡ true → stands_on made' covered p on ≡ true
stands_same p (bases.Made key) covered made made' same e =
    ap (is_entered p key covered) (same key refl (entered_is p key covered (get made key) e)) ∙ e
stands_same p bases.Input covered made made' same e = refl
stands_same p bases.Output covered made made' same e = refl
stands_same p bases.Both covered made made' same e = refl
stands_same p bases.Errors covered made made' same e = refl

heeded_keys : (entry : PlaceEntry) (key : ℕ) (keys keys' : List ℕ) (slot : Option EntrySeen) → is_in key keys' ≡ is_in key keys → is_heeded entry key keys slot ≡ true → is_heeded entry key keys' slot ≡ true
heeded_keys entry key keys keys' None listed e = refl
heeded_keys entry key keys keys' (Some made) listed e = ap (λ b. b || is_quiet entry made.port) listed ∙ e

heeds_same : (p : Place) (entry : PlaceEntry) (on : Base) (covered : ℕ) (keys keys' : List ℕ) (made made' : Slab EntrySeen) → SamePort p on covered made made' → SameListing p on covered made keys keys' → stands_on made covered p on ≡ true → heeds made keys entry on ≡ true → heeds made' keys' entry on ≡ true
heeds_same p entry (bases.Made key) covered keys keys' made made' same listed stands e =
    let at = entered_is p key covered (get made key) stands in
    ap (is_heeded entry key keys') (same key refl at) ∙ heeded_keys entry key keys keys' (get made key) (listed key refl at) e
heeds_same p entry bases.Input covered keys keys' made made' same listed stands e = refl
heeds_same p entry bases.Output covered keys keys' made made' same listed stands e = refl
heeds_same p entry bases.Both covered keys keys' made made' same listed stands e = refl
heeds_same p entry bases.Errors covered keys keys' made made' same listed stands e = refl

-- two places on one made port are the same
one_place : (p q : Place) (key covered : ℕ) (slot : Option EntrySeen) → EnteredAt p key covered slot → EnteredAt q key covered slot → p ≡ q
one_place p q key covered slot h k =
    let is : h.0 ≡ k.0 = let e : Some h.0 ≡ Some k.0 = sym h.1 ∙ k.1 in cc in
    sym h.2 ∙ (ap (λ (b : EntrySeen). b.place) is ∙ k.2)

apart_keys : (p place : Place) (key covered : ℕ) (base : Base) (made : Slab EntrySeen) → stands_on made covered place base ≡ true → same_place place p ≡ false → EnteredAt p key covered (get made key) → base ≡ bases.Made key → ⊥
apart_keys p place key covered base made mine differ at is =
    let same : place ≡ p = one_place place p key covered (get made key) (stands_at made covered place base key is mine) at in
    true≢false (sym (same_place-same place) ∙ (ap (same_place place) same ∙ differ))

abbrev EnteredSlot : Slab EntrySeen → ℕ → Place → Option PlaceEntry → Type 0
EnteredSlot made covered p slot = IfSome slot (λ s. stands_on made covered p s.base ≡ true)

abbrev HeededSlot : Slab EntrySeen → List ℕ → Option PlaceEntry → Type 0
HeededSlot made keys slot = IfSome slot (λ s. heeds made keys s s.base ≡ true)

slot_entered : (p : Place) (slot : Option PlaceEntry) (covered : ℕ) (made made' : Slab EntrySeen) → IfSome slot (λ s. SamePort p s.base covered made made') → EnteredSlot made covered p slot → EnteredSlot made' covered p slot
slot_entered p None covered made made' same h = tt
slot_entered p (Some s) covered made made' same h = stands_same p s.base covered made made' same h

slot_heeded : (p : Place) (slot : Option PlaceEntry) (covered : ℕ) (keys keys' : List ℕ) (made made' : Slab EntrySeen) → IfSome slot (λ s. SamePort p s.base covered made made') → IfSome slot (λ s. SameListing p s.base covered made keys keys') → EnteredSlot made covered p slot → HeededSlot made keys slot → HeededSlot made' keys' slot
slot_heeded p None covered keys keys' made made' same listed h k = tt
slot_heeded p (Some s) covered keys keys' made made' same listed h k = heeds_same p s s.base covered keys keys' made made' same listed h k

-- a fact of each entry there may be
for_slot : (slot : Option PlaceEntry) (Fact : PlaceEntry → Type 0) → ((s : PlaceEntry) → Fact s) → IfSome slot Fact
for_slot None Fact all = tt
for_slot (Some s) Fact all = all s

if_slot : (b : Bool) (Fact : Option PlaceEntry → Type 0) (slot rest now : Option PlaceEntry) → now ≡ (if b then slot else rest) → (b ≡ true → Fact slot) → (b ≡ false → Fact rest) → Fact now
if_slot true Fact slot rest now e here there = subst Fact (sym e) (here refl)
if_slot false Fact slot rest now e here there = subst Fact (sym e) (there refl)

either_place : (b : Bool) (place p : Place) (Fact : Type 0) → same_place place p ≡ b → (place ≡ p → Fact) → (same_place place p ≡ false → Fact) → Fact
either_place true place p Fact e here there = here (same_place-eq place p e)
either_place false place p Fact e here there = there e

-- ---- after a call on the port of a place, and before the place is listed anew

-- a place stays on its port
stands_still : (p : Place) (on base : Base) (covered : ℕ) (made made' : Slab EntrySeen) → OnlyAt base made made' → stands_on made covered p on ≡ true → stands_on made' covered p on ≡ true
stands_still p (bases.Made key) base covered made made' only e =
    let at = entered_is p key covered (get made key) e in
    let now = only.stands key at.0 at.1 in
    entered_by p key covered (get made' key) (now.0, now.1, now.2 ∙ at.2, at.3)
stands_still p bases.Input base covered made made' only e = refl
stands_still p bases.Output base covered made made' only e = refl
stands_still p bases.Both base covered made made' only e = refl
stands_still p bases.Errors base covered made made' only e = refl

slot_still : (p : Place) (slot : Option PlaceEntry) (base : Base) (covered : ℕ) (made made' : Slab EntrySeen) → OnlyAt base made made' → EnteredSlot made covered p slot → EnteredSlot made' covered p slot
slot_still p None base covered made made' only h = tt
slot_still p (Some s) base covered made made' only h = stands_still p s.base base covered made made' only h

of_slot : (slot : Option PlaceEntry) (s : PlaceEntry) (Fact : PlaceEntry → Type 0) → slot ≡ Some s → IfSome slot Fact → Fact s
of_slot slot s Fact e h = subst (λ x. IfSome x Fact) e h

module _ (xs ys : List PlaceEntry) (place : Place) (s s' : PlaceEntry) (made made' : Slab EntrySeen) (listed : KeyTable) (at : entry_at xs place ≡ Some s) (based : s'.base ≡ s.base) (sets : SetsEntry place (Some s') (entry_at xs) (entry_at ys)) (only : OnlyAt s.base made made') (sound : IsSound xs made listed) where
  here_stands : stands_on made listed.covered place s.base ≡ true
  here_stands = of_slot (entry_at xs place) s (λ t. stands_on made listed.covered place t.base ≡ true) at (sound.entered place)

  here_still : (p : Place) → place ≡ p → stands_on made' listed.covered p s'.base ≡ true
  here_still p same =
      let there : stands_on made' listed.covered place s.base ≡ true = stands_still place s.base s.base listed.covered made made' only here_stands in
      ap (λ q. stands_on made' listed.covered q s'.base) (sym same) ∙ (ap (stands_on made' listed.covered place) based ∙ there)

  call_entered : (p : Place) → EnteredSlot made' listed.covered p (entry_at ys p)
  call_entered p =
      if_slot (same_place place p) (EnteredSlot made' listed.covered p) (Some s') (entry_at xs p) (entry_at ys p) (sets p)
      (λ same. here_still p (same_place-eq place p same))
      (λ other. slot_still p (entry_at xs p) s.base listed.covered made made' only (sound.entered p))

  call_heeded : (p : Place) → same_place place p ≡ false → HeededSlot made' listed.keys (entry_at ys p)
  call_heeded p differ =
      if_slot (same_place place p) (HeededSlot made' listed.keys) (Some s') (entry_at xs p) (entry_at ys p) (sets p)
      (λ same. absurd (true≢false (sym same ∙ differ)))
      (λ other. slot_heeded p (entry_at xs p) listed.covered listed.keys listed.keys made made'
      (for_slot (entry_at xs p) _ (λ t key is here. only.others key (apart_keys p place key listed.covered s.base made here_stands differ here)))
      (for_slot (entry_at xs p) _ (λ t key is here. refl))
      (sound.entered p) (sound.heeded p))

  pub sound_but : IsSoundBut place ys made' listed
  sound_but = record { entered = call_entered; heeded = call_heeded }

-- the same where no entry changed
same_or : (b : Bool) (slot now : Option PlaceEntry) → (b ≡ true → now ≡ slot) → now ≡ (if b then slot else now)
same_or true slot now same = same refl
same_or false slot now same = refl

pub sound_but_still : (xs : List PlaceEntry) (place : Place) (s : PlaceEntry) (made made' : Slab EntrySeen) (listed : KeyTable) → entry_at xs place ≡ Some s → OnlyAt s.base made made' → IsSound xs made listed → IsSoundBut place xs made' listed
sound_but_still xs place s made made' listed at only sound =
    sound_but xs xs place s s made made' listed at refl
    (λ p. same_or (same_place place p) (Some s) (entry_at xs p) (λ same. ap (entry_at xs) (sym (same_place-eq place p same)) ∙ at))
    only sound

pub but_of : (xs : List PlaceEntry) (place : Place) (made : Slab EntrySeen) (listed : KeyTable) → IsSound xs made listed → IsSoundBut place xs made listed
but_of xs place made listed sound = record { entered = sound.entered; heeded = λ p differ. sound.heeded p }

-- ---- the place is listed anew

told_half : (half : Half) (may : Hint) (hints : Option Hint) → IfSome hints (λ hint. IsWithin may hint) → tells half hints ≡ true → tells half (Some may) ≡ true
told_half half may None within e = absurd cc
told_half ToRead may (Some hint) within e = within.readable e
told_half ToWrite may (Some hint) within e = within.writable e

half_quiet : (disarmed may told : Bool) → (disarmed && may) ≡ false → (told ≡ true → may ≡ true) → not (disarmed && (may || told)) ≡ true
half_quiet false may told e within = refl
half_quiet true true told e within = absurd cc
half_quiet true false true e within = absurd (true≢false (sym (within refl)))
half_quiet true false false e within = refl

neither : (a b : Bool) → (a || b) ≡ false → (a ≡ false) × (b ≡ false)
neither true b e = absurd cc
neither false b e = (refl, e)

quiet_by : (s : PlaceEntry) (port : PortSeen) → IfSome port.hints (λ hint. IsWithin port.hinting hint) → ((s.reading_disarmed && port.hinting.readable) || (s.writing_disarmed && port.hinting.writable)) ≡ false → is_quiet s port ≡ true
quiet_by s port within e =
    let parts = neither (s.reading_disarmed && port.hinting.readable) (s.writing_disarmed && port.hinting.writable) e in
    and_both _ _
    (half_quiet s.reading_disarmed port.hinting.readable (tells ToRead port.hints) parts.0 (told_half ToRead port.hinting port.hints within))
    (half_quiet s.writing_disarmed port.hinting.writable (tells ToWrite port.hints) parts.1 (told_half ToWrite port.hinting port.hints within))

listed_or : (b : Bool) (s : PlaceEntry) (key : ℕ) (keys : List ℕ) (port : PortSeen) → is_in key keys ≡ b → (b ≡ false → is_quiet s port ≡ true) → (is_in key keys || is_quiet s port) ≡ true
listed_or true s key keys port e quiet = ap (λ x. x || is_quiet s port) e
listed_or false s key keys port e quiet = ap (λ x. x || is_quiet s port) e ∙ quiet refl

heeded_by : (s : PlaceEntry) (key : ℕ) (keys : List ℕ) (may : Hint) (slot : Option EntrySeen) → IfSome slot (λ entry. may ≡ entry.port.hinting) → IfSome slot (λ entry. IfSome entry.port.hints (λ hint. IsWithin may hint)) → is_in key keys ≡ ((s.reading_disarmed && may.readable) || (s.writing_disarmed && may.writable)) → is_heeded s key keys slot ≡ true
heeded_by s key keys may None halves told e = refl
heeded_by s key keys may (Some entry) halves told e =
    let within : IfSome entry.port.hints (λ hint. IsWithin entry.port.hinting hint) = subst (λ m. IfSome entry.port.hints (λ hint. IsWithin m hint)) halves told in
    listed_or _ s key keys entry.port e
    (λ no. quiet_by s entry.port within (ap (λ (m : Hint). (s.reading_disarmed && m.readable) || (s.writing_disarmed && m.writable)) (sym halves) ∙ no))

-- a made port that was asked what it may hint
pub heeds_set : (s : PlaceEntry) (key covered : ℕ) (p : Place) (keys : List ℕ) (may : Hint) (made : Slab EntrySeen) → s.base ≡ bases.Made key → IfSome (get made key) (λ entry. may ≡ entry.port.hinting) → IfSome (get made key) (λ entry. IfSome entry.port.hints (λ hint. IsWithin may hint)) → (key < covered → is_in key keys ≡ ((s.reading_disarmed && may.readable) || (s.writing_disarmed && may.writable))) → stands_on made covered p s.base ≡ true → heeds made keys s s.base ≡ true
heeds_set s key covered p keys may made is halves told listed stands =
    let at = stands_at made covered p s.base key is stands in
    ap (heeds made keys s) is ∙ heeded_by s key keys may (get made key) halves told (listed at.3)

pub heeds_standard : (s : PlaceEntry) (keys : List ℕ) (base : Base) (made : Slab EntrySeen) → key_of base ≡ None → heeds made keys s base ≡ true
heeds_standard s keys (bases.Made key) made none = absurd cc
heeds_standard s keys bases.Input made none = refl
heeds_standard s keys bases.Output made none = refl
heeds_standard s keys bases.Both made none = refl
heeds_standard s keys bases.Errors made none = refl

quiet_armed_both : (reading writing may_read may_write : Bool) → (not reading && not writing) ≡ true → (not (reading && may_read) && not (writing && may_write)) ≡ true
quiet_armed_both true writing may_read may_write e = absurd cc
quiet_armed_both false true may_read may_write e = absurd cc
quiet_armed_both false false may_read may_write e = refl

heeded_armed_both : (s : PlaceEntry) (key : ℕ) (keys : List ℕ) (slot : Option EntrySeen) → is_armed s ≡ true → is_heeded s key keys slot ≡ true
heeded_armed_both s key keys None armed = refl
heeded_armed_both s key keys (Some entry) armed = listed_or (is_in key keys) s key keys entry.port refl (λ no. quiet_armed_both s.reading_disarmed s.writing_disarmed (may_tell ToRead entry.port) (may_tell ToWrite entry.port) armed)

-- an entry with both halves armed, whatever is listed
pub heeds_armed_both : (s : PlaceEntry) (keys : List ℕ) (base : Base) (made : Slab EntrySeen) → is_armed s ≡ true → heeds made keys s base ≡ true
heeds_armed_both s keys (bases.Made key) made armed = heeded_armed_both s key keys (get made key) armed
heeds_armed_both s keys bases.Input made armed = refl
heeds_armed_both s keys bases.Output made armed = refl
heeds_armed_both s keys bases.Both made armed = refl
heeds_armed_both s keys bases.Errors made armed = refl

module _ (xs : List PlaceEntry) (place : Place) (made : Slab EntrySeen) (listed listed' : KeyTable) (covered : listed'.covered ≡ listed.covered) (but : IsSoundBut place xs made listed) where
  still_entered : (p : Place) → EnteredSlot made listed'.covered p (entry_at xs p)
  still_entered p = subst (λ c. EnteredSlot made c p (entry_at xs p)) (sym covered) (but.entered p)

  module _ (s : PlaceEntry) (at : entry_at xs place ≡ Some s) (others : (key : ℕ) → (s.base ≡ bases.Made key → ⊥) → is_in key listed'.keys ≡ is_in key listed.keys) (here : stands_on made listed.covered place s.base ≡ true → heeds made listed'.keys s s.base ≡ true) where
    mine : stands_on made listed.covered place s.base ≡ true
    mine = of_slot (entry_at xs place) s (λ t. stands_on made listed.covered place t.base ≡ true) at (but.entered place)

    other_heeded : (p : Place) → same_place place p ≡ false → HeededSlot made listed'.keys (entry_at xs p)
    other_heeded p differ =
        slot_heeded p (entry_at xs p) listed.covered listed.keys listed'.keys made made
        (for_slot (entry_at xs p) _ (λ t key is there. refl))
        (for_slot (entry_at xs p) _ (λ t key is there. others key (apart_keys p place key listed.covered s.base made mine differ there)))
        (but.entered p) (but.heeded p differ)

    listed_heeded : (p : Place) → HeededSlot made listed'.keys (entry_at xs p)
    listed_heeded p =
        either_place (same_place place p) place p (HeededSlot made listed'.keys (entry_at xs p)) refl
        (λ same. subst (λ q. HeededSlot made listed'.keys (entry_at xs q)) same (subst (λ slot. HeededSlot made listed'.keys slot) (sym at) (here mine)))
        (other_heeded p)

    pub sound_listed : IsSound xs made listed'
    sound_listed = record { entered = still_entered; heeded = listed_heeded }

-- an entry with both halves armed needs no listing
pub sound_armed_both : (xs : List PlaceEntry) (s : PlaceEntry) (made : Slab EntrySeen) (listed : KeyTable) → entry_at xs s.place ≡ Some s → is_armed s ≡ true → IsSoundBut s.place xs made listed → IsSound xs made listed
sound_armed_both xs s made listed at armed but = sound_listed xs s.place made listed listed refl but s at (λ key away. refl) (λ stands. heeds_armed_both s listed.keys s.base made armed)

-- ---- a place that comes

standard_stands : (made : Slab EntrySeen) (covered : ℕ) (p : Place) (base : Base) → IsStandard base → stands_on made covered p base ≡ true
standard_stands made covered p (bases.Made key) standard = elim standard [ ]
standard_stands made covered p bases.Input standard = refl
standard_stands made covered p bases.Output standard = refl
standard_stands made covered p bases.Both standard = refl
standard_stands made covered p bases.Errors standard = refl

standard_heeds : (made : Slab EntrySeen) (keys : List ℕ) (s : PlaceEntry) (base : Base) → IsStandard base → heeds made keys s base ≡ true
standard_heeds made keys s (bases.Made key) standard = elim standard [ ]
standard_heeds made keys s bases.Input standard = refl
standard_heeds made keys s bases.Output standard = refl
standard_heeds made keys s bases.Both standard = refl
standard_heeds made keys s bases.Errors standard = refl

-- on a standard stream
pub sound_add : (xs ys : List PlaceEntry) (s : PlaceEntry) (made : Slab EntrySeen) (listed : KeyTable) → SetsEntry s.place (Some s) (entry_at xs) (entry_at ys) → IsStandard s.base → IsSound xs made listed → IsSound ys made listed
sound_add xs ys s made listed sets standard sound = record {
  entered = λ p. if_slot (same_place s.place p) (EnteredSlot made listed.covered p) (Some s) (entry_at xs p) (entry_at ys p) (sets p) (λ same. standard_stands made listed.covered p s.base standard) (λ other. sound.entered p);
  heeded = λ p. if_slot (same_place s.place p) (HeededSlot made listed.keys) (Some s) (entry_at xs p) (entry_at ys p) (sets p) (λ same. standard_heeds made listed.keys s s.base standard) (λ other. sound.heeded p);
}

-- on a made port that was taken in under a vacant key
module _ (xs ys : List PlaceEntry) (s : PlaceEntry) (made made' : Slab EntrySeen) (listed : KeyTable) (key : ℕ) (entry : EntrySeen) (based : s.base ≡ bases.Made key) (place : entry.place ≡ s.place) (below : key < listed.covered) (sets : SetsEntry s.place (Some s) (entry_at xs) (entry_at ys)) (vacant : get made key ≡ None) (updates : Updates made made' key (Some entry)) (sound : IsSound xs made listed) where
  not_vacant : (p : Place) (k : ℕ) → EnteredAt p k listed.covered (get made k) → k ≢ key
  not_vacant p k at same = let e : None ≡ Some at.0 = sym vacant ∙ (ap (get made) (sym same) ∙ at.1) in absurd cc

  kept_port : (p : Place) (on : Base) → SamePort p on listed.covered made made'
  kept_port p on k is at = updates.others k (not_vacant p k at)

  new_stands : (p : Place) → s.place ≡ p → stands_on made' listed.covered p s.base ≡ true
  new_stands p same = ap (stands_on made' listed.covered p) based ∙ entered_by p key listed.covered (get made' key) (entry, updates.changed, place ∙ same, below)

  insert_entered : (p : Place) → EnteredSlot made' listed.covered p (entry_at ys p)
  insert_entered p =
      if_slot (same_place s.place p) (EnteredSlot made' listed.covered p) (Some s) (entry_at xs p) (entry_at ys p) (sets p)
      (λ same. new_stands p (same_place-eq s.place p same))
      (λ other. slot_entered p (entry_at xs p) listed.covered made made' (for_slot (entry_at xs p) _ (λ t. kept_port p t.base)) (sound.entered p))

  insert_heeded : (p : Place) → same_place s.place p ≡ false → HeededSlot made' listed.keys (entry_at ys p)
  insert_heeded p differ =
      if_slot (same_place s.place p) (HeededSlot made' listed.keys) (Some s) (entry_at xs p) (entry_at ys p) (sets p)
      (λ same. absurd (true≢false (sym same ∙ differ)))
      (λ other. slot_heeded p (entry_at xs p) listed.covered listed.keys listed.keys made made' (for_slot (entry_at xs p) _ (λ t. kept_port p t.base)) (for_slot (entry_at xs p) _ (λ t k is at. refl)) (sound.entered p) (sound.heeded p))

  pub sound_insert : IsSoundBut s.place ys made' listed
  sound_insert = record { entered = insert_entered; heeded = insert_heeded }

-- ---- a place that is let go

module _ (xs ys : List PlaceEntry) (place : Place) (made made' : Slab EntrySeen) (listed listed' : KeyTable) (sets : SetsEntry place None (entry_at xs) (entry_at ys)) (covered : listed'.covered ≡ listed.covered) (but : IsSoundBut place xs made listed) where
  module _ (same : (p : Place) (on : Base) → same_place place p ≡ false → SamePort p on listed.covered made made') (listing : (p : Place) (on : Base) → same_place place p ≡ false → SameListing p on listed.covered made listed.keys listed'.keys) where
    left_entered : (p : Place) → EnteredSlot made' listed'.covered p (entry_at ys p)
    left_entered p =
        if_slot (same_place place p) (EnteredSlot made' listed'.covered p) None (entry_at xs p) (entry_at ys p) (sets p)
        (λ gone. tt)
        (λ other. subst (λ c. EnteredSlot made' c p (entry_at xs p)) (sym covered) (slot_entered p (entry_at xs p) listed.covered made made' (for_slot (entry_at xs p) _ (λ t. same p t.base other)) (but.entered p)))

    left_heeded : (p : Place) → HeededSlot made' listed'.keys (entry_at ys p)
    left_heeded p =
        if_slot (same_place place p) (HeededSlot made' listed'.keys) None (entry_at xs p) (entry_at ys p) (sets p)
        (λ gone. tt)
        (λ other. slot_heeded p (entry_at xs p) listed.covered listed.keys listed'.keys made made' (for_slot (entry_at xs p) _ (λ t. same p t.base other)) (for_slot (entry_at xs p) _ (λ t. listing p t.base other)) (but.entered p) (but.heeded p other))

    sound_left : IsSound ys made' listed'
    sound_left = record { entered = left_entered; heeded = left_heeded }

  -- with its made port
  module _ (key : ℕ) (based : base_at xs place ≡ Some (bases.Made key)) (updates : Updates made made' key None) (others : (other : ℕ) → other ≢ key → is_in other listed'.keys ≡ is_in other listed.keys) where
    own_stands : (slot : Option PlaceEntry) → option_map (λ s. s.base) slot ≡ Some (bases.Made key) → EnteredSlot made listed.covered place slot → stands_on made listed.covered place (bases.Made key) ≡ true
    own_stands None e h = absurd cc
    own_stands (Some s) e h = let is : s.base ≡ bases.Made key = cc in sym (ap (stands_on made listed.covered place) is) ∙ h

    other_key : (p : Place) (k : ℕ) → same_place place p ≡ false → EnteredAt p k listed.covered (get made k) → k ≢ key
    other_key p k differ at is = apart_keys p place k listed.covered (bases.Made key) made (own_stands (entry_at xs place) based (but.entered place)) differ at (ap bases.Made (sym is))

    pub sound_let_go : IsSound ys made' listed'
    sound_let_go = sound_left (λ p on differ k is at. updates.others k (other_key p k differ at)) (λ p on differ k is at. others k (other_key p k differ at))

  -- alone
  pub sound_fewer : made' ≡ made → listed'.keys ≡ listed.keys → IsSound ys made' listed'
  sound_fewer is keys = sound_left (λ p on differ k e at. ap (λ m. get m k) is) (λ p on differ k e at. ap (is_in k) keys)

-- ---- room, and halves that are armed

wider : (p : Place) (on : Base) (covered covered' : ℕ) (made : Slab EntrySeen) → covered ≤ covered' → stands_on made covered p on ≡ true → stands_on made covered' p on ≡ true
wider p (bases.Made key) covered covered' made le e =
    let at = entered_is p key covered (get made key) e in
    let below = at.3 in
    entered_by p key covered' (get made key) (at.0, at.1, at.2, omega (arith, below, le))
wider p bases.Input covered covered' made le e = refl
wider p bases.Output covered covered' made le e = refl
wider p bases.Both covered covered' made le e = refl
wider p bases.Errors covered covered' made le e = refl

slot_wider : (p : Place) (slot : Option PlaceEntry) (covered covered' : ℕ) (made : Slab EntrySeen) → covered ≤ covered' → EnteredSlot made covered p slot → EnteredSlot made covered' p slot
slot_wider p None covered covered' made le h = tt
slot_wider p (Some s) covered covered' made le h = wider p s.base covered covered' made le h

-- the same ports, the same keys, and more that can be listed
pub sound_kept : (xs : List PlaceEntry) (made made' : Slab EntrySeen) (listed listed' : KeyTable) → SameValues made made' → listed'.keys ≡ listed.keys → listed.covered ≤ listed'.covered → IsSound xs made listed → IsSound xs made' listed'
sound_kept xs made made' listed listed' same keys le sound = record {
  entered = λ p. slot_wider p (entry_at xs p) listed.covered listed'.covered made' le (slot_entered p (entry_at xs p) listed.covered made made' (for_slot (entry_at xs p) _ (λ t k is at. same k)) (sound.entered p));
  heeded = λ p. slot_heeded p (entry_at xs p) listed.covered listed.keys listed'.keys made made' (for_slot (entry_at xs p) _ (λ t k is at. same k)) (for_slot (entry_at xs p) _ (λ t k is at. ap (is_in k) keys)) (sound.entered p) (sound.heeded p);
}

quiet_armed : (half : Half) (s : PlaceEntry) (port : PortSeen) → is_quiet s port ≡ true → is_quiet (with_half half false s) port ≡ true
quiet_armed ToRead s port e = (and_parts (not (s.reading_disarmed && may_tell ToRead port)) (not (s.writing_disarmed && may_tell ToWrite port)) e).1
quiet_armed ToWrite s port e = and_both (not (s.reading_disarmed && may_tell ToRead port)) true (and_parts (not (s.reading_disarmed && may_tell ToRead port)) (not (s.writing_disarmed && may_tell ToWrite port)) e).0 refl

or_armed : (a b c : Bool) → (b ≡ true → c ≡ true) → (a || b) ≡ true → (a || c) ≡ true
or_armed true b c f e = refl
or_armed false b c f e = f e

heeded_armed : (half : Half) (s : PlaceEntry) (key : ℕ) (keys : List ℕ) (slot : Option EntrySeen) → is_heeded s key keys slot ≡ true → is_heeded (with_half half false s) key keys slot ≡ true
heeded_armed half s key keys None e = refl
heeded_armed half s key keys (Some entry) e = or_armed (is_in key keys) (is_quiet s entry.port) (is_quiet (with_half half false s) entry.port) (quiet_armed half s entry.port) e

heeds_armed : (half : Half) (s : PlaceEntry) (on : Base) (keys : List ℕ) (made : Slab EntrySeen) → heeds made keys s on ≡ true → heeds made keys (with_half half false s) on ≡ true
heeds_armed half s (bases.Made key) keys made e = heeded_armed half s key keys (get made key) e
heeds_armed half s bases.Input keys made e = refl
heeds_armed half s bases.Output keys made e = refl
heeds_armed half s bases.Both keys made e = refl
heeds_armed half s bases.Errors keys made e = refl

armed_base : (half : Half) (s : PlaceEntry) → (with_half half false s).base ≡ s.base
armed_base ToRead s = refl
armed_base ToWrite s = refl

slot_armed : (half : Half) (p : Place) (slot : Option PlaceEntry) (covered : ℕ) (made : Slab EntrySeen) → EnteredSlot made covered p slot → EnteredSlot made covered p (option_map (with_half half false) slot)
slot_armed half p None covered made h = tt
slot_armed half p (Some s) covered made h = ap (stands_on made covered p) (armed_base half s) ∙ h

slot_heeds_armed : (half : Half) (slot : Option PlaceEntry) (keys : List ℕ) (made : Slab EntrySeen) → HeededSlot made keys slot → HeededSlot made keys (option_map (with_half half false) slot)
slot_heeds_armed half None keys made h = tt
slot_heeds_armed half (Some s) keys made h = ap (heeds made keys (with_half half false s)) (armed_base half s) ∙ heeds_armed half s s.base keys made h

-- a half that is armed has nothing more to be listed for
pub sound_armed : (xs ys : List PlaceEntry) (place : Place) (half : Half) (made : Slab EntrySeen) (listed : KeyTable) → SetsEntry place (option_map (with_half half false) (entry_at xs place)) (entry_at xs) (entry_at ys) → IsSound xs made listed → IsSound ys made listed
sound_armed xs ys place half made listed sets sound = record {
  entered = λ p.
      if_slot (same_place place p) (EnteredSlot made listed.covered p) (option_map (with_half half false) (entry_at xs place)) (entry_at xs p) (entry_at ys p) (sets p)
      (λ same. subst (λ q. EnteredSlot made listed.covered q (option_map (with_half half false) (entry_at xs place))) (same_place-eq place p same) (slot_armed half place (entry_at xs place) listed.covered made (sound.entered place)))
      (λ other. sound.entered p);
  heeded = λ p.
      if_slot (same_place place p) (HeededSlot made listed.keys) (option_map (with_half half false) (entry_at xs place)) (entry_at xs p) (entry_at ys p) (sets p)
      (λ same. slot_heeds_armed half (entry_at xs place) listed.keys made (sound.heeded place))
      (λ other. sound.heeded p);
}

-- ---- a call on the port of a held place

-- the port of either half of a base
pub giving_of : (base : Base) → PortIdOf (giving_port base) base
giving_of (bases.Made key) = refl
giving_of bases.Input = λ key is. absurd cc
giving_of bases.Output = λ key is. absurd cc
giving_of bases.Both = λ key is. absurd cc
giving_of bases.Errors = λ key is. absurd cc

pub taking_of : (base : Base) → PortIdOf (taking_port base) base
taking_of (bases.Made key) = refl
taking_of bases.Input = λ key is. absurd cc
taking_of bases.Output = λ key is. absurd cc
taking_of bases.Both = λ key is. absurd cc
taking_of bases.Errors = λ key is. absurd cc

marked_base : (half : Half) (disarmed : Bool) (s : PlaceEntry) → (with_half half disarmed s).base ≡ s.base
marked_base ToRead disarmed s = refl
marked_base ToWrite disarmed s = refl

pub marked_place : (half : Half) (disarmed : Bool) (s : PlaceEntry) → (with_half half disarmed s).place ≡ s.place
marked_place ToRead disarmed s = refl
marked_place ToWrite disarmed s = refl

-- the entry of a place that was marked is there
pub marked_here : (xs ys : List PlaceEntry) (s : PlaceEntry) (half : Half) (disarmed : Bool) → entry_at xs s.place ≡ Some s → SetsEntry s.place (option_map (with_half half disarmed) (entry_at xs s.place)) (entry_at xs) (entry_at ys) → entry_at ys (with_half half disarmed s).place ≡ Some (with_half half disarmed s)
marked_here xs ys s half disarmed here sets =
    ap (entry_at ys) (marked_place half disarmed s) ∙ (sets s.place ∙ (ap (λ b. if b then option_map (with_half half disarmed) (entry_at xs s.place) else entry_at xs s.place) (same_place-same s.place) ∙ ap (option_map (with_half half disarmed)) here))

-- a half is marked after it
pub sound_marked : (xs ys : List PlaceEntry) (place : Place) (s : PlaceEntry) (half : Half) (disarmed : Bool) (made made' : Slab EntrySeen) (listed : KeyTable) → entry_at xs place ≡ Some s → SetsEntry place (option_map (with_half half disarmed) (entry_at xs place)) (entry_at xs) (entry_at ys) → OnlyAt s.base made made' → IsSound xs made listed → IsSoundBut place ys made' listed
sound_marked xs ys place s half disarmed made made' listed at sets only sound =
    let Sets : Option PlaceEntry → Type 0 = λ slot. SetsEntry place (option_map (with_half half disarmed) slot) (entry_at xs) (entry_at ys) in
    sound_but xs ys place s (with_half half disarmed s) made made' listed at (marked_base half disarmed s) (subst Sets at sets) only sound
