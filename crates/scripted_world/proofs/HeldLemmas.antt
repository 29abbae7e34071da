-- What is looked at stays at what is held, and so a turn names only that.
use Rattle.std.proofs.Common.{◌≡◌, ◌<◌, ◌++◌, ◌∷◌, [], ℕ, zero, suc, List, Bool, true, false, not, filter, length, take, get_or, refl, sym, ap, ◌∙◌, if◌then◌else◌}
use Rattle.std.specs.List.{All}
use Rattle.std.proofs.lemmas.List.Elements.{All-append, All-cons, All-filter, All-get_or, All-head, All-nil, All-tail, All-weaker, filter_passes}
use Rattle.relay_model.specs.declared.places.Place.{Place}
use Rattle.relay_model.specs.declared.places.Part.{Part}
use Rattle.relay_model.specs.declared.places.Part.TheVariants.{Both, Reading, Writing}
use Rattle.relay_model.specs.declared.places.Half.TheVariants.{ToRead, ToWrite}
use Rattle.relay_model.specs.declared.readiness.ReadyAt.{ReadyAt}
use Rattle.relay_model.specs.Places.{same_place}
use Rattle.relay_model.specs.Holding.{Hold, Free, Settling, Open, ShutDown, is_free, is_open}
use Rattle.scripted_world.specs.declared.looking.LookedAt.{LookedAt}
use Rattle.scripted_world.specs.declared.looking.WatchKind.{WatchKind}
use Rattle.scripted_world.specs.declared.looking.WatchKind.TheVariants as watches
use Rattle.scripted_world.specs.declared.script.Script.{Script}
use Rattle.world_trait.specs.Answers.{NamesHeld}
use Rattle.world_trait.specs.HoldTables.{SetsHold}
use Rattle.scripted_world.specs.Looks.{LooksAtHeld, elsewhere, name_of, openings_at, openings_by}
use Rattle.scripted_world.specs.Scripts.{is_ready, ready_ones}
use Rattle.world_trait.proofs.TableLemmas.{same_place-eq, same_place-same, sets_here}

abbrev AtHeld : (Place → Hold) → LookedAt → Type 0
AtHeld held entry = is_free (held entry.place) ≡ false

stays_held : (b : Bool) (hold before after : Hold) → is_free hold ≡ false → after ≡ (if b then hold else before) → is_free before ≡ false → is_free after ≡ false
stays_held true hold before after held e stays = ap is_free e ∙ held
stays_held false hold before after held e stays = ap is_free e ∙ stays

-- a place that is held from now on takes nothing away
pub looks-set : (place : Place) (hold : Hold) (before after : Place → Hold) (looked : List LookedAt) → is_free hold ≡ false → SetsHold place hold before after → LooksAtHeld before looked → LooksAtHeld after looked
looks-set place hold before after looked held sets looks =
    All-weaker (AtHeld before) (AtHeld after) (λ e. stays_held (same_place place e.place) hold (before e.place) (after e.place) held (sets e.place)) looked looks

not_same : (place other : Place) (b : Bool) → same_place place other ≡ b → not (same_place other place) ≡ true → b ≡ false
not_same place other true same apart =
    absurd (let e : same_place other place ≡ true = ap (λ p. same_place p place) (sym (same_place-eq place other same)) ∙ same_place-same place in let f : true ≡ false = sym apart ∙ ap not e in cc)
not_same place other false same apart = refl

stays_elsewhere : (place other : Place) (hold before after : Hold) (b : Bool) → same_place place other ≡ b → not (same_place other place) ≡ true → after ≡ (if b then hold else before) → is_free before ≡ false → is_free after ≡ false
stays_elsewhere place other hold before after true same apart e stays = absurd (let f : true ≡ false = not_same place other true same apart in cc)
stays_elsewhere place other hold before after false same apart e stays = ap is_free e ∙ stays

-- whatever becomes of a place, what is looked at elsewhere stays at what is held
pub looks-elsewhere : (place : Place) (hold : Hold) (before after : Place → Hold) (looked : List LookedAt) → SetsHold place hold before after → LooksAtHeld before looked → LooksAtHeld after (elsewhere looked place)
looks-elsewhere place hold before after looked sets looks = λ k d within.
    let x = get_or (elsewhere looked place) k d in
    stays_elsewhere place x.place hold (before x.place) (after x.place) (same_place place x.place) refl (filter_passes (λ entry. not (same_place entry.place place)) looked k d within) (sets x.place) (All-filter (λ entry. not (same_place entry.place place)) (AtHeld before) looked looks k d within)

looks-openings_by : (held : Place → Hold) (place : Place) (part : Part) → is_free (held place) ≡ false → LooksAtHeld held (openings_by part place)
looks-openings_by held place Both here = All-cons (AtHeld held) (record { place = place; watch = watches.Opening ToRead }) (record { place = place; watch = watches.Opening ToWrite } ∷ []) here (All-cons (AtHeld held) (record { place = place; watch = watches.Opening ToWrite }) [] here (All-nil (AtHeld held)))
looks-openings_by held place Reading here = All-cons (AtHeld held) (record { place = place; watch = watches.Opening ToRead }) [] here (All-nil (AtHeld held))
looks-openings_by held place Writing here = All-cons (AtHeld held) (record { place = place; watch = watches.Opening ToWrite }) [] here (All-nil (AtHeld held))

-- an opening that is under way is looked at where it is held
pub looks-opening : (place : Place) (hold : Hold) (before after : Place → Hold) (looked : List LookedAt) → is_free hold ≡ false → SetsHold place hold before after → LooksAtHeld before looked → LooksAtHeld after (elsewhere looked place ++ openings_at place)
looks-opening place hold before after looked held sets looks =
    let here : is_free (after place) ≡ false = ap is_free (sets_here place hold before after sets) ∙ held in
    All-append (AtHeld after) (elsewhere looked place) (openings_at place) (looks-elsewhere place hold before after looked sets looks) (looks-openings_by after place place.part here)

-- without some of it the rest stays
pub looks-some : (held : Place → Hold) (test : LookedAt → Bool) (looked : List LookedAt) → LooksAtHeld held looked → LooksAtHeld held (filter test looked)
looks-some held test looked looks = All-filter test (AtHeld held) looked looks

-- one more thing of what is held
pub looks-more : (held : Place → Hold) (test : LookedAt → Bool) (looked : List LookedAt) (place : Place) (watch : WatchKind) → is_free (held place) ≡ false → LooksAtHeld held looked → LooksAtHeld held (filter test looked ++ record { place = place; watch = watch } ∷ [])
looks-more held test looked place watch here looks =
    All-append (AtHeld held) (filter test looked) (record { place = place; watch = watch } ∷ []) (All-filter test (AtHeld held) looked looks) (All-cons (AtHeld held) (record { place = place; watch = watch }) [] here (All-nil (AtHeld held)))

-- what is open is held
pub open_held : (hold : Hold) → is_open hold ≡ true → is_free hold ≡ false
open_held Free usable = absurd cc
open_held Settling usable = refl
open_held Open usable = refl
open_held ShutDown usable = refl

-- ---- what a turn names

named_step : (held : Place → Hold) (b : Bool) (e : ReadyAt) (rest : List ReadyAt) → is_free (held e.place) ≡ false → NamesHeld held rest → NamesHeld held (if b then e ∷ rest else rest)
named_step held true e rest here names = (here, names)
named_step held false e rest here names = names

names-ready : (held : Place → Hold) (s : Script) (at : ℕ) (looked : List LookedAt) → LooksAtHeld held looked → NamesHeld held (ready_ones s at looked)
names-ready held s at [] looks = tt
names-ready held s at (entry ∷ looked) looks = named_step held (is_ready s at entry) (name_of entry) (ready_ones s at looked) (All-head (AtHeld held) entry looked looks) (names-ready held s at looked (All-tail (AtHeld held) entry looked looks))

names-take : (held : Place → Hold) (n : ℕ) (entries : List ReadyAt) → NamesHeld held entries → NamesHeld held (take n entries)
names-take held zero entries names = tt
names-take held (suc n) [] names = tt
names-take held (suc n) (e ∷ entries) names = (names.0, names-take held n entries names.1)

-- those of what is looked at that a turn names are held
pub names-turn : (held : Place → Hold) (s : Script) (at n : ℕ) → LooksAtHeld held s.looked → NamesHeld held (take n (ready_ones s at s.looked))
names-turn held s at n looks = names-take held n (ready_ones s at s.looked) (names-ready held s at s.looked looks)
