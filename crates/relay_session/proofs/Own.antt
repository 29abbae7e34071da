-- What the opening of a session calls for names things of that session.
use Rattle.std.proofs.Common.{◌≡◌, refl, ◌∙◌, ℕ, Bool, true, false, cond, ◌&&◌, ◌||◌, nat_le, List, [], ◌∷◌, ◌++◌, map, filter, Option, Some, None}
use Rattle.std.specs.List.{list_any, list_all}
use Rattle.std.proofs.lemmas.Bool.{false≢true}
use Rattle.std.proofs.lemmas.List.Folds.{list_any-append}
use Rattle.relay_model.specs.declared.places.Side.{Side}
use Rattle.relay_model.specs.declared.places.Side.TheVariants.{Left, Right}
use Rattle.relay_model.specs.declared.places.Part.{Part}
use Rattle.relay_model.specs.declared.places.Place.{Place}
use Rattle.relay_model.specs.declared.commands.Config.{Config}
use Rattle.relay_model.specs.declared.acts.Act.{Act}
use Rattle.relay_model.specs.Places.{same_place, door_of}
use Rattle.relay_model.specs.Configs.{places, parts, place_at, own_doors, is_of, is_place_of, options_of, listens_at, has_own_door}
use Rattle.relay_model.specs.History.{now, stage, held, woken, failures}
use Rattle.relay_model.specs.declared.stages.Stage.{Stage}
use Rattle.relay_model.specs.declared.stages.Stage.TheVariants.{Untried, Unsettled, Failed, Met, Waiting}
use Rattle.relay_model.specs.Arming.{armed_to_accept}
use Rattle.relay_model.specs.Sessions.{permits}
use Rattle.relay_model.specs.Tries.{next_due}
use Rattle.relay_model.specs.Openings.{out_of_tries, when_due, try_again, is_ready, opening_call, listening_call, peer_call, place_call, first_call}
use Rattle.relay_model.specs.declared.calls.Call.{Call}
use Rattle.relay_model.specs.declared.calls.Call.TheVariants.{Nothing, TryAt, Open, Settle, Listen, Accept, Refuse, Serve}
use Rattle.relay_laws.proofs.PlaceLemmas.{same_place_self}

-- a place of the session
pub record OwnPlace (c : Config) (s : ℕ) (p : Place) : Type 0 where
  pub among : is_place_of c s p ≡ true
  pub of : is_of c s p ≡ true
  pub plain : p.door ≡ false

-- a door of the session
pub record OwnDoor (c : Config) (s : ℕ) (d : Place) : Type 0 where
  pub among : list_any (same_place d) (own_doors c s) ≡ true
  pub of : is_of c s d ≡ true
  pub door : d.door ≡ true

-- a place of the session, and its door where it has one
pub record Stood (c : Config) (s : ℕ) (p : Place) : Type 0 where
  pub place : OwnPlace c s p
  pub door : has_own_door c p ≡ true → OwnDoor c s (door_of p)

abbrev pub NamesOwn : Config → ℕ → Call → Type 0
NamesOwn c s Nothing = Unit {0}
NamesOwn c s (TryAt m) = Unit {0}
NamesOwn c s (Open p) = OwnPlace c s p × (listens_at c p ≡ false)
NamesOwn c s (Settle p) = OwnPlace c s p × (listens_at c p ≡ false)
NamesOwn c s (Listen d) = OwnDoor c s d
NamesOwn c s (Accept d p) = OwnDoor c s d × OwnPlace c s p
NamesOwn c s (Refuse p) = OwnPlace c s p
NamesOwn c s (Serve d) = OwnDoor c s d

choice : (c : Config) (s : ℕ) (b : Bool) (one other : Call) → (b ≡ true → NamesOwn c s one) → (b ≡ false → NamesOwn c s other) → NamesOwn c s (cond b one other)
choice c s true one other t f = t refl
choice c s false one other t f = f refl

due : (c : Config) (s at : ℕ) (o : Option ℕ) (wanted : Call) → NamesOwn c s wanted → NamesOwn c s (when_due at o wanted)
due c s at None wanted t = tt
due c s at (Some m) wanted t = choice c s (nat_le m at) wanted (TryAt m) (λ _. t) (λ _. tt)

again : (c : Config) (past : List Act) (s : ℕ) (p : Place) (wanted : Call) → NamesOwn c s wanted → NamesOwn c s (try_again c past p wanted)
again c past s p wanted t = choice c s (out_of_tries c past p) Nothing (when_due (now past) (next_due (options_of c p).tries.interval (failures past p)) wanted) (λ _. tt) (λ _. due c s (now past) (next_due (options_of c p).tries.interval (failures past p)) wanted t)

opening : (c : Config) (past : List Act) (s : ℕ) (p : Place) (st : Stage) → OwnPlace c s p × (listens_at c p ≡ false) → NamesOwn c s (opening_call c past p st)
opening c past s p Untried h = h
opening c past s p Unsettled h = choice c s (woken past p) (Settle p) Nothing (λ _. h) (λ _. tt)
opening c past s p Failed h = again c past s p (Open p) h
opening c past s p st h = tt

listening : (c : Config) (past : List Act) (s : ℕ) (d p : Place) (st : Stage) → OwnDoor c s d → OwnPlace c s p → NamesOwn c s (listening_call c past d p st)
listening c past s d p Untried h k = h
listening c past s d p Failed h k = again c past s d (Listen d) h
listening c past s d p Waiting h k = choice c s (armed_to_accept past d) (Accept d p) Nothing (λ _. (h, k)) (λ _. tt)
listening c past s d p st h k = tt

peer : (c : Config) (past : List Act) (s : ℕ) (p : Place) (st : Stage) → OwnDoor c s (door_of p) → OwnPlace c s p → NamesOwn c s (peer_call c past p st)
peer c past s p (Met met) h k =
    choice c s (permits c p met) (cond (held past (door_of p)) (Serve (door_of p)) Nothing) (Refuse p)
    (λ _. choice c s (held past (door_of p)) (Serve (door_of p)) Nothing (λ _. h) (λ _. tt))
    (λ _. k)
peer c past s p st h k = listening c past s (door_of p) p (stage past (door_of p)) h k

place : (c : Config) (past : List Act) (s : ℕ) (p : Place) → Stood c s p → NamesOwn c s (place_call c past p)
place c past s p own =
    choice c s (has_own_door c p) (peer_call c past p (stage past p)) (cond (listens_at c p) Nothing (opening_call c past p (stage past p)))
    (λ e. peer c past s p (stage past p) (own.door e) own.place)
    (λ _. choice c s (listens_at c p) Nothing (opening_call c past p (stage past p)) (λ _. tt) (λ e. opening c past s p (stage past p) (own.place, e)))

abbrev pub AllStand : Config → ℕ → List Place → Type 0
AllStand c s [] = Unit {0}
AllStand c s (p ∷ ps) = Stood c s p × AllStand c s ps

first : (c : Config) (past : List Act) (s : ℕ) (ps : List Place) → AllStand c s ps → NamesOwn c s (first_call c past ps)
first c past s [] h = tt
first c past s (p ∷ ps) h = let ih = first c past s ps h.1 in choice c s (is_ready c past p) (first_call c past ps) (place_call c past p) (λ _. ih) (λ _. place c past s p h.0)

-- ---- each place stands among the places, and its door among the doors

-- a list that stands in the one of all places
abbrev Within : Config → ℕ → List Place → Type 0
Within c s ps = ((q : Place) → list_any (same_place q) ps ≡ true → list_any (same_place q) (places c s) ≡ true) × ((q : Place) → list_any (same_place q) (map door_of (filter (has_own_door c) ps)) ≡ true → list_any (same_place q) (own_doors c s) ≡ true)

here : (a b : Bool) → a ≡ true → (a || b) ≡ true
here true b e = refl
here false b e = absurd (false≢true e)

there : (a b : Bool) → b ≡ true → (a || b) ≡ true
there true b e = refl
there false b e = e

pub of_places : (c : Config) (s : ℕ) (q : Place) → list_any (same_place q) (places c s) ≡ true → is_of c s q ≡ true
of_places c s q e = list_any-append (same_place q) (places c s) (own_doors c s) ∙ here (list_any (same_place q) (places c s)) (list_any (same_place q) (own_doors c s)) e

of_doors : (c : Config) (s : ℕ) (q : Place) → list_any (same_place q) (own_doors c s) ≡ true → is_of c s q ≡ true
of_doors c s q e = list_any-append (same_place q) (places c s) (own_doors c s) ∙ there (list_any (same_place q) (places c s)) (list_any (same_place q) (own_doors c s)) e

door_here : (c : Config) (p : Place) (ps : List Place) → has_own_door c p ≡ true → list_any (same_place (door_of p)) (map door_of (filter (has_own_door c) (p ∷ ps))) ≡ true
door_here c p ps e = go (has_own_door c p) e
  where
    go : (b : Bool) → b ≡ true → list_any (same_place (door_of p)) (map door_of (cond b (p ∷ filter (has_own_door c) ps) (filter (has_own_door c) ps))) ≡ true
    go true f = here (same_place (door_of p) (door_of p)) (list_any (same_place (door_of p)) (map door_of (filter (has_own_door c) ps))) (same_place_self (door_of p))
    go false f = absurd (false≢true f)

door_there : (c : Config) (q p : Place) (ps : List Place) → list_any (same_place q) (map door_of (filter (has_own_door c) ps)) ≡ true → list_any (same_place q) (map door_of (filter (has_own_door c) (p ∷ ps))) ≡ true
door_there c q p ps e = go (has_own_door c p)
  where
    go : (b : Bool) → list_any (same_place q) (map door_of (cond b (p ∷ filter (has_own_door c) ps) (filter (has_own_door c) ps))) ≡ true
    go true = there (same_place q (door_of p)) (list_any (same_place q) (map door_of (filter (has_own_door c) ps))) e
    go false = e

within_tail : (c : Config) (s : ℕ) (p : Place) (ps : List Place) → Within c s (p ∷ ps) → Within c s ps
within_tail c s p ps h = (λ q e. h.0 q (there (same_place q p) (list_any (same_place q) ps) e), λ q e. h.1 q (door_there c q p ps e))

stood : (c : Config) (s : ℕ) (p : Place) (ps : List Place) → Within c s (p ∷ ps) → p.door ≡ false → Stood c s p
stood c s p ps h e =
    let a = h.0 p (here (same_place p p) (list_any (same_place p) ps) (same_place_self p)) in
    record {
      place = record { among = a; of = of_places c s p a; plain = e };
      door = λ d. let b = h.1 (door_of p) (door_here c p ps d) in record { among = b; of = of_doors c s (door_of p) b; door = refl };
    }

side_stands : (c : Config) (s : ℕ) (side : Side) (ps : List Part) → Within c s (map (place_at s side) ps) → AllStand c s (map (place_at s side) ps)
side_stands c s side [] h = tt
side_stands c s side (part ∷ ps) h = (stood c s (place_at s side part) (map (place_at s side) ps) h refl, side_stands c s side ps (within_tail c s (place_at s side part) (map (place_at s side) ps) h))

sides_stand : (c : Config) (s : ℕ) (ps : List Part) (rest : List Place) → AllStand c s rest → Within c s (map (place_at s Left) ps ++ rest) → AllStand c s (map (place_at s Left) ps ++ rest)
sides_stand c s [] rest r h = r
sides_stand c s (part ∷ ps) rest r h = (stood c s (place_at s Left part) (map (place_at s Left) ps ++ rest) h refl, sides_stand c s ps rest r (within_tail c s (place_at s Left part) (map (place_at s Left) ps ++ rest) h))

within_rest : (c : Config) (s : ℕ) (ps : List Part) (rest : List Place) → Within c s (map (place_at s Left) ps ++ rest) → Within c s rest
within_rest c s [] rest h = h
within_rest c s (part ∷ ps) rest h = within_rest c s ps rest (within_tail c s (place_at s Left part) (map (place_at s Left) ps ++ rest) h)

pub all_stand : (c : Config) (s : ℕ) → AllStand c s (places c s)
all_stand c s =
    let whole : Within c s (places c s) = (λ q e. e, λ q e. e) in
    sides_stand c s (parts c Left) (map (place_at s Right) (parts c Right)) (side_stands c s Right (parts c Right) (within_rest c s (parts c Left) (map (place_at s Right) (parts c Right)) whole)) whole

-- what is called for names things of the session
pub names_own : (c : Config) (past : List Act) (s : ℕ) → NamesOwn c s (first_call c past (places c s))
names_own c past s = first c past s (places c s) (all_stand c s)

-- where every place is ready, nothing is called for
pub ready_calls : (c : Config) (past : List Act) (ps : List Place) → list_all (is_ready c past) ps ≡ true → first_call c past ps ≡ Nothing
ready_calls c past [] e = refl
ready_calls c past (p ∷ ps) e = go (is_ready c past p) e (ready_calls c past ps)
  where
    go : (b : Bool) → (b && list_all (is_ready c past) ps) ≡ true → (list_all (is_ready c past) ps ≡ true → first_call c past ps ≡ Nothing) → cond b (first_call c past ps) (place_call c past p) ≡ Nothing
    go true f ih = ih f
    go false f ih = absurd (false≢true f)
