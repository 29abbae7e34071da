-- What a read keeps true of a world with a number.
use Rattle.std.proofs.Common.{◌≡◌, ℕ, Bool, true, false, not, ◌&&◌, ◌||◌, List, [], ◌∷◌, ◌++◌, take, Some, option_map, refl, sym, ap, ◌∙◌, append_assoc}
use Rattle.std.proofs.lemmas.Option.{same_Some}
use Rattle.relay_model.specs.declared.acts.Act.{Act}
use Rattle.relay_model.specs.declared.acts.Act.TheVariants.{Closed, Note, Read, ReadEmpty, ReadEnd, ReadFault, ReadNotYet, Reaped}
use Rattle.relay_model.specs.declared.journals.Kept.{Kept}
use Rattle.relay_model.specs.declared.places.Place.{Place}
use Rattle.relay_model.specs.Choices.{joined}
use Rattle.relay_model.specs.History.{got, met_end, reaped_since}
use Rattle.relay_model.specs.Holding.{Hold}
use Rattle.relay_model.specs.Places.{same_place}
use Rattle.relay_laws.proofs.PlaceLemmas.{same_place_equal}
use Rattle.world_trait.specs.Answers.{Answered, Did, read_act}
use Rattle.world_trait.specs.Seen.{Seen}
use Rattle.world_trait.specs.Recordings.{told_kept, with_act}
use Rattle.world_trait.specs.declared.answers.ReadAnswer.{ReadAnswer}
use Rattle.world_trait.specs.declared.answers.ReadAnswer.TheVariants as reads
use Rattle.scripted_world.specs.declared.lines.PlacedItem.{PlacedItem}
use Rattle.scripted_world.specs.declared.reading.DueRead.{DueRead}
use Rattle.scripted_world.specs.declared.reading.Given.TheVariants as given
use Rattle.scripted_world.specs.declared.script.Script.{Script}
use Rattle.scripted_world.specs.Lines.{next_of, used_up}
use Rattle.scripted_world.specs.Reads.{bytes_left, next_bytes, read_given}
use Rattle.scripted_world.specs.Scripted.{ReadScripted}
use Rattle.socat_top.specs.Left.{left_of}
use Rattle.socat_top.specs.Numbered.{GivesScripted}
use Rattle.socat_top.specs.Scripts.{scripted}
use Rattle.socat_top.proofs.LeftLemmas.{in_order-given, in_order-used, left-end, left-given, left-used, nil_behind, no-bytes}

-- the note of a number changes nothing of what was reaped
pub reaped-named : (acts : List Act) (n : ℕ) (p : Place) → reaped_since (acts ++ Note (n ∷ []) ∷ []) p ≡ reaped_since acts p
reaped-named [] n p = refl
reaped-named (Closed q why ∷ past) n p = ap (λ b. not (same_place q p) && b) (reaped-named past n p)
reaped-named (Reaped q end ∷ past) n p = ap (λ b. same_place q p || b) (reaped-named past n p)
reaped-named (act ∷ past) n p = reaped-named past n p

-- another list of acts that says the same, and the same items
same_gives : (n : ℕ) (acts acts' : List Act) (lines lines' : List (PlacedItem DueRead)) → acts' ≡ acts → lines' ≡ lines → GivesScripted n acts lines → GivesScripted n acts' lines'
same_gives n acts acts' lines lines' e f gives = record {
  given = λ p. ap (λ xs. got xs p ++ left_of lines' p) e ∙ ap (λ ls. got acts p ++ left_of ls p) f ∙ gives.given p;
  whole = λ p met. ap (λ ls. left_of ls p) f ∙ gives.whole p (ap (λ xs. met_end xs p) (sym e) ∙ met);
  in_order = λ p. rw f (gives.in_order p);
}

joins : (b : Bool) (before bytes left left' all : List ℕ) → left ≡ joined b [] bytes ++ left' → before ++ left ≡ all → joined b before bytes ++ left' ≡ all
joins true before bytes left left' all e f = append_assoc before bytes left' ∙ ap (λ ys. before ++ ys) (sym e) ∙ f
joins false before bytes left left' all e f = ap (λ ys. before ++ ys) (sym e) ∙ f

-- bytes were given
bytes_gives : (n : ℕ) (acts : List Act) (lines : List (PlacedItem DueRead)) (place : Place) (k : ℕ) (bytes : List ℕ) → bytes ≡ take k (next_bytes (next_of lines place)) → GivesScripted n acts lines → GivesScripted n (Read place bytes ∷ acts) (bytes_left lines place k)
bytes_gives n acts lines place k bytes e gives = record {
  given = λ p. joins (same_place place p) (got acts p) bytes (left_of lines p) (left_of (bytes_left lines place k) p) (scripted n p) (left-given lines place p k ∙ ap (λ bs. joined (same_place place p) [] bs ++ left_of (bytes_left lines place k) p) (sym e)) (gives.given p);
  whole = λ p met. nil_behind (joined (same_place place p) [] (take k (next_bytes (next_of lines place)))) (left_of (bytes_left lines place k) p) (sym (left-given lines place p k) ∙ gives.whole p met);
  in_order = λ p. in_order-given lines place p k (gives.in_order p);
}

-- an item without bytes was used up, by an act that changes nothing of what was read
used_gives : (n : ℕ) (acts acts' : List Act) (lines : List (PlacedItem DueRead)) (place : Place) → ((p : Place) → got acts' p ≡ got acts p) → ((p : Place) → met_end acts' p ≡ true → left_of (used_up lines place) p ≡ []) → next_bytes (next_of lines place) ≡ [] → GivesScripted n acts lines → GivesScripted n acts' (used_up lines place)
used_gives n acts acts' lines place same whole none gives = record {
  given = λ p. ap (λ xs. xs ++ left_of (used_up lines place) p) (same p) ∙ ap (λ ys. got acts p ++ ys) (left-used lines place p none) ∙ gives.given p;
  whole = whole;
  in_order = λ p. in_order-used lines place p none (gives.in_order p);
}

-- the end was given
whole_end : (n : ℕ) (acts : List Act) (lines : List (PlacedItem DueRead)) (place : Place) (now room : ℕ) → given.End ≡ read_given (next_of lines place) now room → next_bytes (next_of lines place) ≡ [] → GivesScripted n acts lines → (p : Place) → met_end (ReadEnd place ∷ acts) p ≡ true → left_of (used_up lines place) p ≡ []
whole_end n acts lines place now room e none gives p met = go (same_place place p) refl met
  where
    go : (b : Bool) → same_place place p ≡ b → (b || met_end acts p) ≡ true → left_of (used_up lines place) p ≡ []
    go true same met = ap (left_of (used_up lines place)) (sym (same_place_equal place p same)) ∙ left-end lines place now room e (gives.in_order place)
    go false same met = left-used lines place p none ∙ gives.whole p met

-- the acts of a world that keeps them all
acts_told : (kept kept' : Kept) (act : Act) → told_kept kept' ≡ Some (record { acts = act ∷ kept.journal.acts; asked = kept.asked.pairs }) → kept'.journal.acts ≡ act ∷ kept.journal.acts
acts_told kept kept' act e = ap (λ h. h.acts) (same_Some (record { acts = kept'.journal.acts; asked = kept'.asked.pairs }) (record { acts = act ∷ kept.journal.acts; asked = kept.asked.pairs }) e)

acts_same : (kept kept' : Kept) → told_kept kept' ≡ told_kept kept → kept'.journal.acts ≡ kept.journal.acts
acts_same kept kept' e = ap (λ h. h.acts) (same_Some (record { acts = kept'.journal.acts; asked = kept'.asked.pairs }) (record { acts = kept.journal.acts; asked = kept.asked.pairs }) e)

-- an act that a world told which keeps them all
kept_told : (kept kept' : Kept) (old new : Seen) (act : Act) → old.told ≡ told_kept kept → new.told ≡ told_kept kept' → Did old new act → told_kept kept' ≡ option_map (with_act act) (told_kept kept)
kept_told kept kept' old new act is is' did = sym is' ∙ did.told ∙ ap (option_map (with_act act)) is

-- a read keeps what the world gives the one of its number
pub read_gives : (n : ℕ) (kept kept' : Kept) (script script' : Script) (old new : Seen) (place : Place) (now room : ℕ) (into : List ℕ) (answer : ReadAnswer) → Answered old new (read_act place into answer) → ReadScripted script script' place now room into answer → GivesScripted n kept.journal.acts script.reads → old.told ≡ told_kept kept → new.told ≡ told_kept kept' → GivesScripted n kept'.journal.acts script'.reads
read_gives n kept kept' script script' old new place now room into (reads.Bytes k) did by gives is is' =
    same_gives n (Read place (take k into) ∷ kept.journal.acts) kept'.journal.acts (bytes_left script.reads place k) script'.reads (acts_told kept kept' (Read place (take k into)) (kept_told kept kept' old new (Read place (take k into)) is is' did)) (ap (λ s. s.reads) by.left)
    (bytes_gives n kept.journal.acts script.reads place k (take k into) by.bytes gives)
read_gives n kept kept' script script' old new place now room into reads.Empty did by gives is is' =
    same_gives n (ReadEmpty place ∷ kept.journal.acts) kept'.journal.acts (used_up script.reads place) script'.reads (acts_told kept kept' (ReadEmpty place) (kept_told kept kept' old new (ReadEmpty place) is is' did)) (ap (λ s. s.reads) by.left)
    (let none = no-bytes (next_of script.reads place) now room given.Empty by.answer (λ m e. let f : ⊥ = cc in f) (λ e. let f : ⊥ = cc in f) in
    used_gives n kept.journal.acts (ReadEmpty place ∷ kept.journal.acts) script.reads place (λ p. refl) (λ p met. left-used script.reads place p none ∙ gives.whole p met) none gives)
read_gives n kept kept' script script' old new place now room into reads.End did by gives is is' =
    same_gives n (ReadEnd place ∷ kept.journal.acts) kept'.journal.acts (used_up script.reads place) script'.reads (acts_told kept kept' (ReadEnd place) (kept_told kept kept' old new (ReadEnd place) is is' did)) (ap (λ s. s.reads) by.left)
    (let none = no-bytes (next_of script.reads place) now room given.End by.answer (λ m e. let f : ⊥ = cc in f) (λ e. let f : ⊥ = cc in f) in
    used_gives n kept.journal.acts (ReadEnd place ∷ kept.journal.acts) script.reads place (λ p. refl) (whole_end n kept.journal.acts script.reads place now room by.answer none gives) none gives)
read_gives n kept kept' script script' old new place now room into reads.NotYet did by gives is is' =
    same_gives n (ReadNotYet place ∷ kept.journal.acts) kept'.journal.acts script.reads script'.reads (acts_told kept kept' (ReadNotYet place) (kept_told kept kept' old new (ReadNotYet place) is is' did)) (ap (λ s. s.reads) by.left)
    (record { given = gives.given; whole = gives.whole; in_order = gives.in_order })
read_gives n kept kept' script script' old new place now room into reads.Failed did by gives is is' =
    same_gives n (ReadFault place ∷ kept.journal.acts) kept'.journal.acts (used_up script.reads place) script'.reads (acts_told kept kept' (ReadFault place) (kept_told kept kept' old new (ReadFault place) is is' did)) (ap (λ s. s.reads) by.left)
    (let none = no-bytes (next_of script.reads place) now room given.Fault by.answer (λ m e. let f : ⊥ = cc in f) (λ e. let f : ⊥ = cc in f) in
    used_gives n kept.journal.acts (ReadFault place ∷ kept.journal.acts) script.reads place (λ p. refl) (λ p met. left-used script.reads place p none ∙ gives.whole p met) none gives)
read_gives n kept kept' script script' old new place now room into reads.Memory did by gives is is' =
    same_gives n kept.journal.acts kept'.journal.acts script.reads script'.reads (acts_same kept kept' (sym is' ∙ did.told ∙ is)) (ap (λ s. s.reads) by) gives
