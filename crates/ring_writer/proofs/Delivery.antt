-- What a sink took, from one call to the next.
use Rattle.std.proofs.Common.{◌≡◌, ℕ, zero, suc, ◌+◌, ◌-◌, ◌^◌, ◌<◌, ◌≤◌, min, List, [], ◌++◌, refl, take, option_map, sym, ap, ◌∙◌, append_assoc, length, length-append, subst, arith}
use Rattle.std.specs.Prelude.{Option, None, Some}
use Rattle.std.specs.Io.KnownBytes.{Appends}
use Rattle.std.proofs.Math.Seq.{take-append-add}
use Rattle.std.proofs.lemmas.List.{take_all, take-append-le, append-nil, length-take-le}
use Rattle.ring_writer.specs.Writer.{Delivered, KeptUp}

-- all was written
pub holds_all : (before now : Option (List ℕ)) (bytes : List ℕ) (n : ℕ) → n ≡ length bytes → Appends before now (take n bytes) → Appends before now bytes
holds_all before now bytes n all held = subst (Appends before now) (take_all n bytes (omega (arith, all))) held

-- what is added twice is added once
both_added : (before mid now : Option (List ℕ)) (first more : List ℕ) → mid ≡ option_map (λ all. all ++ first) before → now ≡ option_map (λ all. all ++ more) mid → now ≡ option_map (λ all. all ++ (first ++ more)) before
both_added None mid now first more one two = two ∙ ap (option_map (λ all. all ++ more)) one
both_added (Some all) mid now first more one two = two ∙ ap (option_map (λ all. all ++ more)) one ∙ ap Some (append_assoc all first more)

-- a sink that never failed takes all of more bytes
pub all_given : (sound sound' count : ℕ) (before now now' : Option (List ℕ)) (given more : List ℕ) → Delivered 0 sound before now given → now' ≡ option_map (λ all. all ++ take count more) now → count ≡ length more → sound' ≡ min (sound + count) (2 ^ 64 - 1) → Delivered 0 sound' before now' (given ++ more)
all_given sound sound' count before now now' given more was took all is =
    (omega (arith, was.0, all, is, length-append given more), both_added before now now' given more was.1 (took ∙ ap (λ front. option_map (λ xs. xs ++ front) now) (take_all count more (omega (arith, all)))))

-- it fails for the first time
pub first_fails : (faults sound sound' count : ℕ) (before now now' : Option (List ℕ)) (given more : List ℕ) → Delivered 0 sound before now given → now' ≡ option_map (λ all. all ++ take count more) now → count ≤ length more → sound' ≡ min (sound + count) (2 ^ 64 - 1) → Delivered (suc faults) sound' before now' (given ++ more)
first_fails faults sound sound' count before now now' given more was took within is = (
  length given + count,
  [],
  omega (arith, length-append given more, within),
  omega (arith, was.0, is),
  both_added before now now' given (take count more) was.1 took ∙ ap (λ front. option_map (λ all. all ++ front) before) (sym (append-nil (take (length given + count) (given ++ more)) ∙ take-append-add given more count)),
)

-- a sink that failed may take what comes later, which tells no more of its first fault
pub after_fault : (faults faults' sound : ℕ) (before now now' : Option (List ℕ)) (given more added : List ℕ) → Delivered (suc faults) sound before now given → now' ≡ option_map (λ all. all ++ added) now → Delivered (suc faults') sound before now' (given ++ more)
after_fault faults faults' sound before now now' given more added was took =
    let front : take was.0 (given ++ more) ≡ take was.0 given = take-append-le was.0 given more was.2 in (
      was.0,
      was.1 ++ added,
      omega (arith, was.2, length-append given more),
      was.3,
      both_added before now now' (take was.0 given ++ was.1) added was.4 took ∙ ap (λ all'. option_map (λ all. all ++ all') before) (append_assoc (take was.0 given) was.1 added ∙ ap (λ xs. xs ++ (was.1 ++ added)) (sym front)),
    )

-- nothing was added
pub same_content : (now : Option (List ℕ)) → now ≡ option_map (λ all. all ++ []) now
same_content None = refl
same_content (Some all) = ap Some (sym (append-nil all))

-- one call on the sink: all was taken, or it failed
pub gives : (faults sound sound' count : ℕ) (before now now' : Option (List ℕ)) (given more : List ℕ) → Delivered faults sound before now given → now' ≡ option_map (λ all. all ++ take count more) now → count ≡ length more → (faults ≡ 0 → sound' ≡ min (sound + count) (2 ^ 64 - 1)) → (0 < faults → sound' ≡ sound) → Delivered faults sound' before now' (given ++ more)
gives zero sound sound' count before now now' given more was took all first later = all_given sound sound' count before now now' given more was took all (first refl)
gives (suc faults) sound sound' count before now now' given more was took all first later = rw (later (omega arith)) (after_fault faults faults sound before now now' given more (take count more) was took)

pub fails : (faults faults' sound sound' count : ℕ) (before now now' : Option (List ℕ)) (given more : List ℕ) → Delivered faults sound before now given → now' ≡ option_map (λ all. all ++ take count more) now → count ≤ length more → (faults ≡ 0 → sound' ≡ min (sound + count) (2 ^ 64 - 1)) → (0 < faults → sound' ≡ sound) → 0 < faults' → Delivered faults' sound' before now' (given ++ more)
fails faults zero sound sound' count before now now' given more was took within first later some = absurd (omega arith)
fails zero (suc faults') sound sound' count before now now' given more was took within first later some = first_fails faults' sound sound' count before now now' given more was took within (first refl)
fails (suc faults) (suc faults') sound sound' count before now now' given more was took within first later some = rw (later (omega arith)) (after_fault faults faults' sound before now now' given more (take count more) was took)

-- nothing more of what is given is taken by a sink that failed
pub dropped : (faults sound : ℕ) (before now : Option (List ℕ)) (given more : List ℕ) → 0 < faults → Delivered faults sound before now given → Delivered faults sound before now (given ++ more)
dropped zero sound before now given more some was = absurd (omega arith)
dropped (suc faults) sound before now given more some was = after_fault faults faults sound before now now given more [] was (same_content now)

-- a call that gives nothing, and fails
pub fails_idle : (faults faults' sound : ℕ) (before now now' : Option (List ℕ)) (given : List ℕ) → Delivered faults sound before now given → now' ≡ now → 0 < faults' → Delivered faults' sound before now' given
fails_idle faults zero sound before now now' given was same some = absurd (omega arith)
fails_idle zero (suc faults') sound before now now' given was same some = (length given, [], omega arith, was.0, same ∙ was.1 ∙ ap (λ front. option_map (λ all. all ++ front) before) (sym (append-nil (take (length given) given) ∙ take_all (length given) given (omega arith))))
fails_idle (suc faults) (suc faults') sound before now now' given was same some = (was.0, was.1, was.2, was.3, same ∙ was.4)

-- what a sink takes makes what it has longer
grown : (has count : ℕ) (all more : List ℕ) → count ≤ length more → length all ≡ has → length (all ++ take count more) ≡ has + count
grown has count all more within is = length-append all (take count more) ∙ omega (arith, is, length-take-le count more within)

-- a sink that took all that was given has lost no more than before
pub kept_gives : (faults count : ℕ) (before now now' : Option (List ℕ)) (given more : List ℕ) → now' ≡ option_map (λ all. all ++ take count more) now → count ≡ length more → KeptUp faults 0 before now given → KeptUp faults 0 before now' (given ++ more)
kept_gives faults count None now now' given more took all was = λ _. tt
kept_gives faults count (Some had) None now' given more took all was = λ few. rw took tt
kept_gives faults count (Some had) (Some has) now' given more took all was = λ few. rw took (omega (arith, was few, length-append given more, all, grown (length has) count has more (omega (arith, all)) refl))

-- one that failed has lost no more than what was given, of which it has taken a part
pub kept_fails : (faults faults' count : ℕ) (before now now' : Option (List ℕ)) (given more : List ℕ) → now' ≡ option_map (λ all. all ++ take count more) now → count ≤ length more → length more ≤ 32768 → faults' ≡ min (faults + 1) (2 ^ 64 - 1) → KeptUp faults 0 before now given → KeptUp faults' 32768 before now' (given ++ more)
kept_fails faults faults' count None now now' given more took within short more_faults was = λ _. tt
kept_fails faults faults' count (Some had) None now' given more took within short more_faults was = λ few. rw took tt
kept_fails faults faults' count (Some had) (Some has) now' given more took within short more_faults was = λ few. rw took (omega (arith, was (omega (arith, few, more_faults)), few, more_faults, short, length-append given more, grown (length has) count has more within refl))

-- so many bytes more are lost
pub kept_drops : (faults : ℕ) (before now : Option (List ℕ)) (given more : List ℕ) → length more ≤ 32768 → KeptUp faults 32768 before now given → KeptUp faults 0 before now (given ++ more)
kept_drops faults None now given more short was = λ _. tt
kept_drops faults (Some had) None given more short was = λ _. tt
kept_drops faults (Some had) (Some has) given more short was = λ few. omega (arith, was few, length-append given more, short)

-- what it may lose it need not
pub kept_on : (faults : ℕ) (before now : Option (List ℕ)) (given : List ℕ) → KeptUp faults 32768 before now given → KeptUp faults 0 before now given
kept_on faults None now given was = λ _. tt
kept_on faults (Some had) None given was = λ _. tt
kept_on faults (Some had) (Some has) given was = λ few. omega (arith, was few)

-- a fault that costs nothing
pub kept_after : (faults faults' : ℕ) (before now now' : Option (List ℕ)) (given : List ℕ) → now' ≡ now → faults' ≡ min (faults + 1) (2 ^ 64 - 1) → KeptUp faults 0 before now given → KeptUp faults' 0 before now' given
kept_after faults faults' None now now' given same more_faults was = λ _. tt
kept_after faults faults' (Some had) None now' given same more_faults was = λ few. rw same tt
kept_after faults faults' (Some had) (Some has) now' given same more_faults was = λ few. rw same (omega (arith, was (omega (arith, few, more_faults)), few, more_faults))

-- of a count of faults that is no less it holds too
pub kept_more : (faults faults' : ℕ) (before now : Option (List ℕ)) (given : List ℕ) → faults ≤ faults' → KeptUp faults 0 before now given → KeptUp faults' 0 before now given
kept_more faults faults' None now given no_fewer was = λ _. tt
kept_more faults faults' (Some had) None given no_fewer was = λ _. tt
kept_more faults faults' (Some had) (Some has) given no_fewer was = λ few. omega (arith, was (omega (arith, few, no_fewer)), no_fewer)
