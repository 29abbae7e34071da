-- What a run over the world of a number brought to its right places.
use Rattle.std.proofs.Common.{◌≡◌, ◌<◌, ◌≤◌, ℕ, true, ◌&&◌, nat_lt, List, [], ◌∷◌, ◌++◌, length, sum, Some, refl, sym, ap, subst, ◌∙◌, arith, length-append, inl, inr, ◌⊎◌, if◌then◌else◌}
use Rattle.std.proofs.lemmas.Bool.{lt-ltb}
use Rattle.std.proofs.lemmas.List.{same_from_push}
use Rattle.std.proofs.lemmas.List.Sums.{sum_by-append}
use Rattle.std.proofs.lemmas.Option.{same_Some}
use Rattle.relay_model.specs.declared.acts.Act.{Act}
use Rattle.relay_model.specs.declared.acts.Act.TheVariants.{Note}
use Rattle.relay_model.specs.declared.journals.Kept.{Kept}
use Rattle.relay_model.specs.declared.places.Way.TheVariants.{LeftToRight}
use Rattle.relay_model.specs.History.{got, put}
use Rattle.relay_model.specs.Journals.{Asking}
use Rattle.relay_model.specs.May.{BeginsWith, Legal}
use Rattle.relay_model.specs.Sessions.{admitted}
use Rattle.relay_laws.proofs.Written.{passed_whole, written_due}
use Rattle.relay_laws.proofs.Admissions.{admitted_bound}
use Rattle.relay_laws.proofs.PlaceLemmas.{same_place_self}
use Rattle.scripted_world.specs.declared.lines.PlacedItem.{PlacedItem}
use Rattle.scripted_world.specs.declared.reading.DueRead.{DueRead}
use Rattle.world_trait.specs.Recordings.{told_kept}
use Rattle.exit_status.specs.declared.outcomes.Outcome.{Outcome}
use Rattle.exit_status.specs.declared.outcomes.Outcome.TheVariants as outcomes
use Rattle.exit_status.specs.Outcomes.{IsOutcome}
use Rattle.session_driver.specs.Steps.{extend}
use Rattle.session_loop.specs.Headline.{RelayHeadline}
use Rattle.socat_top.specs.Command.{load_command, load_turns}
use Rattle.socat_top.specs.Left.{left_of}
use Rattle.socat_top.specs.Numbered.{GivesScripted, named, told_named}
use Rattle.socat_top.specs.Runs.{GeneratedRun}
use Rattle.socat_top.specs.Scripts.{left_place, right_place, scripted, session_bytes}
use Rattle.socat_top.specs.Stream.{first_state, stream}
use Rattle.socat_top.specs.Summaries.{summary_of}
use Rattle.socat_top.specs.Sums.{delivered, sessions_of, was_finished}
use Rattle.socat_top.specs.declared.summaries.Summary.{Summary}
use Rattle.socat_top.proofs.Finishing.{finished-passed, passed-met}
use Rattle.socat_top.proofs.SessionStreams.{sum-bytes_after, total-stream}
use Rattle.socat_top.proofs.StreamLemmas.{length-bytes_after}
use Rattle.socat_top.proofs.Totals.{Adds, count-most, count-most-all, delivered-total, total, total-le, total-same}

-- ---- one session

nil_right : (xs : List ℕ) → xs ++ [] ≡ xs
nil_right [] = refl
nil_right (x ∷ xs) = ap (λ ys. x ∷ ys) (nil_right xs)

scripted_here : (n s : ℕ) → s < 50 → scripted n (left_place s) ≡ session_bytes n s
scripted_here n s below =
    ap (λ b. if b && nat_lt s 50 then session_bytes n s else []) (same_place_self (left_place s))
    ∙ ap (λ b. if b then session_bytes n s else []) (lt-ltb s 50 below)

front_le : (f : List ℕ → ℕ) → Adds f → (front all : List ℕ) → BeginsWith front all → f front ≤ f all
front_le f adds front all (rest, e) = omega (arith, ap f e ∙ adds.both front rest)

-- a right place gets no more than its session is to carry
session-le : (f : List ℕ → ℕ) → Adds f → (n : ℕ) (acts : List Act) (reads : List (PlacedItem DueRead)) → Legal load_command load_turns acts → GivesScripted n acts reads → (s : ℕ) → s < 50 → f (put acts (right_place s)) ≤ f (session_bytes n s)
session-le f adds n acts reads legal gives s below =
    let written : f (put acts (right_place s)) ≤ f (got acts (left_place s)) = front_le f adds (put acts (right_place s)) (got acts (left_place s)) (written_due load_command load_turns acts s LeftToRight legal) in
    let read : f (got acts (left_place s)) ≤ f (scripted n (left_place s)) = front_le f adds (got acts (left_place s)) (scripted n (left_place s)) (left_of reads (left_place s), sym (gives.given (left_place s))) in
    let here : f (scripted n (left_place s)) ≡ f (session_bytes n s) = ap f (scripted_here n s below) in
    omega arith

-- that of a finished session gets all of it
session-whole : (n : ℕ) (acts : List Act) (reads : List (PlacedItem DueRead)) → Legal load_command load_turns acts → GivesScripted n acts reads → (s : ℕ) → s < 50 → was_finished acts s ≡ true → put acts (right_place s) ≡ session_bytes n s
session-whole n acts reads legal gives s below finished =
    let passed = finished-passed load_turns acts s legal finished in
    let none = gives.whole (left_place s) (passed-met load_turns acts s legal passed) in
    passed_whole load_command load_turns acts s LeftToRight legal passed
    ∙ sym (nil_right (got acts (left_place s)))
    ∙ ap (λ xs. got acts (left_place s) ++ xs) (sym none)
    ∙ gives.given (left_place s)
    ∙ scripted_here n s below

-- ---- all sessions

all_bytes : (f : List ℕ → ℕ) → Adds f → (n : ℕ) → total (λ s. f (session_bytes n s)) 50 ≡ f (stream n 3276800)
all_bytes f adds n = total-stream f adds 65536 (first_state n) 50

pub delivered-le : (f : List ℕ → ℕ) → Adds f → (n : ℕ) (acts : List Act) (reads : List (PlacedItem DueRead)) → Legal load_command load_turns acts → GivesScripted n acts reads → f (delivered acts) ≤ f (stream n 3276800)
delivered-le f adds n acts reads legal gives =
    let all = delivered-total f adds load_turns acts legal in
    let most = total-le (λ s. f (put acts (right_place s))) (λ s. f (session_bytes n s)) 50 (session-le f adds n acts reads legal gives) in
    omega (arith, all, most, all_bytes f adds n)

begun_few : (acts : List Act) → Legal load_command load_turns acts → admitted load_command acts ≤ 50
begun_few acts legal = admitted_bound load_command load_turns acts legal

pub delivered-whole : (f : List ℕ → ℕ) → Adds f → (n : ℕ) (acts : List Act) (reads : List (PlacedItem DueRead)) → Legal load_command load_turns acts → GivesScripted n acts reads → sessions_of acts ≡ 50 → f (delivered acts) ≡ f (stream n 3276800)
delivered-whole f adds n acts reads legal gives e =
    sym (delivered-total f adds load_turns acts legal)
    ∙ total-same (λ s. f (put acts (right_place s))) (λ s. f (session_bytes n s)) 50 (λ s below. ap f (session-whole n acts reads legal gives s below (count-most-all (was_finished acts) (admitted load_command acts) 50 (begun_few acts legal) e s below)))
    ∙ all_bytes f adds n

adds-length : Adds (λ xs. length xs)
adds-length = record { none = refl; both = λ xs ys. length-append xs ys }

adds-sum : Adds (λ xs. sum xs)
adds-sum = record { none = refl; both = λ xs ys. sum_by-append (λ x. x) xs ys }

length-stream : (n : ℕ) → length (stream n 3276800) ≡ 3276800
length-stream n = length-bytes_after 3276800 (first_state n)

-- ---- the world is still the one of its number

same_note : (n n' : ℕ) → Note (n' ∷ []) ≡ Note (n ∷ []) → n' ≡ n
same_note n n' e = cc

pub same_world : (n n' : ℕ) (kept : Kept) (acts : List Act) (asked : List Asking) → told_named n' (told_kept kept) ≡ Some (extend acts asked (named n (record { acts = []; asked = [] }))) → (kept.journal.acts ≡ acts) × (n' ≡ n)
same_world n n' kept acts asked e =
    let told : kept.journal.acts ++ Note (n' ∷ []) ∷ [] ≡ acts ++ Note (n ∷ []) ∷ [] = ap (λ h. h.acts) (same_Some (named n' (record { acts = kept.journal.acts; asked = kept.asked.pairs })) (extend acts asked (named n (record { acts = []; asked = [] }))) e) in
    let parts = same_from_push kept.journal.acts acts (Note (n' ∷ [])) (Note (n ∷ [])) told in
    (parts.0, same_note n n' parts.1)

-- ---- the whole run

-- the acts of the run are those that the world kept
legal_acts : (n n' : ℕ) (kept : Kept) (answer : Outcome) (headline : RelayHeadline load_command load_turns (named n (record { acts = []; asked = [] })) (told_named n' (told_kept kept)) answer) → (kept.journal.acts ≡ headline.acts) × (n' ≡ n)
legal_acts n n' kept answer headline = same_world n n' kept headline.acts headline.asked headline.told_is

-- few enough that they can be counted
pub few_bytes : (n n' : ℕ) (kept : Kept) (reads : List (PlacedItem DueRead)) (answer : Outcome) → RelayHeadline load_command load_turns (named n (record { acts = []; asked = [] })) (told_named n' (told_kept kept)) answer → GivesScripted n' kept.journal.acts reads → (length (delivered kept.journal.acts) ≤ 3276800) × (sum (delivered kept.journal.acts) ≤ 835584000)
few_bytes n n' kept reads answer headline gives =
    let same = legal_acts n n' kept answer headline in
    let legal = subst (Legal load_command load_turns) (sym same.0) headline.legal in
    let bytes = delivered-le (λ xs. length xs) adds-length n' kept.journal.acts reads legal gives in
    let sums = delivered-le (λ xs. sum xs) adds-sum n' kept.journal.acts reads legal gives in
    (omega (arith, bytes, length-stream n'), omega (arith, sums, sum-bytes_after 3276800 (first_state n')))

pub generated : (n n' : ℕ) (kept : Kept) (reads : List (PlacedItem DueRead)) (answer : Outcome) (summary : Summary) → RelayHeadline load_command load_turns (named n (record { acts = []; asked = [] })) (told_named n' (told_kept kept)) answer → (answer ≡ outcomes.Memory → ⊥) → GivesScripted n' kept.journal.acts reads → summary ≡ summary_of n kept.journal.acts → GeneratedRun n summary
generated n n' kept reads answer summary headline remembered gives e =
    let same = legal_acts n n' kept answer headline in
    let acts = headline.acts in
    let here : GivesScripted n acts reads = subst (λ m. GivesScripted m acts reads) same.1 (subst (λ xs. GivesScripted n' xs reads) same.0 gives) in
    let is : summary ≡ summary_of n acts = e ∙ ap (summary_of n) same.0 in
    record {
      acts = acts;
      answer = answer;
      legal = headline.legal;
      free = headline.free;
      answer_is = ended headline.outcome_is;
      remembered = remembered;
      given = λ p. (left_of reads p, sym (here.given p));
      summary_is = is;
      few = rw is (count-most (was_finished acts) (admitted load_command acts) 50 (begun_few acts headline.legal));
      whole_bytes = λ all. ap (λ s. s.bytes) is ∙ delivered-whole (λ xs. length xs) adds-length n acts reads headline.legal here (sym (ap (λ s. s.sessions) is) ∙ all) ∙ length-stream n;
      whole_sum = λ all. ap (λ s. s.sum) is ∙ delivered-whole (λ xs. sum xs) adds-sum n acts reads headline.legal here (sym (ap (λ s. s.sessions) is) ∙ all);
    }
  where
    ended : IsOutcome load_command load_turns headline.acts answer ⊎ (answer ≡ outcomes.Memory) → IsOutcome load_command load_turns headline.acts answer
    ended (inl is) = is
    ended (inr lacking) = absurd (remembered lacking)
