-- What the standard streams passed at the ends of a relay's directions.
use Rattle.std.proofs.Common.{◌≡◌, ℕ, Bool, List, [], ◌∷◌, ◌++◌, Option, None, Some, IfSome, refl, sym, ap, subst, inl, inr}
use Rattle.relay_model.specs.declared.acts.Act.{Act}
use Rattle.relay_model.specs.declared.acts.Act.TheVariants.{Note, NoteFault}
use Rattle.relay_model.specs.declared.commands.Config.{Config}
use Rattle.relay_model.specs.Configs.{single}
use Rattle.relay_model.specs.Journals.{Asking, History}
use Rattle.relay_model.specs.May.{Legal}
use Rattle.exit_status.specs.declared.outcomes.Outcome.{Outcome}
use Rattle.exit_status.specs.Lines.{line}
use Rattle.session_loop.specs.Courses.{OnlyOwn}
use Rattle.port_desk.specs.Following.{AllOwn, AreElsewhere, Passed, PassedBy}
use Rattle.socat_top.specs.Ends.{StandardEnds}
use Rattle.socat_top.proofs.CallLemmas.{elsewhere}
use Rattle.socat_top.proofs.EndLemmas.{ends, fault_ends, note_ends}
use Rattle.socat_top.specs.Notes.{Said, Tail}
use Rattle.socat_top.specs.Tasks.{WordsTask, Relaying, Telling, Loading, Refusing, Unread}
use Rattle.socat_top.specs.Headline.{Leaves, TaskEnds}

-- nothing was done and nothing was asked for
abbrev pub nothing : History
nothing = record { acts = []; asked = [] }

-- what is told as one history is told as no other
pub acts_of : (one other : History) → Some one ≡ Some other → other.acts ≡ one.acts
acts_of one other e = cc

own_all : (c : Config) (asked : List Asking) → OnlyOwn c asked → AllOwn (single c) asked
own_all c [] own = tt
own_all c (asking ∷ more) own = (own.1, own_all c more own.2)

nil_right : {A : Type 0} (xs : List A) → xs ++ [] ≡ xs
nil_right [] = refl
nil_right (x ∷ xs) = ap (λ ys. x ∷ ys) (nil_right xs)

-- by what passed, each end is as the acts say
by_passed : (c : Config) (n : ℕ) (acts : List Act) (gave took : Option (List ℕ)) (over : Bool) → Legal c n acts → (AreElsewhere (single c) acts → PassedBy (single c) acts gave took None over) → StandardEnds c acts gave took over
by_passed c n acts gave took over legal passed = ends c n acts gave took None over legal (λ alone. passed (elsewhere c n acts alone legal))

-- a history that ends with the acts of a relay, or with a note behind them
abbrev EndsWith : Config → Option History → Option (List ℕ) → Option (List ℕ) → Option (List ℕ) → Bool → Type 0
EndsWith c told gave took said over = IfSome told (λ h. Passed h gave took said over → StandardEnds c h.acts gave took over)

unsaid : (c : Config) (n : ℕ) (acts : List Act) (asked : List Asking) (gave took said : Option (List ℕ)) (over : Bool) → Legal c n acts → OnlyOwn c asked → Passed (record { acts = acts; asked = asked }) gave took said over → StandardEnds c acts gave took over
unsaid c n acts asked gave took said over legal own passed =
    by_passed c n acts gave took over legal (λ apart. let by = passed (single c) (own_all c asked own) apart in record { given = by.given; taken = by.taken; told = λ _. tt; over = by.over })

noted : (c : Config) (n : ℕ) (text : List ℕ) (acts : List Act) (asked : List Asking) (gave took said : Option (List ℕ)) (over : Bool) → Legal c n acts → OnlyOwn c asked → Passed (record { acts = Note text ∷ acts; asked = asked }) gave took said over → StandardEnds c (Note text ∷ acts) gave took over
noted c n text acts asked gave took said over legal own passed =
    note_ends c text acts gave took over
    (by_passed c n acts gave took over legal (λ apart. let by = passed (single c) (own_all c asked own) (tt, apart) in record { given = by.given; taken = by.taken; told = λ _. tt; over = by.over }))

failed : (c : Config) (n : ℕ) (text : List ℕ) (acts : List Act) (asked : List Asking) (gave took said : Option (List ℕ)) (over : Bool) → Legal c n acts → OnlyOwn c asked → Passed (record { acts = NoteFault text ∷ acts; asked = asked }) gave took said over → StandardEnds c (NoteFault text ∷ acts) gave took over
failed c n text acts asked gave took said over legal own passed =
    fault_ends c text acts gave took over
    (by_passed c n acts gave took over legal (λ apart. let by = passed (single c) (own_all c asked own) (tt, apart) in record { given = by.given; taken = by.taken; told = λ _. tt; over = by.over }))

said_ends : (c : Config) (n : ℕ) (text : List ℕ) (acts : List Act) (asked : List Asking) (told : Option History) (gave took said : Option (List ℕ)) (over : Bool) → Legal c n acts → OnlyOwn c asked → Said text (Some (record { acts = acts; asked = asked })) told → EndsWith c told gave took said over
said_ends c n [] acts asked told gave took said over legal own same = subst (λ slot. EndsWith c slot gave took said over) (sym same) (unsaid c n acts asked gave took said over legal own)
said_ends c n (b ∷ text) acts asked told gave took said over legal own (inl same) = subst (λ slot. EndsWith c slot gave took said over) (sym same) (noted c n (b ∷ text) acts asked gave took said over legal own)
said_ends c n (b ∷ text) acts asked told gave took said over legal own (inr same) = subst (λ slot. EndsWith c slot gave took said over) (sym same) (failed c n (b ∷ text) acts asked gave took said over legal own)

tail_ends : (c : Config) (n : ℕ) (answer : Outcome) (acts : List Act) (asked : List Asking) (told : Option History) (gave took said : Option (List ℕ)) (over : Bool) → Legal c n acts → OnlyOwn c asked → Tail answer (Some (record { acts = acts; asked = asked })) told → EndsWith c told gave took said over
tail_ends c n answer acts asked told gave took said over legal own (inl line_said) = said_ends c n (line answer) acts asked told gave took said over legal own line_said
tail_ends c n answer acts asked told gave took said over legal own (inr lacking) = subst (λ slot. EndsWith c slot gave took said over) (sym lacking.1) (unsaid c n acts asked gave took said over legal own)

pub task_ends : (task : WordsTask) (n : ℕ) (history : History) (answer : Outcome) (gave took said : Option (List ℕ)) (over : Bool) → Leaves task n nothing (Some history) answer → Passed history gave took said over → TaskEnds task history.acts gave took over
task_ends (Relaying c) n history answer gave took said over leaves =
    let legal : Legal c n (leaves.acts ++ []) = subst (Legal c n) (sym (nil_right leaves.acts)) leaves.legal in
    tail_ends c n answer (leaves.acts ++ []) leaves.asked (Some history) gave took said over legal leaves.own leaves.tail
task_ends (Telling text) n history answer gave took said over leaves = λ _. tt
task_ends (Loading number) n history answer gave took said over leaves = λ _. tt
task_ends (Refusing refused) n history answer gave took said over leaves = λ _. tt
task_ends Unread n history answer gave took said over leaves = λ _. tt
