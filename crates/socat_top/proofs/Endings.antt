-- Runs that end for want of memory.
use Rattle.std.proofs.Common.{◌≡◌, ℕ, List, [], ◌∷◌, ◌++◌, Option, Some, refl, ap, subst, sym, ◌∙◌, inl, inr, ◌⊎◌}
use Rattle.relay_model.specs.declared.commands.Config.{Config}
use Rattle.relay_model.specs.Journals.{History}
use Rattle.exit_status.specs.declared.outcomes.Outcome.{Outcome}
use Rattle.exit_status.specs.declared.outcomes.Outcome.TheVariants as outcomes
use Rattle.exit_status.specs.Lines.{line}
use Rattle.session_driver.specs.Steps.{extend}
use Rattle.session_loop.specs.Headline as relayed
use Rattle.session_loop.specs.Headline.{is_relayed}
use Rattle.exit_status.specs.Outcomes.{IsOutcome}
use Rattle.relay_model.specs.declared.acts.Act.{Act}
use Rattle.socat_top.specs.Notes.{Said, Tail}
use Rattle.socat_top.specs.Tasks.{WordsTask, Relaying, Telling, Loading, Refusing, Unread}
use Rattle.socat_top.specs.Headline.{Headline, Leaves, Answers, CompletesTask}

pub either : {A : Type 0} → A ⊎ A → A
either (inl a) = a
either (inr a) = a

-- the line of want of memory was said, or not
pub memory_tail : (text : List ℕ) (answer : Outcome) (told told' : Option History) → text ≡ line outcomes.Memory → ((answer ≡ outcomes.Memory) × Said text told told') ⊎ ((answer ≡ outcomes.Memory) × (told' ≡ told)) → Tail answer told told'
memory_tail text answer told told' e (inl (a, said)) =
    let P : List ℕ → Type 0 = λ t. Said t told told' in
    let Q : Outcome → Type 0 = λ x. Said (line x) told told' in
    inl (subst Q (sym a) (subst P e said))
memory_tail text answer told told' e (inr same) = inr same

nil_right : {A : Type 0} (xs : List A) → xs ++ [] ≡ xs
nil_right [] = refl
nil_right (x ∷ xs) = ap (λ ys. x ∷ ys) (nil_right xs)

extended : (before : History) → before ≡ extend [] [] before
extended before = ap (λ pairs. record { acts = before.acts; asked = pairs }) (sym (nil_right before.asked))

-- whatever was asked for, want of memory may come before anything was done
pub lacking : (task : WordsTask) (n : ℕ) (before : History) (told told' : Option History) (answer : Outcome) → answer ≡ outcomes.Memory → told ≡ Some before → Tail answer told told' → Leaves task n before told' answer
lacking (Relaying c) n before told told' answer e from tail =
    let P : Option History → Type 0 = λ t. Tail answer t told' in
    record {
      acts = [];
      asked = [];
      tail = subst P (from ∙ ap Some (extended before)) tail;
      legal = tt;
      free = λ p. refl;
      answer_is = inr e;
      own = tt;
    }
lacking (Telling text) n before told told' answer e from tail = let P : Option History → Type 0 = λ t. Tail answer t told' in inr (e, subst P from tail)
lacking (Loading number) n before told told' answer e from tail = let P : Option History → Type 0 = λ t. Tail answer t told' in inr (e, subst P from tail)
lacking (Refusing refused) n before told told' answer e from tail = let P : Option History → Type 0 = λ t. Tail answer t told' in subst P from tail
lacking Unread n before told told' answer e from tail = let P : Option History → Type 0 = λ t. Tail answer t told' in subst P from tail

pub lacking_answers : (task : WordsTask) (answer : Outcome) → answer ≡ outcomes.Memory → Answers task answer
lacking_answers (Relaying c) answer e = ap is_relayed e
lacking_answers (Telling text) answer e = inr e
lacking_answers (Loading number) answer e = inr e
lacking_answers (Refusing refused) answer e = inr e
lacking_answers Unread answer e = e

-- the answer that is given is that of the relay, or want of memory
given : (c : Config) (n : ℕ) (acts : List Act) (answer given_answer : Outcome) → IsOutcome c n acts answer ⊎ (answer ≡ outcomes.Memory) → (given_answer ≡ answer) ⊎ (given_answer ≡ outcomes.Memory) → IsOutcome c n acts given_answer ⊎ (given_answer ≡ outcomes.Memory)
given c n acts answer given_answer a (inl e) = let P : Outcome → Type 0 = λ x. IsOutcome c n acts x ⊎ (x ≡ outcomes.Memory) in subst P (sym e) a
given c n acts answer given_answer a (inr e) = inr e

-- after the relay its line was said
pub concluded : (c : Config) (n : ℕ) (before : History) (told told' : Option History) (answer given_answer : Outcome) → relayed.RelayHeadline c n before told answer → Tail given_answer told told' → (given_answer ≡ answer) ⊎ (given_answer ≡ outcomes.Memory) → Headline c n before told' given_answer
concluded c n before told told' answer given_answer h tail same =
    let P : Option History → Type 0 = λ t. Tail given_answer t told' in
    record {
      acts = h.acts;
      asked = h.asked;
      tail = subst P h.told_is tail;
      legal = h.legal;
      free = h.free;
      answer_is = given c n h.acts answer given_answer h.outcome_is same;
      own = h.own;
    }

pub lacking_completes : (task : WordsTask) (n f f' w w' s s' : ℕ) (answer : Outcome) → answer ≡ outcomes.Memory → CompletesTask task n f f' w w' s s' answer
lacking_completes (Relaying c) n f f' w w' s s' answer e = λ calm left quiet. ap relayed.is_undisturbed e
lacking_completes (Telling text) n f f' w w' s s' answer e = tt
lacking_completes (Loading number) n f f' w w' s s' answer e = tt
lacking_completes (Refusing refused) n f f' w w' s s' answer e = tt
lacking_completes Unread n f f' w w' s s' answer e = tt
