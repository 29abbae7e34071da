-- Words that are taken one after another.
use Rattle.std.proofs.Common.{◌≡◌, ℕ, ◌+◌, List, [], ◌∷◌, ◌++◌, take, refl, ap, sym, subst, ◌∙◌}
use Rattle.std.specs.Prelude.{Option, None, Some, slice_get, codes, IsSomeAnd, IsUtf8, MatchOption}
use Rattle.std.specs.declared.process.command.Command.{Command}
use Rattle.std.specs.Process.{command_program, command_args, SameProgramAndArgs, SameEnv}
use Rattle.child_ports.specs.Commands.{RunsWords, RunsProgram, TellsTexts, AddsArgument, shell_words}
use Rattle.child_ports.specs.Programs.{IsWordless, unreadable}
use Rattle.std.proofs.lemmas.Option.{slice_get_within, get_or_from_slice_get}
use Rattle.std.proofs.lemmas.List.{take_more}

-- one word more
pub take_next : {A : Type 0} (xs : List A) (i : ℕ) (x : A) → slice_get xs i ≡ Some x → take (i + 1) xs ≡ take i xs ++ x ∷ []
take_next xs i x at = take_more xs i x (slice_get_within xs i x at) ∙ ap (λ y. take i xs ++ y ∷ []) (get_or_from_slice_get xs i x x at)

-- a command that runs the first words runs one more after it got that as an argument
pub runs_more : {A : Type 0} (words : List (List ℕ)) (i : ℕ) (before now : Command A) (word : List ℕ) → RunsWords (take i words) before → slice_get words i ≡ Some word → AddsArgument before now word → RunsWords (take (i + 1) words) now
runs_more words i before now word runs at adds =
    let grown : command_program now ∷ command_args now ≡ command_program before ∷ (command_args before ++ word ∷ []) = cc (adds.program, adds.arguments) in
    record {
      call = grown ∙ ap (λ front. front ++ word ∷ []) runs.call ∙ sym (take_next words i word at);
      inherits = adds.environment.0 ∙ runs.inherits;
      silent = λ name. adds.environment.1 name ∙ runs.silent name;
    }

-- what was silent before says these texts alone
pub told_after : {A : Type 0} (texts : Option (Option (List ℕ × List ℕ))) (words : List (List ℕ)) (before now : Command A) → TellsTexts texts before now → RunsWords words before → RunsProgram words texts now
told_after None words before now tells runs =
    let same : command_program now ∷ command_args now ≡ command_program before ∷ command_args before = cc (tells.0.0, tells.0.1) in
    record {
      call = same ∙ runs.call;
      inherits = tells.1.0 ∙ runs.inherits;
      told = λ name. tells.1.1 name ∙ runs.silent name;
    }
told_after (Some texts) words before now tells runs =
    let same : command_program now ∷ command_args now ≡ command_program before ∷ command_args before = cc (tells.call.0, tells.call.1) in
    record {
      call = same ∙ runs.call;
      inherits = tells.inherits ∙ runs.inherits;
      told = record {
        told_address = tells.told_address;
        told_port = tells.told_port;
        silent = λ name other another. tells.others name other another ∙ runs.silent name;
      };
    }

-- what keeps the call and the environment runs the same
pub runs_on : {A : Type 0} (words : List (List ℕ)) (texts : Option (Option (List ℕ × List ℕ))) (before now : Command A) → RunsProgram words texts before → SameProgramAndArgs before now → SameEnv before now → RunsProgram words texts now
runs_on words None before now runs same environment =
    let grown : command_program now ∷ command_args now ≡ command_program before ∷ command_args before = cc (same.0, same.1) in
    record {
      call = grown ∙ runs.call;
      inherits = environment.0 ∙ runs.inherits;
      told = λ name. environment.1 name ∙ runs.told name;
    }
runs_on words (Some texts) before now runs same environment =
    let grown : command_program now ∷ command_args now ≡ command_program before ∷ command_args before = cc (same.0, same.1) in
    record {
      call = grown ∙ runs.call;
      inherits = environment.0 ∙ runs.inherits;
      told = record {
        told_address = environment.1 (codes "SOCAT_PEERADDR") ∙ runs.told.told_address;
        told_port = environment.1 (codes "SOCAT_PEERPORT") ∙ runs.told.told_port;
        silent = λ name other another. environment.1 name ∙ runs.told.silent name other another;
      };
    }

-- a word that isn't UTF-8
pub unreadable_at : (words : List (List ℕ)) (i : ℕ) (word bytes : List ℕ) → slice_get words i ≡ Some word → bytes ≡ word → ¬ (IsUtf8 bytes) → IsWordless words
unreadable_at words i word bytes at same bad = unreadable i (subst (λ found. IsSomeAnd found (λ w. ¬ (IsUtf8 w))) (sym at) (subst (λ w. ¬ (IsUtf8 w)) same bad))

-- the text of a shell that isn't UTF-8
pub unreadable_text : (text bytes : List ℕ) → bytes ≡ text → ¬ (IsUtf8 bytes) → IsWordless (shell_words text)
unreadable_text text bytes same bad = unreadable_at (shell_words text) 2 text bytes refl same bad

-- there is no command
pub no_command : {C : Type 0} (found : Option C) (words : List (List ℕ)) (P : C → Type 0) → found ≡ None → MatchOption found (IsWordless words) P → IsWordless words
no_command None words P is wordless = wordless
no_command (Some command) words P is made = let x : ⊥ = cc in absurd x

-- there is this command
pub some_command : {C : Type 0} (found : Option C) (command : C) (Q : Type 0) (P : C → Type 0) → found ≡ Some command → MatchOption found Q P → P command
some_command found command Q P is made = subst (λ those. MatchOption those Q P) is made
