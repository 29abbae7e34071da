-- What a command runs, and what it tells the program.
use Rattle.std.specs.Prelude.{◌≡◌, ◌≢◌, ℕ, List, [], ◌∷◌, ◌++◌, false, Option, None, Some, codes, decimal, option_map}
use Rattle.std.specs.declared.process.command.Command.{Command}
use Rattle.std.specs.Process.{command_program, command_args, command_var, clears_env, SameProgramAndArgs, SameEnv}
use Rattle.std.specs.Net.Addr.{segments_of}
use Rattle.std.specs.Net.Text.{ipv4_text, ipv6_text}
use Rattle.relay_model.specs.{Peer, Target}
use Rattle.relay_model.specs.declared.acts.Peer.TheVariants as peers
use Rattle.relay_model.specs.declared.commands.Target.TheVariants as targets

-- it runs the first of the words with the others as its arguments, and says nothing of the environment
pub record RunsWords {A : Type 0} (words : List (List ℕ)) (command : Command A) : Type 0 where
  pub call : command_program command ∷ command_args command ≡ words
  pub inherits : clears_env command ≡ false
  pub silent : (name : List ℕ) → command_var command name ≡ None

-- the words that run this text in a shell
abbrev pub shell_words : List ℕ → List (List ℕ)
shell_words text = codes "/bin/sh" ∷ codes "-c" ∷ text ∷ []

-- the words that an address runs: its own, and the shell with its text
abbrev pub words_of : Target → List (List ℕ)
words_of (targets.Exec words) = words
words_of (targets.System text) = shell_words text
words_of _ = []

-- one argument more, and nothing else
pub record AddsArgument {A : Type 0} (before now : Command A) (argument : List ℕ) : Type 0 where
  pub program : command_program now ≡ command_program before
  pub arguments : command_args now ≡ command_args before ++ argument ∷ []
  pub environment : SameEnv before now

-- the texts of a peer's address and port, where it has them
abbrev pub peer_texts : Peer → Option (List ℕ × List ℕ)
peer_texts (peers.V4 addr port) = Some (ipv4_text addr, decimal port)
peer_texts (peers.V6 addr port) = Some (codes "[" ++ ipv6_text (segments_of addr) ++ codes "]", decimal port)
peer_texts peers.Local = None

-- what a program is told of its peer, where there is one: the texts that it has, or that it has none
abbrev pub told_texts : Option Peer → Option (Option (List ℕ × List ℕ))
told_texts None = None
told_texts (Some peer) = Some (peer_texts peer)

-- the two variables are these texts, or are unset where there are none; all others and what it runs stay
pub record SetsTexts {A : Type 0} (before now : Command A) (texts : Option (List ℕ × List ℕ)) : Type 0 where
  pub call : SameProgramAndArgs before now
  pub inherits : clears_env now ≡ clears_env before
  pub told_address : command_var now (codes "SOCAT_PEERADDR") ≡ Some (option_map (λ pair. pair.0) texts)
  pub told_port : command_var now (codes "SOCAT_PEERPORT") ≡ Some (option_map (λ pair. pair.1) texts)
  pub others : (name : List ℕ) → name ≢ codes "SOCAT_PEERADDR" → name ≢ codes "SOCAT_PEERPORT" → command_var now name ≡ command_var before name

-- the same, where there is a peer
abbrev pub TellsTexts : {A : Type 0} → Option (Option (List ℕ × List ℕ)) → Command A → Command A → Type 0
TellsTexts None before now = SameProgramAndArgs before now × SameEnv before now
TellsTexts (Some texts) before now = SetsTexts before now texts

-- it sets the two variables to these texts, or unsets them, and says nothing of others
pub record SaysTexts {A : Type 0} (command : Command A) (texts : Option (List ℕ × List ℕ)) : Type 0 where
  pub told_address : command_var command (codes "SOCAT_PEERADDR") ≡ Some (option_map (λ pair. pair.0) texts)
  pub told_port : command_var command (codes "SOCAT_PEERPORT") ≡ Some (option_map (λ pair. pair.1) texts)
  pub silent : (name : List ℕ) → name ≢ codes "SOCAT_PEERADDR" → name ≢ codes "SOCAT_PEERPORT" → command_var command name ≡ None

-- the same, where there is a peer, and else nothing
abbrev pub Says : {A : Type 0} → Option (Option (List ℕ × List ℕ)) → Command A → Type 0
Says None command = (name : List ℕ) → command_var command name ≡ None
Says (Some texts) command = SaysTexts command texts

-- it runs these words in this process's environment, and tells these texts besides
pub record RunsProgram {A : Type 0} (words : List (List ℕ)) (texts : Option (Option (List ℕ × List ℕ))) (command : Command A) : Type 0 where
  pub call : command_program command ∷ command_args command ≡ words
  pub inherits : clears_env command ≡ false
  pub told : Says texts command

-- the command runs the words of the address, and tells the program of its peer
abbrev pub IsCommandOf : {A : Type 0} → Target → Option Peer → Command A → Type 0
IsCommandOf target peer command = RunsProgram (words_of target) (told_texts peer) command
