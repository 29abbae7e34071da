-- Which addresses run programs, and why one was not started.
use Rattle.std.specs.Prelude.{◌≡◌, ℕ, Bool, true, false, List, [], ◌∷◌, ◌++◌, Option, option_map, slice_get, IsSomeAnd, IsUtf8}
use Rattle.std.specs.declared.alloc.Global.{Global}
use Rattle.std.specs.declared.process.command.Command.{Command}
use Rattle.relay_model.specs.{Peer, Target}
use Rattle.relay_model.specs.declared.commands.Target.TheVariants as targets
use Rattle.port_trait.specs.{Making}
use Rattle.port_trait.specs.declared.makers.Making.TheVariants as makings
use Rattle.child_ports.specs.Commands.{IsCommandOf, words_of}

-- the address runs a program or a shell
abbrev pub runs_program : Target → Bool
runs_program (targets.Exec words) = true
runs_program (targets.System text) = true
runs_program _ = false

-- these words name no program: there is none, or one isn't UTF-8
pub data IsWordless (words : List (List ℕ)) : Type 0 where
  none : words ≡ [] → IsWordless words
  unreadable : (i : ℕ) → IsSomeAnd (slice_get words i) (λ word. ¬ (IsUtf8 word)) → IsWordless words

-- no program was started: its words name none, or the system has no pipe, can't report one, or refuses the command of
-- the address
pub data IsUnstarted (refuses : Command Global → Type 0) (lacks_pipes reports_none : Type 0) (target : Target) (peer : Option Peer) : Type 0 where
  wordless : IsWordless (words_of target) → IsUnstarted refuses lacks_pipes reports_none target peer
  unpiped : lacks_pipes → IsUnstarted refuses lacks_pipes reports_none target peer
  unreported : reports_none → IsUnstarted refuses lacks_pipes reports_none target peer
  refused : (command : Command Global) → IsCommandOf target peer command → refuses command → IsUnstarted refuses lacks_pipes reports_none target peer

-- one program more was started, by the command of the address
abbrev pub StartsOne : Target → Option Peer → Option (List (Command Global)) → Option (List (Command Global)) → Type 0
StartsOne target peer before now = (command : Command Global) × IsCommandOf target peer command × (now ≡ option_map (λ all. all ++ command ∷ []) before)

-- an opening starts one where it makes a port, and else none
abbrev pub Starts : {T : Type 0} → Target → Option Peer → Making T → Option (List (Command Global)) → Option (List (Command Global)) → Type 0
Starts target peer (makings.Made port) before now = StartsOne target peer before now
Starts target peer (makings.Later port) before now = ⊥
Starts target peer makings.Failed before now = now ≡ before
Starts target peer makings.Memory before now = now ≡ before
