-- The words that give the command of a generated run.
use Rattle.std.specs.Prelude.{◌≡◌, ℕ, List, [], ◌∷◌, codes, Ok}
use Rattle.cmd_words.specs.declared.commands.Command.TheVariants.{Relay}
use Rattle.cmd_words.specs.{command}
use Rattle.socat_top.specs.Command.{load_command}

-- fifty peers are served, eight at a time, each by a connection of its own
abbrev pub load_words : List (List ℕ)
load_words = codes "TCP-LISTEN:1,fork,stop-after=50,max-children=8" ∷ codes "TCP:localhost:2" ∷ []

-- these words make the command of a generated run
abbrev pub CommandIsOfWords : Type 0
CommandIsOfWords = command load_words ≡ Ok (Relay load_command)
