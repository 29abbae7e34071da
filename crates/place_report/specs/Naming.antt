-- What a line on the kind of an address has to name: each of its parameters, in order.
use Rattle.std.specs.Prelude.{◌≡◌, ℕ, List, [], ◌∷◌, ◌++◌, map, decimal}
use Rattle.relay_model.specs.{Target}
use Rattle.relay_model.specs.declared.commands.Target.TheVariants as targets
use Rattle.place_report.specs.Shown.{quoted}

-- these pieces stand in the text, one behind the other
abbrev pub Names : List (List ℕ) → List ℕ → Type 0
Names [] text = Unit {0}
Names (piece ∷ pieces) text = (before : List ℕ) × (after : List ℕ) × (text ≡ before ++ (piece ++ after)) × Names pieces after

-- a text grew by one that has these pieces
pub record Adds (pieces : List (List ℕ)) (old new : List ℕ) : Type 0 where
  pub added : List ℕ
  pub grew : new ≡ old ++ added
  pub named : Names pieces added

-- the parameters of a kind, as they are told: names between quotes, and ports
abbrev pub parameters : Target → List (List ℕ)
parameters targets.Stdio = []
parameters targets.Stdin = []
parameters targets.Stdout = []
parameters targets.Stderr = []
parameters (targets.Create name) = quoted name ∷ []
parameters (targets.FileAt name) = quoted name ∷ []
parameters (targets.GenericOpen name) = quoted name ∷ []
parameters targets.Echo = []
parameters (targets.NamedPipe name) = quoted name ∷ []
parameters (targets.Tcp family host port) = quoted host ∷ decimal port ∷ []
parameters (targets.TcpListen family port) = decimal port ∷ []
parameters (targets.Udp family host port) = quoted host ∷ decimal port ∷ []
parameters (targets.UdpListen family port) = decimal port ∷ []
parameters (targets.UdpRecvfrom family port) = decimal port ∷ []
parameters (targets.UdpRecv family port) = decimal port ∷ []
parameters (targets.UdpSendto family host port) = quoted host ∷ decimal port ∷ []
parameters (targets.UnixConnect name) = quoted name ∷ []
parameters (targets.UnixListen name) = quoted name ∷ []
parameters (targets.Exec words) = map quoted words
parameters (targets.System command) = quoted command ∷ []
parameters (targets.Socks named server host port) = quoted server ∷ quoted host ∷ decimal port ∷ []
parameters (targets.Proxy server host port) = quoted server ∷ quoted host ∷ decimal port ∷ []
