-- The requests of SOCKS4 and SOCKS4A, by the pages of their authors.
use Rattle.std.specs.Prelude.{ℕ, ◌/◌, ◌%◌, List, [], ◌∷◌, ◌++◌}

-- a port, the high byte first
abbrev pub port_bytes : ℕ → List ℕ
port_bytes port = port / 256 ∷ port % 256 ∷ []

-- version 4, the command to connect, the port, the address, and the user's bytes with a 0 behind them
abbrev pub socks4 : List ℕ → ℕ → List ℕ → List ℕ
socks4 addr port user = 4 ∷ 1 ∷ (port_bytes port ++ addr ++ user ++ 0 ∷ [])

-- the address 0.0.0.1, and behind the user the host's name with a 0 behind it
abbrev pub socks4a : List ℕ → ℕ → List ℕ → List ℕ
socks4a host port user = socks4 (0 ∷ 0 ∷ 0 ∷ 1 ∷ []) port user ++ host ++ 0 ∷ []
