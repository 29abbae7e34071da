-- The request to an HTTP proxy.
use Rattle.std.specs.Prelude.{ℕ, List, [], ◌∷◌, ◌++◌, codes, decimal}

-- the end of a line, a carriage return and a line feed
abbrev pub line_end : List ℕ
line_end = 13 ∷ 10 ∷ []

-- the request line with the host, a colon (58) and the port in decimal, and an empty line behind it
abbrev pub connect_request : List ℕ → ℕ → List ℕ
connect_request host port = codes "CONNECT " ++ host ++ 58 ∷ (decimal port ++ codes " HTTP/1.0" ++ line_end ++ line_end)
