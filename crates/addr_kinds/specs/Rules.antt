-- How the parameters of addresses are written.
use Rattle.std.specs.Prelude.{ℕ, Bool, true, not, ◌&&◌, ◌==◌, nat_le, List, length, filter, slice_index, Option, is_some, if◌then◌else◌}
use Rattle.std.specs.List.{list_any, list_all, slice_split}
use Rattle.std.specs.Str.{byte}
use Rattle.relay_model.specs.{Family}
use Rattle.relay_model.specs.declared.commands.Family.TheVariants.{Any, V4, V6}
use Rattle.option_table.specs.{◌>>=◌, only_if, in_brackets, short_number, ipv4_of, ipv6_of}
use Rattle.addr_grammar.specs.{is_empty}

-- a file name, a host or a command has at least one byte, and no byte 0, which ends a text for the system
abbrev pub is_name : List ℕ → Bool
is_name text = not (is_empty text) && not (list_any (λ c. c == 0) text)

-- the host begins with a square bracket
abbrev pub is_bracketed : List ℕ → Bool
is_bracketed host = slice_index host 0 == byte "["

-- the host is an IPv4 address
abbrev pub is_v4_literal : List ℕ → Bool
is_v4_literal host = is_some (ipv4_of host)

-- an IPv6 address in brackets
abbrev pub is_v6_literal : List ℕ → Bool
is_v6_literal host = is_some (in_brackets host >>= ipv6_of)

-- a literal isn't of the other family; what begins with a bracket is a literal
abbrev pub fits_family : Family → List ℕ → Bool
fits_family Any host = if is_bracketed host then is_v6_literal host else true
fits_family V4 host = not (is_bracketed host)
fits_family V6 host = if is_bracketed host then is_v6_literal host else not (is_v4_literal host)

-- a host that can be named, and that the family takes
unfoldable pub is_host : Family → List ℕ → Bool
is_host family host = is_name host && fits_family family host

-- a host that is sent to a SOCKS server by its name
unfoldable pub is_named_host : List ℕ → Bool
is_named_host host = is_host Any host && nat_le (length host) 255

-- no byte is a space or a control
abbrev pub is_visible : List ℕ → Bool
is_visible text = list_all (λ c. nat_le 33 c && nat_le c 126) text

-- a host that stands in a request line
unfoldable pub is_requested_host : List ℕ → Bool
is_requested_host host = is_named_host host && is_visible host

-- a port, from 0 or from 1
unfoldable pub port_from : ℕ → List ℕ → Option ℕ
port_from least text = short_number 5 65535 text >>= (λ port. only_if (nat_le least port) port)

-- a program and its arguments, with one or more spaces between them
unfoldable pub command_words : List ℕ → List (List ℕ)
command_words text = filter (λ word. not (is_empty word)) (slice_split (λ c. c == byte " ") text)

-- some byte isn't a space
abbrev pub has_word : List ℕ → Bool
has_word text = list_any (λ c. not (c == byte " ")) text

-- a word stands there, and no byte 0
unfoldable pub is_command_line : List ℕ → Bool
is_command_line text = has_word text && not (list_any (λ c. c == 0) text)
