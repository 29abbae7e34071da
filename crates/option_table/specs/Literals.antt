-- Internet addresses as they are written.
use Rattle.std.specs.Prelude.{◌≡◌, ℕ, List, Option, option_map}
use Rattle.std.specs.Net.Addr.{octets_of}
use Rattle.std.specs.Net.Reader.{read_ipv4, read_ipv6, whole_value}
use Rattle.std.specs.Net.Grammar.{IsColonHex}

-- the four octets that std reads from the whole text
unfoldable pub ipv4_of : List ℕ → Option (List ℕ)
ipv4_of text = whole_value (read_ipv4 text)

-- the sixteen octets that std reads from the whole text
unfoldable pub ipv6_of : List ℕ → Option (List ℕ)
ipv6_of text = option_map octets_of (whole_value (read_ipv6 text))

-- the text writes these sixteen octets (RFC 4291, 2.2)
pub record IsV6Octets (text octets : List ℕ) : Type 0 where
  pub segments : List ℕ
  pub spelled : IsColonHex text segments
  pub value : octets ≡ octets_of segments
