-- What std reads of a text is what its grammar of addresses says.
use Rattle.std.proofs.Common.{◌≡◌, ℕ, List, [], ◌∷◌, length, Some, None, option_map, append-nil, lit≤, refl, sym, ap, ◌∙◌, subst, arith, ne_eqb}
use Rattle.std.specs.Net.Addr.{octets_of}
use Rattle.std.specs.Net.Reader.{Read, read_ipv4, read_ipv6, whole_value}
use Rattle.std.specs.Net.Grammar.{IsDotted, IsColonHex}
use Rattle.std.proofs.NetLemmas.Ipv4.{read_ipv4_sound, read_ipv4_complete}
use Rattle.std.proofs.NetLemmas.Ipv6.{read_ipv6_sound, read_ipv6_complete, EndsGroups-nil}
use Rattle.option_table.specs.Literals.{ipv4_of, ipv6_of}

pub v4_value : (text octets : List ℕ) → IsDotted text octets → ipv4_of text ≡ Some octets
unfolding ipv4_of
v4_value text octets h = ap whole_value (rw append-nil at (read_ipv4_complete text octets [] h (lit≤ tt)))

pub v6_value : (text segments : List ℕ) → IsColonHex text segments → ipv6_of text ≡ Some (octets_of segments)
unfolding ipv6_of
v6_value text segments h = ap (λ r. option_map octets_of (whole_value r)) (rw append-nil at (read_ipv6_complete text segments [] h EndsGroups-nil))

none_at : (octets rest : List ℕ) → (rest ≡ [] → ⊥) → whole_value (Some (octets, rest)) ≡ None
none_at octets [] never = absurd (never refl)
none_at octets (c ∷ rest) never = rw (ne_eqb (length (c ∷ rest)) 0 (omega arith)) refl

none_whole : (read : Read (List ℕ)) → ((octets : List ℕ) → read ≡ Some (octets, []) → ⊥) → whole_value read ≡ None
none_whole None never = refl
none_whole (Some p) never = none_at p.0 p.1 (λ e. never p.0 (ap (λ rest. Some (p.0, rest)) e))

pub v4_none : (text : List ℕ) → ((octets : List ℕ) → IsDotted text octets → ⊥) → ipv4_of text ≡ None
unfolding ipv4_of
v4_none text never = none_whole (read_ipv4 text) (λ octets e.
    let (front, split, spells) = read_ipv4_sound text octets [] e in
    never octets (subst (λ t. IsDotted t octets) (sym (split ∙ append-nil front)) spells))

pub v6_none : (text : List ℕ) → ((segments : List ℕ) → IsColonHex text segments → ⊥) → ipv6_of text ≡ None
unfolding ipv6_of
v6_none text never = ap (option_map octets_of) (none_whole (read_ipv6 text) (λ segments e.
    let (front, split, spells) = read_ipv6_sound text segments [] e in
    never segments (subst (λ t. IsColonHex t segments) (sym (split ∙ append-nil front)) spells)))
