-- Bytes, peers and words: what is read was spelt so, and what is spelt is read.
use Rattle.std.proofs.Common.{◌≡◌, ℕ, ◌+◌, ◌-◌, ◌*◌, ◌/◌, ◌%◌, ◌^◌, ◌<◌, ◌≤◌, Bool, true, false, cond, ◌&&◌, not, eqb, ltb, leb, List, [], ◌∷◌, ◌++◌, length, get_or, drop, Option, Some, None, option_map, refl, sym, ap, ◌∙◌, subst, append_assoc, arith, lit<, lit≤, inl, inr}
use Rattle.std.specs.Prelude.{codes, if◌then◌else◌}
use Rattle.std.specs.Fmt.{decimal, signed_decimal}
use Rattle.std.specs.Str.{bytes_eq}
use Rattle.std.proofs.lemmas.Bool.{and_parts, and_from, eqb-true, eq-eqb, ne_eqb, lt-ltb, le-ltb, le-leb, lt-leb, leb-true, cases_lt}
use Rattle.std.proofs.lemmas.Option.{same_Some}
use Rattle.relay_model.specs.Dumps.{hex_digit, hex_byte}
use Rattle.relay_model.specs.declared.acts.Peer.{Peer}
use Rattle.relay_model.specs.declared.acts.Peer.TheVariants.{V4, V6, Local}
use Rattle.relay_model.specs.declared.acts.Shut.{Shut}
use Rattle.relay_model.specs.declared.acts.Shut.TheVariants.{Nothing, Down, Close, Null}
use Rattle.relay_model.specs.declared.acts.Why.{Why}
use Rattle.relay_model.specs.declared.acts.Why.TheVariants as reason
use Rattle.relay_model.specs.declared.acts.ChildEnd.{ChildEnd}
use Rattle.relay_model.specs.declared.acts.ChildEnd.TheVariants.{Running, Ended, Killed}
use Rattle.journal_text.specs.Fields.{flag_text, digits_text, bytes_text, peer_text, shut_text, why_text, child_text}
use Rattle.journal_text.specs.Ranges.{IsBytes, IsPeer, IsChildEnd, IsPort}
use Rattle.journal_text.specs.Reading.{◌>>=◌, only_if, around_first, number_in, status_in, flag_in, hex_in, byte_in, digits_in, bytes_in, octets_in, addressed_in, peer_in, all_shuts, shut_in, all_whys, why_in, child_in}
use Rattle.journal_text.proofs.ByteLemmas.{chosen, map_some, bind_some, only_some, find_some, same_bytes, cons_is, around_is, is_over, is_over-append, is_over-weaken, lacks, around_again, around_takes}
use Rattle.journal_text.proofs.NumberLemmas.{decimal_over, number_again, number_takes, status_again, status_takes, signed_over}

-- ---- flags

pub flag_again : (stop : Bool) → flag_in (flag_text stop) ≡ Some stop
flag_again true = refl
flag_again false = refl

pub flag_takes : (text : List ℕ) (stop : Bool) → flag_in text ≡ Some stop → text ≡ flag_text stop
flag_takes text stop e =
    elim (chosen (bytes_eq text (codes "1")) (Some true) (cond (bytes_eq text (codes "0")) (Some false) None) (Some stop) e) [
      | inl h ↦ same_bytes text (codes "1") h.0 ∙ ap flag_text (same_Some true stop h.1)
      | inr h ↦ (elim (chosen (bytes_eq text (codes "0")) (Some false) None (Some stop) h.1) [
        | inl k ↦ same_bytes text (codes "0") k.0 ∙ ap flag_text (same_Some false stop k.1)
        | inr k ↦ absurd (let no : None ≡ Some stop = k.1 in cc)
      ])
    ]

pub flag_over : (stop : Bool) → is_over 43 (flag_text stop) ≡ true
flag_over true = refl
flag_over false = refl

-- ---- hexadecimal digits

hex_low : (v : ℕ) → v < 10 → (hex_in (48 + v) ≡ Some v)
hex_low v small =
    let value : 48 + v - 48 ≡ v = omega arith in
    rw (le-leb 48 (48 + v) (omega arith), le-leb (48 + v) 57 (omega arith), value) refl

hex_high : (v : ℕ) → 10 ≤ v → v < 16 → (hex_in (87 + v) ≡ Some v)
hex_high v low small =
    let value : 87 + v - 97 + 10 ≡ v = omega arith in
    rw (le-leb 48 (87 + v) (omega arith), lt-leb (87 + v) 57 (omega arith), le-leb 97 (87 + v) (omega arith), le-leb (87 + v) 102 (omega arith), value) refl

hex_again : (v : ℕ) → v < 16 → hex_in (hex_digit v) ≡ Some v
hex_again v small =
    elim (cases_lt v 10) [
      | inl lt ↦ (rw (lt-ltb v 10 lt) (hex_low v lt))
      | inr le ↦ (rw (le-ltb v 10 le) (hex_high v le small))
    ]

digit_low : (v : ℕ) → v < 10 → 48 + v ≡ hex_digit v
digit_low v small = rw (lt-ltb v 10 small) refl

digit_high : (v : ℕ) → 10 ≤ v → 87 + v ≡ hex_digit v
digit_high v low = rw (le-ltb v 10 low) refl

hex_takes : (d v : ℕ) → hex_in d ≡ Some v → (d ≡ hex_digit v) × (v < 16)
hex_takes d v e =
    elim (chosen (leb 48 d && leb d 57) (Some (d - 48)) (cond (leb 97 d && leb d 102) (Some (d - 97 + 10)) None) (Some v) e) [
      | inl h ↦ (let p = and_parts (leb 48 d) (leb d 57) h.0 in
          let low : 48 ≤ d = leb-true 48 d p.0 in
          let high : d ≤ 57 = leb-true d 57 p.1 in
          let is : d - 48 ≡ v = same_Some (d - 48) v h.1 in
          let small : v < 10 = omega arith in
          let sum : d ≡ 48 + v = omega arith in
          (sum ∙ digit_low v small, omega arith))
      | inr h ↦ (elim (chosen (leb 97 d && leb d 102) (Some (d - 97 + 10)) None (Some v) h.1) [
        | inl k ↦ (let p = and_parts (leb 97 d) (leb d 102) k.0 in
            let low : 97 ≤ d = leb-true 97 d p.0 in
            let high : d ≤ 102 = leb-true d 102 p.1 in
            let is : d - 97 + 10 ≡ v = same_Some (d - 97 + 10) v k.1 in
            let great : 10 ≤ v = omega arith in
            let sum : d ≡ 87 + v = omega arith in
            (sum ∙ digit_high v great, omega arith))
        | inr k ↦ absurd (let no : None ≡ Some v = k.1 in cc)
      ])
    ]

byte_again : (b : ℕ) → b < 256 → byte_in (hex_digit (b / 16)) (hex_digit (b % 16)) ≡ Some b
byte_again b small =
    let whole : 16 * (b / 16) + b % 16 ≡ b = omega arith in
    rw (hex_again (b / 16) (omega arith), hex_again (b % 16) (omega arith), whole) refl

byte_takes : (high low value : ℕ) → byte_in high low ≡ Some value → (high ∷ low ∷ [] ≡ hex_byte value) × (value < 256)
byte_takes high low value e =
    let h = bind_some (hex_in high) (λ h. hex_in low >>= λ l. Some (16 * h + l)) value e in
    let l = bind_some (hex_in low) (λ l. Some (16 * h.0 + l)) value h.2 in
    let first = hex_takes high h.0 h.1 in
    let second = hex_takes low l.0 l.1 in
    let is : 16 * h.0 + l.0 ≡ value = same_Some (16 * h.0 + l.0) value l.2 in
    let quotient : h.0 ≡ value / 16 = omega (arith, first.1, second.1) in
    let remainder : l.0 ≡ value % 16 = omega (arith, first.1, second.1) in
    (cons_is _ _ _ _ (first.0 ∙ ap hex_digit quotient) (cons_is _ _ _ _ (second.0 ∙ ap hex_digit remainder) refl), omega (arith, first.1, second.1))

pub digits_again : (bytes : List ℕ) → IsBytes bytes → digits_in (digits_text bytes) ≡ Some bytes
unfolding digits_in
digits_again [] fits = refl
digits_again (b ∷ bytes) fits = rw (byte_again b fits.0, digits_again bytes fits.1) refl

pub digits_take : (text bytes : List ℕ) → digits_in text ≡ Some bytes → (text ≡ digits_text bytes) × IsBytes bytes
unfolding digits_in
digits_take [] bytes e = subst (λ (x : List ℕ). ([] ≡ digits_text x) × IsBytes x) (same_Some [] bytes e) (refl, tt)
digits_take (d ∷ []) bytes e = absurd cc
digits_take (high ∷ low ∷ text) bytes e =
    let a = bind_some (byte_in high low) (λ value. digits_in text >>= λ more. Some (value ∷ more)) bytes e in
    let b = bind_some (digits_in text) (λ more. Some (a.0 ∷ more)) bytes a.2 in
    let first = byte_takes high low a.0 a.1 in
    let others = digits_take text b.0 b.1 in
    let spelt : high ∷ low ∷ text ≡ digits_text (a.0 ∷ b.0) =
    ap (λ (t : List ℕ). high ∷ low ∷ t) others.0 ∙ ap (λ (t : List ℕ). t ++ digits_text b.0) first.0 in
    subst (λ (x : List ℕ). (high ∷ low ∷ text ≡ digits_text x) × IsBytes x) {x = a.0 ∷ b.0} (same_Some (a.0 ∷ b.0) bytes b.2) (spelt, (first.1, others.1))

digit_bounds : (v : ℕ) → v < 16 → (47 < hex_digit v) × (hex_digit v ≡ 58 → ⊥)
digit_bounds v small =
    elim (cases_lt v 10) [
      | inl lt ↦ (let is = digit_low v lt in (omega (arith, is), λ same. omega (arith, is, same)))
      | inr le ↦ (let is = digit_high v le in (omega (arith, is), λ same. omega (arith, is, same)))
    ]

pub digits_over : (bytes : List ℕ) → IsBytes bytes → is_over 47 (digits_text bytes) ≡ true
digits_over [] fits = refl
digits_over (b ∷ bytes) fits =
    let small : b < 256 = fits.0 in
    and_from (ltb 47 (hex_digit (b / 16))) _ (lt-ltb 47 _ (digit_bounds (b / 16) (omega arith)).0)
    (and_from (ltb 47 (hex_digit (b % 16))) _ (lt-ltb 47 _ (digit_bounds (b % 16) (omega arith)).0) (digits_over bytes fits.1))

no_colon : (bytes : List ℕ) → IsBytes bytes → lacks 58 (digits_text bytes) ≡ true
no_colon [] fits = refl
no_colon (b ∷ bytes) fits =
    let small : b < 256 = fits.0 in
    and_from (not (eqb (hex_digit (b / 16)) 58)) _ (ap not (ne_eqb _ 58 (digit_bounds (b / 16) (omega arith)).1))
    (and_from (not (eqb (hex_digit (b % 16)) 58)) _ (ap not (ne_eqb _ 58 (digit_bounds (b % 16) (omega arith)).1)) (no_colon bytes fits.1))

-- ---- bytes

pub bytes_again : (bytes : List ℕ) → IsBytes bytes → bytes_in (bytes_text bytes) ≡ Some bytes
unfolding bytes_in
bytes_again bytes fits = digits_again bytes fits

pub bytes_take : (text bytes : List ℕ) → bytes_in text ≡ Some bytes → (text ≡ bytes_text bytes) × IsBytes bytes
unfolding bytes_in
bytes_take [] bytes e = absurd cc
bytes_take (x ∷ text) bytes e =
    elim (chosen (eqb x 120) (digits_in text) None (Some bytes) e) [
      | inl h ↦ (let t = digits_take text bytes h.1 in
          (ap (λ (y : ℕ). y ∷ text) (eqb-true x 120 h.0) ∙ ap (λ (ds : List ℕ). 120 ∷ ds) t.0, t.1))
      | inr h ↦ absurd (let no : None ≡ Some bytes = h.1 in cc)
    ]

pub bytes_over : (bytes : List ℕ) → IsBytes bytes → is_over 43 (bytes_text bytes) ≡ true
bytes_over bytes fits = is_over-weaken 43 47 (digits_text bytes) (lit≤ tt) (digits_over bytes fits)

-- ---- peers

octets_again : (size : ℕ) (bytes : List ℕ) → length bytes ≡ size → IsBytes bytes → octets_in size (digits_text bytes) ≡ Some bytes
octets_again size bytes long fits = rw (digits_again bytes fits) (rw (eq-eqb (length bytes) size long) refl)

octets_take : (size : ℕ) (text bytes : List ℕ) → octets_in size text ≡ Some bytes → (text ≡ digits_text bytes) × (length bytes ≡ size) × IsBytes bytes
octets_take size text bytes e =
    let b = bind_some (digits_in text) (λ found. only_if (eqb (length found) size) found) bytes e in
    let g = only_some (eqb (length b.0) size) b.0 bytes b.2 in
    let t = digits_take text b.0 b.1 in
    subst (λ (x : List ℕ). (text ≡ digits_text x) × (length x ≡ size) × IsBytes x) g.1 (t.0, eqb-true _ _ g.0, t.1)

port_again : (port : ℕ) → IsPort port → number_in (2 ^ 16 - 1) (decimal port) ≡ Some port
port_again port fits = number_again (2 ^ 16 - 1) port (lit< tt) (omega (arith, fits))

addressed_again : (size : ℕ) (peer : List ℕ → ℕ → Peer) (addr : List ℕ) (port : ℕ) → length addr ≡ size → IsBytes addr → IsPort port → addressed_in size peer ((digits_text addr ++ codes ":") ++ decimal port) ≡ Some (peer addr port)
addressed_again size peer addr port long fits small =
    let parts : around_first 58 ((digits_text addr ++ codes ":") ++ decimal port) ≡ Some (digits_text addr, decimal port) =
    ap (around_first 58) (append_assoc (digits_text addr) (codes ":") (decimal port)) ∙ around_again 58 (digits_text addr) (decimal port) (no_colon addr fits) in
    rw parts (rw (octets_again size addr long fits) (rw (port_again port small) refl))

pub peer_again : (p : Peer) → IsPeer p → peer_in (peer_text p) ≡ Some p
unfolding peer_in
peer_again Local fits = refl
peer_again (V4 addr port) fits = addressed_again 4 V4 addr port fits.0 fits.1 fits.2
peer_again (V6 addr port) fits = addressed_again 16 V6 addr port fits.0 fits.1 fits.2

-- what was read of an address and a port
record IsAddressed (size : ℕ) (peer : List ℕ → ℕ → Peer) (text : List ℕ) (p : Peer) : Type 0 where
  addr : List ℕ
  port : ℕ
  long : length addr ≡ size
  bytes : IsBytes addr
  small : IsPort port
  spelt : text ≡ (digits_text addr ++ codes ":") ++ decimal port
  is : peer addr port ≡ p

addressed_takes : (size : ℕ) (peer : List ℕ → ℕ → Peer) (text : List ℕ) (p : Peer) → addressed_in size peer text ≡ Some p → IsAddressed size peer text p
addressed_takes size peer text p e =
    let a = bind_some (around_first 58 text) (λ parts. octets_in size parts.0 >>= λ addr. number_in (2 ^ 16 - 1) parts.1 >>= λ port. Some (peer addr port)) p e in
    let b = bind_some (octets_in size a.0.0) (λ addr. number_in (2 ^ 16 - 1) a.0.1 >>= λ port. Some (peer addr port)) p a.2 in
    let c = bind_some (number_in (2 ^ 16 - 1) a.0.1) (λ port. Some (peer b.0 port)) p b.2 in
    let cut = around_takes 58 text a.0 a.1 in
    let o = octets_take size a.0.0 b.0 b.1 in
    let n = number_takes (2 ^ 16 - 1) c.0 a.0.1 (lit< tt) c.1 in
    record {
      addr = b.0;
      port = c.0;
      long = o.1;
      bytes = o.2;
      small = omega (arith, n.1);
      spelt = cut ∙ around_is 58 _ _ _ _ o.0 n.0 ∙ sym (append_assoc (digits_text b.0) (codes ":") (decimal c.0));
      is = same_Some (peer b.0 c.0) p c.2;
    }

four_is : (text : List ℕ) (p : Peer) → IsAddressed 4 V4 text p → (52 ∷ 58 ∷ text ≡ peer_text p) × IsPeer p
four_is text p h = subst (λ (x : Peer). (52 ∷ 58 ∷ text ≡ peer_text x) × IsPeer x) h.is (ap (λ (t : List ℕ). 52 ∷ 58 ∷ t) h.spelt, (h.long, h.bytes, h.small))

six_is : (text : List ℕ) (p : Peer) → IsAddressed 16 V6 text p → (54 ∷ 58 ∷ text ≡ peer_text p) × IsPeer p
six_is text p h = subst (λ (x : Peer). (54 ∷ 58 ∷ text ≡ peer_text x) × IsPeer x) h.is (ap (λ (t : List ℕ). 54 ∷ 58 ∷ t) h.spelt, (h.long, h.bytes, h.small))

two_first : (text : List ℕ) (a : ℕ) → eqb (get_or text 1 0) 58 ≡ true → eqb (get_or text 0 0) a ≡ true → text ≡ a ∷ 58 ∷ drop 2 text
two_first [] a e f = absurd cc
two_first (x ∷ []) a e f = absurd cc
two_first (x ∷ y ∷ text) a e f = rw (eqb-true x a f, eqb-true y 58 e) refl

pub peer_takes : (text : List ℕ) (p : Peer) → peer_in text ≡ Some p → (text ≡ peer_text p) × IsPeer p
unfolding peer_in
peer_takes text p e =
    elim (chosen (bytes_eq text (codes "l")) (Some Local) (cond (eqb (get_or text 1 0) 58) (cond (eqb (get_or text 0 0) 52) (addressed_in 4 V4 (drop 2 text)) (cond (eqb (get_or text 0 0) 54) (addressed_in 16 V6 (drop 2 text)) None)) None) (Some p) e) [
      | inl h ↦ subst (λ (x : Peer). (text ≡ peer_text x) × IsPeer x) (same_Some Local p h.1) (same_bytes text (codes "l") h.0, tt)
      | inr h ↦ (elim (chosen (eqb (get_or text 1 0) 58) (cond (eqb (get_or text 0 0) 52) (addressed_in 4 V4 (drop 2 text)) (cond (eqb (get_or text 0 0) 54) (addressed_in 16 V6 (drop 2 text)) None)) None (Some p) h.1) [
        | inl k ↦ (elim (chosen (eqb (get_or text 0 0) 52) (addressed_in 4 V4 (drop 2 text)) (cond (eqb (get_or text 0 0) 54) (addressed_in 16 V6 (drop 2 text)) None) (Some p) k.1) [
          | inl m ↦ (let t = four_is (drop 2 text) p (addressed_takes 4 V4 (drop 2 text) p m.1) in (two_first text 52 k.0 m.0 ∙ t.0, t.1))
          | inr m ↦ (elim (chosen (eqb (get_or text 0 0) 54) (addressed_in 16 V6 (drop 2 text)) None (Some p) m.1) [
            | inl n ↦ (let t = six_is (drop 2 text) p (addressed_takes 16 V6 (drop 2 text) p n.1) in (two_first text 54 k.0 n.0 ∙ t.0, t.1))
            | inr n ↦ absurd (let no : None ≡ Some p = n.1 in cc)
          ])
        ])
        | inr k ↦ absurd (let no : None ≡ Some p = k.1 in cc)
      ])
    ]

addressed_over : (addr : List ℕ) (port : ℕ) → IsBytes addr → IsPort port → is_over 43 ((digits_text addr ++ codes ":") ++ decimal port) ≡ true
addressed_over addr port fits small =
    is_over-append 43 (digits_text addr ++ codes ":") (decimal port)
    (is_over-append 43 (digits_text addr) (codes ":") (is_over-weaken 43 47 (digits_text addr) (lit≤ tt) (digits_over addr fits)) refl)
    (is_over-weaken 43 47 (decimal port) (lit≤ tt) (decimal_over port (omega (arith, small))))

pub peer_over : (p : Peer) → IsPeer p → is_over 43 (peer_text p) ≡ true
peer_over Local fits = refl
peer_over (V4 addr port) fits = addressed_over addr port fits.1 fits.2
peer_over (V6 addr port) fits = addressed_over addr port fits.1 fits.2

-- ---- words

pub shut_again : (how : Shut) → shut_in (shut_text how) ≡ Some how
unfolding shut_in
shut_again Nothing = refl
shut_again Down = refl
shut_again Close = refl
shut_again Null = refl

pub shut_takes : (text : List ℕ) (how : Shut) → shut_in text ≡ Some how → text ≡ shut_text how
unfolding shut_in
shut_takes text how e = sym (same_bytes (shut_text how) text (find_some (λ x. bytes_eq (shut_text x) text) all_shuts how e))

pub shut_over : (how : Shut) → is_over 43 (shut_text how) ≡ true
shut_over Nothing = refl
shut_over Down = refl
shut_over Close = refl
shut_over Null = refl

pub why_again : (why : Why) → why_in (why_text why) ≡ Some why
unfolding why_in
why_again reason.Finished = refl
why_again reason.ClosingTime = refl
why_again reason.Idle = refl
why_again reason.Faulted = refl
why_again reason.OpenFailed = refl
why_again reason.ListenFailed = refl
why_again reason.AcceptFailed = refl
why_again reason.Refused = refl
why_again reason.Served = refl
why_again reason.Stopped = refl
why_again reason.Memory = refl

pub why_takes : (text : List ℕ) (why : Why) → why_in text ≡ Some why → text ≡ why_text why
unfolding why_in
why_takes text why e = sym (same_bytes (why_text why) text (find_some (λ x. bytes_eq (why_text x) text) all_whys why e))

pub why_over : (why : Why) → is_over 43 (why_text why) ≡ true
why_over reason.Finished = refl
why_over reason.ClosingTime = refl
why_over reason.Idle = refl
why_over reason.Faulted = refl
why_over reason.OpenFailed = refl
why_over reason.ListenFailed = refl
why_over reason.AcceptFailed = refl
why_over reason.Refused = refl
why_over reason.Served = refl
why_over reason.Stopped = refl
why_over reason.Memory = refl

-- ---- children

abbrev ended_in : List ℕ × List ℕ → Option ChildEnd
ended_in parts = if bytes_eq parts.0 (codes "ended") then option_map Ended (status_in parts.1) else None

pub child_again : (end : ChildEnd) → IsChildEnd end → child_in (child_text end) ≡ Some end
unfolding child_in
child_again Running fits = refl
child_again Killed fits = refl
child_again (Ended status) fits =
    ap (λ (o : Option (List ℕ × List ℕ)). o >>= ended_in) (around_again 32 (codes "ended") (signed_decimal status) refl)
    ∙ ap (option_map Ended) (status_again status fits)

ended_takes : (text : List ℕ) (end : ChildEnd) → (around_first 32 text >>= ended_in) ≡ Some end → (text ≡ child_text end) × IsChildEnd end
ended_takes text end e =
    let a = bind_some (around_first 32 text) ended_in end e in
    let cut = around_takes 32 text a.0 a.1 in
    elim (chosen (bytes_eq a.0.0 (codes "ended")) (option_map Ended (status_in a.0.1)) None (Some end) a.2) [
      | inl h ↦ (let m = map_some Ended (status_in a.0.1) end h.1 in
          let t = status_takes a.0.1 m.0 m.1 in
          let word : a.0.0 ≡ codes "ended" = same_bytes a.0.0 (codes "ended") h.0 in
          let spelt : text ≡ child_text (Ended m.0) = cut ∙ around_is 32 _ _ _ _ word t.0 in
          subst (λ (x : ChildEnd). (text ≡ child_text x) × IsChildEnd x) m.2 (spelt, t.1))
      | inr h ↦ absurd (let no : None ≡ Some end = h.1 in cc)
    ]

pub child_takes : (text : List ℕ) (end : ChildEnd) → child_in text ≡ Some end → (text ≡ child_text end) × IsChildEnd end
unfolding child_in
child_takes text end e =
    elim (chosen (bytes_eq text (codes "running")) (Some Running) (cond (bytes_eq text (codes "killed")) (Some Killed) (around_first 32 text >>= ended_in)) (Some end) e) [
      | inl h ↦ subst (λ (x : ChildEnd). (text ≡ child_text x) × IsChildEnd x) (same_Some Running end h.1) (same_bytes text (codes "running") h.0, tt)
      | inr h ↦ (elim (chosen (bytes_eq text (codes "killed")) (Some Killed) (around_first 32 text >>= ended_in) (Some end) h.1) [
        | inl k ↦ subst (λ (x : ChildEnd). (text ≡ child_text x) × IsChildEnd x) (same_Some Killed end k.1) (same_bytes text (codes "killed") k.0, tt)
        | inr k ↦ ended_takes text end k.1
      ])
    ]

pub child_over : (end : ChildEnd) → IsChildEnd end → is_over 31 (child_text end) ≡ true
child_over Running fits = refl
child_over Killed fits = refl
child_over (Ended status) fits = is_over-append 31 (codes "ended ") (signed_decimal status) refl (is_over-weaken 31 44 (signed_decimal status) (lit≤ tt) (signed_over status fits))
