-- What a dump shows is printable.
use Rattle.std.proofs.Common.{◌≡◌, ℕ, ◌+◌, ◌-◌, ◌/◌, ◌%◌, ◌^◌, ◌<◌, ◌≤◌, Bool, true, false, ◌&&◌, ◌||◌, List, [], ◌∷◌, ◌++◌, length, refl, arith}
use Rattle.std.specs.Prelude.{codes, decimal, min, nat_le, nat_lt, ◌==◌, if◌then◌else◌}
use Rattle.std.specs.Cmp.Derive.{both_true}
use Rattle.std.specs.List.{AllByRecursion}
use Rattle.std.proofs.lemmas.Bool.{le-leb, ltb-true}
use Rattle.relay_model.specs.declared.places.Place.{Place}
use Rattle.relay_model.specs.declared.places.Way.{Way}
use Rattle.relay_model.specs.declared.places.Way.TheVariants.{LeftToRight, RightToLeft}
use Rattle.relay_model.specs.declared.commands.Dump.{Dump}
use Rattle.relay_model.specs.declared.commands.Dump.TheVariants as dumps
use Rattle.relay_model.specs.declared.acts.Act.{Act}
use Rattle.relay_model.specs.declared.acts.Act.TheVariants.{Read, Turn, Opened, OpenLater, OpenFailed, Listening, ListenFailed, Accepted, NoPeer, AcceptFailed, ReadEmpty, ReadEnd, ReadNotYet, ReadFault, Wrote, WriteNotYet, WriteFault, Shut, ShutFault, Closed, Reaped, Note, NoteFault}
use Rattle.relay_model.specs.Places.{same_place}
use Rattle.relay_model.specs.History.{got}
use Rattle.relay_model.specs.Dumps.{newline, last_place, arrow, header, hex_digit, hex_byte, shown_byte, text_lines, hex_lines, text_dump, hex_dump, dump_of}
use Rattle.journal_text.specs.Ranges.{IsAct, IsBytes}
use Rattle.place_report.specs.Shown.{is_printable, IsPrintable}
use Rattle.place_report.proofs.Printing.{append_printable, either_printable, decimal_printable}
use Rattle.journal_table.specs.Streams.{shown_piece, dumped}

either_digit : (small : Bool) (d : ℕ) → nat_lt d 10 ≡ small → d < 16 → is_printable (if small then 48 + d else 87 + d) ≡ true
either_digit true d is below =
    let few : d < 10 = ltb-true d 10 is in
    let low : 32 ≤ 48 + d = omega arith in
    let high : 48 + d ≤ 126 = omega arith in
    rw (le-leb 32 (48 + d) low, le-leb (48 + d) 126 high) refl
either_digit false d is below =
    let low : 32 ≤ 87 + d = omega arith in
    let high : 87 + d ≤ 126 = omega arith in
    rw (le-leb 32 (87 + d) low, le-leb (87 + d) 126 high) refl

digit_printable : (d : ℕ) → d < 16 → is_printable (hex_digit d) ≡ true
digit_printable d below = either_digit (nat_lt d 10) d refl below

-- two digits in front of a printable text
digits_printable : (byte : ℕ) (rest : List ℕ) → byte < 256 → IsPrintable rest → IsPrintable (hex_byte byte ++ rest)
digits_printable byte rest below p =
    both_true (digit_printable (byte / 16) (omega arith)) (both_true (digit_printable (byte % 16) (omega arith)) p)

plain_printable : (plain : Bool) (byte : ℕ) (other : List ℕ) → (nat_le 32 byte && nat_le byte 126) ≡ plain → IsPrintable other → IsPrintable (if plain then byte ∷ [] else other)
plain_printable true byte other is p = rw is refl
plain_printable false byte other is p = p

byte_printable : (byte : ℕ) → byte < 256 → IsPrintable (shown_byte byte)
byte_printable byte below =
    let escaped : IsPrintable (92 ∷ 120 ∷ hex_byte byte) = digits_printable byte [] below refl in
    either_printable (byte == 92) _ _ refl (either_printable (byte == 10) _ _ refl (either_printable (byte == 9) _ _ refl (either_printable (byte == 13) _ _ refl
    (plain_printable (nat_le 32 byte && nat_le byte 126) byte _ refl escaped))))

text_printable : (bytes : List ℕ) → IsBytes bytes → IsPrintable (text_lines bytes)
text_printable [] h = refl
text_printable (byte ∷ []) h = append_printable (shown_byte byte) (if byte == 10 then [] else newline) (byte_printable byte h.0) (either_printable (byte == 10) [] newline refl refl)
text_printable (byte ∷ next ∷ bytes) h = append_printable (shown_byte byte) (text_lines (next ∷ bytes)) (byte_printable byte h.0) (text_printable (next ∷ bytes) h.1)

hex_printable : (n i : ℕ) (bytes : List ℕ) → IsBytes bytes → IsPrintable (hex_lines n i bytes)
hex_printable n i [] h = refl
hex_printable n i (byte ∷ bytes) h =
    let ends : Bool = (i + 1) % 16 == 0 || i + 1 == n in
    let rest : IsPrintable ((if ends then newline else []) ++ hex_lines n (i + 1) bytes) =
    append_printable (if ends then newline else []) (hex_lines n (i + 1) bytes) (either_printable ends newline [] refl refl) (hex_printable n (i + 1) bytes h.1) in
    digits_printable byte ((if ends then newline else []) ++ hex_lines n (i + 1) bytes) h.0 rest

arrow_printable : (way : Way) → IsPrintable (arrow way)
arrow_printable LeftToRight = refl
arrow_printable RightToLeft = refl

header_printable : (way : Way) (from n : ℕ) → IsPrintable (header way from n)
header_printable way from n =
    let one : List ℕ = arrow way ++ codes "length=" in
    let two : List ℕ = one ++ decimal n in
    let three : List ℕ = two ++ codes " from=" in
    let four : List ℕ = three ++ decimal from in
    let five : List ℕ = four ++ codes " to=" in
    let six : List ℕ = five ++ decimal (last_place from n) in
    append_printable six newline (append_printable five (decimal (last_place from n)) (append_printable four (codes " to=") (append_printable three (decimal from) (append_printable two (codes " from=")
    (append_printable one (decimal n) (append_printable (arrow way) (codes "length=") (arrow_printable way) refl) (decimal_printable n)) refl) (decimal_printable from)) refl) (decimal_printable (last_place from n))) refl

text_dump_printable : (way : Way) (from : ℕ) (bytes : List ℕ) → IsBytes bytes → IsPrintable (text_dump way from bytes)
text_dump_printable way from bytes h = append_printable (header way from (length bytes)) (text_lines bytes) (header_printable way from (length bytes)) (text_printable bytes h)

hex_dump_printable : (way : Way) (from : ℕ) (bytes : List ℕ) → IsBytes bytes → IsPrintable (hex_dump way from bytes)
hex_dump_printable way from bytes h = append_printable (header way from (length bytes)) (hex_lines (length bytes) 0 bytes) (header_printable way from (length bytes)) (hex_printable (length bytes) 0 bytes h)

dump_printable : (style : Dump) (way : Way) (from : ℕ) (bytes : List ℕ) → IsBytes bytes → IsPrintable (dump_of style way from bytes)
dump_printable dumps.Off way from bytes h = refl
dump_printable dumps.Text way from bytes h = text_dump_printable way from bytes h
dump_printable dumps.Hex way from bytes h = hex_dump_printable way from bytes h
dump_printable dumps.Mixed way from bytes h = append_printable (hex_dump way from bytes) (text_dump way from bytes) (hex_dump_printable way from bytes h) (text_dump_printable way from bytes h)

piece_printable : (style : Dump) (way : Way) (from : ℕ) (text bytes : List ℕ) → IsPrintable text → IsBytes bytes → IsPrintable (shown_piece style way from text bytes)
piece_printable style way from text [] p h = p
piece_printable style way from text (byte ∷ bytes) p h = append_printable text (dump_of style way from (byte ∷ bytes)) p (dump_printable style way from (byte ∷ bytes) h)

pub dumped_printable : (style : Dump) (way : Way) (past : List Act) (p : Place) → AllByRecursion IsAct past → IsPrintable (dumped style way past p)
dumped_printable style way [] p h = refl
dumped_printable style way (Read q bytes ∷ past) p h =
    let before = dumped_printable style way past p h.1 in
    either_printable (same_place q p) _ _ (piece_printable style way (min (length (got past p)) (2 ^ 64 - 1)) (dumped style way past p) bytes before h.0.1) before
dumped_printable style way (Turn until at ready stop ∷ past) p h = dumped_printable style way past p h.1
dumped_printable style way (Opened q ∷ past) p h = dumped_printable style way past p h.1
dumped_printable style way (OpenLater q ∷ past) p h = dumped_printable style way past p h.1
dumped_printable style way (OpenFailed q ∷ past) p h = dumped_printable style way past p h.1
dumped_printable style way (Listening q ∷ past) p h = dumped_printable style way past p h.1
dumped_printable style way (ListenFailed q ∷ past) p h = dumped_printable style way past p h.1
dumped_printable style way (Accepted q peer ∷ past) p h = dumped_printable style way past p h.1
dumped_printable style way (NoPeer q ∷ past) p h = dumped_printable style way past p h.1
dumped_printable style way (AcceptFailed q ∷ past) p h = dumped_printable style way past p h.1
dumped_printable style way (ReadEmpty q ∷ past) p h = dumped_printable style way past p h.1
dumped_printable style way (ReadEnd q ∷ past) p h = dumped_printable style way past p h.1
dumped_printable style way (ReadNotYet q ∷ past) p h = dumped_printable style way past p h.1
dumped_printable style way (ReadFault q ∷ past) p h = dumped_printable style way past p h.1
dumped_printable style way (Wrote q bytes ∷ past) p h = dumped_printable style way past p h.1
dumped_printable style way (WriteNotYet q ∷ past) p h = dumped_printable style way past p h.1
dumped_printable style way (WriteFault q ∷ past) p h = dumped_printable style way past p h.1
dumped_printable style way (Shut q how ∷ past) p h = dumped_printable style way past p h.1
dumped_printable style way (ShutFault q how ∷ past) p h = dumped_printable style way past p h.1
dumped_printable style way (Closed q why ∷ past) p h = dumped_printable style way past p h.1
dumped_printable style way (Reaped q end ∷ past) p h = dumped_printable style way past p h.1
dumped_printable style way (Note bytes ∷ past) p h = dumped_printable style way past p h.1
dumped_printable style way (NoteFault bytes ∷ past) p h = dumped_printable style way past p h.1
