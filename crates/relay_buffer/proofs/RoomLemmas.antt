-- What may be filled in fits, converted, beside what waits.
use Rattle.std.proofs.Common.{◌≡◌, ℕ, suc, ◌+◌, ◌-◌, ◌*◌, ◌/◌, ◌<◌, ◌≤◌, Bool, true, false, not, eqb, List, [], ◌∷◌, ◌++◌, length, Option, None, Some, min, cond, refl, ap, arith}
use Rattle.std.specs.Prelude.{IfSome, is_some}
use Rattle.std.proofs.lemmas.Bool.{eqb-true}
use Rattle.std.proofs.lemmas.List.{length-map}
use Rattle.std.proofs.lemmas.List.Sums.{count_by-le-length, length-filter}
use Rattle.relay_model.specs.Conversions.{packet_cap, read_converted, write_converted}
use Rattle.relay_model.specs.declared.commands.Conv.{Conv}
use Rattle.relay_model.specs.declared.commands.Conv.TheVariants.{Plain, Cr, Crnl}
use Rattle.line_ends.specs.declared.Convs.{Convs}
use Rattle.line_ends.specs.Converted.{converted}
use Rattle.relay_buffer.specs.declared.backlogs.Backlog.{Backlog}
use Rattle.relay_buffer.specs.Backlogs.{held_bytes, most_held, CanHold}
use Rattle.relay_buffer.specs.Flows.{Flowing, at_most, most_at_once, over_in, room_in}

-- the most bytes that n become when they are written
abbrev most_written : Conv → ℕ → ℕ
most_written Plain n = n
most_written Cr n = n
most_written Crnl n = 2 * n

most_written-le : (conv : Conv) (m n : ℕ) → m ≤ n → most_written conv m ≤ most_written conv n
most_written-le Plain m n le = le
most_written-le Cr m n le = le
most_written-le Crnl m n le = omega arith

length-read_converted : (conv : Conv) (xs : List ℕ) → length (read_converted conv xs) ≤ length xs
length-read_converted Plain xs = omega arith
length-read_converted Cr xs = omega (arith, length-map xs (λ b. cond (eqb b 13) 10 b))
length-read_converted Crnl xs = omega (arith, length-filter (λ b. not (eqb b 13)) xs, count_by-le-length (λ b. not (eqb b 13)) xs)

one_more : (b : Bool) (x n : ℕ) (ys : List ℕ) → length ys ≤ 2 * n → length (cond b (13 ∷ 10 ∷ []) (x ∷ []) ++ ys) ≤ 2 * suc n
one_more true x n ys le = omega arith
one_more false x n ys le = omega arith

length-flat_map : (xs : List ℕ) → length (write_converted Crnl xs) ≤ 2 * length xs
length-flat_map [] = omega arith
length-flat_map (x ∷ xs) = one_more (eqb x 10) x (length xs) (write_converted Crnl xs) (length-flat_map xs)

length-write_converted : (conv : Conv) (xs : List ℕ) → length (write_converted conv xs) ≤ most_written conv (length xs)
length-write_converted Plain xs = omega arith
length-write_converted Cr xs = omega (arith, length-map xs (λ b. cond (eqb b 10) 13 b))
length-write_converted Crnl xs = length-flat_map xs

length-converted : (how : Convs) (xs : List ℕ) (n : ℕ) → length xs ≤ n → length (converted how xs) ≤ most_written how.write n
length-converted how xs n le =
    let read = length-read_converted how.read xs in
    let more = most_written-le how.write (length (read_converted how.read xs)) n (omega (arith, read)) in
    let wrote = length-write_converted how.write (read_converted how.read xs) in
    omega (arith, more, wrote)

at_most-le : (left : Option ℕ) (n : ℕ) → at_most left n ≤ n
at_most-le None n = omega arith
at_most-le (Some left) n = omega arith

-- an input that may take more bytes isn't over
pub not_over : (over : Bool) (n k : ℕ) → 0 < k → k ≤ cond over 0 n → (over ≡ false) × (k ≤ n)
not_over true n k some le = absurd (omega arith)
not_over false n k some le = (refl, le)

packet_fits : (empty : Bool) (len block cap k c capacity : ℕ) (conv : Conv) → eqb len 0 ≡ empty → cap ≡ packet_cap conv → min (2 * block) 65507 ≤ capacity → 0 < k → k ≤ cond empty (min block cap) 0 → c ≤ most_written conv k → len + c ≤ capacity
packet_fits false len block cap k c capacity conv is capped room some le wrote = absurd (omega arith)
packet_fits true len block cap k c capacity Plain is capped room some le wrote = let none = eqb-true len 0 is in omega arith
packet_fits true len block cap k c capacity Cr is capped room some le wrote = let none = eqb-true len 0 is in omega arith
packet_fits true len block cap k c capacity Crnl is capped room some le wrote = let none = eqb-true len 0 is in omega arith

stream_fits : (len block k c capacity : ℕ) (conv : Conv) → 2 * block ≤ capacity → 0 < k → k ≤ min block ((2 * block - len) / 2) → c ≤ most_written conv k → len + c ≤ capacity
stream_fits len block k c capacity Plain room some le wrote = omega arith
stream_fits len block k c capacity Cr room some le wrote = omega arith
stream_fits len block k c capacity Crnl room some le wrote = omega arith

fits : (packets : Option ℕ) (len block k c capacity : ℕ) (conv : Conv) → IfSome packets (λ cap. cap ≡ packet_cap conv) → cond (is_some packets) (min (2 * block) 65507) (2 * block) ≤ capacity → 0 < k → k ≤ most_at_once packets block len → c ≤ most_written conv k → len + c ≤ capacity
fits None len block k c capacity conv capped room some le wrote = stream_fits len block k c capacity conv room some le wrote
fits (Some cap) len block k c capacity conv capped room some le wrote = packet_fits (eqb len 0) len block cap k c capacity conv refl capped room some le wrote

-- what is kept of the bytes that the flow has room for may wait beside the rest
pub has_room : (flow : Flowing) (held : Backlog) (bytes kept : List ℕ) → CanHold flow.lane held → flow.backlog ≡ held_bytes held → 0 < length bytes → length bytes ≤ room_in flow → length kept ≤ length bytes → length (held_bytes held) + length (converted flow.lane.how kept) ≤ most_held flow.lane
has_room flow held bytes kept can is some le fewer =
    let going = not_over (over_in flow) (at_most flow.left (most_at_once flow.lane.packets flow.lane.block (length flow.backlog))) (length bytes) some le in
    let within = at_most-le flow.left (most_at_once flow.lane.packets flow.lane.block (length flow.backlog)) in
    let most : length bytes ≤ most_at_once flow.lane.packets flow.lane.block (length (held_bytes held)) = rw (ap length is) at (trans-le going.1 within) in
    fits flow.lane.packets (length (held_bytes held)) flow.lane.block (length bytes) (length (converted flow.lane.how kept)) (most_held flow.lane) flow.lane.how.write can.cap (omega arith) some most (length-converted flow.lane.how kept (length bytes) fewer)
  where
    trans-le : {a b c : ℕ} → a ≤ b → b ≤ c → a ≤ c
    trans-le p q = omega arith
