-- A backlog to which a list is appended piece by piece, each converted by itself.
use Rattle.std.proofs.Common.{◌≡◌, ℕ, ◌+◌, ◌<◌, ◌≤◌, List, [], ◌++◌, length, take, drop, sym, ap, ◌∙◌, arith}
use Rattle.std.proofs.lemmas.List.{append_assoc, length-append, take-append-drop}
use Rattle.line_ends.specs.declared.Convs.{Convs}
use Rattle.line_ends.specs.Converted.{converted}
use Rattle.line_ends.proofs.Appended.{converted-append}
use Rattle.relay_buffer.specs.declared.lanes.Lane.{Lane}
use Rattle.relay_buffer.specs.declared.backlogs.Backlog.{Backlog}
use Rattle.relay_buffer.specs.declared.backlogs.Backlog.TheVariants.{Stream, Packet}
use Rattle.relay_buffer.specs.Backlogs.{held_bytes, most_held, CanHold, IsSameStore, IsTradable}

converted-split : (how : Convs) (n : ℕ) (rest : List ℕ) → converted how (take n rest) ++ converted how (drop n rest) ≡ converted how rest
converted-split how n rest = sym (converted-append how (take n rest) (drop n rest)) ∙ ap (converted how) (take-append-drop n rest)

pub piece_on : (how : Convs) (rest piece later held grown written whole : List ℕ) (n : ℕ) → piece ≡ take n rest → later ≡ drop n rest → held ++ converted how rest ≡ whole → grown ≡ held ++ written → written ≡ converted how piece → grown ++ converted how later ≡ whole
piece_on how rest piece later held grown written whole n front back is grows writes =
    ap (λ g. g ++ converted how later) (grows ∙ ap (λ w. held ++ w) (writes ∙ ap (converted how) front))
    ∙ ap (λ l. held ++ converted how (take n rest) ++ converted how l) back
    ∙ append_assoc held (converted how (take n rest)) (converted how (drop n rest))
    ∙ ap (λ l. held ++ l) (converted-split how n rest)
    ∙ is

pub piece_fits : (how : Convs) (rest piece held written whole : List ℕ) (n capacity : ℕ) → piece ≡ take n rest → held ++ converted how rest ≡ whole → written ≡ converted how piece → length whole ≤ capacity → length held + length written ≤ capacity
piece_fits how rest piece held written whole n capacity front is writes fits =
    let all = ap length (sym is) ∙ length-append held (converted how rest) in
    let split = ap length (sym (converted-split how n rest)) ∙ length-append (converted how (take n rest)) (converted how (drop n rest)) in
    let same = ap length (writes ∙ ap (converted how) front) in
    omega (arith, all, split, same)

-- what still holds of a store to which bytes were appended that fit
pub can_hold_more : (lane : Lane) (old new : Backlog) (more : List ℕ) → CanHold lane old → IsSameStore old new → held_bytes new ≡ held_bytes old ++ more → length (held_bytes old) + length more ≤ most_held lane → CanHold lane new
can_hold_more lane old new more can same grows fits =
    let long = ap length grows ∙ length-append (held_bytes old) more in record {
      kind = same.kind ∙ can.kind;
      cap = can.cap;
      within = omega (arith, long);
      room = le_trans can.room same.capacity;
    }
  where
    le_trans : {a b c : ℕ} → a ≤ b → b ≤ c → a ≤ c
    le_trans p q = omega arith

-- what a trade needs, of either kind of store
pub tradable : (held : Backlog) (block : List ℕ) (count : ℕ) → IsTradable held block count → (0 < count) × (held_bytes held ≡ [])
tradable (Stream store) block count may = (may.some, may.empty)
tradable (Packet bytes) block count may = absurd may
