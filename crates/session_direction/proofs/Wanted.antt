-- What a direction's fields say of what may be done next.
use Rattle.std.proofs.Common.{◌≡◌, refl, sym, ap, ◌∙◌, ℕ, ◌-◌, ◌*◌, ◌/◌, ◌≤◌, min, Bool, true, false, not, cond, ◌&&◌, ◌||◌, ◌==◌, nat_lt, List, [], ◌∷◌, ◌++◌, length, take, drop, Option, Some, None, is_some, arith, append-nil, length-append, append_assoc}
use Rattle.std.proofs.lemmas.Bool.{false≢true, true≢false, and_parts, eqb-true, leb-false}
use Rattle.std.proofs.lemmas.List.{take-append-drop, length-take-le}
use Rattle.relay_model.specs.declared.places.Way.{Way}
use Rattle.relay_model.specs.declared.places.Way.TheVariants.{LeftToRight, RightToLeft}
use Rattle.relay_model.specs.declared.commands.Config.{Config}
use Rattle.relay_model.specs.declared.commands.Conv.{Conv}
use Rattle.relay_model.specs.declared.commands.Conv.TheVariants.{Plain, Cr, Crnl}
use Rattle.relay_model.specs.declared.acts.Shut.{Shut as Shutting}
use Rattle.relay_model.specs.declared.acts.Act.{Act}
use Rattle.relay_model.specs.Choices.{only_if}
use Rattle.relay_model.specs.Configs.{input, output, options_of, keeps_borders, formed, how}
use Rattle.relay_model.specs.Conversions.{packet_cap, is_over, is_used_up, is_met, packet_size, read_size, at_most_left}
use Rattle.relay_model.specs.History.{got, put, sent}
use Rattle.relay_model.specs.Arming.{armed_to_read, armed_to_write, asked_to_read, asked_to_write}
use Rattle.relay_model.specs.Cause.{running}
use Rattle.relay_model.specs.Transfers.{due, due_pieces, over, backlog, greatest_read, is_spent}
use Rattle.relay_model.specs.Moments.{passed, broken}
use Rattle.relay_model.specs.May.{BeginsWith, KeepsBorders, MayAsk, MayRead, MayOffer, MayWrite, MayTryWrite, MayShut}
use Rattle.relay_model.specs.Rest.{is_going, owes_write, must_pass, way_work}
use Rattle.relay_laws.proofs.PlaceLemmas.{same_place_self}
use Rattle.relay_laws.proofs.Permitted.{shuts_when_spent}
use Rattle.relay_buffer.specs.declared.lanes.Lane.{Lane}
use Rattle.relay_buffer.specs.Flows.{room_of, size_by, waiting}
use Rattle.session_direction.specs.States.{DirectionState}
use Rattle.session_direction.specs.Directions.{IsDirection, IsSpent, WantsNothing, WantsRead, WantsWrite, met_last, terms_of}
use Rattle.session_direction.proofs.Pieces.{pieces_written}
use Rattle.session_direction.proofs.Steps.{keeps_packets}

-- ---- what waits, and the end

-- as many bytes wait as are due and weren't written
pub waits_is : (c : Config) (past : List Act) (s : ℕ) (w : Way) (d : DirectionState) → IsDirection c past s w d → backlog c past s w ≡ length d.flow.backlog
waits_is c past s w d f =
    let whole = ap length f.flow_is.bytes in
    let parts = length-append (put past (output c s w)) d.flow.backlog in
    omega (arith, whole, parts)

none_of : (xs : List ℕ) → length xs ≡ 0 → xs ≡ []
none_of [] e = refl
none_of (x ∷ xs) e = absurd (omega (arith, e))

pub spent_is : (c : Config) (past : List Act) (s : ℕ) (w : Way) (d : DirectionState) → IsDirection c past s w d → is_spent c past s w ≡ true → IsSpent c past s w d
spent_is c past s w d f spent =
    let parts = and_parts (over c past (input c s w)) (backlog c past s w == 0) spent in
    record { emptied = none_of d.flow.backlog (sym (waits_is c past s w d f) ∙ eqb-true (backlog c past s w) 0 parts.1); is_over = parts.0 }

pub shut_is_spent : (c : Config) (past : List Act) (s : ℕ) (w : Way) (d : DirectionState) (way : Shutting) → IsDirection c past s w d → MayShut c past (output c s w) way → IsSpent c past s w d
shut_is_spent c past s w d way f may = spent_is c past s w d f (shuts_when_spent c past s w way may)

-- an end that counts was met, or the bytes ended the input
pub over_is : (c : Config) (past : List Act) (s : ℕ) (w : Way) (d : DirectionState) (r : Bool) → r ≡ is_over (terms_of c w).readbytes (terms_of c w).escape (got past (input c s w)) → IsDirection c past s w d → (d.ended || r) ≡ over c past (input c s w)
over_is c past s w d r e f = ap (λ b. d.ended || b) e ∙ ap (λ b. b || is_over (terms_of c w).readbytes (terms_of c w).escape (got past (input c s w))) f.ended_is

-- ---- a write

begins : (c : Config) (past : List Act) (s : ℕ) (w : Way) (d : DirectionState) (n : ℕ) → IsDirection c past s w d → BeginsWith (put past (output c s w) ++ take n d.flow.backlog) (due c w (got past (input c s w)))
begins c past s w d n f =
    (drop n d.flow.backlog, sym f.flow_is.bytes ∙ ap (λ l. put past (output c s w) ++ l) (sym (take-append-drop n d.flow.backlog)) ∙ sym (append_assoc (put past (output c s w)) (take n d.flow.backlog) (drop n d.flow.backlog)))

whole_pieces : (c : Config) (past : List Act) (s : ℕ) (w : Way) (d : DirectionState) (n : ℕ) (keeps : Bool) → keeps_borders c w ≡ keeps → 1 ≤ n → (is_some d.flow.lane.packets ≡ true → n ≡ length d.flow.backlog) → IsDirection c past s w d → KeepsBorders keeps (sent past (output c s w) ++ take n d.flow.backlog ∷ []) (due_pieces c past s w)
whole_pieces c past s w d n false keeps some whole f = tt
whole_pieces c past s w d n true keeps some whole f =
    ([], pieces_written (due_pieces c past s w) (sent past (output c s w)) d.flow.backlog n some (whole (keeps_packets c past s w d f keeps)) (f.pieces_are keeps) ∙ sym (append-nil (sent past (output c s w) ++ take n d.flow.backlog ∷ [])))

pub may_write_some : (c : Config) (past : List Act) (s : ℕ) (w : Way) (d : DirectionState) (n : ℕ) → 1 ≤ n → n ≤ length d.flow.backlog → (is_some d.flow.lane.packets ≡ true → n ≡ length d.flow.backlog) → IsDirection c past s w d → MayOffer c past (output c s w) → MayWrite c past (output c s w) (take n d.flow.backlog)
may_write_some c past s LeftToRight d n some within whole f may =
    record { offers = may; some_bytes = rw (length-take-le n d.flow.backlog within) some; is_due = begins c past s LeftToRight d n f; pieces = whole_pieces c past s LeftToRight d n (keeps_borders c LeftToRight) refl some whole f }
may_write_some c past s RightToLeft d n some within whole f may =
    record { offers = may; some_bytes = rw (length-take-le n d.flow.backlog within) some; is_due = begins c past s RightToLeft d n f; pieces = whole_pieces c past s RightToLeft d n (keeps_borders c RightToLeft) refl some whole f }

-- ---- moving

pub moves_is : (c : Config) (past : List Act) (s : ℕ) (w : Way) → formed c w ≡ true → running c past s ≡ true → broken c past s w ≡ false → is_going c past s w ≡ true
moves_is c past s w formed runs whole = ap (λ b. b && not (broken c past s w) && running c past s) formed ∙ ap (λ b. not b && running c past s) whole ∙ runs

not_moving : (c : Config) (past : List Act) (s : ℕ) (w : Way) → broken c past s w ≡ true → is_going c past s w ≡ false
not_moving c past s w broke = ap (λ b. formed c w && not b && running c past s) broke ∙ go (formed c w)
  where
    go : (b : Bool) → (b && false && running c past s) ≡ false
    go true = refl
    go false = refl

four_parts : (a b c d : Bool) → (a && b && c && d) ≡ true → (a ≡ true) × (b ≡ true) × (c ≡ true) × (d ≡ true)
four_parts true true true true e = (refl, refl, refl, refl)
four_parts true true true false e = absurd (false≢true e)
four_parts true true false d e = absurd (false≢true e)
four_parts true false c d e = absurd (false≢true e)
four_parts false b c d e = absurd (false≢true e)

three_parts : (a b c : Bool) → (a && b && c) ≡ true → (a ≡ true) × (b ≡ true) × (c ≡ true)
three_parts true true true e = (refl, refl, refl)
three_parts true true false e = absurd (false≢true e)
three_parts true false c e = absurd (false≢true e)
three_parts false b c e = absurd (false≢true e)

both : {P : Type 0} (b : Bool) → b ≡ true → b ≡ false → P
both b t f = absurd (true≢false (sym t ∙ f))

not_true : (b : Bool) → not b ≡ true → b ≡ false
not_true true e = absurd (false≢true e)
not_true false e = refl

not_false : (b : Bool) → b ≡ false → not b ≡ true
not_false true e = absurd (true≢false e)
not_false false e = refl

never : (b : Bool) → (b ≡ true → ⊥) → b ≡ false
never true h = absurd (h refl)
never false h = refl

-- ---- nothing is left to be done

pub broken_wants_nothing : (c : Config) (past : List Act) (s : ℕ) (w : Way) → broken c past s w ≡ true → WantsNothing c past s w
broken_wants_nothing c past s w broke =
    let still = not_moving c past s w broke in
    record {
      read_tried = λ e. both (is_going c past s w) (four_parts (is_going c past s w) (armed_to_read past (input c s w)) (not (over c past (input c s w))) (backlog c past s w == 0) e).0 still;
      write_tried = λ e. both (is_going c past s w) (three_parts (is_going c past s w) (armed_to_write past (output c s w)) (nat_lt 0 (backlog c past s w)) e).0 still;
      passed_on = never (must_pass c past s w) (λ e. both (is_going c past s w) (three_parts (is_going c past s w) (is_spent c past s w) (not (passed c past s w)) e).0 still);
      read_ahead = λ e. both (is_going c past s w) e still;
    }

pub passed_wants_nothing : (c : Config) (past : List Act) (s : ℕ) (w : Way) (d : DirectionState) → IsDirection c past s w d → passed c past s w ≡ true → WantsNothing c past s w
passed_wants_nothing c past s w d f done =
    let spent = f.passed_is_spent (ap is_some f.passed_is ∙ done) in
    let none : backlog c past s w ≡ 0 = waits_is c past s w d f ∙ ap length spent.emptied in
    record {
      read_tried = λ e. both (over c past (input c s w)) spent.is_over (not_true (over c past (input c s w)) (four_parts (is_going c past s w) (armed_to_read past (input c s w)) (not (over c past (input c s w))) (backlog c past s w == 0) e).2);
      write_tried = λ e. both (nat_lt 0 (backlog c past s w)) (three_parts (is_going c past s w) (armed_to_write past (output c s w)) (nat_lt 0 (backlog c past s w)) e).2 (ap (nat_lt 0) none);
      passed_on = never (must_pass c past s w) (λ e. both (passed c past s w) done (not_true (passed c past s w) (three_parts (is_going c past s w) (is_spent c past s w) (not (passed c past s w)) e).2));
      read_ahead = λ _ _ going. both (over c past (input c s w)) spent.is_over going;
    }

-- ---- the room

cap_some : (conv : Conv) → 1 ≤ packet_cap conv
cap_some Plain = omega arith
cap_some Cr = omega arith
cap_some Crnl = omega arith

left_some : (readbytes : Option ℕ) (xs : List ℕ) (n : ℕ) → is_used_up readbytes xs ≡ false → 1 ≤ n → 1 ≤ at_most_left readbytes (length xs) n
left_some None xs n more some = some
left_some (Some most) xs n more some = let less = leb-false most (length xs) more in omega (arith, less, some)

size_some : (keeps : Bool) (block cap : ℕ) (readbytes : Option ℕ) (xs : List ℕ) (waits : ℕ) → 1 ≤ block → 1 ≤ cap → waits ≡ 0 → is_used_up readbytes xs ≡ false → 1 ≤ cond keeps (packet_size block cap readbytes (length xs) waits) (read_size block readbytes (length xs) waits)
size_some true block cap readbytes xs waits blocks caps none more = rw none (left_some readbytes xs (min block cap) more (omega (arith, blocks, caps)))
size_some false block cap readbytes xs waits blocks caps none more = left_some readbytes xs (min block ((2 * block - waits) / 2)) more (omega (arith, blocks, none))

neither : (a b : Bool) → (a || b) ≡ false → (a ≡ false) × (b ≡ false)
neither true b e = absurd (true≢false e)
neither false b e = (refl, e)

bytes_go_on : (c : Config) (past : List Act) (s : ℕ) (w : Way) → over c past (input c s w) ≡ false → is_over (terms_of c w).readbytes (terms_of c w).escape (got past (input c s w)) ≡ false
bytes_go_on c past s w going = (neither (met_last c past s w) (is_over (terms_of c w).readbytes (terms_of c w).escape (got past (input c s w))) going).1

-- where nothing waits, something may be read
pub room_some : (c : Config) (past : List Act) (s : ℕ) (w : Way) → 1 ≤ c.block → over c past (input c s w) ≡ false → backlog c past s w ≡ 0 → 1 ≤ greatest_read c past s w
room_some c past s w blocks going none =
    let t = terms_of c w in
    let more = (neither (is_used_up t.readbytes (got past (input c s w))) (is_met t.readbytes t.escape (got past (input c s w))) (bytes_go_on c past s w going)).0 in
    size_some (keeps_borders c w) c.block (packet_cap (options_of c (output c 0 w)).conv) t.readbytes (got past (input c s w)) (backlog c past s w) blocks (cap_some (options_of c (output c 0 w)).conv) none more

size_is : (keeps : Bool) (c : Config) (w : Way) (count waits : ℕ) → size_by (only_if keeps (packet_cap (options_of c (output c 0 w)).conv)) (terms_of c w) count waits ≡ cond keeps (packet_size c.block (packet_cap (options_of c (output c 0 w)).conv) (terms_of c w).readbytes count waits) (read_size c.block (terms_of c w).readbytes count waits)
size_is true c w count waits = refl
size_is false c w count waits = refl

-- a flow's room is the direction's
pub room_is : (c : Config) (past : List Act) (s : ℕ) (w : Way) → over c past (input c s w) ≡ false → room_of (terms_of c w) (got past (input c s w)) (put past (output c s w)) ≡ greatest_read c past s w
room_is c past s w going =
    ap (λ b. cond b 0 (size_by (terms_of c w).packets (terms_of c w) (length (got past (input c s w))) (waiting (terms_of c w) (got past (input c s w)) (put past (output c s w))))) (bytes_go_on c past s w going)
    ∙ size_is (keeps_borders c w) c w (length (got past (input c s w))) (backlog c past s w)

-- ---- wants

pub wants_shut : (c : Config) (past : List Act) (s : ℕ) (w : Way) → formed c w ≡ true → running c past s ≡ true → broken c past s w ≡ false → passed c past s w ≡ false → is_spent c past s w ≡ true → MayShut c past (output c s w) (how c (output c s w))
wants_shut c past s LeftToRight formed runs whole going spent = record { is_output = same_place_self (output c s LeftToRight); moving = moves_is c past s LeftToRight formed runs whole; spent = spent; not_passed = going; is_how = refl }
wants_shut c past s RightToLeft formed runs whole going spent = record { is_output = same_place_self (output c s RightToLeft); moving = moves_is c past s RightToLeft formed runs whole; spent = spent; not_passed = going; is_how = refl }

may_offer : (c : Config) (past : List Act) (s : ℕ) (w : Way) → is_going c past s w ≡ true → passed c past s w ≡ false → armed_to_write past (output c s w) ≡ true → MayOffer c past (output c s w)
may_offer c past s LeftToRight moving going armed = record { is_output = same_place_self (output c s LeftToRight); moving = moving; not_passed = going; armed = armed }
may_offer c past s RightToLeft moving going armed = record { is_output = same_place_self (output c s RightToLeft); moving = moving; not_passed = going; armed = armed }

some_waits : (n : ℕ) → nat_lt 0 n ≡ true → 1 ≤ n
some_waits n e = grind (arith, e)

may_try : (c : Config) (past : List Act) (s : ℕ) (w : Way) → MayOffer c past (output c s w) → 1 ≤ backlog c past s w → MayTryWrite c past (output c s w)
may_try c past s LeftToRight may some = record { offers = may; waiting = some }
may_try c past s RightToLeft may some = record { offers = may; waiting = some }

pub wants_write : (c : Config) (past : List Act) (s : ℕ) (w : Way) (keeps : Bool) → owes_write c past s w ≡ true → passed c past s w ≡ false → keeps_borders c w ≡ keeps → WantsWrite c past s w keeps
wants_write c past s w keeps may going borders =
    let parts = three_parts (is_going c past s w) (armed_to_write past (output c s w)) (nat_lt 0 (backlog c past s w)) may in
    record { may = may_try c past s w (may_offer c past s w parts.0 going parts.1) (some_waits (backlog c past s w) parts.2); borders = borders }

may_ask : (c : Config) (past : List Act) (s : ℕ) (w : Way) → is_going c past s w ≡ true → passed c past s w ≡ false → over c past (input c s w) ≡ false → armed_to_read past (input c s w) ≡ true → MayAsk c past (input c s w)
may_ask c past s LeftToRight moving going more armed = record { is_input = same_place_self (input c s LeftToRight); moving = moving; not_passed = going; not_over = more; armed = armed }
may_ask c past s RightToLeft moving going more armed = record { is_input = same_place_self (input c s RightToLeft); moving = moving; not_passed = going; not_over = more; armed = armed }

may_read_some : (c : Config) (past : List Act) (s : ℕ) (w : Way) (n : ℕ) → MayAsk c past (input c s w) → 1 ≤ n → n ≤ greatest_read c past s w → MayRead c past (input c s w) n
may_read_some c past s LeftToRight n may some within = record { asks = may; some_bytes = some; in_room = within }
may_read_some c past s RightToLeft n may some within = record { asks = may; some_bytes = some; in_room = within }

pub wants_read : (c : Config) (past : List Act) (s : ℕ) (w : Way) (n : ℕ) → formed c w ≡ true → running c past s ≡ true → broken c past s w ≡ false → passed c past s w ≡ false → (armed_to_read past (input c s w) && not (over c past (input c s w))) ≡ true → 1 ≤ n → n ≡ room_of (terms_of c w) (got past (input c s w)) (put past (output c s w)) → WantsRead c past s w n
wants_read c past s w n formed runs whole going worth some is =
    let parts = and_parts (armed_to_read past (input c s w)) (not (over c past (input c s w))) worth in
    let more = not_true (over c past (input c s w)) parts.1 in
    let size : n ≡ greatest_read c past s w = is ∙ room_is c past s w more in
    record {
      may = may_read_some c past s w n (may_ask c past s w (moves_is c past s w formed runs whole) going more parts.0) some (omega (arith, size));
      size = size;
    }

-- nothing is to be read: then nothing is left, where the rest was tried
pub wants_nothing : (c : Config) (past : List Act) (s : ℕ) (w : Way) → 1 ≤ c.block → is_spent c past s w ≡ false → (owes_write c past s w ≡ true → asked_to_write past (input c s w) (output c s w) ≡ true) → (armed_to_read past (input c s w) ≡ true → over c past (input c s w) ≡ false → backlog c past s w ≤ c.block → 1 ≤ greatest_read c past s w → asked_to_read past (input c s w) ≡ true) → WantsNothing c past s w
wants_nothing c past s w blocks unspent written tried =
    record {
      read_tried = λ e.
          let parts = four_parts (is_going c past s w) (armed_to_read past (input c s w)) (not (over c past (input c s w))) (backlog c past s w == 0) e in
          let more = not_true (over c past (input c s w)) parts.2 in
          let none = eqb-true (backlog c past s w) 0 parts.3 in
          tried parts.1 more (omega (arith, none)) (room_some c past s w blocks more none);
      write_tried = written;
      passed_on = never (must_pass c past s w) (λ e. both (is_spent c past s w) (three_parts (is_going c past s w) (is_spent c past s w) (not (passed c past s w)) e).1 unspent);
      read_ahead = λ _ armed more within some. tried armed more within some;
    }

packets_of : (keeps : Bool) (cap : ℕ) → is_some (only_if keeps cap) ≡ keeps
packets_of true cap = refl
packets_of false cap = refl

-- pieces go out as packets exactly where borders are kept
pub packets_are : (c : Config) (w : Way) (lane : Lane) → lane ≡ terms_of c w → is_some lane.packets ≡ keeps_borders c w
packets_are c w lane e = ap (λ l. is_some l.packets) e ∙ packets_of (keeps_borders c w) (packet_cap (options_of c (output c 0 w)).conv)

-- ---- work

work_none : (armed more out : Bool) → (armed && more) ≡ ((armed && more && true) || (out && false))
work_none true true out = refl
work_none true false true = refl
work_none true false false = refl
work_none false more true = refl
work_none false more false = refl

work_some : (armed more out : Bool) → out ≡ ((armed && more && false) || (out && true))
work_some true true true = refl
work_some true true false = refl
work_some true false true = refl
work_some true false false = refl
work_some false more true = refl
work_some false more false = refl

pub work_spent : (c : Config) (past : List Act) (s : ℕ) (w : Way) → is_going c past s w ≡ true → backlog c past s w ≡ 0 → (armed_to_read past (input c s w) && not (over c past (input c s w))) ≡ way_work c past s w
work_spent c past s w moving none =
    work_none (armed_to_read past (input c s w)) (not (over c past (input c s w))) (armed_to_write past (output c s w))
    ∙ ap (λ n. (armed_to_read past (input c s w) && not (over c past (input c s w)) && n == 0) || (armed_to_write past (output c s w) && nat_lt 0 n)) (sym none)
    ∙ ap (λ m. (m && armed_to_read past (input c s w) && not (over c past (input c s w)) && backlog c past s w == 0) || (m && armed_to_write past (output c s w) && nat_lt 0 (backlog c past s w))) (sym moving)

some_is : (n : ℕ) → (n == 0) ≡ false → nat_lt 0 n ≡ true
some_is n e = grind (arith, e)

pub work_waits : (c : Config) (past : List Act) (s : ℕ) (w : Way) → is_going c past s w ≡ true → (backlog c past s w == 0) ≡ false → armed_to_write past (output c s w) ≡ way_work c past s w
work_waits c past s w moving some =
    work_some (armed_to_read past (input c s w)) (not (over c past (input c s w))) (armed_to_write past (output c s w))
    ∙ ap (λ e. (armed_to_read past (input c s w) && not (over c past (input c s w)) && e) || (armed_to_write past (output c s w) && true)) (sym some)
    ∙ ap (λ e. (armed_to_read past (input c s w) && not (over c past (input c s w)) && backlog c past s w == 0) || (armed_to_write past (output c s w) && e)) (sym (some_is (backlog c past s w) some))
    ∙ ap (λ m. (m && armed_to_read past (input c s w) && not (over c past (input c s w)) && backlog c past s w == 0) || (m && armed_to_write past (output c s w) && nat_lt 0 (backlog c past s w))) (sym moving)
