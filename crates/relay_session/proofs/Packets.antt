-- What is sent as one packet fits one.
use Rattle.std.proofs.Common.{◌≡◌, refl, sym, ap, subst, ◌∙◌, ℕ, ◌+◌, ◌-◌, ◌≤◌, min, Bool, true, false, cond, ◌==◌, List, [], ◌∷◌, ◌++◌, length, map, filter, Option, Some, None, arith, le_trans, le_refl, length-append}
use Rattle.std.proofs.lemmas.Bool.{false≢true, eqb-true}
use Rattle.std.proofs.lemmas.List.{map-append}
use Rattle.std.proofs.lemmas.List.Elements.{filter-append}
use Rattle.std.proofs.lemmas.Grind.{common_steps}
use Rattle.relay_model.specs.declared.places.Place.{Place}
use Rattle.relay_model.specs.declared.places.Way.{Way}
use Rattle.relay_model.specs.declared.commands.Config.{Config}
use Rattle.relay_model.specs.declared.commands.Conv.{Conv}
use Rattle.relay_model.specs.declared.commands.Conv.TheVariants.{Plain, Cr, Crnl}
use Rattle.relay_model.specs.declared.acts.Act.{Act}
use Rattle.relay_model.specs.declared.acts.Act.TheVariants.{Read, Wrote}
use Rattle.relay_model.specs.Places.{same_place}
use Rattle.relay_model.specs.Choices.{joined}
use Rattle.relay_model.specs.Configs.{input, output, options_of, keeps_borders, formed, way_to}
use Rattle.relay_model.specs.Conversions.{read_converted, write_converted, first_bytes, before_escape, effective, due_of, at_most_left, read_size, packet_cap, packet_size}
use Rattle.relay_model.specs.History.{got, put}
use Rattle.relay_model.specs.Transfers.{due, backlog}
use Rattle.relay_model.specs.May.{Legal, MayRead}
use Rattle.relay_laws.proofs.PlaceLemmas.{same_place_equal}
use Rattle.relay_laws.proofs.Growth.{Grows, same, grows_take, grows_before, grown, due_of_grows, due_nil}
use Rattle.relay_laws.proofs.Holdings.{moves_formed}
use Rattle.session_direction.proofs.Wanted.{packets_are}
use Rattle.relay_session.specs.declared.lanes.SessionLane.{SessionLane}
use Rattle.relay_session.specs.declared.lanes.SessionLane.TheVariants.{Unformed, Formed}
use Rattle.relay_session.specs.declared.states.State.{State}
use Rattle.relay_session.specs.declared.wishes.Wish.{Wish}
use Rattle.relay_session.specs.declared.wishes.Wish.TheVariants as wishes
use Rattle.relay_session.specs.Lanes.{IsLane, AreLanes, keeps_pieces, lane_at, waiting_at}
use Rattle.relay_session.specs.States.{Fields, Wished}
use Rattle.relay_session.specs.Steps.{waiting_for, keeps_for}
use Rattle.relay_session.proofs.LaneLemmas.{reads_at}
use Rattle.relay_session.proofs.Conditions.{waits, lane_of}

-- ---- what more bytes add to what is due

first_grows : (o : Option ℕ) (xs ys : List ℕ) → Grows (first_bytes o xs) (first_bytes o (xs ++ ys)) (length ys)
first_grows None xs ys = same xs ys
first_grows (Some n) xs ys = grows_take n xs ys

escape_grows : (o : Option ℕ) (xs ys : List ℕ) → Grows (before_escape o xs) (before_escape o (xs ++ ys)) (length ys)
escape_grows None xs ys = same xs ys
escape_grows (Some e) xs ys = grows_before (λ b. b == e) xs ys

length_map : (f : ℕ → ℕ) (xs : List ℕ) → length (map f xs) ≤ length xs
length_map f xs = grind (arith, common_steps)

length_filter : (p : ℕ → Bool) (xs : List ℕ) → length (filter p xs) ≤ length xs
length_filter p [] = le_refl 0
length_filter p (x ∷ xs) = go (p x) (length_filter p xs)
  where
    go : (b : Bool) → length (filter p xs) ≤ length xs → length (cond b (x ∷ filter p xs) (filter p xs)) ≤ length (x ∷ xs)
    go true h = omega (arith, h)
    go false h = omega (arith, h)

read_grows : (v : Conv) (xs ys : List ℕ) → Grows (read_converted v xs) (read_converted v (xs ++ ys)) (length ys)
read_grows Plain xs ys = same xs ys
read_grows Cr xs ys = record { more = read_converted Cr ys; is = map-append _ xs ys; few = length_map _ ys }
read_grows Crnl xs ys = record { more = read_converted Crnl ys; is = filter-append _ xs ys; few = length_filter _ ys }

write_grows : (xs ys : List ℕ) → Grows (write_converted Cr xs) (write_converted Cr (xs ++ ys)) (length ys)
write_grows xs ys = record { more = write_converted Cr ys; is = map-append _ xs ys; few = length_map _ ys }

effective_grows : (v : Conv) (readbytes escape : Option ℕ) (xs ys : List ℕ) → Grows (read_converted v (effective readbytes escape xs)) (read_converted v (effective readbytes escape (xs ++ ys))) (length ys)
effective_grows v readbytes escape xs ys =
    grown (read_converted v) (read_grows v) (effective readbytes escape xs) (effective readbytes escape (xs ++ ys)) (length ys)
    (grown (before_escape escape) (escape_grows escape) (first_bytes readbytes xs) (first_bytes readbytes (xs ++ ys)) (length ys) (first_grows readbytes xs ys))

within : (xs zs : List ℕ) (n most : ℕ) → Grows xs zs n → n ≤ most → Grows xs zs most
within xs zs n most g h = record { more = g.more; is = g.is; few = le_trans g.few h }

-- as many bytes as are read for one packet add no more than fits one
due_fits : (rv wv : Conv) (readbytes escape : Option ℕ) (xs ys : List ℕ) → length ys ≤ packet_cap wv → Grows (due_of rv wv readbytes escape xs) (due_of rv wv readbytes escape (xs ++ ys)) 65507
due_fits rv Plain readbytes escape xs ys h =
    within (due_of rv Plain readbytes escape xs) (due_of rv Plain readbytes escape (xs ++ ys)) (length ys) 65507 (effective_grows rv readbytes escape xs ys) h
due_fits rv Cr readbytes escape xs ys h =
    within (due_of rv Cr readbytes escape xs) (due_of rv Cr readbytes escape (xs ++ ys)) (length ys) 65507
    (grown (write_converted Cr) write_grows (read_converted rv (effective readbytes escape xs)) (read_converted rv (effective readbytes escape (xs ++ ys))) (length ys) (effective_grows rv readbytes escape xs ys)) h
due_fits rv Crnl readbytes escape xs ys h =
    let g = due_of_grows rv Crnl readbytes escape xs ys in
    let few = g.few in
    let cap : length ys ≤ 32753 = h in
    record { more = g.more; is = g.is; few = omega (arith, few, cap) }

-- ---- the backlog

left_below : (o : Option ℕ) (count n : ℕ) → at_most_left o count n ≤ n
left_below None count n = omega arith
left_below (Some most) count n = omega arith

-- a packet is read while nothing waits
read_alone : (block cap : ℕ) (o : Option ℕ) (count b n : ℕ) → 1 ≤ n → n ≤ packet_size block cap o count b → (b ≡ 0) × (n ≤ cap)
read_alone block cap o count b n some in_room = go (b == 0) refl in_room
  where
    go : (t : Bool) → (b == 0) ≡ t → n ≤ cond t (at_most_left o count (min block cap)) 0 → (b ≡ 0) × (n ≤ cap)
    go true e h = let k = left_below o count (min block cap) in (eqb-true b 0 e, omega (arith, h, k))
    go false e h = absurd (omega (arith, h, some))

packet_room : (keeps : Bool) (n packet stream : ℕ) → keeps ≡ true → n ≤ cond keeps packet stream → n ≤ packet
packet_room true n packet stream e h = h
packet_room false n packet stream e h = absurd (false≢true e)

fits_after : (before written after more : ℕ) → after ≡ before + more → more ≤ 65507 → before - written ≡ 0 → after - written ≤ 65507
fits_after before written after more e few none = omega (arith, e, few, none)

pub backlog_fits : (c : Config) (n : ℕ) (past : List Act) (s : ℕ) (w : Way) → keeps_borders c w ≡ true → Legal c n past → backlog c past s w ≤ 65507
backlog_fits c n [] s w keeps legal = let e = ap length (due_nil c w) in omega (arith, e)
backlog_fits c n (Read p bytes ∷ past) s w keeps legal = go (same_place p (input c s w)) refl (backlog_fits c n past s w keeps legal.1)
  where
    go : (b : Bool) → same_place p (input c s w) ≡ b → backlog c past s w ≤ 65507 → length (due c w (joined b (got past (input c s w)) bytes)) - length (put past (output c s w)) ≤ 65507
    go true e h =
        let m = subst (λ q. MayRead c past q (length bytes)) (same_place_equal p (input c s w) e) legal.0.1 in
        let cap = packet_cap (options_of c (output c 0 w)).conv in
        let readbytes = (options_of c (input c 0 w)).input.readbytes in
        let count = length (got past (input c s w)) in
        let in_room = packet_room (keeps_borders c w) (length bytes) (packet_size c.block cap readbytes count (backlog c past s w)) (read_size c.block readbytes count (backlog c past s w)) keeps (reads_at c past s w (length bytes) m).in_room in
        let alone = read_alone c.block cap readbytes count (backlog c past s w) (length bytes) m.some_bytes in_room in
        let g = due_fits (options_of c (input c 0 w)).conv (options_of c (output c 0 w)).conv readbytes (options_of c (input c 0 w)).input.escape (got past (input c s w)) bytes alone.1 in
        fits_after (length (due c w (got past (input c s w)))) (length (put past (output c s w))) (length (due c w (got past (input c s w) ++ bytes))) (length g.more)
        (ap length g.is ∙ length-append (due c w (got past (input c s w))) g.more) g.few alone.0
    go false e h = h
backlog_fits c n (Wrote p bytes ∷ past) s w keeps legal = go (same_place p (output c s w)) (backlog_fits c n past s w keeps legal.1)
  where
    go : (b : Bool) → backlog c past s w ≤ 65507 → length (due c w (got past (input c s w))) - length (joined b (put past (output c s w)) bytes) ≤ 65507
    go true h = let e = length-append (put past (output c s w)) bytes in omega (arith, h, e)
    go false h = h
backlog_fits c n (act ∷ past) s w keeps legal = backlog_fits c n past s w keeps legal.1

-- ---- what is offered

lane_keeps : (c : Config) (past : List Act) (s : ℕ) (w : Way) (lane : SessionLane) → IsLane c past s w lane → formed c w ≡ true → keeps_pieces lane ≡ keeps_borders c w
lane_keeps c past s w Unformed is_lane e = absurd (false≢true (sym is_lane ∙ e))
lane_keeps c past s w (Formed d) is_lane e = packets_are c w d.flow.lane is_lane.flow_is.lane_is

fitting : (xs waiting : List ℕ) (n : ℕ) → xs ≡ waiting → n ≡ length waiting → n ≤ 65507 → length xs ≤ 65507
fitting xs waiting n e f h = let g = ap length e in omega (arith, f, g, h)

-- a packet that is wished for is offered whole, and fits one
pub packet_offered : (c : Config) (n : ℕ) (past : List Act) (s : ℕ) (st : State) (wish : Wish) (p : Place) (xs : List ℕ) → Fields c n past s st → Wished c n past s wish → Legal c n past → wish ≡ wishes.Send p → (keeps_for st wish ≡ true → xs ≡ waiting_for st wish) → (xs ≡ waiting_for st wish) × (length xs ≤ 65507)
packet_offered c n past s st wish p xs f h legal e whole =
    let offers = subst (Wished c n past s) e h in
    let w = way_to p.side in
    let is_formed = moves_formed c past p.session w offers.may.offers.moving in
    let lanes = subst (λ x. AreLanes c past x st.lanes) (sym offers.own) f.ground.lanes_are in
    let keeps : keeps_for st wish ≡ true = subst (λ x. keeps_for st x ≡ true) (sym e) (lane_keeps c past p.session w (lane_at st.lanes w) (lane_of c past p.session w st.lanes lanes) is_formed ∙ offers.keeps) in
    let all = whole keeps in
    let same_bytes : xs ≡ waiting_at st.lanes p = subst (λ x. xs ≡ waiting_for st x) e all in
    (all, fitting xs (waiting_at st.lanes p) (backlog c past p.session w) same_bytes (waits c past p.session w st.lanes lanes is_formed) (backlog_fits c n past p.session w offers.keeps legal))
