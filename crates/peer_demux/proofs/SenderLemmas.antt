-- Whose packets a row has, from one call to the next.
use Rattle.std.proofs.Common.{◌≡◌, ℕ, zero, suc, ◌+◌, ◌<◌, ◌≤◌, List, [], ◌∷◌, ◌++◌, length, take, set, None, Some, refl, sym, ap, subst, ◌∙◌, inl, inr, ◌⊎◌, arith}
use Rattle.std.proofs.lemmas.Bool.{cases_lt}
use Rattle.std.proofs.lemmas.List.{length-append, length-set, length-take}
use Rattle.std.proofs.lemmas.List.Edits.{length-remove}
use Rattle.std.specs.List.{remove}
use Rattle.relay_model.specs.declared.acts.Peer.{Peer}
use Rattle.peer_demux.specs.declared.answers.Mode.{Mode}
use Rattle.peer_demux.specs.declared.answers.Mode.TheVariants as modes
use Rattle.peer_demux.specs.declared.answers.Put.TheVariants as puts
use Rattle.peer_demux.specs.declared.answers.Taken.{Taken}
use Rattle.peer_demux.specs.declared.answers.Taken.TheVariants as takes
use Rattle.peer_demux.specs.Rows.{RowState, after_giving, first_packet, fresh_row}
use Rattle.peer_demux.specs.Tables.{GivesAt, GivesTaken, IsRowTable, IsUnknown, RowStands, TableState, row_at}
use Rattle.peer_demux.proofs.Places.{same_number}
use Rattle.std.proofs.Common.{true, false, cond, ltb, drop}
use Rattle.peer_demux.specs.Stories.{DemuxStep, Came, HandedOut, Gave, LetGo, TurnedAway, Told, IsStep, Leads, IsFrom, AllFrom, PacketsAreTheSenders, OneRowASender}
use Rattle.peer_demux.proofs.Kept.{in_order, once, push_below, push_here, shift, shift_row, shift_within, taken_front}

-- ---- where each row comes from

-- it was there before, under this number and with this sender
record Was (rows now : List RowState) (q p : ℕ) : Type 0 where
  inside : p < length rows
  same : (row_at now q).number ≡ (row_at rows p).number
  whose : (row_at now q).peer ≡ (row_at rows p).peer

-- it was made of a packet of its sender, who had none
record IsMade (before now : TableState) (step : DemuxStep) (q : ℕ) (bytes : List ℕ) : Type 0 where
  next : (row_at now.rows q).number ≡ before.made
  made : now.made ≡ before.made + 1
  came : step ≡ Came (row_at now.rows q).peer bytes (puts.New before.made)
  unknown : IsUnknown before (row_at now.rows q).peer

abbrev Origin : TableState → TableState → DemuxStep → ℕ → Type 0
Origin before now step q = ((p : ℕ) × Was before.rows now.rows q p) ⊎ ((bytes : List ℕ) × IsMade before now step q bytes)

same_peer : (rows : List RowState) (place i : ℕ) (row : RowState) → row.peer ≡ (row_at rows place).peer → (row_at (set rows place row) i).peer ≡ (row_at rows i).peer
same_peer [] place i row same = refl
same_peer (r ∷ rows) zero zero row same = same
same_peer (r ∷ rows) zero (suc i) row same = refl
same_peer (r ∷ rows) (suc place) zero row same = refl
same_peer (r ∷ rows) (suc place) (suc i) row same = same_peer rows place i row same

-- nothing but the counts changed
was_there : (rows : List RowState) (q : ℕ) → q < length rows → (p : ℕ) × Was rows rows q p
was_there rows q within = (q, record { inside = within; same = refl; whose = refl })

was_set : (rows : List RowState) (place q : ℕ) (row : RowState) → row.number ≡ (row_at rows place).number → row.peer ≡ (row_at rows place).peer → q < length (set rows place row) → (p : ℕ) × Was rows (set rows place row) q p
was_set rows place q row number peer within = (
  q,
  record { inside = (let l = length-set rows place row in omega (arith, l, within)); same = same_number rows place q row number; whose = same_peer rows place q row peer },
)

was_removed : (rows : List RowState) (place q : ℕ) → place < length rows → q < length (remove rows place) → (p : ℕ) × Was rows (remove rows place) q p
was_removed rows place q inside within =
    let row = shift_row rows place q inside in (
      shift place q,
      record {
        inside = (let l = length-remove rows place inside in shift_within place q (length rows) (omega (arith, l, within)));
        same = ap (λ (r : RowState). r.number) row;
        whose = ap (λ (r : RowState). r.peer) row;
      },
    )

was_front : (rows : List RowState) (count q : ℕ) → q < length (take count rows) → (p : ℕ) × Was rows (take count rows) q p
was_front rows count q within =
    let l = length-take count rows in
    let row = taken_front rows count q (omega (arith, l, within)) in
    (q, record { inside = omega (arith, l, within); same = ap (λ (r : RowState). r.number) row; whose = ap (λ (r : RowState). r.peer) row })

gives_same : (row : RowState) (count : ℕ) → ((after_giving row count).number ≡ row.number) × ((after_giving row count).peer ≡ row.peer)
gives_same row count =
    elim (ltb (row.given + count) (length (first_packet row.packets))) as (λ b. ((cond b (record row { given = row.given + count }) (record row { packets = drop 1 row.packets; given = 0 })).number ≡ row.number) × ((cond b (record row { given = row.given + count }) (record row { packets = drop 1 row.packets; given = 0 })).peer ≡ row.peer)) [
      | true ↦ (refl, refl)
      | false ↦ (refl, refl)
    ]

was_given : (before now : TableState) (into : List ℕ) (place count q : ℕ) → GivesAt before now into place count → q < length now.rows → (p : ℕ) × Was before.rows now.rows q p
was_given before now into place count q gives within =
    let row = row_at now.rows place in
    let left = ap (λ (t : TableState). t.rows) gives.left in
    let kept = gives_same (row_at before.rows place) count in
    subst (λ (rows : List RowState). (p : ℕ) × Was before.rows rows q p) (sym left) (
    was_set before.rows place q row
    (ap (λ (r : RowState). r.number) gives.part.left ∙ kept.0)
    (ap (λ (r : RowState). r.peer) gives.part.left ∙ kept.1)
    (subst (λ (rows : List RowState). q < length rows) left within)
    )

was_taken : (before now : TableState) (into : List ℕ) (place q : ℕ) (taken : Taken) → GivesTaken before now into place taken → q < length now.rows → (p : ℕ) × Was before.rows now.rows q p
was_taken before now into place q (takes.Bytes count) gives within = was_given before now into place count q gives.1 within
was_taken before now into place q takes.Empty gives within = was_given before now into place 0 q gives within
was_taken before now into place q takes.NotYet gives within = let left = ap (λ (t : TableState). t.rows) gives.1.left in subst (λ (rows : List RowState). (p : ℕ) × Was before.rows rows q p) (sym left) (was_there before.rows q (subst (λ (rows : List RowState). q < length rows) left within))
was_taken before now into place q takes.End gives within = let left = ap (λ (t : TableState). t.rows) gives.1.left in subst (λ (rows : List RowState). (p : ℕ) × Was before.rows rows q p) (sym left) (was_there before.rows q (subst (λ (rows : List RowState). q < length rows) left within))

pushed : (before now : TableState) (from : Peer) (bytes : List ℕ) (q : ℕ) → now ≡ record before { rows = before.rows ++ fresh_row before.made from bytes ∷ []; made = before.made + 1 } → IsUnknown before from → q < length now.rows → (q < length before.rows) ⊎ (length before.rows ≤ q) → Origin before now (Came from bytes (puts.New before.made)) q
pushed before now from bytes q left unknown within (inl l) =
    let row = ap (λ (t : TableState). row_at t.rows q) left ∙ push_below before.rows (fresh_row before.made from bytes) q l in
    inl (q, record { inside = l; same = ap (λ (r : RowState). r.number) row; whose = ap (λ (r : RowState). r.peer) row })
pushed before now from bytes q left unknown within (inr m) =
    let size = ap (λ (t : TableState). length t.rows) left ∙ length-append before.rows (fresh_row before.made from bytes ∷ []) in
    let row = ap (λ (t : TableState). row_at t.rows q) left ∙ push_here before.rows (fresh_row before.made from bytes) q (omega (arith, m, within, size)) in
    let whose = ap (λ (r : RowState). r.peer) row in
    inr (
      bytes,
      record {
        next = ap (λ (r : RowState). r.number) row;
        made = ap (λ (t : TableState). t.made) left;
        came = ap (λ (peer : Peer). Came peer bytes (puts.New before.made)) (sym whose);
        unknown = subst (IsUnknown before) (sym whose) unknown;
      },
    )

-- what a call leaves was there, or was made by it
origin : (before now : TableState) (step : DemuxStep) (q : ℕ) → IsStep before now step → q < length now.rows → Origin before now step q
origin before now (Came from bytes (puts.New number)) q is within =
    subst (λ (n : ℕ). Origin before now (Came from bytes (puts.New n)) q) (sym is.next) (
    pushed before now from bytes q
    (is.left ∙ ap (λ (n : ℕ). record before { rows = before.rows ++ fresh_row n from bytes ∷ []; made = before.made + 1 }) is.next)
    is.unknown within (cases_lt q (length before.rows))
    )
origin before now (Came from bytes (puts.Queued number)) q is within =
    let left = ap (λ (t : TableState). t.rows) is.1.left in
    inl (subst (λ (rows : List RowState). (p : ℕ) × Was before.rows rows q p) (sym left) (was_set before.rows is.0 q _ refl refl (subst (λ (rows : List RowState). q < length rows) left within)))
origin before now (Came from bytes (puts.Dropped why)) q is within =
    let left = ap (λ (t : TableState). t.rows) is.1 in
    inl (subst (λ (rows : List RowState). (p : ℕ) × Was before.rows rows q p) (sym left) (was_there before.rows q (subst (λ (rows : List RowState). q < length rows) left within)))
origin before now (HandedOut None) q is within =
    let left = ap (λ (t : TableState). t.rows) is.0 in
    inl (subst (λ (rows : List RowState). (p : ℕ) × Was before.rows rows q p) (sym left) (was_there before.rows q (subst (λ (rows : List RowState). q < length rows) left within)))
origin before now (HandedOut (Some (number, peer))) q is within =
    let left = ap (λ (t : TableState). t.rows) is.1.left in
    inl (subst (λ (rows : List RowState). (p : ℕ) × Was before.rows rows q p) (sym left) (was_there before.rows q (subst (λ (rows : List RowState). q < length rows) left within)))
origin before now (Gave number into taken) q is within = inl (was_taken before now into is.0 q taken is.2 within)
origin before now (LetGo number) q is within =
    let left = ap (λ (t : TableState). t.rows) is.2 in
    inl (subst (λ (rows : List RowState). (p : ℕ) × Was before.rows rows q p) (sym left) (was_removed before.rows is.0 q is.1.within (subst (λ (rows : List RowState). q < length rows) left within)))
origin before now TurnedAway q is within =
    let left = ap (λ (t : TableState). t.rows) is.1.left in
    inl (subst (λ (rows : List RowState). (p : ℕ) × Was before.rows rows q p) (sym left) (was_front before.rows is.0 q (subst (λ (rows : List RowState). q < length rows) left within)))
origin before now (Told None) q is within =
    let left = ap (λ (t : TableState). t.rows) is.1 in
    inl (subst (λ (rows : List RowState). (p : ℕ) × Was before.rows rows q p) (sym left) (was_there before.rows q (subst (λ (rows : List RowState). q < length rows) left within)))
origin before now (Told (Some number)) q is within =
    let left = ap (λ (t : TableState). t.rows) is.1 in
    inl (subst (λ (rows : List RowState). (p : ℕ) × Was before.rows rows q p) (sym left) (was_there before.rows q (subst (λ (rows : List RowState). q < length rows) left within)))

-- ---- what a call puts into a row

-- as many rows were made, or one more, and the mode stays
record Goes (before now : TableState) : Type 0 where
  made : before.made ≤ now.made
  mode : now.mode ≡ before.mode

taken_goes : (before now : TableState) (into : List ℕ) (place : ℕ) (taken : Taken) → GivesTaken before now into place taken → Goes before now
taken_goes before now into place (takes.Bytes count) gives = record { made = (let e = ap (λ (t : TableState). t.made) gives.1.left in omega (arith, e)); mode = ap (λ (t : TableState). t.mode) gives.1.left }
taken_goes before now into place takes.Empty gives = record { made = (let e = ap (λ (t : TableState). t.made) gives.left in omega (arith, e)); mode = ap (λ (t : TableState). t.mode) gives.left }
taken_goes before now into place takes.NotYet gives = record { made = (let e = ap (λ (t : TableState). t.made) gives.1.left in omega (arith, e)); mode = ap (λ (t : TableState). t.mode) gives.1.left }
taken_goes before now into place takes.End gives = record { made = (let e = ap (λ (t : TableState). t.made) gives.1.left in omega (arith, e)); mode = ap (λ (t : TableState). t.mode) gives.1.left }

goes : (before now : TableState) (step : DemuxStep) → IsStep before now step → Goes before now
goes before now (Came from bytes (puts.New number)) is = record { made = (let e = ap (λ (t : TableState). t.made) is.left in omega (arith, e)); mode = ap (λ (t : TableState). t.mode) is.left }
goes before now (Came from bytes (puts.Queued number)) is = record { made = (let e = ap (λ (t : TableState). t.made) is.1.left in omega (arith, e)); mode = ap (λ (t : TableState). t.mode) is.1.left }
goes before now (Came from bytes (puts.Dropped why)) is = record { made = (let e = ap (λ (t : TableState). t.made) is.1 in omega (arith, e)); mode = ap (λ (t : TableState). t.mode) is.1 }
goes before now (HandedOut None) is = record { made = (let e = ap (λ (t : TableState). t.made) is.0 in omega (arith, e)); mode = ap (λ (t : TableState). t.mode) is.0 }
goes before now (HandedOut (Some (number, peer))) is = record { made = (let e = ap (λ (t : TableState). t.made) is.1.left in omega (arith, e)); mode = ap (λ (t : TableState). t.mode) is.1.left }
goes before now (Gave number into taken) is = taken_goes before now into is.0 taken is.2
goes before now (LetGo number) is = record { made = (let e = ap (λ (t : TableState). t.made) is.2 in omega (arith, e)); mode = ap (λ (t : TableState). t.mode) is.2 }
goes before now TurnedAway is = record { made = (let e = ap (λ (t : TableState). t.made) is.1.left in omega (arith, e)); mode = ap (λ (t : TableState). t.mode) is.1.left }
goes before now (Told None) is = record { made = (let e = ap (λ (t : TableState). t.made) is.1 in omega (arith, e)); mode = ap (λ (t : TableState). t.mode) is.1 }
goes before now (Told (Some number)) is = record { made = (let e = ap (λ (t : TableState). t.made) is.1 in omega (arith, e)); mode = ap (λ (t : TableState). t.mode) is.1 }

-- a packet that a call puts into a row that stands is of its sender
puts_own : (before now : TableState) (step : DemuxStep) (number place : ℕ) → IsRowTable before.rows before.made → IsStep before now step → RowStands before.rows number place → IsFrom number (row_at before.rows place).peer step
puts_own before now (Came from bytes (puts.New row)) number place order is stands = λ same. let b = order.below place stands.within in absurd (omega (arith, same, is.next, b, stands.here))
puts_own before now (Came from bytes (puts.Queued row)) number place order is stands = λ same.
    let at : is.0 ≡ place = once before.rows number is.0 place order.rising (record { within = is.1.sender.stands.within; here = is.1.sender.stands.here ∙ same }) stands in
    sym is.1.sender.whose ∙ ap (λ (p : ℕ). (row_at before.rows p).peer) at
puts_own before now (Came from bytes (puts.Dropped why)) number place order is stands = tt
puts_own before now (HandedOut found) number place order is stands = tt
puts_own before now (Gave row into taken) number place order is stands = tt
puts_own before now (LetGo row) number place order is stands = tt
puts_own before now TurnedAway number place order is stands = tt
puts_own before now (Told found) number place order is stands = tt

-- no call puts a packet into a row that isn't made yet
puts_none : (before now : TableState) (step : DemuxStep) (number : ℕ) (peer : Peer) → IsRowTable before.rows before.made → IsStep before now step → now.made ≤ number → IsFrom number peer step
puts_none before now (Came from bytes (puts.New row)) number peer order is le = λ same. let e = ap (λ (t : TableState). t.made) is.left in absurd (omega (arith, same, is.next, e, le))
puts_none before now (Came from bytes (puts.Queued row)) number peer order is le = λ same.
    let b = order.below is.0 is.1.sender.stands.within in
    let e = ap (λ (t : TableState). t.made) is.1.left in
    absurd (omega (arith, same, b, e, is.1.sender.stands.here, le))
puts_none before now (Came from bytes (puts.Dropped why)) number peer order is le = tt
puts_none before now (HandedOut found) number peer order is le = tt
puts_none before now (Gave row into taken) number peer order is le = tt
puts_none before now (LetGo row) number peer order is le = tt
puts_none before now TurnedAway number peer order is le = tt
puts_none before now (Told found) number peer order is le = tt

-- ---- after any calls

unmade : (mode : Mode) (steps : List DemuxStep) (table : TableState) → Leads mode steps table → (number : ℕ) (peer : Peer) → table.made ≤ number → AllFrom number peer steps
unmade mode [] table leads number peer le = tt
unmade mode (step ∷ steps) table leads number peer le =
    let g = goes leads.0 table step leads.2 in
    (puts_none leads.0 table step number peer (in_order mode steps leads.0 leads.1) leads.2 le, unmade mode steps leads.0 leads.1 number peer (omega (arith, g.made, le)))

pub senders_own : PacketsAreTheSenders
senders_own mode [] table leads number place stands = tt
senders_own mode (step ∷ steps) table leads number place stands = own (senders_own mode steps leads.0 leads.1) (origin before table step place leads.2 stands.within)
  where
    before : TableState
    before = leads.0

    own : ((n p : ℕ) → RowStands before.rows n p → AllFrom n (row_at before.rows p).peer steps) → Origin before table step place → AllFrom number (row_at table.rows place).peer (step ∷ steps)
    own again (inl was) =
        let old : RowStands before.rows number was.0 = record { within = was.1.inside; here = sym was.1.same ∙ stands.here } in
        subst (λ (peer : Peer). AllFrom number peer (step ∷ steps)) (sym was.1.whose) (
          puts_own before table step number was.0 (in_order mode steps before leads.1) leads.2 old,
          again number was.0 old,
        )
    own again (inr made) = (
      subst (IsFrom number (row_at table.rows place).peer) (sym made.1.came) (λ same. refl),
      unmade mode steps before leads.1 number (row_at table.rows place).peer (let e = made.1.next in let h = stands.here in omega (arith, e, h)),
    )

same_mode : (mode : Mode) (steps : List DemuxStep) (table : TableState) → Leads mode steps table → table.mode ≡ mode
same_mode mode [] table leads = ap (λ (t : TableState). t.mode) leads
same_mode mode (step ∷ steps) table leads = (goes leads.0 table step leads.2).mode ∙ same_mode mode steps leads.0 leads.1

-- two rows of one number are one
number_once : (rows : List RowState) (made p q : ℕ) → IsRowTable rows made → p < length rows → q < length rows → (row_at rows p).number ≡ (row_at rows q).number → p ≡ q
number_once rows made p q order one other same = once rows (row_at rows q).number p q order.rising (record { within = one; here = same }) (record { within = other; here = refl })

pub one_row : OneRowASender
one_row [] table leads p q one other same = let e = ap (λ (t : TableState). length t.rows) leads in absurd (omega (arith, e, one))
one_row (step ∷ steps) table leads p q one other same = both (one_row steps leads.0 leads.1) (origin before table step p leads.2 one) (origin before table step q leads.2 other)
  where
    before : TableState
    before = leads.0

    order : IsRowTable table.rows table.made
    order = in_order modes.ByPeer (step ∷ steps) table leads

    by_peer : before.mode ≡ modes.ByPeer
    by_peer = same_mode modes.ByPeer steps before leads.1

    both : ((i j : ℕ) → i < length before.rows → j < length before.rows → (row_at before.rows i).peer ≡ (row_at before.rows j).peer → i ≡ j) → Origin before table step p → Origin before table step q → p ≡ q
    both again (inl was) (inl were) =
        let e = again was.0 were.0 was.1.inside were.1.inside (sym was.1.whose ∙ same ∙ were.1.whose) in
        number_once table.rows table.made p q order one other (was.1.same ∙ ap (λ (i : ℕ). (row_at before.rows i).number) e ∙ sym were.1.same)
    both again (inl was) (inr made) = absurd (made.1.unknown by_peer was.0 was.1.inside (sym was.1.whose ∙ same))
    both again (inr made) (inl was) = absurd (made.1.unknown by_peer was.0 was.1.inside (sym was.1.whose ∙ sym same))
    both again (inr made) (inr too) = number_once table.rows table.made p q order one other (made.1.next ∙ sym too.1.next)
