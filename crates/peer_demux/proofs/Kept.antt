-- What holds of every row, from one call to the next.
use Rattle.std.proofs.Common.{◌≡◌, ◌≢◌, ℕ, zero, suc, ◌+◌, ◌-◌, ◌<◌, ◌≤◌, Bool, true, false, cond, ltb, eqb, List, [], ◌∷◌, ◌++◌, length, take, drop, set, None, Some, refl, sym, ap, subst, ◌∙◌, append_assoc, inl, inr, ◌⊎◌, arith}
use Rattle.std.proofs.lemmas.Bool.{cases_eq, cases_lt, cases_order, eq-eqb, ne_eqb, ltb-false}
use Rattle.std.proofs.lemmas.List.{append-nil, get_or-set_same, get_or-set_other, length-append, length-set, length-take, take_all}
use Rattle.std.proofs.lemmas.List.Edits.{length-remove}
use Rattle.std.proofs.lemmas.List.Folds.{concat-append}
use Rattle.std.proofs.Math.Seq.{take-add}
use Rattle.std.specs.List.{concat, remove}
use Rattle.relay_model.specs.declared.acts.Peer.{Peer}
use Rattle.peer_demux.specs.declared.answers.Mode.{Mode}
use Rattle.peer_demux.specs.declared.answers.Put.TheVariants as puts
use Rattle.peer_demux.specs.declared.answers.Taken.{Taken}
use Rattle.peer_demux.specs.declared.answers.Taken.TheVariants as takes
use Rattle.peer_demux.specs.Rows.{GivesPart, RowState, after_giving, first_packet, fresh_row}
use Rattle.peer_demux.specs.Tables.{GivesAt, GivesTaken, IsRising, IsRowTable, RowStands, TableState, no_row, row_at}
use Rattle.peer_demux.proofs.Places.{set_table}
use Rattle.peer_demux.specs.Stories.{DemuxStep, Came, HandedOut, Gave, LetGo, TurnedAway, Told, IsStep, Leads, IsKept, NothingIsLost, arrived, came_by, taken, taken_by}

-- ---- what is known of all rows after some calls

record Inv (steps : List DemuxStep) (rows : List RowState) (made : ℕ) : Type 0 where
  order : IsRowTable rows made
  empty : (place : ℕ) → length (row_at rows place).packets ≡ 0 → (row_at rows place).given ≡ 0
  kept : (number place : ℕ) → RowStands rows number place → IsKept number steps (row_at rows place)
  unmade : (number : ℕ) → made ≤ number → (arrived number steps ≡ []) × (taken number steps ≡ [])

-- ---- a call that concerns another row

quiet_arrived : (number : ℕ) (steps : List DemuxStep) (step : DemuxStep) → came_by number step ≡ [] → arrived number (step ∷ steps) ≡ arrived number steps
quiet_arrived number steps step e = ap (λ (more : List (List ℕ)). arrived number steps ++ more) e ∙ append-nil (arrived number steps)

quiet_taken : (number : ℕ) (steps : List DemuxStep) (step : DemuxStep) → taken_by number step ≡ [] → taken number (step ∷ steps) ≡ taken number steps
quiet_taken number steps step e = ap (λ (more : List ℕ). taken number steps ++ more) e ∙ append-nil (taken number steps)

quiet : (number : ℕ) (steps : List DemuxStep) (step : DemuxStep) (row : RowState) → came_by number step ≡ [] → taken_by number step ≡ [] → IsKept number steps row → IsKept number (step ∷ steps) row
quiet number steps step row came took kept = (kept.0, quiet_arrived number steps step came ∙ kept.1, quiet_taken number steps step took ∙ kept.2)

quiet_unmade : (steps : List DemuxStep) (rows : List RowState) (made : ℕ) (step : DemuxStep) (number : ℕ) → Inv steps rows made → made ≤ number → came_by number step ≡ [] → taken_by number step ≡ [] → (arrived number (step ∷ steps) ≡ []) × (taken number (step ∷ steps) ≡ [])
quiet_unmade steps rows made step number inv le came took =
    (quiet_arrived number steps step came ∙ (inv.unmade number le).0, quiet_taken number steps step took ∙ (inv.unmade number le).1)

-- a call that concerns no row
quiet_all : (steps : List DemuxStep) (rows : List RowState) (made : ℕ) (step : DemuxStep) → ((number : ℕ) → came_by number step ≡ []) → ((number : ℕ) → taken_by number step ≡ []) → Inv steps rows made → Inv (step ∷ steps) rows made
quiet_all steps rows made step came took inv = record {
  order = inv.order;
  empty = inv.empty;
  kept = λ number place stands. quiet number steps step (row_at rows place) (came number) (took number) (inv.kept number place stands);
  unmade = λ number le. quiet_unmade steps rows made step number inv le (came number) (took number);
}

-- ---- one row changes

pub once : (rows : List RowState) (number p q : ℕ) → IsRising rows → RowStands rows number p → RowStands rows number q → p ≡ q
once rows number p q rising one other =
    elim (cases_order p q) [
      | inl e ↦ e
      | inr (inl less) ↦ let r = rising p q less other.within in absurd (omega (arith, r, one.here, other.here))
      | inr (inr more) ↦ let r = rising q p more one.within in absurd (omega (arith, r, one.here, other.here))
    ]

set_inv : (steps : List DemuxStep) (rows : List RowState) (made number place : ℕ) (row : RowState) (step : DemuxStep) → Inv steps rows made → RowStands rows number place → row.number ≡ number → (length row.packets ≡ 0 → row.given ≡ 0) → IsKept number (step ∷ steps) row → ((n : ℕ) → n ≢ number → came_by n step ≡ []) → ((n : ℕ) → n ≢ number → taken_by n step ≡ []) → Inv (step ∷ steps) (set rows place row) made
set_inv steps rows made number place row step inv stands same empty kept came took = record {
  order = set_table rows made place row (same ∙ sym stands.here) inv.order;
  empty = λ q. emptied q (cases_eq q place);
  kept = λ n q at. keeps n q at (cases_eq q place);
  unmade = λ n le. let b = inv.order.below place stands.within in let h = stands.here in quiet_unmade steps rows made step n inv le (came n (λ e. omega (arith, e, b, h, le))) (took n (λ e. omega (arith, e, b, h, le)));
}
  where
    here : row_at (set rows place row) place ≡ row
    here = get_or-set_same rows place row no_row stands.within

    other : (q : ℕ) → q ≢ place → row_at (set rows place row) q ≡ row_at rows q
    other q differ = get_or-set_other rows place q row no_row differ

    emptied : (q : ℕ) → (q ≡ place) ⊎ (q ≢ place) → length (row_at (set rows place row) q).packets ≡ 0 → (row_at (set rows place row) q).given ≡ 0
    emptied q (inl e) = subst (λ (r : RowState). length r.packets ≡ 0 → r.given ≡ 0) (sym (ap (row_at (set rows place row)) e ∙ here)) empty
    emptied q (inr differ) = subst (λ (r : RowState). length r.packets ≡ 0 → r.given ≡ 0) (sym (other q differ)) (inv.empty q)

    keeps : (n q : ℕ) → RowStands (set rows place row) n q → (q ≡ place) ⊎ (q ≢ place) → IsKept n (step ∷ steps) (row_at (set rows place row) q)
    keeps n q at (inl e) =
        let r = ap (row_at (set rows place row)) e ∙ here in
        let m : number ≡ n = sym same ∙ ap (λ (x : RowState). x.number) (sym r) ∙ at.here in
        subst (λ (x : RowState). IsKept n (step ∷ steps) x) (sym r) (subst (λ (k : ℕ). IsKept k (step ∷ steps) row) m kept)
    keeps n q at (inr differ) =
        let old : RowStands rows n q = record { within = (let l = length-set rows place row in omega (arith, l, at.within)); here = ap (λ (x : RowState). x.number) (sym (other q differ)) ∙ at.here } in
        let apart : n ≢ number = λ e. differ (once rows n q place inv.order.rising old (record { within = stands.within; here = stands.here ∙ sym e })) in
        subst (λ (x : RowState). IsKept n (step ∷ steps) x) (sym (other q differ)) (quiet n steps step (row_at rows q) (came n apart) (took n apart) (inv.kept n q old))

-- ---- a packet comes

put_here : (number : ℕ) (bytes : List ℕ) → cond (eqb number number) (bytes ∷ []) [] ≡ bytes ∷ []
put_here number bytes = ap (λ (b : Bool). cond b (bytes ∷ []) []) (eq-eqb number number refl)

put_else : {A : Type 0} (row number : ℕ) (x : List A) → row ≢ number → cond (eqb row number) x [] ≡ []
put_else row number x differ = ap (λ (b : Bool). cond b x []) (ne_eqb row number differ)

first_same : (packets : List (List ℕ)) (given : ℕ) (bytes : List ℕ) → (length packets ≡ 0 → given ≡ 0) → take given (first_packet packets) ≡ take given (first_packet (packets ++ bytes ∷ []))
first_same [] given bytes e = ap (λ (g : ℕ). take g []) (e refl) ∙ sym (ap (λ (g : ℕ). take g bytes) (e refl))
first_same (p ∷ packets) given bytes e = refl

pub push_below : (rows : List RowState) (x : RowState) (i : ℕ) → i < length rows → row_at (rows ++ x ∷ []) i ≡ row_at rows i
push_below [] x i less = absurd (omega arith)
push_below (r ∷ rows) x zero less = refl
push_below (r ∷ rows) x (suc i) less = push_below rows x i (omega arith)

pub push_here : (rows : List RowState) (x : RowState) (i : ℕ) → i ≡ length rows → row_at (rows ++ x ∷ []) i ≡ x
push_here [] x i e = ap (row_at (x ∷ [])) e
push_here (r ∷ rows) x zero e = absurd (omega arith)
push_here (r ∷ rows) x (suc i) e = push_here rows x i (omega arith)

push_past : (rows : List RowState) (x : RowState) (i : ℕ) → length rows < i → row_at (rows ++ x ∷ []) i ≡ no_row
push_past [] x zero more = absurd (omega arith)
push_past [] x (suc i) more = refl
push_past (r ∷ rows) x zero more = absurd (omega arith)
push_past (r ∷ rows) x (suc i) more = push_past rows x i (omega arith)

push_inv : (steps : List DemuxStep) (rows : List RowState) (made : ℕ) (from : Peer) (bytes : List ℕ) → Inv steps rows made → Inv (Came from bytes (puts.New made) ∷ steps) (rows ++ fresh_row made from bytes ∷ []) (made + 1)
push_inv steps rows made from bytes inv = record {
  order = record {
    rising = λ i j less within. rises i j less within (cases_lt j (length rows));
    below = λ i within. lies i within (cases_lt i (length rows));
  };
  empty = λ q. emptied q (cases_order q (length rows));
  kept = λ n q at. keeps n q at (cases_lt q (length rows));
  unmade = λ n le. quiet_unmade steps rows made step n inv (omega (arith, le)) (put_else made n (bytes ∷ []) (λ e. omega (arith, e, le))) refl;
}
  where
    step : DemuxStep
    step = Came from bytes (puts.New made)

    row : RowState
    row = fresh_row made from bytes

    longer : length (rows ++ row ∷ []) ≡ length rows + 1
    longer = length-append rows (row ∷ [])

    rises : (i j : ℕ) → i < j → j < length (rows ++ row ∷ []) → (j < length rows) ⊎ (length rows ≤ j) → (row_at (rows ++ row ∷ []) i).number < (row_at (rows ++ row ∷ []) j).number
    rises i j less within (inl l) =
        let a = ap (λ (r : RowState). r.number) (push_below rows row i (omega (arith, less, l))) in
        let b = ap (λ (r : RowState). r.number) (push_below rows row j l) in
        let h = inv.order.rising i j less l in
        omega (arith, a, b, h)
    rises i j less within (inr m) =
        let at : j ≡ length rows = omega (arith, m, within, longer) in
        let a = ap (λ (r : RowState). r.number) (push_below rows row i (omega (arith, less, at))) in
        let b = ap (λ (r : RowState). r.number) (push_here rows row j at) in
        let h = inv.order.below i (omega (arith, less, at)) in
        omega (arith, a, b, h)

    lies : (i : ℕ) → i < length (rows ++ row ∷ []) → (i < length rows) ⊎ (length rows ≤ i) → (row_at (rows ++ row ∷ []) i).number < made + 1
    lies i within (inl l) = let a = ap (λ (r : RowState). r.number) (push_below rows row i l) in let h = inv.order.below i l in omega (arith, a, h)
    lies i within (inr m) = let a = ap (λ (r : RowState). r.number) (push_here rows row i (omega (arith, m, within, longer))) in omega (arith, a)

    emptied : (q : ℕ) → (q ≡ length rows) ⊎ ((q < length rows) ⊎ (length rows < q)) → length (row_at (rows ++ row ∷ []) q).packets ≡ 0 → (row_at (rows ++ row ∷ []) q).given ≡ 0
    emptied q (inl e) = subst (λ (r : RowState). length r.packets ≡ 0 → r.given ≡ 0) (sym (push_here rows row q e)) (λ _. refl)
    emptied q (inr (inl l)) = subst (λ (r : RowState). length r.packets ≡ 0 → r.given ≡ 0) (sym (push_below rows row q l)) (inv.empty q)
    emptied q (inr (inr m)) = subst (λ (r : RowState). length r.packets ≡ 0 → r.given ≡ 0) (sym (push_past rows row q m)) (λ _. refl)

    fresh : IsKept made (step ∷ steps) row
    fresh = (
      [],
      ap (λ (a : List (List ℕ)). a ++ came_by made step) (inv.unmade made (omega arith)).0 ∙ put_here made bytes,
      quiet_taken made steps step refl ∙ (inv.unmade made (omega arith)).1,
    )

    keeps : (n q : ℕ) → RowStands (rows ++ row ∷ []) n q → (q < length rows) ⊎ (length rows ≤ q) → IsKept n (step ∷ steps) (row_at (rows ++ row ∷ []) q)
    keeps n q at (inl l) =
        let r = push_below rows row q l in
        let old : RowStands rows n q = record { within = l; here = ap (λ (x : RowState). x.number) (sym r) ∙ at.here } in
        let b = inv.order.below q l in
        subst (λ (x : RowState). IsKept n (step ∷ steps) x) (sym r) (quiet n steps step (row_at rows q) (put_else made n (bytes ∷ []) (λ e. omega (arith, e, b, old.here))) refl (inv.kept n q old))
    keeps n q at (inr m) =
        let r = push_here rows row q (omega (arith, m, at.within, longer)) in
        let e : made ≡ n = ap (λ (x : RowState). x.number) (sym r) ∙ at.here in
        subst (λ (x : RowState). IsKept n (step ∷ steps) x) (sym r) (subst (λ (k : ℕ). IsKept k (step ∷ steps) row) e fresh)

queue_inv : (steps : List DemuxStep) (rows : List RowState) (made number place : ℕ) (from : Peer) (bytes : List ℕ) → Inv steps rows made → RowStands rows number place → Inv (Came from bytes (puts.Queued number) ∷ steps) (set rows place (record (row_at rows place) { packets = (row_at rows place).packets ++ bytes ∷ [] })) made
queue_inv steps rows made number place from bytes inv stands =
    let row = row_at rows place in
    let step = Came from bytes (puts.Queued number) in
    let had = inv.kept number place stands in
    set_inv steps rows made number place (record row { packets = row.packets ++ bytes ∷ [] }) step inv stands stands.here
    (λ e. let l = length-append row.packets (bytes ∷ []) in absurd (omega (arith, e, l))) (
      had.0,
      ap (λ (more : List (List ℕ)). arrived number steps ++ more) (put_here number bytes) ∙ ap (λ (a : List (List ℕ)). a ++ bytes ∷ []) had.1 ∙ append_assoc had.0 row.packets (bytes ∷ []),
      quiet_taken number steps step refl ∙ had.2 ∙ ap (λ (f : List ℕ). concat had.0 ++ f) (first_same row.packets row.given bytes (inv.empty place)),
    )
    (λ n differ. put_else number n (bytes ∷ []) (λ e. differ (sym e)))
    (λ n differ. refl)

-- ---- bytes are taken

head_tail : (packets : List (List ℕ)) → 0 < length packets → packets ≡ first_packet packets ∷ drop 1 packets
head_tail [] some = absurd (omega arith)
head_tail (p ∷ packets) some = refl

-- what was taken, and then the next bytes of the first packet
further : (whole : List (List ℕ)) (before more first into : List ℕ) (given count : ℕ) → before ≡ concat whole ++ take given first → more ≡ take count into → take count into ≡ take count (drop given first) → before ++ more ≡ concat whole ++ take (given + count) first
further whole before more first into given count had is same =
    ap (λ (b : List ℕ). b ++ more) had ∙ ap (λ (m : List ℕ). (concat whole ++ take given first) ++ m) (is ∙ same) ∙ append_assoc (concat whole) (take given first) (take count (drop given first))
    ∙ ap (λ (t : List ℕ). concat whole ++ t) (sym (take-add given count first))

gives_kept : (steps : List DemuxStep) (step : DemuxStep) (number : ℕ) (row now : RowState) (into : List ℕ) (count : ℕ) → IsKept number steps row → GivesPart row now into count → came_by number step ≡ [] → taken_by number step ≡ take count into → IsKept number (step ∷ steps) now
gives_kept steps step number row now into count had part came took =
    subst (λ (r : RowState). IsKept number (step ∷ steps) r) (sym part.left) (split (ltb (row.given + count) (length (first_packet row.packets))) refl)
  where
    all : taken number (step ∷ steps) ≡ concat had.0 ++ take (row.given + count) (first_packet row.packets)
    all = further had.0 (taken number steps) (taken_by number step) (first_packet row.packets) into row.given count had.2 took part.bytes

    split : (b : Bool) → ltb (row.given + count) (length (first_packet row.packets)) ≡ b → IsKept number (step ∷ steps) (cond b (record row { given = row.given + count }) (record row { packets = drop 1 row.packets; given = 0 }))
    split true e = (had.0, quiet_arrived number steps step came ∙ had.1, all)
    split false e = (
      had.0 ++ first_packet row.packets ∷ [],
      quiet_arrived number steps step came ∙ had.1 ∙ ap (λ (p : List (List ℕ)). had.0 ++ p) (head_tail row.packets part.holds) ∙ sym (append_assoc had.0 (first_packet row.packets ∷ []) (drop 1 row.packets)),
      all ∙ ap (λ (t : List ℕ). concat had.0 ++ t) (take_all (row.given + count) (first_packet row.packets) (ltb-false (row.given + count) (length (first_packet row.packets)) e))
          ∙ ap (λ (t : List ℕ). concat had.0 ++ t) (sym (append-nil (first_packet row.packets))) ∙ sym (concat-append had.0 (first_packet row.packets ∷ [])) ∙ sym (append-nil (concat (had.0 ++ first_packet row.packets ∷ []))),
    )

gives_number : (row : RowState) (count : ℕ) → (after_giving row count).number ≡ row.number
gives_number row count =
    elim (ltb (row.given + count) (length (first_packet row.packets))) as (λ b. (cond b (record row { given = row.given + count }) (record row { packets = drop 1 row.packets; given = 0 })).number ≡ row.number) [ true ↦ refl | false ↦ refl ]

gives_empty : (row : RowState) (count : ℕ) → 0 < length row.packets → length (after_giving row count).packets ≡ 0 → (after_giving row count).given ≡ 0
gives_empty row count some =
    elim (ltb (row.given + count) (length (first_packet row.packets))) as (λ b. length (cond b (record row { given = row.given + count }) (record row { packets = drop 1 row.packets; given = 0 })).packets ≡ 0 → (cond b (record row { given = row.given + count }) (record row { packets = drop 1 row.packets; given = 0 })).given ≡ 0) [ true ↦ λ e. absurd (omega (arith, some, e)) | false ↦ λ e. refl ]

give_inv : (steps : List DemuxStep) (before now : TableState) (number place : ℕ) (into : List ℕ) (count : ℕ) (step : DemuxStep) → Inv steps before.rows before.made → RowStands before.rows number place → GivesAt before now into place count → came_by number step ≡ [] → taken_by number step ≡ take count into → ((n : ℕ) → came_by n step ≡ []) → ((n : ℕ) → n ≢ number → taken_by n step ≡ []) → Inv (step ∷ steps) now.rows now.made
give_inv steps before now number place into count step inv stands gives came took quiets others =
    let row = row_at now.rows place in
    subst (λ (t : TableState). Inv (step ∷ steps) t.rows t.made) (sym gives.left) (
    set_inv steps before.rows before.made number place row step inv stands
    (ap (λ (r : RowState). r.number) gives.part.left ∙ gives_number (row_at before.rows place) count ∙ stands.here)
    (subst (λ (r : RowState). length r.packets ≡ 0 → r.given ≡ 0) (sym gives.part.left) (gives_empty (row_at before.rows place) count gives.part.holds))
    (gives_kept steps step number (row_at before.rows place) row into count (inv.kept number place stands) gives.part came took)
    (λ n differ. quiets n)
    others
    )

took_here : (number : ℕ) (bytes : List ℕ) → cond (eqb number number) bytes [] ≡ bytes
took_here number bytes = ap (λ (b : Bool). cond b bytes []) (eq-eqb number number refl)

take_inv : (steps : List DemuxStep) (before now : TableState) (number place : ℕ) (into : List ℕ) (taken : Taken) → Inv steps before.rows before.made → RowStands before.rows number place → GivesTaken before now into place taken → Inv (Gave number into taken ∷ steps) now.rows now.made
take_inv steps before now number place into (takes.Bytes count) inv stands gives = give_inv steps before now number place into count (Gave number into (takes.Bytes count)) inv stands gives.1 refl (took_here number (take count into)) (λ n. refl) (λ n differ. put_else number n (take count into) (λ e. differ (sym e)))
take_inv steps before now number place into takes.Empty inv stands gives = give_inv steps before now number place into 0 (Gave number into takes.Empty) inv stands gives refl refl (λ n. refl) (λ n differ. refl)
take_inv steps before now number place into takes.NotYet inv stands gives = subst (λ (t : TableState). Inv (Gave number into takes.NotYet ∷ steps) t.rows t.made) (sym gives.1.left) (quiet_all steps before.rows before.made (Gave number into takes.NotYet) (λ n. refl) (λ n. refl) inv)
take_inv steps before now number place into takes.End inv stands gives = subst (λ (t : TableState). Inv (Gave number into takes.End ∷ steps) t.rows t.made) (sym gives.1.left) (quiet_all steps before.rows before.made (Gave number into takes.End) (λ n. refl) (λ n. refl) inv)

-- ---- rows go

-- each row that is left stood somewhere, in the same order
record Stayed (rows left : List RowState) : Type 0 where
  from : ℕ → ℕ
  within : (q : ℕ) → q < length left → from q < length rows
  row : (q : ℕ) → q < length left → row_at left q ≡ row_at rows (from q)
  rising : (i j : ℕ) → i < j → from i < from j

stay_inv : (steps : List DemuxStep) (rows left : List RowState) (made : ℕ) (step : DemuxStep) → ((number : ℕ) → came_by number step ≡ []) → ((number : ℕ) → taken_by number step ≡ []) → Stayed rows left → ((q : ℕ) → length left ≤ q → row_at left q ≡ no_row) → Inv steps rows made → Inv (step ∷ steps) left made
stay_inv steps rows left made step came took stayed past inv = record {
  order = record {
    rising = λ i j less within.
        let a = ap (λ (r : RowState). r.number) (stayed.row i (omega (arith, less, within))) in
        let b = ap (λ (r : RowState). r.number) (stayed.row j within) in
        let h = inv.order.rising (stayed.from i) (stayed.from j) (stayed.rising i j less) (stayed.within j within) in
        omega (arith, a, b, h);
    below = λ i within.
        let a = ap (λ (r : RowState). r.number) (stayed.row i within) in
        let h = inv.order.below (stayed.from i) (stayed.within i within) in
        omega (arith, a, h);
  };
  empty = λ q. emptied q (cases_lt q (length left));
  kept = λ n q at.
      let old : RowStands rows n (stayed.from q) = record { within = stayed.within q at.within; here = ap (λ (r : RowState). r.number) (sym (stayed.row q at.within)) ∙ at.here } in
      subst (λ (r : RowState). IsKept n (step ∷ steps) r) (sym (stayed.row q at.within)) (quiet n steps step (row_at rows (stayed.from q)) (came n) (took n) (inv.kept n (stayed.from q) old));
  unmade = λ n le. quiet_unmade steps rows made step n inv le (came n) (took n);
}
  where
    emptied : (q : ℕ) → (q < length left) ⊎ (length left ≤ q) → length (row_at left q).packets ≡ 0 → (row_at left q).given ≡ 0
    emptied q (inl l) = subst (λ (r : RowState). length r.packets ≡ 0 → r.given ≡ 0) (sym (stayed.row q l)) (inv.empty (stayed.from q))
    emptied q (inr m) = subst (λ (r : RowState). length r.packets ≡ 0 → r.given ≡ 0) (sym (past q m)) (λ _. refl)

-- past the last row there is none
none_past : (rows : List RowState) (q : ℕ) → length rows ≤ q → row_at rows q ≡ no_row
none_past [] q le = refl
none_past (r ∷ rows) zero le = absurd (omega arith)
none_past (r ∷ rows) (suc q) le = none_past rows q (omega arith)

pub taken_front : (rows : List RowState) (count q : ℕ) → q < count → row_at (take count rows) q ≡ row_at rows q
taken_front rows zero q less = absurd (omega arith)
taken_front [] (suc count) q less = refl
taken_front (r ∷ rows) (suc count) zero less = refl
taken_front (r ∷ rows) (suc count) (suc q) less = taken_front rows count q (omega arith)

front_stays : (rows : List RowState) (count : ℕ) → Stayed rows (take count rows)
front_stays rows count = record {
  from = λ q. q;
  within = λ q l. let h = length-take count rows in omega (arith, l, h);
  row = λ q l. let h = length-take count rows in taken_front rows count q (omega (arith, l, h));
  rising = λ i j less. less;
}

-- where the row stood that stands here once another has gone
abbrev pub shift : ℕ → ℕ → ℕ
shift zero q = suc q
shift (suc place) zero = zero
shift (suc place) (suc q) = suc (shift place q)

pub shift_within : (place q n : ℕ) → q + 1 < n → shift place q < n
shift_within zero q n l = omega (arith, l)
shift_within (suc place) zero n l = omega (arith, l)
shift_within (suc place) (suc q) n l = let h = shift_within place q (n - 1) (omega (arith, l)) in omega (arith, h, l)

shift_rising : (place i j : ℕ) → i < j → shift place i < shift place j
shift_rising zero i j less = omega (arith, less)
shift_rising (suc place) i zero less = absurd (omega (arith, less))
shift_rising (suc place) zero (suc j) less = omega arith
shift_rising (suc place) (suc i) (suc j) less = let h = shift_rising place i j (omega (arith, less)) in omega (arith, h)

pub shift_row : (rows : List RowState) (place q : ℕ) → place < length rows → row_at (remove rows place) q ≡ row_at rows (shift place q)
shift_row [] place q l = absurd (omega arith)
shift_row (r ∷ rows) zero q l = refl
shift_row (r ∷ rows) (suc place) zero l = refl
shift_row (r ∷ rows) (suc place) (suc q) l = shift_row rows place q (omega arith)

others_stay : (rows : List RowState) (place : ℕ) → place < length rows → Stayed rows (remove rows place)
others_stay rows place within = record {
  from = shift place;
  within = λ q l. let h = length-remove rows place within in shift_within place q (length rows) (omega (arith, l, h));
  row = λ q l. shift_row rows place q within;
  rising = shift_rising place;
}

-- ---- any call

step_inv : (steps : List DemuxStep) (before now : TableState) (step : DemuxStep) → Inv steps before.rows before.made → IsStep before now step → Inv (step ∷ steps) now.rows now.made
step_inv steps before now (Came from bytes (puts.New number)) inv is =
    subst (λ (t : TableState). Inv (Came from bytes (puts.New number) ∷ steps) t.rows t.made) (sym is.left) (
    subst (λ (n : ℕ). Inv (Came from bytes (puts.New n) ∷ steps) (before.rows ++ fresh_row n from bytes ∷ []) (before.made + 1)) (sym is.next) (push_inv steps before.rows before.made from bytes inv)
    )
step_inv steps before now (Came from bytes (puts.Queued number)) inv is =
    subst (λ (t : TableState). Inv (Came from bytes (puts.Queued number) ∷ steps) t.rows t.made) (sym is.1.left) (queue_inv steps before.rows before.made number is.0 from bytes inv is.1.sender.stands)
step_inv steps before now (Came from bytes (puts.Dropped why)) inv is =
    subst (λ (t : TableState). Inv (Came from bytes (puts.Dropped why) ∷ steps) t.rows t.made) (sym is.1) (quiet_all steps before.rows before.made (Came from bytes (puts.Dropped why)) (λ n. refl) (λ n. refl) inv)
step_inv steps before now (HandedOut None) inv is =
    subst (λ (t : TableState). Inv (HandedOut None ∷ steps) t.rows t.made) (sym is.0) (quiet_all steps before.rows before.made (HandedOut None) (λ n. refl) (λ n. refl) inv)
step_inv steps before now (HandedOut (Some (number, peer))) inv is =
    subst (λ (t : TableState). Inv (HandedOut (Some (number, peer)) ∷ steps) t.rows t.made) (sym is.1.left) (quiet_all steps before.rows before.made (HandedOut (Some (number, peer))) (λ n. refl) (λ n. refl) inv)
step_inv steps before now (Gave number into taken) inv is = take_inv steps before now number is.0 into taken inv is.1 is.2
step_inv steps before now (LetGo number) inv is =
    subst (λ (t : TableState). Inv (LetGo number ∷ steps) t.rows t.made) (sym is.2) (stay_inv steps before.rows (remove before.rows is.0) before.made (LetGo number) (λ n. refl) (λ n. refl) (others_stay before.rows is.0 is.1.within) (none_past (remove before.rows is.0)) inv)
step_inv steps before now TurnedAway inv is =
    subst (λ (t : TableState). Inv (TurnedAway ∷ steps) t.rows t.made) (sym is.1.left) (stay_inv steps before.rows (take is.0 before.rows) before.made TurnedAway (λ n. refl) (λ n. refl) (front_stays before.rows is.0) (none_past (take is.0 before.rows)) inv)
step_inv steps before now (Told None) inv is =
    subst (λ (t : TableState). Inv (Told None ∷ steps) t.rows t.made) (sym is.1) (quiet_all steps before.rows before.made (Told None) (λ n. refl) (λ n. refl) inv)
step_inv steps before now (Told (Some number)) inv is =
    subst (λ (t : TableState). Inv (Told (Some number) ∷ steps) t.rows t.made) (sym is.1) (quiet_all steps before.rows before.made (Told (Some number)) (λ n. refl) (λ n. refl) inv)

fresh_inv : Inv [] [] 0
fresh_inv = record {
  order = record { rising = λ i j less within. absurd (omega (arith, within)); below = λ i within. absurd (omega (arith, within)) };
  empty = λ q _. refl;
  kept = λ n q at. absurd (omega (arith, at.within));
  unmade = λ n le. (refl, refl);
}

holds : (mode : Mode) (steps : List DemuxStep) (table : TableState) → Leads mode steps table → Inv steps table.rows table.made
holds mode [] table leads = subst (λ (t : TableState). Inv [] t.rows t.made) (sym leads) fresh_inv
holds mode (step ∷ steps) table leads = step_inv steps leads.0 table step (holds mode steps leads.0 leads.1) leads.2

pub nothing_lost : NothingIsLost
nothing_lost mode steps table leads number place stands = (holds mode steps table leads).kept number place stands

-- the rows stand in order after any calls
pub in_order : (mode : Mode) (steps : List DemuxStep) (table : TableState) → Leads mode steps table → IsRowTable table.rows table.made
in_order mode steps table leads = (holds mode steps table leads).order
