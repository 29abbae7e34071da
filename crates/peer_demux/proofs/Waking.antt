-- Whoever waits for a row that holds packets is called.
use Rattle.std.proofs.Common.{◌≡◌, ◌≢◌, ℕ, zero, suc, ◌+◌, ◌<◌, ◌≤◌, Bool, true, false, cond, eqb, List, [], ◌∷◌, ◌++◌, length, take, set, None, Some, refl, sym, ap, subst, ◌∙◌, inl, inr, ◌⊎◌, arith}
use Rattle.std.specs.Prelude.{not, ◌||◌, ◌&&◌, ◌==◌}
use Rattle.std.specs.List.{list_any, remove}
use Rattle.std.proofs.lemmas.Bool.{cases_eq, cases_lt, eq-eqb, ne_eqb}
use Rattle.std.proofs.lemmas.List.{get_or-set_same, get_or-set_other, length-append, length-set, length-take}
use Rattle.std.proofs.lemmas.List.Edits.{length-remove}
use Rattle.peer_demux.specs.declared.answers.Mode.{Mode}
use Rattle.peer_demux.specs.declared.answers.Put.TheVariants as puts
use Rattle.peer_demux.specs.declared.answers.Taken.{Taken}
use Rattle.peer_demux.specs.declared.answers.Taken.TheVariants as takes
use Rattle.peer_demux.specs.Rows.{RowState, fresh_row}
use Rattle.peer_demux.specs.Tables.{GivesAt, GivesNone, IsRising, IsRowTable, RowStands, TableState, no_row, row_at, with_call, with_packet}
use Rattle.peer_demux.specs.Stories.{DemuxStep, Came, HandedOut, Gave, LetGo, TurnedAway, Told, IsStep, Leads, NobodyWaitsInVain, is_awake, wakes}
use Rattle.peer_demux.proofs.Places.{gives_number}
use Rattle.peer_demux.proofs.Kept.{in_order, once, push_below, push_here, shift, shift_row, shift_within, taken_front}

-- ---- the list of those that call

abbrev calls : ℕ → List ℕ → Bool
calls number calling = list_any (λ n. n == number) calling

any_kept : (test : ℕ → Bool) (xs ys : List ℕ) → list_any test xs ≡ true → list_any test (xs ++ ys) ≡ true
any_kept test [] ys e = grind arith
any_kept test (x ∷ xs) ys e = elim (test x) as (λ b. (b || list_any test xs) ≡ true → (b || list_any test (xs ++ ys)) ≡ true) [ true ↦ λ _. refl | false ↦ λ h. any_kept test xs ys h ] e

any_last : (test : ℕ → Bool) (xs : List ℕ) (x : ℕ) → test x ≡ true → list_any test (xs ++ x ∷ []) ≡ true
any_last test [] x e = ap (λ (b : Bool). b || false) e
any_last test (y ∷ xs) x e = elim (test y) as (λ b. (b || list_any test (xs ++ x ∷ [])) ≡ true) [ true ↦ refl | false ↦ any_last test xs x e ]

call_kept : (number : ℕ) (calling : List ℕ) (row : ℕ) (silent : Bool) → calls number calling ≡ true → calls number (with_call calling row silent) ≡ true
call_kept number calling row silent e =
    elim (silent && not (calls row calling)) as (λ b. calls number (cond b (calling ++ row ∷ []) calling) ≡ true) [ true ↦ any_kept (λ n. n == number) calling (row ∷ []) e | false ↦ e ]

call_made : (calling : List ℕ) (row : ℕ) → calls row (with_call calling row true) ≡ true
call_made calling row =
    elim (calls row calling) as (λ b. calls row calling ≡ b → calls row (cond (not b) (calling ++ row ∷ []) calling) ≡ true) [ true ↦ λ e. e | false ↦ λ _. any_last (λ n. n == row) calling row (eq-eqb row row refl) ] refl

-- ---- one step

-- whoever isn't awake for the row of this number is called if that holds packets
abbrev Hears : ℕ → Bool → TableState → Type 0
Hears number awake table = (place : ℕ) → RowStands table.rows number place → awake ≡ false → 0 < length (row_at table.rows place).packets → calls number table.calling ≡ true

-- the row of this number was there, and held packets if it does now
abbrev Stays : ℕ → List RowState → List RowState → Type 0
Stays number rows now = (place : ℕ) → RowStands now number place → (p : ℕ) × RowStands rows number p × (0 < length (row_at now place).packets → 0 < length (row_at rows p).packets)

hears_on : (number : ℕ) (was is : Bool) (before now : TableState) → (is ≡ false → was ≡ false) → Stays number before.rows now.rows → (calls number before.calling ≡ true → calls number now.calling ≡ true) → Hears number was before → Hears number is now
hears_on number was is before now asleep stays kept hears = λ place stands still some.
    let old = stays place stands in
    kept (hears old.0 old.1 (asleep still) (old.2 some))

stays_same : (number : ℕ) (rows : List RowState) → Stays number rows rows
stays_same number rows = λ place stands. (place, stands, λ some. some)

stays_removed : (number place : ℕ) (rows : List RowState) → place < length rows → Stays number rows (remove rows place)
stays_removed number place rows inside = λ q stands.
    let row = shift_row rows place q inside in (
      shift place q,
      record { within = (let l = length-remove rows place inside in let w = stands.within in shift_within place q (length rows) (omega (arith, l, w))); here = ap (λ (r : RowState). r.number) (sym row) ∙ stands.here },
      λ some. subst (λ (r : RowState). 0 < length r.packets) row some,
    )

stays_front : (number count : ℕ) (rows : List RowState) → Stays number rows (take count rows)
stays_front number count rows = λ q stands.
    let l = length-take count rows in
    let w = stands.within in
    let row = taken_front rows count q (omega (arith, l, w)) in (
      q,
      record { within = omega (arith, l, w); here = ap (λ (r : RowState). r.number) (sym row) ∙ stands.here },
      λ some. subst (λ (r : RowState). 0 < length r.packets) row some,
    )

-- the row at a place is another, of the same number, and held packets if that does
stays_set : (number place : ℕ) (rows : List RowState) (row : RowState) → place < length rows → row.number ≡ (row_at rows place).number → (0 < length row.packets → 0 < length (row_at rows place).packets) → Stays number rows (set rows place row)
stays_set number place rows row inside same some = λ q stands.
    let w : q < length rows = (let l = length-set rows place row in let h = stands.within in omega (arith, l, h)) in
    elim (cases_eq q place) [
      | inl e ↦
          let at : row_at (set rows place row) q ≡ row = ap (row_at (set rows place row)) e ∙ get_or-set_same rows place row no_row inside in (
            place,
            record { within = inside; here = sym same ∙ ap (λ (r : RowState). r.number) (sym at) ∙ stands.here },
            λ held. some (subst (λ (r : RowState). 0 < length r.packets) at held),
          )
      | inr differ ↦
          let at : row_at (set rows place row) q ≡ row_at rows q = get_or-set_other rows place q row no_row differ in (
            q,
            record { within = w; here = ap (λ (r : RowState). r.number) (sym at) ∙ stands.here },
            λ held. subst (λ (r : RowState). 0 < length r.packets) at held,
          )
    ]

hears_rows : (number : ℕ) (awake : Bool) (before now : TableState) → now.calling ≡ before.calling → Stays number before.rows now.rows → Hears number awake before → Hears number awake now
hears_rows number awake before now same stays hears = hears_on number awake awake before now (λ e. e) stays (λ e. subst (λ (calling : List ℕ). calls number calling ≡ true) (sym same) e) hears

hears_all : (number : ℕ) (awake : Bool) (before now : TableState) → now.calling ≡ before.calling → now.rows ≡ before.rows → Hears number awake before → Hears number awake now
hears_all number awake before now same rows hears = hears_rows number awake before now same (subst (λ (r : List RowState). Stays number before.rows r) (sym rows) (stays_same number before.rows)) hears

-- ---- tests of two parts

clash : (b c d : Bool) → b ≡ true → b ≡ false → c ≡ d
clash true c d t f = grind arith
clash false c d t f = grind arith

or_left : (a b : Bool) → (a || b) ≡ false → a ≡ false
or_left true b e = e
or_left false b e = refl

or_right : (a b : Bool) → (a || b) ≡ false → b ≡ false
or_right true b e = clash true b false refl e
or_right false b e = e

or_second : (a b : Bool) → (a || b) ≡ true → a ≡ false → b ≡ true
or_second true b e f = clash true b true refl f
or_second false b e f = e

-- ---- each call

hears_new : (number : ℕ) (awake : Bool) (before : TableState) (x : RowState) (made : ℕ) → Hears number awake before → Hears number ((x.number == number) || awake) (record before { rows = before.rows ++ x ∷ []; made = made })
hears_new number awake before x made hears = λ place stands still some.
    elim (cases_lt place (length before.rows)) [
      | inl l ↦
          let at = push_below before.rows x place l in
          hears place (record { within = l; here = ap (λ (r : RowState). r.number) (sym at) ∙ stands.here }) (or_right _ _ still) (subst (λ (r : RowState). 0 < length r.packets) at some)
      | inr m ↦
          let size = length-append before.rows (x ∷ []) in
          let w = stands.within in
          let at = push_here before.rows x place (omega (arith, m, size, w)) in
          clash (x.number == number) _ _ (eq-eqb x.number number (ap (λ (r : RowState). r.number) (sym at) ∙ stands.here)) (or_left _ _ still)
    ]

hears_queued : (number : ℕ) (awake : Bool) (before : TableState) (place : ℕ) (bytes : List ℕ) → place < length before.rows → Hears number awake before → Hears number awake (with_packet before place bytes)
hears_queued number awake before place bytes inside hears = λ q stands still some.
    let row = row_at before.rows place in
    let next : RowState = record row { packets = row.packets ++ bytes ∷ [] } in
    let w : q < length before.rows = (let l = length-set before.rows place next in let h = stands.within in omega (arith, l, h)) in
    elim (cases_eq q place) [
      | inl e ↦
          let at : row_at (set before.rows place next) q ≡ next = ap (row_at (set before.rows place next)) e ∙ get_or-set_same before.rows place next no_row inside in
          let same : row.number ≡ number = ap (λ (r : RowState). r.number) (sym at) ∙ stands.here in
          elim (cases_lt 0 (length row.packets)) [
            | inl held ↦ call_kept number before.calling row.number (length row.packets == 0) (hears place (record { within = inside; here = same }) still held)
            | inr none ↦
                subst (λ (n : ℕ). calls n (with_call before.calling row.number (length row.packets == 0)) ≡ true) same (
                subst (λ (b : Bool). calls row.number (with_call before.calling row.number b) ≡ true) (sym (eq-eqb (length row.packets) 0 (omega (arith, none)))) (call_made before.calling row.number)
                )
          ]
      | inr differ ↦
          let at : row_at (set before.rows place next) q ≡ row_at before.rows q = get_or-set_other before.rows place q next no_row differ in
          call_kept number before.calling row.number (length row.packets == 0) (hears q (record { within = w; here = ap (λ (r : RowState). r.number) (sym at) ∙ stands.here }) still (subst (λ (r : RowState). 0 < length r.packets) at some))
    ]

hears_given : (number : ℕ) (awake : Bool) (before now : TableState) (into : List ℕ) (place count : ℕ) → place < length before.rows → GivesAt before now into place count → Hears number awake before → Hears number awake now
hears_given number awake before now into place count inside gives hears =
    hears_rows number awake before now (ap (λ (t : TableState). t.calling) gives.left)
    (subst (λ (rows : List RowState). Stays number before.rows rows) (sym (ap (λ (t : TableState). t.rows) gives.left)) (
    stays_set number place before.rows (row_at now.rows place) inside (gives_number (row_at before.rows place) (row_at now.rows place) into (Some count) gives.part) (λ _. gives.part.holds)
    ))
    hears

hears_nothing : (number row : ℕ) (awake : Bool) (before : TableState) (place : ℕ) → IsRising before.rows → RowStands before.rows row place → length (row_at before.rows place).packets ≡ 0 → Hears number awake before → Hears number (not (row == number) && awake) before
hears_nothing number row awake before place rising stands none hears = λ q at still some.
    elim (cases_eq row number) [
      | inl e ↦
          let same : q ≡ place = once before.rows number q place rising at (record { within = stands.within; here = stands.here ∙ e }) in
          let empty : length (row_at before.rows q).packets ≡ 0 = ap (λ (p : ℕ). length (row_at before.rows p).packets) same ∙ none in
          absurd (omega (arith, empty, some))
      | inr differ ↦ hears q at (subst (λ (b : Bool). (not b && awake) ≡ false) (ne_eqb row number differ) still) some
    ]

hears_told : (number row : ℕ) (awake : Bool) (before now : TableState) → before.calling ≡ row ∷ now.calling → now.rows ≡ before.rows → Hears number awake before → Hears number ((row == number) || awake) now
hears_told number row awake before now first rows hears = λ q stands still some.
    let h = hears q (subst (λ (r : List RowState). RowStands r number q) rows stands) (or_right _ _ still) (subst (λ (r : List RowState). 0 < length (row_at r q).packets) rows some) in
    or_second (row == number) (calls number now.calling) (subst (λ (c : List ℕ). calls number c ≡ true) first h) (or_left _ _ still)

hears_step : (number : ℕ) (awake : Bool) (before now : TableState) (step : DemuxStep) → IsRowTable before.rows before.made → IsStep before now step → Hears number awake before → Hears number (wakes number step awake) now
hears_step number awake before now (Came from bytes (puts.New row)) order is hears =
    subst (Hears number ((row == number) || awake)) (sym is.left) (hears_new number awake before (fresh_row row from bytes) (before.made + 1) hears)
hears_step number awake before now (Came from bytes (puts.Queued row)) order is hears =
    subst (Hears number awake) (sym is.1.left) (hears_queued number awake before is.0 bytes is.1.sender.stands.within hears)
hears_step number awake before now (Came from bytes (puts.Dropped why)) order is hears =
    hears_all number awake before now (ap (λ (t : TableState). t.calling) is.1) (ap (λ (t : TableState). t.rows) is.1) hears
hears_step number awake before now (HandedOut None) order is hears =
    hears_all number awake before now (ap (λ (t : TableState). t.calling) is.0) (ap (λ (t : TableState). t.rows) is.0) hears
hears_step number awake before now (HandedOut (Some (row, peer))) order is hears =
    hears_all number awake before now (ap (λ (t : TableState). t.calling) is.1.left) (ap (λ (t : TableState). t.rows) is.1.left) hears
hears_step number awake before now (Gave row into (takes.Bytes count)) order is hears = hears_given number awake before now into is.0 count is.1.within is.2.1 hears
hears_step number awake before now (Gave row into takes.Empty) order is hears = hears_given number awake before now into is.0 0 is.1.within is.2 hears
hears_step number awake before now (Gave row into takes.NotYet) order is hears =
    subst (Hears number (not (row == number) && awake)) (sym is.2.1.left) (hears_nothing number row awake before is.0 order.rising is.1 is.2.1.none hears)
hears_step number awake before now (Gave row into takes.End) order is hears = subst (Hears number awake) (sym is.2.1.left) hears
hears_step number awake before now (LetGo row) order is hears =
    hears_rows number awake before now (ap (λ (t : TableState). t.calling) is.2)
    (subst (λ (rows : List RowState). Stays number before.rows rows) (sym (ap (λ (t : TableState). t.rows) is.2)) (stays_removed number is.0 before.rows is.1.within))
    hears
hears_step number awake before now TurnedAway order is hears =
    hears_rows number awake before now (ap (λ (t : TableState). t.calling) is.1.left)
    (subst (λ (rows : List RowState). Stays number before.rows rows) (sym (ap (λ (t : TableState). t.rows) is.1.left)) (stays_front number is.0 before.rows))
    hears
hears_step number awake before now (Told None) order is hears = subst (Hears number awake) (sym is.1) hears
hears_step number awake before now (Told (Some row)) order is hears = hears_told number row awake before now is.0 (ap (λ (t : TableState). t.rows) is.1) hears

-- ---- after any calls

hears_always : (mode : Mode) (steps : List DemuxStep) (table : TableState) → Leads mode steps table → (number : ℕ) → Hears number (is_awake number steps) table
hears_always mode [] table leads number = λ place stands still some. let e = ap (λ (t : TableState). length t.rows) leads in let w = stands.within in absurd (omega (arith, e, w))
hears_always mode (step ∷ steps) table leads number = hears_step number (is_awake number steps) leads.0 table step (in_order mode steps leads.0 leads.1) leads.2 (hears_always mode steps leads.0 leads.1 number)

pub nobody_waits : NobodyWaitsInVain
nobody_waits mode steps table leads number place stands still some = hears_always mode steps table leads number place stands still some
