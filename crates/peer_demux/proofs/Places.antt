-- Where rows stand, and what an edit of them leaves.
use Rattle.std.proofs.Common.{◌≡◌, ℕ, zero, suc, ◌+◌, ◌<◌, ◌≤◌, true, false, List, [], ◌∷◌, length, set, get_or, Option, None, Some, refl, sym, ap, subst, ◌∙◌, inl, inr, arith, if◌then◌else◌}
use Rattle.std.proofs.lemmas.Bool.{cases_order}
use Rattle.std.proofs.lemmas.List.{length-set, get_or_default, get_or-set_same, set-get_or}
use Rattle.std.specs.Prelude.{nat_lt}
use Rattle.peer_demux.specs.Rows.{RowState, GivesFirst, GivesPart, after_giving, first_packet}
use Rattle.peer_demux.specs.declared.answers.Mode.{Mode}
use Rattle.peer_demux.specs.declared.answers.Mode.TheVariants as modes
use Rattle.std.specs.List.{remove}
use Rattle.peer_demux.specs.Tables.{GivesNone, GivesOne, GivesTaken, IsDropped, IsLive, IsRising, IsRowTable, RowStands, TableState, no_row, nothing_of, row_at}

-- the row of a live number stands where the numbers below it end
pub found_at : (rows : List RowState) (number place : ℕ) → IsRising rows → ((i : ℕ) → i < place → (row_at rows i).number < number) → ((i : ℕ) → place ≤ i → i < length rows → number ≤ (row_at rows i).number) → IsLive rows number → RowStands rows number place
found_at rows number place rising below above live =
    elim (cases_order live.0 place) [
      | inl e ↦ subst (RowStands rows number) e live.1
      | inr (inl less) ↦ let h = below live.0 less in absurd (omega (arith, h, live.1.here))
      | inr (inr more) ↦
          let within = live.1.within in
          let h = above place (omega arith) (omega (arith, more, within)) in
          let r = rising place live.0 more within in
          absurd (omega (arith, h, r, live.1.here))
    ]

pub same_number : (rows : List RowState) (place i : ℕ) (row : RowState) → row.number ≡ (row_at rows place).number → (row_at (set rows place row) i).number ≡ (row_at rows i).number
same_number [] place i row same = refl
same_number (r ∷ rows) zero zero row same = same
same_number (r ∷ rows) zero (suc i) row same = refl
same_number (r ∷ rows) (suc place) zero row same = refl
same_number (r ∷ rows) (suc place) (suc i) row same = same_number rows place i row same

-- a row that keeps its number keeps the table in order
pub set_table : (rows : List RowState) (made place : ℕ) (row : RowState) → row.number ≡ (row_at rows place).number → IsRowTable rows made → IsRowTable (set rows place row) made
set_table rows made place row same is = record {
  rising = λ i j less within.
      let a = same_number rows place i row same in
      let b = same_number rows place j row same in
      let n = length-set rows place row in
      let h = is.rising i j less (omega (arith, within, n)) in
      omega (arith, a, b, h);
  below = λ i within.
      let a = same_number rows place i row same in
      let n = length-set rows place row in
      let h = is.below i (omega (arith, within, n)) in
      omega (arith, a, h);
}

given_number : (before : RowState) (count : ℕ) → (after_giving before count).number ≡ before.number
given_number before count =
    elim (nat_lt (before.given + count) (length (first_packet before.packets))) as (λ b. (if b then record before { given = before.given + count } else record before { packets = Rattle.std.specs.Prelude.drop 1 before.packets; given = 0 }).number ≡ before.number) [ true ↦ refl | false ↦ refl ]

-- a row that gives keeps its number
pub gives_number : (before now : RowState) (into : List ℕ) (result : Option ℕ) → GivesFirst before now into result → now.number ≡ before.number
gives_number before now into None gives = ap (λ (r : RowState). r.number) gives.1
gives_number before now into (Some count) gives = ap (λ (r : RowState). r.number) gives.left ∙ given_number before count

-- what a program reads at a place is the row there
pub read_at : (rows : List RowState) (place : ℕ) (row : RowState) → place < length rows → row ≡ get_or rows place row → row_at rows place ≡ row
read_at rows place row within read = get_or_default rows place no_row row within ∙ sym read

-- the row at a place gives, and the table has what is left of it
pub gives_one : (table : TableState) (place : ℕ) (row now : RowState) (into : List ℕ) (result : Option ℕ) → place < length table.rows → row_at table.rows place ≡ row → GivesFirst row now into result → GivesOne table (record table { rows = set table.rows place now }) into place result
gives_one table place row now into None within here gives = record {
  none = ap (λ (r : RowState). length r.packets) here ∙ gives.0;
  left = ap (λ (rows : List RowState). record table { rows = rows }) (ap (set table.rows place) (gives.1 ∙ sym here) ∙ set-get_or table.rows place no_row);
}
gives_one table place row now into (Some count) within here gives =
    let at : row_at (set table.rows place now) place ≡ now = get_or-set_same table.rows place now no_row within in
    record {
      part = subst (λ (r : RowState). GivesPart r (row_at (set table.rows place now) place) into count) (sym here) (subst (λ (r : RowState). GivesPart row r into count) (sym at) gives);
      left = ap (λ (r : RowState). record table { rows = set table.rows place r }) (sym at);
    }

-- a row without packets gives nothing by the table's mode
pub gives_nothing : (before now : TableState) (into : List ℕ) (place : ℕ) → GivesNone before now place → GivesTaken before now into place (nothing_of before.mode)
gives_nothing before now into place none =
    elim before.mode as (λ (m : Mode). before.mode ≡ m → GivesTaken before now into place (nothing_of m)) [ modes.ByPeer ↦ λ e. (e, none) | modes.ByPacket ↦ λ e. (e, none) ] refl

-- the table without the row at this place
pub dropped : (table : TableState) (number place : ℕ) (rows : List RowState) → RowStands table.rows number place → rows ≡ remove table.rows place → IsDropped table (record table { rows = rows }) number
dropped table number place rows stands e = (place, stands, ap (λ (kept : List RowState). record table { rows = kept }) e)
