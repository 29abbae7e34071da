-- What contracts see of the sessions of a command with `fork`.
use Rattle.std.specs.Prelude.{◌≡◌, ◌≢◌, ℕ, ◌<◌, ◌≤◌, Bool, true, ◌&&◌, nat_lt, Option, Some, None, is_some, refl}
use Rattle.std.specs.Coded.{Coded, code_by, coded×, coded_ℕ}
use Rattle.slab.specs.Slab.{Slab, slab_code, get, with_value, ContainsKey, HasRoomFor}
use Rattle.key_map.specs.{Keyed, keyed_code}
use Rattle.std.specs.FinMap as map
use Rattle.relay_model.specs.{count}

-- the rows by their keys, the key of each live session's row by its number, and the counts
pub record Table (T : Type 0) : Type 0 where
  pub numbers : Keyed
  pub rows : Slab T
  pub admitted : ℕ
  pub live : ℕ
  pub max_children : ℕ
  pub stop_after : ℕ

-- a table as a value that contracts can compare
abbrev pub table_code : {T : Type 0} → Coded T → Coded (Table T)
table_code {T} code =
    code_by
    (Keyed × (Slab T × (ℕ × (ℕ × (ℕ × ℕ)))))
    (coded× keyed_code (coded× (slab_code code) (coded× coded_ℕ (coded× coded_ℕ (coded× coded_ℕ coded_ℕ)))))
    (λ t. (t.numbers, (t.rows, (t.admitted, (t.live, (t.max_children, t.stop_after))))))
    (λ p. record { numbers = p.0; rows = p.1.0; admitted = p.1.1.0; live = p.1.1.1.0; max_children = p.1.1.1.1.0; stop_after = p.1.1.1.1.1 })
    (λ _. refl)

module _ {T : Type 0} where
  -- the row at this key, where there is one
  abbrev pub row_by : Slab T → Option ℕ → Option T
  row_by rows None = None
  row_by rows (Some key) = get rows key

  -- the session with this number, where it lives
  abbrev pub row_of : Table T → ℕ → Option T
  row_of t number = row_by t.rows (map.get t.numbers.values number)

  -- how many live
  abbrev pub live_in : Table T → ℕ
  live_in t = count (λ number. is_some (row_of t number)) t.admitted

  -- each number was admitted and has a row of its own, and the live ones are counted
  pub record IsTable (t : Table T) : Type 0 where
    pub was_admitted : (number key : ℕ) → map.get t.numbers.values number ≡ Some key → number < t.admitted
    pub has_row : (number key : ℕ) → map.get t.numbers.values number ≡ Some key → ContainsKey t.rows key
    pub own_row : (number other key : ℕ) → map.get t.numbers.values number ≡ Some key → map.get t.numbers.values other ≡ Some key → number ≡ other
    pub live_is : t.live ≡ live_in t
    pub few : t.live ≤ t.max_children

  -- the table with this session under the number, where one lives
  abbrev pub with_row : Table T → Option ℕ → T → Table T
  with_row t None session = t
  with_row t (Some key) session = record t { rows = with_value t.rows key session }

  -- the table with this session under a number
  abbrev pub with_session : Table T → ℕ → T → Table T
  with_session t number session = with_row t (map.get t.numbers.values number) session

  -- fewer live than may, and fewer came than are served
  abbrev pub may_accept_in : Table T → Bool
  may_accept_in t = nat_lt (live_in t) t.max_children && nat_lt t.admitted t.stop_after

  -- there is room for one further session
  abbrev pub HasRoom : Table T → Type 0
  HasRoom t = (0 < t.numbers.room) × HasRoomFor t.rows 1

  -- each number has what it had
  abbrev pub SameRows : Table T → Table T → Type 0
  SameRows old new = (number : ℕ) → row_of new number ≡ row_of old number

  -- as many may live and come
  abbrev pub SameBounds : Table T → Table T → Type 0
  SameBounds old new = (new.max_children ≡ old.max_children) × (new.stop_after ≡ old.stop_after)

  -- the new table has this session under the number, and every other number has what it had
  pub record Changes (old new : Table T) (number : ℕ) (session : T) : Type 0 where
    pub row : row_of new number ≡ Some session
    pub others : (other : ℕ) → other ≢ number → row_of new other ≡ row_of old other
    pub admitted : new.admitted ≡ old.admitted
    pub bounds : SameBounds old new

  -- none lives from this number on; or this is the least that does
  abbrev pub IsFirstLive : Table T → ℕ → Option ℕ → Type 0
  IsFirstLive t number None = (other : ℕ) → number ≤ other → row_of t other ≡ None
  IsFirstLive t number (Some first) = (number ≤ first) × (is_some (row_of t first) ≡ true) × ((other : ℕ) → number ≤ other → other < first → row_of t other ≡ None)
