-- What a list of keyed halves holds.
use Rattle.std.specs.Prelude.{ℕ}
use Rattle.relay_model.specs.{Half, ListOf, fresh_list}

-- the entries, and the number of entries that the list was given room for
abbrev pub KeysListed : Type 0
KeysListed = ListOf (ℕ × Half)

-- a list that was just made
abbrev pub fresh_keys : KeysListed
fresh_keys = fresh_list
