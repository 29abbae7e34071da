-- What the program needs for its words, and how it ends.
use Rattle.std.specs.Prelude.{ℕ, zero, suc, Bool, true, false}
use Rattle.socat_top.specs.Tasks.{WordsTask, Relaying, Telling, Loading, Refusing, Unread}

-- what is to be done is a relay
abbrev pub is_relaying : WordsTask → Bool
is_relaying (Relaying c) = true
is_relaying (Telling text) = false
is_relaying (Loading number) = false
is_relaying (Refusing refused) = false
is_relaying Unread = false

-- the status of the run and its journal; where that is 0 and output failed later, 1
abbrev pub last_status : ℕ → Bool → ℕ
last_status (suc status) failed = suc status
last_status zero true = 1
last_status zero false = 0
