-- What the tables that are kept up with each act say of the acts before.
use Rattle.std.specs.Prelude.{◌≡◌, ℕ, List, Option}
use Rattle.relay_model.specs.{Place, Config, Peer, ChildEnd, Act}
use Rattle.history_facts.specs.{Placed, Numbered, numbered, placed}
use Rattle.journal_table.specs.declared.visits.Visits.{Visits}
use Rattle.journal_table.specs.Visits.{met_at, child_at, admitted_at, closed_at}

-- the table has the last permitted peer of each place
abbrev pub MetTold : Config → Placed (Option Peer) → List Act → Type 0
MetTold c table past = (p : Place) → placed table p ≡ met_at c past p

-- the table has what was last learnt of the child of each place
abbrev pub ChildrenTold : Placed (Option ChildEnd) → List Act → Type 0
ChildrenTold table past = (p : Place) → placed table p ≡ child_at past p

-- the table has when the peer of each session came
abbrev pub BeginningsTold : Config → Numbered (Option ℕ) → List Act → Type 0
BeginningsTold c table past = (s : ℕ) → numbered table s ≡ admitted_at c past s

-- the table has when something of each session was closed last
abbrev pub ClosingsTold : Config → Numbered (Option ℕ) → List Act → Type 0
ClosingsTold c table past = (s : ℕ) → numbered table s ≡ closed_at c past s

-- what is kept of visits is what the acts say
pub record VisitsTold (c : Config) (v : Visits) (past : List Act) : Type 0 where
  pub met : MetTold c v.met past
  pub children : ChildrenTold v.children past
  pub beginnings : BeginningsTold c v.began past
  pub closings : ClosingsTold c v.closed past
