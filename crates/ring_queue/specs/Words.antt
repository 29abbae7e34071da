-- What stands in the words that go back from a taker to a sender.
use Rattle.std.specs.Prelude.{ℕ, Bool, true, false, List}
use Rattle.std.specs.List.{count_by}
use Rattle.ring_queue.specs.declared.words.Word.{Word}
use Rattle.ring_queue.specs.declared.words.Word.TheVariants as words
use Rattle.ring_queue.specs.declared.words.SinkFault.{SinkFault}

-- a word that asks
abbrev pub is_ask : Word → Bool
is_ask words.Ask = true
is_ask words.Stop = false

-- how often it was asked to go on
abbrev pub asks : List Word → ℕ
asks = count_by is_ask

-- any word may follow on any others
abbrev pub AnyWord : List Word → Word → Type 0
AnyWord before word = Unit {0}

-- nothing is asked of faults
abbrev pub AnyFault : List SinkFault → SinkFault → Type 0
AnyFault before fault = Unit {0}
