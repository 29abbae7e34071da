-- The history that a recorder kept.
use Rattle.relay_model.specs.Journals.{History}
use Rattle.relay_model.specs.{Kept}

-- the history that a desk handed back
abbrev pub history_of : Kept → History
history_of kept = record { acts = kept.journal.acts; asked = kept.asked.pairs }
