-- A refusal that blames the text of an address tells a fault that the text has by itself.
use Rattle.std.specs.Prelude.{ℕ, List}
use Rattle.relay_model.specs.{Refusal}
use Rattle.relay_model.specs.declared.refusals.Refusal.TheVariants as refusals
use Rattle.addr_grammar.specs.declared.faults.GrammarFault.TheVariants as texts
use Rattle.addr_grammar.specs.{IsFaultOf}
use Rattle.cmd_words.specs.declared.faults.CommandFault.{CommandFault}
use Rattle.cmd_words.specs.declared.faults.CommandFault.TheVariants as faults

-- the refusals that are no matter of the text say nothing of it here
abbrev pub BlamesText : List ℕ → Refusal → Type 0
BlamesText word (refusals.Unclosed at) = IsFaultOf word (texts.Unclosed at)
BlamesText word (refusals.LoneBackslash at) = IsFaultOf word (texts.LoneBackslash at)
BlamesText word refusals.TooLong = IsFaultOf word texts.TooLong
BlamesText word refusals.Empty = IsFaultOf word texts.Empty
BlamesText word (refusals.TooManyDuals at) = IsFaultOf word (texts.TooManyDuals at)
BlamesText word (refusals.EmptyOption at) = IsFaultOf word (texts.EmptyOption at)
BlamesText word why = Unit {0}

-- the same of a refusal; want of memory blames no text
abbrev pub IsBlamed : List ℕ → CommandFault → Type 0
IsBlamed word (faults.Refused refused) = BlamesText word refused.why
IsBlamed word faults.Memory = Unit {0}
