-- What contracts see of a port as a maker hands it out.
use Rattle.std.specs.Prelude.{◌==◌, ℕ, Bool, false, Option, None, Some, if◌then◌else◌}
use Rattle.port_trait.specs.{all_hints, PortSeen, Hint}
use Rattle.real_maker.specs.Gates.{gate_halves}
use Rattle.real_maker.specs.declared.made.Hints.{Hints}
use Rattle.real_maker.specs.declared.made.Hints.TheVariants as origins

-- how many descriptors its door lacks
abbrev pub lacking_of : Hints → ℕ
lacking_of origins.Own = 0
lacking_of origins.Always = 0
lacking_of (origins.Gate gate) = gate.lacking

-- its maker keeps descriptors for each peer that it takes at the port
abbrev pub is_shared : Hints → Bool
is_shared origins.Own = false
is_shared origins.Always = false
is_shared (origins.Gate gate) = gate.shared

-- what it hints, where the port beneath hints this: nobody knows which descriptors can be had
abbrev pub told_hint : Hints → Option Hint → Option Hint
told_hint origins.Own hint = hint
told_hint origins.Always hint = Some all_hints
told_hint (origins.Gate gate) hint = if gate.lacking == 0 then hint else None

-- the halves that it may hint, where the port beneath may hint these
abbrev pub told_halves : Hints → Hint → Hint
told_halves origins.Own halves = halves
told_halves origins.Always halves = all_hints
told_halves (origins.Gate gate) halves = gate_halves gate.lacking halves

-- what is seen of a port whose hints come from there, where this is seen of the port beneath
abbrev pub seen_at : Hints → PortSeen → PortSeen
seen_at origin port = record port { hints = told_hint origin port.hints; hinting = told_halves origin port.hinting }
