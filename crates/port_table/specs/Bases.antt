-- What a place stands on, by its address.
use Rattle.std.specs.Prelude.{ℕ, Bool, true, false, ◌==◌, ⊤, Option, None, Some}
use Rattle.relay_model.specs.{Place, Part, Target}
use Rattle.relay_model.specs.declared.places.Part.TheVariants.{Both, Reading, Writing}
use Rattle.relay_model.specs.declared.commands.Target.TheVariants as targets
use Rattle.port_table.specs.declared.bases.Base.{Base}
use Rattle.port_table.specs.declared.bases.Base.TheVariants as bases

-- a made port with this key
abbrev pub is_keyed : ℕ → Base → Bool
is_keyed key (bases.Made other) = other == key
is_keyed key base = false

-- a standard stream, or two, as a test
abbrev pub is_standard : Base → Bool
is_standard (bases.Made key) = false
is_standard bases.Input = true
is_standard bases.Output = true
is_standard bases.Both = true
is_standard bases.Errors = true

-- the key of the made port; none where it is a standard stream
abbrev pub key_of : Base → Option ℕ
key_of (bases.Made key) = Some key
key_of bases.Input = None
key_of bases.Output = None
key_of bases.Both = None
key_of bases.Errors = None

-- standard input and output together, or one of them
abbrev pub part_base : Part → Base
part_base Both = bases.Both
part_base Reading = bases.Input
part_base Writing = bases.Output

-- the standard streams that a place with this target stands on; none where it stands on a made port
abbrev pub standard_of : Place → Target → Option Base
standard_of place targets.Stdio = Some (part_base place.part)
standard_of place targets.Stdin = Some bases.Input
standard_of place targets.Stdout = Some bases.Output
standard_of place targets.Stderr = Some bases.Errors
standard_of place target = None

-- a standard stream, or two
abbrev pub IsStandard : Base → Type 0
IsStandard bases.Input = ⊤
IsStandard bases.Output = ⊤
IsStandard bases.Both = ⊤
IsStandard bases.Errors = ⊤
IsStandard (bases.Made key) = ⊥
