-- The acts that are to blame for an end.
use Rattle.std.specs.Prelude.{Bool, true, false, ◌||◌, List, [], ◌∷◌}
use Rattle.relay_model.specs.{Act, Why}
use Rattle.relay_model.specs.declared.acts.Act.TheVariants.{OpenFailed, ListenFailed, AcceptFailed, ReadFault, WriteFault}
use Rattle.relay_model.specs.declared.acts.Why.TheVariants as whys

-- a session that ends for this reason failed
abbrev pub is_failure : Why → Bool
is_failure whys.AcceptFailed = true
is_failure whys.ListenFailed = true
is_failure whys.OpenFailed = true
is_failure whys.Faulted = true
is_failure why = false

-- the act is one that a session fails by
abbrev pub is_failing : Act → Bool
is_failing (OpenFailed p) = true
is_failing (ListenFailed d) = true
is_failing (AcceptFailed d) = true
is_failing (ReadFault p) = true
is_failing (WriteFault p) = true
is_failing act = false

-- the act is one that a session fails by for this reason
abbrev pub blames : Why → Act → Bool
blames whys.OpenFailed (OpenFailed p) = true
blames whys.ListenFailed (ListenFailed d) = true
blames whys.AcceptFailed (AcceptFailed d) = true
blames whys.Faulted (ReadFault p) = true
blames whys.Faulted (WriteFault p) = true
blames why act = false

-- such an act stands in the list
abbrev pub is_blamed : List Act → Bool
is_blamed [] = false
is_blamed (act ∷ past) = is_failing act || is_blamed past

-- some act is to blame for this end
abbrev pub is_blamed_for : Why → List Act → Bool
is_blamed_for why [] = false
is_blamed_for why (act ∷ past) = blames why act || is_blamed_for why past
