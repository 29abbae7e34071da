-- What places stand on after a call.
use Rattle.std.specs.Prelude.{◌≡◌, Bool, true, false, Option, None, Some}
use Rattle.relay_model.specs.{Place, same_place}
use Rattle.world_trait.specs.{OpenAnswer, ListenAnswer, AcceptAnswer}
use Rattle.world_trait.specs.declared.answers.OpenAnswer.TheVariants as opens
use Rattle.world_trait.specs.declared.answers.ListenAnswer.TheVariants as listens
use Rattle.world_trait.specs.declared.answers.AcceptAnswer.TheVariants as accepts
use Rattle.port_table.specs.{Base}
use Rattle.port_table.specs.declared.bases.Base.TheVariants as bases

-- every place stands on what it stood on
abbrev pub SameBases : (Place → Option Base) → (Place → Option Base) → Type 0
SameBases before after = (p : Place) → after p ≡ before p

-- every other place stands on what it stood on
abbrev pub OtherBases : Place → (Place → Option Base) → (Place → Option Base) → Type 0
OtherBases place before after = (p : Place) → same_place place p ≡ false → after p ≡ before p

-- a place stands on a made port
abbrev pub is_made : Option Base → Bool
is_made None = false
is_made (Some bases.Input) = false
is_made (Some bases.Output) = false
is_made (Some bases.Both) = false
is_made (Some bases.Errors) = false
is_made (Some (bases.Made key)) = true

-- a place stands on the standard streams of its address, or on a made port where that has none
abbrev pub StandsFor : Option Base → Option Base → Type 0
StandsFor (Some base) on = on ≡ Some base
StandsFor None on = is_made on ≡ true

-- the place came to stand on what is its address's, and no other place moved
abbrev pub ComesOn : Option Base → Place → (Place → Option Base) → (Place → Option Base) → Type 0
ComesOn asked place before after = StandsFor asked (after place) × OtherBases place before after

-- the place stands on nothing any more, and no other place moved
abbrev pub Leaves : Place → (Place → Option Base) → (Place → Option Base) → Type 0
Leaves place before after = (after place ≡ None) × OtherBases place before after

-- after an opening, by what its address has of the standard streams
abbrev pub OpensOn : Option Base → Place → (Place → Option Base) → (Place → Option Base) → OpenAnswer → Type 0
OpensOn asked place before after opens.Opened = ComesOn asked place before after
OpensOn asked place before after opens.Later = ComesOn asked place before after
OpensOn asked place before after opens.Failed = SameBases before after
OpensOn asked place before after opens.Memory = SameBases before after

-- after a settling: a place whose opening failed stands on nothing
abbrev pub SettlesOn : Place → (Place → Option Base) → (Place → Option Base) → OpenAnswer → Type 0
SettlesOn place before after opens.Opened = SameBases before after
SettlesOn place before after opens.Later = SameBases before after
SettlesOn place before after opens.Failed = Leaves place before after
SettlesOn place before after opens.Memory = SameBases before after

-- after a listening
abbrev pub ListensOn : Place → (Place → Option Base) → (Place → Option Base) → ListenAnswer → Type 0
ListensOn door before after listens.Listening = ComesOn None door before after
ListensOn door before after listens.Failed = SameBases before after
ListensOn door before after listens.Memory = SameBases before after

-- after an accepting
abbrev pub AcceptsOn : Place → (Place → Option Base) → (Place → Option Base) → AcceptAnswer → Type 0
AcceptsOn place before after (accepts.Accepted peer) = ComesOn None place before after
AcceptsOn place before after accepts.NoPeer = SameBases before after
AcceptsOn place before after accepts.Failed = SameBases before after
AcceptsOn place before after accepts.Memory = SameBases before after
