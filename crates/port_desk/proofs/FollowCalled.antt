-- What the one clause of a call on the port of a place says of each standard stream.
use Rattle.std.proofs.Common.{◌≡◌, Bool, List, Option, None, Some, IfSome}
use Rattle.port_table.specs.PortTables.{AtErrors, AtInput, AtOutput, EndsAt, Errors, Input, Made, Output, PortId}
use Rattle.port_trait.specs.Ports.{PortSeen}
use Rattle.port_table.specs.Ports.{EntrySeen}
use Rattle.port_table.specs.declared.bases.Base.{Base}
use Rattle.port_table.specs.declared.table.PortTable.{PortTable}
use Rattle.world_trait.specs.declared.answers.OpenAnswer.{OpenAnswer}
use Rattle.desk_places.specs.Changes.{SettledAt, SettlesSo}
use Rattle.port_table.proofs.CalledLemmas.{called_errors, called_input, called_output}

module _ {T I O E : Type 0} (ends : Bool) (slot : Option Base) (id : Base → PortId) (before now : PortTable T I O E) (Call : PortSeen → PortSeen → Type 0) where
  pub at_input : IfSome slot (λ base. EndsAt ends (id base) before now Call) → IfSome slot (λ base. AtInput (id base) (Call before.input.port now.input.port) (now.input ≡ before.input))
  at_input = elim slot as (λ o. IfSome o (λ base. EndsAt ends (id base) before now Call) → IfSome o (λ base. AtInput (id base) (Call before.input.port now.input.port) (now.input ≡ before.input))) [ None ↦ (λ h. tt) | Some base ↦ (λ h. called_input ends (id base) before now Call h) ]

  pub at_output : IfSome slot (λ base. EndsAt ends (id base) before now Call) → IfSome slot (λ base. AtOutput (id base) (Call before.output.port now.output.port) (now.output ≡ before.output))
  at_output = elim slot as (λ o. IfSome o (λ base. EndsAt ends (id base) before now Call) → IfSome o (λ base. AtOutput (id base) (Call before.output.port now.output.port) (now.output ≡ before.output))) [ None ↦ (λ h. tt) | Some base ↦ (λ h. called_output ends (id base) before now Call h) ]

  pub at_errors : IfSome slot (λ base. EndsAt ends (id base) before now Call) → IfSome slot (λ base. AtErrors (id base) (Call before.errors.port now.errors.port) (now.errors ≡ before.errors))
  at_errors = elim slot as (λ o. IfSome o (λ base. EndsAt ends (id base) before now Call) → IfSome o (λ base. AtErrors (id base) (Call before.errors.port now.errors.port) (now.errors ≡ before.errors))) [ None ↦ (λ h. tt) | Some base ↦ (λ h. called_errors ends (id base) before now Call h) ]

-- and what that of a settling says
settled_input : {T X I O E : Type 0} (tells : T → PortSeen) (id : PortId) (before now : PortTable X I O E) (parents parents' : List EntrySeen) (answer : OpenAnswer) → SettledAt tells id before now parents parents' answer → AtInput id (SettlesSo before.input.port now.input.port answer) (now.input ≡ before.input)
settled_input tells Input before now parents parents' answer at = at.0.call
settled_input tells Output before now parents parents' answer at = at.0
settled_input tells Errors before now parents parents' answer at = at.0
settled_input tells (Made key) before now parents parents' answer at = at.0

settled_output : {T X I O E : Type 0} (tells : T → PortSeen) (id : PortId) (before now : PortTable X I O E) (parents parents' : List EntrySeen) (answer : OpenAnswer) → SettledAt tells id before now parents parents' answer → AtOutput id (SettlesSo before.output.port now.output.port answer) (now.output ≡ before.output)
settled_output tells Input before now parents parents' answer at = at.1
settled_output tells Output before now parents parents' answer at = at.1.call
settled_output tells Errors before now parents parents' answer at = at.1
settled_output tells (Made key) before now parents parents' answer at = at.1

settled_errors : {T X I O E : Type 0} (tells : T → PortSeen) (id : PortId) (before now : PortTable X I O E) (parents parents' : List EntrySeen) (answer : OpenAnswer) → SettledAt tells id before now parents parents' answer → AtErrors id (SettlesSo before.errors.port now.errors.port answer) (now.errors ≡ before.errors)
settled_errors tells Input before now parents parents' answer at = at.2
settled_errors tells Output before now parents parents' answer at = at.2
settled_errors tells Errors before now parents parents' answer at = at.2.call
settled_errors tells (Made key) before now parents parents' answer at = at.2

module _ {T X I O E : Type 0} (tells : T → PortSeen) (slot : Option Base) (id : Base → PortId) (before now : PortTable X I O E) (parents parents' : List EntrySeen) (answer : OpenAnswer) where
  pub settle_input : IfSome slot (λ base. SettledAt tells (id base) before now parents parents' answer) → IfSome slot (λ base. AtInput (id base) (SettlesSo before.input.port now.input.port answer) (now.input ≡ before.input))
  settle_input = elim slot as (λ o. IfSome o (λ base. SettledAt tells (id base) before now parents parents' answer) → IfSome o (λ base. AtInput (id base) (SettlesSo before.input.port now.input.port answer) (now.input ≡ before.input))) [ None ↦ (λ h. tt) | Some base ↦ (λ h. settled_input tells (id base) before now parents parents' answer h) ]

  pub settle_output : IfSome slot (λ base. SettledAt tells (id base) before now parents parents' answer) → IfSome slot (λ base. AtOutput (id base) (SettlesSo before.output.port now.output.port answer) (now.output ≡ before.output))
  settle_output = elim slot as (λ o. IfSome o (λ base. SettledAt tells (id base) before now parents parents' answer) → IfSome o (λ base. AtOutput (id base) (SettlesSo before.output.port now.output.port answer) (now.output ≡ before.output))) [ None ↦ (λ h. tt) | Some base ↦ (λ h. settled_output tells (id base) before now parents parents' answer h) ]

  pub settle_errors : IfSome slot (λ base. SettledAt tells (id base) before now parents parents' answer) → IfSome slot (λ base. AtErrors (id base) (SettlesSo before.errors.port now.errors.port answer) (now.errors ≡ before.errors))
  settle_errors = elim slot as (λ o. IfSome o (λ base. SettledAt tells (id base) before now parents parents' answer) → IfSome o (λ base. AtErrors (id base) (SettlesSo before.errors.port now.errors.port answer) (now.errors ≡ before.errors))) [ None ↦ (λ h. tt) | Some base ↦ (λ h. settled_errors tells (id base) before now parents parents' answer h) ]
