-- A direction whose output takes nothing yet, and whose input was asked, has nothing left to do before the next turn.
use Rattle.std.proofs.Common.{◌≡◌, sym, ◌∙◌, ℕ, ◌≤◌, Bool, true, false, ◌&&◌, nat_lt, List, refl}
use Rattle.std.proofs.lemmas.Bool.{true≢false}
use Rattle.relay_model.specs.declared.places.Way.{Way}
use Rattle.relay_model.specs.declared.commands.Config.{Config}
use Rattle.relay_model.specs.declared.acts.Act.{Act}
use Rattle.relay_model.specs.Configs.{output}
use Rattle.relay_model.specs.Arming.{armed_to_write}
use Rattle.relay_model.specs.Transfers.{backlog, is_spent}
use Rattle.relay_model.specs.Rest.{is_going, owes_write}
use Rattle.session_direction.specs.States.{DirectionState}
use Rattle.session_direction.specs.Directions.{IsDirection, WantsNothing}
use Rattle.session_direction.proofs.Wanted.{wants_nothing}

closed_owes : (going armed some : Bool) → armed ≡ false → (going && armed && some) ≡ false
closed_owes true true some e = absurd (true≢false e)
closed_owes true false some e = refl
closed_owes false armed some e = refl

pub holding_wants_nothing : (c : Config) (past : List Act) (s : ℕ) (w : Way) (d : DirectionState) → IsDirection c past s w d → 1 ≤ c.block → is_spent c past s w ≡ false → d.asked_in ≡ true → d.armed_out ≡ false → WantsNothing c past s w
holding_wants_nothing c past s w d f blocks unspent asked closed =
    let none : owes_write c past s w ≡ false = closed_owes (is_going c past s w) (armed_to_write past (output c s w)) (nat_lt 0 (backlog c past s w)) (sym f.armed_out_is ∙ closed) in
    wants_nothing c past s w blocks unspent (λ e. absurd (true≢false (sym e ∙ none))) (λ armed more within some. sym f.asked_in_is ∙ asked)
