-- How often a thing was begun to be held, and how often that ended.
use Rattle.std.specs.Prelude.{◌≡◌, ℕ, Bool, true, false, not, ◌&&◌, List, [], ◌∷◌}
use Rattle.relay_model.specs.{Place, Config, Act, same_place, one_more, stage, held, Stage, Legal, begins_holding}
use Rattle.relay_model.specs.declared.acts.Act.TheVariants.{OpenFailed, Closed}
use Rattle.relay_model.specs.declared.stages.Stage.TheVariants.{Untried, Usable, Unsettled, Failed, Met, Waiting, Gone}

-- an opening is under way
abbrev pub is_settling : Stage → Bool
is_settling Untried = false
is_settling Usable = false
is_settling Unsettled = true
is_settling Failed = false
is_settling (Met peer) = false
is_settling Waiting = false
is_settling (Gone why) = false

-- how often a holding of the thing began: with an opening, a listening or an accepting, or with an opening that got under
-- way; the answer of one that was under way begins none
abbrev pub beginnings : List Act → Place → ℕ
beginnings [] p = 0
beginnings (act ∷ past) p = one_more (begins_holding act p && not (is_settling (stage past p))) (beginnings past p)

-- the act ends a holding of the thing: it closes it, or fails an opening that was under way
abbrev pub ends_holding : Act → List Act → Place → Bool
ends_holding (Closed q why) past p = same_place q p
ends_holding (OpenFailed q) past p = same_place q p && is_settling (stage past p)
ends_holding act past p = false

-- how often one ended
abbrev pub endings : List Act → Place → ℕ
endings [] p = 0
endings (act ∷ past) p = one_more (ends_holding act past p) (endings past p)

-- each holding was ended by exactly one of these, but for the one that stands
abbrev pub HoldingsEndOnce : Type 0
HoldingsEndOnce = (c : Config) (n : ℕ) (past : List Act) (p : Place) → Legal c n past → beginnings past p ≡ one_more (held past p) (endings past p)
