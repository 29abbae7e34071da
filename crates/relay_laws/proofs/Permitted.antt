-- What a permitted act says of its direction.
use Rattle.std.proofs.Common.{◌≡◌, subst, ℕ, ◌≤◌, true, false, List, ◌++◌}
use Rattle.relay_model.specs.declared.places.Way.{Way}
use Rattle.relay_model.specs.declared.places.Way.TheVariants.{LeftToRight, RightToLeft}
use Rattle.relay_model.specs.declared.places.Place.{Place}
use Rattle.relay_model.specs.declared.commands.Config.{Config}
use Rattle.relay_model.specs.declared.acts.Shut.{Shut as Shutting}
use Rattle.relay_model.specs.declared.acts.Act.{Act}
use Rattle.relay_model.specs.Places.{same_place}
use Rattle.relay_model.specs.Configs.{input, output}
use Rattle.relay_model.specs.History.{got, put}
use Rattle.relay_model.specs.Transfers.{due, greatest_read, is_spent}
use Rattle.relay_model.specs.Moments.{passed}
use Rattle.relay_model.specs.May.{BeginsWith, MayAsk, MayRead, MayOffer, MayWrite, MayShut}
use Rattle.relay_laws.proofs.PlaceLemmas.{same_place_equal}

pub writes_due : (c : Config) (past : List Act) (s : ℕ) (w : Way) (bytes : List ℕ) → MayWrite c past (output c s w) bytes → BeginsWith (put past (output c s w) ++ bytes) (due c w (got past (input c s w)))
writes_due c past s LeftToRight bytes m = m.is_due
writes_due c past s RightToLeft bytes m = m.is_due

pub reads_in_room : (c : Config) (past : List Act) (s : ℕ) (w : Way) (n : ℕ) → MayRead c past (input c s w) n → n ≤ greatest_read c past s w
reads_in_room c past s LeftToRight n m = m.in_room
reads_in_room c past s RightToLeft n m = m.in_room

pub reads_before_end : (c : Config) (past : List Act) (s : ℕ) (w : Way) → MayAsk c past (input c s w) → passed c past s w ≡ false
reads_before_end c past s LeftToRight m = m.not_passed
reads_before_end c past s RightToLeft m = m.not_passed

pub offers_before_end : (c : Config) (past : List Act) (s : ℕ) (w : Way) → MayOffer c past (output c s w) → passed c past s w ≡ false
offers_before_end c past s LeftToRight m = m.not_passed
offers_before_end c past s RightToLeft m = m.not_passed

pub shuts_before_end : (c : Config) (past : List Act) (s : ℕ) (w : Way) (way : Shutting) → MayShut c past (output c s w) way → passed c past s w ≡ false
shuts_before_end c past s LeftToRight way m = m.not_passed
shuts_before_end c past s RightToLeft way m = m.not_passed

pub shuts_when_spent : (c : Config) (past : List Act) (s : ℕ) (w : Way) (way : Shutting) → MayShut c past (output c s w) way → is_spent c past s w ≡ true
shuts_when_spent c past s LeftToRight way m = m.spent
shuts_when_spent c past s RightToLeft way m = m.spent

-- a fact about a place, at one that is the same
pub moved_to : (P : Place → Type 0) (p q : Place) → same_place p q ≡ true → P p → P q
moved_to P p q e h = subst P (same_place_equal p q e) h
