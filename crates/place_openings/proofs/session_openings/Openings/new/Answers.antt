use Rattle.std.proofs.Common.{◌≡◌, false, [], sym, subst, ◌∙◌}
use Rattle.std.specs.List.{All}
use Rattle.relay_model.specs.declared.places.Place.{Place}
use Rattle.place_openings.specs.Stands.{Each}
use Rattle.place_openings.proofs.Beginning.{no_doors}
use Rattle.place_openings.proofs.session_openings.Openings.new.Goals as goal

pub of_places-requires-clause-no_doors : goal.of_places-requires-clause-no_doors
of_places-requires-clause-no_doors c =
    subst (λ xs. All (λ (p : Place). p.door ≡ false) xs) (sym (c.as_slice.ensures ∙ c.places-list.ensures.places)) (no_doors c.args.config.now c.args.number)

pub returns-clause-stands : goal.returns-clause-stands
returns-clause-stands c =
    record { each = subst (λ xs. Each c.args.config.now [] xs c.of_places.result) (c.as_slice.ensures ∙ c.places-list.ensures.places) c.of_places.ensures.stands }
