use Rattle.std.proofs.Common.{◌≡◌, ℕ, List, length, take, refl, sym, subst, ◌∙◌, arith}
use Rattle.std.proofs.lemmas.List.{length-take-le}
use Rattle.relay_model.specs.History.{now}
use Rattle.relay_model.specs.Configs.{is_place_of}
use Rattle.relay_model.specs.May.{MayRead}
use Rattle.relay_model.specs.Moments.{moved_at}
use Rattle.relay_model.specs.declared.acts.Act.TheVariants.{Read}
use Rattle.relay_session.proofs.Passing.{read_ends_none}
use Rattle.relay_session.proofs.Plans.{quiet_while}
use Rattle.relay_session.proofs.StepLemmas.{as_it_was, never_ended, noted, read_own, reads_bytes, transfer_step}
use Rattle.relay_session.proofs.states.State.hear_block.Goals as goal

pub returns-in-Read-clause-goes : goal.returns-in-Read-clause-goes
returns-in-Read-clause-goes c = λ k n past s f a.
    let is = c.in-Read.is in
    let p = c.in-Read.place in
    let bytes : List ℕ = take c.args.count c.args.block.now.items in
    let long : length bytes ≡ c.args.count = length-take-le c.args.count c.args.block.now.items (omega arith) in
    let may : MayRead k past p c.args.count = reads_bytes k past s _ _ _ (rw is at a).0 (rw is at c.requires.fits) in
    let own = (rw is at a).0.own in
    let none = (rw is at a).1.0 in
    let going = quiet_while k n past s c.args.self.now.ending f.ending_is none in
    rw is (transfer_step k n past s (Read p bytes) c.args.self.now _ _ f none (λ fork. refl) refl refl
    (λ unowed. (unowed, subst (λ m. MayRead k past p m) (sym long) may))
    (record { clock_same = refl; closing_same = refl; idle_same = refl; sloppy_same = refl })
    (c.stay_unmoved.ensures.elsewhere k past s _ f.ground.openings_are refl)
    (c.hear_block.ensures.goes k past s f.ground.lanes_are own may)
    (noted (is_place_of k s p) (now past) c.args.self.now.clock (moved_at k past s) (read_own k past s p c.args.count own may) f.ground.clock_is)
    f.ground.faulted_is
    (as_it_was _)
    (λ g q. none ∙ sym (read_ends_none k past s p bytes (read_own k past s p c.args.count own may) going.0 going.1))
    refl
    (c.hear_block.ensures.fewer k past s f.ground.lanes_are own may (rw is at a).1.1))

pub returns-in-Read-clause-over : goal.returns-in-Read-clause-over
returns-in-Read-clause-over c = λ k n past s a e. never_ended c.args.self.now.ending (rw c.in-Read.is at a).1.0 e
