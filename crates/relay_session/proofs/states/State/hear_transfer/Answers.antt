use Rattle.std.proofs.Common.{◌≡◌, refl, sym, ap, ◌∙◌, ◌||◌, true, false}
use Rattle.relay_session.specs.Lanes.{waiting_at}
use Rattle.relay_session.specs.Transfers.{moves_bytes}
use Rattle.relay_session.proofs.Passing.{others_move_nothing, passing_ends_none, passing_is_faultless, passing_moves}
use Rattle.relay_session.proofs.Plans.{quiet_while}
use Rattle.relay_session.proofs.StepLemmas.{as_it_was, transfer_step, transfer_quiet, transfer_away, transfer_now, transfer_may, transfer_untouched, transfer_faulted, write_at}
use Rattle.relay_session.proofs.states.State.hear_transfer.Goals as goal

pub returns-then-moves_bytes-clause-goes : goal.returns-then-moves_bytes-clause-goes
returns-then-moves_bytes-clause-goes c = λ k n past s f e t.
    let waiting = waiting_at c.args.self.now.lanes c.args.place in
    let moves : moves_bytes c.args.transfer ≡ true = sym c.moves_bytes.ensures ∙ c.if-moves_bytes.true in
    let going = quiet_while k n past s c.args.self.now.ending f.ending_is e in
    transfer_step k n past s _ c.args.self.now _ _ f e (λ fork. transfer_away k s past c.args.place waiting c.args.transfer) (transfer_quiet c.args.place waiting c.args.transfer) (transfer_now past c.args.place waiting c.args.transfer)
    (transfer_may k n past c.args.place waiting c.args.transfer t.may (write_at k past s c.args.self.now.lanes c.args.place f.ground.lanes_are t.own))
    (record { clock_same = refl; closing_same = refl; idle_same = refl; sloppy_same = refl })
    (c.stay_unmoved.ensures.elsewhere k past s _ f.ground.openings_are (transfer_untouched k s c.args.place waiting c.args.transfer))
    (c.hear.ensures.goes k past s f.ground.lanes_are f.ground.clock_is t.own t.may)
    (passing_moves k past s c.args.place waiting c.args.transfer c.args.self.now.clock t.own t.may moves f.ground.clock_is)
    (passing_is_faultless k past s c.args.place waiting c.args.transfer _ moves f.ground.faulted_is)
    (as_it_was _)
    (λ g q. e ∙ sym (passing_ends_none k past s c.args.place waiting c.args.transfer t.own t.may moves going.0 going.1))
    refl
    (c.hear.ensures.fewer k past s f.ground.lanes_are t.own t.may t.affords)

pub returns-else-moves_bytes-clause-goes : goal.returns-else-moves_bytes-clause-goes
returns-else-moves_bytes-clause-goes c = λ k n past s f e t.
    let waiting = waiting_at c.args.self.now.lanes c.args.place in
    let none : moves_bytes c.args.transfer ≡ false = sym c.moves_bytes.ensures ∙ c.if-moves_bytes.false in
    transfer_step k n past s _ c.args.self.now _ _ f e (λ fork. transfer_away k s past c.args.place waiting c.args.transfer) (transfer_quiet c.args.place waiting c.args.transfer) (transfer_now past c.args.place waiting c.args.transfer)
    (transfer_may k n past c.args.place waiting c.args.transfer t.may (write_at k past s c.args.self.now.lanes c.args.place f.ground.lanes_are t.own))
    (record { clock_same = refl; closing_same = refl; idle_same = refl; sloppy_same = refl })
    (c.stay_unmoved.ensures.elsewhere k past s _ f.ground.openings_are (transfer_untouched k s c.args.place waiting c.args.transfer))
    (c.hear.ensures.goes k past s f.ground.lanes_are f.ground.clock_is t.own t.may)
    (others_move_nothing k past s c.args.place waiting c.args.transfer _ none f.ground.moved_is)
    (ap (λ x. c.args.self.now.faulted || x) c.is_fault.ensures ∙ transfer_faulted k past s c.args.place waiting c.args.transfer _ t.own t.may f.ground.faulted_is)
    (record { openings_same = refl; lanes_same = refl; clock_same = refl; moved_same = refl; faulted_same = refl; closing_same = refl; idle_same = refl; sloppy_same = refl })
    (λ g q. c.cause-self.ensures k _ s g q)
    refl
    (c.hear.ensures.fewer k past s f.ground.lanes_are t.own t.may t.affords)
