use Rattle.std.proofs.Common.{◌++◌, ap, sym, ◌∙◌}
use Rattle.crossbeam_queue.specs.Passes.{view}
use Rattle.ring_queue.specs.declared.roles.PassView.{PassView}
use Rattle.ring_queue.specs.declared.items.RingItem.{RingItem}
use Rattle.ring_queue.specs.declared.words.Word.{Word}
use Rattle.ring_queue.specs.Items.{is_end_mark, last_is}
use Rattle.ring_reader.proofs.Readings.{all_taken, feeds_of}
use Rattle.ring_reader.proofs.reader_steps.finish.Goals as goal

pub returns-clause-feeds : goal.returns-clause-feeds
returns-clause-feeds g c =
    let fed = c.land-fed.ensures.fed.2 in
    let order = c.take_in.ensures.order in
    let words = c.take_in-2.ensures.order in
    let so = ap (λ p. (view {V = PassView RingItem} p).sent) (sym c.replace-taker.ensures.after) ∙ order.1 ∙ ap (λ p. (view {V = PassView RingItem} p).taken ++ order.0) c.replace-taker.ensures.value in
    let asked = ap (λ (v : PassView Word). v.sent) (sym c.send.ensures.sent) ∙ words.1 in
    let all = all_taken (view c.land-fed.result.items).sent (view c.args.items.now).taken order.0 (view c.args.words.now).sent (view c.land-fed.result.words).taken words.0 so asked fed.ends_marked.marked fed.asked c.requires.asked in
    feeds_of _ _ _ _ _ _ _ _ all fed.feeds

pub returns-clause-spent : goal.returns-clause-spent
returns-clause-spent g c ended =
    let fed = c.land-fed.ensures.fed.2 in
    let order = c.take_in.ensures.order in
    let words = c.take_in-2.ensures.order in
    let so = ap (λ p. (view {V = PassView RingItem} p).sent) (sym c.replace-taker.ensures.after) ∙ order.1 ∙ ap (λ p. (view {V = PassView RingItem} p).taken ++ order.0) c.replace-taker.ensures.value in
    let asked = ap (λ (v : PassView Word). v.sent) (sym c.send.ensures.sent) ∙ words.1 in
    let all = all_taken (view c.land-fed.result.items).sent (view c.args.items.now).taken order.0 (view c.args.words.now).sent (view c.land-fed.result.words).taken words.0 so asked fed.ends_marked.marked fed.asked c.requires.asked in
    fed.ends_marked.spent (ap (last_is is_end_mark) all ∙ ended)
