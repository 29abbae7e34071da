use Rattle.std.proofs.Common.{rules, ◌∷◌, []}
use Rattle.std.proofs.lemmas.List.{take-append-le}
use Rattle.desk_places.proofs.KeyLemmas.{inverse_more}
use Rattle.desk_places.proofs.keys.KeySet.cover.Goals as goal

pub loop-self-preserved : goal.loop-self-preserved
loop-self-preserved c =
    let before = c.loop-self.self-inside in
    let more = inverse_more before.order.items before.places.items c.len-next.result (search rules) c.loop-self.invariant.inverse in
    let kept = take-append-le before.count before.order.items (c.len-next.result ∷ []) c.loop-self.invariant.within in
    record {
      inverse = search rules;
      within = search rules;
      keys = search rules;
      longer = search rules;
    }
