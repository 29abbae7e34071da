use Rattle.std.proofs.Common.{ℕ, ◌≤◌, List, ◌++◌, length, take, ◌∙◌, arith}
use Rattle.std.proofs.lemmas.List.{length-append}
use Rattle.line_ends.specs.Converted.{converted}
use Rattle.relay_buffer.specs.Backlogs.{held_bytes, held_capacity}
use Rattle.relay_buffer.proofs.BacklogLemmas.{piece_fits, piece_on}
use Rattle.relay_buffer.proofs.backlogs.Backlog.append_by_pieces.Goals as goal

pub append-requires : goal.append-requires
append-requires c =
    let whole : List ℕ = held_bytes c.args.self.now ++ converted c.args.how c.args.bytes.now in
    let long = length-append (held_bytes c.args.self.now) (converted c.args.how c.args.bytes.now) in
    let fits : length whole ≤ held_capacity c.loop-rest.self = omega (arith, long, c.requires, c.loop-rest.invariant.store.capacity) in
    piece_fits c.args.how c.loop-rest.rest.now c.split_at.result.0.now (held_bytes c.loop-rest.self) (take c.convert-len.result c.convert-len.new.out) whole c.min.result (held_capacity c.loop-rest.self) c.split_at.ensures.front c.loop-rest.invariant.bytes c.convert-len.ensures.converts fits

pub loop-rest-preserved : goal.loop-rest-preserved
loop-rest-preserved c =
    let store = c.append.ensures.store in
    let before = c.loop-rest.invariant.store in record {
      bytes =
          piece_on c.args.how c.loop-rest.rest.now c.split_at.result.0.now c.split_at.result.1.now (held_bytes c.loop-rest.self) (held_bytes c.append.new.self) (take c.convert-len.result c.convert-len.new.out) (held_bytes c.args.self.now ++ converted c.args.how c.args.bytes.now) c.min.result c.split_at.ensures.front c.split_at.ensures.back c.loop-rest.invariant.bytes c.append.ensures.bytes c.convert-len.ensures.converts;
      store = record {
        kind = store.kind ∙ before.kind;
        capacity = omega (arith, store.capacity, before.capacity);
      };
    }
