use Rattle.std.proofs.Common.{rules, refl, ◌<◌, length}
use Rattle.std.proofs.lemmas.Option.{slice_get_read}
use Rattle.desk_places.proofs.KeyLemmas.{inverse_exchanged, exchanged_gets, first_within, second_within}
use Rattle.desk_places.proofs.keys.exchange.Goals as goal

pub index_mut-requires-3 : goal.index_mut-requires-3
index_mut-requires-3 c =
    let first = slice_get_read c.args.order.now.items (length c.args.order.now.items) c.args.one c.index-first.result.now refl c.requires.one c.index-first.ensures in
    let second = slice_get_read c.args.order.now.items (length c.args.order.now.items) c.args.two c.index-second.result.now refl c.requires.two c.index-second.ensures in
    let within : c.index-second.result.now < length c.args.places.now.items = second_within c.args.order.now.items c.args.places.now.items c.args.one c.args.two c.index-first.result.now c.index-second.result.now c.requires.inverse first second in
    search rules

pub index_mut-requires-4 : goal.index_mut-requires-4
index_mut-requires-4 c =
    let first = slice_get_read c.args.order.now.items (length c.args.order.now.items) c.args.one c.index-first.result.now refl c.requires.one c.index-first.ensures in
    let second = slice_get_read c.args.order.now.items (length c.args.order.now.items) c.args.two c.index-second.result.now refl c.requires.two c.index-second.ensures in
    let within : c.index-first.result.now < length c.args.places.now.items = first_within c.args.order.now.items c.args.places.now.items c.args.one c.args.two c.index-first.result.now c.index-second.result.now c.requires.inverse first second in
    search rules

pub returns-clause-inverse : goal.returns-clause-inverse
returns-clause-inverse c =
    let first = slice_get_read c.args.order.now.items (length c.args.order.now.items) c.args.one c.index-first.result.now refl c.requires.one c.index-first.ensures in
    let second = slice_get_read c.args.order.now.items (length c.args.order.now.items) c.args.two c.index-second.result.now refl c.requires.two c.index-second.ensures in
    inverse_exchanged c.args.order.now.items c.args.places.now.items c.args.one c.args.two c.index-first.result.now c.index-second.result.now c.requires.inverse first second

pub returns-clause-exchanged : goal.returns-clause-exchanged
returns-clause-exchanged c =
    let first = slice_get_read c.args.order.now.items (length c.args.order.now.items) c.args.one c.index-first.result.now refl c.requires.one c.index-first.ensures in
    let second = slice_get_read c.args.order.now.items (length c.args.order.now.items) c.args.two c.index-second.result.now refl c.requires.two c.index-second.ensures in
    λ i. exchanged_gets c.args.order.now.items c.args.places.now.items c.args.one c.args.two c.index-first.result.now c.index-second.result.now c.requires.inverse first second i
