use Rattle.std.proofs.Common.{ap, sym, ◌∙◌}
use Rattle.peer_demux.specs.Rows.{RowState}
use Rattle.peer_demux.proofs.Places.{gives_number, gives_one, read_at, set_table}
use Rattle.peer_demux.proofs.tables.Demux.give_at.Goals as goal

pub invariant_of-self : goal.invariant_of-self
invariant_of-self c =
    let within = rw (← c.self.view_is) at c.requires.within in
    let here = read_at _ _ _ within c.index_mut.ensures.value in
    set_table _ _ _ _ (gives_number _ _ _ _ c.give.ensures ∙ sym (ap (λ (r : RowState). r.number) here)) c.self.invariant

pub returns : goal.returns
returns c =
    let within = rw (← c.self.view_is) at c.requires.within in
    let here = read_at _ _ _ within c.index_mut.ensures.value in
    rw (← c.self.view_is) (gives_one _ _ _ _ _ _ within here c.give.ensures)
