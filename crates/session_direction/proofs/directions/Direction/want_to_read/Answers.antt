use Rattle.std.proofs.Common.{◌≡◌, ◌∙◌, sym, subst, arith}
use Rattle.session_direction.specs.Directions.{IsDirection, WantsRead}
use Rattle.session_direction.proofs.Wanted.{room_is, wants_nothing, wants_read}
use Rattle.session_direction.proofs.directions.Direction.want_to_read.Goals as goal

pub returns-then-room-eq0-clause-wants : goal.returns-then-room-eq0-clause-wants
returns-then-room-eq0-clause-wants c =
    λ k past s w f clock runs blocks whole going unspent tried.
    let g = subst (IsDirection k past s w) (sym c.self.view_is) f in
    wants_nothing k past s w blocks unspent tried (λ armed more within some. let size = c.room-room.ensures.size _ _ _ g.flow_is ∙ room_is k past s w more in absurd (omega (arith, size, some, c.if-room-eq0.true)))

pub returns-clause-wants : goal.returns-clause-wants
returns-clause-wants c =
    λ k past s w f clock runs blocks whole going unspent tried.
    let g = subst (IsDirection k past s w) (sym c.self.view_is) f in
    wants_read k past s w _ g.is_formed runs whole going (sym (c.is_worth_asking.ensures k past s w f clock) ∙ c.if-not-is_worth_asking.false) (omega (arith, c.if-room-eq0.false)) (c.room-room.ensures.size _ _ _ g.flow_is)

pub returns-clause-reads : goal.returns-clause-reads
returns-clause-reads c =
    λ k past s w n f clock runs whole going e.
    let g = subst (IsDirection k past s w) (sym c.self.view_is) f in
    let same : c.room-room.result ≡ n = cc in
    subst (WantsRead k past s w) same (wants_read k past s w _ g.is_formed runs whole going (sym (c.is_worth_asking.ensures k past s w f clock) ∙ c.if-not-is_worth_asking.false) (omega (arith, c.if-room-eq0.false)) (c.room-room.ensures.size _ _ _ g.flow_is))
