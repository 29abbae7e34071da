use Rattle.std.proofs.Common.{◌≡◌, Bool, true, false, Option, None, Err, ap, ◌∙◌, sym, refl}
use Rattle.addr_kinds.specs.declared.faults.KindFault.TheVariants.{LeftOutKind, UnknownKind}
use Rattle.addr_kinds.specs.Kinds.{KnownKind, known_kinds, row_of, is_left_out}
use Rattle.addr_kinds.specs.Resolving.{known_or_not, kind_of}
use Rattle.addr_kinds.proofs.table.kind_of.Goals as goal

left_out : (o : Option KnownKind) (b : Bool) → None ≡ o → true ≡ b → Err LeftOutKind ≡ known_or_not o b
left_out o b e f = rw (← e, ← f) refl

unknown : (o : Option KnownKind) (b : Bool) → None ≡ o → false ≡ b → Err UnknownKind ≡ known_or_not o b
unknown o b e f = rw (← e, ← f) refl

pub returns-in-Some : goal.returns-in-Some
unfolding kind_of known_kinds
returns-in-Some c = ap (λ o. known_or_not o (is_left_out c.args.keyword.now)) c.in-Some.ensures

pub returns-in-None : goal.returns-in-None
unfolding kind_of known_kinds
returns-in-None c =
    left_out (row_of known_kinds c.args.keyword.now) (is_left_out c.args.keyword.now)
    c.in-None.ensures (sym c.if-is_left_out.true ∙ c.is_left_out.ensures)

pub returns-in-None-2 : goal.returns-in-None-2
unfolding kind_of known_kinds
returns-in-None-2 c =
    unknown (row_of known_kinds c.args.keyword.now) (is_left_out c.args.keyword.now)
    c.in-None.ensures (sym c.if-is_left_out.false ∙ c.is_left_out.ensures)
