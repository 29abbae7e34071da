use Rattle.std.proofs.Common.{◌≡◌, Bool, true, false, Option, None, ap, ◌∙◌, sym, refl}
use Rattle.option_table.specs.declared.rows.OptionRow.{OptionRow}
use Rattle.option_table.specs.declared.rows.Lookup.TheVariants.{LeftOut, Unknown}
use Rattle.option_table.specs.Table.{found, is_listed}
use Rattle.option_table.specs.Rows.{lookup_of, known_options, left_out_options, answer_of}
use Rattle.option_table.proofs.table.lookup.Goals as goal

left_out : (o : Option OptionRow) (b : Bool) → None ≡ o → true ≡ b → LeftOut ≡ answer_of o b
left_out o b e f = rw (← e, ← f) refl

unknown : (o : Option OptionRow) (b : Bool) → None ≡ o → false ≡ b → Unknown ≡ answer_of o b
unknown o b e f = rw (← e, ← f) refl

pub returns-in-Some : goal.returns-in-Some
unfolding lookup_of known_options left_out_options
returns-in-Some c = ap (λ o. answer_of o (is_listed left_out_options c.args.name.now)) c.in-Some.ensures

pub returns-in-None : goal.returns-in-None
unfolding lookup_of known_options left_out_options
returns-in-None c =
    left_out (found known_options c.args.name.now) (is_listed left_out_options c.args.name.now)
    c.in-None.ensures (sym c.if-is_left_out.true ∙ c.is_left_out.ensures)

pub returns-in-None-2 : goal.returns-in-None-2
unfolding lookup_of known_options left_out_options
returns-in-None-2 c =
    unknown (found known_options c.args.name.now) (is_listed left_out_options c.args.name.now)
    c.in-None.ensures (sym c.if-is_left_out.false ∙ c.is_left_out.ensures)
