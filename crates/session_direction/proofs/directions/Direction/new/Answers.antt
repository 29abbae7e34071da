use Rattle.std.proofs.Common.{rules, ◌≡◌, ℕ, [], Option, None, Some, refl, sym, ap, ◌∙◌, arith}
use Rattle.std.proofs.lemmas.List.{take_all}
use Rattle.relay_model.specs.declared.commands.Conv.{Conv}
use Rattle.relay_model.specs.declared.commands.Conv.TheVariants.{Plain, Cr, Crnl}
use Rattle.relay_model.specs.Conversions.{before_escape, due_of, first_bytes, read_converted, write_converted}
use Rattle.relay_buffer.proofs.EscapeLemmas.{before_escape-all}
use Rattle.session_direction.specs.Directions.{as_pieces}
use Rattle.session_direction.proofs.directions.Direction.new.Goals as goal

first_none : (readbytes : Option ℕ) → first_bytes readbytes [] ≡ []
first_none None = refl
first_none (Some most) = take_all most [] (omega arith)

before_none : (escape : Option ℕ) → before_escape escape [] ≡ []
before_none None = refl
before_none (Some e) = before_escape-all (Some e) [] refl

read_none : (conv : Conv) → read_converted conv [] ≡ []
read_none Plain = refl
read_none Cr = refl
read_none Crnl = refl

write_none : (conv : Conv) → write_converted conv [] ≡ []
write_none Plain = refl
write_none Cr = refl
write_none Crnl = refl

-- of no bytes nothing is due
none_due : (read write : Conv) (readbytes escape : Option ℕ) → due_of read write readbytes escape [] ≡ []
none_due read write readbytes escape =
    ap (λ xs. write_converted write (read_converted read (before_escape escape xs))) (first_none readbytes)
    ∙ ap (λ xs. write_converted write (read_converted read xs)) (before_none escape)
    ∙ ap (write_converted write) (read_none read)
    ∙ write_none write

pub returns : goal.returns
returns c =
    let flow = c.in_ok-flow.ensures in
    let terms = c.terms_of-terms.result in
    let empty = flow.bytes ∙ none_due terms.how.read terms.how.write terms.readbytes terms.escape in record {
      is_formed = c.requires.formed;
      source_is = search rules;
      sink_is = search rules;
      ignores_end_is = search rules;
      ends_at_empty_is = search rules;
      sloppy_is = search rules;
      how_is = search rules;
      gathers_is = search rules;
      flow_is = search rules;
      arming_is = search rules;
      armed_out_is = search rules;
      asked_in_is = search rules;
      asked_out_is = search rules;
      ended_is = search rules;
      passed_is = search rules;
      broken_is = search rules;
      pieces_are = λ keeps. ap as_pieces (sym empty);
      passed_is_spent = search rules;
    }
