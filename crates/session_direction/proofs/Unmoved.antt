-- An act that doesn't touch a direction leaves what the list of acts says of it.
use Rattle.std.proofs.Common.{◌≡◌, refl, sym, ap, subst, ◌∙◌, ℕ, Bool, true, false, not, cond, ◌&&◌, ◌||◌, List, [], ◌∷◌, ◌++◌, length, drop, Some, None}
use Rattle.std.proofs.lemmas.Bool.{true≢false}
use Rattle.relay_model.specs.declared.places.Way.{Way}
use Rattle.relay_model.specs.declared.commands.Config.{Config}
use Rattle.relay_model.specs.declared.acts.Act.{Act}
use Rattle.relay_model.specs.declared.acts.Act.TheVariants.{Turn, Opened, Accepted, Read, ReadEmpty, ReadEnd, ReadNotYet, ReadFault, Wrote, WriteNotYet, WriteFault, Shut, ShutFault}
use Rattle.relay_model.specs.Choices.{joined, or_else}
use Rattle.relay_model.specs.Configs.{input, output, options_of}
use Rattle.relay_model.specs.Conversions.{is_over}
use Rattle.relay_model.specs.History.{now, got, put, sent, met_end, met_empty, shut_at, read_fault_at, write_fault_at}
use Rattle.relay_model.specs.Arming.{read_arming, armed_to_write, asked_to_read, asked_to_write}
use Rattle.relay_model.specs.declared.armings.Arming.TheVariants.{Disarmed, Armed, AtEnd}
use Rattle.relay_model.specs.Transfers.{due, due_pieces, is_empty, over}
use Rattle.relay_buffer.specs.Flows.{IsFlow}
use Rattle.session_direction.specs.States.{DirectionState}
use Rattle.session_direction.specs.Directions.{IsDirection, as_pieces, met_last, terms_of}
use Rattle.session_direction.specs.Touches.{touches}

-- two lists of acts say the same of a direction
record SameFor (c : Config) (s : ℕ) (w : Way) (one other : List Act) : Type 0 where
  got_same : got one (input c s w) ≡ got other (input c s w)
  put_same : put one (output c s w) ≡ put other (output c s w)
  arming_same : read_arming one (input c s w) ≡ read_arming other (input c s w)
  armed_out_same : armed_to_write one (output c s w) ≡ armed_to_write other (output c s w)
  asked_in_same : asked_to_read one (input c s w) ≡ asked_to_read other (input c s w)
  asked_out_same : asked_to_write one (input c s w) (output c s w) ≡ asked_to_write other (input c s w) (output c s w)
  met_end_same : met_end one (input c s w) ≡ met_end other (input c s w)
  met_empty_same : met_empty one (input c s w) ≡ met_empty other (input c s w)
  shut_same : shut_at one (output c s w) ≡ shut_at other (output c s w)
  read_fault_same : read_fault_at one (input c s w) ≡ read_fault_at other (input c s w)
  write_fault_same : write_fault_at one (output c s w) ≡ write_fault_at other (output c s w)
  pieces_same : due_pieces c one s w ≡ due_pieces c other s w
  sent_same : sent one (output c s w) ≡ sent other (output c s w)

neither : (a b : Bool) → (a || b) ≡ false → (a ≡ false) × (b ≡ false)
neither true b e = absurd (true≢false e)
neither false b e = (refl, e)

same_for : (c : Config) (past : List Act) (s : ℕ) (w : Way) (act : Act) → touches c s w act ≡ false → SameFor c s w (act ∷ past) past
same_for c past s w (Turn until at ready stop) e = absurd (true≢false e)
same_for c past s w (Opened q) e = let k = neither _ _ e in record { got_same = refl; put_same = refl; arming_same = ap (λ b. cond b Armed (read_arming past (input c s w))) k.0; armed_out_same = ap (λ b. b || armed_to_write past (output c s w)) k.1; asked_in_same = refl; asked_out_same = refl; met_end_same = refl; met_empty_same = refl; shut_same = refl; read_fault_same = refl; write_fault_same = refl; pieces_same = refl; sent_same = refl }
same_for c past s w (Accepted q peer) e = let k = neither _ _ e in record { got_same = refl; put_same = refl; arming_same = ap (λ b. cond b Armed (read_arming past (input c s w))) k.0; armed_out_same = ap (λ b. b || armed_to_write past (output c s w)) k.1; asked_in_same = refl; asked_out_same = refl; met_end_same = refl; met_empty_same = refl; shut_same = refl; read_fault_same = refl; write_fault_same = refl; pieces_same = refl; sent_same = refl }
same_for c past s w (Read q bytes) e = record { got_same = ap (λ b. joined b (got past (input c s w)) bytes) e; put_same = refl; arming_same = refl; armed_out_same = refl; asked_in_same = ap (λ b. b || asked_to_read past (input c s w)) e; asked_out_same = ap (λ b. not b && asked_to_write past (input c s w) (output c s w)) e; met_end_same = refl; met_empty_same = refl; shut_same = refl; read_fault_same = refl; write_fault_same = refl; pieces_same = ap (λ b. joined (b && not (is_empty (drop (length (due c w (got past (input c s w)))) (due c w (got past (input c s w) ++ bytes))))) (due_pieces c past s w) (drop (length (due c w (got past (input c s w)))) (due c w (got past (input c s w) ++ bytes)) ∷ [])) e; sent_same = refl }
same_for c past s w (ReadEmpty q) e = record { got_same = refl; put_same = refl; arming_same = refl; armed_out_same = refl; asked_in_same = ap (λ b. b || asked_to_read past (input c s w)) e; asked_out_same = refl; met_end_same = refl; met_empty_same = ap (λ b. b || met_empty past (input c s w)) e; shut_same = refl; read_fault_same = refl; write_fault_same = refl; pieces_same = refl; sent_same = refl }
same_for c past s w (ReadEnd q) e = record { got_same = refl; put_same = refl; arming_same = ap (λ b. cond b (AtEnd (now past)) (read_arming past (input c s w))) e; armed_out_same = refl; asked_in_same = ap (λ b. b || asked_to_read past (input c s w)) e; asked_out_same = refl; met_end_same = ap (λ b. b || met_end past (input c s w)) e; met_empty_same = refl; shut_same = refl; read_fault_same = refl; write_fault_same = refl; pieces_same = refl; sent_same = refl }
same_for c past s w (ReadNotYet q) e = record { got_same = refl; put_same = refl; arming_same = ap (λ b. cond b Disarmed (read_arming past (input c s w))) e; armed_out_same = refl; asked_in_same = ap (λ b. b || asked_to_read past (input c s w)) e; asked_out_same = refl; met_end_same = refl; met_empty_same = refl; shut_same = refl; read_fault_same = refl; write_fault_same = refl; pieces_same = refl; sent_same = refl }
same_for c past s w (ReadFault q) e = record { got_same = refl; put_same = refl; arming_same = refl; armed_out_same = refl; asked_in_same = ap (λ b. b || asked_to_read past (input c s w)) e; asked_out_same = refl; met_end_same = refl; met_empty_same = refl; shut_same = refl; read_fault_same = ap (λ b. cond b (Some (now past)) (read_fault_at past (input c s w))) e; write_fault_same = refl; pieces_same = refl; sent_same = refl }
same_for c past s w (Wrote q bytes) e = record { got_same = refl; put_same = ap (λ b. joined b (put past (output c s w)) bytes) e; arming_same = refl; armed_out_same = refl; asked_in_same = refl; asked_out_same = ap (λ b. b || asked_to_write past (input c s w) (output c s w)) e; met_end_same = refl; met_empty_same = refl; shut_same = refl; read_fault_same = refl; write_fault_same = refl; pieces_same = refl; sent_same = ap (λ b. joined b (sent past (output c s w)) (bytes ∷ [])) e }
same_for c past s w (WriteNotYet q) e = record { got_same = refl; put_same = refl; arming_same = refl; armed_out_same = ap (λ b. not b && armed_to_write past (output c s w)) e; asked_in_same = refl; asked_out_same = ap (λ b. b || asked_to_write past (input c s w) (output c s w)) e; met_end_same = refl; met_empty_same = refl; shut_same = refl; read_fault_same = refl; write_fault_same = refl; pieces_same = refl; sent_same = refl }
same_for c past s w (WriteFault q) e = record { got_same = refl; put_same = refl; arming_same = refl; armed_out_same = refl; asked_in_same = refl; asked_out_same = ap (λ b. b || asked_to_write past (input c s w) (output c s w)) e; met_end_same = refl; met_empty_same = refl; shut_same = refl; read_fault_same = refl; write_fault_same = ap (λ b. cond b (Some (now past)) (write_fault_at past (output c s w))) e; pieces_same = refl; sent_same = refl }
same_for c past s w (Shut q way) e = record { got_same = refl; put_same = refl; arming_same = refl; armed_out_same = refl; asked_in_same = refl; asked_out_same = refl; met_end_same = refl; met_empty_same = refl; shut_same = ap (λ b. cond b (Some (now past)) (shut_at past (output c s w))) e; read_fault_same = refl; write_fault_same = refl; pieces_same = refl; sent_same = refl }
same_for c past s w (ShutFault q way) e = record { got_same = refl; put_same = refl; arming_same = refl; armed_out_same = refl; asked_in_same = refl; asked_out_same = refl; met_end_same = refl; met_empty_same = refl; shut_same = ap (λ b. cond b (Some (now past)) (shut_at past (output c s w))) e; read_fault_same = refl; write_fault_same = refl; pieces_same = refl; sent_same = refl }
same_for c past s w act e = record { got_same = refl; put_same = refl; arming_same = refl; armed_out_same = refl; asked_in_same = refl; asked_out_same = refl; met_end_same = refl; met_empty_same = refl; shut_same = refl; read_fault_same = refl; write_fault_same = refl; pieces_same = refl; sent_same = refl }

last_same : (c : Config) (s : ℕ) (w : Way) (one other : List Act) → SameFor c s w one other → met_last c one s w ≡ met_last c other s w
last_same c s w one other k =
    let o = options_of c (input c s w) in
    ap (λ e. e && not o.input.ignoreeof || met_empty one (input c s w) && o.input.null_eof) k.met_end_same
    ∙ ap (λ e. met_end other (input c s w) && not o.input.ignoreeof || e && o.input.null_eof) k.met_empty_same

over_same : (c : Config) (s : ℕ) (w : Way) (one other : List Act) → SameFor c s w one other → over c one (input c s w) ≡ over c other (input c s w)
over_same c s w one other k =
    let o = options_of c (input c s w) in
    ap (λ e. e || is_over o.input.readbytes o.input.escape (got one (input c s w))) (last_same c s w one other k)
    ∙ ap (λ x. met_last c other s w || is_over o.input.readbytes o.input.escape x) k.got_same

pub unmoved_by : (c : Config) (past : List Act) (s : ℕ) (w : Way) (d : DirectionState) (act : Act) → touches c s w act ≡ false → IsDirection c past s w d → IsDirection c (act ∷ past) s w d
unmoved_by c past s w d act e f =
    let k = same_for c past s w act e in
    record { is_formed = f.is_formed; source_is = f.source_is; sink_is = f.sink_is; ignores_end_is = f.ignores_end_is; ends_at_empty_is = f.ends_at_empty_is; sloppy_is = f.sloppy_is; how_is = f.how_is; gathers_is = f.gathers_is; flow_is = subst (λ x. IsFlow (terms_of c w) x (put (act ∷ past) (output c s w)) d.flow) (sym k.got_same) (subst (λ y. IsFlow (terms_of c w) (got past (input c s w)) y d.flow) (sym k.put_same) f.flow_is); arming_is = f.arming_is ∙ sym k.arming_same; armed_out_is = f.armed_out_is ∙ sym k.armed_out_same; asked_in_is = f.asked_in_is ∙ sym k.asked_in_same; asked_out_is = f.asked_out_is ∙ sym k.asked_out_same; ended_is = f.ended_is ∙ sym (last_same c s w (act ∷ past) past k); passed_is = f.passed_is ∙ sym k.shut_same; broken_is = f.broken_is ∙ sym (ap (λ o. cond c.sloppy (or_else o (write_fault_at (act ∷ past) (output c s w))) None) k.read_fault_same ∙ ap (λ o. cond c.sloppy (or_else (read_fault_at past (input c s w)) o) None) k.write_fault_same); pieces_are = λ keeps. k.pieces_same ∙ f.pieces_are keeps ∙ ap (λ l. l ++ as_pieces d.flow.backlog) (sym k.sent_same); passed_is_spent = λ t. let h = f.passed_is_spent t in record { emptied = h.emptied; is_over = over_same c s w (act ∷ past) past k ∙ h.is_over } }
