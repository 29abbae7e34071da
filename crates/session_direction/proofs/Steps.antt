-- What a direction stands for after each act at one of its places, and after each entry of a turn.
use Rattle.std.proofs.Common.{◌≡◌, refl, sym, ap, subst, ◌∙◌, ℕ, ◌≤◌, Bool, true, false, not, cond, ◌&&◌, ◌||◌, List, [], ◌∷◌, ◌++◌, length, take, drop, Option, Some, None, is_some, ◌⊎◌, inl, inr, ⊎_elim, arith, append-nil}
use Rattle.std.proofs.Math.ListN.{drop_of_length-le}
use Rattle.std.proofs.lemmas.Bool.{true≢false}
use Rattle.relay_model.specs.declared.places.Way.{Way}
use Rattle.relay_model.specs.declared.places.Place.{Place}
use Rattle.relay_model.specs.declared.places.Half.{Half}
use Rattle.relay_model.specs.declared.places.Half.TheVariants.{ToRead, ToWrite}
use Rattle.relay_model.specs.declared.commands.Config.{Config}
use Rattle.relay_model.specs.declared.readiness.ReadyAt.{ReadyAt}
use Rattle.relay_model.specs.declared.acts.Peer.{Peer}
use Rattle.relay_model.specs.declared.acts.Shut.{Shut as Shutting}
use Rattle.relay_model.specs.declared.acts.Act.{Act}
use Rattle.relay_model.specs.declared.acts.Act.TheVariants.{Turn, Opened, Accepted, Read, ReadEmpty, ReadEnd, ReadNotYet, ReadFault, Wrote, WriteNotYet, WriteFault, Shut, ShutFault}
use Rattle.relay_model.specs.Places.{same_place, same_half}
use Rattle.relay_model.specs.Readiness.{Listed, names}
use Rattle.relay_model.specs.Choices.{joined, only_if, or_else}
use Rattle.relay_model.specs.Configs.{input, output, options_of, keeps_borders}
use Rattle.relay_model.specs.Conversions.{packet_cap, is_over}
use Rattle.relay_model.specs.History.{now, got, put, sent, met_end, met_empty, shut_at, read_fault_at, write_fault_at}
use Rattle.relay_model.specs.Arming.{read_arming, armed_to_write, asked_to_read, asked_to_write}
use Rattle.relay_model.specs.declared.armings.Arming.{Arming}
use Rattle.relay_model.specs.declared.armings.Arming.TheVariants.{Disarmed, Armed, AtEnd}
use Rattle.relay_model.specs.Transfers.{due, due_pieces, is_empty, over}
use Rattle.relay_model.specs.Moments.{passed, broken}
use Rattle.relay_laws.proofs.PlaceLemmas.{same_place_self}
use Rattle.relay_buffer.specs.Flows.{Flowing, IsFlow, room_in, over_in, at_most, most_at_once, taken}
use Rattle.session_direction.specs.States.{DirectionState}
use Rattle.session_direction.specs.Directions.{IsDirection, IsSpent, as_pieces, listed, met_last, terms_of}
use Rattle.session_direction.proofs.Pieces.{pieces_read, waits_or_reads, pieces_written}

-- ---- reads

-- a read that found nothing yet
pub read_not_yet : (c : Config) (past : List Act) (s : ℕ) (w : Way) (d : DirectionState) → IsDirection c past s w d → IsDirection c (ReadNotYet (input c s w) ∷ past) s w (record d { asked_in = true; arming = Disarmed })
read_not_yet c past s w d f =
    let self = same_place_self (input c s w) in
    record { is_formed = f.is_formed; source_is = f.source_is; sink_is = f.sink_is; ignores_end_is = f.ignores_end_is; ends_at_empty_is = f.ends_at_empty_is; sloppy_is = f.sloppy_is; how_is = f.how_is; gathers_is = f.gathers_is; flow_is = f.flow_is; arming_is = ap (λ b. cond b Disarmed (read_arming past (input c s w))) (sym self); armed_out_is = f.armed_out_is; asked_in_is = ap (λ b. b || asked_to_read past (input c s w)) (sym self); asked_out_is = f.asked_out_is; ended_is = f.ended_is; passed_is = f.passed_is; broken_is = f.broken_is; pieces_are = f.pieces_are; passed_is_spent = λ e. let k = f.passed_is_spent e in record { emptied = k.emptied; is_over = k.is_over } }

ended_empty : (ends keeps n : Bool) → (n || (ends || (keeps && n))) ≡ (ends || ((true || keeps) && n))
ended_empty true true true = refl
ended_empty true true false = refl
ended_empty true false true = refl
ended_empty true false false = refl
ended_empty false true true = refl
ended_empty false true false = refl
ended_empty false false true = refl
ended_empty false false false = refl

ended_end : (ends keeps n : Bool) → (not n || ((ends && not n) || keeps)) ≡ (((true || ends) && not n) || keeps)
ended_end true true true = refl
ended_end true true false = refl
ended_end true false true = refl
ended_end true false false = refl
ended_end false true true = refl
ended_end false true false = refl
ended_end false false true = refl
ended_end false false false = refl

over_more : (n ended is_over : Bool) → (ended || is_over) ≡ true → ((n || ended) || is_over) ≡ true
over_more true ended is_over h = refl
over_more false ended is_over h = h

-- where one more end counts, an input that was over still is
still_over : (c : Config) (past later : List Act) (s : ℕ) (w : Way) (d : DirectionState) (n : Bool) → d.ended ≡ met_last c past s w → (n || d.ended) ≡ met_last c later s w → got later (input c s w) ≡ got past (input c s w) → over c past (input c s w) ≡ true → over c later (input c s w) ≡ true
still_over c past later s w d n before after same h =
    let o = options_of c (input c s w) in
    ap (λ e. e || is_over o.input.readbytes o.input.escape (got later (input c s w))) (sym after)
    ∙ ap (λ x. (n || d.ended) || is_over o.input.readbytes o.input.escape x) same
    ∙ over_more n d.ended (is_over o.input.readbytes o.input.escape (got past (input c s w))) (ap (λ e. e || is_over o.input.readbytes o.input.escape (got past (input c s w))) before ∙ h)

-- an empty packet that was read
pub read_empty : (c : Config) (past : List Act) (s : ℕ) (w : Way) (d : DirectionState) → IsDirection c past s w d → IsDirection c (ReadEmpty (input c s w) ∷ past) s w (record d { asked_in = true; ended = d.ends_at_empty || d.ended })
read_empty c past s w d f =
    let self = same_place_self (input c s w) in
    let ended : (d.ends_at_empty || d.ended) ≡ met_last c (ReadEmpty (input c s w) ∷ past) s w =
    ap (λ n. n || d.ended) f.ends_at_empty_is ∙ ap (λ e. (options_of c (input c s w)).input.null_eof || e) f.ended_is
    ∙ ended_empty (met_end past (input c s w) && not (options_of c (input c s w)).input.ignoreeof) (met_empty past (input c s w)) (options_of c (input c s w)).input.null_eof
    ∙ ap (λ b. met_end past (input c s w) && not (options_of c (input c s w)).input.ignoreeof || (b || met_empty past (input c s w)) && (options_of c (input c s w)).input.null_eof) (sym self) in
    record { is_formed = f.is_formed; source_is = f.source_is; sink_is = f.sink_is; ignores_end_is = f.ignores_end_is; ends_at_empty_is = f.ends_at_empty_is; sloppy_is = f.sloppy_is; how_is = f.how_is; gathers_is = f.gathers_is; flow_is = f.flow_is; arming_is = f.arming_is; armed_out_is = f.armed_out_is; asked_in_is = ap (λ b. b || asked_to_read past (input c s w)) (sym self); asked_out_is = f.asked_out_is; ended_is = ended; passed_is = f.passed_is; broken_is = f.broken_is; pieces_are = f.pieces_are; passed_is_spent = λ e. let k = f.passed_is_spent e in record { emptied = k.emptied; is_over = still_over c past (ReadEmpty (input c s w) ∷ past) s w d d.ends_at_empty f.ended_is ended refl k.is_over } }

-- an end that was met
pub read_end : (c : Config) (past : List Act) (s : ℕ) (w : Way) (d : DirectionState) (at : ℕ) → at ≡ now past → IsDirection c past s w d → IsDirection c (ReadEnd (input c s w) ∷ past) s w (record d { asked_in = true; arming = AtEnd at; ended = not d.ignores_end || d.ended })
read_end c past s w d at clock f =
    let self = same_place_self (input c s w) in
    let ended : (not d.ignores_end || d.ended) ≡ met_last c (ReadEnd (input c s w) ∷ past) s w =
    ap (λ n. not n || d.ended) f.ignores_end_is ∙ ap (λ e. not (options_of c (input c s w)).input.ignoreeof || e) f.ended_is
    ∙ ended_end (met_end past (input c s w)) (met_empty past (input c s w) && (options_of c (input c s w)).input.null_eof) (options_of c (input c s w)).input.ignoreeof
    ∙ ap (λ b. (b || met_end past (input c s w)) && not (options_of c (input c s w)).input.ignoreeof || met_empty past (input c s w) && (options_of c (input c s w)).input.null_eof) (sym self) in
    record { is_formed = f.is_formed; source_is = f.source_is; sink_is = f.sink_is; ignores_end_is = f.ignores_end_is; ends_at_empty_is = f.ends_at_empty_is; sloppy_is = f.sloppy_is; how_is = f.how_is; gathers_is = f.gathers_is; flow_is = f.flow_is; arming_is = ap AtEnd clock ∙ ap (λ b. cond b (AtEnd (now past)) (read_arming past (input c s w))) (sym self); armed_out_is = f.armed_out_is; asked_in_is = ap (λ b. b || asked_to_read past (input c s w)) (sym self); asked_out_is = f.asked_out_is; ended_is = ended; passed_is = f.passed_is; broken_is = f.broken_is; pieces_are = f.pieces_are; passed_is_spent = λ e. let k = f.passed_is_spent e in record { emptied = k.emptied; is_over = still_over c past (ReadEnd (input c s w) ∷ past) s w d (not d.ignores_end) f.ended_is ended refl k.is_over } }

broken_by_read : (sloppy b : Bool) (at was : ℕ) (read write : Option ℕ) → b ≡ true → at ≡ was → cond sloppy (Some at) None ≡ cond sloppy (or_else (cond b (Some was) read) write) None
broken_by_read true b at was read write e clock = ap Some clock ∙ ap (λ b. or_else (cond b (Some was) read) write) (sym e)
broken_by_read false b at was read write e clock = refl

broken_by_write : (sloppy b : Bool) (at was : ℕ) (read write : Option ℕ) → b ≡ true → at ≡ was → is_some (cond sloppy (or_else read write) None) ≡ false → cond sloppy (Some at) None ≡ cond sloppy (or_else read (cond b (Some was) write)) None
broken_by_write true b at was None write e clock none = ap Some clock ∙ ap (λ b. cond b (Some was) write) (sym e)
broken_by_write true b at was (Some before) write e clock none = absurd (true≢false none)
broken_by_write false b at was read write e clock none = refl

-- a read that failed
pub read_fault : (c : Config) (past : List Act) (s : ℕ) (w : Way) (d : DirectionState) (at : ℕ) → at ≡ now past → IsDirection c past s w d → IsDirection c (ReadFault (input c s w) ∷ past) s w (record d { asked_in = true; broken_at = cond d.sloppy (Some at) None })
read_fault c past s w d at clock f =
    let self = same_place_self (input c s w) in
    record { is_formed = f.is_formed; source_is = f.source_is; sink_is = f.sink_is; ignores_end_is = f.ignores_end_is; ends_at_empty_is = f.ends_at_empty_is; sloppy_is = f.sloppy_is; how_is = f.how_is; gathers_is = f.gathers_is; flow_is = f.flow_is; arming_is = f.arming_is; armed_out_is = f.armed_out_is; asked_in_is = ap (λ b. b || asked_to_read past (input c s w)) (sym self); asked_out_is = f.asked_out_is; ended_is = f.ended_is; passed_is = f.passed_is; broken_is = ap (λ b. cond b (Some at) None) f.sloppy_is ∙ broken_by_read c.sloppy (same_place (input c s w) (input c s w)) at (now past) (read_fault_at past (input c s w)) (write_fault_at past (output c s w)) self clock; pieces_are = f.pieces_are; passed_is_spent = λ e. let k = f.passed_is_spent e in record { emptied = k.emptied; is_over = k.is_over } }

-- what waits as packets after bytes were read
pieces_after : (c : Config) (past : List Act) (s : ℕ) (w : Way) (d : DirectionState) (bytes : List ℕ) (flow : Flowing) → length bytes ≤ room_in d.flow → IsFlow (terms_of c w) (got past (input c s w) ++ bytes) (put past (output c s w)) flow → IsDirection c past s w d → keeps_borders c w ≡ true → due_pieces c (Read (input c s w) bytes ∷ past) s w ≡ sent past (output c s w) ++ as_pieces flow.backlog
pieces_after c past s w d bytes flow le filled f keeps =
    let x = got past (input c s w) in
    let cap = packet_cap (options_of c (output c 0 w)).conv in
    let packets : d.flow.lane.packets ≡ Some cap = ap (λ l. l.packets) f.flow_is.lane_is ∙ ap (λ b. only_if b cap) keeps in
    let room : length bytes ≤ cond (over_in d.flow) 0 (at_most d.flow.left (most_at_once (Some cap) d.flow.lane.block (length d.flow.backlog))) = subst (λ p. length bytes ≤ cond (over_in d.flow) 0 (at_most d.flow.left (most_at_once p d.flow.lane.block (length d.flow.backlog)))) packets le in
    let one : (d.flow.backlog ≡ []) ⊎ (due c w (x ++ bytes) ≡ due c w x) =
    ⊎_elim inl (λ none. inr (ap (λ l. due c w (x ++ l)) none ∙ ap (due c w) (append-nil x))) (waits_or_reads cap d.flow.lane.block d.flow.left (over_in d.flow) d.flow.backlog bytes room) in
    ap (λ b. joined (b && not (is_empty (drop (length (due c w x)) (due c w (x ++ bytes))))) (due_pieces c past s w) (drop (length (due c w x)) (due c w (x ++ bytes)) ∷ [])) (same_place_self (input c s w))
    ∙ pieces_read (due_pieces c past s w) (sent past (output c s w)) (put past (output c s w)) d.flow.backlog flow.backlog (due c w x) (due c w (x ++ bytes)) (f.pieces_are keeps) f.flow_is.bytes filled.bytes one

-- bytes that were read
pub read_bytes : (c : Config) (past : List Act) (s : ℕ) (w : Way) (d : DirectionState) (bytes : List ℕ) (flow : Flowing) → length bytes ≤ room_in d.flow → passed c past s w ≡ false → IsFlow (terms_of c w) (got past (input c s w) ++ bytes) (put past (output c s w)) flow → IsDirection c past s w d → IsDirection c (Read (input c s w) bytes ∷ past) s w (record d { asked_in = true; asked_out = false; flow = flow })
read_bytes c past s w d bytes flow le going filled f =
    let self = same_place_self (input c s w) in
    record { is_formed = f.is_formed; source_is = f.source_is; sink_is = f.sink_is; ignores_end_is = f.ignores_end_is; ends_at_empty_is = f.ends_at_empty_is; sloppy_is = f.sloppy_is; how_is = f.how_is; gathers_is = f.gathers_is; flow_is = subst (λ b. IsFlow (terms_of c w) (joined b (got past (input c s w)) bytes) (put past (output c s w)) flow) (sym self) filled; arming_is = f.arming_is; armed_out_is = f.armed_out_is; asked_in_is = ap (λ b. b || asked_to_read past (input c s w)) (sym self); asked_out_is = ap (λ b. not b && asked_to_write past (input c s w) (output c s w)) (sym self); ended_is = f.ended_is; passed_is = f.passed_is; broken_is = f.broken_is; pieces_are = pieces_after c past s w d bytes flow le filled f; passed_is_spent = λ e. absurd (true≢false (sym e ∙ ap is_some f.passed_is ∙ going)) }

-- ---- writes

pub keeps_packets : (c : Config) (past : List Act) (s : ℕ) (w : Way) (d : DirectionState) → IsDirection c past s w d → keeps_borders c w ≡ true → is_some d.flow.lane.packets ≡ true
keeps_packets c past s w d f keeps = ap (λ l. is_some l.packets) f.flow_is.lane_is ∙ ap (λ b. is_some (only_if b (packet_cap (options_of c (output c 0 w)).conv))) keeps

-- bytes that were written
wrote_bytes : (c : Config) (past : List Act) (s : ℕ) (w : Way) (d : DirectionState) (n : ℕ) → 1 ≤ n → n ≤ length d.flow.backlog → (is_some d.flow.lane.packets ≡ true → n ≡ length d.flow.backlog) → passed c past s w ≡ false → IsFlow (terms_of c w) (got past (input c s w)) (put past (output c s w) ++ take n d.flow.backlog) (taken n d.flow) → IsDirection c past s w d → IsDirection c (Wrote (output c s w) (take n d.flow.backlog) ∷ past) s w (record d { asked_out = true; flow = taken n d.flow })
wrote_bytes c past s w d n some within whole going took f =
    let at_end = same_place_self (output c s w) in
    record {
      is_formed = f.is_formed;
      source_is = f.source_is;
      sink_is = f.sink_is;
      ignores_end_is = f.ignores_end_is;
      ends_at_empty_is = f.ends_at_empty_is;
      sloppy_is = f.sloppy_is;
      how_is = f.how_is;
      gathers_is = f.gathers_is;
      flow_is = subst (λ b. IsFlow (terms_of c w) (got past (input c s w)) (joined b (put past (output c s w)) (take n d.flow.backlog)) (taken n d.flow)) (sym at_end) took;
      arming_is = f.arming_is;
      armed_out_is = f.armed_out_is;
      asked_in_is = f.asked_in_is;
      asked_out_is = ap (λ b. b || asked_to_write past (input c s w) (output c s w)) (sym at_end);
      ended_is = f.ended_is;
      passed_is = f.passed_is;
      broken_is = f.broken_is;
      pieces_are = λ keeps.
          let all : n ≡ length d.flow.backlog = whole (keeps_packets c past s w d f keeps) in
          let none : drop n d.flow.backlog ≡ [] = drop_of_length-le d.flow.backlog (omega (arith, all)) in
          pieces_written (due_pieces c past s w) (sent past (output c s w)) d.flow.backlog n some all (f.pieces_are keeps)
          ∙ ap (λ b. joined b (sent past (output c s w)) (take n d.flow.backlog ∷ [])) (sym at_end)
          ∙ sym (append-nil (joined (same_place (output c s w) (output c s w)) (sent past (output c s w)) (take n d.flow.backlog ∷ [])))
          ∙ ap (λ l. joined (same_place (output c s w) (output c s w)) (sent past (output c s w)) (take n d.flow.backlog ∷ []) ++ as_pieces l) (sym none);
      passed_is_spent = λ e. absurd (true≢false (sym e ∙ ap is_some f.passed_is ∙ going));
    }

pub wrote_some : (c : Config) (past : List Act) (s : ℕ) (w : Way) (d : DirectionState) (n : ℕ) (bytes : List ℕ) (flow : Flowing) → bytes ≡ take n d.flow.backlog → flow ≡ taken n d.flow → 1 ≤ n → n ≤ length d.flow.backlog → (is_some d.flow.lane.packets ≡ true → n ≡ length d.flow.backlog) → passed c past s w ≡ false → IsFlow (terms_of c w) (got past (input c s w)) (put past (output c s w) ++ take n d.flow.backlog) flow → IsDirection c past s w d → IsDirection c (Wrote (output c s w) bytes ∷ past) s w (record d { asked_out = true; flow = flow })
wrote_some c past s w d n bytes flow these left some within whole going took f =
    subst (λ l. IsDirection c (Wrote (output c s w) l ∷ past) s w (record d { asked_out = true; flow = flow })) (sym these)
    (subst (λ g. IsDirection c (Wrote (output c s w) (take n d.flow.backlog) ∷ past) s w (record d { asked_out = true; flow = g })) (sym left)
    (wrote_bytes c past s w d n some within whole going (subst (IsFlow (terms_of c w) (got past (input c s w)) (put past (output c s w) ++ take n d.flow.backlog)) left took) f))

-- an output that takes nothing yet
pub write_not_yet : (c : Config) (past : List Act) (s : ℕ) (w : Way) (d : DirectionState) → IsDirection c past s w d → IsDirection c (WriteNotYet (output c s w) ∷ past) s w (record d { asked_out = true; armed_out = false })
write_not_yet c past s w d f =
    let at_end = same_place_self (output c s w) in
    record { is_formed = f.is_formed; source_is = f.source_is; sink_is = f.sink_is; ignores_end_is = f.ignores_end_is; ends_at_empty_is = f.ends_at_empty_is; sloppy_is = f.sloppy_is; how_is = f.how_is; gathers_is = f.gathers_is; flow_is = f.flow_is; arming_is = f.arming_is; armed_out_is = ap (λ b. not b && armed_to_write past (output c s w)) (sym at_end); asked_in_is = f.asked_in_is; asked_out_is = ap (λ b. b || asked_to_write past (input c s w) (output c s w)) (sym at_end); ended_is = f.ended_is; passed_is = f.passed_is; broken_is = f.broken_is; pieces_are = f.pieces_are; passed_is_spent = λ e. let k = f.passed_is_spent e in record { emptied = k.emptied; is_over = k.is_over } }

-- a write that failed
pub write_fault : (c : Config) (past : List Act) (s : ℕ) (w : Way) (d : DirectionState) (at : ℕ) → at ≡ now past → broken c past s w ≡ false → IsDirection c past s w d → IsDirection c (WriteFault (output c s w) ∷ past) s w (record d { asked_out = true; broken_at = cond d.sloppy (Some at) None })
write_fault c past s w d at clock whole f =
    let at_end = same_place_self (output c s w) in
    record { is_formed = f.is_formed; source_is = f.source_is; sink_is = f.sink_is; ignores_end_is = f.ignores_end_is; ends_at_empty_is = f.ends_at_empty_is; sloppy_is = f.sloppy_is; how_is = f.how_is; gathers_is = f.gathers_is; flow_is = f.flow_is; arming_is = f.arming_is; armed_out_is = f.armed_out_is; asked_in_is = f.asked_in_is; asked_out_is = ap (λ b. b || asked_to_write past (input c s w) (output c s w)) (sym at_end); ended_is = f.ended_is; passed_is = f.passed_is; broken_is = ap (λ b. cond b (Some at) None) f.sloppy_is ∙ broken_by_write c.sloppy (same_place (output c s w) (output c s w)) at (now past) (read_fault_at past (input c s w)) (write_fault_at past (output c s w)) at_end clock whole; pieces_are = f.pieces_are; passed_is_spent = λ e. let k = f.passed_is_spent e in record { emptied = k.emptied; is_over = k.is_over } }

-- ---- the end

-- an end that was passed on
pub shut : (c : Config) (past : List Act) (s : ℕ) (w : Way) (d : DirectionState) (at : ℕ) (way : Shutting) → at ≡ now past → IsSpent c past s w d → IsDirection c past s w d → IsDirection c (Shut (output c s w) way ∷ past) s w (record d { passed_at = Some at })
shut c past s w d at way clock spent f =
    let at_end = same_place_self (output c s w) in
    record { is_formed = f.is_formed; source_is = f.source_is; sink_is = f.sink_is; ignores_end_is = f.ignores_end_is; ends_at_empty_is = f.ends_at_empty_is; sloppy_is = f.sloppy_is; how_is = f.how_is; gathers_is = f.gathers_is; flow_is = f.flow_is; arming_is = f.arming_is; armed_out_is = f.armed_out_is; asked_in_is = f.asked_in_is; asked_out_is = f.asked_out_is; ended_is = f.ended_is; passed_is = ap Some clock ∙ ap (λ b. cond b (Some (now past)) (shut_at past (output c s w))) (sym at_end); broken_is = f.broken_is; pieces_are = f.pieces_are; passed_is_spent = λ e. record { emptied = spent.emptied; is_over = spent.is_over } }

-- an end that couldn't be passed on
pub shut_fault : (c : Config) (past : List Act) (s : ℕ) (w : Way) (d : DirectionState) (at : ℕ) (way : Shutting) → at ≡ now past → IsSpent c past s w d → IsDirection c past s w d → IsDirection c (ShutFault (output c s w) way ∷ past) s w (record d { passed_at = Some at })
shut_fault c past s w d at way clock spent f =
    let at_end = same_place_self (output c s w) in
    record { is_formed = f.is_formed; source_is = f.source_is; sink_is = f.sink_is; ignores_end_is = f.ignores_end_is; ends_at_empty_is = f.ends_at_empty_is; sloppy_is = f.sloppy_is; how_is = f.how_is; gathers_is = f.gathers_is; flow_is = f.flow_is; arming_is = f.arming_is; armed_out_is = f.armed_out_is; asked_in_is = f.asked_in_is; asked_out_is = f.asked_out_is; ended_is = f.ended_is; passed_is = ap Some clock ∙ ap (λ b. cond b (Some (now past)) (shut_at past (output c s w))) (sym at_end); broken_is = f.broken_is; pieces_are = f.pieces_are; passed_is_spent = λ e. record { emptied = spent.emptied; is_over = spent.is_over } }

-- ---- openings and turns

-- a place that was opened
pub opened : (c : Config) (past : List Act) (s : ℕ) (w : Way) (d : DirectionState) (place : Place) → IsDirection c past s w d → IsDirection c (Opened place ∷ past) s w (record d { arming = cond (same_place place d.source) Armed d.arming; armed_out = same_place place d.sink || d.armed_out })
opened c past s w d place f =
    record { is_formed = f.is_formed; source_is = f.source_is; sink_is = f.sink_is; ignores_end_is = f.ignores_end_is; ends_at_empty_is = f.ends_at_empty_is; sloppy_is = f.sloppy_is; how_is = f.how_is; gathers_is = f.gathers_is; flow_is = f.flow_is; arming_is = ap (λ p. cond (same_place place p) Armed d.arming) f.source_is ∙ ap (cond (same_place place (input c s w)) Armed) f.arming_is; armed_out_is = ap (λ p. same_place place p || d.armed_out) f.sink_is ∙ ap (λ b. same_place place (output c s w) || b) f.armed_out_is; asked_in_is = f.asked_in_is; asked_out_is = f.asked_out_is; ended_is = f.ended_is; passed_is = f.passed_is; broken_is = f.broken_is; pieces_are = f.pieces_are; passed_is_spent = λ e. let k = f.passed_is_spent e in record { emptied = k.emptied; is_over = k.is_over } }

-- a place at which a peer was accepted
pub accepted : (c : Config) (past : List Act) (s : ℕ) (w : Way) (d : DirectionState) (place : Place) (peer : Peer) → IsDirection c past s w d → IsDirection c (Accepted place peer ∷ past) s w (record d { arming = cond (same_place place d.source) Armed d.arming; armed_out = same_place place d.sink || d.armed_out })
accepted c past s w d place peer f =
    record { is_formed = f.is_formed; source_is = f.source_is; sink_is = f.sink_is; ignores_end_is = f.ignores_end_is; ends_at_empty_is = f.ends_at_empty_is; sloppy_is = f.sloppy_is; how_is = f.how_is; gathers_is = f.gathers_is; flow_is = f.flow_is; arming_is = ap (λ p. cond (same_place place p) Armed d.arming) f.source_is ∙ ap (cond (same_place place (input c s w)) Armed) f.arming_is; armed_out_is = ap (λ p. same_place place p || d.armed_out) f.sink_is ∙ ap (λ b. same_place place (output c s w) || b) f.armed_out_is; asked_in_is = f.asked_in_is; asked_out_is = f.asked_out_is; ended_is = f.ended_is; passed_is = f.passed_is; broken_is = f.broken_is; pieces_are = f.pieces_are; passed_is_spent = λ e. let k = f.passed_is_spent e in record { emptied = k.emptied; is_over = k.is_over } }

-- a turn that names nothing yet
pub woken : (c : Config) (past : List Act) (s : ℕ) (w : Way) (d : DirectionState) (until : Option ℕ) (at : ℕ) → IsDirection c past s w d → IsDirection c (Turn until at (listed []) false ∷ past) s w (record d { asked_in = false; asked_out = false })
woken c past s w d until at f =
    record { is_formed = f.is_formed; source_is = f.source_is; sink_is = f.sink_is; ignores_end_is = f.ignores_end_is; ends_at_empty_is = f.ends_at_empty_is; sloppy_is = f.sloppy_is; how_is = f.how_is; gathers_is = f.gathers_is; flow_is = f.flow_is; arming_is = f.arming_is; armed_out_is = f.armed_out_is; asked_in_is = refl; asked_out_is = refl; ended_is = f.ended_is; passed_is = f.passed_is; broken_is = f.broken_is; pieces_are = f.pieces_are; passed_is_spent = λ e. let k = f.passed_is_spent e in record { emptied = k.emptied; is_over = k.is_over } }

or_not : (a b : Bool) → ((a && b) || false) ≡ (b && a)
or_not true true = refl
or_not true false = refl
or_not false true = refl
or_not false false = refl

or_assoc : (a b c : Bool) → (a || (b || c)) ≡ ((a || b) || c)
or_assoc true b c = refl
or_assoc false b c = refl

or_nothing : (a : Bool) → (a || false) ≡ a
or_nothing true = refl
or_nothing false = refl

names_append : (xs ys : List ReadyAt) (p : Place) (h : Half) → names (xs ++ ys) p h ≡ (names xs p h || names ys p h)
names_append [] ys p h = refl
names_append (e ∷ xs) ys p h =
    ap (λ b. (same_place e.place p && same_half e.half h) || b) (names_append xs ys p h) ∙ or_assoc (same_place e.place p && same_half e.half h) (names xs p h) (names ys p h)

-- one entry more names its half of its place
names_half : (xs : List ReadyAt) (e : ReadyAt) (p : Place) (h : Half) → same_half e.half h ≡ true → names (xs ++ e ∷ []) p h ≡ (names xs p h || same_place e.place p)
names_half xs e p h is =
    names_append xs (e ∷ []) p h
    ∙ ap (λ b. names xs p h || b) (or_not (same_place e.place p) (same_half e.half h) ∙ ap (λ b. b && same_place e.place p) is)

names_other : (xs : List ReadyAt) (e : ReadyAt) (p : Place) (h : Half) → same_half e.half h ≡ false → names (xs ++ e ∷ []) p h ≡ names xs p h
names_other xs e p h is =
    names_append xs (e ∷ []) p h
    ∙ ap (λ b. names xs p h || b) (or_not (same_place e.place p) (same_half e.half h) ∙ ap (λ b. b && same_place e.place p) is) ∙ or_nothing (names xs p h)

armed_more : (named b : Bool) (before : Arming) → cond b Armed (cond named Armed before) ≡ cond (named || b) Armed before
armed_more true true before = refl
armed_more true false before = refl
armed_more false true before = refl
armed_more false false before = refl

or_swap : (named b before : Bool) → (b || (named || before)) ≡ ((named || b) || before)
or_swap true true before = refl
or_swap true false before = refl
or_swap false b before = refl

-- a turn that names the input's half too, and one that names the output's
pub named_to_read : (c : Config) (past : List Act) (s : ℕ) (w : Way) (d : DirectionState) (until : Option ℕ) (at : ℕ) (xs : List ReadyAt) (e : ReadyAt) → e.half ≡ ToRead → IsDirection c (Turn until at (listed xs) false ∷ past) s w d → IsDirection c (Turn until at (listed (xs ++ e ∷ [])) false ∷ past) s w (record d { arming = cond (same_place e.place d.source) Armed d.arming })
named_to_read c past s w d until at xs e half f =
    record { is_formed = f.is_formed; source_is = f.source_is; sink_is = f.sink_is; ignores_end_is = f.ignores_end_is; ends_at_empty_is = f.ends_at_empty_is; sloppy_is = f.sloppy_is; how_is = f.how_is; gathers_is = f.gathers_is; flow_is = f.flow_is; arming_is = ap (λ p. cond (same_place e.place p) Armed d.arming) f.source_is ∙ ap (cond (same_place e.place (input c s w)) Armed) f.arming_is ∙ armed_more (names xs (input c s w) ToRead) (same_place e.place (input c s w)) (read_arming past (input c s w)) ∙ ap (λ b. cond b Armed (read_arming past (input c s w))) (sym (names_half xs e (input c s w) ToRead (ap (λ h. same_half h ToRead) half))); armed_out_is = f.armed_out_is ∙ ap (λ b. b || armed_to_write past (output c s w)) (sym (names_other xs e (output c s w) ToWrite (ap (λ h. same_half h ToWrite) half))); asked_in_is = f.asked_in_is; asked_out_is = f.asked_out_is; ended_is = f.ended_is; passed_is = f.passed_is; broken_is = f.broken_is; pieces_are = f.pieces_are; passed_is_spent = λ e. let k = f.passed_is_spent e in record { emptied = k.emptied; is_over = k.is_over } }

pub named_to_write : (c : Config) (past : List Act) (s : ℕ) (w : Way) (d : DirectionState) (until : Option ℕ) (at : ℕ) (xs : List ReadyAt) (e : ReadyAt) → e.half ≡ ToWrite → IsDirection c (Turn until at (listed xs) false ∷ past) s w d → IsDirection c (Turn until at (listed (xs ++ e ∷ [])) false ∷ past) s w (record d { armed_out = same_place e.place d.sink || d.armed_out })
named_to_write c past s w d until at xs e half f =
    record { is_formed = f.is_formed; source_is = f.source_is; sink_is = f.sink_is; ignores_end_is = f.ignores_end_is; ends_at_empty_is = f.ends_at_empty_is; sloppy_is = f.sloppy_is; how_is = f.how_is; gathers_is = f.gathers_is; flow_is = f.flow_is; arming_is = f.arming_is ∙ ap (λ b. cond b Armed (read_arming past (input c s w))) (sym (names_other xs e (input c s w) ToRead (ap (λ h. same_half h ToRead) half))); armed_out_is = ap (λ p. same_place e.place p || d.armed_out) f.sink_is ∙ ap (λ b. same_place e.place (output c s w) || b) f.armed_out_is ∙ or_swap (names xs (output c s w) ToWrite) (same_place e.place (output c s w)) (armed_to_write past (output c s w)) ∙ ap (λ b. b || armed_to_write past (output c s w)) (sym (names_half xs e (output c s w) ToWrite (ap (λ h. same_half h ToWrite) half))); asked_in_is = f.asked_in_is; asked_out_is = f.asked_out_is; ended_is = f.ended_is; passed_is = f.passed_is; broken_is = f.broken_is; pieces_are = f.pieces_are; passed_is_spent = λ e. let k = f.passed_is_spent e in record { emptied = k.emptied; is_over = k.is_over } }

-- a turn that stops says the same as one that doesn't
pub stopped : (c : Config) (past : List Act) (s : ℕ) (w : Way) (d : DirectionState) (until : Option ℕ) (at : ℕ) (ready : Listed) → IsDirection c (Turn until at ready false ∷ past) s w d → IsDirection c (Turn until at ready true ∷ past) s w d
stopped c past s w d until at ready f =
    record { is_formed = f.is_formed; source_is = f.source_is; sink_is = f.sink_is; ignores_end_is = f.ignores_end_is; ends_at_empty_is = f.ends_at_empty_is; sloppy_is = f.sloppy_is; how_is = f.how_is; gathers_is = f.gathers_is; flow_is = f.flow_is; arming_is = f.arming_is; armed_out_is = f.armed_out_is; asked_in_is = f.asked_in_is; asked_out_is = f.asked_out_is; ended_is = f.ended_is; passed_is = f.passed_is; broken_is = f.broken_is; pieces_are = f.pieces_are; passed_is_spent = λ e. let k = f.passed_is_spent e in record { emptied = k.emptied; is_over = k.is_over } }
