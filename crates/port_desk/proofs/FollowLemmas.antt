-- What each call of a desk makes of what follows its history.
use Rattle.std.proofs.Common.{◌≡◌, ◌||◌, ◌&&◌, not, cond, ℕ, Bool, true, false, List, [], ◌∷◌, ◌++◌, take, Option, None, Some, IfSome, is_some, option_map, refl, sym, ap, subst, ◌∙◌}
use Rattle.std.specs.Coded.{coded_ℕ, coded_bool, coded_list, Unit-prop}
use Rattle.std.proofs.Math.Logic.{∥∥₁_elim, ∥∥₁_map}
use base.Stored.{Coded-set}
use Rattle.relay_model.specs.declared.acts.Act.{Act}
use Rattle.relay_model.specs.declared.acts.Act.TheVariants as acts
use Rattle.relay_model.specs.declared.acts.Shut.{Shut}
use Rattle.relay_model.specs.declared.acts.Why.{Why}
use Rattle.relay_model.specs.declared.places.Place.{Place}
use Rattle.relay_model.specs.declared.commands.Single.{Single}
use Rattle.relay_model.specs.Choices.{joined}
use Rattle.relay_model.specs.Holding.{Free}
use Rattle.relay_model.specs.Journals.{History}
use Rattle.relay_model.specs.Readiness.{Listed}
use Rattle.world_trait.specs.Answers.{accept_act, close_act, listen_act, note_act, open_act, read_act, reap_act, send_act, shut_act, wait_act, write_act}
use Rattle.world_trait.specs.declared.answers.Turned.{Turned}
use Rattle.world_trait.specs.declared.answers.Turned.TheVariants as turns
use Rattle.world_trait.specs.declared.answers.OpenAnswer.{OpenAnswer}
use Rattle.world_trait.specs.declared.answers.OpenAnswer.TheVariants as opens
use Rattle.world_trait.specs.declared.answers.ListenAnswer.{ListenAnswer}
use Rattle.world_trait.specs.declared.answers.ListenAnswer.TheVariants as listens
use Rattle.world_trait.specs.declared.answers.AcceptAnswer.{AcceptAnswer}
use Rattle.world_trait.specs.declared.answers.AcceptAnswer.TheVariants as accepts
use Rattle.world_trait.specs.declared.answers.ReadAnswer.{ReadAnswer}
use Rattle.world_trait.specs.declared.answers.ReadAnswer.TheVariants as reads
use Rattle.world_trait.specs.declared.answers.WriteAnswer.{WriteAnswer}
use Rattle.world_trait.specs.declared.answers.WriteAnswer.TheVariants as writes
use Rattle.world_trait.specs.declared.answers.SendAnswer.{SendAnswer}
use Rattle.world_trait.specs.declared.answers.SendAnswer.TheVariants as sends
use Rattle.world_trait.specs.declared.answers.ShutAnswer.{ShutAnswer}
use Rattle.world_trait.specs.declared.answers.ShutAnswer.TheVariants as shuts
use Rattle.world_trait.specs.declared.answers.NoteAnswer.{NoteAnswer}
use Rattle.world_trait.specs.declared.answers.NoteAnswer.TheVariants as notes
use Rattle.world_trait.specs.declared.answers.ReapAnswer.{ReapAnswer}
use Rattle.world_trait.specs.declared.answers.ReapAnswer.TheVariants as reaps
use Rattle.port_table.specs.Bases.{standard_of}
use Rattle.port_table.specs.PortTables.{AtErrors, AtInput, AtOutput, giving_port, taking_port}
use Rattle.port_trait.specs.Ports.{MovesNothing, PortSeen}
use Rattle.port_table.specs.Ports.{StreamSeen}
use Rattle.port_table.specs.declared.bases.Base.{Base}
use Rattle.port_table.specs.declared.bases.Base.TheVariants as bases
use Rattle.desk_places.specs.declared.places.PlaceEntry.{PlaceEntry}
use Rattle.desk_places.specs.PlaceBases.{AcceptsOn, Leaves, ListensOn, OpensOn, SameBases, SettlesOn, StandsFor}
use Rattle.desk_places.specs.Changes.{SettlesSo}
use Rattle.desk_places.specs.PlaceTables.{base_at, hold_at}
use Rattle.desk_places.proofs.EntryLemmas.{found_none, free_entry}
use Rattle.port_desk.specs.Records.{Tells, are_none, has_no_acts}
use Rattle.port_desk.specs.Calls.{ReadsSo, SendsSo, ShutsSo, WritesSo}
use Rattle.port_desk.specs.Following.{FollowsTold, GoesOn, IsUnused, Passed, PassedBy, PassedTold, Start, StartsInStep, are_noted, errors_written, input_ended, input_read, output_written, reads_input, stream_of, writes_errors, writes_output}
use Rattle.port_desk.proofs.FollowSteps.{NotedSo, TellsAsking, Goes, IsStill, AllStandFor, acted, asked, ended_of, found, gave_of, grown_sum, kept_over, kept_sum, kept_told, nothing, on_slot, own_reads, own_said, own_writes, quiet, stands_comes, stands_leaves, stands_same, still_follows, took_of, unmapped}

-- ---- a read

read_given : (b : Base) (n : ℕ) (into : List ℕ) (input input' : StreamSeen) → AtInput (giving_port b) (ReadsSo into (reads.Bytes n) input.port input'.port) (input' ≡ input) → input'.port.gave ≡ option_map (λ all. joined (reads_input (Some b)) all (take n into)) input.port.gave
read_given bases.Input n into input input' call = call.gives.2
read_given bases.Both n into input input' call = call.gives.2
read_given bases.Output n into input input' same = gave_of input input' same ∙ unmapped input.port.gave
read_given bases.Errors n into input input' same = gave_of input input' same ∙ unmapped input.port.gave
read_given (bases.Made key) n into input input' same = gave_of input input' same ∙ unmapped input.port.gave

abbrev has_bytes : ReadAnswer → Bool
has_bytes (reads.Bytes n) = true
has_bytes reads.Empty = false
has_bytes reads.End = false
has_bytes reads.NotYet = false
has_bytes reads.Failed = false
has_bytes reads.Memory = false

reads_none : (result : ReadAnswer) (into : List ℕ) (before now : PortSeen) → has_bytes result ≡ false → ReadsSo into result before now → now.gave ≡ before.gave
reads_none (reads.Bytes n) into before now silent call = absurd cc
reads_none reads.Empty into before now silent call = call.gives
reads_none reads.End into before now silent call = call.gives
reads_none reads.NotYet into before now silent call = call.gives
reads_none reads.Failed into before now silent call = call.gives
reads_none reads.Memory into before now silent call = ap (λ (p : PortSeen). p.gave) call

reads_took : (result : ReadAnswer) (into : List ℕ) (before now : PortSeen) → ReadsSo into result before now → now.took ≡ before.took
reads_took (reads.Bytes n) into before now call = call.took
reads_took reads.Empty into before now call = call.took
reads_took reads.End into before now call = call.took
reads_took reads.NotYet into before now call = call.took
reads_took reads.Failed into before now call = call.took
reads_took reads.Memory into before now call = ap (λ (p : PortSeen). p.took) call

read_ungiven : (b : Base) (result : ReadAnswer) (into : List ℕ) (input input' : StreamSeen) → has_bytes result ≡ false → AtInput (giving_port b) (ReadsSo into result input.port input'.port) (input' ≡ input) → input'.port.gave ≡ input.port.gave
read_ungiven bases.Input result into input input' silent call = reads_none result into input.port input'.port silent call
read_ungiven bases.Both result into input input' silent call = reads_none result into input.port input'.port silent call
read_ungiven bases.Output result into input input' silent same = gave_of input input' same
read_ungiven bases.Errors result into input input' silent same = gave_of input input' same
read_ungiven (bases.Made key) result into input input' silent same = gave_of input input' same

read_untaken : (b : Base) (result : ReadAnswer) (into : List ℕ) (output output' : StreamSeen) → AtOutput (giving_port b) (ReadsSo into result output.port output'.port) (output' ≡ output) → output'.port.took ≡ output.port.took
read_untaken bases.Output result into output output' call = reads_took result into output.port output'.port call
read_untaken bases.Input result into output output' same = took_of output output' same
read_untaken bases.Both result into output output' same = took_of output output' same
read_untaken bases.Errors result into output output' same = took_of output output' same
read_untaken (bases.Made key) result into output output' same = took_of output output' same

read_unsaid : (b : Base) (result : ReadAnswer) (into : List ℕ) (errors errors' : StreamSeen) → AtErrors (giving_port b) (ReadsSo into result errors.port errors'.port) (errors' ≡ errors) → errors'.port.took ≡ errors.port.took
read_unsaid bases.Errors result into errors errors' call = reads_took result into errors.port errors'.port call
read_unsaid bases.Input result into errors errors' same = took_of errors errors' same
read_unsaid bases.Both result into errors errors' same = took_of errors errors' same
read_unsaid bases.Output result into errors errors' same = took_of errors errors' same
read_unsaid (bases.Made key) result into errors errors' same = took_of errors errors' same

-- a read of standard input met the end or didn't, and another leaves that
abbrev answer_ends : ReadAnswer → Bool
answer_ends reads.End = true
answer_ends (reads.Bytes n) = false
answer_ends reads.Empty = false
answer_ends reads.NotYet = false
answer_ends reads.Failed = false
answer_ends reads.Memory = false

-- it is an answer other than want of memory
abbrev wants_none : ReadAnswer → Bool
wants_none reads.Memory = false
wants_none (reads.Bytes n) = true
wants_none reads.Empty = true
wants_none reads.End = true
wants_none reads.NotYet = true
wants_none reads.Failed = true

reads_end : (result : ReadAnswer) (into : List ℕ) (before now : PortSeen) → wants_none result ≡ true → ReadsSo into result before now → now.ended ≡ answer_ends result
reads_end (reads.Bytes n) into before now e call = call.ended
reads_end reads.Empty into before now e call = call.ended
reads_end reads.End into before now e call = call.ended
reads_end reads.NotYet into before now e call = call.ended
reads_end reads.Failed into before now e call = call.ended
reads_end reads.Memory into before now e call = absurd cc

read_ends : (b : Base) (result : ReadAnswer) (into : List ℕ) (input input' : StreamSeen) → wants_none result ≡ true → AtInput (giving_port b) (ReadsSo into result input.port input'.port) (input' ≡ input) → input'.port.ended ≡ cond (reads_input (Some b)) (answer_ends result) input.port.ended
read_ends bases.Input result into input input' e call = reads_end result into input.port input'.port e call
read_ends bases.Both result into input input' e call = reads_end result into input.port input'.port e call
read_ends bases.Output result into input input' e same = ended_of input input' same
read_ends bases.Errors result into input input' e same = ended_of input input' same
read_ends (bases.Made key) result into input input' e same = ended_of input input' same

over_cut : (r before over over' : Bool) → over' ≡ cond r false over → (before ≡ true → over ≡ true) → (not r && before) ≡ true → over' ≡ true
over_cut true before over over' e h is = absurd cc
over_cut false before over over' e h is = e ∙ h is

over_met : (r before over over' : Bool) → over' ≡ cond r true over → (before ≡ true → over ≡ true) → (r || before) ≡ true → over' ≡ true
over_met true before over over' e h is = e
over_met false before over over' e h is = e ∙ h is

read_unended : (b : Base) (into : List ℕ) (input input' : StreamSeen) → AtInput (giving_port b) (ReadsSo into reads.Memory input.port input'.port) (input' ≡ input) → input'.port.ended ≡ input.port.ended
read_unended bases.Input into input input' call = ap (λ (p : PortSeen). p.ended) call
read_unended bases.Both into input input' call = ap (λ (p : PortSeen). p.ended) call
read_unended bases.Output into input input' same = ended_of input input' same
read_unended bases.Errors into input input' same = ended_of input input' same
read_unended (bases.Made key) into input input' same = ended_of input input' same

-- a read without bytes that met no end
read_cut : (own : Place → Single) (place : Place) (b : Base) (act : Act) (base base' : Place → Option Base) (gave gave' took took' said said' : Option (List ℕ)) (over over' : Bool) → base place ≡ Some b → ((past : List Act) → (input_read own (act ∷ past) ≡ input_read own past) × ((output_written own (act ∷ past) ≡ output_written own past) × ((errors_written own (act ∷ past) ≡ errors_written own past) × (are_noted (act ∷ past) ≡ are_noted past)))) → ((past : List Act) → input_ended own (act ∷ past) ≡ (not (reads_input (stream_of own place)) && input_ended own past)) → over' ≡ cond (reads_input (Some b)) false over → gave' ≡ gave → took' ≡ took → said' ≡ said → SameBases base base' → Goes own act base base' gave gave' took took' said said' over over'
read_cut own place b act base base' gave gave' took took' said said' over over' at still cut e f g h same past follows =
    let on = on_slot (base place) b (λ d. StandsFor (stream_of own place) (Some d)) at (follows.stands place) in
    record {
      stands = stands_same own base base' same follows.stands;
      given = kept_sum gave gave' _ _ f (still past).0 follows.given;
      taken = kept_sum took took' _ _ g (still past).1.0 follows.taken;
      told = kept_told said said' _ _ _ _ h (still past).1.1.0 (still past).1.1.1 follows.told;
      over = λ is. over_cut (reads_input (stream_of own place)) (input_ended own past) over over' (subst (λ r. over' ≡ cond r false over) (sym (own_reads (stream_of own place) b on)) e) follows.over (sym (cut past) ∙ is);
    }

-- a read that met the end
read_met : (own : Place → Single) (place : Place) (b : Base) (base base' : Place → Option Base) (gave gave' took took' said said' : Option (List ℕ)) (over over' : Bool) → base place ≡ Some b → over' ≡ cond (reads_input (Some b)) true over → gave' ≡ gave → took' ≡ took → said' ≡ said → SameBases base base' → Goes own (acts.ReadEnd place) base base' gave gave' took took' said said' over over'
read_met own place b base base' gave gave' took took' said said' over over' at e f g h same past follows =
    let on = on_slot (base place) b (λ d. StandsFor (stream_of own place) (Some d)) at (follows.stands place) in
    record {
      stands = stands_same own base base' same follows.stands;
      given = kept_sum gave gave' _ _ f refl follows.given;
      taken = kept_sum took took' _ _ g refl follows.taken;
      told = kept_told said said' _ _ _ _ h refl refl follows.told;
      over = over_met (reads_input (stream_of own place)) (input_ended own past) over over' (subst (λ r. over' ≡ cond r true over) (sym (own_reads (stream_of own place) b on)) e) follows.over;
    }

read_bytes : (own : Place → Single) (place : Place) (b : Base) (n : ℕ) (into : List ℕ) (base base' : Place → Option Base) (input input' output output' errors errors' : StreamSeen) → base place ≡ Some b → AtInput (giving_port b) (ReadsSo into (reads.Bytes n) input.port input'.port) (input' ≡ input) → output'.port.took ≡ output.port.took → errors'.port.took ≡ errors.port.took → input'.port.ended ≡ cond (reads_input (Some b)) false input.port.ended → SameBases base base' → Goes own (acts.Read place (take n into)) base base' input.port.gave input'.port.gave output.port.took output'.port.took errors.port.took errors'.port.took input.port.ended input'.port.ended
read_bytes own place b n into base base' input input' output output' errors errors' at call still unsaid ends same past follows =
    let on = on_slot (base place) b (λ d. StandsFor (stream_of own place) (Some d)) at (follows.stands place) in
    record {
      stands = stands_same own base base' same follows.stands;
      given = grown_sum input.port.gave input'.port.gave (λ all. joined (reads_input (stream_of own place)) all (take n into)) (input_read own past)
          (subst (λ r. input'.port.gave ≡ option_map (λ all. joined r all (take n into)) input.port.gave) (sym (own_reads (stream_of own place) b on)) (read_given b n into input input' call))
          follows.given;
      taken = kept_sum output.port.took output'.port.took _ _ still refl follows.taken;
      told = kept_told errors.port.took errors'.port.took _ _ _ _ unsaid refl refl follows.told;
      over = over_cut (reads_input (stream_of own place)) (input_ended own past) input.port.ended input'.port.ended (subst (λ r. input'.port.ended ≡ cond r false input.port.ended) (sym (own_reads (stream_of own place) b on)) ends) follows.over;
    }

pub read_follows : (result : ReadAnswer) (place : Place) (into : List ℕ) (told told' : Option History) (base base' : Place → Option Base) (input input' output output' errors errors' : StreamSeen) → is_some (base place) ≡ true → Tells (read_act place into result) told told' → IfSome (base place) (λ b. AtInput (giving_port b) (ReadsSo into result input.port input'.port) (input' ≡ input)) → IfSome (base place) (λ b. AtOutput (giving_port b) (ReadsSo into result output.port output'.port) (output' ≡ output)) → IfSome (base place) (λ b. AtErrors (giving_port b) (ReadsSo into result errors.port errors'.port) (errors' ≡ errors)) → SameBases base base' → FollowsTold told base input.port.gave output.port.took errors.port.took input.port.ended → FollowsTold told' base' input'.port.gave output'.port.took errors'.port.took input'.port.ended
read_follows (reads.Bytes n) place into told told' base base' input input' output output' errors errors' some did at_in at_out at_err same =
    let on = found (base place) some in
    let still = read_untaken on.0 (reads.Bytes n) into output output' (on_slot (base place) on.0 (λ b. AtOutput (giving_port b) (ReadsSo into (reads.Bytes n) output.port output'.port) (output' ≡ output)) on.1 at_out) in
    let unsaid = read_unsaid on.0 (reads.Bytes n) into errors errors' (on_slot (base place) on.0 (λ b. AtErrors (giving_port b) (ReadsSo into (reads.Bytes n) errors.port errors'.port) (errors' ≡ errors)) on.1 at_err) in
    let call = on_slot (base place) on.0 (λ b. AtInput (giving_port b) (ReadsSo into (reads.Bytes n) input.port input'.port) (input' ≡ input)) on.1 at_in in
    acted told told' (acts.Read place (take n into)) base base' input.port.gave input'.port.gave output.port.took output'.port.took errors.port.took errors'.port.took input.port.ended input'.port.ended did
    (λ own elsewhere. read_bytes own place on.0 n into base base' input input' output output' errors errors' on.1 call still unsaid (read_ends on.0 (reads.Bytes n) into input input' refl call) same)
read_follows reads.Empty place into told told' base base' input input' output output' errors errors' some did at_in at_out at_err same =
    let on = found (base place) some in
    let given = read_ungiven on.0 reads.Empty into input input' refl (on_slot (base place) on.0 (λ b. AtInput (giving_port b) (ReadsSo into reads.Empty input.port input'.port) (input' ≡ input)) on.1 at_in) in
    let taken = read_untaken on.0 reads.Empty into output output' (on_slot (base place) on.0 (λ b. AtOutput (giving_port b) (ReadsSo into reads.Empty output.port output'.port) (output' ≡ output)) on.1 at_out) in
    let unsaid = read_unsaid on.0 reads.Empty into errors errors' (on_slot (base place) on.0 (λ b. AtErrors (giving_port b) (ReadsSo into reads.Empty errors.port errors'.port) (errors' ≡ errors)) on.1 at_err) in
    let ends = read_ends on.0 reads.Empty into input input' refl (on_slot (base place) on.0 (λ b. AtInput (giving_port b) (ReadsSo into reads.Empty input.port input'.port) (input' ≡ input)) on.1 at_in) in
    acted told told' (acts.ReadEmpty place) base base' input.port.gave input'.port.gave output.port.took output'.port.took errors.port.took errors'.port.took input.port.ended input'.port.ended did
    (λ own elsewhere. read_cut own place on.0 (acts.ReadEmpty place) base base' input.port.gave input'.port.gave output.port.took output'.port.took errors.port.took errors'.port.took input.port.ended input'.port.ended on.1 (λ past. (refl, (refl, (refl, refl)))) (λ past. refl) ends given taken unsaid same)
read_follows reads.End place into told told' base base' input input' output output' errors errors' some did at_in at_out at_err same =
    let on = found (base place) some in
    let given = read_ungiven on.0 reads.End into input input' refl (on_slot (base place) on.0 (λ b. AtInput (giving_port b) (ReadsSo into reads.End input.port input'.port) (input' ≡ input)) on.1 at_in) in
    let taken = read_untaken on.0 reads.End into output output' (on_slot (base place) on.0 (λ b. AtOutput (giving_port b) (ReadsSo into reads.End output.port output'.port) (output' ≡ output)) on.1 at_out) in
    let unsaid = read_unsaid on.0 reads.End into errors errors' (on_slot (base place) on.0 (λ b. AtErrors (giving_port b) (ReadsSo into reads.End errors.port errors'.port) (errors' ≡ errors)) on.1 at_err) in
    let ends = read_ends on.0 reads.End into input input' refl (on_slot (base place) on.0 (λ b. AtInput (giving_port b) (ReadsSo into reads.End input.port input'.port) (input' ≡ input)) on.1 at_in) in
    acted told told' (acts.ReadEnd place) base base' input.port.gave input'.port.gave output.port.took output'.port.took errors.port.took errors'.port.took input.port.ended input'.port.ended did
    (λ own elsewhere. read_met own place on.0 base base' input.port.gave input'.port.gave output.port.took output'.port.took errors.port.took errors'.port.took input.port.ended input'.port.ended on.1 ends given taken unsaid same)
read_follows reads.NotYet place into told told' base base' input input' output output' errors errors' some did at_in at_out at_err same =
    let on = found (base place) some in
    let given = read_ungiven on.0 reads.NotYet into input input' refl (on_slot (base place) on.0 (λ b. AtInput (giving_port b) (ReadsSo into reads.NotYet input.port input'.port) (input' ≡ input)) on.1 at_in) in
    let taken = read_untaken on.0 reads.NotYet into output output' (on_slot (base place) on.0 (λ b. AtOutput (giving_port b) (ReadsSo into reads.NotYet output.port output'.port) (output' ≡ output)) on.1 at_out) in
    let unsaid = read_unsaid on.0 reads.NotYet into errors errors' (on_slot (base place) on.0 (λ b. AtErrors (giving_port b) (ReadsSo into reads.NotYet errors.port errors'.port) (errors' ≡ errors)) on.1 at_err) in
    let ends = read_ends on.0 reads.NotYet into input input' refl (on_slot (base place) on.0 (λ b. AtInput (giving_port b) (ReadsSo into reads.NotYet input.port input'.port) (input' ≡ input)) on.1 at_in) in
    acted told told' (acts.ReadNotYet place) base base' input.port.gave input'.port.gave output.port.took output'.port.took errors.port.took errors'.port.took input.port.ended input'.port.ended did
    (λ own elsewhere. read_cut own place on.0 (acts.ReadNotYet place) base base' input.port.gave input'.port.gave output.port.took output'.port.took errors.port.took errors'.port.took input.port.ended input'.port.ended on.1 (λ past. (refl, (refl, (refl, refl)))) (λ past. refl) ends given taken unsaid same)
read_follows reads.Failed place into told told' base base' input input' output output' errors errors' some did at_in at_out at_err same =
    let on = found (base place) some in
    let given = read_ungiven on.0 reads.Failed into input input' refl (on_slot (base place) on.0 (λ b. AtInput (giving_port b) (ReadsSo into reads.Failed input.port input'.port) (input' ≡ input)) on.1 at_in) in
    let taken = read_untaken on.0 reads.Failed into output output' (on_slot (base place) on.0 (λ b. AtOutput (giving_port b) (ReadsSo into reads.Failed output.port output'.port) (output' ≡ output)) on.1 at_out) in
    let unsaid = read_unsaid on.0 reads.Failed into errors errors' (on_slot (base place) on.0 (λ b. AtErrors (giving_port b) (ReadsSo into reads.Failed errors.port errors'.port) (errors' ≡ errors)) on.1 at_err) in
    let ends = read_ends on.0 reads.Failed into input input' refl (on_slot (base place) on.0 (λ b. AtInput (giving_port b) (ReadsSo into reads.Failed input.port input'.port) (input' ≡ input)) on.1 at_in) in
    acted told told' (acts.ReadFault place) base base' input.port.gave input'.port.gave output.port.took output'.port.took errors.port.took errors'.port.took input.port.ended input'.port.ended did
    (λ own elsewhere. read_cut own place on.0 (acts.ReadFault place) base base' input.port.gave input'.port.gave output.port.took output'.port.took errors.port.took errors'.port.took input.port.ended input'.port.ended on.1 (λ past. (refl, (refl, (refl, refl)))) (λ past. refl) ends given taken unsaid same)
read_follows reads.Memory place into told told' base base' input input' output output' errors errors' some did at_in at_out at_err same =
    let on = found (base place) some in
    let given = read_ungiven on.0 reads.Memory into input input' refl (on_slot (base place) on.0 (λ b. AtInput (giving_port b) (ReadsSo into reads.Memory input.port input'.port) (input' ≡ input)) on.1 at_in) in
    let taken = read_untaken on.0 reads.Memory into output output' (on_slot (base place) on.0 (λ b. AtOutput (giving_port b) (ReadsSo into reads.Memory output.port output'.port) (output' ≡ output)) on.1 at_out) in
    let unsaid = read_unsaid on.0 reads.Memory into errors errors' (on_slot (base place) on.0 (λ b. AtErrors (giving_port b) (ReadsSo into reads.Memory errors.port errors'.port) (errors' ≡ errors)) on.1 at_err) in
    let kept = read_unended on.0 into input input' (on_slot (base place) on.0 (λ b. AtInput (giving_port b) (ReadsSo into reads.Memory input.port input'.port) (input' ≡ input)) on.1 at_in) in
    nothing told told' base base' input.port.gave input'.port.gave output.port.took output'.port.took errors.port.took errors'.port.took input.port.ended input'.port.ended did same given taken unsaid kept

-- ---- a write

write_taken : (b : Base) (n : ℕ) (bytes : List ℕ) (output output' : StreamSeen) → AtOutput (taking_port b) (WritesSo bytes (writes.Took n) output.port output'.port) (output' ≡ output) → output'.port.took ≡ option_map (λ all. joined (writes_output (Some b)) all (take n bytes)) output.port.took
write_taken bases.Output n bytes output output' call = call.accepts.2
write_taken bases.Both n bytes output output' call = call.accepts.2
write_taken bases.Input n bytes output output' same = took_of output output' same ∙ unmapped output.port.took
write_taken bases.Errors n bytes output output' same = took_of output output' same ∙ unmapped output.port.took
write_taken (bases.Made key) n bytes output output' same = took_of output output' same ∙ unmapped output.port.took

write_said : (b : Base) (n : ℕ) (bytes : List ℕ) (errors errors' : StreamSeen) → AtErrors (taking_port b) (WritesSo bytes (writes.Took n) errors.port errors'.port) (errors' ≡ errors) → errors'.port.took ≡ option_map (λ all. joined (writes_errors (Some b)) all (take n bytes)) errors.port.took
write_said bases.Errors n bytes errors errors' call = call.accepts.2
write_said bases.Input n bytes errors errors' same = took_of errors errors' same ∙ unmapped errors.port.took
write_said bases.Output n bytes errors errors' same = took_of errors errors' same ∙ unmapped errors.port.took
write_said bases.Both n bytes errors errors' same = took_of errors errors' same ∙ unmapped errors.port.took
write_said (bases.Made key) n bytes errors errors' same = took_of errors errors' same ∙ unmapped errors.port.took

abbrev is_taken : WriteAnswer → Bool
is_taken (writes.Took n) = true
is_taken writes.NotYet = false
is_taken writes.Failed = false
is_taken writes.Memory = false

writes_none : (result : WriteAnswer) (bytes : List ℕ) (before now : PortSeen) → is_taken result ≡ false → WritesSo bytes result before now → now.took ≡ before.took
writes_none (writes.Took n) bytes before now silent call = absurd cc
writes_none writes.NotYet bytes before now silent call = call.accepts
writes_none writes.Failed bytes before now silent call = call.accepts
writes_none writes.Memory bytes before now silent call = ap (λ (p : PortSeen). p.took) call

writes_gave : (result : WriteAnswer) (bytes : List ℕ) (before now : PortSeen) → WritesSo bytes result before now → now.gave ≡ before.gave
writes_gave (writes.Took n) bytes before now call = call.gave
writes_gave writes.NotYet bytes before now call = call.gave
writes_gave writes.Failed bytes before now call = call.gave
writes_gave writes.Memory bytes before now call = ap (λ (p : PortSeen). p.gave) call

write_ungiven : (b : Base) (result : WriteAnswer) (bytes : List ℕ) (input input' : StreamSeen) → AtInput (taking_port b) (WritesSo bytes result input.port input'.port) (input' ≡ input) → input'.port.gave ≡ input.port.gave
write_ungiven bases.Input result bytes input input' call = writes_gave result bytes input.port input'.port call
write_ungiven bases.Output result bytes input input' same = gave_of input input' same
write_ungiven bases.Both result bytes input input' same = gave_of input input' same
write_ungiven bases.Errors result bytes input input' same = gave_of input input' same
write_ungiven (bases.Made key) result bytes input input' same = gave_of input input' same

writes_ended : (result : WriteAnswer) (bytes : List ℕ) (before now : PortSeen) → WritesSo bytes result before now → now.ended ≡ before.ended
writes_ended (writes.Took n) bytes before now call = call.ended
writes_ended writes.NotYet bytes before now call = call.ended
writes_ended writes.Failed bytes before now call = call.ended
writes_ended writes.Memory bytes before now call = ap (λ (p : PortSeen). p.ended) call

write_unended : (b : Base) (result : WriteAnswer) (bytes : List ℕ) (input input' : StreamSeen) → AtInput (taking_port b) (WritesSo bytes result input.port input'.port) (input' ≡ input) → input'.port.ended ≡ input.port.ended
write_unended bases.Input result bytes input input' call = writes_ended result bytes input.port input'.port call
write_unended bases.Output result bytes input input' same = ended_of input input' same
write_unended bases.Both result bytes input input' same = ended_of input input' same
write_unended bases.Errors result bytes input input' same = ended_of input input' same
write_unended (bases.Made key) result bytes input input' same = ended_of input input' same

write_untaken : (b : Base) (result : WriteAnswer) (bytes : List ℕ) (output output' : StreamSeen) → is_taken result ≡ false → AtOutput (taking_port b) (WritesSo bytes result output.port output'.port) (output' ≡ output) → output'.port.took ≡ output.port.took
write_untaken bases.Output result bytes output output' silent call = writes_none result bytes output.port output'.port silent call
write_untaken bases.Both result bytes output output' silent call = writes_none result bytes output.port output'.port silent call
write_untaken bases.Input result bytes output output' silent same = took_of output output' same
write_untaken bases.Errors result bytes output output' silent same = took_of output output' same
write_untaken (bases.Made key) result bytes output output' silent same = took_of output output' same

write_unsaid : (b : Base) (result : WriteAnswer) (bytes : List ℕ) (errors errors' : StreamSeen) → is_taken result ≡ false → AtErrors (taking_port b) (WritesSo bytes result errors.port errors'.port) (errors' ≡ errors) → errors'.port.took ≡ errors.port.took
write_unsaid bases.Errors result bytes errors errors' silent call = writes_none result bytes errors.port errors'.port silent call
write_unsaid bases.Input result bytes errors errors' silent same = took_of errors errors' same
write_unsaid bases.Output result bytes errors errors' silent same = took_of errors errors' same
write_unsaid bases.Both result bytes errors errors' silent same = took_of errors errors' same
write_unsaid (bases.Made key) result bytes errors errors' silent same = took_of errors errors' same

-- bytes that were taken of what was written at the place
wrote_bytes : (own : Place → Single) (place : Place) (b : Base) (bytes : List ℕ) (base base' : Place → Option Base) (gave gave' took took' said said' : Option (List ℕ)) (over over' : Bool) → base place ≡ Some b → took' ≡ option_map (λ all. joined (writes_output (Some b)) all bytes) took → said' ≡ option_map (λ all. joined (writes_errors (Some b)) all bytes) said → gave' ≡ gave → over' ≡ over → SameBases base base' → Goes own (acts.Wrote place bytes) base base' gave gave' took took' said said' over over'
wrote_bytes own place b bytes base base' gave gave' took took' said said' over over' at taken spoken given kept same past follows =
    let on = on_slot (base place) b (λ d. StandsFor (stream_of own place) (Some d)) at (follows.stands place) in
    record {
      stands = stands_same own base base' same follows.stands;
      given = kept_sum gave gave' _ _ given refl follows.given;
      taken = grown_sum took took' (λ all. joined (writes_output (stream_of own place)) all bytes) (output_written own past)
          (subst (λ r. took' ≡ option_map (λ all. joined r all bytes) took) (sym (own_writes (stream_of own place) b on)) taken)
          follows.taken;
      told = λ whole. grown_sum said said' (λ all. joined (writes_errors (stream_of own place)) all bytes) (errors_written own past)
          (subst (λ r. said' ≡ option_map (λ all. joined r all bytes) said) (sym (own_said (stream_of own place) b on)) spoken)
          (follows.told whole);
      over = kept_over _ _ over over' kept refl follows.over;
    }

pub write_follows : (result : WriteAnswer) (place : Place) (bytes : List ℕ) (told told' : Option History) (base base' : Place → Option Base) (input input' output output' errors errors' : StreamSeen) → is_some (base place) ≡ true → Tells (write_act place bytes result) told told' → IfSome (base place) (λ b. AtInput (taking_port b) (WritesSo bytes result input.port input'.port) (input' ≡ input)) → IfSome (base place) (λ b. AtOutput (taking_port b) (WritesSo bytes result output.port output'.port) (output' ≡ output)) → IfSome (base place) (λ b. AtErrors (taking_port b) (WritesSo bytes result errors.port errors'.port) (errors' ≡ errors)) → SameBases base base' → FollowsTold told base input.port.gave output.port.took errors.port.took input.port.ended → FollowsTold told' base' input'.port.gave output'.port.took errors'.port.took input'.port.ended
write_follows (writes.Took n) place bytes told told' base base' input input' output output' errors errors' some did at_in at_out at_err same =
    let on = found (base place) some in
    let given = write_ungiven on.0 (writes.Took n) bytes input input' (on_slot (base place) on.0 (λ b. AtInput (taking_port b) (WritesSo bytes (writes.Took n) input.port input'.port) (input' ≡ input)) on.1 at_in) in
    let kept = write_unended on.0 (writes.Took n) bytes input input' (on_slot (base place) on.0 (λ b. AtInput (taking_port b) (WritesSo bytes (writes.Took n) input.port input'.port) (input' ≡ input)) on.1 at_in) in
    let taken = write_taken on.0 n bytes output output' (on_slot (base place) on.0 (λ b. AtOutput (taking_port b) (WritesSo bytes (writes.Took n) output.port output'.port) (output' ≡ output)) on.1 at_out) in
    let said = write_said on.0 n bytes errors errors' (on_slot (base place) on.0 (λ b. AtErrors (taking_port b) (WritesSo bytes (writes.Took n) errors.port errors'.port) (errors' ≡ errors)) on.1 at_err) in
    acted told told' (acts.Wrote place (take n bytes)) base base' input.port.gave input'.port.gave output.port.took output'.port.took errors.port.took errors'.port.took input.port.ended input'.port.ended did
    (λ own elsewhere. wrote_bytes own place on.0 (take n bytes) base base' input.port.gave input'.port.gave output.port.took output'.port.took errors.port.took errors'.port.took input.port.ended input'.port.ended on.1 taken said given kept same)
write_follows writes.NotYet place bytes told told' base base' input input' output output' errors errors' some did at_in at_out at_err same =
    let on = found (base place) some in
    let given = write_ungiven on.0 writes.NotYet bytes input input' (on_slot (base place) on.0 (λ b. AtInput (taking_port b) (WritesSo bytes writes.NotYet input.port input'.port) (input' ≡ input)) on.1 at_in) in
    let kept = write_unended on.0 writes.NotYet bytes input input' (on_slot (base place) on.0 (λ b. AtInput (taking_port b) (WritesSo bytes writes.NotYet input.port input'.port) (input' ≡ input)) on.1 at_in) in
    let taken = write_untaken on.0 writes.NotYet bytes output output' refl (on_slot (base place) on.0 (λ b. AtOutput (taking_port b) (WritesSo bytes writes.NotYet output.port output'.port) (output' ≡ output)) on.1 at_out) in
    let unsaid = write_unsaid on.0 writes.NotYet bytes errors errors' refl (on_slot (base place) on.0 (λ b. AtErrors (taking_port b) (WritesSo bytes writes.NotYet errors.port errors'.port) (errors' ≡ errors)) on.1 at_err) in
    still_follows (write_act place bytes writes.NotYet) told told' base base' input.port.gave input'.port.gave output.port.took output'.port.took errors.port.took errors'.port.took input.port.ended input'.port.ended (λ own past. (refl, (refl, (refl, (refl, refl))))) did same given taken unsaid kept
write_follows writes.Failed place bytes told told' base base' input input' output output' errors errors' some did at_in at_out at_err same =
    let on = found (base place) some in
    let given = write_ungiven on.0 writes.Failed bytes input input' (on_slot (base place) on.0 (λ b. AtInput (taking_port b) (WritesSo bytes writes.Failed input.port input'.port) (input' ≡ input)) on.1 at_in) in
    let kept = write_unended on.0 writes.Failed bytes input input' (on_slot (base place) on.0 (λ b. AtInput (taking_port b) (WritesSo bytes writes.Failed input.port input'.port) (input' ≡ input)) on.1 at_in) in
    let taken = write_untaken on.0 writes.Failed bytes output output' refl (on_slot (base place) on.0 (λ b. AtOutput (taking_port b) (WritesSo bytes writes.Failed output.port output'.port) (output' ≡ output)) on.1 at_out) in
    let unsaid = write_unsaid on.0 writes.Failed bytes errors errors' refl (on_slot (base place) on.0 (λ b. AtErrors (taking_port b) (WritesSo bytes writes.Failed errors.port errors'.port) (errors' ≡ errors)) on.1 at_err) in
    still_follows (write_act place bytes writes.Failed) told told' base base' input.port.gave input'.port.gave output.port.took output'.port.took errors.port.took errors'.port.took input.port.ended input'.port.ended (λ own past. (refl, (refl, (refl, (refl, refl))))) did same given taken unsaid kept
write_follows writes.Memory place bytes told told' base base' input input' output output' errors errors' some did at_in at_out at_err same =
    let on = found (base place) some in
    let given = write_ungiven on.0 writes.Memory bytes input input' (on_slot (base place) on.0 (λ b. AtInput (taking_port b) (WritesSo bytes writes.Memory input.port input'.port) (input' ≡ input)) on.1 at_in) in
    let kept = write_unended on.0 writes.Memory bytes input input' (on_slot (base place) on.0 (λ b. AtInput (taking_port b) (WritesSo bytes writes.Memory input.port input'.port) (input' ≡ input)) on.1 at_in) in
    let taken = write_untaken on.0 writes.Memory bytes output output' refl (on_slot (base place) on.0 (λ b. AtOutput (taking_port b) (WritesSo bytes writes.Memory output.port output'.port) (output' ≡ output)) on.1 at_out) in
    let unsaid = write_unsaid on.0 writes.Memory bytes errors errors' refl (on_slot (base place) on.0 (λ b. AtErrors (taking_port b) (WritesSo bytes writes.Memory errors.port errors'.port) (errors' ≡ errors)) on.1 at_err) in
    still_follows (write_act place bytes writes.Memory) told told' base base' input.port.gave input'.port.gave output.port.took output'.port.took errors.port.took errors'.port.took input.port.ended input'.port.ended tt did same given taken unsaid kept

-- ---- a packet

send_taken : (b : Base) (bytes : List ℕ) (output output' : StreamSeen) → AtOutput (taking_port b) (SendsSo bytes sends.Sent output.port output'.port) (output' ≡ output) → output'.port.took ≡ option_map (λ all. joined (writes_output (Some b)) all bytes) output.port.took
send_taken bases.Output bytes output output' call = call.1.accepts.1
send_taken bases.Both bytes output output' call = call.1.accepts.1
send_taken bases.Input bytes output output' same = took_of output output' same ∙ unmapped output.port.took
send_taken bases.Errors bytes output output' same = took_of output output' same ∙ unmapped output.port.took
send_taken (bases.Made key) bytes output output' same = took_of output output' same ∙ unmapped output.port.took

send_said : (b : Base) (bytes : List ℕ) (errors errors' : StreamSeen) → AtErrors (taking_port b) (SendsSo bytes sends.Sent errors.port errors'.port) (errors' ≡ errors) → errors'.port.took ≡ option_map (λ all. joined (writes_errors (Some b)) all bytes) errors.port.took
send_said bases.Errors bytes errors errors' call = call.1.accepts.1
send_said bases.Input bytes errors errors' same = took_of errors errors' same ∙ unmapped errors.port.took
send_said bases.Output bytes errors errors' same = took_of errors errors' same ∙ unmapped errors.port.took
send_said bases.Both bytes errors errors' same = took_of errors errors' same ∙ unmapped errors.port.took
send_said (bases.Made key) bytes errors errors' same = took_of errors errors' same ∙ unmapped errors.port.took

abbrev is_sent : SendAnswer → Bool
is_sent sends.Sent = true
is_sent sends.NotYet = false
is_sent sends.Failed = false
is_sent sends.Memory = false

sends_none : (result : SendAnswer) (bytes : List ℕ) (before now : PortSeen) → is_sent result ≡ false → SendsSo bytes result before now → now.took ≡ before.took
sends_none sends.Sent bytes before now silent call = absurd cc
sends_none sends.NotYet bytes before now silent call = call.accepts
sends_none sends.Failed bytes before now silent call = call.accepts
sends_none sends.Memory bytes before now silent call = ap (λ (p : PortSeen). p.took) call

sends_gave : (result : SendAnswer) (bytes : List ℕ) (before now : PortSeen) → SendsSo bytes result before now → now.gave ≡ before.gave
sends_gave sends.Sent bytes before now call = call.1.gave
sends_gave sends.NotYet bytes before now call = call.gave
sends_gave sends.Failed bytes before now call = call.gave
sends_gave sends.Memory bytes before now call = ap (λ (p : PortSeen). p.gave) call

send_ungiven : (b : Base) (result : SendAnswer) (bytes : List ℕ) (input input' : StreamSeen) → AtInput (taking_port b) (SendsSo bytes result input.port input'.port) (input' ≡ input) → input'.port.gave ≡ input.port.gave
send_ungiven bases.Input result bytes input input' call = sends_gave result bytes input.port input'.port call
send_ungiven bases.Output result bytes input input' same = gave_of input input' same
send_ungiven bases.Both result bytes input input' same = gave_of input input' same
send_ungiven bases.Errors result bytes input input' same = gave_of input input' same
send_ungiven (bases.Made key) result bytes input input' same = gave_of input input' same

sends_ended : (result : SendAnswer) (bytes : List ℕ) (before now : PortSeen) → SendsSo bytes result before now → now.ended ≡ before.ended
sends_ended sends.Sent bytes before now call = call.1.ended
sends_ended sends.NotYet bytes before now call = call.ended
sends_ended sends.Failed bytes before now call = call.ended
sends_ended sends.Memory bytes before now call = ap (λ (p : PortSeen). p.ended) call

send_unended : (b : Base) (result : SendAnswer) (bytes : List ℕ) (input input' : StreamSeen) → AtInput (taking_port b) (SendsSo bytes result input.port input'.port) (input' ≡ input) → input'.port.ended ≡ input.port.ended
send_unended bases.Input result bytes input input' call = sends_ended result bytes input.port input'.port call
send_unended bases.Output result bytes input input' same = ended_of input input' same
send_unended bases.Both result bytes input input' same = ended_of input input' same
send_unended bases.Errors result bytes input input' same = ended_of input input' same
send_unended (bases.Made key) result bytes input input' same = ended_of input input' same

send_untaken : (b : Base) (result : SendAnswer) (bytes : List ℕ) (output output' : StreamSeen) → is_sent result ≡ false → AtOutput (taking_port b) (SendsSo bytes result output.port output'.port) (output' ≡ output) → output'.port.took ≡ output.port.took
send_untaken bases.Output result bytes output output' silent call = sends_none result bytes output.port output'.port silent call
send_untaken bases.Both result bytes output output' silent call = sends_none result bytes output.port output'.port silent call
send_untaken bases.Input result bytes output output' silent same = took_of output output' same
send_untaken bases.Errors result bytes output output' silent same = took_of output output' same
send_untaken (bases.Made key) result bytes output output' silent same = took_of output output' same

send_unsaid : (b : Base) (result : SendAnswer) (bytes : List ℕ) (errors errors' : StreamSeen) → is_sent result ≡ false → AtErrors (taking_port b) (SendsSo bytes result errors.port errors'.port) (errors' ≡ errors) → errors'.port.took ≡ errors.port.took
send_unsaid bases.Errors result bytes errors errors' silent call = sends_none result bytes errors.port errors'.port silent call
send_unsaid bases.Input result bytes errors errors' silent same = took_of errors errors' same
send_unsaid bases.Output result bytes errors errors' silent same = took_of errors errors' same
send_unsaid bases.Both result bytes errors errors' silent same = took_of errors errors' same
send_unsaid (bases.Made key) result bytes errors errors' silent same = took_of errors errors' same

pub send_follows : (result : SendAnswer) (place : Place) (bytes : List ℕ) (told told' : Option History) (base base' : Place → Option Base) (input input' output output' errors errors' : StreamSeen) → is_some (base place) ≡ true → Tells (send_act place bytes result) told told' → IfSome (base place) (λ b. AtInput (taking_port b) (SendsSo bytes result input.port input'.port) (input' ≡ input)) → IfSome (base place) (λ b. AtOutput (taking_port b) (SendsSo bytes result output.port output'.port) (output' ≡ output)) → IfSome (base place) (λ b. AtErrors (taking_port b) (SendsSo bytes result errors.port errors'.port) (errors' ≡ errors)) → SameBases base base' → FollowsTold told base input.port.gave output.port.took errors.port.took input.port.ended → FollowsTold told' base' input'.port.gave output'.port.took errors'.port.took input'.port.ended
send_follows sends.Sent place bytes told told' base base' input input' output output' errors errors' some did at_in at_out at_err same =
    let on = found (base place) some in
    let given = send_ungiven on.0 sends.Sent bytes input input' (on_slot (base place) on.0 (λ b. AtInput (taking_port b) (SendsSo bytes sends.Sent input.port input'.port) (input' ≡ input)) on.1 at_in) in
    let kept = send_unended on.0 sends.Sent bytes input input' (on_slot (base place) on.0 (λ b. AtInput (taking_port b) (SendsSo bytes sends.Sent input.port input'.port) (input' ≡ input)) on.1 at_in) in
    let taken = send_taken on.0 bytes output output' (on_slot (base place) on.0 (λ b. AtOutput (taking_port b) (SendsSo bytes sends.Sent output.port output'.port) (output' ≡ output)) on.1 at_out) in
    let said = send_said on.0 bytes errors errors' (on_slot (base place) on.0 (λ b. AtErrors (taking_port b) (SendsSo bytes sends.Sent errors.port errors'.port) (errors' ≡ errors)) on.1 at_err) in
    acted told told' (acts.Wrote place bytes) base base' input.port.gave input'.port.gave output.port.took output'.port.took errors.port.took errors'.port.took input.port.ended input'.port.ended did
    (λ own elsewhere. wrote_bytes own place on.0 bytes base base' input.port.gave input'.port.gave output.port.took output'.port.took errors.port.took errors'.port.took input.port.ended input'.port.ended on.1 taken said given kept same)
send_follows sends.NotYet place bytes told told' base base' input input' output output' errors errors' some did at_in at_out at_err same =
    let on = found (base place) some in
    let given = send_ungiven on.0 sends.NotYet bytes input input' (on_slot (base place) on.0 (λ b. AtInput (taking_port b) (SendsSo bytes sends.NotYet input.port input'.port) (input' ≡ input)) on.1 at_in) in
    let kept = send_unended on.0 sends.NotYet bytes input input' (on_slot (base place) on.0 (λ b. AtInput (taking_port b) (SendsSo bytes sends.NotYet input.port input'.port) (input' ≡ input)) on.1 at_in) in
    let taken = send_untaken on.0 sends.NotYet bytes output output' refl (on_slot (base place) on.0 (λ b. AtOutput (taking_port b) (SendsSo bytes sends.NotYet output.port output'.port) (output' ≡ output)) on.1 at_out) in
    let unsaid = send_unsaid on.0 sends.NotYet bytes errors errors' refl (on_slot (base place) on.0 (λ b. AtErrors (taking_port b) (SendsSo bytes sends.NotYet errors.port errors'.port) (errors' ≡ errors)) on.1 at_err) in
    still_follows (send_act place bytes sends.NotYet) told told' base base' input.port.gave input'.port.gave output.port.took output'.port.took errors.port.took errors'.port.took input.port.ended input'.port.ended (λ own past. (refl, (refl, (refl, (refl, refl))))) did same given taken unsaid kept
send_follows sends.Failed place bytes told told' base base' input input' output output' errors errors' some did at_in at_out at_err same =
    let on = found (base place) some in
    let given = send_ungiven on.0 sends.Failed bytes input input' (on_slot (base place) on.0 (λ b. AtInput (taking_port b) (SendsSo bytes sends.Failed input.port input'.port) (input' ≡ input)) on.1 at_in) in
    let kept = send_unended on.0 sends.Failed bytes input input' (on_slot (base place) on.0 (λ b. AtInput (taking_port b) (SendsSo bytes sends.Failed input.port input'.port) (input' ≡ input)) on.1 at_in) in
    let taken = send_untaken on.0 sends.Failed bytes output output' refl (on_slot (base place) on.0 (λ b. AtOutput (taking_port b) (SendsSo bytes sends.Failed output.port output'.port) (output' ≡ output)) on.1 at_out) in
    let unsaid = send_unsaid on.0 sends.Failed bytes errors errors' refl (on_slot (base place) on.0 (λ b. AtErrors (taking_port b) (SendsSo bytes sends.Failed errors.port errors'.port) (errors' ≡ errors)) on.1 at_err) in
    still_follows (send_act place bytes sends.Failed) told told' base base' input.port.gave input'.port.gave output.port.took output'.port.took errors.port.took errors'.port.took input.port.ended input'.port.ended (λ own past. (refl, (refl, (refl, (refl, refl))))) did same given taken unsaid kept
send_follows sends.Memory place bytes told told' base base' input input' output output' errors errors' some did at_in at_out at_err same =
    let on = found (base place) some in
    let given = send_ungiven on.0 sends.Memory bytes input input' (on_slot (base place) on.0 (λ b. AtInput (taking_port b) (SendsSo bytes sends.Memory input.port input'.port) (input' ≡ input)) on.1 at_in) in
    let kept = send_unended on.0 sends.Memory bytes input input' (on_slot (base place) on.0 (λ b. AtInput (taking_port b) (SendsSo bytes sends.Memory input.port input'.port) (input' ≡ input)) on.1 at_in) in
    let taken = send_untaken on.0 sends.Memory bytes output output' refl (on_slot (base place) on.0 (λ b. AtOutput (taking_port b) (SendsSo bytes sends.Memory output.port output'.port) (output' ≡ output)) on.1 at_out) in
    let unsaid = send_unsaid on.0 sends.Memory bytes errors errors' refl (on_slot (base place) on.0 (λ b. AtErrors (taking_port b) (SendsSo bytes sends.Memory errors.port errors'.port) (errors' ≡ errors)) on.1 at_err) in
    still_follows (send_act place bytes sends.Memory) told told' base base' input.port.gave input'.port.gave output.port.took output'.port.took errors.port.took errors'.port.took input.port.ended input'.port.ended tt did same given taken unsaid kept

-- ---- a shut

shuts_still : (how : Shut) (result : ShutAnswer) (before now : PortSeen) → ShutsSo how result before now → (now.gave ≡ before.gave) × (now.took ≡ before.took)
shuts_still how shuts.Done before now call = (call.gave, call.took)
shuts_still how shuts.Failed before now call = (call.gave, call.took)
shuts_still how shuts.Memory before now call = (ap (λ (p : PortSeen). p.gave) call, ap (λ (p : PortSeen). p.took) call)

shut_ungiven : (b : Base) (how : Shut) (result : ShutAnswer) (input input' : StreamSeen) → AtInput (taking_port b) (ShutsSo how result input.port input'.port) (input' ≡ input) → input'.port.gave ≡ input.port.gave
shut_ungiven bases.Input how result input input' call = (shuts_still how result input.port input'.port call).0
shut_ungiven bases.Output how result input input' same = gave_of input input' same
shut_ungiven bases.Both how result input input' same = gave_of input input' same
shut_ungiven bases.Errors how result input input' same = gave_of input input' same
shut_ungiven (bases.Made key) how result input input' same = gave_of input input' same

shuts_ended : (how : Shut) (result : ShutAnswer) (before now : PortSeen) → ShutsSo how result before now → now.ended ≡ before.ended
shuts_ended how shuts.Done before now call = call.ended
shuts_ended how shuts.Failed before now call = call.ended
shuts_ended how shuts.Memory before now call = ap (λ (p : PortSeen). p.ended) call

shut_unended : (b : Base) (how : Shut) (result : ShutAnswer) (input input' : StreamSeen) → AtInput (taking_port b) (ShutsSo how result input.port input'.port) (input' ≡ input) → input'.port.ended ≡ input.port.ended
shut_unended bases.Input how result input input' call = shuts_ended how result input.port input'.port call
shut_unended bases.Output how result input input' same = ended_of input input' same
shut_unended bases.Both how result input input' same = ended_of input input' same
shut_unended bases.Errors how result input input' same = ended_of input input' same
shut_unended (bases.Made key) how result input input' same = ended_of input input' same

shut_untaken : (b : Base) (how : Shut) (result : ShutAnswer) (output output' : StreamSeen) → AtOutput (taking_port b) (ShutsSo how result output.port output'.port) (output' ≡ output) → output'.port.took ≡ output.port.took
shut_untaken bases.Output how result output output' call = (shuts_still how result output.port output'.port call).1
shut_untaken bases.Both how result output output' call = (shuts_still how result output.port output'.port call).1
shut_untaken bases.Input how result output output' same = took_of output output' same
shut_untaken bases.Errors how result output output' same = took_of output output' same
shut_untaken (bases.Made key) how result output output' same = took_of output output' same

shut_unsaid : (b : Base) (how : Shut) (result : ShutAnswer) (errors errors' : StreamSeen) → AtErrors (taking_port b) (ShutsSo how result errors.port errors'.port) (errors' ≡ errors) → errors'.port.took ≡ errors.port.took
shut_unsaid bases.Errors how result errors errors' call = (shuts_still how result errors.port errors'.port call).1
shut_unsaid bases.Input how result errors errors' same = took_of errors errors' same
shut_unsaid bases.Output how result errors errors' same = took_of errors errors' same
shut_unsaid bases.Both how result errors errors' same = took_of errors errors' same
shut_unsaid (bases.Made key) how result errors errors' same = took_of errors errors' same

shut_is_still : (place : Place) (how : Shut) (result : ShutAnswer) → IfSome (shut_act place how result) IsStill
shut_is_still place how shuts.Done = λ own past. (refl, (refl, (refl, (refl, refl))))
shut_is_still place how shuts.Failed = λ own past. (refl, (refl, (refl, (refl, refl))))
shut_is_still place how shuts.Memory = tt

pub shut_follows : (result : ShutAnswer) (place : Place) (how : Shut) (told told' : Option History) (base base' : Place → Option Base) (input input' output output' errors errors' : StreamSeen) → is_some (base place) ≡ true → Tells (shut_act place how result) told told' → IfSome (base place) (λ b. AtInput (taking_port b) (ShutsSo how result input.port input'.port) (input' ≡ input)) → IfSome (base place) (λ b. AtOutput (taking_port b) (ShutsSo how result output.port output'.port) (output' ≡ output)) → IfSome (base place) (λ b. AtErrors (taking_port b) (ShutsSo how result errors.port errors'.port) (errors' ≡ errors)) → SameBases base base' → FollowsTold told base input.port.gave output.port.took errors.port.took input.port.ended → FollowsTold told' base' input'.port.gave output'.port.took errors'.port.took input'.port.ended
shut_follows result place how told told' base base' input input' output output' errors errors' some did at_in at_out at_err same =
    let on = found (base place) some in
    let given = shut_ungiven on.0 how result input input' (on_slot (base place) on.0 (λ b. AtInput (taking_port b) (ShutsSo how result input.port input'.port) (input' ≡ input)) on.1 at_in) in
    let kept = shut_unended on.0 how result input input' (on_slot (base place) on.0 (λ b. AtInput (taking_port b) (ShutsSo how result input.port input'.port) (input' ≡ input)) on.1 at_in) in
    let taken = shut_untaken on.0 how result output output' (on_slot (base place) on.0 (λ b. AtOutput (taking_port b) (ShutsSo how result output.port output'.port) (output' ≡ output)) on.1 at_out) in
    let unsaid = shut_unsaid on.0 how result errors errors' (on_slot (base place) on.0 (λ b. AtErrors (taking_port b) (ShutsSo how result errors.port errors'.port) (errors' ≡ errors)) on.1 at_err) in
    still_follows (shut_act place how result) told told' base base' input.port.gave input'.port.gave output.port.took output'.port.took errors.port.took errors'.port.took input.port.ended input'.port.ended (shut_is_still place how result) did same given taken unsaid kept

-- ---- a wait, a note and a reaping

wait_is_still : (until : Option ℕ) (ready : Listed) (result : Turned) → IfSome (wait_act until ready result) IsStill
wait_is_still until ready (turns.Turned at stop) = λ own past. (refl, (refl, (refl, (refl, refl))))
wait_is_still until ready turns.Memory = tt

pub wait_follows : (result : Turned) (until : Option ℕ) (ready : Listed) (told told' : Option History) (base base' : Place → Option Base) (input input' output output' errors errors' : StreamSeen) → Tells (wait_act until ready result) told told' → input'.port ≡ input.port → output'.port ≡ output.port → errors'.port ≡ errors.port → SameBases base base' → FollowsTold told base input.port.gave output.port.took errors.port.took input.port.ended → FollowsTold told' base' input'.port.gave output'.port.took errors'.port.took input'.port.ended
wait_follows result until ready told told' base base' input input' output output' errors errors' did in_same out_same err_same same =
    still_follows (wait_act until ready result) told told' base base' input.port.gave input'.port.gave output.port.took output'.port.took errors.port.took errors'.port.took input.port.ended input'.port.ended (wait_is_still until ready result) did same (ap (λ (p : PortSeen). p.gave) in_same) (ap (λ (p : PortSeen). p.took) out_same) (ap (λ (p : PortSeen). p.took) err_same) (ap (λ (p : PortSeen). p.ended) in_same)

noted_bytes : (own : Place → Single) (text : List ℕ) (base base' : Place → Option Base) (gave gave' took took' said said' : Option (List ℕ)) (over over' : Bool) → gave' ≡ gave → took' ≡ took → said' ≡ option_map (λ all. all ++ text) said → over' ≡ over → SameBases base base' → Goes own (acts.Note text) base base' gave gave' took took' said said' over over'
noted_bytes own text base base' gave gave' took took' said said' over over' e f g k same past follows = record {
  stands = stands_same own base base' same follows.stands;
  given = kept_sum gave gave' _ _ e refl follows.given;
  taken = kept_sum took took' _ _ f refl follows.taken;
  told = λ whole. grown_sum said said' (λ all. all ++ text) (errors_written own past) g (follows.told whole);
  over = kept_over _ _ over over' k refl follows.over;
}

-- after a note that failed nothing is told of standard error
note_failed : (own : Place → Single) (text : List ℕ) (base base' : Place → Option Base) (gave gave' took took' said said' : Option (List ℕ)) (over over' : Bool) → gave' ≡ gave → took' ≡ took → over' ≡ over → SameBases base base' → Goes own (acts.NoteFault text) base base' gave gave' took took' said said' over over'
note_failed own text base base' gave gave' took took' said said' over over' e f k same past follows = record {
  stands = stands_same own base base' same follows.stands;
  given = kept_sum gave gave' _ _ e refl follows.given;
  taken = kept_sum took took' _ _ f refl follows.taken;
  told = λ whole. absurd cc;
  over = kept_over _ _ over over' k refl follows.over;
}

pub note_follows : (result : NoteAnswer) (text : List ℕ) (told told' : Option History) (base base' : Place → Option Base) (input input' output output' errors errors' : StreamSeen) → Tells (note_act text result) told told' → input' ≡ input → output' ≡ output → NotedSo result errors.port.took errors'.port.took text → SameBases base base' → FollowsTold told base input.port.gave output.port.took errors.port.took input.port.ended → FollowsTold told' base' input'.port.gave output'.port.took errors'.port.took input'.port.ended
note_follows notes.Noted text told told' base base' input input' output output' errors errors' did in_same out_same says same =
    acted told told' (acts.Note text) base base' input.port.gave input'.port.gave output.port.took output'.port.took errors.port.took errors'.port.took input.port.ended input'.port.ended did
    (λ own elsewhere. noted_bytes own text base base' input.port.gave input'.port.gave output.port.took output'.port.took errors.port.took errors'.port.took input.port.ended input'.port.ended (gave_of input input' in_same) (took_of output output' out_same) says (ended_of input input' in_same) same)
note_follows notes.Failed text told told' base base' input input' output output' errors errors' did in_same out_same says same =
    acted told told' (acts.NoteFault text) base base' input.port.gave input'.port.gave output.port.took output'.port.took errors.port.took errors'.port.took input.port.ended input'.port.ended did
    (λ own elsewhere. note_failed own text base base' input.port.gave input'.port.gave output.port.took output'.port.took errors.port.took errors'.port.took input.port.ended input'.port.ended (gave_of input input' in_same) (took_of output output' out_same) (ended_of input input' in_same) same)
note_follows notes.Memory text told told' base base' input input' output output' errors errors' did in_same out_same says same =
    nothing told told' base base' input.port.gave input'.port.gave output.port.took output'.port.took errors.port.took errors'.port.took input.port.ended input'.port.ended did same (gave_of input input' in_same) (took_of output output' out_same) says (ended_of input input' in_same)

reap_is_still : (place : Place) (result : ReapAnswer) → IfSome (reap_act place result) IsStill
reap_is_still place (reaps.Reaped end) = λ own past. (refl, (refl, (refl, (refl, refl))))
reap_is_still place reaps.NoChild = tt
reap_is_still place reaps.Memory = tt

pub reap_follows : (result : ReapAnswer) (place : Place) (told told' : Option History) (base base' : Place → Option Base) (input input' output output' errors errors' : StreamSeen) → Tells (reap_act place result) told told' → input' ≡ input → output' ≡ output → errors' ≡ errors → SameBases base base' → FollowsTold told base input.port.gave output.port.took errors.port.took input.port.ended → FollowsTold told' base' input'.port.gave output'.port.took errors'.port.took input'.port.ended
reap_follows result place told told' base base' input input' output output' errors errors' did in_same out_same err_same same =
    still_follows (reap_act place result) told told' base base' input.port.gave input'.port.gave output.port.took output'.port.took errors.port.took errors'.port.took input.port.ended input'.port.ended (reap_is_still place result) did same (gave_of input input' in_same) (took_of output output' out_same) (took_of errors errors' err_same) (ended_of input input' in_same)

-- ---- what opens and closes places

pub open_follows : (result : OpenAnswer) (place : Place) (single : Single) (told told' : Option History) (base base' : Place → Option Base) (input input' output output' errors errors' : StreamSeen) → TellsAsking (place, single) (open_act place result) told told' → MovesNothing input.port input'.port → MovesNothing output.port output'.port → MovesNothing errors.port errors'.port → input'.port.ended ≡ input.port.ended → OpensOn (standard_of place single.target) place base base' result → FollowsTold told base input.port.gave output.port.took errors.port.took input.port.ended → FollowsTold told' base' input'.port.gave output'.port.took errors'.port.took input'.port.ended
open_follows opens.Opened place single told told' base base' input input' output output' errors errors' did in_still out_still err_still kept on =
    asked told told' (acts.Opened place) (place, single) base base' input.port.gave input'.port.gave output.port.took output'.port.took errors.port.took errors'.port.took input.port.ended input'.port.ended did
    (λ own elsewhere is. quiet own (acts.Opened place) base base' input.port.gave input'.port.gave output.port.took output'.port.took errors.port.took errors'.port.took input.port.ended input'.port.ended (stands_comes own place (standard_of place single.target) base base' (ap (λ (s : Single). standard_of place s.target) (sym is)) on) in_still.gave out_still.took err_still.took kept (λ past. (refl, (refl, (refl, (refl, refl))))))
open_follows opens.Later place single told told' base base' input input' output output' errors errors' did in_still out_still err_still kept on =
    asked told told' (acts.OpenLater place) (place, single) base base' input.port.gave input'.port.gave output.port.took output'.port.took errors.port.took errors'.port.took input.port.ended input'.port.ended did
    (λ own elsewhere is. quiet own (acts.OpenLater place) base base' input.port.gave input'.port.gave output.port.took output'.port.took errors.port.took errors'.port.took input.port.ended input'.port.ended (stands_comes own place (standard_of place single.target) base base' (ap (λ (s : Single). standard_of place s.target) (sym is)) on) in_still.gave out_still.took err_still.took kept (λ past. (refl, (refl, (refl, (refl, refl))))))
open_follows opens.Failed place single told told' base base' input input' output output' errors errors' did in_still out_still err_still kept on =
    asked told told' (acts.OpenFailed place) (place, single) base base' input.port.gave input'.port.gave output.port.took output'.port.took errors.port.took errors'.port.took input.port.ended input'.port.ended did
    (λ own elsewhere is. quiet own (acts.OpenFailed place) base base' input.port.gave input'.port.gave output.port.took output'.port.took errors.port.took errors'.port.took input.port.ended input'.port.ended (stands_same own base base' on) in_still.gave out_still.took err_still.took kept (λ past. (refl, (refl, (refl, (refl, refl))))))
open_follows opens.Memory place single told told' base base' input input' output output' errors errors' did in_still out_still err_still kept on =
    nothing told told' base base' input.port.gave input'.port.gave output.port.took output'.port.took errors.port.took errors'.port.took input.port.ended input'.port.ended did on in_still.gave out_still.took err_still.took kept

settles_still : (result : OpenAnswer) (before now : PortSeen) → SettlesSo before now result → (now.gave ≡ before.gave) × (now.took ≡ before.took)
settles_still opens.Opened before now call = (call.still.gave, call.still.took)
settles_still opens.Later before now call = (call.still.gave, call.still.took)
settles_still opens.Failed before now call = (call.still.gave, call.still.took)
settles_still opens.Memory before now call = (ap (λ (p : PortSeen). p.gave) call, ap (λ (p : PortSeen). p.took) call)

settle_ungiven : (b : Base) (result : OpenAnswer) (input input' : StreamSeen) → AtInput (giving_port b) (SettlesSo input.port input'.port result) (input' ≡ input) → input'.port.gave ≡ input.port.gave
settle_ungiven bases.Input result input input' call = (settles_still result input.port input'.port call).0
settle_ungiven bases.Both result input input' call = (settles_still result input.port input'.port call).0
settle_ungiven bases.Output result input input' same = gave_of input input' same
settle_ungiven bases.Errors result input input' same = gave_of input input' same
settle_ungiven (bases.Made key) result input input' same = gave_of input input' same

settles_ended : (result : OpenAnswer) (before now : PortSeen) → SettlesSo before now result → now.ended ≡ before.ended
settles_ended opens.Opened before now call = call.ended
settles_ended opens.Later before now call = call.ended
settles_ended opens.Failed before now call = call.ended
settles_ended opens.Memory before now call = ap (λ (p : PortSeen). p.ended) call

settle_unended : (b : Base) (result : OpenAnswer) (input input' : StreamSeen) → AtInput (giving_port b) (SettlesSo input.port input'.port result) (input' ≡ input) → input'.port.ended ≡ input.port.ended
settle_unended bases.Input result input input' call = settles_ended result input.port input'.port call
settle_unended bases.Both result input input' call = settles_ended result input.port input'.port call
settle_unended bases.Output result input input' same = ended_of input input' same
settle_unended bases.Errors result input input' same = ended_of input input' same
settle_unended (bases.Made key) result input input' same = ended_of input input' same

settle_untaken : (b : Base) (result : OpenAnswer) (output output' : StreamSeen) → AtOutput (giving_port b) (SettlesSo output.port output'.port result) (output' ≡ output) → output'.port.took ≡ output.port.took
settle_untaken bases.Output result output output' call = (settles_still result output.port output'.port call).1
settle_untaken bases.Input result output output' same = took_of output output' same
settle_untaken bases.Both result output output' same = took_of output output' same
settle_untaken bases.Errors result output output' same = took_of output output' same
settle_untaken (bases.Made key) result output output' same = took_of output output' same

settle_unsaid : (b : Base) (result : OpenAnswer) (errors errors' : StreamSeen) → AtErrors (giving_port b) (SettlesSo errors.port errors'.port result) (errors' ≡ errors) → errors'.port.took ≡ errors.port.took
settle_unsaid bases.Errors result errors errors' call = (settles_still result errors.port errors'.port call).1
settle_unsaid bases.Input result errors errors' same = took_of errors errors' same
settle_unsaid bases.Output result errors errors' same = took_of errors errors' same
settle_unsaid bases.Both result errors errors' same = took_of errors errors' same
settle_unsaid (bases.Made key) result errors errors' same = took_of errors errors' same

settled : (result : OpenAnswer) (place : Place) (told told' : Option History) (base base' : Place → Option Base) (gave gave' took took' said said' : Option (List ℕ)) (over over' : Bool) → Tells (open_act place result) told told' → gave' ≡ gave → took' ≡ took → said' ≡ said → over' ≡ over → SettlesOn place base base' result → FollowsTold told base gave took said over → FollowsTold told' base' gave' took' said' over'
settled opens.Opened place told told' base base' gave gave' took took' said said' over over' did e f g k on =
    still_follows (Some (acts.Opened place)) told told' base base' gave gave' took took' said said' over over' (λ own past. (refl, (refl, (refl, (refl, refl))))) did on e f g k
settled opens.Later place told told' base base' gave gave' took took' said said' over over' did e f g k on =
    still_follows (Some (acts.OpenLater place)) told told' base base' gave gave' took took' said said' over over' (λ own past. (refl, (refl, (refl, (refl, refl))))) did on e f g k
settled opens.Failed place told told' base base' gave gave' took took' said said' over over' did e f g k on =
    acted told told' (acts.OpenFailed place) base base' gave gave' took took' said said' over over' did
    (λ own elsewhere. quiet own (acts.OpenFailed place) base base' gave gave' took took' said said' over over' (stands_leaves own place base base' on) e f g k (λ past. (refl, (refl, (refl, (refl, refl))))))
settled opens.Memory place told told' base base' gave gave' took took' said said' over over' did e f g k on =
    nothing told told' base base' gave gave' took took' said said' over over' did on e f g k

pub settle_follows : (result : OpenAnswer) (place : Place) (told told' : Option History) (base base' : Place → Option Base) (input input' output output' errors errors' : StreamSeen) → is_some (base place) ≡ true → Tells (open_act place result) told told' → IfSome (base place) (λ b. AtInput (giving_port b) (SettlesSo input.port input'.port result) (input' ≡ input)) → IfSome (base place) (λ b. AtOutput (giving_port b) (SettlesSo output.port output'.port result) (output' ≡ output)) → IfSome (base place) (λ b. AtErrors (giving_port b) (SettlesSo errors.port errors'.port result) (errors' ≡ errors)) → SettlesOn place base base' result → FollowsTold told base input.port.gave output.port.took errors.port.took input.port.ended → FollowsTold told' base' input'.port.gave output'.port.took errors'.port.took input'.port.ended
settle_follows result place told told' base base' input input' output output' errors errors' some did at_in at_out at_err on_after =
    let on = found (base place) some in
    let given = settle_ungiven on.0 result input input' (on_slot (base place) on.0 (λ b. AtInput (giving_port b) (SettlesSo input.port input'.port result) (input' ≡ input)) on.1 at_in) in
    let kept = settle_unended on.0 result input input' (on_slot (base place) on.0 (λ b. AtInput (giving_port b) (SettlesSo input.port input'.port result) (input' ≡ input)) on.1 at_in) in
    let taken = settle_untaken on.0 result output output' (on_slot (base place) on.0 (λ b. AtOutput (giving_port b) (SettlesSo output.port output'.port result) (output' ≡ output)) on.1 at_out) in
    let unsaid = settle_unsaid on.0 result errors errors' (on_slot (base place) on.0 (λ b. AtErrors (giving_port b) (SettlesSo errors.port errors'.port result) (errors' ≡ errors)) on.1 at_err) in
    settled result place told told' base base' input.port.gave input'.port.gave output.port.took output'.port.took errors.port.took errors'.port.took input.port.ended input'.port.ended did given taken unsaid kept on_after

pub listen_follows : (result : ListenAnswer) (door : Place) (single : Single) (told told' : Option History) (base base' : Place → Option Base) (input input' output output' errors errors' : StreamSeen) → TellsAsking (door, single) (listen_act door result) told told' → input' ≡ input → output' ≡ output → errors' ≡ errors → ListensOn door base base' result → FollowsTold told base input.port.gave output.port.took errors.port.took input.port.ended → FollowsTold told' base' input'.port.gave output'.port.took errors'.port.took input'.port.ended
listen_follows listens.Listening door single told told' base base' input input' output output' errors errors' did in_same out_same err_same on =
    asked told told' (acts.Listening door) (door, single) base base' input.port.gave input'.port.gave output.port.took output'.port.took errors.port.took errors'.port.took input.port.ended input'.port.ended did
    (λ own elsewhere is. quiet own (acts.Listening door) base base' input.port.gave input'.port.gave output.port.took output'.port.took errors.port.took errors'.port.took input.port.ended input'.port.ended (stands_comes own door None base base' elsewhere on) (gave_of input input' in_same) (took_of output output' out_same) (took_of errors errors' err_same) (ended_of input input' in_same) (λ past. (refl, (refl, (refl, (refl, refl))))))
listen_follows listens.Failed door single told told' base base' input input' output output' errors errors' did in_same out_same err_same on =
    asked told told' (acts.ListenFailed door) (door, single) base base' input.port.gave input'.port.gave output.port.took output'.port.took errors.port.took errors'.port.took input.port.ended input'.port.ended did
    (λ own elsewhere is. quiet own (acts.ListenFailed door) base base' input.port.gave input'.port.gave output.port.took output'.port.took errors.port.took errors'.port.took input.port.ended input'.port.ended (stands_same own base base' on) (gave_of input input' in_same) (took_of output output' out_same) (took_of errors errors' err_same) (ended_of input input' in_same) (λ past. (refl, (refl, (refl, (refl, refl))))))
listen_follows listens.Memory door single told told' base base' input input' output output' errors errors' did in_same out_same err_same on =
    nothing told told' base base' input.port.gave input'.port.gave output.port.took output'.port.took errors.port.took errors'.port.took input.port.ended input'.port.ended did on (gave_of input input' in_same) (took_of output output' out_same) (took_of errors errors' err_same) (ended_of input input' in_same)

pub accept_follows : (result : AcceptAnswer) (door place : Place) (told told' : Option History) (base base' : Place → Option Base) (input input' output output' errors errors' : StreamSeen) → Tells (accept_act door place result) told told' → input' ≡ input → output' ≡ output → errors' ≡ errors → AcceptsOn place base base' result → FollowsTold told base input.port.gave output.port.took errors.port.took input.port.ended → FollowsTold told' base' input'.port.gave output'.port.took errors'.port.took input'.port.ended
accept_follows (accepts.Accepted peer) door place told told' base base' input input' output output' errors errors' did in_same out_same err_same on =
    acted told told' (acts.Accepted place peer) base base' input.port.gave input'.port.gave output.port.took output'.port.took errors.port.took errors'.port.took input.port.ended input'.port.ended did
    (λ own elsewhere. quiet own (acts.Accepted place peer) base base' input.port.gave input'.port.gave output.port.took output'.port.took errors.port.took errors'.port.took input.port.ended input'.port.ended (stands_comes own place None base base' elsewhere on) (gave_of input input' in_same) (took_of output output' out_same) (took_of errors errors' err_same) (ended_of input input' in_same) (λ past. (refl, (refl, (refl, (refl, refl))))))
accept_follows accepts.NoPeer door place told told' base base' input input' output output' errors errors' did in_same out_same err_same on =
    still_follows (Some (acts.NoPeer door)) told told' base base' input.port.gave input'.port.gave output.port.took output'.port.took errors.port.took errors'.port.took input.port.ended input'.port.ended (λ own past. (refl, (refl, (refl, (refl, refl))))) did on (gave_of input input' in_same) (took_of output output' out_same) (took_of errors errors' err_same) (ended_of input input' in_same)
accept_follows accepts.Failed door place told told' base base' input input' output output' errors errors' did in_same out_same err_same on =
    still_follows (Some (acts.AcceptFailed door)) told told' base base' input.port.gave input'.port.gave output.port.took output'.port.took errors.port.took errors'.port.took input.port.ended input'.port.ended (λ own past. (refl, (refl, (refl, (refl, refl))))) did on (gave_of input input' in_same) (took_of output output' out_same) (took_of errors errors' err_same) (ended_of input input' in_same)
accept_follows accepts.Memory door place told told' base base' input input' output output' errors errors' did in_same out_same err_same on =
    nothing told told' base base' input.port.gave input'.port.gave output.port.took output'.port.took errors.port.took errors'.port.took input.port.ended input'.port.ended did on (gave_of input input' in_same) (took_of output output' out_same) (took_of errors errors' err_same) (ended_of input input' in_same)

pub close_follows : (place : Place) (why : Why) (told told' : Option History) (base base' : Place → Option Base) (input input' output output' errors errors' : StreamSeen) → Tells (close_act place why) told told' → input' ≡ input → output' ≡ output → errors' ≡ errors → Leaves place base base' → FollowsTold told base input.port.gave output.port.took errors.port.took input.port.ended → FollowsTold told' base' input'.port.gave output'.port.took errors'.port.took input'.port.ended
close_follows place why told told' base base' input input' output output' errors errors' did in_same out_same err_same on =
    acted told told' (acts.Closed place why) base base' input.port.gave input'.port.gave output.port.took output'.port.took errors.port.took errors'.port.took input.port.ended input'.port.ended did
    (λ own elsewhere. quiet own (acts.Closed place why) base base' input.port.gave input'.port.gave output.port.took output'.port.took errors.port.took errors'.port.took input.port.ended input'.port.ended (stands_leaves own place base base' on) (gave_of input input' in_same) (took_of output output' out_same) (took_of errors errors' err_same) (ended_of input input' in_same) (λ past. (refl, (refl, (refl, (refl, refl))))))

-- ---- the start

nowhere : (own : Place → Single) (base : Place → Option Base) → ((p : Place) → base p ≡ None) → AllStandFor own base
nowhere own base none p = subst (λ slot. IfSome slot (λ b. StandsFor (stream_of own p) (Some b))) (sym (none p)) tt

-- where nothing is held, what was passed follows what is told
pub starts : (told : Option History) (base : Place → Option Base) (gave took said : Option (List ℕ)) (over : Bool) → ((p : Place) → base p ≡ None) → PassedTold told gave took said over → FollowsTold told base gave took said over
starts None base gave took said over free passed = tt
starts (Some h) base gave took said over free passed = λ own all elsewhere.
    let by = passed own all elsewhere in
    record { stands = nowhere own base free; given = by.given; taken = by.taken; told = by.told; over = by.over }

-- a desk that starts like this
pub starts_from : (start : Option Start) (told : Option History) (base : Place → Option Base) (gave took said : Option (List ℕ)) (over : Bool) → start ≡ Some (record { told = told; gave = gave; took = took; said = said; ended = over }) → ((p : Place) → base p ≡ None) → GoesOn start told base gave took said over
starts_from start told base gave took said over is free = record { follows = λ passed. starts told base gave took said over free (subst StartsInStep is passed) }

-- streams that passed no bytes have passed what a history without acts tells
pub unused_passed : (history : History) (gave took said : Option (List ℕ)) (over : Bool) → history.acts ≡ [] → IsUnused gave took said → Passed history gave took said over
unused_passed history gave took said over none unused = λ own all elsewhere.
    subst (λ xs. PassedBy own xs gave took said over) (sym none) (record { given = unused.given; taken = unused.taken; told = λ whole. unused.silent; over = λ is. absurd cc })

empty : (past : List Act) → are_none past ≡ true → past ≡ []
empty [] e = refl
empty (act ∷ past) e = absurd cc

-- a desk that made no act tells none
pub no_acts : (acted : Bool) (told : Option History) (history : History) → acted ≡ false → (acted || has_no_acts told) ≡ true → told ≡ Some history → history.acts ≡ []
no_acts true told history untouched unacted is = absurd cc
no_acts false told history untouched unacted is = empty history.acts (subst (λ slot. has_no_acts slot ≡ true) is unacted)

-- what isn't held stands on nothing
pub unbased : (xs : List PlaceEntry) → ((p : Place) → hold_at xs p ≡ Free) → (p : Place) → base_at xs p ≡ None
unbased xs free p = found_none xs p (free_entry xs p (free p))

-- ---- the end

sum_prop : (slot : Option (List ℕ)) (x : List ℕ) → IsProp (IfSome slot (λ all. all ≡ x))
sum_prop None x = Unit-prop
sum_prop (Some a) x = Coded-set (coded_list coded_ℕ) a x

-- what follows a history to its end
pub passed_by : (told : Option History) (base : Place → Option Base) (gave took said : Option (List ℕ)) (over : Bool) → ∥ FollowsTold told base gave took said over ∥₁ → IfSome told (λ h. Passed h gave took said over)
passed_by None base gave took said over follows = tt
passed_by (Some h) base gave took said over follows = λ own all elsewhere. record {
  given = ∥∥₁_elim follows (sum_prop gave (input_read own h.acts)) (λ f. (f own all elsewhere).given);
  taken = ∥∥₁_elim follows (sum_prop took (output_written own h.acts)) (λ f. (f own all elsewhere).taken);
  told = λ whole. ∥∥₁_elim follows (sum_prop said (errors_written own h.acts)) (λ f. (f own all elsewhere).told whole);
  over = λ is. ∥∥₁_elim follows (Coded-set coded_bool over true) (λ f. (f own all elsewhere).over is);
}

-- the same of a desk that was followed from this start on
pub passed_since : (start : Option Start) (told : Option History) (base : Place → Option Base) (gave took said : Option (List ℕ)) (over : Bool) → ∥ GoesOn start told base gave took said over ∥₁ → StartsInStep start → IfSome told (λ h. Passed h gave took said over)
passed_since start told base gave took said over follows at = passed_by told base gave took said over (∥∥₁_map follows (λ f. f.follows at))
