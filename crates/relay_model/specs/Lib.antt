pub mod Acts
pub mod Arming
pub mod Audit
pub mod Calls
pub mod Cause
pub mod Changes
pub mod Choices
pub mod Configs
pub mod Conversions
pub mod Dumps
pub mod Frames
pub mod History
pub mod Holding
pub mod Journals
pub mod Laws
pub mod May
pub mod Moments
pub mod Openings
pub mod Outcome
pub mod Permits
pub mod Places
pub mod PlainRelay
pub mod Readiness
pub mod Rest
pub mod Sessions
pub mod Transfers
pub mod Tries
pub mod Waits
pub use Acts.{copied_act}
pub use Arming.{armed_to_accept, armed_to_read, armed_to_write, arming_moment, asked_to_accept, asked_to_read}
pub use Arming.{asked_to_write, pause_after_end, read_arming}
pub use Audit.{accept_tried, accepts_at, accepts_for, begins, begins_pieces, closes, door_ends, door_rests}
pub use Audit.{first_illegal, held_count, implies, is_cause, listens_to, may_ask, may_close, may_come, may_offer}
pub use Audit.{may_put, may_shut, may_take, opens, rests, same_list, same_number, same_shut, same_text, session_rests}
pub use Audit.{way_rests}
pub use Calls.{call, called_at, door_call, door_cut, enough, full, program_door_call}
pub use Cause.{accept_failed_for, cause, closed_why, each_formed, fault_at, fault_stands, faulted, finished, is_end}
pub use Cause.{listening_failed, opening_failed, running, some_formed}
pub use Changes.{StepsChange}
pub use Choices.{count, each_below, earlier, first_some, joined, later, least_below, one_more, only_if, or_else}
pub use Choices.{some_below}
pub use Configs.{Fit, accepting_door, address, connection_shut, datagram_shut, forks, formed, has_fork, has_half}
pub use Configs.{has_own_door, how, input, is_datagrams, is_error_stream, is_left, is_of, is_place_of, is_program}
pub use Configs.{is_program_door, keeps_borders, listens, listens_at, medium, medium_of, narrowed, offered, options_of}
pub use Configs.{output, output_is_shared, own_doors, part_with, parts, parts_of, place_at, places, plain_shut}
pub use Configs.{program_door, shut_on, single, single_for, sink, source, stands_on_output, things, way_from, way_to}
pub use Configs.{writes_output, writes_shared_stream}
pub use Conversions.{at_most_left, before_escape, due_of, first_bytes, holds_escape, is_met, is_over, is_used_up}
pub use Conversions.{longest_packet, packet_cap, packet_size, read_converted, read_size, write_converted}
pub use Dumps.{arrow, dump_of, header, hex_byte, hex_digit, hex_dump, hex_lines, newline, shown_byte, text_dump}
pub use Dumps.{text_lines}
pub use Frames.{ElsewhereIsUntouched, IsForeign, SameAt, SameSession, SessionsAreApart, StepsLeave, is_at, is_closing}
pub use Frames.{is_common, is_turn, reads_bytes}
pub use History.{accept_failed, failures, got, held, holds_at, is_gone_with, memory_said, met_empty, met_end, now, put}
pub use History.{read_fault_at, reaped_since, same_why, sent, served, shut_at, stage, stop_said, turns, was_closed}
pub use History.{was_reaped, woken, write_fault_at}
pub use Holding.{Free, Hold, Open, Settling, hold_after, is_free, is_open, standing}
pub use Journals.{Asking, Story}
pub use Laws.{AdmittedIsBounded, BacklogIsBounded, CallsTell, CausedBeginsNothing, ClosedForGood, ClosedIsOver}
pub use Laws.{EndIsLast, EndedStaysEnded, FinishedIsWhole, HeldHasBegun, LiveIsBounded, OneTestIsRight, OutputsAgree}
pub use Laws.{PassedIsWhole, PrefixesAreLegal, ProgramDoorTells, ServedDoorStaysClosed, ServedDoorStaysServed}
pub use Laws.{StandingIsHeld, TestsAreRight, UsedIsHeld, WrittenIsDue, begins_holding}
pub use May.{BeginsWith, Legal, Licensed, MayClose, MayOffer, MayRead, MayReap, MayShut, MayTryWrite, MayWrite}
pub use Moments.{after_one, broken, broken_at, closing_moment, done, done_at, idle_moment, is_unfinished, moved_at}
pub use Moments.{passed, passed_at, reached}
pub use Openings.{first_call, is_ready, listening_call, opening_call, out_of_tries, peer_call, place_call, ready}
pub use Openings.{try_again, when_due}
pub use Outcome.{failed_listening, failed_opening, first_fault, holds_something, outcome, outcome_by}
pub use Outcome.{outcome_of_sessions, program_doors}
pub use Permits.{is_permitted, is_port_permitted, is_same_under}
pub use Places.{door_of, same_bool, same_half, same_place, same_side}
pub use PlainRelay.{default_options}
pub use Readiness.{ListOf, Listed, copied_list, fresh_list, names}
pub use Rest.{DoorRests, SessionRests, accepts, door_moment, goes, input_moment, is_going, must_pass, owed, owes_read}
pub use Rest.{owes_write, presses, session_moment, session_work, timer_moment, try_moment, until_of, way_work}
pub use Sessions.{admitted, door_options, first_part, holds, is_admission, live, live_count, next_place, numbers}
pub use Sessions.{permits}
pub use Transfers.{backlog, due, due_pieces, greatest_read, is_empty, is_spent, over}
pub use Tries.{is_out_of_tries, next_due}
pub use Waits.{RestIsOfParts, UntilIsLeast}
pub use declared.acts.Act.{Act}
pub use declared.commands.Address.{Address}
pub use declared.commands.Admission.{Admission}
pub use declared.commands.Bind.{Bind}
pub use declared.calls.Call.{Call}
pub use declared.acts.ChildEnd.{ChildEnd}
pub use declared.commands.Config.{Config}
pub use declared.commands.Dump.{Dump}
pub use declared.commands.EntryOptions.{EntryOptions}
pub use declared.commands.Family.{Family}
pub use declared.commands.FileFlags.{FileFlags}
pub use declared.places.Half.{Half}
pub use declared.journals.Kept.{Kept}
pub use declared.media.Medium.{Medium}
pub use declared.commands.Options.{Options}
pub use declared.places.Part.{Part}
pub use declared.acts.Peer.{Peer}
pub use declared.places.Place.{Place}
pub use declared.commands.Range.{Range}
pub use declared.readiness.ReadyAt.{ReadyAt}
pub use declared.refusals.Refusal.{Refusal}
pub use declared.refusals.Refused.{Refused}
pub use declared.outcomes.RunOutcome.{RunOutcome}
pub use declared.acts.Shut.{Shut}
pub use declared.places.Side.{Side}
pub use declared.commands.Single.{Single}
pub use declared.commands.SocketOptions.{SocketOptions}
pub use declared.stages.Stage.{Stage}
pub use declared.commands.Target.{Target}
pub use declared.places.Way.{Way}
pub use declared.commands.Ways.{Ways}
pub use declared.acts.Why.{Why}
