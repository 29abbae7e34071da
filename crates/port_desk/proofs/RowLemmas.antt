-- What one row of the table of places says of what places stand on, and of their marks.
use Rattle.std.proofs.Common.{Option, option_map}
use Rattle.relay_model.specs.declared.places.Half.TheVariants.{ToRead, ToWrite}
use Rattle.relay_model.specs.declared.places.Place.{Place}
use Rattle.port_trait.specs.declared.answers.Got.{Got}
use Rattle.port_trait.specs.declared.answers.Got.TheVariants as gots
use Rattle.port_trait.specs.declared.answers.Took.{Took}
use Rattle.port_trait.specs.declared.answers.Took.TheVariants as tooks
use Rattle.port_trait.specs.declared.answers.Shutting.{Shutting}
use Rattle.port_trait.specs.declared.answers.Shutting.TheVariants as shuttings
use Rattle.port_trait.specs.Streams.{finishes}
use Rattle.relay_model.specs.declared.acts.Shut.{Shut}
use Rattle.desk_places.specs.Changes.{shut_answer}
use Rattle.port_table.specs.Answers.{is_got_not_yet, is_took_not_yet}
use Rattle.desk_places.specs.declared.places.PlaceEntry.{PlaceEntry}
use Rattle.desk_places.specs.PlaceTables.{SetsEntry, shut_down, with_half}
use Rattle.port_desk.specs.Desks.{Marked, ShutsRow, read_mark, send_mark, write_mark}
use Rattle.port_desk.specs.Records.{read_answer, send_answer, write_answer}

-- the row of a read, by the answer of its port
pub read_row : (got : Got) (place : Place) (before after : Place → Option PlaceEntry) → SetsEntry place (option_map (with_half ToRead (is_got_not_yet got)) (before place)) before after → Marked place ToRead (read_mark (read_answer got)) before after
read_row (gots.Bytes n) place before after sets = sets
read_row gots.Empty place before after sets = sets
read_row gots.End place before after sets = sets
read_row gots.NotYet place before after sets = sets
read_row gots.Failed place before after sets = sets

pub write_row : (took : Took) (place : Place) (before after : Place → Option PlaceEntry) → SetsEntry place (option_map (with_half ToWrite (is_took_not_yet took)) (before place)) before after → Marked place ToWrite (write_mark (write_answer took)) before after
write_row (tooks.Took n) place before after sets = sets
write_row tooks.NotYet place before after sets = sets
write_row tooks.Failed place before after sets = sets

pub send_row : (took : Took) (place : Place) (before after : Place → Option PlaceEntry) → SetsEntry place (option_map (with_half ToWrite (is_took_not_yet took)) (before place)) before after → Marked place ToWrite (send_mark (send_answer took)) before after
send_row (tooks.Took n) place before after sets = sets
send_row tooks.NotYet place before after sets = sets
send_row tooks.Failed place before after sets = sets

-- the row of a shut, by the answer of its port
pub shut_row : (answer : Shutting) (how : Shut) (place : Place) (before after : Place → Option PlaceEntry) → SetsEntry place (option_map (shut_down (finishes how)) (before place)) before after → ShutsRow place how (shut_answer answer) before after
shut_row shuttings.Done how place before after sets = sets
shut_row shuttings.Failed how place before after sets = sets
