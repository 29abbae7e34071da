-- What a view of a journal shows, and why there may be none.
use Rattle.std.specs.Prelude.{◌≡◌, ℕ, ◌<◌, ◌≤◌, Bool, true, false, nat_lt, List, length, Option, Some, None, Ok}
use Rattle.relay_model.specs.{Config, Act, input, output, got, put, numbers}
use Rattle.relay_model.specs.declared.commands.Dump.TheVariants as dumps
use Rattle.cmd_words.specs.declared.commands.Command.TheVariants.{Relay}
use Rattle.cmd_words.specs.{MakesNoRelay, command}
use Rattle.journal_text.specs.{IsTextOf, IsFirstBadLine, kept, longest_text}
use Rattle.place_report.specs.{IsPrintable}
use Rattle.journal_table.specs.{dumped, TableTold, acts_text}
use Rattle.journal_report.specs.declared.views.ViewedStream.{ViewedStream}
use Rattle.journal_report.specs.declared.views.View.{View}
use Rattle.journal_report.specs.declared.views.View.TheVariants as view
use Rattle.journal_report.specs.declared.shown.Unshown.{Unshown}
use Rattle.journal_report.specs.declared.shown.Unshown.TheVariants.{TooLong, BadWords, BadLine, NoSession}
use Rattle.journal_report.specs.declared.shown.ViewFault.{ViewFault}
use Rattle.journal_report.specs.declared.shown.ViewFault.TheVariants as faults
use Rattle.journal_report.specs.Timelines.{TimelineTold}
use Rattle.journal_report.specs.Pictures.{IsPicture}

-- the direction that is asked for, if one is
abbrev pub stream_of : View → Option ViewedStream
stream_of view.Table = None
stream_of view.Timeline = None
stream_of view.Picture = None
stream_of view.Acts = None
stream_of (view.Written stream) = Some stream
stream_of (view.Read stream) = Some stream
stream_of (view.Text stream) = Some stream
stream_of (view.Hex stream) = Some stream

-- whether the session of a direction, if there is one, has begun
abbrev pub stream_begun : Config → List Act → Option ViewedStream → Bool
stream_begun c past None = true
stream_begun c past (Some stream) = nat_lt stream.session (numbers c past)

-- whether the session that is asked for, if one is, has begun
abbrev pub has_session : Config → List Act → View → Bool
has_session c past asked = stream_begun c past (stream_of asked)

-- the text of a view: the table; a row for each session on a line of time; a picture; the acts in words; the bytes that
-- were written in a direction; those that were read; and how a dump shows those that were read
abbrev pub ViewTold : Config → List Act → View → List ℕ → Type 0
ViewTold c past view.Table text = TableTold c past text
ViewTold c past view.Timeline text = TimelineTold c past text
ViewTold c past view.Picture text = IsPicture c past text
ViewTold c past view.Acts text = text ≡ acts_text past
ViewTold c past (view.Written stream) text = text ≡ put past (output c stream.session stream.way)
ViewTold c past (view.Read stream) text = text ≡ got past (input c stream.session stream.way)
ViewTold c past (view.Text stream) text = text ≡ dumped dumps.Text stream.way past (input c stream.session stream.way)
ViewTold c past (view.Hex stream) text = text ≡ dumped dumps.Hex stream.way past (input c stream.session stream.way)

-- but for the bytes of a direction, all that is shown is printable
abbrev pub IsPlain : View → List ℕ → Type 0
IsPlain (view.Written stream) text = Unit {0}
IsPlain (view.Read stream) text = Unit {0}
IsPlain other text = IsPrintable text

-- the text of a view, where the session that is asked for has begun
pub record ViewShown (c : Config) (past : List Act) (asked : View) (text : List ℕ) : Type 0 where
  pub begun : has_session c past asked ≡ true
  pub told : ViewTold c past asked text
  pub plain : IsPlain asked text

-- what holds where there is nothing to be shown; want of memory has no further cause
abbrev pub OnFault : (Unshown → Type 0) → ViewFault → Type 0
OnFault why (faults.Unshown unshown) = why unshown
OnFault why faults.Memory = Unit {0}

-- why nothing is shown of these acts: the session that is asked for hasn't begun
abbrev pub WhyUnshownOf : Config → List Act → View → Unshown → Type 0
WhyUnshownOf c past asked NoSession = has_session c past asked ≡ false
WhyUnshownOf c past asked other = ⊥

-- the text is that of these acts, as they are read from it
abbrev pub Reads : List ℕ → List Act → Type 0
Reads text history = IsTextOf text history × (history ≡ kept history)

-- why there is no journal
abbrev pub WhyNoJournal : List ℕ → Unshown → Type 0
WhyNoJournal text (BadLine number) = IsFirstBadLine text number
WhyNoJournal text other = ⊥

-- the text of a view of the journal that a text spells, of a run of this command
abbrev pub IsViewBy : Config → List ℕ → View → List ℕ → Type 0
IsViewBy c text asked shown = (history : List Act) × Reads text history × ViewShown c history asked shown

-- why nothing is shown of a text by this command
abbrev pub WhyUnshownBy : Config → List ℕ → View → Unshown → Type 0
WhyUnshownBy c text asked (BadLine number) = IsFirstBadLine text number
WhyUnshownBy c text asked NoSession = (history : List Act) × Reads text history × (has_session c history asked ≡ false)
WhyUnshownBy c text asked other = ⊥

-- the same, of a run that was started with these words
pub record IsViewOf (asked : View) (words : List (List ℕ)) (text shown : List ℕ) : Type 0 where
  pub c : Config
  pub short : length text ≤ longest_text
  pub made : command words ≡ Ok (Relay c)
  pub right : IsViewBy c text asked shown

-- why nothing is shown of a text: of the causes that stand together its length comes first, then the words, then the
-- lines, then the session
abbrev pub WhyUnshown : View → List (List ℕ) → List ℕ → Unshown → Type 0
WhyUnshown asked words text TooLong = longest_text < length text
WhyUnshown asked words text BadWords = (length text ≤ longest_text) × MakesNoRelay words
WhyUnshown asked words text other =
    (length text ≤ longest_text) × (c : Config) × (command words ≡ Ok (Relay c)) × WhyUnshownBy c text asked other
