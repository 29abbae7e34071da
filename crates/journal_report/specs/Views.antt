-- What the first words of the program ask for.
use Rattle.std.specs.Prelude.{ℕ, ◌^◌, Bool, ◌&&◌, nat_le, nat_lt, List, [], ◌∷◌, length, codes, bytes_eq, nat_eq, Option, Some, None, option_map, if◌then◌else◌}
use Rattle.std.specs.List.{starts_with}
use Rattle.std.specs.Str.{all_ascii_digits}
use Rattle.std.specs.Str.Parse.{digits_value}
use Rattle.relay_model.specs.{Way}
use Rattle.relay_model.specs.declared.places.Way.TheVariants.{LeftToRight, RightToLeft}
use Rattle.journal_report.specs.declared.views.ViewedStream.{ViewedStream}
use Rattle.journal_report.specs.declared.views.View.{View}
use Rattle.journal_report.specs.declared.views.View.TheVariants as view

-- the value, where the test passes
abbrev pub only_if : {A : Type 0} → Bool → A → Option A
only_if test value = if test then Some value else None

-- the number that digits alone spell, where it has 64 bits
abbrev pub value_in : List ℕ → Option ℕ
value_in digits = only_if (all_ascii_digits digits && nat_le 1 (length digits) && nat_lt (digits_value 10 digits) (2 ^ 64)) (digits_value 10 digits)

-- a number, where it may be that of a session
abbrev pub session_in : Option ℕ → Option ℕ
session_in None = None
session_in (Some number) = only_if (nat_lt number (2 ^ 32)) number

-- the number of a session that a word spells
abbrev pub number_in : List ℕ → Option ℕ
number_in digits = session_in (value_in digits)

-- the direction that a word names
abbrev pub way_in : List ℕ → Option Way
way_in word =
    if bytes_eq word (codes "right") then Some LeftToRight
    else (if bytes_eq word (codes "left") then Some RightToLeft else None)

-- a direction of a session, where there are both
abbrev pub stream_of : Option ℕ → Option Way → Option ViewedStream
stream_of None way = None
stream_of (Some session) None = None
stream_of (Some session) (Some way) = Some (record { session = session; way = way })

-- the direction of a session that two words name
abbrev pub stream_in : List ℕ → List ℕ → Option ViewedStream
stream_in session way = stream_of (number_in session) (way_in way)

-- the view of this name on a direction
abbrev pub view_in : List ℕ → ViewedStream → Option View
view_in name stream =
    if bytes_eq name (codes "--bytes") then Some (view.Written stream)
    else (if bytes_eq name (codes "--text") then Some (view.Text stream)
    else (if bytes_eq name (codes "--hex") then Some (view.Hex stream) else None))

-- that view, and the words behind
abbrev pub viewed : List ℕ → Option ViewedStream → List (List ℕ) → Option (View × List (List ℕ))
viewed name None rest = None
viewed name (Some stream) rest = option_map (λ asked. (asked, rest)) (view_in name stream)

-- the view of this name on the direction of a session that the next two words name, and the words behind them
abbrev pub stream_view_in : List ℕ → List (List ℕ) → Option (View × List (List ℕ))
stream_view_in name [] = None
stream_view_in name (session ∷ []) = None
stream_view_in name (session ∷ way ∷ rest) = viewed name (stream_in session way) rest

-- the view that the first words name, and the words behind them; without one it is the table
abbrev pub named_view_in : List (List ℕ) → Option (View × List (List ℕ))
named_view_in [] = None
named_view_in (name ∷ rest) =
    if bytes_eq name (codes "--timeline") then Some (view.Timeline, rest)
    else (if bytes_eq name (codes "--svg") then Some (view.Picture, rest)
    else (if bytes_eq name (codes "--acts") then Some (view.Acts, rest)
    else (if starts_with nat_eq name (codes "--") then stream_view_in name rest
    else Some (view.Table, name ∷ rest))))

-- the words behind a first word `--read`
abbrev pub behind_read_in : List (List ℕ) → Option (List (List ℕ))
behind_read_in [] = None
behind_read_in (name ∷ rest) = if bytes_eq name (codes "--read") then Some rest else None

-- the bytes that were read in place of those that were written; no other view has both
abbrev pub read_instead : Option (View × List (List ℕ)) → Option (View × List (List ℕ))
read_instead None = None
read_instead (Some (view.Written stream, rest)) = Some (view.Read stream, rest)
read_instead (Some (other, rest)) = None

-- the same, where the words behind ask for it
abbrev pub read_behind : View → List (List ℕ) → Option (List (List ℕ)) → Option (View × List (List ℕ))
read_behind (view.Written stream) rest (Some behind) = Some (view.Read stream, behind)
read_behind other rest behind = Some (other, rest)

-- a view, and the words behind it, of which the first may be `--read`
abbrev pub asked_plainly : Option (View × List (List ℕ)) → Option (View × List (List ℕ))
asked_plainly None = None
asked_plainly (Some (asked, rest)) = read_behind asked rest (behind_read_in rest)

-- what is asked by these words, and the words behind: `--read`, before `--bytes` or behind it, asks for the bytes that
-- were read in place of those that were written
abbrev pub asked_in : List (List ℕ) → Option (View × List (List ℕ))
asked_in words = asked_by words (behind_read_in words)
  where
    asked_by : List (List ℕ) → Option (List (List ℕ)) → Option (View × List (List ℕ))
    asked_by words None = asked_plainly (named_view_in words)
    asked_by words (Some rest) = read_instead (named_view_in rest)
