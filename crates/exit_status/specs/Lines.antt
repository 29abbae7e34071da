-- What is said of an outcome on standard error, and what usage and version say.
use Rattle.std.specs.Prelude.{ℕ, List, [], ◌∷◌, ◌++◌, ◌==◌, codes, decimal, if◌then◌else◌}
use Rattle.relay_model.specs.{Side, Refused, Refusal}
use Rattle.relay_model.specs.declared.places.Side.TheVariants.{Left, Right}
use Rattle.relay_model.specs.declared.refusals.Refusal.TheVariants as refusal
use Rattle.exit_status.specs.declared.outcomes.Op.{Op}
use Rattle.exit_status.specs.declared.outcomes.Op.TheVariants.{Reading, Writing}
use Rattle.exit_status.specs.declared.outcomes.Outcome.{Outcome}
use Rattle.exit_status.specs.declared.outcomes.Outcome.TheVariants as outcome

-- the byte that ends a line
abbrev pub newline : List ℕ
newline = 10 ∷ []

-- the word for a side
abbrev pub side_text : Side → List ℕ
side_text Left = codes "left"
side_text Right = codes "right"

-- the word for what failed
abbrev pub op_text : Op → List ℕ
op_text Reading = codes "read"
op_text Writing = codes "write"

-- the two digits by which a refusal is known
abbrev pub refusal_code : Refusal → List ℕ
refusal_code (refusal.Unclosed at) = codes "01"
refusal_code (refusal.LoneBackslash at) = codes "02"
refusal_code refusal.TooLong = codes "03"
refusal_code refusal.Empty = codes "05"
refusal_code (refusal.TooManyDuals at) = codes "06"
refusal_code (refusal.EmptyOption at) = codes "07"
refusal_code (refusal.UnknownOption place) = codes "08"
refusal_code (refusal.LeftOutOption place) = codes "09"
refusal_code (refusal.WrongGroup place) = codes "10"
refusal_code (refusal.BadValue place) = codes "11"
refusal_code refusal.UnknownKind = codes "12"
refusal_code refusal.LeftOutKind = codes "13"
refusal_code (refusal.Parameters want have) = codes "14"
refusal_code (refusal.BadParameter place) = codes "15"
refusal_code refusal.WrongUse = codes "16"
refusal_code refusal.ForkPlace = codes "17"
refusal_code refusal.UnknownFlag = codes "18"
refusal_code refusal.NoValue = codes "19"
refusal_code refusal.BadFlagValue = codes "20"
refusal_code (refusal.AddressCount have) = codes "21"
refusal_code refusal.NoDirection = codes "22"

-- what is wrong, in words
unfoldable pub refusal_text : Refusal → List ℕ
refusal_text (refusal.Unclosed at) = codes "unclosed at " ++ decimal at
refusal_text (refusal.LoneBackslash at) = codes "lone backslash at " ++ decimal at
refusal_text refusal.TooLong = codes "address too long"
refusal_text refusal.Empty = codes "empty address"
refusal_text (refusal.TooManyDuals at) = codes "too many !! at " ++ decimal at
refusal_text (refusal.EmptyOption at) = codes "empty option at " ++ decimal at
refusal_text (refusal.UnknownOption place) = codes "unknown option " ++ decimal place
refusal_text (refusal.LeftOutOption place) = codes "left-out option " ++ decimal place
refusal_text (refusal.WrongGroup place) = codes "option " ++ (decimal place ++ codes " of another group")
refusal_text (refusal.BadValue place) = codes "bad value of option " ++ decimal place
refusal_text refusal.UnknownKind = codes "unknown address kind"
refusal_text refusal.LeftOutKind = codes "address kind left out"
refusal_text (refusal.Parameters want have) =
    codes "parameters want " ++ (decimal want ++ (codes " have " ++ decimal have))
refusal_text (refusal.BadParameter place) = codes "bad parameter " ++ decimal place
refusal_text refusal.WrongUse = codes "wrong use"
refusal_text refusal.ForkPlace = codes "fork not here"
refusal_text refusal.UnknownFlag = codes "unknown flag"
refusal_text refusal.NoValue = codes "flag without value"
refusal_text refusal.BadFlagValue = codes "bad flag value"
refusal_text (refusal.AddressCount have) = codes "addresses want 2 have " ++ decimal have
refusal_text refusal.NoDirection = codes "no direction"

-- the label and the number, or nothing for 0
unfoldable pub numbered : List ℕ → ℕ → List ℕ
numbered label number = if number == 0 then [] else label ++ decimal number

-- the code, the word and the half where there are any, and what is wrong
unfoldable pub refused_line : Refused → List ℕ
refused_line r =
    codes "socat: E" ++ (refusal_code r.why ++ (numbered (codes " word ") r.word
    ++ (numbered (codes " half ") r.half ++ (codes ": " ++ (refusal_text r.why ++ newline)))))

-- the line of an outcome; none where all went as asked
unfoldable pub line : Outcome → List ℕ
line (outcome.Ended why) = []
line outcome.Told = []
line outcome.Loaded = []
line (outcome.Refused refused) = refused_line refused
line (outcome.OpenFailed side attempts) =
    codes "socat: open failed on the " ++ (side_text side ++ (codes " after " ++ (decimal attempts
    ++ (codes " attempts" ++ newline))))
line (outcome.ListenFailed attempts) =
    codes "socat: listen failed after " ++ (decimal attempts ++ (codes " attempts" ++ newline))
line outcome.AcceptFailed = codes "socat: accept failed" ++ newline
line (outcome.Faulted place op) =
    codes "socat: " ++ (op_text op ++ (codes " failed on the " ++ (side_text place.side ++ newline)))
line (outcome.Stopped turns) =
    codes "socat: stopped after " ++ (decimal turns ++ (codes " turns" ++ newline))
line outcome.Memory = codes "socat: out of memory" ++ newline

-- what `-h` prints
unfoldable pub usage : List ℕ
usage =
    codes "usage: socat [options] <address> <address>" ++ (newline
    ++ (codes "options: -b<size> -t<time> -T<time> -u -U -s -v -x -g -d -h -V" ++ newline))

-- what `-V` prints
unfoldable pub version : List ℕ
version = codes "socat relay, profile of 1.7" ++ newline
