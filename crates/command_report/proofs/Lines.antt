-- The line of a refusal is printable.
use Rattle.std.proofs.Common.{◌≡◌, ℕ, Bool, true, false, List, [], ◌∷◌, ◌++◌, refl}
use Rattle.std.specs.Prelude.{codes, decimal, ◌==◌, if◌then◌else◌}
use Rattle.relay_model.specs.declared.refusals.Refused.{Refused}
use Rattle.relay_model.specs.declared.refusals.Refusal.{Refusal}
use Rattle.relay_model.specs.declared.refusals.Refusal.TheVariants as refusal
use Rattle.exit_status.specs.declared.outcomes.Outcome.TheVariants as outcome
use Rattle.exit_status.specs.Lines.{refusal_code, refusal_text, numbered, refused_line, line, newline}
use Rattle.place_report.specs.Shown.{IsPrintable}
use Rattle.place_report.proofs.Printing.{append_printable, decimal_printable, either_printable}

code_printable : (why : Refusal) → IsPrintable (refusal_code why)
code_printable (refusal.Unclosed at) = refl
code_printable (refusal.LoneBackslash at) = refl
code_printable refusal.TooLong = refl
code_printable refusal.Empty = refl
code_printable (refusal.TooManyDuals at) = refl
code_printable (refusal.EmptyOption at) = refl
code_printable (refusal.UnknownOption place) = refl
code_printable (refusal.LeftOutOption place) = refl
code_printable (refusal.WrongGroup place) = refl
code_printable (refusal.BadValue place) = refl
code_printable refusal.UnknownKind = refl
code_printable refusal.LeftOutKind = refl
code_printable (refusal.Parameters want have) = refl
code_printable (refusal.BadParameter place) = refl
code_printable refusal.WrongUse = refl
code_printable refusal.ForkPlace = refl
code_printable refusal.UnknownFlag = refl
code_printable refusal.NoValue = refl
code_printable refusal.BadFlagValue = refl
code_printable (refusal.AddressCount have) = refl
code_printable refusal.NoDirection = refl

text_printable : (why : Refusal) → IsPrintable (refusal_text why)
unfolding refusal_text
text_printable (refusal.Unclosed at) = append_printable (codes "unclosed at ") (decimal at) refl (decimal_printable at)
text_printable (refusal.LoneBackslash at) = append_printable (codes "lone backslash at ") (decimal at) refl (decimal_printable at)
text_printable refusal.TooLong = refl
text_printable refusal.Empty = refl
text_printable (refusal.TooManyDuals at) = append_printable (codes "too many !! at ") (decimal at) refl (decimal_printable at)
text_printable (refusal.EmptyOption at) = append_printable (codes "empty option at ") (decimal at) refl (decimal_printable at)
text_printable (refusal.UnknownOption place) = append_printable (codes "unknown option ") (decimal place) refl (decimal_printable place)
text_printable (refusal.LeftOutOption place) = append_printable (codes "left-out option ") (decimal place) refl (decimal_printable place)
text_printable (refusal.WrongGroup place) =
    append_printable (codes "option ") (decimal place ++ codes " of another group") refl (append_printable (decimal place) (codes " of another group") (decimal_printable place) refl)
text_printable (refusal.BadValue place) = append_printable (codes "bad value of option ") (decimal place) refl (decimal_printable place)
text_printable refusal.UnknownKind = refl
text_printable refusal.LeftOutKind = refl
text_printable (refusal.Parameters want have) =
    append_printable (codes "parameters want ") (decimal want ++ (codes " have " ++ decimal have)) refl
    (append_printable (decimal want) (codes " have " ++ decimal have) (decimal_printable want)
    (append_printable (codes " have ") (decimal have) refl (decimal_printable have)))
text_printable (refusal.BadParameter place) = append_printable (codes "bad parameter ") (decimal place) refl (decimal_printable place)
text_printable refusal.WrongUse = refl
text_printable refusal.ForkPlace = refl
text_printable refusal.UnknownFlag = refl
text_printable refusal.NoValue = refl
text_printable refusal.BadFlagValue = refl
text_printable (refusal.AddressCount have) = append_printable (codes "addresses want 2 have ") (decimal have) refl (decimal_printable have)
text_printable refusal.NoDirection = refl

numbered_printable : (label : List ℕ) (number : ℕ) → IsPrintable label → IsPrintable (numbered label number)
unfolding numbered
numbered_printable label number p =
    either_printable (number == 0) [] (label ++ decimal number) refl (append_printable label (decimal number) p (decimal_printable number))

-- the line that is said of a refusal
pub refusal_printable : (r : Refused) → IsPrintable (line (outcome.Refused r))
unfolding line refused_line
refusal_printable r =
    let reason = refusal_text r.why ++ newline in
    let behind_half = codes ": " ++ reason in
    let behind_word = numbered (codes " half ") r.half ++ behind_half in
    let behind_code = numbered (codes " word ") r.word ++ behind_word in
    append_printable (codes "socat: E") (refusal_code r.why ++ behind_code) refl
    (append_printable (refusal_code r.why) behind_code (code_printable r.why)
    (append_printable (numbered (codes " word ") r.word) behind_word (numbered_printable (codes " word ") r.word refl)
    (append_printable (numbered (codes " half ") r.half) behind_half (numbered_printable (codes " half ") r.half refl)
    (append_printable (codes ": ") reason refl (append_printable (refusal_text r.why) newline (text_printable r.why) refl)))))
