-- What the program does with what a source gives.
use Rattle.std.specs.Prelude.{◌≡◌, ℕ, ◌++◌, List, [], codes, Option, option_map, IfSome}
use Rattle.std.specs.Fmt.{decimal}
use Rattle.port_trait.specs.{Rose, Loses}
use Rattle.std.specs.Io.KnownBytes.{Consumes, Appends, IsAtEnd}
use Rattle.relay_model.specs.{newline}
use Rattle.journal_report.specs.declared.views.View.{View}
use Rattle.journal_report.specs.declared.shown.Unshown.{Unshown}
use Rattle.journal_report.specs.declared.shown.Unshown.TheVariants.{TooLong, BadWords, BadLine, NoSession}
use Rattle.journal_report.specs.Shown.{IsViewOf, WhyUnshown}

-- the line on what keeps a journal from being shown
abbrev pub line_of : Unshown → List ℕ
line_of TooLong = codes "no: too long" ++ newline
line_of BadWords = codes "no: words" ++ newline
line_of (BadLine number) = codes "no: line " ++ decimal number ++ newline
line_of NoSession = codes "no: session" ++ newline

-- all that a source gave was read, and a sink took the view of it and no more
pub record Shows (asked : View) (words : List (List ℕ)) (left_before left : Option (List ℕ)) (ends_before ends : ℕ) (took_before took : Option (List ℕ)) : Type 0 where
  pub text : List ℕ
  pub shown : List ℕ
  pub gave : Loses left_before left text
  pub ended : Rose ends_before ends × IfSome left (λ rest. rest ≡ [])
  pub right : IsViewOf asked words text shown
  pub said : took ≡ option_map (λ all. all ++ shown) took_before

-- the same of a reader and a writer of std beneath the source and the sink, where their bytes are known
pub record ShowsBeneath (asked : View) (words : List (List ℕ)) (rest_before rest holds_before holds : Option (List ℕ)) : Type 0 where
  pub text : List ℕ
  pub shown : List ℕ
  pub gave : Consumes rest_before rest text
  pub ended : IsAtEnd rest
  pub right : IsViewOf asked words text shown
  pub said : Appends holds_before holds shown

-- a sink took one line on why nothing is shown of what a source gave, and no more
pub record Refuses (asked : View) (words : List (List ℕ)) (left_before left : Option (List ℕ)) (took_before took : Option (List ℕ)) : Type 0 where
  pub text : List ℕ
  pub unshown : Unshown
  pub gave : Loses left_before left text
  pub why : WhyUnshown asked words text unshown
  pub said : took ≡ option_map (λ all. all ++ line_of unshown) took_before

-- the same of a reader and a writer of std beneath
pub record RefusesBeneath (asked : View) (words : List (List ℕ)) (rest_before rest holds_before holds : Option (List ℕ)) : Type 0 where
  pub text : List ℕ
  pub unshown : Unshown
  pub gave : Consumes rest_before rest text
  pub why : WhyUnshown asked words text unshown
  pub said : Appends holds_before holds (line_of unshown)
