-- The lines on an address, put together; and that each report ends with a line's end.
use Rattle.std.proofs.Common.{◌≡◌, ℕ, Bool, true, false, List, [], ◌∷◌, ◌++◌, refl, sym, ap, ◌∙◌, subst, append_assoc}
use Rattle.std.specs.Prelude.{decimal}
use Rattle.std.proofs.lemmas.List.{append-nil}
use Rattle.relay_model.specs.declared.places.Side.{Side}
use Rattle.relay_model.specs.declared.places.Side.TheVariants.{Right}
use Rattle.relay_model.specs.declared.commands.Config.{Config}
use Rattle.relay_model.specs.declared.commands.Target.{Target}
use Rattle.relay_model.specs.declared.commands.Address.{Address}
use Rattle.relay_model.specs.declared.commands.Address.TheVariants as addresses
use Rattle.relay_model.specs.Configs.{address, formed, way_from, way_to}
use Rattle.relay_model.specs.Dumps.{newline}
use Rattle.cmd_words.specs.declared.commands.Command.{Command}
use Rattle.cmd_words.specs.declared.commands.Command.TheVariants as commands
use Rattle.place_report.specs.Shown.{said, EndsLine}
use Rattle.place_report.specs.Places.{IsTold, use_line}
use Rattle.command_report.specs.Reports.{AreTold, AddressTold, RelayTold, Tells, ending, ending_words, ending_line}

-- a last line is put behind the others
pub with_last : (title used last text : List ℕ) (target : Target) → IsTold title target used [] text → IsTold title target used last (text ++ last)
with_last title used last text target h = record {
  kind = h.kind;
  options = h.options;
  told = ap (λ (whole : List ℕ). whole ++ last) (h.told ∙ append-nil (title ++ h.kind ++ newline ++ used ++ h.options));
  named = h.named;
}

-- the lines on an address that isn't dual
pub one_told : (title last before text : List ℕ) (target : Target) (r read w written : Bool) → IsTold title target (use_line r w) [] before → r ≡ read → w ≡ written → text ≡ before ++ last → IsTold title target (use_line read written) last text
one_told title last before text target r read w written h e f g =
    let P : List ℕ → Type 0 = λ (used : List ℕ). IsTold title target used last text in
    let here : P (use_line r w) = subst (λ (whole : List ℕ). IsTold title target (use_line r w) last whole) (sym g) (with_last title (use_line r w) last before target h) in
    subst P (ap (λ (b : Bool). use_line b w) e ∙ ap (λ (b : Bool). use_line read b) f) here

-- both halves, and the last line
pub both_told : (title last first second both text : List ℕ) (reading writing : Target) (r read w written : Bool) → IsTold (title ++ said ", to read from: ") reading (use_line r false) [] first → IsTold (title ++ said ", to write to: ") writing (use_line false w) [] second → r ≡ read → w ≡ written → both ≡ first ++ second → text ≡ both ++ last → AreTold title reading writing read written last text
both_told title last first second both text reading writing r read w written h k e f g i =
    let P : Bool → Type 0 = λ (b : Bool). IsTold (title ++ said ", to read from: ") reading (use_line b false) [] first in
    record {
      first = first;
      second = second ++ last;
      told = i ∙ ap (λ (whole : List ℕ). whole ++ last) g ∙ append_assoc first second last;
      reading_told = subst P e h;
      writing_told = one_told (title ++ said ", to write to: ") last second (second ++ last) writing false false w written k refl f refl;
    }

-- what stands in front changes no end
pub ends_behind : (front text : List ℕ) → EndsLine text → EndsLine (front ++ text)
ends_behind front text e = record {
  front = front ++ e.front;
  ends = ap (λ (rest : List ℕ). front ++ rest) e.ends ∙ sym (append_assoc front e.front newline);
}

ending_ends : (c : Config) (side : Side) → EndsLine (ending_line c side)
ending_ends c side =
    let words = ending_words (ending c side) in
    record {
      front = said "  the other's end: " ++ words;
      ends = sym (append_assoc (said "  the other's end: ") words newline);
    }

told_ends : (title used last text : List ℕ) (target : Target) → IsTold title target used last text → EndsLine last → EndsLine text
told_ends title used last text target h e =
    subst EndsLine (sym h.told) (ends_behind (title ++ h.kind ++ newline ++ used ++ h.options) last e)

address_ends : (title last text : List ℕ) (a : Address) (read written : Bool) → AddressTold title a read written last text → EndsLine last → EndsLine text
address_ends title last text (addresses.One single) read written h e = told_ends (title ++ said ": ") (use_line read written) last text single.target h e
address_ends title last text (addresses.Two reading writing) read written h e =
    subst EndsLine (sym h.told) (ends_behind h.first h.second (told_ends (title ++ said ", to write to: ") (use_line false written) last h.second writing.target h.writing_told e))

-- each report ends with a line's end
pub report_ends : (made : Command) (text : List ℕ) → Tells made text → EndsLine text
report_ends (commands.Relay c) text h =
    let right = address_ends (said "second address") (ending_line c Right) h.right (address c Right) (formed c (way_from Right)) (formed c (way_to Right)) h.right_told (ending_ends c Right) in
    subst EndsLine (sym h.told) (ends_behind (h.settings ++ newline ++ h.left ++ newline) h.right right)
report_ends commands.Usage text h = record { front = said "prints the usage on standard error, and opens nothing"; ends = h }
report_ends commands.Version text h = record { front = said "prints the version on standard error, and opens nothing"; ends = h }
report_ends (commands.Load number) text h = record { front = said "relays fifty sessions in memory, with bytes that the number " ++ decimal number ++ said " generates; opens nothing"; ends = h }
