-- A text has one verdict.
use Rattle.std.proofs.Common.{◌≡◌, ℕ, suc, ◌+◌, ◌<◌, ◌≤◌, List, [], ◌∷◌, ◌++◌, length, drop, refl, ap, sym, ◌∙◌, subst, inl, inr, append_assoc, arith}
use Rattle.std.specs.Prelude.{Ok}
use Rattle.std.proofs.lemmas.List.{length-append}
use Rattle.std.proofs.lemmas.Bool.{cases_order}
use Rattle.std.proofs.Math.Seq.{drop-append_seam}
use Rattle.relay_model.specs.declared.commands.Config.{Config}
use Rattle.relay_model.specs.declared.acts.Act.{Act}
use Rattle.relay_model.specs.May.{May, Legal}
use Rattle.relay_model.specs.Laws.{PrefixesAreLegal}
use Rattle.journal_text.specs.Texts.{IsTextOf, IsFirstBadLine, kept}
use Rattle.cmd_words.specs.declared.commands.Command.TheVariants.{Relay}
use Rattle.cmd_words.specs.Commands.{command}
use Rattle.relay_audit.specs.declared.verdicts.Verdict.{Verdict}
use Rattle.relay_audit.specs.declared.verdicts.Verdict.TheVariants.{Yes, BadLine, BadWords, Illegal}
use Rattle.relay_audit.specs.Judging.{IsFirstIllegal}
use Rattle.relay_audit.specs.Verdicts.{Reads, IsVerdictOn, IsVerdictFor, IsVerdictOf}

-- what is known of texts and of legal histories
pub record Known : Type 0 where
  pub one_history : (text : List ℕ) (acts others : List Act) → IsTextOf text acts → IsTextOf text others → kept acts ≡ kept others
  pub no_bad_line : (text : List ℕ) (acts : List Act) (number : ℕ) → IsTextOf text acts → ¬ (IsFirstBadLine text number)
  pub one_line : (text : List ℕ) (number other : ℕ) → IsFirstBadLine text number → IsFirstBadLine text other → number ≡ other
  pub prefixes : PrefixesAreLegal

-- the shorter of two ends of a list is an end of the longer
end_of : (before later tail whole : List Act) → before ++ tail ≡ later ++ whole → length tail ≤ length whole → (j : ℕ) × (drop j whole ≡ tail)
end_of before [] tail whole agree short = (length before, ap (drop (length before)) (sym agree) ∙ drop-append_seam before tail)
end_of [] (y ∷ later) tail whole agree short =
    let counts : length tail ≡ length ((y ∷ later) ++ whole) = ap length agree in
    let sum : length ((y ∷ later) ++ whole) ≡ suc (length later) + length whole = length-append (y ∷ later) whole in
    absurd (omega (arith, counts, sum))
end_of (x ∷ before) (y ∷ later) tail whole agree short =
    let rest : before ++ tail ≡ later ++ whole = cc in
    end_of before later tail whole rest short

-- an act that may not come isn't the newest of the end of a legal history
not_in_legal : Known → (c : Config) (n : ℕ) (before later past whole : List Act) (act : Act) → before ++ act ∷ past ≡ later ++ whole → length (act ∷ past) ≤ length whole → Legal c n whole → ¬ (May c n past act) → ⊥
not_in_legal known c n before later past whole act agree short legal breaks =
    let cut : (j : ℕ) × (drop j whole ≡ act ∷ past) = end_of before later (act ∷ past) whole agree short in
    let P : List Act → Type 0 = λ list. Legal c n list in
    let tail : Legal c n (act ∷ past) = subst P cut.1 (known.prefixes c n cut.0 whole legal) in
    breaks tail.0

-- a history with an act that may not come isn't legal
illegal_is_not_legal : Known → (c : Config) (n : ℕ) (history : List Act) (place : ℕ) → IsFirstIllegal c n history place → Legal c n history → ⊥
illegal_is_not_legal known c n history place found legal =
    let counts : length history ≡ length (found.later ++ found.act ∷ found.past) = ap length found.whole in
    let sum : length (found.later ++ found.act ∷ found.past) ≡ length found.later + length (found.act ∷ found.past) = length-append found.later (found.act ∷ found.past) in
    let short : length (found.act ∷ found.past) ≤ length history = omega (arith, counts, sum) in
    not_in_legal known c n found.later [] found.past history found.act (sym found.whole) short legal found.breaks

not_before : Known → (c : Config) (n : ℕ) (history : List Act) (place other : ℕ) → IsFirstIllegal c n history place → IsFirstIllegal c n history other → place < other → ⊥
not_before known c n history place other one two earlier =
    let first : place ≡ suc (length one.past) = one.counted in
    let second : other ≡ suc (length two.past) = two.counted in
    let short : suc (length one.past) ≤ length two.past = omega (arith, first, second) in
    not_in_legal known c n one.later (two.later ++ two.act ∷ []) one.past two.past one.act (sym one.whole ∙ two.whole ∙ sym (append_assoc two.later (two.act ∷ []) two.past)) short two.before one.breaks

one_illegal : Known → (c : Config) (n : ℕ) (history : List Act) (place other : ℕ) → IsFirstIllegal c n history place → IsFirstIllegal c n history other → place ≡ other
one_illegal known c n history place other one two =
    elim (cases_order place other) [
      | inl same ↦ same
      | inr sides ↦ elim sides [
        | inl earlier ↦ absurd (not_before known c n history place other one two earlier)
        | inr after ↦ absurd (not_before known c n history other place two one after)
      ]
    ]

-- two verdicts on one history
on_one : Known → (c : Config) (n : ℕ) (history : List Act) (v w : Verdict) → IsVerdictOn c n history v → IsVerdictOn c n history w → v ≡ w
on_one known c n history (Yes acts held) (Yes others kept) f g =
    let counts : acts ≡ others = f.1 ∙ sym g.1 in
    let holds : held ≡ kept = f.2 ∙ sym g.2 in
    cc
on_one known c n history (Yes acts held) (Illegal act) f g = absurd (illegal_is_not_legal known c n history act g f.0)
on_one known c n history (Illegal act) (Yes acts held) f g = absurd (illegal_is_not_legal known c n history act f g.0)
on_one known c n history (Illegal act) (Illegal other) f g = ap Illegal (one_illegal known c n history act other f g)
on_one known c n history BadWords w f g = absurd f
on_one known c n history (BadLine number) w f g = absurd f
on_one known c n history v BadWords f g = absurd g
on_one known c n history v (BadLine number) f g = absurd g

-- two histories of one text
one_read : Known → (text : List ℕ) (history other : List Act) → Reads text history → Reads text other → history ≡ other
one_read known text history other one two = one.1 ∙ known.one_history text history other one.0 two.0 ∙ sym two.1

abbrev HasHistory : Config → ℕ → List ℕ → Verdict → Type 0
HasHistory c n text v = (history : List Act) × Reads text history × IsVerdictOn c n history v

by_history : Known → (c : Config) (n : ℕ) (text : List ℕ) (v w : Verdict) → HasHistory c n text v → HasHistory c n text w → v ≡ w
by_history known c n text v w f g =
    let P : List Act → Type 0 = λ list. IsVerdictOn c n list w in
    on_one known c n f.0 v w f.2 (subst P (one_read known text g.0 f.0 g.1 f.1) g.2)

not_bad : Known → (c : Config) (n : ℕ) (text : List ℕ) (number : ℕ) (v : Verdict) → IsFirstBadLine text number → HasHistory c n text v → ⊥
not_bad known c n text number v line f = known.no_bad_line text f.0 number f.1.0 line

-- two verdicts on one text
on_text : Known → (c : Config) (n : ℕ) (text : List ℕ) (v w : Verdict) → IsVerdictFor c n text v → IsVerdictFor c n text w → v ≡ w
on_text known c n text (BadLine number) (BadLine other) f g = ap BadLine (known.one_line text number other f g)
on_text known c n text (BadLine number) (Yes acts held) f g = absurd (not_bad known c n text number (Yes acts held) f g)
on_text known c n text (BadLine number) (Illegal act) f g = absurd (not_bad known c n text number (Illegal act) f g)
on_text known c n text (BadLine number) BadWords f g = absurd g.2
on_text known c n text (Yes acts held) (BadLine number) f g = absurd (not_bad known c n text number (Yes acts held) g f)
on_text known c n text (Illegal act) (BadLine number) f g = absurd (not_bad known c n text number (Illegal act) g f)
on_text known c n text BadWords w f g = absurd f.2
on_text known c n text (Yes acts held) BadWords f g = absurd g.2
on_text known c n text (Illegal act) BadWords f g = absurd g.2
on_text known c n text (Yes acts held) (Yes others kept) f g = by_history known c n text (Yes acts held) (Yes others kept) f g
on_text known c n text (Yes acts held) (Illegal act) f g = by_history known c n text (Yes acts held) (Illegal act) f g
on_text known c n text (Illegal act) (Yes acts held) f g = by_history known c n text (Illegal act) (Yes acts held) f g
on_text known c n text (Illegal act) (Illegal other) f g = by_history known c n text (Illegal act) (Illegal other) f g

abbrev HasRelay : List (List ℕ) → ℕ → List ℕ → Verdict → Type 0
HasRelay words n text v = (c : Config) × (command words ≡ Ok (Relay c)) × IsVerdictFor c n text v

by_relay : Known → (words : List (List ℕ)) (n : ℕ) (text : List ℕ) (v w : Verdict) → HasRelay words n text v → HasRelay words n text w → v ≡ w
by_relay known words n text v w f g =
    let agree : g.0 ≡ f.0 = cc (g.1, f.1) in
    let P : Config → Type 0 = λ c. IsVerdictFor c n text w in
    on_text known f.0 n text v w f.2 (subst P agree g.2)

pub one_verdict : Known → (words : List (List ℕ)) (n : ℕ) (text : List ℕ) (v w : Verdict) → IsVerdictOf words n text v → IsVerdictOf words n text w → v ≡ w
one_verdict known words n text BadWords BadWords f g = refl
one_verdict known words n text BadWords (Yes acts held) f g = absurd (f g.0 g.1)
one_verdict known words n text BadWords (BadLine number) f g = absurd (f g.0 g.1)
one_verdict known words n text BadWords (Illegal act) f g = absurd (f g.0 g.1)
one_verdict known words n text (Yes acts held) BadWords f g = absurd (g f.0 f.1)
one_verdict known words n text (BadLine number) BadWords f g = absurd (g f.0 f.1)
one_verdict known words n text (Illegal act) BadWords f g = absurd (g f.0 f.1)
one_verdict known words n text (Yes acts held) (Yes others kept) f g = by_relay known words n text (Yes acts held) (Yes others kept) f g
one_verdict known words n text (Yes acts held) (BadLine number) f g = by_relay known words n text (Yes acts held) (BadLine number) f g
one_verdict known words n text (Yes acts held) (Illegal act) f g = by_relay known words n text (Yes acts held) (Illegal act) f g
one_verdict known words n text (BadLine number) (Yes acts held) f g = by_relay known words n text (BadLine number) (Yes acts held) f g
one_verdict known words n text (BadLine number) (BadLine other) f g = by_relay known words n text (BadLine number) (BadLine other) f g
one_verdict known words n text (BadLine number) (Illegal act) f g = by_relay known words n text (BadLine number) (Illegal act) f g
one_verdict known words n text (Illegal act) (Yes acts held) f g = by_relay known words n text (Illegal act) (Yes acts held) f g
one_verdict known words n text (Illegal act) (BadLine number) f g = by_relay known words n text (Illegal act) (BadLine number) f g
one_verdict known words n text (Illegal act) (Illegal other) f g = by_relay known words n text (Illegal act) (Illegal other) f g

-- a verdict on a text is one on the text and the words that make the relay
pub verdict_of_relay : (words : List (List ℕ)) (n : ℕ) (text : List ℕ) (c : Config) (v : Verdict) → command words ≡ Ok (Relay c) → IsVerdictFor c n text v → IsVerdictOf words n text v
verdict_of_relay words n text c BadWords relay f = absurd f.2
verdict_of_relay words n text c (BadLine number) relay f = (c, relay, f)
verdict_of_relay words n text c (Yes acts held) relay f = (c, relay, f)
verdict_of_relay words n text c (Illegal act) relay f = (c, relay, f)
