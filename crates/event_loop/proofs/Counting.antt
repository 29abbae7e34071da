-- What is counted of the reads of a session stays while others act, and is nothing before it begins.
use Rattle.std.proofs.Common.{◌≡◌, refl, sym, ap, ◌∙◌, ℕ, ◌-◌, ◌^◌, ◌<◌, ◌≤◌, min, Bool, true, false, ◌&&◌, nat_lt, List, [], ◌∷◌, length, is_none, arith}
use Rattle.std.proofs.lemmas.Bool.{and_parts, ltb-true}
use Rattle.relay_model.specs.declared.places.Side.{Side}
use Rattle.relay_model.specs.declared.places.Place.{Place}
use Rattle.relay_model.specs.declared.commands.Config.{Config}
use Rattle.relay_model.specs.declared.acts.Act.{Act}
use Rattle.relay_model.specs.declared.acts.Act.TheVariants as acts
use Rattle.relay_model.specs.Places.{same_place}
use Rattle.relay_model.specs.Choices.{joined, one_more}
use Rattle.relay_model.specs.Configs.{has_fork, input, way_from}
use Rattle.relay_model.specs.History.{got}
use Rattle.relay_model.specs.Sessions.{admitted, holds, is_admission, live}
use Rattle.relay_model.specs.Openings.{ready}
use Rattle.relay_model.specs.Cause.{cause}
use Rattle.relay_model.specs.May.{Legal, MayAsk}
use Rattle.relay_model.specs.Frames.{IsForeign, is_at, reads_bytes}
use Rattle.relay_laws.proofs.PlaceLemmas.{same_place_equal}
use Rattle.relay_laws.proofs.OwnThings.{input_own}
use Rattle.relay_laws.proofs.Holdings.{moves_running}
use Rattle.session_driver.specs.Dumpers.{Counted, counted_at}
use Rattle.session_driver.specs.declared.dumpers.Dumper.{Dumper}
use Rattle.session_driver.proofs.Counting.{unread_got}

-- ---- an act elsewhere

got_elsewhere : (act : Act) (past : List Act) (p : Place) → is_at act p ≡ false → got (act ∷ past) p ≡ got past p
got_elsewhere (acts.Read q bytes) past p e = ap (λ b. joined b (got past p) bytes) e
got_elsewhere act past p e = refl

same_got : (c : Config) (past since : List Act) (s : ℕ) (dumper dumper' : Dumper) → dumper' ≡ dumper → ((side : Side) → got since (input c s (way_from side)) ≡ got past (input c s (way_from side))) → Counted c past s dumper → Counted c since s dumper'
same_got c past since s dumper dumper' d same counted dumped side = ap (λ x. counted_at x side) d ∙ counted dumped side ∙ sym (ap (λ x. min (length x) (2 ^ 64 - 1)) (same side))

pub counted_kept : (c : Config) (act : Act) (past : List Act) (s : ℕ) (dumper : Dumper) → IsForeign c s act → Counted c past s dumper → Counted c (act ∷ past) s dumper
counted_kept c act past s dumper foreign counted = same_got c past (act ∷ past) s dumper dumper refl (λ side. got_elsewhere act past (input c s (way_from side)) (foreign (input c s (way_from side)) refl (input_own c s (way_from side)))) counted

-- an act that reads no bytes
pub counted_by : (c : Config) (act : Act) (past : List Act) (s : ℕ) (dumper dumper' : Dumper) → reads_bytes act ≡ false → dumper' ≡ dumper → Counted c past s dumper → Counted c (act ∷ past) s dumper'
counted_by c act past s dumper dumper' e d counted = same_got c past (act ∷ past) s dumper dumper' d (λ side. unread_got act past (input c s (way_from side)) e) counted

-- ---- a session that hasn't begun

-- what is read on is an input of a session that has begun
read_begun : (c : Config) (past : List Act) (p : Place) → has_fork c ≡ true → MayAsk c past p → p.session < admitted c past
read_begun c past p fork asks =
    let r = moves_running c past p.session (way_from p.side) asks.moving in
    let l = (and_parts (live c past p.session) (ready c past p.session) (and_parts (live c past p.session && ready c past p.session) (is_none (cause c past p.session)) r).0).0 in
    ltb-true p.session (admitted c past) (and_parts (nat_lt p.session (admitted c past)) (holds c past p.session) (rw fork at l)).0

grown : (b : Bool) (k m : ℕ) → one_more b k ≤ m → k ≤ m
grown true k m h = omega (arith, h)
grown false k m h = h

unread : (c : Config) (n : ℕ) (past : List Act) (p : Place) → has_fork c ≡ true → Legal c n past → admitted c past ≤ p.session → got past p ≡ []
unread c n [] p fork legal b = refl
unread c n (acts.Read q bytes ∷ past) p fork legal b = go (same_place q p) refl (unread c n past p fork legal.1 b)
  where
    go : (t : Bool) → same_place q p ≡ t → got past p ≡ [] → joined t (got past p) bytes ≡ []
    go true e ih =
        let x : q.session ≡ p.session = ap (λ (y : Place). y.session) (same_place_equal q p e) in
        let y = read_begun c past q fork legal.0.1.asks in
        absurd (omega (arith, b, x, y))
    go false e ih = ih
unread c n (acts.Accepted q peer ∷ past) p fork legal b = unread c n past p fork legal.1 (grown (is_admission c q peer) (admitted c past) p.session b)
unread c n (act ∷ past) p fork legal b = unread c n past p fork legal.1 b

-- the next session has read nothing when its peer comes
pub counted_first : (c : Config) (n : ℕ) (past : List Act) (act : Act) (s : ℕ) (dumper : Dumper) → has_fork c ≡ true → Legal c n past → s ≡ admitted c past → reads_bytes act ≡ false → ((side : Side) → counted_at dumper side ≡ 0) → Counted c (act ∷ past) s dumper
counted_first c n past act s dumper fork legal is e none dumped side =
    let w = way_from side in
    let nothing : got past (input c s w) ≡ [] = unread c n past (input c s w) fork legal (omega (arith, is)) in
    none side ∙ sym (ap (λ x. min (length x) (2 ^ 64 - 1)) (unread_got act past (input c s w) e ∙ nothing))
