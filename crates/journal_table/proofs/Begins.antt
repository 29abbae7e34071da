-- The sessions that have begun are just those that have a moment at which they began.
use Rattle.std.proofs.Common.{◌≡◌, ◌≢◌, ℕ, suc, ◌<◌, ◌≤◌, Bool, true, false, ◌&&◌, ◌==◌, List, [], ◌∷◌, refl, sym, ◌∙◌, arith}
use Rattle.std.specs.Prelude.{nat_lt, Option, Some, None, is_some, if◌then◌else◌}
use Rattle.std.proofs.lemmas.Bool.{eqb-true, eqb-false, lt-ltb, le-ltb, ltb-true, ltb-false}
use Rattle.relay_model.specs.declared.commands.Config.{Config}
use Rattle.relay_model.specs.declared.acts.Act.{Act}
use Rattle.relay_model.specs.declared.acts.Act.TheVariants.{Turn, Opened, OpenLater, OpenFailed, Listening, ListenFailed, Accepted, NoPeer, AcceptFailed, Read, ReadEmpty, ReadEnd, ReadNotYet, ReadFault, Wrote, WriteNotYet, WriteFault, Shut, ShutFault, Closed, Reaped, Note, NoteFault}
use Rattle.relay_model.specs.Choices.{one_more}
use Rattle.relay_model.specs.Configs.{has_fork}
use Rattle.relay_model.specs.History.{now}
use Rattle.relay_model.specs.Sessions.{is_admission, admitted}
use Rattle.journal_table.specs.Visits.{admitted_at}
use Rattle.journal_table.specs.Rows.{ASessionBeginsOnce}

below_or : (n s : ℕ) → n ≤ s → (n ≡ s → ⊥) → suc n ≤ s
below_or n s h apart = let x : n ≢ s = apart in omega arith

-- one more session, or none
same_but : (n s : ℕ) → (n == s) ≡ false → nat_lt s n ≡ nat_lt s (suc n)
same_but n s apart = go (nat_lt s n) refl
  where
    go : (b : Bool) → nat_lt s n ≡ b → nat_lt s n ≡ nat_lt s (suc n)
    go true e = let h : s < n = ltb-true s n e in let k : s < suc n = omega arith in e ∙ sym (lt-ltb s (suc n) k)
    go false e =
        let h : n ≤ s = ltb-false s n e in
        let k : suc n ≤ s = below_or n s h (eqb-false n s apart) in
        e ∙ sym (le-ltb s (suc n) k)

step : (b : Bool) (n s m : ℕ) (o : Option ℕ) → is_some o ≡ nat_lt s n → is_some (if b && n == s then Some m else o) ≡ nat_lt s (one_more b n)
step false n s m o h = h
step true n s m o h = at (n == s) refl
  where
    at : (e : Bool) → (n == s) ≡ e → is_some (if e then Some m else o) ≡ nat_lt s (suc n)
    at true e = let same : n ≡ s = eqb-true n s e in let below : s < suc n = omega arith in sym (lt-ltb s (suc n) below)
    at false e = h ∙ same_but n s e

came : (c : Config) (past : List Act) (s : ℕ) → is_some (admitted_at c past s) ≡ nat_lt s (admitted c past)
came c [] s = let least : 0 ≤ s = omega arith in sym (le-ltb s 0 least)
came c (Accepted p peer ∷ past) s = step (is_admission c p peer) (admitted c past) s (now past) (admitted_at c past s) (came c past s)
came c (Turn until at ready stop ∷ past) s = came c past s
came c (Opened p ∷ past) s = came c past s
came c (OpenLater p ∷ past) s = came c past s
came c (OpenFailed p ∷ past) s = came c past s
came c (Listening p ∷ past) s = came c past s
came c (ListenFailed p ∷ past) s = came c past s
came c (NoPeer p ∷ past) s = came c past s
came c (AcceptFailed p ∷ past) s = came c past s
came c (Read p bytes ∷ past) s = came c past s
came c (ReadEmpty p ∷ past) s = came c past s
came c (ReadEnd p ∷ past) s = came c past s
came c (ReadNotYet p ∷ past) s = came c past s
came c (ReadFault p ∷ past) s = came c past s
came c (Wrote p bytes ∷ past) s = came c past s
came c (WriteNotYet p ∷ past) s = came c past s
came c (WriteFault p ∷ past) s = came c past s
came c (Shut p how ∷ past) s = came c past s
came c (ShutFault p how ∷ past) s = came c past s
came c (Closed p why ∷ past) s = came c past s
came c (Reaped p end ∷ past) s = came c past s
came c (Note bytes ∷ past) s = came c past s
came c (NoteFault bytes ∷ past) s = came c past s

above_none : (s : ℕ) → (s ≡ 0 → ⊥) → 1 ≤ s
above_none s apart = let x : s ≢ 0 = apart in omega arith

abbrev only_first : Bool → Option ℕ
only_first first = if first then Some 0 else None

alone : (s : ℕ) → is_some (only_first (s == 0)) ≡ nat_lt s 1
alone s = go (s == 0) refl
  where
    go : (b : Bool) → (s == 0) ≡ b → is_some (only_first b) ≡ nat_lt s 1
    go true e = let same : s ≡ 0 = eqb-true s 0 e in let below : s < 1 = omega arith in sym (lt-ltb s 1 below)
    go false e = sym (le-ltb s 1 (above_none s (eqb-false s 0 e)))

by_fork : (f : Bool) (n s : ℕ) (o : Option ℕ) → is_some o ≡ nat_lt s n → is_some (if f then o else only_first (s == 0)) ≡ nat_lt s (if f then n else 1)
by_fork true n s o h = h
by_fork false n s o h = alone s

pub a_session_begins_once : ASessionBeginsOnce
a_session_begins_once c past s = by_fork (has_fork c) (admitted c past) s (admitted_at c past s) (came c past s)
