-- The end of a run, once each session was cut or has heard the stop.
use Rattle.std.proofs.Common.{◌≡◌, refl, sym, ap, subst, ◌∙◌, ℕ, ◌+◌, ◌≤◌, true, List, ◌++◌, append_assoc, length-append, length, Option, Some, None, is_some, arith}
use Rattle.relay_model.specs.declared.commands.Config.{Config}
use Rattle.relay_model.specs.declared.acts.Act.{Act}
use Rattle.relay_model.specs.declared.acts.Why.{Why}
use Rattle.relay_model.specs.Readiness.{Listed}
use Rattle.relay_model.specs.History.{turns}
use Rattle.session_loop.specs.Ended.{HasRunEnded}
use Rattle.exit_status.specs.declared.outcomes.Outcome.{Outcome}
use Rattle.fork_table.specs.Tables.{row_of}
use Rattle.world_trait.specs.Seen.{Seen}
use Rattle.event_loop.specs.declared.all_sessions.Sessions.{Sessions}
use Rattle.event_loop.specs.declared.all_sessions.Row.{Row}
use Rattle.event_loop.specs.Closings.{LooksAtRows, rows_below}
use Rattle.event_loop.specs.Endings.{CutRow, CutsRows}
use Rattle.event_loop.specs.Turns.{AllHeard, HearsRow}
use Rattle.event_loop.specs.Vacated.{EndedAt, LeftAt}
use Rattle.event_loop.proofs.LivingRows.{same_rows_below}

same_cut : (made at : ℕ) (why : Why) (s : ℕ) (before after : Option Row) → CutRow made at why s before after → is_some before ≡ is_some after
same_cut made at why s None None h = refl
same_cut made at why s (Some old) (Some new) h = refl
same_cut made at why s None (Some new) h = absurd h
same_cut made at why s (Some old) None h = absurd h

same_heard : (made at : ℕ) (ready : Listed) (before after : Option Row) → HearsRow made at ready true before after → is_some before ≡ is_some after
same_heard made at ready None None h = refl
same_heard made at ready (Some old) (Some new) h = refl
same_heard made at ready None (Some new) h = absurd h
same_heard made at ready (Some old) None h = absurd h

-- one look at each session before, and no more looks than acts since
pub after_looks : (c : Config) (n : ℕ) (start now : Seen) (before : List Act) (first mid : Sessions) (answer : Outcome) (old ticks new : ℕ) → mid.made ≡ first.made → ((s : ℕ) → is_some (row_of first.table s) ≡ is_some (row_of mid.table s)) → LooksAtRows first old ticks → LeftAt c n start now before mid answer ticks new → EndedAt c n start now before first.made answer old new
after_looks c n start now before first mid answer old ticks new made same looks l = record {
  made = l.made;
  ended = l.ended;
  turned_is = l.turned_is ∙ made;
  few = (let a = looks.1 in let b = l.each looks.0 in let e = same_rows_below first mid looks.0 same in let f = l.few in omega (arith, a, b, e, f));
}

pub after_cut : (c : Config) (n : ℕ) (start now : Seen) (before : List Act) (why : Why) (first mid : Sessions) (answer : Outcome) (old ticks new : ℕ) → CutsRows why first mid → LooksAtRows first old ticks → LeftAt c n start now before mid answer ticks new → EndedAt c n start now before first.made answer old new
after_cut c n start now before why first mid answer old ticks new cuts looks l =
    after_looks c n start now before first mid answer old ticks new cuts.same.made_same (λ s. same_cut first.made first.clock why s (row_of first.table s) (row_of mid.table s) (cuts.rows s)) looks l

pub after_stop : (c : Config) (n : ℕ) (start now : Seen) (before : List Act) (first mid : Sessions) (answer : Outcome) (old ticks new : ℕ) → AllHeard first mid → LooksAtRows first old ticks → LeftAt c n start now before mid answer ticks new → EndedAt c n start now before first.made answer old new
after_stop c n start now before first mid answer old ticks new heard looks l =
    after_looks c n start now before first mid answer old ticks new heard.same.same.made_same (λ s. same_heard first.made first.clock first.ready (row_of first.table s) (row_of mid.table s) (heard.rows s)) looks l

-- the acts of the sessions, and those of the door
pub left_two : (c : Config) (n : ℕ) (start now : Seen) (before : List Act) (first : Sessions) (answer : Outcome) (old new : ℕ) (one two : List Act) → HasRunEnded c n start now (two ++ (one ++ before)) answer → turns (two ++ (one ++ before)) ≡ first.made → ((k : ℕ) → rows_below first k ≤ length one) → new ≤ old + length one → LeftAt c n start now before first answer old new
left_two c n start now before first answer old new one two e t each few =
    let s = length-append two one in
    record {
      made = two ++ one;
      ended = subst (λ (xs : List Act). HasRunEnded c n start now xs answer) (sym (append_assoc two one before)) e;
      turned_is = ap turns (append_assoc two one before) ∙ t;
      each = λ k. (let h = each k in omega (arith, h, s));
      few = omega (arith, few, s);
    }
