-- A run that has just begun.
use Rattle.std.proofs.Common.{◌≡◌, refl, sym, ap, subst, ◌∙◌, ℕ, List, [], ◌∷◌, ◌++◌, ◌≤◌, Option, Some, None, arith}
use Rattle.std.specs.Prelude.{vec_len}
use Rattle.std.specs.Option.{option_map}
use Rattle.std.specs.Ordering.{nat_cmp}
use Rattle.std.specs.FinMap.{empty, get-empty}
use Rattle.relay_model.specs.declared.commands.Config.{Config}
use Rattle.relay_model.specs.declared.places.Place.{Place}
use Rattle.relay_model.specs.declared.commands.Options.{Options}
use Rattle.relay_model.specs.Configs.{options_of, program_door}
use Rattle.relay_model.specs.Holding.{Free}
use Rattle.relay_model.specs.Journals.{History}
use Rattle.session_driver.specs.Steps.{extend}
use Rattle.relay_model.specs.Sessions.{door_options}
use Rattle.program_door.specs.Stands.{DoorStands}
use Rattle.fork_table.specs.Tables.{row_of}
use Rattle.world_trait.specs.Seen.{Seen}
use Rattle.event_loop.specs.declared.all_sessions.Sessions.{Sessions}
use Rattle.event_loop.specs.Births.{Forks}
use Rattle.event_loop.specs.declared.all_sessions.Row.{Row}
use Rattle.event_loop.specs.Rows.{RowIs}
use Rattle.event_loop.specs.Courses.{SessionsCourse, timer_of}

nil_right : {A : Type 0} (xs : List A) → xs ++ [] ≡ xs
nil_right [] = refl
nil_right (x ∷ xs) = ap (λ ys. x ∷ ys) (nil_right xs)

told_nothing : (o : Option History) → o ≡ option_map (extend [] []) o
told_nothing None = refl
told_nothing (Some h) = ap (λ xs. Some (record { acts = h.acts; asked = xs })) (sym (nil_right h.asked))

no_row_yet : (c : Config) (n : ℕ) (s : ℕ) (work : List ℕ) (timer : Option ℕ) (row : Option Row) → row ≡ None → timer ≡ None → RowIs c n [] s work timer row
no_row_yet c n s work timer row e t = subst (RowIs c n [] s work timer) (sym e) (λ b. absurd (omega (arith, b)), t)

pub begun : (c : Config) (n : ℕ) (start : Seen) (sessions : Sessions) → Forks c → DoorStands c [] sessions.door → sessions.pending_session ≡ None → sessions.clock ≡ 0 → sessions.made ≡ 0 → c.block ≤ vec_len sessions.scratch → sessions.table.admitted ≡ 0 → sessions.table.max_children ≡ (door_options c).sessions.max_children → sessions.table.stop_after ≡ (door_options c).sessions.stop_after → ((s : ℕ) → row_of sessions.table s ≡ None) → sessions.timers.moments ≡ empty → ((p : Place) → start.held p ≡ Free) → SessionsCourse c n start start [] sessions
begun c n start sessions forks door eu ec em room ea eb es rows et free = record {
  frame = record {
    fork = forks.fork;
    run = record {
      legal = tt;
      named = tt;
      pairs = [];
      asked = tt;
      told = told_nothing start.told;
      holds = free;
      later = omega arith;
      blamed = λ h. cc;
      waited = omega arith;
      few_waits = omega arith;
      later_stops = omega arith;
      stopped = λ h. cc;
      clock = omega arith;
    };
    door = door;
    counts = record { admitted_is = ea; children_is = eb; stop_is = es };
    next = rw eu tt;
    clock_is = ec;
    made_is = sym em;
    room = room;
    unsaid = record { remembered = refl; unstopped = refl };
  };
  unowed = refl;
  rows = λ s. no_row_yet c n s sessions.work.items (timer_of sessions s) (row_of sessions.table s) (rows s) (rw et (get-empty nat_cmp s));
}

pub door_asked : (c : Config) (p : Place) (o : Options) → p ≡ program_door → o ≡ options_of c p → o ≡ door_options c
door_asked c p o e f = f ∙ ap (options_of c) e
