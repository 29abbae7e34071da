-- Where the run may be ended for a reason and each session is cut for it, all are leaving.
use Rattle.std.proofs.Common.{◌≡◌, sym, subst, ◌∙◌, ℕ, inl, inr, true, false, List}
use Rattle.std.proofs.lemmas.Bool.{false≢true}
use Rattle.relay_model.specs.declared.commands.Config.{Config}
use Rattle.relay_model.specs.declared.acts.Act.{Act}
use Rattle.relay_model.specs.declared.acts.Why.{Why}
use Rattle.relay_model.specs.declared.acts.Why.TheVariants as whys
use Rattle.relay_model.specs.History.{memory_said}
use Rattle.program_door.specs.Stands.{DoorStands}
use Rattle.fork_table.specs.Tables.{row_of}
use Rattle.world_trait.specs.Seen.{Seen}
use Rattle.session_laws.specs.SessionSets.{MaySay}
use Rattle.session_loop.specs.Pauses.{ends_all}
use Rattle.event_loop.specs.declared.all_sessions.Sessions.{Sessions}
use Rattle.event_loop.specs.Courses.{OwesFor}
use Rattle.event_loop.specs.Endings.{MayEnd, CutsRows, RunsOut}
use Rattle.event_loop.proofs.Spreading.{cut_leaves}
use Rattle.event_loop.specs.Waited.{LeavingAt, OwesAtExit, StopsAt}
use Rattle.event_loop.proofs.Rooms.{kept_room}

may_say : (why : Why) (past : List Act) → ends_all why ≡ true → memory_said past ≡ false → MaySay why past
may_say whys.Memory past e m = tt
may_say whys.Stopped past e m = m
may_say why past e m = absurd (false≢true e)

-- a stop that no turn says comes where the turns are used up
stops_at : (c : Config) (n : ℕ) (past : List Act) (why : Why) → RunsOut c n past why → StopsAt n why past
stops_at c n past why (inl m) e = let x : ⊥ = cc in absurd x
stops_at c n past why (inr o) e = inr o.1

owes_at : (c : Config) (past : List Act) (why : Why) → memory_said past ≡ false → OwesFor c past why → OwesAtExit c past why
owes_at c past why m (inl e) = inl e
owes_at c past why m (inr k) = inr (k, m)

pub leaving_at : (c : Config) (n : ℕ) (start now : Seen) (why : Why) (before after : Sessions) → (end : MayEnd c n start now why before) → CutsRows why before after → LeavingAt c n start now end.past why after
leaving_at c n start now why before after end cuts =
    let f = end.frame in
    let same = cuts.same in
    record {
      exit = record {
        fork = f.fork;
        run = f.run;
        stands = subst (DoorStands c end.past) (sym same.door_same) f.door;
        may = may_say why end.past end.all f.unsaid.remembered;
        ends = inr end.ends;
        stops = stops_at c n end.past why end.ends;
        owes = owes_at c end.past why f.unsaid.remembered end.owes;
      };
      counts = record { admitted_is = same.admitted_same ∙ f.counts.admitted_is; children_is = same.bounds_same.0 ∙ f.counts.children_is; stop_is = same.bounds_same.1 ∙ f.counts.stop_is };
      made_is = f.made_is ∙ sym same.made_same;
      room = kept_room _ _ _ f.room same.scratch_same;
      rows = λ s. cut_leaves c n end.past before.made before.clock why s (row_of before.table s) (row_of after.table s) f.made_is (sym f.clock_is) (cuts.rows s) (end.rows s);
    }
