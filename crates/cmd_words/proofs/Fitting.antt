-- A relay that the words make can be run.
use Rattle.std.proofs.Common.{◌≡◌, ℕ, Bool, true, false, ◌&&◌, ◌||◌, not, Option, Some, None, refl}
use Rattle.std.specs.Prelude.{if◌then◌else◌}
use Rattle.std.proofs.lemmas.Bool.{le-leb}
use Rattle.relay_model.specs.declared.places.Side.TheVariants.{Left, Right}
use Rattle.relay_model.specs.declared.places.Way.TheVariants.{LeftToRight, RightToLeft}
use Rattle.relay_model.specs.declared.commands.Address.{Address}
use Rattle.relay_model.specs.declared.commands.Address.TheVariants.{One, Two}
use Rattle.relay_model.specs.Configs.{Fit, listens, formed, fork_is_placed}
use Rattle.option_table.specs.Parts.{only_if}
use Rattle.cmd_words.specs.declared.settings.Settings.{Settings}
use Rattle.cmd_words.specs.Flags.{IsBounded}
use Rattle.cmd_words.specs.Commands.{misplaced_fork, config_of}

both : (a b : Bool) → a ≡ true → b ≡ true → (a && b) ≡ true
both true true e f = refl
both true false e f = f
both false b e f = e

left_one : (fork listening : Bool) → only_if {A = ℕ} (fork && not listening) 1 ≡ None → (not fork || listening) ≡ true
left_one true true e = refl
left_one true false e = cc
left_one false listening e = refl

right_one : (fork : Bool) → only_if {A = ℕ} fork 1 ≡ None → not fork ≡ true
right_one true e = cc
right_one false e = refl

two_halves : (reading writing : Bool) → if◌then◌else◌ {A = Option ℕ} reading (Some 1) (only_if {A = ℕ} writing 2) ≡ None → not (reading || writing) ≡ true
two_halves true writing e = cc
two_halves false true e = cc
two_halves false false e = refl

placed_forks : (left right : Address) → misplaced_fork Left left ≡ None → misplaced_fork Right right ≡ None → fork_is_placed left right ≡ true
placed_forks (One l) (One r) e f = both _ _ (left_one l.options.sessions.fork (listens l.target) e) (right_one r.options.sessions.fork f)
placed_forks (One l) (Two q w) e f = both _ _ (left_one l.options.sessions.fork (listens l.target) e) (two_halves q.options.sessions.fork w.options.sessions.fork f)
placed_forks (Two p v) (One r) e f = both _ _ (two_halves p.options.sessions.fork v.options.sessions.fork e) (right_one r.options.sessions.fork f)
placed_forks (Two p v) (Two q w) e f = both _ _ (two_halves p.options.sessions.fork v.options.sessions.fork e) (two_halves q.options.sessions.fork w.options.sessions.fork f)

pub fit_of : (settings : Settings) (left right : Address) → IsBounded settings → misplaced_fork Left left ≡ None → misplaced_fork Right right ≡ None → (formed (config_of settings left right) LeftToRight || formed (config_of settings left right) RightToLeft) ≡ true → Fit (config_of settings left right)
fit_of settings left right bounded e f some = record {
  some_block = le-leb 1 settings.block bounded.low;
  small_block = le-leb settings.block 1048576 bounded.high;
  some_direction = some;
  fork = placed_forks left right e f;
}
