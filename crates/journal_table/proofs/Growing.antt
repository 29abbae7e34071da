-- Pages that grew by one row, and by the line of one act.
use Rattle.std.proofs.Common.{◌≡◌, ℕ, ◌+◌, ◌-◌, ◌<◌, ◌≤◌, List, ◌∷◌, ◌++◌, length, drop, get_or, Bor, sym, ap, ◌∙◌, arith}
use Rattle.relay_model.specs.declared.commands.Config.{Config}
use Rattle.relay_model.specs.declared.acts.Act.{Act}
use Rattle.relay_model.specs.History.{now}
use Rattle.history_facts.specs.Pasts.{acts}
use Rattle.history_facts.proofs.Lists.{acts_before}
use Rattle.place_report.proofs.Growing.{grown}
use Rattle.journal_table.specs.Tables.{rows_below, session_line}
use Rattle.journal_table.specs.Acts.{act_line, acts_text}
use Rattle.journal_table.proofs.Below.{rows_below_more}

pub one_row_more : (c : Config) (past : List Act) (k : ℕ) (old mid new : List ℕ) → mid ≡ old ++ rows_below c past k → new ≡ mid ++ session_line c past k → new ≡ old ++ rows_below c past (k + 1)
one_row_more c past k old mid new e f =
    grown old mid new (rows_below c past k) (session_line c past k) e f ∙ ap (λ (rows : List ℕ). old ++ rows) (sym (rows_below_more c past k))

-- what is told so far of the acts from the place `k` on
pub record TellsFrom (all : List (Bor Act)) (k at : ℕ) (page : List ℕ) : Type 0 where
  pub page_is : page ≡ acts_text (acts (drop k all))
  pub at_is : at ≡ now (acts (drop k all))
  pub within : k ≤ length all

pub one_act_more : (all : List (Bor Act)) (k before at : ℕ) (act : Bor Act) (old new : List ℕ) → TellsFrom all k before old → 0 < k → act ≡ get_or all (k - 1) act → at ≡ now (act.now ∷ acts (drop k all)) → new ≡ old ++ act_line at act.now → TellsFrom all (k - 1) at new
one_act_more all k before at act old new told some is moment grew =
    let rest : List Act = acts (drop k all) in
    let step : acts (drop (k - 1) all) ≡ act.now ∷ rest = acts_before all k act some told.within is in
    let line : act_line at act.now ≡ act_line (now (act.now ∷ rest)) act.now = ap (λ (m : ℕ). act_line m act.now) moment in
    record {
      page_is = grew ∙ ap (λ (text : List ℕ). text ++ act_line at act.now) told.page_is ∙ ap (λ (text : List ℕ). acts_text rest ++ text) line ∙ sym (ap acts_text step);
      at_is = moment ∙ sym (ap now step);
      within = omega (arith, told.within, some);
    }
