-- What passes a port, and how the logic stores it.
use Rattle.std.specs.Prelude.{◌≡◌, ℕ, List, [], ◌==◌, cond, refl}
use Rattle.std.specs.Coded.{Coded, code_by, coded_ℕ, coded_list, coded×}
use Rattle.relay_model.specs.{Shut}
use Rattle.relay_model.specs.declared.acts.Shut.TheVariants as ways

-- the bytes that were handed out, those that were accepted, and the ways in which an end was passed on
pub record Passage : Type 0 where
  pub gave : List ℕ
  pub took : List ℕ
  pub shuts : List Shut

-- nothing passed
abbrev pub none_passed : Passage
none_passed = record { gave = []; took = []; shuts = [] }

-- a number for each way
abbrev pub way_number : Shut → ℕ
way_number ways.Nothing = 0
way_number ways.Down = 1
way_number ways.Close = 2
way_number ways.Null = 3

-- the way of a number
abbrev pub way_at : ℕ → Shut
way_at n = cond (n == 0) ways.Nothing (cond (n == 1) ways.Down (cond (n == 2) ways.Close ways.Null))

-- each way has its own number
pub way_again : (how : Shut) → way_at (way_number how) ≡ how
way_again ways.Nothing = refl
way_again ways.Down = refl
way_again ways.Close = refl
way_again ways.Null = refl

-- a passage is stored as its three lists
abbrev pub passage_code : Coded Passage
passage_code = code_by (List ℕ × (List ℕ × List Shut)) (coded× (coded_list coded_ℕ) (coded× (coded_list coded_ℕ) (coded_list (code_by ℕ coded_ℕ way_number way_at way_again)))) (λ p. (p.gave, (p.took, p.shuts))) (λ t. record { gave = t.0; took = t.1.0; shuts = t.1.1 }) (λ _. refl)
