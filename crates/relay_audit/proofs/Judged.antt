-- What the judging of one act says of a whole history.
use Rattle.std.proofs.Common.{◌≡◌, ℕ, suc, ◌-◌, ◌<◌, ◌≤◌, true, false, List, ◌∷◌, ◌++◌, length, take, drop, get_or, Bor, refl, ap, sym, ◌∙◌, arith}
use Rattle.std.proofs.lemmas.List.{map-append, take-append-drop, length-map, length-drop, take_all}
use Rattle.relay_model.specs.declared.commands.Config.{Config}
use Rattle.relay_model.specs.declared.acts.Act.{Act}
use Rattle.relay_model.specs.May.{Legal}
use Rattle.relay_model.specs.Audit.{may_come, first_of_two, first_illegal}
use Rattle.relay_model.specs.Laws.{TestsAreRight, OneTestIsRight}
use Rattle.history_facts.specs.Pasts.{acts}
use Rattle.relay_audit.specs.Judging.{IsFirstIllegal}
use Rattle.history_facts.proofs.Lists.{acts_before}

-- what follows a place in a list, cut at the list's own end
rest_of : (past : List (Bor Act)) (i k : ℕ) → i ≡ k → take (length past - i) (drop i past) ≡ drop k past
rest_of past i k same =
    let whole : length (drop i past) ≤ length past - i = omega (arith, length-drop i past) in
    take_all (length past - i) (drop i past) whole ∙ ap (λ j. drop j past) same

-- the acts from the place before on, as a slice shows them
pub one_more : (past : List (Bor Act)) (k : ℕ) (act : Bor Act) (before : List Act) → 0 < k → k ≤ length past → act ≡ get_or past (k - 1) act → before ≡ acts (drop k past) → acts (take (length past - (k - 1)) (drop (k - 1) past)) ≡ act.now ∷ before
one_more past k act before some within at is =
    ap acts (rest_of past (k - 1) (k - 1) refl) ∙ acts_before past k act some within at ∙ ap (λ list. act.now ∷ list) (sym is)

-- one act that may come after those before
pub still_legal : (c : Config) (n : ℕ) (past : List Act) (act : Act) → first_illegal c n past ≡ 0 → may_come c n past act ≡ true → first_illegal c n (act ∷ past) ≡ 0
still_legal c n past act before may =
    ap (λ k. first_of_two k (may_come c n past act) (suc (length past))) before
    ∙ ap (λ b. first_of_two 0 b (suc (length past))) may

-- an act that may not come is the first such one
pub one_more_is_illegal : TestsAreRight → OneTestIsRight → (c : Config) (n : ℕ) (past : List (Bor Act)) (k : ℕ) (act : Bor Act) (before : List Act) → 0 < k → k ≤ length past → act ≡ get_or past (k - 1) act → before ≡ acts (drop k past) → first_illegal c n before ≡ 0 → may_come c n before act.now ≡ false → IsFirstIllegal c n (acts past) (length past - (k - 1))
one_more_is_illegal tests one_test c n past k act before some within at is calm fails =
    let cut : acts (drop (k - 1) past) ≡ act.now ∷ before = acts_before past k act some within at ∙ ap (λ list. act.now ∷ list) (sym is) in
    let legal : Legal c n before = (tests c n before).0 calm in
    let whole : acts past ≡ acts (take (k - 1) past) ++ acts (drop (k - 1) past) = ap acts (sym (take-append-drop (k - 1) past)) ∙ map-append (λ a. a.now) (take (k - 1) past) (drop (k - 1) past) in
    let left : length before ≡ length past - k = ap length is ∙ length-map (drop k past) (λ a. a.now) ∙ length-drop k past in
    let count : length past - (k - 1) ≡ suc (length before) = omega (arith, left) in
    record {
      later = acts (take (k - 1) past);
      act = act.now;
      past = before;
      whole = whole ∙ ap (λ list. acts (take (k - 1) past) ++ list) cut;
      before = legal;
      breaks = λ may_do. let does : may_come c n before act.now ≡ true = (one_test c n before act.now legal).1 may_do in cc (fails, does);
      counted = count;
    }

-- where no act is left to judge, the whole history is legal
pub whole_is_legal : TestsAreRight → (c : Config) (n : ℕ) (past : List (Bor Act)) (k : ℕ) (before : List Act) → k ≤ 0 → before ≡ acts (drop k past) → first_illegal c n before ≡ 0 → (before ≡ acts past) × Legal c n (acts past)
whole_is_legal tests c n past k before none is calm =
    let end : k ≡ 0 = omega arith in
    let whole : before ≡ acts past = is ∙ ap (λ i. acts (drop i past)) end in
    (whole, (tests c n (acts past)).0 (ap (first_illegal c n) (sym whole) ∙ calm))
