-- The lists of a script, one step longer.
use Rattle.std.proofs.Common.{◌≡◌, ◌+◌, ◌*◌, ℕ, List, [], ◌∷◌, ◌++◌, refl, sym, ap, ◌∙◌, arith, append_assoc, add-one}
use Rattle.scripted_world.specs.declared.lines.PlacedItem.{PlacedItem}
use Rattle.scripted_world.specs.declared.reading.DueRead.{DueRead}
use Rattle.scripted_world.specs.declared.writing.DueWrite.{DueWrite}
use Rattle.scripted_world.specs.declared.accepting.DuePeer.{DuePeer}
use Rattle.scripted_world.specs.declared.script.Script.{Script}
use Rattle.scripted_world.specs.Scripts.{empty_script}
use Rattle.socat_top.specs.Scripts.{end_line, left_place, peer_line, peers_of, piece_line, pieces, reads_of, right_place, script_of, session_state, session_writes, taking_line, waiting_line, writes_of}
use Rattle.socat_top.specs.Stream.{first_state, state_after}
use Rattle.socat_top.proofs.StreamLemmas.{state_after-add}

nil_right : {A : Type 0} (xs : List A) → xs ++ [] ≡ xs
nil_right [] = refl
nil_right (x ∷ xs) = ap (λ ys. x ∷ ys) (nil_right xs)

pub pieces-none : (xs : List (PlacedItem DueRead)) (s x : ℕ) → xs ++ pieces s 0 x ≡ xs
unfolding pieces
pieces-none xs s x = nil_right xs

pub pieces-more : (xs : List (PlacedItem DueRead)) (s k x : ℕ) → (xs ++ pieces s k x) ++ piece_line s k (state_after (k * 512) x) ∷ [] ≡ xs ++ pieces s (k + 1) x
unfolding pieces
pieces-more xs s k x = append_assoc xs (pieces s k x) (piece_line s k (state_after (k * 512) x) ∷ []) ∙ ap (λ j. xs ++ pieces s j x) (sym (add-one k))

pub piece_state-more : (k x : ℕ) → state_after 512 (state_after (k * 512) x) ≡ state_after ((k + 1) * 512) x
piece_state-more k x = sym (state_after-add (k * 512) 512 x) ∙ ap (λ j. state_after j x) (let e : k * 512 + 512 ≡ (k + 1) * 512 = omega arith in e)

pub writes-none : (xs : List (PlacedItem DueWrite)) (s : ℕ) → xs ++ session_writes s 0 ≡ xs
unfolding session_writes
writes-none xs s = nil_right xs

pub writes-more : (xs : List (PlacedItem DueWrite)) (s k : ℕ) → ((xs ++ session_writes s k) ++ taking_line s ∷ []) ++ waiting_line s ∷ [] ≡ xs ++ session_writes s (k + 1)
unfolding session_writes
writes-more xs s k =
    append_assoc (xs ++ session_writes s k) (taking_line s ∷ []) (waiting_line s ∷ [])
    ∙ append_assoc xs (session_writes s k) (taking_line s ∷ waiting_line s ∷ [])
    ∙ ap (λ j. xs ++ session_writes s j) (sym (add-one k))

pub peers-more : (s : ℕ) → peers_of s ++ peer_line s ∷ [] ≡ peers_of (s + 1)
unfolding peers_of
peers-more s = ap peers_of (sym (add-one s))

pub reads-more : (n s : ℕ) → (reads_of n s ++ pieces s 128 (session_state n s)) ++ end_line (left_place s) ∷ end_line (right_place s) ∷ [] ≡ reads_of n (s + 1)
unfolding reads_of
reads-more n s = append_assoc (reads_of n s) (pieces s 128 (session_state n s)) (end_line (left_place s) ∷ end_line (right_place s) ∷ []) ∙ ap (reads_of n) (sym (add-one s))

pub all_writes-more : (s : ℕ) → writes_of s ++ session_writes s 300 ≡ writes_of (s + 1)
unfolding writes_of
all_writes-more s = ap writes_of (sym (add-one s))

pub state-more : (n s : ℕ) → state_after 65536 (session_state n s) ≡ session_state n (s + 1)
state-more n s = sym (state_after-add (s * 65536) 65536 (first_state n)) ∙ ap (λ j. state_after j (first_state n)) (let e : s * 65536 + 65536 ≡ (s + 1) * 65536 = omega arith in e)

pub nothing-yet : (n : ℕ) → (reads_of n 0 ≡ []) × (writes_of 0 ≡ []) × (peers_of 0 ≡ [])
unfolding reads_of writes_of peers_of
nothing-yet n = (refl, refl, refl)

-- two writes more
pub script-writes : (first before between after : Script) (ws more : List (PlacedItem DueWrite)) (one other : PlacedItem DueWrite) → before ≡ record first { writes = first.writes ++ ws } → between ≡ record before { writes = before.writes ++ one ∷ [] } → after ≡ record between { writes = between.writes ++ other ∷ [] } → ((first.writes ++ ws) ++ one ∷ []) ++ other ∷ [] ≡ first.writes ++ more → after ≡ record first { writes = first.writes ++ more }
script-writes first before between after ws more one other e f g h =
    g ∙ ap {A = Script} (λ s. record s { writes = s.writes ++ other ∷ [] }) (f ∙ ap {A = Script} (λ s. record s { writes = s.writes ++ one ∷ [] }) e) ∙ ap (λ lines. record first { writes = lines }) h

-- a read more
pub script-reads : (first before after : Script) (rs more : List (PlacedItem DueRead)) (one : PlacedItem DueRead) → before ≡ record first { reads = first.reads ++ rs } → after ≡ record before { reads = before.reads ++ one ∷ [] } → (first.reads ++ rs) ++ one ∷ [] ≡ first.reads ++ more → after ≡ record first { reads = first.reads ++ more }
script-reads first before after rs more one e f h =
    f ∙ ap {A = Script} (λ s. record s { reads = s.reads ++ one ∷ [] }) e ∙ ap (λ lines. record first { reads = lines }) h

-- a session more
pub script-more : (n s : ℕ) (before one two three four : Script) → before ≡ script_of n s → one ≡ record before { peers = before.peers ++ peer_line s ∷ [] } → two ≡ record one { reads = one.reads ++ pieces s 128 (session_state n s) } → three ≡ record two { reads = two.reads ++ end_line (left_place s) ∷ end_line (right_place s) ∷ [] } → four ≡ record three { writes = three.writes ++ session_writes s 300 } → four ≡ script_of n (s + 1)
script-more n s before one two three four e f g h k =
    let of : List (PlacedItem DuePeer) → List (PlacedItem DueRead) → List (PlacedItem DueWrite) → Script = λ ps rs ws. record empty_script { peers = ps; reads = rs; writes = ws } in
    k ∙ ap {A = Script} (λ x. record x { writes = x.writes ++ session_writes s 300 }) (h ∙ ap {A = Script} (λ x. record x { reads = x.reads ++ end_line (left_place s) ∷ end_line (right_place s) ∷ [] }) (g ∙ ap {A = Script} (λ x. record x { reads = x.reads ++ pieces s 128 (session_state n s) }) (f ∙ ap {A = Script} (λ x. record x { peers = x.peers ++ peer_line s ∷ [] }) e)))
    ∙ ap (λ ps. of ps ((reads_of n s ++ pieces s 128 (session_state n s)) ++ end_line (left_place s) ∷ end_line (right_place s) ∷ []) (writes_of s ++ session_writes s 300)) (peers-more s)
    ∙ ap (λ rs. of (peers_of (s + 1)) rs (writes_of s ++ session_writes s 300)) (reads-more n s)
    ∙ ap (of (peers_of (s + 1)) (reads_of n (s + 1))) (all_writes-more s)

pub script-none : (n : ℕ) → empty_script ≡ script_of n 0
script-none n =
    let none = nothing-yet n in
    sym (ap (λ ps. record empty_script { peers = ps; reads = reads_of n 0; writes = writes_of 0 }) none.2
    ∙ ap (λ rs. record empty_script { reads = rs; writes = writes_of 0 }) none.0
    ∙ ap (λ ws. record empty_script { writes = ws }) none.1)
