-- What was written is a prefix of what is due, and no more than two blocks wait.
use Rattle.std.proofs.Common.{◌≡◌, refl, sym, ap, subst, ◌∙◌, ℕ, ◌+◌, ◌-◌, ◌*◌, ◌/◌, ◌≤◌, min, Bool, true, false, cond, ◌==◌, is_some, List, [], ◌∷◌, ◌++◌, length, Option, Some, None, arith, append_assoc, append-nil, length-append, ◌⊎◌, inl, inr}
use Rattle.std.proofs.lemmas.Bool.{false_from_ne_true, false≢true, eqb-true, and_parts}
use Rattle.relay_model.specs.declared.places.Way.{Way}
use Rattle.relay_model.specs.declared.commands.Config.{Config}
use Rattle.relay_model.specs.declared.acts.Act.{Act}
use Rattle.relay_model.specs.declared.acts.Act.TheVariants.{Read, Wrote, WriteNotYet, WriteFault, Shut, ShutFault}
use Rattle.relay_model.specs.Places.{same_place}
use Rattle.relay_model.specs.Choices.{joined}
use Rattle.relay_model.specs.Configs.{input, output, options_of, keeps_borders}
use Rattle.relay_model.specs.Conversions.{at_most_left, read_size, packet_size, packet_cap}
use Rattle.relay_model.specs.History.{now, got, put, shut_at}
use Rattle.relay_model.specs.Transfers.{due, backlog, is_spent}
use Rattle.relay_model.specs.Moments.{passed}
use Rattle.relay_model.specs.May.{Legal, BeginsWith, MayAsk, MayRead, MayOffer, MayWrite, MayShut}
use Rattle.relay_model.specs.Laws.{uses_output}
use Rattle.relay_laws.proofs.Growth.{due_grows, due_nil}
use Rattle.relay_laws.proofs.Permitted.{writes_due, reads_in_room, reads_before_end, offers_before_end, shuts_before_end, shuts_when_spent, moved_to}

-- ---- written is due

begins_more : (xs ys zs more : List ℕ) → BeginsWith xs ys → zs ≡ ys ++ more → BeginsWith xs zs
begins_more xs ys zs more (rest, e) f = (rest ++ more, f ∙ ap (λ l. l ++ more) e ∙ append_assoc xs rest more)

pub written_due : (c : Config) (n : ℕ) (past : List Act) (s : ℕ) (w : Way) → Legal c n past → BeginsWith (put past (output c s w)) (due c w (got past (input c s w)))
written_due c n [] s w legal = (due c w [], refl)
written_due c n (Read p bytes ∷ past) s w legal = go (same_place p (input c s w)) (written_due c n past s w legal.1)
  where
    go : (b : Bool) → BeginsWith (put past (output c s w)) (due c w (got past (input c s w))) → BeginsWith (put past (output c s w)) (due c w (joined b (got past (input c s w)) bytes))
    go true h = let g = due_grows c w (got past (input c s w)) bytes in begins_more _ _ _ g.more h g.is
    go false h = h
written_due c n (Wrote p bytes ∷ past) s w legal = go (same_place p (output c s w)) refl (written_due c n past s w legal.1)
  where
    go : (b : Bool) → same_place p (output c s w) ≡ b → BeginsWith (put past (output c s w)) (due c w (got past (input c s w))) → BeginsWith (joined b (put past (output c s w)) bytes) (due c w (got past (input c s w)))
    go true e h = writes_due c past s w bytes (moved_to (λ q. MayWrite c past q bytes) p (output c s w) e legal.0.1)
    go false e h = h
written_due c n (act ∷ past) s w legal = written_due c n past s w legal.1

-- ---- the backlog

left_below : (o : Option ℕ) (count n : ℕ) → at_most_left o count n ≤ n
left_below None count n = omega arith
left_below (Some most) count n = omega arith

room_bound : (keeps : Bool) (block cap : ℕ) (o : Option ℕ) (count b n : ℕ) → b ≤ 2 * block → 1 ≤ n → n ≤ cond keeps (packet_size block cap o count b) (read_size block o count b) → b + 2 * n ≤ 2 * block
room_bound false block cap o count b n bound some in_room = let h = left_below o count (min block ((2 * block - b) / 2)) in omega (arith, h, in_room, bound)
room_bound true block cap o count b n bound some in_room = go (b == 0) refl in_room
  where
    go : (t : Bool) → (b == 0) ≡ t → n ≤ cond t (at_most_left o count (min block cap)) 0 → b + 2 * n ≤ 2 * block
    go true e h = let k = left_below o count (min block cap) in let z = eqb-true b 0 e in omega (arith, h, k, z)
    go false e h = omega (arith, h, some)

backlog_grows : (d p d' more n block : ℕ) → d' ≡ d + more → more ≤ 2 * n → (d - p) + 2 * n ≤ 2 * block → d' - p ≤ 2 * block
backlog_grows d p d' more n block e few bound = omega (arith, e, few, bound)

pub backlog_bound : (c : Config) (n : ℕ) (past : List Act) (s : ℕ) (w : Way) → Legal c n past → backlog c past s w ≤ 2 * c.block
backlog_bound c n [] s w legal = let e = ap length (due_nil c w) in omega (arith, e)
backlog_bound c n (Read p bytes ∷ past) s w legal = go (same_place p (input c s w)) refl (backlog_bound c n past s w legal.1)
  where
    go : (b : Bool) → same_place p (input c s w) ≡ b → backlog c past s w ≤ 2 * c.block → length (due c w (joined b (got past (input c s w)) bytes)) - length (put past (output c s w)) ≤ 2 * c.block
    go true e h =
        let m = moved_to (λ q. MayRead c past q (length bytes)) p (input c s w) e legal.0.1 in
        let g = due_grows c w (got past (input c s w)) bytes in
        backlog_grows (length (due c w (got past (input c s w)))) (length (put past (output c s w))) _ (length g.more) (length bytes) c.block
        (ap length g.is ∙ length-append (due c w (got past (input c s w))) g.more) g.few
        (room_bound (keeps_borders c w) c.block (packet_cap (options_of c (output c 0 w)).conv) (options_of c (input c 0 w)).input.readbytes (length (got past (input c s w))) (backlog c past s w) (length bytes) h m.some_bytes (reads_in_room c past s w (length bytes) m))
    go false e h = h
backlog_bound c n (Wrote p bytes ∷ past) s w legal = go (same_place p (output c s w)) (backlog_bound c n past s w legal.1)
  where
    go : (b : Bool) → backlog c past s w ≤ 2 * c.block → length (due c w (got past (input c s w))) - length (joined b (put past (output c s w)) bytes) ≤ 2 * c.block
    go true h = let e = length-append (put past (output c s w)) bytes in omega (arith, h, e)
    go false h = h
backlog_bound c n (act ∷ past) s w legal = backlog_bound c n past s w legal.1

-- ---- the end

not_after : (b : Bool) → b ≡ true → b ≡ false → ⊥
not_after b t f = false≢true (sym f ∙ t)

pub end_last : (c : Config) (n : ℕ) (act : Act) (past : List Act) (s : ℕ) (w : Way) → Legal c n (act ∷ past) → passed c past s w ≡ true → uses_output act (output c s w) ≡ false
end_last c n (Wrote p bytes) past s w legal over = false_from_ne_true (same_place p (output c s w)) (λ e. not_after (passed c past s w) over (offers_before_end c past s w (moved_to (λ q. MayOffer c past q) p (output c s w) e legal.0.1.offers)))
end_last c n (WriteNotYet p) past s w legal over = false_from_ne_true (same_place p (output c s w)) (λ e. not_after (passed c past s w) over (offers_before_end c past s w (moved_to (λ q. MayOffer c past q) p (output c s w) e legal.0.1.offers)))
end_last c n (WriteFault p) past s w legal over = false_from_ne_true (same_place p (output c s w)) (λ e. not_after (passed c past s w) over (offers_before_end c past s w (moved_to (λ q. MayOffer c past q) p (output c s w) e legal.0.1.offers)))
end_last c n (Shut p way) past s w legal over = false_from_ne_true (same_place p (output c s w)) (λ e. not_after (passed c past s w) over (shuts_before_end c past s w way (moved_to (λ q. MayShut c past q way) p (output c s w) e legal.0.1)))
end_last c n (ShutFault p way) past s w legal over = false_from_ne_true (same_place p (output c s w)) (λ e. not_after (passed c past s w) over (shuts_before_end c past s w way (moved_to (λ q. MayShut c past q way) p (output c s w) e legal.0.1)))
end_last c n act past s w legal over = refl

-- ---- the whole

no_more : (xs rest : List ℕ) (zs : List ℕ) → zs ≡ xs ++ rest → length zs - length xs ≡ 0 → xs ≡ zs
no_more xs [] zs e h = sym (e ∙ append-nil xs)
no_more xs (r ∷ rest) zs e h = absurd (let k = ap length e ∙ length-append xs (r ∷ rest) in omega (arith, k, h))

spent_whole : (c : Config) (n : ℕ) (past : List Act) (s : ℕ) (w : Way) → Legal c n past → is_spent c past s w ≡ true → put past (output c s w) ≡ due c w (got past (input c s w))
spent_whole c n past s w legal spent = let d = written_due c n past s w legal in no_more (put past (output c s w)) d.0 (due c w (got past (input c s w))) d.1 (eqb-true (backlog c past s w) 0 (and_parts _ (backlog c past s w == 0) spent).1)

pub passed_whole : (c : Config) (n : ℕ) (past : List Act) (s : ℕ) (w : Way) → Legal c n past → passed c past s w ≡ true → put past (output c s w) ≡ due c w (got past (input c s w))
passed_whole c n [] s w legal over = absurd (false≢true over)
passed_whole c n (Read p bytes ∷ past) s w legal over = go (same_place p (input c s w)) refl (passed_whole c n past s w legal.1 over)
  where
    go : (b : Bool) → same_place p (input c s w) ≡ b → put past (output c s w) ≡ due c w (got past (input c s w)) → put past (output c s w) ≡ due c w (joined b (got past (input c s w)) bytes)
    go true e h = absurd (not_after (passed c past s w) over (reads_before_end c past s w (moved_to (λ q. MayAsk c past q) p (input c s w) e legal.0.1.asks)))
    go false e h = h
passed_whole c n (Wrote p bytes ∷ past) s w legal over = go (same_place p (output c s w)) refl (passed_whole c n past s w legal.1 over)
  where
    go : (b : Bool) → same_place p (output c s w) ≡ b → put past (output c s w) ≡ due c w (got past (input c s w)) → joined b (put past (output c s w)) bytes ≡ due c w (got past (input c s w))
    go true e h = absurd (not_after (passed c past s w) over (offers_before_end c past s w (moved_to (λ q. MayOffer c past q) p (output c s w) e legal.0.1.offers)))
    go false e h = h
passed_whole c n (Shut p way ∷ past) s w legal over = go (same_place p (output c s w)) refl over (λ o. passed_whole c n past s w legal.1 o)
  where
    go : (b : Bool) → same_place p (output c s w) ≡ b → is_some (cond b (Some (now past)) (shut_at past (output c s w))) ≡ true → (passed c past s w ≡ true → put past (output c s w) ≡ due c w (got past (input c s w))) → put past (output c s w) ≡ due c w (got past (input c s w))
    go true e o h = spent_whole c n past s w legal.1 (shuts_when_spent c past s w way (moved_to (λ q. MayShut c past q way) p (output c s w) e legal.0.1))
    go false e o h = h o
passed_whole c n (ShutFault p way ∷ past) s w legal over = go (same_place p (output c s w)) refl over (λ o. passed_whole c n past s w legal.1 o)
  where
    go : (b : Bool) → same_place p (output c s w) ≡ b → is_some (cond b (Some (now past)) (shut_at past (output c s w))) ≡ true → (passed c past s w ≡ true → put past (output c s w) ≡ due c w (got past (input c s w))) → put past (output c s w) ≡ due c w (got past (input c s w))
    go true e o h = spent_whole c n past s w legal.1 (shuts_when_spent c past s w way (moved_to (λ q. MayShut c past q way) p (output c s w) e legal.0.1))
    go false e o h = h o
passed_whole c n (act ∷ past) s w legal over = passed_whole c n past s w legal.1 over

-- ---- two histories

tails : (x y : ℕ) (xs ys : List ℕ) → x ∷ xs ≡ y ∷ ys → (x ≡ y) × (xs ≡ ys)
tails x y xs ys e = (cc, cc)

pub prefixes_agree : (xs ys zs : List ℕ) → BeginsWith xs zs → BeginsWith ys zs → BeginsWith xs ys ⊎ BeginsWith ys xs
prefixes_agree [] ys zs b d = inl (ys, refl)
prefixes_agree (x ∷ xs) [] zs b d = inr (x ∷ xs, refl)
prefixes_agree (x ∷ xs) (y ∷ ys) zs (r, e) (q, f) = go (tails x y (xs ++ r) (ys ++ q) (sym e ∙ f)) (prefixes_agree xs ys (xs ++ r) (r, refl) (q, (tails x y (xs ++ r) (ys ++ q) (sym e ∙ f)).1))
  where
    go : (x ≡ y) × (xs ++ r ≡ ys ++ q) → BeginsWith xs ys ⊎ BeginsWith ys xs → BeginsWith (x ∷ xs) (y ∷ ys) ⊎ BeginsWith (y ∷ ys) (x ∷ xs)
    go t (inl (m, k)) = inl (m, cc (t.0, k))
    go t (inr (m, k)) = inr (m, cc (t.0, k))

pub outputs_agreeing :
    (c : Config) (n m : ℕ) (one other : List Act) (s t : ℕ) (w : Way) → Legal c n one → Legal c m other → got one (input c s w) ≡ got other (input c t w) →
    BeginsWith (put one (output c s w)) (put other (output c t w)) ⊎ BeginsWith (put other (output c t w)) (put one (output c s w))
outputs_agreeing c n m one other s t w legal legal' same =
    prefixes_agree (put one (output c s w)) (put other (output c t w)) (due c w (got other (input c t w)))
    (subst (λ g. BeginsWith (put one (output c s w)) (due c w g)) same (written_due c n one s w legal))
    (written_due c m other t w legal')
