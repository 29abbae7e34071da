-- What is due of more bytes begins with what is due of fewer, and each byte adds two at most.
use Rattle.std.proofs.Common.{◌≡◌, refl, sym, ap, subst, ◌∙◌, ℕ, zero, suc, ◌+◌, ◌*◌, ◌≤◌, Bool, true, false, not, cond, ◌==◌, List, [], ◌∷◌, ◌++◌, length, take, map, filter, flat_map, Option, Some, None, arith, le_trans, le_refl, length-append, one-add, subst₂}
use Rattle.std.specs.List.{before_first, prefix_len}
use Rattle.std.proofs.lemmas.List.{map-append}
use Rattle.std.proofs.lemmas.List.Elements.{filter-append}
use Rattle.std.proofs.lemmas.Grind.{common_steps, flat_map-append}
use Rattle.relay_model.specs.declared.places.Way.{Way}
use Rattle.relay_model.specs.declared.commands.Config.{Config}
use Rattle.relay_model.specs.declared.commands.Conv.{Conv}
use Rattle.relay_model.specs.declared.commands.Conv.TheVariants.{Plain, Cr, Crnl}
use Rattle.relay_model.specs.Configs.{input, output, options_of}
use Rattle.relay_model.specs.Conversions.{read_converted, write_converted, first_bytes, before_escape, effective, due_of}
use Rattle.relay_model.specs.Transfers.{due}

-- the second list is the first and at most n more
pub record Grows (xs zs : List ℕ) (n : ℕ) : Type 0 where
  pub more : List ℕ
  pub is : zs ≡ xs ++ more
  pub few : length more ≤ n

pub same : (xs ys : List ℕ) → Grows xs (xs ++ ys) (length ys)
same xs ys = record { more = ys; is = refl; few = le_refl (length ys) }

pub behind : (x : ℕ) (xs zs : List ℕ) (n : ℕ) → Grows xs zs n → Grows (x ∷ xs) (x ∷ zs) n
behind x xs zs n g = record { more = g.more; is = ap (λ l. x ∷ l) g.is; few = g.few }

take_few : (k : ℕ) (ys : List ℕ) → length (take k ys) ≤ length ys
take_few k ys = grind (arith, common_steps)

pub grows_take : (k : ℕ) (xs ys : List ℕ) → Grows (take k xs) (take k (xs ++ ys)) (length ys)
grows_take zero xs ys = record { more = []; is = refl; few = omega arith }
grows_take (suc k) [] ys = record { more = take (suc k) ys; is = refl; few = take_few (suc k) ys }
grows_take (suc k) (x ∷ xs) ys = behind x (take k xs) (take k (xs ++ ys)) (length ys) (grows_take k xs ys)

take_one : (k x : ℕ) (xs : List ℕ) → take (1 + k) (x ∷ xs) ≡ x ∷ take k xs
take_one k x xs = ap (λ n. take n (x ∷ xs)) (one-add k)

pub grows_before : (p : ℕ → Bool) (xs ys : List ℕ) → Grows (before_first p xs) (before_first p (xs ++ ys)) (length ys)
grows_before p [] ys = record { more = before_first p ys; is = refl; few = take_few (prefix_len (λ x. not (p x)) ys) ys }
grows_before p (x ∷ xs) ys = go (not (p x)) (grows_before p xs ys)
  where
    go : (b : Bool) → Grows (before_first p xs) (before_first p (xs ++ ys)) (length ys) → Grows (take (cond b (1 + prefix_len (λ x. not (p x)) xs) 0) (x ∷ xs)) (take (cond b (1 + prefix_len (λ x. not (p x)) (xs ++ ys)) 0) (x ∷ (xs ++ ys))) (length ys)
    go true g = subst₂ (λ a b. Grows a b (length ys)) (sym (take_one (prefix_len (λ x. not (p x)) xs) x xs)) (sym (take_one (prefix_len (λ x. not (p x)) (xs ++ ys)) x (xs ++ ys))) (behind x (before_first p xs) (before_first p (xs ++ ys)) (length ys) g)
    go false g = record { more = []; is = refl; few = omega arith }

length_map : (f : ℕ → ℕ) (xs : List ℕ) → length (map f xs) ≤ length xs
length_map f xs = grind (arith, common_steps)

length_filter : (p : ℕ → Bool) (xs : List ℕ) → length (filter p xs) ≤ length xs
length_filter p [] = le_refl 0
length_filter p (x ∷ xs) = go (p x) (length_filter p xs)
  where
    go : (b : Bool) → length (filter p xs) ≤ length xs → length (cond b (x ∷ filter p xs) (filter p xs)) ≤ length (x ∷ xs)
    go true h = omega (arith, h)
    go false h = omega (arith, h)

length_flat_map : (f : ℕ → List ℕ) → ((b : ℕ) → length (f b) ≤ 2) → (xs : List ℕ) → length (flat_map f xs) ≤ 2 * length xs
length_flat_map f two [] = omega arith
length_flat_map f two (x ∷ xs) = let h = length_flat_map f two xs in let t = two x in let e : length (f x ++ flat_map f xs) ≡ length (f x) + length (flat_map f xs) = length-append (f x) (flat_map f xs) in omega (arith, h, t, e)

newline_two : (b : ℕ) → length (cond (b == 10) (13 ∷ 10 ∷ []) (b ∷ [])) ≤ 2
newline_two b = go (b == 10)
  where
    go : (t : Bool) → length (cond t (13 ∷ 10 ∷ []) (b ∷ [])) ≤ 2
    go true = omega arith
    go false = omega arith

-- a conversion grows with its bytes
pub grown : (f : List ℕ → List ℕ) → ((a r : List ℕ) → Grows (f a) (f (a ++ r)) (length r)) → (a b : List ℕ) (n : ℕ) → Grows a b n → Grows (f a) (f b) n
grown f step a b n g = subst (λ z. Grows (f a) (f z) n) (sym g.is) (record { more = (step a g.more).more; is = (step a g.more).is; few = le_trans (step a g.more).few g.few })

pub grown_twice : (f : List ℕ → List ℕ) → ((a r : List ℕ) → Grows (f a) (f (a ++ r)) (2 * length r)) → (a b : List ℕ) (n : ℕ) → Grows a b n → Grows (f a) (f b) (2 * n)
grown_twice f step a b n g = subst (λ z. Grows (f a) (f z) (2 * n)) (sym g.is) (record { more = (step a g.more).more; is = (step a g.more).is; few = let x = (step a g.more).few in let y = g.few in omega (arith, x, y) })

first_grows : (o : Option ℕ) (a r : List ℕ) → Grows (first_bytes o a) (first_bytes o (a ++ r)) (length r)
first_grows None a r = same a r
first_grows (Some k) a r = grows_take k a r

escape_grows : (o : Option ℕ) (a r : List ℕ) → Grows (before_escape o a) (before_escape o (a ++ r)) (length r)
escape_grows None a r = same a r
escape_grows (Some e) a r = grows_before (λ b. b == e) a r

read_grows : (v : Conv) (a r : List ℕ) → Grows (read_converted v a) (read_converted v (a ++ r)) (length r)
read_grows Plain a r = same a r
read_grows Cr a r = record { more = read_converted Cr r; is = map-append _ a r; few = length_map _ r }
read_grows Crnl a r = record { more = read_converted Crnl r; is = filter-append _ a r; few = length_filter _ r }

write_grows : (v : Conv) (a r : List ℕ) → Grows (write_converted v a) (write_converted v (a ++ r)) (2 * length r)
write_grows Plain a r = record { more = r; is = refl; few = omega arith }
write_grows Cr a r = record { more = write_converted Cr r; is = map-append _ a r; few = let h = length_map (λ b. cond (b == 10) 13 b) r in omega (arith, h) }
write_grows Crnl a r = record { more = write_converted Crnl r; is = flat_map-append _ a r; few = length_flat_map _ newline_two r }

pub due_of_grows : (rv wv : Conv) (readbytes escape : Option ℕ) (xs ys : List ℕ) → Grows (due_of rv wv readbytes escape xs) (due_of rv wv readbytes escape (xs ++ ys)) (2 * length ys)
due_of_grows rv wv readbytes escape xs ys =
    grown_twice (write_converted wv) (write_grows wv) (read_converted rv (effective readbytes escape xs)) (read_converted rv (effective readbytes escape (xs ++ ys))) (length ys)
    (grown (read_converted rv) (read_grows rv) (effective readbytes escape xs) (effective readbytes escape (xs ++ ys)) (length ys)
    (grown (before_escape escape) (escape_grows escape) (first_bytes readbytes xs) (first_bytes readbytes (xs ++ ys)) (length ys) (first_grows readbytes xs ys)))

pub due_grows : (c : Config) (w : Way) (xs ys : List ℕ) → Grows (due c w xs) (due c w (xs ++ ys)) (2 * length ys)
due_grows c w xs ys = due_of_grows (options_of c (input c 0 w)).conv (options_of c (output c 0 w)).conv (options_of c (input c 0 w)).input.readbytes (options_of c (input c 0 w)).input.escape xs ys

-- ---- nothing is due of nothing

first_nil : (o : Option ℕ) → first_bytes o [] ≡ []
first_nil None = refl
first_nil (Some zero) = refl
first_nil (Some (suc k)) = refl

escape_nil : (o : Option ℕ) → before_escape o [] ≡ []
escape_nil None = refl
escape_nil (Some e) = refl

read_nil : (v : Conv) → read_converted v [] ≡ []
read_nil Plain = refl
read_nil Cr = refl
read_nil Crnl = refl

write_nil : (v : Conv) → write_converted v [] ≡ []
write_nil Plain = refl
write_nil Cr = refl
write_nil Crnl = refl

pub due_of_nil : (rv wv : Conv) (readbytes escape : Option ℕ) → due_of rv wv readbytes escape [] ≡ []
due_of_nil rv wv readbytes escape =
    ap (λ l. write_converted wv (read_converted rv (before_escape escape l))) (first_nil readbytes)
    ∙ ap (λ l. write_converted wv (read_converted rv l)) (escape_nil escape)
    ∙ ap (write_converted wv) (read_nil rv)
    ∙ write_nil wv

pub due_nil : (c : Config) (w : Way) → due c w [] ≡ []
due_nil c w = due_of_nil (options_of c (input c 0 w)).conv (options_of c (output c 0 w)).conv (options_of c (input c 0 w)).input.readbytes (options_of c (input c 0 w)).input.escape
