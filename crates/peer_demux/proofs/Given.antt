-- What a socket in memory has given, from one receiving to the next.
use Rattle.std.proofs.Common.{◌≡◌, ℕ, zero, suc, ◌+◌, ◌<◌, ◌≤◌, List, [], ◌∷◌, ◌++◌, length, take, get_or, Some, refl, sym, ap, subst, ◌∙◌, append_assoc, add-one, arith}
use Rattle.std.proofs.lemmas.List.{append-nil}
use Rattle.peer_demux.specs.declared.links.Received.{Received}
use Rattle.peer_demux.specs.declared.mem_link.LinkItem.{LinkItem}
use Rattle.peer_demux.specs.declared.mem_link.LinkItem.TheVariants as items
use Rattle.peer_demux.specs.Links.{AllFit, IsFit, IsGiven, Packet, Receives, item_packet, packets_of}

pub fit_push : (xs : List LinkItem) (x : LinkItem) → AllFit xs → IsFit x → AllFit (xs ++ x ∷ [])
fit_push [] x all fit = (fit, tt)
fit_push (y ∷ ys) x all fit = (all.0, fit_push ys x all.1 fit)

pub fit_at : (xs : List LinkItem) (n : ℕ) (x : LinkItem) → AllFit xs → n < length xs → x ≡ get_or xs n x → IsFit x
fit_at [] n x all within e = absurd (omega arith)
fit_at (y ∷ ys) zero x all within e = subst IsFit (sym e) all.0
fit_at (y ∷ ys) (suc n) x all within e = fit_at ys n x all.1 (omega arith) e

pub given_more : (xs : List LinkItem) (n : ℕ) (x : LinkItem) → n < length xs → x ≡ get_or xs n x → packets_of (take (suc n) xs) ≡ packets_of (take n xs) ++ item_packet x
given_more [] n x within e = absurd (omega arith)
given_more (y ∷ ys) zero x within e = append-nil (item_packet y) ∙ ap item_packet (sym e)
given_more (y ∷ ys) (suc n) x within e = ap (λ rest. item_packet y ++ rest) (given_more ys n x (omega arith) e) ∙ sym (append_assoc (item_packet y) (packets_of (take n ys)) (item_packet x))

-- what was given before stays so where an item is appended
pub given_push : (xs : List LinkItem) (n : ℕ) (x : LinkItem) → n ≤ length xs → packets_of (take n (xs ++ x ∷ [])) ≡ packets_of (take n xs)
given_push xs zero x within = refl
given_push [] (suc n) x within = absurd (omega arith)
given_push (y ∷ ys) (suc n) x within = ap (λ rest. item_packet y ++ rest) (given_push ys n x (omega arith))

-- an item that is used adds its packet
pub receives_of : (item : LinkItem) (into : List ℕ) (received : Received) (before now : List Packet) → IsGiven item into received → IsFit item → now ≡ before ++ item_packet item → Receives (Some before) (Some now) into received
receives_of (items.Packet from bytes) into received before now is fit e =
    subst (Receives (Some before) (Some now) into) (sym is.0) (fit, ap Some (e ∙ ap (λ (b : List ℕ). before ++ (from, b) ∷ []) (sym is.1)))
receives_of items.NotYet into received before now is fit e = subst (Receives (Some before) (Some now) into) (sym is) (ap Some (e ∙ append-nil before))
receives_of items.Fault into received before now is fit e = subst (Receives (Some before) (Some now) into) (sym is) (ap Some (e ∙ append-nil before))

-- the next item is used
pub used : (xs : List LinkItem) (n : ℕ) (x : LinkItem) (into : List ℕ) (received : Received) → AllFit xs → n < length xs → x ≡ get_or xs n x → IsGiven x into received → Receives (Some (packets_of (take n xs))) (Some (packets_of (take (n + 1) xs))) into received
used xs n x into received all within read is =
    receives_of x into received (packets_of (take n xs)) (packets_of (take (n + 1) xs)) is (fit_at xs n x all within read) (ap (λ (k : ℕ). packets_of (take k xs)) (add-one n) ∙ given_more xs n x within read)
