-- What stays of a packet.
use Rattle.std.proofs.Common.{◌≡◌, ℕ, ◌+◌, ◌-◌, ◌≤◌, ◌<◌, List, take, drop, ap, sym, subst, refl, ◌∙◌, arith}
use Rattle.std.proofs.lemmas.List.{drop-take, drop-drop}
use Rattle.std.specs.Prelude.{Result, zero, suc}
use Rattle.std.specs.declared.io.Error.{Error}
use Rattle.std.specs.declared.net.socket_addr.SocketAddr.{SocketAddr}
use Rattle.socket_kinds.specs.declared.packet.FetchedPacket.{FetchedPacket}
use Rattle.socket_kinds.specs.declared.packet.FetchedPacket.TheVariants as fetches
use Rattle.socket_kinds.specs.declared.packet.Partner.{Partner}
use Rattle.socket_kinds.specs.Datagrams.{Asks, AsksPast, Drops}

-- the range from `from` to `to` less its first bytes is a shorter range
pub rest_of : (bytes : List ℕ) (from to count : ℕ) → count ≤ to - from → take (to - (from + count)) (drop (from + count) bytes) ≡ drop count (take (to - from) (drop from bytes))
rest_of bytes from to count within =
    let size : count + (to - (from + count)) ≡ to - from = omega (arith, within) in
    ap (take (to - (from + count))) (sym (drop-drop count from bytes)) ∙ sym (drop-take count (to - (from + count)) (drop from bytes)) ∙ ap (λ n. drop count (take n (drop from bytes))) size

module _ {U : Type 0} (receives : U → U → List ℕ → Result ℕ Error → Type 0) (receives_from : U → U → List ℕ → Result (ℕ × SocketAddr) Error → Type 0) where
  -- nothing was dropped yet
  drops_start : (partner : Partner) (before : U) → Drops receives receives_from partner zero before before
  unfolding Drops
  drops_start partner before = refl

  pub drops_none : (partner : Partner) (n : ℕ) (before now : U) → n ≡ 0 → now ≡ before → Drops receives receives_from partner n before now
  drops_none partner n before now none same = subst (λ k. Drops receives receives_from partner k before now) (sym none) (subst (λ u. Drops receives receives_from partner 0 before u) (sym same) (drops_start partner before))

  drops_next : (partner : Partner) (n : ℕ) (before mid now : U) (packet : List ℕ) → Drops receives receives_from partner n before mid → Asks receives receives_from partner mid now packet fetches.Others → Drops receives receives_from partner (suc n) before now
  unfolding Drops
  drops_next partner n before mid now packet drops asks = (mid, packet, drops, asks)

  -- one more datagram of another is dropped
  pub drops_one : (partner asked : Partner) (n m : ℕ) (before mid now : U) (packet : List ℕ) (fetched : FetchedPacket) → asked ≡ partner → fetched ≡ fetches.Others → m ≡ n + 1 → Drops receives receives_from partner n before mid → Asks receives receives_from asked mid now packet fetched → Drops receives receives_from partner m before now
  drops_one partner asked n m before mid now packet fetched same other more drops asks =
      let next : suc n ≡ m = omega (arith, more) in
      let others : Asks receives receives_from asked mid now packet fetches.Others = subst (λ f. Asks receives receives_from asked mid now packet f) other asks in
      subst (λ k. Drops receives receives_from partner k before now) next (drops_next partner n before mid now packet drops (subst (λ p. Asks receives receives_from p mid now packet fetches.Others) same others))

  -- an asking behind those that were dropped
  pub asks_past : (partner asked : Partner) (n : ℕ) (before mid now : U) (packet : List ℕ) (fetched : FetchedPacket) → asked ≡ partner → n < 64 → Drops receives receives_from partner n before mid → Asks receives receives_from asked mid now packet fetched → AsksPast receives receives_from partner before now packet fetched
  asks_past partner asked n before mid now packet fetched same few drops asks = (n, mid, few, drops, subst (λ p. Asks receives receives_from p mid now packet fetched) same asks)
