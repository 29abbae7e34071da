-- What a sink took of the bytes that a writer's thread gave to it. Contents that aren't told are None.
use Rattle.std.specs.Prelude.{◌≡◌, ℕ, zero, suc, ◌+◌, ◌-◌, ◌^◌, ◌*◌, ◌<◌, ◌≤◌, min, Bool, true, false, List, ◌++◌, length, take, Option, option_map, IfSome}
use Rattle.std.specs.Io.KnownBytes.{Appends}
use Rattle.ring_writer.specs.declared.writer_outlet.Outlet.{Outlet}

-- a sink that never failed took all bytes; one that did took a front of them before its first fault. Of those bytes the
-- number is kept, or the last number where there are more
abbrev pub Delivered : ℕ → ℕ → Option (List ℕ) → Option (List ℕ) → List ℕ → Type 0
Delivered zero sound before now bytes = (sound ≡ min (length bytes) (2 ^ 64 - 1)) × (now ≡ option_map (λ all. all ++ bytes) before)
Delivered (suc faults) sound before now bytes = (n : ℕ) × (later : List ℕ) × (n ≤ length bytes) × (sound ≡ min n (2 ^ 64 - 1)) × (now ≡ option_map (λ all. all ++ (take n bytes ++ later)) before)

-- the sink took these bytes, up to its first fault
abbrev pub Delivers : {K : Type 0} → (K → Option (List ℕ)) → Option (List ℕ) → Outlet K → List ℕ → Type 0
Delivers took before outlet bytes = Delivered outlet.faults outlet.sound before (took outlet.sink) bytes

-- the writer of std beneath holds all of the bytes more, or those before a fault, where its bytes are known
abbrev pub HoldsFront : Bool → Option (List ℕ) → Option (List ℕ) → List ℕ → Type 0
HoldsFront true before now bytes = Appends before now bytes
HoldsFront false before now bytes = (n : ℕ) × (n ≤ length bytes) × Appends before now (take n bytes)

-- each fault of the sink cost it at most 65,536 of the bytes that were given: it took all others, and may lose so many
-- more
abbrev pub KeptUp : ℕ → ℕ → Option (List ℕ) → Option (List ℕ) → List ℕ → Type 0
KeptUp faults spare before now bytes = faults < 2 ^ 64 - 1 → IfSome before (λ had. IfSome now (λ has. length had + length bytes + spare ≤ length has + 65536 * faults))

-- the sink took what it was given, but for what each fault cost
abbrev pub KeepsUp : {K : Type 0} → (K → Option (List ℕ)) → Option (List ℕ) → Outlet K → ℕ → List ℕ → Type 0
KeepsUp took before outlet spare bytes = KeptUp outlet.faults spare before (took outlet.sink) bytes

-- how many bytes more a sink may lose after a call that came to its end well, or failed
abbrev pub spare_after : Bool → ℕ
spare_after true = 0
spare_after false = 32768

-- a count of faults after a call that came to its end well, or failed
abbrev pub faults_after : Bool → ℕ → ℕ
faults_after true faults = faults
faults_after false faults = min (faults + 1) (2 ^ 64 - 1)
