-- What a read of an input comes to.
use Rattle.std.specs.Prelude.{◌≡◌, ◌≢◌, ℕ, ◌<◌, pos, List, take, Bool, true, false, ◌⊎◌, Option, Some, Result, Ok, Err}
use Rattle.std.specs.declared.io.Error.{Error}
use Rattle.std.specs.IoError.{raw_os_error}
use Rattle.std.specs.Io.KnownBytes.{Keeps, Consumes, IsAtEnd}
use Rattle.port_trait.specs.{SourceGot}
use Rattle.port_trait.specs.declared.answers.SourceGot.TheVariants as gives

-- no bytes are the end, and so is the error 5 (EIO) of a terminal, which has hung up
abbrev pub IsInputAnswer : Bool → Result ℕ Error → SourceGot → Type 0
IsInputAnswer terminal (Ok count) got = (count ≡ 0 → got ≡ gives.End) × (0 < count → got ≡ gives.Bytes count)
IsInputAnswer terminal (Err error) got = (terminal ≡ true → raw_os_error error ≡ Some (pos 5) → got ≡ gives.End) × ((terminal ≡ false) ⊎ (raw_os_error error ≢ Some (pos 5)) → got ≡ gives.Failed)

-- the reader lost the bytes that this answer hands out, and none with any other; only a terminal may end before its end
abbrev pub InputGives : Bool → Option (List ℕ) → Option (List ℕ) → List ℕ → SourceGot → Type 0
InputGives terminal before now into (gives.Bytes n) = Consumes before now (take n into)
InputGives terminal before now into gives.End = Keeps before now × (terminal ≡ false → IsAtEnd now)
InputGives terminal before now into gives.Failed = Keeps before now
