-- What is read of a file, to its end.
use Rattle.std.specs.Prelude.{◌≡◌, ◌<◌, ◌⊎◌, ℕ, pos, Bool, true, List, length, take, Option, Some, Result, Ok, Err}
use Rattle.std.specs.declared.io.Error.{Error}
use Rattle.std.specs.IoError.{raw_os_error}
use Rattle.std.specs.Io.KnownBytes.{Keeps, Consumes, IsAtEnd}

-- a read of a terminal failed as it does once that hung up, with EIO
abbrev pub IsHangUp : Bool → Error → Type 0
IsHangUp is_terminal error = (is_terminal ≡ true) × (raw_os_error error ≡ Some (pos 5))

-- a read is answered as the file answers it, but that a terminal that hung up gives no byte
abbrev pub IsToHangUp : Bool → Result ℕ Error → Result ℕ Error → Type 0
IsToHangUp is_terminal (Ok count) read = read ≡ Ok count
IsToHangUp is_terminal (Err error) read = (IsHangUp is_terminal error → read ≡ Ok 0) × (¬ (IsHangUp is_terminal error) → read ≡ Err error)

-- a read took the bytes that it gave. It gave none at the end, and where a terminal hung up, and took none at a fault
abbrev pub GaveToHangUp : Bool → Option (List ℕ) → Option (List ℕ) → List ℕ → Result ℕ Error → Type 0
GaveToHangUp is_terminal before now into (Ok count) = (Consumes before now (take count into) × (count ≡ 0 → 0 < length into → IsAtEnd now)) ⊎ ((is_terminal ≡ true) × (count ≡ 0) × Keeps before now)
GaveToHangUp is_terminal before now into (Err error) = Keeps before now
