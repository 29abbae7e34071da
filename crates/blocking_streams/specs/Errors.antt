-- What comes after a call on a stream that the system refused.
use Rattle.std.specs.Prelude.{◌≡◌, ◌≢◌}
use Rattle.std.specs.declared.io.Error.{Error}
use Rattle.std.specs.declared.io.ErrorKind.{ErrorKind}
use Rattle.std.specs.declared.io.ErrorKind.TheVariants.{WouldBlock, Interrupted}
use Rattle.std.specs.IoError.{error_kind}
use Rattle.blocking_streams.specs.declared.calls.Next.{Next}
use Rattle.blocking_streams.specs.declared.calls.Next.TheVariants as nexts

-- the call is made again where it would have waited or a signal came first, and fails with any other error
pub record IsNext (kind : ErrorKind) (next : Next) : Type 0 where
  pub waits : kind ≡ WouldBlock → next ≡ nexts.WaitAndRetry
  pub retries : kind ≡ Interrupted → next ≡ nexts.Retry
  pub fails : kind ≢ WouldBlock → kind ≢ Interrupted → next ≡ nexts.Fail

-- an error at which the call isn't made again
abbrev pub IsLast : Error → Type 0
IsLast error = (error_kind error ≢ WouldBlock) × (error_kind error ≢ Interrupted)
