-- The status that the process ends with where nothing was run.
use Rattle.std.specs.Prelude.{ℕ}
use Rattle.qil_options.specs.declared.failure.Failure.{Failure}
use Rattle.qil_options.specs.declared.failure.Failure.TheVariants as failure

abbrev pub failure_status : Failure → ℕ
failure_status failure.Helped = 0
failure_status failure.Unhelped = 2
failure_status failure.Unreadable = 2
failure_status failure.NoKeys = 2
failure_status failure.OutOfMemory = 3
failure_status failure.Usage = 64
