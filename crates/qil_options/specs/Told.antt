-- What a command line that isn't run is told.
use Rattle.std.specs.Prelude.{◌≡◌, ◌⊎◌}
use Rattle.clap.specs.declared.error.kind.ErrorKind.{ErrorKind}
use Rattle.clap.specs.declared.error.kind.ErrorKind.TheVariants as kinds
use Rattle.qil_options.specs.declared.failure.Failure.{Failure}
use Rattle.qil_options.specs.declared.failure.Failure.TheVariants as failures

-- which failure an error of `clap` is, once its text was put
abbrev pub IsTold : ErrorKind → Failure → Type 0
IsTold kinds.OutOfMemory failure = failure ≡ failures.OutOfMemory
IsTold kinds.DisplayHelp failure = (failure ≡ failures.Helped) ⊎ (failure ≡ failures.Unhelped)
IsTold kinds.DisplayVersion failure = (failure ≡ failures.Helped) ⊎ (failure ≡ failures.Unhelped)
IsTold kind failure = failure ≡ failures.Usage

-- of words that aren't taken, or of memory
abbrev pub IsRefused : Failure → Type 0
IsRefused failure = (failure ≡ failures.Usage) ⊎ (failure ≡ failures.OutOfMemory)

-- of words, which may also have asked for help
abbrev pub IsOfWords : Failure → Type 0
IsOfWords failure = (failure ≡ failures.Helped) ⊎ ((failure ≡ failures.Unhelped) ⊎ IsRefused failure)

-- of a file that can't be read, or of memory
abbrev pub IsOfText : Failure → Type 0
IsOfText failure = (failure ≡ failures.Unreadable) ⊎ (failure ≡ failures.OutOfMemory)
