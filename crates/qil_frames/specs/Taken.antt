-- What takes the value that a call returns, as a frame keeps it.
use Rattle.std.specs.Prelude.{Option, option_map}
use Rattle.qil_code.specs.declared.numbered.Receiver.{Receiver}
use Rattle.qil_frames.specs.declared.frame.Taker.{Taker}

-- with no type, nothing takes it
abbrev pub taken : Taker → Option Receiver
taken t = option_map (λ abi_type. record { slot = t.slot; abi_type = abi_type }) t.abi_type
