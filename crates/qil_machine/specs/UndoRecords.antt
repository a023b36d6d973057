-- What an undo record keeps, by its kind, as a move.
use Rattle.std.specs.Prelude.{◌<◌, ◌≤◌, ◌^◌, [], ◌∷◌, length, Some}
use Rattle.qil_layout.specs.Layout.{low_bytes}
use Rattle.qil_machine.specs.declared.undo_record.UndoKind.{UndoKind}
use Rattle.qil_machine.specs.declared.undo_record.UndoKind.TheVariants as kinds
use Rattle.qil_machine.specs.Moves.{Move, at, end_of}
use Rattle.qil_machine.specs.Kinds.{one, value_of, slots_move, bytes_move, called_move, returned_move, grown_move, copied_move, wrote_move, ended_move, poked_slot_move, poked_bytes_move}

abbrev pub move_of : {A : Type 0} → UndoKind A → Move
move_of (kinds.Assigned slot index value) = slots_move (at index) (one slot value)
move_of (kinds.Stored count index address number) = bytes_move index address (low_bytes count number)
move_of (kinds.Left block) = slots_move (end_of block) []
move_of (kinds.LeftOne block slot value) = slots_move (end_of block) (one slot value)
move_of (kinds.LeftTwo block a b x y) = slots_move (end_of block) (record { slot = a; value = Some x } ∷ record { slot = b; value = Some y } ∷ [])
move_of (kinds.LeftShort block kept) = slots_move (end_of block) kept.value.items
move_of (kinds.LeftMany block kept) = slots_move (end_of block) kept.value.items
move_of (kinds.Called index) = called_move index
move_of (kinds.Returned set top value frame) = returned_move frame top (value_of set value)
move_of (kinds.Grew grown) = grown_move grown.value.index grown.value.slot grown.value.value grown.value.saved
move_of (kinds.Copied copied) = copied_move copied.value.index copied.value.saved
move_of (kinds.Wrote index count) = wrote_move index count []
move_of (kinds.WroteTo set slot index count value) = wrote_move index count (one slot (value_of set value))
move_of kinds.Ended = ended_move
move_of (kinds.PokedSlot set slot value) = poked_slot_move slot (value_of set value)
move_of (kinds.PokedBytes count address number) = poked_bytes_move address (low_bytes count number)

-- what the type keeps of a kind
abbrev pub IsKind : {A : Type 0} → UndoKind A → Type 0
IsKind (kinds.Stored count index address number) = count ≤ 8
IsKind (kinds.PokedBytes count address number) = count ≤ 8
IsKind (kinds.LeftShort block kept) = length kept.value.items < 2 ^ 32
IsKind (kinds.LeftMany block kept) = length kept.value.items < 2 ^ 32
IsKind (kinds.Grew grown) = length grown.value.saved.bytes ≤ 2 ^ 32
IsKind (kinds.Copied copied) = length copied.value.saved.bytes ≤ 2 ^ 32
IsKind (kinds.Returned set top value frame) = length frame.slots ≤ 65535
IsKind k = Unit {0}
