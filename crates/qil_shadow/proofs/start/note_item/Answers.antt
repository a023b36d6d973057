-- By what the item is.
use Rattle.std.proofs.Common.{rules}
use Rattle.qil_shadow.specs.Objects.{object_named}
use Rattle.qil_shadow.proofs.StartLemmas.{item_number, item_text, item_address}
use Rattle.qil_shadow.proofs.start.note_item.Goals as goal

pub returns-in-Number-clause-noted : goal.returns-in-Number-clause-noted
returns-in-Number-clause-noted g c = λ bs was. item_number (object_named c.args.names.now) c.args.width c.args.item.now _ bs _ _ _ c.in-Number.is (search rules) was

pub returns-in-Text-clause-noted : goal.returns-in-Text-clause-noted
returns-in-Text-clause-noted g c = λ bs was. item_text (object_named c.args.names.now) c.args.width c.args.item.now _ bs _ _ _ c.in-Text.is (search rules) was

pub returns-in-Address-clause-noted : goal.returns-in-Address-clause-noted
returns-in-Address-clause-noted g c = λ bs was.
    item_address c.args.names.now c.args.width c.args.item.now _ _ _ _ bs _ _ _ _ c.in-Address.is (search rules) (search rules) c.store.ensures c.requires.low c.requires.fits (search rules) was
