use Rattle.std.proofs.Common.{◌≡◌, length, ap, sym, ◌∙◌, Ok}
use Rattle.arrayvec.proofs.ArrayVecLemmas.{items-with_items}
use Rattle.qil_frames.proofs.PhiLemmas.{gathered-fits, many_done}
use Rattle.qil_frames.proofs.phis.do_short.Goals as goal

pub exchange-requires : goal.exchange-requires
exchange-requires g c = rw (c.deref_mut.ensures.value, c.as_mut.ensures.value, c.in-Ok-new.ensures.ok) (gathered-fits (length c.args.values.now) c.args.values.now c.args.moves.now c.in-Ok.new.items c.requires.range c.in-Ok.ensures)

pub returns-in-Ok-new-clause-ok : goal.returns-in-Ok-new-clause-ok
returns-in-Ok-new-clause-ok g c =
    let lent : c.deref_mut.result.now ≡ c.in-Ok.new.items = c.deref_mut.ensures.value ∙ ap (λ v. v.items) (c.as_mut.ensures.value ∙ c.in-Ok-new.ensures.ok) in
    rw (items-with_items c.as_mut.result.now c.exchange.new.new (c.exchange.ensures.count ∙ ap length c.deref_mut.ensures.value))
    (many_done c.args.moves.now c.args.values.now c.exchange.new.values c.deref_mut.result.now c.exchange.new.new (c.in-Ok.ensures ∙ ap (λ ks. Ok ks) (sym lent)) c.exchange.ensures.after c.exchange.ensures.undo c.exchange.ensures.fits c.exchange.ensures.count)
