-- By which instruction it is.
use Rattle.std.proofs.Common.{◌∙◌, sym, subst}
use Rattle.qil_code.specs.declared.numbered.NumberedInst.TheVariants.{Call}
use Rattle.qil_shadow.specs.Instructions.{HasDone}
use Rattle.qil_shadow.specs.Shapes.{HasLeft}
use Rattle.qil_shadow.proofs.shadow.Shadow.do_inst.Goals as goal

pub returns-in_ok-assign-in-Assign-clause-done : goal.returns-in_ok-assign-in-Assign-clause-done
returns-in_ok-assign-in-Assign-clause-done g c = subst (λ i. HasDone c.args.code.now c.args.place c.args.slots.now i c.args.self.now c.assign.new.self) (sym c.in-Assign.is) c.in_ok-assign-in-Assign.ensures.done

pub returns-in_ok-store-in-Store-clause-done : goal.returns-in_ok-store-in-Store-clause-done
returns-in_ok-store-in-Store-clause-done g c = subst (λ i. HasDone c.args.code.now c.args.place c.args.slots.now i c.args.self.now c.store.new.self) (sym c.in-Store.is) c.in_ok-store-in-Store.ensures.done

pub returns-in_ok-alloc_slot-in-Alloc-clause-done : goal.returns-in_ok-alloc_slot-in-Alloc-clause-done
returns-in_ok-alloc_slot-in-Alloc-clause-done g c =
    subst (λ i. HasDone c.args.code.now c.args.place c.args.slots.now i c.args.self.now c.alloc_slot.new.self) (sym c.in-Alloc.is) (c.in_ok-alloc_slot-in-Alloc.ensures.done c.args.code.now _)

pub returns-in_ok-blit-in-Blit-clause-done : goal.returns-in_ok-blit-in-Blit-clause-done
returns-in_ok-blit-in-Blit-clause-done g c = subst (λ i. HasDone c.args.code.now c.args.place c.args.slots.now i c.args.self.now c.blit.new.self) (sym c.in-Blit.is) c.in_ok-blit-in-Blit.ensures.done

pub returns-in_ok-call-in-Call-clause-done : goal.returns-in_ok-call-in-Call-clause-done
returns-in_ok-call-in-Call-clause-done g c =
    subst (λ i. HasDone c.args.code.now c.args.place c.args.slots.now i c.args.self.now c.call.new.self) ((λ j. Call c.in-Call.to c.in-Call.callee (c.as_slice.ensures j)) ∙ sym c.in-Call.is) c.in_ok-call-in-Call.ensures.done

pub returns-in_ok-assign-in-Assign-clause-left : goal.returns-in_ok-assign-in-Assign-clause-left
returns-in_ok-assign-in-Assign-clause-left g c =
    subst (λ i. HasLeft c.args.code.now c.args.place c.args.slots.now i c.args.self.now c.assign.new.self) (sym c.in-Assign.is) c.in_ok-assign-in-Assign.ensures.left

pub returns-in_ok-store-in-Store-clause-left : goal.returns-in_ok-store-in-Store-clause-left
returns-in_ok-store-in-Store-clause-left g c =
    subst (λ i. HasLeft c.args.code.now c.args.place c.args.slots.now i c.args.self.now c.store.new.self) (sym c.in-Store.is) c.in_ok-store-in-Store.ensures.left

pub returns-in_ok-alloc_slot-in-Alloc-clause-left : goal.returns-in_ok-alloc_slot-in-Alloc-clause-left
returns-in_ok-alloc_slot-in-Alloc-clause-left g c =
    subst (λ i. HasLeft c.args.code.now c.args.place c.args.slots.now i c.args.self.now c.alloc_slot.new.self) (sym c.in-Alloc.is) (c.in_ok-alloc_slot-in-Alloc.ensures.left c.args.code.now _)

pub returns-in_ok-blit-in-Blit-clause-left : goal.returns-in_ok-blit-in-Blit-clause-left
returns-in_ok-blit-in-Blit-clause-left g c =
    subst (λ i. HasLeft c.args.code.now c.args.place c.args.slots.now i c.args.self.now c.blit.new.self) (sym c.in-Blit.is) c.in_ok-blit-in-Blit.ensures.left

pub returns-in_ok-call-in-Call-clause-left : goal.returns-in_ok-call-in-Call-clause-left
returns-in_ok-call-in-Call-clause-left g c =
    subst (λ i. HasLeft c.args.code.now c.args.place c.args.slots.now i c.args.self.now c.call.new.self) ((λ j. Call c.in-Call.to c.in-Call.callee (c.as_slice.ensures j)) ∙ sym c.in-Call.is) c.in_ok-call-in-Call.ensures.left
