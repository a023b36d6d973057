-- The first that are there from the start on, then those of the stack.
use Rattle.std.proofs.Common.{rules, ◌≡◌, ap, ◌∙◌, subst, take, None, Some}
use Rattle.std.specs.Prelude.{find}
use Rattle.std.specs.Option.{option_copied}
use Rattle.qil_shadow.specs.Table.{ObjectTable, has_one, object_at, HasFound}
use Rattle.qil_shadow.proofs.ObjectLemmas.{found_first_of, found_last_of, numbers_there}
use Rattle.qil_shadow.proofs.object.Objects.at.Goals as goal

pub last_with-requires : goal.last_with-requires
last_with-requires g c = rw (c.as_slice-in-None-2.ensures.value, c.as_slice-in-None.ensures.value) (numbers_there _ _ _ _ _ c.self.invariant)

pub returns-in-Some : goal.returns-in-Some
returns-in-Some g c =
    let first : Some c.in-Some.object.now ≡ find (has_one c.args.address) (take c.self.inside.fixed c.self.inside.all.items) = search rules in
    found_first_of _ _ _ _ _ _ _ c.self.invariant first ∙ ap (λ (t : ObjectTable). object_at t.objects c.args.address) c.self.view_is

pub returns-in-None : goal.returns-in-None
returns-in-None g c =
    let first : None ≡ find (has_one c.args.address) (take c.self.inside.fixed c.self.inside.all.items) = search rules in
    let found : HasFound c.self.inside.all.items c.self.inside.living.items c.args.address (option_copied c.last_with.result) =
    subst (λ ns. HasFound c.self.inside.all.items ns c.args.address (option_copied c.last_with.result)) c.as_slice-in-None-2.ensures.value
    (subst (λ xs. HasFound xs c.as_slice-in-None-2.result.now c.args.address (option_copied c.last_with.result)) c.as_slice-in-None.ensures.value c.last_with.ensures) in
    found_last_of _ _ _ _ _ _ _ c.self.invariant first found ∙ ap (λ (t : ObjectTable). object_at t.objects c.args.address) c.self.view_is
