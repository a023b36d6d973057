-- Answers to the goals of `address_said`.
use Rattle.std.proofs.Common.{sym, subst}
use Rattle.std.specs.Prelude.{ℤ, MatchOption}
use Rattle.std.specs.Int.{w64}
use Rattle.std.proofs.lemmas.Int.{to_z-of_z}
use Rattle.qrev_requests.specs.Members.{json_of}
use Rattle.qrev_inspection.specs.ReadBytes.{IsMovedBy, SaysAddress, SaysNoAddress}
use Rattle.qrev_inspection.proofs.Reading.{fits_said}
use Rattle.qrev_inspection.proofs.memory.address_said.Goals as goal

pub returns-in_err-offset : goal.returns-in_err-offset
returns-in_err-offset g c =
    let none = rw c.in_err-offset.was at c.offset_said.ensures in
    subst (λ r. MatchOption r (SaysNoAddress (json_of c.args.asked)) (SaysAddress (json_of c.args.asked))) (sym c.from_residual-in_err-offset.ensures) (λ a says. none says.offset says.is_offset)

pub returns : goal.returns
returns g c = record {
  text = c.in_ok-text.text.now;
  start = c.in-Ok.start;
  offset = c.in_ok-offset.offset;
  is_said = sym c.in_ok-text.ensures;
  is_start = (rw c.in-Ok.is at c.parse.ensures.value).0;
  is_offset = c.in_ok-offset.ensures;
  is_moved = subst (λ (offset : ℤ). IsMovedBy c.in-Ok.start offset c.address_at.result) (to_z-of_z w64 c.in_ok-offset.offset (fits_said (json_of c.args.asked) c.in_ok-offset.offset c.in_ok-offset.ensures)) c.address_at.ensures;
}
