-- What numbering takes from the rules, and the code that it makes.
use Rattle.std.proofs.Common.{◌≡◌, ◌∙◌, sym, ap, subst, []}
use Rattle.std.specs.Prelude.{All, map}
use Rattle.qil_rules.specs.Rules.{WellFormed}
use Rattle.qil_tree.specs.Trees.{HasBlocks}
use Rattle.qil_layout.proofs.FewFunctions.{few_functions}
use Rattle.qil_symbols.specs.Numbers.{recorded}
use Rattle.qil_code.specs.Facts.{IsNumerable}
use Rattle.qil_code.specs.Numbered.{func_code}
use Rattle.qil_code.specs.Ranges.{FuncIsShort}
use Rattle.qil_resolution.proofs.Facts.{numerable, finds}
use Rattle.qil_resolution.proofs.KnownLabels.{knows_labels}
use Rattle.qil_code.proofs.KnownTemps.{knows_temps}
use Rattle.qil_resolution.proofs.Whole.{codes-are}
use Rattle.qil_resolution.proofs.numbering.numbered.Goals as goal

pub funcs_code-requires : goal.funcs_code-requires
funcs_code-requires g c =
    let kept : WellFormed c.program-program.result.now = subst WellFormed (sym c.program-program.ensures.program) c.program-program.ensures.well_formed in
    subst (λ fs. All IsNumerable fs) (sym c.as_slice-2.ensures) (numerable c.program-program.result.now kept).each

pub new-requires : goal.new-requires
new-requires g c =
    let p = c.program-program.result.now in
    let kept : WellFormed p = subst WellFormed (sym c.program-program.ensures.program) c.program-program.ensures.well_formed in
    let image : c.args.image.now ≡ p = c.requires ∙ sym c.program-program.ensures.program in
    let funcs_are : c.in_ok-funcs.funcs.items ≡ map (func_code p) p.funcs =
    codes-are p c.args.image.now _ c.in_ok-funcs.funcs.items c.in_ok-funcs.ensures.codes c.as_slice-2.ensures image in
    record {
      image_is = image;
      names_are = c.in_ok-kept.ensures ∙ c.in_ok-names.ensures ∙ ap (λ fs. recorded [] (map (λ f. f.name) fs)) c.as_slice.ensures ∙ (numerable p kept).names;
      funcs_are = funcs_are;
      few = few_functions p kept;
      blocks = subst HasBlocks (sym c.program-program.ensures.program) c.program-program.ensures.blocks;
      numerable = numerable p kept;
      finds = finds p kept;
      knows = knows_labels p kept;
      temps = knows_temps p kept;
      short = subst (λ ks. All FuncIsShort ks) funcs_are c.in_ok-funcs.ensures.short;
    }
