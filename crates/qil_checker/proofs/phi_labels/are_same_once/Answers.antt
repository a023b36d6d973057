-- The names stand once each and each list has all names of the other.
use Rattle.std.proofs.Common.{◌≡◌, arith, true}
use Rattle.qil_rules.specs.Text.{AreDistinct}
use Rattle.qil_checker.specs.Tables.{place_in, AreKnown}
use Rattle.qil_checker.proofs.Tables.Same.{known_of, same_both}
use Rattle.qil_checker.proofs.phi_labels.are_same_once.Goals.{then-each_once, else-each_once}
use Rattle.qil_checker.proofs.phi_labels.are_same_once.Goals as goal

pub returns-else-all_known : goal.returns-else-all_known
returns-else-all_known g c = (
  λ t. absurd cc,
  λ s. elim c.if-each_once.branch [
    | then-each_once w ↦
        let known : w.all_known.result ≡ true = w.all_known.ensures.1 (known_of c.args.names.now c.args.others.now (place_in c.args.there.now.places) c.requires.there (λ x. (s.1 x).0)) in
        absurd (grind arith)
    | else-each_once w ↦
        let once : c.each_once.result ≡ true = c.each_once.ensures.1 s.0 in
        absurd (grind arith)
  ],
)

pub returns-then-all_known : goal.returns-then-all_known
returns-then-all_known g c = elim c.if-each_once.branch [
  | then-each_once w ↦
      let d : AreDistinct c.args.names.now = c.each_once.ensures.0 (grind arith) in
      let k : AreKnown c.args.names.now (place_in c.args.there.now.places) = w.all_known.ensures.0 (grind arith) in
      let both = same_both c.args.names.now c.args.others.now (place_in c.args.here.now.places) (place_in c.args.there.now.places) c.requires.here c.requires.there d k in
      (λ t. both.0 (c.all_known-then-all_known.ensures.0 t), λ s. c.all_known-then-all_known.ensures.1 (both.1 s))
  | else-each_once w ↦ absurd (grind arith)
]
