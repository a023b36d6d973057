-- Answers to the goals of `put_line`.
use Rattle.std.proofs.Common.{sym, ap, ◌∙◌, ◌≡◌, ◌++◌, ℕ, Option}
use Rattle.std.specs.Prelude.{option_map}
use Rattle.qrev_views.specs.Sources.{counted_line, origin_of, place_tokens}
use Rattle.qrev_views.specs.declared.source_map.SourceLine.{SourceLine}
use Rattle.qrev_views.proofs.ShownPlaces.{shown_itself, shown_there}
use Rattle.qrev_views.proofs.frames.put_line.Goals as goal

pub returns-in-None : goal.returns-in-None
returns-in-None g c =
    let shown = c.args.shown in
    let line = c.args.line in
    let placed = c.in_ok-item-in-None.ensures in
    let none = sym (ap (λ (o : Option (SourceLine g.row.A.Denot)). option_map (λ (s : SourceLine g.row.A.Denot). s.line) o) c.in-None.is) ∙ c.in_ok-found.ensures in (
      place_tokens placed.0 shown.path.now (counted_line shown.numbering line),
      shown_itself shown (origin_of c.args.source_map line) line placed.0 none,
      placed.1 ∙ ap (λ (n : ℕ). c.args.item.out.tokens ++ place_tokens placed.0 shown.path.now n) c.line.ensures,
    )

pub returns : goal.returns
returns g c =
    let shown = c.args.shown in
    let line = c.args.line in
    let source = c.in-Some.source in
    let placed = c.in_ok-item.ensures in
    let some = sym (ap (λ (o : Option (SourceLine g.row.A.Denot)). option_map (λ (s : SourceLine g.row.A.Denot). s.line) o) c.in-Some.is) ∙ c.in_ok-found.ensures in (
      place_tokens placed.0 c.as_str.result.now (counted_line shown.numbering source.line),
      shown_there shown (origin_of c.args.source_map line) line source.line placed.0 c.as_str.result.now some,
      placed.1 ∙ ap (λ (n : ℕ). c.args.item.out.tokens ++ place_tokens placed.0 c.as_str.result.now n) c.line-2.ensures,
    )
