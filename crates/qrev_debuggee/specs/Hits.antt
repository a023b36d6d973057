-- How often a run has to have come to a breakpoint.
use Rattle.std.specs.Prelude.{◌≡◌, ◌≢◌, ℕ, ◌≤◌, ◌<◌, ◌%◌}
use Rattle.qrev_debuggee.specs.declared.rules.Comparison.{Comparison}
use Rattle.qrev_debuggee.specs.declared.rules.Comparison.TheVariants as comparisons

-- so many times are enough, where a count is compared so
abbrev pub Allows : Comparison → ℕ → ℕ → Type 0
Allows comparisons.AtLeast count hits = count ≤ hits
Allows comparisons.More count hits = count < hits
Allows comparisons.Equal count hits = hits ≡ count
Allows comparisons.AtMost count hits = hits ≤ count
Allows comparisons.Fewer count hits = hits < count
Allows comparisons.MultipleOf count hits = (count ≢ 0) × (hits % count ≡ 0)
