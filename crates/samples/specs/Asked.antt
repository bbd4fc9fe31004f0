-- One sample of a line, asked of an image prefix held from byte 0 (document 02, No. 2): what `Samples` says of the line view there. Assumes nothing.
use Rattle.std.specs.Prelude.{ℕ, List}
use Rattle.lines.specs.View.{view_of, sort_seen}
use Rattle.samples.specs.Samples.{Patterned, Sampled, Powered, patterned_by, sampled_by, powered_by}

-- what stands at sample i of line k, bits kept
unfoldable pub pattern_of : List ℕ → ℕ → ℕ → Patterned
pattern_of bs k i = patterned_by (view_of bs k) (sort_seen bs) bs i

-- sample i of line k: a count, or two floats
unfoldable pub sample_of : List ℕ → ℕ → ℕ → Sampled
sample_of bs k i = sampled_by (view_of bs k) (sort_seen bs) bs i

-- its power
unfoldable pub power_of : List ℕ → ℕ → ℕ → Powered
power_of bs k i = powered_by (view_of bs k) (sort_seen bs) bs i
