-- Trusted are the subjects whose bit in the mask is set, whether they exist or not (Manual 8.1). Subjects beyond the record are untrusted.
use Rattle.std.specs.Prelude.{ℕ, Bool}
use Rattle.matrix.specs.Bytes.{bit}

-- the trusted set of a mask
abbrev pub trusted_by : ℕ → ℕ → Bool
trusted_by mask s = bit s mask
