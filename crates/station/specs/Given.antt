-- A command's five numbers as the public call takes them.
use Rattle.std.specs.Prelude.{ℕ}
use Rattle.matrix.specs.declared.Fields.{Fields}

abbrev pub fields_of : ℕ → ℕ → ℕ → ℕ → ℕ → Fields
fields_of code i s o k = record { code = code; i = i; s = s; o = o; k = k }
