-- The answer to a safety question in numbers, as those of the other calls (Manual 10).
use Rattle.std.specs.Prelude.{◌+◌}
use Rattle.matrix.specs.declared.Numbers.{Numbers}
use Rattle.matrix.specs.Numbers.{numbers}
use Rattle.question.specs.Safety.{Safety}

-- value 0: safe; N + 1: leaks by N commands
abbrev pub safety_numbers : Safety → Numbers
safety_numbers Safety.Safe = numbers 0 0
safety_numbers (Safety.Leaks commands) = numbers 0 (commands + 1)
safety_numbers (Safety.Refused k) = numbers k 0
