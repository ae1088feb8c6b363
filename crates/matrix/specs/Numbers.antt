-- The answers in numbers: a refusal, 0 where the call is answered, and a value. Each case of an answer has its two numbers here, and the
-- calls for other languages answer by them (Manual 10). That of the safety question is in the crate question.
use Rattle.std.specs.Prelude.{ℕ, Bool, cond}
use Rattle.matrix.specs.Answers.{Answer}
use Rattle.matrix.specs.Answers.{Holding}
use Rattle.matrix.specs.Answers.{Outcome}
use Rattle.matrix.specs.declared.Numbers.{Numbers}

abbrev pub truth : Bool → ℕ
truth t = cond t 1 0

abbrev pub numbers : ℕ → ℕ → Numbers
numbers refusal value = record { refusal = refusal; value = value }

-- value 1: yes; 0: no
abbrev pub held_numbers : Holding → Numbers
held_numbers Holding.Yes = numbers 0 1
held_numbers Holding.No = numbers 0 0
held_numbers (Holding.Refused k) = numbers k 0

-- value: the owner links followed, with a refusal too
abbrev pub command_numbers : Answer → Numbers
command_numbers (Answer.Accepted links) = numbers 0 links
command_numbers (Answer.Refused number links) = numbers number links

-- value: the commands accepted, with a refusal too
abbrev pub run_numbers : Outcome → Numbers
run_numbers r = numbers r.refusal r.accepted
