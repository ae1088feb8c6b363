-- The refusals in code, and the numbers that the definitions have for them (Manual 7.1); and the answers in code as the definitions have them.
use Rattle.std.specs.Prelude.{ℕ, ◌+◌, Bool, cond, Option, Some, None, Result, Ok, Err}
use Rattle.matrix.specs.declared.Refusal.{Refusal}
use Rattle.matrix.specs.declared.Refused.{Refused}
use Rattle.matrix.specs.declared.Numbers.{Numbers}
use Rattle.matrix.specs.Answers.{Answer, Holding, Outcome}
use Rattle.matrix.specs.Numbers.{numbers}

abbrev pub refusal_number : Refusal → ℕ
refusal_number Refusal.RecordShort = 1
refusal_number Refusal.Version = 2
refusal_number Refusal.Counts = 3
refusal_number Refusal.RecordLength = 4
refusal_number Refusal.NotValid = 5
refusal_number Refusal.Code = 6
refusal_number Refusal.Bounds = 7
refusal_number Refusal.InitiatorAbsent = 8
refusal_number Refusal.WrongKind = 9
refusal_number Refusal.NameAbsent = 10
refusal_number Refusal.NameExists = 11
refusal_number Refusal.RightLacking = 12
refusal_number Refusal.WalkMeets = 13
refusal_number Refusal.OtherController = 14
refusal_number Refusal.BufferShort = 15
refusal_number Refusal.ListForm = 16
refusal_number Refusal.WindowNumber = 17
refusal_number Refusal.HighRight = 18
refusal_number Refusal.NotSet = 19

-- the number of the refusal that an answer gives, 0 where it gives none
abbrev pub number_of : {A : Type 0} → Result A Refusal → ℕ
number_of (Ok _) = 0
number_of (Err r) = refusal_number r

-- a refusal with nothing beside it
abbrev pub alone : Refusal → Refused
alone r = record { refusal = r; value = 0 }

-- the answer to a held question; to a command, with its links; to a list run, with the commands accepted
abbrev pub holding_of : Result Bool Refusal → Holding
holding_of (Ok held) = cond held Holding.Yes Holding.No
holding_of (Err r) = Holding.Refused (refusal_number r)

abbrev pub answer_of : Result ℕ Refused → Answer
answer_of (Ok links) = Answer.Accepted links
answer_of (Err e) = Answer.Refused (refusal_number e.refusal) e.value

abbrev pub outcome_of : Result ℕ Refused → Outcome
outcome_of (Ok accepted) = record { accepted = accepted; refusal = 0 }
outcome_of (Err e) = record { accepted = e.value; refusal = refusal_number e.refusal }

-- an answer in numbers
abbrev pub numbers_of : Result ℕ Refused → Numbers
numbers_of (Ok value) = numbers 0 value
numbers_of (Err e) = numbers (refusal_number e.refusal) e.value

-- the same where nothing stands beside a refusal, and an answer has its value from `value`
abbrev pub numbers_by : {A : Type 0} → (A → ℕ) → Result A Refusal → Numbers
numbers_by value (Ok x) = numbers 0 (value x)
numbers_by value (Err r) = numbers (refusal_number r) 0

-- a number as the value of such an answer: one more where there is one, and else 0
abbrev pub one_more : Option ℕ → ℕ
one_more None = 0
one_more (Some n) = n + 1
