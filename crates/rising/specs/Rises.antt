-- What the search for the way up from a subject answers.
use Rattle.std.specs.Prelude.{ℕ, ◌<◌, length, Option, Some, None}
use Rattle.std.specs.List.{All}
use Rattle.route.specs.Rise.{Risen, meets_at, none}
use Rattle.rising.specs.declared.Met.{Met}

-- what is met, if anything is, as a way up
abbrev pub risen_to : Option Met → Risen
risen_to (Some m) = meets_at m.subject m.passed
risen_to None = none

-- who is met is a subject of the record, and so are those passed, which are fewer than the record's subjects
abbrev pub Found : ℕ → Option Met → Type 0
Found n (Some m) = (m.subject < n) × (length m.passed < n) × All (λ (w : ℕ). w < n) m.passed
Found n None = Unit
