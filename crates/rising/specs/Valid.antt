-- A valid record is what the functions on guessed owners ask for.
use Rattle.std.specs.Prelude.{ℕ, ◌≡◌, List, length}
use Rattle.matrix.specs.declared.Shape.{Shape}
use Rattle.matrix.specs.Shape.{limits, most_subjects}
use Rattle.matrix.specs.Record.{record_refusal}
use Rattle.owners.proofs.Read.{valid_record}
use Rattle.cells.specs.Station.{Station}
use Rattle.states.specs.Needs.{Guessed}

pub guessed_of : {b : List ℕ} {f : Shape} {owners : List ℕ} → Station b f → record_refusal limits b ≡ 0 → length owners ≡ most_subjects → Guessed b f owners
guessed_of {b} h v e = record { station = h; valid = valid_record b v; size = e }
