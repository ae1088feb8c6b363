-- Demand 2: a command is accepted exactly when its rule allows it, and then the record holds exactly the next state; a valid record is read as
-- one value, and that value is written as the same bytes (Manual 2, 5).
use Rattle.std.specs.Prelude.{ℕ, ◌-◌, ◌≤◌, ◌<◌, ◌≡◌, ◌≢◌, ◌↔◌, ◌⊎◌, true, false, List, take, drop}
use Rattle.matrix.specs.declared.Name.TheVariants.{Subject}
use Rattle.matrix.specs.declared.Right.{Right}
use Rattle.matrix.specs.declared.Fields.{Fields}
use Rattle.matrix.specs.Answers.{Accepted}
use Rattle.matrix.specs.Names.{name_of}
use Rattle.matrix.specs.Numbers.{command_numbers}
use Rattle.matrix.specs.Owners.{walk, links_of}
use Rattle.matrix.specs.Commands.{decode}
use Rattle.matrix.specs.Touched.{touched}
use Rattle.matrix.specs.Step.{refusal, links, next}
use Rattle.matrix.specs.Shape.{limits, shape_of, basics_of, columns, cell_place}
use Rattle.matrix.specs.Shaped.{Octets}
use Rattle.matrix.specs.Reading.{state_of, content, content_of, bytes_of}
use Rattle.matrix.specs.Calls.{valid_answer, raw_of, names_fit, command_answer, command_bytes, ran_on, run_bytes}
use Rattle.demands.specs.First.{NoneHolds}
use Rattle.demands.specs.Printed.{run_conditions}

-- the bytes of the cell of row r and column d
abbrev pub cell_bytes : List ℕ → ℕ → ℕ → List ℕ
cell_bytes b r d = take (shape_of b).width (drop (cell_place (shape_of b) r d) b)

-- the rule of the command c names no bit of that cell
abbrev pub Unnamed : List ℕ → Fields → ℕ → ℕ → Type 0
Unnamed b c r d =
    (z : Right) → touched (state_of b) (decode (raw_of (shape_of b) c)) (decode (raw_of (shape_of b) c)).act z r (name_of (shape_of b).n d) ≡ false

-- What an accepted command leaves: a record that passes 1 to 5 again, of the same shape, read as the next state; the bytes before the first
-- cell, and those of every cell that the rule does not name, are as they were.
pub record NextRight (b : List ℕ) (c : Fields) : Type 0 where
  pub valid : valid_answer limits (command_bytes limits b c) ≡ true
  pub octets : Octets (command_bytes limits b c)
  pub shape : shape_of (command_bytes limits b c) ≡ shape_of b
  pub state : state_of (command_bytes limits b c) ≡ next (basics_of (shape_of b)) (names_fit (shape_of b) c) (state_of b) (raw_of (shape_of b) c)
  pub header : take (shape_of b).first (command_bytes limits b c) ≡ take (shape_of b).first b
  pub cells : (r d : ℕ) → r < (shape_of b).n → d < columns (shape_of b) → Unnamed b c r d → cell_bytes (command_bytes limits b c) r d ≡ cell_bytes b r d

-- the command c is allowed on the record, which is valid: the sheet (Sheet.antt) has it accepted, with so many links
pub record Allowed (b : List ℕ) (c : Fields) (followed : ℕ) : Type 0 where
  pub valid : valid_answer limits b ≡ true
  pub accepted : refusal (basics_of (shape_of b)) (names_fit (shape_of b) c) (state_of b) (raw_of (shape_of b) c) ≡ 0
  pub walked : links (basics_of (shape_of b)) (names_fit (shape_of b) c) (state_of b) (raw_of (shape_of b) c) ≡ followed

-- the refusal and the links of a command's answer
abbrev pub refusal_for : List ℕ → Fields → ℕ
refusal_for b c = (command_numbers (command_answer limits b c)).refusal

abbrev pub links_for : List ℕ → Fields → ℕ
links_for b c = (command_numbers (command_answer limits b c)).value

-- The links are those of the walk from s where code 3 over a subject is accepted or refused by 13, and 0 with every other answer, over a plain
-- object always; never more than n - 1.
pub record LinksRight (b : List ℕ) (c : Fields) : Type 0 where
  pub walked : valid_answer limits b ≡ true → c.code ≡ 3 → c.o < (shape_of b).n → (refusal_for b c ≡ 0) ⊎ (refusal_for b c ≡ 13)
      → links_for b c ≡ links_of (walk (state_of b) c.s (Subject c.o))
  pub silent : (c.code ≢ 3) ⊎ ((refusal_for b c ≢ 0) × (refusal_for b c ≢ 13)) → links_for b c ≡ 0
  pub object : (shape_of b).n ≤ c.o → links_for b c ≡ 0
  pub few : links_for b c ≤ (shape_of b).n - 1

-- what a list run leaves: a record that passes 1 to 5, of the same shape, read as the state that its accepted commands make
pub record RunLeaves (b l : List ℕ) : Type 0 where
  pub valid : valid_answer limits (run_bytes limits b l) ≡ true
  pub octets : Octets (run_bytes limits b l)
  pub read : content_of (run_bytes limits b l) ≡ content (shape_of b) (ran_on b l).state

pub record Demand2 : Type 0 where
  -- a command is accepted exactly where it is allowed, and then the record holds the next state
  pub accepted : (b : List ℕ) (c : Fields) (followed : ℕ) → (command_answer limits b c ≡ Accepted followed) ↔ Allowed b c followed
  pub next : (b : List ℕ) (c : Fields) (followed : ℕ) → Octets b → command_answer limits b c ≡ Accepted followed → NextRight b c
  pub links : (b : List ℕ) (c : Fields) → LinksRight b c
  -- a record that 1 to 5 let pass: writing what is read gives the same bytes, and two that are read the same are the same bytes
  pub written : (b : List ℕ) → Octets b → valid_answer limits b ≡ true → bytes_of (content_of b) ≡ b
  pub same : (b c : List ℕ) → Octets b → Octets c → valid_answer limits b ≡ true → valid_answer limits c ≡ true → content_of b ≡ content_of c → b ≡ c
  pub run : (b l : List ℕ) → Octets b → NoneHolds (run_conditions b l) → RunLeaves b l
