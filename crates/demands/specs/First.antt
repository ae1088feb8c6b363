-- Refusals in their order: conditions with their numbers, and the number of the first that holds.
use Rattle.std.specs.Prelude.{ℕ, ◌≡◌, ◌≢◌, ◌↔◌, ◌⊎◌, List, [], ◌∷◌}

-- the condition of a refusal, with its number
pub record Condition : Type 1 where
  pub number : ℕ
  pub Holds : Type 0

abbrev pub condition : ℕ → Type 0 → Condition
condition number Holds = record { number = number; Holds = Holds }

-- m is the number of the first condition of a list that holds
abbrev pub First : List Condition → ℕ → Type 0
First [] m = ⊥
First (c ∷ cs) m = (c.Holds × (m ≡ c.number)) ⊎ ((c.Holds → ⊥) × First cs m)

-- no condition of a list holds
abbrev pub NoneHolds : List Condition → Type 0
NoneHolds [] = Unit
NoneHolds (c ∷ cs) = (c.Holds → ⊥) × NoneHolds cs

-- The number m of an answer, 0 where the call is answered: it is 0 exactly where no condition holds, and any other number exactly where
-- that is the number of the first condition that holds.
pub record Numbered (cs : List Condition) (m : ℕ) : Type 0 where
  pub answered : (m ≡ 0) ↔ NoneHolds cs
  pub refused : (number : ℕ) → number ≢ 0 → (m ≡ number) ↔ First cs number

-- m is one of the numbers of a list
abbrev pub Among : ℕ → List ℕ → Type 0
Among m [] = ⊥
Among m (k ∷ ks) = (m ≡ k) ⊎ Among m ks
