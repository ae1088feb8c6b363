-- What the calls promise, from the facts at the places where they answer.
use Rattle.std.specs.Prelude.{ℕ, ◌≤◌, ◌<◌, ◌≡◌, refl, List, ltb}
use Rattle.std.proofs.Common.{arith, sym, ◌∙◌, ⊎_elim, ltb-true, lt-ltb, le-ltb}
use Rattle.matrix.specs.Bytes.{number_at}
use Rattle.matrix.specs.Numbers.{numbers}
use Rattle.laws.specs.Tests.{way}
use Rattle.history.specs.Entries.{window_numbers, window_refusal}
use Rattle.history.specs.Window.{count_place}
use Rattle.history.specs.Calls.{Counted}

-- a number that is not refused has a count
pub named_of : (number : ℕ) → window_refusal number ≡ 0 → number < window_numbers
named_of number h =
    ⊎_elim (λ t. ltb-true number window_numbers t) (λ t. let z : ◌≡◌ {A = ℕ} 17 0 = rw t at h in absurd (omega arith)) (way (ltb number window_numbers))

module _ {w : List ℕ} {number m : ℕ} (said : m ≡ window_refusal number) where
  -- ---- a count

  pub count_shown : m ≡ 0 → {v : ℕ} → v ≡ number_at w (count_place number) 2 → Counted w number (numbers m v)
  count_shown zero e =
      record { refusal = said; refused = λ z. absurd (z (sym said ∙ zero)); shown = λ z h s. e ∙ s.counts number (named_of number z) }
