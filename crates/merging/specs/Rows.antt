-- Laws of a list that rows join lane by lane.
use Rattle.std.specs.Prelude.{ℕ, ◌+◌, ◌≤◌, ◌<◌, ◌≡◌, length, set}
use Rattle.std.proofs.Common.{le_refl, arith, ◌∙◌, length-set, get_or-set_other}
use Rattle.std.proofs.Math.Path.{ap}
use mathlib.Core.List.{List}
use Rattle.std.specs.Int.Bits.{bit_or}
use Rattle.std.proofs.Math.ListN.{get_or, replicate, get_or-replicate}
use Rattle.lanes.specs.Lists.{set_more}
use Rattle.lanes.specs.Lanes.{merged}
use Rattle.lanes.specs.Zeros.{merged_more}

-- A list while row r joins it lane by lane. Its first k places count: those below m hold what r + 1 rows leave, those from m on what r rows leave. The lane of row v for
-- place j is w v j.
pub record Joined (room k : ℕ) (w : ℕ → ℕ → ℕ) (r m : ℕ) (l : List ℕ) : Type 0 where
  pub size : length l ≡ room
  pub done : (j : ℕ) → j < m → get_or l j 0 ≡ merged (r + 1) (λ v. w v j)
  pub left : (j : ℕ) → m ≤ j → j < k → get_or l j 0 ≡ merged r (λ v. w v j)

module _ (room k : ℕ) (w : ℕ → ℕ → ℕ) where
  -- a row begins; the first one does, with a list of zeros
  pub joined_none : (r : ℕ) (l : List ℕ) → length l ≡ room → ((j : ℕ) → 0 ≤ j → j < k → get_or l j 0 ≡ merged r (λ v. w v j)) → Joined room k w r 0 l
  joined_none r l z f = record { size = z; done = λ j a. absurd (omega arith); left = f }

  pub joined_first : (l : List ℕ) → length l ≡ room → k ≤ room → l ≡ replicate (length l) 0 → Joined room k w 0 0 l
  unfolding merged
  joined_first l z few e =
      joined_none 0 l z
      (λ j a h. ap (λ (x : List ℕ). get_or x j 0) (e ∙ ap (λ (i : ℕ). replicate i 0) z) ∙ get_or-replicate room j 0 0 (omega arith))

  -- one lane more has joined
  pub joined_step : (r m : ℕ) (l : List ℕ) (u : ℕ) → Joined room k w r m l → m < k → k ≤ room → u ≡ w r m → Joined room k w r (m + 1) (set l m (bit_or (get_or l m 0) u))
  joined_step r m l u s h few e =
      record {
        size = length-set l m _ ∙ s.size;
        done =
            λ j b. set_more 0 m (λ j. merged (r + 1) (λ v. w v j)) l _ (λ i f. s.done i) (omega (arith, s.size))
            (ap (λ (x : ℕ). bit_or (get_or l m 0) x) e ∙ merged_more r (λ v. w v m) _ (s.left m (le_refl m) h)) j (omega arith) b;
        left = λ j a b. get_or-set_other l m j _ 0 (omega arith) ∙ s.left j (omega arith) b;
      }
