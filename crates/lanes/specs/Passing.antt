-- Laws of a loop that goes on while a test passes.
use Rattle.std.specs.Prelude.{ℕ, ◌+◌, ◌≤◌, ◌<◌, ◌≡◌, refl, Bool, true, false}
use Rattle.std.proofs.Common.{add-one, arith, sym, subst}
use Rattle.matrix.specs.Bounded.{all}
use Rattle.laws.specs.Tests.{and_both}
use Rattle.laws.specs.Bounded.{all_fails}

-- none so far, one more, the end, and where it fails
pub all_none : (f : ℕ → Bool) → all 0 f ≡ true
unfolding all
all_none f = refl

pub all_more : (i : ℕ) (f : ℕ → Bool) → all i f ≡ true → f i ≡ true → all (i + 1) f ≡ true
unfolding all
all_more i f h e = rw add-one (and_both h e)

pub all_done : (i n : ℕ) (f : ℕ → Bool) → i ≤ n → n ≤ i → all i f ≡ true → true ≡ all n f
all_done i n f h l e = subst (λ (j : ℕ). true ≡ all j f) (omega arith) (sym e)

pub all_stop : (i n : ℕ) (f : ℕ → Bool) → i < n → f i ≡ false → false ≡ all n f
all_stop i n f l e = sym (all_fails n f i l e)
