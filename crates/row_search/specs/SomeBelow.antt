-- The answer of a search as an option: the number that it came to, or none where that is its bound.
use Rattle.std.specs.Prelude.{ℕ, ◌≤◌, ◌<◌, ◌≡◌, Option, Some, None, MatchOption, unwrap_or, Bool, true, false, cond, ltb}
use Rattle.std.proofs.Common.{arith, lt-ltb, le-ltb, ltb-true, ltb-false, sym, ◌∙◌, ap, ⊎_elim}
use Rattle.std.proofs.Math.Path.{refl}
use Rattle.std.proofs.lemmas.Option.{none-some, same_Some}
use Rattle.matrix.specs.Bounded.{any, least}
use Rattle.laws.specs.Tests.{way}
use Rattle.laws.specs.Bounded.{none_any, least_hit, least_none, least_first}

-- the number i where it is below n, else none
unfoldable pub some_below : ℕ → ℕ → Option ℕ
some_below n i = cond (ltb i n) (Some i) None

pub below_some : {n i : ℕ} → i < n → Some i ≡ some_below n i
unfolding some_below
below_some {n} {i} l = rw (lt-ltb i n l) refl

pub below_none : {n i : ℕ} → n ≤ i → None ≡ some_below n i
unfolding some_below
below_none {n} {i} l = rw (le-ltb i n l) refl

-- what an answer says to a caller
pub some_was : {n i v : ℕ} → Some v ≡ some_below n i → (v < n) × (v ≡ i)
some_was {n} {i} {v} e =
    ⊎_elim (λ (t : ltb i n ≡ true). let q : v ≡ i = same_Some v i (e ∙ sym (below_some (ltb-true i n t))) in (omega (arith, ltb-true i n t), q))
    (λ (t : ltb i n ≡ false). absurd (none-some v (sym (e ∙ sym (below_none (ltb-false i n t)))))) (way (ltb i n))

pub none_was : {n i : ℕ} → None ≡ some_below n i → n ≤ i
none_was {n} {i} e =
    ⊎_elim (λ (t : ltb i n ≡ true). absurd (none-some i (e ∙ sym (below_some (ltb-true i n t)))))
    (λ (t : ltb i n ≡ false). ltb-false i n t) (way (ltb i n))

-- a search's number again, where its bound stands for none
pub least_or : (n : ℕ) (f : ℕ → Bool) {o : Option ℕ} → o ≡ some_below n (least n f) → unwrap_or o n ≡ least n f
least_or n f e =
    ⊎_elim (λ a. ap (λ (o : Option ℕ). unwrap_or o n) (e ∙ sym (below_some (least_first n f a).below)))
    (λ a. let l : least n f ≡ n = least_none n f a in ap (λ (o : Option ℕ). unwrap_or o n) (e ∙ sym (below_none (omega arith))) ∙ sym l) (way (any n f))

-- the first number below n that passes f, or none
pub first_below : (n : ℕ) (f : ℕ → Bool) (r : Option ℕ)
    → MatchOption r ((k : ℕ) → 0 ≤ k → k < n → f k ≡ false) (λ i. (0 ≤ i) × (i < n) × (f i ≡ true) × ((k : ℕ) → 0 ≤ k → k < i → f k ≡ false))
    → r ≡ some_below n (least n f)
first_below n f None h =
    below_none (let e : least n f ≡ n = least_none n f (none_any n f (λ k l. h k (omega arith) l)) in omega arith)
first_below n f (Some i) h =
    let e : least n f ≡ i = least_hit n f i h.1 (none_any i f (λ k l. h.3 k (omega arith) l)) h.2 in
    below_some h.1 ∙ ap (some_below n) (sym e)
