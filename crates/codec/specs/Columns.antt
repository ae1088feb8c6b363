-- A record's columns and names determine each other, and a state is its bits.
use Rattle.std.specs.Prelude.{ℕ, ◌+◌, ◌<◌, ◌≡◌, refl, Bool, true, false, cond, not, ◌&&◌, eqb, ltb}
use Rattle.std.proofs.Common.{arith, sym, ◌∙◌, ap, ⊎_elim, ltb-true, lt-ltb}
use Rattle.std.proofs.lemmas.Bool.{not-true}
use Rattle.matrix.specs.declared.Name.{Name}
use Rattle.matrix.specs.declared.Name.TheVariants.{Subject, Plain}
use Rattle.matrix.specs.declared.Right.{Right}
use Rattle.matrix.specs.declared.Right.TheVariants.{Own, Control, Basic}
use Rattle.matrix.specs.Names.{name_of, column_of, named}
use Rattle.matrix.specs.Rights.{code_of}
use Rattle.matrix.specs.State.{State, has, is_cell, put}
use Rattle.matrix.specs.Touched.{is_bit}
use Rattle.laws.specs.Tests.{way, and_left, and_right}
use Rattle.laws.specs.Same.{is_bit_eq}
use Rattle.laws.specs.Changed.{has_put as right_put}
pub use Rattle.laws.specs.Changed.{top_put, has_clear}
use Rattle.codec.specs.Codes.{code_of_test}

-- ---- columns and names

pub column_of_name_of : (n c : ℕ) → column_of (name_of n c) ≡ c
column_of_name_of n c = ⊎_elim (λ (h : ltb c n ≡ true). rw h refl) (λ (h : ltb c n ≡ false). rw h refl) (way (ltb c n))

pub subject_named : (n s : ℕ) → s < n → name_of n s ≡ Subject s
subject_named n s l = rw (lt-ltb s n l) refl

pub named_name_of : (n p c : ℕ) → c < n + p → named n p (name_of n c) ≡ true
named_name_of n p c l =
    ⊎_elim (λ (h : ltb c n ≡ true). rw (h, h) refl) (λ (h : ltb c n ≡ false). rw (h, h) (lt-ltb c (n + p) l)) (way (ltb c n))

pub name_of_column_of : (n p : ℕ) (x : Name) → named n p x ≡ true → name_of n (column_of x) ≡ x
name_of_column_of n p (Subject c) h = rw h refl
name_of_column_of n p (Plain c) h = let e : ltb c n ≡ false = not-true (ltb c n) (and_left (not (ltb c n)) (ltb c (n + p)) h) in rw e refl

pub named_below : (n p : ℕ) (x : Name) → named n p x ≡ true → column_of x < n + p
named_below n p (Subject c) h = omega (arith, ltb-true c n h)
named_below n p (Plain c) h = ltb-true c (n + p) (and_right (not (ltb c n)) (ltb c (n + p)) h)

-- ---- states

pub same_state : (S T : State) → S.top ≡ T.top → ((y : Right) (w : ℕ) (x : Name) → has S y w x ≡ has T y w x) → S ≡ T
same_state S T e h = λ i. record { top = e i; owns = λ w x. h Own w x i; controls = λ w x. h Control w x i; basic = λ k f w x. h (Basic k f) w x i }

-- a bit that is set in S, set in a state T that differs from S there at most
pub put_set : (y : Right) (w : ℕ) (x : Name) (S T : State) → T.top ≡ S.top
    → ((z : Right) (v : ℕ) (u : Name) → is_bit y w x z v u ≡ false → has T z v u ≡ has S z v u) → has S y w x ≡ true → put y w x true T ≡ S
put_set y w x S T top others set = same_state (put y w x true T) S (top_put y w x true T ∙ top) (λ z v u. right_put y w x true T z v u ∙ each z v u)
  where
    each : (z : Right) (v : ℕ) (u : Name) → cond (is_bit y w x z v u) true (has T z v u) ≡ has S z v u
    each z v u =
        ⊎_elim (λ (e : is_bit y w x z v u ≡ true). let q = is_bit_eq y w x z v u e in rw e (sym (rw (q.0, q.1, q.2) set)))
        (λ (e : is_bit y w x z v u ≡ false). rw e (others z v u e)) (way (is_bit y w x z v u))

-- the bits of a state with one bit put, by the code of the right
pub has_put : (y : Right) (r : ℕ) (c : Name) (on : Bool) (S : State) (z : Right) (w : ℕ) (x : Name)
    → has (put y r c on S) z w x ≡ cond (eqb (code_of z) (code_of y) && is_cell r c w x) on (has S z w x)
has_put y r c on S z w x =
    right_put y r c on S z w x ∙ ap (λ (t : Bool). cond (t && is_cell r c w x) on (has S z w x)) (sym (code_of_test z y))
