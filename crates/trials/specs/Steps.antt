-- The steps of the search for the first command after which a right is held.
use Rattle.std.specs.Prelude.{ℕ, ◌+◌, ◌≡◌, Bool, true, false, eqb}
use Rattle.std.proofs.Common.{sym, ◌∙◌, ap}
use Rattle.std.proofs.Math.Path.{refl}
use mathlib.Core.List.{List, [], ◌∷◌}
use Rattle.matrix.specs.Answers.{Answer}
use Rattle.matrix.specs.Answers.{Accepted, Refused}
use Rattle.matrix.specs.declared.Fields.{Fields}
use Rattle.matrix.specs.declared.Name.{Name}
use Rattle.matrix.specs.declared.Right.{Right}
use Rattle.matrix.specs.declared.Shape.{Shape}
use Rattle.matrix.specs.Names.{name_of}
use Rattle.matrix.specs.Rights.{right_of}
use Rattle.matrix.specs.State.{State, held}
use Rattle.matrix.specs.Shape.{shape_of}
use Rattle.matrix.specs.Reading.{state_of}
use Rattle.matrix.specs.Calls.{holds_on, refusal_on, next_on}
use Rattle.matrix.specs.FirstHeld.{first_from}
use Rattle.short_ways.specs.Answered.{Answered}
use Rattle.runs.specs.Reached.{Reached}
use Rattle.runs.specs.Steps.{here, is_refused, reached_more}

-- what commands come to on a state of the record b₀'s shape
abbrev pub found_from : List ℕ → ℕ → ℕ → ℕ → ℕ → State → List Fields → ℕ
found_from b₀ s o right j S cs = first_from j (shape_of b₀) S cs (right_of right) s (name_of (shape_of b₀).n o)

module _ (j : ℕ) (f : Shape) (S : State) (x : Right) (s : ℕ) (o : Name) where
  first_held : (cs : List Fields) → held S x s o ≡ true → first_from j f S cs x s o ≡ j + 1
  unfolding first_from
  first_held [] h = rw h refl
  first_held (c ∷ cs) h = rw h refl

  first_none : held S x s o ≡ false → first_from j f S [] x s o ≡ 0
  unfolding first_from
  first_none h = rw h refl

  module _ (c : Fields) (cs : List Fields) (h : held S x s o ≡ false) where
    first_later : refusal_on f S c ≡ 0 → first_from j f S (c ∷ cs) x s o ≡ first_from (j + 1) f (next_on f S c) cs x s o
    unfolding first_from
    first_later e = rw (h, e) refl

    first_refused : eqb (refusal_on f S c) 0 ≡ false → first_from j f S (c ∷ cs) x s o ≡ 0
    unfolding first_from
    first_refused e = rw (h, e) refl

module _ (s o right : ℕ) {b₀ b : List ℕ} {f : Shape} {j : ℕ} {left all : List Fields} (h : Reached (found_from b₀ s o right) b₀ b f j left all) where
  -- whether the right is held here, with the name of the first record's shape
  held_here : {t v : Bool} → t ≡ holds_on b s o right → t ≡ v → held (state_of b) (right_of right) s (name_of (shape_of b₀).n o) ≡ v
  held_here e d = ap (λ (g : Shape). held (state_of b) (right_of right) s (name_of g.n o)) (sym h.shape) ∙ sym e ∙ d

  pub found : {t : Bool} → t ≡ holds_on b s o right → t ≡ true → j + 1 ≡ found_from b₀ s o right 0 (state_of b₀) all
  found e d = sym (first_held j (shape_of b₀) (state_of b) (right_of right) s (name_of (shape_of b₀).n o) left (held_here e d)) ∙ h.rest

  -- it is not, and there are no more commands
  pub found_never : {t : Bool} → t ≡ holds_on b s o right → t ≡ false → left ≡ [] → 0 ≡ found_from b₀ s o right 0 (state_of b₀) all
  found_never e d z =
      sym (first_none j (shape_of b₀) (state_of b) (right_of right) s (name_of (shape_of b₀).n o) (held_here e d))
      ∙ ap (found_from b₀ s o right j (state_of b)) (sym z) ∙ h.rest

  module _ {b' : List ℕ} {cs : List Fields} {c : Fields} {r : Answer} {t : Bool} (e : t ≡ holds_on b s o right) (d : t ≡ false) (next_is : left ≡ c ∷ cs) (w : Answered b b' c r) where
    -- the next command is refused
    pub found_refused : {x k : ℕ} → r ≡ Refused k x → 0 ≡ found_from b₀ s o right 0 (state_of b₀) all
    found_refused q =
        sym (first_refused j (shape_of b₀) (state_of b) (right_of right) s (name_of (shape_of b₀).n o) c cs (held_here e d) (is_refused h next_is w q))
        ∙ here h next_is w

    -- it is accepted, and the search goes on after it
    pub found_later : {x : ℕ} → r ≡ Accepted x → Reached (found_from b₀ s o right) b₀ b' f (j + 1) cs all
    found_later q =
        reached_more h next_is w (first_later j (shape_of b₀) (state_of b) (right_of right) s (name_of (shape_of b₀).n o) c cs (held_here e d)) q
