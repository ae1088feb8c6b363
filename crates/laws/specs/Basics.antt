-- The search for a basic right from a number on (`basic_from`): what it finds, and when.
use Rattle.std.specs.Prelude.{ℕ, ◌≤◌, ◌<◌, ◌≡◌, Bool, false, ◌&&◌, ◌||◌}
use Rattle.std.proofs.Math.Logic.{⊎_elim}
use Rattle.std.proofs.Math.Bool.{true}
use Rattle.std.proofs.Math.Dec.{leb}
use borrow.Author.Tests.{leb-true, le-leb}
use Rattle.matrix.specs.declared.Form.{Form}
use Rattle.matrix.specs.declared.Form.TheVariants.{Plain, Starred}
use Rattle.matrix.specs.declared.Shape.{Shape}
use Rattle.matrix.specs.Bounded.{any}
use Rattle.matrix.specs.Names.{name_of}
use Rattle.matrix.specs.State.{State}
use Rattle.matrix.specs.Shape.{basics_of, columns}
use Rattle.matrix.specs.Converting.{basic_from}
use Rattle.laws.specs.Tests.{fails, and_left, and_right, and_both, or_cases, or_left, or_right}
use Rattle.laws.specs.Bounded.{any_hit, any_found}

-- a basic right of the number `basics` or above that is set in a cell of the record
pub record SetFrom (basics : ℕ) (f : Shape) (S : State) : Type 0 where
  pub w : ℕ
  pub c : ℕ
  pub k : ℕ
  pub form : Form
  pub row : w < f.n
  pub column : c < columns f
  pub room : k < basics_of f
  pub high : basics ≤ k
  pub set : S.basic k form w (name_of f.n c) ≡ true

module _ (basics : ℕ) (f : Shape) (S : State) where
  -- what is tested of a cell and a number, of a cell, and of a row
  abbrev either : ℕ → ℕ → ℕ → Bool
  either w c k = S.basic k Plain w (name_of f.n c) || S.basic k Starred w (name_of f.n c)

  abbrev in_cell : ℕ → ℕ → Bool
  in_cell w c = any (basics_of f) (λ k. leb basics k && either w c k)

  abbrev in_row : ℕ → Bool
  in_row w = any (columns f) (in_cell w)

  -- the search finds such a right
  pub basic_found : basic_from basics f S ≡ true → SetFrom basics f S
  unfolding basic_from
  basic_found h =
      let r = any_found f.n in_row h in
      let d = any_found (columns f) (in_cell r.0) r.2 in
      let e = any_found (basics_of f) (λ k. leb basics k && either r.0 d.0 k) d.2 in
      let found : (g : Form) → S.basic e.0 g r.0 (name_of f.n d.0) ≡ true → SetFrom basics f S =
      λ g set. record {
        w = r.0;
        c = d.0;
        k = e.0;
        form = g;
        row = r.1;
        column = d.1;
        room = e.1;
        high = leb-true basics e.0 (and_left (leb basics e.0) (either r.0 d.0 e.0) e.2);
        set = set;
      } in
      ⊎_elim (found Plain) (found Starred)
      (or_cases (S.basic e.0 Plain r.0 (name_of f.n d.0)) (S.basic e.0 Starred r.0 (name_of f.n d.0))
      (and_right (leb basics e.0) (either r.0 d.0 e.0) e.2))

  -- where one is set, the search finds one
  pub basic_hit : SetFrom basics f S → basic_from basics f S ≡ true
  unfolding basic_from
  basic_hit s =
      any_hit f.n in_row s.w s.row
      (any_hit (columns f) (in_cell s.w) s.c s.column
      (any_hit (basics_of f) (λ k. leb basics k && either s.w s.c k) s.k s.room
      (and_both (le-leb basics s.k s.high) (in_form s.form s.set))))
    where
      in_form : (g : Form) → S.basic s.k g s.w (name_of f.n s.c) ≡ true → either s.w s.c s.k ≡ true
      in_form Plain h = or_left (S.basic s.k Starred s.w (name_of f.n s.c)) h
      in_form Starred h = or_right (S.basic s.k Plain s.w (name_of f.n s.c)) h

  -- where none is set, it finds none
  pub basic_none : (SetFrom basics f S → ⊥) → basic_from basics f S ≡ false
  basic_none none = fails (basic_from basics f S) (λ h. none (basic_found h))

-- it looks at the basic rights alone
pub basic_same : (basics : ℕ) (f : Shape) (S T : State) → S.basic ≡ T.basic → basic_from basics f S ≡ basic_from basics f T
unfolding basic_from
basic_same basics f S T e = rw e
