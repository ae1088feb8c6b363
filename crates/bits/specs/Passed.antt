-- What the loops over a record's rows and columns have changed so far.
use Rattle.std.specs.Prelude.{ℕ, Bool, ◌&&◌, ◌||◌, eqb}
use Rattle.matrix.specs.declared.Name.{Name}
use Rattle.matrix.specs.Bounded.{any}
use Rattle.matrix.specs.Names.{same_name, name_of}
use Rattle.matrix.specs.State.{State}

-- row w is one of the first r; name x is that of one of the first c columns of a record of n subject names
unfoldable pub first_rows : ℕ → ℕ → Bool
first_rows r w = any r (λ d. eqb w d)

unfoldable pub first_columns : ℕ → ℕ → Name → Bool
first_columns n c x = any c (λ d. same_name x (name_of n d))

-- the cells of column c in the first r rows; the cells of row r in the first c columns
abbrev pub column_part : ℕ → ℕ → ℕ → ℕ → Name → Bool
column_part n c r w x = first_rows r w && same_name x (name_of n c)

abbrev pub row_part : ℕ → ℕ → ℕ → ℕ → Name → Bool
row_part n r c w x = eqb w r && first_columns n c x

-- the cells of row r
abbrev pub in_row : ℕ → ℕ → Name → Bool
in_row r w x = eqb w r

-- i has gained own over what s owns in the first c columns
abbrev pub inherit_part : ℕ → ℕ → ℕ → ℕ → State → State
inherit_part n i s c S =
    record { top = S.top; owns = λ w x. S.owns w x || eqb w i && first_columns n c x && S.owns s x; controls = S.controls; basic = S.basic }
