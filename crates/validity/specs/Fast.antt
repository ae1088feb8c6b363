-- Validity over the bits of a matrix of n rows and k columns: O the own bits, C the control bits, Z the cells that are zero, each by
-- row and column. First as the record's definition says it, then as it is tested in one pass over the rows.
use Rattle.std.specs.Prelude.{ℕ, ◌+◌, Bool, cond, not, ◌&&◌, ◌||◌, eqb, ltb, leb}
use Rattle.matrix.specs.Bounded.{any, all, count, least}
use Rattle.lanes.specs.Lanes.{mark_of}
use Rattle.owner_table.specs.Followed.{followed}
use Rattle.owner_table.specs.Table.{reach}

-- the row that a subject's owner is followed to; a subject with no owner stays where it is
abbrev pub owner_step : ℕ → (ℕ → ℕ → Bool) → ℕ → ℕ
owner_step n O s = cond (ltb (least n (λ w. O w s)) n) (least n (λ w. O w s)) s

-- the name of column c exists
abbrev pub column_exists : ℕ → (ℕ → ℕ → Bool) → (ℕ → ℕ → Bool) → ℕ → Bool
column_exists n O C c = cond (ltb c n) (C c c) (any n (λ w. O w c))

abbrev pub zero_absent : ℕ → ℕ → (ℕ → ℕ → Bool) → (ℕ → ℕ → Bool) → (ℕ → ℕ → Bool) → Bool
zero_absent n k O C Z = all n (λ w. all k (λ c. Z w c || C w w && column_exists n O C c))

abbrev pub plain_free : ℕ → ℕ → (ℕ → ℕ → Bool) → Bool
plain_free n k C = all n (λ w. all k (λ c. ltb c n || not (C w c)))

abbrev pub root_alone : ℕ → (ℕ → ℕ → Bool) → (ℕ → ℕ → Bool) → Bool
root_alone n O C = C 0 0 && all n (λ w. not (O w 0) && (eqb w 0 || not (C w 0)))

abbrev pub one_each : ℕ → (ℕ → ℕ → Bool) → (ℕ → ℕ → Bool) → Bool
one_each n O C =
    all n (λ s. eqb s 0 || not (C s s) || eqb (count n (λ w. O w s)) 1 && leb (count n (λ w. C w s && not (eqb w s))) 1)

abbrev pub ascends : ℕ → (ℕ → ℕ → Bool) → (ℕ → ℕ → Bool) → Bool
ascends n O C = all n (λ s. not (C s s) || eqb (followed (owner_step n O) n s) 0)

-- the five conditions
abbrev pub five_hold : ℕ → ℕ → (ℕ → ℕ → Bool) → (ℕ → ℕ → Bool) → (ℕ → ℕ → Bool) → Bool
five_hold n k O C Z = zero_absent n k O C Z && plain_free n k C && root_alone n O C && one_each n O C && ascends n O C

-- The tests. An existing subject: U has no owner and controls itself alone, any other has one owner and at most two that control it,
-- itself among them. An absent subject is not U, and its column and row are zero.
unfoldable pub subject_right : ℕ → ℕ → (ℕ → ℕ → Bool) → (ℕ → ℕ → Bool) → (ℕ → ℕ → Bool) → ℕ → Bool
subject_right n k O C Z s =
    cond (C s s)
    (cond (eqb s 0) (eqb (count n (λ w. O w s)) 0 && eqb (count n (λ w. C w s)) 1)
    (eqb (count n (λ w. O w s)) 1 && leb (count n (λ w. C w s)) 2))
    (not (eqb s 0) && (all n (λ w. Z w s) && all k (λ c. Z s c)))

-- a plain column: owned and not controlled, or zero
unfoldable pub plain_right : ℕ → (ℕ → ℕ → Bool) → (ℕ → ℕ → Bool) → (ℕ → ℕ → Bool) → ℕ → Bool
plain_right n O C Z c = cond (any n (λ w. O w c)) (not (any n (λ w. C w c))) (all n (λ w. Z w c))

-- the owner of each subject that has just one, 0 if it has none, and that following it `reach` times comes to U
abbrev pub owner_mark : ℕ → (ℕ → ℕ → Bool) → ℕ → ℕ
owner_mark n O s = mark_of n (λ w. O w s)

abbrev pub all_ascend : ℕ → (ℕ → ℕ → Bool) → Bool
all_ascend n O = all n (λ s. eqb (followed (owner_mark n O) reach s) 0)

abbrev pub tests_pass : ℕ → ℕ → (ℕ → ℕ → Bool) → (ℕ → ℕ → Bool) → (ℕ → ℕ → Bool) → Bool
tests_pass n p O C Z = all n (subject_right n (n + p) O C Z) && all p (λ i. plain_right n O C Z (n + i)) && all_ascend n O
