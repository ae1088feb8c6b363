-- Names (Manual 1.1): subjects and plain objects, two kinds that are numbered apart and without end.
use Rattle.std.specs.Prelude.{ℕ, ◌+◌, Bool, true, false, cond, not, ◌&&◌, eqb, ltb}
use Rattle.matrix.specs.declared.Name.{Name}
use Rattle.matrix.specs.declared.Name.TheVariants.{Subject, Plain}

-- the universal subject
abbrev pub U : ℕ
U = 0

abbrev pub same_name : Name → Name → Bool
same_name (Subject a) (Subject b) = eqb a b
same_name (Subject a) (Plain b) = false
same_name (Plain a) (Subject b) = false
same_name (Plain a) (Plain b) = eqb a b

abbrev pub is_subject : Name → Bool
is_subject (Subject a) = true
is_subject (Plain a) = false

-- The name that column c stands for in a record of n subject names: a subject where c < n, else a plain object, of the same number.
abbrev pub name_of : ℕ → ℕ → Name
name_of n c = cond (ltb c n) (Subject c) (Plain c)

-- a name's number, which is its column where the record has it
abbrev pub column_of : Name → ℕ
column_of (Subject c) = c
column_of (Plain c) = c

-- a name is one of a record's n subject names or p plain names
abbrev pub named : ℕ → ℕ → Name → Bool
named n p (Subject c) = ltb c n
named n p (Plain c) = not (ltb c n) && ltb c (n + p)
