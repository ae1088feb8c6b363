-- The bytes of stations A, A2 and B, and the commands that their rows give.
use Rattle.std.specs.Prelude.{ℕ, List, [], ◌∷◌}
use Rattle.matrix.specs.declared.Fields.{Fields}

-- Station A (Manual 11.1). The last bytes of rows 1 and 2, the rights of subjects 1 and 2 over log 3, are parameters: the rows of Manual 11.2 give
-- them as 00 and 01, as 00 and 00, as 01 and 00, as 04 and 01, and as 08 and 01.
abbrev station_a : ℕ → ℕ → List ℕ
station_a one two =
    0x01 ∷ 0x00 ∷ 0x00 ∷ 0x00 ∷ 0x1A ∷ 0x03 ∷ 0x01 ∷
    0x00 ∷ 0x02 ∷ 0x00 ∷ 0x01 ∷ 0x00 ∷ 0x00 ∷ 0x00 ∷ 0x00 ∷
    0x00 ∷ 0x00 ∷ 0x00 ∷ 0x02 ∷ 0x00 ∷ 0x01 ∷ 0x00 ∷ one ∷
    0x00 ∷ 0x00 ∷ 0x00 ∷ 0x00 ∷ 0x00 ∷ 0x02 ∷ 0x00 ∷ two ∷ []

unfoldable pub A : List ℕ
A = station_a 0x00 0x01

-- A with last byte 00
unfoldable pub A_ends_00 : List ℕ
A_ends_00 = station_a 0x00 0x00

-- A with log 3 handed from 2 to 1
unfoldable pub A_handed : List ℕ
A_handed = station_a 0x01 0x00

-- A in which subject 1 has r0 over log 3, plain alone and starred alone
unfoldable pub A_plain : List ℕ
A_plain = station_a 0x04 0x01

unfoldable pub A_starred : List ℕ
A_starred = station_a 0x08 0x01

-- Station A2, which is A in version 2 (Manual 11.1): each cell of A with 0000 before it. The second byte of the last cell, in which are the rights
-- r7 to r10 of subject 2 over log 3, is a parameter.
abbrev station_a2 : ℕ → List ℕ
station_a2 high =
    0x02 ∷ 0x00 ∷ 0x00 ∷ 0x00 ∷ 0x32 ∷ 0x03 ∷ 0x01 ∷
    0x00 ∷ 0x00 ∷ 0x00 ∷ 0x02 ∷ 0x00 ∷ 0x00 ∷ 0x00 ∷ 0x01 ∷ 0x00 ∷ 0x00 ∷ 0x00 ∷ 0x00 ∷ 0x00 ∷ 0x00 ∷ 0x00 ∷ 0x00 ∷
    0x00 ∷ 0x00 ∷ 0x00 ∷ 0x00 ∷ 0x00 ∷ 0x00 ∷ 0x00 ∷ 0x02 ∷ 0x00 ∷ 0x00 ∷ 0x00 ∷ 0x01 ∷ 0x00 ∷ 0x00 ∷ 0x00 ∷ 0x00 ∷
    0x00 ∷ 0x00 ∷ 0x00 ∷ 0x00 ∷ 0x00 ∷ 0x00 ∷ 0x00 ∷ 0x00 ∷ 0x00 ∷ 0x00 ∷ 0x00 ∷ 0x02 ∷ 0x00 ∷ high ∷ 0x00 ∷ 0x01 ∷ []

unfoldable pub A2 : List ℕ
A2 = station_a2 0x00

-- A2 with the last cell 00010001: subject 2 has r7 over log 3
unfoldable pub A2_high : List ℕ
A2_high = station_a2 0x01

-- station B (Manual 11.1)
unfoldable pub B : List ℕ
B =
    0x01 ∷ 0x00 ∷ 0x00 ∷ 0x00 ∷ 0x0E ∷ 0x02 ∷ 0x01 ∷
    0x00 ∷ 0x02 ∷ 0x00 ∷ 0x00 ∷ 0x00 ∷ 0x00 ∷
    0x00 ∷ 0x00 ∷ 0x00 ∷ 0x00 ∷ 0x00 ∷ 0x00 ∷ []

-- code 3 (i, s, o): k is not used, so it is 0
abbrev pub transfer_own : ℕ → ℕ → ℕ → Fields
transfer_own i s o = record { code = 3; i = i; s = s; o = o; k = 0 }

-- code 1 (i, s, o, 0): the plain r0 goes from i to s
abbrev pub transfer_plain : ℕ → ℕ → ℕ → Fields
transfer_plain i s o = record { code = 1; i = i; s = s; o = o; k = 0 }

-- code 8 (i, s, o, 0): i deletes the plain r0 of s
abbrev pub delete_plain : ℕ → ℕ → ℕ → Fields
delete_plain i s o = record { code = 8; i = i; s = s; o = o; k = 0 }
