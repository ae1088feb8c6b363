-- The conditions as they are printed are those that the tests of each code fail.
use Rattle.std.specs.Prelude.{ℕ, zero, suc, ◌+◌, ◌≤◌, ◌<◌, ◌≡◌, refl, Bool, true, false, not, ◌&&◌, ◌||◌, leb, eqb}
use Rattle.std.proofs.Common.{arith, ⊎_elim, leb-true, eqb-true}
use Rattle.std.proofs.lemmas.Bool.{eqb-false}
use Rattle.matrix.specs.declared.Name.{Name}
use Rattle.matrix.specs.declared.Name.TheVariants.{Subject}
use Rattle.matrix.specs.declared.Form.TheVariants.{Plain, Starred}
use Rattle.matrix.specs.Names.{is_subject, column_of}
use Rattle.matrix.specs.State.{State, exists, exists_name}
use Rattle.matrix.specs.Commands.{kind_of, known, rule_of, fields_fit, decode}
use Rattle.matrix.specs.Tests.{kind_fits, present, free, permitted, deletable, apart, uncontrolled}
use Rattle.laws.specs.Tests.{way, and_left, and_right}
use Rattle.demands.specs.Row.{raw}
use Rattle.demands.specs.Printed.{fields_right, kind_wrong, missing, taken, unentitled, unset, walk_meets, controlled}

-- what holds of m numbers from `low` on
abbrev Each : (ℕ → Type 0) → ℕ → ℕ → Type 0
Each P low zero = Unit
Each P low (suc m) = P low × Each P (suc low) m

of_each : (P : ℕ → Type 0) (low m : ℕ) → Each P low m → (j : ℕ) → low ≤ j → j < low + m → P j
of_each P low zero each j l h = absurd (omega arith)
of_each P low (suc m) each j l h =
    ⊎_elim (λ e. rw (eqb-true j low e) each.0) (λ e. let d = eqb-false j low e in of_each P (suc low) m each.1 j (omega (arith, d)) (omega arith)) (way (eqb j low))

back : (t : Bool) → t ≡ not (not t)
back true = refl
back false = refl

module _ (S : State) (i s : ℕ) (o : Name) (k : ℕ) where
  -- a code's tests 7, 9 to 14 and 19 are passed where the printed conditions do not hold
  pub record Agrees (code : ℕ) : Type 0 where
    pub fields : (basics : ℕ) → fields_fit basics (rule_of code k) s (column_of o) k ≡ fields_right basics code s (column_of o) k
    pub kind : kind_fits (kind_of (rule_of code k).act) o ≡ not (kind_wrong code o)
    pub there : present S (decode (raw code i s o k)) (rule_of code k).act ≡ not (missing S code s o)
    pub absent : free S (decode (raw code i s o k)) (rule_of code k).act ≡ not (taken S code s o)
    pub entitled : permitted S (decode (raw code i s o k)) (rule_of code k).act ≡ not (unentitled S code i s o k)
    pub set : deletable S (decode (raw code i s o k)) (rule_of code k).act ≡ not (unset S code s o k)
    pub unmet : apart S (decode (raw code i s o k)) (rule_of code k).act ≡ not (walk_meets S code s o)
    pub alone : uncontrolled S (decode (raw code i s o k)) (rule_of code k).act ≡ not (controlled S code o)

  -- the thirteen codes, one after another
  each_code : Each Agrees 1 13
  each_code = (
    record { fields = λ basics. refl; kind = refl; there = back (exists S s && exists_name S o); absent = refl; entitled = back (S.basic k Starred i o); set = refl; unmet = refl; alone = refl },
    (
      record { fields = λ basics. refl; kind = refl; there = back (exists S s && exists_name S o); absent = refl; entitled = back (S.basic k Starred i o); set = refl; unmet = refl; alone = refl },
      (
        record { fields = λ basics. refl; kind = refl; there = back (exists S s && exists_name S o); absent = refl; entitled = back (S.owns i o); set = refl; unmet = refl; alone = refl },
        (
          record { fields = λ basics. refl; kind = refl; there = back (exists S s && exists_name S o); absent = refl; entitled = back (S.owns i o); set = refl; unmet = refl; alone = refl },
          (
            record { fields = λ basics. refl; kind = refl; there = back (exists S s && exists_name S o); absent = refl; entitled = back (S.owns i o); set = refl; unmet = refl; alone = refl },
            (
              record { fields = λ basics. refl; kind = back (is_subject o); there = back (exists S s && exists_name S o); absent = refl; entitled = back (S.owns i o); set = refl; unmet = refl; alone = refl },
              (
                record { fields = λ basics. refl; kind = refl; there = back (exists S s && exists_name S o); absent = refl; entitled = back (S.owns i o); set = refl; unmet = refl; alone = refl },
                (
                  record { fields = λ basics. refl; kind = refl; there = back (exists S s && exists_name S o); absent = refl; entitled = back (S.owns i o || S.controls i (Subject s)); set = back (S.basic k Plain s o); unmet = refl; alone = refl },
                  (
                    record { fields = λ basics. refl; kind = refl; there = back (exists S s && exists_name S o); absent = refl; entitled = back (S.owns i o || S.controls i (Subject s)); set = back (S.basic k Starred s o); unmet = refl; alone = refl },
                    (
                      record { fields = λ basics. refl; kind = refl; there = refl; absent = refl; entitled = refl; set = refl; unmet = refl; alone = refl },
                      (
                        record { fields = λ basics. refl; kind = refl; there = back (exists_name S o); absent = refl; entitled = back (S.owns i o); set = refl; unmet = refl; alone = refl },
                        (
                          record { fields = λ basics. refl; kind = refl; there = refl; absent = refl; entitled = refl; set = refl; unmet = refl; alone = refl },
                          (
                            record { fields = λ basics. refl; kind = refl; there = back (exists S s); absent = refl; entitled = back (S.owns i (Subject s)); set = refl; unmet = refl; alone = refl },
                            tt,
                          ),
                        ),
                      ),
                    ),
                  ),
                ),
              ),
            ),
          ),
        ),
      ),
    ),
  )

  pub agrees : (code : ℕ) → known code ≡ true → Agrees code
  agrees code h =
      let low = leb-true 1 code (and_left (leb 1 code) (leb code 13) h) in
      let high = leb-true code 13 (and_right (leb 1 code) (leb code 13) h) in
      of_each Agrees 1 13 each_code code low (omega arith)
