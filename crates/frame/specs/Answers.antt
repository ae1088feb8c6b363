-- Facts that tie the numbers of answers to the rules.
use Rattle.std.specs.Prelude.{ℕ, ◌≡◌, refl, ◌≢◌, Bool, true, false, cond, ◌||◌, eqb}
use Rattle.std.proofs.Common.{arith, ne_eqb}
use Rattle.matrix.specs.declared.Rule.{Rule}
use Rattle.matrix.specs.Names.{is_subject}
use Rattle.matrix.specs.State.{State}
use Rattle.matrix.specs.Commands.{Raw, rule_of, rules, decode}
use Rattle.matrix.specs.Step.{refusal, links, walk_links}
use Rattle.laws.specs.Rules.{Every, every_rule}

-- Links are answered with accepted code 3 over a subject and with refusal 13 alone (Manual 5.5), not with other refusals ..
pub links_only : (basics : ℕ) (names : Bool) (S : State) (c : Raw) → refusal basics names S c ≢ 0 → refusal basics names S c ≢ 13 → links basics names S c ≡ 0
unfolding links
links_only basics names S c h g = rw (ne_eqb (refusal basics names S c) 0 h, ne_eqb (refusal basics names S c) 13 g) refl

-- .. nor where a rule walks nowhere
silent : (basics : ℕ) (names : Bool) (S : State) (c : Raw) → walk_links S (decode c) (rule_of c.code c.k).act ≡ 0 → links basics names S c ≡ 0
unfolding links
silent basics names S c none = either (eqb (refusal basics names S c) 0 || eqb (refusal basics names S c) 13)
  where
    either : (t : Bool) → cond t (walk_links S (decode c) (rule_of c.code c.k).act) 0 ≡ 0
    either true = none
    either false = refl

-- .. which is so of all other codes
pub links_only_three : (basics : ℕ) (names : Bool) (S : State) (c : Raw) → c.code ≢ 3 → links basics names S c ≡ 0
links_only_three basics names S c h = silent basics names S c (every_rule none c.code c.k each (λ j e. refl) (omega arith))
  where
    none : ℕ → Rule → Type 0
    none j r = j ≢ 2 → walk_links S (decode c) r.act ≡ 0

    each : Every none (rules c.k)
    each = omega arith

-- .. and of every code over a plain object
pub links_only_subjects : (basics : ℕ) (names : Bool) (S : State) (c : Raw) → is_subject c.o ≡ false → links basics names S c ≡ 0
links_only_subjects basics names S c h = silent basics names S c (every_rule none c.code c.k each (λ j. refl))
  where
    none : ℕ → Rule → Type 0
    none j r = walk_links S (decode c) r.act ≡ 0

    each : Every none (rules c.k)
    each = (refl, (refl, (rw h refl, (refl, (refl, (refl, (refl, (refl, (refl, (refl, (refl, (refl, (refl, tt)))))))))))))
