-- The steps of the owner walk.
use Rattle.std.specs.Prelude.{ℕ, suc, ◌+◌, ◌-◌, ◌≤◌, ◌<◌, ◌≡◌, Some, None, Bool}
use Rattle.std.proofs.Common.{arith, sym, ◌∙◌, ap, lt-ltb, le-ltb, eq-eqb, ne_eqb}
use Rattle.std.proofs.Math.Path.{refl}
use Rattle.matrix.specs.declared.Name.{Name}
use Rattle.matrix.specs.declared.Name.TheVariants.{Subject}
use Rattle.matrix.specs.declared.Walked.{Walked}
use Rattle.matrix.specs.declared.Walked.TheVariants.{Meets, Root, Lost}
use Rattle.matrix.specs.Owners.{walk_from, owner_of}
use Rattle.laws.specs.Walks.{walk_met, walk_root as root_met, walk_up as goes_up, walk_lost}
use Rattle.row_search.specs.SomeBelow.{some_below, some_was, none_was}

module _ (top : ℕ) (owns : ℕ → Name → Bool) (s o links n : ℕ) where
  -- the walk has come to s by so many links, of the n subjects that it may visit
  abbrev walked : Walked
  walked = walk_from top owns (n - links) s (Subject o) links

  pub walk_out : n ≤ links → walked ≡ Lost
  unfolding walk_from
  walk_out l = let e : n - links ≡ 0 = omega arith in rw e refl

  module _ (l : links < n) where
    one_more : walked ≡ walk_from top owns (suc (n - (links + 1))) s (Subject o) links
    one_more = let e : n - links ≡ suc (n - (links + 1)) = omega arith in ap (λ (left : ℕ). walk_from top owns left s (Subject o) links) e

    pub walk_meets : s ≡ o → walked ≡ Meets links
    walk_meets e = one_more ∙ walk_met top owns (n - (links + 1)) s (Subject o) links (eq-eqb s o e)

    module _ (other : s ≡ o → ⊥) where
      pub walk_root : s ≡ 0 → walked ≡ Root links
      walk_root r = one_more ∙ root_met top owns (n - (links + 1)) s (Subject o) links (ne_eqb s o other) (eq-eqb s 0 r)

      -- by what the search for the owner of s found
      module _ (below : s ≡ 0 → ⊥) (bound : top ≡ n) where
        pub walk_unowned : None ≡ some_below n (owner_of top owns s) → walked ≡ Lost
        walk_unowned found =
            one_more
            ∙ walk_lost top owns (n - (links + 1)) s (Subject o) links (ne_eqb s o other) (ne_eqb s 0 below)
            (le-ltb (owner_of top owns s) top (omega (arith, none_was found)))

        pub walk_up : {r : ℕ} → Some r ≡ some_below n (owner_of top owns s) → walked ≡ walk_from top owns (n - (links + 1)) r (Subject o) (links + 1)
        walk_up found =
            let w = some_was found in
            one_more
            ∙ goes_up top owns (n - (links + 1)) s (Subject o) links (ne_eqb s o other) (ne_eqb s 0 below)
            (lt-ltb (owner_of top owns s) top (omega (arith, w.0, w.1)))
            ∙ ap (λ (w : ℕ). walk_from top owns (n - (links + 1)) w (Subject o) (links + 1)) (sym w.1)
