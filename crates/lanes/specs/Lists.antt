-- Lists that a loop fills from the front, and what a filled list holds.
use Rattle.std.specs.Prelude.{ℕ, ◌+◌, ◌-◌, ◌≤◌, ◌<◌, ◌≡◌, refl, List, ltb, length, get_or, set}
use Rattle.std.proofs.Common.{arith, not-suc-le-zero, sym, ◌∙◌, ap, subst, ⊎_elim, length-set, get_or-set_same, get_or-set_other, ltb-true, ltb-false}
use Rattle.laws.specs.Tests.{way}
use Rattle.laws.specs.Bounded.{below_suc}

-- a list of a known length that holds g below m
pub record Holds (room m : ℕ) (g : ℕ → ℕ) (l : List ℕ) : Type 0 where
  pub size : length l ≡ room
  pub value : (j : ℕ) → j < m → get_or l j 0 ≡ g j

-- below m the list `new` holds g, from m on it is still `old`
pub record Stored (m : ℕ) (g : ℕ → ℕ) (old new : List ℕ) : Type 0 where
  pub size : length new ≡ length old
  pub below : (j : ℕ) → j < m → get_or new j 0 ≡ g j
  pub above : (j : ℕ) → m ≤ j → get_or new j 0 ≡ get_or old j 0

-- nothing is stored yet
pub stored_none : (g : ℕ → ℕ) (old : List ℕ) → Stored 0 g old old
stored_none g old = record { size = refl; below = λ j h. absurd (not-suc-le-zero h); above = λ j h. refl }

-- where the places from lo on hold g below m, one more does when the value at m is written
pub set_more : (lo m : ℕ) (g : ℕ → ℕ) (l : List ℕ) (v : ℕ) → ((j : ℕ) → lo ≤ j → j < m → get_or l j 0 ≡ g j) → m < length l → v ≡ g m
    → (j : ℕ) → lo ≤ j → j < m + 1 → get_or (set l m v) j 0 ≡ g j
set_more lo m g l v s h e j f b = ⊎_elim earlier here (below_suc j m (omega arith))
  where
    earlier : j < m → get_or (set l m v) j 0 ≡ g j
    earlier q = get_or-set_other l m j v 0 (omega arith) ∙ s j f q

    here : j ≡ m → get_or (set l m v) j 0 ≡ g j
    here q = subst (λ (i : ℕ). get_or (set l m v) i 0 ≡ g i) (sym q) (get_or-set_same l m v 0 h ∙ e)

-- one more is stored
pub stored_step : (m : ℕ) (g : ℕ → ℕ) (old new : List ℕ) (v : ℕ) → Stored m g old new → m < length new → v ≡ g m → Stored (m + 1) g old (set new m v)
stored_step m g old new v s h e =
    record {
      size = length-set new m v ∙ s.size;
      below = λ j l. set_more 0 m g new v (λ i f. s.below i) h e j (omega arith) l;
      above = λ j l. get_or-set_other new m j v 0 (omega arith) ∙ s.above j (omega arith);
    }

-- the loop's end: what is stored below j is stored below m, where j has come to m
pub stored_done : (j m : ℕ) (g : ℕ → ℕ) (old new : List ℕ) → j ≤ m → m ≤ j → Stored j g old new → Stored m g old new
stored_done j m g old new h l s = subst (λ (i : ℕ). Stored i g old new) (omega arith) s

-- from place `at` on, the list `new` holds w values of g; before that place it is still `old`
pub record Filled (at w : ℕ) (g : ℕ → ℕ) (old new : List ℕ) : Type 0 where
  pub size : length new ≡ length old
  pub inside : (c : ℕ) → at ≤ c → c < at + w → get_or new c 0 ≡ g c
  pub before : (c : ℕ) → c < at → get_or new c 0 ≡ get_or old c 0

-- nothing is filled yet, one place more is, and the loop's end
pub filled_none : (at : ℕ) (g : ℕ → ℕ) (old : List ℕ) → Filled at 0 g old old
filled_none at g old = record { size = refl; inside = λ c f b. absurd (omega arith); before = λ c b. refl }

pub filled_step : (at w : ℕ) (g : ℕ → ℕ) (old new : List ℕ) (v : ℕ) → Filled at w g old new → at + w < length new → v ≡ g (at + w)
    → Filled at (w + 1) g old (set new (at + w) v)
filled_step at w g old new v s h e =
    record {
      size = length-set new (at + w) v ∙ s.size;
      inside = λ c f b. set_more at (at + w) g new v s.inside h e c f (omega arith);
      before = λ c b. get_or-set_other new (at + w) c v 0 (omega arith) ∙ s.before c b;
    }

pub filled_done : (j w at : ℕ) (g : ℕ → ℕ) (old new : List ℕ) → j ≤ w → w ≤ j → Filled at j g old new → Filled at w g old new
filled_done j w at g old new h l s = subst (λ (i : ℕ). Filled at i g old new) (omega arith) s

-- values that are the same at those places
pub filled_same : (at w : ℕ) (f g : ℕ → ℕ) (old new : List ℕ) → ((c : ℕ) → at ≤ c → c < at + w → f c ≡ g c) → Filled at w f old new → Filled at w g old new
filled_same at w f g old new e s = record { size = s.size; inside = λ c l b. s.inside c l b ∙ e c l b; before = s.before }

-- values of a function whose first one stands at place `at`
pub filled_from : (at w : ℕ) (f g : ℕ → ℕ) (old new : List ℕ) → ((j : ℕ) → j < w → f j ≡ g (at + j)) → Filled at w (λ x. f (x - at)) old new → Filled at w g old new
filled_from at w f g old new e =
    filled_same at w (λ x. f (x - at)) g old new (λ x l b. e (x - at) (omega arith) ∙ ap g (omega arith))

-- some places are filled, and then those after them
pub filled_both : (at w u : ℕ) (g : ℕ → ℕ) (old mid new : List ℕ) → Filled at w g old mid → Filled (at + w) u g mid new → Filled at (w + u) g old new
filled_both at w u g old mid new s t =
    record {
      size = t.size ∙ s.size;
      inside = λ x l b.
          ⊎_elim (λ e. let q : x < at + w = ltb-true x (at + w) e in t.before x q ∙ s.inside x l q)
          (λ e. t.inside x (ltb-false x (at + w) e) (omega arith)) (way (ltb x (at + w)));
      before = λ x b. t.before x (omega arith) ∙ s.before x b;
    }

-- w places from `start` on that lie below k and bring those that are reached from below c to below c + w
pub record Part (w k c start : ℕ) : Type 0 where
  pub within : start + w ≤ k
  pub near : start ≤ c
  pub far : (x : ℕ) → x < c + w → x < k → x < start + w

-- a part that begins where the one before it ends
pub part_next : (w k c start : ℕ) → c + w ≤ k → start ≡ c → Part w k c start
part_next w k c start h e = record { within = omega arith; near = omega arith; far = λ x l b. omega arith }

-- of the places from `from` on below k, those below c hold g
pub record Reached (room from c k : ℕ) (g : ℕ → ℕ) (l : List ℕ) : Type 0 where
  pub size : length l ≡ room
  pub value : (x : ℕ) → from ≤ x → x < c → x < k → get_or l x 0 ≡ g x

-- none is reached yet, and one part more
pub reached_none : (room from k : ℕ) (g : ℕ → ℕ) (l : List ℕ) → length l ≡ room → Reached room from from k g l
reached_none room from k g l z = record { size = z; value = λ x a h b. absurd (omega arith) }

pub reached_part : (room from c k start w : ℕ) (g : ℕ → ℕ) (old new : List ℕ) → Reached room from c k g old → Part w k c start → Filled start w g old new
    → Reached room from (c + w) k g new
reached_part room from c k start w g old new s p f =
    record {
      size = f.size ∙ s.size;
      value = λ x a h b.
          ⊎_elim (λ e. let q : x < start = ltb-true x start e in f.before x q ∙ s.value x a (omega (arith, p.near)) b)
          (λ e. f.inside x (ltb-false x start e) (p.far x h b)) (way (ltb x start));
    }
