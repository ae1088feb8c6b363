-- Plain columns are merged and tested part by part: what is wrong with a part, and with all parts so far.
use Rattle.std.specs.Prelude.{ℕ, zero, suc, ◌+◌, ◌-◌, ◌*◌, ◌/◌, ◌%◌, ◌≤◌, ◌<◌, ◌≡◌, ◌⊎◌, Bool, true, false, cond, ◌&&◌, List, eqb, ltb, get_or}
use Rattle.std.proofs.Common.{arith, sym, ◌∙◌, ap, ap₂, subst, inl, ⊎_elim, eqb-true, eq-eqb, ltb-true, ltb-false}
use Rattle.std.proofs.Math.Path.{refl}
use Rattle.std.specs.Int.Bits.{bit_or}
use Rattle.matrix.specs.Bounded.{all}
use Rattle.laws.specs.Tests.{way, same_test, and_left, and_right, and_both}
use Rattle.laws.specs.Bounded.{all_each, each_all}
use Rattle.lanes.specs.declared.Matrix.{Matrix}
use Rattle.lanes.specs.Lists.{Part}
use Rattle.lanes.specs.Lanes.{merged, seen_at, Seen}
use Rattle.lanes.specs.Zeros.{or_zero, merged_none, merged_more, merged_zero}
use Rattle.columns.specs.Cells.{OneOrTwo, most_columns, lanes_of, last_lane, either_way, last_inside, lanes_added, last_added, bits_moved}
use Rattle.plains.specs.Checks.{plain_test, plain_wrong, wrong_of, plain_right}

-- the numbers of lanes that are merged at once
abbrev pub at_once : ℕ
at_once = 8

abbrev pub some : ℕ
some = 32

abbrev pub many : ℕ
many = 48

abbrev pub most : ℕ
most = 96

abbrev pub SomeLanes : ℕ → Type 0
SomeLanes lanes = (lanes ≡ at_once) ⊎ (lanes ≡ some) ⊎ (lanes ≡ many) ⊎ (lanes ≡ most)

-- what holds of each number of lanes holds of one of them
pub by_lanes : {lanes : ℕ} (T : ℕ → Type 0) → SomeLanes lanes → T at_once → T some → T many → T most → T lanes
by_lanes T l x y z w =
    ⊎_elim (λ e. subst T (sym e) x) (⊎_elim (λ e. subst T (sym e) y) (⊎_elim (λ e. subst T (sym e) z) (λ e. subst T (sym e) w))) l

-- so many lanes are whole cells, and some
pub whole_cells : {q lanes : ℕ} → OneOrTwo q → SomeLanes lanes → (lanes_of q (lanes / q) ≡ lanes) × (1 ≤ lanes / q)
unfolding lanes_of
whole_cells {lanes = lanes} h l =
    let e : (lanes % 2 ≡ 0) × (2 ≤ lanes) = by_lanes (λ k. (k % 2 ≡ 0) × (2 ≤ k)) l (refl, omega arith) (refl, omega arith) (refl, omega arith) (refl, omega arith) in
    either_way h (λ u. (u * (lanes / u) ≡ lanes) × (1 ≤ lanes / u)) (omega arith, omega (arith, e.1)) (omega (arith, e.0), omega (arith, e.1))

pub lanes_few : {lanes : ℕ} → SomeLanes lanes → lanes ≤ most_columns
lanes_few l = by_lanes (λ k. k ≤ most_columns) l (omega arith) (omega arith) (omega arith) (omega arith)

-- lanes of all columns, q each: those of so many subjects and of so many plain names, and no others
pub record Columned (q subjects plain : ℕ) (m : Matrix) : Type 0 where
  pub few : subjects + plain ≤ most_columns
  pub width : m.lanes ≡ lanes_of q (subjects + plain)

-- A part of a row: the columns from column a on, as many as have so many lanes, of which the first `from` are left out.
pub record PartIn (m : Matrix) (q lanes a from : ℕ) : Type 0 where
  pub first : a < most_columns
  pub few : lanes ≤ most_columns
  pub inside : lanes_of q a + lanes ≤ m.lanes
  pub left : from ≤ lanes / q

pub lanes_single : (k : ℕ) → lanes_of 1 k ≡ k
unfolding lanes_of
lanes_single k = omega arith

module _ {q : ℕ} (h : OneOrTwo q) where
  -- the cells of a number of lanes take no more lanes; of fewer lanes there are fewer cells
  pub cells_back : (lanes : ℕ) → lanes_of q (lanes / q) ≤ lanes
  unfolding lanes_of
  cells_back lanes = either_way h (λ u. u * (lanes / u) ≤ lanes) (omega arith) (omega arith)

  pub cells_fewer : (i k : ℕ) → lanes_of q i ≤ lanes_of q k → i ≤ k
  unfolding lanes_of
  cells_fewer i k = either_way h (λ u. u * i ≤ u * k → i ≤ k) (λ l. omega arith) (λ l. omega arith)

  -- so many cells, of their lanes
  pub cells_of : (k : ℕ) → lanes_of q k / q ≡ k
  unfolding lanes_of
  cells_of k = either_way h (λ u. u * k / u ≡ k) (omega arith) (omega arith)

  pub lanes_none : lanes_of q 0 ≡ 0
  unfolding lanes_of
  lanes_none = either_way h (λ u. u * 0 ≡ 0) refl refl

  pub cells_few : (lanes : ℕ) → lanes / q ≤ lanes
  cells_few lanes = either_way h (λ u. lanes / u ≤ lanes) (omega arith) (omega arith)

merged_same : (n : ℕ) (f g : ℕ → ℕ) → ((i : ℕ) → i < n → f i ≡ g i) → merged n f ≡ merged n g
unfolding merged
merged_same zero f g h = refl
merged_same (suc n) f g h = ap₂ (λ (x y : ℕ). bit_or x y) (merged_same n f g (λ i l. h i (omega arith))) (h n (omega arith))

-- no column yet, and one more
pub wrong_none : (wrong : ℕ → ℕ) (from : ℕ) → 0 ≡ wrong_of wrong from from
wrong_none wrong from = let e : from - from ≡ 0 = omega arith in rw e (merged_none _)

pub wrong_more : (wrong : ℕ → ℕ) (from c v : ℕ) → from ≤ c → v ≡ wrong_of wrong from c → bit_or v (wrong c) ≡ wrong_of wrong from (c + 1)
wrong_more wrong from c v l e =
    let d : from + (c - from) ≡ c = omega arith in
    let n : c - from + 1 ≡ c + 1 - from = omega arith in
    ap (λ (i : ℕ). bit_or v (wrong i)) (sym d) ∙ merged_more (c - from) (λ i. wrong (from + i)) v e ∙ ap (λ (i : ℕ). merged i (λ i. wrong (from + i))) n

-- what is wrong with the cells of a list that has what is seen in the lanes from column a on
pub part_wrong : {q : ℕ} → OneOrTwo q → (b : List ℕ) (m : Matrix) (seen : List ℕ) (a from k lanes room : ℕ) → Seen b m (lanes_of q a) lanes room seen → lanes_of q k ≤ lanes
    → wrong_of (plain_wrong q (λ j. get_or seen j 0)) from k ≡ wrong_of (λ i. plain_wrong q (seen_at b m) (a + i)) from k
unfolding plain_wrong
part_wrong {q} h b m seen a from k lanes room s l = merged_same (k - from) _ _ (λ i below. each (from + i) (omega arith))
  where
    same : (j : ℕ) → j < lanes_of q k → get_or seen j 0 ≡ seen_at b m (lanes_of q a + j)
    same j below = s.value j (omega arith)

    each : (i : ℕ) → i < k → plain_wrong q (λ j. get_or seen j 0) i ≡ plain_wrong q (seen_at b m) (a + i)
    each i below =
        ap₂ (λ (x y : ℕ). cond (eqb (x / 256 % 4) 1) 0 y) (same (last_lane q i) (last_inside h i k below) ∙ ap (seen_at b m) (last_added h a i))
        (bits_moved h (λ j. get_or seen j 0) (seen_at b m) a i k below same)

-- `wrong` is 0 just where every column from `from` on below c, of those below k, passes the test t
pub record Tested (t : ℕ → Bool) (from k c wrong : ℕ) : Type 0 where
  pub forth : wrong ≡ 0 → (x : ℕ) → from ≤ x → x < c → x < k → t x ≡ true
  pub back : ((x : ℕ) → from ≤ x → x < c → x < k → t x ≡ true) → wrong ≡ 0

-- none yet, and all
pub tested_none : (t : ℕ → Bool) (from k : ℕ) → Tested t from k from 0
tested_none t from k = record { forth = λ e x a b. absurd (omega arith); back = λ f. refl }

pub tested_all : (t : ℕ → Bool) (n p k c wrong : ℕ) → k ≡ n + p → k ≤ c → Tested t n k c wrong → eqb wrong 0 ≡ all p (λ i. t (n + i))
tested_all t n p k c wrong e l s =
    same_test _ _ (λ z. each_all p _ (λ i b. s.forth (eqb-true wrong 0 z) (n + i) (omega arith) (omega arith) (omega arith)))
    (λ z. eq-eqb wrong 0 (s.back (λ x a b d. let q : n + (x - n) ≡ x = omega arith in subst (λ (y : ℕ). t y ≡ true) q (all_each p (λ i. t (n + i)) z (x - n) (omega arith)))))

-- one part more: w columns from column a on without the first `skip`, of which those from c on are new
pub tested_part : (q : ℕ) (seen : ℕ → ℕ) (from k c w a skip wrong : ℕ) → Tested (plain_test q seen) from k c wrong → Part w k c a → from ≤ a + skip → a + skip ≤ c
    → Tested (plain_test q seen) from k (c + w) (bit_or wrong (wrong_of (λ i. plain_wrong q seen (a + i)) skip w))
tested_part q seen from k c w a skip wrong s p low near =
    record {
      forth = λ z x l b d. ⊎_elim (λ (e : ltb x c ≡ true). s.forth (none z).0 x l (ltb-true x c e) d) (λ (e : ltb x c ≡ false). new (none z).1 x (ltb-false x c e) (p.far x b d)) (way (ltb x c));
      back = λ f. join (s.back (λ x l b d. f x l (omega arith) d)) (each_all (w - skip) _ (λ i b. plain_right q seen (a + (skip + i)) ∙ f (a + (skip + i)) (omega arith) (omega (arith, p.near)) (omega (arith, p.within))));
    }
  where
    part : ℕ
    part = wrong_of (λ i. plain_wrong q seen (a + i)) skip w

    tests : ℕ → Bool
    tests i = eqb (plain_wrong q seen (a + (skip + i))) 0

    part_none : eqb part 0 ≡ all (w - skip) tests
    part_none = merged_zero (w - skip) (λ i. plain_wrong q seen (a + (skip + i)))

    none : bit_or wrong part ≡ 0 → (wrong ≡ 0) × (all (w - skip) tests ≡ true)
    none z =
        let t : (eqb wrong 0 && eqb part 0) ≡ true = sym (or_zero wrong part) ∙ eq-eqb (bit_or wrong part) 0 z in
        (eqb-true wrong 0 (and_left _ _ t), sym part_none ∙ and_right (eqb wrong 0) _ t)

    join : wrong ≡ 0 → all (w - skip) tests ≡ true → bit_or wrong part ≡ 0
    join z t = eqb-true (bit_or wrong part) 0 (or_zero wrong part ∙ and_both (eq-eqb wrong 0 z) (part_none ∙ t))

    -- a column that the part is the first to test
    new : all (w - skip) tests ≡ true → (x : ℕ) → c ≤ x → x < a + w → plain_test q seen x ≡ true
    new t x l b =
        let e : a + (skip + (x - a - skip)) ≡ x = omega arith in
        sym (plain_right q seen x)
        ∙ subst (λ (y : ℕ). eqb (plain_wrong q seen y) 0 ≡ true) e (all_each (w - skip) tests t (x - a - skip) (omega arith))

-- one part that is all there is to test
pub tested_once : (q : ℕ) (seen : ℕ → ℕ) (n p a w skip : ℕ) → n ≡ a + skip → n + p ≡ a + w → eqb (wrong_of (λ i. plain_wrong q seen (a + i)) skip w) 0 ≡ all p (λ i. plain_test q seen (n + i))
tested_once q seen n p a w skip e d =
    tested_all (plain_test q seen) n p (n + p) (n + w) _ refl (omega arith)
    (tested_part q seen n (n + p) n w a skip 0 (tested_none _ _ _) (record { within = omega arith; near = omega arith; far = λ x l b. omega arith }) (omega arith) (omega arith))

-- One part that ends with the row: s columns, which are as many lanes as are merged at once. A row has as many, and no more are plain.
module _ {q : ℕ} (h : OneOrTwo q) (n plain : ℕ) (m : Matrix) (columned : Columned q n plain m) (enough : at_once ≤ m.lanes) (few : lanes_of q plain ≤ at_once)
    (s : ℕ) (e : s ≡ at_once / q) where
  whole : (lanes_of q s ≡ at_once) × (1 ≤ s)
  whole = subst (λ (k : ℕ). (lanes_of q k ≡ at_once) × (1 ≤ k)) (sym e) (whole_cells h (inl refl))

  pub once_fits : s ≤ n + plain
  once_fits = cells_fewer h s (n + plain) (omega (arith, whole.0, enough, columned.width))

  once_enough : plain ≤ s
  once_enough = cells_fewer h plain s (omega (arith, whole.0, few))

  pub once_before : n + plain - s ≤ n
  once_before = omega (arith, once_enough)

  pub once_in : PartIn m q at_once (n + plain - s) (n - (n + plain - s))
  once_in =
      let fits : s ≤ n + plain = once_fits in
      let back : n + plain - s + s ≡ n + plain = omega arith in
      record {
        first = omega (arith, whole.1, columned.few);
        few = omega arith;
        inside = omega (arith, lanes_added h (n + plain - s) s, ap (lanes_of q) back, whole.0, columned.width);
        left = omega (arith, e, once_enough);
      }

  pub once_tested : (seen : ℕ → ℕ) → eqb (wrong_of (λ i. plain_wrong q seen (n + plain - s + i)) (n - (n + plain - s)) (at_once / q)) 0
      ≡ all plain (λ i. plain_test q seen (n + i))
  once_tested seen =
      tested_once q seen n plain (n + plain - s) (at_once / q) (n - (n + plain - s)) (omega (arith, once_enough, once_fits)) (omega (arith, e, once_fits))
