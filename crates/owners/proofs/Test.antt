-- The test of a record's matrix is the five conditions: it holds exactly where the state is valid.
use Rattle.std.specs.Prelude.{ℕ, ◌+◌, ◌-◌, ◌≤◌, ◌<◌, ◌≡◌, refl, ◌≢◌, true, false, not, ◌&&◌, ◌||◌, eqb, ltb, leb}
use Rattle.std.proofs.Common.{arith, sym, ◌∙◌, ap, subst, ⊎_elim, eqb-true, eq-eqb, ne_eqb, leb-true, le-leb}
use Rattle.std.proofs.lemmas.Bool.{eqb-false, not-true}
use Rattle.matrix.specs.declared.Name.{Name}
use Rattle.matrix.specs.declared.Name.TheVariants.{Subject, Plain}
use Rattle.matrix.specs.declared.Right.{Right}
use Rattle.matrix.specs.declared.Right.TheVariants.{Own, Control}
use Rattle.matrix.specs.declared.Shape.{Shape}
use Rattle.matrix.specs.Bounded.{any, all, count}
use Rattle.matrix.specs.Names.{U, name_of, column_of, named}
use Rattle.matrix.specs.Rights.{code_of, right_of}
use Rattle.matrix.specs.State.{State, has, exists, exists_name}
use Rattle.matrix.specs.Owners.{Above}
use Rattle.matrix.specs.Valid.{Valid}
use Rattle.matrix.specs.Shape.{bits_of, columns}
use Rattle.matrix.specs.Shaped.{Within}
use Rattle.matrix.specs.Record.{empty_cell, absent_zero, plain_uncontrolled, root_right, one_owner_each, climb, all_rooted, valid_matrix}
use Rattle.codec.specs.Codes.{right_of_code_of}
use Rattle.codec.specs.Columns.{name_of_column_of, named_below}
use Rattle.laws.specs.Tests.{way, clash, fails, fails_not, and_left, and_right, and_both, or_cases, or_left, or_right, or_other}
use Rattle.laws.specs.Bounded.{any_hit, any_found, all_each, each_all}
use Rattle.laws.specs.Counting.{count_some, some_count, count_one, one_count}
use Rattle.owners.specs.Framed.{Framed, valid_framed, framed_valid}
use Rattle.owners.specs.Climb.{climb_in, climb_add}
use Rattle.owners.proofs.Climb.{climb_root, climb_ends}
use Rattle.owners.proofs.Rooted.{rooted_no_cycle, climb_rooted}
use Rattle.owners.specs.Test.{bit_set, cell_right, cells_each, counts_right, each_cells, links_right, other_controller, owner, plain_right, root_column, root_controller, subject_right}

-- What each of the tests says.
module _ (f : Shape) (S : State) (W : Within f S) where
  nonempty : (y : Right) (w : ℕ) (x : Name) → has S y w x ≡ true → empty_cell f S w x ≡ false
  nonempty y w x h =
      let b : bit_set S w x (code_of y) ≡ true = subst (λ (z : Right). has S z w x ≡ true) (sym (right_of_code_of y)) h in
      let a : any (bits_of f) (bit_set S w x) ≡ true = any_hit (bits_of f) (bit_set S w x) (code_of y) (W.right y w x h) b in
      rw a refl

  -- a set bit's row and column exist
  cell_names : absent_zero f S ≡ true → (y : Right) (w : ℕ) (x : Name) → has S y w x ≡ true → (exists S w && exists_name S x) ≡ true
  cell_names t y w x h =
      let m : named f.n f.p x ≡ true = W.column y w x h in
      let e : cell_right f S w (column_of x) ≡ true =
      cells_each f.n (columns f) (cell_right f S) t w (column_of x) (W.row y w x h) (named_below f.n f.p x m) in
      let g : (empty_cell f S w x || exists S w && exists_name S x) ≡ true =
      subst (λ (z : Name). (empty_cell f S w z || exists S w && exists_name S z) ≡ true) (name_of_column_of f.n f.p x m) e in
      or_other g (nonempty y w x h)

  uncontrolled : plain_uncontrolled f S ≡ true → (w o : ℕ) → S.controls w (Plain o) ≡ false
  uncontrolled t w o = fails (S.controls w (Plain o)) (λ h. clash h (not-true (S.controls w (Plain o)) (beyond h)))
    where
      beyond : S.controls w (Plain o) ≡ true → not (S.controls w (Plain o)) ≡ true
      beyond h =
          let m : named f.n f.p (Plain o) ≡ true = W.column Control w (Plain o) h in
          let a : ltb o f.n ≡ false = not-true (ltb o f.n) (and_left (not (ltb o f.n)) (ltb o (columns f)) m) in
          let l : o < columns f = named_below f.n f.p (Plain o) m in
          or_other (cells_each f.n (columns f) (plain_right f S) t w o (W.row Control w (Plain o) h) l) a

  root_unowned : all f.n (root_column S) ≡ true → (w : ℕ) → S.owns w (Subject U) ≡ false
  root_unowned t w = fails (S.owns w (Subject U)) (λ h. clash h (not-true (S.owns w (Subject U)) (column h)))
    where
      column : S.owns w (Subject U) ≡ true → not (S.owns w (Subject U)) ≡ true
      column h =
          and_left (not (S.owns w (Subject U))) (root_controller S w) (all_each f.n (root_column S) t w (W.row Own w (Subject U) h))

  root_alone : all f.n (root_column S) ≡ true → (w : ℕ) → S.controls w (Subject U) ≡ true → w ≡ U
  root_alone t w h =
      let e : root_column S w ≡ true = all_each f.n (root_column S) t w (W.row Control w (Subject U) h) in
      ⊎_elim (λ u. eqb-true w U u) (λ u. absurd (clash h (not-true (S.controls w (Subject U)) u)))
      (or_cases (eqb w U) (not (S.controls w (Subject U))) (and_right (not (S.owns w (Subject U))) (root_controller S w) e))

  subject_counts : one_owner_each f S ≡ true → (s : ℕ) → s ≢ U → exists S s ≡ true → counts_right f S s ≡ true
  subject_counts t s n e =
      let a : subject_right f S s ≡ true = all_each f.n (subject_right f S) t s (W.row Control s (Subject s) e) in
      let b : (eqb s U || not (exists S s)) ≡ false = rw (ne_eqb s U n, e) refl in
      or_other a b

  owner_count : one_owner_each f S ≡ true → (s : ℕ) → s ≢ U → exists S s ≡ true → count f.n (owner S s) ≡ 1
  owner_count t s n e =
      eqb-true (count f.n (owner S s)) 1
      (and_left (eqb (count f.n (owner S s)) 1) (leb (count f.n (other_controller S s)) 1) (subject_counts t s n e))

  controller_count : one_owner_each f S ≡ true → (s : ℕ) → s ≢ U → exists S s ≡ true → count f.n (other_controller S s) ≤ 1
  controller_count t s n e =
      leb-true (count f.n (other_controller S s)) 1
      (and_right (eqb (count f.n (owner S s)) 1) (leb (count f.n (other_controller S s)) 1) (subject_counts t s n e))

  -- the tests of the first four conditions give all but the last
  framed_of_test : absent_zero f S ≡ true → plain_uncontrolled f S ≡ true → root_right f S ≡ true → one_owner_each f S ≡ true → Framed S
  framed_of_test zeros plains roots owners =
      record {
        row = row;
        column = column;
        plain = uncontrolled plains;
        root = and_left (exists S U) (all f.n (root_column S)) roots;
        root_owner = unowned;
        root_controller = alone;
        owned = owned;
        one_owner = one_owner;
        one_controller = one_controller;
        bound = λ s e. rw W.top (W.row Control s (Subject s) e);
      }
    where
      row : (y : Right) (w : ℕ) (x : Name) → has S y w x ≡ true → exists S w ≡ true
      row y w x h = and_left (exists S w) (exists_name S x) (cell_names zeros y w x h)

      column : (y : Right) (w : ℕ) (x : Name) → has S y w x ≡ true → exists_name S x ≡ true
      column y w x h = and_right (exists S w) (exists_name S x) (cell_names zeros y w x h)

      unowned : (w : ℕ) → S.owns w (Subject U) ≡ false
      unowned = root_unowned (and_right (exists S U) (all f.n (root_column S)) roots)

      alone : (w : ℕ) → S.controls w (Subject U) ≡ true → w ≡ U
      alone = root_alone (and_right (exists S U) (all f.n (root_column S)) roots)

      owned : (s : ℕ) → s ≢ U → exists S s ≡ true → (w : ℕ) × (S.owns w (Subject s) ≡ true)
      owned s n e =
          let c : count f.n (owner S s) ≡ 1 = owner_count owners s n e in
          let w = any_found f.n (owner S s) (count_some f.n (owner S s) (omega arith)) in
          (w.0, w.2)

      one_owner : (s w v : ℕ) → S.owns w (Subject s) ≡ true → S.owns v (Subject s) ≡ true → w ≡ v
      one_owner s w v a b =
          ⊎_elim (λ u. absurd (clash (subst (λ (r : ℕ). S.owns w (Subject r) ≡ true) (eqb-true s U u) a) (unowned w)))
          (λ u. let c : count f.n (owner S s) ≡ 1 = owner_count owners s (eqb-false s U u) (column Own w (Subject s) a) in
          count_one f.n (owner S s) w v (omega arith) (W.row Own w (Subject s) a) (W.row Own v (Subject s) b) a b)
          (way (eqb s U))

      other : (s w : ℕ) → S.controls w (Subject s) ≡ true → w ≢ s → other_controller S s w ≡ true
      other s w a n = and_both a (fails_not (ne_eqb w s n))

      one_controller : (s w v : ℕ) → S.controls w (Subject s) ≡ true → w ≢ s → S.controls v (Subject s) ≡ true → v ≢ s → w ≡ v
      one_controller s w v a nw b nv =
          ⊎_elim
          (λ u. let r : s ≡ U = eqb-true s U u in
          absurd (nw (alone w (subst (λ (x : ℕ). S.controls w (Subject x) ≡ true) r a) ∙ sym r)))
          (λ u. count_one f.n (other_controller S s) w v
          (controller_count owners s (eqb-false s U u) (column Control w (Subject s) a))
          (W.row Control w (Subject s) a) (W.row Control v (Subject s) b) (other s w a nw) (other s v b nv))
          (way (eqb s U))

  -- and the test of the last gives that
  rooted_of_test : Framed S → all_rooted f S ≡ true → (s : ℕ) → Above S.owns (Subject s) s → ⊥
  rooted_of_test F t = rooted_no_cycle F (λ s e. climb_rooted F f.n s e (climbs s e))
    where
      climbs : (s : ℕ) → exists S s ≡ true → climb_in S f.n s ≡ U
      climbs s e =
          let a : links_right f S s ≡ true = all_each f.n (links_right f S) t s (W.row Control s (Subject s) e) in
          let n : not (exists S s) ≡ false = rw e refl in
          let u : climb f.n S.owns f.n s ≡ U = eqb-true (climb f.n S.owns f.n s) U (or_other a n) in
          subst (λ (k : ℕ). climb k S.owns f.n s ≡ U) (sym W.top) u

-- The test of each condition holds in a valid state.
module _ (f : Shape) (S : State) (W : Within f S) (h : Valid S) where
  test_zeros : absent_zero f S ≡ true
  test_zeros = each_cells f.n (columns f) (cell_right f S) (λ w c a b. cell w (name_of f.n c))
    where
      set : (w : ℕ) (x : Name) → any (bits_of f) (bit_set S w x) ≡ true → (exists S w && exists_name S x) ≡ true
      set w x a =
          let j = any_found (bits_of f) (bit_set S w x) a in
          and_both (h.row (right_of j.0) w x j.2) (h.column (right_of j.0) w x j.2)

      cell : (w : ℕ) (x : Name) → (empty_cell f S w x || exists S w && exists_name S x) ≡ true
      cell w x =
          ⊎_elim (λ a. or_right (empty_cell f S w x) (set w x a)) (λ a. or_left (exists S w && exists_name S x) (fails_not a))
          (way (any (bits_of f) (bit_set S w x)))

  test_plains : plain_uncontrolled f S ≡ true
  test_plains = each_cells f.n (columns f) (plain_right f S) (λ w c a b. or_right (ltb c f.n) (fails_not (h.plain w c)))

  test_root : root_right f S ≡ true
  test_root = and_both h.root (each_all f.n (root_column S) (λ w a. and_both (fails_not (h.root_owner w)) (controller w)))
    where
      controller : (w : ℕ) → root_controller S w ≡ true
      controller w =
          ⊎_elim (λ c. or_left (not (S.controls w (Subject U))) (eq-eqb w U (h.root_controller w c))) (λ c. or_right (eqb w U) (fails_not c))
          (way (S.controls w (Subject U)))

  test_owners : one_owner_each f S ≡ true
  test_owners = each_all f.n (subject_right f S) (λ s l. subject s)
    where
      controls_it : (s w : ℕ) → other_controller S s w ≡ true → S.controls w (Subject s) ≡ true
      controls_it s w e = and_left (S.controls w (Subject s)) (not (eqb w s)) e

      other : (s w : ℕ) → other_controller S s w ≡ true → w ≢ s
      other s w e = eqb-false w s (not-true (eqb w s) (and_right (S.controls w (Subject s)) (not (eqb w s)) e))

      counts : (s : ℕ) → s ≢ U → exists S s ≡ true → counts_right f S s ≡ true
      counts s n e =
          let w = h.owned s n e in
          let some : any f.n (owner S s) ≡ true = any_hit f.n (owner S s) w.0 (W.row Own w.0 (Subject s) w.1) w.1 in
          let a : 1 ≤ count f.n (owner S s) = some_count f.n (owner S s) some in
          let b : count f.n (owner S s) ≤ 1 = one_count f.n (owner S s) (λ i j l m p q. h.one_owner s i j p q) in
          let c : count f.n (other_controller S s) ≤ 1 =
          one_count f.n (other_controller S s)
          (λ i j l m p q. h.one_controller s i j (controls_it s i p) (other s i p) (controls_it s j q) (other s j q)) in
          and_both (eq-eqb (count f.n (owner S s)) 1 (omega arith)) (le-leb (count f.n (other_controller S s)) 1 c)

      subject : (s : ℕ) → subject_right f S s ≡ true
      subject s =
          ⊎_elim (λ u. or_left (counts_right f S s) (or_left (not (exists S s)) u))
          (λ u. ⊎_elim (λ e. or_right (eqb s U || not (exists S s)) (counts s (eqb-false s U u) e))
          (λ e. or_left (counts_right f S s) (or_right (eqb s U) (fails_not e)))
          (way (exists S s)))
          (way (eqb s U))

  test_rooted : all_rooted f S ≡ true
  test_rooted = each_all f.n (links_right f S) (λ s l. subject s)
    where
      -- U is come to in fewer links than `top`, and the other links stay there
      climbs : (s : ℕ) → exists S s ≡ true → climb_in S S.top s ≡ U
      climbs s e =
          let c = climb_ends (valid_framed h) h.no_cycle s e in
          let l : c.0 < S.top = c.1 in
          let d : S.top ≡ S.top - c.0 + c.0 = omega arith in
          ap (λ (k : ℕ). climb_in S k s) d ∙ climb_add S c.0 (S.top - c.0) s ∙
          ap (λ (v : ℕ). climb_in S (S.top - c.0) v) c.2 ∙ climb_root (valid_framed h) (S.top - c.0)

      ends : (s : ℕ) → exists S s ≡ true → climb f.n S.owns f.n s ≡ U
      ends s e = subst (λ (k : ℕ). climb k S.owns k s ≡ U) W.top (climbs s e)

      subject : (s : ℕ) → links_right f S s ≡ true
      subject s =
          ⊎_elim (λ e. or_right (not (exists S s)) (eq-eqb (climb f.n S.owns f.n s) U (ends s e)))
          (λ e. or_left (eqb (climb f.n S.owns f.n s) U) (fails_not e)) (way (exists S s))

-- The test holds: the state is valid.
pub valid_of_test : (f : Shape) (S : State) → Within f S → valid_matrix f S ≡ true → Valid S
unfolding valid_matrix
valid_of_test f S W t =
    let zeros = absent_zero f S in
    let plains = plain_uncontrolled f S in
    let roots = root_right f S in
    let owners = one_owner_each f S in
    let t₄ = and_left (zeros && plains && roots && owners) (all_rooted f S) t in
    let t₃ = and_left (zeros && plains && roots) owners t₄ in
    let t₂ = and_left (zeros && plains) roots t₃ in
    let F =
    framed_of_test f S W (and_left zeros plains t₂) (and_right zeros plains t₂) (and_right (zeros && plains) roots t₃)
    (and_right (zeros && plains && roots) owners t₄) in
    framed_valid F (rooted_of_test f S W F (and_right (zeros && plains && roots && owners) (all_rooted f S) t))

-- The state is valid: the test holds.
pub test_of_valid : (f : Shape) (S : State) → Within f S → Valid S → valid_matrix f S ≡ true
unfolding valid_matrix
test_of_valid f S W h =
    and_both (and_both (and_both (and_both (test_zeros f S W h) (test_plains f S W h)) (test_root f S W h)) (test_owners f S W h))
    (test_rooted f S W h)
