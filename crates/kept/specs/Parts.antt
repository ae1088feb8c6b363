-- Valid taken apart: the set bits (all in rows and columns of existing names), the controllers and the owners. Each part
-- has a lemma that serves most commands.
use Rattle.std.specs.Prelude.{ℕ, ◌<◌, ◌≡◌, ◌≢◌, ◌⊎◌, true, false, eqb}
use Rattle.std.proofs.Common.{sym, ◌∙◌, ap, subst, inl, inr, ⊎_elim, eqb-true}
use Rattle.std.proofs.lemmas.Bool.{eqb-false}
use Rattle.matrix.specs.declared.Name.{Name}
use Rattle.matrix.specs.declared.Name.TheVariants.{Subject, Plain}
use Rattle.matrix.specs.declared.Right.{Right}
use Rattle.matrix.specs.Names.{U, column_of}
use Rattle.matrix.specs.State.{State, has, exists, exists_name, put_matrix}
use Rattle.matrix.specs.Owners.{Above, owner, higher}
use Rattle.matrix.specs.Valid.{Valid}
use Rattle.laws.specs.Tests.{way, clash, fails}
use Rattle.owners.specs.Rooted.{above_trans}
use Rattle.owners.specs.Framed.{valid_framed, owned_not_root}
use Rattle.kept.specs.Cells.{Matrix, put_found, put_keeps}

-- the four cases of two alternatives
pub four_cases : {A B C D E : Type 0} → (A → C → E) → (A → D → E) → (B → C → E) → (B → D → E) → A ⊎ B → C ⊎ D → E
four_cases f g k l (inl a) (inl c) = f a c
four_cases f g k l (inl a) (inr d) = g a d
four_cases f g k l (inr b) (inl c) = k b c
four_cases f g k l (inr b) (inr d) = l b d

-- a row and a column of existing names
abbrev pub Lives : State → ℕ → Name → Type 0
Lives S w x = (exists S w ≡ true) × (exists_name S x ≡ true)

abbrev pub AllLive : State → Type 0
AllLive S = (y : Right) (w : ℕ) (x : Name) → has S y w x ≡ true → Lives S w x

pub record Controllers (controls : Matrix) : Type 0 where
  pub plain : (w o : ℕ) → controls w (Plain o) ≡ false
  pub root : controls U (Subject U) ≡ true
  pub root_controller : (w : ℕ) → controls w (Subject U) ≡ true → w ≡ U
  pub one_controller : (s w v : ℕ) → controls w (Subject s) ≡ true → w ≢ s → controls v (Subject s) ≡ true → v ≢ s → w ≡ v

pub record Tree (owns : Matrix) : Type 0 where
  pub root_owner : (w : ℕ) → owns w (Subject U) ≡ false
  pub one_owner : (s w v : ℕ) → owns w (Subject s) ≡ true → owns v (Subject s) ≡ true → w ≡ v
  pub no_cycle : (s : ℕ) → Above owns (Subject s) s → ⊥

pub record Parts (S : State) : Type 0 where
  pub live : AllLive S
  pub controllers : Controllers S.controls
  pub tree : Tree S.owns
  pub owned : (s : ℕ) → s ≢ U → exists S s ≡ true → (w : ℕ) × (S.owns w (Subject s) ≡ true)
  pub bound : (s : ℕ) → exists S s ≡ true → s < S.top

pub join : (S : State) → Parts S → Valid S
join S p =
    record {
      row = λ y w x h. (p.live y w x h).0;
      column = λ y w x h. (p.live y w x h).1;
      plain = p.controllers.plain;
      root = p.controllers.root;
      root_owner = p.tree.root_owner;
      root_controller = p.controllers.root_controller;
      owned = p.owned;
      one_owner = p.tree.one_owner;
      one_controller = p.controllers.one_controller;
      no_cycle = p.tree.no_cycle;
      bound = p.bound;
    }

pub controllers_of : (S : State) → Valid S → Controllers S.controls
controllers_of S v = record { plain = v.plain; root = v.root; root_controller = v.root_controller; one_controller = v.one_controller }

pub tree_of : (S : State) → Valid S → Tree S.owns
tree_of S v = record { root_owner = v.root_owner; one_owner = v.one_owner; no_cycle = v.no_cycle }

-- whoever has an owner is not U
pub not_root : (S : State) → Valid S → (w c : ℕ) → S.owns w (Subject c) ≡ true → c ≢ U
not_root S h w c own e = owned_not_root (valid_framed h) w (Subject c) own (ap (λ (n : ℕ). Subject n) e)

-- The set bits where no name vanishes: each bit is an old one or lies in a row and column of names that exist now.
pub grown : (S S' : State) → Valid S → ((w : ℕ) → exists S w ≡ true → exists S' w ≡ true)
    → ((x : Name) → exists_name S x ≡ true → exists_name S' x ≡ true)
    → ((y : Right) (w : ℕ) (x : Name) → has S' y w x ≡ true → (has S y w x ≡ true) ⊎ Lives S' w x) → AllLive S'
grown S S' v rows names bits y w x h = ⊎_elim (λ b. (rows w (v.row y w x b), names x (v.column y w x b))) (λ p. p) (bits y w x h)

pub lives_at : (S : State) (r : ℕ) (c : Name) → exists S r ≡ true → exists_name S c ≡ true → (w : ℕ) (x : Name)
    → (w ≡ r) × (x ≡ c) → Lives S w x
lives_at S r c er ec w x p =
    (subst (λ (n : ℕ). exists S n ≡ true) (sym p.0) er, subst (λ (n : Name). exists_name S n ≡ true) (sym p.1) ec)

-- Controllers where bits are only cleared, and not that of U over itself.
pub controllers_fewer : (m m' : Matrix) → Controllers m → ((w : ℕ) (x : Name) → m' w x ≡ true → m w x ≡ true)
    → m' U (Subject U) ≡ true → Controllers m'
controllers_fewer m m' c fewer u =
    record {
      plain = λ w o. fails (m' w (Plain o)) (λ h. clash (fewer w (Plain o) h) (c.plain w o));
      root = u;
      root_controller = λ w h. c.root_controller w (fewer w (Subject U) h);
      one_controller = λ s w v h a g b. c.one_controller s w v (fewer w (Subject s) h) a (fewer v (Subject s) g) b;
    }

-- Controllers where r gains control over subject o: over U only U itself, and over another only one that no other controls.
pub controllers_put : (m : Matrix) (r o : ℕ) → Controllers m → (o ≡ U → r ≡ U)
    → (r ≢ o → (w : ℕ) → m w (Subject o) ≡ true → w ≢ o → ⊥) → Controllers (put_matrix r (Subject o) true m)
controllers_put m r o c top alone =
    record {
      plain = c.plain;
      root = put_keeps r (Subject o) m U (Subject U) c.root;
      root_controller = λ w h. ⊎_elim (λ b. c.root_controller w b) (λ p. p.0 ∙ top (sym (ap column_of p.1)))
          (put_found r (Subject o) true m w (Subject U) h);
      one_controller = λ s w v h a g b. four_cases (λ k l. c.one_controller s w v k a l b) (λ k q. absurd (other s w v k a b q))
          (λ p l. absurd (other s v w l b a p)) (λ p q. p.0 ∙ sym q.0)
          (put_found r (Subject o) true m w (Subject s) h) (put_found r (Subject o) true m v (Subject s) g);
    }
  where
    other : (s w v : ℕ) → m w (Subject s) ≡ true → w ≢ s → v ≢ s → (v ≡ r) × (Subject s ≡ Subject o) → ⊥
    other s w v h a b p =
        let e : s ≡ o = ap column_of p.1 in
        alone (λ q. b (p.0 ∙ q ∙ sym e)) w (subst (λ (n : ℕ). m w (Subject n) ≡ true) e h) (λ q. a (q ∙ sym e))

-- Chains of owners.
pub above_map : (m m' : Matrix) → ((w c : ℕ) → m' w (Subject c) ≡ true → m w (Subject c) ≡ true) → (a v : ℕ)
    → Above m' (Subject a) v → Above m (Subject a) v
above_map m m' f a v (owner h) = owner (f v a h)
above_map m m' f a v (higher {w = w} h up) = higher (f w a h) (above_map m m' f w v up)

-- whoever is above a name owns some name
pub above_owns : (m : Matrix) (x : Name) (v : ℕ) → Above m x v → (y : Name) × (m v y ≡ true)
above_owns m x v (owner h) = (x, h)
above_owns m x v (higher {w = w} h up) = above_owns m (Subject w) v up

-- The owners of subjects where bits over subjects are only cleared.
pub tree_fewer : (m m' : Matrix) → Tree m → ((w c : ℕ) → m' w (Subject c) ≡ true → m w (Subject c) ≡ true) → Tree m'
tree_fewer m m' t fewer =
    record {
      root_owner = λ w. fails (m' w (Subject U)) (λ h. clash (fewer w U h) (t.root_owner w));
      one_owner = λ s w v h g. t.one_owner s w v (fewer w s h) (fewer v s g);
      no_cycle = λ s up. t.no_cycle s (above_map m m' fewer s s up);
    }

-- a itself, or a subject above it
abbrev pub Up : Matrix → ℕ → ℕ → Type 0
Up m a v = (a ≡ v) ⊎ Above m (Subject a) v

pub up_link : (m : Matrix) (a w v : ℕ) → m w (Subject a) ≡ true → Up m w v → Above m (Subject a) v
up_link m a w v h u = ⊎_elim (λ e. owner (subst (λ (n : ℕ). m n (Subject a) ≡ true) e h)) (λ up. higher h up) u

pub up_trans : (m : Matrix) (a b v : ℕ) → Up m a b → Up m b v → Up m a v
up_trans m a b v p q =
    ⊎_elim (λ e. subst (λ (n : ℕ). Up m n v) (sym e) q)
    (λ up. ⊎_elim (λ e. inr (subst (λ (n : ℕ). Above m (Subject a) n) e up)) (λ more. inr (above_trans up more)) q) p

-- Subject o has s as its only owner now, and every other subject the owners that it had.
pub record Reowned (m m' : Matrix) (s o : ℕ) : Type 0 where
  pub links : (w c : ℕ) → m' w (Subject c) ≡ true → ((m w (Subject c) ≡ true) × (c ≢ o)) ⊎ ((w ≡ s) × (c ≡ o))
  pub stays : (w c : ℕ) → c ≢ o → m w (Subject c) ≡ true → m' w (Subject c) ≡ true
  pub gained : m' s (Subject o) ≡ true

pub reowned_owned : (m m' : Matrix) (s o : ℕ) → Reowned m m' s o → (c : ℕ) → (c ≢ o → (w : ℕ) × (m w (Subject c) ≡ true))
    → (w : ℕ) × (m' w (Subject c) ≡ true)
reowned_owned m m' s o r c old =
    ⊎_elim (λ e. (s, subst (λ (n : ℕ). m' s (Subject n) ≡ true) (sym (eqb-true c o e)) r.gained))
    (λ e. let w = old (eqb-false c o e) in (w.0, r.stays w.0 c (eqb-false c o e) w.1)) (way (eqb c o))

-- A chain of owners is then an old one, or goes up to o in old links and on from s in old links.
pub cut : (m m' : Matrix) (s o : ℕ) → Reowned m m' s o → (a v : ℕ) → Above m' (Subject a) v → Above m (Subject a) v ⊎ (Up m a o × Up m s v)
cut m m' s o r a v (owner h) = ⊎_elim (λ p. inl (owner p.0)) (λ q. inr (inl q.1, inl (sym q.0))) (r.links v a h)
cut m m' s o r a v (higher {w = w} h up) = ⊎_elim (λ p. after p.0 (cut m m' s o r w v up))
    (λ q. from q.0 q.1 (cut m m' s o r w v up)) (r.links w a h)
  where
    after : m w (Subject a) ≡ true → Above m (Subject w) v ⊎ (Up m w o × Up m s v) → Above m (Subject a) v ⊎ (Up m a o × Up m s v)
    after l = ⊎_elim (λ old. inl (higher l old)) (λ p. inr (inr (up_link m a w o l p.0), p.1))

    from : w ≡ s → a ≡ o → Above m (Subject w) v ⊎ (Up m w o × Up m s v) → Above m (Subject a) v ⊎ (Up m a o × Up m s v)
    from e q = ⊎_elim (λ old. inr (inl q, inr (subst (λ (n : ℕ). Above m (Subject n) v) e old))) (λ p. inr (inl q, p.1))

-- The owners of subjects where o, not U, gets another owner s that is not o and has not o above it.
pub tree_reowned : (m m' : Matrix) (s o : ℕ) → Tree m → Reowned m m' s o → o ≢ U → (Up m s o → ⊥) → Tree m'
tree_reowned m m' s o t r o≢U below =
    record {
      root_owner = λ w. fails (m' w (Subject U)) (λ h. ⊎_elim (λ p. clash p.0 (t.root_owner w)) (λ q. o≢U (sym q.1))
          (r.links w U h));
      one_owner = λ c w v h g. four_cases (λ p q. t.one_owner c w v p.0 q.0) (λ p q. absurd (p.1 q.1))
          (λ p q. absurd (q.1 p.1)) (λ p q. p.0 ∙ sym q.0) (r.links w c h) (r.links v c g);
      no_cycle = λ c up. ⊎_elim (λ old. t.no_cycle c old) (λ p. below (up_trans m s c o p.1 p.0)) (cut m m' s o r c c up);
    }

-- A chain of owners where i, an owner of c, stands in for c: there is an old one with the same ends.
pub above_heir : (m m' : Matrix) (i c : ℕ) → m i (Subject c) ≡ true
    → ((w d : ℕ) → m' w (Subject d) ≡ true → (m w (Subject d) ≡ true) ⊎ ((w ≡ i) × (m c (Subject d) ≡ true))) → (a v : ℕ)
    → Above m' (Subject a) v → Above m (Subject a) v
above_heir m m' i c own links a v (owner h) =
    ⊎_elim (λ old. owner old) (λ p. subst (λ (n : ℕ). Above m (Subject a) n) (sym p.0) (higher p.1 (owner own))) (links v a h)
above_heir m m' i c own links a v (higher {w = w} h up) =
    let rest = above_heir m m' i c own links w v up in
    ⊎_elim (λ old. higher old rest) (λ p. higher p.1 (higher own (subst (λ (n : ℕ). Above m (Subject n) v) p.0 rest))) (links w a h)
