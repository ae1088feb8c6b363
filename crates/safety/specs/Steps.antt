-- The way of a question, test by test, and what is told of it.
use Rattle.std.specs.Prelude.{ℕ, ◌+◌, ◌≤◌, ◌<◌, ◌≡◌, Bool, List, length}
use Rattle.std.proofs.Common.{zero-add, ◌∙◌, ap, ap₂, subst}
use Rattle.std.proofs.Math.Path.{refl, sym}
use Rattle.std.proofs.Math.Bool.{true, false}
use Rattle.std.proofs.Math.Dec.{ltb}
use borrow.Author.Tests.{lt-ltb, le-ltb}
use Rattle.matrix.specs.declared.Name.{Name}
use Rattle.matrix.specs.declared.Right.{Right}
use Rattle.matrix.specs.declared.Fields.{Fields}
use Rattle.matrix.specs.declared.Shape.{Shape}
use Rattle.matrix.specs.Bounded.{least}
use Rattle.matrix.specs.State.{State, held, exists_name}
use Rattle.question.specs.Safety.{Safety}
use Rattle.question.specs.Safety.{Leaks}
use Rattle.safe.specs.Possible.{possible}
use Rattle.ways.specs.Ways.{Way, held_now, by_star, by_creation, from_above, no_way, star_holder, untrusted_in, risen_over, way_up, way_over, way_made, way_of}
use Rattle.writing.specs.Put.{put_all, put_head, put_list}
use Rattle.route.specs.Rise.{Risen, meets_at, none}
use Rattle.rising.specs.Rising.{Within}
use Rattle.climbing.specs.Over.{over_within}
use Rattle.telling.specs.declared.target.Target.{Target}
use Rattle.told.specs.Told.{Told}
use Rattle.safety.specs.Asks.{Asks, Headed}

-- the same question with another name for its way
pub asks_at : {b : List ℕ} {f : Shape} {t : Target} {v w : Way} {out : List ℕ} → v ≡ w → Asks b f t v out → Asks b f t w out
asks_at {b} {f} {t} {out = out} e h = subst (λ (w : Way). Asks b f t w out) e h

pub told_at : {S : State} {s : ℕ} {x : Name} {y : Right} {v w : Way} {out out' : List ℕ} {r : Safety} → v ≡ w → Told S s x y w out out' r → Told S s x y v out out' r
told_at {S} {s} {x} {y} {out = out} {out' = out'} {r = r} e h = subst (λ (w : Way). Told S s x y w out out' r) (sym e) h

-- there is no way: the buffer is unchanged
pub told_none : (S : State) (s : ℕ) (x : Name) (y : Right) (out : List ℕ) → Told S s x y no_way out out Safety.Safe
told_none S s x y out = record { reply = refl; buffer = refl }

module _ (S : State) (trusted : ℕ → Bool) (s : ℕ) (x : Name) (y : Right) where
  pub way_held : held S y s x ≡ true → way_of S trusted s x y ≡ held_now
  unfolding way_of
  way_held f = rw f refl

  module _ (unheld : held S y s x ≡ false) where
    pub way_impossible : {u : Bool} → u ≡ possible s x y → u ≡ false → way_of S trusted s x y ≡ no_way
    unfolding way_of
    way_impossible e h = let g : possible s x y ≡ false = sym e ∙ h in rw (unheld, g) refl

    module _ {u : Bool} {n i : ℕ} (reachable : u ≡ possible s x y) (yes' : u ≡ true) (top : S.top ≡ n) (star : i ≡ least n (star_holder S trusted x y)) where
      found : i ≡ least S.top (star_holder S trusted x y)
      found = star ∙ ap (λ (m : ℕ). least m (star_holder S trusted x y)) (sym top)

      pub way_star : i < n → way_of S trusted s x y ≡ by_star i
      unfolding way_of
      way_star l =
          let g : possible s x y ≡ true = sym reachable ∙ yes' in
          let h : ltb (least S.top (star_holder S trusted x y)) S.top ≡ true = sym (ap₂ (λ (a b : ℕ). ltb a b) found (sym top)) ∙ lt-ltb i n l in
          rw (unheld, g, h) (ap by_star (sym found))

      pub way_over_lem : {v : Bool} → n ≤ i → v ≡ exists_name S x → v ≡ true → way_of S trusted s x y ≡ way_over S trusted x
      unfolding way_of
      way_over_lem l e h =
          let g : possible s x y ≡ true = sym reachable ∙ yes' in
          let k : ltb (least S.top (star_holder S trusted x y)) S.top ≡ false = sym (ap₂ (λ (a b : ℕ). ltb a b) found (sym top)) ∙ le-ltb i n l in
          let q : exists_name S x ≡ true = sym e ∙ h in
          rw (unheld, g, k, q) refl

      pub way_made_lem : {v : Bool} → n ≤ i → v ≡ exists_name S x → v ≡ false → way_of S trusted s x y ≡ way_made S trusted
      unfolding way_of
      way_made_lem l e h =
          let g : possible s x y ≡ true = sym reachable ∙ yes' in
          let k : ltb (least S.top (star_holder S trusted x y)) S.top ≡ false = sym (ap₂ (λ (a b : ℕ). ltb a b) found (sym top)) ∙ le-ltb i n l in
          let q : exists_name S x ≡ false = sym e ∙ h in
          rw (unheld, g, k, q) refl

-- the way over an absent name, from the search for an untrusted subject
module _ (S : State) (trusted : ℕ → Bool) {n v : ℕ} (top : S.top ≡ n) (found : v ≡ least n (untrusted_in S trusted)) where
  same : v ≡ least S.top (untrusted_in S trusted)
  same = found ∙ ap (λ (m : ℕ). least m (untrusted_in S trusted)) (sym top)

  pub made_by : v < n → way_made S trusted ≡ by_creation v
  unfolding way_made
  made_by l =
      let h : ltb (least S.top (untrusted_in S trusted)) S.top ≡ true = sym (ap₂ (λ (a b : ℕ). ltb a b) same (sym top)) ∙ lt-ltb v n l in
      rw h (ap by_creation (sym same))

  pub made_none : n ≤ v → way_made S trusted ≡ no_way
  unfolding way_made
  made_none l =
      let h : ltb (least S.top (untrusted_in S trusted)) S.top ≡ false = sym (ap₂ (λ (a b : ℕ). ltb a b) same (sym top)) ∙ le-ltb v n l in
      rw h refl

-- a list cs that is written whole, and then headed
pub headed_list : (out : List ℕ) {mid out' : List ℕ} (cs : List Fields) {k : ℕ} {r : Safety} → mid ≡ put_all out 0 cs → k ≡ 0 + length cs → Headed mid out' k r → (out' ≡ put_list out cs) × (r ≡ Leaks (length cs))
unfolding put_list
headed_list out cs e f h =
    let k = f ∙ zero-add (length cs) in
    (h.buffer ∙ ap₂ (λ (l : List ℕ) (m : ℕ). put_head l m) e k, h.reply ∙ ap Leaks k)

-- who is met on the way over an existing name is a subject of the record
pub above_below : (S : State) (trusted : ℕ → Bool) (x : Name) {v n : ℕ} {ws : List ℕ} → S.top ≡ n → way_over S trusted x ≡ from_above v ws → v < n
above_below S trusted x {v} {n} {ws} top e = subst (λ (k : ℕ). v < k) top (by (risen_over S trusted x) (over_within S trusted x) e)
  where
    by : (risen : Risen) → Within S.top risen → way_up S x risen ≡ from_above v ws → v < S.top
    by (meets_at u us) k q = let i : u ≡ v = cc in subst (λ (j : ℕ). j < S.top) i k.0
    by none k q = absurd cc
